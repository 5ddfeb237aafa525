-- Each move keeps every group's count the number of slots that name it; and an UNUSED slot means an empty group.
use Rattle.std.specs.Prelude.{ℕ, ◌+◌, ◌-◌, ◌≤◌, ◌<◌, ◌≡◌, ◌≢◌, Bool, true, cond, List, [], ◌∷◌, set, eqb, leb, Option, Some, None}
use native.Mathlib.Omega.{arith}
use Rattle.std.proofs.Math.Path.{refl, ap, subst}
use Rattle.std.proofs.Common.{sym, ◌∙◌, length-set, get_or-set_same, get_or-set_other}
use Rattle.std.proofs.Math.Bool.{false}
use Rattle.std.proofs.Math.ListN.{length, get_or-eq_default}
use borrow.Author.Tests.{eqb-true, eqb-false, eq-eqb, ne_eqb, leb-true, leb-false}
use Rattle.promises.specs.Types.{UNUSED, Process, Kin, Group}
use Rattle.rules.specs.Sizes.{slot_count, group_count, size_top}
use Rattle.rules.specs.Model.{Core, Books, Table, at, group_at, no_group, free, taken, is, same_group}
use Rattle.rules.specs.Moves.{change, lowest, set_group, empty_group, or_zero, new_group, open_group, join_group, less, leave_group, resize, set_init, spend, to_free, reap}
use Rattle.rules.specs.Calls.{fill, spent}
use Rattle.promises.specs.Laws.Counts.{ind, tally, tally-set, tally-same, tally-lt, tally-one}
use Rattle.promises.specs.Laws.Sums.{sum_to, sum-zero, sum-add, sum_same, sum-least, sum-once}
use Rattle.promises.specs.Laws.Scans.{lowest-passes, lowest-range, lowest-none}
use Rattle.promises.specs.Order.Sound.{is_in, names, Counted}
use Rattle.promises.specs.Order.States.{used-range}
use Rattle.promises.specs.Order.Chains.{Birth, of_init, of_system, of_child, of_thread}
use Rattle.promises.specs.Order.Alike.{Alikes, View, stirs, spends, fills, frees, resizes}

free-alone : free.kin.group ≡ None
unfolding free
free-alone = refl

-- ---- an UNUSED slot means an empty group
-- each slot names one group at the most
one-group : (n : ℕ) (m : Option ℕ) → sum_to (λ g. ind (same_group (Some g) m)) n ≤ ind (is_in m)
one-group n None = omega (arith, sum-zero n)
one-group n (Some h) = sum-once h n

all-groups : (n : ℕ) (l : List Process) → sum_to (λ g. tally (names g) l) n ≤ tally (λ p. is_in p.kin.group) l
unfolding tally
all-groups n [] = omega (arith, sum-zero n)
all-groups n (x ∷ l) = omega (arith, sum-add (λ g. ind (names g x)) (λ g. tally (names g) l) n, one-group n x.kin.group, all-groups n l)

pub record Empty (b : Books) : Type 0 where
  pub found : lowest empty_group b.groups ≡ Some (new_group b)
  pub range : new_group b < length b.groups
  pub empty : (group_at b (new_group b)).count ≡ 0

module _ (c : Core) (b : Books) (s : ℕ) (w : Counted c b) (tall : length c.slots ≡ slot_count) (r : s < length c.slots) (alone : (at c s).kin.group ≡ None) where
  some-empty : lowest empty_group b.groups ≡ None → ⊥
  unfolding group_count
  some-empty e = omega (
    arith,
    w.tall,
    tall,
    tally-lt (λ p. is_in p.kin.group) c.slots free s r (ap is_in alone),
    all-groups slot_count c.slots,
    sum_same (λ g. (group_at b g).count) (λ g. tally (names g) c.slots) slot_count w.count,
    sum-least (λ g. (group_at b g).count) slot_count (λ i l. positive i (lowest-none empty_group b.groups no_group e i (omega (arith, w.tall)))),
  )
    where
      positive : (i : ℕ) → empty_group (group_at b i) ≡ false → 1 ≤ (group_at b i).count
      positive i f = let z : (group_at b i).count ≢ 0 = eqb-false (group_at b i).count 0 f in omega arith

  pub group-had : Empty b
  unfolding new_group
  group-had = go (lowest empty_group b.groups) refl
    where
      go : (o : Option ℕ) → lowest empty_group b.groups ≡ o → Empty b
      go None e = absurd (some-empty e)
      go (Some i) e =
          let z : new_group b ≡ i = ap or_zero e in
          record {
            found = e ∙ ap Some (sym z);
            range = subst (λ (n : ℕ). n < length b.groups) (sym z) (lowest-range empty_group b.groups no_group i e);
            empty = subst (λ (n : ℕ). (group_at b n).count ≡ 0) (sym z) (eqb-true (group_at b i).count 0 (lowest-passes empty_group b.groups no_group i e));
          }

-- a group that a slot names is in range, and counts
module _ (c : Core) (b : Books) (w : Counted c b) (j g : ℕ) (r : j < length c.slots) (e : names g (at c j) ≡ true) where
  pub named-counts : 1 ≤ (group_at b g).count
  named-counts = omega (arith, w.count g, tally-one (names g) c.slots free j r e)

  pub named-range : g < length b.groups
  named-range = go (leb (length b.groups) g) refl
    where
      go : (t : Bool) → leb (length b.groups) g ≡ t → g < length b.groups
      go true t = absurd (omega (arith, named-counts, ap (λ (x : Group). x.count) (get_or-eq_default b.groups no_group (leb-true (length b.groups) g t))))
      go false t = leb-false (length b.groups) g t

-- ---- what keeps the counts
counted-alike : (c d : Core) (b : Books) → Alikes c.slots d.slots → Counted c b → Counted d b
counted-alike c d b k w = record {
  tall = w.tall;
  count = λ g. w.count g ∙ sym (tally-same (names g) d.slots c.slots free k.long (λ j. ap (same_group (Some g)) (k.all j).group));
  empty = w.empty;
  top = w.top;
}

-- group g is set to x, and only its count may have moved
module _ (c d : Core) (b : Books) (g : ℕ) (x : Group) (r : g < length b.groups) (e : x.count ≡ tally (names g) d.slots)
    (others : (h : ℕ) → h ≢ g → tally (names h) d.slots ≡ tally (names h) c.slots) (z : x.count ≡ 0 → x.size ≡ 0) (m : x.size ≤ size_top) (w : Counted c b) where
  put_same : group_at (set_group g x b) g ≡ x
  put_same = get_or-set_same b.groups g x no_group r

  counted-put : Counted d (set_group g x b)
  counted-put = record {
    tall = length-set b.groups g x ∙ w.tall;
    count = λ h. go h (eqb h g) refl;
    empty = λ h. zero h (eqb h g) refl;
    top = λ h. most h (eqb h g) refl;
  }
    where
      other : (h : ℕ) → eqb h g ≡ false → group_at (set_group g x b) h ≡ group_at b h
      other h t = get_or-set_other b.groups g h x no_group (eqb-false h g t)

      go : (h : ℕ) (t : Bool) → eqb h g ≡ t → (group_at (set_group g x b) h).count ≡ tally (names h) d.slots
      go h true t = rw (eqb-true h g t) (ap (λ (y : Group). y.count) put_same ∙ e)
      go h false t = ap (λ (y : Group). y.count) (other h t) ∙ w.count h ∙ sym (others h (eqb-false h g t))

      zero : (h : ℕ) (t : Bool) → eqb h g ≡ t → (group_at (set_group g x b) h).count ≡ 0 → (group_at (set_group g x b) h).size ≡ 0
      zero h true t = rw (eqb-true h g t, put_same) z
      zero h false t = rw (other h t) (w.empty h)

      most : (h : ℕ) (t : Bool) → eqb h g ≡ t → (group_at (set_group g x b) h).size ≤ size_top
      most h true t = rw (eqb-true h g t, put_same) m
      most h false t = rw (other h t) (w.top h)

-- slot s is replaced by y: how the counts move
module _ (c : Core) (s : ℕ) (y : Process) (r : s < length c.slots) (a b : Option ℕ) (old : (at c s).kin.group ≡ a) (new : y.kin.group ≡ b) where
  moved : (h : ℕ) → tally (names h) (set c.slots s y) + ind (same_group (Some h) a) ≡ tally (names h) c.slots + ind (same_group (Some h) b)
  moved h = omega (
    arith,
    tally-set (names h) c.slots s y free r,
    ap (λ (m : Option ℕ). ind (same_group (Some h) m)) old,
    ap (λ (m : Option ℕ). ind (same_group (Some h) m)) new,
  )

counted-alone : (c d : Core) (b : Books) (s : ℕ) (y : Process) → d.slots ≡ set c.slots s y → s < length c.slots → (at c s).kin.group ≡ None → y.kin.group ≡ None
    → Counted c b → Counted d b
counted-alone c d b s y q r old new w = record {
  tall = w.tall;
  count = λ h. rw q (omega (arith, w.count h, moved c s y r None None old new h));
  empty = w.empty;
  top = w.top;
}

-- a slot in no group comes to group g, whose count goes up by one
counted-in : (c : Core) (b : Books) (s : ℕ) (p : Process) (g : ℕ) (x : Group) → s < length c.slots → (at c s).kin.group ≡ None → p.kin.group ≡ Some g → g < length b.groups
    → x.count ≡ (group_at b g).count + 1 → x.size ≤ size_top → Counted c b → Counted (fill s p c) (set_group g x b)
unfolding fill change
counted-in c b s p g x r old new q e m w = counted-put c (fill s p c) b g x q
    (omega (arith, e, w.count g, moved c s p r None (Some g) old new g, ap ind (eq-eqb g g refl)))
    (λ h n. omega (arith, moved c s p r None (Some g) old new h, ap ind (ne_eqb h g n)))
    (λ z. absurd (omega (arith, e)))
    m w

less-count : (x : Group) → (less x).count ≡ x.count - 1
less-count x = go (leb x.count 1) refl
  where
    go : (t : Bool) → leb x.count 1 ≡ t → (cond {A = Group} t no_group (record { size = x.size; count = x.count - 1 })).count ≡ x.count - 1
    go true e = omega (arith, leb-true x.count 1 e)
    go false e = refl

less-empty : (x : Group) → (less x).count ≡ 0 → (less x).size ≡ 0
less-empty x = go (leb x.count 1) refl
  where
    go : (t : Bool) → leb x.count 1 ≡ t → (cond {A = Group} t no_group (record { size = x.size; count = x.count - 1 })).count ≡ 0
        → (cond {A = Group} t no_group (record { size = x.size; count = x.count - 1 })).size ≡ 0
    go true e z = refl
    go false e z = absurd (omega (arith, leb-false x.count 1 e))

less-top : (x : Group) → x.size ≤ size_top → (less x).size ≤ size_top
less-top x m = go (leb x.count 1)
  where
    go : (t : Bool) → (cond {A = Group} t no_group (record { size = x.size; count = x.count - 1 })).size ≤ size_top
    go true = omega arith
    go false = m

-- a slot is freed, and leaves its group
counted-free : (c : Core) (b : Books) (s : ℕ) → s < length c.slots → Counted c b → Counted (change to_free s c) (leave_group (at c s).kin.group b)
unfolding leave_group change
counted-free c b s r w = go (at c s).kin.group refl
  where
    go : (m : Option ℕ) → (at c s).kin.group ≡ m → Counted (change to_free s c) (leave_group m b)
    go None e = counted-alone c (change to_free s c) b s free refl r e free-alone w
    go (Some g) e =
        let name : names g (at c s) ≡ true = ap (same_group (Some g)) e ∙ eq-eqb g g refl in
        counted-put c (change to_free s c) b g (less (group_at b g)) (named-range c b w s g r name)
        (omega (arith, less-count (group_at b g), w.count g, moved c s free r (Some g) None e free-alone g, ap ind (eq-eqb g g refl)))
        (λ h n. omega (arith, moved c s free r (Some g) None e free-alone h, ap ind (ne_eqb h g n)))
        (less-empty (group_at b g)) (less-top (group_at b g) (w.top g)) w

-- ---- births
module _ (t : Table) (tall : length t.core.slots ≡ slot_count) (w : Counted t.core t.books) (s : ℕ) (r : s < length t.core.slots) (alone : (at t.core s).kin.group ≡ None) where
  open-counted : (p : Process) (size : ℕ) → size ≤ size_top → p.kin.group ≡ Some (new_group t.books) → Counted (fill s p t.core) (open_group size t.books)
  unfolding open_group
  open-counted p size m e =
      let h = group-had t.core t.books s w tall r alone in
      counted-in t.core t.books s p (new_group t.books) (record { size = size; count = 1 }) r alone e h.range (omega (arith, h.empty)) m w

  birth-counted : {k : Kin} {d : Books} → Birth t s k d → (p : Process) → p.kin ≡ k → Counted (fill s p t.core) d
  unfolding set_init join_group fill change
  birth-counted (of_init _ size m) p e = let o = open-counted p size m (ap (λ (k : Kin). k.group) e) in record { tall = o.tall; count = o.count; empty = o.empty; top = o.top }
  birth-counted of_system p e = counted-alone t.core (fill s p t.core) t.books s p refl r alone (ap (λ (k : Kin). k.group) e) w
  birth-counted (of_child _ _ _ size m) p e = open-counted p size m (ap (λ (k : Kin). k.group) e)
  birth-counted (of_thread _ g _ _ _ j q n) p e =
      counted-in t.core t.books s p g _ r alone (ap (λ (k : Kin). k.group) e) (named-range t.core t.books w j g q n) refl (w.top g) w

pub view-counted : {t u : Table} → length t.core.slots ≡ slot_count → ((s : ℕ) → is UNUSED (at t.core s) ≡ true → at t.core s ≡ free)
    → Counted t.core t.books → View t u → Counted u.core u.books
unfolding spent spend reap taken resize
view-counted {t} tall f w (stirs c k) = counted-alike t.core c t.books k w
view-counted {t} tall f w (spends r) = record { tall = w.tall; count = w.count; empty = w.empty; top = w.top }
view-counted {t} tall f w (fills s k b d x y) =
    birth-counted t tall w s x.range (ap (λ (p : Process). p.kin.group) (f s x.unused) ∙ free-alone) y (taken t.books.pids k b) refl
view-counted {t} tall f w (frees s c e u) = counted-free c t.books s (used-range c.slots s u) (rw e (record { tall = w.tall; count = λ g. w.count g; empty = w.empty; top = w.top }))
view-counted {t} tall f w (resizes g n j l r e) = counted-put t.core t.core t.books g (record { size = n; count = (group_at t.books g).count })
    (named-range t.core t.books w j g r e) (w.count g) (λ h _. refl) (λ z. absurd (omega (arith, named-counts t.core t.books w j g r e))) l w
