-- Each move keeps the pids of used slots distinct, at least 1 and at most the counter.
use Rattle.std.specs.Prelude.{ℕ, ◌≤◌, ◌<◌, ◌≡◌, refl, ◌⊎◌, false, get_or, set}
use Rattle.std.proofs.Common.{arith, sym, ap, ◌∙◌, subst, inl, inr}
use Rattle.promises.specs.Types.{Pid, UNUSED, Process}
use Rattle.rules.specs.Model.{Core, Table, at, free, taken, is}
use Rattle.rules.specs.Moves.{change, resize, spend, to_free, reap}
use Rattle.rules.specs.Calls.{fill, spent}
use Rattle.promises.specs.Order.Books.{leave-pids, birth-pids}
use Rattle.promises.specs.Laws.Bools.{clash}
use Rattle.promises.specs.Laws.Lists.{all_set, set_cases}
use Rattle.promises.specs.Order.Sound.{Numbered}
use Rattle.promises.specs.Order.States.{free-unused}
use Rattle.promises.specs.Order.Alike.{Alikes, View, stirs, spends, fills, frees, resizes}

numbered-alike : (c d : Core) (n : ℕ) → Alikes c.slots d.slots → Numbered c n → Numbered d n
numbered-alike c d n k w = record {
  low = λ s u. omega (arith, w.low s (sym (k.all s).used ∙ u), pids s);
  high = λ s. omega (arith, w.high s, pids s);
  once = λ i j u v e. w.once i j (sym (k.all i).used ∙ u) (sym (k.all j).used ∙ v) (sym (pids i) ∙ e ∙ pids j);
  top = w.top;
}
  where
    pids : (s : ℕ) → (at d s).meta.pid.0 ≡ (at c s).meta.pid.0
    pids s = ap (λ (p : Pid). p.0) (k.all s).pid

-- ---- a slot is freed
free-old : (s : ℕ) (c : Core) (i : ℕ) → is UNUSED (at (change to_free s c) i) ≡ false → at (change to_free s c) i ≡ at c i
unfolding change
free-old s c i u = go (set_cases c.slots s free free i)
  where
    go : ((i ≡ s) × (at (change to_free s c) i ≡ free)) ⊎ (at (change to_free s c) i ≡ at c i) → at (change to_free s c) i ≡ at c i
    go (inl e) = absurd (clash (ap (is UNUSED) e.1 ∙ free-unused) u)
    go (inr e) = e

free-high : (s : ℕ) (c : Core) (n : ℕ) → Numbered c n → (i : ℕ) → (at (change to_free s c) i).meta.pid.0 ≤ n
unfolding change free
free-high s c n w = all_set (λ _ p. p.meta.pid.0 ≤ n) c.slots s free free w.high (omega arith)

numbered-free : (s : ℕ) (c : Core) (n : ℕ) → Numbered c n → Numbered (change to_free s c) n
numbered-free s c n w = record {
  low = λ i u. let e = free-old s c i u in subst (λ (p : Process). 1 ≤ p.meta.pid.0) (sym e) (w.low i (sym (ap (is UNUSED) e) ∙ u));
  high = free-high s c n w;
  once = λ i j u v q. let e = free-old s c i u in let f = free-old s c j v in
      w.once i j (sym (ap (is UNUSED) e) ∙ u) (sym (ap (is UNUSED) f) ∙ v) (sym (ap (λ (p : Process). p.meta.pid.0) e) ∙ q ∙ ap (λ (p : Process). p.meta.pid.0) f);
  top = w.top;
}

-- ---- a slot is filled, under a pid that no slot has
numbered-fill : (s : ℕ) (p : Process) (c : Core) (n : ℕ) → p.meta.pid.0 ≡ n → 1 ≤ n → ((j : ℕ) → (at c j).meta.pid.0 < n) → Numbered c n → Numbered (fill s p c) n
unfolding fill change
numbered-fill s p c n k l new w = record {
  low = λ i u. go-low i u (set_cases c.slots s p free i);
  high = all_set (λ _ x. x.meta.pid.0 ≤ n) c.slots s p free w.high (omega arith);
  once = λ i j u v q. go-once i j u v q (set_cases c.slots s p free i) (set_cases c.slots s p free j);
  top = w.top;
}
  where
    after : ℕ → Process
    after i = get_or (set c.slots s p) i free

    pids : {x y : Process} → x ≡ y → x.meta.pid.0 ≡ y.meta.pid.0
    pids e = ap (λ (x : Process). x.meta.pid.0) e

    go-low : (i : ℕ) → is UNUSED (after i) ≡ false → ((i ≡ s) × (after i ≡ p)) ⊎ (after i ≡ at c i) → 1 ≤ (after i).meta.pid.0
    go-low i u (inl e) = omega (arith, pids e.1)
    go-low i u (inr e) = omega (arith, pids e, w.low i (sym (ap (is UNUSED) e) ∙ u))

    go-once : (i j : ℕ) → is UNUSED (after i) ≡ false → is UNUSED (after j) ≡ false → (after i).meta.pid.0 ≡ (after j).meta.pid.0
        → ((i ≡ s) × (after i ≡ p)) ⊎ (after i ≡ at c i) → ((j ≡ s) × (after j ≡ p)) ⊎ (after j ≡ at c j) → i ≡ j
    go-once i j u v q (inl e) (inl f) = e.0 ∙ sym f.0
    go-once i j u v q (inl e) (inr f) = absurd (omega (arith, pids e.1, pids f, new j))
    go-once i j u v q (inr e) (inl f) = absurd (omega (arith, pids f.1, pids e, new i))
    go-once i j u v q (inr e) (inr f) = w.once i j (sym (ap (is UNUSED) e) ∙ u) (sym (ap (is UNUSED) f) ∙ v) (sym (pids e) ∙ q ∙ pids f)

pub view-numbered : {t u : Table} → Numbered t.core t.books.pids → View t u → Numbered u.core u.books.pids
unfolding spent spend reap taken resize
view-numbered {t} w (stirs c k) = numbered-alike t.core c t.books.pids k w
view-numbered {t} w (spends r) = record { low = w.low; high = λ s. omega (arith, w.high s); once = w.once; top = omega (arith, r) }
view-numbered {t} w (fills s k b d x y) = rw (birth-pids y) (numbered-fill s (taken t.books.pids k b) t.core t.books.pids refl x.positive x.new w)
view-numbered {t} w (frees s c e _) = rw (leave-pids (at c s).kin.group t.books) (numbered-free s c t.books.pids (rw e (record { low = w.low; high = w.high; once = w.once; top = w.top })))
view-numbered {t} w (resizes _ _ _ _ _ _) = w
