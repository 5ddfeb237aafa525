-- The ZOMBIE threads of a group, reaped one look after the other.
use Rattle.std.specs.Prelude.{Some, None, Option}
use Prim.Native.Nat.{ℕ, zero, suc, ◌+◌, ◌≤◌}
use native.Mathlib.Omega.{arith}
use native.Mathlib.Numerals.{add-one}
use mathlib.Core.Path.{◌≡◌, refl, sym, ap, ◌∙◌}
use mathlib.Core.Bool.{Bool, true, false}
use lib.Dec.{leb}
use borrow.Author.Tests.{leb-true, leb-false}
use Rattle.rules.specs.Sizes.{slot_count}
use Rattle.rules.specs.Model.{Table}
use Rattle.rules.specs.Moves.{sweep, lowest}
use Rattle.rules.specs.Calls.{thread_of, reap_if_zombie, reap_first, reap_threads}
use Rattle.ends.specs.Looks.{is_zombie, first_is_zombie}

abbrev pub looks : Option ℕ → ℕ → Table → Table
looks m n t = sweep (λ _. reap_first m) n t

pub looks-more : (m : Option ℕ) (t : Table) (n : ℕ) {a b : Table} → b ≡ reap_first m a → a ≡ looks m n t → b ≡ looks m (n + 1) t
unfolding sweep
looks-more m t n e i = rw add-one (e ∙ ap (reap_first m) i)

-- once a look changes nothing, no further one does
still : (m : Option ℕ) (t : Table) (i n : ℕ) → i ≤ n → looks m i t ≡ reap_first m (looks m i t) → looks m i t ≡ looks m n t
unfolding sweep
still m t i zero b e = let z : i ≡ 0 = omega arith in rw z
still m t i (suc n) b e = go (leb i n) refl (λ r. still m t i n r e)
  where
    go : (c : Bool) → leb i n ≡ c → (i ≤ n → looks m i t ≡ looks m n t) → looks m i t ≡ looks m (suc n) t
    go true f k = e ∙ ap (reap_first m) (k (leb-true i n f))
    go false f k = let z : i ≡ suc n = omega (arith, leb-false i n f) in rw z

-- .. and a look that finds no ZOMBIE changes nothing
idle-look : (m : Option ℕ) (t : Table) → false ≡ first_is_zombie m t → reap_first m t ≡ t
unfolding reap_first first_is_zombie
idle-look m t e = go (lowest (thread_of m) t.core.slots) e
  where
    go : (o : Option ℕ) → false ≡ is_zombie t o → reap_if_zombie t o ≡ t
    go None e = unfold reap_if_zombie in refl
    go (Some i) e = unfold reap_if_zombie is_zombie in rw (sym e)

pub looks-still : (m : Option ℕ) (t : Table) (i : ℕ) {a b : Table} → i ≤ slot_count → a ≡ looks m i t → b ≡ reap_first m a → false ≡ first_is_zombie m a → b ≡ reap_threads m t
unfolding reap_threads
looks-still m t i {a} r e f g = let h = idle-look m a g in f ∙ h ∙ e ∙ still m t i slot_count r (sym e ∙ sym h ∙ ap (reap_first m) e)
