-- A call in eight words.
use Rattle.std.specs.Prelude.{ℕ, suc, ◌-◌, ◌^◌, ◌/◌, ◌%◌, Bool, cond, List, [], ◌∷◌, length, get_or, eqb, ltb, ℤ, pos, negsuc, Option, Some, None}
use Rattle.rules.specs.declared.Mapped.{Mapped}
use Rattle.rules.specs.declared.Wish.{Wish}
use Rattle.rules.specs.declared.Wish.TheVariants.{NotWanted, Writable, Unwritable}
use Rattle.rules.specs.Model.{pid}
use Rattle.steps.specs.declared.Call.{Call}
use Rattle.steps.specs.declared.Call.TheVariants.{Boot, Start, Spawn, SystemReturn, Fork, Thread, Dispatch, Yield, Sleep, Wakeup, Kill, Wait, Join, ThreadExit, Exit, Grow}

-- a number, in two's complement of 64 bits if it is below 0
unfoldable pub signed_of : ℕ → ℤ
signed_of n = cond (ltb n (2 ^ 63)) (pos n) (negsuc (2 ^ 64 - suc n))

-- ---- a call: word 0 says which, its arguments follow; words that it has no use for aren't looked at
abbrev pub call_words : ℕ
call_words = 8

-- a flag is 0 for no or 1 for yes
unfoldable pub is_flag : ℕ → Bool
is_flag n = ltb n 2

unfoldable pub yes : ℕ → Bool
yes n = eqb n 1

-- a wish is 0, 1 or 2
unfoldable pub is_wish : ℕ → Bool
is_wish n = ltb n 3

unfoldable pub wish_of : ℕ → Wish
wish_of n = cond (eqb n 0) NotWanted (cond (eqb n 1) Writable Unwritable)

-- what is mapped, a bit each
unfoldable pub is_mapped : ℕ → Bool
is_mapped n = ltb n 16

unfoldable pub mapped_of : ℕ → Mapped
mapped_of n = record { entry = yes (n % 2); ret = yes (n / 2 % 2); stack = yes (n / 4 % 2); top = yes (n / 8 % 2) }

unfoldable pub only_if : Bool → Call → Option Call
only_if b c = cond b (Some c) None

-- the calls by their number, which is their place here
unfoldable pub calls : List ((ℕ → ℕ) → Option Call)
calls =
    (λ w. Some Boot)
    ∷ (λ w. Some Start)
    ∷ (λ w. Some (Spawn (w 1) (w 2) (w 3)))
    ∷ (λ w. Some (SystemReturn (w 1)))
    ∷ (λ w. only_if (is_flag (w 2)) (Fork (w 1) (yes (w 2))))
    ∷ (λ w. only_if (is_mapped (w 6)) (Thread (w 1) (record { entry = w 2; arg = w 3; stack = w 4; ret = w 5 }) (mapped_of (w 6))))
    ∷ (λ w. Some (Dispatch (w 1)))
    ∷ (λ w. Some (Yield (w 1)))
    ∷ (λ w. Some (Sleep (w 1) (w 2)))
    ∷ (λ w. Some (Wakeup (w 1)))
    ∷ (λ w. Some (Kill (pid (w 1))))
    ∷ (λ w. only_if (is_wish (w 2)) (Wait (w 1) (wish_of (w 2))))
    ∷ (λ w. only_if (is_wish (w 3)) (Join (w 1) (pid (w 2)) (wish_of (w 3))))
    ∷ (λ w. Some (ThreadExit (w 1) (w 2)))
    ∷ (λ w. Some (Exit (w 1) (w 2)))
    ∷ (λ w. only_if (is_flag (w 3)) (Grow (w 1) (signed_of (w 2)) (yes (w 3))))
    ∷ []

unfoldable pub call_numbered : ℕ → (ℕ → ℕ) → Option Call
call_numbered n = get_or calls n (λ _. None)

-- the call that stands at the front of the words, or none
unfoldable pub call_in : List ℕ → Option Call
call_in l = cond (ltb (length l) call_words) None (call_numbered (get_or l 0 0) (λ i. get_or l i 0))
