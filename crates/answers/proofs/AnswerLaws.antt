-- How long answers in words are.
use Rattle.std.specs.Prelude.{Ok, Err}
use Prim.Native.Nat.{ℕ, ◌*◌}
use native.Mathlib.Omega.{arith}
use mathlib.Core.Path.{◌≡◌, refl, sym, ap, ◌∙◌}
use mathlib.Core.List.{List, [], ◌∷◌, ◌++◌, append_assoc, append-nil}
use lib.ListN.{length, length-append}
use Rattle.rules.specs.Types.{Answer}
use Rattle.rules.specs.declared.Grant.TheVariants.{Done, Made, Handed, Reaped, Joined, Blocked}
use Rattle.rules.specs.Answers.{values_of}
use Rattle.answers.specs.Words.{answer_words, coded, codes}

pub coded-length : (a : Answer) → length (coded a) ≡ answer_words
unfolding coded values_of
coded-length (Ok Done) = refl
coded-length (Ok (Made p)) = refl
coded-length (Ok (Handed s)) = refl
coded-length (Ok (Reaped p x)) = refl
coded-length (Ok (Joined x)) = refl
coded-length (Ok Blocked) = refl
coded-length (Err r) = refl

pub codes-length : (l : List Answer) → length (codes l) ≡ length l * answer_words
unfolding codes
codes-length [] = refl
codes-length (a ∷ l) = omega (arith, length-append (coded a) (codes l), coded-length a, codes-length l)

pub codes-more : (l : List Answer) (a : Answer) → codes (l ++ (a ∷ [])) ≡ codes l ++ coded a
unfolding codes
codes-more [] a = append-nil (coded a)
codes-more (x ∷ l) a = ap (λ (k : List ℕ). coded x ++ k) (codes-more l a) ∙ sym (append_assoc (coded x) (codes l) (coded a))
