-- The words of a line: runs of bytes other than the space.
use Rattle.std.specs.Prelude.{ℕ, Bool, true, false, cond, not, ◌&&◌, List, [], ◌∷◌, eqb}
use Prim.Native.Char.{code}

-- the front of a list whose bytes all pass, and what is behind it
unfoldable pub front : (ℕ → Bool) → List ℕ → List ℕ
front p [] = []
front p (b ∷ l) = cond (p b) (b ∷ front p l) []

unfoldable pub past : (ℕ → Bool) → List ℕ → List ℕ
past p [] = []
past p (b ∷ l) = cond (p b) (past p l) (b ∷ l)

-- a space, or a byte that is none
unfoldable pub space_is : Bool → ℕ → Bool
space_is true b = eqb b (code " ")
space_is false b = not (eqb b (code " "))

unfoldable pub first_word : List ℕ → List ℕ
first_word l = front (space_is false) (past (space_is true) l)

unfoldable pub after_word : List ℕ → List ℕ
after_word l = past (space_is false) (past (space_is true) l)

unfoldable pub same : List ℕ → List ℕ → Bool
same [] [] = true
same [] (b ∷ m) = false
same (a ∷ l) [] = false
same (a ∷ l) (b ∷ m) = eqb a b && same l m
