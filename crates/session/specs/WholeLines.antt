-- A line, however long and in whatever pieces it comes, is answered by what it means.
use Rattle.std.specs.Prelude.{◌≡◌, ℕ, ◌<◌, ◌≤◌, Bool, true, false, cond, List, [], ◌∷◌, ◌++◌, length, take, ◌≢◌, nat_lt}
use Rattle.std.proofs.Common.{arith, ◌∙◌, take_all, take_at, length-take-le}
use Rattle.std.proofs.Math.Path.{refl, sym, ap}
use mathlib.Core.List.{append-nil}
use Rattle.std.proofs.Math.ListN.{length-append}
use Rattle.std.proofs.Math.Seq.{append_snoc}
use borrow.Author.Tests.{ltb-true, ltb-false, lt-ltb, ne_eqb}
use Rattle.session.specs.Talk.{Seat, longest_line, newline, line_means, ended, kept, heard, hears}
use Rattle.session.specs.Places.{line_room}

pub in_pieces : (s : Seat) (a b : List ℕ) → hears s (a ++ b) ≡ hears (hears s a) b
unfolding hears
in_pieces s [] b = refl
in_pieces s (x ∷ a) b = in_pieces (heard s x) a b

-- no newline in it
pub data Plain : List ℕ → Type 0 where
  empty : Plain []
  and_byte : {b : ℕ} {l : List ℕ} → (b ≢ newline) → Plain l → Plain (b ∷ l)

-- the same seat with this line so far
abbrev pub on_line : List ℕ → Seat → Seat
on_line l s = record { table = s.table; line = l; number = s.number; said = s.said }

module _ (s : Seat) where
  heard-plain : (k : List ℕ) (b : ℕ) → (b ≢ newline) → heard (on_line k s) b ≡ on_line (kept k b) s
  unfolding heard
  heard-plain k b e = rw (ne_eqb b newline e)

  -- so much of it is kept
  hears-plain : (k l : List ℕ) → length k ≤ line_room → Plain l → hears (on_line k s) l ≡ on_line (take line_room (k ++ l)) s
  unfolding hears kept
  hears-plain k [] h empty = ap (λ (x : List ℕ). on_line x s) (sym (take_all line_room (k ++ []) (rw append-nil h) ∙ append-nil k))
  hears-plain k (b ∷ l) h (and_byte e p) = ap (λ (x : Seat). hears x l) (heard-plain k b e) ∙ go (nat_lt longest_line (length k)) refl (λ x g. hears-plain x l g p)
    where
      go : (y : Bool) → nat_lt longest_line (length k) ≡ y → ((x : List ℕ) → length x ≤ line_room → hears (on_line x s) l ≡ on_line (take line_room (x ++ l)) s)
          → hears (on_line (cond y k (k ++ (b ∷ []))) s) l ≡ on_line (take line_room (k ++ b ∷ l)) s
      go true f rest = let full : length k ≡ line_room = omega (arith, ltb-true longest_line (length k) f) in
          rest k h ∙ ap (λ (x : List ℕ). on_line x s) (take_at k l line_room full ∙ sym (take_at k (b ∷ l) line_room full))
      go false f rest =
          rest (k ++ (b ∷ [])) (omega (arith, ltb-false longest_line (length k) f, length-append k (b ∷ [])))
          ∙ ap (λ (x : List ℕ). on_line (take line_room x) s) (append_snoc k b l)

-- and that is enough
means-same : (l : List ℕ) → line_means (take line_room l) ≡ line_means l
unfolding line_means
means-same l = go (nat_lt longest_line (length l)) refl
  where
    go : (y : Bool) → nat_lt longest_line (length l) ≡ y → line_means (take line_room l) ≡ line_means l
    go true f =
        let h : longest_line < length l = ltb-true longest_line (length l) f in
        let g : longest_line < length (take line_room l) = omega (arith, length-take-le line_room l (omega arith)) in
        rw (lt-ltb longest_line (length (take line_room l)) g, f)
    go false f = ap line_means (take_all line_room l (omega (arith, ltb-false longest_line (length l) f)))

ended_same : (s : Seat) (k l : List ℕ) → line_means k ≡ line_means l → ended (on_line k s) ≡ ended (on_line l s)
unfolding ended
ended_same s k l e = rw e

pub whole-line : (s : Seat) (l : List ℕ) → s.line ≡ [] → Plain l → hears s (l ++ (newline ∷ [])) ≡ ended (on_line l s)
unfolding hears heard
whole-line s l e p =
    in_pieces s l (newline ∷ [])
    ∙ ap (λ (x : Seat). hears x (newline ∷ [])) (ap (λ (k : List ℕ). hears (on_line k s) l) e ∙ hears-plain s [] l (omega arith) p)
    ∙ ended_same s (take line_room l) l (means-same l)
