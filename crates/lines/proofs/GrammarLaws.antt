-- The names of the commands, as the code goes over them.
use Prim.Native.Nat.{ℕ, zero, suc, ◌+◌, ◌≤◌, ◌<◌}
use native.Mathlib.Omega.{arith}
use mathlib.Core.Path.{◌≡◌, refl, sym, ap, ◌∙◌}
use mathlib.Core.Bool.{Bool, true, false, cond, ◌&&◌}
use mathlib.Core.List.{List, [], ◌∷◌}
use lib.ListN.{length, get_or, drop, drop_of_length-le}
use lib.Seq.{drop-cons}
use lib.Dec.{eqb}
use borrow.Author.Tests.{eqb-true, eq-eqb}
use Rattle.rules.specs.Listing.{bytes}
use Rattle.promises.specs.Laws.Bools.{and_left, and_right}
use denote.Enum.Declared.{tag_of}
use Rattle.lines.specs.contracts.grammar.Command.{the_type}
use Rattle.lines.specs.declared.grammar.Command.{Command}
use Rattle.lines.specs.declared.grammar.Command.TheVariants as named
use Rattle.lines.specs.Words.{same}
use Rattle.lines.specs.Grammar.{command, grammar, first_call, command_count, number_among, command_of, is_command, name_of, number_of}

-- ---- the code's list of them
abbrev pub all : List Command
all =
    named.List ∷ named.Show ∷ named.Fresh ∷ named.Boot ∷ named.Start ∷ named.Spawn ∷ named.SystemReturn ∷ named.Fork ∷ named.Thread ∷ named.Dispatch
    ∷ named.Yield ∷ named.Sleep ∷ named.Wake ∷ named.Kill ∷ named.Wait ∷ named.Join ∷ named.ThreadExit ∷ named.Exit ∷ named.Grow ∷ []

counted : ℕ → List Command → Bool
counted n [] = true
counted n (c ∷ cs) = eqb (number_of c) n && counted (suc n) cs

all-counted : counted 0 all ≡ true
unfolding counted
all-counted = refl

counted-at : (n : ℕ) (cs : List Command) (i : ℕ) (d : Command) → counted n cs ≡ true → i < length cs → number_of (get_or cs i d) ≡ n + i
unfolding counted
counted-at n [] i d e h = absurd (omega arith)
counted-at n (c ∷ cs) zero d e h = eqb-true (number_of c) n (and_left _ _ e) ∙ omega arith
counted-at n (c ∷ cs) (suc i) d e h = counted-at (suc n) cs i d (and_right (eqb (number_of c) n) _ e) (omega arith) ∙ omega arith

pub number-at : (i : ℕ) (d : Command) → i < 19 → number_of (get_or all i d) ≡ i
number-at i d h = counted-at 0 all i d all-counted h ∙ omega arith

-- ---- their numbers
pub record Numbered (c : Command) : Type 0 where
  pub tag : tag_of the_type c ≡ number_of c
  pub small : number_of c < command_count
  pub back : get_or all (number_of c) named.List ≡ c

pub numbered : (c : Command) → Numbered c
numbered named.List = record { tag = refl; small = omega arith; back = refl }
numbered named.Show = record { tag = refl; small = omega arith; back = refl }
numbered named.Fresh = record { tag = refl; small = omega arith; back = refl }
numbered named.Boot = record { tag = refl; small = omega arith; back = refl }
numbered named.Start = record { tag = refl; small = omega arith; back = refl }
numbered named.Spawn = record { tag = refl; small = omega arith; back = refl }
numbered named.SystemReturn = record { tag = refl; small = omega arith; back = refl }
numbered named.Fork = record { tag = refl; small = omega arith; back = refl }
numbered named.Thread = record { tag = refl; small = omega arith; back = refl }
numbered named.Dispatch = record { tag = refl; small = omega arith; back = refl }
numbered named.Yield = record { tag = refl; small = omega arith; back = refl }
numbered named.Sleep = record { tag = refl; small = omega arith; back = refl }
numbered named.Wake = record { tag = refl; small = omega arith; back = refl }
numbered named.Kill = record { tag = refl; small = omega arith; back = refl }
numbered named.Wait = record { tag = refl; small = omega arith; back = refl }
numbered named.Join = record { tag = refl; small = omega arith; back = refl }
numbered named.ThreadExit = record { tag = refl; small = omega arith; back = refl }
numbered named.Exit = record { tag = refl; small = omega arith; back = refl }
numbered named.Grow = record { tag = refl; small = omega arith; back = refl }

pub same-number : (a b : Command) → number_of a ≡ number_of b → a ≡ b
same-number a b e = sym (numbered a).back ∙ ap (λ (n : ℕ). get_or all n named.List) e ∙ (numbered b).back

-- ---- the walk over them
grammar-long : length grammar ≡ command_count
unfolding grammar command bytes
grammar-long = refl

module _ (w : List ℕ) where
  pub walk-starts : command_of w ≡ 0 + number_among (drop 0 grammar) w
  unfolding command_of
  walk-starts = omega arith

  module _ {i : ℕ} (v : command_of w ≡ i + number_among (drop i grammar) w) where
    pub walk_ends : command_count ≤ i → i ≤ command_count → command_count ≡ command_of w
    unfolding number_among
    walk_ends h g = sym (v ∙ rw (drop_of_length-le grammar {i = i} (omega (arith, grammar-long))) (omega arith))

    module _ (h : i < command_count) {k : ℕ} (e : k ≡ i) where
      placed : (b : Bool) → same w (name_of k) ≡ b → number_among (drop i grammar) w ≡ cond b 0 (suc (number_among (drop (suc i) grammar) w))
      unfolding number_among name_of
      placed b f = rw (drop-cons grammar i (command "" "") (omega (arith, grammar-long)), sym (ap (λ (j : ℕ). same w (name_of j)) e) ∙ f)

      pub walk-found : same w (name_of k) ≡ true → k ≡ command_of w
      walk-found f = sym (v ∙ omega (arith, e, placed true f))

      pub walk-goes : same w (name_of k) ≡ false → command_of w ≡ (i + 1) + number_among (drop (i + 1) grammar) w
      walk-goes f = let z : i + 1 ≡ suc i = omega arith in rw z (v ∙ omega (arith, placed false f))

-- ---- the numbers that the code has names for
pub spawn-is : command_of (bytes "spawn") ≡ first_call + 2
unfolding command_of number_among grammar command same bytes
spawn-is = refl

pub thread-is : command_of (bytes "thread") ≡ first_call + 5
unfolding command_of number_among grammar command same bytes
thread-is = refl

pub list-is : command_of (bytes "list") ≡ 0
unfolding command_of number_among grammar command same bytes
list-is = refl

pub show-is : command_of (bytes "show") ≡ 1
unfolding command_of number_among grammar command same bytes
show-is = refl

pub fresh-is : command_of (bytes "fresh") ≡ 2
unfolding command_of number_among grammar command same bytes
fresh-is = refl

pub is-spawn : (k : ℕ) → k ≡ first_call + 2 → is_command "spawn" k ≡ true
unfolding is_command
is-spawn k e = rw spawn-is (eq-eqb k (first_call + 2) e)

pub spawn-alone : (k : ℕ) → is_command "spawn" k ≡ true → k ≡ first_call + 2
unfolding is_command
spawn-alone k e = eqb-true k _ e ∙ spawn-is
