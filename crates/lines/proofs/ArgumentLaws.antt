-- The arguments of a command, as the code gathers them one by one.
use Rattle.std.specs.Prelude.{Result, Ok, Err, map}
use Prim.Native.Nat.{ℕ, zero, suc, ◌+◌, ◌≤◌, ◌<◌}
use native.Mathlib.Omega.{arith}
use mathlib.Core.Path.{◌≡◌, refl, sym, ap, ◌∙◌, subst}
use mathlib.Core.List.{List, [], ◌∷◌, ◌++◌, append-nil}
use lib.ListN.{length, get_or, set, drop, drop_of_length-le}
use lib.Seq.{drop-cons, append_snoc}
use mathlib.Core.Bool.{true, false, cond}
use lib.Dec.{ltb, eqb}
use borrow.Author.Tests.{lt-ltb, eqb-true}
use Rattle.buffers.specs.Text.{Wrote}
use Rattle.buffers.proofs.TextLaws.{wrote_none, wrote-long, wrote_one, wrote-more}
use Rattle.promises.specs.Laws.Bools.{clash}
use Rattle.lines.specs.declared.Why.{Why}
use Rattle.lines.specs.declared.Why.TheVariants.{TooMany}
use Rattle.lines.specs.declared.value.Kind.{Kind}
use Rattle.lines.specs.Words.{first_word, after_word}
use Rattle.lines.specs.Values.{argument_in}
use Rattle.lines.specs.Kinds.{letter}
use Rattle.lines.specs.Meaning.{Arguments, are, lack, and_more, arguments_in, Told}

unfoldable pub prefixed : List ℕ → Arguments → Arguments
prefixed l (are m) = are (l ++ m)
prefixed l (lack why) = lack why

prefixed-none : (a : Arguments) → prefixed [] a ≡ a
unfolding prefixed
prefixed-none (are l) = refl
prefixed-none (lack why) = refl

prefixed-more : (l : List ℕ) (v : ℕ) (a : Arguments) → prefixed l (and_more (Ok v) a) ≡ prefixed (l ++ (v ∷ [])) a
unfolding prefixed and_more
prefixed-more l v (are m) = ap are (sym (append_snoc l v m))
prefixed-more l v (lack why) = refl

module _ (ks : List Kind) (line b : List ℕ) where
  -- i arguments are read, and stand in w, which was b; rest is the line behind them
  pub record Midway (w : List ℕ) (i : ℕ) (rest : List ℕ) : Type 0 where
    pub few : i ≤ length ks
    pub values : List ℕ
    pub wrote : Wrote b 1 values w (i + 1)
    pub sofar : arguments_in (map letter ks) line ≡ prefixed values (arguments_in (map letter (drop i ks)) rest)

  pub begun : length ks < length b → Midway b 0 line
  begun h = record { few = omega arith; values = []; wrote = wrote_none b 1 (omega arith); sofar = sym (prefixed-none _) }

  module _ {w : List ℕ} {i : ℕ} {rest : List ℕ} (m : Midway w i rest) where
    module _ (h : i < length ks) (d : Kind) {word : List ℕ} (e : word ≡ first_word rest) where
      next-is : arguments_in (map letter (drop i ks)) rest ≡ and_more (argument_in (letter (get_or ks i d)) word) (arguments_in (map letter (drop (suc i) ks)) (after_word rest))
      unfolding arguments_in
      next-is = rw (drop-cons ks i d h, e)

      by : (v : Result ℕ Why) → v ≡ argument_in (letter (get_or ks i d)) word
          → arguments_in (map letter ks) line ≡ prefixed m.values (and_more v (arguments_in (map letter (drop (suc i) ks)) (after_word rest)))
      by v f = m.sofar ∙ ap (prefixed m.values) (next-is ∙ ap (λ (x : Result ℕ Why). and_more x (arguments_in (map letter (drop (suc i) ks)) (after_word rest))) (sym f))

      pub one-not : {why : Why} → Err why ≡ argument_in (letter (get_or ks i d)) word → (a : List ℕ) → Told (arguments_in (map letter ks) line) b (Err why) a
      unfolding Told prefixed and_more
      one-not {why} f a = subst (λ (x : Arguments). Told x b (Err why) a) (sym (by (Err why) f)) refl

      pub next : {v : ℕ} {behind : List ℕ} → Ok v ≡ argument_in (letter (get_or ks i d)) word → behind ≡ after_word rest → length ks < length b → Midway (set w (i + 1) v) (i + 1) behind
      next {v} f g p = let z : i + 1 ≡ suc i = omega arith in record {
        few = omega arith;
        values = m.values ++ (v ∷ []);
        wrote = wrote-more m.wrote (wrote_one w (i + 1) v (omega (arith, wrote-long m.wrote)));
        sofar = rw (z, g) (by (Ok v) f ∙ prefixed-more m.values v _);
      }

    module _ (h : length ks ≤ i) where
      last-is : arguments_in (map letter ks) line ≡ prefixed m.values (arguments_in [] rest)
      last-is = m.sofar ∙ rw (drop_of_length-le ks {i = i} h)

      over : (n : ℕ) → false ≡ eqb n 0 → prefixed m.values (cond (ltb 0 n) (lack TooMany) (are [])) ≡ lack TooMany
      unfolding prefixed
      over zero e = absurd (clash e refl)
      over (suc n) e = rw (lt-ltb 0 (suc n) (omega arith))

      exact : (n : ℕ) → true ≡ eqb n 0 → prefixed m.values (cond (ltb 0 n) (lack TooMany) (are [])) ≡ are m.values
      unfolding prefixed
      exact n e = rw (eqb-true n 0 (sym e), append-nil)

      module _ {word : List ℕ} (e : word ≡ first_word rest) where
        pub too_many : false ≡ eqb (length word) 0 → Told (arguments_in (map letter ks) line) b (Err TooMany) w
        unfolding Told arguments_in
        too_many f = let g : false ≡ eqb (length (first_word rest)) 0 = f ∙ ap (λ (x : List ℕ). eqb (length x) 0) e in
            subst (λ (x : Arguments). Told x b (Err TooMany) w) (sym (last-is ∙ over (length (first_word rest)) g)) refl

        pub all_there : true ≡ eqb (length word) 0 → Told (arguments_in (map letter ks) line) b (Ok tt) w
        unfolding Told arguments_in
        all_there f = let g : true ≡ eqb (length (first_word rest)) 0 = f ∙ ap (λ (x : List ℕ). eqb (length x) 0) e in
            subst (λ (x : Arguments). Told x b (Ok tt) w) (sym (last-is ∙ exact (length (first_word rest)) g)) m.wrote.buffer
