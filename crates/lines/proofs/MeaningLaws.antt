-- What a line means, as the code finds it out.
use Rattle.std.specs.Prelude.{Result, Ok, Err, Option, Some, None, MatchOption}
use Prim.Native.Nat.{ℕ, ◌+◌, ◌≤◌, ◌<◌}
use Prim.Native.Char.{code}
use native.Mathlib.Omega.{arith}
use mathlib.Core.Path.{◌≡◌, refl, sym, ap, ◌∙◌, subst}
use mathlib.Core.Bool.{Bool, true, false, cond, ◌||◌}
use mathlib.Core.List.{List, [], ◌∷◌}
use lib.ListN.{length, get_or, replicate}
use lib.Dec.{eqb, ltb}
use borrow.Author.Tests.{lt-ltb, le-ltb, eq-eqb, ne_eqb, eqb-true}
use Rattle.promises.specs.Laws.Bools.{clash}
use Rattle.rules.specs.Listing.{bytes}
use Rattle.rules.specs.Runs as rules
use Rattle.buffers.specs.Text.{Wrote}
use Rattle.buffers.proofs.TextLaws.{wrote-front}
use Rattle.steps.specs.declared.Call.{Call}
use Rattle.codes.specs.Codes.{call_in}
use Rattle.lines.specs.declared.Said.{Said}
use Rattle.lines.specs.declared.Said.TheVariants.{Spawn}
use Rattle.lines.specs.declared.Said.TheVariants as said
use Rattle.lines.specs.declared.Why.{Why}
use Rattle.lines.specs.declared.Why.TheVariants.{UnknownWord, TooFew, NotAName, NotAChoice}
use Rattle.lines.specs.Words.{first_word, after_word}
use Rattle.lines.specs.Values.{name_good, name_bytes, name_worth, value_in, argument_in}
use Rattle.lines.specs.Kinds.{a_number, a_name}
use Rattle.lines.specs.Grammar.{command, grammar, first_call, command_count, command_of, is_command, kinds_of}
use Rattle.lines.specs.Meaning.{word_count, Arguments, are, lack, and_more, arguments_in, Told, passed, called, listed, shows, renews, misread, called_by, words_of, command_means, with_arguments, means, said_by, meaning_of, NameThere}
use Rattle.lines.proofs.GrammarLaws.{spawn-is, list-is, show-is, fresh-is, spawn-alone}

-- ---- the call
said-called : (name : List ℕ) (o : Option Call) → meaning_of name (said_by o) ≡ called_by o
unfolding called_by
said-called name None = refl
said-called name (Some c) = refl

pub call-or-not : (o : Option Call) {r : Said} → MatchOption o (r ≡ said.Misread NotAChoice) (λ c. r ≡ said.Call c) → r ≡ said_by o
call-or-not None e = e
call-or-not (Some c) e = e

-- ---- the command
module _ (k : ℕ) (l w : List ℕ) where
  pub by-list : k ≡ 0 → listed (get_or w 1 0) ≡ command_means k l w
  unfolding command_means is_command
  by-list e = rw (spawn-is, list-is, e)

  pub by-show : k ≡ 1 → shows ≡ command_means k l w
  unfolding command_means is_command
  by-show e = rw (spawn-is, list-is, show-is, e)

  pub by-fresh : k ≡ 2 → renews ≡ command_means k l w
  unfolding command_means is_command
  by-fresh e = rw (spawn-is, list-is, show-is, fresh-is, e)

module _ (k : ℕ) (l w name : List ℕ) where
  pub by-spawn : k ≡ first_call + 2 → {text : List ℕ} → text ≡ first_word l → {b : List ℕ} {n : ℕ} → Wrote b 0 (name_bytes text) name n → meaning_of name (Spawn n (get_or w 2 0)) ≡ command_means k l w
  unfolding command_means is_command
  by-spawn e f u = rw (spawn-is, e) (ap (λ (x : List ℕ). called (rules.spawn x (get_or w 2 0))) (wrote-front u ∙ ap name_bytes f))

  pub by_call : (k ≡ first_call + 2 → ⊥) → (k ≡ 0 → ⊥) → (k ≡ 1 → ⊥) → (k ≡ 2 → ⊥) → {r : Said} → r ≡ said_by (call_in (words_of k w)) → meaning_of name r ≡ command_means k l w
  unfolding command_means is_command
  by_call a b c d e = rw (spawn-is, list-is, show-is, fresh-is, ne_eqb k (first_call + 2) a, ne_eqb k 0 b, ne_eqb k 1 c, ne_eqb k 2 d, e) (said-called name (call_in (words_of k w)))

-- ---- a spawn that has its arguments has a name
sized : (w : List ℕ) (v : ℕ) → name_worth w ≡ Ok v → name_good w ≡ true
unfolding name_worth
sized w v e = go (name_good w) e
  where
    go : (b : Bool) → cond b (Ok (length (name_bytes w))) (Err NotAName) ≡ Ok v → b ≡ true
    go true e = refl
    go false e = cc

named : (w : List ℕ) (v : ℕ) → argument_in a_name w ≡ Ok v → name_good w ≡ true
unfolding argument_in value_in
named w v e = go (ltb 0 (length w)) e
  where
    go : (b : Bool) → cond b (name_worth w) (Err TooFew) ≡ Ok v → name_good w ≡ true
    go true e = sized w v e
    go false e = cc

pub name-there : (k : ℕ) (l b d : List ℕ) → Told (arguments_in (kinds_of k) l) b (Ok tt) d → NameThere k l
unfolding Told arguments_in and_more kinds_of grammar command bytes
name-there k l b d t e = go (argument_in a_name (first_word l)) refl (arguments_in (a_number ∷ []) (after_word l)) (subst (λ (x : ℕ). Told (arguments_in (kinds_of x) l) b (Ok tt) d) (spawn-alone k e) t)
  where
    go : (v : Result ℕ Why) → argument_in a_name (first_word l) ≡ v → (a : Arguments) → Told (and_more v a) b (Ok tt) d → name_good (first_word l) ≡ true
    go (Ok v) e a t = named (first_word l) v e
    go (Err why) e a t = absurd t

-- ---- the arguments
pub told-all : (k : ℕ) (l d : List ℕ) (a : Arguments) → Told a (replicate word_count 0) (Ok tt) d → command_means k l d ≡ with_arguments k l a
unfolding Told with_arguments
told-all k l d (are vs) t = ap (command_means k l) t
told-all k l d (lack why) t = absurd t

pub told-not : (k : ℕ) (l b d : List ℕ) (a : Arguments) {why : Why} → Told a b (Err why) d → misread why ≡ with_arguments k l a
unfolding Told with_arguments
told-not k l b d (are vs) t = absurd t
told-not k l b d (lack why) t = ap misread t

-- ---- the line
module _ (l : List ℕ) where
  pub empty-passed : length (first_word l) ≡ 0 → passed ≡ means l
  unfolding means
  empty-passed e = rw (eq-eqb (length (first_word l)) 0 e)

  pub hash-passed : get_or (first_word l) 0 0 ≡ code "#" → passed ≡ means l
  unfolding means
  hash-passed e = rw (eq-eqb (get_or (first_word l) 0 0) (code "#") e) (go (eqb (length (first_word l)) 0))
    where
      go : (b : Bool) → passed ≡ cond (b || true) passed (cond (ltb (command_of (first_word l)) command_count) (with_arguments (command_of (first_word l)) (after_word l) (arguments_in (kinds_of (command_of (first_word l))) (after_word l))) (misread UnknownWord))
      go true = refl
      go false = refl

  module _ (e : length (first_word l) ≡ 0 → ⊥) (f : get_or (first_word l) 0 0 ≡ code "#" → ⊥) where
    pub unknown-word : command_count ≤ command_of (first_word l) → misread UnknownWord ≡ means l
    unfolding means
    unknown-word h = rw (ne_eqb (length (first_word l)) 0 e, ne_eqb (get_or (first_word l) 0 0) (code "#") f, le-ltb (command_of (first_word l)) command_count h)

    pub known-word : {k : ℕ} → k ≡ command_of (first_word l) → k < command_count → with_arguments k (after_word l) (arguments_in (kinds_of k) (after_word l)) ≡ means l
    unfolding means
    known-word {k} g h = rw (ne_eqb (length (first_word l)) 0 e, ne_eqb (get_or (first_word l) 0 0) (code "#") f, ← g, lt-ltb k command_count h)

-- ---- the word at the front, found
module _ (l : List ℕ) {word : List ℕ} (e : word ≡ first_word l) where
  first-byte : get_or word 0 0 ≡ get_or (first_word l) 0 0
  first-byte = ap (λ (x : List ℕ). get_or x 0 0) e

  pub nothing-there : true ≡ eqb (length word) 0 → passed ≡ means l
  nothing-there f = empty-passed l (ap length (sym e) ∙ eqb-true (length word) 0 (sym f))

  pub hash-there : get_or word 0 0 ≡ code "#" → passed ≡ means l
  hash-there f = hash-passed l (sym first-byte ∙ f)

  module _ (f : false ≡ eqb (length word) 0) (g : get_or word 0 0 ≡ code "#" → ⊥) where
    not-empty : length (first_word l) ≡ 0 → ⊥
    not-empty z = clash (eq-eqb (length word) 0 (ap length e ∙ z)) (sym f)

    pub no-command : command_count ≡ command_of word → misread UnknownWord ≡ means l
    no-command h = unknown-word l not-empty (λ z. g (first-byte ∙ z)) (let k : command_count ≡ command_of (first_word l) = h ∙ ap command_of e in omega arith)

    pub a-command : {k : ℕ} → k ≡ command_of word → k < command_count → {rest : List ℕ} → rest ≡ after_word l → with_arguments k rest (arguments_in (kinds_of k) rest) ≡ means l
    a-command h s r = rw r (known-word l not-empty (λ z. g (first-byte ∙ z)) (h ∙ ap command_of e) s)
