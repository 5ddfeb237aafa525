-- What a line means.
use Rattle.std.specs.Prelude.{ℕ, ◌+◌, ◌-◌, ◌*◌, ◌≡◌, true, cond, ◌&&◌, ◌||◌, List, [], ◌∷◌, length, get_or, set, take, replicate, eqb, ltb, Option, Some, None, Result, Ok, Err}
use Prim.Native.Char.{code}
use Rattle.rules.specs.Runs as rules
use Rattle.buffers.specs.Text.{put}
use Rattle.steps.specs.declared.Call.{Call}
use Rattle.steps.specs.ByValue.{call_of}
use Rattle.codes.specs.Codes.{is_flag, call_in}
use Rattle.lines.specs.declared.Said.{Said}
use Rattle.lines.specs.declared.Said.TheVariants as said
use Rattle.lines.specs.declared.Why.{Why}
use Rattle.lines.specs.declared.Why.TheVariants.{UnknownWord, TooMany, NotAChoice}
use Rattle.lines.specs.Words.{first_word, after_word}
use Rattle.lines.specs.Values.{name_good, name_bytes, argument_in}
use Rattle.lines.specs.Grammar.{first_call, command_count, command_of, is_command, kinds_of}

-- ---- the arguments of a command, or why there are none
-- the command's number, and nine arguments at most
abbrev pub word_count : ℕ
word_count = 10

pub data Arguments : Type 0 where
  are : List ℕ → Arguments
  lack : Why → Arguments

unfoldable pub and_more : Result ℕ Why → Arguments → Arguments
and_more (Ok v) (are l) = are (v ∷ l)
and_more (Ok v) (lack why) = lack why
and_more (Err why) more = lack why

unfoldable pub arguments_in : List ℕ → List ℕ → Arguments
arguments_in [] l = cond (ltb 0 (length (first_word l))) (lack TooMany) (are [])
arguments_in (k ∷ kinds) l = and_more (argument_in k (first_word l)) (arguments_in kinds (after_word l))

-- what the code told of them: d is b with the arguments from place 1 on
unfoldable pub Told : Arguments → List ℕ → Result Unit Why → List ℕ → Type 0
Told (are l) b (Ok tt) d = d ≡ put b 1 l
Told (are l) b (Err why) d = ⊥
Told (lack why) b (Ok tt) d = ⊥
Told (lack why) b (Err told) d = told ≡ why

-- ---- a line
pub data Meaning : Type 0 where
  passed : Meaning
  called : rules.Call → Meaning
  -- the listing, in this much room
  listed : ℕ → Meaning
  shows : Meaning
  -- start again from a fresh table
  renews : Meaning
  misread : Why → Meaning

-- four flags in a word; 16 if one is no flag
unfoldable pub bits : ℕ → ℕ → ℕ → ℕ → ℕ
bits a b c d = cond (is_flag a && is_flag b && is_flag c && is_flag d) (a + 2 * b + 4 * c + 8 * d) 16

-- the words of the call that command k is, of which the first eight count; a thread's flags, its last four arguments, go together
unfoldable pub flags_together : ℕ → List ℕ → List ℕ
flags_together k w = cond (is_command "thread" k) (set w 6 (bits (get_or w 6 0) (get_or w 7 0) (get_or w 8 0) (get_or w 9 0))) w

unfoldable pub words_of : ℕ → List ℕ → List ℕ
words_of k w = set (flags_together k w) 0 (k - first_call)

-- words that are no call are answered as a choice that is none
unfoldable pub called_by : Option Call → Meaning
called_by None = misread NotAChoice
called_by (Some c) = called (call_of [] c)

-- command k with its arguments in w from place 1 on, and l for the line behind its name
unfoldable pub command_means : ℕ → List ℕ → List ℕ → Meaning
command_means k l w =
    cond (is_command "spawn" k) (called (rules.spawn (name_bytes (first_word l)) (get_or w 2 0)))
    (cond (is_command "list" k) (listed (get_or w 1 0))
    (cond (is_command "show" k) shows (cond (is_command "fresh" k) renews (called_by (call_in (words_of k w))))))

unfoldable pub with_arguments : ℕ → List ℕ → Arguments → Meaning
with_arguments k l (are vs) = command_means k l (put (replicate word_count 0) 1 vs)
with_arguments k l (lack why) = misread why

-- an empty line and one that starts with # are passed over
unfoldable pub means : List ℕ → Meaning
means l =
    let w = first_word l in let k = command_of w in let rest = after_word l in
    cond (eqb (length w) 0 || eqb (get_or w 0 0) (code "#")) passed (cond (ltb k command_count) (with_arguments k rest (arguments_in (kinds_of k) rest)) (misread UnknownWord))

-- ---- what the code says of it, with the name in a buffer
abbrev pub said_by : Option Call → Said
said_by None = said.Misread NotAChoice
said_by (Some c) = said.Call c

abbrev pub meaning_of : List ℕ → Said → Meaning
meaning_of name said.Nothing = passed
meaning_of name (said.Call c) = called (call_of [] c)
meaning_of name (said.Spawn len entry) = called (rules.spawn (take len name) entry)
meaning_of name (said.List room) = listed room
meaning_of name said.Show = shows
meaning_of name said.Fresh = renews
meaning_of name (said.Misread why) = misread why

-- a spawn's name can be read
abbrev pub NameThere : ℕ → List ℕ → Type 0
NameThere k l = is_command "spawn" k ≡ true → name_good (first_word l) ≡ true
