-- The commands and the kinds of their arguments.
use Rattle.std.specs.Prelude.{ℕ, suc, Bool, cond, List, [], ◌∷◌, get_or, eqb, Option, Some, None}
use Prim.Native.String as S
use Rattle.rules.specs.Listing.{bytes}
use Rattle.lines.specs.declared.grammar.Command as named
use Rattle.lines.specs.declared.grammar.Command.TheVariants as variants
use Rattle.lines.specs.Words.{same}
use Rattle.lines.specs.Kinds.{no_kind}

pub record Command : Type 0 where
  pub name : List ℕ
  pub kinds : List ℕ

unfoldable pub command : S.String → S.String → Command
command name kinds = record { name = bytes name; kinds = bytes kinds }

-- a command's number is its place here: first what is no call, then the calls in the order of their numbers, so that a new one is the last
unfoldable pub grammar : List Command
grammar =
    command "list" "o"
    ∷ command "show" ""
    ∷ command "fresh" ""
    ∷ command "boot" ""
    ∷ command "start" ""
    ∷ command "spawn" "sn"
    ∷ command "system-return" "n"
    ∷ command "fork" "ny"
    ∷ command "thread" "nnnnnyyyy"
    ∷ command "dispatch" "n"
    ∷ command "yield" "n"
    ∷ command "sleep" "nn"
    ∷ command "wake" "n"
    ∷ command "kill" "n"
    ∷ command "wait" "nw"
    ∷ command "join" "nnw"
    ∷ command "thread-exit" "nn"
    ∷ command "exit" "nn"
    ∷ command "grow" "ncy"
    ∷ []

-- call 0
abbrev pub first_call : ℕ
first_call = 3

abbrev pub command_count : ℕ
command_count = 19

-- the number of the command with this name, or how many there are
unfoldable pub number_among : List Command → List ℕ → ℕ
number_among [] w = 0
number_among (c ∷ cs) w = cond (same w c.name) 0 (suc (number_among cs w))

unfoldable pub command_of : List ℕ → ℕ
command_of w = number_among grammar w

-- is it the number of the command with this name?
unfoldable pub is_command : S.String → ℕ → Bool
is_command name k = eqb k (command_of (bytes name))

unfoldable pub name_of : ℕ → List ℕ
name_of k = (get_or grammar k (command "" "")).name

unfoldable pub kinds_of : ℕ → List ℕ
kinds_of k = (get_or grammar k (command "" "")).kinds

-- the kind of argument i
unfoldable pub kind_at : ℕ → ℕ → ℕ
kind_at k i = get_or (kinds_of k) i no_kind

-- ---- the commands of the code
abbrev pub number_of : named.Command → ℕ
number_of variants.List = 0
number_of variants.Show = 1
number_of variants.Fresh = 2
number_of variants.Boot = 3
number_of variants.Start = 4
number_of variants.Spawn = 5
number_of variants.SystemReturn = 6
number_of variants.Fork = 7
number_of variants.Thread = 8
number_of variants.Dispatch = 9
number_of variants.Yield = 10
number_of variants.Sleep = 11
number_of variants.Wake = 12
number_of variants.Kill = 13
number_of variants.Wait = 14
number_of variants.Join = 15
number_of variants.ThreadExit = 16
number_of variants.Exit = 17
number_of variants.Grow = 18

abbrev pub number_found : Option named.Command → ℕ
number_found None = command_count
number_found (Some c) = number_of c
