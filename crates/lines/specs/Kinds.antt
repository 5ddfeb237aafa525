-- The kinds of arguments, each by its letter.
use Rattle.std.specs.Prelude.{ℕ}
use Prim.Native.Char.{code}
use Rattle.lines.specs.declared.value.Kind.{Kind}
use Rattle.lines.specs.declared.value.Kind.TheVariants.{Number, Count, Flag, Wish, Name, Room}

abbrev pub a_number : ℕ
a_number = code "n"

abbrev pub a_count : ℕ
a_count = code "c"

abbrev pub a_flag : ℕ
a_flag = code "y"

abbrev pub a_wish : ℕ
a_wish = code "w"

abbrev pub a_name : ℕ
a_name = code "s"

-- a room, which may be left out
abbrev pub a_room : ℕ
a_room = code "o"

-- what stands behind the last
abbrev pub no_kind : ℕ
no_kind = code "."

abbrev pub letter : Kind → ℕ
letter Number = a_number
letter Count = a_count
letter Flag = a_flag
letter Wish = a_wish
letter Name = a_name
letter Room = a_room
