-- A fresh table is sound, each call keeps it so, and so every table that calls make of a fresh one is sound.
use Rattle.std.specs.Prelude.{List}
use Rattle.rules.specs.Model.{Table, fresh}
use Rattle.rules.specs.Runs.{Call, run}

-- every table that calls make of a fresh one
abbrev pub reached : List Call → Table
reached cs = (run fresh cs).table
