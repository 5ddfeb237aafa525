use Rattle.ends.proofs.ReapLaws.{looks}
use Rattle.std.proofs.Common.{◌-◌, ◌≤◌, ◌≡◌}
use Rattle.words.specs.Reading.{table_of}
use Rattle.rules.specs.Sizes.{slot_count}
use Rattle.ends.proofs.reap_threads.Given as goal

abbrev pub invariant-loop : goal.invariant-loop
invariant-loop l = (l.counter ≤ slot_count) × (table_of l.t ≡ looks l.m l.counter (table_of l.initial.t))

abbrev pub decreases-loop : goal.decreases-loop
decreases-loop l = slot_count - l.counter
