use Rattle.shows.proofs.ShowLaws.{listed_start, listed_more, listed-all, queue-none, queue-some}
use Rattle.words.specs.Reading.{table_of}
use Rattle.rules.specs.Listing.{bytes, digits}
use Rattle.rules.specs.Sizes.{slot_count}
use Rattle.std.proofs.Common.{rules, arith}
use Rattle.shows.proofs.head.write_queue.Goals as goal

pub write-requires : goal.write-requires
unfolding slot_count
write-requires c = search rules

pub returns-then-n-eq0 : goal.returns-then-n-eq0
unfolding slot_count bytes
returns-then-n-eq0 c =
    (rw (queue-none (table_of c.args.t.now).core.queue (omega (arith, c.waiting-n.ensures))) at c.write.ensures, omega arith)

pub queued_at-requires : goal.queued_at-requires
queued_at-requires c =
    (omega arith, c.requires.0)

pub write_field-on-requires : goal.write_field-on-requires
unfolding slot_count
write_field-on-requires c = search rules

pub loop-i-init : goal.loop-i-init
loop-i-init c =
    listed_start digits (bytes " queue ") (table_of c.args.t.now).core.queue _ _ (omega arith)

pub queued_at-requires-in-loop-i : goal.queued_at-requires-in-loop-i
queued_at-requires-in-loop-i c =
    (omega arith, c.requires.0)

pub write_field-on-requires-in-loop-i : goal.write_field-on-requires-in-loop-i
unfolding slot_count
write_field-on-requires-in-loop-i c = search rules

pub loop-i-preserved : goal.loop-i-preserved
unfolding bytes
loop-i-preserved c =
    listed_more digits (bytes " queue ") (table_of c.args.t.now).core.queue 0 c.loop-i.invariant (omega arith) (rw c.queued_at-in-loop-i.ensures.0 at c.write_field-on-in-loop-i.ensures.0) (omega arith)

pub returns : goal.returns
unfolding bytes slot_count
returns c =
    (rw (queue-some (table_of c.args.t.now).core.queue (omega arith)) at (listed-all digits (bytes " queue ") (table_of c.args.t.now).core.queue 0 c.loop-i.invariant (omega arith) (rw c.queued_at.ensures.0 at c.write_field-on.ensures.0)), omega arith)
