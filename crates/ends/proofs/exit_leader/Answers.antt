use Rattle.ends.proofs.EndLaws.{reaped-queued}
use Rattle.words.specs.Reading.{table_of}
use Rattle.rules.specs.Calls.{leader_exited}
use Rattle.ends.proofs.exit_leader.Goals as goal

pub await_thread-requires : goal.await_thread-requires
await_thread-requires c =
    (c.requires.0, c.requires.1, c.in-Some.ensures.1, reaped-queued _ (table_of c.args.t.now) c.reap_threads.ensures c.requires.2)

pub depart-requires : goal.depart-requires
depart-requires c =
    (c.requires.0, c.requires.1, reaped-queued _ (table_of c.args.t.now) c.reap_threads.ensures c.requires.2)

pub returns-in-Some : goal.returns-in-Some
unfolding leader_exited
returns-in-Some c = rw (← c.kin_at-group.ensures.0, ← c.reap_threads.ensures, ← c.in-Some.ensures.0) c.await_thread.ensures

pub returns-in-None : goal.returns-in-None
unfolding leader_exited
returns-in-None c = rw (← c.kin_at-group.ensures.0, ← c.reap_threads.ensures, ← c.in-None.ensures.0) c.depart.ensures
