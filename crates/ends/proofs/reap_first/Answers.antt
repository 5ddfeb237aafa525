use Rattle.std.specs.Prelude.{None}
use Rattle.std.proofs.Common.{◌≡◌, refl}
use Rattle.rules.specs.Calls.{reap_if_zombie, reap_first}
use Rattle.ends.specs.Looks.{is_zombie, first_is_zombie}
use Rattle.ends.proofs.reap_first.Goals as goal

pub returns-in_default : goal.returns-in_default
unfolding reap_first reap_if_zombie first_is_zombie is_zombie
returns-in_default c = let z : c.thread_of.result ≡ None = cc in rw (← c.thread_of.ensures.0, z) (refl, refl)

pub returns-then-is : goal.returns-then-is
unfolding reap_first reap_if_zombie first_is_zombie is_zombie
returns-then-is c = rw (← c.in-Some.ensures.0, ← c.if-is.ensures) (c.free_proc.ensures, refl)

pub returns : goal.returns
unfolding reap_first reap_if_zombie first_is_zombie is_zombie
returns c = rw (← c.in-Some.ensures.0, ← c.if-is.ensures) (refl, refl)
