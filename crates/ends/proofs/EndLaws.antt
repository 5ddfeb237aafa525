-- The queue stays in order on the way through exit and thread exit.
use Rattle.std.specs.Prelude.{Option}
use Prim.Native.Nat.{ℕ}
use mathlib.Core.Path.{◌≡◌}
use Rattle.rules.specs.Sizes.{slot_count}
use Rattle.rules.specs.Model.{Table}
use Rattle.rules.specs.Moves.{hand_over, reparent}
use Rattle.rules.specs.Calls.{reap_threads}
use Rattle.promises.specs.Laws.Scans.{sweep-keeps}
use Rattle.promises.specs.Order.Sound.{Queued, Sound}
use Rattle.promises.proofs.Order.QueuedKept.{hand_over-queued}
use Rattle.promises.proofs.Order.Kept.{chain-sound}
use Rattle.promises.specs.Order.Chains.{on_core}
use Rattle.promises.proofs.Calls.Walks.{reap_threads-chain}

pub reparent-queued : (t : Table) (s : ℕ) {u : Table} → u ≡ on_core (reparent t.books.init s) t → Queued t.core → Queued u.core
unfolding reparent on_core
reparent-queued t s e v = rw e (sweep-keeps Queued (hand_over t.books.init s) (hand_over-queued t.books.init s) slot_count t.core v)

pub reaped-queued : (m : Option ℕ) (t : Table) {u : Table} → u ≡ reap_threads m t → Sound t → Queued u.core
reaped-queued m t e w = rw e (chain-sound w (reap_threads-chain m t w)).queued
