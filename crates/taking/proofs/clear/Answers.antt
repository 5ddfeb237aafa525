use Rattle.std.specs.Prelude.{None}
use Rattle.std.proofs.Common.{◌≡◌, refl, ap, false, ◌∙◌}
use Rattle.rules.specs.declared.Process.{Process}
use Rattle.rules.specs.declared.ProcState.TheVariants.{UNUSED}
use Rattle.rules.specs.Sizes.{trapframe, trampoline, page_size, name_size}
use Rattle.rules.specs.Model.{free, pid}
use Rattle.rules.specs.Calls.{fill}
use Rattle.promises.specs.Order.Chains.{on_core}
use Rattle.words.specs.Reading.{table_of, start_of, bytes_of, tab, tab_from}
use Rattle.taking.specs.Parts.{slot_of}
use Rattle.taking.proofs.clear.Goals as goal

free-is : slot_of (record { state = UNUSED; channel = 0; killed = false; xstate = 0; pid = pid 0; queued = false })
    (record { group = None; parent = None; thread = false; system = false })
    (start_of (record { below = 0; sp = 0; entry = 0; top = 0; arg = 0; ret = 0; name0 = 0; name1 = 0 })) ≡ free
unfolding free trapframe trampoline page_size name_size bytes_of tab tab_from
free-is = refl

pub returns : goal.returns
unfolding fill
returns c =
    c.set_slot.ensures ∙ ap (λ (p : Process). on_core (fill c.args.i p) (table_of c.args.t.now)) free-is
