use Rattle.std.proofs.Common.{◌≡◌, ◌-◌, Some, subst, rules}
use Rattle.std.specs.Prelude.{slice_get}
use Rattle.code_core.specs.Instruction.{c_of}
use Rattle.running_frame.specs.Asking.{handled_events}
use Rattle.running_frame.proofs.Handlers.{operator_named}
use Rattle.running_frame.proofs.asking.operator_of.Goals as goal

pub returns : goal.returns
returns c =
    let number : c.from-number.result ≡ c_of c.args.i = search rules in
    operator_named (c_of c.args.i) c.in_ok-event.event (subst (λ n. Some c.in_ok-event.event ≡ slice_get handled_events (n - 6)) number c.in_ok-event.ensures)
