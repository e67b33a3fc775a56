use Rattle.std.proofs.Common.{◌≡◌, List, ap, subst, ◌∙◌}
use Rattle.int_core.specs.Operations.{callee_of, greatest_chain}
use Rattle.int_core.specs.Value.{Value}
use Rattle.lua_heap.specs.Plain.{plain}
use Rattle.lua_heap.specs.Reading.{value as meant}
use Rattle.machine_errors.specs.Protected.{first_of}
use Rattle.meta_ops.specs.Chains.{called_as}
use Rattle.machine_asked.proofs.asked.asked_callee.Goals as goal

pub returns : goal.returns
returns c =
    let W = c.args.world.now in
    let H = (plain W 0).heap in
    subst (λ v. (arguments : List Value) → callee_of greatest_chain H (meant W.strings v) arguments ≡ called_as W.strings H (meant W.strings v) arguments c.callee_of.result)
    (c.split_asked.ensures.called ∙ ap first_of c.deref.ensures.value) c.callee_of.ensures
