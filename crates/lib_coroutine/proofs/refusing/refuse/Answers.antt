use Rattle.std.proofs.Common.{◌≡◌, ◌++◌, ap, subst, ◌∙◌}
use Rattle.std.specs.Prelude.{codes}
use Rattle.std.proofs.lemmas.Result.{IfOk-weaker}
use Rattle.int_core.specs.Value.{shape}
use Rattle.lua_heap.specs.Reading.{value}
use Rattle.machine_core.specs.FrameRows.{blames}
use Rattle.machine_core.specs.MachineStep.{bad_argument, wrong_type}
use Rattle.move_laws.specs.Memory.{Leads}
use Rattle.machine_moves.specs.Ending.{ending_of}
use Rattle.lib_coroutine.proofs.refusing.refuse.Goals as goal

pub returns-clause-leads : goal.returns-clause-leads
returns-clause-leads c =
    let W = c.args.world.now in
    let text : c.deref.result.now ≡ wrong_type 1 c.args.function.now c.args.wanted.now (shape (value W.strings c.args.got)) =
    c.deref.ensures.value ∙ c.in_ok-text.ensures ∙ ap (λ got. bad_argument 1 c.args.function.now (c.args.wanted.now ++ codes " expected, got " ++ got)) (c.type_name.ensures W.strings) in
    IfOk-weaker c.blame.result _ _ (λ ending b env. subst (λ text. Leads (blames text) env W c.blame.new.world (ending_of ending)) text (b env)) c.blame.ensures.leads
