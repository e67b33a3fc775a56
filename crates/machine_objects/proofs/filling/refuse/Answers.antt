use Rattle.std.proofs.Common.{rules, ◌≡◌, subst, ◌∙◌}
use Rattle.machine_core.specs.FrameRows.{raises}
use Rattle.move_laws.specs.Memory.{Leads}
use Rattle.machine_moves.specs.Ending.{ending_of}
use Rattle.machine_moves.proofs.OnTop.{if_ok}
use Rattle.machine_objects.proofs.filling.refuse.Goals as goal

pub returns-clause-leads : goal.returns-clause-leads
returns-clause-leads c =
    let items : c.deref.result.now ≡ c.in_ok-text.text.items = search rules in
    if_ok c.raise.result c.raise.ensures.leads c.raise.ensures.leads (λ ending l _ env.
    subst (λ text. Leads (raises text) env c.args.world.now c.raise.new.world (ending_of ending)) (items ∙ c.in_ok-text.ensures c.args.world.now.strings) (l env))
