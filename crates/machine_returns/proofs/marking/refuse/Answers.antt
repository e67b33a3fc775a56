use Rattle.std.proofs.Common.{rules, ◌≡◌, subst, ◌∙◌}
use Rattle.machine_core.specs.FrameRows.{raises}
use Rattle.move_laws.specs.Memory.{Leads}
use Rattle.machine_moves.specs.Ending.{ending_of}
use Rattle.machine_returns.proofs.Tops.{solid_of, top_fits}
use Rattle.machine_returns.proofs.Closed.{where_ok}
use Rattle.machine_returns.proofs.marking.refuse.Goals as goal

pub not_closable-requires-clause-frame : goal.not_closable-requires-clause-frame
not_closable-requires-clause-frame c =
    let p = c.requires.at.place in
    record { place = p; is = c.requires.at.is; checked = (top_fits c.args.world.now p (solid_of c.requires.sound) c.requires.at.is).checked }

pub raise-requires-clause-frame : goal.raise-requires-clause-frame
raise-requires-clause-frame c = record { place = c.requires.at.place; is = c.requires.at.is }

pub returns-clause-leads : goal.returns-clause-leads
returns-clause-leads c =
    let items : c.deref.result.now ≡ c.in_ok-text.text.items = search rules in
    where_ok c.raise.result c.raise.ensures.leads (λ ending l place is env.
    subst (λ text. Leads (raises text) env c.args.world.now c.raise.new.world (ending_of ending)) (items ∙ c.in_ok-text.ensures.is place is) (l env))
