use Rattle.std.proofs.Common.{[], ◌∷◌}
use Rattle.machine_core.specs.FrameRows.{error_in_handler}
use Rattle.machine_errors.proofs.Texts.{leads_from, texts_read_same}
use Rattle.machine_errors.proofs.Handled.{gives_failure}
use Rattle.machine_errors.proofs.handlers.give_up.Goals as goal

pub returns-clause-leads : goal.returns-clause-leads
returns-clause-leads c = λ env.
    let f = c.in_ok-failure.ensures in
    leads_from (texts_read_same c.requires f.added) (gives_failure c.handler_failure.new.world c.give_values.new.world c.in_ok-failure.failure.items env f.failure (c.give_values.ensures.all env (error_in_handler ∷ [])))
