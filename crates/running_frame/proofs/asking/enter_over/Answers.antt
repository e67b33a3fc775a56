use Rattle.std.proofs.Common.{◌≡◌, [], ◌∷◌, ap, subst, ◌∙◌, rules}
use Rattle.machine_core.specs.World.{running}
use Rattle.lua_stack.specs.Frames.{Enters, KeptStack, TopBecomes, with_wait}
use Rattle.running_frame.proofs.Handlers.{runs_again, same_top}
use Rattle.frame_calls.proofs.Listed.{written_on_top}
use Rattle.running_frame.proofs.asking.enter_over.Goals as goal

pub returns-in-Ok-clause-enters : goal.returns-in-Ok-clause-enters
returns-in-Ok-clause-enters c = record { waiting = c.set_wait.new.self; waits = c.set_wait.ensures; enters = search rules }

pub returns-in-Ok-clause-listed : goal.returns-in-Ok-clause-listed
returns-in-Ok-clause-listed c =
    let e : Enters c.set_wait.new.self c.enter.new.self c.args.call.id c.args.call.shape (c.args.call.first ∷ c.args.call.key ∷ []) = search rules in
    e.cells ∙ c.set_wait.ensures.cells

pub set_wait-requires-in-Err : goal.set_wait-requires-in-Err
set_wait-requires-in-Err c =
    let same : c.enter.new.self ≡ c.set_wait.new.self = search rules in
    same_top (written_on_top c.requires.top c.set_wait.ensures) same

pub returns-in-Err-clause-kept : goal.returns-in-Err-clause-kept
returns-in-Err-clause-kept c =
    let same : c.enter.new.self ≡ c.set_wait.new.self = search rules in
    runs_again c.set_wait.ensures (subst (λ (t : KeptStack). TopBecomes t c.set_wait-in-Err.new.self (λ f x. with_wait running x)) same c.set_wait-in-Err.ensures)

pub returns-in-Err-clause-listed : goal.returns-in-Err-clause-listed
returns-in-Err-clause-listed c =
    let same : c.enter.new.self ≡ c.set_wait.new.self = search rules in
    c.set_wait-in-Err.ensures.cells ∙ ap (λ (s : KeptStack). s.open_cells) same ∙ c.set_wait.ensures.cells
