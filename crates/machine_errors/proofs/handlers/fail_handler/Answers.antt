use Rattle.std.proofs.Common.{[], ◌∷◌, ◌++◌, ap, sym, subst}
use Rattle.lua_heap.specs.declared.world.World.{World as Memory}
use Rattle.lua_heap.specs.Reading.{value}
use Rattle.machine_core.specs.FrameRows.{error_in_handler, gives_up}
use Rattle.move_laws.proofs.Rows.{first}
use Rattle.machine_errors.specs.Handlers.{IsFailure}
use Rattle.machine_errors.proofs.Texts.{leads_from, texts_read_same}
use Rattle.machine_errors.proofs.Handled.{gives_failure}
use Rattle.machine_errors.proofs.handlers.fail_handler.Goals as goal

pub returns-clause-leads : goal.returns-clause-leads
returns-clause-leads c = λ env.
    let f = c.in_ok-failure.ensures in
    let left = c.pop_frame.new.world in
    let is = subst (λ texts. IsFailure (value texts) c.in_ok-failure.failure.items) (sym (ap (λ (W : Memory). W.strings) c.pop_frame.ensures.rest)) f.failure in
    leads_from (texts_read_same c.requires.sound f.added) (first (λ _ _. gives_up) (c.pop_frame.ensures.makes env)
    (gives_failure left c.give_values.new.world c.in_ok-failure.failure.items (env ++ []) is (c.give_values.ensures.all (env ++ []) (error_in_handler ∷ []))))
