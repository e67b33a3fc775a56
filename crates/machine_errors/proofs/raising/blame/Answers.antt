use Rattle.std.proofs.Common.{[], ◌∷◌, ap, sym, subst}
use Rattle.std.specs.Prelude.{map}
use Rattle.machine_core.specs.Text.{read}
use Rattle.machine_core.specs.Moves.{raised, stop}
use Rattle.lua_heap.specs.declared.world.World.{World as Memory}
use Rattle.lua_heap.specs.Reading.{value}
use Rattle.move_laws.proofs.Rows.{first, ended}
use Rattle.move_laws.proofs.Order.{order_after}
use Rattle.machine_errors.proofs.Texts.{texts_read_same, texts_in_order}
use Rattle.machine_errors.proofs.Leaving.{blames_so}
use Rattle.machine_errors.proofs.raising.blame.Goals as goal

pub returns-clause-leads : goal.returns-clause-leads
returns-clause-leads c = λ env.
    let named = c.blamed_text.new.world in
    let b = c.in_ok-error.ensures.blamed in
    let gives = c.give_values.ensures.all (value named.strings b.thrown ∷ []) (read 0 ∷ []) (sym (ap (map (value named.strings)) b.one)) in
    first (λ _ _. stop raised) (blames_so c.args.world.now named c.give_values.new.world c.args.text.now _ env (texts_read_same c.requires c.in_ok-error.ensures.added) b gives) ended

pub returns-clause-order : goal.returns-clause-order
returns-clause-order c =
    let r = c.give_values.ensures.rest in
    let o = texts_in_order c.requires.order c.in_ok-error.ensures.added in
    order_after o (ap (λ (W : Memory). W.strings) r) (ap (λ (W : Memory). W.codes) r) (subst Rattle.lua_heap.specs.Cells.CellsAreListed (sym r) o.listed)
