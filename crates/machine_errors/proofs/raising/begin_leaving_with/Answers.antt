use Rattle.std.proofs.Common.{◌≡◌, ◌≤◌, [], ◌∷◌, length, ap, sym, subst, ◌∙◌}
use Rattle.std.specs.Prelude.{get_or, map}
use Rattle.machine_core.specs.Text.{read}
use Rattle.machine_core.specs.Moves.{raised, stop}
use Rattle.lua_heap.specs.declared.world.World.{World as Memory}
use Rattle.lua_heap.specs.Cells.{CellsAreListed}
use Rattle.lua_heap.specs.Reading.{value}
use Rattle.move_laws.proofs.Rows.{first, ended}
use Rattle.move_laws.proofs.Order.{order_after}
use Rattle.machine_moves.proofs.OnTop.{size_on_top}
use Rattle.machine_errors.specs.Raising.{LeavesWith}
use Rattle.machine_errors.proofs.Leaving.{begins, none_from_more, place_shut}
use Rattle.machine_errors.proofs.raising.begin_leaving_with.Goals as goal

pub code_on_top-requires-clause-frame : goal.code_on_top-requires-clause-frame
code_on_top-requires-clause-frame c = record { place = c.requires.frame.place; is = c.requires.frame.is; checked = c.requires.frame.checked }

pub close_cells-requires-clause-frame : goal.close_cells-requires-clause-frame
close_cells-requires-clause-frame c = record { place = c.requires.frame.place; is = c.requires.frame.is }

pub wait_to_leave-requires : goal.wait_to_leave-requires
wait_to_leave-requires c =
    let p = c.requires.frame in
    let size = size_on_top c.code_on_top.ensures p.is in
    record {
      place = p.place;
      is = place_shut c.args.world.now c.close_cells.new.world p.place p.is (c.close_cells.ensures.makes []);
      size = size;
      room = subst (λ n. n ≤ length p.place.top.own.registers) (sym size) p.room;
      closed = λ co s r. none_from_more s _ (c.close_cells.ensures.none co s r);
    }

pub returns-clause-leads : goal.returns-clause-leads
returns-clause-leads c = λ text b env.
    let old = c.args.world.now in
    let shut = c.close_cells.new.world in
    let kept = c.wait_to_leave.new.world in
    let p = c.requires.frame in
    let size = size_on_top c.code_on_top.ensures p.is in
    let s : shut.strings ≡ old.strings = ap (λ (W : Memory). W.strings) c.close_cells.ensures.rest in
    let t : kept.strings ≡ old.strings = ap (λ (W : Memory). W.strings) c.wait_to_leave.ensures.rest ∙ s in
    let e : c.index-thrown.result.now ≡ b.thrown = c.index-thrown.ensures ∙ ap (λ vs. get_or vs 0 c.index-thrown.result.now) b.one in
    let leaves = subst (λ v. LeavesWith shut kept _ (value shut.strings v)) e c.wait_to_leave.ensures.leaves in
    let gives = c.give_values.ensures.all (value kept.strings b.thrown ∷ []) (read 0 ∷ []) (sym (ap (map (value kept.strings)) b.one)) in
    first (λ _ _. stop raised) (begins old shut kept c.give_values.new.world p.place _ b.thrown text env p.is (c.close_cells.ensures.makes []) size leaves gives s t b.says) ended

pub returns-clause-order : goal.returns-clause-order
returns-clause-order c =
    let strings = ap (λ (W : Memory). W.strings) c.give_values.ensures.rest ∙ ap (λ (W : Memory). W.strings) c.wait_to_leave.ensures.rest ∙ ap (λ (W : Memory). W.strings) c.close_cells.ensures.rest in
    let codes = ap (λ (W : Memory). W.codes) c.give_values.ensures.rest ∙ ap (λ (W : Memory). W.codes) c.wait_to_leave.ensures.rest ∙ ap (λ (W : Memory). W.codes) c.close_cells.ensures.rest in
    order_after c.requires.order strings codes (subst CellsAreListed (sym c.give_values.ensures.rest) (c.wait_to_leave.ensures.listed c.close_cells.ensures.listed))
