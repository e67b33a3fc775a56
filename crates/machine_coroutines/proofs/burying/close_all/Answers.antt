use Rattle.std.proofs.Common.{◌≡◌, ◌+◌, ◌<◌, suc, take, Some, arith, ap, sym, subst, ◌∙◌}
use Rattle.std.specs.Prelude.{get_or, slice_get, slice_set}
use Rattle.list_laws.proofs.Items.{length_set}
use Rattle.lua_heap.specs.declared.world.Cell.TheVariants.{Closed}
use Rattle.lua_stack.specs.declared.frame.OpenCell.{OpenCell}
use Rattle.machine_coroutines.specs.Burying.{ClosesEach}
use Rattle.machine_coroutines.proofs.Buried.{is_open, one_more, read_there}
use Rattle.machine_coroutines.proofs.burying.close_all.Goals as goal

abbrev none : OpenCell
none = record { cell = record { 0 = 0 }; frame = 0; register = 0 }

pub register_at-value-requires : goal.register_at-value-requires
register_at-value-requires c =
    let i = c.loop-listed.listed-index in
    let items = c.open_cells-listed-items.result.now in
    let there : slice_get c.args.stack.now.open_cells i ≡ Some (get_or items i none) = ap (λ l. slice_get l i) (sym c.open_cells-listed-items.ensures) ∙ read_there items i none c.loop-listed-test.true in
    is_open c.args.stack.now i (get_or items i none) c.requires.once there

pub get_mut-requires : goal.get_mut-requires
get_mut-requires c =
    let i = c.loop-listed.listed-index in
    let items = c.open_cells-listed-items.result.now in
    let there : slice_get c.args.stack.now.open_cells i ≡ Some (get_or items i none) = ap (λ l. slice_get l i) (sym c.open_cells-listed-items.ensures) ∙ read_there items i none c.loop-listed-test.true in
    subst (λ n. (get_or items i none).cell.0 < n) (sym c.loop-listed.invariant.size) (c.requires.within i (get_or items i none) there)

pub loop-listed-preserved : goal.loop-listed-preserved
loop-listed-preserved c =
    let i = c.loop-listed.listed-index in
    let items = c.open_cells-listed-items.result.now in
    let own = c.args.stack.now.open_cells in
    let one = get_or items i none in
    let there : slice_get own i ≡ Some one = ap (λ l. slice_get l i) (sym c.open_cells-listed-items.ensures) ∙ read_there items i none c.loop-listed-test.true in
    let now = slice_set c.loop-listed.cells.objects one.cell.0 (Closed c.register_at-value.result) in
    let on : suc i ≡ i + 1 = omega arith in
    record {
      closed = subst (λ n. ClosesEach c.args.stack.now (take n own) c.args.cells.now.objects now) on
          (one_more c.args.stack.now own i one c.register_at-value.result c.args.cells.now.objects c.loop-listed.cells.objects there c.loop-listed.invariant.closed c.register_at-value.ensures);
      size = length_set c.loop-listed.cells.objects one.cell.0 (Closed c.register_at-value.result) ∙ c.loop-listed.invariant.size;
    }
