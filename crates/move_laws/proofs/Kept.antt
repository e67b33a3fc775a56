-- Worlds in memory that stay in order where only stacks or tables change.
use Rattle.std.proofs.Common.{◌≡◌, ap, sym, subst}
use Rattle.std.specs.Prelude.{map}
use Rattle.lua_heap.specs.declared.world.World.{World as Memory}
use Rattle.lua_heap.specs.Cells.{AreListed, CellsAreListed, open_cells_in}
use Rattle.move_laws.specs.Memory.{InOrder}
use Rattle.move_laws.proofs.Order.{order_after}

pub order_kept : {old new : Memory} → InOrder old → new ≡ record old { coros = new.coros } → (CellsAreListed old → CellsAreListed new) → InOrder new
order_kept o r l = order_after o (ap (λ (W : Memory). W.strings) r) (ap (λ (W : Memory). W.codes) r) (l o.listed)

-- cells too
pub order_with_cells : {old new : Memory} → InOrder old → new ≡ record old { cells = new.cells; coros = new.coros } → CellsAreListed new → InOrder new
order_with_cells o r l = order_after o (ap (λ (W : Memory). W.strings) r) (ap (λ (W : Memory). W.codes) r) l

pub listed_same : (old new : Memory) → new.cells ≡ old.cells → new.coros ≡ old.coros → CellsAreListed old → CellsAreListed new
listed_same old new c k l =
    subst (λ coros. AreListed new.cells.objects (map open_cells_in coros.objects)) (sym k) (subst (λ cells. AreListed cells.objects (map open_cells_in old.coros.objects)) (sym c) l)

pub order_with_tables : {old new : Memory} → InOrder old → new ≡ record old { tables = new.tables } → InOrder new
order_with_tables {old} {new} o r =
    order_after o (ap (λ (W : Memory). W.strings) r) (ap (λ (W : Memory). W.codes) r) (listed_same old new (ap (λ (W : Memory). W.cells) r) (ap (λ (W : Memory). W.coros) r) o.listed)

pub order_with_functions : {old new : Memory} → InOrder old → new ≡ record old { funcs = new.funcs } → InOrder new
order_with_functions {old} {new} o r =
    order_after o (ap (λ (W : Memory). W.strings) r) (ap (λ (W : Memory). W.codes) r) (listed_same old new (ap (λ (W : Memory). W.cells) r) (ap (λ (W : Memory). W.coros) r) o.listed)
