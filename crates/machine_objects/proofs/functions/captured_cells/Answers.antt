use Rattle.std.proofs.Common.{◌≡◌, ◌∷◌, ◌++◌, [], List, Some, length, map, ap, refl, sym, rules, ◌∙◌}
use Rattle.table_core.specs.declared.value.CellId.{CellId}
use Rattle.machine_objects.specs.Opening.{upvalues_at}
use Rattle.machine_objects.proofs.Made.{has_cell, one_cell, all_captured}
use Rattle.machine_objects.proofs.functions.captured_cells.Goals as goal

pub loop-at-init : goal.loop-at-init
loop-at-init c = λ place is.
    let none : c.in_ok-cells.cells.items ≡ [] = search rules in
    ap (λ (l : List CellId). Some (map (λ (c : CellId). c.0) l)) (sym none)

pub captured_cell-cell-requires-clause-there : goal.captured_cell-cell-requires-clause-there
captured_cell-cell-requires-clause-there c = has_cell c.args.world.now c.args.code (upvalues_at c.args.world.now c.args.code) c.loop-at.at c.upvalue-up.result c.requires.there refl c.upvalue-up.ensures

pub loop-at-preserved : goal.loop-at-preserved
loop-at-preserved c = λ place is.
    let more : c.push.new.self.items ≡ c.loop-at.cells.items ++ c.captured_cell-cell.result ∷ [] = search rules in
    one_cell c.args.world.now (upvalues_at c.args.world.now c.args.code) c.loop-at.at c.upvalue-up.result c.loop-at.cells.items c.captured_cell-cell.result place is c.upvalue-up.ensures c.captured_cell-cell.ensures (c.loop-at.invariant place is)
    ∙ ap (λ (l : List CellId). Some (map (λ (c : CellId). c.0) l)) (sym more)

pub returns : goal.returns
returns c =
    let n : c.loop-at.at ≡ length (upvalues_at c.args.world.now c.args.code) = search rules in
    all_captured c.args.world.now c.args.code c.loop-at.at c.loop-at.cells.items c.requires.there n c.loop-at.invariant
