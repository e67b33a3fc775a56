use Rattle.std.proofs.Common.{List, subst, arith}
use Rattle.std.proofs.lemmas.List.{take_all}
use Rattle.table_core.specs.declared.value.CellId.{CellId}
use Rattle.eris_write.specs.Writing.{Writes}
use Rattle.eris_write.proofs.Recorded.{cell_bytes, cell_fields_of, next_cell}
use Rattle.eris_write.proofs.writer.Writer.write_cells.Goals as goal

pub loop-at-preserved : goal.loop-at-preserved
loop-at-preserved c = next_cell c.args.self.now c.args.cells.now c.loop-at.at c.item_at.result c.number.result _ _ _ c.item_at.ensures c.number.ensures c.loop-at.invariant c.in_ok-put_word.ensures

pub returns : goal.returns
returns c =
    let t = c.loop-at-test.false in
    let w = c.args.self.now in
    subst (λ (cs : List CellId). Writes w c.args.out.now c.loop-at.out (cell_fields_of cs) (cell_bytes w cs)) (take_all c.loop-at.at c.args.cells.now (omega (arith, t))) c.loop-at.invariant
