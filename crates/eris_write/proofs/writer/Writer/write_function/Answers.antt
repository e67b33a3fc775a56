use Rattle.std.proofs.Common.{List, ap, arith, length, subst}
use Rattle.table_core.specs.declared.value.CellId.{CellId}
use Rattle.eris_write.specs.Writing.{Writes}
use Rattle.eris_write.proofs.Putting.{on_ok}
use Rattle.eris_write.proofs.Recorded.{cell_fields_of, cell_bytes, function_written}
use Rattle.std.proofs.lemmas.List.{length-map}
use Rattle.lua_heap.specs.Codes.{functions}
use Rattle.lua_heap.specs.Plain.{function}
use Rattle.eris_write.proofs.Readable.{few_cells}
use Rattle.eris_write.proofs.writer.Writer.write_function.Goals as goal

pub write_code-requires : goal.write_code-requires
write_code-requires c = c.requires.code

pub returns : goal.returns
returns c =
    let w = c.args.self.now in
    on_ok c.write_cells.result c.write_cells.ensures
    (λ h. function_written w c.args.func.now (length c.as_slice-cells.result.now) _ _ _ _ (ap length c.as_slice-cells.ensures.value) c.in_ok-write_code.ensures c.in_ok-put_byte.ensures
    (subst (λ (cs : List CellId). Writes w c.put_byte.new.self c.write_cells.new.out (cell_fields_of cs) (cell_bytes w cs)) c.as_slice-cells.ensures.value h))

pub overflow_cast-count : goal.overflow_cast-count
overflow_cast-count c =
    let f = few_cells (function (functions c.args.self.now.world.now.codes) c.args.func.now) c.requires in
    let l = length-map c.args.func.now.cells.items (λ (id : CellId). id.0) in
    let e = ap length c.as_slice-cells.ensures.value in
    omega (arith, f, l, e)
