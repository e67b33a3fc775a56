use Rattle.eris_write.proofs.Readable.{cell_text, cells_readable}
use Rattle.eris_write.proofs.Putting.{on_ok, puts_as}
use Rattle.eris_write.proofs.Recorded.{closed_cell, open_cell, none_written}
use Rattle.std.proofs.Common.{None, [], ◌∷◌, sym, arith}
use Rattle.image_core.specs.Image.{Record, no_record}
use Rattle.image_core.specs.Records.{cell_fields, record_of_cell}
use Rattle.image_bytes.specs.Bytes.{Reader, record_format}
use Rattle.lua_heap.specs.Plain.{cell, plain}
use Rattle.eris_write.specs.Writing.{inside_in, naming_in, texts_in}
use Rattle.eris_write.proofs.Spelled.{no_cell_spelled}
use Rattle.eris_write.proofs.writer.Writer.write_cell_at.Goals as goal

pub returns-in-Some : goal.returns-in-Some
returns-in-Some c =
    on_ok c.write_open.result c.write_open.ensures
    (λ h fuel. open_cell c.args.self.now fuel c.args.number c.get.result.now c.in-Some.place _ _ c.get.ensures c.in-Some.ensures h)

pub returns-in-None : goal.returns-in-None
returns-in-None c =
    on_ok c.write_closed.result c.write_closed.ensures
    (λ h fuel. closed_cell c.args.self.now fuel c.args.number c.get.result.now c.cell_value.result _ _ c.get.ensures c.in-None.ensures (c.cell_value.ensures fuel) h)

pub returns-then-number-len : goal.returns-then-number-len
returns-then-number-len c =
    let w = c.args.self.now in
    on_ok c.put_byte.result c.put_byte.ensures
    (λ h fuel. none_written w (cell_fields (plain w.world.now fuel) (inside_in w)) (record_of_cell (naming_in w) (plain w.world.now fuel)) (cell (texts_in w)) w.world.now.cells.objects c.args.number _ _ (λ (r : Record) (R : Reader). (record_format R 3).spell r) (omega (arith, c.len.ensures, c.if-number-len.true)) (puts_as _ _ None (λ _. 255 ∷ []) (λ R. (record_format R 3).spell no_record) (λ R. sym (no_cell_spelled R)) h))

pub cell_value-requires-clause-there : goal.cell_value-requires-clause-there
cell_value-requires-clause-there c = let e = c.len.ensures in let f = c.if-number-len.false in cells_readable c.args.self.now.world.now c.requires c.args.number (omega (arith, e, f))

pub write_closed-requires : goal.write_closed-requires
write_closed-requires c = cell_text c.strings_are_there.ensures c.args.self.now.world.now c.requires c.args.number c.get.result.now c.cell_value.result c.get.ensures (c.cell_value.ensures 0)
