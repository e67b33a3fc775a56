use Rattle.std.proofs.Common.{◌≡◌, [], ◌∷◌, List, length, subst, sym, arith, rules}
use Rattle.std.proofs.lemmas.List.{take_all}
use Rattle.table_core.specs.declared.value.Value.{Value}
use Rattle.image_core.specs.Records.{of_value}
use Rattle.eris_write.specs.Writing.{HasText, Writes, item_bytes, read_in, texts_in}
use Rattle.eris_write.proofs.Written.{next_row, rows_bytes, rows_fields}
use Rattle.eris_write.proofs.writer.Writer.write_rows.Goals as goal

pub write-requires : goal.write-requires
write-requires c = subst (HasText (texts_in c.args.self.now)) (sym c.value.ensures.same) (c.requires c.loop-at.at c.row-key.result c.row-key.ensures).0

pub loop-at-preserved : goal.loop-at-preserved
loop-at-preserved c =
    let w = c.args.self.now in
    let b = c.loop-at.out in
    let m = c.write.new.out in
    let key = subst (λ (v : Value). Writes w b m (of_value (read_in w v) ∷ []) (item_bytes w v)) c.value.ensures.same c.in_ok-write.ensures in
    next_row w c.args.table.now.rows c.loop-at.at c.row-key.result _ b m _ c.row-key.ensures c.loop-at.invariant key c.in_ok-write-2.ensures

pub returns : goal.returns
returns c =
    let t = c.loop-at-test.false in
    let w = c.args.self.now in
    let e : c.rows-at-end.result ≡ length c.args.table.now.rows = search rules in
    subst (λ (rows : List (Value × Value)). Writes w c.args.out.now c.loop-at.out (rows_fields w rows) (rows_bytes w rows)) (take_all c.loop-at.at c.args.table.now.rows (omega (arith, t, e))) c.loop-at.invariant
