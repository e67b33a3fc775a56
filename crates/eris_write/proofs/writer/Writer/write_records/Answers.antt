use Rattle.std.proofs.Common.{◌≡◌, List, length, subst, arith, rules}
use Rattle.std.specs.Prelude.{flat_map}
use Rattle.std.proofs.lemmas.List.{take_all}
use Rattle.graph_core.specs.declared.object.Object.{Object}
use Rattle.eris_write.specs.Images.{fields_in, records_bytes}
use Rattle.eris_write.specs.Writing.{Writes}
use Rattle.eris_write.proofs.Recorded.{next_record}
use Rattle.eris_write.proofs.writer.Writer.write_records.Goals as goal

pub loop-at-preserved : goal.loop-at-preserved
loop-at-preserved c fuel =
    next_record c.args.self.now fuel c.args.self.now.numbering.now.order.keys c.loop-at.at c.object_at.result _ _ _ c.object_at.ensures (c.loop-at.invariant fuel) (c.in_ok-write_record.ensures fuel)

pub returns : goal.returns
returns c fuel =
    let t = c.loop-at-test.false in
    let w = c.args.self.now in
    let e : c.len-at-end.result ≡ length w.numbering.now.order.keys = search rules in
    subst (λ (os : List Object). Writes w c.args.out.now c.loop-at.out (flat_map (fields_in w fuel) os) (records_bytes w fuel os)) (take_all c.loop-at.at w.numbering.now.order.keys (omega (arith, t, e))) (c.loop-at.invariant fuel)
