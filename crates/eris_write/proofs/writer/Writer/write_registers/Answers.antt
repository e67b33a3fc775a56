use Rattle.std.proofs.Common.{◌≡◌, ◌+◌, length, rules}
use Rattle.eris_write.proofs.Putting.{on_ok}
use Rattle.eris_write.proofs.Written.{registers_written}
use Rattle.eris_write.proofs.writer.Writer.write_registers.Goals as goal

pub returns : goal.returns
returns c =
    let sum : c.in_ok-count.count ≡ length c.args.registers.now + c.args.nils = search rules in
    on_ok c.write_nils.result c.write_nils.ensures
    (λ h. registers_written c.args.self.now c.args.registers.now c.args.nils c.in_ok-count.count _ _ _ _ sum c.in_ok-put_word.ensures c.in_ok-write_all.ensures h)
