use Rattle.std.proofs.Common.{None, OnOk, rules, take, ap}
use Rattle.byteorder.specs.Endian.{little_bytes}
use Rattle.eris_write.specs.Output.{Puts}
use Rattle.eris_write.proofs.Putting.{on_ok, puts_is}
use Rattle.eris_write.proofs.output.Output.put_word.Goals as goal

pub returns : goal.returns
returns c =
    let h : OnOk c.put.result (Puts c.args.self.now c.put.new.self None (λ _. take 4 c.to_le_bytes-bytes.result)) = search (rules, c.put.ensures) in
    on_ok c.put.result h (λ h. puts_is c.args.self.now c.put.new.self None (take 4 c.to_le_bytes-bytes.result) (little_bytes 4 c.args.n) (ap (take 4) c.to_le_bytes-bytes.ensures) h)
