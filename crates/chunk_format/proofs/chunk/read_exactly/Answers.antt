use Rattle.std.proofs.Common.{◌<◌, ◌∙◌, length, drop-cons, arith, sym, ap, Err}
use Rattle.chunk_format.specs.Reading.{read_exactly}
use Rattle.chunk_format.proofs.Chunks.{read_exactly-failed, says_of}
use Rattle.chunk_format.proofs.chunk.read_exactly.Goals as goal

pub returns-in-Err : goal.returns-in-Err
returns-in-Err c =
    let within : c.loop-byte.byte-index < length c.args.text.now = omega arith in
    let cut = drop-cons c.args.text.now c.loop-byte.byte-index 0 within in
    let cut_read = ap (λ text. read_exactly text c.args.kind c.loop-byte.input) (sym cut) in
    let failed = read_exactly-failed _ c.args.kind _ c.loop-byte.input c.byte.new.self c.byte.new.self c.in-Err.fault c.in-Err.ensures.reads in
    record { reads = says_of _ _ c.byte.new.self (Err c.in-Err.fault) (cut_read ∙ c.loop-byte.invariant) failed }
