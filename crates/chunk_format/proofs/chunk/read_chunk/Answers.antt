use Rattle.chunk_format.specs.Reading.{read_chunk}
use Rattle.chunk_format.proofs.Chunks.{exact_chunk, found_by, only_by, says_at}
use Rattle.chunk_format.proofs.chunk.read_chunk.Goals as goal

pub returns-clause-found : goal.returns-clause-found
returns-clause-found c =
    found_by exact_chunk c.args.bytes.now c.read_main.new.input c.read_main.result
    (says_at read_chunk c.new-input.result c.args.bytes.now c.read_main.new.input c.read_main.result c.new-input.ensures c.read_main.ensures.reads)

pub returns-clause-only : goal.returns-clause-only
returns-clause-only c =
    only_by exact_chunk c.args.bytes.now c.read_main.new.input c.read_main.result
    (says_at read_chunk c.new-input.result c.args.bytes.now c.read_main.new.input c.read_main.result c.new-input.ensures c.read_main.ensures.reads)
