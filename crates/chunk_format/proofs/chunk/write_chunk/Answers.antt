use Rattle.std.proofs.Common.{List, ℕ, subst, sym}
use Rattle.chunk_format.specs.Grammar.{ChunkOf}
use Rattle.chunk_format.specs.Spelling.{kept}
use Rattle.chunk_format.proofs.SpelledFunctions.{chunk_spelled, chunk_written, Writable-kept}
use Rattle.chunk_format.proofs.chunk.write_chunk.Goals as goal

pub returns-clause-in_grammar : goal.returns-clause-in_grammar
returns-clause-in_grammar c =
    let spelling = chunk_written c.args.proto.now c.args.strip c.new-out.result.items c.write_header.new.out.items c.write.new.out.items c.new-out.ensures.items c.in_ok-write_header.ensures c.in_ok-write.ensures in
    subst (λ (bytes : List ℕ). ChunkOf (kept c.args.strip c.args.proto.now) bytes) (sym spelling)
    (chunk_spelled (kept c.args.strip c.args.proto.now) (Writable-kept c.args.strip c.args.proto.now c.requires))

pub returns-clause-spelling : goal.returns-clause-spelling
returns-clause-spelling c =
    chunk_written c.args.proto.now c.args.strip c.new-out.result.items c.write_header.new.out.items c.write.new.out.items c.new-out.ensures.items c.in_ok-write_header.ensures c.in_ok-write.ensures
