use Rattle.std.proofs.Common.{◌≡◌, ◌∙◌, subst}
use Rattle.compile_chunk.specs.Chunk.{IsChunkOf, script_in}
use Rattle.compile_chunk.proofs.Chunks.{chunk_once}
use Rattle.program.specs.Compiling.{source_name, Compiles}
use Rattle.program.proofs.compiling.chunk_of_script.Goals as goal

pub returns-clause-chunk : goal.returns-clause-chunk
returns-clause-chunk c =
    let name : c.as_slice.result.now ≡ source_name c.args.script.now = c.as_slice.ensures.value ∙ c.in_ok-name.ensures in
    let made : Compiles c.args.script.now c.args.strip c.args.content.now c.in_ok-chunk_of.field-0.items = subst (λ n. IsChunkOf n (script_in c.args.content.now) c.args.strip c.in_ok-chunk_of.field-0.items) name c.in_ok-chunk_of.ensures.chunk in
    record { compiles = made; only = chunk_once (source_name c.args.script.now) (script_in c.args.content.now) c.in_ok-chunk_of.field-0.items c.args.strip made }
