use Rattle.std.proofs.Common.{◌≡◌, false, not, sym, subst, ◌∙◌, ap}
use Rattle.code_core.specs.Writable.{Writable}
use Rattle.chunk_format.specs.Grammar.{ChunkOf}
use Rattle.chunk_format.specs.Spelling.{kept}
use Rattle.chunk_format.specs.Spelling as spelled
use Rattle.chunk_format.proofs.SpelledFunctions.{kept-nothing_stripped}
use Rattle.compile_text.specs.Source.{IsTreeOf}
use Rattle.compile_chunk.specs.Chunk.{IsCodeOf, script_in}
use Rattle.compile_chunk.proofs.Chunks.{of_source, code_made, writable, chunk_made}
use Rattle.compile_chunk.proofs.chunk.chunk_of.Goals as goal

pub compile-requires-clause-tree : goal.compile-requires-clause-tree
compile-requires-clause-tree c = of_source c.script_in.result.now c.in_ok-tree.tree c.in_ok-tree.ensures.tree

pub write_chunk-requires : goal.write_chunk-requires
write_chunk-requires c = subst Writable (sym c.proto.ensures.same) (writable _ c.proto.ensures.checked)

pub returns-clause-chunk : goal.returns-clause-chunk
returns-clause-chunk c =
    let script = script_in c.args.content.now in
    let tree : IsTreeOf script c.in_ok-tree.tree = subst (λ s. IsTreeOf s c.in_ok-tree.tree) c.script_in.ensures c.in_ok-tree.ensures.tree in
    let code : IsCodeOf c.args.name.now script (not c.args.strip) c.in_ok-checked.checked =
    code_made c.args.name.now script (not c.args.strip) c.in_ok-tree.tree c.in_ok-checked.checked tree c.in_ok-checked.ensures.code c.in_ok-checked.ensures.means in
    let same : kept false c.proto.result.now ≡ c.in_ok-checked.checked = kept-nothing_stripped c.proto.result.now ∙ c.proto.ensures.same in
    chunk_made c.args.name.now script c.in_ok-bytes.bytes.items c.args.strip c.in_ok-checked.checked code c.proto.ensures.checked
    (c.in_ok-bytes.ensures.spelling ∙ ap spelled.chunk same) (subst (λ p. ChunkOf p c.in_ok-bytes.bytes.items) same c.in_ok-bytes.ensures.in_grammar)
