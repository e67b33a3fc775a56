use Rattle.compile_chunk.proofs.Chunks.{of_source, code_made}
use Rattle.compile_chunk.proofs.code.code_of.Goals as goal

pub compile-requires-clause-tree : goal.compile-requires-clause-tree
compile-requires-clause-tree c = of_source c.args.source.now c.in_ok-tree.tree c.in_ok-tree.ensures.tree

pub returns-clause-code : goal.returns-clause-code
returns-clause-code c = code_made c.args.name.now c.args.source.now c.args.lines c.in_ok-tree.tree c.in_ok-compile.field-0 c.in_ok-tree.ensures.tree c.in_ok-compile.ensures.code c.in_ok-compile.ensures.means
