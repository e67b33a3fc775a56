use Rattle.std.proofs.Common.{sym, subst, ◌∙◌}
use Rattle.tree_core.specs.Plain.{plain_body}
use Rattle.code_means.specs.Means.{Means}
use Rattle.compiler.proofs.Sources.{made_whole, made_checked, made_means}
use Rattle.compiler.proofs.compiling.compile.Goals as goal

pub keep-requires : goal.keep-requires
keep-requires c =
    made_checked c.args.tree.now c.requires.tree c.args.lines c.args.source.now c.requires.name c.in_ok-name.name c.in_ok-name.ensures c.in_ok-proto.proto c.in_ok-proto.ensures

pub returns-clause-code : goal.returns-clause-code
returns-clause-code c =
    c.keep.ensures
    ∙ made_whole c.args.tree.now c.requires.tree c.args.lines c.args.source.now c.requires.name c.in_ok-name.name c.in_ok-name.ensures c.in_ok-proto.proto c.in_ok-proto.ensures

pub returns-clause-means : goal.returns-clause-means
returns-clause-means c =
    subst (λ p. Means c.args.lines p (plain_body c.args.tree.now.main)) (sym c.keep.ensures)
    (made_means c.args.tree.now c.requires.tree c.args.lines c.args.source.now c.requires.name c.in_ok-name.name c.in_ok-name.ensures c.in_ok-proto.proto c.in_ok-proto.ensures)
