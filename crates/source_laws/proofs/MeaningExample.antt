-- A source whose code means it.
use Rattle.std.proofs.Common.{true, lit≤, Some}
use Rattle.scope_core.specs.Places.{placed}
use Rattle.code_means.specs.Means.{Means}
use Rattle.code_of.specs.CodeOf.{code_of}
use Rattle.source_laws.proofs.Meaning.{source_means}
use Rattle.source_laws.proofs.SourceExample.{source, tokens, has_tokens, tree, has_tree, keeps_rules}

its_code_means_it : Means true (code_of (Some source) (placed tree)) (placed tree)
its_code_means_it = source_means source tokens tree (lit≤ tt) has_tokens has_tree keeps_rules (Some source)
