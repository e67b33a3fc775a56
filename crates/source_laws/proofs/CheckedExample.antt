-- A source whose code is checked.
use Rattle.std.proofs.Common.{lit≤, Some, refl}
use Rattle.scope_core.specs.Places.{placed}
use Rattle.code_core.specs.Check.{IsChecked}
use Rattle.code_of.specs.CodeOf.{code_of}
use Rattle.source_laws.proofs.Checked.{source_checked}
use Rattle.source_laws.proofs.SourceExample.{source, tokens, has_tokens, tree, has_tree, keeps_rules}

its_code_is_checked : IsChecked (code_of (Some source) (placed tree))
its_code_is_checked = source_checked source tokens tree (lit≤ tt) has_tokens has_tree keeps_rules (Some source) refl
