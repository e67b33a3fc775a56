use Rattle.std.proofs.Common.{◌∙◌, ap, is_some}
use Rattle.std.proofs.lemmas.Map.Made.{is_some-lookup}
use Rattle.table_core.specs.Value.{value_eq}
use Rattle.table_core.proofs.rows.Rows.holds.Goals as goal

pub returns : goal.returns
returns c = c.is_some.ensures ∙ ap is_some c.found.ensures ∙ is_some-lookup (value_eq c.args.key) c.args.self.now
