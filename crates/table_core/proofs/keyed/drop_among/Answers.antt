use Rattle.std.proofs.Common.{rules}
use Rattle.std.proofs.lemmas.Fn.{filter_same}
use Rattle.int_core.specs.Rows.{is_filled}
use Rattle.table_core.specs.Value.{lua_values}
use Rattle.table_core.proofs.keyed.drop_among.Goals as goal

pub returns : goal.returns
returns c = filter_same _ (is_filled lua_values) _ (λ row b f call. search rules) _ _ c.retain.ensures.filtered
