use Rattle.std.proofs.Common.{ap, sym, ◌∙◌}
use Rattle.int_core.specs.Rows.{set}
use Rattle.table_core.specs.Value.{lua_values}
use Rattle.table_core.specs.declared.value.Value.{Value as Kept}
use Rattle.machine_arms_tables.proofs.fields.put_in_place.Goals as goal

pub returns-in-Str-clause-put : goal.returns-in-Str-clause-put
returns-in-Str-clause-put c = λ yes. c.set_string.ensures.set yes ∙ ap (λ (k : Kept). set lua_values c.args.table.now.rows k c.args.v) (sym c.in-Str.is)
