use Rattle.std.proofs.Common.{rules, ap, ◌∙◌}
use Rattle.int_core.specs.Value.{shape}
use Rattle.library_rows.specs.Arguments.{is_table}
use Rattle.pure_functions.proofs.Seen.{no_table}
use Rattle.pure_functions.proofs.shapes.table_argument.Goals as goal

pub returns-in_default : goal.returns-in_default
returns-in_default c = record {
  none = ap (λ v. is_table (shape v)) (c.argument.ensures c.args.world.now.strings) ∙ no_table c.args.world.now.strings c.argument.result c.in_default.not-Table;
  text = search rules;
}
