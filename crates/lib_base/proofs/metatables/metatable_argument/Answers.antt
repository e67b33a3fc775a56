use Rattle.std.proofs.Common.{rules, ap, ◌∙◌}
use Rattle.std.specs.Prelude.{codes}
use Rattle.int_core.specs.Value.{shape}
use Rattle.library_rows.specs.Arguments.{wrong_type}
use Rattle.library_rows.specs.Base.{is_table_or_nil}
use Rattle.lib_base.proofs.MetatableRows.{no_metatable}
use Rattle.lib_base.proofs.metatables.metatable_argument.Goals as goal

pub returns-in_default : goal.returns-in_default
returns-in_default c = (
  record { none = ap (λ v. is_table_or_nil (shape v)) (c.argument.ensures c.args.world.now.strings) ∙ no_metatable c.args.world.now.strings c.argument.result c.in_default.not-Table (search rules) },
  c.wrong_type.ensures ∙ ap (λ s. wrong_type 2 (codes "setmetatable") (codes "nil or table") s) c.argument_shape.ensures,
)
