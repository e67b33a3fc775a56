use Rattle.std.proofs.Common.{[], ◌∷◌}
use Rattle.int_core.specs.Operations.{equal}
use Rattle.table_core.specs.declared.value.Value.TheVariants.{Bool as Boolean, Table}
use Rattle.machine_arms_tables.specs.Fields.{Settles}
use Rattle.machine_arms_tables.proofs.Compared.{of_both, tables_settle, truth_found}
use Rattle.machine_arms_tables.proofs.comparing.are_equal.Goals as goal

pub returns-in-Found-Bool : goal.returns-in-Found-Bool
returns-in-Found-Bool c =
    of_both (λ l r. Settles c.args.strings.now equal (l ∷ r ∷ []) c.args.tables.now.objects c.args.tables.now.objects (Boolean c.in-Found-Bool.truth ∷ [])) c.args.left c.args.right c.in_ok-m.ensures.is c.in_ok-n.ensures.is
    (tables_settle c.args.strings.now c.args.tables.now.objects c.in_ok-m.m c.in_ok-n.n c.in-Found-Bool.truth (truth_found c.args.strings.now c.args.tables.now.objects (Table c.in_ok-n.n) c.equal.ensures c.in-Found-Bool.is c.in-Found-Bool.field-0-is))
