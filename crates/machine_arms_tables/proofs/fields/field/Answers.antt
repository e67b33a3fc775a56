use Rattle.std.proofs.Common.{◌≡◌, sym, subst, ℕ, List, Option, Some, None}
use Rattle.std.specs.Prelude.{IfSome, [], ◌∷◌, slice_get}
use Rattle.int_core.specs.Operations.{index}
use Rattle.machine_arms_tables.specs.Fields.{field_in, Settles}
use Rattle.machine_arms_tables.proofs.Settling.{field_settles}
use Rattle.table_core.specs.declared.value.Value.{Value as Kept}
use Rattle.machine_arms_tables.proofs.fields.field.Goals as goal

pub returns-in-Some-clause-settles : goal.returns-in-Some-clause-settles
returns-in-Some-clause-settles c = by c.field_of.result c.field_of.ensures
  where
    there : slice_get c.args.tables.now.objects c.in-Table.id.0 ≡ Some c.in-Some.table.now
    there = c.in-Some.ensures

    by : (o : Option Kept) → o ≡ field_in c.in-Some.table.now c.args.key
        → IfSome o (λ v. (texts : List (List ℕ)) → Settles texts index (c.args.object ∷ c.args.key ∷ []) c.args.tables.now.objects c.args.tables.now.objects (v ∷ []))
    by None e = tt
    by (Some v) e = λ texts. subst (λ o. Settles texts index (o ∷ c.args.key ∷ []) c.args.tables.now.objects c.args.tables.now.objects (v ∷ [])) (sym c.in-Table.is)
        (field_settles c.tables_are_read.ensures c.args.tables.now.objects c.in-Table.id c.in-Some.table.now c.args.key v there (sym e) texts)
