use Rattle.std.proofs.Common.{[], ◌∷◌}
use Rattle.table_core.specs.declared.value.Value.TheVariants.{Bool as Boolean, Str}
use Rattle.machine_arms_tables.specs.Fields.{Settles}
use Rattle.machine_arms_tables.specs.Orders.{order_of}
use Rattle.machine_arms_tables.proofs.Compared.{of_both, order_settles, truth_found}
use Rattle.machine_arms_tables.proofs.comparing.are_ordered.Goals as goal

pub order-requires : goal.order-requires
order-requires c = record { left = c.in_ok-s.ensures.there; right = c.in_ok-t.ensures.there }

pub returns-in-Found-Bool : goal.returns-in-Found-Bool
returns-in-Found-Bool c =
    of_both (λ l r. Settles c.args.strings.now (order_of c.args.op) (l ∷ r ∷ []) c.args.tables.now.objects c.args.tables.now.objects (Boolean c.in-Found-Bool.truth ∷ [])) c.args.left c.args.right c.in_ok-s.ensures.is c.in_ok-t.ensures.is
    (order_settles c.args.strings.now c.args.tables.now.objects c.args.op c.in_ok-s.s c.in_ok-t.t c.in-Found-Bool.truth (truth_found c.args.strings.now c.args.tables.now.objects (Str c.in_ok-t.t) c.order.ensures c.in-Found-Bool.is c.in-Found-Bool.field-0-is))
