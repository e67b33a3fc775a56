use Rattle.std.proofs.Common.{◌≡◌, [], ◌∷◌, ◌∙◌, subst}
use Rattle.std.specs.Prelude.{IfSome, slice_set}
use Rattle.int_core.specs.Operations.{store}
use Rattle.object_pool.specs.Pool.{Pool}
use Rattle.table_core.specs.Table.{Contents}
use Rattle.machine_arms_tables.specs.Fields.{Settles}
use Rattle.machine_arms_tables.proofs.Leading.{if_none}
use Rattle.machine_arms_tables.proofs.Settling.{object_kept, unhandled_settles}
use Rattle.machine_arms_tables.proofs.unhandled.put_within.Goals as goal

pub returns-in-Some-clause-settles : goal.returns-in-Some-clause-settles
returns-in-Some-clause-settles c = c.in-Some.ensures.settles c.args.strings.now

pub returns-in_ok-id-in-Inherited-clause-settles : goal.returns-in_ok-id-in-Inherited-clause-settles
returns-in_ok-id-in-Inherited-clause-settles c =
    let id = c.in_ok-id-in-Inherited.id in
    let ts = c.put_field.new.tables.objects in
    subst (λ (p : Pool Contents). IfSome c.put_raw.result (λ _. Settles c.args.strings.now store (c.args.object ∷ c.args.key ∷ c.args.v ∷ []) p.objects (slice_set ts id.0 c.put_raw.new.table) [])) c.in-None.ensures.kept
    (unhandled_settles c.tables_are_read.ensures c.args.strings.now ts id c.get_mut.result.now c.put_raw.new.table c.args.object c.args.key c.args.v c.put_raw.result
    c.in_ok-id-in-Inherited.ensures.is c.get_mut.ensures.value c.in_ok-id-in-Inherited.ensures.lacks c.put_raw.ensures.named c.put_raw.ensures.put)

pub returns-in_ok-id-in-Inherited-clause-kept : goal.returns-in_ok-id-in-Inherited-clause-kept
returns-in_ok-id-in-Inherited-clause-kept c =
    if_none c.put_raw.result (λ same. same ∙ c.in-None.ensures.kept)
    (object_kept c.put_field.new.tables c.in_ok-id-in-Inherited.id.0 c.get_mut.result.now c.put_raw.new.table c.put_raw.result c.get_mut.ensures.value c.put_raw.ensures.kept)
