use Rattle.std.proofs.Common.{◌≡◌, ◌+◌, suc, false, map, take, arith, subst}
use Rattle.std.specs.Prelude.{nat_eq}
use Rattle.std.specs.List.{list_any}
use Rattle.table_core.specs.declared.value.FuncId.{FuncId}
use Rattle.eris_write.proofs.Numbered.{any_found, any_next}
use Rattle.eris_write.proofs.writer.is_among.Goals as goal

pub returns-then-item_at-id : goal.returns-then-item_at-id
returns-then-item_at-id c = any_found c.args.id.0 c.loop-at.at c.args.functions.now c.item_at.result c.item_at.ensures c.if-item_at-id.true

pub loop-at-preserved : goal.loop-at-preserved
loop-at-preserved c =
    let on : suc c.loop-at.at ≡ c.loop-at.at + 1 = omega arith in
    subst (λ n. list_any (nat_eq c.args.id.0) (map (λ (f : FuncId). f.0) (take n c.args.functions.now)) ≡ false) on
    (any_next c.args.id.0 c.loop-at.at c.args.functions.now c.item_at.result c.item_at.ensures c.if-item_at-id.false c.loop-at.invariant)
