use Rattle.std.proofs.Common.{◌≡◌, false, map, take}
use Rattle.std.specs.Prelude.{nat_eq}
use Rattle.std.specs.List.{list_any}
use Rattle.table_core.specs.declared.value.FuncId.{FuncId}
use Rattle.eris_write.proofs.writer.is_among.Given as goal

abbrev pub invariant-loop-at : goal.invariant-loop-at
invariant-loop-at l = list_any (nat_eq l.id.0) (map (λ (f : FuncId). f.0) (take l.at l.functions)) ≡ false
