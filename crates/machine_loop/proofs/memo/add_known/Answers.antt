use Rattle.std.proofs.Common.{refl}
use Rattle.machine_loop.specs.Knowing.{to_first, to_second, to_third}
use Rattle.machine_loop.proofs.memo.add_known.Goals as goal

pub returns-then-is_none : goal.returns-then-is_none
returns-then-is_none c = to_first refl

pub returns-then-is_none-2 : goal.returns-then-is_none-2
returns-then-is_none-2 c = to_second refl

pub returns-then-is_none-3 : goal.returns-then-is_none-3
returns-then-is_none-3 c = to_third refl
