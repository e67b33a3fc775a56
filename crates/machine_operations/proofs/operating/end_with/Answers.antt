use Rattle.std.proofs.Common.{ap}
use Rattle.lua_heap.specs.declared.world.World.{World as Memory}
use Rattle.machine_operations.proofs.Ended.{ends_so, has_code, may_follow}
use Rattle.machine_operations.proofs.operating.end_with.Goals as goal

pub follow-requires-clause-code : goal.follow-requires-clause-code
follow-requires-clause-code c = has_code c.copy_first.ensures.whole

pub follow-requires-clause-safe : goal.follow-requires-clause-safe
follow-requires-clause-safe c = may_follow c.copy_first.ensures.copies (ap (λ (W : Memory). W.strings) c.copy_first.ensures.rest) c.copy_first.ensures.whole c.requires.safe

pub returns-clause-ends : goal.returns-clause-ends
returns-clause-ends c =
    ends_so c.copy_first.ensures.copies (ap (λ (W : Memory). W.strings) c.copy_first.ensures.rest) c.copy_first.ensures.whole c.follow.new.world c.follow.ensures.leads
