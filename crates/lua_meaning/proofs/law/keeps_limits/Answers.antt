use Rattle.std.proofs.Common.{arith}
use Rattle.lua_meaning.specs.Opening.{primitives}
use Rattle.lua_meaning.specs.TreeMeaning.{trees}
use Rattle.lua_meaning.proofs.Limits.{ticks_keep}
use Rattle.lua_meaning.proofs.law.keeps_limits.Goals as goal

pub returns : goal.returns
returns c = λ celling builds n W shallow.
    let k = ticks_keep (trees celling) (primitives builds) W.fuel n W (record { spends = omega arith; top = shallow.top; others = shallow.others }) in
    (record { top = k.top; others = k.others }, k.spends)
