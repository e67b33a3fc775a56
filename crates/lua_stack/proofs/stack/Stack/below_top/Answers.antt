use Rattle.std.proofs.Common.{rules, ◌≡◌, ◌-◌, length, Some, ◌∙◌, arith}
use Rattle.std.specs.Prelude.{slice_get}
use Rattle.lua_stack.specs.declared.frame.Record.{Record}
use Rattle.lua_stack.proofs.BelowTop.{none_below, one_below}
use Rattle.lua_stack.proofs.stack.Stack.below_top.Goals as goal

pub returns-then-count-eq0 : goal.returns-then-count-eq0
returns-then-count-eq0 c =
    let e : length c.self.inside.below.items ≡ 0 = search (arith, rules) in
    none_below c.self.inside c.args.self.now c.self.view_is c.self.invariant.0 e

pub returns : goal.returns
returns c =
    let r : Record = c.item_at-record.result in
    let e : slice_get c.self.inside.below.items (length c.self.inside.below.items - 1) ≡ Some r = search rules in
    c.state.ensures ∙ one_below c.self.inside c.args.self.now r c.self.view_is c.self.invariant.0 e
