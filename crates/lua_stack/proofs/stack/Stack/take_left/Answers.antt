use Rattle.std.proofs.Common.{rules, ◌≡◌, ◌-◌, ◌<◌, Some, refl, arith}
use Rattle.std.specs.Prelude.{slice_get}
use Rattle.lua_stack.proofs.ClosingTop.{closing_open, one_taken, shorter_stands}
use Rattle.lua_stack.proofs.stack.Stack.take_left.Goals as goal

pub invariant_of-self : goal.invariant_of-self
invariant_of-self c =
    let w = c.self.invariant.0.whole in (
      shorter_stands c.self.inside c.args.self.now c.self.view_is c.self.invariant.0 c.requires (c.self.inside.top.window.size - 1) c.with_values-self-inside.result (omega (arith, w)) c.with_values-self-inside.ensures,
      closing_open c.self.inside c.args.self.now c.self.view_is c.self.invariant.0 c.requires c.with_values-self-inside.result.kind c.with_values-self-inside.result.window c.self.invariant.1,
    )

pub returns-clause-taken : goal.returns-clause-taken
returns-clause-taken c =
    let more : 0 < c.self.inside.top.window.size = search (arith, rules) in
    let g : slice_get c.self.inside.values.items c.place_of-at.result ≡ Some c.item_at-value.result = search rules in
    one_taken c.self.inside c.args.self.now c.self.view_is c.self.invariant.0 c.requires (c.self.inside.top.window.size - 1) c.place_of-at.result c.item_at-value.result c.with_values-self-inside.result _ (omega (arith, more))
    c.place_of-at.ensures g c.with_values-self-inside.ensures refl
