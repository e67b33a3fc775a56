use Rattle.std.proofs.Common.{rules, ◌≡◌, ◌+◌, length, max, refl, arith}
use Rattle.lua_stack.proofs.Own.{lua_top, room_in}
use Rattle.lua_stack.proofs.Listed.{list_open, list_stands, top_listed}
use Rattle.lua_stack.proofs.stack.Stack.write_list.Goals as goal

pub invariant_of-self-2 : goal.invariant_of-self-2
invariant_of-self-2 c =
    let i = c.self.invariant.0 in
    let l = room_in c.self.inside c.args.self.now (c.args.at + 1) c.self.view_is i c.requires in
    let m : c.max-size.result ≡ max c.self.inside.top.window.size (c.args.at + length c.args.values.now) = search rules in
    let a = c.in_ok-grow.ensures.room in
    let b = c.in_ok-end.ensures in (
      list_stands c.self.inside i c.grow.new.values.items c.put.new.values.items c.args.values.now c.args.at c.place_of-to.result c.max-size.result c.in_ok-grow.ensures.front c.in_ok-grow.ensures.longer (omega (arith, l))
          c.place_of-to.ensures m (omega (arith, a, b)) c.put.ensures,
      list_open c.self.inside i c.grow.new.values.items c.put.new.values.items c.args.values.now c.args.at c.place_of-to.result c.max-size.result c.in_ok-grow.ensures.front c.in_ok-grow.ensures.longer (omega (arith, l))
          c.place_of-to.ensures m (omega (arith, a, b)) c.put.ensures c.self.invariant.1,
    )

pub returns-clause-ok : goal.returns-clause-ok
returns-clause-ok c =
    let i = c.self.invariant.0 in
    let l = room_in c.self.inside c.args.self.now (c.args.at + 1) c.self.view_is i c.requires in
    let m : c.max-size.result ≡ max c.self.inside.top.window.size (c.args.at + length c.args.values.now) = search rules in
    let a = c.in_ok-grow.ensures.room in
    let b = c.in_ok-end.ensures in
    top_listed c.self.inside i c.grow.new.values.items c.put.new.values.items c.args.values.now c.args.at c.place_of-to.result c.max-size.result c.in_ok-grow.ensures.front c.in_ok-grow.ensures.longer (omega (arith, l))
    c.place_of-to.ensures m (omega (arith, a, b)) c.put.ensures
    c.args.self.now _ c.self.view_is (lua_top c.requires) refl
