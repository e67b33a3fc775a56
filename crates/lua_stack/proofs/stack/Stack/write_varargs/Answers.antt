use Rattle.std.proofs.Common.{rules, ◌≡◌, ◌+◌, ◌-◌, max, refl, arith}
use Rattle.lua_stack.proofs.Own.{lua_top, room_in}
use Rattle.lua_stack.proofs.Varargs.{own_open, own_stands, top_own}
use Rattle.lua_stack.proofs.stack.Stack.write_varargs.Goals as goal

pub overflow_sub-count : goal.overflow_sub-count
overflow_sub-count c = c.self.invariant.0.within.extra

pub copy-requires : goal.copy-requires
copy-requires c =
    let i = c.self.invariant.0.within in
    let x = i.extra in
    let z = i.end in
    let g = c.in_ok-grow.ensures.longer in
    let a = c.in_ok-grow.ensures.room in
    let b = c.in_ok-end.ensures in
    record { from = omega (arith, x, z, g); to = omega (arith, a, b) }

pub invariant_of-self-2 : goal.invariant_of-self-2
invariant_of-self-2 c =
    let i = c.self.invariant.0 in
    let l = room_in c.self.inside c.args.self.now (c.args.at + 1) c.self.view_is i c.requires in
    let m : c.max-size.result ≡ max c.self.inside.top.window.size (c.args.at + (c.self.inside.top.window.base - c.self.inside.top.window.start)) = search rules in
    let a = c.in_ok-grow.ensures.room in
    let b = c.in_ok-end.ensures in (
      own_stands c.self.inside i c.grow.new.values.items c.copy.new.values.items c.args.at c.place_of-to.result c.max-size.result (c.self.inside.top.window.base - c.self.inside.top.window.start) c.in_ok-grow.ensures.front c.in_ok-grow.ensures.longer (omega (arith, l))
          c.place_of-to.ensures m (omega (arith, a, b)) refl c.copy.ensures,
      own_open c.self.inside i c.grow.new.values.items c.copy.new.values.items c.args.at c.place_of-to.result c.max-size.result (c.self.inside.top.window.base - c.self.inside.top.window.start) c.in_ok-grow.ensures.front c.in_ok-grow.ensures.longer (omega (arith, l))
          c.place_of-to.ensures m (omega (arith, a, b)) refl c.copy.ensures c.self.invariant.1,
    )

pub returns-clause-ok : goal.returns-clause-ok
returns-clause-ok c =
    let i = c.self.invariant.0 in
    let l = room_in c.self.inside c.args.self.now (c.args.at + 1) c.self.view_is i c.requires in
    let m : c.max-size.result ≡ max c.self.inside.top.window.size (c.args.at + (c.self.inside.top.window.base - c.self.inside.top.window.start)) = search rules in
    let a = c.in_ok-grow.ensures.room in
    let b = c.in_ok-end.ensures in
    top_own c.self.inside i c.grow.new.values.items c.copy.new.values.items c.args.at c.place_of-to.result c.max-size.result (c.self.inside.top.window.base - c.self.inside.top.window.start) c.in_ok-grow.ensures.front c.in_ok-grow.ensures.longer (omega (arith, l))
    c.place_of-to.ensures m (omega (arith, a, b)) refl c.copy.ensures
    c.args.self.now _ c.self.view_is (lua_top c.requires) refl
