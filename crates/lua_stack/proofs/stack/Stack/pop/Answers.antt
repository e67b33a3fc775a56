use Rattle.std.proofs.Common.{rules, ◌≡◌, refl, length, arith}
use Rattle.lua_stack.specs.View.{whole_record}
use Rattle.lua_stack.proofs.Pushed.{cells_emptied, cells_popped, emptied_stands, empty_is, last_of, popped_stands, popped_frames}
use Rattle.lua_stack.proofs.stack.Stack.pop.Goals as goal

pub place_of-from-requires : goal.place_of-from-requires
place_of-from-requires c =
    let w = (last_of c.self.inside c.pop.new.self.items c.in-Some.record c.self.invariant.0 c.in-Some.ensures.items).within in
    let n : c.len.result ≡ length c.self.inside.values.items = search rules in
    let e = w.end in
    let k = w.kept in
    omega (arith, n, e, k)

pub overflow_sub-window : goal.overflow_sub-window
overflow_sub-window c = (last_of c.self.inside c.pop.new.self.items c.in-Some.record c.self.invariant.0 c.in-Some.ensures.items).within.kept

pub clear-requires : goal.clear-requires
clear-requires c =
    let w = (last_of c.self.inside c.pop.new.self.items c.in-Some.record c.self.invariant.0 c.in-Some.ensures.items).within in
    let p = c.place_of-from.ensures in
    let e = w.end in
    let k = w.kept in
    omega (arith, p, e, k)

pub invariant_of-self : goal.invariant_of-self
invariant_of-self c =
    let n : length c.pop.new.self.items ≡ 0 = search rules in
    let z = empty_is c.pop.new.self.items n in (
      emptied_stands c.self.inside c.pop.new.self.items c.self.invariant.0 c.in_default.ensures.items z,
      cells_emptied c.self.inside c.args.self.now c.pop.new.self.items _ c.self.inside.top.window c.self.view_is c.self.invariant.0 c.self.invariant.1 c.requires.closed c.in_default.ensures.items z,
    )

pub invariant_of-self-2 : goal.invariant_of-self-2
invariant_of-self-2 c = (
  popped_stands c.self.inside c.pop.new.self.items c.in-Some.record c.self.invariant.0 c.in-Some.ensures.items
      c.clear.new.values.items c.place_of-from.result _ (whole_record c.in-Some.record) c.place_of-from.ensures refl c.clear.ensures refl,
  cells_popped c.self.inside c.pop.new.self.items c.in-Some.record c.self.invariant.0 c.in-Some.ensures.items c.args.self.now (whole_record c.in-Some.record)
      c.self.view_is c.self.invariant.1 c.requires.closed refl,
)

pub returns-clause-frames : goal.returns-clause-frames
returns-clause-frames c =
    popped_frames c.self.inside c.pop.new.self.items c.in-Some.record c.self.invariant.0 c.in-Some.ensures.items c.args.self.now
    c.clear.new.values.items c.place_of-from.result _ (whole_record c.in-Some.record) c.self.view_is c.place_of-from.ensures refl c.clear.ensures refl
