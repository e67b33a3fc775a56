use Rattle.std.proofs.Common.{refl, arith}
use Rattle.std.specs.Prelude.{◌&&◌, ◌||◌, nat_le, nat_lt}
use Rattle.machine_core.specs.Text.{is_pending}
use Rattle.lua_stack.proofs.Own.{cut_open, place_in, resized_stands, room_in}
use Rattle.lua_stack.proofs.TopMarks.{slice_is}
use Rattle.lua_stack.proofs.Wiped.{top_wiped, wiped_values_length}
use Rattle.lua_stack.proofs.stack.Stack.keep.Goals as goal

pub wipe-requires : goal.wipe-requires
wipe-requires c =
    let k = place_in c.self.inside c.args.self.now c.args.size c.self.view_is c.self.invariant.0 c.requires.there in
    let p = c.place_of-base.ensures in
    omega (arith, k, p)

pub invariant_of-self : goal.invariant_of-self
invariant_of-self c =
    let a = c.self.inside in
    let i = c.self.invariant.0 in
    let l = room_in a c.args.self.now c.args.size c.self.view_is i c.requires.there in
    let b = c.place_of-base.ensures in
    let e = slice_is a c.place_of-last.result c.deref.result.now c.place_of-last.ensures c.deref.ensures.value in (
      resized_stands a c.wipe.new.values.items c.args.size i (wiped_values_length a i (λ ps i. is_pending ps i || (nat_le c.args.from i && nat_lt i c.args.end)) c.args.size c.place_of-base.result c.wipe.new.values.items _ l (omega (arith, b)) e c.wipe.ensures) l,
      cut_open a c.args.self.now c.args.size c.self.view_is i c.self.invariant.1 c.requires.there c.requires.closed,
    )

pub returns : goal.returns
returns c =
    let a = c.self.inside in
    let i = c.self.invariant.0 in
    let l = room_in a c.args.self.now c.args.size c.self.view_is i c.requires.there in
    let b = c.place_of-base.ensures in
    let e = slice_is a c.place_of-last.result c.deref.result.now c.place_of-last.ensures c.deref.ensures.value in
    top_wiped a i (λ ps i. is_pending ps i || (nat_le c.args.from i && nat_lt i c.args.end)) c.args.size c.place_of-base.result c.wipe.new.values.items _ l (omega (arith, b)) e c.wipe.ensures c.args.self.now _ c.self.view_is c.requires.there refl
