use Rattle.std.proofs.Common.{rules, ◌≡◌, ◌+◌, ◌-◌, ◌<◌, length, take, drop, refl, arith}
use Rattle.lua_stack.proofs.TopMarks.{at_less, none_taken, one_taken, remarked_open, remarked_stands, slice_is, taken_length}
use Rattle.lua_stack.proofs.stack.Stack.take_pending.Goals as goal

pub returns-in_default : goal.returns-in_default
returns-in_default c =
    let e = slice_is c.self.inside c.place_of-end.result c.deref.result.now c.place_of-end.ensures c.deref.ensures.value in
    none_taken c.self.inside c.args.self.now c.args.self.now c.args.register (take (c.place_of-end.result - c.self.inside.top.window.marks) (drop c.self.inside.top.window.marks c.deref.result.now)) c.self.view_is c.self.invariant.0 c.requires e c.in_default.ensures.none refl

pub remove-self-inside-requires : goal.remove-self-inside-requires
remove-self-inside-requires c =
    let e = slice_is c.self.inside c.place_of-end.result c.deref.result.now c.place_of-end.ensures c.deref.ensures.value in
    let less = at_less c.self.inside c.self.invariant.0 c.args.register c.in-Some.at (take (c.place_of-end.result - c.self.inside.top.window.marks) (drop c.self.inside.top.window.marks c.deref.result.now)) e c.in-Some.ensures.there in
    let w = c.self.invariant.0.within.marks_end in
    omega (arith, less, w)

pub overflow_add-window : goal.overflow_add-window
overflow_add-window c =
    let e = slice_is c.self.inside c.place_of-end.result c.deref.result.now c.place_of-end.ensures c.deref.ensures.value in
    let less = at_less c.self.inside c.self.invariant.0 c.args.register c.in-Some.at (take (c.place_of-end.result - c.self.inside.top.window.marks) (drop c.self.inside.top.window.marks c.deref.result.now)) e c.in-Some.ensures.there in
    let w = c.self.invariant.0.within.marks_end in
    let n : c.len.result ≡ length c.self.inside.pending.items = search rules in
    let t : c.self.inside.top.window.marks + c.in-Some.at < c.len.result = omega (arith, less, w, n) in
    search (arith, rules)

pub invariant_of-self : goal.invariant_of-self
invariant_of-self c =
    let e = slice_is c.self.inside c.place_of-end.result c.deref.result.now c.place_of-end.ensures c.deref.ensures.value in
    let less = at_less c.self.inside c.self.invariant.0 c.args.register c.in-Some.at (take (c.place_of-end.result - c.self.inside.top.window.marks) (drop c.self.inside.top.window.marks c.deref.result.now)) e c.in-Some.ensures.there in
    let w = c.self.invariant.0.within.marks_end in
    let n = taken_length c.self.inside c.self.invariant.0 c.args.register c.in-Some.at (take (c.place_of-end.result - c.self.inside.top.window.marks) (drop c.self.inside.top.window.marks c.deref.result.now)) e c.in-Some.ensures.there c.remove-self-inside.new.self.items (c.self.inside.top.window.marks + c.in-Some.at) refl c.remove-self-inside.ensures.items in (
      remarked_stands c.self.inside c.remove-self-inside.new.self.items (c.self.inside.top.window.marked - 1) c.self.invariant.0 (omega (arith, n, w, less)),
      remarked_open c.self.inside (c.self.inside.top.window.marked - 1) c.self.invariant.1,
    )

pub returns : goal.returns
returns c =
    let e = slice_is c.self.inside c.place_of-end.result c.deref.result.now c.place_of-end.ensures c.deref.ensures.value in
    one_taken c.self.inside c.self.invariant.0 c.args.register c.in-Some.at (take (c.place_of-end.result - c.self.inside.top.window.marks) (drop c.self.inside.top.window.marks c.deref.result.now)) e c.in-Some.ensures.there c.args.self.now _ c.remove-self-inside.new.self.items (c.self.inside.top.window.marked - 1)
    (c.self.inside.top.window.marks + c.in-Some.at) c.self.view_is c.requires refl refl c.remove-self-inside.ensures.items refl
