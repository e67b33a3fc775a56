use Rattle.std.proofs.Common.{◌+◌, refl, arith}
use Rattle.lua_stack.proofs.Own.{lua_top}
use Rattle.lua_stack.proofs.TopMarks.{marked_length, one_marked, remarked_open, remarked_stands}
use Rattle.lua_stack.proofs.stack.Stack.mark_pending.Goals as goal

pub invariant_of-self-2 : goal.invariant_of-self-2
invariant_of-self-2 c =
    let l = c.self.invariant.0.within.marks_end in
    let p = c.place_of-end.ensures in
    let n = marked_length c.place_of-end.result c.args.register c.self.inside.pending.items c.put_mark.new.pending.items (omega (arith, l, p)) c.in_ok-put_mark.ensures.ok in (
      remarked_stands c.self.inside c.put_mark.new.pending.items (c.self.inside.top.window.marked + 1) c.self.invariant.0 (omega (arith, n, p)),
      remarked_open c.self.inside (c.self.inside.top.window.marked + 1) c.self.invariant.1,
    )

pub returns-clause-ok : goal.returns-clause-ok
returns-clause-ok c =
    one_marked c.self.inside c.args.self.now _ c.put_mark.new.pending.items (c.self.inside.top.window.marked + 1) c.place_of-end.result c.args.register c.self.view_is c.self.invariant.0 (lua_top c.requires) refl
    c.place_of-end.ensures c.in_ok-put_mark.ensures.ok refl
