use Rattle.std.proofs.Common.{rules, ◌≡◌, length, None, ap, sym, subst, arith}
use Rattle.machine_core.specs.Text.{last_pending}
use Rattle.lua_stack.specs.Frames.{AllBelow}
use Rattle.lua_stack.specs.View.{AreInOrder, part}
use Rattle.lua_stack.proofs.Reached.{takes_none}
use Rattle.lua_stack.proofs.Tops.{on_top}
use Rattle.lua_stack.proofs.stack.Stack.is_bare.Goals as goal

pub is_open_from-requires : goal.is_open_from-requires
is_open_from-requires c = subst AreInOrder (sym c.deref.ensures.value) c.self.invariant.1.in_order

pub returns-clause-cells : goal.returns-clause-cells
returns-clause-cells c = λ _.
    let n : c.len.result ≡ length c.self.inside.below.items = search rules in
    let under = subst (λ cs. AllBelow c.len.result 0 cs) c.deref.ensures.value (c.is_open_from.ensures c.if-is_open_from.false) in
    takes_none c.self.inside c.args.self.now 0 None c.self.view_is c.self.invariant.0 (subst (λ n. AllBelow n 0 c.self.inside.open_cells.items) n under)

pub returns-clause-pending : goal.returns-clause-pending
returns-clause-pending c = λ _.
    let none : c.self.inside.top.window.marked ≡ 0 = search (rules, arith) in
    on_top c.self.inside c.args.self.now _ c.self.view_is c.self.invariant.0 (λ f. ap (λ n. last_pending 0 (part c.self.inside.top.window.marks n c.self.inside.pending.items)) none)
