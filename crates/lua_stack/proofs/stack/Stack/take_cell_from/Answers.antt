use Rattle.std.proofs.Common.{rules, ◌≡◌, length, subst}
use Rattle.std.specs.Prelude.{IfNone, IfSome}
use Rattle.lua_stack.specs.View.{IsTaken}
use Rattle.lua_stack.specs.Frames.{AllBelow}
use Rattle.lua_stack.proofs.OpenCells.{taken_open}
use Rattle.lua_stack.proofs.Reached.{takes_last, takes_none}
use Rattle.lua_stack.proofs.stack.Stack.take_cell_from.Goals as goal

pub take_from-requires : goal.take_from-requires
take_from-requires c = c.self.invariant.1.in_order

pub invariant_of-self : goal.invariant_of-self
invariant_of-self c = (
  c.self.invariant.0,
  taken_open c.self.inside.below.items c.self.inside.top.kind c.self.inside.top.window c.len.result c.args.register c.self.inside.open_cells.items _ c.take_from.result c.self.invariant.1
      c.take_from.ensures.taken c.take_from.ensures.kept,
)

pub returns-clause-taken : goal.returns-clause-taken
returns-clause-taken c =
    let n : c.len.result ≡ length c.self.inside.below.items = search rules in
    takes_last c.self.inside c.args.self.now _ c.args.register c.take_from.result c.self.view_is c.self.invariant.0 c.self.invariant.1
    (subst (λ n. IfSome c.take_from.result (λ x. IsTaken n c.args.register c.self.inside.open_cells.items c.take_from.new.cells.items x)) n c.take_from.ensures.taken)

pub returns-clause-none : goal.returns-clause-none
returns-clause-none c =
    let n : c.len.result ≡ length c.self.inside.below.items = search rules in
    takes_none c.self.inside c.args.self.now c.args.register c.take_from.result c.self.view_is c.self.invariant.0
    (subst (λ n. IfNone c.take_from.result (AllBelow n c.args.register c.self.inside.open_cells.items)) n c.take_from.ensures.none)
