use Rattle.std.proofs.Common.{rules}
use Rattle.lua_stack.specs.View.{IsLastFrom}
use Rattle.lua_stack.proofs.Marks.{last_is}
use Rattle.lua_stack.proofs.pending.last_in.Goals as goal

pub returns : goal.returns
returns c =
    let h : IsLastFrom c.args.register c.args.marks.now c.in_ok-at.at = search rules in
    last_is c.args.register c.in_ok-at.at c.item_at.result c.args.marks.now h c.item_at.ensures
