use Rattle.std.proofs.Common.{rules, ◌≡◌, ◌-◌, ◌<◌, ◌≤◌, true, false, length, sym, ◌∙◌, arith}
use Rattle.lua_stack.specs.View.{is_lua}
use Rattle.lua_stack.proofs.ClosingTop.{is_catcher, no_catcher}
use Rattle.lua_stack.proofs.closing.catcher_in.Goals as goal

pub returns-then-not-is_lua : goal.returns-then-not-is_lua
returns-then-not-is_lua c =
    let more : 0 < c.back.count = search rules in
    let f : is_lua c.item_at-kind.result.kind ≡ false = search rules in
    c.top_of.ensures ∙ sym (c.back.invariant.1 ∙ is_catcher (c.back.count - 1) c.back.count c.args.below.now c.item_at-kind.result (omega (arith, more)) c.item_at-kind.ensures f)

pub back-preserved : goal.back-preserved
back-preserved c =
    let more : 0 < c.back.count = search rules in
    let most : c.back.count ≤ length c.args.below.now = c.back.invariant.0 in
    let t : is_lua c.item_at-kind.result.kind ≡ true = search rules in
    (omega (arith, most), c.back.invariant.1 ∙ no_catcher (c.back.count - 1) c.back.count c.args.below.now c.item_at-kind.result (omega (arith, more)) c.item_at-kind.ensures t)
