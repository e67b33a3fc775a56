use Rattle.std.proofs.Common.{rules, ◌≡◌, ◌+◌, ◌<◌, ◌≤◌, Some, arith}
use Rattle.std.specs.Prelude.{slice_get}
use Rattle.lua_stack.proofs.PendingValues.{register_gone, register_kept}
use Rattle.lua_stack.proofs.pending.register_of.Goals as goal

pub returns-then-register-window : goal.returns-then-register-window
returns-then-register-window c =
    let m : c.args.window.kept ≤ c.args.register = search rules in
    register_gone c.args.values.now c.args.window c.args.register c.requires (λ l. omega (arith, l, m))

pub returns : goal.returns
returns c =
    let l : c.args.register < c.args.window.kept = search (arith, rules) in
    let g : slice_get c.args.values.now (c.args.window.base + c.args.register) ≡ Some c.item_at.result = search rules in
    register_kept c.args.values.now c.args.window c.args.register c.item_at.result l g
