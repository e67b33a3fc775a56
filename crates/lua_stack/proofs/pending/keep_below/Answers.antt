use Rattle.std.proofs.Common.{rules, ◌≡◌, ◌+◌, ◌<◌, ◌≤◌, Some, arith}
use Rattle.std.specs.Prelude.{slice_get}
use Rattle.lua_stack.proofs.Marks.{kept_less, kept_more}
use Rattle.lua_stack.proofs.pending.keep_below.Goals as goal

pub loop-k-preserved-then-mark-register : goal.loop-k-preserved-then-mark-register
loop-k-preserved-then-mark-register c =
    let g : slice_get c.loop-k.pending.items (c.args.from + c.loop-k.k) ≡ Some c.item_at-mark.result = search rules in
    let m : c.args.register ≤ c.item_at-mark.result = search rules in
    kept_less c.args.register c.args.from c.loop-k.k c.loop-k.kept c.item_at-mark.result c.args.pending.now.items c.loop-k.pending.items c.loop-k.invariant g (λ l. omega (arith, l, m))

pub loop-k-preserved : goal.loop-k-preserved
loop-k-preserved c =
    let g : slice_get c.loop-k.pending.items (c.args.from + c.loop-k.k) ≡ Some c.item_at-mark.result = search rules in
    let l : c.item_at-mark.result < c.args.register = search (arith, rules) in
    let k : c.loop-k.k < c.args.count = search rules in
    let r = c.requires in
    kept_more c.args.register c.args.from c.loop-k.k c.loop-k.kept c.item_at-mark.result c.args.pending.now.items c.loop-k.pending.items c.loop-k.invariant g l (omega (arith, k, r))
