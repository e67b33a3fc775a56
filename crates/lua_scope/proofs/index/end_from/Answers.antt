use borrow.Author.Tests.{le-leb}
use Rattle.std.proofs.Common.{rules, arith, sym, ◌∙◌, ◌≡◌, ◌≤◌, length, map}
use Rattle.tree_core.specs.Plain.{plain_stat}
use Rattle.lua_scope.proofs.Indexing.{done_at_end, item_done, item_ends}
use Rattle.lua_scope.proofs.Looping.{gone}
use Rattle.lua_scope.proofs.index.end_from.Goals as goal

pub loop-from-init : goal.loop-from-init
loop-from-init c =
    let items = c.args.list.now.items in
    let all : c.len-from.result ≡ length c.args.list.now.items = search rules in
    (omega (arith, all), done_at_end (map plain_stat items) c.len-from.result (gone plain_stat items c.len-from.result (omega (arith, all))))

pub loop-from-preserved : goal.loop-from-preserved
loop-from-preserved c =
    (omega (arith, c.loop-from.invariant.0), item_done c.args.list.now.items c.loop-from.from c.index.result.now (search rules) c.loop-from.invariant.0 (search rules) (search rules) c.loop-from.invariant.1)

pub returns-then-not-is_empty_or_label : goal.returns-then-not-is_empty_or_label
returns-then-not-is_empty_or_label c =
    item_ends c.args.list.now.items c.loop-from.from c.index.result.now (search rules) c.loop-from.invariant.0 (search rules) (search rules) c.loop-from.invariant.1

pub returns : goal.returns
returns c =
    let none : c.loop-from.from ≤ 0 = search rules in
    λ i. c.loop-from.invariant.1 i (omega (arith, none)) ∙ sym (le-leb 0 i (omega arith))
