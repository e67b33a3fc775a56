use borrow.Author.Tests.{le-leb}
use Rattle.std.proofs.Common.{rules, arith, sym, ◌∙◌, ◌≡◌, ◌≤◌, ◌<◌, ◌-◌, true, false, length}
use Rattle.std.specs.Prelude.{slice_index_or}
use Rattle.tree_core.specs.Plain.{plain_stat}
use Rattle.code_stat.specs.Forms.{is_void}
use Rattle.code_stat.proofs.Scoping.{void_end, void_more, void_ends}
use Rattle.code_stat.proofs.scope.void_from.Goals as goal

pub loop-from-init : goal.loop-from-init
loop-from-init c =
    let all : c.len-from.result ≡ length c.args.list.now.items = search rules in
    (omega (arith, all), void_end c.args.list.now.items c.len-from.result (omega (arith, all)))

pub loop-from-preserved : goal.loop-from-preserved
loop-from-preserved c =
    let some : 0 < c.loop-from.from = search rules in
    let is : c.index.result.now ≡ slice_index_or c.args.list.now.items (c.loop-from.from - 1) c.index.result.now = search rules in
    let this : is_void (plain_stat c.index.result.now) ≡ true = search rules in
    let inside = c.loop-from.invariant.0 in
    (omega (arith, inside), void_more c.args.list.now.items c.loop-from.from c.index.result.now some inside is this c.loop-from.invariant.1)

pub returns-then-not-is_void : goal.returns-then-not-is_void
returns-then-not-is_void c =
    let some : 0 < c.loop-from.from = search rules in
    let is : c.index.result.now ≡ slice_index_or c.args.list.now.items (c.loop-from.from - 1) c.index.result.now = search rules in
    let this : is_void (plain_stat c.index.result.now) ≡ false = search rules in
    void_ends c.args.list.now.items c.loop-from.from c.index.result.now some c.loop-from.invariant.0 is this c.loop-from.invariant.1

pub returns : goal.returns
returns c =
    let none : c.loop-from.from ≤ 0 = search rules in
    λ i. c.loop-from.invariant.1 i (omega (arith, none)) ∙ sym (le-leb 0 i (omega arith))
