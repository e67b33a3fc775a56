use Rattle.std.proofs.Common.{rules, ◌≡◌, sym, ◌∙◌, false}
use Rattle.int_core.specs.Value.{same}
use Rattle.lua_heap.specs.Reading.{value}
use Rattle.meta_ops.specs.Heap.{heap_of}
use Rattle.table_core.specs.Value.{are_tables}
use Rattle.meta_ops.proofs.OperatorLemmas.{equal-others}
use Rattle.meta_ops.proofs.compare.equal.Goals as goal

pub returns-then-not-are_tables : goal.returns-then-not-are_tables
returns-then-not-are_tables c =
    let texts = c.args.heap.strings.now in
    let tables : are_tables c.args.left c.args.right ≡ false = search rules in
    let other : same (value texts c.args.left) (value texts c.args.right) ≡ false = c.equality_is_raw.ensures texts c.len.ensures.apart c.len.ensures.short c.args.left c.args.right ∙ sym c.eq.ensures ∙ c.if-eq.false in
    equal-others texts (heap_of c.args.heap) c.args.left c.args.right tables other
