use Rattle.std.proofs.Common.{refl, ap, ◌∙◌, [], ◌∷◌}
use Rattle.std.specs.Prelude.{int_le, not}
use Rattle.int_core.specs.Operations.{of_le, before, ordered}
use Rattle.table_core.specs.declared.value.Value.TheVariants.{Int, Str}
use Rattle.lua_heap.specs.Reading.{value}
use Rattle.meta_ops.specs.Heap.{heap_of}
use Rattle.meta_ops.proofs.OperatorLemmas.{integer-other, string-other, neither-ordered, ordered-others}
use Rattle.meta_ops.proofs.compare.less_equal.Goals as goal

pub returns-in_default-right : goal.returns-in_default-right
returns-in_default-right c =
    let texts = c.args.heap.strings.now in
    ap (λ v. ordered of_le int_le (λ s t. not (before t s)) (heap_of c.args.heap) (value texts v) (value texts c.args.right)) c.in-Int.is
    ∙ ordered-others texts (heap_of c.args.heap) of_le int_le (λ s t. not (before t s)) (Int c.in-Int.m) c.args.right (integer-other (Int c.in-Int.m) c.args.right c.in-Int.m refl c.in_default-right.not-Int)
    ∙ c.asked.ensures (value texts c.args.right ∷ [])

pub returns-in_default-right-2 : goal.returns-in_default-right-2
returns-in_default-right-2 c =
    let texts = c.args.heap.strings.now in
    ap (λ v. ordered of_le int_le (λ s t. not (before t s)) (heap_of c.args.heap) (value texts v) (value texts c.args.right)) c.in-Str.is
    ∙ ordered-others texts (heap_of c.args.heap) of_le int_le (λ s t. not (before t s)) (Str c.in-Str.s) c.args.right (string-other (Str c.in-Str.s) c.args.right c.in-Str.s refl c.in_default-right-2.not-Str)
    ∙ c.asked-in_default-right-2.ensures (value texts c.args.right ∷ [])

pub returns-in_default : goal.returns-in_default
returns-in_default c =
    let texts = c.args.heap.strings.now in
    ordered-others texts (heap_of c.args.heap) of_le int_le (λ s t. not (before t s)) c.args.left c.args.right (neither-ordered c.args.left c.args.right c.in_default.not-Int c.in_default.not-Str)
    ∙ c.asked-in_default.ensures (value texts c.args.right ∷ [])
