use Rattle.std.proofs.Common.{rules, ◌≡◌, Some, ap, w64, to_z, of_z, sym, ◌∙◌, [], ◌∷◌}
use Rattle.int_core.specs.Operations.{arithmetic_on}
use Rattle.lua_heap.specs.Reading.{value}
use Rattle.meta_ops.specs.Events.{event_of}
use Rattle.meta_ops.specs.Heap.{heap_of}
use Rattle.meta_ops.specs.Outcome.{fault_text}
use Rattle.meta_ops.proofs.OperatorLemmas.{left-is_no_number, right-is_no_number, both-are_numbers}
use Rattle.meta_ops.proofs.numbers.arithmetic.Goals as goal

pub returns-in_default : goal.returns-in_default
returns-in_default c =
    let texts = c.args.heap.strings.now in
    left-is_no_number (heap_of c.args.heap) (event_of c.args.event) (value texts c.args.left) (value texts c.args.right) (fault_text texts c.wrong_operand.result)
    (sym c.number_in.ensures ∙ c.in_default.is) (c.wrong_operand.ensures texts)
    ∙ c.asked.ensures (value texts c.args.right ∷ [])

pub returns-in_default-number_in : goal.returns-in_default-number_in
returns-in_default-number_in c =
    let texts = c.args.heap.strings.now in
    right-is_no_number (heap_of c.args.heap) (event_of c.args.event) (value texts c.args.left) (value texts c.args.right) (fault_text texts c.wrong_operand-in_default-number_in.result)
    c.in-Some.m (sym c.number_in.ensures ∙ c.in-Some.is) (sym c.number_in-2.ensures ∙ c.in_default-number_in.is) (c.wrong_operand-in_default-number_in.ensures texts)
    ∙ c.asked-in_default-number_in.ensures (value texts c.args.right ∷ [])

pub returns : goal.returns
returns c =
    let texts = c.args.heap.strings.now in
    let H = heap_of c.args.heap in
    let event = event_of c.args.event in
    let l = value texts c.args.left in
    let r = value texts c.args.right in
    let m : to_z w64 (of_z w64 c.in-Some.m) ≡ c.in-Some.m = search rules in
    let n : to_z w64 (of_z w64 c.in-Some-number_in.n) ≡ c.in-Some-number_in.n = search rules in
    both-are_numbers (heap_of c.args.heap) (event_of c.args.event) (value texts c.args.left) (value texts c.args.right) []
    c.in-Some.m c.in-Some-number_in.n (sym c.number_in.ensures ∙ c.in-Some.is) (sym c.number_in-2.ensures ∙ c.in-Some-number_in.is)
    ∙ ap (λ k. arithmetic_on event H (Some k) (Some c.in-Some-number_in.n) l r) (sym m)
    ∙ ap (λ k. arithmetic_on event H (Some (to_z w64 (of_z w64 c.in-Some.m))) (Some k) l r) (sym n)
    ∙ c.on_integers.ensures texts H (r ∷ [])
