use Rattle.std.proofs.Common.{◌≡◌, sym, ◌∙◌, [], ◌∷◌, true, false}
use Rattle.int_core.specs.Operations.{is_text}
use Rattle.lua_heap.specs.Reading.{value}
use Rattle.meta_ops.specs.Heap.{heap_in}
use Rattle.meta_ops.proofs.Joining.{left-without, right-without}
use Rattle.meta_ops.proofs.concatenation.concat.Goals as goal

pub returns-then-not-is_text-clause-does : goal.returns-then-not-is_text-clause-does
returns-then-not-is_text-clause-does c =
    let texts = c.args.strings.now in
    let none : is_text (value texts c.args.left) ≡ false = sym (c.is_text.ensures texts) ∙ c.if-not-is_text.true in
    left-without (heap_in texts c.args.tables.now.objects c.args.string_meta) (value texts c.args.left) (value texts c.args.right) none
    ∙ c.asked.ensures (value texts c.args.right ∷ [])

pub returns-then-not-is_text-2-clause-does : goal.returns-then-not-is_text-2-clause-does
returns-then-not-is_text-2-clause-does c =
    let texts = c.args.strings.now in
    let some : is_text (value texts c.args.left) ≡ true = sym (c.is_text.ensures texts) ∙ c.if-not-is_text.false in
    let none : is_text (value texts c.args.right) ≡ false = sym (c.is_text-2.ensures texts) ∙ c.if-not-is_text-2.true in
    right-without (heap_in texts c.args.tables.now.objects c.args.string_meta) (value texts c.args.left) (value texts c.args.right) some none
    ∙ c.asked-then-not-is_text-2.ensures (value texts c.args.right ∷ [])
