use Rattle.std.proofs.Common.{[], ◌∷◌}
use Rattle.lua_heap.specs.Reading.{value}
use Rattle.meta_ops.specs.Heap.{heap_in}
use Rattle.running_frame.specs.Asking.{AsksFor, operation_of}
use Rattle.running_frame.specs.Inheriting.{metatable_number}
use Rattle.running_frame.proofs.Handlers.{asked_of, both_some}
use Rattle.running_frame.proofs.asking.handler_asked.Goals as goal

pub returns-in-Ask : goal.returns-in-Ask
returns-in-Ask c =
    let texts = c.args.heap.strings.now in
    both_some {R = λ found. AsksFor texts c.args.heap.tables.now.objects (metatable_number c.args.heap.string_meta) (operation_of c.args.kind) c.args.object c.args.key found.id found.first} c.handler_by.result
    (λ found id object.
    asked_of _ texts (heap_in texts c.args.heap.tables.now.objects c.args.heap.string_meta) (value texts c.args.key ∷ []) c.in_ok-outcome.outcome c.in-Ask.handler c.in-Ask.first c.in_ok-outcome.ensures c.in-Ask.is
    found.id found.first id object)
    c.handler_by.ensures.id c.handler_by.ensures.object
