use Rattle.std.proofs.Common.{[], ◌∷◌, ap, ◌∙◌}
use Rattle.std.proofs.lemmas.Option.{IfSome_then}
use Rattle.int_core.specs.Operations.{does}
use Rattle.lua_heap.specs.Reading.{value}
use Rattle.meta_ops.specs.Heap.{heap_of}
use Rattle.running_frame.specs.Asking.{operation_of}
use Rattle.running_frame.proofs.asking.settled_by.Goals as goal

pub returns-in-Read : goal.returns-in-Read
returns-in-Read c =
    let texts = c.args.heap.strings.now in
    ap (λ k. does (operation_of k) (value texts c.args.left ∷ value texts c.args.right ∷ []) (heap_of c.args.heap)) c.in-Read.is ∙ c.index_of.ensures

pub returns-in-Operator : goal.returns-in-Operator
returns-in-Operator c =
    let texts = c.args.heap.strings.now in
    IfSome_then c.operated.result c.operated.ensures
    (λ o e. ap (λ k. does (operation_of k) (value texts c.args.left ∷ value texts c.args.right ∷ []) (heap_of c.args.heap)) c.in-Operator.is ∙ e)
