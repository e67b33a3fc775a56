use Rattle.std.proofs.Common.{◌∙◌, [], ◌∷◌}
use Rattle.lua_heap.specs.Reading.{value}
use Rattle.meta_ops.specs.Heap.{heap_of}
use Rattle.meta_ops.proofs.OperatorLemmas.{length-others}
use Rattle.meta_ops.proofs.lengths.length.Goals as goal

pub returns-in_default : goal.returns-in_default
returns-in_default c =
    let texts = c.args.heap.strings.now in
    length-others texts (heap_of c.args.heap) c.args.v c.in_default.not-Str c.in_default.not-Table ∙ c.asked.ensures (value texts c.args.v ∷ [])
