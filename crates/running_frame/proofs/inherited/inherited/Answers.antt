use Rattle.std.proofs.Common.{◌∙◌, ap}
use Rattle.std.specs.Prelude.{[], ◌∷◌}
use Rattle.lua_heap.specs.Reading.{value}
use Rattle.meta_ops.specs.Heap.{heap_in}
use Rattle.meta_ops.specs.Outcome.{settled}
use Rattle.running_frame.proofs.inherited.inherited.Goals as goal

pub returns-in-Found : goal.returns-in-Found
returns-in-Found c =
    let texts = c.args.heap.strings.now in
    c.index_of.ensures ∙ ap (λ o. settled texts (heap_in texts c.args.heap.tables.now.objects c.args.heap.string_meta) (value texts c.args.key ∷ []) o) c.in-Found.is
