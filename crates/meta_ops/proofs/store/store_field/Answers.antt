use Rattle.std.proofs.Common.{ap, sym, ◌∙◌, [], ◌∷◌}
use Rattle.lua_heap.specs.Reading.{value}
use Rattle.meta_ops.specs.Heap.{heap_in}
use Rattle.meta_ops.specs.Outcome.{settled}
use Rattle.meta_ops.specs.Store.{put_outcome}
use Rattle.meta_ops.proofs.Storing.{put-is}
use Rattle.meta_ops.proofs.store.store_field.Goals as goal

pub returns-in_ok-outcome-in-Raw-clause-does : goal.returns-in_ok-outcome-in-Raw-clause-does
returns-in_ok-outcome-in-Raw-clause-does c =
    let texts = c.args.strings.now in
    let tables = c.args.tables.now.objects in
    let meta = c.args.string_meta in
    let more = value texts c.args.key ∷ value texts c.args.v ∷ [] in
    c.in-Raw.ensures (value texts c.args.v)
    ∙ put-is texts c.tables_are_read.ensures c.len.ensures.apart c.len.ensures.short tables meta c.in-Raw.id.0 c.args.key c.args.v more
    ∙ ap (λ ts. settled texts (heap_in texts ts meta) more (put_outcome c.args.key)) (sym c.in_ok-outcome-in-Raw.ensures.objects)
    ∙ ap (settled texts (heap_in texts c.put.new.tables.objects meta) more) (sym c.in_ok-outcome-in-Raw.ensures.outcome)
