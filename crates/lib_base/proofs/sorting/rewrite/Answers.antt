use Rattle.std.proofs.Common.{rules, sym}
use Rattle.std.specs.Prelude.{option_map}
use Rattle.std.proofs.lemmas.Option.{slice_get_past}
use Rattle.lib_base.proofs.Rewriting.{fields_are_put, no_fields_put}
use Rattle.lib_base.proofs.sorting.rewrite.Goals as goal

pub rewrite_rows-requires : goal.rewrite_rows-requires
rewrite_rows-requires c = c.requires c.get_mut.result.now c.get_mut.ensures.value

pub returns-then-id-len-clause-heap : goal.returns-then-id-len-clause-heap
returns-then-id-len-clause-heap c =
    let W = c.args.world.now in
    fields_are_put W.strings (option_map (λ m. m.0) W.string_meta) c.reads_alike.ensures c.args.id c.rewrite_rows.new.table c.args.values.now 1 W.tables.objects c.get_mut.result.now
    c.get_mut.ensures.value c.rewrite_rows.ensures.rows c.rewrite_rows.ensures.metatable

pub returns-else-id-len-clause-heap : goal.returns-else-id-len-clause-heap
returns-else-id-len-clause-heap c =
    let W = c.args.world.now in
    sym (no_fields_put W.strings W.tables.objects (option_map (λ m. m.0) W.string_meta) c.args.id (slice_get_past W.tables.objects c.args.id.0 (search rules)) c.args.values.now 1)
