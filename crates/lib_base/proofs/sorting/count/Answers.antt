use Rattle.std.proofs.Common.{rules, ◌≡◌, ◌∙◌, sym, Some, None}
use Rattle.std.specs.Prelude.{option_map, slice_get}
use Rattle.lib_base.proofs.Rewriting.{counts_items, counts_none, places_of}
use Rattle.lib_base.proofs.sorting.count.Goals as goal

pub returns-in-Some-clause-count : goal.returns-in-Some-clause-count
returns-in-Some-clause-count c =
    let e : slice_get c.args.world.now.tables.objects c.args.id.0 ≡ Some c.in-Some.table.now = search rules in
    sym (counts_items c.args.world.now.strings c.args.world.now.tables.objects (option_map (λ m. m.0) c.args.world.now.string_meta) c.args.id c.reads_alike.ensures c.in-Some.table.now e ∙ search rules)

pub returns-in-Some-clause-there : goal.returns-in-Some-clause-there
returns-in-Some-clause-there c =
    let e : slice_get c.args.world.now.tables.objects c.args.id.0 ≡ Some c.in-Some.table.now = search rules in
    places_of c.args.world.now.tables.objects c.args.id c.in-Some.table.now _ e (search rules)

pub returns-in-None-clause-count : goal.returns-in-None-clause-count
returns-in-None-clause-count c =
    let e : slice_get c.args.world.now.tables.objects c.args.id.0 ≡ None = search rules in
    sym (counts_none c.args.world.now.strings c.args.world.now.tables.objects (option_map (λ m. m.0) c.args.world.now.string_meta) c.args.id e)
