use Rattle.std.proofs.Common.{sym}
use Rattle.std.specs.Option.{option_map}
use Rattle.meta_ops.proofs.Fields.{unknown-named, none-named}
use Rattle.meta_ops.proofs.heap.Heap.field.Goals as goal

pub returns-in-None-find : goal.returns-in-None-find
returns-in-None-find c =
    unknown-named c.args.self.strings.now c.args.name.now c.requires c.strings_are_there.ensures (sym c.in-None-find.ensures.there)
    c.args.self.tables.now.objects (option_map (λ m. m.0) c.args.self.string_meta) c.args.id.0 c.in-Some.table.now c.in-Some.ensures

pub returns-in-None : goal.returns-in-None
returns-in-None c =
    none-named c.args.self.strings.now c.args.self.tables.now.objects (option_map (λ m. m.0) c.args.self.string_meta) c.args.id.0 c.args.name.now c.in-None.ensures
