use Rattle.std.proofs.Common.{rules, refl, ap, sym, ◌∙◌}
use Rattle.std.specs.Prelude.{slice_set, option_map, []}
use Rattle.library_rows.specs.Look.{step, no_word}
use Rattle.lua_heap.specs.Plain.{heap}
use Rattle.std.proofs.lemmas.Option.{slice_get_past}
use Rattle.lib_base.proofs.Fields.{metatable_written, no_metatable_written}
use Rattle.lib_base.proofs.raw.set_metatable.Goals as goal

pub returns-then-id-len : goal.returns-then-id-len
returns-then-id-len c = record {
  does = metatable_written c.args.world.now.strings c.args.world.now.tables.objects _ c.args.id c.get_mut.result.now c.args.metatable c.get_mut.ensures.value
      ∙ ap (λ t. step (heap c.args.world.now.strings (slice_set c.args.world.now.tables.objects c.args.id.0 t) (option_map (λ m. m.0) c.args.world.now.string_meta)) [] no_word) (sym c.set_metatable.ensures);
  rest = refl;
}

pub returns-else-id-len : goal.returns-else-id-len
returns-else-id-len c = record {
  does = no_metatable_written c.args.world.now.strings c.args.world.now.tables.objects _ c.args.id c.args.metatable (slice_get_past c.args.world.now.tables.objects c.args.id.0 (search rules));
  rest = refl;
}
