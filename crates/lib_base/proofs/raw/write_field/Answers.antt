use Rattle.std.proofs.Common.{rules, ◌≡◌, refl}
use Rattle.std.specs.Prelude.{slice_set}
use Rattle.std.proofs.lemmas.Option.{slice_get_past}
use Rattle.lib_base.proofs.Fields.{put_back, field_written, no_field_written}
use Rattle.lib_base.proofs.raw.write_field.Goals as goal

pub returns-in_err-set-clause-err : goal.returns-in_err-set-clause-err
returns-in_err-set-clause-err c =
    let e : slice_set c.args.world.now.tables.objects c.args.id.0 c.set.new.self ≡ c.args.world.now.tables.objects
    = put_back c.args.world.now.tables.objects c.args.id.0 c.get_mut.result.now c.set.new.self c.get_mut.ensures.value (search rules) in
    search rules

pub returns-in_ok-set-clause-does : goal.returns-in_ok-set-clause-does
returns-in_ok-set-clause-does c = record {
  does = field_written c.args.world.now.strings c.args.world.now.tables.objects _ c.reads_alike.ensures c.args.id c.get_mut.result.now c.set.new.self c.args.key c.args.value c.get_mut.ensures.value (search rules) (search rules);
  rest = refl;
}

pub returns-else-id-len-clause-does : goal.returns-else-id-len-clause-does
returns-else-id-len-clause-does c = record {
  does = no_field_written c.args.world.now.strings c.args.world.now.tables.objects _ c.args.id c.args.key c.args.value (slice_get_past c.args.world.now.tables.objects c.args.id.0 (search rules));
  rest = refl;
}
