use Rattle.lib_base.proofs.Seen.{read_there}
use Rattle.lib_base.proofs.text.shown.Goals as goal

pub shape-requires : goal.shape-requires
shape-requires c = read_there c.strings_are_there.ensures c.args.world.now c.args.arguments.now c.requires.stands _ _ c.read_field-field.result c.read_field-field.ensures
