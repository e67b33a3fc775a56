use Rattle.std.proofs.Common.{subst}
use Rattle.machine_sound.specs.Sound.{sizes, Valid}
use Rattle.lua_heap.specs.Plain.{plain}
use Rattle.pure_functions.proofs.Seen.{there, nth_valid}
use Rattle.pure_functions.proofs.shapes.argument_shape.Goals as goal

pub shape-requires : goal.shape-requires
shape-requires c =
    let z = sizes c.requires.primitives (plain c.args.world.now c.requires.fuel) in
    there c.strings_are_there.ensures z c.args.world.now.strings c.argument.result
    (subst (Valid z) (c.argument.ensures c.args.world.now.strings) (nth_valid z _ c.requires.valid c.args.at))
