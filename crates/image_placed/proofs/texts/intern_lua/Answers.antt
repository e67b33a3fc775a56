use Rattle.image_placed.proofs.MoreAdded.{adds_then}
use Rattle.image_placed.proofs.texts.intern_lua.Goals as goal

pub returns-in_err-intern_all-2 : goal.returns-in_err-intern_all-2
returns-in_err-intern_all-2 c = adds_then c.args.world.now c.intern_all.new.world c.intern_all-2.new.world c.intern_all.ensures c.intern_all-2.ensures

pub returns-in-Leaving : goal.returns-in-Leaving
returns-in-Leaving c = adds_then c.args.world.now c.intern_all-2.new.world c.intern.new.world (adds_then c.args.world.now c.intern_all.new.world c.intern_all-2.new.world c.intern_all.ensures c.intern_all-2.ensures) c.intern.ensures

pub returns-in_default : goal.returns-in_default
returns-in_default c = adds_then c.args.world.now c.intern_all.new.world c.intern_all-2.new.world c.intern_all.ensures c.intern_all-2.ensures
