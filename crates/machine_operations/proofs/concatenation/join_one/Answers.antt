use Rattle.std.proofs.lemmas.Result.{IfOk-weaker}
use Rattle.move_laws.specs.Memory.{HasFrame}
use Rattle.machine_operations.proofs.Concats.{ends_there, joins_so, stays_so}
use Rattle.machine_operations.proofs.Joins.{operand_there}
use Rattle.machine_operations.proofs.concatenation.join_one.Goals as goal

pub concat-requires-clause-left : goal.concat-requires-clause-left
concat-requires-clause-left c = operand_there c.args.world.now c.args.register c.read_register-operand.result c.requires.sound c.operands_are_there.ensures c.read_register-operand.ensures

pub returns-clause-joins : goal.returns-clause-joins
returns-clause-joins c =
    let frame : HasFrame c.args.world.now = record { place = c.requires.there.place; is = c.requires.there.is } in
    let so = joins_so c.args.world.now c.concat.new.strings c.read_register-operand.result c.args.whole c.concat.result frame c.requires.sound c.operands_are_there.ensures c.concat.ensures.does c.concat.ensures.strings c.concat.ensures.err in
    IfOk-weaker c.concat.result _ _ (λ o k. record { operand = c.read_register-operand.result; reads = c.read_register-operand.ensures; concats = k }) so

pub returns-clause-done : goal.returns-clause-done
returns-clause-done c = ends_there c.args.world.now c.concat.new.strings c.read_register-operand.result c.args.whole c.concat.result c.concat.ensures.does

pub returns-clause-same : goal.returns-clause-same
returns-clause-same c = (stays_so c.args.world.now c.concat.new.strings c.read_register-operand.result c.args.whole c.concat.result c.requires.sound c.concat.ensures.strings c.concat.ensures.err).0

pub returns-clause-sound : goal.returns-clause-sound
returns-clause-sound c = (stays_so c.args.world.now c.concat.new.strings c.read_register-operand.result c.args.whole c.concat.result c.requires.sound c.concat.ensures.strings c.concat.ensures.err).1
