use Rattle.std.proofs.Common.{refl}
use Rattle.running_frame.proofs.Taken.{waiting_is}
use Rattle.running_frame.proofs.taking.waiting_top.Goals as goal

pub returns : goal.returns
returns c =
    waiting_is c.args.stack.now c.function-id.result c.wait-wait.result c.pc-place.result _ c.registers-size.result.now refl c.function-id.ensures c.wait-wait.ensures c.pc-place.ensures c.registers-size.ensures
