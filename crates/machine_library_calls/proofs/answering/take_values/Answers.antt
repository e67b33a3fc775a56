use Rattle.std.proofs.Common.{subst, sym}
use Rattle.machine_library_calls.specs.Calls.{WaitsIf, WaitsSoAt}
use Rattle.machine_library_calls.proofs.answering.take_values.Goals as goal

pub wake_with-requires : goal.wake_with-requires
wake_with-requires g c =
    let X = c.args.world.now in
    (c.requires.0, subst (WaitsSoAt X c.in-Caller.here) (sym c.wait_by.ensures) (subst (WaitsIf X) c.in-Caller.is c.requires.1))

pub take_below-requires : goal.take_below-requires
take_below-requires g c = c.requires.0

pub returns-in-Caller-clause-comes : goal.returns-in-Caller-clause-comes
returns-in-Caller-clause-comes g c = c.wake_with.ensures.comes

pub returns-in-Below-clause-comes : goal.returns-in-Below-clause-comes
returns-in-Below-clause-comes g c = c.take_below.ensures.comes
