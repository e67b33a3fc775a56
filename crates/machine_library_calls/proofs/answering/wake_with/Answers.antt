use Rattle.std.proofs.lemmas.Result.{IfOk-weaker}
use Rattle.machine_library_calls.proofs.Calling.{awake_with, comes_with, solid_with}
use Rattle.machine_library_calls.proofs.answering.wake_with.Goals as goal

pub set_wait-requires : goal.set_wait-requires
set_wait-requires g c = let w = c.requires.1.word in record { place = w.place; is = w.is }

pub go_on-requires-clause-solid : goal.go_on-requires-clause-solid
go_on-requires-clause-solid g c =
    let set = c.set_wait.ensures in
    solid_with c.requires.0 c.loading_is_safe.ensures.safe c.set_wait.new.world c.args.here c.args.wait c.requires.1 set.waits set.stays.rest set.stays.listed

pub go_on-requires-clause-awake : goal.go_on-requires-clause-awake
go_on-requires-clause-awake g c =
    let set = c.set_wait.ensures in
    awake_with c.requires.0 c.loading_is_safe.ensures.safe c.set_wait.new.world c.args.here c.args.wait c.requires.1 set.waits set.stays.rest set.stays.listed

pub returns-clause-comes : goal.returns-clause-comes
returns-clause-comes g c =
    let set = c.set_wait.ensures in
    IfOk-weaker c.go_on.result _ _
    (λ ending q builds are. comes_with c.requires.0 c.loading_is_safe.ensures.safe c.set_wait.new.world c.args.here c.args.wait c.requires.1 set.waits set.stays.rest set.stays.listed c.go_on.new.world ending q builds)
    c.go_on.ensures.goes
