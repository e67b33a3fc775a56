use Rattle.std.proofs.Common.{◌≡◌, rules, subst, sym}
use Rattle.std.proofs.lemmas.Result.{IfOk-weaker}
use Rattle.machine_moves.specs.Ending.{ending_of}
use Rattle.machine_step.specs.Places.{GoesOnSo, IsAwake}
use Rattle.machine_step.proofs.Awake.{awake, goes_on}
use Rattle.machine_step.proofs.going_on.go_on.Goals as goal

pub wake-wait-requires : goal.wake-wait-requires
wake-wait-requires c = record { place = c.requires.waits.waits.place; is = c.requires.waits.waits.is }

pub go_on_with-requires-clause-solid : goal.go_on_with-requires-clause-solid
go_on_with-requires-clause-solid c = c.wake-wait.ensures.solid c.requires.sound

pub go_on_with-requires-clause-awake : goal.go_on_with-requires-clause-awake
go_on_with-requires-clause-awake c =
    let items : c.deref.result.now ≡ c.wake-wait.result.1.items = search rules in
    subst (λ vs. IsAwake c.wake-wait.new.world c.args.pc c.args.word c.wake-wait.result.0 vs) (sym items)
    (awake c.requires.waits c.wake-wait.ensures.wakes c.requires.sound (c.wake-wait.ensures.solid c.requires.sound).order)

pub returns-clause-does : goal.returns-clause-does
returns-clause-does c =
    let items : c.deref.result.now ≡ c.wake-wait.result.1.items = search rules in
    IfOk-weaker c.go_on_with.result _ _ (λ next g. goes_on c.requires.waits c.wake-wait.ensures.wakes
    (subst (λ vs. GoesOnSo c.wake-wait.new.world c.go_on_with.new.world c.args.word c.wake-wait.result.0 vs (ending_of next)) items g)) c.go_on_with.ensures.goes
