use Rattle.std.proofs.Common.{◌≡◌, [], ap, sym, ◌∙◌}
use Rattle.std.specs.Prelude.{codes}
use Rattle.std.proofs.lemmas.Result.{IfOk-weaker}
use Rattle.int_core.specs.Limits.{stack_overflow}
use Rattle.lua_heap.specs.declared.world.World.{World as Memory}
use Rattle.lua_heap.specs.Plain.{plain}
use Rattle.machine_core.specs.MachineStep.{after_closing}
use Rattle.machine_core.specs.Moves.{run}
use Rattle.machine_coroutines.specs.Beginning.{told_of}
use Rattle.machine_coroutines.specs.declared.beginning.Begun.TheVariants.{Entered, NoRoom, Running, Normal}
use Rattle.lib_coroutine.proofs.Closes.{closes_not, closes_on, taken_is}
use Rattle.lib_coroutine.proofs.Sound.{coroutine_there}
use Rattle.lib_coroutine.proofs.closing.close_coroutine.Goals as goal

pub begin_closing-requires-clause-there : goal.begin_closing-requires-clause-there
begin_closing-requires-clause-there c = coroutine_there c.requires.sound c.args.co c.requires.first

pub returns-in-Entered-clause-leads : goal.returns-in-Entered-clause-leads
returns-in-Entered-clause-leads c =
    closes_on c.requires.first c.in_ok-begin_closing.ensures.makes (ap told_of c.in-Entered.is) (taken_is (c.take_moving.ensures.makes [])) c.close_next.ensures.leads

pub returns-in-NoRoom-clause-leads : goal.returns-in-NoRoom-clause-leads
returns-in-NoRoom-clause-leads c =
    IfOk-weaker c.blame.result _ _
    (λ ending l. closes_not c.requires.first c.in_ok-begin_closing.ensures.makes stack_overflow (λ E W. ap (λ b. run (after_closing (told_of b)) E W) c.in-NoRoom.is) (λ fuel. ap (λ (M : Memory). plain M fuel) (c.in_ok-begin_closing.ensures.same (λ e. let bad : NoRoom ≡ Entered = sym c.in-NoRoom.is ∙ e in cc))) l)
    c.blame.ensures.leads

pub returns-in-Running-clause-leads : goal.returns-in-Running-clause-leads
returns-in-Running-clause-leads c =
    IfOk-weaker c.blame-in-Running.result _ _
    (λ ending l. closes_not c.requires.first c.in_ok-begin_closing.ensures.makes (codes "cannot close a running coroutine") (λ E W. ap (λ b. run (after_closing (told_of b)) E W) c.in-Running.is) (λ fuel. ap (λ (M : Memory). plain M fuel) (c.in_ok-begin_closing.ensures.same (λ e. let bad : Running ≡ Entered = sym c.in-Running.is ∙ e in cc))) l)
    c.blame-in-Running.ensures.leads

pub returns-in-Normal-clause-leads : goal.returns-in-Normal-clause-leads
returns-in-Normal-clause-leads c =
    IfOk-weaker c.blame-in-Normal.result _ _
    (λ ending l. closes_not c.requires.first c.in_ok-begin_closing.ensures.makes (codes "cannot close a normal coroutine") (λ E W. ap (λ b. run (after_closing (told_of b)) E W) c.in-Normal.is) (λ fuel. ap (λ (M : Memory). plain M fuel) (c.in_ok-begin_closing.ensures.same (λ e. let bad : Normal ≡ Entered = sym c.in-Normal.is ∙ e in cc))) l)
    c.blame-in-Normal.ensures.leads
