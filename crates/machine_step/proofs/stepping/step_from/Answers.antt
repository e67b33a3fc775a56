use Rattle.std.proofs.Common.{length}
use Rattle.std.proofs.lemmas.Result.{IfOk-weaker}
use Rattle.library_rows.specs.Library.{all_entries}
use Rattle.step_laws.proofs.Ready.{ready_is_sound}
use Rattle.machine_step.proofs.ByForm.{goes_by}
use Rattle.machine_step.proofs.Steps.{did_go, runs_word, waits_here}
use Rattle.machine_step.proofs.stepping.step_from.Goals as goal

pub run_word-requires : goal.run_word-requires
run_word-requires c =
    record {
      sound = ready_is_sound (length all_entries) _ c.args.world.now c.requires.ready;
      runs = runs_word (ready_is_sound (length all_entries) _ c.args.world.now c.requires.ready) c.requires.here.word c.requires.here.wait c.if-here.true;
    }

pub go_on-requires : goal.go_on-requires
go_on-requires c =
    record {
      sound = ready_is_sound (length all_entries) _ c.args.world.now c.requires.ready;
      waits = waits_here (ready_is_sound (length all_entries) _ c.args.world.now c.requires.ready) c.requires.here.word c.requires.here.wait c.if-here.false;
    }

pub returns-clause-does : goal.returns-clause-does
returns-clause-does c = IfOk-weaker c.go_on.result _ _ (λ next p. did_go (goes_by p)) c.go_on.ensures.does

pub returns-then-here-clause-does : goal.returns-then-here-clause-does
returns-then-here-clause-does c = IfOk-weaker c.run_word.result _ _ (λ next g. did_go g) c.run_word.ensures.does
