use Rattle.std.proofs.Common.{◌+◌, ◌<◌, refl, subst, sym, ◌∙◌}
use Rattle.std.specs.Prelude.{◌^◌}
use Rattle.std.proofs.lemmas.Result.{IfOk-weaker, on_err_weaker}
use Rattle.machine_step.proofs.Awake.{join_goes, join_near, join_safe, room, stands}
use Rattle.machine_step.proofs.Steps.{same_printed}
use Rattle.machine_step.proofs.going_on.join_with.Goals as goal

pub join_on-requires : goal.join_on-requires
join_on-requires c =
    record {
      stands = record { sound = c.requires.awake.joins c.args.left refl; at = stands c.requires.awake; room = room c.requires.awake };
      size = subst (λ a. a + c.args.left < 2 ^ 64) (sym (c.from.ensures ∙ c.a.ensures)) (join_near c.requires.awake);
      came = c.requires.awake.valid;
      safe = join_safe c.requires.awake (c.from.ensures ∙ c.a.ensures);
    }

pub returns-clause-goes : goal.returns-clause-goes
returns-clause-goes c = IfOk-weaker c.join_on.result _ _ (λ next l. join_goes (c.from.ensures ∙ c.a.ensures) l) c.join_on.ensures.leads

pub returns-clause-err : goal.returns-clause-err
returns-clause-err c = on_err_weaker c.join_on.result same_printed c.join_on.ensures.err
