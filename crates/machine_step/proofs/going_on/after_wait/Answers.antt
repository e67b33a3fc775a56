use Rattle.std.proofs.Common.{ap, refl, sym, subst}
use Rattle.instruction_forms.specs.declared.form.After.TheVariants.{Next, Tests}
use Rattle.instruction_forms.specs.Forms.{follows}
use Rattle.machine_step.specs.Places.{Becomes}
use Rattle.machine_step.proofs.Awake.{none_takes}
use Rattle.machine_step.proofs.going_on.after_wait.Goals as goal

pub returns-in-ForValue : goal.returns-in-ForValue
returns-in-ForValue c = subst (λ w. Becomes w c.args.word c.after_operation.result) (sym c.in-ForValue.is) c.after_operation.ensures

pub returns-in-ForTruth : goal.returns-in-ForTruth
returns-in-ForTruth c =
    subst (λ w. Becomes w c.args.word (Tests c.k.result)) (sym c.in-ForTruth.is)
    (record { is = λ f op o p n. ap (λ k. follows p n (Tests k)) (sym c.k.ensures); told = λ f vs. refl })

pub returns-in-Dropped : goal.returns-in-Dropped
returns-in-Dropped c = subst (λ w. Becomes w c.args.word Next) (sym c.in-Dropped.is) (record { is = λ f op o p n. refl; told = λ f vs. refl })

pub unreachable-requires : goal.unreachable-requires
unreachable-requires c = none_takes c.args.wait c.requires c.in_default.not-ForValue c.in_default.not-ForTruth c.in_default.not-Dropped
