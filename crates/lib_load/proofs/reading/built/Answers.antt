use Rattle.std.proofs.Common.{subst}
use Rattle.compile_text.specs.Source.{IsRefused}
use Rattle.lib_load.proofs.Told.{code_met, refusal_met, violation_met}
use Rattle.lib_load.proofs.reading.built.Goals as goal

pub returns-in-Ok : goal.returns-in-Ok
returns-in-Ok c = code_met c.args.name.now c.args.source.now c.in-Ok.code c.in-Ok.ensures.code

pub returns-in_ok-why-in-Err-Source : goal.returns-in_ok-why-in-Err-Source
returns-in_ok-why-in-Err-Source c =
    refusal_met c.args.name.now c.args.source.now c.in-Err-Source.line c.in_ok-why-in-Err-Source.why
    (subst (IsRefused c.args.source.now) c.in-Err-Source.field-0-is c.in-Err-Source.ensures.refused) c.in_ok-why-in-Err-Source.ensures

pub returns-in_ok-why-in-Err-Rule : goal.returns-in_ok-why-in-Err-Rule
returns-in_ok-why-in-Err-Rule c =
    violation_met c.args.name.now c.args.source.now c.in-Err-Rule.rule c.in-Err-Rule.line c.in_ok-why-in-Err-Rule.why
    (subst (IsRefused c.args.source.now) c.in-Err-Rule.field-0-is c.in-Err-Rule.ensures.refused) c.in_ok-why-in-Err-Rule.ensures
