use Rattle.std.proofs.Common.{◌≡◌, Err, rules}
use Rattle.lua_pattern.proofs.Told.{refused_answer, found_answer}
use Rattle.lua_pattern.proofs.find.find_at.Goals as goal

pub returns-in_err-pattern-clause-answer : goal.returns-in_err-pattern-clause-answer
returns-in_err-pattern-clause-answer c =
    let same : c.from_residual.result ≡ Err c.in_err-pattern.field-0.0 = search rules in
    rw same (refused_answer c.args.subject.now c.args.pattern.now c.args.at c.in_err-pattern.field-0.0 c.in_err-pattern.ensures.refused)

pub returns-clause-answer : goal.returns-clause-answer
returns-clause-answer c =
    found_answer c.args.subject.now c.args.pattern.now c.args.at c.in_ok-pattern.pattern c.in_ok-first_at.field-0 c.in_ok-pattern.ensures.read c.in_ok-pattern.ensures.few c.in_ok-first_at.ensures.first
