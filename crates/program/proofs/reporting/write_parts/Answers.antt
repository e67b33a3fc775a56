use Rattle.std.proofs.Common.{rules, arith, ◌≡◌, ◌≤◌, length, ◌∙◌}
use Rattle.program.proofs.Lines.{all_written, front_here, front_on, written_on}
use Rattle.program.proofs.ReportLemmas.{at_fault}
use Rattle.program.proofs.reporting.write_parts.Goals as goal

pub loop-at-preserved : goal.loop-at-preserved
loop-at-preserved g c =
    let ps = c.args.parts.now in
    let here = c.item_at.ensures in
    let wrote = c.in_ok-write_part.ensures.written in
    record {
      same = c.in_ok-write_part.ensures.cause.only ∙ c.loop-at.invariant.same;
      written = λ after rest. c.loop-at.invariant.written after (written_on ps c.loop-at.at c.item_at.result here _ _ after wrote rest);
      front = λ after rest. c.loop-at.invariant.front after (front_on ps c.loop-at.at c.item_at.result here _ _ after wrote rest);
    }

pub returns-in_err-write_part-clause-front : goal.returns-in_err-write_part-clause-front
returns-in_err-write_part-clause-front g c =
    at_fault c.from_residual.result (c.loop-at.invariant.front _ (front_here c.args.parts.now c.loop-at.at c.item_at.result c.item_at.ensures _ _ c.in_err-write_part.ensures.front))

pub returns-clause-written : goal.returns-clause-written
returns-clause-written g c =
    let ended : length c.args.parts.now ≤ c.loop-at.at = omega (arith, c.loop-at-test.false) in
    c.loop-at.invariant.written _ (all_written c.args.parts.now c.loop-at.at _ ended)
