use Rattle.std.proofs.Common.{◌∙◌, ◌<◌, ℕ, List, length, ap, subst, length-drop, arith}
use Rattle.library_rows.specs.Codepoints.{decode}
use Rattle.utf8_core.proofs.Counts.{counted_more, counted_past, counted_out, counted_bad}
use Rattle.utf8_core.proofs.counting.count.Goals as goal

pub loop-at-preserved : goal.loop-at-preserved
loop-at-preserved c =
    let inside = c.in-Some.ensures.inside in
    let whole = length-drop c.loop-at.at c.args.text.now in
    let part = ap (λ (t : List ℕ). length t) c.behind.ensures in (
      omega (arith, inside, whole, part),
      omega arith,
      c.loop-at.invariant.2 ∙ counted_more c.args.lax c.args.text.now c.loop-at.at c.args.end c.loop-at.found (record { code = c.in-Some.decoded.code; more = c.in-Some.decoded.more }) (omega arith) (omega arith) (c.in-Some.ensures.value ∙ ap (decode c.args.lax) c.behind.ensures) (subst (λ (t : List ℕ). c.in-Some.decoded.more < length t) c.behind.ensures inside),
    )

pub returns : goal.returns
returns c = c.loop-at.invariant.2 ∙ counted_past c.args.lax c.args.text.now c.loop-at.at c.args.end c.loop-at.found (omega arith)

pub returns-then-at-text : goal.returns-then-at-text
returns-then-at-text c = c.loop-at.invariant.2 ∙ counted_out c.args.lax c.args.text.now c.loop-at.at c.args.end c.loop-at.found (omega arith)

pub returns-in_default : goal.returns-in_default
returns-in_default c = c.loop-at.invariant.2 ∙ counted_bad c.args.lax c.args.text.now c.loop-at.at c.args.end c.loop-at.found (omega arith) (omega arith) (c.in_default.ensures.value ∙ ap (decode c.args.lax) c.behind.ensures)
