use Rattle.std.proofs.Common.{ap, ◌∙◌, length, length-drop, arith}
use Rattle.library_rows.specs.Searches.{text_from}
use Rattle.text_match.proofs.Needles.{found_there, found_nowhere}
use Rattle.text_match.proofs.plain.find_plain.Goals as goal

pub returns-in-Some-clause-first : goal.returns-in-Some-clause-first
returns-in-Some-clause-first c = found_there _ c.args.text.now c.args.at c.in-Some.place c.in-Some.ensures ∙ ap (text_from c.args.text.now c.args.at) c.split_at.ensures.back

pub returns-in-None-clause-first : goal.returns-in-None-clause-first
returns-in-None-clause-first c = found_nowhere _ c.args.text.now c.args.at c.in-None.ensures ∙ ap (text_from c.args.text.now c.args.at) c.split_at.ensures.back

pub returns-in-Some-clause-inside : goal.returns-in-Some-clause-inside
returns-in-Some-clause-inside c =
    let fits = c.in-Some.ensures.1.fits in
    omega (arith, fits, ap length c.split_at.ensures.back, length-drop c.args.at c.args.subject.now)
