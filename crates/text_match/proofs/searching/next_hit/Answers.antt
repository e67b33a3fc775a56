use Rattle.std.proofs.Common.{Ok, sym, ap, ◌∙◌}
use Rattle.text_match.specs.Ordinary.{plain_hit}
use Rattle.text_match.proofs.OrdinaryPatterns.{next_plainly}
use Rattle.text_match.proofs.searching.next_hit.Goals as goal

pub returns-then-is_plain-clause-found : goal.returns-then-is_plain-clause-found
returns-then-is_plain-clause-found c =
    next_plainly c.args.subject.now c.args.pattern.now c.args.at c.args.last c.args.raw (c.is_plain.ensures.ordinary c.if-is_plain.true) (c.is_plain.ensures.some c.if-is_plain.true) c.if-at-subject.true c.if-last-at.true
    ∙ ap (λ place. Ok (plain_hit c.args.pattern.now place)) (sym c.find_plain-place.ensures.first) ∙ ap (λ hit. Ok hit) (sym c.plain_hit.ensures.told)
