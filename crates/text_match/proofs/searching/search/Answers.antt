use Rattle.std.proofs.Common.{◌≡◌, false, Ok, rules, sym, ap, ◌∙◌}
use Rattle.std.specs.List.{list_any}
use Rattle.text_match.specs.Ordinary.{is_special, plain_hit}
use Rattle.text_match.proofs.OrdinaryPatterns.{searched_plainly}
use Rattle.text_match.proofs.searching.search.Goals as goal

pub returns-clause-found : goal.returns-clause-found
returns-clause-found c =
    let ordinary : list_any is_special c.args.pattern.now ≡ false = search rules in
    searched_plainly c.args.subject.now c.args.pattern.now c.args.at ordinary c.requires
    ∙ ap (λ place. Ok (plain_hit c.args.pattern.now place)) (sym c.find_plain-place.ensures.first) ∙ ap (λ hit. Ok hit) (sym c.plain_hit.ensures.told)
