use Rattle.std.proofs.Common.{rules, ◌≡◌, true, drop, arith}
use Rattle.std.specs.Prelude.{nat_eq}
use Rattle.std.specs.List.{starts_with}
use Rattle.text_match.proofs.Needles.{byte_first}
use Rattle.text_match.proofs.plain.found_at.Goals as goal

pub stands_at-requires : goal.stands_at-requires
stands_at-requires c = let h = c.requires.byte.0.high in omega (arith, h)

pub returns-then-stands_at : goal.returns-then-stands_at
returns-then-stands_at c =
    let stands : starts_with nat_eq (drop c.args.place c.args.rest.now) c.args.text.now ≡ true = search rules in
    byte_first c.args.rest.now c.args.text.now c.args.first c.args.place c.requires.text c.requires.byte stands
