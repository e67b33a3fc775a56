-- The place of the first equal word is what `position` found.
use Rattle.std.proofs.Common.{◌≡◌, sym, ◌∙◌, rules, tests, nat_eq}
use Rattle.std.specs.List.{position_from}
use Rattle.std.specs.Cmp.Lexicographic.{pointwise}
use Rattle.std.proofs.lemmas.Iterator.{YieldsList-from_slice}
use Rattle.std.proofs.lemmas.Iterator.Search.{position_from_yields_List}
use Rattle.std.proofs.lemmas.Iterator.Adapters.{position_from-zero}
use Rattle.lua_lex.proofs.words.place_of.Goals as goal
use Rattle.lua_lex.proofs.words.place_of.Goals.{After-position}

place_found : (c : After-position) → c.position.result ≡ position_from (λ other. pointwise nat_eq other.now c.args.word.now) 0 c.args.words.now
place_found c =
    position_from_yields_List (λ other. pointwise nat_eq other.now c.args.word.now) _ _ c.position.result c.position.ensures.ran (YieldsList-from_slice c.args.words.now cc) (λ x b q k. search (rules, tests))
    ∙ position_from-zero (λ other. pointwise nat_eq other.now c.args.word.now) c.args.words.now

pub returns-in_err-place : goal.returns-in_err-place
returns-in_err-place c = rw c.from_residual.ensures (sym c.in_err-place.was ∙ place_found (goal.at.returns-in_err-place c).After-position)

pub returns : goal.returns
returns c = sym c.in_ok-place.was ∙ place_found (goal.at.returns c).After-position
