-- The items of a pattern, by how it was read.
use Rattle.std.proofs.Common.{◌≡◌, ℕ, ◌≤◌, Bool, true, false, List, Result, Ok, Err, ap, ◌∙◌, arith}
use Rattle.std.specs.Prelude.{nat_lt, count_by, codes}
use Rattle.std.proofs.lemmas.Bool.Decides.{nat_tests}
use Rattle.lua_pattern.specs.declared.answer.PatternFault.{PatternFault}
use Rattle.lua_pattern.specs.declared.answer.PatternFault.TheVariants.{Malformed, TooComplex, Memory}
use Rattle.lua_pattern.specs.declared.item.Item.{Item}
use Rattle.lua_pattern.specs.Answer.{IsFaultOf, is_counted}
use Rattle.lua_pattern.specs.Reading.{items_of}
use Rattle.library_rows.specs.Searches.{pattern_items, rule_text}
use Rattle.text_match.specs.Told.{IsRefusedAs}

abbrev Items : Type 0
Items = Result (List Item) (List ℕ)

abbrev by_count : Bool → List Item → Items
by_count b items = elim b as (λ _. Items) [ true ↦ Err (codes "pattern too complex") | false ↦ Ok items ]

abbrev by_reading : Result (List Item) ℕ → Items
by_reading r = elim r as (λ _. Items) [ Err rule ↦ Err (rule_text rule) | Ok items ↦ elim (nat_lt 200 (count_by is_counted items)) as (λ _. Items) [ true ↦ Err (codes "pattern too complex") | false ↦ Ok items ] ]

pub items_known : (p : List ℕ) (items : List Item) → items_of p ≡ Ok items → count_by is_counted items ≤ 200 → pattern_items p ≡ Ok items
items_known p items read few =
    let none : nat_lt 200 (count_by is_counted items) ≡ false = grind (arith, nat_tests) in
    ap by_reading read ∙ ap (λ b. by_count b items) none

pub items_refused : (p : List ℕ) (fault : PatternFault) → IsFaultOf fault (items_of p) → IsRefusedAs fault (pattern_items p)
items_refused p (Malformed rule) refused = ap by_reading refused
items_refused p TooComplex refused =
    let many : nat_lt 200 (count_by is_counted refused.0) ≡ true = let m = refused.2 in grind (arith, nat_tests) in
    ap by_reading refused.1 ∙ ap (λ b. by_count b refused.0) many
items_refused p Memory refused = tt
