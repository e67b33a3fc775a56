use Rattle.std.proofs.Common.{rules, ◌≡◌, [], ap, sym, ◌∙◌, subst, length, map, Ok, Err}
use Rattle.int_core.specs.Value.{shape}
use Rattle.library_arguments.specs.Shapes.{known_of}
use Rattle.library_rows.specs.Base.{seek}
use Rattle.library_rows.specs.Look.{done, looked}
use Rattle.library_rows.specs.Searches.{seeks}
use Rattle.lib_string.specs.Searches.{gives_values, IsSought}
use Rattle.lua_heap.specs.Reading.{value}
use Rattle.pure_functions.specs.Answers.{Answers, heap_of}
use Rattle.lib_base.proofs.SeekRows.{empty, no_hit, seek_faults, seek_sees}
use Rattle.lib_base.proofs.seeking.seek.Goals as goal

pub returns-in_err-found-clause-answers : goal.returns-in_err-found-clause-answers
returns-in_err-found-clause-answers c =
    let W = c.args.world.now in
    let r : c.from_residual.result ≡ Err c.in_err-found.field-0.0 = search rules in
    subst (Answers seek c.args.arguments.now W W) (sym r) (seek_faults W W c.args.arguments.now c.in_err-found.field-0.0 c.in_err-found.ensures.row)

pub returns-in_default-clause-answers : goal.returns-in_default-clause-answers
returns-in_default-clause-answers c =
    let texts = c.args.world.now.strings in
    let vs = map (value texts) c.args.arguments.now in
    let H = heap_of c.args.world.now in
    seek_sees vs H
    ∙ ap (λ l. looked l vs H) (no_hit (seeks (map shape vs)) c.in_ok-found.field-0 c.in_default.not-Some c.in_ok-found.ensures.row)
    ∙ ap (λ vs. done H (map (value texts) vs)) (sym c.new.ensures.items)

pub returns-then-is_empty-clause-answers : goal.returns-then-is_empty-clause-answers
returns-then-is_empty-clause-answers c =
    let texts = c.args.world.now.strings in
    let vs = map (value texts) c.args.arguments.now in
    let H = heap_of c.args.world.now in
    let found = c.in-Some.found in
    let row : seeks (map shape vs) ≡ gives_values found.start found.next (map known_of found.values.items) = subst (λ o. IsSought (Ok o) (seeks (map shape vs))) c.in-Some.is c.in_ok-found.ensures.row in
    let l : length found.values.items ≡ 0 = search rules in
    let none : found.values.items ≡ [] = empty found.values.items l in
    seek_sees vs H
    ∙ ap (λ l. looked l vs H) (row ∙ ap (λ xs. gives_values found.start found.next (map known_of xs)) none)
    ∙ ap (λ vs. done H (map (value texts) vs)) (sym c.new-then-is_empty.ensures.items)

pub returns-clause-answers : goal.returns-clause-answers
returns-clause-answers c =
    let texts = c.args.world.now.strings in
    let vs = map (value texts) c.args.arguments.now in
    let H = heap_of c.args.world.now in
    let found = c.in-Some.found in
    let row : seeks (map shape vs) ≡ gives_values found.start found.next (map known_of found.values.items) = subst (λ o. IsSought (Ok o) (seeks (map shape vs))) c.in-Some.is c.in_ok-found.ensures.row in
    seek_sees vs H ∙ ap (λ l. looked l vs H) row ∙ c.in_ok-answer.ensures.answers vs
