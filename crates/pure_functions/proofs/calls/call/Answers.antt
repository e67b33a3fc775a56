use Rattle.std.proofs.Common.{ap, sym, ◌∙◌, map}
use Rattle.int_core.specs.Value.{known, shape}
use Rattle.library_arguments.specs.Answers.{results_of}
use Rattle.library_rows.specs.Look.{done}
use Rattle.lua_heap.specs.Reading.{value}
use Rattle.pure_functions.specs.Functions.{plain_row}
use Rattle.pure_functions.specs.Answers.{heap_of}
use Rattle.pure_functions.proofs.Interning.{same_heap}
use Rattle.pure_functions.proofs.calls.call.Goals as goal

pub returns-clause-answers : goal.returns-clause-answers
returns-clause-answers c =
    let W = c.args.world.now in
    let new = c.given.new.world in
    let vs = map (value W.strings) c.args.arguments.now in
    let ps = results_of c.in_ok-results.results in
    c.plain_rows_are_functions.ensures (plain_row c.args.function) vs (heap_of W)
    ∙ (c.answers_are_done.ensures (plain_row c.args.function (map shape vs)) ps (heap_of W) c.in_ok-results.ensures).0
    ∙ ap (λ H. done H (map known ps)) (same_heap W new c.args.arguments.now c.given.ensures.kept)
    ∙ sym c.in_ok-answer.ensures.answers
