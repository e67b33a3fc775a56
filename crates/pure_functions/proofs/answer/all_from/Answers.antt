use Rattle.std.proofs.Common.{rules, ◌≡◌, ap, sym, ◌∙◌, drop, map, min, length}
use Rattle.std.proofs.lemmas.List.{drop-map, drop_min}
use Rattle.library_rows.specs.Look.{done}
use Rattle.lua_heap.specs.Reading.{value}
use Rattle.pure_functions.specs.Answers.{heap_of}
use Rattle.pure_functions.proofs.answer.all_from.Goals as goal

pub returns : goal.returns
returns c W =
    let m : c.in_ok-results.results.items ≡ drop (min c.args.from (length c.args.arguments.now)) c.args.arguments.now = search rules in
    let e : c.in_ok-results.results.items ≡ drop c.args.from c.args.arguments.now = m ∙ drop_min c.args.from c.args.arguments.now in
    ap (λ vs. done (heap_of W) (map (value W.strings) vs)) e ∙ ap (done (heap_of W)) (sym (drop-map (value W.strings) c.args.from c.args.arguments.now))
