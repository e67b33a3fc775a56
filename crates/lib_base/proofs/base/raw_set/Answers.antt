use Rattle.std.proofs.Common.{rules, ◌≡◌, ap, ◌∙◌, map}
use Rattle.int_core.specs.Value.{nth, known, nil}
use Rattle.lua_heap.specs.Reading.{value}
use Rattle.pure_functions.specs.Answers.{heap_of}
use Rattle.lib_base.proofs.BaseRows.{raw_set_of_nil}
use Rattle.lib_base.proofs.base.raw_set.Goals as goal

pub returns-in_default-clause-answers : goal.returns-in_default-clause-answers
returns-in_default-clause-answers c =
    let vs = map (value c.args.world.now.strings) c.args.arguments.now in
    let f : nth vs 1 ≡ known nil = c.argument.ensures c.args.world.now.strings ∙ ap (value c.args.world.now.strings) (c.of.ensures.none.0 (search rules)) in
    raw_set_of_nil vs (heap_of c.args.world.now) c.in_ok-id.id c.in_ok-id.ensures f
