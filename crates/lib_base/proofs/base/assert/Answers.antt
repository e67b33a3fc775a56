use Rattle.std.proofs.Common.{rules, ◌≡◌, ap, ◌∙◌, map, false}
use Rattle.std.specs.Prelude.{codes}
use Rattle.int_core.specs.Value.{nth, known, nil, string, holds, shape}
use Rattle.library_rows.specs.Look.{raised}
use Rattle.lua_heap.specs.Reading.{value}
use Rattle.pure_functions.specs.Answers.{heap_of}
use Rattle.lib_base.proofs.BaseRows.{assert_fails}
use Rattle.pure_functions.proofs.Interning.{same_heap}
use Rattle.lib_base.proofs.base.assert.Goals as goal

pub returns-in_ok-message-in-Nil-clause-answers : goal.returns-in_ok-message-in-Nil-clause-answers
returns-in_ok-message-in-Nil-clause-answers c =
    let texts = c.args.world.now.strings in
    let vs = map (value texts) c.args.arguments.now in
    let e : holds (shape (nth vs 0)) ≡ false = search rules in
    let f : nth vs 1 ≡ known nil = c.argument.ensures texts ∙ ap (value texts) c.in-Nil.is in
    let g : known (string (codes "assertion failed!")) ≡ value c.string.new.world.strings c.in_ok-message-in-Nil.message = search rules in
    assert_fails vs (heap_of c.args.world.now) e f
    ∙ ap (λ H. raised H (known (string (codes "assertion failed!")))) (same_heap c.args.world.now c.string.new.world c.args.arguments.now c.string.ensures.kept)
    ∙ ap (λ v. raised (heap_of c.string.new.world) v) g
