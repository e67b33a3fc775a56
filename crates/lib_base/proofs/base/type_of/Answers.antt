use Rattle.std.proofs.Common.{rules, ◌≡◌, [], ◌∷◌, ap, ◌∙◌, map}
use Rattle.int_core.specs.Operations.{type_name}
use Rattle.int_core.specs.Value.{nth, known, string, shape}
use Rattle.library_rows.specs.Look.{done}
use Rattle.lua_heap.specs.Reading.{value}
use Rattle.pure_functions.specs.Answers.{heap_of}
use Rattle.pure_functions.proofs.Interning.{same_heap}
use Rattle.lib_base.proofs.base.type_of.Goals as goal

pub returns-clause-answers : goal.returns-clause-answers
returns-clause-answers c =
    let vs = map (value c.args.world.now.strings) c.args.arguments.now in
    let name = type_name (shape (nth vs 0)) in
    let g : known (string name) ≡ value c.string.new.world.strings c.in_ok-made.made = search rules in
    ap (λ H. done H (known (string name) ∷ [])) (same_heap c.args.world.now c.string.new.world c.args.arguments.now c.string.ensures.kept)
    ∙ ap (λ v. done (heap_of c.string.new.world) (v ∷ [])) g
