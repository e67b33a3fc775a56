use Rattle.std.proofs.Common.{ap, sym, ◌∙◌, map, subst}
use Rattle.std.specs.Prelude.{[], ◌∷◌, codes}
use Rattle.library_rows.specs.Arguments.{wrong_type}
use Rattle.library_rows.specs.Look.{done, refused}
use Rattle.machine_sound.specs.Sound.{sizes, Valid}
use Rattle.lua_heap.specs.Plain.{plain}
use Rattle.lua_heap.specs.Reading.{value}
use Rattle.pure_functions.specs.Answers.{heap_of}
use Rattle.lib_base.proofs.BaseRows.{no_length, table_length}
use Rattle.pure_functions.proofs.Seen.{nth_valid}
use Rattle.lib_base.proofs.base.length.Goals as goal

pub bytes-requires : goal.bytes-requires
bytes-requires c =
    let z = sizes c.requires.primitives (plain c.args.world.now c.requires.fuel) in
    c.strings_are_there.ensures z c.args.world.now.strings c.in-Str.id
    (subst (Valid z) (c.argument.ensures c.args.world.now.strings ∙ ap (value c.args.world.now.strings) c.in-Str.is) (nth_valid z _ c.requires.valid 0))

pub returns-in-Table : goal.returns-in-Table
returns-in-Table c =
    let texts = c.args.world.now.strings in
    let vs = map (value texts) c.args.arguments.now in
    table_length c.args.world.now vs c.in-Table.id c.border.result (c.argument.ensures texts ∙ ap (value texts) c.in-Table.is) c.border.ensures
    ∙ ap (λ v. done (heap_of c.args.world.now) (v ∷ [])) (sym (c.integer_or_nil-size.ensures texts))

pub returns-in_default : goal.returns-in_default
returns-in_default c =
    let vs = map (value c.args.world.now.strings) c.args.arguments.now in
    no_length vs (heap_of c.args.world.now) c.args.world.now.strings c.argument.result (c.argument.ensures c.args.world.now.strings) c.in_default.not-Table c.in_default.not-Str
    ∙ ap (λ text. refused text) (sym (c.wrong_type.ensures ∙ ap (λ s. wrong_type 1 (codes "rawlen") (codes "table or string") s) c.argument_shape.ensures))
