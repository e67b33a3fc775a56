use Rattle.std.proofs.Common.{rules, ◌≡◌, [], ◌∷◌, false, Ok, ap, ◌∙◌, map}
use Rattle.std.specs.Prelude.{codes}
use Rattle.std.specs.List.{list_any}
use Rattle.int_core.specs.Value.{a_table, nth, object, shape}
use Rattle.library_rows.specs.Arguments.{text_argument}
use Rattle.library_rows.specs.Look.{done}
use Rattle.lua_heap.specs.Reading.{value}
use Rattle.lib_base.specs.Expanding.{is_escape}
use Rattle.pure_functions.specs.Answers.{heap_of}
use Rattle.lib_base.proofs.ExpandRows.{unescaped_is}
use Rattle.pure_functions.proofs.Seen.{argument_bytes, argument_there}
use Rattle.lib_base.proofs.expanding.own_text.Goals as goal

pub bytes-requires : goal.bytes-requires
bytes-requires c = argument_there c.strings_are_there.ensures c.args.world.now c.args.arguments.now c.requires.stands 0 c.args.id c.requires.first

pub returns : goal.returns
returns c =
    let W = c.args.world.now in
    let vs = map (value W.strings) c.args.arguments.now in
    let bytes = c.bytes.result.now in
    let own = argument_bytes W c.args.arguments.now 0 c.args.id bytes c.requires.first c.bytes.ensures in
    let text : text_argument (codes "expand") 1 (shape (nth vs 0)) ≡ Ok bytes = ap (λ v. text_argument (codes "expand") 1 (shape v)) own in
    let table : nth vs 1 ≡ object a_table c.args.captures.0 = c.requires.second W.strings in
    let none : list_any is_escape bytes ≡ false = search rules in
    unescaped_is vs (heap_of W) bytes text c.args.captures table own none (c.len.ensures.short c.args.id.0 bytes c.bytes.ensures) ∙ ap (λ v. done (heap_of W) (v ∷ [])) (c.requires.first W.strings)
