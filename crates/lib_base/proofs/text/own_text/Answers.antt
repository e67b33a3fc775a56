use Rattle.std.proofs.Common.{◌≡◌, [], ◌∷◌, ap, ◌∙◌, map, subst}
use Rattle.int_core.specs.Value.{known, nth, string}
use Rattle.library_rows.specs.Look.{done}
use Rattle.lua_heap.specs.Plain.{plain}
use Rattle.lua_heap.specs.Reading.{text_or, value}
use Rattle.machine_sound.specs.Sound.{Valid, sizes}
use Rattle.pure_functions.specs.Answers.{heap_of}
use Rattle.pure_functions.proofs.Seen.{nth_valid}
use Rattle.lib_base.proofs.TextRows.{own_text_is}
use Rattle.lib_base.proofs.text.own_text.Goals as goal

pub bytes-requires : goal.bytes-requires
bytes-requires c =
    let W = c.args.world.now in
    let s = c.requires.stands in
    let z = sizes s.primitives (plain W s.fuel) in
    c.strings_are_there.ensures z W.strings c.args.id (subst (Valid z) (c.requires.first W.strings) (nth_valid z _ s.valid 0))

pub returns : goal.returns
returns c =
    let W = c.args.world.now in
    let vs = map (value W.strings) c.args.arguments.now in
    let bytes = c.bytes.result.now in
    let e : nth vs 0 ≡ known (string bytes) = c.requires.first W.strings ∙ ap (λ o. known (string (text_or c.args.id.0 o))) c.bytes.ensures in
    own_text_is vs (heap_of W) bytes e (c.len.ensures.short c.args.id.0 bytes c.bytes.ensures) ∙ ap (λ v. done (heap_of W) (v ∷ [])) (c.requires.first W.strings)
