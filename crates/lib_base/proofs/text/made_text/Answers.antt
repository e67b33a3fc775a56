use Rattle.std.proofs.Common.{rules, ◌≡◌, ◌<◌, ◌≤◌, [], ◌∷◌, ap, ◌∙◌, map, length}
use Rattle.int_core.specs.Value.{greatest_string, known, string}
use Rattle.library_rows.specs.Base.{texts}
use Rattle.library_rows.specs.Look.{done}
use Rattle.lua_heap.specs.Reading.{value}
use Rattle.pure_functions.specs.Answers.{heap_of}
use Rattle.pure_functions.proofs.Interning.{as_before, same_heap, then_strings}
use Rattle.lib_base.proofs.TextRows.{shown_is, shown_too_long}
use Rattle.lib_base.proofs.text.made_text.Goals as goal

pub returns-then-len-gt-MAX_TEXT-clause-answers : goal.returns-then-len-gt-MAX_TEXT-clause-answers
returns-then-len-gt-MAX_TEXT-clause-answers c =
    let new = c.string.new.world in
    let h : greatest_string < length c.in_ok-bytes.bytes.items = search rules in
    as_before texts c.args.world.now new c.args.arguments.now c.string.ensures.kept
    ∙ shown_too_long (map (value new.strings) c.args.arguments.now) (heap_of new) c.in_ok-bytes.bytes.items c.in_ok-bytes.ensures h

pub returns-in_err-made-clause-kept : goal.returns-in_err-made-clause-kept
returns-in_err-made-clause-kept c = then_strings c.args.world.now c.string.new.world c.string-2.new.world c.args.arguments.now c.string.ensures.kept c.string-2.ensures.kept

pub returns-clause-kept : goal.returns-clause-kept
returns-clause-kept c = then_strings c.args.world.now c.string.new.world c.string-2.new.world c.args.arguments.now c.string.ensures.kept c.string-2.ensures.kept

pub returns-clause-answers : goal.returns-clause-answers
returns-clause-answers c =
    let mid = c.string.new.world in
    let new = c.string-2.new.world in
    let bytes = c.in_ok-bytes.bytes.items in
    let h : length bytes ≤ greatest_string = search rules in
    let g : known (string bytes) ≡ value new.strings c.in_ok-made.made = search rules in
    as_before texts c.args.world.now mid c.args.arguments.now c.string.ensures.kept
    ∙ shown_is (map (value mid.strings) c.args.arguments.now) (heap_of mid) bytes c.in_ok-bytes.ensures h
    ∙ ap (λ H. done H (known (string bytes) ∷ [])) (same_heap mid new c.args.arguments.now c.string-2.ensures.kept)
    ∙ ap (λ v. done (heap_of new) (v ∷ [])) g
