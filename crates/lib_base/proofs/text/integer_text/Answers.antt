use Rattle.std.proofs.Common.{rules, ◌≡◌, ◌<◌, ◌≤◌, [], ◌∷◌, ap, sym, subst, ◌∙◌, map, length, w64}
use Rattle.std.proofs.lemmas.Int.{to_z-of_z}
use Rattle.int_core.specs.Operations.{integer_text}
use Rattle.int_core.specs.Value.{greatest_string, known, string}
use Rattle.library_rows.specs.Look.{done}
use Rattle.table_core.specs.declared.value.Value.TheVariants.{Str}
use Rattle.lua_heap.specs.Reading.{value}
use Rattle.pure_functions.specs.Answers.{heap_of}
use Rattle.lib_base.specs.Texts.{IsShown}
use Rattle.pure_functions.proofs.Interning.{nothing, only_strings, same_heap, same_strings}
use Rattle.pure_functions.proofs.Meaning.{means_now, named}
use Rattle.lib_base.proofs.TextRows.{digits_shown, shown_is, shown_too_long}
use Rattle.lib_base.proofs.text.integer_text.Goals as goal

pub returns-then-bytes-gt-MAX_TEXT-clause-kept : goal.returns-then-bytes-gt-MAX_TEXT-clause-kept
returns-then-bytes-gt-MAX_TEXT-clause-kept c = nothing c.args.world.now c.args.arguments.now c.requires.stands

pub returns-then-bytes-gt-MAX_TEXT-clause-answers : goal.returns-then-bytes-gt-MAX_TEXT-clause-answers
returns-then-bytes-gt-MAX_TEXT-clause-answers c =
    let W = c.args.world.now in
    let vs = map (value W.strings) c.args.arguments.now in
    let digits : c.as_slice-bytes.result.now ≡ integer_text c.args.n = search (rules, to_z-of_z w64 c.args.n c.ranges.n) in
    let shown = subst (IsShown vs (heap_of W)) (sym digits) (digits_shown vs (heap_of W) c.args.n (c.requires.first W.strings)) in
    let h : greatest_string < length c.as_slice-bytes.result.now = search rules in
    shown_too_long vs (heap_of W) c.as_slice-bytes.result.now shown h

pub returns-clause-answers : goal.returns-clause-answers
returns-clause-answers c =
    let W = c.args.world.now in
    let new = c.intern_new.new.self in
    let vs = map (value W.strings) c.args.arguments.now in
    let bytes = c.as_slice-bytes.result.now in
    let digits : c.as_slice-bytes.result.now ≡ integer_text c.args.n = search (rules, to_z-of_z w64 c.args.n c.ranges.n) in
    let shown = subst (IsShown vs (heap_of W)) (sym digits) (digits_shown vs (heap_of W) c.args.n (c.requires.first W.strings)) in
    let h : length c.as_slice-bytes.result.now ≤ greatest_string = search rules in
    let kept = only_strings c.new_strings_keep.ensures W new bytes c.args.arguments.now c.requires.stands (search rules) in
    let g = means_now new.strings (Str c.in_ok-id.id) (string bytes) (named new.strings c.in_ok-id.id bytes c.in_ok-id.ensures.named) in
    shown_is vs (heap_of W) bytes shown h
    ∙ ap (λ H. done H (known (string bytes) ∷ [])) (same_heap W new c.args.arguments.now kept)
    ∙ ap (λ v. done (heap_of new) (v ∷ [])) (sym g)

pub returns-clause-kept : goal.returns-clause-kept
returns-clause-kept c = only_strings c.new_strings_keep.ensures c.args.world.now c.intern_new.new.self c.as_slice-bytes.result.now c.args.arguments.now c.requires.stands (search rules)

pub returns-in_err-id-clause-kept : goal.returns-in_err-id-clause-kept
returns-in_err-id-clause-kept c = same_strings c.args.world.now c.intern_new.new.self c.args.arguments.now c.requires.stands c.in_err-id.ensures.err
