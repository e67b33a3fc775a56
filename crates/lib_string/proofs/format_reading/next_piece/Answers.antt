use Rattle.std.proofs.Common.{◌≡◌, ◌<◌, ◌∷◌, ◌++◌, true, false, length, drop, length-drop, rules, arith, sym, ap, subst, ◌∙◌}
use Rattle.std.specs.Prelude.{◌==◌}
use Rattle.std.specs.List.{prefix_len}
use Rattle.std.proofs.lemmas.Bool.Decides.{nat_tests}
use Rattle.lua_pattern.specs.Bytes.{begins_with}
use Rattle.library_rows.specs.Formats.{Read, conversion, pieces}
use Rattle.text_format.specs.Told.{told_conversion}
use Rattle.lib_string.specs.Pieces.{is_literal, parts_of}
use Rattle.lib_string.proofs.Parts.{conversion_first}
use Rattle.lib_string.proofs.Runs.{run_first, some_literal}
use Rattle.lib_string.proofs.format_reading.next_piece.Goals as goal

pub returns-then-byte-ne37 : goal.returns-then-byte-ne37
returns-then-byte-ne37 c =
    let text = c.args.format.now in
    let front : c.args.format.now ≡ c.in_ok-byte.byte.now ∷ c.in_ok-byte.behind.now = search rules in
    let other : (c.in_ok-byte.byte.now == 37) ≡ false = grind (arith, nat_tests) in
    let begins : 0 < prefix_len is_literal c.args.format.now = subst (λ bytes. 0 < prefix_len is_literal bytes) (sym front) (some_literal c.in_ok-byte.byte.now c.in_ok-byte.behind.now other) in (
      run_first text ∙ ap (λ ps. ps ++ pieces 0 (drop (prefix_len is_literal text) text)) (sym c.literals-next.ensures.piece)
          ∙ ap (λ bytes. parts_of c.literals-next.result.piece ++ pieces 0 bytes) (sym c.literals-next.ensures.rest),
      omega (arith, ap length front, ap length c.literals-next.ensures.rest, length-drop (prefix_len is_literal text) text, begins),
    )

pub returns : goal.returns
returns c =
    let byte = c.in_ok-byte.byte.now in
    let behind = c.in_ok-byte.behind.now in
    let front : c.args.format.now ≡ c.in_ok-byte.byte.now ∷ c.in_ok-byte.behind.now = search rules in
    let same : (c.in_ok-byte.byte.now == 37) ≡ true = grind (arith, nat_tests) in
    let once : begins_with 37 c.in_ok-byte.behind.now ≡ false = sym c.begins_with_percent.ensures.told ∙ c.if-begins_with_percent.false in
    let read : Read = record { conversion = told_conversion c.in-Some.read.conversion; size = c.in-Some.read.size } in
    let rest : c.split_at-2.result.1.now ≡ drop c.in-Some.read.size c.in_ok-byte.behind.now = c.split_at-2.ensures.back in (
      ap (pieces 0) front ∙ conversion_first byte behind read same once c.in-Some.ensures.value c.in-Some.ensures.inside ∙ ap (λ text. conversion (told_conversion c.in-Some.read.conversion) ∷ pieces 0 text) (sym rest),
      omega (arith, ap length front, ap length rest, length-drop c.in-Some.read.size c.in_ok-byte.behind.now),
    )
