use Rattle.std.proofs.Common.{◌≡◌, ◌-◌, ◌++◌, [], ◌∷◌, length, sym, ap, ◌∙◌, arith}
use Rattle.std.specs.List.{repeat}
use Rattle.library_rows.specs.Formats.{or_zero}
use Rattle.text_format.specs.Told.{told_conversion}
use Rattle.text_format.proofs.Fills.{all_length, padded_right, padded_zeros, padded_left}
use Rattle.text_format.proofs.padding.append_padded.Goals as goal

pub returns-in_ok-append_repeated : goal.returns-in_ok-append_repeated
returns-in_ok-append_repeated c =
    let body = repeat c.args.zeros (48 ∷ []) ++ c.args.digits.now in
    let fill : c.saturating_sub-fill.result ≡ or_zero c.args.conversion.now.width - length (c.args.before.now ++ body) = omega (arith, all_length c.args.before.now c.args.digits.now c.args.zeros) in
    padded_right (told_conversion c.args.conversion.now) c.args.in_zeros c.args.out.now.items c.args.before.now body c.append_repeated.new.out.items c.saturating_sub-fill.result fill (sym c.has.ensures ∙ c.if-has.true)
    (c.in_ok-append_repeated.ensures ∙ ap (λ bytes. bytes ++ repeat c.saturating_sub-fill.result (32 ∷ [])) c.in_ok-append_number.ensures)

pub returns-in_ok-append_number-2 : goal.returns-in_ok-append_number-2
returns-in_ok-append_number-2 c =
    let body = repeat c.args.zeros (48 ∷ []) ++ c.args.digits.now in
    let fill : c.saturating_sub-fill.result ≡ or_zero c.args.conversion.now.width - length (c.args.before.now ++ body) = omega (arith, all_length c.args.before.now c.args.digits.now c.args.zeros) in
    padded_zeros (told_conversion c.args.conversion.now) c.args.in_zeros c.args.out.now.items c.args.before.now body c.append_number-then-in_zeros.new.out.items c.saturating_sub-fill.result fill (sym c.has.ensures ∙ c.if-has.false) c.if-in_zeros.true
    (c.in_ok-append_number-2.ensures ∙ ap (λ bytes. bytes ++ body) (c.in_ok-append_repeated-2.ensures ∙ ap (λ bytes. bytes ++ repeat c.saturating_sub-fill.result (48 ∷ [])) c.in_ok-extend_from_slice.ensures.items))

pub returns-in_ok-append_number-3 : goal.returns-in_ok-append_number-3
returns-in_ok-append_number-3 c =
    let body = repeat c.args.zeros (48 ∷ []) ++ c.args.digits.now in
    let fill : c.saturating_sub-fill.result ≡ or_zero c.args.conversion.now.width - length (c.args.before.now ++ body) = omega (arith, all_length c.args.before.now c.args.digits.now c.args.zeros) in
    padded_left (told_conversion c.args.conversion.now) c.args.in_zeros c.args.out.now.items c.args.before.now body c.append_number-else-in_zeros.new.out.items c.saturating_sub-fill.result fill (sym c.has.ensures ∙ c.if-has.false) c.if-in_zeros.false
    (c.in_ok-append_number-3.ensures ∙ ap (λ bytes. bytes ++ (c.args.before.now ++ body)) c.in_ok-append_repeated-3.ensures)
