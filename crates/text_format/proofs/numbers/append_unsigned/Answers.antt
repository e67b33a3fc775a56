use Rattle.std.proofs.Common.{rules, ◌≡◌, ◌++◌, [], ◌∷◌, ap, ◌∙◌}
use Rattle.std.specs.Fmt.{digits}
use Rattle.std.specs.List.{repeat}
use Rattle.library_rows.specs.Formats.{in_width, in_zeros}
use Rattle.text_format.specs.Told.{told_conversion, base_of, is_upper, mark_before, shown_digits}
use Rattle.text_format.proofs.Bases.{unsigned_is}
use Rattle.text_format.proofs.numbers.append_unsigned.Goals as goal

pub returns : goal.returns
returns c =
    let read = told_conversion c.args.conversion.now in
    let old = c.args.out.now.items in
    let ds = c.shown-digits.result.now in
    let mark = mark_before read (base_of c.args.base) (is_upper c.args.base) c.args.n in
    let all : c.behind.result.now ≡ digits (base_of c.args.base) (is_upper c.args.base) c.args.n = search rules in
    let shown : ds ≡ shown_digits c.args.conversion.now.precision (digits (base_of c.args.base) (is_upper c.args.base) c.args.n) c.args.n =
    c.shown-digits.ensures ∙ ap (λ all. shown_digits c.args.conversion.now.precision all c.args.n) all in
    c.in_ok-append_padded.ensures
    ∙ ap (λ zeros. old ++ in_width read zeros c.mark_before-mark.result.now (repeat c.zeros_in-zeros.result (48 ∷ []) ++ ds)) c.in_zeros.ensures
    ∙ ap (λ before. old ++ in_width read (in_zeros read) before (repeat c.zeros_in-zeros.result (48 ∷ []) ++ ds)) c.mark_before-mark.ensures
    ∙ ap (λ many. old ++ in_width read (in_zeros read) mark (repeat many (48 ∷ []) ++ ds)) c.zeros_in-zeros.ensures
    ∙ ap (λ bytes. old ++ bytes) (unsigned_is read (base_of c.args.base) (is_upper c.args.base) c.args.n ds shown)
