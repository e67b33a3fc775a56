use Rattle.std.proofs.Common.{◌≡◌, Some, None, sym, ap, ◌∙◌, rules, length}
use Rattle.std.specs.Option.{option_copied}
use Rattle.code_core.specs.declared.proto.Const.TheVariants.{Str}
use Rattle.code_of.specs.Constants.{number_in}
use Rattle.code_constants.proofs.Numbers.{told, untold, text_number}
use Rattle.code_constants.proofs.constants.Constants.number_of_text.Goals as goal

pub returns-in-Some : goal.returns-in-Some
returns-in-Some c =
    let text = c.args.text.now in
    let is : text_number c.self.inside.texts text ≡ Some c.in-Some.number.now = ap (text_number c.self.inside.texts) (sym c.as_slice.ensures) ∙ sym c.get.ensures.value ∙ ap option_copied c.in-Some.is in
    told c.self.inside.list.items (Str text) (text_number c.self.inside.texts text) c.in-Some.number.now (c.self.invariant.texts text) is ∙ ap (λ l. number_in l (Str text)) c.self.view_is

pub returns-in-None : goal.returns-in-None
returns-in-None c =
    let text = c.args.text.now in
    let is : text_number c.self.inside.texts text ≡ None = ap (text_number c.self.inside.texts) (sym c.as_slice.ensures) ∙ sym c.get.ensures.value ∙ ap option_copied c.in-None.is in
    let count : c.len.result ≡ length c.self.inside.list.items = search rules in
    untold c.self.inside.list.items (Str text) (text_number c.self.inside.texts text) c.len.result (c.self.invariant.texts text) is count ∙ ap (λ l. number_in l (Str text)) c.self.view_is
