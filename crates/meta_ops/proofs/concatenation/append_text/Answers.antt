use Rattle.std.proofs.Common.{◌≡◌, ◌++◌, true, ap, sym, ◌∙◌}
use Rattle.int_core.specs.Operations.{is_text}
use Rattle.lua_heap.specs.Reading.{value}
use Rattle.meta_ops.specs.Concat.{text_or_none}
use Rattle.meta_ops.proofs.Joining.{has_text}
use Rattle.meta_ops.proofs.concatenation.append_text.Goals as goal

pub returns-in-Ok : goal.returns-in-Ok
returns-in-Ok c =
    let texts = c.args.strings.now in
    let some : is_text (value texts c.args.v) ≡ true = sym (c.is_text.ensures texts) ∙ c.if-not-is_text.false in
    let t = has_text (value texts c.args.v) some in
    record { piece = t.text; has = t.is; is = c.in-Ok.ensures ∙ ap (λ o. c.args.text.now.items ++ text_or_none o) t.is }
