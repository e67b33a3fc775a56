use Rattle.std.proofs.Common.{◌+◌, Some, ap, refl, sym, ◌∙◌}
use Rattle.frame_calls.specs.Returning.{by_iterator}
use Rattle.frame_calls.proofs.returning.wanted_by_iterator.Goals as goal

pub returns-in-Some-TForCall : goal.returns-in-Some-TForCall
returns-in-Some-TForCall c =
    ((λ words pc. by_iterator (sym c.opcode.ensures ∙ c.in-Some-TForCall.is ∙ ap Some c.in-Some-TForCall.field-0-is) (ap (λ n. n + 4) c.a.ensures) c.c.ensures), refl)
