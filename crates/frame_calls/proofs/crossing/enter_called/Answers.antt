use Rattle.std.proofs.Common.{Some, ap, sym, ◌∙◌}
use Rattle.std.proofs.lemmas.Option.{IfSome_then}
use Rattle.frame_calls.specs.Crossing.{by_call, by_iterator_call, by_tail_call}
use Rattle.frame_calls.proofs.crossing.enter_called.Goals as goal

pub returns-in-Some-Call-clause-enters : goal.returns-in-Some-Call-clause-enters
returns-in-Some-Call-clause-enters c =
    let is = sym c.opcode.ensures ∙ c.in-Some-Call.is ∙ ap (λ o. Some o) c.in-Some-Call.field-0-is in
    IfSome_then c.enter_over.result c.enter_over.ensures.enters (λ o x fuel left paid. by_call (record { is_call = is; paid = paid; enters = x }))

pub returns-in-Some-TailCall-clause-enters : goal.returns-in-Some-TailCall-clause-enters
returns-in-Some-TailCall-clause-enters c =
    let is = sym c.opcode.ensures ∙ c.in-Some-TailCall.is ∙ ap (λ o. Some o) c.in-Some-TailCall.field-0-is in
    IfSome_then c.replace.result c.replace.ensures.replaces (λ o x fuel left paid. by_tail_call (record { is_tail_call = is; paid = paid; enters = x }))

pub returns-in-Some-TForCall-clause-enters : goal.returns-in-Some-TForCall-clause-enters
returns-in-Some-TForCall-clause-enters c =
    let is = sym c.opcode.ensures ∙ c.in-Some-TForCall.is ∙ ap (λ o. Some o) c.in-Some-TForCall.field-0-is in
    IfSome_then c.iterate.result c.iterate.ensures.iterates (λ o x fuel left paid. by_iterator_call (record { is_iteration = is; paid = paid; enters = x }))
