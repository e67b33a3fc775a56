use Rattle.std.proofs.Common.{◌++◌, ◌-◌, ◌+◌, [], ◌∷◌, None, ap, sym, ◌∙◌, append_assoc}
use Rattle.code_parts.specs.Scopes.{begun, hidden_from}
use Rattle.code_parts.proofs.Ending.{hidden_next}
use Rattle.code_parts.proofs.variables.Variables.hide.Goals as goal

pub loop-preserved : goal.loop-preserved
loop-preserved c =
    let left = hidden_from (c.args.count - (c.loop.counter + 1)) c.args.start in
    ap (λ xs. xs ++ left) c.in_ok-begin.ensures
    ∙ append_assoc c.loop.self (begun None c.args.start ∷ []) left
    ∙ ap (λ xs. c.loop.self ++ xs) (sym (hidden_next c.args.count c.loop.counter c.args.start c.loop-test.true))
    ∙ c.loop.invariant
