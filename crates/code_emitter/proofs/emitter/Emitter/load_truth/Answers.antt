use Rattle.std.proofs.Common.{[], ◌∷◌, length, refl, subst}
use Rattle.code_of.specs.Coded.{with_abc, jump_over}
use Rattle.code_of.specs.Truths.{load_truth}
use Rattle.code_emitter.specs.Leading.{Opened}
use Rattle.code_emitter.proofs.Leading.{opened_at, opened_test}
use Rattle.code_emitter.proofs.emitter.Emitter.load_truth.Goals as goal

pub returns : goal.returns
returns c =
    let place = length c.put_abc.new.self.steps in
    opened_at c.args.self.now c.jump_away.new.self (λ ahead. load_truth c.args.k ahead c.args.target c.args.line) 0 (place ∷ []) c.in_ok-away.away.items c.in_ok-away.ensures.place
    (subst (λ op. Opened c.args.self.now c.jump_away.new.self (λ ahead. with_abc op c.args.target 0 0 c.args.line ∷ jump_over ahead c.args.line ∷ []) 0 (place ∷ [])) c.truth_opcode.ensures
    (opened_test c.args.self.now c.put_abc.new.self c.jump_away.new.self (with_abc c.truth_opcode.result c.args.target 0 0 c.args.line) c.args.line place c.in_ok-put_abc.ensures c.in_ok-away.ensures.jump refl))
