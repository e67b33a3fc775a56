use Rattle.std.proofs.Common.{[], ◌∷◌, length, refl}
use Rattle.code_core.specs.Instruction.{abc}
use Rattle.code_of.specs.Truths.{jump_if}
use Rattle.code_emitter.proofs.Leading.{opened_at, opened_test}
use Rattle.code_emitter.proofs.emitter.Emitter.test.Goals as goal

pub returns : goal.returns
returns c =
    let place = length c.put_flagged.new.self.steps in
    opened_at c.args.self.now c.jump_away.new.self (λ ahead. jump_if c.args.op c.args.x c.args.y c.args.k ahead c.args.line) 0 (place ∷ []) c.in_ok-away.away.items c.in_ok-away.ensures.place
    (opened_test c.args.self.now c.put_flagged.new.self c.jump_away.new.self (abc c.args.op c.args.x c.args.y 0 c.args.k, c.args.line) c.args.line place c.in_ok-put_flagged.ensures c.in_ok-away.ensures.jump refl)
