use Rattle.std.proofs.Common.{ap₂}
use Rattle.code_of.specs.Truths.{jump_if}
use Rattle.code_emitter.specs.Comparing.{registers_test}
use Rattle.code_emitter.proofs.Leading.{opened_coded}
use Rattle.code_emitter.proofs.emitter.Emitter.test_registers.Goals as goal

pub returns : goal.returns
returns c =
    let opcode = c.args.comparison.now.opcode in
    opened_coded c.args.self.now c.test.new.self (λ ahead. jump_if opcode c.pick-x.result c.pick-y.result c.args.k ahead c.args.line) (λ ahead. registers_test c.args.comparison.now c.args.k ahead c.args.line c.args.first c.args.second) 0
    c.in_ok-away.away.items (λ ahead. ap₂ (λ x y. jump_if opcode x y c.args.k ahead c.args.line) c.pick-x.ensures c.pick-y.ensures) c.in_ok-away.ensures
