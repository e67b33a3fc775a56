use Rattle.std.proofs.Common.{ap₂}
use Rattle.code_of.specs.Truths.{jump_if}
use Rattle.code_emitter.specs.Comparing.{number_test}
use Rattle.code_emitter.proofs.Leading.{opened_coded}
use Rattle.code_emitter.proofs.emitter.Emitter.test_number.Goals as goal

pub returns : goal.returns
returns c =
    opened_coded c.args.self.now c.test.new.self (λ ahead. jump_if c.number_opcode-opcode.result c.args.first c.in_ok-field.field c.args.k ahead c.args.line) (λ ahead. number_test c.args.comparison.now c.args.k ahead c.args.line c.args.first c.args.number) 0
    c.in_ok-away.away.items (λ ahead. ap₂ (λ o f. jump_if o c.args.first f c.args.k ahead c.args.line) c.number_opcode-opcode.ensures c.in_ok-field.ensures) c.in_ok-away.ensures
