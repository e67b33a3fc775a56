use Rattle.std.proofs.Common.{sym, subst}
use Rattle.std.specs.Prelude.{IfOk}
use Rattle.code_emitter.specs.Leading.{Opened}
use Rattle.code_emitter.specs.Operands.{done_code}
use Rattle.code_emitter.specs.Comparing.{constant_test, registers_test, number_test}
use Rattle.code_emitter.proofs.emitter.Emitter.test_operands.Goals as goal

pub returns-in-Constant : goal.returns-in-Constant
returns-in-Constant c =
    subst (λ s. IfOk c.test.result (λ places. Opened c.args.self.now c.test.new.self (λ ahead. done_code s c.args.operands.first (constant_test c.args.k ahead c.args.line) (registers_test c.args.comparison.now c.args.k ahead c.args.line) (number_test c.args.comparison.now c.args.k ahead c.args.line)) 0 places.items))
    (sym c.in-Constant.is) c.test.ensures

pub returns-in-Number : goal.returns-in-Number
returns-in-Number c =
    subst (λ s. IfOk c.test_number.result (λ places. Opened c.args.self.now c.test_number.new.self (λ ahead. done_code s c.args.operands.first (constant_test c.args.k ahead c.args.line) (registers_test c.args.comparison.now c.args.k ahead c.args.line) (number_test c.args.comparison.now c.args.k ahead c.args.line)) 0 places.items))
    (sym c.in-Number.is) c.test_number.ensures

pub returns-in-Register : goal.returns-in-Register
returns-in-Register c =
    subst (λ s. IfOk c.test_registers.result (λ places. Opened c.args.self.now c.test_registers.new.self (λ ahead. done_code s c.args.operands.first (constant_test c.args.k ahead c.args.line) (registers_test c.args.comparison.now c.args.k ahead c.args.line) (number_test c.args.comparison.now c.args.k ahead c.args.line)) 0 places.items))
    (sym c.in-Register.is) c.test_registers.ensures
