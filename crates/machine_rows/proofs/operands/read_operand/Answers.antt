use Rattle.std.proofs.Common.{rules, ◌≡◌, sym, subst}
use Rattle.table_core.specs.declared.value.Value.TheVariants.{Bool as Boolean, Int}
use Rattle.machine_rows.specs.Rows.{IsRead, Reads}
use Rattle.machine_rows.proofs.Reading.{can_register, can_constant, can_upvalue, reads_register, reads_constant, reads_upvalue, reads_integer, reads_truth}
use Rattle.machine_rows.proofs.operands.read_operand.Goals as goal

pub read_register-requires : goal.read_register-requires
read_register-requires c = can_register (subst (IsRead c.args.world.now) c.in-Register.is c.requires.there)

pub read_constant-requires-clause-there : goal.read_constant-requires-clause-there
read_constant-requires-clause-there c = can_constant (subst (IsRead c.args.world.now) c.in-Constant.is c.requires.there)

pub read_upvalue-requires-clause-there : goal.read_upvalue-requires-clause-there
read_upvalue-requires-clause-there c = can_upvalue (subst (IsRead c.args.world.now) c.in-Upvalue.is c.requires.there)

pub returns-in-Register : goal.returns-in-Register
returns-in-Register c = let W = c.args.world.now in subst (λ from. Reads W from c.read_register.result) (sym c.in-Register.is) (reads_register W c.in-Register.register c.read_register.result c.read_register.ensures)

pub returns-in-Constant : goal.returns-in-Constant
returns-in-Constant c = let W = c.args.world.now in subst (λ from. Reads W from c.read_constant.result) (sym c.in-Constant.is) (reads_constant W c.in-Constant.n c.read_constant.result c.read_constant.ensures)

pub returns-in-Upvalue : goal.returns-in-Upvalue
returns-in-Upvalue c = let W = c.args.world.now in subst (λ from. Reads W from c.read_upvalue.result) (sym c.in-Upvalue.is) (reads_upvalue W c.in-Upvalue.upvalue c.read_upvalue.result c.read_upvalue.ensures)

pub returns-in-Integer : goal.returns-in-Integer
returns-in-Integer c =
    let W = c.args.world.now in
    let is : c.integer.result ≡ Int c.in-Integer.n = search rules in
    subst (λ v. Reads W c.args.from v) (sym is) (subst (λ from. Reads W from (Int c.in-Integer.n)) (sym c.in-Integer.is) (reads_integer W c.in-Integer.n))

pub returns-in-Truth : goal.returns-in-Truth
returns-in-Truth c = let W = c.args.world.now in subst (λ from. Reads W from (Boolean c.in-Truth.truth)) (sym c.in-Truth.is) (reads_truth W c.in-Truth.truth)
