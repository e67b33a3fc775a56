use Rattle.std.proofs.Common.{rules, ◌≡◌, Some, None, sym, subst, of_z, to_z, w64}
use Rattle.machine_operations.specs.Computing.{IsReadAsInteger, ReadsInteger}
use Rattle.machine_operations.proofs.Integers.{can_register, can_constant, has_upvalue, reads_register, reads_constant, reads_upvalue, reads_integer, reads_truth}
use Rattle.machine_operations.proofs.computing.read_integer.Goals as goal

pub read_register-requires : goal.read_register-requires
read_register-requires c = can_register (subst (IsReadAsInteger c.args.world.now) c.in-Register.is c.requires.there)

pub read_constant-requires-clause-there : goal.read_constant-requires-clause-there
read_constant-requires-clause-there c = can_constant (subst (IsReadAsInteger c.args.world.now) c.in-Constant.is c.requires.there)

pub read_upvalue-other-requires-clause-there : goal.read_upvalue-other-requires-clause-there
read_upvalue-other-requires-clause-there c = has_upvalue (subst (IsReadAsInteger c.args.world.now) c.in-Upvalue.is c.requires.there)

pub returns-in-Register : goal.returns-in-Register
returns-in-Register c =
    let W = c.args.world.now in
    subst (λ from. ReadsInteger W from c.integer_in.result) (sym c.in-Register.is)
    (reads_register W c.in-Register.register c.read_register.result c.integer_in.result c.read_register.ensures (c.integer_in.ensures W.strings))

pub returns-in-Constant : goal.returns-in-Constant
returns-in-Constant c =
    let W = c.args.world.now in
    subst (λ from. ReadsInteger W from c.integer_in-in-Constant.result) (sym c.in-Constant.is)
    (reads_constant W c.in-Constant.n c.read_constant.result c.integer_in-in-Constant.result c.read_constant.ensures (c.integer_in-in-Constant.ensures W.strings))

pub returns-in-Upvalue : goal.returns-in-Upvalue
returns-in-Upvalue c =
    let W = c.args.world.now in
    subst (λ from. ReadsInteger W from None) (sym c.in-Upvalue.is) (reads_upvalue W c.in-Upvalue.upvalue c.read_upvalue-other.result _ c.read_upvalue-other.ensures)

pub returns-in-Integer : goal.returns-in-Integer
returns-in-Integer c =
    let W = c.args.world.now in
    let n : to_z w64 (of_z w64 c.in-Integer.n) ≡ c.in-Integer.n = search rules in
    subst (λ m. ReadsInteger W c.args.from (Some m)) (sym n) (subst (λ from. ReadsInteger W from (Some c.in-Integer.n)) (sym c.in-Integer.is) (reads_integer W c.in-Integer.n))

pub returns-in-Truth : goal.returns-in-Truth
returns-in-Truth c = let W = c.args.world.now in subst (λ from. ReadsInteger W from None) (sym c.in-Truth.is) (reads_truth W c.in-Truth.field-0)
