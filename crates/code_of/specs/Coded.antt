-- Instructions as the compiler lists them: each with its line. A jump counts from the instruction behind it.
use Rattle.std.specs.Prelude.{ℕ, ◌+◌, ◌-◌, false, List, map, nat_lt}
use Rattle.code_core.specs.declared.opcode.Opcode.{Opcode}
use Rattle.code_core.specs.declared.opcode.Opcode.TheVariants.{Jmp, Return}
use Rattle.code_core.specs.declared.instruction.Instruction.{Instruction}
use Rattle.code_core.specs.Instruction.{abc, abx, op_ax}

abbrev pub Coded : Type 0
Coded = Instruction × ℕ

abbrev pub words : List Coded → List Instruction
words code = map (λ x. x.0) code

abbrev pub lines : List Coded → List ℕ
lines code = map (λ x. x.1) code

-- one instruction at a line

abbrev pub with_abc : Opcode → (a b c line : ℕ) → Coded
with_abc op a b c line = (abc op a b c false, line)

abbrev pub with_abx : Opcode → (a bx line : ℕ) → Coded
with_abx op a bx line = (abx op a bx, line)

-- the function is left, with values from register t on or by the call there. Where locals are in scope, which stand below t, field k says that
-- cells and variables may have to be closed. Field C is one more than the number of parameters of a function with `...`, else 0
abbrev pub leaving_by : Opcode → (t b back line : ℕ) → Coded
leaving_by op t b back line = (abc op t b back (nat_lt 0 t), line)

-- or with the value of the local in register r alone
abbrev pub leaving_local : (r t back line : ℕ) → Coded
leaving_local r t back line = (abc Return r 2 back (nat_lt 0 t), line)

abbrev pub jump_over : (places line : ℕ) → Coded
jump_over places line = (op_ax Jmp (16777215 + places), line)

abbrev pub jump_back : (places line : ℕ) → Coded
jump_back places line = (op_ax Jmp (16777215 - places), line)
