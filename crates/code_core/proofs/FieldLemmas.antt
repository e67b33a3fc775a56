-- The fields of a made word are those that it was made of.
use Rattle.std.proofs.Common.{◌≡◌, ◌<◌, ◌^◌, ℕ, Bool, true, false, Some, cond, lit<, arith}
use Rattle.code_core.specs.declared.opcode.Opcode.{Opcode}
use Rattle.code_core.specs.Instruction.{abc, abx, op_ax, opcode_of, a_of, b_of, c_of, bx_of, ax_of}
use Rattle.code_core.proofs.Opcodes.{number_below, opcode_of-made}

pub flag_below : (k : Bool) → cond k 1 0 < 2
flag_below true = lit< tt
flag_below false = lit< tt

pub opcode_of-abc : (op : Opcode) (a b c : ℕ) (k : Bool) → opcode_of (abc op a b c k) ≡ Some op
opcode_of-abc op a b c k = let small = number_below op in opcode_of-made op _ (omega arith)

pub a_of-abc : (op : Opcode) (a b c : ℕ) (k : Bool) → a < 2 ^ 8 → a_of (abc op a b c k) ≡ a
a_of-abc op a b c k fits = let small = number_below op in omega arith

pub b_of-abc : (op : Opcode) (a b c : ℕ) (k : Bool) → a < 2 ^ 8 → b < 2 ^ 8 → b_of (abc op a b c k) ≡ b
b_of-abc op a b c k a_fits b_fits = let small = number_below op in let flag = flag_below k in omega arith

pub c_of-abc : (op : Opcode) (a b c : ℕ) (k : Bool) → a < 2 ^ 8 → b < 2 ^ 8 → c < 2 ^ 8 → c_of (abc op a b c k) ≡ c
c_of-abc op a b c k a_fits b_fits c_fits = let small = number_below op in let flag = flag_below k in omega arith

pub opcode_of-abx : (op : Opcode) (a bx : ℕ) → opcode_of (abx op a bx) ≡ Some op
opcode_of-abx op a bx = let small = number_below op in opcode_of-made op _ (omega arith)

pub a_of-abx : (op : Opcode) (a bx : ℕ) → a < 2 ^ 8 → a_of (abx op a bx) ≡ a
a_of-abx op a bx fits = let small = number_below op in omega arith

pub bx_of-abx : (op : Opcode) (a bx : ℕ) → a < 2 ^ 8 → bx < 2 ^ 17 → bx_of (abx op a bx) ≡ bx
bx_of-abx op a bx a_fits bx_fits = let small = number_below op in omega arith

pub opcode_of-ax : (op : Opcode) (ax : ℕ) → opcode_of (op_ax op ax) ≡ Some op
opcode_of-ax op ax = let small = number_below op in opcode_of-made op _ (omega arith)

pub ax_of-ax : (op : Opcode) (ax : ℕ) → ax < 2 ^ 25 → ax_of (op_ax op ax) ≡ ax
ax_of-ax op ax fits = let small = number_below op in omega arith
