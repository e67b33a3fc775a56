-- The layout of an instruction word (lopcodes.h of Lua 5.4), from the low bit: opcode 7 bits, A 8, k 1, B 8, C 8.
-- Bx has the 17 bits from bit 15 up, Ax and sJ the 25 bits from bit 7 up. sBx and sJ are kept with half of their range
-- added, sB and sC with 127.
use Rattle.std.specs.Prelude.{ℕ, ◌+◌, ◌*◌, ◌/◌, ◌%◌, ◌^◌, ◌==◌, ℤ, pos, ◌-ℤ◌, Bool, cond, Option, slice_get}
use Rattle.code_core.specs.declared.opcode.Opcode.{Opcode}
use Rattle.code_core.specs.declared.instruction.Instruction.{Instruction}
use Rattle.code_core.specs.Opcode.{opcodes, number_of}

-- the number in some bits of a word, from the bit `low` up
abbrev pub bits_from : ℕ → ℕ → Instruction → ℕ
bits_from low width word = word.0 / 2 ^ low % 2 ^ width

abbrev pub opcode_of : Instruction → Option Opcode
opcode_of word = slice_get opcodes (bits_from 0 7 word)

abbrev pub a_of : Instruction → ℕ
a_of word = bits_from 7 8 word

abbrev pub k_of : Instruction → Bool
k_of word = bits_from 15 1 word == 1

abbrev pub b_of : Instruction → ℕ
b_of word = bits_from 16 8 word

abbrev pub c_of : Instruction → ℕ
c_of word = bits_from 24 8 word

abbrev pub bx_of : Instruction → ℕ
bx_of word = bits_from 15 17 word

abbrev pub ax_of : Instruction → ℕ
ax_of word = bits_from 7 25 word

abbrev pub sbx_of : Instruction → ℤ
sbx_of word = pos (bx_of word) -ℤ pos 65535

abbrev pub sj_of : Instruction → ℤ
sj_of word = pos (ax_of word) -ℤ pos 16777215

abbrev pub sb_of : Instruction → ℤ
sb_of word = pos (b_of word) -ℤ pos 127

abbrev pub sc_of : Instruction → ℤ
sc_of word = pos (c_of word) -ℤ pos 127

-- the words with given fields

abbrev pub abc : Opcode → ℕ → ℕ → ℕ → Bool → Instruction
abc op a b c k = record { 0 = number_of op + 2 ^ 7 * a + 2 ^ 15 * cond k 1 0 + 2 ^ 16 * b + 2 ^ 24 * c }

abbrev pub abx : Opcode → ℕ → ℕ → Instruction
abx op a bx = record { 0 = number_of op + 2 ^ 7 * a + 2 ^ 15 * bx }

abbrev pub op_ax : Opcode → ℕ → Instruction
op_ax op ax = record { 0 = number_of op + 2 ^ 7 * ax }
