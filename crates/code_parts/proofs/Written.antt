-- Steps that hold the low bits of words name the registers of these words, and keep their lines.
use Rattle.std.proofs.Common.{◌≡◌, ℕ, ◌==◌, List, [], ◌∷◌, map, Option, Some, None, refl, ap, ◌∙◌, arith}
use Rattle.std.specs.Prelude.{slice_get}
use Rattle.code_core.specs.declared.opcode.Opcode.{Opcode}
use Rattle.code_core.specs.declared.opcode.Opcode.TheVariants.{LoadF, PowK, DivK, Pow, Div, Jmp, Return0, VarArgPrep, ExtraArg}
use Rattle.code_core.specs.declared.instruction.Instruction.{Instruction}
use Rattle.code_core.specs.Opcode.{opcodes}
use Rattle.code_core.specs.Instruction.{bits_from, opcode_of, a_of, b_of, c_of, k_of}
use Rattle.code_core.specs.Fields.{registers}
use Rattle.code_of.specs.Coded.{Coded, words, lines}
use Rattle.code_of.specs.CodeOf.{named_by, room_for, room}
use Rattle.code_emitter.specs.Listing.{low, steps}

opcode_low : (w : Instruction) → opcode_of (low w) ≡ opcode_of w
opcode_low w = let e : bits_from 0 7 (low w) ≡ bits_from 0 7 w = omega arith in ap (λ n. slice_get opcodes n) e

a_low : (w : Instruction) → a_of (low w) ≡ a_of w
a_low w = omega arith

b_low : (w : Instruction) → b_of (low w) ≡ b_of w
b_low w = omega arith

c_low : (w : Instruction) → c_of (low w) ≡ c_of w
c_low w = omega arith

k_low : (w : Instruction) → k_of (low w) ≡ k_of w
k_low w = let e : bits_from 15 1 (low w) ≡ bits_from 15 1 w = omega arith in ap (λ n. n == 1) e

registers_low : (op : Opcode) (w : Instruction) → registers op (low w) ≡ registers op w
registers_low LoadF w = refl
registers_low PowK w = refl
registers_low DivK w = refl
registers_low Pow w = refl
registers_low Div w = refl
registers_low Jmp w = refl
registers_low Return0 w = refl
registers_low VarArgPrep w = refl
registers_low ExtraArg w = refl
registers_low _ w = simp (a_low w, b_low w, c_low w, k_low w) refl

named_low : (w : Instruction) → named_by (low w) ≡ named_by w
named_low w =
    ap (λ o. elim o as (λ _. List ℕ) [ None ↦ [] | Some op ↦ registers op (low w) ]) (opcode_low w) ∙ by (opcode_of w)
  where
    by : (o : Option Opcode) → elim o as (λ _. List ℕ) [ None ↦ [] | Some op ↦ registers op (low w) ] ≡ elim o as (λ _. List ℕ) [ None ↦ [] | Some op ↦ registers op w ]
    by None = refl
    by (Some op) = registers_low op w

pub room_written : (code : List Coded) (n : ℕ) → room (map (λ s. s.instruction) (steps code)) n ≡ room (words code) n
room_written [] n = refl
room_written (x ∷ xs) n = ap (λ rs. room (map (λ s. s.instruction) (steps xs)) (room_for rs n)) (named_low x.0) ∙ room_written xs (room_for (named_by x.0) n)

pub lines_written : (code : List Coded) → map (λ s. s.line) (steps code) ≡ lines code
lines_written [] = refl
lines_written (x ∷ xs) = ap (λ ls. x.1 ∷ ls) (lines_written xs)
