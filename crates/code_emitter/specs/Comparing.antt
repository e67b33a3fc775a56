-- Comparisons of operands, where they stand.
use Rattle.std.specs.Prelude.{ℕ, ◌+◌, Bool, List, Option, Some, None}
use Rattle.code_core.specs.declared.opcode.Opcode.{Opcode}
use Rattle.code_core.specs.declared.opcode.Opcode.TheVariants.{EqK}
use Rattle.code_of.specs.Coded.{Coded}
use Rattle.code_of.specs.Truths.{jump_if, pick}
use Rattle.code_of.specs.Operators.{number_opcode}
use Rattle.code_emitter.specs.declared.comparisons.Comparison.{Comparison}

-- what is done with a comparison, or with something else
abbrev pub compared_by : Option Comparison → List Coded → (Opcode → (swapped wanted : Bool) → List Coded) → List Coded
compared_by None other by = other
compared_by (Some c) other by = by c.opcode c.swapped c.wanted

-- a comparison where its operands stand

abbrev pub registers_test : Comparison → (k : Bool) → (ahead line x y : ℕ) → List Coded
registers_test c k ahead line x y = jump_if c.opcode (pick c.swapped x y) (pick c.swapped y x) k ahead line

abbrev pub number_test : Comparison → (k : Bool) → (ahead line x n : ℕ) → List Coded
number_test c k ahead line x n = jump_if (number_opcode c.op) x (n + 127) k ahead line

abbrev pub constant_test : (k : Bool) → (ahead line x n : ℕ) → List Coded
constant_test k ahead line x n = jump_if EqK x n k ahead line
