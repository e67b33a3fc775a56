-- The definitions tried on the code that luac writes for `print("hi")`, and on that code with one word changed.
use Rattle.std.proofs.Common.{◌≡◌, ℕ, ◌+◌, true, cond, List, [], ◌∷◌, ◌++◌, refl}
use Rattle.code_core.specs.declared.instruction.Instruction.{Instruction}
use Rattle.code_core.specs.declared.proto.Const.TheVariants.{Str}
use Rattle.code_core.specs.Opcode.{opcodes, number_of}
use Rattle.code_core.specs.Prototype.{Prototype, none, stripped}
use Rattle.code_core.specs.Check.{Rule, rules, is_sized, is_described}

word : ℕ → Instruction
word n = record { 0 = n }

abbrev print_hi : List Instruction → Prototype
print_hi code = stripped 0 true 2 code (Str (112 ∷ 114 ∷ 105 ∷ 110 ∷ 116 ∷ []) ∷ Str (104 ∷ 105 ∷ []) ∷ []) (record { in_stack = true; index = 0; kind = 0 } ∷ []) none

abbrev broken : ℕ → List Rule → List (ℕ × ℕ)
broken pc [] = []
broken pc (rule ∷ rest) = cond rule.1 (broken pc rest) ((pc, rule.0) ∷ broken pc rest)

abbrev broken_from : Prototype → ℕ → List Instruction → List (ℕ × ℕ)
broken_from p pc [] = []
broken_from p pc (w ∷ ws) = broken pc (rules p pc w) ++ broken_from p (pc + 1) ws

abbrev broken_in : List Instruction → List (ℕ × ℕ)
broken_in code = broken_from (print_hi code) 0 code

checked : broken_in (word 0x51 ∷ word 0x0b ∷ word 0x8083 ∷ word 0x01020044 ∷ word 0x01010046 ∷ []) ≡ []
unfolding word opcodes number_of
checked = refl

-- a constant that is not there
no_constant : broken_in (word 0x51 ∷ word 0x0b ∷ word 0x028083 ∷ word 0x01020044 ∷ word 0x01010046 ∷ []) ≡ (2, 4) ∷ []
unfolding word opcodes number_of
no_constant = refl

-- a division, which would make a float
division : broken_in (word 0x51 ∷ word 0x0b ∷ word 0x26 ∷ word 0x01020044 ∷ word 0x01010046 ∷ []) ≡ (2, 2) ∷ []
unfolding word opcodes number_of
division = refl

-- no return at the end
no_return : broken_in (word 0x51 ∷ word 0x0b ∷ word 0x8083 ∷ word 0x01020044 ∷ word 0x8083 ∷ []) ≡ (4, 9) ∷ []
unfolding word opcodes number_of
no_return = refl

-- a call whose results nothing takes
not_taken : broken_in (word 0x51 ∷ word 0x0b ∷ word 0x8083 ∷ word 0x00020044 ∷ word 0x01010046 ∷ []) ≡ (3, 10) ∷ []
unfolding word opcodes number_of
not_taken = refl

-- a return of them
taken : broken_in (word 0x51 ∷ word 0x0b ∷ word 0x8083 ∷ word 0x00020044 ∷ word 0x01000046 ∷ []) ≡ []
unfolding word opcodes number_of
taken = refl

-- a jump to itself, to the place behind it, out of the code
jumps : broken_in (word 0x51 ∷ word 0x7fffff38 ∷ word 0x7fffffb8 ∷ word 0x800002b8 ∷ word 0x01010046 ∷ []) ≡ (3, 7) ∷ []
unfolding word opcodes number_of
jumps = refl

-- an addition with its handler's call, and that call alone
addition : broken_in (word 0x51 ∷ word 0x01000022 ∷ word 0x0601002e ∷ word 0x0601002e ∷ word 0x01010046 ∷ []) ≡ (3, 8) ∷ []
unfolding word opcodes number_of
addition = refl

described : is_described (print_hi []) ≡ true
described = refl

sized : is_sized (print_hi (word 0x46 ∷ [])) ≡ true
sized = refl
