-- The code of a function as far as it is listed.
use Rattle.std.specs.Prelude.{ℕ, ◌+◌, ◌%◌, ◌^◌, List, [], ◌∷◌, map, ◌++◌}
use Rattle.code_core.specs.declared.instruction.Instruction.{Instruction}
use Rattle.code_core.specs.declared.proto.Const.{Const}
use Rattle.code_of.specs.Coded.{Coded}
use Rattle.code_emitter.specs.declared.emitter.Step.{Step}

-- a word has 32 bits; of one that has more the low ones are kept
abbrev pub low : Instruction → Instruction
low w = record { 0 = w.0 % 2 ^ 32 }

abbrev pub step : Coded → Step
step x = record { instruction = low x.0; line = x.1 }

abbrev pub steps : List Coded → List Step
steps code = map step code

-- the constants, the code and how many functions it makes
pub record Listing : Type 0 where
  pub constants : List Const
  pub steps : List Step
  pub made : ℕ

-- code that makes this many functions stands behind
abbrev pub followed : Listing → List Coded → ℕ → Listing
followed before code made = record { constants = before.constants; steps = before.steps ++ steps code; made = before.made + made }

-- code that makes none stands behind
abbrev pub listed : Listing → List Coded → Listing
listed before code = record { constants = before.constants; steps = before.steps ++ steps code; made = before.made }

-- one instruction stands behind
abbrev pub put : Listing → Step → Listing
put before x = record { constants = before.constants; steps = before.steps ++ x ∷ []; made = before.made }
