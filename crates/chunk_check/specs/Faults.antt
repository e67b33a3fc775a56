-- The faults of code: which rule fails at which place of which function, in the order of the functions, then of the places, then of the rules.
use Rattle.std.specs.Prelude.{ℕ, ◌+◌, cond, List, [], ◌∷◌, ◌++◌, Option, Some, None, slice_get}
use Rattle.code_core.specs.declared.instruction.Instruction.{Instruction}
use Rattle.code_core.specs.Prototype.{Prototype, Prototypes, none, more, count}
use Rattle.code_core.specs.Check.{Rule, rules, is_sized, is_described}

pub record Fault : Type 0 where
  pub function : ℕ
  pub pc : ℕ
  pub rule : ℕ

-- the rules of a list that fail at a place
abbrev pub failing : ℕ → ℕ → List Rule → List Fault
failing function pc [] = []
failing function pc (rule ∷ rest) = cond rule.1 (failing function pc rest) (record { function = function; pc = pc; rule = rule.0 } ∷ failing function pc rest)

abbrev pub code_faults : ℕ → Prototype → ℕ → List Instruction → List Fault
code_faults function p pc [] = []
code_faults function p pc (w ∷ ws) = failing function pc (rules p pc w) ++ code_faults function p (pc + 1) ws

-- the rules on the function as a whole stand at its first place, before and behind those on the instruction there
abbrev pub own_faults : ℕ → Prototype → List Instruction → List Fault
own_faults function p [] = failing function 0 ((1, is_sized p) ∷ (12, is_described p) ∷ [])
own_faults function p (w ∷ ws) = failing function 0 ((1, is_sized p) ∷ rules p 0 w ++ (12, is_described p) ∷ []) ++ code_faults function p 1 ws

-- the faults of functions, the first of which has this number
abbrev pub inner_faults : ℕ → Prototypes → List Fault
inner_faults function none = []
inner_faults function (more own inner rest) =
    own_faults function (record { own = own; inner = inner }) own.code ++ (inner_faults (function + 1) inner ++ inner_faults (function + 1 + count inner) rest)

-- the faults of a function and of all that are defined in it, which are numbered as they begin, from 0
abbrev pub faults : Prototype → List Fault
faults p = own_faults 0 p p.own.code ++ inner_faults 1 p.inner

abbrev pub first_fault : Prototype → Option Fault
first_fault p = slice_get (faults p) 0

-- the first rule of a list that fails
abbrev pub first_broken : List Rule → Option ℕ
first_broken [] = None
first_broken (rule ∷ rest) = cond rule.1 (first_broken rest) (Some rule.0)

-- the rules at the first place of a function
abbrev pub first_rules : Prototype → List Instruction → List Rule
first_rules p [] = (1, is_sized p) ∷ (12, is_described p) ∷ []
first_rules p (w ∷ ws) = (1, is_sized p) ∷ rules p 0 w ++ (12, is_described p) ∷ []
