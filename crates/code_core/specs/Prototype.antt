-- A function's prototype as plain lists (lobject.h of Lua 5.4).
use Rattle.std.specs.Prelude.{ℕ, ◌+◌, ℤ, Bool, List, [], ◌∷◌, Option, None, length}
use Rattle.code_core.specs.declared.instruction.Instruction.{Instruction}
use Rattle.code_core.specs.declared.proto.Const.{Const}
use Rattle.code_core.specs.declared.proto.UpDesc.{UpDesc}
use Rattle.code_core.specs.declared.proto.AbsLine.{AbsLine}
use Rattle.code_core.specs.declared.proto.LocVar.{LocVar}

-- what a function has besides the functions that are defined in it
pub record Parts : Type 0 where
  pub source : Option (List ℕ)
  pub line_defined : ℕ
  pub last_line : ℕ
  pub params : ℕ
  pub vararg : Bool
  pub stack : ℕ
  pub code : List Instruction
  pub constants : List Const
  pub upvalues : List UpDesc
  pub line_info : List ℤ
  pub abs_lines : List AbsLine
  pub locals : List LocVar
  pub up_names : List (Option (List ℕ))

-- functions in their order, each with those that are defined in it
pub data Prototypes : Type 0 where
  none : Prototypes
  more : (own : Parts) → (inner : Prototypes) → (rest : Prototypes) → Prototypes

pub record Prototype : Type 0 where
  pub own : Parts
  pub inner : Prototypes

abbrev pub prototypes : List Prototype → Prototypes
prototypes [] = none
prototypes (p ∷ ps) = more p.own p.inner (prototypes ps)

-- a function of which no more is kept than what it does: without its source, lines and names
abbrev pub stripped : (params : ℕ) (vararg : Bool) (stack : ℕ) (code : List Instruction) (constants : List Const) (upvalues : List UpDesc) (inner : Prototypes) → Prototype
stripped params vararg stack code constants upvalues inner = record {
  own = record {
    source = None;
    line_defined = 0;
    last_line = 0;
    params = params;
    vararg = vararg;
    stack = stack;
    code = code;
    constants = constants;
    upvalues = upvalues;
    line_info = [];
    abs_lines = [];
    locals = [];
    up_names = [];
  };
  inner = inner;
}

abbrev pub list_of : Prototypes → List Prototype
list_of none = []
list_of (more own inner rest) = record { own = own; inner = inner } ∷ list_of rest

-- how many functions these are, with those within
abbrev pub count : Prototypes → ℕ
count none = 0
count (more own inner rest) = 1 + count inner + count rest

-- how many functions are defined in a function, directly or not
abbrev pub inner_count : Prototype → ℕ
inner_count p = count p.inner

-- the sums over a function and all that are defined in it

abbrev pub function_count : Prototype → ℕ
function_count p = 1 + count p.inner

abbrev pub inner_instructions : Prototypes → ℕ
inner_instructions none = 0
inner_instructions (more own inner rest) = length own.code + inner_instructions inner + inner_instructions rest

abbrev pub instruction_count : Prototype → ℕ
instruction_count p = length p.own.code + inner_instructions p.inner
