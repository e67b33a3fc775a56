-- Short forms for prototypes that are written by hand, all on line 1.
use Rattle.std.specs.Prelude.{◌≡◌, ℕ, Bool, true, List, map, Some, codes}
use Prim.Native.String.{String}
use Rattle.tree_core.specs.Tree.{Body}
use Rattle.code_core.specs.declared.instruction.Instruction.{Instruction}
use Rattle.code_core.specs.declared.proto.Const.{Const}
use Rattle.code_core.specs.declared.proto.LocVar.{LocVar}
use Rattle.code_core.specs.Prototype.{Prototype, none, prototypes, stripped}
use Rattle.code_of.specs.CodeOf.{code_of}
use Rattle.code_means.proofs.Forms.{zeros}

abbrev pub source : List ℕ
source = codes "@s.lua"

-- an upvalue that is a local of the function around, by its register
abbrev pub Outer : Type 0
Outer = String × ℕ

abbrev pub hand : (params : ℕ) → (vararg : Bool) → (stack : ℕ) → List Const → List Outer → List LocVar → List Prototype → List Instruction → Prototype
hand params vararg stack constants outers variables inner words = record {
  own = record (stripped params vararg stack words constants (map (λ u. record { in_stack = true; index = u.1; kind = 0 }) outers) none).own {
    source = Some source;
    line_defined = 1;
    last_line = 1;
    line_info = zeros words;
    locals = variables;
    up_names = map (λ u. Some (codes u.0)) outers;
  };
  inner = prototypes inner;
}

abbrev pub Compiles : Body → Prototype → Type 0
Compiles b p = code_of (Some source) b ≡ p

-- the instructions alone
abbrev pub Lists : Body → List Instruction → Type 0
Lists b words = (code_of (Some source) b).own.code ≡ words

abbrev pub word : ℕ → Instruction
word n = record { 0 = n }
