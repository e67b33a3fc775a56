-- Short forms for trees and codes that are written by hand, all on line 1.
use Rattle.std.specs.Prelude.{◌≡◌, ℕ, ◌+◌, ◌-◌, ℤ, pos, Bool, true, List, [], ◌∷◌, length, Some, None, codes}
use Prim.Native.String.{String}
use Rattle.tree_core.specs.Tree.{Body}
use Rattle.code_core.specs.declared.instruction.Instruction.{Instruction}
use Rattle.code_core.specs.declared.opcode.Opcode.TheVariants.{LoadI, Jmp}
use Rattle.code_core.specs.declared.proto.Const.{Const}
use Rattle.code_core.specs.declared.proto.Const.TheVariants.{Str as ConstStr}
use Rattle.code_core.specs.declared.proto.UpDesc.{UpDesc}
use Rattle.code_core.specs.declared.proto.LocVar.{LocVar}
use Rattle.code_core.specs.Instruction.{abx, op_ax}
use Rattle.code_core.specs.Prototype.{Prototype, none, prototypes, stripped}
use Rattle.int_core.specs.Ask.{Reply, runs}
use Rattle.tree_activation.specs.Work.{when_captured}
use Rattle.tree_activation.specs.Activation.{start, step}
use Rattle.machine_core.specs.Talk.{talk_start, talk_step}
use Rattle.int_core.specs.Value.{Value}
use Rattle.code_means.specs.Asks.{Said}
use Rattle.code_means.proofs.Traces.{trace}

-- codes

abbrev pub zeros : {A : Type 0} → List A → List ℤ
zeros [] = []
zeros (x ∷ xs) = pos 0 ∷ zeros xs

abbrev pub text : String → Const
text t = ConstStr (codes t)

abbrev pub in_register : ℕ → UpDesc
in_register n = record { in_stack = true; index = n; kind = 0 }

abbrev pub variable : String → ℕ → ℕ → LocVar
variable t from to = record { name = Some (codes t); start = from; end = to }

abbrev pub hidden : ℕ → ℕ → LocVar
hidden from to = record { name = None; start = from; end = to }

abbrev pub code : ℕ → Bool → List Const → List UpDesc → List LocVar → List Prototype → List Instruction → Prototype
code params vararg constants upvalues variables inner words = record {
  own = record (stripped params vararg 12 words constants upvalues none).own { line_defined = 1; last_line = 1; line_info = zeros words; locals = variables };
  inner = prototypes inner;
}

abbrev pub load_int : ℕ → ℕ → Instruction
load_int a n = abx LoadI a (n + 65535)

-- jumps by a number of places, ahead and back
abbrev pub jump : ℕ → Instruction
jump n = op_ax Jmp (n + 16777215)

abbrev pub jump_back : ℕ → Instruction
jump_back n = op_ax Jmp (16777215 - n)

-- what both ask on some arguments, where these replies come

abbrev pub tree_asks : Body → List Value → List Reply → List Said
tree_asks b arguments replies = trace step 60 20 0 (runs step 60 (start when_captured b arguments)) replies

abbrev pub code_asks : Prototype → List Value → List Reply → List Said
code_asks p arguments replies = trace (talk_step p) 60 20 0 (runs (talk_step p) 60 (talk_start p arguments)) replies

-- both ask the same, and so many times
abbrev pub AskAlike : ℕ → List Said → List Said → Type 0
AskAlike n of_tree of_code = (of_tree ≡ of_code) × (length of_tree ≡ n)
