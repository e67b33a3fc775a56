-- Operators before one operand that the world settles.
use Rattle.std.proofs.Common.{◌≡◌, ℕ, ◌<◌, ◌^◌, Bool, true, false, List, [], ◌∷◌, length, Some, None, refl, ap, ap₂, ◌∙◌}
use borrow.Author.Tests.{lt-ltb}
use Rattle.int_core.specs.Value.{Value, nth}
use Rattle.int_core.specs.Operations.{Operation, arithmetic, of_unm, of_bnot, length'}
use Rattle.int_core.specs.Ask.{operates, Captured}
use Rattle.tree_core.specs.declared.operator.UnOp.{UnOp}
use Rattle.tree_core.specs.declared.operator.UnOp.TheVariants.{Neg, BitNot, Not as Negation, Len as Length}
use Rattle.tree_activation.specs.Work.{Work}
use Rattle.tree_activation.specs.Work as tree
use Rattle.tree_activation.specs.Asking.{asks}
use Rattle.tree_activation.specs.Expressions.{give_first}
use Rattle.tree_activation.specs.Expressions as trees
use Rattle.code_core.specs.declared.instruction.Instruction.{Instruction}
use Rattle.code_core.specs.Instruction.{abc, opcode_of, a_of, b_of}
use Rattle.code_core.specs.Prototype.{Prototype}
use Rattle.code_core.specs.Check.{at}
use Rattle.code_core.proofs.FieldLemmas.{opcode_of-abc, a_of-abc, b_of-abc}
use Rattle.machine_core.specs.World.{for_value}
use Rattle.machine_core.specs.World as world
use Rattle.machine_core.specs.Text.{Arg, read, Text, arg, args_of, read_register, own, operate, trap}
use Rattle.machine_core.specs.InstructionRows.{row_of, rest, rest_at, rest_by, to_register}
use Rattle.machine_core.specs.Talk.{before, talk_step, says_so, heard}
use Rattle.code_of.specs.Operators.{prefix_opcode}
use Rattle.exp_laws.proofs.Steps.{row_step, own_step}

-- a handler of arithmetic gets the operand twice
abbrev pub given : {A : Type 0} → (twice : Bool) → A → List A
given true x = x ∷ x ∷ []
given false x = x ∷ []

given_args : (twice : Bool) (env : List Value) (x : Arg) → args_of env (given twice x) ≡ given twice (arg env x)
given_args true env x = refl
given_args false env x = refl

pub record Prefix (op : UnOp) : Type 0 where
  pub operation : Operation
  pub twice : Bool
  pub row : (p : Prototype) (pc : ℕ) (w : Instruction) → row_of p pc (prefix_opcode op) w ≡ own (read_register (b_of w)) (λ v _. operate operation (given twice (read v)) for_value [] (to_register (a_of w) (read 0)))
  pub after : (p : Prototype) (pc : ℕ) (w : Instruction) → rest {V = Value} for_value p pc (prefix_opcode op) w ≡ to_register (a_of w) (read 0)
  pub means : (line : ℕ) (v : Value) (a : tree.Activation) (k : List Work) → trees.unary op line v a k ≡ asks (operates operation (given twice v)) line a k give_first

abbrev pub IsAsked : UnOp → Type 0
IsAsked Negation = ⊥
IsAsked _ = Unit {0}

pub prefix_by : (op : UnOp) → IsAsked op → Prefix op
prefix_by Neg h = record { operation = arithmetic of_unm; twice = true; row = λ p pc w. refl; after = λ p pc w. refl; means = λ line v a k. refl }
prefix_by BitNot h = record { operation = arithmetic of_bnot; twice = true; row = λ p pc w. refl; after = λ p pc w. refl; means = λ line v a k. refl }
prefix_by Length h = record { operation = length'; twice = false; row = λ p pc w. refl; after = λ p pc w. refl; means = λ line v a k. refl }
prefix_by Negation h = absurd h

-- the operand stands in register x, and the value goes to t
module _ (p : Prototype) (op : UnOp) (f : Prefix op) (x t : ℕ) (x_fits : x < 2 ^ 8) (fits : t < 2 ^ 8) where
  pub prefix_step : (a : world.Activation) (c : Captured) → at p a.pc ≡ Some (abc (prefix_opcode op) t x 0 false) → x < length a.registers
      → talk_step p (before a c) ≡ says_so (operates f.operation (given f.twice (nth a.registers x))) p a c (λ y b d. heard for_value p y b d)
  prefix_step a c here room =
      let w = abc (prefix_opcode op) t x 0 false in
      row_step p w (prefix_opcode op) (own (read_register x) (λ v _. operate f.operation (given f.twice (read v)) for_value [] (to_register t (read 0)))) a c here (opcode_of-abc (prefix_opcode op) t x 0 false)
      (f.row p a.pc w
      ∙ ap₂ (λ b d. own (read_register b) (λ v _. operate f.operation (given f.twice (read v)) for_value [] (to_register d (read 0)))) (b_of-abc (prefix_opcode op) t x 0 false fits x_fits) (a_of-abc (prefix_opcode op) t x 0 false fits))
      ∙ own_step p (read_register x) (λ v _. operate f.operation (given f.twice (read v)) for_value [] (to_register t (read 0))) [] a c (lt-ltb x (length a.registers) room)
      ∙ ap (λ vs. says_so (operates f.operation vs) p a c (λ y b d. heard for_value p y b d)) (given_args f.twice (nth a.registers x ∷ []) (read 0))

  pub prefix_rest : (pc : ℕ) → at p pc ≡ Some (abc (prefix_opcode op) t x 0 false) → rest_at {V = Value} for_value p pc ≡ to_register t (read 0)
  prefix_rest pc here =
      let w = abc (prefix_opcode op) t x 0 false in
      ap (λ o. elim o as (λ _. Text) [ None ↦ trap | Some i ↦ rest_by {V = Value} for_value p pc i (opcode_of i) ]) here
      ∙ ap (rest_by {V = Value} for_value p pc w) (opcode_of-abc (prefix_opcode op) t x 0 false)
      ∙ f.after p pc w ∙ ap (λ r. to_register r (read 0)) (a_of-abc (prefix_opcode op) t x 0 false fits)
