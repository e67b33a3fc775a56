-- Arithmetic between two operands: an instruction that does it on integers, and MMBIN behind it that asks.
use Rattle.std.proofs.Common.{◌≡◌, ℕ, suc, ◌+◌, ◌<◌, ◌^◌, lit<, true, false, List, [], ◌∷◌, length, Some, None, refl, ap, ap₂, ◌∙◌, arith}
use borrow.Author.Tests.{lt-ltb}
use Rattle.int_core.specs.Value.{Value, Shape, is_known, primitive, nth}
use Rattle.int_core.specs.Operations.{Event, of_add, of_sub, of_mul, of_mod, of_idiv, of_band, of_bor, of_bxor, of_shl, of_shr, arithmetic}
use Rattle.int_core.specs.Ask.{operates, Captured}
use Rattle.tree_core.specs.declared.operator.BinOp.{BinOp}
use Rattle.tree_core.specs.declared.operator.BinOp.TheVariants.{Add as Plus, Sub as Minus, Mul as Times, Mod as Modulo, Idiv, Band, Bor, Bxor, Shl as ShiftLeft, Shr as ShiftRight}
use Rattle.tree_activation.specs.Work.{Work}
use Rattle.tree_activation.specs.Work as tree
use Rattle.tree_activation.specs.Expressions.{integer_in, arithmetic_of, binary}
use Rattle.code_core.specs.declared.opcode.Opcode.{Opcode}
use Rattle.code_core.specs.declared.opcode.Opcode.TheVariants.{Add, Sub, Mul, Mod, IDiv, BAnd, BOr, BXor, Shl, Shr, MmBin}
use Rattle.code_core.specs.declared.instruction.Instruction.{Instruction}
use Rattle.code_core.specs.Instruction.{abc, opcode_of, a_of, c_of}
use Rattle.code_core.specs.Prototype.{Prototype}
use Rattle.code_core.specs.Check.{at, in_front}
use Rattle.code_core.proofs.FieldLemmas.{opcode_of-abc, a_of-abc, b_of-abc, c_of-abc}
use Rattle.machine_core.specs.World.{Wait, for_value}
use Rattle.machine_core.specs.World as world
use Rattle.machine_core.specs.Text.{read, Text, read_register, own, trap}
use Rattle.machine_core.specs.InstructionRows.{row_of, rest, rest_at, rest_by, to_register, to_register_before, handled, event_numbered, integer_of_shape, with_register}
use Rattle.machine_core.specs.Talk.{before, talk_step, says_so, heard}
use Rattle.code_of.specs.Operands.{computes}
use Rattle.code_of.specs.Operators.{operator_code, arithmetic_code}
use Rattle.exp_laws.proofs.Steps.{row_step, own_step}

-- What the operators of arithmetic have in common, in the form of code and of rows that a second operand has.
pub record ByOperator (op : BinOp) (Emits : Opcode → ℕ → Type 0) (reads : Event → Instruction → Text) : Type 0 where
  pub opcode : Opcode
  pub event : Event
  pub number : ℕ
  pub small : number < 2 ^ 8
  pub emits : Emits opcode number
  pub row : (p : Prototype) (pc : ℕ) (w : Instruction) → row_of p pc opcode w ≡ reads event w
  pub means : (line : ℕ) (v w : Value) (a : tree.Activation) (k : List Work) → binary op line v w a k ≡ arithmetic_of event line v w a k
  pub numbered : event_numbered number ≡ Some event

-- between two registers
abbrev pub Arithmetic : BinOp → Type 0
Arithmetic op = ByOperator op (λ opcode number. (x y t line : ℕ) → operator_code op x y t line ≡ arithmetic_code opcode number x y t line) with_register

pub arithmetic_by : (op : BinOp) → computes op ≡ true → Arithmetic op
arithmetic_by Plus h = record { opcode = Add; event = of_add; number = 6; small = lit< tt; emits = λ x y t line. refl; row = λ p pc w. refl; means = λ line v w a k. refl; numbered = refl }
arithmetic_by Minus h = record { opcode = Sub; event = of_sub; number = 7; small = lit< tt; emits = λ x y t line. refl; row = λ p pc w. refl; means = λ line v w a k. refl; numbered = refl }
arithmetic_by Times h = record { opcode = Mul; event = of_mul; number = 8; small = lit< tt; emits = λ x y t line. refl; row = λ p pc w. refl; means = λ line v w a k. refl; numbered = refl }
arithmetic_by Modulo h = record { opcode = Mod; event = of_mod; number = 9; small = lit< tt; emits = λ x y t line. refl; row = λ p pc w. refl; means = λ line v w a k. refl; numbered = refl }
arithmetic_by Idiv h = record { opcode = IDiv; event = of_idiv; number = 12; small = lit< tt; emits = λ x y t line. refl; row = λ p pc w. refl; means = λ line v w a k. refl; numbered = refl }
arithmetic_by Band h = record { opcode = BAnd; event = of_band; number = 13; small = lit< tt; emits = λ x y t line. refl; row = λ p pc w. refl; means = λ line v w a k. refl; numbered = refl }
arithmetic_by Bor h = record { opcode = BOr; event = of_bor; number = 14; small = lit< tt; emits = λ x y t line. refl; row = λ p pc w. refl; means = λ line v w a k. refl; numbered = refl }
arithmetic_by Bxor h = record { opcode = BXor; event = of_bxor; number = 15; small = lit< tt; emits = λ x y t line. refl; row = λ p pc w. refl; means = λ line v w a k. refl; numbered = refl }
arithmetic_by ShiftLeft h = record { opcode = Shl; event = of_shl; number = 16; small = lit< tt; emits = λ x y t line. refl; row = λ p pc w. refl; means = λ line v w a k. refl; numbered = refl }
arithmetic_by ShiftRight h = record { opcode = Shr; event = of_shr; number = 17; small = lit< tt; emits = λ x y t line. refl; row = λ p pc w. refl; means = λ line v w a k. refl; numbered = refl }
arithmetic_by _ h = absurd (cc)

pub integer_same : (s : Shape) → integer_of_shape s ≡ integer_in s
integer_same (is_known (primitive n)) = refl
integer_same _ = refl

module _ (p : Prototype) where
  pub front_of : (pc : ℕ) → in_front p (pc + 1) ≡ at p pc
  front_of pc = let e : pc + 1 ≡ suc pc = omega arith in ap (in_front p) e

  -- MMBIN on the registers x and y asks
  pub event_step : (x y number : ℕ) (event : Event) (a : world.Activation) (c : Captured) → at p a.pc ≡ Some (abc MmBin x y number false)
      → event_numbered number ≡ Some event → number < 2 ^ 8 → x < 2 ^ 8 → y < 2 ^ 8 → x < length a.registers → y < length a.registers
      → talk_step p (before a c) ≡ says_so (operates (arithmetic event) (nth a.registers x ∷ nth a.registers y ∷ [])) p a c (λ x b d. heard for_value p x b d)
  event_step x y number event a c here is small x_fits y_fits x_room y_room =
      let w = abc MmBin x y number false in
      row_step p w MmBin (own (read_register x) (λ u _. own (read_register y) (λ v _. handled p a.pc w (Some event) (read u ∷ read v ∷ [])))) a c here (opcode_of-abc MmBin x y number false)
      (ap₂ (λ b d. own (read_register b) (λ u _. own (read_register d) (λ v _. handled p a.pc w (event_numbered (c_of w)) (read u ∷ read v ∷ [])))) (a_of-abc MmBin x y number false x_fits) (b_of-abc MmBin x y number false x_fits y_fits)
      ∙ ap (λ o. own (read_register x) (λ u _. own (read_register y) (λ v _. handled p a.pc w o (read u ∷ read v ∷ [])))) (ap event_numbered (c_of-abc MmBin x y number false x_fits y_fits small) ∙ is))
      ∙ own_step p (read_register x) (λ u _. own (read_register y) (λ v _. handled p a.pc w (Some event) (read u ∷ read v ∷ []))) [] a c (lt-ltb x (length a.registers) x_room)
      ∙ own_step p (read_register y) (λ v _. handled p a.pc w (Some event) (read 0 ∷ read v ∷ [])) (nth a.registers x ∷ []) a c (lt-ltb y (length a.registers) y_room)

  -- and the answer of an event goes to the register of the instruction in front of it
  pub event_rest : (half op : Opcode) (t x field y number pc : ℕ) → at p pc ≡ Some (abc op t x field false) → at p (pc + 1) ≡ Some (abc half x y number false) → t < 2 ^ 8
      → rest {V = Value} for_value p (pc + 1) half (abc half x y number false) ≡ to_register_before p (pc + 1)
      → rest_at {V = Value} for_value p (pc + 1) ≡ to_register t (read 0)
  event_rest half op t x field y number pc front here fits comes =
      ap (λ o. elim o as (λ _. Text) [ None ↦ trap | Some w ↦ rest_by {V = Value} for_value p (pc + 1) w (opcode_of w) ]) here
      ∙ ap (rest_by {V = Value} for_value p (pc + 1) (abc half x y number false)) (opcode_of-abc half x y number false)
      ∙ comes
      ∙ ap (λ o. elim o as (λ _. Text) [ None ↦ trap | Some w ↦ to_register (a_of w) (read 0) ]) (front_of pc ∙ front)
      ∙ ap (λ r. to_register r (read 0)) (a_of-abc op t x field false fits)
