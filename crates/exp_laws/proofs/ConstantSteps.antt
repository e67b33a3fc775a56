-- What the machine does alone at instructions whose second operand is a constant.
use Rattle.std.proofs.Common.{◌⊎◌, inl, inr, ◌≡◌, ℕ, ◌+◌, ◌<◌, ◌^◌, lit<, Bool, true, false, List, [], ◌∷◌, length, slice_get, Option, Some, None, refl, ap, ap₂, ◌∙◌}
use borrow.Author.Tests.{lt-ltb}
use Rattle.int_core.specs.Value.{Value, Shape, is_known, nil, known, nth, shape}
use Rattle.int_core.specs.Operations.{Event, of_add, of_sub, of_mul, of_mod, of_idiv, of_band, of_bor, of_bxor, arithmetic, equal}
use Rattle.int_core.specs.Ask.{operates, Captured}
use Rattle.tree_core.specs.declared.operator.BinOp.{BinOp}
use Rattle.tree_core.specs.declared.operator.BinOp.TheVariants.{Add as Plus, Sub as Minus, Mul as Times, Mod as Modulo, Idiv, Band, Bor, Bxor, Eq as Equal, Ne}
use Rattle.tree_core.specs.Tree.{Exp}
use Rattle.code_core.specs.declared.opcode.Opcode.{Opcode}
use Rattle.code_core.specs.declared.opcode.Opcode.TheVariants.{AddK, SubK, MulK, ModK, IDivK, BAndK, BOrK, BXorK, MmBinK, EqK}
use Rattle.code_core.specs.declared.instruction.Instruction.{Instruction}
use Rattle.code_core.specs.declared.proto.Const.{Const}
use Rattle.code_core.specs.Instruction.{abc, a_of, c_of, k_of}
use Rattle.code_core.specs.Prototype.{Prototype}
use Rattle.code_core.specs.Check.{at}
use Rattle.code_core.proofs.FieldLemmas.{opcode_of-abc, a_of-abc, b_of-abc, c_of-abc}
use Rattle.machine_core.specs.World.{for_value, for_truth}
use Rattle.machine_core.specs.World as world
use Rattle.machine_core.specs.Text.{read, read_register, read_constant, constant, own}
use Rattle.machine_core.specs.InstructionRows.{row_of, fast, integer_of_shape, handled, event_numbered, swapped, compares, with_constant}
use Rattle.machine_core.specs.Talk.{before, talk, talk_step, says_so, heard}
use Rattle.code_of.specs.ConstantOperands.{constant_by}
use Rattle.code_of.specs.Operations.{constant_code, constant_arithmetic}
use Rattle.code_of.proofs.Fields.{k_of-abc}
use Rattle.exp_laws.proofs.Steps.{row_step, own_step, found_below}
use Rattle.exp_laws.proofs.Arithmetic.{ByOperator}
use Rattle.exp_laws.proofs.Comparisons.{Comparison, comparison_by}

-- the operators of arithmetic that take a constant
abbrev pub ConstantArithmetic : BinOp → Type 0
ConstantArithmetic op = ByOperator op (λ opcode number. (x n t line : ℕ) → constant_code op x n t line ≡ constant_arithmetic opcode number x n t line) with_constant

-- an operator that takes a constant is one of these, or it tells whether two values are equal
pub constant_sort : (op : BinOp) (d : Exp) (v : Const) → constant_by op d ≡ Some v → ConstantArithmetic op ⊎ Comparison op
constant_sort Plus d v h = inl (record { opcode = AddK; event = of_add; number = 6; small = lit< tt; emits = λ x n t line. refl; row = λ p pc w. refl; means = λ line v w a k. refl; numbered = refl })
constant_sort Minus d v h = inl (record { opcode = SubK; event = of_sub; number = 7; small = lit< tt; emits = λ x n t line. refl; row = λ p pc w. refl; means = λ line v w a k. refl; numbered = refl })
constant_sort Times d v h = inl (record { opcode = MulK; event = of_mul; number = 8; small = lit< tt; emits = λ x n t line. refl; row = λ p pc w. refl; means = λ line v w a k. refl; numbered = refl })
constant_sort Modulo d v h = inl (record { opcode = ModK; event = of_mod; number = 9; small = lit< tt; emits = λ x n t line. refl; row = λ p pc w. refl; means = λ line v w a k. refl; numbered = refl })
constant_sort Idiv d v h = inl (record { opcode = IDivK; event = of_idiv; number = 12; small = lit< tt; emits = λ x n t line. refl; row = λ p pc w. refl; means = λ line v w a k. refl; numbered = refl })
constant_sort Band d v h = inl (record { opcode = BAndK; event = of_band; number = 13; small = lit< tt; emits = λ x n t line. refl; row = λ p pc w. refl; means = λ line v w a k. refl; numbered = refl })
constant_sort Bor d v h = inl (record { opcode = BOrK; event = of_bor; number = 14; small = lit< tt; emits = λ x n t line. refl; row = λ p pc w. refl; means = λ line v w a k. refl; numbered = refl })
constant_sort Bxor d v h = inl (record { opcode = BXorK; event = of_bxor; number = 15; small = lit< tt; emits = λ x n t line. refl; row = λ p pc w. refl; means = λ line v w a k. refl; numbered = refl })
constant_sort Equal d v h = inr (comparison_by Equal refl)
constant_sort Ne d v h = inr (comparison_by Ne refl)
constant_sort _ d v h = absurd (cc)

module _ (p : Prototype) where
  abbrev reads_constant : ℕ → Value → Option Const → List Value
  reads_constant n v o = v ∷ elim o as (λ _. List Value) [ None ↦ [] | Some k ↦ known (constant k) ∷ [] ]

  abbrev tells_constant : Option Const → Shape
  tells_constant o = elim o as (λ _. Shape) [ None ↦ is_known nil | Some k ↦ is_known (constant k) ]

  -- arithmetic on the register x and a constant has read both
  pub constant_step : (op : Opcode) (event : Event) (t x n : ℕ) (key : Const) (a : world.Activation) (c : Captured) → at p a.pc ≡ Some (abc op t x n false)
      → ((w : Instruction) → row_of p a.pc op w ≡ with_constant event w) → t < 2 ^ 8 → x < 2 ^ 8 → n < 2 ^ 8 → x < length a.registers → slice_get p.own.constants n ≡ Some key
      → talk_step p (before a c) ≡ talk p (fast event t (integer_of_shape (shape (nth a.registers x))) (integer_of_shape (is_known (constant key)))) (nth a.registers x ∷ known (constant key) ∷ []) a c
  constant_step op event t x n key a c here row t_fits x_fits n_fits room there =
      let w = abc op t x n false in
      let second = λ (s : Shape). own (read_constant n) (λ _ u. fast event t (integer_of_shape s) (integer_of_shape u)) in
      row_step p w op (own (read_register x) (λ _ s. own (read_constant n) (λ _ u. fast event t (integer_of_shape s) (integer_of_shape u)))) a c here (opcode_of-abc op t x n false)
      (row w
      ∙ ap₂ (λ b d. own (read_register b) (λ _ s. own (read_constant d) (λ _ u. fast event (a_of w) (integer_of_shape s) (integer_of_shape u)))) (b_of-abc op t x n false t_fits x_fits) (c_of-abc op t x n false t_fits x_fits n_fits)
      ∙ ap (λ d. own (read_register x) (λ _ s. own (read_constant n) (λ _ u. fast event d (integer_of_shape s) (integer_of_shape u)))) (a_of-abc op t x n false t_fits))
      ∙ own_step p (read_register x) (λ _ s. second s) [] a c (lt-ltb x (length a.registers) room)
      ∙ own_step p (read_constant n) (λ _ u. fast event t (integer_of_shape (shape (nth a.registers x))) (integer_of_shape u)) (nth a.registers x ∷ []) a c (lt-ltb n (length p.own.constants) (found_below p.own.constants n key there))
      ∙ ap (λ o. talk p (fast event t (integer_of_shape (shape (nth a.registers x))) (integer_of_shape (tells_constant o))) (reads_constant n (nth a.registers x) o) a c) there

  -- MMBINK on the register x and a constant asks
  pub constant_event_step : (x n number : ℕ) (key : Const) (event : Event) (a : world.Activation) (c : Captured) → at p a.pc ≡ Some (abc MmBinK x n number false)
      → event_numbered number ≡ Some event → number < 2 ^ 8 → x < 2 ^ 8 → n < 2 ^ 8 → x < length a.registers → slice_get p.own.constants n ≡ Some key
      → talk_step p (before a c) ≡ says_so (operates (arithmetic event) (nth a.registers x ∷ known (constant key) ∷ [])) p a c (λ z b d. heard for_value p z b d)
  constant_event_step x n number key event a c here is small x_fits n_fits room there =
      let w = abc MmBinK x n number false in
      row_step p w MmBinK (own (read_register x) (λ u _. own (read_constant n) (λ v _. handled p a.pc w (Some event) (read u ∷ read v ∷ [])))) a c here (opcode_of-abc MmBinK x n number false)
      (ap₂ (λ b d. own (read_register b) (λ u _. own (read_constant d) (λ v _. handled p a.pc w (event_numbered (c_of w)) (swapped (k_of w) (read u) (read v))))) (a_of-abc MmBinK x n number false x_fits) (b_of-abc MmBinK x n number false x_fits n_fits)
      ∙ ap₂ (λ o k. own (read_register x) (λ u _. own (read_constant n) (λ v _. handled p a.pc w o (swapped k (read u) (read v))))) (ap event_numbered (c_of-abc MmBinK x n number false x_fits n_fits small) ∙ is) (k_of-abc MmBinK x n number false x_fits))
      ∙ own_step p (read_register x) (λ u _. own (read_constant n) (λ v _. handled p a.pc w (Some event) (read u ∷ read v ∷ []))) [] a c (lt-ltb x (length a.registers) room)
      ∙ own_step p (read_constant n) (λ v _. handled p a.pc w (Some event) (read 0 ∷ read v ∷ [])) (nth a.registers x ∷ []) a c (lt-ltb n (length p.own.constants) (found_below p.own.constants n key there))
      ∙ ap (λ o. talk p (handled p a.pc w (Some event) (read 0 ∷ read 1 ∷ [])) (reads_constant n (nth a.registers x) o) a c) there

  -- EQK asks whether the register x and a constant are equal
  pub equal_step : (x n : ℕ) (k : Bool) (key : Const) (a : world.Activation) (c : Captured) → at p a.pc ≡ Some (abc EqK x n 0 k) → x < 2 ^ 8 → n < 2 ^ 8 → x < length a.registers → slice_get p.own.constants n ≡ Some key
      → talk_step p (before a c) ≡ says_so (operates equal (nth a.registers x ∷ known (constant key) ∷ [])) p a c (λ z b d. heard for_truth p z b d)
  equal_step x n k key a c here x_fits n_fits room there =
      let w = abc EqK x n 0 k in
      row_step p w EqK (own (read_register x) (λ u _. own (read_constant n) (λ v _. compares equal (read u) (read v) w))) a c here (opcode_of-abc EqK x n 0 k)
      (ap₂ (λ b d. own (read_register b) (λ u _. own (read_constant d) (λ v _. compares equal (read u) (read v) w))) (a_of-abc EqK x n 0 k x_fits) (b_of-abc EqK x n 0 k x_fits n_fits))
      ∙ own_step p (read_register x) (λ u _. own (read_constant n) (λ v _. compares equal (read u) (read v) w)) [] a c (lt-ltb x (length a.registers) room)
      ∙ own_step p (read_constant n) (λ v _. compares equal (read 0) (read v) w) (nth a.registers x ∷ []) a c (lt-ltb n (length p.own.constants) (found_below p.own.constants n key there))
      ∙ ap (λ o. talk p (compares equal (read 0) (read 1) w) (reads_constant n (nth a.registers x) o) a c) there
