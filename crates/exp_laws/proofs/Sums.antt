-- Arithmetic whose second operand is a numeral in the instruction.
use Rattle.std.specs.Prelude.{◌+ℤ◌}
use Rattle.std.proofs.Common.{◌⊎◌, inl, inr, ◌≡◌, ℕ, zero, suc, ◌+◌, ◌-◌, ◌<◌, ◌≤◌, ◌^◌, lit<, false, ℤ, pos, negsuc, ◌-ℤ◌, List, [], ◌∷◌, length, Option, Some, None, refl, ap, ap₂, ◌∙◌, subst, arith}
use Rattle.std.proofs.lemmas.Int.{ints}
use borrow.Author.Tests.{lt-ltb}
use Rattle.int_core.specs.Value.{Value, known, integer, nth, shape}
use Rattle.int_core.specs.Arithmetic.{wrapped}
use Rattle.int_core.specs.Operations.{Event, of_add, of_sub, of_shl, of_shr, arithmetic}
use Rattle.int_core.specs.Ask.{operates, Captured}
use Rattle.tree_core.specs.declared.operator.BinOp.{BinOp}
use Rattle.tree_core.specs.declared.operator.BinOp.TheVariants.{Add as Plus, Sub as Minus, Shl as ShiftLeft, Shr as ShiftRight, Eq as Equal, Ne, Lt as Less, Le as AtMost, Gt, Ge}
use Rattle.tree_core.specs.Tree.{Exp}
use Rattle.tree_activation.specs.Work.{Work}
use Rattle.tree_activation.specs.Work as tree
use Rattle.tree_activation.specs.Expressions.{arithmetic_of, binary}
use Rattle.code_core.specs.declared.opcode.Opcode.{Opcode}
use Rattle.code_core.specs.declared.opcode.Opcode.TheVariants.{AddI, ShrI, MmBinI}
use Rattle.code_core.specs.declared.instruction.Instruction.{Instruction}
use Rattle.code_core.specs.Instruction.{abc, a_of, b_of, c_of, sb_of, sc_of}
use Rattle.code_core.specs.Prototype.{Prototype}
use Rattle.code_core.specs.Check.{at}
use Rattle.code_core.proofs.FieldLemmas.{opcode_of-abc, a_of-abc, b_of-abc, c_of-abc}
use Rattle.machine_core.specs.World.{for_value}
use Rattle.machine_core.specs.World as world
use Rattle.machine_core.specs.Text.{read, written, read_register, own}
use Rattle.machine_core.specs.Text as text
use Rattle.machine_core.specs.InstructionRows.{row_of, fast, integer_of_shape, handled, event_numbered, swapped, skip, then}
use Rattle.machine_core.specs.Talk.{before, talk, talk_step, says_so, heard}
use Rattle.code_of.specs.Operands.{numeral_of, operand_numeral}
use Rattle.code_of.specs.Operators.{number_code, sum_code}
use Rattle.code_of.proofs.Operands.{IsNumeral, numeral_is, numeral_none, numeral_form, shift_is}
use Rattle.code_of.proofs.Fields.{k_of-abc}
use Rattle.exp_laws.proofs.Steps.{row_step, own_step}
use Rattle.exp_laws.proofs.Comparisons.{Comparison, comparison_by, numeral_back}

-- a sum with a numeral, a difference or a shift by one
pub record Sum (op : BinOp) (n : ℕ) : Type 0 where
  pub opcode : Opcode
  pub done : Event
  pub event : Event
  pub field : ℕ
  pub number : ℕ
  pub fits : field < 2 ^ 8
  pub small : number < 2 ^ 8
  pub emits : (x t line : ℕ) → number_code op x n t line ≡ sum_code opcode field number x n t line
  pub row : (p : Prototype) (pc : ℕ) (w : Instruction) → row_of p pc opcode w ≡ own (read_register (b_of w)) (λ _ s. fast done (a_of w) (integer_of_shape s) (Some (sc_of w)))
  pub same : (t : ℕ) (o : Option ℤ) → fast done t o (Some (pos field -ℤ pos 127)) ≡ fast event t o (Some (pos n))
  pub means : (line : ℕ) (v w : Value) (a : tree.Activation) (k : List Work) → binary op line v w a k ≡ arithmetic_of event line v w a k
  pub numbered : event_numbered number ≡ Some event

-- ADDI with the field of -n, for `a - n`
taken_back : (m : ℤ) (k n : ℕ) → k + n ≡ 127 → m +ℤ (pos k -ℤ pos 127) ≡ m -ℤ pos n
taken_back m k n e = subst (λ z. m +ℤ (pos k -ℤ pos z) ≡ m -ℤ pos n) e (by m k n)
  where
    by : (m : ℤ) (k n : ℕ) → m +ℤ (pos k -ℤ pos (k + n)) ≡ m -ℤ pos n
    by m k n = grind arith

less_by_sum : (n t : ℕ) → n ≤ 127 → (o : Option ℤ) → fast of_add t o (Some (pos (127 - n) -ℤ pos 127)) ≡ fast of_sub t o (Some (pos n))
less_by_sum n t le None = refl
less_by_sum n t le (Some m) = ap (λ z. then (text.write_register t (written (integer (wrapped z)))) skip) (taken_back m (127 - n) n (omega (arith, le)))

pub plus_sum : (n : ℕ) → n ≤ 128 → Sum Plus n
plus_sum n le = record { opcode = AddI; done = of_add; event = of_add; field = n + 127; number = 6; fits = omega (arith, le); small = lit< tt; emits = λ x t line. refl; row = λ p pc w. refl; same = λ t o. ap (λ z. fast of_add t o (Some z)) (numeral_back n); means = λ line v w a k. refl; numbered = refl }

pub minus_sum : (n : ℕ) → n ≤ 127 → Sum Minus n
minus_sum n le = record { opcode = AddI; done = of_add; event = of_sub; field = 127 - n; number = 7; fits = omega (arith, le); small = lit< tt; emits = λ x t line. refl; row = λ p pc w. refl; same = λ t o. less_by_sum n t le o; means = λ line v w a k. refl; numbered = refl }

pub shift_sum : (n : ℕ) → n ≤ 128 → Sum ShiftRight n
shift_sum n le = record { opcode = ShrI; done = of_shr; event = of_shr; field = n + 127; number = 17; fits = omega (arith, le); small = lit< tt; emits = λ x t line. refl; row = λ p pc w. refl; same = λ t o. ap (λ z. fast of_shr t o (Some z)) (numeral_back n); means = λ line v w a k. refl; numbered = refl }

-- SHRI with the field of -n, for `a << n`

lowered : (k : ℕ) → suc k ≤ 127 → pos (127 - suc k) -ℤ pos 127 ≡ negsuc k
lowered k le = by (127 - suc k) 127 (omega (arith, le))
  where
    by : (m most : ℕ) → m + suc k ≡ most → pos m -ℤ pos most ≡ negsuc k
    by m most e = omega (arith, ints, e)

up_by_shift : (n t : ℕ) → 1 ≤ n → n ≤ 127 → (o : Option ℤ) → fast of_shr t o (Some (pos (127 - n) -ℤ pos 127)) ≡ fast of_shl t o (Some (pos n))
up_by_shift zero t some le o = absurd (omega (arith, some))
up_by_shift (suc k) t some le None = refl
up_by_shift (suc k) t some le (Some m) = ap (λ z. fast of_shr t (Some m) (Some z)) (lowered k le)

pub shift_up_sum : (n : ℕ) → 1 ≤ n → n ≤ 127 → Sum ShiftLeft n
shift_up_sum n some le = record { opcode = ShrI; done = of_shr; event = of_shl; field = 127 - n; number = 16; fits = omega (arith, le); small = lit< tt; emits = λ x t line. refl; row = λ p pc w. refl; same = λ t o. up_by_shift n t some le o; means = λ line v w a k. refl; numbered = refl }

-- an operator with a numeral adds or compares

pub record NumberForm (op : BinOp) (d : Exp) (n : ℕ) : Type 0 where
  pub numeral : IsNumeral d n 128
  pub form : Sum op n ⊎ Comparison op

compares_number : (op : BinOp) (d : Exp) (n : ℕ) → Comparison op → numeral_of d (Some 128) ≡ Some n → NumberForm op d n
compares_number op d n f e = record { numeral = numeral_is d 128 n e; form = inr f }

pub number_form : (op : BinOp) (d : Exp) (n : ℕ) → operand_numeral op d ≡ Some n → NumberForm op d n
number_form Plus d n e = let h = numeral_is d 128 n e in record { numeral = h; form = inl (plus_sum n h.small) }
number_form Minus d n e = let h = numeral_is d 127 n e in record { numeral = numeral_form Minus d n e; form = inl (minus_sum n h.small) }
number_form ShiftLeft d n e = let h = shift_is d n e in record { numeral = numeral_form ShiftLeft d n e; form = inl (shift_up_sum n h.1 h.0.small) }
number_form ShiftRight d n e = let h = numeral_is d 128 n e in record { numeral = h; form = inl (shift_sum n h.small) }
number_form Equal d n e = compares_number Equal d n (comparison_by Equal refl) e
number_form Ne d n e = compares_number Ne d n (comparison_by Ne refl) e
number_form Less d n e = compares_number Less d n (comparison_by Less refl) e
number_form AtMost d n e = compares_number AtMost d n (comparison_by AtMost refl) e
number_form Gt d n e = compares_number Gt d n (comparison_by Gt refl) e
number_form Ge d n e = compares_number Ge d n (comparison_by Ge refl) e
number_form _ d n e = absurd (numeral_none d n e)

module _ (p : Prototype) where
  -- the instruction has read its operand
  pub sum_step : (op : Opcode) (done : Event) (t x field : ℕ) (a : world.Activation) (c : Captured) → at p a.pc ≡ Some (abc op t x field false)
      → ((w : Instruction) → row_of p a.pc op w ≡ own (read_register (b_of w)) (λ _ s. fast done (a_of w) (integer_of_shape s) (Some (sc_of w))))
      → t < 2 ^ 8 → x < 2 ^ 8 → field < 2 ^ 8 → x < length a.registers
      → talk_step p (before a c) ≡ talk p (fast done t (integer_of_shape (shape (nth a.registers x))) (Some (pos field -ℤ pos 127))) (nth a.registers x ∷ []) a c
  sum_step op done t x field a c here row t_fits x_fits fits room =
      let w = abc op t x field false in
      let z = pos field -ℤ pos 127 in
      row_step p w op (own (read_register x) (λ _ s. fast done t (integer_of_shape s) (Some z))) a c here (opcode_of-abc op t x field false)
      (row w
      ∙ ap₂ (λ b d. own (read_register b) (λ _ s. fast done d (integer_of_shape s) (Some (sc_of w)))) (b_of-abc op t x field false t_fits x_fits) (a_of-abc op t x field false t_fits)
      ∙ ap (λ n. own (read_register x) (λ _ s. fast done t (integer_of_shape s) (Some (pos n -ℤ pos 127)))) (c_of-abc op t x field false t_fits x_fits fits))
      ∙ own_step p (read_register x) (λ _ s. fast done t (integer_of_shape s) (Some z)) [] a c (lt-ltb x (length a.registers) room)

  -- MMBINI on the register x and the number n asks
  pub number_event_step : (x n number : ℕ) (event : Event) (a : world.Activation) (c : Captured) → at p a.pc ≡ Some (abc MmBinI x (n + 127) number false)
      → event_numbered number ≡ Some event → number < 2 ^ 8 → x < 2 ^ 8 → n + 127 < 2 ^ 8 → x < length a.registers
      → talk_step p (before a c) ≡ says_so (operates (arithmetic event) (nth a.registers x ∷ known (integer (pos n)) ∷ [])) p a c (λ x b d. heard for_value p x b d)
  number_event_step x n number event a c here is small x_fits n_fits room =
      let w = abc MmBinI x (n + 127) number false in
      let field : sb_of w ≡ pos n = ap (λ b. pos b -ℤ pos 127) (b_of-abc MmBinI x (n + 127) number false x_fits n_fits) ∙ numeral_back n in
      row_step p w MmBinI (own (read_register x) (λ u _. handled p a.pc w (Some event) (read u ∷ written (integer (pos n)) ∷ []))) a c here (opcode_of-abc MmBinI x (n + 127) number false)
      (ap₂ (λ b k. own (read_register b) (λ u _. handled p a.pc w (event_numbered (c_of w)) (swapped k (read u) (written (integer (sb_of w)))))) (a_of-abc MmBinI x (n + 127) number false x_fits) (k_of-abc MmBinI x (n + 127) number false x_fits)
      ∙ ap₂ (λ o z. own (read_register x) (λ u _. handled p a.pc w o (read u ∷ written (integer z) ∷ []))) (ap event_numbered (c_of-abc MmBinI x (n + 127) number false x_fits n_fits small) ∙ is) field)
      ∙ own_step p (read_register x) (λ u _. handled p a.pc w (Some event) (read u ∷ written (integer (pos n)) ∷ [])) [] a c (lt-ltb x (length a.registers) room)
