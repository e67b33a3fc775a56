-- Operators between two operands, of which the second one may be a constant in the instruction.
use Rattle.std.proofs.Common.{◌⊎◌, inl, inr, ◌≡◌, ℕ, ◌+◌, ◌<◌, ◌≤◌, ◌^◌, Bool, true, false, List, [], ◌∷◌, ◌++◌, length, Option, Some, None, refl, sym, ap, ap₂, subst, ◌∙◌, arith, length-append}
use Rattle.int_core.specs.Value.{Value, known, nth, shape}
use Rattle.int_core.specs.Operations.{arithmetic, equal}
use Rattle.int_core.specs.Ask.{operates, Captured, goes_on}
use Rattle.tree_core.specs.declared.operator.BinOp.{BinOp}
use Rattle.tree_core.specs.Tree.{Exp, Nil, True, False, Int, Str}
use Rattle.tree_activation.specs.Work.{evaluate, give, Work, Pending, right_of, left_of}
use Rattle.tree_activation.specs.Work as tree
use Rattle.tree_activation.specs.Activation.{step}
use Rattle.tree_activation.specs.Asking.{first}
use Rattle.tree_activation.specs.Expressions.{integer_in, by_integers}
use Rattle.code_core.specs.declared.opcode.Opcode.TheVariants.{MmBinK, EqK}
use Rattle.code_core.specs.declared.proto.Const.{Const}
use Rattle.code_core.specs.declared.proto.Const.TheVariants.{Nil as NilConst, False as FalseConst, True as TrueConst, Int as IntConst, Str as StrConst}
use Rattle.code_core.specs.Instruction.{abc}
use Rattle.code_core.specs.Check.{at}
use Rattle.machine_core.specs.World.{for_value, for_truth}
use Rattle.machine_core.specs.Text.{constant}
use Rattle.machine_core.specs.InstructionRows.{fast, integer_of_shape}
use Rattle.machine_core.specs.Talk as code
use Rattle.machine_core.specs.Talk.{before, talk, talk_step, says_so, heard}
use Rattle.code_of.specs.Coded.{Coded}
use Rattle.code_of.specs.ConstantOperands.{any_constant}
use Rattle.code_of.specs.Truths.{pick}
use Rattle.code_of.specs.Expressions.{made_by, exp_code}
use Rattle.code_of.specs.FieldReads.{object_room}
use Rattle.code_of.specs.Operands.{local_of, computes, second_of, seat, unless}
use Rattle.code_of.specs.Operations.{constant_in, constant_code, constant_arithmetic, operation_by, operation_room}
use Rattle.code_of.specs.Rooms.{room_of}
use Rattle.code_of.proofs.Operands.{operator_stands}
use Rattle.code_of.proofs.Operations.{IsOperand, constant_is, operand_form, operand_literal}
use Rattle.exp_laws.specs.Setting.{Setting}
use Rattle.exp_laws.specs.Placed.{IsPlaced}
use Rattle.exp_laws.proofs.Registers.{Rel, After, after_none}
use Rattle.exp_laws.proofs.Talking.{Agree, go_left, of_tree, of_code}
use Rattle.exp_laws.proofs.Placing.{HasAt, has_front, has_back}
use Rattle.exp_laws.proofs.Arithmetic.{arithmetic_by, integer_same, event_rest}
use Rattle.exp_laws.proofs.Comparisons.{Comparison}
use Rattle.exp_laws.proofs.ConstantSteps.{ConstantArithmetic, constant_sort, constant_step, constant_event_step, equal_step}
use Rattle.exp_laws.proofs.Going.{Goes, GoesInto, goes_at, into_goes, into_at}
use Rattle.exp_laws.proofs.OperatorForms.{arithmetic_into, truth_goes}
use Rattle.exp_laws.proofs.Operands.{ExpSame, local_placed, local_read, operands_goes, GoesWithRegisters, GoesWithNumber}

const_is : (x y : Const) → Some x ≡ Some y → x ≡ y
const_is x y e = ap (λ o. elim o as (λ _. Const) [ None ↦ x | Some k ↦ k ]) e

module _ (S : Setting) (pending : List Pending) where
  -- an expression that is written out gives its value
  literal_by : (d : Exp) (y x : Const) → Some y ≡ Some x → (n : ℕ) (env : List Value) (c : Captured) (k : List Work) (t : code.State)
      → step (tree.at (evaluate d) (of_tree S pending env c) k) ≡ goes_on (tree.at (give (known (constant y) ∷ [])) (of_tree S pending env c) k)
      → Agree S n (tree.at (give (known (constant x) ∷ [])) (of_tree S pending env c) k) t → Agree S n (tree.at (evaluate d) (of_tree S pending env c) k) t
  literal_by d y x h n env c k t e next =
      go_left S n _ (tree.at (give (known (constant y) ∷ [])) (of_tree S pending env c) k) t e
      (subst (λ q. Agree S n (tree.at (give (known (constant q) ∷ [])) (of_tree S pending env c) k) t) (sym (const_is y x h)) next)

  pub literal_read : (d : Exp) (x : Const) → any_constant d ≡ Some x → (n : ℕ) (env : List Value) (c : Captured) (k : List Work) (t : code.State)
      → Agree S n (tree.at (give (known (constant x) ∷ [])) (of_tree S pending env c) k) t → Agree S n (tree.at (evaluate d) (of_tree S pending env c) k) t
  literal_read (Nil line) x h n env c k t next = literal_by (Nil line) NilConst x h n env c k t refl next
  literal_read (True line) x h n env c k t next = literal_by (True line) TrueConst x h n env c k t refl next
  literal_read (False line) x h n env c k t next = literal_by (False line) FalseConst x h n env c k t refl next
  literal_read (Int line z) x h n env c k t next = literal_by (Int line z) (IntConst z) x h n env c k t refl next
  literal_read (Str line bytes) x h n env c k t next = literal_by (Str line bytes) (StrConst bytes) x h n env c k t refl next
  literal_read _ x h n env c k t next = absurd (cc)

  -- the operands e and d of an operator, where it is known how code goes on with each form of the second one
  module _ (line : ℕ) (op : BinOp) (e d : Exp) (by_constant by_registers by_number : (x y : ℕ) → List Coded) (n t end : ℕ) (env regs : List Value) (k : List Work) where
    -- code goes on where the first operand stands in a register and the second one is a constant
    abbrev pub GoesWithConstant : Type 0
    GoesWithConstant =
        (x number place opened' : ℕ) (v : Value) (f : IsOperand S.code.own.constants op d number) (env' regs' : List Value) (c' : Captured) → After S.hidden S.code.own.stack pending env regs t env' regs' c'
        → x < S.code.own.stack → nth regs' x ≡ v → HasAt S place (by_constant x number) → place + length (by_constant x number) ≡ end
        → Agree S n (tree.at (give (known (constant f.value) ∷ [])) (of_tree S pending env' c') (left_of line op v ∷ k)) (before (of_code S pending place regs' opened') c')

    abbrev first_code : (j : ℕ) → List Coded
    first_code j = exp_code S.code.own.constants e t j 2

    abbrev whole_code : Option ℕ → (j : ℕ) → List Coded
    whole_code o j = operation_by o op e d (first_code j) (exp_code S.code.own.constants d (t + 1) (j + made_by e) 2) t by_constant by_registers by_number

    -- beside a constant the first operand is evaluated, or stays
    beside_constant : (number own j pc opened : ℕ) (c : Captured) → constant_in S.code.own.constants op d ≡ Some number → ExpSame S pending e → 1 ≤ room_of S.code.own.constants e 2 → n ≤ S.bound
        → (at : Option ℕ) → local_of e ≡ at → HasAt S pc (unless at (first_code j) ++ by_constant (seat at t) number) → IsPlaced S e (length env) j
        → end ≡ pc + length (unless at (first_code j) ++ by_constant (seat at t) number) → end < length S.code.own.code → length env ≤ t
        → t + object_room own at (room_of S.code.own.constants e 2) ≤ S.code.own.stack → Rel S.hidden S.code.own.stack pending env c regs → GoesWithConstant
        → Agree S n (tree.at (evaluate e) (of_tree S pending env c) (right_of line op d ∷ k)) (before (of_code S pending pc regs opened) c)
    beside_constant number own j pc opened c is law some bound None at_is has ok ends inside le room rel on_constant =
        let f = constant_is S.code.own.constants op d number is in
        let literal = operand_literal op d f.value (operand_form op d f.value f.is) in
        let one = first_code j in
        let last = by_constant t number in
        let whole = length-append one last in
        law t j n pc opened env regs c (right_of line op d ∷ k) bound (has_front S pc one last has) ok (omega (arith, ends, inside, whole)) le room rel
        (λ vs env1 regs1 c1 o1 af eq given. go_left S n _ (tree.at (evaluate d) (of_tree S pending env1 c1) (left_of line op (first vs) ∷ k)) _ refl
        (literal_read d f.value literal n env1 c1 (left_of line op (first vs) ∷ k) _
        (on_constant t number (pc + length one) o1 (first vs) f env1 regs1 c1 af (omega (arith, room, some)) eq (has_back S pc one last has) (omega (arith, ends, whole)))))
    beside_constant number own j pc opened c is law some bound (Some x) at_is has ok ends inside le room rel on_constant =
        let f = constant_is S.code.own.constants op d number is in
        let literal = operand_literal op d f.value (operand_form op d f.value f.is) in
        let x_below = local_placed S e x (length env) j at_is ok in
        local_read S pending e x n env c (right_of line op d ∷ k) _ at_is
        (go_left S n _ (tree.at (evaluate d) (of_tree S pending env c) (left_of line op (nth env x) ∷ k)) _ refl
        (literal_read d f.value literal n env c (left_of line op (nth env x) ∷ k) _
        (on_constant x number pc opened (nth env x) f env regs c (after_none S.hidden S.code.own.stack pending env regs c t rel) (omega (arith, x_below, rel.fits)) (sym (rel.agree x x_below)) has (sym ends))))

    pub operation_same : (own j pc opened : ℕ) (c : Captured) → ExpSame S pending e → ExpSame S pending d → 1 ≤ room_of S.code.own.constants e 2 → 1 ≤ room_of S.code.own.constants d 2 → n ≤ S.bound
        → HasAt S pc (whole_code (constant_in S.code.own.constants op d) j) → IsPlaced S e (length env) j → IsPlaced S d (length env) (j + made_by e)
        → end ≡ pc + length (whole_code (constant_in S.code.own.constants op d) j) → end < length S.code.own.code → length env ≤ t
        → t + operation_room own (constant_in S.code.own.constants op d) op e d (room_of S.code.own.constants e 2) (room_of S.code.own.constants d 2) ≤ S.code.own.stack
        → Rel S.hidden S.code.own.stack pending env c regs → GoesWithConstant
        → GoesWithRegisters S pending (second_of op d) 128 e d (operator_stands op d) (right_of line op d) (left_of line op) by_registers by_number n t end env regs k
        → GoesWithNumber S pending (second_of op d) 128 e d (operator_stands op d) (right_of line op d) (left_of line op) by_registers by_number n t end env regs k
        → Agree S n (tree.at (evaluate e) (of_tree S pending env c) (right_of line op d ∷ k)) (before (of_code S pending pc regs opened) c)
    operation_same own j pc opened c law_e law_d some_e some_d bound has ok_e ok_d ends inside le room rel on_constant on_registers on_number =
        by (constant_in S.code.own.constants op d) refl has ends room
      where
        by : (o : Option ℕ) → constant_in S.code.own.constants op d ≡ o → HasAt S pc (whole_code o j) → end ≡ pc + length (whole_code o j)
            → t + operation_room own o op e d (room_of S.code.own.constants e 2) (room_of S.code.own.constants d 2) ≤ S.code.own.stack
            → Agree S n (tree.at (evaluate e) (of_tree S pending env c) (right_of line op d ∷ k)) (before (of_code S pending pc regs opened) c)
        by (Some number) is has ends room = beside_constant number own j pc opened c is law_e some_e bound (local_of e) refl has ok_e ends inside le room rel on_constant
        by None is has ends room =
            operands_goes S pending (second_of op d) 128 e d (operator_stands op d) (right_of line op d) (left_of line op) by_registers by_number n t end env regs k
            own j pc opened c (λ vs env' c'. refl) law_e law_d some_e some_d bound has ok_e ok_d ends inside le room rel on_registers on_number

  -- an operator of arithmetic between the value in the register x and a constant
  constant_operator_into : (op : BinOp) (g : ConstantArithmetic op) (d : Exp) (number : ℕ) (f : IsOperand S.code.own.constants op d number) (n : ℕ) (many : Bool) (line x t free pc opened : ℕ) (v : Value) (env regs : List Value) (c : Captured) (k : List Work) (s : tree.State)
      → HasAt S pc (constant_arithmetic g.opcode g.number x number t line) → pc + 2 < length S.code.own.code → t < S.code.own.stack → x < S.code.own.stack
      → Rel S.hidden S.code.own.stack pending env c regs → nth regs x ≡ v
      → step s ≡ by_integers g.event (integer_in (shape v)) (integer_in (shape (known (constant f.value)))) line v (known (constant f.value)) (of_tree S pending env c) k
      → GoesInto S pending n many t free env regs (pc + 2) k → Agree S n s (before (of_code S pending pc regs opened) c)
  constant_operator_into op g d number f n many line x t free pc opened v env regs c k s has inside room x_room rel x_is begins goes =
      let w : Value = known (constant f.value) in
      let short = f.short in
      arithmetic_into S pending g.event g.opcode MmBinK number x number g.number line t free pc opened v w (v ∷ w ∷ []) env regs c k s has inside room rel begins
      (constant_step S.code g.opcode g.event t x number f.value (of_code S pending pc regs opened) c has.0 (g.row S.code pc) (omega (arith, room, S.small)) (omega (arith, x_room, S.small)) (omega (arith, short)) (omega (arith, x_room, rel.room)) f.there
      ∙ ap (λ u. talk S.code (fast g.event t (integer_of_shape (shape u)) (integer_of_shape (shape w))) (u ∷ w ∷ []) (of_code S pending pc regs opened) c) x_is
      ∙ ap₂ (λ o q. talk S.code (fast g.event t o q) (v ∷ w ∷ []) (of_code S pending pc regs opened) c) (integer_same (shape v)) (integer_same (shape w)))
      (constant_event_step S.code x number g.number f.value g.event (of_code S pending (pc + 1) regs opened) c has.1.1.0 g.numbered g.small (omega (arith, x_room, S.small)) (omega (arith, short)) (omega (arith, x_room, rel.room)) f.there
      ∙ ap (λ u. says_so (operates (arithmetic g.event) (u ∷ w ∷ [])) S.code (of_code S pending (pc + 1) regs opened) c (λ z b d. heard for_value S.code z b d)) x_is)
      (event_rest S.code MmBinK g.opcode t x number number g.number pc has.0 has.1.1.0 (omega (arith, room, S.small)) refl) n many goes

  -- the value in the register x is compared with a constant: what is asked
  pub constant_so : (op : BinOp) (f : Comparison op) (d : Exp) (number : ℕ) (q : IsOperand S.code.own.constants op d number) (x pc opened : ℕ) (k : Bool) (v : Value) (env regs : List Value) (c : Captured)
      → at S.code pc ≡ Some (abc EqK x number 0 k) → x < S.code.own.stack → Rel S.hidden S.code.own.stack pending env c regs → nth regs x ≡ v
      → talk_step S.code (before (of_code S pending pc regs opened) c)
      ≡ says_so (operates f.operation (pick f.swapped v (known (constant q.value)) ∷ pick f.swapped (known (constant q.value)) v ∷ [])) S.code (of_code S pending pc regs opened) c (λ z b d. heard for_truth S.code z b d)
  constant_so op f d number q x pc opened k v env regs c here x_room rel x_is =
      let w : Value = known (constant q.value) in
      let short = q.short in
      let same = f.equals d q.value (operand_form op d q.value q.is) in
      equal_step S.code x number k q.value (of_code S pending pc regs opened) c here (omega (arith, x_room, S.small)) (omega (arith, short)) (omega (arith, x_room, rel.room)) q.there
      ∙ ap (λ u. says_so (operates equal (u ∷ w ∷ [])) S.code (of_code S pending pc regs opened) c (λ z b d. heard for_truth S.code z b d)) x_is
      ∙ ap₂ (λ o b. says_so (operates o (pick b v w ∷ pick b w v ∷ [])) S.code (of_code S pending pc regs opened) c (λ z b d. heard for_truth S.code z b d)) (sym same.0) (sym same.1)

  -- an operator that computes a value and takes a constant, whose result goes to any register
  pub with_constant_into : (op : BinOp) → computes op ≡ true → (d : Exp) (number : ℕ) (f : IsOperand S.code.own.constants op d number) (n : ℕ) (many : Bool) (line x t free pc opened : ℕ) (v : Value) (env regs : List Value) (c : Captured) (k : List Work)
      → HasAt S pc (constant_code op x number t line) → pc + length (constant_code op x number t line) < length S.code.own.code → t < S.code.own.stack → x < S.code.own.stack
      → Rel S.hidden S.code.own.stack pending env c regs → nth regs x ≡ v → GoesInto S pending n many t free env regs (pc + length (constant_code op x number t line)) k
      → Agree S n (tree.at (give (known (constant f.value) ∷ [])) (of_tree S pending env c) (left_of line op v ∷ k)) (before (of_code S pending pc regs opened) c)
  with_constant_into op is d number f n many line x t free pc opened v env regs c k has inside room x_room rel x_is goes = by (constant_sort op d f.value (operand_form op d f.value f.is))
    where
      by : ConstantArithmetic op ⊎ Comparison op → Agree S n (tree.at (give (known (constant f.value) ∷ [])) (of_tree S pending env c) (left_of line op v ∷ k)) (before (of_code S pending pc regs opened) c)
      by (inl g) =
          let size = ap length (g.emits x number t line) in
          constant_operator_into op g d number f n many line x t free pc opened v env regs c k _ (subst (HasAt S pc) (g.emits x number t line) has) (omega (arith, inside, size)) room x_room rel x_is
          (g.means line v (known (constant f.value)) (of_tree S pending env c) k)
          (into_at S pending n many t free (pc + 2) (pc + length (constant_code op x number t line)) env regs k (omega (arith, size)) goes)
      by (inr g) =
          let two = ap length ((arithmetic_by op is).emits 0 0 0 0) in
          let four = ap length (g.emits 0 0 0 0) in
          absurd (omega (arith, two, four))

  -- an operator between the value in the register x and a constant
  pub with_constant_goes : (op : BinOp) (d : Exp) (number : ℕ) (f : IsOperand S.code.own.constants op d number) (n : ℕ) (many : Bool) (line x t pc opened : ℕ) (v : Value) (env regs : List Value) (c : Captured) (k : List Work)
      → HasAt S pc (constant_code op x number t line) → pc + length (constant_code op x number t line) < length S.code.own.code → length env ≤ t → t < S.code.own.stack → x < S.code.own.stack
      → Rel S.hidden S.code.own.stack pending env c regs → nth regs x ≡ v → Goes S pending n many t env regs (pc + length (constant_code op x number t line)) k
      → Agree S n (tree.at (give (known (constant f.value) ∷ [])) (of_tree S pending env c) (left_of line op v ∷ k)) (before (of_code S pending pc regs opened) c)
  with_constant_goes op d number f n many line x t pc opened v env regs c k has inside le room x_room rel x_is goes = by (constant_sort op d f.value (operand_form op d f.value f.is))
    where
      w : Value
      w = known (constant f.value)

      by : ConstantArithmetic op ⊎ Comparison op → Agree S n (tree.at (give (w ∷ [])) (of_tree S pending env c) (left_of line op v ∷ k)) (before (of_code S pending pc regs opened) c)
      by (inl g) =
          let size = ap length (g.emits x number t line) in
          constant_operator_into op g d number f n many line x t t pc opened v env regs c k _ (subst (HasAt S pc) (g.emits x number t line) has) (omega (arith, inside, size)) room x_room rel x_is
          (g.means line v w (of_tree S pending env c) k)
          (into_goes S pending n many t (pc + 2) env regs k le (goes_at S pending n many t (pc + 2) (pc + length (constant_code op x number t line)) env regs k (omega (arith, size)) goes))
      by (inr g) =
          let emits = g.emits_constant d f.value (operand_form op d f.value f.is) x number t line in
          let size = ap length emits in
          let there = subst (HasAt S pc) emits has in
          truth_goes S pending g.operation g.wanted EqK x number line t pc opened (pick g.swapped v w) (pick g.swapped w v) env regs c k _ there (omega (arith, inside, size)) le room (omega (arith, x_room, S.small)) rel
          (g.means line v w (of_tree S pending env c) k) (constant_so op g d number f x pc opened g.wanted v env regs c there.0 x_room rel x_is) n many
          (goes_at S pending n many t (pc + 4) (pc + length (constant_code op x number t line)) env regs k (omega (arith, size)) goes)
