-- Values that go straight to the register of a local.
use Rattle.std.proofs.Common.{◌≡◌, ℕ, ◌+◌, ◌<◌, ◌≤◌, true, false, List, [], ◌∷◌, length, refl, subst, arith}
use Rattle.int_core.specs.Value.{Value, known, nil, boolean}
use Rattle.int_core.specs.Ask.{Captured}
use Rattle.tree_core.specs.Tree.{Exp, Nil, True, False, Int, Str, Var, Index, Unary, Binary, Paren}
use Rattle.tree_activation.specs.Work.{evaluate, give, Work, Pending, operand_of, right_of, left_of, first_only}
use Rattle.tree_activation.specs.Work as tree
use Rattle.tree_activation.specs.Asking.{first}
use Rattle.code_core.specs.declared.opcode.Opcode.TheVariants.{LoadNil, LoadTrue, LoadFalse}
use Rattle.code_core.specs.declared.proto.Const.TheVariants.{Str as StrConst}
use Rattle.machine_core.specs.Talk.{before}
use Rattle.code_of.specs.Coded.{with_abc}
use Rattle.code_of.specs.Constants.{is_small}
use Rattle.code_of.specs.Operands.{computes, second_of, is_direct}
use Rattle.code_of.proofs.Operands.{second_number, operator_stands}
use Rattle.code_of.specs.Operators.{prefix_code, operator_code, number_code}
use Rattle.code_of.specs.FieldReads.{object_room}
use Rattle.code_of.specs.Operations.{constant_code}
use Rattle.code_of.specs.Parts.{direct_code}
use Rattle.code_of.specs.Rooms.{room_of, room_of_direct}
use Rattle.exp_laws.specs.Setting.{Setting}
use Rattle.exp_laws.specs.Placed.{IsPlaced}
use Rattle.exp_laws.proofs.Registers.{Rel}
use Rattle.exp_laws.proofs.Talking.{Agree, go_left, of_tree, of_code}
use Rattle.exp_laws.proofs.Placing.{HasAt}
use Rattle.exp_laws.proofs.Going.{GoesInto, into_at, into_after, one_into}
use Rattle.exp_laws.proofs.Loads.{nil_step}
use Rattle.exp_laws.proofs.Steps.{true_step, false_step}
use Rattle.exp_laws.proofs.NameForms.{constant_into, integer_into, named_into}
use Rattle.exp_laws.proofs.OperatorForms.{unary_into, binary_into, number_into}
use Rattle.exp_laws.proofs.Sums.{number_form}
use Rattle.exp_laws.proofs.Operands.{operands_goes}
use Rattle.exp_laws.proofs.Standing.{operand_goes}
use Rattle.exp_laws.proofs.ConstantForms.{operation_same, with_constant_into}
use Rattle.exp_laws.proofs.FieldForms.{field_into}
use Rattle.exp_laws.proofs.Rooms.{room_some}
use Rattle.exp_laws.proofs.Exps.{exp_same}

module _ (S : Setting) (pending : List Pending) where
  -- Register r is written last: until then the registers are like the locals, of which it may be one
  pub direct_same : (e : Exp) → is_direct e ≡ true → (r t j n pc opened : ℕ) (env regs : List Value) (c : Captured) (k : List Work)
      → n ≤ S.bound → HasAt S pc (direct_code S.code.own.constants e r t j) → IsPlaced S e (length env) j → pc + length (direct_code S.code.own.constants e r t j) < length S.code.own.code
      → length env ≤ t → r < S.code.own.stack → t + room_of_direct S.code.own.constants e ≤ S.code.own.stack → Rel S.hidden S.code.own.stack pending env c regs
      → GoesInto S pending n false r t env regs (pc + length (direct_code S.code.own.constants e r t j)) k
      → Agree S n (tree.at (evaluate e) (of_tree S pending env c) k) (before (of_code S pending pc regs opened) c)
  direct_same (Nil line) is r t j n pc opened env regs c k bound has ok inside le below room rel goes =
      one_into S pending (with_abc LoadNil r 0 0 line) (with_abc LoadNil r 0 0 line ∷ []) (known nil) n false r t pc opened _ env regs c k refl refl has inside rel
      (λ here w there. nil_step S.code (of_code S pending pc regs opened) c w there r here (omega (arith, below, S.small)) (omega (arith, below, rel.room))) goes
  direct_same (True line) is r t j n pc opened env regs c k bound has ok inside le below room rel goes =
      one_into S pending (with_abc LoadTrue r 0 0 line) (with_abc LoadTrue r 0 0 line ∷ []) (known (boolean true)) n false r t pc opened _ env regs c k refl refl has inside rel
      (λ here w there. true_step S.code (of_code S pending pc regs opened) c w there r here (omega (arith, below, S.small)) (omega (arith, below, rel.room))) goes
  direct_same (False line) is r t j n pc opened env regs c k bound has ok inside le below room rel goes =
      one_into S pending (with_abc LoadFalse r 0 0 line) (with_abc LoadFalse r 0 0 line ∷ []) (known (boolean false)) n false r t pc opened _ env regs c k refl refl has inside rel
      (λ here w there. false_step S.code (of_code S pending pc regs opened) c w there r here (omega (arith, below, S.small)) (omega (arith, below, rel.room))) goes
  direct_same (Int line z) is r t j n pc opened env regs c k bound has ok inside le below room rel goes =
      integer_into S pending z (is_small z) n false line r t pc opened _ env regs c k refl refl ok _ refl has inside below rel goes
  direct_same (Str line bytes) is r t j n pc opened env regs c k bound has ok inside le below room rel goes =
      constant_into S pending (StrConst bytes) n false r t line pc opened _ env regs c k ok refl has inside below rel goes
  direct_same (Var line name) is r t j n pc opened env regs c k bound has ok inside le below room rel goes =
      named_into S pending name.place name.text n false line r t pc opened _ env regs c k refl has ok inside le below room rel goes
  direct_same (Paren line e) is r t j n pc opened env regs c k bound has ok inside le below room rel goes =
      go_left S n _ (tree.at (evaluate e) (of_tree S pending env c) (first_only ∷ k)) _ refl
      (direct_same e is r t j n pc opened env regs c (first_only ∷ k) bound has ok inside le below room rel
      (λ vs env1 regs1 c1 o1 af one. go_left S n _ (tree.at (give (first vs ∷ [])) (of_tree S pending env1 c1) k) _ refl (goes (first vs ∷ []) env1 regs1 c1 o1 af refl)))
  direct_same (Unary line op e) is r t j n pc opened env regs c k bound has ok inside le below room rel goes =
      let cs = S.code.own.constants in
      let end = pc + length (direct_code cs (Unary line op e) r t j) in
      go_left S n _ (tree.at (evaluate e) (of_tree S pending env c) (operand_of line op ∷ k)) _ refl
      (operand_goes S pending e (λ x. prefix_code op x r line) n t end env regs (operand_of line op ∷ k) j pc opened c (exp_same S pending e) (room_some cs e) bound has ok refl inside le
      (λ none. subst (λ o. t + object_room 0 o (room_of cs e 2) ≤ S.code.own.stack) none room) rel
      (λ x place o1 vs env1 regs1 c1 af low x_room x_is here ends. unary_into S pending op n false line x r t place o1 vs env1 regs1 c1 k here (omega (arith, inside, ends)) below x_room af.rel x_is
      (into_at S pending n false r t (place + 1) end env1 regs1 k ends (into_after S pending n false r t end env regs env1 regs1 c1 k af goes))))
  direct_same (Binary line op e d) is r t j n pc opened env regs c k bound has ok inside le below room rel goes =
      let constants = S.code.own.constants in
      let arithmetic : computes op ≡ true = is in
      let end = pc + length (direct_code constants (Binary line op e d) r t j) in
      go_left S n _ (tree.at (evaluate e) (of_tree S pending env c) (right_of line op d ∷ k)) _ refl
      (operation_same S pending line op e d (λ x m. constant_code op x m r line) (λ x y. operator_code op x y r line) (λ x m. number_code op x m r line) n t end env regs k
      0 j pc opened c (exp_same S pending e) (exp_same S pending d) (room_some constants e) (room_some constants d) bound has ok.0 ok.1 refl inside le room rel
      (λ x m place o1 v f env1 regs1 c1 af x_room x_is here ends. with_constant_into S pending op is d m f n false line x r t place o1 v env1 regs1 c1 k here (omega (arith, inside, ends)) below x_room af.rel x_is
      (into_at S pending n false r t _ end env1 regs1 k ends (into_after S pending n false r t _ env regs env1 regs1 c1 k af goes)))
      (λ x y place o1 v ws env1 regs1 c1 af x_room y_room x_is y_is seats here ends. binary_into S pending op arithmetic n false line x y r t place o1 v ws env1 regs1 c1 k here (omega (arith, inside, ends)) below x_room y_room af.rel x_is y_is
      (into_at S pending n false r t _ end env1 regs1 k ends (into_after S pending n false r t _ env regs env1 regs1 c1 k af goes)))
      (λ x m place o1 v env1 regs1 c1 af x_room x_is is here ends. number_into S pending op arithmetic d m (number_form op d m (second_number op d m is)) n false line x r t place o1 v env1 regs1 c1 k here (omega (arith, inside, ends)) below x_room af.rel x_is
      (into_at S pending n false r t _ end env1 regs1 k ends (into_after S pending n false r t _ env regs env1 regs1 c1 k af goes))))
  direct_same (Index line object key) is r t j n pc opened env regs c k bound has ok inside le below room rel goes =
      let cs = S.code.own.constants in
      field_into S pending line object key 0 r t j n pc opened env regs c k (exp_same S pending object) (exp_same S pending key) (room_some cs object) (room_some cs key) bound has ok.0 ok.1 inside le below room rel goes
  direct_same _ is r t j n pc opened env regs c k bound has ok inside le below room rel goes = absurd (cc)
