-- The code of a condition is short, and takes the registers that are counted for it.
use Rattle.std.proofs.Common.{◌≡◌, ℕ, ◌+◌, ◌≤◌, max, Bool, true, false, cond, not, List, [], ◌∷◌, ◌++◌, length, Option, Some, None, refl, lit≤, arith}
use Rattle.tree_core.specs.declared.operator.UnOp.{UnOp}
use Rattle.tree_core.specs.declared.operator.UnOp.TheVariants.{Not as Negation}
use Rattle.tree_core.specs.declared.operator.BinOp.{BinOp}
use Rattle.tree_core.specs.declared.operator.BinOp.TheVariants.{Eq as Equal, Ne, Lt as Less, Le as AtMost, Gt, Ge}
use Rattle.tree_core.specs.Tree.{Exp, True, Unary, Binary, And, Or, Paren}
use Rattle.code_core.specs.declared.opcode.Opcode.{Opcode}
use Rattle.code_core.specs.declared.opcode.Opcode.TheVariants.{Jmp, Test, Eq, Lt, Le, EqK, EqI, LtI, LeI, GtI, GeI}
use Rattle.code_core.specs.declared.proto.Const.{Const}
use Rattle.code_core.specs.Instruction.{abc}
use Rattle.code_of.specs.Coded.{Coded, jump_over}
use Rattle.code_of.specs.Expressions.{made_by, exp_code}
use Rattle.code_of.specs.Truths.{jump_if, line_of}
use Rattle.code_of.specs.Conditions.{value_test, test_code}
use Rattle.code_of.specs.Operands.{local_of, operand_code, Second, a_number, a_local, made, second_of, first_of, operands_code, operands_room, seat, unless}
use Rattle.code_of.specs.FieldReads.{object_room}
use Rattle.code_of.proofs.Operands.{second_local, first_local}
use Rattle.code_of.specs.Operations.{constant_in, operation_by, operation_room}
use Rattle.code_bounds.proofs.Expressions.{local_found}
use Rattle.code_of.specs.Rooms.{room_of, room_of_test}
use Rattle.scope_core.specs.Held.{held}
use Rattle.scope_laws.specs.Finding.{ExpFinds}
use Rattle.code_bounds.proofs.Tops.{one, ax_is, one_a, one_ab}
use Rattle.code_bounds.proofs.Holding.{some_held}
use Rattle.code_bounds.proofs.Room.{HasRoom, room_end, room_as, room_append, room_more}
use Rattle.code_bounds.proofs.ShortTests.{Short}
use Rattle.code_bounds.proofs.ShortExpressions.{exp_short, tested_short}
use Rattle.code_bounds.proofs.Simple.{exp_room}

-- a condition is short

pub test_short : (cs : List Const) (e : Exp) → Short cs e
test_short cs e = tested_short cs e (λ t j. exp_short cs e t j 2)

-- registers

module _ {stack : ℕ} where
  leap_room : {Q : Type 0} (places line : ℕ) (rest : List Coded) → HasRoom stack rest Q → HasRoom stack (jump_over places line ∷ rest) ((0 ≤ stack) × Q)
  leap_room places line rest h = room_more (jump_over places line) 0 rest (ax_is Jmp (16777215 + places) refl) (lit≤ tt) h

module _ (cs : List Const) (hidden : List ℕ) (ups stack : ℕ) where
  abbrev pub Room : Exp → Type 0
  Room e = (k : Bool) (ahead size t j : ℕ) → ExpFinds e hidden size ups → size ≤ t → t + held e ≤ 250 → HasRoom stack (test_code cs e k ahead t j) (t + room_of_test cs e ≤ max t stack)

  value_room : (e : Exp) (k : Bool) (ahead size t j : ℕ) → ExpFinds e hidden size ups → size ≤ t → t + held e ≤ 250 → HasRoom stack (value_test cs e k ahead t j) (t + object_room 0 (local_of e) (room_of cs e 2) ≤ max t stack)
  value_room e k ahead size t j known above few =
      by (local_of e) refl
    where
      some : 1 ≤ held e
      some = some_held e

      tested : (x : ℕ) → x ≤ 249 → HasRoom stack (jump_if Test x 0 (not k) ahead (line_of e)) ((x + 1 ≤ stack) × ((0 ≤ stack) × Unit {0}))
      tested x below = room_more (abc Test x 0 0 (not k), line_of e) (x + 1) _ (one_a Test x 0 0 (not k) refl (omega (arith, below))) (omega (arith, below)) (leap_room ahead (line_of e) [] room_end)

      by : (at : Option ℕ) → local_of e ≡ at → HasRoom stack (operand_code at (exp_code cs e t j 2) t (λ x. jump_if Test x 0 (not k) ahead (line_of e))) (t + object_room 0 at (room_of cs e 2) ≤ max t stack)
      by None is =
          room_as
          (room_append (exp_code cs e t j 2) (jump_if Test t 0 (not k) ahead (line_of e)) (exp_room cs hidden ups stack e size t j 2 known above few (omega (arith, few, some)) (lit≤ tt)) (tested t (omega (arith, few, some))))
          (λ all. all.0)
      by (Some x) is = let below = local_found hidden ups e x size is known in room_as (tested x (omega (arith, below, above, few, some))) (λ all. omega arith)

  not_room : (line : ℕ) (op : UnOp) (e : Exp) → Room e → Room (Unary line op e)
  not_room line Negation e h k ahead size t j known above few = h (not k) ahead size t j known above few
  not_room line op e h k ahead size t j known above few = value_room (Unary line op e) k ahead size t j known above few

  -- a comparison, whose two ways to be written name no register but those of its operands
  module _ (line : ℕ) (op : BinOp) (e d : Exp) (by_constant by_registers by_number : (x y : ℕ) → List Coded) (size t j : ℕ) (known_e : ExpFinds e hidden size ups) (known_d : ExpFinds d hidden size ups) (above : size ≤ t)
      (few_e : t + held e ≤ 250) (few_d : t + (1 + held d) ≤ 250) (constants_room : (x n : ℕ) → x ≤ 249 → HasRoom stack (by_constant x n) (x + 1 ≤ stack)) (registers_room : (x y : ℕ) → x ≤ 249 → y ≤ 249 → HasRoom stack (by_registers x y) (max (x + 1) (y + 1) ≤ stack))
      (number_room : (x n : ℕ) → x ≤ 249 → HasRoom stack (by_number x n) (x + 1 ≤ stack)) where
    some_d : 1 ≤ held d
    some_d = some_held d

    first_room : HasRoom stack (exp_code cs e t j 2) (t + room_of cs e 2 ≤ max t stack)
    first_room = exp_room cs hidden ups stack e size t j 2 known_e above few_e (omega (arith, few_d, some_d)) (lit≤ tt)

    compare_by : (s : Second) (at : Option ℕ) → second_of op d ≡ s → first_of s e ≡ at
        → HasRoom stack (operands_code s at (exp_code cs e t j 2) (exp_code cs d (t + 1) (j + made_by e) 2) t by_registers by_number) (t + operands_room 0 s at (room_of cs e 2) (room_of cs d 2) ≤ max t stack)
    compare_by made (Some x) is at_is = absurd (cc)
    compare_by made None is at_is =
        room_as
        (room_append (exp_code cs e t j 2) _ first_room
        (room_append (exp_code cs d (t + 1) (j + made_by e) 2) _ (exp_room cs hidden ups stack d size (t + 1) (j + made_by e) 2 known_d (omega (arith, above)) (omega (arith, few_d)) (omega (arith, few_d, some_d)) (lit≤ tt))
        (registers_room t (t + 1) (omega (arith, few_d, some_d)) (omega (arith, few_d, some_d)))))
        (λ all. let first = all.0 in let second = all.1.0 in let both = all.1.1 in omega (arith, first, second, both))
    compare_by (a_local r) None is at_is =
        let below = local_found hidden ups d r size (second_local op d r is) known_d in
        room_as (room_append (exp_code cs e t j 2) _ first_room (registers_room t r (omega (arith, few_d, some_d)) (omega (arith, below, above, few_d, some_d)))) (λ all. all.0)
    compare_by (a_local r) (Some x) is at_is =
        let below = local_found hidden ups d r size (second_local op d r is) known_d in
        let x_below = local_found hidden ups e x size (first_local (a_local r) e x at_is) known_e in
        room_as (registers_room x r (omega (arith, x_below, above, few_d, some_d)) (omega (arith, below, above, few_d, some_d))) (λ all. omega arith)
    compare_by (a_number n) None is at_is =
        room_as (room_append (exp_code cs e t j 2) _ first_room (number_room t n (omega (arith, few_d, some_d)))) (λ all. all.0)
    compare_by (a_number n) (Some x) is at_is =
        let x_below = local_found hidden ups e x size (first_local (a_number n) e x at_is) known_e in
        room_as (number_room x n (omega (arith, x_below, above, few_d, some_d))) (λ all. omega arith)

    compare_constant : (n : ℕ) (at : Option ℕ) → local_of e ≡ at
        → HasRoom stack (unless at (exp_code cs e t j 2) ++ by_constant (seat at t) n) (t + object_room 0 at (room_of cs e 2) ≤ max t stack)
    compare_constant n None at_is = room_as (room_append (exp_code cs e t j 2) _ first_room (constants_room t n (omega (arith, few_d, some_d)))) (λ all. all.0)
    compare_constant n (Some x) at_is =
        let x_below = local_found hidden ups e x size at_is known_e in
        room_as (constants_room x n (omega (arith, x_below, above, few_d, some_d))) (λ all. omega arith)

    compare_operation : (o : Option ℕ) → HasRoom stack (operation_by o op e d (exp_code cs e t j 2) (exp_code cs d (t + 1) (j + made_by e) 2) t by_constant by_registers by_number)
        (t + operation_room 0 o op e d (room_of cs e 2) (room_of cs d 2) ≤ max t stack)
    compare_operation (Some n) = compare_constant n (local_of e) refl
    compare_operation None = compare_by (second_of op d) (first_of (second_of op d) e) refl refl

  pair_room : (opcode : Opcode) (x y : ℕ) (field : Bool) (ahead line : ℕ) → one (abc opcode x y 0 field) ≡ max (x + 1) (y + 1) → x ≤ 249 → y ≤ 249 → HasRoom stack (jump_if opcode x y field ahead line) (max (x + 1) (y + 1) ≤ stack)
  pair_room opcode x y field ahead line names x_few y_few =
      room_as (room_more (abc opcode x y 0 field, line) (max (x + 1) (y + 1)) _ names (omega (arith, x_few, y_few)) (leap_room ahead line [] room_end)) (λ all. all.0)

  turned_room : (opcode : Opcode) (x y : ℕ) (field : Bool) (ahead line : ℕ) → one (abc opcode y x 0 field) ≡ max (y + 1) (x + 1) → x ≤ 249 → y ≤ 249 → HasRoom stack (jump_if opcode y x field ahead line) (max (x + 1) (y + 1) ≤ stack)
  turned_room opcode x y field ahead line names x_few y_few = room_as (pair_room opcode y x field ahead line names y_few x_few) (λ h. omega (arith, h))

  single_room : (opcode : Opcode) (x n : ℕ) (field : Bool) (ahead line : ℕ) → one (abc opcode x (n + 127) 0 field) ≡ x + 1 → x ≤ 249 → HasRoom stack (jump_if opcode x (n + 127) field ahead line) (x + 1 ≤ stack)
  single_room opcode x n field ahead line names x_few =
      room_as (room_more (abc opcode x (n + 127) 0 field, line) (x + 1) _ names (omega (arith, x_few)) (leap_room ahead line [] room_end)) (λ all. all.0)

  constant_room : (x n : ℕ) (field : Bool) (ahead line : ℕ) → x ≤ 249 → HasRoom stack (jump_if EqK x n field ahead line) (x + 1 ≤ stack)
  constant_room x n field ahead line x_few =
      room_as (room_more (abc EqK x n 0 field, line) (x + 1) _ (one_a EqK x n 0 field refl (omega (arith, x_few))) (omega (arith, x_few)) (leap_room ahead line [] room_end)) (λ all. all.0)

  compare_room : (line : ℕ) (op : BinOp) (e d : Exp) (by_constant by_registers by_number : (x y : ℕ) → List Coded) (size t j : ℕ) → ExpFinds (Binary line op e d) hidden size ups → size ≤ t → t + held (Binary line op e d) ≤ 250
      → ((x n : ℕ) → x ≤ 249 → HasRoom stack (by_constant x n) (x + 1 ≤ stack)) → ((x y : ℕ) → x ≤ 249 → y ≤ 249 → HasRoom stack (by_registers x y) (max (x + 1) (y + 1) ≤ stack)) → ((x n : ℕ) → x ≤ 249 → HasRoom stack (by_number x n) (x + 1 ≤ stack))
      → HasRoom stack (operation_by (constant_in cs op d) op e d (exp_code cs e t j 2) (exp_code cs d (t + 1) (j + made_by e) 2) t by_constant by_registers by_number)
      (t + operation_room 0 (constant_in cs op d) op e d (room_of cs e 2) (room_of cs d 2) ≤ max t stack)
  compare_room line op e d by_constant by_registers by_number size t j known above few constants_room registers_room number_room =
      compare_operation line op e d by_constant by_registers by_number size t j known.0 known.1 above (omega (arith, few)) (omega (arith, few)) constants_room registers_room number_room (constant_in cs op d)

  binary_room : (line : ℕ) (op : BinOp) (e d : Exp) → Room (Binary line op e d)
  binary_room line Equal e d k ahead size t j known above few = compare_room line Equal e d _ _ _ size t j known above few (λ x n xf. constant_room x n (not k) ahead line xf)
      (λ x y xf yf. pair_room Eq x y (not k) ahead line (one_ab Eq x y 0 (not k) refl (omega (arith, xf)) (omega (arith, yf))) xf yf) (λ x n xf. single_room EqI x n (not k) ahead line (one_a EqI x (n + 127) 0 (not k) refl (omega (arith, xf))) xf)
  binary_room line Ne e d k ahead size t j known above few = compare_room line Ne e d _ _ _ size t j known above few (λ x n xf. constant_room x n k ahead line xf)
      (λ x y xf yf. pair_room Eq x y k ahead line (one_ab Eq x y 0 k refl (omega (arith, xf)) (omega (arith, yf))) xf yf) (λ x n xf. single_room EqI x n k ahead line (one_a EqI x (n + 127) 0 k refl (omega (arith, xf))) xf)
  binary_room line Less e d k ahead size t j known above few = compare_room line Less e d _ _ _ size t j known above few (λ x n xf. constant_room x n (not k) ahead line xf)
      (λ x y xf yf. pair_room Lt x y (not k) ahead line (one_ab Lt x y 0 (not k) refl (omega (arith, xf)) (omega (arith, yf))) xf yf) (λ x n xf. single_room LtI x n (not k) ahead line (one_a LtI x (n + 127) 0 (not k) refl (omega (arith, xf))) xf)
  binary_room line AtMost e d k ahead size t j known above few = compare_room line AtMost e d _ _ _ size t j known above few (λ x n xf. constant_room x n (not k) ahead line xf)
      (λ x y xf yf. pair_room Le x y (not k) ahead line (one_ab Le x y 0 (not k) refl (omega (arith, xf)) (omega (arith, yf))) xf yf) (λ x n xf. single_room LeI x n (not k) ahead line (one_a LeI x (n + 127) 0 (not k) refl (omega (arith, xf))) xf)
  binary_room line Gt e d k ahead size t j known above few = compare_room line Gt e d _ _ _ size t j known above few (λ x n xf. constant_room x n (not k) ahead line xf)
      (λ x y xf yf. turned_room Lt x y (not k) ahead line (one_ab Lt y x 0 (not k) refl (omega (arith, yf)) (omega (arith, xf))) xf yf) (λ x n xf. single_room GtI x n (not k) ahead line (one_a GtI x (n + 127) 0 (not k) refl (omega (arith, xf))) xf)
  binary_room line Ge e d k ahead size t j known above few = compare_room line Ge e d _ _ _ size t j known above few (λ x n xf. constant_room x n (not k) ahead line xf)
      (λ x y xf yf. turned_room Le x y (not k) ahead line (one_ab Le y x 0 (not k) refl (omega (arith, yf)) (omega (arith, xf))) xf yf) (λ x n xf. single_room GeI x n (not k) ahead line (one_a GeI x (n + 127) 0 (not k) refl (omega (arith, xf))) xf)
  binary_room line op e d k ahead size t j known above few = value_room (Binary line op e d) k ahead size t j known above few

  true_room : (line : ℕ) → Room (True line)
  true_room line true ahead size t j known above few = room_as room_end (λ h. omega arith)
  true_room line false ahead size t j known above few = room_as (leap_room ahead line [] room_end) (λ h. omega arith)

  both_room : (e d : Exp) → Room e → Room d → (first_wants k : Bool) (far ahead size t j : ℕ) → ExpFinds e hidden size ups → ExpFinds d hidden size ups → size ≤ t → t + held e ≤ 250 → t + held d ≤ 250
      → HasRoom stack (test_code cs e first_wants far t j ++ test_code cs d k ahead t (j + made_by e)) (t + max (room_of_test cs e) (room_of_test cs d) ≤ max t stack)
  both_room e d law_e law_d first_wants k far ahead size t j known_e known_d above few_e few_d =
      room_as (room_append (test_code cs e first_wants far t j) (test_code cs d k ahead t (j + made_by e)) (law_e first_wants far size t j known_e above few_e) (law_d k ahead size t (j + made_by e) known_d above few_d))
      (λ all. let a = all.0 in let b = all.1 in omega (arith, a, b))

  pub test_room : (e : Exp) → Room e
  test_room (Paren line e) k ahead size t j known above few = test_room e k ahead size t j known above few
  test_room (Unary line op e) k ahead size t j known above few = not_room line op e (test_room e) k ahead size t j known above few
  test_room (And line e d) k ahead size t j known above few =
      both_room e d (test_room e) (test_room d) true k (length (test_code cs d k ahead t (j + made_by e)) + cond k ahead 0) ahead size t j known.0 known.1 above (omega (arith, few)) (omega (arith, few))
  test_room (Or line e d) k ahead size t j known above few =
      both_room e d (test_room e) (test_room d) false k (length (test_code cs d k ahead t (j + made_by e)) + cond k 0 ahead) ahead size t j known.0 known.1 above (omega (arith, few)) (omega (arith, few))
  test_room (Binary line op e d) k ahead size t j known above few = binary_room line op e d k ahead size t j known above few
  test_room (True line) k ahead size t j known above few = true_room line k ahead size t j known above few
  test_room e k ahead size t j known above few = value_room e k ahead size t j known above few
