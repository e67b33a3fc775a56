-- Expressions that are constants or names.
use Rattle.std.proofs.Common.{◌≡◌, ℕ, ◌+◌, ◌<◌, ◌≤◌, ◌^◌, Bool, true, false, cond, ℤ, pos, List, [], ◌∷◌, ◌++◌, length, refl, sym, ap, ap₂, subst, ◌∙◌, arith, length-append}
use Rattle.std.specs.Prelude.{nat_lt, Some, slice_get}
use borrow.Author.Tests.{ltb-true}
use Rattle.int_core.specs.Value.{Value, known, integer, string, nth, write}
use Rattle.int_core.specs.Operations.{index}
use Rattle.int_core.specs.Ask.{reads_upvalue, operates, Captured, goes_on}
use Rattle.tree_core.specs.declared.name.Place.{Place}
use Rattle.tree_core.specs.declared.name.Place.TheVariants.{Unset, Upvalue, GlobalIn, GlobalOf, Local as LocalPlace}
use Rattle.tree_activation.specs.Work.{give, field_of, Work, Pending}
use Rattle.tree_activation.specs.Work as tree
use Rattle.tree_activation.specs.Activation.{step}
use Rattle.tree_activation.specs.Expressions.{gives, give_first, reads_variable}
use Rattle.tree_activation.specs.Asking.{first, asks, asks_quickly}
use Rattle.code_core.specs.declared.opcode.Opcode.TheVariants.{Move, GetUpval, GetTabUp, GetTable, GetI, GetField, LoadI, LoadK, LoadKx, ExtraArg}
use Rattle.code_core.specs.declared.proto.Const.{Const}
use Rattle.code_core.specs.declared.proto.Const.TheVariants.{Int as IntConst, Str as StrConst}
use Rattle.code_core.specs.Instruction.{op_ax}
use Rattle.machine_core.specs.World.{for_value}
use Rattle.machine_core.specs.Text.{read, constant}
use Rattle.machine_core.specs.InstructionRows.{to_register}
use Rattle.machine_core.specs.Talk.{before, says_so, heard}
use Rattle.code_of.specs.Coded.{Coded, with_abc, with_abx}
use Rattle.code_of.specs.Operators.{name_into, name_code}
use Rattle.code_of.specs.Constants.{is_small, small_field, number_in, loads, Found, IsLoaded}
use Rattle.exp_laws.proofs.Registers.{Rel, after_then, after_put}
use Rattle.list_laws.proofs.Values.{nth_write_same, nth_write_other}
use Rattle.exp_laws.specs.Setting.{Setting}
use Rattle.exp_laws.proofs.Talking.{Agree, go_left, go_right, of_tree, of_code}
use Rattle.exp_laws.proofs.Placing.{HasAt, has_front, has_back, here_abc}
use Rattle.exp_laws.proofs.Asking.{one_alike}
use Rattle.exp_laws.proofs.Steps.{move_step, get_step, get_number_step, get_name_step, upvalue_step, value_rest, key_text, table_step, key_step}
use Rattle.exp_laws.proofs.Loads.{integer_step, constant_step, far_step}
use Rattle.exp_laws.specs.Placed.{NameIsPlaced}
use Rattle.code_of.specs.Rooms.{room_of_name_by, room_of_name}
use Rattle.code_of.proofs.Rooms.{name_room, name_less}
use Rattle.exp_laws.proofs.Going.{next_there, Goes, GoesInto, put_into, into_goes, into_at, into_after, one_into, answer_into, operation_into}

module _ (S : Setting) (pending : List Pending) where
  -- a constant goes to register t, and the tree has no step
  pub load_right : (x : Const) (t line n pc opened : ℕ) (s : tree.State) (regs : List Value) (c : Captured)
      → Found S.code.own.constants x → HasAt S pc (loads S.code.own.constants x t line) → pc + length (loads S.code.own.constants x t line) < length S.code.own.code → t < 2 ^ 8 → t < length regs
      → Agree S n s (before (of_code S pending (pc + length (loads S.code.own.constants x t line)) (write t (known (constant x)) regs) opened) c)
      → Agree S n s (before (of_code S pending pc regs opened) c)
  load_right x t line n pc opened s regs c found has inside fits room next = by (nat_lt (number_in S.code.own.constants x) 131072) refl has inside next
    where
      number : ℕ
      number = number_in S.code.own.constants x

      code_by : Bool → List Coded
      code_by b = cond b (with_abx LoadK t number line ∷ []) (with_abx LoadKx t 0 line ∷ (op_ax ExtraArg number, line) ∷ [])

      by : (b : Bool) → nat_lt number 131072 ≡ b → HasAt S pc (code_by b) → pc + length (code_by b) < length S.code.own.code
          → Agree S n s (before (of_code S pending (pc + length (code_by b)) (write t (known (constant x)) regs) opened) c) → Agree S n s (before (of_code S pending pc regs opened) c)
      by true near has inside next =
          let there = next_there S (pc + 1) inside in
          go_right S n s _ _ (constant_step S.code (of_code S pending pc regs opened) c there.0 there.1 t x has.0 (ltb-true number 131072 near) found fits room) next
      by false near has inside next =
          let there = next_there S (pc + 2) inside in
          go_right S n s _ _ (far_step S.code t x (of_code S pending pc regs opened) c there.0 has.0 has.1.1.0 there.1 found fits room) next

  -- a constant is an expression, whose value goes to register t
  pub constant_into : (x : Const) (n : ℕ) (many : Bool) (t f line pc opened : ℕ) (s : tree.State) (env regs : List Value) (c : Captured) (k : List Work)
      → Found S.code.own.constants x → step s ≡ gives (known (constant x)) (of_tree S pending env c) k → HasAt S pc (loads S.code.own.constants x t line) → pc + length (loads S.code.own.constants x t line) < length S.code.own.code
      → t < S.code.own.stack → Rel S.hidden S.code.own.stack pending env c regs → GoesInto S pending n many t f env regs (pc + length (loads S.code.own.constants x t line)) k
      → Agree S n s (before (of_code S pending pc regs opened) c)
  constant_into x n many t f line pc opened s env regs c k found e has inside room rel goes =
      go_left S n s (tree.at (give (known (constant x) ∷ [])) (of_tree S pending env c) k) _ e
      (load_right x t line n pc opened _ regs c found has inside (omega (arith, room, S.small)) (omega (arith, room, rel.room))
      (put_into S pending n many t f (pc + length (loads S.code.own.constants x t line)) opened (known (constant x)) env regs c k rel goes))

  pub constant_goes : (x : Const) (n : ℕ) (many : Bool) (t line pc opened : ℕ) (s : tree.State) (env regs : List Value) (c : Captured) (k : List Work)
      → Found S.code.own.constants x → step s ≡ gives (known (constant x)) (of_tree S pending env c) k → HasAt S pc (loads S.code.own.constants x t line) → pc + length (loads S.code.own.constants x t line) < length S.code.own.code
      → length env ≤ t → t < S.code.own.stack → Rel S.hidden S.code.own.stack pending env c regs → Goes S pending n many t env regs (pc + length (loads S.code.own.constants x t line)) k
      → Agree S n s (before (of_code S pending pc regs opened) c)
  constant_goes x n many t line pc opened s env regs c k found e has inside le room rel goes =
      constant_into x n many t t line pc opened s env regs c k found e has inside room rel (into_goes S pending n many t (pc + length (loads S.code.own.constants x t line)) env regs k le goes)

  pub integer_into : (z : ℤ) (b : Bool) (n : ℕ) (many : Bool) (line t f pc opened : ℕ) (s : tree.State) (env regs : List Value) (c : Captured) (k : List Work)
      → is_small z ≡ b → step s ≡ gives (known (integer z)) (of_tree S pending env c) k → IsLoaded S.code.own.constants z → (code : List Coded) → code ≡ cond b (with_abx LoadI t (small_field z) line ∷ []) (loads S.code.own.constants (IntConst z) t line)
      → HasAt S pc code → pc + length code < length S.code.own.code → t < S.code.own.stack → Rel S.hidden S.code.own.stack pending env c regs
      → GoesInto S pending n many t f env regs (pc + length code) k → Agree S n s (before (of_code S pending pc regs opened) c)
  integer_into z true n many line t f pc opened s env regs c k small_is e ok code is has inside room rel goes =
      one_into S pending (with_abx LoadI t (small_field z) line) code (known (integer z)) n many t f pc opened s env regs c k is e has inside rel
      (λ here w there. integer_step S.code (of_code S pending pc regs opened) c w there t z here small_is (omega (arith, room, S.small)) (omega (arith, room, rel.room))) goes
  integer_into z false n many line t f pc opened s env regs c k small_is e ok code is has inside room rel goes =
      let size = ap length is in
      constant_into (IntConst z) n many t f line pc opened s env regs c k (ok small_is) e (subst (HasAt S pc) is has) (omega (arith, inside, size)) room rel
      (into_at S pending n many t f _ (pc + length code) env regs k (omega (arith, size)) goes)

  pub integer_goes : (z : ℤ) (b : Bool) (n : ℕ) (many : Bool) (line t pc opened : ℕ) (s : tree.State) (env regs : List Value) (c : Captured) (k : List Work)
      → is_small z ≡ b → step s ≡ gives (known (integer z)) (of_tree S pending env c) k → IsLoaded S.code.own.constants z → (code : List Coded) → code ≡ cond b (with_abx LoadI t (small_field z) line ∷ []) (loads S.code.own.constants (IntConst z) t line)
      → HasAt S pc code → pc + length code < length S.code.own.code → length env ≤ t → t < S.code.own.stack → Rel S.hidden S.code.own.stack pending env c regs
      → Goes S pending n many t env regs (pc + length code) k → Agree S n s (before (of_code S pending pc regs opened) c)
  integer_goes z b n many line t pc opened s env regs c k small_is e ok code is has inside le room rel goes =
      integer_into z b n many line t t pc opened s env regs c k small_is e ok code is has inside room rel (into_goes S pending n many t (pc + length code) env regs k le goes)

  -- a field of the value v by the key w: the two stand in registers
  pub index_into : (x y : ℕ) (v w : Value) (n : ℕ) (many : Bool) (t f line pc opened : ℕ) (s : tree.State) (env regs : List Value) (c : Captured) (k : List Work)
      → step s ≡ asks (operates index (v ∷ w ∷ [])) line (of_tree S pending env c) k give_first → HasAt S pc (with_abc GetTable t x y line ∷ []) → pc + 1 < length S.code.own.code
      → t < S.code.own.stack → x < S.code.own.stack → y < S.code.own.stack → Rel S.hidden S.code.own.stack pending env c regs → nth regs x ≡ v → nth regs y ≡ w
      → GoesInto S pending n many t f env regs (pc + 1) k → Agree S n s (before (of_code S pending pc regs opened) c)
  index_into x y v w n many t f line pc opened s env regs c k e has inside room x_room y_room rel x_is y_is goes =
      operation_into S pending for_value (λ reply. refl) index (v ∷ w ∷ []) n many line t f pc opened s _ env regs c k e
      (get_step S.code t x y (of_code S pending pc regs opened) c has.0 (omega (arith, S.small)) (omega (arith, S.small)) (omega (arith, S.small)) (omega (arith, rel.room)) (omega (arith, rel.room))
      ∙ ap₂ (λ o q. says_so (operates index (o ∷ q ∷ [])) S.code (of_code S pending pc regs opened) c (λ z b d. heard for_value S.code z b d)) x_is y_is)
      (value_rest S.code GetTable t x y pc false has.0 (omega (arith, S.small)) refl) (here_abc S GetTable t x y false line pc [] has) inside room rel goes

  -- the key is the number m in the instruction
  pub number_index_into : (x m : ℕ) (v : Value) (n : ℕ) (many : Bool) (t f line pc opened : ℕ) (s : tree.State) (env regs : List Value) (c : Captured) (k : List Work)
      → step s ≡ asks (operates index (v ∷ known (integer (pos m)) ∷ [])) line (of_tree S pending env c) k give_first → HasAt S pc (with_abc GetI t x m line ∷ []) → pc + 1 < length S.code.own.code
      → t < S.code.own.stack → x < S.code.own.stack → m ≤ 255 → Rel S.hidden S.code.own.stack pending env c regs → nth regs x ≡ v
      → GoesInto S pending n many t f env regs (pc + 1) k → Agree S n s (before (of_code S pending pc regs opened) c)
  number_index_into x m v n many t f line pc opened s env regs c k e has inside room x_room small rel x_is goes =
      operation_into S pending for_value (λ reply. refl) index (v ∷ known (integer (pos m)) ∷ []) n many line t f pc opened s _ env regs c k e
      (get_number_step S.code t x m (of_code S pending pc regs opened) c has.0 (omega (arith, room, S.small)) (omega (arith, x_room, S.small)) (omega (arith, small)) (omega (arith, x_room, rel.room))
      ∙ ap (λ o. says_so (operates index (o ∷ known (integer (pos m)) ∷ [])) S.code (of_code S pending pc regs opened) c (λ z b d. heard for_value S.code z b d)) x_is)
      (value_rest S.code GetI t x m pc false has.0 (omega (arith, room, S.small)) refl) (here_abc S GetI t x m false line pc [] has) inside room rel goes

  -- the key is a constant of the instruction
  pub name_index_into : (x number : ℕ) (text : List ℕ) (v : Value) (n : ℕ) (many : Bool) (t f line pc opened : ℕ) (s : tree.State) (env regs : List Value) (c : Captured) (k : List Work)
      → step s ≡ asks (operates index (v ∷ known (string text) ∷ [])) line (of_tree S pending env c) k give_first → HasAt S pc (with_abc GetField t x number line ∷ []) → pc + 1 < length S.code.own.code
      → t < S.code.own.stack → x < S.code.own.stack → number < 256 → slice_get S.code.own.constants number ≡ Some (StrConst text) → Rel S.hidden S.code.own.stack pending env c regs → nth regs x ≡ v
      → GoesInto S pending n many t f env regs (pc + 1) k → Agree S n s (before (of_code S pending pc regs opened) c)
  name_index_into x number text v n many t f line pc opened s env regs c k e has inside room x_room short there rel x_is goes =
      operation_into S pending for_value (λ reply. refl) index (v ∷ known (string text) ∷ []) n many line t f pc opened s _ env regs c k e
      (get_name_step S.code t x number (StrConst text) (of_code S pending pc regs opened) c has.0 (omega (arith, room, S.small)) (omega (arith, x_room, S.small)) (omega (arith, short)) (omega (arith, x_room, rel.room)) there
      ∙ ap (λ o. says_so (operates index (o ∷ known (string text) ∷ [])) S.code (of_code S pending pc regs opened) c (λ z b d. heard for_value S.code z b d)) x_is)
      (value_rest S.code GetField t x number pc false has.0 (omega (arith, room, S.small)) refl) (here_abc S GetField t x number false line pc [] has) inside room rel goes

  -- to a register above the locals

  upvalue_into : (u n : ℕ) (many : Bool) (t f line pc opened : ℕ) (s : tree.State) (env regs : List Value) (c : Captured) (k : List Work)
      → step s ≡ asks_quickly (reads_upvalue u) line (of_tree S pending env c) k give_first → HasAt S pc (with_abc GetUpval t u 0 line ∷ []) → pc + 1 < length S.code.own.code
      → u < 2 ^ 8 → t < S.code.own.stack → Rel S.hidden S.code.own.stack pending env c regs → GoesInto S pending n many t f env regs (pc + 1) k → Agree S n s (before (of_code S pending pc regs opened) c)
  upvalue_into u n many t f line pc opened s env regs c k e has inside u_fits room rel goes =
      one_alike S pending n s _ (reads_upvalue u) (reads_upvalue u) line pc opened f env regs c k give_first (to_register t (read 0)) [] e
      (upvalue_step S.code t u (of_code S pending pc regs opened) c has.0 (omega (arith, room, S.small)) u_fits)
      (λ m lt. refl) refl (λ reply fits. fits) rel (here_abc S GetUpval t u 0 false line pc [] has)
      (λ v env1 regs1 c1 af. answer_into S pending n many t f pc opened (v ∷ []) env regs env1 regs1 c1 k inside room af goes)

  -- a global name whose key has a number of 8 bits
  near_into : (u : ℕ) (text : List ℕ) (n : ℕ) (many : Bool) (t f line pc opened : ℕ) (s : tree.State) (env regs : List Value) (c : Captured) (k : List Work)
      → step s ≡ reads_variable line text (GlobalOf u) (of_tree S pending env c) k → HasAt S pc (with_abc GetTabUp t u (number_in S.code.own.constants (StrConst text)) line ∷ []) → pc + 1 < length S.code.own.code
      → number_in S.code.own.constants (StrConst text) < 2 ^ 8 → u < 2 ^ 8 → Found S.code.own.constants (StrConst text) → t < S.code.own.stack → Rel S.hidden S.code.own.stack pending env c regs
      → GoesInto S pending n many t f env regs (pc + 1) k → Agree S n s (before (of_code S pending pc regs opened) c)
  near_into u text n many t f line pc opened s env regs c k e has inside near u_fits found room rel goes =
      let number = number_in S.code.own.constants (StrConst text) in
      let here = here_abc S GetTabUp t u number false line pc [] has in
      let t_fits : t < 2 ^ 8 = omega (arith, room, S.small) in
      one_alike S pending n s _ (reads_upvalue u) (reads_upvalue u) line pc opened f env regs c (field_of line (known (string text)) ∷ k) give_first (key_text number t) [] e
      (table_step S.code t u number (of_code S pending pc regs opened) c has.0 t_fits u_fits near)
      (λ m lt. refl) refl (λ reply fits. fits) rel here
      (λ v env1 regs1 c1 af. operation_into S pending for_value (λ reply. refl) index (v ∷ known (string text) ∷ []) n many line t f pc opened _ _ env1 regs1 c1 k refl
      (key_step S.code number t (StrConst text) v (of_code S pending pc regs1 opened) c1 found.there)
      (value_rest S.code GetTabUp t u number pc false has.0 t_fits refl) here inside room af.rel
      (into_after S pending n many t f (pc + 1) env regs env1 regs1 c1 k af goes))

  -- any other: its table and its key, in the registers t and t + 1, and then the field, which goes to register r
  far_into : (u : ℕ) (text : List ℕ) (n : ℕ) (many : Bool) (r t line pc opened : ℕ) (s : tree.State) (env regs : List Value) (c : Captured) (k : List Work)
      → step s ≡ reads_variable line text (GlobalOf u) (of_tree S pending env c) k
      → HasAt S pc (with_abc GetUpval t u 0 line ∷ (loads S.code.own.constants (StrConst text) (t + 1) line ++ with_abc GetTable r t (t + 1) line ∷ []))
      → pc + (1 + (length (loads S.code.own.constants (StrConst text) (t + 1) line) + 1)) < length S.code.own.code → u < 2 ^ 8 → Found S.code.own.constants (StrConst text)
      → length env ≤ t → r < S.code.own.stack → t + 1 < S.code.own.stack → Rel S.hidden S.code.own.stack pending env c regs
      → GoesInto S pending n many r t env regs (pc + (1 + (length (loads S.code.own.constants (StrConst text) (t + 1) line) + 1))) k → Agree S n s (before (of_code S pending pc regs opened) c)
  far_into u text n many r t line pc opened s env regs c k e has inside u_fits found le below room rel goes =
      let key_code = loads S.code.own.constants (StrConst text) (t + 1) line in
      let behind = has_back S (pc + 1) key_code (with_abc GetTable r t (t + 1) line ∷ []) has.1.1 in
      let key = known (string text) in
      upvalue_into u n true t t line pc opened s env regs c (field_of line key ∷ k) e (has.0, (has.1.0, tt)) (omega (arith, inside)) u_fits (omega (arith, room)) rel
      (into_goes S pending n true t (pc + 1) env regs (field_of line key ∷ k) le
      (λ vs env1 regs1 c1 o1 af eq one. load_right (StrConst text) (t + 1) line n (pc + 1) o1 _ regs1 c1 found (has_front S (pc + 1) key_code (with_abc GetTable r t (t + 1) line ∷ []) has.1.1)
      (omega (arith, inside)) (omega (arith, room, S.small)) (omega (arith, room, af.rel.room))
      (let put = after_put S.hidden S.code.own.stack pending env1 regs1 c1 (t + 1) key (omega (arith, le, af.size)) af.rel in
      index_into t (t + 1) (first vs) key n many r t line (pc + 1 + length key_code) o1 _ env1 (write (t + 1) key regs1) c1 k refl behind (omega (arith, inside)) below (omega (arith, room)) room put.rel
      (nth_write_other (t + 1) key regs1 t (λ same. absurd (omega (arith, same))) ∙ eq) (nth_write_same (t + 1) key regs1)
      (into_at S pending n many r t (pc + 1 + length key_code + 1) (pc + (1 + (length key_code + 1))) env1 (write (t + 1) key regs1) k (omega arith)
      (into_after S pending n many r t (pc + (1 + (length key_code + 1))) env regs env1 (write (t + 1) key regs1) c1 k
      (after_then S.hidden S.code.own.stack pending env regs env1 regs1 env1 (write (t + 1) key regs1) c1 c1 t (t + 1) (omega arith) af put) goes)))))

  global_into : (u : ℕ) (text : List ℕ) (n : ℕ) (many : Bool) (r t line pc opened : ℕ) (s : tree.State) (env regs : List Value) (c : Captured) (k : List Work) (b : Bool) → nat_lt (number_in S.code.own.constants (StrConst text)) 256 ≡ b
      → step s ≡ reads_variable line text (GlobalOf u) (of_tree S pending env c) k
      → (code : List Coded) → code ≡ cond b (with_abc GetTabUp r u (number_in S.code.own.constants (StrConst text)) line ∷ []) (with_abc GetUpval t u 0 line ∷ (loads S.code.own.constants (StrConst text) (t + 1) line ++ with_abc GetTable r t (t + 1) line ∷ []))
      → HasAt S pc code → pc + length code < length S.code.own.code → u < 2 ^ 8 → Found S.code.own.constants (StrConst text) → length env ≤ t → r < S.code.own.stack → t + cond b 0 2 ≤ S.code.own.stack → Rel S.hidden S.code.own.stack pending env c regs
      → GoesInto S pending n many r t env regs (pc + length code) k → Agree S n s (before (of_code S pending pc regs opened) c)
  global_into u text n many r t line pc opened s env regs c k true near e code is has inside u_fits found le below room rel goes =
      let size = ap length is in
      near_into u text n many r t line pc opened s env regs c k e (subst (HasAt S pc) is has) (omega (arith, inside, size)) (ltb-true (number_in S.code.own.constants (StrConst text)) 256 near) u_fits found below rel
      (into_at S pending n many r t (pc + 1) (pc + length code) env regs k (omega (arith, size)) goes)
  global_into u text n many r t line pc opened s env regs c k false far e code is has inside u_fits found le below room rel goes =
      let size = ap length is in
      let sum = length-append (loads S.code.own.constants (StrConst text) (t + 1) line) (with_abc GetTable r t (t + 1) line ∷ []) in
      far_into u text n many r t line pc opened s env regs c k e (subst (HasAt S pc) is has) (omega (arith, inside, size, sum)) u_fits found le below (omega (arith, room)) rel
      (into_at S pending n many r t _ (pc + length code) env regs k (omega (arith, size, sum)) goes)

  -- a global name whose `_ENV` is the local m
  local_global_into : (m : ℕ) (text : List ℕ) (n : ℕ) (many : Bool) (r t line pc opened : ℕ) (s : tree.State) (env regs : List Value) (c : Captured) (k : List Work) (b : Bool) → nat_lt (number_in S.code.own.constants (StrConst text)) 256 ≡ b
      → step s ≡ reads_variable line text (GlobalIn m) (of_tree S pending env c) k
      → (code : List Coded) → code ≡ cond b (with_abc GetField r m (number_in S.code.own.constants (StrConst text)) line ∷ []) (loads S.code.own.constants (StrConst text) t line ++ with_abc GetTable r m t line ∷ [])
      → HasAt S pc code → m < length env → Found S.code.own.constants (StrConst text) → pc + length code < length S.code.own.code → length env ≤ t → r < S.code.own.stack → t + cond b 0 1 ≤ S.code.own.stack → Rel S.hidden S.code.own.stack pending env c regs
      → GoesInto S pending n many r t env regs (pc + length code) k → Agree S n s (before (of_code S pending pc regs opened) c)
  local_global_into m text n many r t line pc opened s env regs c k true near e code is has low found inside le below room rel goes =
      let size = ap length is in
      let number = number_in S.code.own.constants (StrConst text) in
      name_index_into m number text (nth env m) n many r t line pc opened s env regs c k e (subst (HasAt S pc) is has) (omega (arith, inside, size)) below (omega (arith, low, rel.fits)) (ltb-true number 256 near) found.there rel
      (sym (rel.agree m low)) (into_at S pending n many r t (pc + 1) (pc + length code) env regs k (omega (arith, size)) goes)
  local_global_into m text n many r t line pc opened s env regs c k false far e code is has low found inside le below room rel goes =
      let key_code = loads S.code.own.constants (StrConst text) t line in
      let last_code = with_abc GetTable r m t line ∷ [] in
      let size = ap length is in
      let sum = length-append key_code last_code in
      let there = subst (HasAt S pc) is has in
      let key = known (string text) in
      let put = after_put S.hidden S.code.own.stack pending env regs c t key le rel in
      load_right (StrConst text) t line n pc opened s regs c found (has_front S pc key_code last_code there) (omega (arith, inside, size, sum)) (omega (arith, room, S.small)) (omega (arith, room, rel.room))
      (index_into m t (nth env m) key n many r t line (pc + length key_code) opened s env (write t key regs) c k e (has_back S pc key_code last_code there) (omega (arith, inside, size, sum)) below (omega (arith, low, rel.fits)) (omega (arith, room)) put.rel
      (sym (put.rel.agree m low)) (nth_write_same t key regs)
      (into_at S pending n many r t _ (pc + length code) env (write t key regs) k (omega (arith, size, sum)) (into_after S pending n many r t _ env regs env (write t key regs) c k put goes)))

  -- a name, whose value goes to register r; what is read on the way stands in the registers from t on
  pub named_into : (place : Place) (text : List ℕ) (n : ℕ) (many : Bool) (line r t pc opened : ℕ) (s : tree.State) (env regs : List Value) (c : Captured) (k : List Work)
      → step s ≡ reads_variable line text place (of_tree S pending env c) k → HasAt S pc (name_into S.code.own.constants place text r t line) → NameIsPlaced S place text (length env)
      → pc + length (name_into S.code.own.constants place text r t line) < length S.code.own.code → length env ≤ t → r < S.code.own.stack → t + room_of_name_by S.code.own.constants 0 place text ≤ S.code.own.stack
      → Rel S.hidden S.code.own.stack pending env c regs → GoesInto S pending n many r t env regs (pc + length (name_into S.code.own.constants place text r t line)) k → Agree S n s (before (of_code S pending pc regs opened) c)
  named_into Unset text n many line r t pc opened s env regs c k e has ok inside le below room rel goes = absurd ok
  named_into (LocalPlace m) text n many line r t pc opened s env regs c k e has ok inside le below room rel goes =
      one_into S pending (with_abc Move r m 0 line) (with_abc Move r m 0 line ∷ []) (nth env m) n many r t pc opened s env regs c k refl e has inside rel
      (λ here w there. move_step S.code (of_code S pending pc regs opened) c w there r m here (omega (arith, below, S.small)) (omega (arith, ok, rel.fits, S.small)) (omega (arith, ok, rel.fits, rel.room)) (omega (arith, below, rel.room))
      ∙ ap (λ v. goes_on (before (of_code S pending (pc + 1) (write r v regs) opened) c)) (sym (rel.agree m ok))) goes
  named_into (Upvalue u) text n many line r t pc opened s env regs c k e has ok inside le below room rel goes =
      upvalue_into u n many r t line pc opened s env regs c k e has inside ok below rel goes
  named_into (GlobalIn m) text n many line r t pc opened s env regs c k e has ok inside le below room rel goes =
      local_global_into m text n many r t line pc opened s env regs c k (nat_lt (number_in S.code.own.constants (StrConst text)) 256) refl e _ refl has ok.0 ok.1 inside le below room rel goes
  named_into (GlobalOf u) text n many line r t pc opened s env regs c k e has ok inside le below room rel goes =
      global_into u text n many r t line pc opened s env regs c k (nat_lt (number_in S.code.own.constants (StrConst text)) 256) refl e _ refl has inside ok.0 ok.1 le below room rel goes

  pub name_goes : (place : Place) (text : List ℕ) (n : ℕ) (many : Bool) (line t pc opened : ℕ) (s : tree.State) (env regs : List Value) (c : Captured) (k : List Work)
      → step s ≡ reads_variable line text place (of_tree S pending env c) k → HasAt S pc (name_code S.code.own.constants place text t line) → NameIsPlaced S place text (length env)
      → pc + length (name_code S.code.own.constants place text t line) < length S.code.own.code → length env ≤ t → t + room_of_name S.code.own.constants place text ≤ S.code.own.stack → Rel S.hidden S.code.own.stack pending env c regs
      → Goes S pending n many t env regs (pc + length (name_code S.code.own.constants place text t line)) k → Agree S n s (before (of_code S pending pc regs opened) c)
  name_goes place text n many line t pc opened s env regs c k e has ok inside le room rel goes =
      let cs = S.code.own.constants in
      let some = name_room cs place text in
      let less = name_less cs place text in
      named_into place text n many line t t pc opened s env regs c k e has ok inside le (omega (arith, room, some)) (omega (arith, room, less)) rel
      (into_goes S pending n many t (pc + length (name_code cs place text t line)) env regs k le goes)
