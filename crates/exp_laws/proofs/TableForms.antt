-- Tables: made, filled with items and written by keys.
use Rattle.std.proofs.Common.{◌≡◌, ℕ, ◌+◌, ◌*◌, ◌/◌, ◌%◌, ◌<◌, ◌≤◌, ◌^◌, Bool, true, false, cond, pos, List, [], ◌∷◌, ◌++◌, length, take, refl, sym, ap, ap₂, ◌∙◌, arith}
use Rattle.std.specs.Prelude.{nat_lt, Some, slice_get}
use borrow.Author.Tests.{ltb-true}
use Rattle.int_core.specs.Value.{Value, known, integer, a_table, a_function, a_coroutine, object, nth, write}
use Rattle.int_core.specs.Operations.{store}
use Rattle.int_core.specs.Ask.{makes_table, fills_table, operates, Reply, values, faulted, left, values_in, Captured, IsReplyTo}
use Rattle.tree_core.specs.Tree.{Body}
use Rattle.tree_activation.specs.Work.{Control, Work, Pending}
use Rattle.tree_activation.specs.Work as tree
use Rattle.tree_activation.specs.Activation.{step}
use Rattle.tree_activation.specs.Asking.{asks, asks_quickly}
use Rattle.code_core.specs.declared.opcode.Opcode.{Opcode}
use Rattle.code_core.specs.declared.opcode.Opcode.TheVariants.{NewTable, SetTable, SetI, SetField, SetList, ExtraArg}
use Rattle.code_core.specs.declared.proto.Const.{Const}
use Rattle.code_core.specs.Instruction.{abc, op_ax}
use Rattle.machine_core.specs.World.{for_value, dropped}
use Rattle.machine_core.specs.Text.{read, constant, write_register}
use Rattle.machine_core.specs.InstructionRows.{next, skip, then, ends_list, rest_at, told_values}
use Rattle.machine_core.specs.Talk.{before, amid, talk, talk_step, says_so, heard}
use Rattle.list_laws.proofs.Values.{nth_write_same, nth_take, length_take}
use Rattle.code_of.specs.Coded.{Coded, with_abc}
use Rattle.code_of.specs.Expressions.{set_list}
use Rattle.exp_laws.specs.Setting.{Setting}
use Rattle.exp_laws.proofs.Registers.{Rel, After, after_then, after_above, after_put}
use Rattle.exp_laws.proofs.Talking.{Agree, go_right, of_tree, of_code}
use Rattle.exp_laws.proofs.Placing.{HasAt, here_abc}
use Rattle.exp_laws.proofs.Asking.{asks_alike, quick_alike}
use Rattle.exp_laws.proofs.Going.{next_there}
use Rattle.exp_laws.proofs.Steps.{go_step, put_step}
use Rattle.exp_laws.proofs.Calls.{Passed}
use Rattle.exp_laws.proofs.Tables.{items_count, items_field, new_step, fill_near, fill_far, filled_step, ValueIs, set_step, set_index_step, set_name_step, set_rest, set_index_rest, set_name_rest}

pub told_dropped : (reply : Reply) → told_values dropped reply ≡ told_values for_value reply
told_dropped (values vs) = refl
told_dropped (faulted words) = refl
told_dropped (left e) = refl

module _ (S : Setting) where
  -- the value that the fields k and C of a store name, in a function under way
  abbrev pub NamesValue : (flag : Bool) → (z : ℕ) → (v : Value) → (regs : List Value) → Type 0
  NamesValue true z v regs = (x : Const) × ((v ≡ known (constant x)) × ((slice_get S.code.own.constants z ≡ Some x) × (z < 256)))
  NamesValue false z v regs = (z < S.code.own.stack) × (nth regs z ≡ v)

  pub names_fits : (flag : Bool) (z : ℕ) (v : Value) (regs : List Value) → NamesValue flag z v regs → z < 2 ^ 8
  names_fits true z v regs is = let short = is.1.1.1 in omega (arith, short)
  names_fits false z v regs is = let low = is.0 in omega (arith, low, S.small)

  pub names_value : (flag : Bool) (z : ℕ) (v : Value) (regs : List Value) → S.code.own.stack ≤ length regs → NamesValue flag z v regs → ValueIs S.code flag z v regs
  names_value true z v regs room is = (is.0, (is.1.0, is.1.1.0))
  names_value false z v regs room is = let low = is.0 in (omega (arith, low, room), is.1)

module _ (S : Setting) (pending : List Pending) where
  -- a new table in register t
  pub new_goes : (n line t pc opened : ℕ) (s : tree.State) (env regs : List Value) (c : Captured) (k : List Work) (goes : List Value → Control)
      → step s ≡ asks_quickly makes_table line (of_tree S pending env c) k goes → HasAt S pc (with_abc NewTable t 0 0 line ∷ (op_ax ExtraArg 0, line) ∷ []) → pc + 2 < length S.code.own.code → length env ≤ t → t < S.code.own.stack
      → Rel S.hidden S.code.own.stack pending env c regs
      → ((m : ℕ) (env1 regs1 : List Value) (c1 : Captured) → After S.hidden S.code.own.stack pending env regs t env1 regs1 c1 → nth regs1 t ≡ object a_table m
      → Agree S n (tree.at (goes (object a_table m ∷ [])) (of_tree S pending env1 c1) k) (before (of_code S pending (pc + 2) regs1 opened) c1))
      → Agree S n s (before (of_code S pending pc regs opened) c)
  new_goes n line t pc opened s env regs c k goes e has inside le room rel next =
      quick_alike S pending n s _ makes_table makes_table line pc opened t env regs c k goes (then (write_register t (read 0)) skip) [] e
      (new_step S.code t (of_code S pending pc regs opened) c has.0 has.1.1.0 (omega (arith, room, S.small))) (λ m lt. tt) refl rel (here_abc S NewTable t 0 0 false line pc ((op_ax ExtraArg 0, line) ∷ []) has)
      (λ reply fits env1 regs1 c1 af. by reply fits env1 regs1 c1 af)
    where
      new : (m : ℕ) (env1 regs1 : List Value) (c1 : Captured) → After S.hidden S.code.own.stack pending env regs t env1 regs1 c1
          → Agree S n (tree.at (goes (object a_table m ∷ [])) (of_tree S pending env1 c1) k) (amid (then (write_register t (read 0)) skip) (object a_table m ∷ []) (of_code S pending pc regs1 opened) c1)
      new m env1 regs1 c1 af =
          let there = next_there S (pc + 2) inside in
          let v = object a_table m in
          go_right S n _ _ (before (of_code S pending (pc + 2) (write t v regs1) opened) c1)
          (put_step S.code t 2 (read 0) there.0 (v ∷ []) (of_code S pending pc regs1 opened) c1 (omega (arith, room, af.rel.room)) there.1)
          (next m env1 (write t v regs1) c1
          (after_then S.hidden S.code.own.stack pending env regs env1 regs1 env1 (write t v regs1) c1 c1 t t (omega arith) af (after_put S.hidden S.code.own.stack pending env1 regs1 c1 t v (omega (arith, le, af.size)) af.rel)) (nth_write_same t v regs1))

      by : (reply : Reply) → IsReplyTo {F = Body} makes_table reply → (env1 regs1 : List Value) (c1 : Captured) → After S.hidden S.code.own.stack pending env regs t env1 regs1 c1
          → Agree S n (tree.at (goes (values_in reply)) (of_tree S pending env1 c1) k) (amid (then (write_register t (read 0)) skip) (values_in reply) (of_code S pending pc regs1 opened) c1)
      by (values (object a_table m ∷ [])) fits env1 regs1 c1 af = new m env1 regs1 c1 af
      by (values []) fits env1 regs1 c1 af = absurd fits
      by (values (known x ∷ vs)) fits env1 regs1 c1 af = absurd fits
      by (values (object a_function m ∷ vs)) fits env1 regs1 c1 af = absurd fits
      by (values (object a_coroutine m ∷ vs)) fits env1 regs1 c1 af = absurd fits
      by (values (object a_table m ∷ w ∷ vs)) fits env1 regs1 c1 af = absurd fits
      by (faulted words) fits env1 regs1 c1 af = absurd fits
      by (left e) fits env1 regs1 c1 af = absurd fits

  -- the table in register t is filled with the values behind it
  pub fill_goes : (many : Bool) (items m n line t pc opened : ℕ) (args : List Value) (s : tree.State) (env regs : List Value) (c : Captured) (k : List Work) (next_of : Control)
      → step s ≡ asks_quickly (fills_table (object a_table m) items args) line (of_tree S pending env c) k (λ _. next_of) → HasAt S pc (set_list t (items_count many) items line)
      → pc + length (set_list t (items_count many) items line) < length S.code.own.code → items < 2 ^ 33 → length env ≤ t → t < S.code.own.stack → Rel S.hidden S.code.own.stack pending env c regs
      → nth regs t ≡ object a_table m → Passed S.code (items_field many) (t + 1) args (of_code S pending pc regs opened)
      → ((env1 regs1 : List Value) (c1 : Captured) → After S.hidden S.code.own.stack pending env regs (t + 1) env1 regs1 c1
      → Agree S n (tree.at next_of (of_tree S pending env1 c1) k) (before (of_code S pending (pc + length (set_list t (items_count many) items line)) regs1 0) c1))
      → Agree S n s (before (of_code S pending pc regs opened) c)
  fill_goes many items m n line t pc opened args s env regs c k next_of e has inside wide le room rel is passed next = by (nat_lt items 256) refl has inside next
    where
      fits : t < 2 ^ 8
      fits = omega (arith, room, S.small)

      width : t < length regs
      width = omega (arith, room, rel.room)

      code_by : Bool → List Coded
      code_by b = cond b (with_abc SetList t (items_count many) items line ∷ []) ((abc SetList t (items_count many) (items % 256) true, line) ∷ (op_ax ExtraArg (items / 256), line) ∷ [])

      split : items % 256 + 256 * (items / 256) ≡ items
      split = omega arith

      -- the list of values is gone once they are stored
      dropped_goes : (past : ℕ) (env1 regs1 had : List Value) (c1 : Captured) → pc + past < length S.code.own.code → After S.hidden S.code.own.stack pending env regs (t + 1) env1 regs1 c1
          → ((env2 regs2 : List Value) (c2 : Captured) → After S.hidden S.code.own.stack pending env regs (t + 1) env2 regs2 c2 → Agree S n (tree.at next_of (of_tree S pending env2 c2) k) (before (of_code S pending (pc + past) regs2 0) c2))
          → Agree S n (tree.at next_of (of_tree S pending env1 c1) k) (amid (ends_list (pos past)) had (of_code S pending pc regs1 opened) c1)
      dropped_goes past env1 regs1 had c1 inside af next =
          let there = next_there S (pc + past) inside in
          let size = length_take S.code.own.stack regs1 af.rel.room in
          go_right S n _ _ (before (of_code S pending (pc + past) (take S.code.own.stack regs1) 0) c1)
          (filled_step S.code past there.0 had (of_code S pending pc regs1 opened) c1 there.1)
          (next env1 (take S.code.own.stack regs1) c1
          (after_then S.hidden S.code.own.stack pending env regs env1 regs1 env1 (take S.code.own.stack regs1) c1 c1 (t + 1) (t + 1) (omega arith) af
          (after_above S.hidden S.code.own.stack pending env1 regs1 (take S.code.own.stack regs1) c1 (t + 1) (omega (arith, le, af.size)) af.rel (λ r lt. nth_take S.code.own.stack regs1 r (omega (arith, lt, room))) (omega (arith, size)))))

      by : (b : Bool) → nat_lt items 256 ≡ b → HasAt S pc (code_by b) → pc + length (code_by b) < length S.code.own.code
          → ((env1 regs1 : List Value) (c1 : Captured) → After S.hidden S.code.own.stack pending env regs (t + 1) env1 regs1 c1 → Agree S n (tree.at next_of (of_tree S pending env1 c1) k) (before (of_code S pending (pc + length (code_by b)) regs1 0) c1))
          → Agree S n s (before (of_code S pending pc regs opened) c)
      by true near has inside next =
          quick_alike S pending n s _ (fills_table (object a_table m) items args) (fills_table (object a_table m) items args) line pc opened (t + 1) env regs c k (λ _. next_of) (ends_list (pos 1)) (object a_table m ∷ args) e
          (fill_near S.code t items m many args (of_code S pending pc regs opened) c has.0 (ltb-true items 256 near) fits width is passed) (λ q lt. (refl, (refl, refl))) refl rel
          (here_abc S SetList t (items_count many) items false line pc [] has)
          (λ reply ok env1 regs1 c1 af. dropped_goes 1 env1 regs1 (object a_table m ∷ args ++ values_in reply) c1 inside af next)
      by false far has inside next =
          quick_alike S pending n s _ (fills_table (object a_table m) items args) (fills_table (object a_table m) (items % 256 + 256 * (items / 256)) args) line pc opened (t + 1) env regs c k (λ _. next_of) (ends_list (pos 2)) (object a_table m ∷ args) e
          (fill_far S.code t (items % 256) (items / 256) m many args (of_code S pending pc regs opened) c has.0 has.1.1.0 (omega arith) (omega (arith, wide)) fits width is passed) (λ q lt. (refl, (sym split, refl))) refl rel
          (here_abc S SetList t (items_count many) (items % 256) true line pc ((op_ax ExtraArg (items / 256), line) ∷ []) has)
          (λ reply ok env1 regs1 c1 af. dropped_goes 2 env1 regs1 (object a_table m ∷ args ++ values_in reply) c1 inside af next)

  -- a value goes to a field of a table; registers below u are kept. The store is an instruction that asks for it and has nothing left to do
  stored_by : (op : Opcode) (flag : Bool) (x y z u n line pc opened : ℕ) (o key v : Value) (s : tree.State) (env regs : List Value) (c : Captured) (k : List Work) (goes : List Value → Control)
      → step s ≡ asks (operates store (o ∷ key ∷ v ∷ [])) line (of_tree S pending env c) k goes → HasAt S pc ((abc op x y z flag, line) ∷ []) → pc + 1 < length S.code.own.code → Rel S.hidden S.code.own.stack pending env c regs
      → talk_step S.code (before (of_code S pending pc regs opened) c) ≡ says_so (operates store (o ∷ key ∷ v ∷ [])) S.code (of_code S pending pc regs opened) c (λ q b d. heard dropped S.code q b d)
      → rest_at {V = Value} dropped S.code pc ≡ next
      → ((ws env1 regs1 : List Value) (c1 : Captured) → After S.hidden S.code.own.stack pending env regs u env1 regs1 c1 → Agree S n (tree.at (goes ws) (of_tree S pending env1 c1) k) (before (of_code S pending (pc + 1) regs1 opened) c1))
      → Agree S n s (before (of_code S pending pc regs opened) c)
  stored_by op flag x y z u n line pc opened o key v s env regs c k goes e has inside rel asked rest goes_on_so =
      let there = next_there S (pc + 1) inside in
      asks_alike S pending n dropped told_dropped s _ (operates store (o ∷ key ∷ v ∷ [])) (operates store (o ∷ key ∷ v ∷ [])) line pc opened u env regs c k goes e asked (λ m. (refl, refl)) refl rel (here_abc S op x y z flag line pc [] has)
      (λ ws env1 regs1 c1 af. go_right S n _ _ (before (of_code S pending (pc + 1) regs1 opened) c1)
      (ap (λ q. talk S.code q ws (of_code S pending pc regs1 opened) c1) rest ∙ go_step S.code 1 there.0 ws (of_code S pending pc regs1 opened) c1 there.1)
      (goes_on_so ws env1 regs1 c1 af))

  pub store_goes : (flag : Bool) (x y z u n line pc opened : ℕ) (o key v : Value) (s : tree.State) (env regs : List Value) (c : Captured) (k : List Work) (goes : List Value → Control)
      → step s ≡ asks (operates store (o ∷ key ∷ v ∷ [])) line (of_tree S pending env c) k goes → HasAt S pc ((abc SetTable x y z flag, line) ∷ []) → pc + 1 < length S.code.own.code
      → x < S.code.own.stack → y < S.code.own.stack → NamesValue S flag z v regs → Rel S.hidden S.code.own.stack pending env c regs → nth regs x ≡ o → nth regs y ≡ key
      → ((ws env1 regs1 : List Value) (c1 : Captured) → After S.hidden S.code.own.stack pending env regs u env1 regs1 c1 → Agree S n (tree.at (goes ws) (of_tree S pending env1 c1) k) (before (of_code S pending (pc + 1) regs1 opened) c1))
      → Agree S n s (before (of_code S pending pc regs opened) c)
  store_goes flag x y z u n line pc opened o key v s env regs c k goes e has inside x_room y_room is rel o_is key_is next =
      stored_by SetTable flag x y z u n line pc opened o key v s env regs c k goes e has inside rel
      (set_step S.code flag x y z v (of_code S pending pc regs opened) c has.0 (omega (arith, x_room, S.small)) (omega (arith, y_room, S.small)) (names_fits S flag z v regs is) (omega (arith, x_room, rel.room)) (omega (arith, y_room, rel.room))
      (names_value S flag z v regs rel.room is)
      ∙ ap₂ (λ a b. says_so (operates store (a ∷ b ∷ v ∷ [])) S.code (of_code S pending pc regs opened) c (λ q b d. heard dropped S.code q b d)) o_is key_is)
      (set_rest S.code flag x y z pc has.0) next

  -- the key is the number m in the instruction
  pub store_index_goes : (flag : Bool) (x m z u n line pc opened : ℕ) (o v : Value) (s : tree.State) (env regs : List Value) (c : Captured) (k : List Work) (goes : List Value → Control)
      → step s ≡ asks (operates store (o ∷ known (integer (pos m)) ∷ v ∷ [])) line (of_tree S pending env c) k goes → HasAt S pc ((abc SetI x m z flag, line) ∷ []) → pc + 1 < length S.code.own.code
      → x < S.code.own.stack → m ≤ 255 → NamesValue S flag z v regs → Rel S.hidden S.code.own.stack pending env c regs → nth regs x ≡ o
      → ((ws env1 regs1 : List Value) (c1 : Captured) → After S.hidden S.code.own.stack pending env regs u env1 regs1 c1 → Agree S n (tree.at (goes ws) (of_tree S pending env1 c1) k) (before (of_code S pending (pc + 1) regs1 opened) c1))
      → Agree S n s (before (of_code S pending pc regs opened) c)
  store_index_goes flag x m z u n line pc opened o v s env regs c k goes e has inside x_room small is rel o_is next =
      stored_by SetI flag x m z u n line pc opened o (known (integer (pos m))) v s env regs c k goes e has inside rel
      (set_index_step S.code flag x m z v (of_code S pending pc regs opened) c has.0 (omega (arith, x_room, S.small)) (omega (arith, small)) (names_fits S flag z v regs is) (omega (arith, x_room, rel.room)) (names_value S flag z v regs rel.room is)
      ∙ ap (λ a. says_so (operates store (a ∷ known (integer (pos m)) ∷ v ∷ [])) S.code (of_code S pending pc regs opened) c (λ q b d. heard dropped S.code q b d)) o_is)
      (set_index_rest S.code flag x m z pc has.0) next

  -- the key is a constant of the instruction
  pub store_name_goes : (flag : Bool) (x number z u n line pc opened : ℕ) (key : Const) (o v : Value) (s : tree.State) (env regs : List Value) (c : Captured) (k : List Work) (goes : List Value → Control)
      → step s ≡ asks (operates store (o ∷ known (constant key) ∷ v ∷ [])) line (of_tree S pending env c) k goes → HasAt S pc ((abc SetField x number z flag, line) ∷ []) → pc + 1 < length S.code.own.code
      → x < S.code.own.stack → number < 256 → NamesValue S flag z v regs → slice_get S.code.own.constants number ≡ Some key → Rel S.hidden S.code.own.stack pending env c regs → nth regs x ≡ o
      → ((ws env1 regs1 : List Value) (c1 : Captured) → After S.hidden S.code.own.stack pending env regs u env1 regs1 c1 → Agree S n (tree.at (goes ws) (of_tree S pending env1 c1) k) (before (of_code S pending (pc + 1) regs1 opened) c1))
      → Agree S n s (before (of_code S pending pc regs opened) c)
  store_name_goes flag x number z u n line pc opened key o v s env regs c k goes e has inside x_room short is there rel o_is next =
      stored_by SetField flag x number z u n line pc opened o (known (constant key)) v s env regs c k goes e has inside rel
      (set_name_step S.code flag x number z key v (of_code S pending pc regs opened) c has.0 (omega (arith, x_room, S.small)) (omega (arith, short)) (names_fits S flag z v regs is) (omega (arith, x_room, rel.room))
      (names_value S flag z v regs rel.room is) there
      ∙ ap (λ a. says_so (operates store (a ∷ known (constant key) ∷ v ∷ [])) S.code (of_code S pending pc regs opened) c (λ q b d. heard dropped S.code q b d)) o_is)
      (set_name_rest S.code flag x number z pc has.0) next
