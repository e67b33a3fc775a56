-- The store of a field whose table and key waited for it, and of a local or a constant that goes to a global name by one instruction.
use Rattle.std.proofs.Common.{◌≡◌, ℕ, ◌+◌, ◌<◌, ◌≤◌, ◌^◌, Bool, true, false, List, [], ◌∷◌, ◌++◌, length, Some, None, slice_get, refl, sym, ap, ap₂, subst, ◌∙◌, arith}
use borrow.Author.Tests.{lt-ltb}
use Rattle.int_core.specs.Value.{Value, known, string, nth}
use Rattle.int_core.specs.Operations.{store as storing}
use Rattle.int_core.specs.Ask.{reads_upvalue, operates, values_in, Captured}
use Rattle.tree_core.specs.declared.name.Name.{Name}
use Rattle.tree_core.specs.declared.name.Place.{Place}
use Rattle.tree_core.specs.declared.name.Place.TheVariants.{Unset, Upvalue, GlobalIn, GlobalOf, Local as LocalPlace}
use Rattle.tree_core.specs.Tree.{Exp, Var, EndExps, MoreExps}
use Rattle.tree_activation.specs.Work.{evaluate, give, collect, aim, store, listed, Target, to_field, for_assignment, Work, Pending}
use Rattle.tree_activation.specs.Work as tree
use Rattle.tree_activation.specs.Activation.{step}
use Rattle.tree_activation.specs.Statements.{aims_at_name}
use Rattle.tree_activation.specs.Asking.{first, asks}
use Rattle.code_core.specs.declared.opcode.Opcode.{Opcode}
use Rattle.code_core.specs.declared.opcode.Opcode.TheVariants.{SetField, SetTabUp}
use Rattle.code_core.specs.declared.proto.Const.{Const}
use Rattle.code_core.specs.declared.proto.Const.TheVariants.{Str as StrConst}
use Rattle.code_core.specs.Instruction.{abc, opcode_of}
use Rattle.code_core.specs.Prototype.{Prototype}
use Rattle.code_core.specs.Check.{at}
use Rattle.code_core.proofs.FieldLemmas.{opcode_of-abc, a_of-abc, b_of-abc, c_of-abc}
use Rattle.machine_core.specs.World.{Activation, dropped}
use Rattle.machine_core.specs.Text.{read, constant, read_constant, read_upvalue, Text, own, quick, trap}
use Rattle.machine_core.specs.InstructionRows.{next, sets, register_or_constant, rest_at, rest_by}
use Rattle.machine_core.specs.Talk.{before, amid, talk, talk_step, says_so, heard}
use Rattle.machine_core.specs.Talk as code
use Rattle.code_of.specs.Coded.{Coded}
use Rattle.code_of.specs.Constants.{number_in}
use Rattle.code_of.specs.Stores.{FieldKey, a_name, an_index, a_register, evaluated, field_store}
use Rattle.code_of.specs.Targets.{global_store}
use Rattle.code_of.proofs.Fields.{k_of-abc}
use Rattle.code_of.proofs.StoredValues.{StoredIn}
use Rattle.code_of.proofs.Targets.{some_store}
use Rattle.exp_laws.specs.Setting.{Setting}
use Rattle.exp_laws.specs.Placed.{NameIsPlaced, IsPlaced}
use Rattle.exp_laws.proofs.Registers.{Rel, After, after_then}
use Rattle.exp_laws.proofs.Talking.{Agree, go_left, go_right, of_tree, of_code}
use Rattle.exp_laws.proofs.Placing.{HasAt, here_abc}
use Rattle.exp_laws.proofs.Asking.{asks_alike, one_alike}
use Rattle.exp_laws.proofs.Going.{next_there}
use Rattle.exp_laws.proofs.Steps.{found_below, row_step, own_step, go_step}
use Rattle.exp_laws.proofs.Operands.{local_placed, local_read}
use Rattle.exp_laws.proofs.ConstantForms.{literal_read}
use Rattle.exp_laws.proofs.Tables.{ValueIs, value_text, value_step}
use Rattle.exp_laws.proofs.TableForms.{told_dropped, NamesValue, names_fits, names_value, store_goes, store_index_goes, store_name_goes}
use Rattle.stat_laws.proofs.Targets.{KeyWaits}

-- what the machine does at SETTABUP: the table is asked for, and then the store

-- the store in a field of the table that was read, which a constant names
abbrev entry_text : (number : ℕ) → (flag : Bool) → (v : ℕ) → Text
entry_text number flag v = own (read_constant number) (λ key _. value_text flag v (λ w. sets (read 0) (read key) (read w)))

module _ (p : Prototype) where
  global_step : (flag : Bool) (u number v : ℕ) (a : Activation) (c : Captured) → at p a.pc ≡ Some (abc SetTabUp u number v flag) → u < 2 ^ 8 → number < 2 ^ 8 → v < 2 ^ 8
      → talk_step p (before a c) ≡ says_so (reads_upvalue u) p a c (λ x b d. amid (entry_text number flag v) ([] ++ values_in x.reply) b d)
  global_step flag u number v a c here u_fits fits v_fits =
      let w = abc SetTabUp u number v flag in
      row_step p w SetTabUp (quick (read_upvalue u) (λ o. own (read_constant number) (λ key _. value_text flag v (λ x. sets (read o) (read key) (read x))))) a c here (opcode_of-abc SetTabUp u number v flag)
      (ap₂ (λ d e. quick (read_upvalue d) (λ o. own (read_constant e) (λ key _. register_or_constant w (λ x _. sets (read o) (read key) (read x))))) (a_of-abc SetTabUp u number v flag u_fits) (b_of-abc SetTabUp u number v flag u_fits fits)
      ∙ ap₂ (λ f e. quick (read_upvalue u) (λ o. own (read_constant number) (λ key _. value_text f e (λ x. sets (read o) (read key) (read x))))) (k_of-abc SetTabUp u number v flag u_fits) (c_of-abc SetTabUp u number v flag u_fits fits v_fits))

  entry_step : (flag : Bool) (number v : ℕ) (x : Const) (o w : Value) (a : Activation) (c : Captured) → slice_get p.own.constants number ≡ Some x → ValueIs p flag v w a.registers
      → talk_step p (amid (entry_text number flag v) (o ∷ []) a c) ≡ says_so (operates storing (o ∷ known (constant x) ∷ w ∷ [])) p a c (λ z b d. heard dropped p z b d)
  entry_step flag number v x o w a c there is =
      own_step p (read_constant number) (λ key _. value_text flag v (λ w. sets (read 0) (read key) (read w))) (o ∷ []) a c (lt-ltb number (length p.own.constants) (found_below p.own.constants number x there))
      ∙ ap (λ q. talk p (value_text flag v (λ w. sets (read 0) (read 1) (read w))) (o ∷ elim q as (λ _. List Value) [ None ↦ [] | Some k ↦ known (constant k) ∷ [] ]) a c) there
      ∙ value_step p flag v w (λ w. sets (read 0) (read 1) (read w)) (o ∷ known (constant x) ∷ []) a c is

  global_rest : (flag : Bool) (u number v pc : ℕ) → at p pc ≡ Some (abc SetTabUp u number v flag) → rest_at {V = Value} dropped p pc ≡ next
  global_rest flag u number v pc here =
      ap (λ o. elim o as (λ _. Text) [ None ↦ trap | Some i ↦ rest_by {V = Value} dropped p pc i (opcode_of i) ]) here
      ∙ ap (rest_by {V = Value} dropped p pc (abc SetTabUp u number v flag)) (opcode_of-abc SetTabUp u number v flag)

module _ (S : Setting) (ps : List Pending) where
  -- the store of w, which stands in register v, where the table stands in register r and the key waits
  pub waiting_goes : (s : FieldKey) (l r v u n pc opened : ℕ) (o key w : Value) (env regs : List Value) (c : Captured) (rest : List (Target × Value)) (k : List Work)
      → KeyWaits S.code.own.constants s key r regs → HasAt S pc (field_store s r r v l ∷ []) → pc + 1 < length S.code.own.code → r + 1 < S.code.own.stack → v < S.code.own.stack → Rel S.hidden S.code.own.stack ps env c regs
      → nth regs r ≡ o → nth regs v ≡ w
      → ((env1 regs1 : List Value) (c1 : Captured) → After S.hidden S.code.own.stack ps env regs u env1 regs1 c1 → Agree S n (tree.at (store rest) (of_tree S ps env1 c1) k) (before (of_code S ps (pc + 1) regs1 opened) c1))
      → Agree S n (tree.at (store ((to_field l o key, w) ∷ rest)) (of_tree S ps env c) k) (before (of_code S ps pc regs opened) c)
  waiting_goes (a_name number) l r v u n pc opened o key w env regs c rest k waits has inside two room rel r_is v_is goes =
      store_name_goes S ps false r number v u n l pc opened waits.0 o w _ env regs c k (λ ws. store rest)
      (ap (λ q. asks (operates storing (o ∷ q ∷ w ∷ [])) l (of_tree S ps env c) k (λ ws. store rest)) waits.1.0) has inside (omega (arith, two)) waits.1.1.1 (room, v_is) waits.1.1.0 rel r_is
      (λ ws env1 regs1 c1 af. goes env1 regs1 c1 af)
  waiting_goes (an_index m) l r v u n pc opened o key w env regs c rest k waits has inside two room rel r_is v_is goes =
      store_index_goes S ps false r m v u n l pc opened o w _ env regs c k (λ ws. store rest)
      (ap (λ q. asks (operates storing (o ∷ q ∷ w ∷ [])) l (of_tree S ps env c) k (λ ws. store rest)) waits.0) has inside (omega (arith, two)) waits.1 (room, v_is) rel r_is
      (λ ws env1 regs1 c1 af. goes env1 regs1 c1 af)
  waiting_goes (a_register q) l r v u n pc opened o key w env regs c rest k waits has inside two room rel r_is v_is goes = absurd waits
  waiting_goes evaluated l r v u n pc opened o key w env regs c rest k waits has inside two room rel r_is v_is goes =
      store_goes S ps false r (r + 1) v u n l pc opened o key w _ env regs c k (λ ws. store rest) refl has inside (omega (arith, two)) two (room, v_is) rel r_is waits
      (λ ws env1 regs1 c1 af. goes env1 regs1 c1 af)

  -- the value of an expression that the fields k and C name
  abbrev value_of : (e : Exp) → (flag : Bool) → (v : ℕ) → StoredIn S.code.own.constants e flag v → (env : List Value) → Value
  value_of e true v is env = known (constant is.value)
  value_of e false v is env = nth env v

  evaluated_so : (e : Exp) (flag : Bool) (v n : ℕ) (is : StoredIn S.code.own.constants e flag v) (env : List Value) (c : Captured) (k : List Work) (q : code.State)
      → Agree S n (tree.at (give (value_of e flag v is env ∷ [])) (of_tree S ps env c) k) q → Agree S n (tree.at (evaluate e) (of_tree S ps env c) k) q
  evaluated_so e true v n is env c k q next = literal_read S ps e is.value is.is n env c k q next
  evaluated_so e false v n is env c k q next = local_read S ps e v n env c k q is next

  named_so : (e : Exp) (flag : Bool) (v : ℕ) (is : StoredIn S.code.own.constants e flag v) (env regs : List Value) (c : Captured) → (flag ≡ false → v < length env) → Rel S.hidden S.code.own.stack ps env c regs
      → NamesValue S flag v (value_of e flag v is env) regs
  named_so e true v is env regs c below rel = (is.value, (refl, (is.there, is.short)))
  named_so e false v is env regs c below rel = let low = below refl in (omega (arith, low, rel.fits), sym (rel.agree v low))

  -- the target is known and the value is there: the code has nothing to do for it
  value_read : (e : Exp) (flag : Bool) (v l n : ℕ) (is : StoredIn S.code.own.constants e flag v) (o key : Value) (env : List Value) (c : Captured) (k : List Work) (q : code.State)
      → Agree S n (tree.at (store ((to_field l o key, value_of e flag v is env) ∷ [])) (of_tree S ps env c) k) q → Agree S n (tree.at (aim (to_field l o key ∷ []) EndExps (MoreExps e EndExps)) (of_tree S ps env c) k) q
  value_read e flag v l n is o key env c k q next =
      let to = for_assignment (to_field l o key ∷ []) in
      let w = value_of e flag v is env in
      go_left S n _ (tree.at (collect to [] (MoreExps e EndExps)) (of_tree S ps env c) k) q refl
      (go_left S n _ (tree.at (evaluate e) (of_tree S ps env c) (listed to [] EndExps ∷ k)) q refl
      (evaluated_so e flag v n is env c (listed to [] EndExps ∷ k) q
      (go_left S n _ (tree.at (collect to (w ∷ []) EndExps) (of_tree S ps env c) k) q refl
      (go_left S n _ (tree.at (store ((to_field l o key, w) ∷ [])) (of_tree S ps env c) k) q refl next))))

  -- what is left once the store is done
  abbrev GoesStored : (n t : ℕ) → (env regs : List Value) → (pc : ℕ) → (k : List Work) → Type 0
  GoesStored n t env regs pc k =
      (env' regs' : List Value) (c' : Captured) (opened' : ℕ) → After S.hidden S.code.own.stack ps env regs t env' regs' c'
      → Agree S n (tree.at (store []) (of_tree S ps env' c') k) (before (of_code S ps pc regs' opened') c')

  -- what one instruction does that stores a value at a global name of this place
  abbrev StoresAt : Place → Opcode → (a : ℕ) → Type 0
  StoresAt place op a =
      (text : List ℕ) (e : Exp) (flag : Bool) (v l t n pc opened : ℕ) (s : tree.State) (env regs : List Value) (c : Captured) (k : List Work)
      → step s ≡ aims_at_name l text place [] EndExps (MoreExps e EndExps) (of_tree S ps env c) k → StoredIn S.code.own.constants e flag v → (flag ≡ false → v < length env) → number_in S.code.own.constants (StrConst text) < 256
      → HasAt S pc ((abc op a (number_in S.code.own.constants (StrConst text)) v flag, l) ∷ []) → NameIsPlaced S place text (length env) → pc + 1 < length S.code.own.code → length env ≤ t → Rel S.hidden S.code.own.stack ps env c regs
      → GoesStored n t env regs (pc + 1) k → Agree S n s (before (of_code S ps pc regs opened) c)

  -- SETTABUP
  upvalue_goes : (u : ℕ) → StoresAt (GlobalOf u) SetTabUp u
  upvalue_goes u text e flag v l t n pc opened s env regs c k st is below short has ok inside le rel goes =
      let number = number_in S.code.own.constants (StrConst text) in
      let key = known (string text) in
      let here = here_abc S SetTabUp u number v flag l pc [] has in
      one_alike S ps n s _ (reads_upvalue u) (reads_upvalue u) l pc opened t env regs c k (λ vs. aim (to_field l (first vs) key ∷ []) EndExps (MoreExps e EndExps)) (entry_text number flag v) [] st
      (global_step S.code flag u number v (of_code S ps pc regs opened) c has.0 ok.0 (omega (arith, short)) (names_fits S flag v (value_of e flag v is env) regs (named_so e flag v is env regs c below rel))) (λ m lt. refl) refl (λ reply fits. fits) rel here
      (λ o env1 regs1 c1 af.
      let size = af.size in
      let there = next_there S (pc + 1) inside in
      let w = value_of e flag v is env1 in
      let named = named_so e flag v is env1 regs1 c1 (λ local. let low = below local in omega (arith, low, size)) af.rel in
      value_read e flag v l n is o key env1 c1 k _
      (asks_alike S ps n dropped told_dropped _ _ (operates storing (o ∷ key ∷ w ∷ [])) (operates storing (o ∷ key ∷ w ∷ [])) l pc opened t env1 regs1 c1 k (λ ws. store []) refl
      (entry_step S.code flag number v (StrConst text) o w (of_code S ps pc regs1 opened) c1 ok.1.there (names_value S flag v w regs1 af.rel.room named))
      (λ m. (refl, refl)) refl af.rel here
      (λ ws env2 regs2 c2 af2. go_right S n _ _ (before (of_code S ps (pc + 1) regs2 opened) c2)
      (ap (λ q. talk S.code q ws (of_code S ps pc regs2 opened) c2) (global_rest S.code flag u number v pc has.0) ∙ go_step S.code 1 there.0 ws (of_code S ps pc regs2 opened) c2 there.1)
      (goes env2 regs2 c2 opened (after_then S.hidden S.code.own.stack ps env regs env1 regs1 env2 regs2 c1 c2 t t (omega arith) af af2)))))

  -- SETFIELD of a local
  field_goes : (m : ℕ) → StoresAt (GlobalIn m) SetField m
  field_goes m text e flag v l t n pc opened s env regs c k st is below short has ok inside le rel goes =
      let number = number_in S.code.own.constants (StrConst text) in
      let key = known (string text) in
      let low = ok.0 in
      go_left S n s (tree.at (aim (to_field l (nth env m) key ∷ []) EndExps (MoreExps e EndExps)) (of_tree S ps env c) k) _ st
      (value_read e flag v l n is (nth env m) key env c k _
      (store_name_goes S ps flag m number v t n l pc opened (StrConst text) (nth env m) (value_of e flag v is env) _ env regs c k (λ ws. store []) refl has inside (omega (arith, low, rel.fits)) short
      (named_so e flag v is env regs c below rel) ok.1.there rel (sym (rel.agree m low)) (λ ws env1 regs1 c1 af. goes env1 regs1 c1 opened af)))

  pub local_goes : (line : ℕ) (name : Name) (e : Exp) (flag : Bool) (v : ℕ) (x : Coded) (t n j pc opened : ℕ) (env regs : List Value) (c : Captured) (k : List Work)
      → StoredIn S.code.own.constants e flag v → number_in S.code.own.constants (StrConst name.text) < 256 → global_store name.place (number_in S.code.own.constants (StrConst name.text)) flag v line ≡ Some x
      → HasAt S pc (x ∷ []) → NameIsPlaced S name.place name.text (length env) → IsPlaced S e (length env) j → pc + 1 < length S.code.own.code → length env ≤ t → Rel S.hidden S.code.own.stack ps env c regs
      → GoesStored n t env regs (pc + 1) k
      → Agree S n (tree.at (aim [] (MoreExps (Var line name) EndExps) (MoreExps e EndExps)) (of_tree S ps env c) k) (before (of_code S ps pc regs opened) c)
  local_goes line name e flag v x t n j pc opened env regs c k is short stored has ok_name ok inside le rel goes = by name.place refl stored ok_name
    where
      s : tree.State
      s = tree.at (aim [] (MoreExps (Var line name) EndExps) (MoreExps e EndExps)) (of_tree S ps env c) k

      below_by : (b : Bool) → StoredIn S.code.own.constants e b v → b ≡ false → v < length env
      below_by true is local = absurd (cc)
      below_by false is local = local_placed S e v (length env) j is ok

      below : flag ≡ false → v < length env
      below = below_by flag is

      aims : (place : Place) → name.place ≡ place → step s ≡ aims_at_name line name.text place [] EndExps (MoreExps e EndExps) (of_tree S ps env c) k
      aims place is = ap (λ q. aims_at_name line name.text q [] EndExps (MoreExps e EndExps) (of_tree S ps env c) k) is

      by : (place : Place) → name.place ≡ place → global_store place (number_in S.code.own.constants (StrConst name.text)) flag v line ≡ Some x → NameIsPlaced S place name.text (length env) → Agree S n s (before (of_code S ps pc regs opened) c)
      by Unset at stored found = absurd found
      by (LocalPlace m) at stored found = absurd (cc)
      by (Upvalue u) at stored found = absurd (cc)
      by (GlobalIn m) at stored found =
          let one : Coded = (abc SetField m (number_in S.code.own.constants (StrConst name.text)) v flag, line) in
          field_goes m name.text e flag v line t n pc opened s env regs c k (aims (GlobalIn m) at) is below short (subst (λ z. HasAt S pc (z ∷ [])) (sym (some_store one x stored)) has) found inside le rel goes
      by (GlobalOf u) at stored found =
          let one : Coded = (abc SetTabUp u (number_in S.code.own.constants (StrConst name.text)) v flag, line) in
          upvalue_goes u name.text e flag v line t n pc opened s env regs c k (aims (GlobalOf u) at) is below short (subst (λ z. HasAt S pc (z ∷ [])) (sym (some_store one x stored)) has) found inside le rel goes
