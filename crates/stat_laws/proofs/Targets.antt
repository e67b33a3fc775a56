-- Targets of assignments, looked at from left to right: the table and the key of each go to two registers, but for a key that the store names itself.
use Rattle.std.proofs.Common.{◌≡◌, ℕ, suc, ◌+◌, ◌*◌, ◌<◌, ◌≤◌, ◌^◌, pos, false, List, [], ◌∷◌, ◌++◌, length, Option, Some, None, slice_get, refl, sym, ap, subst, ◌∙◌, arith, append_assoc, length-append}
use Rattle.int_core.specs.Value.{Value, known, integer, string, nth, write}
use Rattle.int_core.specs.Ask.{reads_upvalue, Captured, goes_on}
use Rattle.tree_core.specs.declared.name.Name.{Name}
use Rattle.tree_core.specs.declared.name.Place.{Place}
use Rattle.tree_core.specs.declared.name.Place.TheVariants.{Unset, Upvalue, GlobalIn, GlobalOf, Local as LocalPlace}
use Rattle.tree_core.specs.Tree.{Exp, Var, Index, Exps, EndExps, MoreExps}
use Rattle.tree_activation.specs.Work.{evaluate, give, collect, aim, Target, to_local, to_upvalue, to_field, for_assignment, aimed_key, aimed_field, Work, Pending}
use Rattle.tree_activation.specs.Work as tree
use Rattle.tree_activation.specs.Activation.{step}
use Rattle.tree_activation.specs.Asking.{first}
use Rattle.tree_activation.specs.Statements.{aims_at_name}
use Rattle.code_core.specs.declared.opcode.Opcode.TheVariants.{Move, GetUpval, SetUpval}
use Rattle.code_core.specs.declared.proto.Const.{Const}
use Rattle.code_core.specs.declared.proto.Const.TheVariants.{Str as StrConst}
use Rattle.machine_core.specs.Text.{read, constant}
use Rattle.machine_core.specs.InstructionRows.{to_register}
use Rattle.machine_core.specs.Talk.{before}
use Rattle.list_laws.proofs.Items.{append_nil}
use Rattle.list_laws.proofs.Values.{nth_write_same, nth_write_other}
use Rattle.code_of.specs.Coded.{Coded, with_abc}
use Rattle.code_of.specs.Constants.{number_in, loads, Found}
use Rattle.code_of.specs.Expressions.{made_by, count, exp_code}
use Rattle.code_of.specs.Parts.{name_target, target_code, targets_code, name_store, store_code}
use Rattle.code_of.specs.Stores.{FieldKey, a_name, an_index, a_register, evaluated, field_key_by, key_code, field_store}
use Rattle.code_of.specs.Targets.{waiting_key, text_number}
use Rattle.code_of.proofs.Stores.{short_is}
use Rattle.code_of.proofs.Targets.{Waits, key_waits}
use Rattle.exp_laws.proofs.Registers.{Among, none_among, Rel, After, after_none, after_then, after_put}
use Rattle.exp_laws.specs.Setting.{Hidden, Setting}
use Rattle.exp_laws.proofs.Talking.{Agree, go_left, go_right, of_tree, of_code}
use Rattle.exp_laws.proofs.Placing.{HasAt, has_front, has_back, here_abc}
use Rattle.exp_laws.specs.Placed.{NameIsPlaced, IsPlaced}
use Rattle.code_of.specs.Rooms.{room_of, room_of_target}
use Rattle.exp_laws.proofs.Going.{next_there, at_place}
use Rattle.exp_laws.proofs.Asking.{one_alike}
use Rattle.exp_laws.proofs.NameForms.{load_right}
use Rattle.exp_laws.proofs.Operands.{numeral_read}
use Rattle.exp_laws.proofs.Exps.{exp_same}
use Rattle.exp_laws.proofs.Steps.{move_step, to_register_step, upvalue_step}
use Rattle.stat_laws.specs.Scoped.{MayAssign, IsTarget, TargetsArePlaced}

-- the value in register v goes to a target. The table of a field stands in register r, and its key so
abbrev pub store_to : Target → FieldKey → (line r v : ℕ) → List Coded
store_to (to_local n) s line r v = with_abc Move n v 0 line ∷ []
store_to (to_upvalue l u) s line r v = with_abc SetUpval v u 0 l ∷ []
store_to (to_field l o key) s line r v = field_store s r r v l ∷ []

module _ (constants : List Const) where
  -- a key that waits is no local, which another store may write
  abbrev pub KeyWaits : FieldKey → (key : Value) → (r : ℕ) → List Value → Type 0
  KeyWaits (a_name number) key r regs = (x : Const) × ((key ≡ known (constant x)) × ((slice_get constants number ≡ Some x) × (number < 256)))
  KeyWaits (an_index m) key r regs = (key ≡ known (integer (pos m))) × (m ≤ 255)
  KeyWaits (a_register q) key r regs = ⊥
  KeyWaits evaluated key r regs = nth regs (r + 1) ≡ key

  key_still : (s : FieldKey) (key : Value) (r : ℕ) (regs regs' : List Value) → nth regs' (r + 1) ≡ nth regs (r + 1) → KeyWaits s key r regs → KeyWaits s key r regs'
  key_still (a_name number) key r regs regs' b h = h
  key_still (an_index m) key r regs regs' b h = h
  key_still (a_register q) key r regs regs' b h = h
  key_still evaluated key r regs regs' b h = b ∙ h

  abbrev pub Stands : (hidden : Hidden) → Target → FieldKey → (r t : ℕ) → List Value → Type 0
  Stands hidden (to_local n) s r t regs = (n < t) × (Among n hidden.integers → ⊥)
  Stands hidden (to_upvalue l u) s r t regs = u < 2 ^ 8
  Stands hidden (to_field l o key) s r t regs = (nth regs r ≡ o) × KeyWaits s key r regs

  pub stands_still : (hidden : Hidden) (x : Target) (s : FieldKey) (r t : ℕ) (regs regs' : List Value) → nth regs' r ≡ nth regs r → nth regs' (r + 1) ≡ nth regs (r + 1) → Stands hidden x s r t regs → Stands hidden x s r t regs'
  stands_still hidden (to_local n) s r t regs regs' a b h = h
  stands_still hidden (to_upvalue l u) s r t regs regs' a b h = h
  stands_still hidden (to_field l o key) s r t regs regs' a b h = (a ∙ h.0, key_still s key r regs regs' b h.1)

module _ (S : Setting) where
  -- what the tree knows of a target is what the code will store to
  pub record Aimed (e : Exp) (r t : ℕ) (x : Target) (regs : List Value) : Type 0 where
    pub line : ℕ
    pub key : FieldKey
    pub stores : (v : ℕ) → store_code S.code.own.constants e r v ≡ store_to x key line r v
    pub stands : Stands S.code.own.constants S.hidden x key r t regs

  abbrev pub AllAimed : Exps → (r t : ℕ) → List Target → List Value → Type 0
  AllAimed EndExps r t [] regs = Unit {0}
  AllAimed (MoreExps e es) r t (x ∷ xs) regs = Aimed e r t x regs × AllAimed es (r + 2) t xs regs
  AllAimed EndExps r t (x ∷ xs) regs = ⊥
  AllAimed (MoreExps e es) r t [] regs = ⊥

  still : (e : Exp) (r t : ℕ) (x : Target) (regs regs' : List Value) → nth regs' r ≡ nth regs r → nth regs' (r + 1) ≡ nth regs (r + 1) → Aimed e r t x regs → Aimed e r t x regs'
  still e r t x regs regs' a b h = record { line = h.line; key = h.key; stores = h.stores; stands = stands_still S.code.own.constants S.hidden x h.key r t regs regs' a b h.stands }

  pub all_still : (ts : Exps) (r t v : ℕ) (xs : List Target) (regs regs' : List Value) → t ≤ r → r + 2 * count ts ≤ v → ((q : ℕ) → t ≤ q → q < v → nth regs' q ≡ nth regs q) → AllAimed ts r t xs regs → AllAimed ts r t xs regs'
  all_still EndExps r t v [] regs regs' le room same h = tt
  all_still EndExps r t v (x ∷ xs) regs regs' le room same h = absurd h
  all_still (MoreExps e es) r t v [] regs regs' le room same h = absurd h
  all_still (MoreExps e es) r t v (x ∷ xs) regs regs' le room same h =
      (still e r t x regs regs' (same r le (omega (arith, room))) (same (r + 1) (omega arith) (omega (arith, room))) h.0, all_still es (r + 2) t v xs regs regs' (omega arith) (omega (arith, room)) same h.1)

module _ (S : Setting) (ps : List Pending) where
  -- the code at pc goes on as the tree does with one more target
  abbrev Reaches : (n : ℕ) (e : Exp) (ts es : Exps) (aimed : List Target) (r t : ℕ) (env regs : List Value) (pc : ℕ) (k : List Work) → Type 0
  Reaches n e ts es aimed r t env regs pc k =
      (x : Target) (env1 regs1 : List Value) (c1 : Captured) (opened1 : ℕ) → After S.hidden S.code.own.stack ps env regs r env1 regs1 c1 → Aimed S e r t x regs1
      → Agree S n (tree.at (aim (aimed ++ x ∷ []) ts es) (of_tree S ps env1 c1) k) (before (of_code S ps pc regs1 opened1) c1)

  -- the code of a global name's key
  abbrev text_code : (number : Option ℕ) → (text : List ℕ) → (l r : ℕ) → List Coded
  text_code number text l r = key_code (field_key_by number None None) (loads S.code.own.constants (StrConst text) (r + 1) l)

  -- the table of a global name is in its register, and the key follows where the store does not name it
  key_follows : (number : Option ℕ) (o : Value) (text : List ℕ) (l r t n pc opened : ℕ) (e : Exp) (ts es : Exps) (aimed : List Target) (env regs env1 regs1 : List Value) (c1 : Captured) (k : List Work)
      → text_number S.code.own.constants text ≡ number → ((v : ℕ) → store_code S.code.own.constants e r v ≡ field_store (field_key_by number None None) r r v l ∷ []) → Found S.code.own.constants (StrConst text)
      → HasAt S (pc + 1) (text_code number text l r) → pc + suc (length (text_code number text l r)) < length S.code.own.code → length env ≡ t → t ≤ r → r + 1 < S.code.own.stack → After S.hidden S.code.own.stack ps env regs r env1 regs1 c1
      → Reaches n e ts es aimed r t env regs (pc + suc (length (text_code number text l r))) k
      → Agree S n (tree.at (aim (aimed ++ to_field l o (known (string text)) ∷ []) ts es) (of_tree S ps env1 c1) k) (before (of_code S ps (pc + 1) (write r o regs1) opened) c1)
  key_follows (Some number) o text l r t n pc opened e ts es aimed env regs env1 regs1 c1 k named stores found has inside size le room af goes =
      let short = short_is (number_in S.code.own.constants (StrConst text)) number named in
      let one = after_put S.hidden S.code.own.stack ps env1 regs1 c1 r o (omega (arith, size, le, af.size)) af.rel in
      goes (to_field l o (known (string text))) env1 (write r o regs1) c1 opened (after_then S.hidden S.code.own.stack ps env regs env1 regs1 env1 (write r o regs1) c1 c1 r r (omega arith) af one)
      (record { line = l; key = a_name number; stores = stores; stands = (nth_write_same r o regs1, (StrConst text, (refl, (ap (slice_get S.code.own.constants) short.0 ∙ found.there, short.1)))) })
  key_follows None o text l r t n pc opened e ts es aimed env regs env1 regs1 c1 k named stores found has inside size le room af goes =
      let key = known (string text) in
      let key_code = loads S.code.own.constants (StrConst text) (r + 1) l in
      let regs2 = write r o regs1 in
      let regs3 = write (r + 1) key regs2 in
      let one = after_put S.hidden S.code.own.stack ps env1 regs1 c1 r o (omega (arith, size, le, af.size)) af.rel in
      let two = after_put S.hidden S.code.own.stack ps env1 regs2 c1 (r + 1) key (omega (arith, size, le, af.size)) one.rel in
      load_right S ps (StrConst text) (r + 1) l n (pc + 1) opened _ regs2 c1 found has (omega (arith, inside)) (omega (arith, room, S.small)) (omega (arith, room, one.rel.room))
      (at_place S ps n (pc + 1 + length key_code) (pc + suc (length key_code)) opened _ regs3 c1 (omega arith)
      (goes (to_field l o key) env1 regs3 c1 opened
      (after_then S.hidden S.code.own.stack ps env regs env1 regs1 env1 regs3 c1 c1 r r (omega arith) af (after_then S.hidden S.code.own.stack ps env1 regs1 env1 regs2 env1 regs3 c1 c1 r (r + 1) (omega arith) one two))
      (record { line = l; key = evaluated; stores = stores; stands = (nth_write_other (r + 1) key regs2 r (λ d. absurd (omega (arith, d))) ∙ nth_write_same r o regs1, nth_write_same (r + 1) key regs2) })))

  name_aims : (place : Place) (text : List ℕ) (l r t n pc opened : ℕ) (e : Exp) (ts es : Exps) (aimed : List Target) (s : tree.State) (env regs : List Value) (c : Captured) (k : List Work)
      → step s ≡ aims_at_name l text place aimed ts es (of_tree S ps env c) k → ((v : ℕ) → store_code S.code.own.constants e r v ≡ name_store S.code.own.constants place text r v l)
      → HasAt S pc (name_target S.code.own.constants place text r l) → NameIsPlaced S place text t → MayAssign S.hidden place → pc + length (name_target S.code.own.constants place text r l) < length S.code.own.code
      → length env ≡ t → t ≤ r → r + 1 < S.code.own.stack → Rel S.hidden S.code.own.stack ps env c regs → Reaches n e ts es aimed r t env regs (pc + length (name_target S.code.own.constants place text r l)) k
      → Agree S n s (before (of_code S ps pc regs opened) c)
  name_aims Unset text l r t n pc opened e ts es aimed s env regs c k st stores has ok free inside size le room rel goes = absurd ok
  name_aims (LocalPlace m) text l r t n pc opened e ts es aimed s env regs c k st stores has ok free inside size le room rel goes =
      let same : pc ≡ pc + 0 = omega arith in
      go_left S n s (tree.at (aim (aimed ++ to_local m ∷ []) ts es) (of_tree S ps env c) k) _ st
      (at_place S ps n pc (pc + 0) opened _ regs c same (goes (to_local m) env regs c opened (after_none S.hidden S.code.own.stack ps env regs c r rel) (record { line = l; key = evaluated; stores = stores; stands = (ok, none_among m S.hidden.integers free) })))
  name_aims (Upvalue u) text l r t n pc opened e ts es aimed s env regs c k st stores has ok free inside size le room rel goes =
      let same : pc ≡ pc + 0 = omega arith in
      go_left S n s (tree.at (aim (aimed ++ to_upvalue l u ∷ []) ts es) (of_tree S ps env c) k) _ st
      (at_place S ps n pc (pc + 0) opened _ regs c same (goes (to_upvalue l u) env regs c opened (after_none S.hidden S.code.own.stack ps env regs c r rel) (record { line = l; key = evaluated; stores = stores; stands = ok })))
  name_aims (GlobalIn m) text l r t n pc opened e ts es aimed s env regs c k st stores has ok free inside size le room rel goes =
      let there = next_there S (pc + 1) (omega (arith, inside)) in
      let below = ok.0 in
      go_left S n s (tree.at (aim (aimed ++ to_field l (nth env m) (known (string text)) ∷ []) ts es) (of_tree S ps env c) k) _ st
      (go_right S n _ _ (before (of_code S ps (pc + 1) (write r (nth env m) regs) opened) c)
      (move_step S.code (of_code S ps pc regs opened) c there.0 there.1 r m has.0 (omega (arith, room, S.small)) (omega (arith, below, le, room, S.small)) (omega (arith, below, le, room, rel.room)) (omega (arith, room, rel.room))
      ∙ ap (λ v. goes_on (before (of_code S ps (pc + 1) (write r v regs) opened) c)) (sym (rel.agree m (omega (arith, below, size)))))
      (key_follows (text_number S.code.own.constants text) (nth env m) text l r t n pc opened e ts es aimed env regs env regs c k refl stores ok.1 has.1.1 inside size le room (after_none S.hidden S.code.own.stack ps env regs c r rel) goes))
  name_aims (GlobalOf u) text l r t n pc opened e ts es aimed s env regs c k st stores has ok free inside size le room rel goes =
      one_alike S ps n s _ (reads_upvalue u) (reads_upvalue u) l pc opened r env regs c k (λ vs. aim (aimed ++ to_field l (first vs) (known (string text)) ∷ []) ts es) (to_register r (read 0)) [] st
      (upvalue_step S.code r u (of_code S ps pc regs opened) c has.0 (omega (arith, room, S.small)) ok.0) (λ m lt. refl) refl (λ reply fits. fits) rel
      (here_abc S GetUpval r u 0 false l pc (text_code (text_number S.code.own.constants text) text l r) has)
      (λ o env1 regs1 c1 af. let there = next_there S (pc + 1) (omega (arith, inside)) in
      go_right S n _ _ (before (of_code S ps (pc + 1) (write r o regs1) opened) c1)
      (to_register_step S.code r (read 0) there.0 (o ∷ []) (of_code S ps pc regs1 opened) c1 (omega (arith, room, af.rel.room)) there.1)
      (key_follows (text_number S.code.own.constants text) o text l r t n pc opened e ts es aimed env regs env1 regs1 c1 k refl stores ok.1 has.1.1 inside size le room af goes))

  abbrev pub AimLaw : Exp → Type 0
  AimLaw e =
      (r t n j pc opened : ℕ) (ts es : Exps) (aimed : List Target) (env regs : List Value) (c : Captured) (k : List Work)
      → n ≤ S.bound → HasAt S pc (target_code S.code.own.constants e r j) → IsTarget S.hidden e → IsPlaced S e t j → pc + length (target_code S.code.own.constants e r j) < length S.code.own.code
      → length env ≡ t → t ≤ r → r + 1 < S.code.own.stack → r + room_of_target S.code.own.constants e ≤ S.code.own.stack → Rel S.hidden S.code.own.stack ps env c regs
      → Reaches n e ts es aimed r t env regs (pc + length (target_code S.code.own.constants e r j)) k
      → Agree S n (tree.at (aim aimed (MoreExps e ts) es) (of_tree S ps env c) k) (before (of_code S ps pc regs opened) c)

  -- the key of a field, whose object o is in register r
  key_goes : (s : FieldKey) (key : Exp) (l r n j pc opened : ℕ) (ts es : Exps) (aimed : List Target) (o : Value) (env regs : List Value) (c : Captured) (k : List Work)
      → Waits S.code.own.constants key s → n ≤ S.bound → HasAt S pc (key_code s (exp_code S.code.own.constants key (r + 1) j 2)) → IsPlaced S key (length env) j
      → pc + length (key_code s (exp_code S.code.own.constants key (r + 1) j 2)) < length S.code.own.code → length env ≤ r → r + 1 + room_of S.code.own.constants key 2 ≤ S.code.own.stack → Rel S.hidden S.code.own.stack ps env c regs
      → ((w : Value) (env1 regs1 : List Value) (c1 : Captured) (opened1 : ℕ) → After S.hidden S.code.own.stack ps env regs (r + 1) env1 regs1 c1 → KeyWaits S.code.own.constants s w r regs1
      → Agree S n (tree.at (aim (aimed ++ to_field l o w ∷ []) ts es) (of_tree S ps env1 c1) k) (before (of_code S ps (pc + length (key_code s (exp_code S.code.own.constants key (r + 1) j 2))) regs1 opened1) c1))
      → Agree S n (tree.at (evaluate key) (of_tree S ps env c) (aimed_field l o aimed ts es ∷ k)) (before (of_code S ps pc regs opened) c)
  key_goes (a_name number) key l r n j pc opened ts es aimed o env regs c k waits fewer has ok inside le room rel goes =
      let wait = aimed_field l o aimed ts es in
      let found = subst (λ q. IsPlaced S q (length env) j) waits.is ok in
      let w = known (constant (StrConst waits.bytes)) in
      let same : pc ≡ pc + 0 = omega arith in
      go_left S n _ (tree.at (give (w ∷ [])) (of_tree S ps env c) (wait ∷ k)) _ (ap (λ q. step (tree.at (evaluate q) (of_tree S ps env c) (wait ∷ k))) waits.is)
      (go_left S n _ (tree.at (aim (aimed ++ to_field l o w ∷ []) ts es) (of_tree S ps env c) k) _ refl
      (at_place S ps n pc (pc + 0) opened _ regs c same
      (goes w env regs c opened (after_none S.hidden S.code.own.stack ps env regs c (r + 1) rel) (StrConst waits.bytes, (refl, (ap (slice_get S.code.own.constants) waits.same ∙ found.there, waits.short))))))
  key_goes (an_index m) key l r n j pc opened ts es aimed o env regs c k waits fewer has ok inside le room rel goes =
      let wait = aimed_field l o aimed ts es in
      let w = known (integer (pos m)) in
      let same : pc ≡ pc + 0 = omega arith in
      numeral_read S ps key m 255 n waits env c (wait ∷ k) _
      (go_left S n _ (tree.at (aim (aimed ++ to_field l o w ∷ []) ts es) (of_tree S ps env c) k) _ refl
      (at_place S ps n pc (pc + 0) opened _ regs c same (goes w env regs c opened (after_none S.hidden S.code.own.stack ps env regs c (r + 1) rel) (refl, waits.small))))
  key_goes (a_register q) key l r n j pc opened ts es aimed o env regs c k waits fewer has ok inside le room rel goes = absurd waits
  key_goes evaluated key l r n j pc opened ts es aimed o env regs c k waits fewer has ok inside le room rel goes =
      exp_same S ps key (r + 1) j n pc opened env regs c (aimed_field l o aimed ts es ∷ k) fewer has ok inside (omega (arith, le)) room rel
      (λ ws env1 regs1 c1 o1 af eq one. go_left S n _ (tree.at (aim (aimed ++ to_field l o (first ws) ∷ []) ts es) (of_tree S ps env1 c1) k) _ refl (goes (first ws) env1 regs1 c1 o1 af eq))

  index_aims : (l : ℕ) (object key : Exp) → AimLaw (Index l object key)
  index_aims l object key r t n j pc opened ts es aimed env regs c k fewer has is ok inside size le two room rel goes =
      by (waiting_key S.code.own.constants key) (key_waits S.code.own.constants key) (λ v. refl) has inside goes
    where
      first_code : List Coded
      first_code = exp_code S.code.own.constants object r j 2

      second : List Coded
      second = exp_code S.code.own.constants key (r + 1) (j + made_by object) 2

      by : (s : FieldKey) → Waits S.code.own.constants key s → ((v : ℕ) → store_code S.code.own.constants (Index l object key) r v ≡ field_store s r r v l ∷ []) → HasAt S pc (first_code ++ key_code s second)
          → pc + length (first_code ++ key_code s second) < length S.code.own.code → Reaches n (Index l object key) ts es aimed r t env regs (pc + length (first_code ++ key_code s second)) k
          → Agree S n (tree.at (aim aimed (MoreExps (Index l object key) ts) es) (of_tree S ps env c) k) (before (of_code S ps pc regs opened) c)
      by s waits stores has inside goes =
          let sum = length-append first_code (key_code s second) in
          go_left S n _ (tree.at (evaluate object) (of_tree S ps env c) (aimed_key l key aimed ts es ∷ k)) _ refl
          (exp_same S ps object r j n pc opened env regs c (aimed_key l key aimed ts es ∷ k) fewer (has_front S pc first_code (key_code s second) has) (subst (λ u. IsPlaced S object u j) (sym size) ok.0)
          (omega (arith, inside, sum)) (omega (arith, size, le)) (omega (arith, room)) rel
          (λ vs env1 regs1 c1 o1 af eq one. go_left S n _ (tree.at (evaluate key) (of_tree S ps env1 c1) (aimed_field l (first vs) aimed ts es ∷ k)) _ refl
          (key_goes s key l r n (j + made_by object) (pc + length first_code) o1 ts es aimed (first vs) env1 regs1 c1 k waits fewer (has_back S pc first_code (key_code s second) has)
          (subst (λ u. IsPlaced S key u (j + made_by object)) (sym (af.size ∙ size)) ok.1) (omega (arith, inside, sum)) (omega (arith, size, le, af.size)) (omega (arith, room)) af.rel
          (λ w env2 regs2 c2 o2 af2 key_is. at_place S ps n (pc + length first_code + length (key_code s second)) (pc + length (first_code ++ key_code s second)) o2 _ regs2 c2 (omega (arith, sum))
          (goes (to_field l (first vs) w) env2 regs2 c2 o2 (after_then S.hidden S.code.own.stack ps env regs env1 regs1 env2 regs2 c1 c2 r (r + 1) (omega arith) af af2)
          (record { line = l; key = s; stores = stores; stands = (af2.keeps r (omega (arith, size, le, af.size)) (omega arith) ∙ eq, key_is) }))))))

  variable_aims : (l : ℕ) (name : Name) → AimLaw (Var l name)
  variable_aims l name r t n j pc opened ts es aimed env regs c k fewer has is ok inside size le two room rel goes =
      name_aims name.place name.text l r t n pc opened (Var l name) ts es aimed _ env regs c k refl (λ v. refl) has ok is inside size le two rel goes

  no_target : (e : Exp) → (IsTarget S.hidden e → ⊥) → AimLaw e
  no_target e none r t n j pc opened ts es aimed env regs c k fewer has is = absurd (none is)

  pub target_aims : (e : Exp) → AimLaw e
  target_aims (Var l name) = variable_aims l name
  target_aims (Index l o key) = index_aims l o key
  target_aims e = no_target e (λ is. is)

  -- all targets, and the values are next
  pub aim_goes : (ts : Exps) (r t n j pc opened : ℕ) (es : Exps) (aimed : List Target) (env regs : List Value) (c : Captured) (k : List Work)
      → n ≤ S.bound → HasAt S pc (targets_code S.code.own.constants ts r j) → TargetsArePlaced S ts r t j → pc + length (targets_code S.code.own.constants ts r j) < length S.code.own.code
      → length env ≡ t → t ≤ r → r + 2 * count ts ≤ S.code.own.stack → Rel S.hidden S.code.own.stack ps env c regs
      → ((xs : List Target) (env1 regs1 : List Value) (c1 : Captured) (opened1 : ℕ) → After S.hidden S.code.own.stack ps env regs r env1 regs1 c1 → AllAimed S ts r t xs regs1
      → Agree S n (tree.at (collect (for_assignment (aimed ++ xs)) [] es) (of_tree S ps env1 c1) k) (before (of_code S ps (pc + length (targets_code S.code.own.constants ts r j)) regs1 opened1) c1))
      → Agree S n (tree.at (aim aimed ts es) (of_tree S ps env c) k) (before (of_code S ps pc regs opened) c)
  aim_goes EndExps r t n j pc opened es aimed env regs c k fewer has ok inside size le room rel goes =
      let same : pc ≡ pc + 0 = omega arith in
      go_left S n _ (tree.at (collect (for_assignment aimed) [] es) (of_tree S ps env c) k) _ refl
      (at_place S ps n pc (pc + 0) opened _ regs c same
      (subst (λ l. Agree S n (tree.at (collect (for_assignment l) [] es) (of_tree S ps env c) k) (before (of_code S ps (pc + 0) regs opened) c)) (append_nil aimed)
      (goes [] env regs c opened (after_none S.hidden S.code.own.stack ps env regs c r rel) tt)))
  aim_goes (MoreExps e ts) r t n j pc opened es aimed env regs c k fewer has ok inside size le room rel goes =
      let head = target_code S.code.own.constants e r j in
      let tail = targets_code S.code.own.constants ts (r + 2) (j + made_by e) in
      let sum = length-append head tail in
      target_aims e r t n j pc opened ts es aimed env regs c k fewer (has_front S pc head tail has) ok.0 ok.1.0 (omega (arith, inside, sum)) size le (omega (arith, room)) ok.1.1.0 rel
      (λ x env1 regs1 c1 o1 af one. aim_goes ts (r + 2) t n (j + made_by e) (pc + length head) o1 es (aimed ++ x ∷ []) env1 regs1 c1 k fewer (has_back S pc head tail has) ok.1.1.1 (omega (arith, inside, sum))
      (af.size ∙ size) (omega arith) (omega (arith, room)) af.rel
      (λ xs env2 regs2 c2 o2 af2 all. at_place S ps n (pc + length head + length tail) (pc + length (head ++ tail)) o2 _ regs2 c2 (omega (arith, sum))
      (subst (λ l. Agree S n (tree.at (collect (for_assignment l) [] es) (of_tree S ps env2 c2) k) (before (of_code S ps (pc + length (head ++ tail)) regs2 o2) c2)) (sym (append_assoc aimed (x ∷ []) xs))
      (goes (x ∷ xs) env2 regs2 c2 o2 (after_then S.hidden S.code.own.stack ps env regs env1 regs1 env2 regs2 c1 c2 r (r + 2) (omega arith) af af2)
      (still S e r t x regs1 regs2 (af2.keeps r (omega (arith, size, le, af.size)) (omega arith)) (af2.keeps (r + 1) (omega (arith, size, le, af.size)) (omega arith)) one, all)))))
