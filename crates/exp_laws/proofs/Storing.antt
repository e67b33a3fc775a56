-- A value that is stored in a field of an object: the key and the value are evaluated in turn, or stand where they are, as a constant does in the store.
use Rattle.std.proofs.Common.{◌≡◌, ℕ, ◌+◌, ◌<◌, ◌≤◌, ⊎_elim, pos, Bool, true, false, List, [], ◌∷◌, ◌++◌, length, Some, slice_get, refl, sym, ap, subst, ◌∙◌, arith, length-append}
use Rattle.int_core.specs.Value.{Value, known, integer, nth}
use Rattle.int_core.specs.Operations.{store as storing}
use Rattle.int_core.specs.Ask.{operates, Captured}
use Rattle.tree_core.specs.Tree.{Exp}
use Rattle.tree_activation.specs.Work.{Control, evaluate, give, Work, Pending}
use Rattle.tree_activation.specs.Work as tree
use Rattle.tree_activation.specs.Activation.{step}
use Rattle.tree_activation.specs.Asking.{first, asks}
use Rattle.code_core.specs.declared.proto.Const.{Const}
use Rattle.code_core.specs.declared.proto.Const.TheVariants.{Str as StrConst}
use Rattle.machine_core.specs.Text.{constant}
use Rattle.machine_core.specs.Talk as talk
use Rattle.machine_core.specs.Talk.{before}
use Rattle.list_laws.proofs.Tests.{split}
use Rattle.code_of.specs.Coded.{Coded}
use Rattle.code_of.specs.Expressions.{exp_code}
use Rattle.code_of.specs.Rooms.{room_of}
use Rattle.code_of.specs.Stores.{FieldKey, a_name, an_index, a_register, evaluated, is_quiet, key_code, StoredValue, constant_value, local_value, made_value, value_code, is_constant, value_seat, field_store_by, room_of_key, room_of_value}
use Rattle.code_of.proofs.Stores.{FieldKeyStands}
use Rattle.code_of.proofs.StoredValues.{ValueStands}
use Rattle.exp_laws.specs.Setting.{Setting}
use Rattle.exp_laws.specs.Placed.{IsPlaced}
use Rattle.exp_laws.proofs.Registers.{Rel, After, after_then, lower}
use Rattle.exp_laws.proofs.Talking.{Agree, go_left, of_tree, of_code}
use Rattle.exp_laws.proofs.Placing.{HasAt, has_front, has_back}
use Rattle.exp_laws.proofs.Going.{at_place}
use Rattle.exp_laws.proofs.Operands.{ExpSame, local_placed, local_read, numeral_read}
use Rattle.exp_laws.proofs.Still.{Still}
use Rattle.exp_laws.proofs.Quieting.{quiet_same}
use Rattle.exp_laws.proofs.ConstantForms.{literal_read}
use Rattle.exp_laws.proofs.TableForms.{NamesValue, store_goes, store_index_goes, store_name_goes}

module _ (S : Setting) (ps : List Pending) where
  -- the key w stands so
  abbrev pub KeyIs : FieldKey → (w : Value) → (t : ℕ) → (regs : List Value) → Type 0
  KeyIs (a_name number) w t regs = (x : Const) × ((w ≡ known (constant x)) × ((slice_get S.code.own.constants number ≡ Some x) × (number < 256)))
  KeyIs (an_index m) w t regs = (w ≡ known (integer (pos m))) × (m ≤ 255)
  KeyIs (a_register r) w t regs = (r < t) × ((r < S.code.own.stack) × (nth regs r ≡ w))
  KeyIs evaluated w t regs = (t + 1 < S.code.own.stack) × (nth regs (t + 1) ≡ w)

  -- a key that is no local stands where it did while a value is made
  key_above : (s : FieldKey) (w : Value) (t : ℕ) (regs regs' : List Value) → nth regs' (t + 1) ≡ nth regs (t + 1) → ((r : ℕ) → s ≡ a_register r → ⊥) → KeyIs s w t regs → KeyIs s w t regs'
  key_above (a_name number) w t regs regs' same none h = h
  key_above (an_index m) w t regs regs' same none h = h
  key_above (a_register r) w t regs regs' same none h = absurd (none r refl)
  key_above evaluated w t regs regs' same none h = (h.0, same ∙ h.1)

  -- any key does while a quiet value is made
  key_still : (s : FieldKey) (w : Value) (t : ℕ) (regs regs' : List Value) → ((r : ℕ) → r < t + 2 → nth regs' r ≡ nth regs r) → KeyIs s w t regs → KeyIs s w t regs'
  key_still (a_name number) w t regs regs' same h = h
  key_still (an_index m) w t regs regs' same h = h
  key_still (a_register r) w t regs regs' same h = let low = h.0 in (low, (h.1.0, same r (omega (arith, low)) ∙ h.1.1))
  key_still evaluated w t regs regs' same h = (h.0, same (t + 1) (omega arith) ∙ h.1)

  -- a quiet value in t + 2 leaves the registers below as they were
  below_still : (t : ℕ) (env regs env1 regs1 : List Value) (c c1 : Captured) → Rel S.hidden S.code.own.stack ps env c regs → After S.hidden S.code.own.stack ps env regs (t + 2) env1 regs1 c1 → Still env env1
      → (r : ℕ) → r < t + 2 → nth regs1 r ≡ nth regs r
  below_still t env regs env1 regs1 c c1 rel af still r low =
      ⊎_elim (λ local. sym (af.rel.agree r (omega (arith, local, af.size))) ∙ still r ∙ rel.agree r local) (λ above. af.keeps r above low) (split r (length env))

  -- the code of the value d and the store, and that of the key in front
  abbrev value_part : FieldKey → StoredValue → (d : Exp) → (x t after line : ℕ) → List Coded
  value_part s value d x t after line = value_code value (exp_code S.code.own.constants d (t + 2) after 2) ++ field_store_by s (is_constant value) x t (value_seat value (t + 2)) line ∷ []

  abbrev pub key_part : FieldKey → StoredValue → (key d : Exp) → (x t j after line : ℕ) → List Coded
  key_part s value key d x t j after line = key_code s (exp_code S.code.own.constants key (t + 1) j 2) ++ value_part s value d x t after line

  -- The object o gets the value d. One work waits for the key, and another one for the value; the store is asked for then, and `done` is what goes on. Registers below u are kept
  module _ (o : Value) (d : Exp) (line n u : ℕ) (k : List Work) (wait : Work) (then_wait : Value → Work) (asking : (w : Value) (vs env : List Value) (c : Captured) → tree.State) (done : Control) where
    -- the key has a value, and the value's turn comes
    abbrev pub Turns : Type 0
    Turns = (vs env : List Value) (c : Captured) (t : talk.State) → Agree S n (tree.at (evaluate d) (of_tree S ps env c) (then_wait (first vs) ∷ k)) t → Agree S n (tree.at (give vs) (of_tree S ps env c) (wait ∷ k)) t

    -- the value is there, and the store's turn comes
    abbrev pub Ends : Type 0
    Ends = (w : Value) (vs env : List Value) (c : Captured) (t : talk.State) → Agree S n (asking w vs env c) t → Agree S n (tree.at (give vs) (of_tree S ps env c) (then_wait w ∷ k)) t

    abbrev pub Asks : Type 0
    Asks = (w : Value) (vs env : List Value) (c : Captured) → step (asking w vs env c) ≡ asks (operates storing (o ∷ w ∷ first vs ∷ [])) line (of_tree S ps env c) k (λ ws. done)

    -- what is left once the store is done
    abbrev pub GoesStored : (env regs : List Value) → (pc : ℕ) → Type 0
    GoesStored env regs pc =
        (env' regs' : List Value) (c' : Captured) (opened' : ℕ) → After S.hidden S.code.own.stack ps env regs u env' regs' c'
        → Agree S n (tree.at done (of_tree S ps env' c') k) (before (of_code S ps pc regs' opened') c')

    -- the store of the value, which its fields k and C name
    store_last : (s : FieldKey) (flag : Bool) (x t z pc opened : ℕ) (w : Value) (vs env regs : List Value) (c : Captured)
        → Asks → HasAt S pc (field_store_by s flag x t z line ∷ []) → pc + 1 < length S.code.own.code → x < S.code.own.stack → NamesValue S flag z (first vs) regs → Rel S.hidden S.code.own.stack ps env c regs
        → nth regs x ≡ o → KeyIs s w t regs → GoesStored env regs (pc + 1)
        → Agree S n (asking w vs env c) (before (of_code S ps pc regs opened) c)
    store_last (a_name number) flag x t z pc opened w vs env regs c asked has inside x_room is rel x_is key goes =
        store_name_goes S ps flag x number z u n line pc opened key.0 o (first vs) _ env regs c k (λ ws. done)
        (asked w vs env c ∙ ap (λ q. asks (operates storing (o ∷ q ∷ first vs ∷ [])) line (of_tree S ps env c) k (λ ws. done)) key.1.0) has inside x_room key.1.1.1 is key.1.1.0 rel x_is
        (λ ws env1 regs1 c1 af. goes env1 regs1 c1 opened af)
    store_last (an_index m) flag x t z pc opened w vs env regs c asked has inside x_room is rel x_is key goes =
        store_index_goes S ps flag x m z u n line pc opened o (first vs) _ env regs c k (λ ws. done)
        (asked w vs env c ∙ ap (λ q. asks (operates storing (o ∷ q ∷ first vs ∷ [])) line (of_tree S ps env c) k (λ ws. done)) key.0) has inside x_room key.1 is rel x_is
        (λ ws env1 regs1 c1 af. goes env1 regs1 c1 opened af)
    store_last (a_register r) flag x t z pc opened w vs env regs c asked has inside x_room is rel x_is key goes =
        store_goes S ps flag x r z u n line pc opened o w (first vs) _ env regs c k (λ ws. done) (asked w vs env c) has inside x_room key.1.0 is rel x_is key.1.1
        (λ ws env1 regs1 c1 af. goes env1 regs1 c1 opened af)
    store_last evaluated flag x t z pc opened w vs env regs c asked has inside x_room is rel x_is key goes =
        store_goes S ps flag x (t + 1) z u n line pc opened o w (first vs) _ env regs c k (λ ws. done) (asked w vs env c) has inside x_room key.0 is rel x_is key.1
        (λ ws env1 regs1 c1 af. goes env1 regs1 c1 opened af)

    -- the value is made and stored
    made_goes : (s : FieldKey) (x t after pc opened place : ℕ) (w : Value) (vs env regs env1 regs1 : List Value) (c c1 : Captured)
        → Ends → Asks → HasAt S pc (value_part s made_value d x t after line) → pc + length (value_part s made_value d x t after line) < length S.code.own.code
        → u ≤ t + 1 → x < S.code.own.stack → t + 2 < S.code.own.stack → After S.hidden S.code.own.stack ps env regs (t + 2) env1 regs1 c1 → nth regs1 x ≡ o → nth regs1 (t + 2) ≡ first vs → KeyIs s w t regs1
        → place ≡ pc + length (exp_code S.code.own.constants d (t + 2) after 2) → GoesStored env regs (pc + length (value_part s made_value d x t after line))
        → Agree S n (tree.at (give vs) (of_tree S ps env1 c1) (then_wait w ∷ k)) (before (of_code S ps place regs1 opened) c1)
    made_goes s x t after pc opened place w vs env regs env1 regs1 c c1 ends asked has inside low x_room room af x_is v_is key is goes =
        let code = exp_code S.code.own.constants d (t + 2) after 2 in
        let last = field_store_by s false x t (t + 2) line ∷ [] in
        let sum = length-append code last in
        at_place S ps n place (pc + length code) opened _ regs1 c1 is
        (ends w vs env1 c1 _
        (store_last s false x t (t + 2) (pc + length code) opened w vs env1 regs1 c1 asked (has_back S pc code last has) (omega (arith, inside, sum)) x_room (room, v_is) af.rel x_is key
        (λ env2 regs2 c2 o2 af2. at_place S ps n (pc + length code + 1) (pc + length (code ++ last)) o2 _ regs2 c2 (omega (arith, sum))
        (goes env2 regs2 c2 o2 (after_then S.hidden S.code.own.stack ps env regs env1 regs1 env2 regs2 c1 c2 u u (omega arith) (lower S.hidden S.code.own.stack ps env regs env1 regs1 c1 (t + 2) u (omega (arith, low)) af) af2)))))

    value_goes : (s : FieldKey) (quiet : Bool) (value : StoredValue) (x t after pc opened : ℕ) (w : Value) (env regs : List Value) (c : Captured)
        → Ends → Asks → ExpSame S ps d → 1 ≤ room_of S.code.own.constants d 2 → is_quiet d ≡ quiet → ValueStands S.code.own.constants d value → n ≤ S.bound → HasAt S pc (value_part s value d x t after line) → IsPlaced S d (length env) after
        → pc + length (value_part s value d x t after line) < length S.code.own.code → length env ≤ t → u ≤ t + 1 → (quiet ≡ false → x ≡ t) → x ≤ t → x < S.code.own.stack
        → t + room_of_value value (2 + room_of S.code.own.constants d 2) ≤ S.code.own.stack → Rel S.hidden S.code.own.stack ps env c regs
        → nth regs x ≡ o → KeyIs s w t regs → (quiet ≡ false → (r : ℕ) → s ≡ a_register r → ⊥) → GoesStored env regs (pc + length (value_part s value d x t after line))
        → Agree S n (tree.at (evaluate d) (of_tree S ps env c) (then_wait w ∷ k)) (before (of_code S ps pc regs opened) c)
    value_goes s quiet (local_value v) x t after pc opened w env regs c ends asked law some quiet_is is fewer has ok inside le low seats x_low x_room room rel x_is key none goes =
        let below = local_placed S d v (length env) after is ok in
        local_read S ps d v n env c (then_wait w ∷ k) _ is
        (ends w (nth env v ∷ []) env c _
        (store_last s false x t v pc opened w (nth env v ∷ []) env regs c asked has inside x_room (omega (arith, below, rel.fits), sym (rel.agree v below)) rel x_is key goes))
    value_goes s quiet (constant_value number) x t after pc opened w env regs c ends asked law some quiet_is is fewer has ok inside le low seats x_low x_room room rel x_is key none goes =
        let v : Value = known (constant is.value) in
        literal_read S ps d is.value is.is n env c (then_wait w ∷ k) _
        (ends w (v ∷ []) env c _
        (store_last s true x t number pc opened w (v ∷ []) env regs c asked has inside x_room (is.value, (refl, (is.there, is.short))) rel x_is key goes))
    value_goes s true made_value x t after pc opened w env regs c ends asked law some quiet_is is fewer has ok inside le low seats x_low x_room room rel x_is key none goes =
        let code = exp_code S.code.own.constants d (t + 2) after 2 in
        let last = field_store_by s false x t (t + 2) line ∷ [] in
        let sum = length-append code last in
        quiet_same S ps d quiet_is (t + 2) after n pc opened env regs c (then_wait w ∷ k) fewer (has_front S pc code last has) ok (omega (arith, inside, sum)) (omega (arith, le)) (omega (arith, room, some)) rel
        (λ v env1 regs1 c1 o1 af still eq. let same = below_still t env regs env1 regs1 c c1 rel af still in
        made_goes s x t after pc o1 (pc + length code) w (v ∷ []) env regs env1 regs1 c c1 ends asked has inside low x_room (omega (arith, room, some)) af
        (same x (omega (arith, x_low)) ∙ x_is) eq (key_still s w t regs regs1 same key) refl goes)
    value_goes s false made_value x t after pc opened w env regs c ends asked law some quiet_is is fewer has ok inside le low seats x_low x_room room rel x_is key none goes =
        let code = exp_code S.code.own.constants d (t + 2) after 2 in
        let last = field_store_by s false x t (t + 2) line ∷ [] in
        let sum = length-append code last in
        let here = seats refl in
        law (t + 2) after n pc opened env regs c (then_wait w ∷ k) fewer (has_front S pc code last has) ok (omega (arith, inside, sum)) (omega (arith, le)) (omega (arith, room)) rel
        (λ vs env1 regs1 c1 o1 af eq given.
        made_goes s x t after pc o1 (pc + length code) w vs env regs env1 regs1 c c1 ends asked has inside low x_room (omega (arith, room, some)) af
        (af.keeps x (omega (arith, here, le)) (omega (arith, here)) ∙ x_is) eq (key_above s w t regs regs1 (af.keeps (t + 1) (omega (arith, le)) (omega arith)) (none refl) key) refl goes)

    pub key_goes : (s : FieldKey) (quiet : Bool) (value : StoredValue) (key : Exp) (x t j after pc opened : ℕ) (env regs : List Value) (c : Captured)
        → Turns → Ends → Asks → ExpSame S ps key → ExpSame S ps d → 1 ≤ room_of S.code.own.constants key 2 → 1 ≤ room_of S.code.own.constants d 2
        → FieldKeyStands S.code.own.constants quiet key s → is_quiet d ≡ quiet → ValueStands S.code.own.constants d value → n ≤ S.bound → HasAt S pc (key_part s value key d x t j after line) → IsPlaced S key (length env) j → IsPlaced S d (length env) after
        → pc + length (key_part s value key d x t j after line) < length S.code.own.code → length env ≤ t → u ≤ t + 1 → (quiet ≡ false → x ≡ t) → (s ≡ evaluated → x ≡ t) → x ≤ t → x < S.code.own.stack
        → t + room_of_key s (room_of S.code.own.constants key 2) ≤ S.code.own.stack → t + room_of_value value (2 + room_of S.code.own.constants d 2) ≤ S.code.own.stack → Rel S.hidden S.code.own.stack ps env c regs → nth regs x ≡ o
        → GoesStored env regs (pc + length (key_part s value key d x t j after line))
        → Agree S n (tree.at (evaluate key) (of_tree S ps env c) (wait ∷ k)) (before (of_code S ps pc regs opened) c)
    key_goes s quiet value key x t j after pc opened env regs c turns ends asked law_key law some_key some stands quiet_is is fewer has ok_key ok inside le low seats before_it x_low x_room key_room room rel x_is goes = by s refl has inside key_room goes
      where
        -- the key has a value, and the value's turn comes
        goes_on : (z : FieldKey) (w : Value) → s ≡ z → (pc opened : ℕ) (env1 regs1 : List Value) (c1 : Captured) → HasAt S pc (value_part z value d x t after line) → pc + length (value_part z value d x t after line) < length S.code.own.code
            → length env1 ≡ length env → Rel S.hidden S.code.own.stack ps env1 c1 regs1 → nth regs1 x ≡ o → KeyIs z w t regs1 → GoesStored env1 regs1 (pc + length (value_part z value d x t after line))
            → (vs : List Value) → first vs ≡ w → Agree S n (tree.at (give vs) (of_tree S ps env1 c1) (wait ∷ k)) (before (of_code S ps pc regs1 opened) c1)
        goes_on z w same pc opened env1 regs1 c1 has inside size rel x_is key goes vs one =
            turns vs env1 c1 _
            (value_goes z quiet value x t after pc opened (first vs) env1 regs1 c1 ends asked law some quiet_is is fewer has (subst (λ m. IsPlaced S d m after) (sym size) ok) inside (omega (arith, le, size)) low seats x_low x_room room rel x_is
            (subst (λ q. KeyIs z q t regs1) (sym one) key) (λ loud r standing. let no : false ≡ true = sym loud ∙ stands.only r (same ∙ standing) in absurd (cc)) goes)

        by : (z : FieldKey) → s ≡ z → HasAt S pc (key_part z value key d x t j after line) → pc + length (key_part z value key d x t j after line) < length S.code.own.code
            → t + room_of_key z (room_of S.code.own.constants key 2) ≤ S.code.own.stack → GoesStored env regs (pc + length (key_part z value key d x t j after line))
            → Agree S n (tree.at (evaluate key) (of_tree S ps env c) (wait ∷ k)) (before (of_code S ps pc regs opened) c)
        by (a_name number) same has inside key_room goes =
            let name = stands.name number same in
            let found = subst (λ q. IsPlaced S q (length env) j) name.is ok_key in
            let w = known (constant (StrConst name.bytes)) in
            go_left S n _ (tree.at (give (w ∷ [])) (of_tree S ps env c) (wait ∷ k)) _ (ap (λ q. step (tree.at (evaluate q) (of_tree S ps env c) (wait ∷ k))) name.is)
            (goes_on (a_name number) w same pc opened env regs c has inside refl rel x_is
            (StrConst name.bytes, (refl, (ap (slice_get S.code.own.constants) name.same ∙ found.there, name.short))) goes (w ∷ []) refl)
        by (an_index m) same has inside key_room goes =
            let numeral = stands.index m same in
            let w = known (integer (pos m)) in
            numeral_read S ps key m 255 n numeral env c (wait ∷ k) _
            (goes_on (an_index m) w same pc opened env regs c has inside refl rel x_is (refl, numeral.small) goes (w ∷ []) refl)
        by (a_register r) same has inside key_room goes =
            let local = stands.local r same in
            let below = local_placed S key r (length env) j local ok_key in
            local_read S ps key r n env c (wait ∷ k) _ local
            (goes_on (a_register r) (nth env r) same pc opened env regs c has inside refl rel x_is (omega (arith, below, le), (omega (arith, below, rel.fits), sym (rel.agree r below))) goes (nth env r ∷ []) refl)
        by evaluated same has inside key_room goes =
            let code = exp_code S.code.own.constants key (t + 1) j 2 in
            let rest = value_part evaluated value d x t after line in
            let sum = length-append code rest in
            let here = before_it same in
            law_key (t + 1) j n pc opened env regs c (wait ∷ k) fewer (has_front S pc code rest has) ok_key (omega (arith, inside, sum)) (omega (arith, le)) (omega (arith, key_room)) rel
            (λ vs env1 regs1 c1 o1 af eq given.
            goes_on evaluated (first vs) same (pc + length code) o1 env1 regs1 c1 (has_back S pc code rest has) (omega (arith, inside, sum)) af.size af.rel
            (af.keeps x (omega (arith, here, le)) (omega (arith, here)) ∙ x_is) (omega (arith, key_room, some_key), eq)
            (λ env2 regs2 c2 o2 af2. at_place S ps n (pc + length code + length rest) (pc + length (code ++ rest)) o2 _ regs2 c2 (omega (arith, sum))
            (goes env2 regs2 c2 o2 (after_then S.hidden S.code.own.stack ps env regs env1 regs1 env2 regs2 c1 c2 u u (omega arith) (lower S.hidden S.code.own.stack ps env regs env1 regs1 c1 (t + 1) u low af) af2))) vs refl)
