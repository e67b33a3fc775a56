-- A field that is read: its object and its key are evaluated at their turns, or stand where they are.
use Rattle.std.proofs.Common.{◌≡◌, ℕ, ◌+◌, ◌<◌, ◌≤◌, false, List, [], ◌∷◌, ◌++◌, length, Option, Some, None, refl, sym, ap, subst, ◌∙◌, arith, length-append}
use Rattle.std.specs.Prelude.{slice_get}
use Rattle.int_core.specs.Value.{Value, known, string, nth}
use Rattle.int_core.specs.Ask.{Captured}
use Rattle.tree_core.specs.Tree.{Exp, Str, Index}
use Rattle.tree_activation.specs.Work.{evaluate, give, Work, Pending, key_of, object_of}
use Rattle.tree_activation.specs.Work as tree
use Rattle.tree_activation.specs.Activation.{step}
use Rattle.tree_activation.specs.Asking.{first}
use Rattle.code_core.specs.declared.opcode.Opcode.TheVariants.{GetTable, GetI, GetField}
use Rattle.code_core.specs.declared.proto.Const.{Const}
use Rattle.code_core.specs.declared.proto.Const.TheVariants.{Str as StrConst}
use Rattle.machine_core.specs.Talk as code
use Rattle.machine_core.specs.Talk.{before}
use Rattle.code_of.specs.Coded.{Coded, with_abc}
use Rattle.code_of.specs.Constants.{Found}
use Rattle.code_of.specs.Expressions.{made_by, exp_code}
use Rattle.code_of.specs.Operands.{local_of, key_operand, seat, unless}
use Rattle.code_of.proofs.Operands.{key_stands}
use Rattle.code_of.specs.FieldReads.{read_code, object_room, read_room}
use Rattle.code_of.specs.Stores.{name_in}
use Rattle.code_of.specs.Rooms.{room_of}
use Rattle.code_of.proofs.Stores.{IsName, name_is}
use Rattle.exp_laws.specs.Setting.{Setting}
use Rattle.exp_laws.specs.Placed.{IsPlaced}
use Rattle.exp_laws.proofs.Registers.{Rel}
use Rattle.exp_laws.proofs.Talking.{Agree, go_left, of_tree, of_code}
use Rattle.exp_laws.proofs.Placing.{HasAt, has_front, has_back}
use Rattle.exp_laws.proofs.Going.{GoesInto, into_at, into_after}
use Rattle.exp_laws.proofs.NameForms.{index_into, number_index_into, name_index_into}
use Rattle.exp_laws.proofs.Operands.{ExpSame, local_placed, local_read, operands_goes}

module _ (S : Setting) (pending : List Pending) where
  abbrev constants : List Const
  constants = S.code.own.constants

  -- the key is a string
  name_read : (key : Exp) (number n : ℕ) (is : IsName constants key number) (env : List Value) (c : Captured) (k : List Work) (t : code.State)
      → Agree S n (tree.at (give (known (string is.bytes) ∷ [])) (of_tree S pending env c) k) t → Agree S n (tree.at (evaluate key) (of_tree S pending env c) k) t
  name_read key number n is env c k t next =
      go_left S n _ (tree.at (give (known (string is.bytes) ∷ [])) (of_tree S pending env c) k) t (ap (λ e. step (tree.at (evaluate e) (of_tree S pending env c) k)) is.is) next

  -- it has its number
  name_there : (key : Exp) (number size j : ℕ) (is : IsName constants key number) → IsPlaced S key size j → slice_get constants number ≡ Some (StrConst is.bytes)
  name_there key number size j is ok =
      let found : Found constants (StrConst is.bytes) = subst (λ e. IsPlaced S e size j) is.is ok in
      ap (slice_get constants) is.same ∙ found.there

  module _ (line : ℕ) (object key : Exp) (number : ℕ) (is : IsName constants key number) (own r t j n pc opened : ℕ) (env regs : List Value) (c : Captured) (k : List Work) where
    abbrev first_code : List Coded
    first_code = exp_code constants object t j 2

    abbrev last_code : ℕ → List Coded
    last_code x = with_abc GetField r x number line ∷ []

    abbrev whole_code : Option ℕ → List Coded
    whole_code at = unless at first_code ++ last_code (seat at t)

    -- register r gets the field
    pub named_same : ExpSame S pending object → 1 ≤ room_of constants object 2 → n ≤ S.bound → HasAt S pc (whole_code (local_of object)) → IsPlaced S object (length env) j → IsPlaced S key (length env) (j + made_by object)
        → pc + length (whole_code (local_of object)) < length S.code.own.code → length env ≤ t → r < S.code.own.stack → t + object_room own (local_of object) (room_of constants object 2) ≤ S.code.own.stack
        → Rel S.hidden S.code.own.stack pending env c regs → GoesInto S pending n false r t env regs (pc + length (whole_code (local_of object))) k
        → Agree S n (tree.at (evaluate object) (of_tree S pending env c) (key_of line key ∷ k)) (before (of_code S pending pc regs opened) c)
    named_same law some bound has ok key_ok inside le below room rel goes = by (local_of object) refl has inside room goes
      where
        by : (at : Option ℕ) → local_of object ≡ at → HasAt S pc (whole_code at) → pc + length (whole_code at) < length S.code.own.code → t + object_room own at (room_of constants object 2) ≤ S.code.own.stack
            → GoesInto S pending n false r t env regs (pc + length (whole_code at)) k
            → Agree S n (tree.at (evaluate object) (of_tree S pending env c) (key_of line key ∷ k)) (before (of_code S pending pc regs opened) c)
        by None at_is has inside room goes =
            let whole = length-append first_code (last_code t) in
            let there = name_there key number (length env) (j + made_by object) is key_ok in
            let short = is.short in
            law t j n pc opened env regs c (key_of line key ∷ k) bound (has_front S pc first_code (last_code t) has) ok (omega (arith, inside, whole)) le room rel
            (λ vs env1 regs1 c1 o1 af eq given. go_left S n _ (tree.at (evaluate key) (of_tree S pending env1 c1) (object_of line (first vs) ∷ k)) _ refl
            (name_read key number n is env1 c1 (object_of line (first vs) ∷ k) _
            (name_index_into S pending t number is.bytes (first vs) n false r t line (pc + length first_code) o1 _ env1 regs1 c1 k refl (has_back S pc first_code (last_code t) has) (omega (arith, inside, whole)) below (omega (arith, room, some)) short there af.rel eq
            (into_at S pending n false r t _ (pc + length (whole_code None)) env1 regs1 k (omega (arith, whole)) (into_after S pending n false r t _ env regs env1 regs1 c1 k af goes)))))
        by (Some x) at_is has inside room goes =
            let x_below = local_placed S object x (length env) j at_is ok in
            let there = name_there key number (length env) (j + made_by object) is key_ok in
            let short = is.short in
            local_read S pending object x n env c (key_of line key ∷ k) _ at_is
            (go_left S n _ (tree.at (evaluate key) (of_tree S pending env c) (object_of line (nth env x) ∷ k)) _ refl
            (name_read key number n is env c (object_of line (nth env x) ∷ k) _
            (name_index_into S pending x number is.bytes (nth env x) n false r t line pc opened _ env regs c k refl has inside below (omega (arith, x_below, rel.fits)) short there rel (sym (rel.agree x x_below)) goes)))

  -- a field goes to register r, however its key stands; `own` is how many registers the last instruction takes where all else stands below t
  module _ (line : ℕ) (object key : Exp) (own r t j n pc opened : ℕ) (env regs : List Value) (c : Captured) (k : List Work) where
    abbrev code_by : Option ℕ → List Coded
    code_by named = read_code named object key (exp_code constants object t j 2) (exp_code constants key (t + 1) (j + made_by object) 2) r t line

    abbrev room_by : Option ℕ → ℕ
    room_by named = read_room own named object key (room_of constants object 2) (room_of constants key 2)

    pub field_into : ExpSame S pending object → ExpSame S pending key → 1 ≤ room_of constants object 2 → 1 ≤ room_of constants key 2 → n ≤ S.bound → HasAt S pc (code_by (name_in constants key)) → IsPlaced S object (length env) j
        → IsPlaced S key (length env) (j + made_by object) → pc + length (code_by (name_in constants key)) < length S.code.own.code → length env ≤ t → r < S.code.own.stack → t + room_by (name_in constants key) ≤ S.code.own.stack
        → Rel S.hidden S.code.own.stack pending env c regs → GoesInto S pending n false r t env regs (pc + length (code_by (name_in constants key))) k
        → Agree S n (tree.at (evaluate (Index line object key)) (of_tree S pending env c) k) (before (of_code S pending pc regs opened) c)
    field_into law_object law_key some_object some_key bound has object_ok key_ok inside le below room rel goes =
        go_left S n _ (tree.at (evaluate object) (of_tree S pending env c) (key_of line key ∷ k)) _ refl (by (name_in constants key) refl has inside room goes)
      where
        by : (named : Option ℕ) → name_in constants key ≡ named → HasAt S pc (code_by named) → pc + length (code_by named) < length S.code.own.code → t + room_by named ≤ S.code.own.stack
            → GoesInto S pending n false r t env regs (pc + length (code_by named)) k
            → Agree S n (tree.at (evaluate object) (of_tree S pending env c) (key_of line key ∷ k)) (before (of_code S pending pc regs opened) c)
        by (Some number) is has inside room goes =
            named_same line object key number (name_is constants key number is) own r t j n pc opened env regs c k law_object some_object bound has object_ok key_ok inside le below room rel goes
        by None is has inside room goes =
            let end = pc + length (code_by None) in
            operands_goes S pending (key_operand key) 255 object key (key_stands key) (key_of line key) (object_of line) (λ x y. with_abc GetTable r x y line ∷ []) (λ x m. with_abc GetI r x m line ∷ []) n t end env regs k
            own j pc opened c (λ vs env' c'. refl) law_object law_key some_object some_key bound has object_ok key_ok refl inside le room rel
            (λ x y place o1 v ws env1 regs1 c1 af x_room y_room x_is y_is seats here ends. index_into S pending x y v (first ws) n false r t line place o1 _ env1 regs1 c1 k refl here (omega (arith, inside, ends)) below x_room y_room af.rel x_is y_is
            (into_at S pending n false r t _ end env1 regs1 k ends (into_after S pending n false r t _ env regs env1 regs1 c1 k af goes)))
            (λ x m place o1 v env1 regs1 c1 af x_room x_is is here ends. number_index_into S pending x m v n false r t line place o1 _ env1 regs1 c1 k refl here (omega (arith, inside, ends)) below x_room ((key_stands key).number m is).small af.rel x_is
            (into_at S pending n false r t _ end env1 regs1 k ends (into_after S pending n false r t _ env regs env1 regs1 c1 k af goes)))
