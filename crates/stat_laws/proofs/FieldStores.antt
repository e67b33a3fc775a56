-- A value that is stored in a field by a statement: the object, the key and the value are evaluated in turn, or stand where they are.
use Rattle.std.proofs.Common.{◌≡◌, ℕ, ◌+◌, ◌<◌, ◌≤◌, Bool, true, false, List, [], ◌∷◌, ◌++◌, length, Option, Some, None, refl, sym, subst, ◌∙◌, arith, length-append}
use Rattle.int_core.specs.Value.{Value, nth}
use Rattle.int_core.specs.Ask.{Captured}
use Rattle.tree_core.specs.Tree.{Exp, Index, EndExps, MoreExps}
use Rattle.tree_activation.specs.Work.{evaluate, give, collect, aim, store, listed, aimed_key, aimed_field, to_field, for_assignment, Work, Pending}
use Rattle.tree_activation.specs.Work as tree
use Rattle.tree_activation.specs.Asking.{first}
use Rattle.machine_core.specs.Talk.{before}
use Rattle.code_of.specs.Coded.{Coded}
use Rattle.code_of.specs.Expressions.{made_by, exp_code}
use Rattle.code_of.specs.Parts.{field_code}
use Rattle.code_of.specs.Rooms.{room_of, room_of_field}
use Rattle.code_of.specs.StoredValues.{stored_value}
use Rattle.code_of.specs.Stores.{FieldKey, evaluated, StoredValue, is_quiet, field_key, object_of, fields_store, room_of_key, room_of_value, fields_room}
use Rattle.code_of.proofs.Stores.{FieldKeyStands, field_key_stands, object_stays}
use Rattle.code_of.proofs.StoredValues.{ValueStands, value_stands}
use Rattle.exp_laws.specs.Setting.{Setting}
use Rattle.exp_laws.specs.Placed.{IsPlaced}
use Rattle.exp_laws.proofs.Registers.{Rel, After, after_then}
use Rattle.exp_laws.proofs.Talking.{Agree, go_left, of_tree, of_code}
use Rattle.exp_laws.proofs.Placing.{HasAt, has_front, has_back}
use Rattle.exp_laws.proofs.Going.{at_place}
use Rattle.exp_laws.proofs.Operands.{local_placed, local_read}
use Rattle.exp_laws.proofs.Storing.{key_part, key_goes}
use Rattle.exp_laws.proofs.Rooms.{room_some}
use Rattle.exp_laws.proofs.Exps.{exp_same}

module _ (S : Setting) (ps : List Pending) where
  -- what is left once the store is done
  abbrev GoesStored : (n t : ℕ) → (env regs : List Value) → (pc : ℕ) → (k : List Work) → Type 0
  GoesStored n t env regs pc k =
      (env' regs' : List Value) (c' : Captured) (opened' : ℕ) → After S.hidden S.code.own.stack ps env regs t env' regs' c'
      → Agree S n (tree.at (store []) (of_tree S ps env' c') k) (before (of_code S ps pc regs' opened') c')

  -- the work that waits for the value, which goes to a field of o
  abbrev value_wait : (line : ℕ) → (o w : Value) → Work
  value_wait line o w = listed (for_assignment (to_field line o w ∷ [])) [] EndExps

  -- the object o stands in register x
  rest_goes : (s : FieldKey) (quiet : Bool) (value : StoredValue) (key e : Exp) (x t line n j after pc opened : ℕ) (o : Value) (env regs : List Value) (c : Captured) (k : List Work)
      → FieldKeyStands S.code.own.constants quiet key s → is_quiet e ≡ quiet → ValueStands S.code.own.constants e value → n ≤ S.bound → HasAt S pc (key_part S ps s value key e x t j after line) → IsPlaced S key (length env) j → IsPlaced S e (length env) after
      → pc + length (key_part S ps s value key e x t j after line) < length S.code.own.code → length env ≤ t → (quiet ≡ false → x ≡ t) → (s ≡ evaluated → x ≡ t) → x ≤ t → x < S.code.own.stack
      → t + room_of_key s (room_of S.code.own.constants key 2) ≤ S.code.own.stack → t + room_of_value value (2 + room_of S.code.own.constants e 2) ≤ S.code.own.stack → Rel S.hidden S.code.own.stack ps env c regs → nth regs x ≡ o
      → GoesStored n t env regs (pc + length (key_part S ps s value key e x t j after line)) k
      → Agree S n (tree.at (evaluate key) (of_tree S ps env c) (aimed_field line o [] EndExps (MoreExps e EndExps) ∷ k)) (before (of_code S ps pc regs opened) c)
  rest_goes s quiet value key e x t line n j after pc opened o env regs c k stands quiet_is is fewer has ok_key ok inside le seats before_it x_low x_room key_room room rel x_is goes =
      key_goes S ps o e line n t k (aimed_field line o [] EndExps (MoreExps e EndExps)) (value_wait line o) (λ w vs env c. tree.at (store ((to_field line o w, first vs) ∷ [])) (of_tree S ps env c) k) (store [])
      s quiet value key x t j after pc opened env regs c
      (λ vs env1 c1 q next. go_left S n _ (tree.at (aim (to_field line o (first vs) ∷ []) EndExps (MoreExps e EndExps)) (of_tree S ps env1 c1) k) q refl
      (go_left S n _ (tree.at (collect (for_assignment (to_field line o (first vs) ∷ [])) [] (MoreExps e EndExps)) (of_tree S ps env1 c1) k) q refl
      (go_left S n _ (tree.at (evaluate e) (of_tree S ps env1 c1) (value_wait line o (first vs) ∷ k)) q refl next)))
      (λ w vs env1 c1 q next. go_left S n _ (tree.at (collect (for_assignment (to_field line o w ∷ [])) vs EndExps) (of_tree S ps env1 c1) k) q refl
      (go_left S n _ (tree.at (store ((to_field line o w, first vs) ∷ [])) (of_tree S ps env1 c1) k) q refl next))
      (λ w vs env1 c1. refl)
      (exp_same S ps key) (exp_same S ps e) (room_some S.code.own.constants key) (room_some S.code.own.constants e) stands quiet_is is fewer has ok_key ok inside le (omega arith) seats before_it x_low x_room key_room room rel x_is goes

  -- the object first
  pub field_goes : (line : ℕ) (object key e : Exp) (t n j after pc opened : ℕ) (env regs : List Value) (c : Captured) (k : List Work)
      → n ≤ S.bound → HasAt S pc (field_code S.code.own.constants (Index line object key) e t j after) → IsPlaced S (Index line object key) (length env) j → IsPlaced S e (length env) after
      → pc + length (field_code S.code.own.constants (Index line object key) e t j after) < length S.code.own.code → length env ≤ t → t + room_of_field S.code.own.constants (Index line object key) e ≤ S.code.own.stack
      → Rel S.hidden S.code.own.stack ps env c regs → GoesStored n t env regs (pc + length (field_code S.code.own.constants (Index line object key) e t j after)) k
      → Agree S n (tree.at (aim [] (MoreExps (Index line object key) EndExps) (MoreExps e EndExps)) (of_tree S ps env c) k) (before (of_code S ps pc regs opened) c)
  field_goes line object key e t n j after pc opened env regs c k fewer has ok_target ok inside le room rel goes = by (object_of s quiet object) refl has inside room goes
    where
      value : StoredValue
      value = stored_value S.code.own.constants e

      at_value : ValueStands S.code.own.constants e (stored_value S.code.own.constants e)
      at_value = value_stands S.code.own.constants e

      quiet : Bool
      quiet = is_quiet e

      s : FieldKey
      s = field_key S.code.own.constants (is_quiet e) key

      stands : FieldKeyStands S.code.own.constants (is_quiet e) key (field_key S.code.own.constants (is_quiet e) key)
      stands = field_key_stands S.code.own.constants (is_quiet e) key

      wait : Work
      wait = aimed_key line key [] EndExps (MoreExps e EndExps)

      first_code : List Coded
      first_code = exp_code S.code.own.constants object t j 2

      whole : Option ℕ → List Coded
      whole at = fields_store s at value first_code (exp_code S.code.own.constants key (t + 1) (j + made_by object) 2) (exp_code S.code.own.constants e (t + 2) after 2) t line

      by : (at : Option ℕ) → object_of s quiet object ≡ at → HasAt S pc (whole at) → pc + length (whole at) < length S.code.own.code
          → t + fields_room s at value (room_of S.code.own.constants object 2) (room_of S.code.own.constants key 2) (room_of S.code.own.constants e 2) ≤ S.code.own.stack
          → GoesStored n t env regs (pc + length (whole at)) k
          → Agree S n (tree.at (aim [] (MoreExps (Index line object key) EndExps) (MoreExps e EndExps)) (of_tree S ps env c) k) (before (of_code S ps pc regs opened) c)
      by (Some x) is has inside room goes =
          let stays = object_stays s quiet object x is in
          let below = local_placed S object x (length env) j stays.local ok_target.0 in
          go_left S n _ (tree.at (evaluate object) (of_tree S ps env c) (wait ∷ k)) _ refl
          (local_read S ps object x n env c (wait ∷ k) _ stays.local
          (go_left S n _ (tree.at (evaluate key) (of_tree S ps env c) (aimed_field line (nth env x) [] EndExps (MoreExps e EndExps) ∷ k)) _ refl
          (rest_goes s quiet value key e x t line n (j + made_by object) after pc opened (nth env x) env regs c k stands refl at_value fewer has ok_target.1 ok inside le
          (λ loud. let no : false ≡ true = sym loud ∙ stays.only in absurd (cc)) (λ made. absurd (stays.key_stays made)) (omega (arith, below, le))
          (omega (arith, below, rel.fits)) (omega (arith, room)) (omega (arith, room)) rel (sym (rel.agree x below)) goes)))
      by None is has inside room goes =
          let rest = key_part S ps s value key e t t (j + made_by object) after line in
          let sum = length-append first_code rest in
          let some = room_some S.code.own.constants object in
          go_left S n _ (tree.at (evaluate object) (of_tree S ps env c) (wait ∷ k)) _ refl
          (exp_same S ps object t j n pc opened env regs c (wait ∷ k) fewer (has_front S pc first_code rest has) ok_target.0 (omega (arith, inside, sum)) le (omega (arith, room)) rel
          (λ vs env1 regs1 c1 o1 af eq given.
          go_left S n _ (tree.at (evaluate key) (of_tree S ps env1 c1) (aimed_field line (first vs) [] EndExps (MoreExps e EndExps) ∷ k)) _ refl
          (rest_goes s quiet value key e t t line n (j + made_by object) after (pc + length first_code) o1 (first vs) env1 regs1 c1 k stands refl at_value fewer (has_back S pc first_code rest has)
          (subst (λ m. IsPlaced S key m (j + made_by object)) (sym af.size) ok_target.1) (subst (λ m. IsPlaced S e m after) (sym af.size) ok) (omega (arith, inside, sum)) (omega (arith, le, af.size)) (λ loud. refl) (λ made. refl) (omega arith)
          (omega (arith, room, some)) (omega (arith, room)) (omega (arith, room)) af.rel eq
          (λ env2 regs2 c2 o2 af2. at_place S ps n (pc + length first_code + length rest) (pc + length (first_code ++ rest)) o2 _ regs2 c2 (omega (arith, sum))
          (goes env2 regs2 c2 o2 (after_then S.hidden S.code.own.stack ps env regs env1 regs1 env2 regs2 c1 c2 t t (omega arith) af af2))))))
