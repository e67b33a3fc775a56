-- The code of a constructor's field with its key is a piece.
use Rattle.std.proofs.Common.{◌≡◌, ℕ, ◌+◌, ◌<◌, ◌^◌, Bool, true, false, List, [], ◌∷◌, Option, Some, None, refl, subst, arith}
use Rattle.tree_core.specs.Tree.{Exp, Fields, MoreFields, Keyed}
use Rattle.code_core.specs.declared.proto.Const.{Const}
use Rattle.code_core.specs.declared.proto.Const.TheVariants.{Str as StrConst}
use Rattle.code_core.specs.Prototype.{Prototype}
use Rattle.code_of.specs.Coded.{Coded}
use Rattle.code_of.specs.ConstantOperands.{any_constant}
use Rattle.code_of.specs.Constants.{with_any, of_exp, of_fields}
use Rattle.code_of.specs.Expressions.{made_by, exp_code}
use Rattle.code_of.specs.Operands.{unless}
use Rattle.code_of.specs.StoredValues.{stored_value}
use Rattle.code_of.specs.CodeOf.{from_exp, from_fields}
use Rattle.code_of.specs.Stores.{FieldKey, a_name, an_index, a_register, evaluated, is_quiet, field_key, key_code, StoredValue, constant_value, local_value, made_value, value_code, is_constant, value_seat, field_store_by}
use Rattle.code_of.proofs.Stores.{FieldKeyStands, field_key_stands}
use Rattle.code_of.proofs.StoredValues.{StoredIn, ValueStands, value_stands}
use Rattle.code_of.proofs.Constants.{same_text}
use Rattle.code_checked.specs.Near.{ExpIsNear, FieldsAreNear}
use Rattle.code_checked.proofs.Pieces.{closed, Piece, both, nothing}
use Rattle.code_checked.proofs.Found.{Grows, grows_then, grows_any, is_in}
use Rattle.code_checked.proofs.Loads.{Whole, ValueThere, set_table_piece, set_index_piece, set_name_piece}
use Rattle.code_checked.proofs.Growing.{grows_exp, grows_fields, after_exp}
use Rattle.code_checked.proofs.ExpForms.{OneLaw, FieldsLaw, exp_register, local_near}
use Rattle.code_checked.proofs.ItemForms.{waiting_piece}

module _ (p : Prototype) (H : Type 0) where
  pub unless_piece : {pc : ℕ} (at : Option ℕ) (code : List Coded) → Piece p H closed closed pc code → Piece p H closed closed pc (unless at code)
  unless_piece None code h = h
  unless_piece (Some r) code h = nothing p

  pub value_piece : {pc : ℕ} (value : StoredValue) (code : List Coded) → Piece p H closed closed pc code → Piece p H closed closed pc (value_code value code)
  value_piece made_value code h = h
  value_piece (constant_value number) code h = nothing p
  value_piece (local_value r) code h = nothing p

  pub key_piece : {pc : ℕ} (s : FieldKey) (code : List Coded) → Piece p H closed closed pc code → Piece p H closed closed pc (key_code s code)
  key_piece evaluated code h = h
  key_piece (a_name number) code h = nothing p
  key_piece (an_index n) code h = nothing p
  key_piece (a_register r) code h = nothing p

module _ (p : Prototype) (source : Option (List ℕ)) where
  -- what the fields k and C of a store name

  pub stored_near : (e : Exp) (flag : Bool) (v size t : ℕ) → StoredIn p.own.constants e flag v → ExpIsNear source p e size t → (v < 2 ^ 8) × ValueThere p flag v
  stored_near e true v size t is near = let short = is.short in (omega (arith, short), (is.value, is.there))
  stored_near e false v size t is near = (local_near source p e size t v is near, tt)

  pub value_near : (value : StoredValue) (e : Exp) (size t above : ℕ) → ValueStands p.own.constants e value → ExpIsNear source p e size t → above < 2 ^ 8
      → (value_seat value above < 2 ^ 8) × ValueThere p (is_constant value) (value_seat value above)
  value_near made_value e size t above stands near fits = (fits, tt)
  value_near (constant_value number) e size t above stands near fits = stored_near e true number size t stands near
  value_near (local_value r) e size t above stands near fits = stored_near e false r size t stands near

module _ (p : Prototype) (source : Option (List ℕ)) (H : Type 0) where
  pub store_piece : {pc : ℕ} (s : FieldKey) (quiet : Bool) (key : Exp) (flag : Bool) (x t v size line : ℕ) (cs : List Const) → FieldKeyStands p.own.constants quiet key s → ExpIsNear source p key size (t + 1) → x < 2 ^ 8 → t + 1 < 2 ^ 8 → (v < 2 ^ 8) × ValueThere p flag v
      → Grows (of_exp key cs) p.own.constants → Piece p H closed closed pc (field_store_by s flag x t v line ∷ [])
  store_piece (a_name number) quiet key flag x t v size line cs stands near xf tf value g =
      let name = stands.name number refl in
      let known = subst (λ q. Grows (of_exp q cs) p.own.constants) name.is g in
      let short = name.short in
      set_name_piece p flag x number v line name.bytes xf (omega (arith, short)) value.0 value.1 name.same (is_in (StrConst name.bytes) (same_text name.bytes) cs p.own.constants known)
  store_piece (an_index n) quiet key flag x t v size line cs stands near xf tf value g = let small = (stands.index n refl).small in set_index_piece p flag x n v line xf (omega (arith, small)) value.0 value.1
  store_piece (a_register r) quiet key flag x t v size line cs stands near xf tf value g = set_table_piece p flag x r v line xf (local_near source p key size (t + 1) r (stands.local r refl) near) value.0 value.1
  store_piece evaluated quiet key flag x t v size line cs stands near xf tf value g = set_table_piece p flag x (t + 1) v line xf tf value.0 value.1

module _ (p : Prototype) (W : Whole p) (source : Option (List ℕ)) (H : Type 0) where
  pub more_keyed : (line : ℕ) (e d : Exp) (more_fields : Fields) → OneLaw p W source H e → OneLaw p W source H d → FieldsLaw p W source H more_fields → FieldsLaw p W source H (MoreFields (Keyed line e d) more_fields)
  more_keyed at_line e d more_fields one_e one_d laws stored waiting t j line pc size cs rest behind few near le r g fs =
      let first = of_exp e cs in
      let named = with_any (any_constant d) first in
      let second = of_exp d named in
      let known = grows_then second (of_fields more_fields second) p.own.constants (grows_fields more_fields second) g in
      let known_e = grows_then first second p.own.constants (grows_then first named second (grows_any (any_constant d) first) (grows_exp d named)) known in
      let after_e = after_exp source p e j (from_exp source d (from_fields source more_fields rest)) fs in
      let register = exp_register source p e size (t + 1) near.0 in
      let same : stored + waiting ≡ stored + waiting + 0 = omega arith in
      both p (waiting_piece p W source H stored waiting t line r (λ h. let all = few h in omega (arith, all)))
      (both p
      (both p (key_piece p H s (exp_code p.own.constants e (t + 1) j 2) (one_e (t + 1) j _ size cs (from_exp source d (from_fields source more_fields rest)) near.0 (omega (arith, le)) known_e fs))
      (both p (value_piece p H value (exp_code p.own.constants d (t + 2) (j + made_by e) 2) (one_d (t + 2) (j + made_by e) _ size named (from_fields source more_fields rest) near.1.0 (omega (arith, le)) known after_e))
      (store_piece p source H s (is_quiet d) e (is_constant value) t t (value_seat value (t + 2)) size at_line cs (field_key_stands p.own.constants (is_quiet d) e) near.0 (omega (arith, register)) (omega (arith, register)) seat_near known_e)))
      (laws (stored + waiting) 0 t (j + made_by e + made_by d) line _ size second rest (omega arith) (λ h. let all = few h in omega (arith, all)) (subst (λ z. FieldsAreNear source p more_fields z size t) same near.1.1) le (omega (arith, r)) g
      (after_exp source p d (j + made_by e) (from_fields source more_fields rest) after_e)))
    where
      value : StoredValue
      value = stored_value p.own.constants d

      s : FieldKey
      s = field_key p.own.constants (is_quiet d) e

      above_near : t + 2 < 2 ^ 8
      above_near = let register = exp_register source p d size (t + 2) near.1.0 in omega (arith, register)

      seat_near : (value_seat (stored_value p.own.constants d) (t + 2) < 2 ^ 8) × ValueThere p (is_constant (stored_value p.own.constants d)) (value_seat (stored_value p.own.constants d) (t + 2))
      seat_near = value_near p source (stored_value p.own.constants d) d size (t + 2) (t + 2) (value_stands p.own.constants d) near.1.0 above_near
