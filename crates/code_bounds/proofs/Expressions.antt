-- The code of an expression takes the registers that are counted for it.
use Rattle.std.proofs.Common.{◌≡◌, ℕ, zero, suc, ◌+◌, ◌-◌, ◌<◌, ◌≤◌, ◌^◌, ◌⊎◌, inl, inr, max, Bool, true, false, cond, not, List, [], ◌∷◌, ◌++◌, length, Option, Some, None, refl, sym, ap, ◌∙◌, subst, lit<, arith}
use Rattle.tree_core.specs.declared.name.Place.{Place}
use Rattle.tree_core.specs.declared.name.Place.TheVariants.{Local as LocalPlace}
use Rattle.tree_core.specs.declared.operator.UnOp.{UnOp}
use Rattle.tree_core.specs.declared.operator.UnOp.TheVariants.{Not as Negation}
use Rattle.tree_core.specs.declared.operator.BinOp.{BinOp}
use Rattle.tree_core.specs.declared.operator.BinOp.TheVariants.{Eq as Equal, Ne, Lt as Less, Le as AtMost, Gt, Ge}
use Rattle.tree_core.specs.Tree.{Exp, Nil, True, False, Int, Str, Vararg, Function, Var, Index, Call, Method, Unary, Binary, And, Or, Paren, Table, Exps, EndExps, MoreExps, Fields, EndFields, MoreFields, Item, Keyed}
use Rattle.tree_terms.specs.Bodies.{line_of_body}
use Rattle.code_core.specs.declared.opcode.Opcode.TheVariants.{LoadFalse, LoadTrue, GetTable, GetI, GetField, NewTable, Concat, Closure, ExtraArg, Call as CallCode, Jmp, Test, TestSet, Eq, Lt, Le, EqK, EqI, LtI, LeI, GtI, GeI}
use Rattle.code_core.specs.declared.proto.Const.{Const}
use Rattle.code_core.specs.declared.proto.Const.TheVariants.{Int as IntConst, Str as StrConst}
use Rattle.code_core.specs.Instruction.{abc, op_ax}
use Rattle.code_of.specs.Coded.{Coded, with_abc, jump_over}
use Rattle.code_of.specs.Truths.{jump_if, line_of, set_if, load_truth}
use Rattle.code_of.specs.Conditions.{value_test, test_code, keep_code}
use Rattle.code_of.specs.Constants.{is_small, small_field}
use Rattle.code_of.specs.Operands.{local_at, local_of, is_direct, Second, a_number, a_local, made, second_of, key_operand, first_of, seat, unless, operands_code, operands_room, joins}
use Rattle.code_of.specs.Stores.{name_in, is_quiet, field_key, keyed_store, keyed_room}
use Rattle.code_of.specs.Items.{waits, is_full, item_register, stored_behind, waiting_behind, item_room}
use Rattle.code_of.specs.StoredValues.{stored_value}
use Rattle.code_of.proofs.Stores.{field_key_stands}
use Rattle.code_of.proofs.StoredValues.{value_stands, stands_local, stands_constant}
use Rattle.code_of.specs.FieldReads.{read_code, object_room, read_room}
use Rattle.code_of.proofs.FieldReads.{some_read, read_less}
use Rattle.code_of.specs.Operators.{prefix_code, operator_code, number_code}
use Rattle.code_of.specs.Operations.{constant_in, constant_code, operation_by, operation_code, operation_room}
use Rattle.code_of.proofs.Operations.{constant_is, operand_form, some_operation, operation_less}
use Rattle.code_of.specs.Chains.{continues, links, unjoined, chain_code}
use Rattle.code_of.proofs.Chains.{links_some, links_room, joined_last, join_room}
use Rattle.code_of.proofs.Operands.{some_is, Stands, second_number, joins_made, operator_stands, key_stands, local_not_made, first_local, computes_no_join}
use Rattle.code_of.specs.Expressions.{made_by, count, is_open, is_last_open, ends_open, list_field, Wanted, results_field, one_less, field_of, wanted_after, is_last_item, item_code, exp_code, exps_code, fields_code, kept_value}
use Rattle.code_of.specs.Parts.{direct_code}
use Rattle.code_of.specs.Rooms.{room_of_values, room_of_nils, room_of_direct, room_of_test, room_of_keep, room_of, room_of_list, room_of_fields, room_of_self}
use Rattle.code_of.proofs.Rooms.{name_room, self_room, local_room, name_less}
use Rattle.code_of.specs.Operators.{self_code}
use Rattle.scope_laws.specs.Finding.{PlaceIsThere, ExpFinds, ExpsFind, FieldsFind}
use Rattle.code_bounds.proofs.Tops.{top, top_more, top_append, ax_is, one_a, one_ab, one_abc, one_ax, one_nil, one_call, one_chain, rest_below, rest_above}
use Rattle.code_bounds.proofs.KeyedFields.{keyed_take}
use Rattle.code_bounds.proofs.ItemPieces.{FieldTakes, end_takes, behind_takes, none_waits, register_above, register_room, behind_room, item_takes}
use Rattle.code_bounds.proofs.Pieces.{self_top, Takes, ListTakes, takes_one, loads_top, integer_top, name_takes, prefix_top, operator_top, operator_above, operator_here, number_top, number_here, two_take, one_takes, join_takes, pair_top, nils_take, more_take, call_takes, method_takes, name_below}
use Rattle.code_bounds.proofs.ConstantPieces.{constant_top, constant_here}

-- fields of calls and `...`

field_either : (b : Bool) → 1 ≤ room_of_values (cond b 0 2)
field_either true = omega arith
field_either false = omega arith

either_fits : (b : Bool) (n : ℕ) → n < 2 ^ 8 → cond b n 2 < 2 ^ 8
either_fits true n fits = fits
either_fits false n fits = lit< tt

pub one_or_none : (b : Bool) → cond b 0 1 ≤ 1
one_or_none true = omega arith
one_or_none false = omega arith

values_low : (c : ℕ) → c - 1 ≤ room_of_values c
values_low zero = omega arith
values_low (suc n) = omega arith

values_high : (c : ℕ) → room_of_values c ≤ max 1 (c - 1)
values_high zero = omega arith
values_high (suc n) = omega arith

field_few : (b : Bool) (m : ℕ) → cond b 0 m ≤ m
field_few true m = omega arith
field_few false m = omega arith

less_fits : (wanted : Wanted) → results_field wanted < 2 ^ 8 → results_field (one_less wanted) < 2 ^ 8
less_fits None fits = lit< tt
less_fits (Some n) fits = omega arith

after_by : (b : Bool) (wanted : Wanted) → results_field wanted < 2 ^ 8 → results_field (cond b None (one_less wanted)) < 2 ^ 8
after_by true wanted fits = lit< tt
after_by false wanted fits = less_fits wanted fits

none_after : (b : Bool) → cond b None (one_less None) ≡ None
none_after true = refl
none_after false = refl

-- an operand that stays is a local that is in scope

place_found : (hidden : List ℕ) (ups : ℕ) (p : Place) (r size : ℕ) → local_at p ≡ Some r → PlaceIsThere hidden size ups p → r < size
place_found hidden ups (LocalPlace q) r size e h = let same = some_is q r e in let below = h.0 in omega (arith, same, below)
place_found hidden ups _ r size e h = absurd (cc)

pub local_found : (hidden : List ℕ) (ups : ℕ) (e : Exp) (r size : ℕ) → local_of e ≡ Some r → ExpFinds e hidden size ups → r < size
local_found hidden ups (Var line name) r size e h = place_found hidden ups name.place r size e h
local_found hidden ups (Paren line inner) r size e h = local_found hidden ups inner r size e h
local_found hidden ups _ r size e h = absurd (cc)

module _ (cs : List Const) where
  -- an expression has a register at least, unless no value is wanted of it
  pub some_room : (e : Exp) (field : ℕ) → 1 ≤ room_of_values field → 1 ≤ room_of cs e field
  some_room (Vararg line) field some = some
  some_room (Var line name) field some = name_room cs name.place name.text
  some_room (Index line object key) field some = some_read (name_in cs key) object key (room_of cs object 2) (room_of cs key 2) (some_room object 2 (omega arith))
  some_room (Unary line op e) field some = some_room e 2 (omega arith)
  some_room (Binary line op e d) field some = some_operation (constant_in cs op d) op e d (room_of cs e 2) (room_of cs d 2) (some_room e 2 (omega arith))
  some_room (And line e d) field some = let right = some_room d 2 (omega arith) in omega (arith, right)
  some_room (Or line e d) field some = let right = some_room d 2 (omega arith) in omega (arith, right)
  some_room (Paren line e) field some = some_room e 2 (omega arith)
  some_room _ field some = omega arith

  pub own_room : (e : Exp) → 1 ≤ room_of cs e 2
  own_room e = some_room e 2 (omega arith)

  -- where the last expression of a list has no register, nothing is wanted behind it
  room_or_end : (e : Exp) (es : Exps) (wanted : Wanted) (above : ℕ) → (1 ≤ room_of cs e (field_of e es wanted)) ⊎ (room_of_list cs above es (wanted_after e es wanted) ≡ 0)
  room_or_end e EndExps wanted above = by (is_open e)
    where
      by : (b : Bool) → (1 ≤ room_of cs e (cond b (results_field wanted) 2)) ⊎ (room_of_nils above (cond b None (one_less wanted)) ≡ 0)
      by true = inr refl
      by false = inl (own_room e)
  room_or_end e (MoreExps d es) wanted above = inl (own_room e)

  -- of a list of which all values are wanted each expression has a register
  pub count_room : (es : Exps) (above : ℕ) → above + count es ≤ max above (room_of_list cs above es None)
  count_room EndExps above = omega arith
  count_room (MoreExps e es) above =
      let here = some_room e (field_of e es None) (field_either (is_last_open e es)) in
      let behind = count_room es (above + 1) in
      let same : room_of_list cs (above + 1) es (wanted_after e es None) ≡ room_of_list cs (above + 1) es None = ap (λ wanted. room_of_list cs (above + 1) es wanted) (none_after (is_last_open e es)) in
      by (room_of cs e (field_of e es None)) (room_of_list cs (above + 1) es (wanted_after e es None)) (room_of_list cs (above + 1) es None) here same behind
    where
      by : (x r q : ℕ) → 1 ≤ x → r ≡ q → above + 1 + count es ≤ max (above + 1) q → above + suc (count es) ≤ max above (max (above + x) r)
      by x r q here same behind = omega arith

  -- the field of a list fits, and names no register behind those of the list
  pub field_room : (es : Exps) (more : ℕ) → list_field more es ≤ more + count es + 1
  field_room es more = field_few (ends_open es) (more + count es + 1)

  module _ (hidden : List ℕ) (ups : ℕ) where
    abbrev ExpTakes : Exp → Type 0
    ExpTakes e = (size t j field : ℕ) → ExpFinds e hidden size ups → size ≤ t → field < 2 ^ 8 → t + room_of cs e field ≤ 255 → Takes t (room_of cs e field) (exp_code cs e t j field)

    abbrev ExpsTake : Exps → Type 0
    ExpsTake es = (wanted : Wanted) (above t p size j line : ℕ) → p ≡ t + above → ExpsFind es hidden size ups → size ≤ p → results_field wanted < 2 ^ 8 → t + room_of_list cs above es wanted ≤ 255 →
        ListTakes t p (room_of_list cs above es wanted) (exps_code cs es wanted p j line)

    abbrev FieldsTake : Fields → Type 0
    FieldsTake fs = (stored waiting t size j line : ℕ) → FieldsFind fs hidden size ups → size ≤ t → t + (1 + max waiting (room_of_fields cs fs stored waiting)) ≤ 255
        → FieldTakes t waiting (room_of_fields cs fs stored waiting) (fields_code cs fs stored waiting t j line)

    -- an item and the fields behind it
    item_fields_take : (e : Exp) (fs : Fields) → ExpTakes e → FieldsTake fs → (wait full : Bool) (stored waiting t size j line : ℕ) → FieldsFind (MoreFields (Item e) fs) hidden size ups → size ≤ t
        → t + (1 + max waiting (max (item_room wait waiting (room_of cs e (cond (is_last_item e fs) 0 2))) (room_of_fields cs fs (stored_behind wait full stored waiting) (waiting_behind wait full waiting)))) ≤ 255
        → FieldTakes t waiting (max (item_room wait waiting (room_of cs e (cond (is_last_item e fs) 0 2))) (room_of_fields cs fs (stored_behind wait full stored waiting) (waiting_behind wait full waiting)))
        (item_code wait full (exp_code cs e (item_register wait t waiting) j (cond (is_last_item e fs) 0 2)) stored waiting (cond (is_last_item e fs) 0 1) t line
        ++ fields_code cs fs (stored_behind wait full stored waiting) (waiting_behind wait full waiting) t (j + made_by e) line)
    item_fields_take e fs law laws wait full stored waiting t size j line known above small =
        let field : ℕ = cond (is_last_item e fs) 0 2 in
        let x = room_of cs e field in
        let r = room_of_fields cs fs (stored_behind wait full stored waiting) (waiting_behind wait full waiting) in
        let some = some_room e field (field_either (is_last_item e fs)) in
        let beyond = register_above wait t waiting in
        item_takes wait full stored waiting (cond (is_last_item e fs) 0 1) t x r line (exp_code cs e (item_register wait t waiting) j field)
        (fields_code cs fs (stored_behind wait full stored waiting) (waiting_behind wait full waiting) t (j + made_by e) line) some (one_or_none (is_last_item e fs)) small
        (law size (item_register wait t waiting) j field known.0 (omega (arith, above, beyond)) (either_fits (is_last_item e fs) 0 (lit< tt)) (register_room wait t waiting x r small))
        (laws (stored_behind wait full stored waiting) (waiting_behind wait full waiting) t size (j + made_by e) line known.1 above (behind_room wait full t waiting x r some small))

    -- two operands and what is done with them, which takes `own` registers where both operands stand below t
    module _ (own : ℕ) (s : Second) (most : ℕ) (e d : Exp) (stands : Stands s d most) (by_registers by_number : (x y : ℕ) → List Coded) (law_e : ExpTakes e) (law_d : ExpTakes d) (size t j : ℕ) (known_e : ExpFinds e hidden size ups) (known_d : ExpFinds d hidden size ups)
        (in_scope : size ≤ t) (above : t + 1 < 2 ^ 8 → top (by_registers t (t + 1)) ≤ t + 2) (here : (x y : ℕ) → (s ≡ made → ⊥) → x ≤ t → y ≤ t → t < 2 ^ 8 → top (by_registers x y) ≤ t + 1)
        (numbered : (x n : ℕ) → s ≡ a_number n → x ≤ t → t < 2 ^ 8 → top (by_number x n) ≤ t + 1) (below : (x y : ℕ) → (s ≡ made → ⊥) → x < t → y < t → t < 2 ^ 8 → Takes t own (by_registers x y))
        (numbered_below : (x n : ℕ) → s ≡ a_number n → x < t → t < 2 ^ 8 → Takes t own (by_number x n)) where
      abbrev first_code : List Coded
      first_code = exp_code cs e t j 2

      abbrev code : List Coded
      code = exp_code cs d (t + 1) (j + made_by e) 2

      take_by : (z : Second) (at : Option ℕ) → s ≡ z → first_of z e ≡ at → t + operands_room own z at (room_of cs e 2) (room_of cs d 2) ≤ 255
          → Takes t (operands_room own z at (room_of cs e 2) (room_of cs d 2)) (operands_code z at first_code code t by_registers by_number)
      take_by made (Some x) is at_is small = absurd (cc)
      take_by made None is at_is small =
          let some = own_room d in
          two_take t (room_of cs e 2) (room_of cs d 2) first_code code (by_registers t (t + 1)) some (law_e size t j 2 known_e in_scope (lit< tt) (omega (arith, small)))
          (law_d size (t + 1) (j + made_by e) 2 known_d (omega (arith, in_scope)) (lit< tt) (omega (arith, small))) (above (omega (arith, small, some)))
      take_by (a_local r) None is at_is small =
          let some = own_room e in
          let found = local_found hidden ups d r size (stands.local r is) known_d in
          one_takes t (room_of cs e 2) first_code (by_registers t r) some (law_e size t j 2 known_e in_scope (lit< tt) small)
          (here t r (λ h. local_not_made r (sym is ∙ h)) (omega arith) (omega (arith, found, in_scope)) (omega (arith, small, some)))
      take_by (a_local r) (Some x) is at_is small =
          let found = local_found hidden ups d r size (stands.local r is) known_d in
          let x_found = local_found hidden ups e x size (first_local (a_local r) e x at_is) known_e in
          below x r (λ h. local_not_made r (sym is ∙ h)) (omega (arith, x_found, in_scope)) (omega (arith, found, in_scope)) (omega (arith, small))
      take_by (a_number n) None is at_is small =
          let some = own_room e in
          one_takes t (room_of cs e 2) first_code (by_number t n) some (law_e size t j 2 known_e in_scope (lit< tt) small) (numbered t n is (omega arith) (omega (arith, small, some)))
      take_by (a_number n) (Some x) is at_is small =
          let x_found = local_found hidden ups e x size (first_local (a_number n) e x at_is) known_e in
          numbered_below x n is (omega (arith, x_found, in_scope)) (omega (arith, small))

      operands_take : t + operands_room own s (first_of s e) (room_of cs e 2) (room_of cs d 2) ≤ 255
          → Takes t (operands_room own s (first_of s e) (room_of cs e 2) (room_of cs d 2)) (operands_code s (first_of s e) first_code code t by_registers by_number)
      operands_take small = take_by s (first_of s e) refl refl small

    -- an object whose key is in the instruction
    module _ (own : ℕ) (e : Exp) (by_register : ℕ → List Coded) (law_e : ExpTakes e) (size t j : ℕ) (known_e : ExpFinds e hidden size ups) (in_scope : size ≤ t)
        (here : t < 2 ^ 8 → top (by_register t) ≤ t + 1) (below : (x : ℕ) → x < t → t < 2 ^ 8 → Takes t own (by_register x)) where
      named_by : (at : Option ℕ) → local_of e ≡ at → t + object_room own at (room_of cs e 2) ≤ 255 → Takes t (object_room own at (room_of cs e 2)) (unless at (exp_code cs e t j 2) ++ by_register (seat at t))
      named_by None is small = let some = own_room e in one_takes t (room_of cs e 2) (exp_code cs e t j 2) (by_register t) some (law_e size t j 2 known_e in_scope (lit< tt) small) (here (omega (arith, small, some)))
      named_by (Some x) is small = let x_found = local_found hidden ups e x size is known_e in below x (omega (arith, x_found, in_scope)) (omega (arith, small))

      named_take : t + object_room own (local_of e) (room_of cs e 2) ≤ 255 → Takes t (object_room own (local_of e) (room_of cs e 2)) (unless (local_of e) (exp_code cs e t j 2) ++ by_register (seat (local_of e) t))
      named_take small = named_by (local_of e) refl small

    -- a chain of `..`, whose right operand names as many registers as it does with its own CONCAT
    chain_top : (line : ℕ) (d : Exp) (t j : ℕ) → t + suc (links line d) ≤ 255
        → top (unjoined (continues line d) (exp_code cs d (t + 1) j 2) ++ with_abc Concat t (suc (links line d)) 0 line ∷ []) ≡ max (top (exp_code cs d (t + 1) j 2)) (t + suc (links line d))
    chain_top line d t j fits = by (continues line d) refl
      where
        by : (b : Bool) → continues line d ≡ b
            → top (unjoined b (exp_code cs d (t + 1) j 2) ++ with_abc Concat t (suc (links line d)) 0 line ∷ []) ≡ max (top (exp_code cs d (t + 1) j 2)) (t + suc (links line d))
        by true more =
            let second = exp_code cs d (t + 1) j 2 in
            let rest = unjoined true second in
            let own = with_abc Concat (t + 1) (links line d) 0 line ∷ [] in
            let last = with_abc Concat t (suc (links line d)) 0 line ∷ [] in
            let a : top second ≡ top (rest ++ own) = ap top (joined_last cs line d (t + 1) j 2 more) in
            let b = top_append rest own in
            let e = one_chain (t + 1) (links line d) (omega (arith, fits)) (omega (arith, fits)) in
            let f = top_append rest last in
            let g = one_chain t (suc (links line d)) (omega (arith, fits)) (omega (arith, fits)) in
            let some = links_some line d in
            omega (arith, a, b, e, f, g, some)
        by false ends =
            let second = exp_code cs d (t + 1) j 2 in
            let f = top_append second (with_abc Concat t (suc (links line d)) 0 line ∷ []) in
            let g = one_chain t (suc (links line d)) (omega (arith, fits)) (omega (arith, fits)) in
            omega (arith, f, g)

    chain_takes : (line : ℕ) (e d : Exp) → ExpTakes e → ExpTakes d → (size t j : ℕ) → ExpFinds e hidden size ups → ExpFinds d hidden size ups → size ≤ t → t + max (room_of cs e 2) (1 + room_of cs d 2) ≤ 255
        → Takes t (max (room_of cs e 2) (1 + room_of cs d 2)) (chain_code line d (exp_code cs e t j 2) (exp_code cs d (t + 1) (j + made_by e) 2) t)
    chain_takes line e d law_e law_d size t j known_e known_d in_scope small =
        let first = exp_code cs e t j 2 in
        let second = exp_code cs d (t + 1) (j + made_by e) 2 in
        let behind = unjoined (continues line d) second ++ with_abc Concat t (suc (links line d)) 0 line ∷ [] in
        let few = links_room cs line d own_room in
        let some = own_room d in
        let h = law_e size t j 2 known_e in_scope (lit< tt) (omega (arith, small)) in
        let k = law_d size (t + 1) (j + made_by e) 2 known_d (omega (arith, in_scope)) (lit< tt) (omega (arith, small)) in
        let a = top_append first behind in
        let b = chain_top line d t (j + made_by e) (omega (arith, small, few)) in
        by (top first) (top second) (links line d) (room_of cs e 2) (room_of cs d 2) (top (first ++ behind)) (omega (arith, a, b)) few some h.0 h.1 k.0 k.1
      where
        by : (m n l x y all : ℕ) → all ≡ max m (max n (t + suc l)) → l ≤ y → 1 ≤ y → m ≤ t + x → t + x ≤ max t m → n ≤ t + 1 + y → t + 1 + y ≤ max (t + 1) n
            → (all ≤ t + max x (1 + y)) × (t + max x (1 + y) ≤ max t all)
        by m n l x y all is few some a b c e = (omega arith, omega arith)

    binary_takes : (line : ℕ) (op : BinOp) (e d : Exp) → ExpTakes e → ExpTakes d → (size t j : ℕ) → ExpFinds (Binary line op e d) hidden size ups → size ≤ t → t + room_of cs (Binary line op e d) 2 ≤ 255
        → Takes t (room_of cs (Binary line op e d) 2) (exp_code cs (Binary line op e d) t j 2)
    binary_takes line op e d law_e law_d size t j known in_scope small = whole (joins op) refl
      where
        by : (o : Option ℕ) → constant_in cs op d ≡ o → t + operation_room 1 o op e d (room_of cs e 2) (room_of cs d 2) ≤ 255
            → Takes t (operation_room 1 o op e d (room_of cs e 2) (room_of cs d 2)) (operation_code o op e d (exp_code cs e t j 2) (exp_code cs d (t + 1) (j + made_by e) 2) t t line)
        by (Some number) found small =
            let f = constant_is cs op d number found in
            let form = operand_form op d f.value f.is in
            named_take 1 e (λ x. constant_code op x number t line) law_e size t j known.0 in_scope
            (λ fits. let o = constant_here op d f.value t number t line form (omega arith) fits in omega (arith, o))
            (λ x x_below fits. let o = constant_here op d f.value x number t line form (omega (arith, x_below)) fits in (omega (arith, o), omega (arith, o))) small
        by None found small =
            operands_take 1 (second_of op d) 128 e d (operator_stands op d) (λ x y. operator_code op x y t line) (λ x n. number_code op x n t line) law_e law_d size t j known.0 known.1 in_scope (λ fits. operator_above op t line fits)
            (λ x y other x_below y_below fits. let o = operator_here op x y t line (λ joined. other (joins_made op d joined)) x_below y_below fits in omega (arith, o))
            (λ x n is x_below fits. let o = number_here op d x n t line (second_number op d n is) x_below fits in omega (arith, o))
            (λ x y other x_below y_below fits. let o = operator_here op x y t line (λ joined. other (joins_made op d joined)) (omega (arith, x_below)) (omega (arith, y_below)) fits in (omega (arith, o), omega (arith, o)))
            (λ x n is x_below fits. let o = number_here op d x n t line (second_number op d n is) (omega (arith, x_below)) fits in (omega (arith, o), omega (arith, o))) small

        whole : (b : Bool) → joins op ≡ b
            → Takes t (room_of cs (Binary line op e d) 2) (cond b (chain_code line d (exp_code cs e t j 2) (exp_code cs d (t + 1) (j + made_by e) 2) t) (operation_code (constant_in cs op d) op e d (exp_code cs e t j 2) (exp_code cs d (t + 1) (j + made_by e) 2) t t line))
        whole true joined =
            let room = join_room cs 1 op e d (room_of cs e 2) (room_of cs d 2) joined in
            subst (λ n. Takes t n (chain_code line d (exp_code cs e t j 2) (exp_code cs d (t + 1) (j + made_by e) 2) t)) (sym room)
            (chain_takes line e d law_e law_d size t j known.0 known.1 in_scope (omega (arith, small, room)))
        whole false apart = by (constant_in cs op d) refl small

    index_takes : (line : ℕ) (object key : Exp) → ExpTakes object → ExpTakes key → (size t j : ℕ) → ExpFinds (Index line object key) hidden size ups → size ≤ t → t + room_of cs (Index line object key) 2 ≤ 255
        → Takes t (room_of cs (Index line object key) 2) (exp_code cs (Index line object key) t j 2)
    index_takes line object key law_object law_key size t j known in_scope small = by (name_in cs key) small
      where
        by : (name : Option ℕ) → t + read_room 1 name object key (room_of cs object 2) (room_of cs key 2) ≤ 255
            → Takes t (read_room 1 name object key (room_of cs object 2) (room_of cs key 2)) (read_code name object key (exp_code cs object t j 2) (exp_code cs key (t + 1) (j + made_by object) 2) t t line)
        by (Some number) small = named_take 1 object (λ x. with_abc GetField t x number line ∷ []) law_object size t j known.0 in_scope
            (λ fits. let e = one_ab GetField t t number false refl fits fits in omega (arith, e))
            (λ x x_below fits. let e = one_ab GetField t x number false refl fits (omega arith) in (omega (arith, e, x_below), omega (arith, e, x_below))) small
        by None small =
            operands_take 1 (key_operand key) 255 object key (key_stands key) (λ x y. with_abc GetTable t x y line ∷ []) (λ x n. with_abc GetI t x n line ∷ []) law_object law_key size t j known.0 known.1 in_scope
            (λ fits. let e = one_abc GetTable t t (t + 1) false refl (omega arith) (omega arith) fits in omega (arith, e))
            (λ x y other x_below y_below fits. let e = one_abc GetTable t x y false refl fits (omega arith) (omega arith) in omega (arith, e))
            (λ x n is x_below fits. let e = one_ab GetI t x n false refl fits (omega arith) in omega (arith, e))
            (λ x y other x_below y_below fits. let e = one_abc GetTable t x y false refl fits (omega arith) (omega arith) in (omega (arith, e, x_below, y_below), omega (arith, e, x_below, y_below)))
            (λ x n is x_below fits. let e = one_ab GetI t x n false refl fits (omega arith) in (omega (arith, e, x_below), omega (arith, e, x_below))) small

    -- an operand that is alone

    pub seat_low : (e : Exp) (size t : ℕ) → ExpFinds e hidden size ups → size ≤ t → seat (local_of e) t ≤ t
    seat_low e size t known in_scope = by (local_of e) refl
      where
        by : (at : Option ℕ) → local_of e ≡ at → seat at t ≤ t
        by None is = omega arith
        by (Some x) is = let found = local_found hidden ups e x size is known in omega (arith, found, in_scope)

    unary_takes : (line : ℕ) (op : UnOp) (e : Exp) → ExpTakes e → (size t j : ℕ) → ExpFinds e hidden size ups → size ≤ t → t + room_of cs e 2 ≤ 255 → Takes t (room_of cs e 2) (exp_code cs (Unary line op e) t j 2)
    unary_takes line op e law size t j known in_scope small = by (local_of e) refl
      where
        some : 1 ≤ room_of cs e 2
        some = own_room e

        by : (at : Option ℕ) → local_of e ≡ at → Takes t (room_of cs e 2) (unless at (exp_code cs e t j 2) ++ prefix_code op (seat at t) t line)
        by None is =
            one_takes t (room_of cs e 2) (exp_code cs e t j 2) (prefix_code op t t line) some (law size t j 2 known in_scope (lit< tt) small)
            (let p = prefix_top op t t line (omega (arith, some, small)) (omega (arith, some, small)) in omega (arith, p))
        by (Some x) is =
            let found = local_found hidden ups e x size is known in
            let one = local_room cs e x is in
            let p = prefix_top op x t line (omega (arith, found, in_scope, some, small)) (omega (arith, some, small)) in
            (omega (arith, p, one, found, in_scope), omega (arith, p, one))

    -- a method's object, behind which the method takes two registers
    pub object_takes : (e : Exp) → ExpTakes e → (size t j : ℕ) → ExpFinds e hidden size ups → size ≤ t → t + room_of cs e 2 ≤ 255
        → (top (unless (local_of e) (exp_code cs e t j 2)) ≤ t + room_of cs e 2) × (t + room_of cs e 2 ≤ max (t + 2) (top (unless (local_of e) (exp_code cs e t j 2))))
    object_takes e law size t j known in_scope small = by (local_of e) refl
      where
        by : (at : Option ℕ) → local_of e ≡ at → (top (unless at (exp_code cs e t j 2)) ≤ t + room_of cs e 2) × (t + room_of cs e 2 ≤ max (t + 2) (top (unless at (exp_code cs e t j 2))))
        by None is = let h = law size t j 2 known in_scope (lit< tt) small in let high = h.1 in (h.0, omega (arith, high))
        by (Some x) is = let one = local_room cs e x is in (omega (arith, one), omega (arith, one))

    -- a condition, and a first operand whose value is kept

    abbrev TestTakes : Exp → Type 0
    TestTakes e = (k : Bool) (ahead size t j : ℕ) → ExpFinds e hidden size ups → size ≤ t → t + room_of_test cs e ≤ 255 → Takes t (room_of_test cs e) (test_code cs e k ahead t j)

    abbrev KeepTakes : Exp → Type 0
    KeepTakes e = (k : Bool) (ahead size t j : ℕ) → ExpFinds e hidden size ups → size ≤ t → t + room_of_keep cs e k ≤ 255 → Takes t (room_of_keep cs e k) (keep_code cs e k ahead t j)

    value_tests : (e : Exp) → ExpTakes e → (k : Bool) (ahead size t j : ℕ) → ExpFinds e hidden size ups → size ≤ t → t + object_room 0 (local_of e) (room_of cs e 2) ≤ 255
        → Takes t (object_room 0 (local_of e) (room_of cs e 2)) (value_test cs e k ahead t j)
    value_tests e law k ahead size t j known in_scope small =
        named_take 0 e (λ x. jump_if Test x 0 (not k) ahead (line_of e)) law size t j known in_scope
        (λ fits. let o = pair_top (abc Test t 0 0 (not k)) ahead (line_of e) in let p = one_a Test t 0 0 (not k) refl fits in omega (arith, o, p))
        (λ x x_below fits. let o = pair_top (abc Test x 0 0 (not k)) ahead (line_of e) in let p = one_a Test x 0 0 (not k) refl (omega (arith, x_below, fits)) in (omega (arith, o, p, x_below), omega arith)) small

    not_tests : (line : ℕ) (op : UnOp) (e : Exp) → ExpTakes (Unary line op e) → TestTakes e → TestTakes (Unary line op e)
    not_tests line Negation e value law k ahead size t j known in_scope small = law (not k) ahead size t j known in_scope small
    not_tests line op e value law k ahead size t j known in_scope small = value_tests (Unary line op e) value k ahead size t j known in_scope small

    -- a comparison, whose ways to be written name no register but those of its operands
    compare_tests : (op : BinOp) (e d : Exp) (by_constant by_registers by_number : (x y : ℕ) → List Coded) → ExpTakes e → ExpTakes d → (size t j : ℕ) → ExpFinds e hidden size ups → ExpFinds d hidden size ups → size ≤ t
        → ((x n : ℕ) → x < 2 ^ 8 → top (by_constant x n) ≡ x + 1) → ((x y : ℕ) → x < 2 ^ 8 → y < 2 ^ 8 → top (by_registers x y) ≡ max (x + 1) (y + 1)) → ((x n : ℕ) → x < 2 ^ 8 → top (by_number x n) ≡ x + 1)
        → t + operation_room 0 (constant_in cs op d) op e d (room_of cs e 2) (room_of cs d 2) ≤ 255
        → Takes t (operation_room 0 (constant_in cs op d) op e d (room_of cs e 2) (room_of cs d 2))
        (operation_by (constant_in cs op d) op e d (exp_code cs e t j 2) (exp_code cs d (t + 1) (j + made_by e) 2) t by_constant by_registers by_number)
    compare_tests op e d by_constant by_registers by_number law_e law_d size t j known_e known_d in_scope constants registers numbers small = by (constant_in cs op d) small
      where
        by : (o : Option ℕ) → t + operation_room 0 o op e d (room_of cs e 2) (room_of cs d 2) ≤ 255
            → Takes t (operation_room 0 o op e d (room_of cs e 2) (room_of cs d 2)) (operation_by o op e d (exp_code cs e t j 2) (exp_code cs d (t + 1) (j + made_by e) 2) t by_constant by_registers by_number)
        by (Some number) small =
            named_take 0 e (λ x. by_constant x number) law_e size t j known_e in_scope
            (λ fits. let o = constants t number fits in omega (arith, o))
            (λ x x_below fits. let o = constants x number (omega (arith, x_below, fits)) in (omega (arith, o, x_below), omega arith)) small
        by None small =
            operands_take 0 (second_of op d) 128 e d (operator_stands op d) by_registers by_number law_e law_d size t j known_e known_d in_scope
            (λ fits. let o = registers t (t + 1) (omega (arith, fits)) fits in omega (arith, o))
            (λ x y other x_below y_below fits. let o = registers x y (omega (arith, x_below, fits)) (omega (arith, y_below, fits)) in omega (arith, o, x_below, y_below))
            (λ x n is x_below fits. let o = numbers x n (omega (arith, x_below, fits)) in omega (arith, o, x_below))
            (λ x y other x_below y_below fits. let o = registers x y (omega (arith, x_below, fits)) (omega (arith, y_below, fits)) in (omega (arith, o, x_below, y_below), omega arith))
            (λ x n is x_below fits. let o = numbers x n (omega (arith, x_below, fits)) in (omega (arith, o, x_below), omega arith)) small

    binary_tests : (line : ℕ) (op : BinOp) (e d : Exp) → ExpTakes (Binary line op e d) → ExpTakes e → ExpTakes d → TestTakes (Binary line op e d)
    binary_tests line Equal e d value law_e law_d k ahead size t j known in_scope small = compare_tests Equal e d _ _ _ law_e law_d size t j known.0 known.1 in_scope (λ x n xf. pair_top (abc EqK x n 0 (not k)) ahead line ∙ one_a EqK x n 0 (not k) refl xf)
        (λ x y xf yf. pair_top (abc Eq x y 0 (not k)) ahead line ∙ one_ab Eq x y 0 (not k) refl xf yf) (λ x n xf. pair_top (abc EqI x (n + 127) 0 (not k)) ahead line ∙ one_a EqI x (n + 127) 0 (not k) refl xf) small
    binary_tests line Ne e d value law_e law_d k ahead size t j known in_scope small = compare_tests Ne e d _ _ _ law_e law_d size t j known.0 known.1 in_scope (λ x n xf. pair_top (abc EqK x n 0 k) ahead line ∙ one_a EqK x n 0 k refl xf)
        (λ x y xf yf. pair_top (abc Eq x y 0 k) ahead line ∙ one_ab Eq x y 0 k refl xf yf) (λ x n xf. pair_top (abc EqI x (n + 127) 0 k) ahead line ∙ one_a EqI x (n + 127) 0 k refl xf) small
    binary_tests line Less e d value law_e law_d k ahead size t j known in_scope small = compare_tests Less e d _ _ _ law_e law_d size t j known.0 known.1 in_scope (λ x n xf. pair_top (abc EqK x n 0 (not k)) ahead line ∙ one_a EqK x n 0 (not k) refl xf)
        (λ x y xf yf. pair_top (abc Lt x y 0 (not k)) ahead line ∙ one_ab Lt x y 0 (not k) refl xf yf) (λ x n xf. pair_top (abc LtI x (n + 127) 0 (not k)) ahead line ∙ one_a LtI x (n + 127) 0 (not k) refl xf) small
    binary_tests line AtMost e d value law_e law_d k ahead size t j known in_scope small = compare_tests AtMost e d _ _ _ law_e law_d size t j known.0 known.1 in_scope (λ x n xf. pair_top (abc EqK x n 0 (not k)) ahead line ∙ one_a EqK x n 0 (not k) refl xf)
        (λ x y xf yf. pair_top (abc Le x y 0 (not k)) ahead line ∙ one_ab Le x y 0 (not k) refl xf yf) (λ x n xf. pair_top (abc LeI x (n + 127) 0 (not k)) ahead line ∙ one_a LeI x (n + 127) 0 (not k) refl xf) small
    binary_tests line Gt e d value law_e law_d k ahead size t j known in_scope small = compare_tests Gt e d _ _ _ law_e law_d size t j known.0 known.1 in_scope (λ x n xf. pair_top (abc EqK x n 0 (not k)) ahead line ∙ one_a EqK x n 0 (not k) refl xf)
        (λ x y xf yf. let o = pair_top (abc Lt y x 0 (not k)) ahead line in let p = one_ab Lt y x 0 (not k) refl yf xf in omega (arith, o, p)) (λ x n xf. pair_top (abc GtI x (n + 127) 0 (not k)) ahead line ∙ one_a GtI x (n + 127) 0 (not k) refl xf) small
    binary_tests line Ge e d value law_e law_d k ahead size t j known in_scope small = compare_tests Ge e d _ _ _ law_e law_d size t j known.0 known.1 in_scope (λ x n xf. pair_top (abc EqK x n 0 (not k)) ahead line ∙ one_a EqK x n 0 (not k) refl xf)
        (λ x y xf yf. let o = pair_top (abc Le y x 0 (not k)) ahead line in let p = one_ab Le y x 0 (not k) refl yf xf in omega (arith, o, p)) (λ x n xf. pair_top (abc GeI x (n + 127) 0 (not k)) ahead line ∙ one_a GeI x (n + 127) 0 (not k) refl xf) small
    binary_tests line op e d value law_e law_d k ahead size t j known in_scope small = value_tests (Binary line op e d) value k ahead size t j known in_scope small

    true_tests : (line : ℕ) → TestTakes (True line)
    true_tests line true ahead size t j known in_scope small = (omega arith, omega arith)
    true_tests line false ahead size t j known in_scope small =
        let a = top_more (jump_over ahead line) [] in
        let b = ax_is Jmp (16777215 + ahead) refl in
        (omega (arith, a, b), omega arith)

    and_tests : (line : ℕ) (e d : Exp) → TestTakes e → TestTakes d → TestTakes (And line e d)
    and_tests line e d law_e law_d k ahead size t j known in_scope small =
        let second = test_code cs d k ahead t (j + made_by e) in
        let far : ℕ = length second + cond k ahead 0 in
        join_takes t (room_of_test cs e) (room_of_test cs d) (test_code cs e true far t j) second
        (law_e true far size t j known.0 in_scope (omega (arith, small))) (law_d k ahead size t (j + made_by e) known.1 in_scope (omega (arith, small)))

    or_tests : (line : ℕ) (e d : Exp) → TestTakes e → TestTakes d → TestTakes (Or line e d)
    or_tests line e d law_e law_d k ahead size t j known in_scope small =
        let second = test_code cs d k ahead t (j + made_by e) in
        let far : ℕ = length second + cond k 0 ahead in
        join_takes t (room_of_test cs e) (room_of_test cs d) (test_code cs e false far t j) second
        (law_e false far size t j known.0 in_scope (omega (arith, small))) (law_d k ahead size t (j + made_by e) known.1 in_scope (omega (arith, small)))

    -- a value that is made in t, or goes there from a local
    leaf_takes : (e : Exp) → ExpTakes e → (k : Bool) (ahead size t j : ℕ) → ExpFinds e hidden size ups → size ≤ t → t + room_of cs e 2 ≤ 255 → Takes t (room_of cs e 2) (kept_value e (exp_code cs e t j 2) k ahead t)
    leaf_takes e law k ahead size t j known in_scope small = by (local_of e) refl
      where
        some : 1 ≤ room_of cs e 2
        some = own_room e

        by : (at : Option ℕ) → local_of e ≡ at → Takes t (room_of cs e 2) (unless at (exp_code cs e t j 2) ++ set_if at k ahead t (line_of e))
        by None is =
            one_takes t (room_of cs e 2) (exp_code cs e t j 2) (set_if None k ahead t (line_of e)) some (law size t j 2 known in_scope (lit< tt) small)
            (let o = pair_top (abc Test t 0 0 k) ahead (line_of e) in let p = one_a Test t 0 0 k refl (omega (arith, some, small)) in omega (arith, o, p))
        by (Some x) is =
            let found = local_found hidden ups e x size is known in
            let one = local_room cs e x is in
            let o = pair_top (abc TestSet t x 0 k) ahead (line_of e) in
            let p = one_ab TestSet t x 0 k refl (omega (arith, some, small)) (omega (arith, found, in_scope, some, small)) in
            (omega (arith, o, p, one, found, in_scope), omega (arith, o, p, one))

    -- the condition, and what loads its truth
    truth_takes : (e : Exp) → TestTakes e → (k : Bool) (ahead size t j : ℕ) → ExpFinds e hidden size ups → size ≤ t → t + max (room_of_test cs e) 1 ≤ 255
        → Takes t (max (room_of_test cs e) 1) (test_code cs e k 2 t j ++ load_truth k ahead t (line_of e))
    truth_takes e law k ahead size t j known in_scope small =
        join_takes t (room_of_test cs e) 1 (test_code cs e k 2 t j) (load_truth k ahead t (line_of e)) (law k 2 size t j known in_scope (omega (arith, small))) (load_takes k)
      where
        load_takes : (k : Bool) → Takes t 1 (load_truth k ahead t (line_of e))
        load_takes true = let o = pair_top (abc LoadTrue t 0 0 false) ahead (line_of e) in let p = one_a LoadTrue t 0 0 false refl (omega (arith, small)) in (omega (arith, o, p), omega (arith, o, p))
        load_takes false = let o = pair_top (abc LoadFalse t 0 0 false) ahead (line_of e) in let p = one_a LoadFalse t 0 0 false refl (omega (arith, small)) in (omega (arith, o, p), omega (arith, o, p))

    unary_keeps : (line : ℕ) (op : UnOp) (e : Exp) → ExpTakes (Unary line op e) → TestTakes e → KeepTakes (Unary line op e)
    unary_keeps line Negation e value law k ahead size t j known in_scope small = truth_takes (Unary line Negation e) (not_tests line Negation e value law) k ahead size t j known in_scope small
    unary_keeps line op e value law k ahead size t j known in_scope small = leaf_takes (Unary line op e) value k ahead size t j known in_scope small

    binary_keeps : (line : ℕ) (op : BinOp) (e d : Exp) → ExpTakes (Binary line op e d) → ExpTakes e → ExpTakes d → KeepTakes (Binary line op e d)
    binary_keeps line Equal e d value law_e law_d k ahead size t j known in_scope small = truth_takes (Binary line Equal e d) (binary_tests line Equal e d value law_e law_d) k ahead size t j known in_scope small
    binary_keeps line Ne e d value law_e law_d k ahead size t j known in_scope small = truth_takes (Binary line Ne e d) (binary_tests line Ne e d value law_e law_d) k ahead size t j known in_scope small
    binary_keeps line Less e d value law_e law_d k ahead size t j known in_scope small = truth_takes (Binary line Less e d) (binary_tests line Less e d value law_e law_d) k ahead size t j known in_scope small
    binary_keeps line AtMost e d value law_e law_d k ahead size t j known in_scope small = truth_takes (Binary line AtMost e d) (binary_tests line AtMost e d value law_e law_d) k ahead size t j known in_scope small
    binary_keeps line Gt e d value law_e law_d k ahead size t j known in_scope small = truth_takes (Binary line Gt e d) (binary_tests line Gt e d value law_e law_d) k ahead size t j known in_scope small
    binary_keeps line Ge e d value law_e law_d k ahead size t j known in_scope small = truth_takes (Binary line Ge e d) (binary_tests line Ge e d value law_e law_d) k ahead size t j known in_scope small
    binary_keeps line op e d value law_e law_d k ahead size t j known in_scope small = leaf_takes (Binary line op e d) value k ahead size t j known in_scope small

    and_keeps : (line : ℕ) (e d : Exp) → TestTakes e → KeepTakes e → KeepTakes d → KeepTakes (And line e d)
    and_keeps line e d test_e keep_e keep_d false ahead size t j known in_scope small =
        let second = keep_code cs d false ahead t (j + made_by e) in
        join_takes t (room_of_keep cs e false) (room_of_keep cs d false) (keep_code cs e false (length second + ahead) t j) second
        (keep_e false (length second + ahead) size t j known.0 in_scope (omega (arith, small))) (keep_d false ahead size t (j + made_by e) known.1 in_scope (omega (arith, small)))
    and_keeps line e d test_e keep_e keep_d true ahead size t j known in_scope small =
        let second = keep_code cs d true ahead t (j + made_by e) in
        join_takes t (room_of_test cs e) (room_of_keep cs d true) (test_code cs e true (length second) t j) second
        (test_e true (length second) size t j known.0 in_scope (omega (arith, small))) (keep_d true ahead size t (j + made_by e) known.1 in_scope (omega (arith, small)))

    or_keeps : (line : ℕ) (e d : Exp) → TestTakes e → KeepTakes e → KeepTakes d → KeepTakes (Or line e d)
    or_keeps line e d test_e keep_e keep_d false ahead size t j known in_scope small =
        let second = keep_code cs d false ahead t (j + made_by e) in
        join_takes t (room_of_test cs e) (room_of_keep cs d false) (test_code cs e false (length second) t j) second
        (test_e false (length second) size t j known.0 in_scope (omega (arith, small))) (keep_d false ahead size t (j + made_by e) known.1 in_scope (omega (arith, small)))
    or_keeps line e d test_e keep_e keep_d true ahead size t j known in_scope small =
        let second = keep_code cs d true ahead t (j + made_by e) in
        join_takes t (room_of_keep cs e true) (room_of_keep cs d true) (keep_code cs e true (length second + ahead) t j) second
        (keep_e true (length second + ahead) size t j known.0 in_scope (omega (arith, small))) (keep_d true ahead size t (j + made_by e) known.1 in_scope (omega (arith, small)))

    mutual
      pub exp_takes : (e : Exp) → ExpTakes e
      exp_takes (Nil line) size t j field known above fits small = takes_one t _ line (let e = one_nil t 0 line (omega arith) (lit< tt) in omega (arith, e))
      exp_takes (True line) size t j field known above fits small = takes_one t _ line (one_a LoadTrue t 0 0 false refl (omega arith))
      exp_takes (False line) size t j field known above fits small = takes_one t _ line (one_a LoadFalse t 0 0 false refl (omega arith))
      exp_takes (Int line z) size t j field known above fits small =
          let e = integer_top cs t line (is_small z) (small_field z) (IntConst z) (omega arith) in
          (omega (arith, e), omega (arith, e))
      exp_takes (Str line bytes) size t j field known above fits small =
          let e = loads_top cs (StrConst bytes) t line (omega arith) in
          (omega (arith, e), omega (arith, e))
      exp_takes (Vararg line) size t j field known above fits small = (rest_below t field (omega arith) fits, rest_above t field (omega arith) fits)
      exp_takes (Function line body) size t j field known above fits small = takes_one t _ (line_of_body body) (one_ax Closure t j refl (omega arith))
      exp_takes (Var line name) size t j field known above fits small = name_takes cs name.text name.place hidden ups size t line known above small
      exp_takes (Index line object key) size t j field known above fits small = index_takes line object key (exp_takes object) (exp_takes key) size t j known above small
      exp_takes (Call line f es) size t j field known above fits small =
          let some = own_room f in
          let l = room_of_list cs 1 es None in
          let b = list_field 0 es in
          let few = field_room es 0 in
          let counted = count_room es 1 in
          call_takes t (room_of cs f 2) l b field (room_of_values field) (exp_code cs f t j 2) (exps_code cs es None (t + 1) (j + made_by f) line) (with_abc CallCode t b field line ∷ []) some
          (exp_takes f size t j 2 known.0 above (lit< tt) (omega arith))
          (exps_take es None 1 t (t + 1) size (j + made_by f) line refl known.1 (omega arith) (lit< tt) (omega arith))
          (one_call t b field (omega arith) (omega (arith, few, counted, some)) fits) (omega (arith, few, counted, some)) (values_low field) (values_high field)
      exp_takes (Method line object name es) size t j field known above fits small =
          let some = own_room object in
          let l = room_of_list cs 2 es None in
          let b = list_field 1 es in
          let few = field_room es 1 in
          let counted = count_room es 2 in
          let two = (self_room cs name.text).0 in
          let x = seat (local_of object) t in
          method_takes t (room_of cs object 2) (room_of_self cs name.text) l b field (room_of_values field) (unless (local_of object) (exp_code cs object t j 2)) (self_code cs name.text x t line)
          (exps_code cs es None (t + 2) (j + made_by object) line) (with_abc CallCode t b field line ∷ []) some two
          (object_takes object (exp_takes object) size t j known.0 above (omega arith))
          (self_top cs name.text x t line (seat_low object size t known.0 above) (omega arith))
          (exps_take es None 2 t (t + 2) size (j + made_by object) line refl known.1 (omega arith) (lit< tt) (omega arith))
          (one_call t b field (omega (arith, small, two)) (omega (arith, small, few, counted, some)) fits) (omega (arith, few, counted, some)) (values_low field) (values_high field)
      exp_takes (Unary line op e) size t j field known above fits small =
          unary_takes line op e (exp_takes e) size t j known above small
      exp_takes (Binary line op e d) size t j field known above fits small = binary_takes line op e d (exp_takes e) (exp_takes d) size t j known above small
      exp_takes (And line e d) size t j field known above fits small =
          let second = exp_code cs d t (j + made_by e) 2 in
          join_takes t (room_of_keep cs e false) (room_of cs d 2) (keep_code cs e false (length second) t j) second
          (keep_takes e (exp_takes e) false (length second) size t j known.0 above (omega arith)) (exp_takes d size t (j + made_by e) 2 known.1 above (lit< tt) (omega arith))
      exp_takes (Or line e d) size t j field known above fits small =
          let second = exp_code cs d t (j + made_by e) 2 in
          join_takes t (room_of_keep cs e true) (room_of cs d 2) (keep_code cs e true (length second) t j) second
          (keep_takes e (exp_takes e) true (length second) size t j known.0 above (omega arith)) (exp_takes d size t (j + made_by e) 2 known.1 above (lit< tt) (omega arith))
      exp_takes (Paren line e) size t j field known above fits small = exp_takes e size t j 2 known above (lit< tt) small
      exp_takes (Table line fs) size t j field known above fits small =
          let extra : Coded = (op_ax ExtraArg 0, line) in
          let code = fields_code cs fs 0 0 t j line in
          let h = fields_take fs 0 0 t size j line known above (omega arith) in
          let a = top_more (with_abc NewTable t 0 0 line) (extra ∷ code) in
          let b = top_more extra code in
          let c = one_a NewTable t 0 0 false refl (omega arith) in
          let d = ax_is ExtraArg 0 refl in
          (omega (arith, a, b, c, d, h.0), omega (arith, a, b, c, d, h.0, h.1))

      -- the value's own registers are given, since they are those of the same tree
      test_takes : (e : Exp) → ExpTakes e → TestTakes e
      test_takes (Paren line e) law = test_takes e (exp_takes e)
      test_takes (Unary line op e) law = not_tests line op e law (test_takes e (exp_takes e))
      test_takes (And line e d) law = and_tests line e d (test_takes e (exp_takes e)) (test_takes d (exp_takes d))
      test_takes (Or line e d) law = or_tests line e d (test_takes e (exp_takes e)) (test_takes d (exp_takes d))
      test_takes (Binary line op e d) law = binary_tests line op e d law (exp_takes e) (exp_takes d)
      test_takes (True line) law = true_tests line
      test_takes e law = value_tests e law

      keep_takes : (e : Exp) → ExpTakes e → KeepTakes e
      keep_takes (Paren line e) law = keep_takes e (exp_takes e)
      keep_takes (And line e d) law = and_keeps line e d (test_takes e (exp_takes e)) (keep_takes e (exp_takes e)) (keep_takes d (exp_takes d))
      keep_takes (Or line e d) law = or_keeps line e d (test_takes e (exp_takes e)) (keep_takes e (exp_takes e)) (keep_takes d (exp_takes d))
      keep_takes (Unary line op e) law = unary_keeps line op e law (test_takes e (exp_takes e))
      keep_takes (Binary line op e d) law = binary_keeps line op e d law (exp_takes e) (exp_takes d)
      keep_takes e law = leaf_takes e law

      pub exps_take : (es : Exps) → ExpsTake es
      exps_take EndExps wanted above t p size j line is known in_scope fits small = nils_take wanted above t p line is small
      exps_take (MoreExps e es) wanted above t p size j line is known in_scope fits small =
          let field = field_of e es wanted in
          let after = wanted_after e es wanted in
          more_take t above p (room_of cs e field) (room_of_list cs (above + 1) es after) (exp_code cs e p j field) (exps_code cs es after (p + 1) (j + made_by e) line) is
          (room_or_end e es wanted (above + 1))
          (exp_takes e size p j field known.0 in_scope (either_fits (is_last_open e es) (results_field wanted) fits) (omega arith))
          (exps_take es after (above + 1) t (p + 1) size (j + made_by e) line (omega arith) known.1 (omega arith) (after_by (is_last_open e es) wanted fits) (omega arith))

      fields_take : (fs : Fields) → FieldsTake fs
      fields_take EndFields stored waiting t size j line known above small = end_takes stored waiting t line small
      fields_take (MoreFields (Item e) fs) stored waiting t size j line known above small =
          item_fields_take e fs (exp_takes e) (fields_take fs) (waits e) (is_full (stored + waiting + 1)) stored waiting t size j line known above small
      fields_take (MoreFields (Keyed field_line e g) fs) stored waiting t size j line known above small =
          let key = field_key cs (is_quiet g) e in
          let stands = field_key_stands cs (is_quiet g) e in
          let value = value_stands cs g in
          let r = room_of_fields cs fs (stored + waiting) 0 in
          let rest = fields_code cs fs (stored + waiting) 0 t (j + made_by e + made_by g) line in
          let first = exp_code cs e (t + 1) j 2 in
          let second = exp_code cs g (t + 2) (j + made_by e) 2 in
          behind_takes stored waiting t (max (keyed_room key (stored_value cs g) (room_of cs e 2) (room_of cs g 2)) r) line (keyed_store key (stored_value cs g) first second t field_line ++ rest) small
          (keyed_take cs (is_quiet g) e key (stored_value cs g) t (room_of cs e 2) (room_of cs g 2) r field_line first second rest stands (own_room e) (own_room g)
          (λ q is. let below = local_found hidden ups e q size (stands.local q is) known.0.0 in omega (arith, below, above)) (λ q is. let below = local_found hidden ups g q size (stands_local cs g (stored_value cs g) q is value) known.0.1 in omega (arith, below, above))
          (λ n is. (stands_constant cs g (stored_value cs g) n is value).short)
          (λ few. exp_takes e size (t + 1) j 2 known.0.0 (omega (arith, above)) (lit< tt) few) (λ few. exp_takes g size (t + 2) (j + made_by e) 2 known.0.1 (omega (arith, above)) (lit< tt) few) (omega (arith, small))
          (none_waits t r rest (fields_take fs (stored + waiting) 0 t size (j + made_by e + made_by g) line known.1 above (omega (arith, small)))))

    -- a value that goes straight to the register r of a local
    pub direct_takes : (e : Exp) → is_direct e ≡ true → (r size t j : ℕ) → ExpFinds e hidden size ups → size ≤ t → r < t → t + room_of_direct cs e ≤ 255 → Takes t (room_of_direct cs e) (direct_code cs e r t j)
    direct_takes (Nil line) is r size t j known in_scope low small = let e = one_nil r 0 line (omega (arith, low, small)) (lit< tt) in (omega (arith, e, low), omega arith)
    direct_takes (True line) is r size t j known in_scope low small = let e = one_a LoadTrue r 0 0 false refl (omega (arith, low, small)) in (omega (arith, e, low), omega arith)
    direct_takes (False line) is r size t j known in_scope low small = let e = one_a LoadFalse r 0 0 false refl (omega (arith, low, small)) in (omega (arith, e, low), omega arith)
    direct_takes (Int line z) is r size t j known in_scope low small =
        let e = integer_top cs r line (is_small z) (small_field z) (IntConst z) (omega (arith, low, small)) in
        (omega (arith, e, low), omega arith)
    direct_takes (Str line bytes) is r size t j known in_scope low small =
        let e = loads_top cs (StrConst bytes) r line (omega (arith, low, small)) in
        (omega (arith, e, low), omega arith)
    direct_takes (Var line name) is r size t j known in_scope low small = name_below cs name.text name.place hidden ups size r t line known in_scope low (omega (arith, small)) small
    direct_takes (Paren line e) is r size t j known in_scope low small = direct_takes e is r size t j known in_scope low small
    direct_takes (Unary line op e) is r size t j known in_scope low small =
        named_take 0 e (λ x. prefix_code op x r line) (exp_takes e) size t j known in_scope
        (λ fits. let p = prefix_top op t r line fits (omega (arith, low, fits)) in omega (arith, p, low))
        (λ x x_below fits. let p = prefix_top op x r line (omega (arith, x_below, fits)) (omega (arith, low, fits)) in (omega (arith, p, low, x_below), omega arith)) small
    direct_takes (Binary line op e d) is r size t j known in_scope low small =
        by (constant_in cs op d) refl small
      where
        none : joins op ≡ false
        none = computes_no_join op is

        by : (o : Option ℕ) → constant_in cs op d ≡ o → t + operation_room 0 o op e d (room_of cs e 2) (room_of cs d 2) ≤ 255
            → Takes t (operation_room 0 o op e d (room_of cs e 2) (room_of cs d 2)) (operation_code o op e d (exp_code cs e t j 2) (exp_code cs d (t + 1) (j + made_by e) 2) r t line)
        by (Some number) found small =
            let f = constant_is cs op d number found in
            let form = operand_form op d f.value f.is in
            named_take 0 e (λ x. constant_code op x number r line) (exp_takes e) size t j known.0 in_scope
            (λ fits. let o = constant_top op d f.value t number r line is form (omega arith) (omega arith) in omega (arith, o, low))
            (λ x x_below fits. let o = constant_top op d f.value x number r line is form (omega arith) (omega arith) in (omega (arith, o, low, x_below), omega arith)) small
        by None found small =
            operands_take 0 (second_of op d) 128 e d (operator_stands op d) (λ x y. operator_code op x y r line) (λ x n. number_code op x n r line) (exp_takes e) (exp_takes d) size t j known.0 known.1 in_scope
            (λ fits. let o = operator_top op t (t + 1) r line none (omega arith) fits (omega arith) in omega (arith, o, low))
            (λ x y other x_below y_below fits. let o = operator_top op x y r line none (omega arith) (omega arith) (omega arith) in omega (arith, o, low, x_below, y_below))
            (λ x n numeral x_below fits. let o = number_top op d x n r line is (second_number op d n numeral) (omega arith) (omega arith) in omega (arith, o, low, x_below))
            (λ x y other x_below y_below fits. let o = operator_top op x y r line none (omega arith) (omega arith) (omega arith) in (omega (arith, o, low, x_below, y_below), omega arith))
            (λ x n numeral x_below fits. let o = number_top op d x n r line is (second_number op d n numeral) (omega arith) (omega arith) in (omega (arith, o, low, x_below), omega arith)) small
    direct_takes (Index line object key) is r size t j known in_scope low small = by (name_in cs key) small
      where
        by : (name : Option ℕ) → t + read_room 0 name object key (room_of cs object 2) (room_of cs key 2) ≤ 255
            → Takes t (read_room 0 name object key (room_of cs object 2) (room_of cs key 2)) (read_code name object key (exp_code cs object t j 2) (exp_code cs key (t + 1) (j + made_by object) 2) r t line)
        by (Some number) small = named_take 0 object (λ x. with_abc GetField r x number line ∷ []) (exp_takes object) size t j known.0 in_scope
            (λ fits. let o = one_ab GetField r t number false refl (omega arith) fits in omega (arith, o, low))
            (λ x x_below fits. let o = one_ab GetField r x number false refl (omega arith) (omega arith) in (omega (arith, o, low, x_below), omega arith)) small
        by None small =
            operands_take 0 (key_operand key) 255 object key (key_stands key) (λ x y. with_abc GetTable r x y line ∷ []) (λ x n. with_abc GetI r x n line ∷ []) (exp_takes object) (exp_takes key) size t j known.0 known.1 in_scope
            (λ fits. let o = one_abc GetTable r t (t + 1) false refl (omega arith) (omega arith) fits in omega (arith, o, low))
            (λ x y other x_below y_below fits. let o = one_abc GetTable r x y false refl (omega arith) (omega arith) (omega arith) in omega (arith, o, low, x_below, y_below))
            (λ x n numeral x_below fits. let o = one_ab GetI r x n false refl (omega arith) (omega arith) in omega (arith, o, low, x_below))
            (λ x y other x_below y_below fits. let o = one_abc GetTable r x y false refl (omega arith) (omega arith) (omega arith) in (omega (arith, o, low, x_below, y_below), omega arith))
            (λ x n numeral x_below fits. let o = one_ab GetI r x n false refl (omega arith) (omega arith) in (omega (arith, o, low, x_below), omega arith)) small
    direct_takes _ is r size t j known in_scope low small = absurd (cc)

  -- it takes no more registers than in one of its own
  pub direct_less : (e : Exp) → room_of_direct cs e ≤ room_of cs e 2
  direct_less (Var line name) = name_less cs name.place name.text
  direct_less (Paren line e) = direct_less e
  direct_less (Unary line op e) = by (local_of e)
    where
      by : (at : Option ℕ) → object_room 0 at (room_of cs e 2) ≤ room_of cs e 2
      by None = omega arith
      by (Some x) = omega arith
  direct_less (Binary line op e d) = operation_less (constant_in cs op d) op e d (room_of cs e 2) (room_of cs d 2)
  direct_less (Index line object key) = read_less (name_in cs key) object key (room_of cs object 2) (room_of cs key 2)
  direct_less _ = omega arith
