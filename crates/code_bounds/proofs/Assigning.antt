-- The code of an assignment takes the registers that are counted for it.
use Rattle.std.proofs.Common.{◌≡◌, ℕ, ◌+◌, ◌*◌, ◌<◌, ◌≤◌, ◌^◌, max, Bool, true, false, List, [], ◌∷◌, ◌++◌, Option, Some, None, refl, sym, ap, subst, lit≤, arith}
use Rattle.tree_core.specs.declared.name.Name.{Name}
use Rattle.tree_core.specs.declared.name.Place.{Place}
use Rattle.tree_core.specs.declared.name.Place.TheVariants.{Unset, Upvalue, GlobalIn, GlobalOf, Local as LocalPlace}
use Rattle.tree_core.specs.Tree.{Exp, Str, Var, Index, Exps, EndExps, MoreExps}
use Rattle.code_core.specs.declared.opcode.Opcode.TheVariants.{Move, GetUpval, SetUpval}
use Rattle.code_core.specs.declared.proto.Const.{Const}
use Rattle.code_core.specs.declared.proto.Const.TheVariants.{Str as StrConst}
use Rattle.code_of.specs.Coded.{Coded, with_abc}
use Rattle.code_of.specs.Constants.{number_in, loads}
use Rattle.code_of.specs.Expressions.{made_by, made_in, count, exp_code, exps_code}
use Rattle.code_of.specs.Operands.{is_direct, assigned, second_assigned}
use Rattle.code_of.proofs.Operands.{assigned_is, second_is}
use Rattle.code_of.specs.Parts.{name_target, target_code, targets_code, name_store, store_code, stores_code, direct_code, first_direct, first_field, stored_code, kept_code, store_by, assign_by, assign_code, two_code, first_two, two_by}
use Rattle.code_of.specs.Stores.{key_code, stores_field}
use Rattle.code_of.proofs.Stores.{stores_field_is}
use Rattle.code_of.proofs.StoredValues.{StoredIn}
use Rattle.code_of.specs.Targets.{waiting_key, text_key, single_store}
use Rattle.code_of.proofs.Targets.{key_waits, single_store_is}
use Rattle.scope_core.specs.Held.{held, held_behind, held_targets}
use Rattle.code_of.specs.Rooms.{room_of_name, room_of_direct, room_of_assigned, room_of_first, room_of_list, room_of, room_of_two}
use Rattle.scope_laws.specs.Finding.{PlaceIsThere, ExpFinds, ExpsFind}
use Rattle.code_bounds.specs.Registers.{TargetHasRoom, TargetsHaveRoom, KeptHasRoom, StoreHasRoom, AssignHasRoom, TwoHasRoom}
use Rattle.code_bounds.proofs.Tops.{top, one, top_more, top_append, one_a, one_ab, third_room}
use Rattle.code_bounds.proofs.Pieces.{loads_top}
use Rattle.code_bounds.proofs.Holding.{name_two, held_shifted, exp_held}
use Rattle.code_bounds.proofs.Expressions.{direct_takes, direct_less, local_found, some_room}
use Rattle.code_bounds.proofs.Room.{HasRoom, room_as, room_append, room_of_top}
use Rattle.code_bounds.proofs.Simple.{exp_room, exps_room, filled}
use Rattle.code_bounds.proofs.FieldStores.{field_room}
use Rattle.code_bounds.proofs.Targets.{key_top, waiting_top, waiting_room, local_top}

-- stores name the registers of their target and their value, or a local in scope

module _ (cs : List Const) (hidden : List ℕ) (ups : ℕ) where
  name_store_top : (p : Place) (text : List ℕ) (size r v line limit : ℕ) → PlaceIsThere hidden size ups p → size ≤ limit → r + 2 ≤ limit → v + 1 ≤ limit → limit ≤ 250 → top (name_store cs p text r v line) ≤ limit
  name_store_top Unset text size r v line limit known a b c small = absurd known
  name_store_top (LocalPlace n) text size r v line limit known a b c small = let e = one_ab Move n v 0 false refl (omega (arith, known.0)) (omega arith) in omega (arith, e, known.0)
  name_store_top (Upvalue u) text size r v line limit known a b c small = let e = one_a SetUpval v u 0 false refl (omega arith) in omega (arith, e)
  name_store_top (GlobalIn n) text size r v line limit known a b c small = waiting_top cs (text_key cs text) (Str line text) r v line limit (key_waits cs (Str line text)) b c small
  name_store_top (GlobalOf u) text size r v line limit known a b c small = waiting_top cs (text_key cs text) (Str line text) r v line limit (key_waits cs (Str line text)) b c small

  store_top : (e : Exp) (size r v limit : ℕ) → ExpFinds e hidden size ups → size ≤ limit → r + 2 ≤ limit → v + 1 ≤ limit → limit ≤ 250 → top (store_code cs e r v) ≤ limit
  store_top (Var line name) size r v limit known a b c small = name_store_top name.place name.text size r v line limit known a b c small
  store_top (Index line object key) size r v limit known a b c small = waiting_top cs (waiting_key cs key) key r v line limit (key_waits cs key) b c small
  store_top _ size r v limit known a b c small = omega arith

  stores_top : (targets : Exps) (size r v limit : ℕ) → ExpsFind targets hidden size ups → size ≤ limit → r + 2 * count targets ≤ limit → v + count targets ≤ limit → limit ≤ 250 → top (stores_code cs targets r v) ≤ limit
  stores_top EndExps size r v limit known a b c small = omega arith
  stores_top (MoreExps e targets) size r v limit known a b c small =
      let rest = stores_top targets size (r + 2) (v + 1) limit known.1 a (omega arith) (omega arith) small in
      let mine = store_top e size r v limit known.0 a (omega arith) (omega arith) small in
      let both = top_append (stores_code cs targets (r + 2) (v + 1)) (store_code cs e r v) in
      omega (arith, rest, mine, both)

  module _ (stack : ℕ) where
    -- nothing is needed of a name that has no table
    plain_target : (p : Place) (text : List ℕ) (r : ℕ) → HasRoom stack [] (r + 2 ≤ stack → r + room_of_name cs p text ≤ stack)
    plain_target p text r = let two = name_two cs p text in record { below = omega arith; gives = λ small room. omega (arith, two, room) }

    global_target : (p : Place) (text : List ℕ) (r : ℕ) (first : Coded) (line : ℕ) → one first.0 ≤ 250 → r + 2 ≤ 250 →
        HasRoom stack (first ∷ key_code (text_key cs text) (loads cs (StrConst text) (r + 1) line)) (r + 2 ≤ stack → r + room_of_name cs p text ≤ stack)
    global_target p text r first line small fits =
        let two = name_two cs p text in
        let key = loads cs (StrConst text) (r + 1) line in
        let e = top_more first (key_code (text_key cs text) key) in
        let f = loads_top cs (StrConst text) (r + 1) line (omega arith) in
        let g = key_top (text_key cs text) key in
        record { below = omega (arith, e, f, g, small); gives = λ within room. omega (arith, two, room) }

    name_target_room : (p : Place) (text : List ℕ) (size r line : ℕ) → PlaceIsThere hidden size ups p → size ≤ r → r + 2 ≤ 250 → HasRoom stack (name_target cs p text r line) (r + 2 ≤ stack → r + room_of_name cs p text ≤ stack)
    name_target_room Unset text size r line known a few = absurd known
    name_target_room (LocalPlace n) text size r line known a few = plain_target (LocalPlace n) text r
    name_target_room (Upvalue u) text size r line known a few = plain_target (Upvalue u) text r
    name_target_room (GlobalIn n) text size r line known a few =
        let e = one_ab Move r n 0 false refl (omega arith) (omega (arith, known.0)) in
        global_target (GlobalIn n) text r (with_abc Move r n 0 line) line (omega (arith, e, known.0)) few
    name_target_room (GlobalOf u) text size r line known a few =
        let e = one_a GetUpval r u 0 false refl (omega arith) in
        global_target (GlobalOf u) text r (with_abc GetUpval r u 0 line) line (omega (arith, e)) few

    target_room : (e : Exp) (size r j : ℕ) → ExpFinds e hidden size ups → size ≤ r → r + held e ≤ 250 → r + 2 ≤ 250 → HasRoom stack (target_code cs e r j) (r + 2 ≤ stack → TargetHasRoom cs stack e r)
    target_room (Var line name) size r j known a few fits = name_target_room name.place name.text size r line known a fits
    target_room (Index line object key) size r j known a few fits =
        let first = exp_code cs object r j 2 in
        let second = key_code (waiting_key cs key) (exp_code cs key (r + 1) (j + made_by object) 2) in
        let h = exp_room cs hidden ups stack object size r j 2 known.0 a (omega arith) (omega arith) (lit≤ tt) in
        let k = waiting_room cs hidden ups stack (waiting_key cs key) key size r (j + made_by object) (key_waits cs key) known.1 a (omega arith) fits in
        room_as (room_append first second h k) (λ both room. let behind = both.1 room in omega (arith, both.0, behind, room))
    target_room _ size r j known a few fits = record { below = omega arith; gives = λ small room. tt }

    targets_room : (targets : Exps) (size t before r j : ℕ) → r ≡ t + before → ExpsFind targets hidden size ups → size ≤ r → t + held_targets before targets ≤ 250 → r + 2 * count targets ≤ 250 →
        HasRoom stack (targets_code cs targets r j) (r + 2 * count targets ≤ stack → TargetsHaveRoom cs stack targets r)
    targets_room EndExps size t before r j is known a few fits = record { below = omega arith; gives = λ small room. tt }
    targets_room (MoreExps e targets) size t before r j is known a few fits =
        let first = target_code cs e r j in
        let rest = targets_code cs targets (r + 2) (j + made_by e) in
        let h = target_room e size r j known.0 a (omega arith) (omega arith) in
        let k = targets_room targets size t (before + 2) (r + 2) (j + made_by e) (omega arith) known.1 (omega arith) (omega arith) (omega arith) in
        room_as (room_append first rest h k) (λ both room. (both.0 (omega (arith, room)), both.1 (omega (arith, room))))

    stored_room : (targets es : Exps) (t j line : ℕ) → ExpsFind targets hidden t ups → ExpsFind es hidden t ups → t + held_targets 0 targets ≤ 250 → t + held_behind (2 * count targets) es ≤ 250 → t + 3 * count targets ≤ 250 →
        HasRoom stack (stored_code cs targets es t j line)
        (t ≤ stack → TargetsHaveRoom cs stack targets t × ((t + 2 * count targets + room_of_list cs 0 es (Some (count targets)) ≤ stack) × (t + 2 * count targets + count targets ≤ stack)))
    stored_room targets es t j line known_targets known few values many =
        let n = count targets in
        let v = t + 2 * n in
        let first = targets_code cs targets t j in
        let second = exps_code cs es (Some n) v (j + made_in targets) line in
        let third = stores_code cs targets t v in
        let shifted = held_shifted es (2 * n) 0 in
        let none : 2 * n + 0 ≡ 2 * n = omega arith in
        let same = ap (λ m. held_behind m es) none in
        let h = targets_room targets t t 0 t j (omega arith) known_targets (omega arith) few (omega arith) in
        let k = exps_room cs hidden ups stack es (Some n) t v (j + made_in targets) line known (omega arith) (omega arith) (omega (arith, shifted, same)) (omega arith) in
        let l = room_of_top {stack = stack} third (stores_top targets t t v 250 known_targets (omega arith) (omega arith) (omega arith) (lit≤ tt)) in
        let full = filled cs es n 0 in
        room_as (room_append first (second ++ third) h (room_append second third k l)) (λ all room. by (room_of_list cs 0 es (Some n)) n v full all.0 all.1.0 (omega arith) room)
      where
        by : (r n v : ℕ) → 0 + n ≤ max 0 r → (t + 2 * n ≤ stack → TargetsHaveRoom cs stack targets t) → v + r ≤ max v stack → v ≡ t + 2 * n → t ≤ stack →
            TargetsHaveRoom cs stack targets t × ((v + r ≤ stack) × (v + n ≤ stack))
        by r n v full go room is within = (go (omega arith), (omega arith, omega arith))

    -- a value that goes straight to a local's register
    direct_room : (e : Exp) → is_direct e ≡ true → (r size t j : ℕ) → ExpFinds e hidden size ups → size ≤ t → r < t → t + held e ≤ 250 → t + 1 ≤ 250 → HasRoom stack (direct_code cs e r t j) (t ≤ stack → t + room_of_direct cs e ≤ stack)
    direct_room e is r size t j known above low few fits =
        let h = exp_held cs e 2 in
        let less = direct_less cs e in
        let all = direct_takes cs hidden ups e is r size t j known above low (omega (arith, h, less)) in
        record { below = omega (arith, h, less, fits, all.0); gives = λ small within. omega (arith, all.1, small, within) }

    -- two values, of which the second one goes straight to a local's register
    two_room : (l : ℕ) (x : Exp) (name : Name) (e d : Exp) (r t j : ℕ) → name.place ≡ LocalPlace r → is_direct d ≡ true → ExpFinds x hidden t ups → ExpFinds e hidden t ups → ExpFinds d hidden t ups → r < t
        → t + held x ≤ 250 → t + 2 + held e ≤ 250 → t + 3 + held d ≤ 250 → t + 4 ≤ 250
        → HasRoom stack (two_code cs x e d r t j) (t ≤ stack → TargetsHaveRoom cs stack (MoreExps x (MoreExps (Var l name) EndExps)) t × (t + max (2 + room_of cs e 2) (3 + room_of_direct cs d) ≤ stack))
    two_room l x name e d r t j place direct known_x known_e known_d low x_few e_few d_few fits =
        let aims = target_code cs x t j in
        let first = exp_code cs e (t + 2) (j + made_by x) 2 in
        let second = direct_code cs d r (t + 3) (j + made_by x + made_by e) in
        let last = store_code cs x t (t + 2) in
        let some = some_room cs e 2 (omega arith) in
        let h = target_room x t t j known_x (omega arith) x_few (omega (arith, fits)) in
        let k = exp_room cs hidden ups stack e t (t + 2) (j + made_by x) 2 known_e (omega arith) e_few (omega (arith, fits)) (lit≤ tt) in
        let q = direct_room d direct r t (t + 3) (j + made_by x + made_by e) known_d (omega arith) (omega (arith, low)) d_few (omega (arith, fits)) in
        let z = room_of_top {stack = stack} last (store_top x t t (t + 2) 250 known_x (omega (arith, fits)) (omega (arith, fits)) (omega (arith, fits)) (lit≤ tt)) in
        room_as (room_append aims (first ++ (second ++ last)) h (room_append first (second ++ last) k (room_append second last q z)))
        (λ all small.
        let value : t + 2 + room_of cs e 2 ≤ max (t + 2) stack = all.1.0 in
        let within : t + 3 ≤ stack = omega (arith, value, some) in
        let behind = all.1.1.0 within in
        ((all.0 (omega (arith, within)), (subst (λ p. t + 2 + room_of_name cs p name.text ≤ stack) (sym place) (omega (arith, within)), tt)), omega (arith, value, within, behind)))

    -- a value that a store names is a constant of a field, or stands below the free registers
    stored_low : (e : Exp) (constant : Bool) (v t : ℕ) → StoredIn cs e constant v → ExpFinds e hidden t ups → t ≤ 250 → (v < 2 ^ 8) × (third_room constant v ≤ t)
    stored_low e true v t is known small = let short = is.short in (omega (arith, short), omega arith)
    stored_low e false v t is known small = let below = local_found hidden ups e v t is known in (omega (arith, below, small), omega (arith, below))

    pub assign_room : (targets es : Exps) (t j line : ℕ) → ups ≤ 255 → ExpsFind targets hidden t ups → ExpsFind es hidden t ups → t + held_targets 0 targets ≤ 250 → t + held_behind (2 * count targets) es ≤ 250 → t + 3 * count targets ≤ 250 →
        HasRoom stack (assign_code cs targets es t j line) (t ≤ stack → AssignHasRoom cs stack (assigned targets es) targets es t)
    assign_room targets es t j line few_ups known_targets known few values many = by (assigned targets es) refl
      where
        by : (o : Option ℕ) → assigned targets es ≡ o → HasRoom stack (assign_by cs o targets es t j line) (t ≤ stack → AssignHasRoom cs stack o targets es t)
        by None is = by_two (second_assigned targets es) refl
          where
            by_two : (o : Option ℕ) → second_assigned targets es ≡ o → HasRoom stack (two_by cs o targets es t j line) (t ≤ stack → TwoHasRoom cs stack o targets es t)
            by_two None is = by_field (stores_field targets es) refl
              where
                by_field : (b : Bool) → stores_field targets es ≡ b → HasRoom stack (store_by cs b targets es t j line) (t ≤ stack → StoreHasRoom cs stack b targets es t)
                by_field false is = by_store (single_store cs targets es) refl
                  where
                    by_store : (o : Option Coded) → single_store cs targets es ≡ o → HasRoom stack (kept_code cs o targets es t j line) (t ≤ stack → KeptHasRoom cs stack o targets es t)
                    by_store None is = stored_room targets es t j line known_targets known few values many
                    by_store (Some x) is =
                        let form = single_store_is cs targets es x is in
                        let found = subst (λ z. ExpsFind z hidden t ups) form.target known_targets in
                        let value_known = subst (λ z. ExpsFind z hidden t ups) form.values known in
                        let seat = stored_low form.value form.constant form.field t form.is value_known.0 (omega (arith, many)) in
                        record { below = local_top cs hidden ups form.name.place (number_in cs (StrConst form.name.text)) form.constant form.field form.line t x form.store found.0 form.short seat.0 seat.1 (omega (arith, many)) few_ups; gives = λ h small. tt }
                by_field true is =
                    let form = stores_field_is targets es is in
                    let after = j + made_in targets in
                    let target = MoreExps (Index form.line form.object form.key) EndExps in
                    let found = subst (λ z. ExpsFind z hidden t ups) form.target known_targets in
                    let value_known = subst (λ z. ExpsFind z hidden t ups) form.values known in
                    let held_target = ap (held_targets 0) form.target in
                    let held_value = ap (held_behind (2 * count targets)) form.values in
                    let counted = ap count form.target in
                    subst (λ z. HasRoom stack (first_field cs z es t j after) (t ≤ stack → t + room_of_first cs z es ≤ stack)) (sym form.target)
                    (subst (λ z. HasRoom stack (first_field cs target z t j after) (t ≤ stack → t + room_of_first cs target z ≤ stack)) (sym form.values)
                    (field_room cs hidden ups stack form.line form.object form.key form.value t j after found.0.0 found.0.1 value_known.0 (omega (arith, few, held_target)) (omega (arith, few, held_target)) (omega (arith, values, held_value, counted)) (omega (arith, many, counted))))
            by_two (Some r) is =
                let form = second_is targets es r is in
                let both = MoreExps form.target (MoreExps (Var form.line form.name) EndExps) in
                let found = subst (λ z. ExpsFind z hidden t ups) form.targets_are known_targets in
                let there = subst (λ p. PlaceIsThere hidden t ups p) form.place found.1.0 in
                let value_known = subst (λ z. ExpsFind z hidden t ups) form.values known in
                let held_target = ap (held_targets 0) form.targets_are in
                let held_value = ap (held_behind (2 * count targets)) form.values in
                let counted = ap count form.targets_are in
                subst (λ z. HasRoom stack (first_two cs z es r t j) (t ≤ stack → TargetsHaveRoom cs stack z t × (t + room_of_two cs z es ≤ stack))) (sym form.targets_are)
                (subst (λ z. HasRoom stack (first_two cs both z r t j) (t ≤ stack → TargetsHaveRoom cs stack both t × (t + room_of_two cs both z ≤ stack))) (sym form.values)
                (two_room form.line form.target form.name form.first form.second r t j form.place form.direct found.0 value_known.0 value_known.1.0 there.0
                (omega (arith, few, held_target)) (omega (arith, values, held_value, counted)) (omega (arith, values, held_value, counted)) (omega (arith, many, counted))))
        by (Some r) is =
            let form = assigned_is targets es r is in
            let found = subst (λ z. ExpsFind z hidden t ups) form.target known_targets in
            let there = subst (λ p. PlaceIsThere hidden t ups p) form.place found.0 in
            let value_known = subst (λ z. ExpsFind z hidden t ups) form.values known in
            let held_so = ap (held_behind (2 * count targets)) form.values in
            subst (λ z. HasRoom stack (first_direct cs z r t (j + made_in targets)) (t ≤ stack → t + room_of_assigned cs z ≤ stack)) (sym form.values)
            (direct_room form.value form.direct r t t (j + made_in targets) value_known.0 (omega arith) there.0 (omega (arith, values, held_so)) (let counted = ap count form.target in omega (arith, many, counted)))
