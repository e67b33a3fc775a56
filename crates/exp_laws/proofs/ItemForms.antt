-- The fields of a constructor: items that wait, other items, and fields with a key.
use Rattle.std.proofs.Common.{◌≡◌, ℕ, zero, suc, ◌+◌, ◌<◌, ◌≤◌, ◌^◌, Bool, true, false, cond, Option, Some, None, List, [], ◌∷◌, ◌++◌, length, refl, ap, sym, ◌∙◌, subst, arith, length-append}
use Rattle.int_core.specs.Value.{Value, a_table, object as reference, nth}
use Rattle.int_core.specs.Ask.{Captured}
use Rattle.tree_core.specs.Tree.{Exp, Vararg, Call, Method, Fields, EndFields, MoreFields, Item, Keyed}
use Rattle.tree_activation.specs.Work.{evaluate, give, construct, item_of, keyed_value, keyed_store as keyed_store_of, Work, Pending}
use Rattle.tree_activation.specs.Work as tree
use Rattle.tree_activation.specs.Activation.{step}
use Rattle.tree_activation.specs.Asking.{first}
use Rattle.code_core.specs.declared.proto.Const.{Const}
use Rattle.code_core.specs.Check.{fixed, open_from}
use Rattle.machine_core.specs.Talk.{before}
use Rattle.code_of.specs.Expressions.{made_by, is_open, is_last_item, exp_code, fields_code, set_list, waiting_code, item_code}
use Rattle.code_of.specs.Items.{waits, is_full, item_register, stored_behind, waiting_behind, item_room}
use Rattle.code_of.specs.Rooms.{room_of, room_of_fields}
use Rattle.code_of.specs.Stores.{is_quiet, field_key, keyed_store}
use Rattle.code_of.specs.StoredValues.{stored_value}
use Rattle.code_of.proofs.Stores.{field_key_stands, room_above_table, room_above_key}
use Rattle.code_of.proofs.StoredValues.{value_stands}
use Rattle.code_of.proofs.Items.{last_waits}
use Rattle.exp_laws.specs.Setting.{Setting}
use Rattle.exp_laws.specs.Placed.{IsPlaced, FieldsArePlaced}
use Rattle.exp_laws.proofs.Registers.{Rel, After, after_none, after_then, lower}
use Rattle.exp_laws.proofs.Talking.{Agree, go_left, of_tree, of_code}
use Rattle.exp_laws.proofs.Placing.{HasAt, has_front, has_back}
use Rattle.exp_laws.proofs.Lists.{Holds, held_one}
use Rattle.exp_laws.proofs.Going.{Given, Goes, GoesFilled, at_place, goes_at, goes_after}
use Rattle.exp_laws.proofs.Operands.{CodeSame, ExpSame}
use Rattle.exp_laws.proofs.Rooms.{room_some}
use Rattle.exp_laws.proofs.Tables.{items_count}
use Rattle.exp_laws.proofs.TableForms.{fill_goes}
use Rattle.exp_laws.proofs.Storing.{key_goes}
use Rattle.exp_laws.proofs.Waiting.{worth, worths, worths_held, AllWait, wait_more, ahead, ahead_more, held_same}
use Rattle.exp_laws.proofs.Batches.{next_item, stored_all, stored_first}

-- an item that waits: one value is wanted of it, be it the last one or not
record WantsOne (cs : List Const) (e : Exp) (t j field : ℕ) : Type 0 where
  same : exp_code cs e t j field ≡ exp_code cs e t j 2
  size : length (exp_code cs e t j field) ≡ length (exp_code cs e t j 2)
  least : room_of cs e field ≡ room_of cs e 2

wants_one : (cs : List Const) (e : Exp) (fs : Fields) (t j : ℕ) → waits e ≡ true → WantsOne cs e t j (cond (is_last_item e fs) 0 2)
wants_one cs e fs t j w =
    let two : cond (is_last_item e fs) 0 2 ≡ 2 = ap (λ b. cond b 0 2) (last_waits e fs w) in
    let same : exp_code cs e t j (cond (is_last_item e fs) 0 2) ≡ exp_code cs e t j 2 = ap (exp_code cs e t j) two in
    record { same = same; size = ap length same; least = ap (room_of cs e) two }

module _ (S : Setting) (pending : List Pending) where
  -- what the code of a call or of `...` does, of which all values are wanted
  abbrev pub OpenSame : Exp → Type 0
  OpenSame e = CodeSame S pending 0 (λ n t env regs pc k. GoesFilled S pending n 0 t env regs pc k) e

  -- the fields that are left, in front of which some items wait
  abbrev pub FieldsSame : Fields → Type 0
  FieldsSame fs =
      (waiting : ℕ) (es : List Exp) (line stored items m t j n pc opened : ℕ) (env regs : List Value) (c : Captured) (k : List Work)
      → AllWait es → waiting ≡ length es → n ≤ S.bound → HasAt S pc (fields_code S.code.own.constants fs stored waiting t j line)
      → FieldsArePlaced S fs items (length env) j → items ≡ stored + waiting → stored + waiting ≤ 2 ^ 33 → pc + length (fields_code S.code.own.constants fs stored waiting t j line) < length S.code.own.code
      → length env ≤ t → t + (1 + room_of_fields S.code.own.constants fs stored waiting) ≤ S.code.own.stack → t + (1 + waiting) ≤ S.code.own.stack
      → Rel S.hidden S.code.own.stack pending env c regs → nth regs t ≡ reference a_table m → Holds (t + 1) waiting (worths es env) regs
      → Goes S pending n false t env regs (pc + length (fields_code S.code.own.constants fs stored waiting t j line)) k
      → Agree S n (tree.at (construct line (reference a_table m) stored (ahead es fs)) (of_tree S pending env c) k) (before (of_code S pending pc regs opened) c)

  -- what waits at the end is stored
  pub end_goes : FieldsSame EndFields
  end_goes zero [] line stored items m t j n pc opened env regs c k ws count bound has ok sum wide inside le room seats rel is held goes =
      go_left S n _ (tree.at (give (reference a_table m ∷ [])) (of_tree S pending env c) k) _ refl
      (at_place S pending n pc (pc + 0) opened _ regs c (omega arith) (goes (reference a_table m ∷ []) env regs c opened (after_none S.hidden S.code.own.stack pending env regs c t rel) is refl))
  end_goes zero (e ∷ es) line stored items m t j n pc opened env regs c k ws count bound has ok sum wide inside le room seats rel is held goes = absurd (cc)
  end_goes (suc w) [] line stored items m t j n pc opened env regs c k ws count bound has ok sum wide inside le room seats rel is held goes = absurd (cc)
  end_goes (suc w) (e ∷ es) line stored items m t j n pc opened env regs c k ws count bound has ok sum wide inside le room seats rel is held goes =
      stored_all S pending (e ∷ es) EndFields (suc w) line stored (stored + suc w) m t n pc opened env regs c k ws (omega arith) count refl (omega (arith, wide)) has inside le seats rel is held
      (λ env1 regs1 c1 af. goes (reference a_table m ∷ []) env1 regs1 c1 0 (lower S.hidden S.code.own.stack pending env regs env1 regs1 c1 (t + 1) t (omega arith) af) (af.keeps t (omega (arith, le)) (omega arith) ∙ is) refl)

  -- an item is stored, and none waits
  next_goes : (fs : Fields) → FieldsSame fs → (line stored items m t j n pc opened : ℕ) (env regs : List Value) (c : Captured) (k : List Work)
      → n ≤ S.bound → HasAt S pc (fields_code S.code.own.constants fs stored 0 t j line) → FieldsArePlaced S fs items (length env) j → items ≡ stored → stored ≤ 2 ^ 33
      → pc + length (fields_code S.code.own.constants fs stored 0 t j line) < length S.code.own.code → length env ≤ t → t + (1 + room_of_fields S.code.own.constants fs stored 0) ≤ S.code.own.stack
      → Rel S.hidden S.code.own.stack pending env c regs → nth regs t ≡ reference a_table m → Goes S pending n false t env regs (pc + length (fields_code S.code.own.constants fs stored 0 t j line)) k
      → Agree S n (tree.at (next_item line (reference a_table m) items fs) (of_tree S pending env c) k) (before (of_code S pending pc regs opened) c)
  next_goes EndFields rest line stored items m t j n pc opened env regs c k bound has ok same wide inside le room rel is goes =
      at_place S pending n pc (pc + 0) opened _ regs c (omega arith) (goes (reference a_table m ∷ []) env regs c opened (after_none S.hidden S.code.own.stack pending env regs c t rel) is refl)
  next_goes (MoreFields f fs) rest line stored items m t j n pc opened env regs c k bound has ok same wide inside le room rel is goes =
      subst (λ z. Agree S n (tree.at (construct line (reference a_table m) z (MoreFields f fs)) (of_tree S pending env c) k) (before (of_code S pending pc regs opened) c)) (sym same)
      (rest 0 [] line stored items m t j n pc opened env regs c k tt refl bound has ok (omega (arith, same)) (omega (arith, wide)) inside le room (omega (arith, room)) rel is (λ i lt. absurd (omega arith)) goes)

  -- registers behind the table are no more needed once it has got their values
  both_after : (t u : ℕ) (env regs env1 regs1 env2 regs2 : List Value) (c1 c2 : Captured) → t ≤ u → After S.hidden S.code.own.stack pending env regs u env1 regs1 c1 → After S.hidden S.code.own.stack pending env1 regs1 (t + 1) env2 regs2 c2
      → After S.hidden S.code.own.stack pending env regs t env2 regs2 c2
  both_after t u env regs env1 regs1 env2 regs2 c1 c2 le af af2 =
      after_then S.hidden S.code.own.stack pending env regs env1 regs1 env2 regs2 c1 c2 t t (omega arith) (lower S.hidden S.code.own.stack pending env regs env1 regs1 c1 u t le af)
      (lower S.hidden S.code.own.stack pending env1 regs1 env2 regs2 c2 (t + 1) t (omega arith) af2)

  -- an item that does not wait, in front of which none waits: its code, the instruction that stores it, and the other fields' code
  alone_goes : (e : Exp) (fs : Fields) → ExpSame S pending e → (is_open e ≡ true → OpenSame e) → FieldsSame fs → (line items m t j n pc opened end : ℕ) (env regs : List Value) (c : Captured) (k : List Work)
      → n ≤ S.bound → HasAt S pc (exp_code S.code.own.constants e (t + 1) j (cond (is_last_item e fs) 0 2))
      → HasAt S (pc + length (exp_code S.code.own.constants e (t + 1) j (cond (is_last_item e fs) 0 2))) (set_list t (cond (is_last_item e fs) 0 1) items line)
      → HasAt S (pc + length (exp_code S.code.own.constants e (t + 1) j (cond (is_last_item e fs) 0 2)) + length (set_list t (cond (is_last_item e fs) 0 1) items line)) (fields_code S.code.own.constants fs (items + 1) 0 t (j + made_by e) line)
      → end ≡ pc + length (exp_code S.code.own.constants e (t + 1) j (cond (is_last_item e fs) 0 2)) + length (set_list t (cond (is_last_item e fs) 0 1) items line) + length (fields_code S.code.own.constants fs (items + 1) 0 t (j + made_by e) line)
      → IsPlaced S e (length env) j → items < 2 ^ 33 → FieldsArePlaced S fs (items + 1) (length env) (j + made_by e) → end < length S.code.own.code
      → length env ≤ t → t + (1 + room_of S.code.own.constants e (cond (is_last_item e fs) 0 2)) ≤ S.code.own.stack → t + (1 + room_of_fields S.code.own.constants fs (items + 1) 0) ≤ S.code.own.stack
      → Rel S.hidden S.code.own.stack pending env c regs → nth regs t ≡ reference a_table m → Goes S pending n false t env regs end k
      → Agree S n (tree.at (construct line (reference a_table m) items (MoreFields (Item e) fs)) (of_tree S pending env c) k) (before (of_code S pending pc regs opened) c)
  alone_goes e EndFields law all_law rest line items m t j n pc opened end env regs c k bound has_value has_store has_rest end_is ok wide oks inside le room rooms rel is goes = by (is_open e) refl has_value has_store has_rest end_is room
    where
      by : (many : Bool) → is_open e ≡ many → HasAt S pc (exp_code S.code.own.constants e (t + 1) j (cond many 0 2)) → HasAt S (pc + length (exp_code S.code.own.constants e (t + 1) j (cond many 0 2))) (set_list t (cond many 0 1) items line)
          → HasAt S (pc + length (exp_code S.code.own.constants e (t + 1) j (cond many 0 2)) + length (set_list t (cond many 0 1) items line)) []
          → end ≡ pc + length (exp_code S.code.own.constants e (t + 1) j (cond many 0 2)) + length (set_list t (cond many 0 1) items line) + 0 → t + (1 + room_of S.code.own.constants e (cond many 0 2)) ≤ S.code.own.stack
          → Agree S n (tree.at (construct line (reference a_table m) items (MoreFields (Item e) EndFields)) (of_tree S pending env c) k) (before (of_code S pending pc regs opened) c)
      by true many has_value has_store has_rest end_is room =
          let code = exp_code S.code.own.constants e (t + 1) j 0 in
          let store = set_list t (items_count true) items line in
          go_left S n _ (tree.at (evaluate e) (of_tree S pending env c) (item_of line (reference a_table m) items EndFields ∷ k)) _ refl
          (all_law many (t + 1) j n pc opened env regs c (item_of line (reference a_table m) items EndFields ∷ k) bound has_value ok (omega (arith, inside, end_is)) (omega (arith, le)) (omega (arith, room)) rel
          (λ vs env1 regs1 c1 o1 af filled. let ends : t + 1 + o1 ≡ t + 1 + length vs = (let o = filled.1.0 in omega (arith, o)) in
          fill_goes S pending true items m n line t (pc + length code) o1 vs _ env1 regs1 c1 k (give (reference a_table m ∷ [])) refl has_store
          (omega (arith, inside, end_is)) wide (omega (arith, le, af.size)) (omega (arith, room)) af.rel (af.keeps t (omega (arith, le)) (omega arith) ∙ is)
          (ap (λ q. elim q as (λ _. Option ℕ) [ fixed ↦ None | open_from r ↦ Some (r + o1) ]) filled.0 ∙ ap Some ends, filled.1.1.1)
          (λ env2 regs2 c2 af2. at_place S pending n (pc + length code + length store) end 0 _ regs2 c2 (omega (arith, end_is))
          (goes (reference a_table m ∷ []) env2 regs2 c2 0 (both_after t (t + 1) env regs env1 regs1 env2 regs2 c1 c2 (omega arith) af af2)
          (af2.keeps t (omega (arith, le, af.size)) (omega arith) ∙ (af.keeps t (omega (arith, le)) (omega arith) ∙ is)) refl))))
      by false many has_value has_store has_rest end_is room =
          let code = exp_code S.code.own.constants e (t + 1) j 2 in
          let store = set_list t (items_count false) items line in
          let some = room_some S.code.own.constants e in
          go_left S n _ (tree.at (evaluate e) (of_tree S pending env c) (item_of line (reference a_table m) items EndFields ∷ k)) _ refl
          (law (t + 1) j n pc opened env regs c (item_of line (reference a_table m) items EndFields ∷ k) bound has_value ok (omega (arith, inside, end_is)) (omega (arith, le)) (omega (arith, room)) rel
          (λ vs env1 regs1 c1 o1 af eq given. let single : vs ≡ first vs ∷ [] = subst (λ b. Given b vs) many given in
          fill_goes S pending false items m n line t (pc + length code) o1 (first vs ∷ []) _ env1 regs1 c1 k (give (reference a_table m ∷ []))
          (ap (λ l. step (tree.at (give l) (of_tree S pending env1 c1) (item_of line (reference a_table m) items EndFields ∷ k))) single) has_store
          (omega (arith, inside, end_is)) wide (omega (arith, le, af.size)) (omega (arith, room)) af.rel (af.keeps t (omega (arith, le)) (omega arith) ∙ is)
          (refl, (omega (arith, room, some, af.rel.room), held_one (t + 1) (first vs) regs1 eq))
          (λ env2 regs2 c2 af2. at_place S pending n (pc + length code + length store) end 0 _ regs2 c2 (omega (arith, end_is))
          (goes (reference a_table m ∷ []) env2 regs2 c2 0 (both_after t (t + 1) env regs env1 regs1 env2 regs2 c1 c2 (omega arith) af af2)
          (af2.keeps t (omega (arith, le, af.size)) (omega arith) ∙ (af.keeps t (omega (arith, le)) (omega arith) ∙ is)) refl))))
  alone_goes e (MoreFields f fs) law all_law rest line items m t j n pc opened end env regs c k bound has_value has_store has_rest end_is ok wide oks inside le room rooms rel is goes =
      let code = exp_code S.code.own.constants e (t + 1) j 2 in
      let store = set_list t (items_count false) items line in
      let rest_code = fields_code S.code.own.constants (MoreFields f fs) (items + 1) 0 t (j + made_by e) line in
      let some = room_some S.code.own.constants e in
      go_left S n _ (tree.at (evaluate e) (of_tree S pending env c) (item_of line (reference a_table m) items (MoreFields f fs) ∷ k)) _ refl
      (law (t + 1) j n pc opened env regs c (item_of line (reference a_table m) items (MoreFields f fs) ∷ k) bound has_value ok (omega (arith, inside, end_is)) (omega (arith, le)) (omega (arith, room)) rel
      (λ vs env1 regs1 c1 o1 af eq given. fill_goes S pending false items m n line t (pc + length code) o1 (first vs ∷ []) _ env1 regs1 c1 k (construct line (reference a_table m) (items + 1) (MoreFields f fs)) refl
      has_store (omega (arith, inside, end_is)) wide (omega (arith, le, af.size)) (omega (arith, room)) af.rel (af.keeps t (omega (arith, le)) (omega arith) ∙ is)
      (refl, (omega (arith, room, some, af.rel.room), held_one (t + 1) (first vs) regs1 eq))
      (λ env2 regs2 c2 af2. next_goes (MoreFields f fs) rest line (items + 1) (items + 1) m t (j + made_by e) n (pc + length code + length store) 0 env2 regs2 c2 k bound has_rest
      (subst (λ z. FieldsArePlaced S (MoreFields f fs) (items + 1) z (j + made_by e)) (sym (af2.size ∙ af.size)) oks) refl (omega (arith, wide)) (omega (arith, inside, end_is)) (omega (arith, le, af.size, af2.size)) rooms af2.rel
      (af2.keeps t (omega (arith, le, af.size)) (omega arith) ∙ (af.keeps t (omega (arith, le)) (omega arith) ∙ is))
      (goes_at S pending n false t (pc + length code + length store + length rest_code) end env2 regs2 k (sym end_is)
      (goes_after S pending n false t end env regs env2 regs2 c2 k (both_after t (t + 1) env regs env1 regs1 env2 regs2 c1 c2 (omega arith) af af2) goes)))))

  -- the value of an item that waits is in its register: what the registers hold then
  still_held : (t waiting : ℕ) (es : List Exp) (e : Exp) (env regs regs1 : List Value) (c1 : Captured) → waiting ≡ length es → length env ≤ t → Holds (t + 1) waiting (worths es env) regs
      → After S.hidden S.code.own.stack pending env regs (t + 1 + waiting) env regs1 c1 → nth regs1 (t + 1 + waiting) ≡ worth e env → Holds (t + 1) (waiting + 1) (worths (es ++ e ∷ []) env) regs1
  still_held t waiting es e env regs regs1 c1 count le held af eq =
      worths_held (t + 1) waiting es e env regs1 count (λ i lt. af.keeps (t + 1 + i) (omega (arith, le)) (omega (arith, lt)) ∙ held i lt) eq

  item_goes_by : (e : Exp) (fs : Fields) → ExpSame S pending e → (is_open e ≡ true → OpenSame e) → FieldsSame fs → (wait full : Bool) → waits e ≡ wait
      → (waiting : ℕ) (es : List Exp) (line stored items m t j n pc opened : ℕ) (env regs : List Value) (c : Captured) (k : List Work)
      → AllWait es → waiting ≡ length es → n ≤ S.bound
      → HasAt S pc (item_code wait full (exp_code S.code.own.constants e (item_register wait t waiting) j (cond (is_last_item e fs) 0 2)) stored waiting (cond (is_last_item e fs) 0 1) t line
      ++ fields_code S.code.own.constants fs (stored_behind wait full stored waiting) (waiting_behind wait full waiting) t (j + made_by e) line)
      → FieldsArePlaced S (MoreFields (Item e) fs) items (length env) j → items ≡ stored + waiting
      → pc + length (item_code wait full (exp_code S.code.own.constants e (item_register wait t waiting) j (cond (is_last_item e fs) 0 2)) stored waiting (cond (is_last_item e fs) 0 1) t line
      ++ fields_code S.code.own.constants fs (stored_behind wait full stored waiting) (waiting_behind wait full waiting) t (j + made_by e) line) < length S.code.own.code
      → length env ≤ t → t + (1 + item_room wait waiting (room_of S.code.own.constants e (cond (is_last_item e fs) 0 2))) ≤ S.code.own.stack
      → t + (1 + room_of_fields S.code.own.constants fs (stored_behind wait full stored waiting) (waiting_behind wait full waiting)) ≤ S.code.own.stack → t + (1 + waiting) ≤ S.code.own.stack
      → Rel S.hidden S.code.own.stack pending env c regs → nth regs t ≡ reference a_table m → Holds (t + 1) waiting (worths es env) regs
      → Goes S pending n false t env regs (pc + length (item_code wait full (exp_code S.code.own.constants e (item_register wait t waiting) j (cond (is_last_item e fs) 0 2)) stored waiting (cond (is_last_item e fs) 0 1) t line
      ++ fields_code S.code.own.constants fs (stored_behind wait full stored waiting) (waiting_behind wait full waiting) t (j + made_by e) line)) k
      → Agree S n (tree.at (construct line (reference a_table m) stored (ahead es (MoreFields (Item e) fs))) (of_tree S pending env c) k) (before (of_code S pending pc regs opened) c)
  -- it waits with the others
  item_goes_by e fs law all_law rest true false w waiting es line stored items m t j n pc opened env regs c k ws count bound has ok sum inside le room rooms seats rel is held goes =
      let cs = S.code.own.constants in
      let field : ℕ = cond (is_last_item e fs) 0 2 in
      let code = exp_code cs e (t + 1 + waiting) j field in
      let rest_code = fields_code cs fs stored (waiting + 1) t (j + made_by e) line in
      let whole = length-append code rest_code in
      let one = wants_one cs e fs (t + 1 + waiting) j w in
      let some = room_some cs e in
      let more : waiting + 1 ≡ length (es ++ e ∷ []) = (let l = length-append es (e ∷ []) in omega (arith, l, count)) in
      let low = ok.1.0 in
      held_same S pending e w (t + 1 + waiting) j n pc opened _ env regs c (subst (HasAt S pc) one.same (has_front S pc code rest_code has)) ok.0 (omega (arith, inside, whole, one.size)) (omega (arith, le)) (omega (arith, room, one.least, some)) rel
      (λ regs1 af eq. at_place S pending n (pc + length (exp_code cs e (t + 1 + waiting) j 2)) (pc + length code) opened _ regs1 c (omega (arith, one.size))
      (subst (λ F. Agree S n (tree.at (construct line (reference a_table m) stored F) (of_tree S pending env c) k) (before (of_code S pending (pc + length code) regs1 opened) c)) (ahead_more es e fs)
      (rest (waiting + 1) (es ++ e ∷ []) line stored (items + 1) m t (j + made_by e) n (pc + length code) opened env regs1 c k (wait_more es e ws w) more bound (has_back S pc code rest_code has) ok.1.1 (omega (arith, sum)) (omega (arith, sum, low))
      (omega (arith, inside, whole)) le rooms (omega (arith, room, one.least, some)) af.rel (af.keeps t le (omega arith) ∙ is) (still_held t waiting es e env regs regs1 c count le held af eq)
      (goes_at S pending n false t (pc + length code + length rest_code) (pc + length (code ++ rest_code)) env regs1 k (omega (arith, whole))
      (goes_after S pending n false t _ env regs env regs1 c k (lower S.hidden S.code.own.stack pending env regs env regs1 c (t + 1 + waiting) t (omega arith) af) goes)))))
  -- it is the last of so many
  item_goes_by e fs law all_law rest true true w waiting es line stored items m t j n pc opened env regs c k ws count bound has ok sum inside le room rooms seats rel is held goes =
      let cs = S.code.own.constants in
      let field : ℕ = cond (is_last_item e fs) 0 2 in
      let code = exp_code cs e (t + 1 + waiting) j field in
      let store = set_list t (waiting + 1) stored line in
      let rest_code = fields_code cs fs (stored + waiting + 1) 0 t (j + made_by e) line in
      let front = length-append code store in
      let whole = length-append (code ++ store) rest_code in
      let one = wants_one cs e fs (t + 1 + waiting) j w in
      let some = room_some cs e in
      let more : waiting + 1 ≡ length (es ++ e ∷ []) = (let l = length-append es (e ∷ []) in omega (arith, l, count)) in
      let low = ok.1.0 in
      let has_both = has_front S pc (code ++ store) rest_code has in
      let place : pc + length (code ++ store) ≡ pc + length code + length store = omega (arith, front) in
      held_same S pending e w (t + 1 + waiting) j n pc opened _ env regs c (subst (HasAt S pc) one.same (has_front S pc code store has_both)) ok.0 (omega (arith, inside, whole, front, one.size)) (omega (arith, le)) (omega (arith, room, one.least, some)) rel
      (λ regs1 af eq. at_place S pending n (pc + length (exp_code cs e (t + 1 + waiting) j 2)) (pc + length code) opened _ regs1 c (omega (arith, one.size))
      (subst (λ F. Agree S n (tree.at (construct line (reference a_table m) stored F) (of_tree S pending env c) k) (before (of_code S pending (pc + length code) regs1 opened) c)) (ahead_more es e fs)
      (stored_all S pending (es ++ e ∷ []) fs (waiting + 1) line stored (items + 1) m t n (pc + length code) opened env regs1 c k (wait_more es e ws w) (omega (arith, more)) more (omega (arith, sum)) (omega (arith, sum, low)) (has_back S pc code store has_both)
      (omega (arith, inside, whole, front)) le (omega (arith, room, one.least, some)) af.rel (af.keeps t le (omega arith) ∙ is) (still_held t waiting es e env regs regs1 c count le held af eq)
      (λ env2 regs2 c2 af2. next_goes fs rest line (stored + waiting + 1) (items + 1) m t (j + made_by e) n (pc + length code + length store) 0 env2 regs2 c2 k bound
      (subst (λ q. HasAt S q rest_code) place (has_back S pc (code ++ store) rest_code has)) (subst (λ z. FieldsArePlaced S fs (items + 1) z (j + made_by e)) (sym af2.size) ok.1.1) (omega (arith, sum)) (omega (arith, sum, low))
      (omega (arith, inside, whole, front)) (omega (arith, le, af2.size)) rooms af2.rel (af2.keeps t le (omega arith) ∙ (af.keeps t le (omega arith) ∙ is))
      (goes_at S pending n false t (pc + length code + length store + length rest_code) (pc + length ((code ++ store) ++ rest_code)) env2 regs2 k (omega (arith, whole, front))
      (goes_after S pending n false t _ env regs env2 regs2 c2 k (both_after t (t + 1 + waiting) env regs env regs1 env2 regs2 c c2 (omega arith) af af2) goes))))))
  -- it is stored behind those that wait
  item_goes_by e fs law all_law rest false full w waiting es line stored items m t j n pc opened env regs c k ws count bound has ok sum inside le room rooms seats rel is held goes =
      let cs = S.code.own.constants in
      let front_code = waiting_code stored waiting t line in
      let code = exp_code cs e (t + 1) j (cond (is_last_item e fs) 0 2) in
      let store = set_list t (cond (is_last_item e fs) 0 1) (stored + waiting) line in
      let rest_code = fields_code cs fs (stored + waiting + 1) 0 t (j + made_by e) line in
      let one_size = length-append code store in
      let front = length-append front_code (code ++ store) in
      let whole = length-append (front_code ++ (code ++ store)) rest_code in
      let has_all = has_front S pc (front_code ++ (code ++ store)) rest_code has in
      let has_one = has_back S pc front_code (code ++ store) has_all in
      let low = ok.1.0 in
      let oks = subst (λ z. FieldsArePlaced S (MoreFields (Item e) fs) z (length env) j) sum ok in
      let place : pc + length (front_code ++ (code ++ store)) ≡ pc + length front_code + length code + length store = omega (arith, front, one_size) in
      stored_first S pending waiting es (Item e) fs line stored m t n pc opened env regs c k ws count (omega (arith, sum, low)) (has_front S pc front_code (code ++ store) has_all) (omega (arith, inside, whole, front)) le seats rel is held
      (λ env1 regs1 c1 o1 af. alone_goes e fs law all_law rest line (stored + waiting) m t j n (pc + length front_code) o1 (pc + length ((front_code ++ (code ++ store)) ++ rest_code)) env1 regs1 c1 k bound
      (has_front S (pc + length front_code) code store has_one) (has_back S (pc + length front_code) code store has_one) (subst (λ q. HasAt S q rest_code) place (has_back S pc (front_code ++ (code ++ store)) rest_code has))
      (omega (arith, whole, front, one_size)) (subst (λ z. IsPlaced S e z j) (sym af.size) oks.0) oks.1.0 (subst (λ z. FieldsArePlaced S fs (stored + waiting + 1) z (j + made_by e)) (sym af.size) oks.1.1) inside (omega (arith, le, af.size)) room rooms af.rel
      (af.keeps t le (omega arith) ∙ is)
      (goes_after S pending n false t (pc + length ((front_code ++ (code ++ store)) ++ rest_code)) env regs env1 regs1 c1 k (lower S.hidden S.code.own.stack pending env regs env1 regs1 c1 (t + 1) t (omega arith) af) goes))

  pub item_goes : (e : Exp) (fs : Fields) → ExpSame S pending e → (is_open e ≡ true → OpenSame e) → FieldsSame fs → FieldsSame (MoreFields (Item e) fs)
  item_goes e fs law all_law rest waiting es line stored items m t j n pc opened env regs c k ws count bound has ok sum wide inside le room seats rel is held goes =
      item_goes_by e fs law all_law rest (waits e) (is_full (stored + waiting + 1)) refl waiting es line stored items m t j n pc opened env regs c k ws count bound has ok sum inside le (omega (arith, room)) (omega (arith, room)) seats rel is held goes

  -- a field with a key is stored behind those that wait
  pub keyed_goes : (field_line : ℕ) (e d : Exp) (fs : Fields) → ExpSame S pending e → ExpSame S pending d → FieldsSame fs → FieldsSame (MoreFields (Keyed field_line e d) fs)
  keyed_goes field_line e d fs key_law value_law rest waiting es line stored items m t j n pc opened env regs c k ws count bound has ok sum wide inside le room seats rel is held goes =
      let cs = S.code.own.constants in
      let key = field_key cs (is_quiet d) e in
      let table = reference a_table m in
      let count_now = stored + waiting in
      let front_code = waiting_code stored waiting t line in
      let store_code = keyed_store key (stored_value cs d) (exp_code cs e (t + 1) j 2) (exp_code cs d (t + 2) (j + made_by e) 2) t field_line in
      let rest_code = fields_code cs fs count_now 0 t (j + made_by e + made_by d) line in
      let front = length-append front_code (store_code ++ rest_code) in
      let whole = length-append store_code rest_code in
      let key_above = room_above_table key (room_of cs e 2) in
      let value_above = room_above_key (stored_value cs d) (room_of cs d 2) in
      let behind = has_back S pc front_code (store_code ++ rest_code) has in
      stored_first S pending waiting es (Keyed field_line e d) fs line stored m t n pc opened env regs c k ws count wide (has_front S pc front_code (store_code ++ rest_code) has) (omega (arith, inside, front)) le seats rel is held
      (λ env0 regs0 c0 o0 af0. go_left S n _ (tree.at (evaluate e) (of_tree S pending env0 c0) (keyed_value line table count_now field_line d fs ∷ k)) _ refl
      (key_goes S pending table d field_line n (t + 1) k (keyed_value line table count_now field_line d fs) (λ w. keyed_store_of line table count_now field_line w fs)
      (λ w vs env c. tree.at (give vs) (of_tree S pending env c) (keyed_store_of line table count_now field_line w fs ∷ k)) (construct line table count_now fs)
      key (is_quiet d) (stored_value cs d) e t t j (j + made_by e) (pc + length front_code) o0 env0 regs0 c0
      (λ vs env1 c1 q next. go_left S n _ (tree.at (evaluate d) (of_tree S pending env1 c1) (keyed_store_of line table count_now field_line (first vs) fs ∷ k)) q refl next) (λ w vs env1 c1 q next. next) (λ w vs env1 c1. refl)
      key_law value_law (room_some cs e) (room_some cs d) (field_key_stands cs (is_quiet d) e) refl (value_stands cs d) bound (has_front S (pc + length front_code) store_code rest_code behind)
      (subst (λ z. IsPlaced S e z j) (sym af0.size) ok.0) (subst (λ z. IsPlaced S d z (j + made_by e)) (sym af0.size) ok.1.0)
      (omega (arith, inside, front, whole)) (omega (arith, le, af0.size)) (omega arith) (λ loud. refl) (λ made. refl) (omega arith) (omega (arith, room)) (omega (arith, room, key_above)) (omega (arith, room, value_above)) af0.rel (af0.keeps t le (omega arith) ∙ is)
      (λ env1 regs1 c1 o1 af. rest 0 [] line count_now items m t (j + made_by e + made_by d) n (pc + length front_code + length store_code) o1 env1 regs1 c1 k tt refl bound (has_back S (pc + length front_code) store_code rest_code behind)
      (subst (λ z. FieldsArePlaced S fs items z (j + made_by e + made_by d)) (sym (af.size ∙ af0.size)) ok.1.1) (omega (arith, sum)) (omega (arith, wide)) (omega (arith, inside, front, whole)) (omega (arith, le, af.size, af0.size)) (omega (arith, room)) (omega (arith, room)) af.rel
      (af.keeps t (omega (arith, le, af0.size)) (omega arith) ∙ (af0.keeps t le (omega arith) ∙ is)) (λ i lt. absurd (omega arith))
      (goes_at S pending n false t (pc + length front_code + length store_code + length rest_code) (pc + length (front_code ++ (store_code ++ rest_code))) env1 regs1 k (omega (arith, front, whole))
      (goes_after S pending n false t _ env regs env1 regs1 c1 k (both_after t (t + 1) env regs env0 regs0 env1 regs1 c0 c1 (omega arith) af0 af) goes)))))
