-- Values and records of a world whose image is written, as they stand there.
use Rattle.std.proofs.Common.{arith, ℕ, zero, suc, ◌+◌, ◌<◌, ◌≤◌, ◌^◌, ◌≡◌, List, [], ◌∷◌, ◌++◌, Option, Some, None, refl, subst, sym, ap, ◌∙◌, length, map, Bool, true, false, cond}
use Rattle.std.specs.Prelude.{slice_get, flat_map, nat_eq, option_map, unwrap_or, not, ◌&&◌, ◌||◌, max, IsTrue}
use Rattle.std.specs.List.{list_any, AllByRecursion, IsDistinct}
use Rattle.std.specs.Map.{keys_of}
use Rattle.std.proofs.lemmas.List.{length-map}
use Rattle.std.proofs.lemmas.Option.{slice_get_within}
use Rattle.code_core.specs.declared.instruction.Instruction.{Instruction}
use Rattle.code_core.specs.declared.opcode.Opcode.{Opcode}
use Rattle.code_core.specs.Check.{IsChecked, at}
use Rattle.code_core.specs.Instruction.{a_of}
use Rattle.code_core.specs.Prototype.{Prototype}
use Rattle.code_core.specs.Writable.{byte_fits, is_writable, list_fits, lists_fit, name_fits, number_fits, parts_fit}
use Rattle.code_core.proofs.CheckedLemmas.{described_is_writable, first_of_two, rest_of}
use Rattle.int_core.specs.Heap.{Table}
use Rattle.int_core.specs.Rows.{AreRows}
use Rattle.int_core.specs.Value.{nil, boolean, integer, string, primitive, Plain, Kind, a_table, a_function, a_coroutine, Value, known, object, same, table_values, bind}
use Rattle.int_core.specs.Operations.{is_function}
use Rattle.int_core.proofs.Equality.{value_is, value_self}
use Rattle.machine_core.specs.Text.{behind}
use Rattle.machine_core.specs.World.{Function, Cell, closed, open_at, Wait, running, returning, leaving, LuaFrame, Frame, lua, pcall, xpcall, handler, closing, Coroutine, fresh, suspended, in_progress, normal, dead, failed, World, frames_of, lua_frame}
use Rattle.machine_sound.specs.Sound.{Each, Sizes, sizes, Valid, OptionOk, TableOk, FunctionOk, WaitOk, LuaOk, FrameOk, waits_at, waiting_size, LuaWaits, FrameWaits, AllWait, CoroutineOk, registers_in, registers_of, CellOk, Solid}
use Rattle.machine_sound.proofs.Lists.{get_map, map_get}
use Rattle.image_core.specs.Visit.{IsMet, greatest_count}
use Rattle.image_core.specs.Image.{PermKey, Perm, Item, plain, numbered, permanent, environment, Record, closed_record, open_record, suspended_record, no_record}
use Rattle.image_core.specs.Numbers.{item_numbers}
use Rattle.image_core.specs.Records.{Part, an_object, a_cell, same_part, Field, of_value, of_cell, of_coroutine, row_fields, metatable_value, table_fields, wait_fields, error_fields, frame_fields, coroutine_fields, present, cell_fields, if_there, fields, key_of, sort_of, value_parts, unless_named, field_parts, parts, is_reached, parts_in_order, Naming, naming, unnamed_item, or_item, item, wait_item, lua_frame_item, frame_item, row_item, record_of_table, record_of_function, record_of_coroutine, record_of_cell, or_none, record_of}
use Rattle.image_core.specs.Loading.{kind_in, is_cell}
use Rattle.image_core.proofs.Lists.{Every, every_at, every_get, every_front, every_flat, map_some, none_some, place_met, place_get, get_met}
use Rattle.image_core.proofs.Visits.{none_past, order_closed, order_roots}
use Rattle.image_core.proofs.Parts.{part_tells, part_self, kind_self}
use Rattle.image_bytes.specs.Bytes.{Reader, sort_at, is_sort, is_nil_item, is_table_or_nil, is_function_item, sort_byte, spell_records, with_sorts}
use Rattle.image_load.specs.Loads.{IsWritten}
use Rattle.image_sound.proofs.Savable.{open_cells_there}
use Rattle.images_stand.specs.Standing.{IsObject, KeyFits, ArePermanents, PlainIsHeld, FieldIsHeld, IsItem, Knows, name, all_fields}
use Rattle.images_stand.proofs.Items.{Refers, PlainStands, ItemStands}
use Rattle.images_stand.proofs.Records.{Stand, RowStands, AreNew, WaitStands, LuaStands, ErrorStands, FrameStands, RecordStands, registers_bound}
use Rattle.image_saved.proofs.Names.{KeyFrom, key_found, some_so}
use Rattle.image_bytes.proofs.Back.{below_true}

every_two : {A : Type 0} (P Q : A → Type 0) (xs : List A) → Every P xs → Every Q xs → Every (λ x. P x × Q x) xs
every_two P Q [] h k = tt
every_two P Q (x ∷ xs) h k = ((h.0, k.0), every_two P Q xs h.1 k.1)

-- what code bounds

pub code_writable : (p : Prototype) → IsChecked p → is_writable p ≡ true
code_writable p h = described_is_writable p h.code.described

own_fits : (p : Prototype) → IsChecked p → parts_fit p.own ≡ true
own_fits p h = first_of_two (parts_fit p.own) _ (code_writable p h)

pub stack_small : (p : Prototype) → IsChecked p → p.own.stack < 2 ^ 32
stack_small p h =
    let a = rest_of (byte_fits p.own.params) (rest_of (number_fits p.own.last_line) (rest_of (number_fits p.own.line_defined) (rest_of (name_fits p.own.source) (own_fits p h)))) in
    let b = below_true p.own.stack (2 ^ 8) (first_of_two (byte_fits p.own.stack) _ a) in
    omega (arith, b)

code_small : (p : Prototype) → IsChecked p → length p.own.code < 2 ^ 31
code_small p h =
    let a = rest_of (byte_fits p.own.params) (rest_of (number_fits p.own.last_line) (rest_of (number_fits p.own.line_defined) (rest_of (name_fits p.own.source) (own_fits p h)))) in
    let b = first_of_two (lists_fit p.own) _ (rest_of (byte_fits p.own.stack) a) in
    below_true (length p.own.code) (2 ^ 31) (first_of_two (list_fits p.own.code) _ b)

pub place_small : (p : Prototype) → IsChecked p → (pc : ℕ) (w : Instruction) → at p pc ≡ Some w → pc < 2 ^ 32
place_small p h pc w e = let a = code_small p h in let b = slice_get_within p.own.code pc w e in omega (arith, a, b)

returned_few : (stack from count size : ℕ) → size ≡ max stack (behind from count) → count ≤ size
returned_few stack from zero size e = omega arith
returned_few stack from (suc count) size e = omega (arith, e)

-- names

module _ (env : ℕ) (perms : List Perm) where
  -- a value that has a name is the prelude's environment, or the object of a permanent
  pub data Named (v : Value) : Item → Type 0 where
    by_environment : v ≡ object a_table env → Named v environment
    by_key : (key : PermKey) → KeyFrom perms v key → Named v (permanent (sort_of v) key)

  pub named_so : (v : Value) (i : Item) → cond (same (object a_table env) v) (Some environment) (option_map (permanent (sort_of v)) (key_of perms v)) ≡ Some i → Named v i
  named_so v i e = by (same (object a_table env) v) refl e
    where
      by : (b : Bool) → same (object a_table env) v ≡ b → cond b (Some environment) (option_map (permanent (sort_of v)) (key_of perms v)) ≡ Some i → Named v i
      by true h e = subst (Named v) (some_so e) (by_environment (sym (value_is (object a_table env) v h)))
      by false h e = let k = map_some (permanent (sort_of v)) (key_of perms v) i e in subst (Named v) k.2 (by_key k.0 (key_found perms v k.0 k.1))

  -- no two values have one name
  named_once : ArePermanents perms → (v w : Value) (i j : Item) → Named v i → Named w j → i ≡ j → v ≡ w
  named_once are v w i j (by_environment h) (by_environment k) e = h ∙ sym k
  named_once are v w i j (by_environment h) (by_key key k) e = absurd (cc)
  named_once are v w i j (by_key key h) (by_environment k) e = absurd (cc)
  named_once are v w i j (by_key key h) (by_key other k) e =
      let keys : key ≡ other = cc in
      let one = are.once h.at k.at h.found k.found h.there k.there (h.names ∙ (keys ∙ sym k.names)) in
      let found : h.found ≡ k.found = some_so (sym h.there ∙ (ap (slice_get perms) one ∙ k.there)) in
      sym h.object ∙ (ap (λ p. p.object) found ∙ k.object)

-- sorts of records

abbrev kind_byte : Kind → ℕ
kind_byte a_table = 1
kind_byte a_function = 2
kind_byte a_coroutine = 4

pub kind_sort : (r : Record) (kind : Kind) → kind_in r ≡ Some kind → sort_byte r ≡ kind_byte kind
kind_sort (closed_record i) kind e = absurd (none_some kind e)
kind_sort (open_record co frame register) kind e = absurd (none_some kind e)
kind_sort no_record kind e = absurd (none_some kind e)
kind_sort _ kind e = ap kind_byte (some_so e)

pub cell_sort : (r : Record) → is_cell r ≡ true → sort_byte r ≡ 3
cell_sort (closed_record i) e = refl
cell_sort (open_record co frame register) e = refl
cell_sort _ e = absurd (cc)

object_wanted : (kind : Kind) → list_any (nat_eq (kind_byte kind)) (1 ∷ 2 ∷ 4 ∷ []) ≡ true
object_wanted a_table = refl
object_wanted a_function = refl
object_wanted a_coroutine = refl

not_both : (a b : Bool) → a ≡ false → b ≡ false → (not a && not b) ≡ true
not_both a b e f = rw (e, f) refl

module _ (W : World) (perms : List Perm) (roots : List Value) (R : Reader) (primitives : ℕ) (are : ArePermanents perms) (knows : Knows W.prelude_environment perms R)
    (few : slice_get (parts_in_order W (name W perms roots) roots) greatest_count ≡ None)
    (written : (o : Part) → IsMet same_part (parts_in_order W (name W perms roots) roots) o → IsWritten W (name W perms roots) roots o)
  where
    abbrev pub Name : Value → Option Item
    Name = name W perms roots

    abbrev pub Order : List Part
    Order = parts_in_order W Name roots

    abbrev pub N : Naming
    N = naming W Name roots

    abbrev pub Rs : List Record
    Rs = map (record_of N W) Order

    abbrev pub Now : Reader
    Now = with_sorts R (map sort_byte Rs)

    abbrev pub z : Sizes
    z = sizes primitives W

    abbrev pub Met : Part → Type 0
    Met o = IsMet same_part Order o

    -- a value that is there, that an image can hold if it has no name, and that is met then
    pub record Good (v : Value) : Type 0 where
      pub valid : Valid z v
      pub held : FieldIsHeld Name (of_value v)
      pub met : Every Met (field_parts Name (of_value v))

    -- the record of what is met
    pub record HasRecord (o : Part) : Type 0 where
      pub at : ℕ
      pub there : slice_get Order at ≡ Some o
      pub number : N.number o ≡ at
      pub small : at < 2 ^ 32

    pub has_record : (o : Part) → Met o → HasRecord o
    has_record o m =
        let p = place_met same_part part_tells Order o m in
        let g = place_get same_part part_tells Order o p.0 p.1 in
        let within = slice_get_within Order p.0 o g in
        let past = none_past Order greatest_count few in
        record { at = p.0; there = g; number = ap (λ o. unwrap_or o 0) p.1; small = omega (arith, within, past) }

    pub number_small : (o : Part) → Met o → N.number o < 2 ^ 32
    number_small o m = let h = has_record o m in subst (λ n. n < 2 ^ 32) (sym h.number) h.small

    pub sort_there : (o : Part) → Met o → sort_at Now.sorts (N.number o) ≡ sort_byte (record_of N W o)
    sort_there o m =
        let h = has_record o m in
        let e : slice_get (map sort_byte Rs) h.at ≡ Some (sort_byte (record_of N W o)) = get_map sort_byte Rs h.at (record_of N W o) (get_map (record_of N W) Order h.at o h.there) in
        ap (sort_at Now.sorts) h.number ∙ ap (λ o. elim o [ None ↦ 0 | Some s ↦ s ]) e

    pub object_sort : (kind : Kind) (n : ℕ) → Met (an_object kind n) → sort_at Now.sorts (N.number (an_object kind n)) ≡ kind_byte kind
    object_sort kind n m = sort_there (an_object kind n) m ∙ kind_sort (record_of N W (an_object kind n)) kind (written (an_object kind n) m)

    pub object_refers : (kind : Kind) (n : ℕ) → Met (an_object kind n) → Refers Now.sorts (1 ∷ 2 ∷ 4 ∷ []) (N.number (an_object kind n))
    object_refers kind n m = (number_small (an_object kind n) m, ap (λ s. list_any (nat_eq s) (1 ∷ 2 ∷ 4 ∷ [])) (object_sort kind n m) ∙ object_wanted kind)

    pub coroutine_refers : (n : ℕ) → Met (an_object a_coroutine n) → Refers Now.sorts (4 ∷ []) (N.number (an_object a_coroutine n))
    coroutine_refers n m = (number_small (an_object a_coroutine n) m, ap (λ s. list_any (nat_eq s) (4 ∷ [])) (object_sort a_coroutine n m))

    pub cell_refers : (n : ℕ) → Met (a_cell n) → Refers Now.sorts (3 ∷ []) (N.number (a_cell n))
    cell_refers n m = (number_small (a_cell n) m, ap (λ s. list_any (nat_eq s) (3 ∷ [])) (sort_there (a_cell n) m ∙ cell_sort (record_of N W (a_cell n)) (written (a_cell n) m)))

    -- values by their names

    named_stands : (v : Value) (i : Item) → Named W.prelude_environment perms v i → ItemStands Now i
    named_stands v i (by_environment h) = tt
    named_stands v i (by_key key k) =
        let sorts : R.sort_named key ≡ Some (sort_of v) = ap R.sort_named (sym k.names) ∙ (knows.sorts k.at k.found k.there ∙ ap (λ v. Some (sort_of v)) k.object) in
        (subst KeyFits k.names (are.keys k.at k.found k.there), ap (is_sort (sort_of v)) sorts ∙ kind_self (sort_of v))

    plain_stands : (p : Plain) → Valid z (known p) → PlainIsHeld p → PlainStands Now p
    plain_stands nil h k = tt
    plain_stands (boolean b) h k = tt
    plain_stands (integer n) h k = k
    plain_stands (string s) h k = h
    plain_stands (primitive n) h k = k

    unnamed_stands : (v : Value) → Valid z v → FieldIsHeld (λ _. None) (of_value v) → Every Met (value_parts v) → ItemStands Now (unnamed_item N v)
    unnamed_stands (known p) h k m = plain_stands p h (k refl)
    unnamed_stands (object kind n) h k m = object_refers kind n m.0

    pub item_stands : (v : Value) → Good v → ItemStands Now (item N v)
    item_stands v g = by (Name v) refl g.held g.met
      where
        by : (o : Option Item) → Name v ≡ o → FieldIsHeld (λ _. o) (of_value v) → Every Met (unless_named o (value_parts v)) → ItemStands Now (or_item o (unnamed_item N v))
        by None e k m = unnamed_stands v g.valid k m
        by (Some i) e k m = named_stands v i (named_so W.prelude_environment perms v i e)

    pub values_stand : (vs : List Value) → Every Good vs → Stand Now (map (item N) vs)
    values_stand [] h = tt
    values_stand (v ∷ vs) h = (item_stands v h.0, values_stand vs h.1)

    -- which values may stand at a place

    nil_is_no_object : (v : Value) → IsObject v → known nil ≡ v → ⊥
    nil_is_no_object (known (primitive n)) h e = absurd (cc)
    nil_is_no_object (object kind n) h e = absurd (cc)
    nil_is_no_object _ h e = h

    nil_unnamed : (i : Item) → Named W.prelude_environment perms (known nil) i → ⊥
    nil_unnamed i (by_environment h) = absurd (cc)
    nil_unnamed i (by_key key k) = nil_is_no_object k.found.object (are.objects k.at k.found k.there) (sym k.object)

    pub nil_item : item N (known nil) ≡ plain nil
    nil_item = by (Name (known nil)) refl
      where
        by : (o : Option Item) → Name (known nil) ≡ o → or_item o (plain nil) ≡ plain nil
        by None e = refl
        by (Some i) e = absurd (nil_unnamed i (named_so W.prelude_environment perms (known nil) i e))

    pub table_item : (n : ℕ) → Good (object a_table n) → is_table_or_nil Now (item N (object a_table n)) ≡ true
    table_item n g = by (Name (object a_table n)) refl g.met
      where
        named_table : (i : Item) → Named W.prelude_environment perms (object a_table n) i → is_table_or_nil Now i ≡ true
        named_table i (by_environment h) = refl
        named_table i (by_key key k) = refl

        by : (o : Option Item) → Name (object a_table n) ≡ o → Every Met (unless_named o (value_parts (object a_table n))) → is_table_or_nil Now (or_item o (numbered (N.number (an_object a_table n)))) ≡ true
        by None e m = ap (λ s. nat_eq s 1) (object_sort a_table n m.0)
        by (Some i) e m = named_table i (named_so W.prelude_environment perms (object a_table n) i e)

    environment_is_no_function : (v : Value) → is_function v ≡ true → v ≡ object a_table W.prelude_environment → ⊥
    environment_is_no_function v h e = let k = subst (λ v. is_function v ≡ true) e h in absurd (cc)

    named_function : (v : Value) (i : Item) → is_function v ≡ true → Named W.prelude_environment perms v i → is_function_item Now i ≡ true
    named_function v i h (by_environment e) = absurd (environment_is_no_function v h e)
    named_function (known p) i h (by_key key k) = refl
    named_function (object a_function n) i h (by_key key k) = refl
    named_function (object a_table n) i h (by_key key k) = absurd (cc)
    named_function (object a_coroutine n) i h (by_key key k) = absurd (cc)

    pub function_item : (v : Value) → is_function v ≡ true → Good v → is_function_item Now (item N v) ≡ true
    function_item v h g = by (Name v) refl g.held g.met
      where
        unnamed : (v : Value) → is_function v ≡ true → FieldIsHeld (λ _. None) (of_value v) → Every Met (value_parts v) → is_function_item Now (unnamed_item N v) ≡ true
        unnamed (known (primitive n)) h k m = absurd (k refl)
        unnamed (object a_function n) h k m = ap (λ s. nat_eq s 2) (object_sort a_function n m.0)
        unnamed _ h k m = absurd (cc)

        by : (o : Option Item) → Name v ≡ o → FieldIsHeld (λ _. o) (of_value v) → Every Met (unless_named o (value_parts v)) → is_function_item Now (or_item o (unnamed_item N v)) ≡ true
        by None e k m = unnamed v h k m
        by (Some i) e k m = named_function v i h (named_so W.prelude_environment perms v i e)

    -- keys of rows

    is_item : (v : Value) → Good v → IsItem W.prelude_environment perms (item N v)
    is_item v g = by (Name v) refl g.held
      where
        unnamed : (v : Value) → FieldIsHeld (λ _. None) (of_value v) → IsItem W.prelude_environment perms (unnamed_item N v)
        unnamed (known p) k = k refl
        unnamed (object kind n) k = tt

        named : (v : Value) (i : Item) → Name v ≡ Some i → Named W.prelude_environment perms v i → IsItem W.prelude_environment perms i
        named v i e (by_environment h) = tt
        named v i e (by_key key k) = (v, e)

        by : (o : Option Item) → Name v ≡ o → FieldIsHeld (λ _. o) (of_value v) → IsItem W.prelude_environment perms (or_item o (unnamed_item N v))
        by None e k = unnamed v k
        by (Some i) e k = named v i e (named_so W.prelude_environment perms v i e)

    -- different values stand as different items
    pub parts_are : (o q : Part) → Met o → Met q → N.number o ≡ N.number q → o ≡ q
    parts_are o q m k e =
        let a = has_record o m in
        let b = has_record q k in
        some_so (sym a.there ∙ (ap (slice_get Order) (sym a.number ∙ (e ∙ b.number)) ∙ b.there))

    unnamed_once : (v w : Value) → Every Met (value_parts v) → Every Met (value_parts w) → unnamed_item N v ≡ unnamed_item N w → v ≡ w
    unnamed_once (known p) (known q) m k e = ap known (plain_of e)
      where
        plain_of : plain p ≡ plain q → p ≡ q
        plain_of e = cc
    unnamed_once (known p) (object l j) m k e = absurd (cc)
    unnamed_once (object l j) (known p) m k e = absurd (cc)
    unnamed_once (object l i) (object t j) m k e = object_of (parts_are (an_object l i) (an_object t j) m.0 k.0 (number_of e))
      where
        number_of : numbered (N.number (an_object l i)) ≡ numbered (N.number (an_object t j)) → N.number (an_object l i) ≡ N.number (an_object t j)
        number_of e = cc

        object_of : an_object l i ≡ an_object t j → object l i ≡ object t j
        object_of e = cc

    named_unlike : (v w : Value) (i : Item) → Named W.prelude_environment perms v i → i ≡ unnamed_item N w → ⊥
    named_unlike v (known p) i (by_environment h) e = absurd (cc)
    named_unlike v (object l n) i (by_environment h) e = absurd (cc)
    named_unlike v (known p) i (by_key key k) e = absurd (cc)
    named_unlike v (object l n) i (by_key key k) e = absurd (cc)

    items_once : (v w : Value) → Good v → Good w → item N v ≡ item N w → v ≡ w
    items_once v w g h e = by (Name v) refl (Name w) refl g.met h.met e
      where
        env : ℕ
        env = W.prelude_environment

        by : (o : Option Item) → Name v ≡ o → (q : Option Item) → Name w ≡ q → Every Met (unless_named o (value_parts v)) → Every Met (unless_named q (value_parts w)) → or_item o (unnamed_item N v) ≡ or_item q (unnamed_item N w) → v ≡ w
        by None a None b m k e = unnamed_once v w m k e
        by (Some i) a (Some j) b m k e = named_once env perms are v w i j (named_so env perms v i a) (named_so env perms w j b) e
        by (Some i) a None b m k e = absurd (named_unlike v w i (named_so env perms v i a) e)
        by None a (Some j) b m k e = absurd (named_unlike w v j (named_so env perms w j b) (sym e))

    self_same : (v : Value) → same v v ≡ false → ⊥
    self_same v h = let k = value_self v in absurd (cc)

    -- a reader tells the items of two keys apart
    keys_apart : (v w : Value) → Good v → Good w → same w v ≡ false → R.same_key (item N v) (item N w) ≡ false
    keys_apart v w g h apart = by (R.same_key (item N v) (item N w)) refl
      where
        by : (b : Bool) → R.same_key (item N v) (item N w) ≡ b → b ≡ false
        by false e = refl
        by true e =
            let same_value = items_once v w g h (knows.keys (item N v) (item N w) (is_item v g) (is_item w h) e) in
            absurd (self_same v (subst (λ w. same w v ≡ false) (sym same_value) apart))

    absent : (vs : List Item) (i : Item) → Every (λ j. R.same_key i j ≡ false) vs → list_any (R.same_key i) vs ≡ false
    absent [] i h = refl
    absent (j ∷ vs) i h = rw (h.0) (absent vs i h.1)

    -- the keys that come after are other ones than those that were seen
    abbrev Later : List Item → List (Value × Value) → Type 0
    Later seen rows = Every (λ row. Every (λ j. R.same_key (item N row.0) j ≡ false) seen) rows

    later_more : (v : Value) → Good v → (seen : List Item) (rows : List (Value × Value)) → Every (λ row. Good row.0 × Good row.1) rows → AllByRecursion (λ w. same v w ≡ false) (keys_of rows) → Later seen rows → Later (item N v ∷ seen) rows
    later_more v g seen [] h apart l = tt
    later_more v g seen (row ∷ rows) h apart l = ((keys_apart row.0 v h.0.0 g apart.0, l.0), later_more v g seen rows h.1 apart.1 l.1)

    pub not_nil : (v : Value) → Good v → same (known nil) v ≡ false → is_nil_item Now (item N v) ≡ false
    not_nil v g apart = by (is_nil_item Now (item N v)) refl
      where
        nil_is : (i : Item) → is_nil_item Now i ≡ true → i ≡ plain nil
        nil_is (plain nil) e = refl
        nil_is _ e = absurd (cc)

        good_nil : Good (known nil)
        good_nil = record { valid = tt; held = λ e. tt; met = none_met (Name (known nil)) }
          where
            none_met : (o : Option Item) → Every Met (unless_named o (value_parts (known nil)))
            none_met None = tt
            none_met (Some i) = tt

        by : (b : Bool) → is_nil_item Now (item N v) ≡ b → b ≡ false
        by false e = refl
        by true e =
            let same_value = items_once v (known nil) g good_nil (nil_is (item N v) e ∙ sym nil_item) in
            absurd (self_same (known nil) (subst (λ w. same (known nil) w ≡ false) same_value apart))

    rows_new : (rows : List (Value × Value)) (seen : List Item) → Every (λ row. Good row.0 × Good row.1) rows → IsDistinct same (keys_of rows) → list_any (same (known nil)) (keys_of rows) ≡ false → Later seen rows → AreNew Now seen (map (row_item N) rows)
    unfolding IsDistinct
    rows_new [] seen h d n l = tt
    rows_new (row ∷ rows) seen h d n l =
        let parts = neither (same (known nil) row.0) (list_any (same (known nil)) (keys_of rows)) n in (
          not_both (is_nil_item Now (item N row.0)) (list_any (R.same_key (item N row.0)) seen) (not_nil row.0 h.0.0 parts.0) (absent seen (item N row.0) l.0),
          rows_new rows (item N row.0 ∷ seen) h.1 d.1 parts.1 (later_more row.0 h.0.0 seen rows h.1 d.0 l.1),
        )
      where
        neither : (a b : Bool) → (a || b) ≡ false → (a ≡ false) × (b ≡ false)
        neither true b e = absurd (cc)
        neither false b e = (refl, e)

    pub rows_stand : (rows : List (Value × Value)) → Every (λ row. Good row.0 × Good row.1) rows → AreRows table_values rows → AreNew Now [] (map (row_item N) rows) × Every (RowStands Now) (map (row_item N) rows)
    rows_stand rows h are_rows = (rows_new rows [] h are_rows.distinct are_rows.no_nil (none_later rows), each rows h)
      where
        none_later : (rows : List (Value × Value)) → Later [] rows
        none_later [] = tt
        none_later (row ∷ rows) = (tt, none_later rows)

        each : (rows : List (Value × Value)) → Every (λ row. Good row.0 × Good row.1) rows → Every (RowStands Now) (map (row_item N) rows)
        each [] h = tt
        each (row ∷ rows) h = ((item_stands row.0 h.0.0, item_stands row.1 h.0.1), each rows h.1)

    -- records

    module _ (solid : Solid primitives W) (held : Each (FieldIsHeld Name) (all_fields W perms roots)) (rows : Each (λ t. AreRows table_values t.rows) W.heap.tables)
        (small : length (spell_records Now (map sort_byte Rs) Rs) < 2 ^ 32)
      where
        abbrev FieldGood : Field → Type 0
        FieldGood f = FieldIsHeld Name f × Every Met (field_parts Name f)

        abbrev inside : ℕ → Bool
        inside = is_reached W Name roots

        fields_good : (o : Part) → Met o → Every FieldGood (fields W inside o)
        fields_good o m =
            let h = has_record o m in
            let all = every_front (FieldIsHeld Name) (map of_value roots) (flat_map (fields W inside) Order) (every_at (FieldIsHeld Name) (all_fields W perms roots) held) in
            let mine = every_get (λ o. Every (FieldIsHeld Name) (fields W inside o)) Order h.at o (every_flat (FieldIsHeld Name) (fields W inside) Order all.1) h.there in
            let met = every_at Met (parts W Name inside o)
            (λ j q g. order_closed same_part part_self (parts W Name inside) greatest_count (flat_map (λ v. field_parts Name (of_value v)) roots) few h.at o q j h.there g) in
            every_two (FieldIsHeld Name) (λ f. Every Met (field_parts Name f)) (fields W inside o) mine (every_flat Met (field_parts Name) (fields W inside o) met)

        value_good : (v : Value) → Valid z v → FieldGood (of_value v) → Good v
        value_good v h k = record { valid = h; held = k.0; met = k.1 }

        values_good : (vs : List Value) → Each (Valid z) vs → Every FieldGood (map of_value vs) → Every Good vs
        values_good [] h k = tt
        values_good (v ∷ vs) h k = (value_good v (h 0 v refl) k.0, values_good vs (λ i x e. h (suc i) x e) k.1)

        rows_good : (rs : List (Value × Value)) → Each (λ row. Valid z row.0 × Valid z row.1) rs → Every FieldGood (flat_map row_fields rs) → Every (λ row. Good row.0 × Good row.1) rs
        rows_good [] h k = tt
        rows_good (row ∷ rs) h k = let v = h 0 row refl in ((value_good row.0 v.0 k.0, value_good row.1 v.1 k.1.0), rows_good rs (λ i x e. h (suc i) x e) k.1.1)

        metatable_stands : (m : Option ℕ) → Good (metatable_value m) → is_table_or_nil Now (item N (metatable_value m)) ≡ true
        metatable_stands None g = ap (is_table_or_nil Now) nil_item
        metatable_stands (Some n) g = table_item n g

        metatable_valid : (m : Option ℕ) → OptionOk (λ m. m < z.tables) m → Valid z (metatable_value m)
        metatable_valid None h = tt
        metatable_valid (Some n) h = h

        table_stands : (t : Table) → TableOk z t → AreRows table_values t.rows → Every FieldGood (table_fields t) → RecordStands Now (record_of_table N t)
        table_stands t h are_rows k =
            let f = every_front FieldGood (flat_map row_fields t.rows) (of_value (metatable_value t.metatable) ∷ []) k in
            let r = rows_stand t.rows (rows_good t.rows h.rows f.0) are_rows in
            let m = value_good (metatable_value t.metatable) (metatable_valid t.metatable h.metatable) f.1.0 in
            (r.0, r.1, metatable_stands t.metatable m, item_stands (metatable_value t.metatable) m)

        cells_stand : (cs : List ℕ) → Every FieldGood (map of_cell cs) → Every (Refers Now.sorts (3 ∷ [])) (map (λ c. N.number (a_cell c)) cs)
        cells_stand [] h = tt
        cells_stand (c ∷ cs) h = (cell_refers c h.0.1.0, cells_stand cs h.1)

        function_stands : (f : Function) → FunctionOk z f → Every FieldGood (map of_cell f.cells) → RecordStands Now (record_of_function N f)
        function_stands f h k =
            (knows.checked f.code h.code, code_writable f.code h.code, sym (length-map f.cells (λ c. N.number (a_cell c)) ∙ h.count), cells_stand f.cells k)

        -- frames

        wait_stands : (wait : Wait Value) (op : Opcode) (w : Instruction) (stack size : ℕ) → IsTrue (waits_at wait op w) → size ≡ waiting_size wait w stack → WaitOk z wait → Every FieldGood (wait_fields wait) → WaitStands Now size (wait_item N wait)
        wait_stands running op w stack size h s k g = absurd (cc)
        wait_stands (returning count) op w stack size h s k g = returned_few stack (a_of w) count size s
        wait_stands (leaving e) op w stack size h s k g = item_stands e (value_good e k g.0)
        wait_stands _ op w stack size h s k g = tt

        small_all : (rs : List ℕ) (stack : ℕ) → stack < 2 ^ 32 → Each (λ r. r < stack) rs → Every (λ r. r < 2 ^ 32) rs
        small_all [] stack h k = tt
        small_all (r ∷ rs) stack h k = let l = k 0 r refl in (omega (arith, l, h), small_all rs stack h (λ i x e. k (suc i) x e))

        lua_stands : (f : LuaFrame) → LuaOk z f → LuaWaits z f → Every FieldGood (frame_fields (lua f)) → LuaStands Now (lua_frame_item N f)
        lua_stands f h w k =
            let a = every_front FieldGood (map of_value f.own.varargs) (map of_value f.own.registers ++ wait_fields f.wait) k.1 in
            let b = every_front FieldGood (map of_value f.own.registers) (wait_fields f.wait) a.1 in
            let callee = value_good (object a_function f.function) (slice_get_within W.functions f.function h.function h.there) k.0 in
            let count = length-map f.own.registers (item N) in
            record {
              is_function = function_item (object a_function f.function) refl callee;
              function = item_stands (object a_function f.function) callee;
              pc = place_small w.function.code (solid.functions f.function w.function w.there).code f.own.pc w.instruction w.at_pc;
              varargs = values_stand f.own.varargs (values_good f.own.varargs h.varargs a.0);
              registers = values_stand f.own.registers (values_good f.own.registers h.registers b.0);
              pending = small_all f.own.pending h.function.code.own.stack (stack_small h.function.code (solid.functions f.function h.function h.there).code) h.pending;
              wait = wait_stands f.wait w.opcode w.instruction w.function.code.own.stack (length (map (item N) f.own.registers)) w.fits (count ∙ w.size) h.error b.1;
              opened = w.opened;
            }

        error_stands : (e : Option Value) → OptionOk (Valid z) e → Every FieldGood (error_fields e) → ErrorStands Now (option_map (item N) e)
        error_stands None h k = tt
        error_stands (Some e) h k = item_stands e (value_good e h k.0)

        frame_stands : (f : Frame) → FrameOk z f → FrameWaits z f → Every FieldGood (frame_fields f) → FrameStands Now (frame_item N f)
        frame_stands (lua f) h w k = lua_stands f h w k
        frame_stands pcall h w k = tt
        frame_stands (xpcall v) h w k = item_stands v (value_good v h k.0)
        frame_stands handler h w k = tt
        frame_stands (closing e left) h w k =
            let f = every_front FieldGood (error_fields e) (map of_value left) k in
            (error_stands e h.0 f.0, values_stand left (values_good left h.1 f.1))

        frames_stand : (fs : List Frame) → Each (FrameOk z) fs → Each (FrameWaits z) fs → Every FieldGood (flat_map frame_fields fs) → Every (FrameStands Now) (map (frame_item N) fs)
        frames_stand [] h w k = tt
        frames_stand (f ∷ fs) h w k =
            let g = every_front FieldGood (frame_fields f) (flat_map frame_fields fs) k in
            (frame_stands f (h 0 f refl) (w 0 f refl) g.0, frames_stand fs (λ i x e. h (suc i) x e) (λ i x e. w (suc i) x e) g.1)

        coroutine_stands : (c : Coroutine) → CoroutineOk z c → kind_in (record_of_coroutine N c) ≡ Some a_coroutine → Every FieldGood (coroutine_fields c) → RecordStands Now (record_of_coroutine N c)
        coroutine_stands (fresh body) h e k = let g = value_good body h.0 k.0 in (function_item body h.1 g, item_stands body g)
        coroutine_stands (suspended fs) h e k = (frames_stand fs h.right.each h.waits k, (let few = h.right.depth in let l = length-map fs (frame_item N) in omega (arith, few, l)))
        coroutine_stands (in_progress fs) h e k = absurd (none_some a_coroutine e)
        coroutine_stands (normal fs) h e k = absurd (none_some a_coroutine e)
        coroutine_stands dead h e k = tt
        coroutine_stands (failed e pending) h i k = (item_stands e (value_good e h.0 k.0), values_stand pending (values_good pending h.1 k.1))

        -- cells

        abbrev IsPlace : ℕ → ℕ → Type 0
        IsPlace frame register = (frame < 2 ^ 32) × (register < 2 ^ 32)

        lua_place : (frames : List Frame) (at frame register : ℕ) (f : LuaFrame) → AllWait z frames → slice_get Rs at ≡ Some (suspended_record (map (frame_item N) frames)) → slice_get frames frame ≡ Some (lua f) → register < length f.own.registers
            → IsPlace frame register
        lua_place frames at frame register f h e g l =
            let within = slice_get_within frames frame (lua f) g in
            let depth = h.right.depth in
            let bound = registers_bound Now Rs at (map (frame_item N) frames) frame (lua_frame_item N f) e (get_map (frame_item N) frames frame (lua f) g) (h.waits frame (lua f) g).opened in
            let count = length-map f.own.registers (item N) in
            (omega (arith, within, depth), omega (arith, l, bound, count, small))

        place_in : (frames : List Frame) (at frame register : ℕ) → AllWait z frames → slice_get Rs at ≡ Some (suspended_record (map (frame_item N) frames)) → register < registers_in frames frame → IsPlace frame register
        place_in frames at frame register h e l = by (slice_get frames frame) refl l
          where
            by : (o : Option Frame) → slice_get frames frame ≡ o → register < elim (bind o lua_frame) [ None ↦ 0 | Some f ↦ length f.own.registers ] → IsPlace frame register
            by (Some (lua f)) g l = lua_place frames at frame register f h e g l
            by _ g l = absurd (omega (arith, l))

        coroutine_place : (c : Coroutine) (at frame register : ℕ) → CoroutineOk z c → kind_in (record_of_coroutine N c) ≡ Some a_coroutine → slice_get Rs at ≡ Some (record_of_coroutine N c)
            → register < elim (frames_of c) [ None ↦ 0 | Some frames ↦ registers_in frames frame ] → IsPlace frame register
        coroutine_place (fresh body) at frame register h k e l = absurd (omega (arith, l))
        coroutine_place (suspended frames) at frame register h k e l = place_in frames at frame register h e l
        coroutine_place (in_progress frames) at frame register h k e l = absurd (none_some a_coroutine k)
        coroutine_place (normal frames) at frame register h k e l = absurd (none_some a_coroutine k)
        coroutine_place dead at frame register h k e l = absurd (omega (arith, l))
        coroutine_place (failed v vs) at frame register h k e l = absurd (omega (arith, l))

        open_place : (co frame register : ℕ) → Met (an_object a_coroutine co) → register < registers_of W.coroutines co frame → IsPlace frame register
        open_place co frame register m l = by (slice_get W.coroutines co) refl (written (an_object a_coroutine co) m) (get_map (record_of N W) Order h.at (an_object a_coroutine co) h.there) l
          where
            h : HasRecord (an_object a_coroutine co)
            h = has_record (an_object a_coroutine co) m

            by : (o : Option Coroutine) → slice_get W.coroutines co ≡ o → kind_in (or_none (record_of_coroutine N) o) ≡ Some a_coroutine → slice_get Rs h.at ≡ Some (or_none (record_of_coroutine N) o)
                → register < elim (bind o frames_of) [ None ↦ 0 | Some frames ↦ registers_in frames frame ] → IsPlace frame register
            by None g k e l = absurd (none_some a_coroutine k)
            by (Some c) g k e l = coroutine_place c h.at frame register (solid.coroutines co c g) k e l

        cell_stands : (n : ℕ) (c : Cell) → slice_get W.cells n ≡ Some c → CellOk z W.coroutines c → Every FieldGood (cell_fields W inside c) → RecordStands Now (record_of_cell N W c)
        cell_stands n (closed v) e h k = item_stands v (value_good v h k.0)
        cell_stands n (open_at co frame register) e h k = by (inside co) k
          where
            valid : Valid z (present W (open_at co frame register))
            valid = let there = open_cells_there primitives W solid n co frame register e in subst (Valid z) (sym (ap (λ o. unwrap_or o (known nil)) there.1)) there.2

            by : (b : Bool) → Every FieldGood (cond b (of_coroutine co ∷ []) (of_value (present W (open_at co frame register)) ∷ []))
                → RecordStands Now (cond b (open_record (N.number (an_object a_coroutine co)) frame register) (closed_record (item N (present W (open_at co frame register)))))
            by true k = let p = open_place co frame register k.0.1.0 h in (coroutine_refers co k.0.1.0, p.0, p.1)
            by false k = item_stands (present W (open_at co frame register)) (value_good (present W (open_at co frame register)) valid k.0)

        -- all of them

        record_stands : (o : Part) → Met o → RecordStands Now (record_of N W o)
        record_stands (an_object a_table n) m = by (slice_get W.heap.tables n) refl (written (an_object a_table n) m) (fields_good (an_object a_table n) m)
          where
            by : (o : Option Table) → slice_get W.heap.tables n ≡ o → kind_in (or_none (record_of_table N) o) ≡ Some a_table → Every FieldGood (if_there table_fields o) → RecordStands Now (or_none (record_of_table N) o)
            by None g k f = absurd (none_some a_table k)
            by (Some t) g k f = table_stands t (solid.tables n t g) (rows n t g) f
        record_stands (an_object a_function n) m = by (slice_get W.functions n) refl (written (an_object a_function n) m) (fields_good (an_object a_function n) m)
          where
            by : (o : Option Function) → slice_get W.functions n ≡ o → kind_in (or_none (record_of_function N) o) ≡ Some a_function → Every FieldGood (if_there (λ f. map of_cell f.cells) o) → RecordStands Now (or_none (record_of_function N) o)
            by None g k f = absurd (none_some a_function k)
            by (Some t) g k f = function_stands t (solid.functions n t g) f
        record_stands (an_object a_coroutine n) m = by (slice_get W.coroutines n) refl (written (an_object a_coroutine n) m) (fields_good (an_object a_coroutine n) m)
          where
            by : (o : Option Coroutine) → slice_get W.coroutines n ≡ o → kind_in (or_none (record_of_coroutine N) o) ≡ Some a_coroutine → Every FieldGood (if_there coroutine_fields o) → RecordStands Now (or_none (record_of_coroutine N) o)
            by None g k f = absurd (none_some a_coroutine k)
            by (Some c) g k f = coroutine_stands c (solid.coroutines n c g) k f
        record_stands (a_cell n) m = by (slice_get W.cells n) refl (written (a_cell n) m) (fields_good (a_cell n) m)
          where
            by : (o : Option Cell) → slice_get W.cells n ≡ o → is_cell (or_none (record_of_cell N W) o) ≡ true → Every FieldGood (if_there (cell_fields W inside) o) → RecordStands Now (or_none (record_of_cell N W) o)
            by None g k f = absurd (cc)
            by (Some c) g k f = cell_stands n c g (solid.cells n c g) f

        pub records_stand : Every (RecordStands Now) Rs
        records_stand = every_at (RecordStands Now) Rs (λ j r e. let o = map_get (record_of N W) Order j r e in subst (RecordStands Now) o.2 (record_stands o.0 (get_met same_part part_tells part_self Order o.0 j o.1)))

        pub roots_stand : Each (Valid z) roots → Stand Now (map (item N) roots)
        roots_stand there = values_stand roots (each roots there front.0 met)
          where
            front : Every (FieldIsHeld Name) (map of_value roots) × Every (FieldIsHeld Name) (flat_map (fields W inside) Order)
            front = every_front (FieldIsHeld Name) (map of_value roots) (flat_map (fields W inside) Order) (every_at (FieldIsHeld Name) (all_fields W perms roots) held)

            met : Every (λ v. Every Met (field_parts Name (of_value v))) roots
            met =
                every_flat Met (λ v. field_parts Name (of_value v)) roots
                (every_at Met (flat_map (λ v. field_parts Name (of_value v)) roots) (λ j q g. order_roots same_part part_self (parts W Name inside) greatest_count (flat_map (λ v. field_parts Name (of_value v)) roots) j q g))

            each : (vs : List Value) → Each (Valid z) vs → Every (FieldIsHeld Name) (map of_value vs) → Every (λ v. Every Met (field_parts Name (of_value v))) vs → Every Good vs
            each [] h k m = tt
            each (v ∷ vs) h k m = (record { valid = h 0 v refl; held = k.0; met = m.0 }, each vs (λ i x e. h (suc i) x e) k.1 m.1)

    pub named_plainly : (v : Value) (i : Item) → Name v ≡ Some i → item_numbers i ≡ []
    named_plainly v i e = by i (named_so W.prelude_environment perms v i e)
      where
        by : (i : Item) → Named W.prelude_environment perms v i → item_numbers i ≡ []
        by i (by_environment h) = refl
        by i (by_key key k) = refl
