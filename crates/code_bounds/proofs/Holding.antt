-- An expression has no more registers than values that it holds, and those that are wanted of it.
use Rattle.std.proofs.Common.{◌≡◌, ℕ, zero, suc, ◌+◌, ◌-◌, ◌%◌, ◌≤◌, max, Bool, true, false, cond, List, Option, Some, None, nat_lt, refl, ap, subst, arith}
use Rattle.tree_core.specs.declared.name.Place.{Place}
use Rattle.tree_core.specs.declared.name.Place.TheVariants.{Unset, Upvalue, GlobalIn, GlobalOf, Local as LocalPlace}
use Rattle.tree_core.specs.Tree.{Exp, True, Var, Index, Call, Method, Unary, Binary, And, Or, Paren, Table, Exps, EndExps, MoreExps, Fields, EndFields, MoreFields, Item, Keyed}
use Rattle.code_core.specs.declared.proto.Const.{Const}
use Rattle.code_core.specs.declared.proto.Const.TheVariants.{Str as StrConst}
use Rattle.code_of.specs.Constants.{number_in}
use Rattle.code_of.specs.Expressions.{count, is_open, is_last_item, Wanted, results_field, one_less}
use Rattle.scope_core.specs.Held.{positional, held_name, held, held_behind, held_fields, held_field}
use Rattle.scope_core.specs.Held as held_specs
use Rattle.code_of.specs.StoredValues.{stored_value}
use Rattle.code_of.specs.Operands.{local_at, local_of}
use Rattle.code_of.specs.FieldReads.{object_room}
use Rattle.code_of.specs.Truths.{is_not, is_compared}
use Rattle.code_of.specs.Stores.{name_in, is_quiet, field_key}
use Rattle.code_of.proofs.Stores.{keyed_room_few}
use Rattle.code_of.specs.Operations.{constant_in, operation_room}
use Rattle.code_of.proofs.Operations.{few_operation}
use Rattle.code_of.proofs.FieldReads.{few_read}
use Rattle.code_of.proofs.Rooms.{self_room}
use Rattle.code_of.proofs.Items.{still_few}
use Rattle.code_of.specs.Items.{waits, is_full, stored_behind, waiting_behind, item_room}
use Rattle.code_of.specs.Rooms.{room_of_values, room_of_nils, room_of_name, room_of, room_tested, room_kept, room_of_list, room_of_fields}
use Rattle.code_bounds.proofs.Expressions.{one_or_none}

-- both counts of a list are one
pub same_count : (es : Exps) → held_specs.count es ≡ count es
same_count EndExps = refl
same_count (MoreExps e es) = let rest = same_count es in omega (arith, rest)

pub some_name : (p : Place) → 1 ≤ held_name p
some_name Unset = omega arith
some_name _ = omega arith

pub some_held : (e : Exp) → 1 ≤ held e
some_held (Var line name) = some_name name.place
some_held (Unary line op e) = some_held e
some_held (Paren line e) = some_held e
some_held _ = omega arith

pub count_held : (es : Exps) (before : ℕ) → before + count es ≤ max before (held_behind before es)
count_held EndExps before = omega arith
count_held (MoreExps e es) before =
    let some = some_held e in
    let rest = count_held es (before + 1) in
    omega (arith, some, rest)

-- values that stand higher
pub held_shifted : (es : Exps) (a b : ℕ) → a + held_behind b es ≤ max a (held_behind (a + b) es)
held_shifted EndExps a b = omega arith
held_shifted (MoreExps e es) a b =
    let rest = held_shifted es a (b + 1) in
    let place : a + (b + 1) ≡ a + b + 1 = omega arith in
    let same = ap (λ n. held_behind n es) place in
    by (held e) (held_behind (b + 1) es) (held_behind (a + (b + 1)) es) (held_behind (a + b + 1) es) rest same
  where
    by : (h m n o : ℕ) → a + m ≤ max a n → n ≡ o → a + max (b + h) m ≤ max a (max (a + b + h) o)
    by h m n o rest same = omega arith

either_two : (b : Bool) → cond b 1 2 ≤ 2
either_two true = omega arith
either_two false = omega arith

either_one : (b : Bool) → cond b 1 1 ≤ 1
either_one true = omega arith
either_one false = omega arith

either_less : (b : Bool) (x y n : ℕ) → x ≤ n → y ≤ n → cond b x y ≤ n
either_less true x y n h k = h
either_less false x y n h k = k

own_less : (at : Option ℕ) (value n : ℕ) → value ≤ n → object_room 0 at value ≤ n
own_less None value n h = h
own_less (Some x) value n h = omega arith

module _ (cs : List Const) where
  pub name_held : (p : Place) (text : List ℕ) → room_of_name cs p text ≤ held_name p
  name_held Unset text = omega arith
  name_held (LocalPlace n) text = omega arith
  name_held (Upvalue u) text = omega arith
  name_held (GlobalIn n) text = let one = either_one (nat_lt (number_in cs (StrConst text)) 256) in omega (arith, one)
  name_held (GlobalOf u) text = either_two (nat_lt (number_in cs (StrConst text)) 256)

  pub name_two : (p : Place) (text : List ℕ) → room_of_name cs p text ≤ 2
  name_two Unset text = omega arith
  name_two (LocalPlace n) text = omega arith
  name_two (Upvalue u) text = omega arith
  name_two (GlobalIn n) text = let one = either_one (nat_lt (number_in cs (StrConst text)) 256) in omega (arith, one)
  name_two (GlobalOf u) text = either_two (nat_lt (number_in cs (StrConst text)) 256)

  -- where one value or all are wanted
  item_by : (e : Exp) (b : Bool) → ((field : ℕ) → room_of cs e field ≤ max (held e) (room_of_values field)) → room_of cs e (cond b 0 2) ≤ held e
  item_by e true h = let some = some_held e in let k = h 0 in omega (arith, some, k)
  item_by e false h = let some = some_held e in let k = h 2 in omega (arith, some, k)

  -- how many are wanted, or none
  abbrev pub wanted_count : Wanted → ℕ
  wanted_count None = 0
  wanted_count (Some n) = n

  nils_held : (wanted : Wanted) (above : ℕ) → room_of_nils above wanted ≤ above + wanted_count wanted
  nils_held None above = omega arith
  nils_held (Some zero) above = omega arith
  nils_held (Some (suc n)) above = omega arith

  values_held : (wanted : Wanted) → room_of_values (results_field wanted) ≤ max 1 (wanted_count wanted)
  values_held None = omega arith
  values_held (Some n) = let e : n + 1 ≡ suc n = omega arith in let f = ap room_of_values e in omega (arith, f)

  less_count : (wanted : Wanted) → wanted_count (one_less wanted) ≡ wanted_count wanted - 1
  less_count None = omega arith
  less_count (Some n) = refl

  -- the last expression of a list, from which it is wanted what is left
  last_held : (e : Exp) (wanted : Wanted) (above : ℕ) (b : Bool) → ((field : ℕ) → room_of cs e field ≤ max (held e) (room_of_values field)) →
      max (above + room_of cs e (cond b (results_field wanted) 2)) (room_of_nils (above + 1) (cond b None (one_less wanted))) ≤ max (max (above + held e) 0) (above + wanted_count wanted)
  last_held e wanted above true h =
      let mine = h (results_field wanted) in
      let some = some_held e in
      let values = values_held wanted in
      omega (arith, mine, some, values)
  last_held e wanted above false h =
      let mine = item_by e false h in
      let some = some_held e in
      let rest = nils_held (one_less wanted) (above + 1) in
      let less = less_count wanted in
      omega (arith, mine, some, rest, less)

  -- an item and the fields behind it: no more wait than there are behind the last multiple of fifty

  room_join : (items w x h r s : ℕ) → w + x ≤ items % 50 + h → 1 + r ≤ max 1 s → 1 + max (w + x) r ≤ max 1 (max (1 + items % 50 + h) s)
  room_join items w x h r s own rest = omega arith

  abbrev FieldsHeld : Fields → Type 0
  FieldsHeld fs = (stored waiting : ℕ) → waiting ≤ (stored + waiting) % 50 → 1 + room_of_fields cs fs stored waiting ≤ max 1 (held_fields (stored + waiting) fs)

  item_held : (fs : Fields) → FieldsHeld fs → (wait full : Bool) (stored waiting x h : ℕ) → is_full (stored + waiting + 1) ≡ full → waiting ≤ (stored + waiting) % 50 → x ≤ h
      → 1 + max (item_room wait waiting x) (room_of_fields cs fs (stored_behind wait full stored waiting) (waiting_behind wait full waiting)) ≤ max 1 (max (1 + (stored + waiting) % 50 + h) (held_fields (stored + waiting + 1) fs))
  item_held fs law true false stored waiting x h off few low =
      let same : stored + (waiting + 1) ≡ stored + waiting + 1 = omega arith in
      let rest = law stored (waiting + 1) (still_few stored waiting few off) in
      let r = room_of_fields cs fs stored (waiting + 1) in
      room_join (stored + waiting) waiting x h r (held_fields (stored + waiting + 1) fs) (omega (arith, few, low)) (subst (λ z. 1 + room_of_fields cs fs stored (waiting + 1) ≤ max 1 (held_fields z fs)) same rest)
  item_held fs law true true stored waiting x h off few low =
      let same : stored + waiting + 1 + 0 ≡ stored + waiting + 1 = omega arith in
      let rest = law (stored + waiting + 1) 0 (omega arith) in
      let r = room_of_fields cs fs (stored + waiting + 1) 0 in
      room_join (stored + waiting) waiting x h r (held_fields (stored + waiting + 1) fs) (omega (arith, few, low)) (subst (λ z. 1 + room_of_fields cs fs (stored + waiting + 1) 0 ≤ max 1 (held_fields z fs)) same rest)
  item_held fs law false full stored waiting x h off few low =
      let same : stored + waiting + 1 + 0 ≡ stored + waiting + 1 = omega arith in
      let rest = law (stored + waiting + 1) 0 (omega arith) in
      let r = room_of_fields cs fs (stored + waiting + 1) 0 in
      let more = room_join (stored + waiting) 0 x h r (held_fields (stored + waiting + 1) fs) (omega (arith, low)) (subst (λ z. 1 + room_of_fields cs fs (stored + waiting + 1) 0 ≤ max 1 (held_fields z fs)) same rest) in
      omega (arith, more)

  mutual
    pub exp_held : (e : Exp) (field : ℕ) → room_of cs e field ≤ max (held e) (room_of_values field)
    exp_held (Var line name) field = let h = name_held name.place name.text in omega (arith, h)
    exp_held (Index line object key) field =
        let a = item_by object false (exp_held object) in
        let b = item_by key false (exp_held key) in
        let h = few_read 1 (name_in cs key) object key (room_of cs object 2) (room_of cs key 2) (omega arith) in
        omega (arith, a, b, h)
    exp_held (Call line f es) field = let a = item_by f false (exp_held f) in let b = exps_held es None 1 in omega (arith, a, b)
    exp_held (Method line object name es) field = let a = item_by object false (exp_held object) in let b = exps_held es None 2 in let c = (self_room cs name.text).1 in omega (arith, a, b, c)
    exp_held (Unary line op e) field = let a = item_by e false (exp_held e) in omega (arith, a)
    exp_held (Binary line op e d) field =
        let a = item_by e false (exp_held e) in
        let b = item_by d false (exp_held d) in
        let h = few_operation 1 (constant_in cs op d) op e d (room_of cs e 2) (room_of cs d 2) (omega arith) in
        omega (arith, a, b, h)
    exp_held (And line e d) field = let a = kept_held e (room_of cs e 2) false (item_by e false (exp_held e)) in let b = item_by d false (exp_held d) in omega (arith, a, b)
    exp_held (Or line e d) field = let a = kept_held e (room_of cs e 2) true (item_by e false (exp_held e)) in let b = item_by d false (exp_held d) in omega (arith, a, b)
    exp_held (Paren line e) field = let a = item_by e false (exp_held e) in omega (arith, a)
    exp_held (Table line fs) field =
        let none : 0 + 0 ≡ 0 = omega arith in
        let a = subst (λ z. 1 + room_of_fields cs fs 0 0 ≤ max 1 (held_fields z fs)) none (fields_held fs 0 0 (omega arith)) in
        omega (arith, a)
    exp_held _ field = omega arith

    -- where only the truth is wanted, and where a first operand's value is kept
    tested_held : (e : Exp) (value : ℕ) → value ≤ held e → room_tested cs e value ≤ held e
    tested_held (Paren line e) value h = tested_held e value h
    tested_held (Unary line op e) value h = either_less (is_not op) (room_tested cs e (room_of cs e 2)) value (held e) (tested_held e (room_of cs e 2) (item_by e false (exp_held e))) h
    tested_held (And line e d) value h =
        let a = tested_held e (room_of cs e 2) (item_by e false (exp_held e)) in
        let b = tested_held d (room_of cs d 2) (item_by d false (exp_held d)) in
        omega (arith, a, b)
    tested_held (Or line e d) value h =
        let a = tested_held e (room_of cs e 2) (item_by e false (exp_held e)) in
        let b = tested_held d (room_of cs d 2) (item_by d false (exp_held d)) in
        omega (arith, a, b)
    tested_held (Binary line op e d) value h =
        let a = item_by e false (exp_held e) in
        let b = item_by d false (exp_held d) in
        let f = few_operation (cond (is_compared op) 0 1) (constant_in cs op d) op e d (room_of cs e 2) (room_of cs d 2) (one_or_none (is_compared op)) in
        omega (arith, a, b, f)
    tested_held (True line) value h = omega arith
    tested_held (Var line name) value h = own_less (local_at name.place) value (held_name name.place) h
    tested_held _ value h = h

    kept_held : (e : Exp) (value : ℕ) (k : Bool) → value ≤ held e → room_kept cs e value k ≤ held e
    kept_held (Paren line e) value k h = kept_held e value k h
    kept_held (And line e d) value k h =
        let a = either_less k (room_tested cs e (room_of cs e 2)) (room_kept cs e (room_of cs e 2) false) (held e) (tested_held e (room_of cs e 2) (item_by e false (exp_held e))) (kept_held e (room_of cs e 2) false (item_by e false (exp_held e))) in
        let b = kept_held d (room_of cs d 2) k (item_by d false (exp_held d)) in
        omega (arith, a, b)
    kept_held (Or line e d) value k h =
        let a = either_less k (room_kept cs e (room_of cs e 2) true) (room_tested cs e (room_of cs e 2)) (held e) (kept_held e (room_of cs e 2) true (item_by e false (exp_held e))) (tested_held e (room_of cs e 2) (item_by e false (exp_held e))) in
        let b = kept_held d (room_of cs d 2) k (item_by d false (exp_held d)) in
        omega (arith, a, b)
    kept_held (Unary line op e) value k h =
        let some = some_held e in
        let a = tested_held e (room_of cs e 2) (item_by e false (exp_held e)) in
        either_less (is_not op) (max (room_tested cs e (room_of cs e 2)) 1) value (held e) (omega (arith, some, a)) h
    kept_held (Binary line op e d) value k h =
        let some = some_held e in
        let a = item_by e false (exp_held e) in
        let b = item_by d false (exp_held d) in
        let own : ℕ = cond (is_compared op) 0 1 in
        let f = few_operation own (constant_in cs op d) op e d (room_of cs e 2) (room_of cs d 2) (one_or_none (is_compared op)) in
        either_less (is_compared op) (max (operation_room own (constant_in cs op d) op e d (room_of cs e 2) (room_of cs d 2)) 1) value (max (held e) (1 + held d)) (omega (arith, some, a, b, f)) h
    kept_held _ value k h = h

    pub exps_held : (es : Exps) (wanted : Wanted) (above : ℕ) → room_of_list cs above es wanted ≤ max (held_behind above es) (above + wanted_count wanted)
    exps_held EndExps wanted above = let h = nils_held wanted above in omega (arith, h)
    exps_held (MoreExps e EndExps) wanted above = last_held e wanted above (is_open e) (exp_held e)
    exps_held (MoreExps e (MoreExps d es)) wanted above =
        let mine = item_by e false (exp_held e) in
        let some = some_held e in
        let rest = exps_held (MoreExps d es) (one_less wanted) (above + 1) in
        let less = less_count wanted in
        omega (arith, mine, some, rest, less)

    fields_held : (fs : Fields) (stored waiting : ℕ) → waiting ≤ (stored + waiting) % 50 → 1 + room_of_fields cs fs stored waiting ≤ max 1 (held_fields (stored + waiting) fs)
    fields_held EndFields stored waiting few = omega arith
    fields_held (MoreFields (Item e) fs) stored waiting few =
        item_held fs (fields_held fs) (waits e) (is_full (stored + waiting + 1)) stored waiting (room_of cs e (cond (is_last_item e fs) 0 2)) (held e) refl few (item_by e (is_last_item e fs) (exp_held e))
    fields_held (MoreFields (Keyed line e d) fs) stored waiting few =
        let a = item_by e false (exp_held e) in
        let b = item_by d false (exp_held d) in
        let c = fields_held fs (stored + waiting) 0 (omega arith) in
        let rooms = keyed_room_few (field_key cs (is_quiet d) e) (stored_value cs d) (room_of cs e 2) (room_of cs d 2) in
        omega (arith, a, b, c, rooms)

  pub one_held : (e : Exp) → room_of cs e 2 ≤ held e
  one_held e = item_by e false (exp_held e)

  pub all_held : (es : Exps) (above : ℕ) → room_of_list cs above es None ≤ max (held_behind above es) above
  all_held es above = let h = exps_held es None above in omega (arith, h)
