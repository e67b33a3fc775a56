-- Pieces that name constants, upvalues and inner functions.
use Rattle.std.proofs.Common.{◌≡◌, ℕ, zero, suc, ◌+◌, ◌<◌, ◌≤◌, ◌^◌, lit<, Bool, true, false, cond, if◌then◌else◌, ◌&&◌, List, [], ◌∷◌, ◌++◌, length, drop, map, Some, None, slice_get, refl, sym, ap, ap₂, subst, ◌∙◌, arith, lt-ltb, ltb-true}
use Rattle.std.specs.Prelude.{nat_lt, ℤ}
use Rattle.std.specs.List.{list_all}
use Rattle.code_core.specs.declared.opcode.Opcode.{Opcode}
use Rattle.code_core.specs.declared.opcode.Opcode.TheVariants.{LoadI, LoadK, LoadKx, GetUpval, SetUpval, GetTabUp, GetTable, GetField, SetTabUp, SetTable, SetI, SetField, OpSelf, Closure, ExtraArg, Move, LoadNil}
use Rattle.code_core.specs.declared.instruction.Instruction.{Instruction}
use Rattle.code_core.specs.declared.proto.Const.{Const}
use Rattle.code_core.specs.declared.proto.Const.TheVariants.{Int as IntConst, Str as StrConst}
use Rattle.code_core.specs.Instruction.{abc, abx, op_ax, opcode_of, c_of, ax_of}
use Rattle.code_core.specs.Fields.{anything, name, registers, Wanted}
use Rattle.code_core.specs.Prototype.{Prototype, Prototypes, Parts, more, list_of}
use Rattle.code_core.specs.Check.{at, there, is_same, constant_is, upvalue_there}
use Rattle.code_core.proofs.FieldLemmas.{opcode_of-abc, a_of-abc, b_of-abc, c_of-abc, opcode_of-abx, a_of-abx, bx_of-abx, opcode_of-ax, ax_of-ax}
use Rattle.tree_core.specs.declared.name.UpName.{UpName}
use Rattle.tree_core.specs.declared.name.Place.{Place}
use Rattle.tree_core.specs.declared.name.Place.TheVariants.{Unset, Upvalue, GlobalIn, GlobalOf, Local as LocalPlace}
use Rattle.code_of.specs.Coded.{with_abc, with_abx}
use Rattle.code_of.specs.Constants.{is_small, small_field, number_in, loads, loads_integer, of_name}
use Rattle.code_of.specs.Operators.{global_code, local_global_code, name_into, name_code, self_code}
use Rattle.code_of.specs.CodeOf.{back_field, upvalue}
use Rattle.code_checked.specs.Near.{IsRegister, NameIsNear, AreCaptured}
use Rattle.code_checked.proofs.Pieces.{closed, Piece, both}
use Rattle.code_checked.proofs.Units.{Plain, StillCouple, one, two, extra_of}
use Rattle.code_checked.proofs.Words.{abc_fits, abx_fits, ax_fits, simple, simple_wide, simple_move, simple_load_i, simple_load_nil, simple_get_table, lone, alone_get_field, alone_get_tab_up, alone_get_upvalue, alone_load_k, alone_self, alone_set_field, alone_set_i, alone_set_tab_up, alone_set_table, alone_set_upvalue, joined, joined_load_kx, last_extra}
use Rattle.code_of.proofs.Fields.{k_of-abc, field_fits}
use Rattle.code_checked.proofs.Found.{Grows, IsIn, is_in, is_name}
use Rattle.code_of.proofs.Constants.{same_text}

-- what holds of a function as a whole
pub record Whole (p : Prototype) : Type 0 where
  pub constants : length p.own.constants ≤ 2 ^ 25
  pub functions : length (list_of p.inner) ≤ 2 ^ 17
  pub upvalues : length p.own.upvalues ≤ 255
  pub returns : back_field p.own.vararg p.own.params < 2 ^ 8
  pub short : length p.own.code ≤ 2 ^ 24
  pub roomy : (pc : ℕ) (w : Instruction) (op : Opcode) → at p pc ≡ Some w → opcode_of w ≡ Some op → list_all (λ r. nat_lt r p.own.stack) (registers op w) ≡ true

one_of : (b : Bool) → b ≡ true → (b && true) ≡ true
one_of b h = ap (λ b. b && true) h

-- the functions from number j on
abbrev pub Functions : Prototype → ℕ → Prototypes → Type 0
Functions p j ps = drop j (list_of p.inner) ≡ list_of ps

first_of_rest : {A : Type 0} (xs : List A) (j : ℕ) (x : A) (ys : List A) → drop j xs ≡ x ∷ ys → slice_get xs j ≡ Some x
first_of_rest [] zero x ys h = absurd (cc)
first_of_rest [] (suc j) x ys h = absurd (cc)
first_of_rest (y ∷ xs) zero x ys h = ap (λ l. slice_get l 0) h
first_of_rest (y ∷ xs) (suc j) x ys h = first_of_rest xs j x ys h

below_rest : {A : Type 0} (xs : List A) (j : ℕ) (x : A) (ys : List A) → drop j xs ≡ x ∷ ys → j < length xs
below_rest [] zero x ys h = absurd (cc)
below_rest [] (suc j) x ys h = absurd (cc)
below_rest (y ∷ xs) zero x ys h = omega arith
below_rest (y ∷ xs) (suc j) x ys h = let i = below_rest xs j x ys h in omega (arith, i)

rest_of : {A : Type 0} (xs : List A) (j : ℕ) (x : A) (ys : List A) → drop j xs ≡ x ∷ ys → drop (suc j) xs ≡ ys
rest_of [] zero x ys h = absurd (cc)
rest_of [] (suc j) x ys h = absurd (cc)
rest_of (y ∷ xs) zero x ys h = ap (drop 1) h
rest_of (y ∷ xs) (suc j) x ys h = rest_of xs j x ys h

pub functions_next : (p : Prototype) (j : ℕ) (own : Parts) (inner rest : Prototypes) → Functions p j (more own inner rest) → Functions p (j + 1) rest
functions_next p j own inner rest h =
    let e : suc j ≡ j + 1 = omega arith in
    subst (λ k. Functions p k rest) e (rest_of (list_of p.inner) j (record { own = own; inner = inner }) (list_of rest) h)

-- a constant that is used is there, and of the wanted kind
abbrev pub is_used : Prototype → Wanted × ℕ → Bool
is_used p used = there (constant_is used.0) (slice_get p.own.constants used.1)

module _ (p : Prototype) where
  upvalue_test : (u : ℕ) → u < length p.own.upvalues → list_all (λ u. nat_lt u (length p.own.upvalues)) (u ∷ []) ≡ true
  upvalue_test u h = one_of (nat_lt u (length p.own.upvalues)) (lt-ltb u (length p.own.upvalues) h)

  get_upvalue : (t u : ℕ) → t < 2 ^ 8 → u < 2 ^ 8 → u < length p.own.upvalues → Plain p closed closed (abc GetUpval t u 0 false)
  get_upvalue t u tf uf h = record {
    single = lone p GetUpval (alone_get_upvalue p) (abc GetUpval t u 0 false) (opcode_of-abc GetUpval t u 0 false) (abc_fits GetUpval t u 0 false tf uf (lit< tt)) (λ extra. refl)
        (ap (λ b. list_all (λ u. nat_lt u (length p.own.upvalues)) (b ∷ [])) (b_of-abc GetUpval t u 0 false tf uf) ∙ upvalue_test u h);
    still = λ pc. refl;
  }

  set_upvalue : (v u : ℕ) → v < 2 ^ 8 → u < 2 ^ 8 → u < length p.own.upvalues → Plain p closed closed (abc SetUpval v u 0 false)
  set_upvalue v u vf uf h = record {
    single = lone p SetUpval (alone_set_upvalue p) (abc SetUpval v u 0 false) (opcode_of-abc SetUpval v u 0 false) (abc_fits SetUpval v u 0 false vf uf (lit< tt)) (λ extra. refl)
        (ap (λ b. list_all (λ u. nat_lt u (length p.own.upvalues)) (b ∷ [])) (b_of-abc SetUpval v u 0 false vf uf) ∙ upvalue_test u h);
    still = λ pc. refl;
  }

  pub constant_test : (wanted : Wanted) (n : ℕ) (entry : Const) → slice_get p.own.constants n ≡ Some entry → constant_is wanted entry ≡ true
      → list_all (is_used p) ((wanted, n) ∷ []) ≡ true
  constant_test wanted n entry is h = one_of (there (constant_is wanted) (slice_get p.own.constants n)) (ap (there (constant_is wanted)) is ∙ h)

  get_global : (t u n : ℕ) (text : List ℕ) → t < 2 ^ 8 → u < 2 ^ 8 → n < 2 ^ 8 → u < length p.own.upvalues → number_in p.own.constants (StrConst text) ≡ n → IsIn p.own.constants (StrConst text)
      → Plain p closed closed (abc GetTabUp t u n false)
  get_global t u n text tf uf nf h e i = record {
    single = lone p GetTabUp (alone_get_tab_up p) (abc GetTabUp t u n false) (opcode_of-abc GetTabUp t u n false) (abc_fits GetTabUp t u n false tf uf nf)
        (λ extra. ap (λ c. list_all (is_used p) ((name, c) ∷ [])) (c_of-abc GetTabUp t u n false tf uf nf)
        ∙ constant_test name n i.entry (ap (slice_get p.own.constants) (sym e) ∙ i.there) (is_name text i.entry i.alike))
        (ap (λ b. list_all (λ u. nat_lt u (length p.own.upvalues)) (b ∷ [])) (b_of-abc GetTabUp t u n false tf uf) ∙ upvalue_test u h);
    still = λ pc. refl;
  }

  get_name : (t x n : ℕ) (text : List ℕ) → t < 2 ^ 8 → x < 2 ^ 8 → n < 2 ^ 8 → n ≡ number_in p.own.constants (StrConst text) → IsIn p.own.constants (StrConst text) → Plain p closed closed (abc GetField t x n false)
  get_name t x n text tf xf nf e i = record {
    single = lone p GetField (alone_get_field p) (abc GetField t x n false) (opcode_of-abc GetField t x n false) (abc_fits GetField t x n false tf xf nf)
        (λ extra. ap (λ c. list_all (is_used p) ((name, c) ∷ [])) (c_of-abc GetField t x n false tf xf nf)
        ∙ constant_test name n i.entry (ap (slice_get p.own.constants) e ∙ i.there) (is_name text i.entry i.alike)) refl;
    still = λ pc. refl;
  }

  load_constant : (t n : ℕ) (entry : Const) → t < 2 ^ 8 → n < 2 ^ 17 → slice_get p.own.constants n ≡ Some entry → Plain p closed closed (abx LoadK t n)
  load_constant t n entry tf nf is = record {
    single = lone p LoadK (alone_load_k p) (abx LoadK t n) (opcode_of-abx LoadK t n) (abx_fits LoadK t n tf nf)
        (λ extra. ap (λ c. list_all (is_used p) ((anything, c) ∷ [])) (bx_of-abx LoadK t n tf nf)
        ∙ constant_test anything n entry is refl) refl;
    still = λ pc. refl;
  }

  extra_is : (n : ℕ) → n < 2 ^ 25 → extra_of p (op_ax ExtraArg n) ≡ Some n
  unfolding Rattle.code_core.specs.Opcode.number_of
  extra_is n nf = ap (λ o. cond (there (is_same ExtraArg) o) (Some (ax_of (op_ax ExtraArg n))) None) (opcode_of-ax ExtraArg n) ∙ ap Some (ax_of-ax ExtraArg n nf)

  load_far : (t n : ℕ) (entry : Const) → t < 2 ^ 8 → n < 2 ^ 25 → slice_get p.own.constants n ≡ Some entry → StillCouple p closed (abx LoadKx t 0) (op_ax ExtraArg n)
  load_far t n entry tf nf is = record {
    couple = joined p closed LoadKx ExtraArg (joined_load_kx p) (last_extra p) (abx LoadKx t 0) (op_ax ExtraArg n) (opcode_of-abx LoadKx t 0) (abx_fits LoadKx t 0 tf (lit< tt))
        (ap (λ x. list_all (is_used p) (Rattle.code_core.specs.Fields.constants LoadKx (abx LoadKx t 0) x)) (extra_is n nf) ∙ constant_test anything n entry is refl)
        refl refl (opcode_of-ax ExtraArg n) (ax_fits ExtraArg n nf) refl;
    still = λ pc. refl;
  }

  -- a value that is a constant of its store is in the table
  abbrev pub ValueThere : (flag : Bool) → (v : ℕ) → Type 0
  ValueThere true v = (entry : Const) × (slice_get p.own.constants v ≡ Some entry)
  ValueThere false v = Unit {0}

  value_used : (flag : Bool) (v : ℕ) → ValueThere flag v → list_all (is_used p) (if flag then (anything, v) ∷ [] else []) ≡ true
  value_used true v value = constant_test anything v value.0 value.1 refl
  value_used false v value = refl

  both_used : (flag : Bool) (n v : ℕ) (entry : Const) → slice_get p.own.constants n ≡ Some entry → constant_is name entry ≡ true → ValueThere flag v
      → list_all (is_used p) ((name, n) ∷ (if flag then (anything, v) ∷ [] else [])) ≡ true
  both_used flag n v entry is h value = ap₂ (λ a b. a && b) (ap (there (constant_is name)) is ∙ h) (value_used flag v value)

  set_index : (flag : Bool) (r n v : ℕ) → r < 2 ^ 8 → n < 2 ^ 8 → v < 2 ^ 8 → ValueThere flag v → Plain p closed closed (abc SetI r n v flag)
  set_index flag r n v rf nf vf value = record {
    single = lone p SetI (alone_set_i p) (abc SetI r n v flag) (opcode_of-abc SetI r n v flag) (abc_fits SetI r n v flag rf nf vf)
        (λ extra. ap₂ (λ b c. list_all (is_used p) (if b then (anything, c) ∷ [] else [])) (k_of-abc SetI r n v flag rf) (c_of-abc SetI r n v flag rf nf vf) ∙ value_used flag v value) refl;
    still = λ pc. refl;
  }

  set_name : (flag : Bool) (r n v : ℕ) (text : List ℕ) → r < 2 ^ 8 → n < 2 ^ 8 → v < 2 ^ 8 → ValueThere flag v → n ≡ number_in p.own.constants (StrConst text) → IsIn p.own.constants (StrConst text) → Plain p closed closed (abc SetField r n v flag)
  set_name flag r n v text rf nf vf value e i = record {
    single = lone p SetField (alone_set_field p) (abc SetField r n v flag) (opcode_of-abc SetField r n v flag) (abc_fits SetField r n v flag rf nf vf)
        (λ extra. ap₂ (λ b k. list_all (is_used p) ((name, b) ∷ (if k then (anything, c_of (abc SetField r n v flag)) ∷ [] else []))) (b_of-abc SetField r n v flag rf nf) (k_of-abc SetField r n v flag rf)
        ∙ ap (λ c. list_all (is_used p) ((name, n) ∷ (if flag then (anything, c) ∷ [] else []))) (c_of-abc SetField r n v flag rf nf vf)
        ∙ both_used flag n v i.entry (ap (slice_get p.own.constants) e ∙ i.there) (is_name text i.entry i.alike) value) refl;
    still = λ pc. refl;
  }

  set_global : (flag : Bool) (u n v : ℕ) (text : List ℕ) → u < 2 ^ 8 → n < 2 ^ 8 → v < 2 ^ 8 → ValueThere flag v → u < length p.own.upvalues → n ≡ number_in p.own.constants (StrConst text) → IsIn p.own.constants (StrConst text)
      → Plain p closed closed (abc SetTabUp u n v flag)
  set_global flag u n v text uf nf vf value h e i = record {
    single = lone p SetTabUp (alone_set_tab_up p) (abc SetTabUp u n v flag) (opcode_of-abc SetTabUp u n v flag) (abc_fits SetTabUp u n v flag uf nf vf)
        (λ extra. ap₂ (λ b k. list_all (is_used p) ((name, b) ∷ (if k then (anything, c_of (abc SetTabUp u n v flag)) ∷ [] else []))) (b_of-abc SetTabUp u n v flag uf nf) (k_of-abc SetTabUp u n v flag uf)
        ∙ ap (λ c. list_all (is_used p) ((name, n) ∷ (if flag then (anything, c) ∷ [] else []))) (c_of-abc SetTabUp u n v flag uf nf vf)
        ∙ both_used flag n v i.entry (ap (slice_get p.own.constants) e ∙ i.there) (is_name text i.entry i.alike) value)
        (ap (λ a. list_all (λ u. nat_lt u (length p.own.upvalues)) (a ∷ [])) (a_of-abc SetTabUp u n v flag uf) ∙ upvalue_test u h);
    still = λ pc. refl;
  }

  set_table : (flag : Bool) (r k v : ℕ) → r < 2 ^ 8 → k < 2 ^ 8 → v < 2 ^ 8 → ValueThere flag v → Plain p closed closed (abc SetTable r k v flag)
  set_table flag r k v rf kf vf value = record {
    single = lone p SetTable (alone_set_table p) (abc SetTable r k v flag) (opcode_of-abc SetTable r k v flag) (abc_fits SetTable r k v flag rf kf vf)
        (λ extra. ap₂ (λ b c. list_all (is_used p) (if b then (anything, c) ∷ [] else [])) (k_of-abc SetTable r k v flag rf) (c_of-abc SetTable r k v flag rf kf vf) ∙ value_used flag v value) refl;
    still = λ pc. refl;
  }

  self : (r o k : ℕ) → r < 2 ^ 8 → o < 2 ^ 8 → k < 2 ^ 8 → Plain p closed closed (abc OpSelf r o k false)
  self r o k rf of kf = record {
    single = lone p OpSelf (alone_self p) (abc OpSelf r o k false) (opcode_of-abc OpSelf r o k false) (abc_fits OpSelf r o k false rf of kf)
        (λ extra. ap (λ b. list_all (is_used p) (if b then (name, c_of (abc OpSelf r o k false)) ∷ [] else [])) (k_of-abc OpSelf r o k false rf)) refl;
    still = λ pc. refl;
  }

  self_key : (r o n : ℕ) (text : List ℕ) → r < 2 ^ 8 → o < 2 ^ 8 → n < 2 ^ 8 → number_in p.own.constants (StrConst text) ≡ n → IsIn p.own.constants (StrConst text) → Plain p closed closed (abc OpSelf r o n true)
  self_key r o n text rf of nf e i = record {
    single = lone p OpSelf (alone_self p) (abc OpSelf r o n true) (opcode_of-abc OpSelf r o n true) (abc_fits OpSelf r o n true rf of nf)
        (λ extra. ap (λ b. list_all (is_used p) (if b then (name, c_of (abc OpSelf r o n true)) ∷ [] else [])) (k_of-abc OpSelf r o n true rf)
        ∙ ap (λ c. list_all (is_used p) ((name, c) ∷ [])) (c_of-abc OpSelf r o n true rf of nf)
        ∙ constant_test name n i.entry (ap (slice_get p.own.constants) (sym e) ∙ i.there) (is_name text i.entry i.alike)) refl;
    still = λ pc. refl;
  }

  -- pieces

  pub set_table_piece : {H : Type 0} {pc : ℕ} (flag : Bool) (r k v line : ℕ) → r < 2 ^ 8 → k < 2 ^ 8 → v < 2 ^ 8 → ValueThere flag v → Piece p H closed closed pc ((abc SetTable r k v flag, line) ∷ [])
  set_table_piece {H} {pc} flag r k v line rf kf vf value = one p closed closed (abc SetTable r k v flag) line (set_table flag r k v rf kf vf value)

  pub set_index_piece : {H : Type 0} {pc : ℕ} (flag : Bool) (r n v line : ℕ) → r < 2 ^ 8 → n < 2 ^ 8 → v < 2 ^ 8 → ValueThere flag v → Piece p H closed closed pc ((abc SetI r n v flag, line) ∷ [])
  set_index_piece {H} {pc} flag r n v line rf nf vf value = one p closed closed (abc SetI r n v flag) line (set_index flag r n v rf nf vf value)

  pub set_name_piece : {H : Type 0} {pc : ℕ} (flag : Bool) (r n v line : ℕ) (text : List ℕ) → r < 2 ^ 8 → n < 2 ^ 8 → v < 2 ^ 8 → ValueThere flag v → n ≡ number_in p.own.constants (StrConst text) → IsIn p.own.constants (StrConst text)
      → Piece p H closed closed pc ((abc SetField r n v flag, line) ∷ [])
  set_name_piece {H} {pc} flag r n v line text rf nf vf value e i = one p closed closed (abc SetField r n v flag) line (set_name flag r n v text rf nf vf value e i)

  pub set_global_piece : {H : Type 0} {pc : ℕ} (flag : Bool) (u n v line : ℕ) (text : List ℕ) → u < 2 ^ 8 → n < 2 ^ 8 → v < 2 ^ 8 → ValueThere flag v → u < length p.own.upvalues → n ≡ number_in p.own.constants (StrConst text) → IsIn p.own.constants (StrConst text)
      → Piece p H closed closed pc ((abc SetTabUp u n v flag, line) ∷ [])
  set_global_piece {H} {pc} flag u n v line text uf nf vf value h e i = one p closed closed (abc SetTabUp u n v flag) line (set_global flag u n v text uf nf vf value h e i)

  pub get_name_piece : {H : Type 0} {pc : ℕ} (t x n line : ℕ) (text : List ℕ) → t < 2 ^ 8 → x < 2 ^ 8 → n < 2 ^ 8 → n ≡ number_in p.own.constants (StrConst text) → IsIn p.own.constants (StrConst text)
      → Piece p H closed closed pc (with_abc GetField t x n line ∷ [])
  get_name_piece {H} {pc} t x n line text tf xf nf e i = one p closed closed (abc GetField t x n false) line (get_name t x n text tf xf nf e i)

  self_piece : {H : Type 0} {pc : ℕ} (r o k line : ℕ) → r < 2 ^ 8 → o < 2 ^ 8 → k < 2 ^ 8 → Piece p H closed closed pc (with_abc OpSelf r o k line ∷ [])
  self_piece {H} {pc} r o k line rf of kf = one p closed closed (abc OpSelf r o k false) line (self r o k rf of kf)

  pub set_upvalue_piece : {H : Type 0} {pc : ℕ} (v u line : ℕ) → v < 2 ^ 8 → u < 2 ^ 8 → u < length p.own.upvalues → Piece p H closed closed pc (with_abc SetUpval v u 0 line ∷ [])
  set_upvalue_piece {H} {pc} v u line vf uf h = one p closed closed (abc SetUpval v u 0 false) line (set_upvalue v u vf uf h)

  module _ (W : Whole p) where
    pub loads_piece : {H : Type 0} {pc : ℕ} (x : Const) (t line : ℕ) → t < 2 ^ 8 → IsIn p.own.constants x → Piece p H closed closed pc (loads p.own.constants x t line)
    loads_piece {H} {pc} x t line tf i = by (nat_lt (number_in p.own.constants x) 131072) refl
      where
        n : ℕ
        n = number_in p.own.constants x

        by : (b : Bool) → nat_lt (number_in p.own.constants x) 131072 ≡ b
            → Piece p H closed closed pc (cond b (with_abx LoadK t (number_in p.own.constants x) line ∷ []) (with_abx LoadKx t 0 line ∷ (op_ax ExtraArg (number_in p.own.constants x), line) ∷ []))
        by true e = let f : n < 2 ^ 17 = ltb-true n 131072 e in one p closed closed (abx LoadK t n) line (load_constant t n i.entry tf f i.there)
        by false e = let below = i.below in let most = W.constants in two p closed (abx LoadKx t 0) (op_ax ExtraArg n) line line (load_far t n i.entry tf (omega (arith, below, most)) i.there)

    pub integer_piece : {H : Type 0} {pc : ℕ} (z : ℤ) (t line : ℕ) → t < 2 ^ 8 → (is_small z ≡ false → IsIn p.own.constants (IntConst z)) → Piece p H closed closed pc (loads_integer p.own.constants z t line)
    integer_piece {H} {pc} z t line tf i = by (is_small z) refl
      where
        by : (b : Bool) → is_small z ≡ b → Piece p H closed closed pc (cond b (with_abx LoadI t (small_field z) line ∷ []) (loads p.own.constants (IntConst z) t line))
        by true e = simple_wide p LoadI (simple_load_i p) t (small_field z) line tf (field_fits z e)
        by false e = loads_piece (IntConst z) t line tf (i e)

    pub upvalue_piece : {H : Type 0} {pc : ℕ} (t u line : ℕ) → t < 2 ^ 8 → u < length p.own.upvalues → Piece p H closed closed pc (with_abc GetUpval t u 0 line ∷ [])
    upvalue_piece {H} {pc} t u line tf h = let most = W.upvalues in one p closed closed (abc GetUpval t u 0 false) line (get_upvalue t u tf (omega (arith, h, most)) h)

    -- a method by its name, whose object stands in register x
    pub method_piece : {H : Type 0} {pc : ℕ} (x t line : ℕ) (text : List ℕ) → x < 2 ^ 8 → IsRegister t → IsIn p.own.constants (StrConst text) → Piece p H closed closed pc (self_code p.own.constants text x t line)
    method_piece {H} {pc} x t line text xf r i = by (nat_lt (number_in p.own.constants (StrConst text)) 256) refl
      where
        n : ℕ
        n = number_in p.own.constants (StrConst text)

        by : (b : Bool) → nat_lt (number_in p.own.constants (StrConst text)) 256 ≡ b
            → Piece p H closed closed pc (cond b ((abc OpSelf t x (number_in p.own.constants (StrConst text)) true, line) ∷ [])
            (loads p.own.constants (StrConst text) (t + 2) line ++ with_abc OpSelf t x (t + 2) line ∷ []))
        by true e = one p closed closed (abc OpSelf t x n true) line (self_key t x n text (omega (arith, r)) xf (ltb-true n 256 e) refl i)
        by false e = both p (loads_piece (StrConst text) (t + 2) line r i) (self_piece t x (t + 2) line (omega (arith, r)) xf r)

    global_piece : {H : Type 0} {pc : ℕ} (u r t line : ℕ) (text : List ℕ) → r < 2 ^ 8 → IsRegister t → u < length p.own.upvalues → IsIn p.own.constants (StrConst text)
        → Piece p H closed closed pc (global_code (number_in p.own.constants (StrConst text)) u (loads p.own.constants (StrConst text) (t + 1) line) r t line)
    global_piece {H} {pc} u r t line text rf room h i = by (nat_lt (number_in p.own.constants (StrConst text)) 256) refl
      where
        n : ℕ
        n = number_in p.own.constants (StrConst text)

        by : (b : Bool) → nat_lt (number_in p.own.constants (StrConst text)) 256 ≡ b
            → Piece p H closed closed pc (cond b (with_abc GetTabUp r u (number_in p.own.constants (StrConst text)) line ∷ [])
            (with_abc GetUpval t u 0 line ∷ (loads p.own.constants (StrConst text) (t + 1) line ++ with_abc GetTable r t (t + 1) line ∷ [])))
        by true e = let most = W.upvalues in let f : n < 2 ^ 8 = ltb-true n 256 e in one p closed closed (abc GetTabUp r u n false) line (get_global r u n text rf (omega (arith, h, most)) f h refl i)
        by false e = both p (upvalue_piece t u line (omega (arith, room)) h) (both p (loads_piece (StrConst text) (t + 1) line (omega (arith, room)) i) (simple p GetTable (simple_get_table p) r t (t + 1) line rf (omega (arith, room)) (omega (arith, room))))

    local_global_piece : {H : Type 0} {pc : ℕ} (m r t line : ℕ) (text : List ℕ) → r < 2 ^ 8 → IsRegister t → m < 2 ^ 8 → IsIn p.own.constants (StrConst text)
        → Piece p H closed closed pc (local_global_code (number_in p.own.constants (StrConst text)) m (loads p.own.constants (StrConst text) t line) r t line)
    local_global_piece {H} {pc} m r t line text rf room mf i = by (nat_lt (number_in p.own.constants (StrConst text)) 256) refl
      where
        n : ℕ
        n = number_in p.own.constants (StrConst text)

        by : (b : Bool) → nat_lt (number_in p.own.constants (StrConst text)) 256 ≡ b
            → Piece p H closed closed pc (cond b (with_abc GetField r m (number_in p.own.constants (StrConst text)) line ∷ []) (loads p.own.constants (StrConst text) t line ++ with_abc GetTable r m t line ∷ []))
        by true e = get_name_piece r m n line text rf mf (ltb-true n 256 e) refl i
        by false e = both p (loads_piece (StrConst text) t line (omega (arith, room)) i) (simple p GetTable (simple_get_table p) r m t line rf mf (omega (arith, room)))

    -- the value goes to register r
    pub named_piece : {H : Type 0} {pc : ℕ} (place : Place) (text : List ℕ) (r t line : ℕ) (cs : List Const) → r < 2 ^ 8 → IsRegister t → NameIsNear (length p.own.upvalues) place → Grows (of_name place text cs) p.own.constants
        → Piece p H closed closed pc (name_into p.own.constants place text r t line)
    named_piece Unset text r t line cs rf room h g = simple p LoadNil (simple_load_nil p) r 0 0 line rf (lit< tt) (lit< tt)
    named_piece (LocalPlace n) text r t line cs rf room h g = simple p Move (simple_move p) r n 0 line rf h (lit< tt)
    named_piece (Upvalue u) text r t line cs rf room h g = upvalue_piece r u line rf h
    named_piece (GlobalIn n) text r t line cs rf room h g = local_global_piece n r t line text rf room h (is_in (StrConst text) (same_text text) cs p.own.constants g)
    named_piece (GlobalOf u) text r t line cs rf room h g = global_piece u r t line text rf room h (is_in (StrConst text) (same_text text) cs p.own.constants g)

    pub name_piece : {H : Type 0} {pc : ℕ} (place : Place) (text : List ℕ) (t line : ℕ) (cs : List Const) → IsRegister t → NameIsNear (length p.own.upvalues) place → Grows (of_name place text cs) p.own.constants
        → Piece p H closed closed pc (name_code p.own.constants place text t line)
    name_piece place text t line cs room h g = named_piece place text t t line cs (omega (arith, room)) room h g

    -- a closure of the function of number j, in a register above what it captures

    up_there : (b : Bool) (index size stack upvalues : ℕ) → index < cond b size upvalues → size ≤ stack → cond b (nat_lt index stack) (nat_lt index upvalues) ≡ true
    up_there true index size stack upvalues h le = lt-ltb index stack (omega (arith, h, le))
    up_there false index size stack upvalues h le = lt-ltb index upvalues h

    ups_there : (us : List UpName) (size : ℕ) → AreCaptured us size (length p.own.upvalues) → size ≤ p.own.stack → list_all (upvalue_there p) (map upvalue us) ≡ true
    ups_there [] size h le = refl
    ups_there (u ∷ us) size h le = ap₂ (λ a b. a && b) (up_there u.in_stack u.index size p.own.stack (length p.own.upvalues) h.0 le) (ups_there us size h.1 le)

    register_below : (r stack : ℕ) → list_all (λ r. nat_lt r stack) (r ∷ []) ≡ true → r < stack
    register_below r stack h = by (nat_lt r stack) refl h
      where
        by : (b : Bool) → nat_lt r stack ≡ b → (b && true) ≡ true → r < stack
        by true e h = ltb-true r stack e
        by false e h = absurd (cc)

    closure : (t j size : ℕ) (us : List UpName) (own : Parts) (inner rest : Prototypes) → t < 2 ^ 8 → own.upvalues ≡ map upvalue us → AreCaptured us size (length p.own.upvalues) → size ≤ t + 1
        → Functions p j (more own inner rest) → Plain p closed closed (abx Closure t j)
    closure t j size us own inner rest tf same captured le fs =
        let below = below_rest (list_of p.inner) j (record { own = own; inner = inner }) (list_of rest) fs in
        let most = W.functions in
        let jf : j < 2 ^ 17 = omega (arith, below, most) in
        let here = first_of_rest (list_of p.inner) j (record { own = own; inner = inner }) (list_of rest) fs in
        record {
          single = record {
            opcode = Closure;
            is = opcode_of-abx Closure t j;
            whole = refl;
            fits = abx_fits Closure t j tf jf;
            alone = refl;
            constant = λ extra. refl;
            upvalue = refl;
            inner = λ pc at_place.
                let room : t < p.own.stack = register_below t p.own.stack (ap (λ a. list_all (λ r. nat_lt r p.own.stack) (a ∷ [])) (sym (a_of-abx Closure t j tf)) ∙ W.roomy pc (abx Closure t j) Closure at_place (opcode_of-abx Closure t j)) in
                ap (λ n. there (λ inner. list_all (upvalue_there p) inner.own.upvalues) (slice_get (list_of p.inner) n)) (bx_of-abx Closure t j tf jf)
                ∙ ap (there (λ inner. list_all (upvalue_there p) inner.own.upvalues)) here
                ∙ ap (list_all (upvalue_there p)) same
                ∙ ups_there us size captured (omega (arith, room, le));
            half = refl;
            gives = refl;
            takes = refl;
            varargs = λ pc h. h;
          };
          still = λ pc. refl;
        }

    pub closure_piece : {H : Type 0} {pc : ℕ} (t j line size : ℕ) (us : List UpName) (own : Parts) (inner rest : Prototypes) → t < 2 ^ 8 → own.upvalues ≡ map upvalue us → AreCaptured us size (length p.own.upvalues) → size ≤ t + 1
        → Functions p j (more own inner rest) → Piece p H closed closed pc (with_abx Closure t j line ∷ [])
    closure_piece {H} {pc} t j line size us own inner rest tf same captured le fs = one p closed closed (abx Closure t j) line (closure t j size us own inner rest tf same captured le fs)
