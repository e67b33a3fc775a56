-- The code of each form of expression is a piece, where the code of its parts is.
use Rattle.std.specs.Prelude.{◌%◌}
use Rattle.std.proofs.Common.{◌≡◌, ℕ, ◌+◌, ◌<◌, ◌≤◌, ◌^◌, lit<, Bool, true, false, cond, List, [], ◌∷◌, ◌++◌, length, Option, Some, None, refl, sym, ap, subst, ◌∙◌, arith, length-append}
use Rattle.tree_core.specs.declared.name.Name.{Name}
use Rattle.tree_core.specs.declared.name.Place.{Place}
use Rattle.tree_core.specs.declared.name.Place.TheVariants.{Local as LocalPlace}
use Rattle.tree_core.specs.Tree.{Body, BodyOf, Exp, Str, Function, Var, Index, Call, Method, Unary, Binary, Paren, Exps, EndExps, MoreExps, Fields, EndFields, MoreFields, Item, Keyed}
use Rattle.tree_core.specs.declared.operator.UnOp.{UnOp}
use Rattle.tree_core.specs.declared.operator.BinOp.{BinOp}
use Rattle.code_core.specs.declared.opcode.Opcode.TheVariants.{GetTable, GetI, GetField}
use Rattle.code_core.specs.declared.proto.Const.{Const}
use Rattle.code_core.specs.declared.proto.Const.TheVariants.{Str as StrConst}
use Rattle.code_core.specs.Prototype.{Prototype, Prototypes}
use Rattle.code_of.specs.Coded.{Coded, with_abc}
use Rattle.code_of.specs.Constants.{with_constant, with_any, of_exp, of_exps, of_fields}
use Rattle.code_of.specs.Expressions.{made_by, count, is_open, ends_open, list_field, one_less, nils_code, set_list, waiting_code, item_code, exp_code, exps_code, fields_code, is_last_item}
use Rattle.code_of.specs.Items.{waits, is_full, item_register, stored_behind, waiting_behind}
use Rattle.code_of.proofs.Lengths.{exp_some}
use Rattle.code_of.specs.Parts.{direct_code}
use Rattle.code_of.specs.CodeOf.{parts_of, from_exp, from_exps, from_fields, from_body}
use Rattle.code_of.specs.Operands.{local_at, local_of, Second, a_number, a_local, made, second_of, key_operand, first_of, seat, unless, operands_code}
use Rattle.code_of.specs.Stores.{name_in, is_quiet, field_key, keyed_store}
use Rattle.code_of.specs.StoredValues.{stored_value}
use Rattle.code_of.specs.FieldReads.{read_code}
use Rattle.code_of.proofs.Stores.{IsName, name_is}
use Rattle.code_of.specs.Operators.{operator_code, number_code}
use Rattle.code_of.specs.ConstantOperands.{constant_of}
use Rattle.code_of.specs.Operations.{constant_in, constant_code, operation_code}
use Rattle.code_of.proofs.Operations.{IsOperand, constant_is, operand_form}
use Rattle.code_of.proofs.Operands.{some_is, Stands, second_number, operator_stands, key_stands, first_local}
use Rattle.code_checked.specs.Near.{IsRegister, NameIsNear, ExpIsNear, ExpsAreNear, FieldsAreNear}
use Rattle.code_checked.proofs.Pieces.{closed, listed, Piece, both, nothing}
use Rattle.code_checked.proofs.Words.{simple, simple_get_table, simple_get_i}
use Rattle.code_checked.proofs.Found.{Grows, grows_none, grows_then, grows_with, grows_any, is_in}
use Rattle.code_of.proofs.Constants.{same_text}
use Rattle.code_checked.proofs.Loads.{Whole, Functions, closure_piece, method_piece, get_name_piece}
use Rattle.code_checked.proofs.Seams.{alike}
use Rattle.code_checked.proofs.Calls.{call_piece}
use Rattle.code_checked.proofs.Operators.{prefix_piece, operator_piece, number_piece}
use Rattle.code_checked.proofs.ConstantOperators.{constant_piece}
use Rattle.code_checked.proofs.Lists.{list_at, mark_of, open_mark, gives_at, same_either, list_at_some, takes_list_field, field_below, HaveRoom, room_next, room_field, nils_piece}
use Rattle.code_checked.proofs.Growing.{grows_exp, grows_exps, after_exp}

pub append_nil : (xs : List Coded) → xs ++ [] ≡ xs
append_nil [] = refl
append_nil (x ∷ xs) = ap (λ l. x ∷ l) (append_nil xs)

-- the part of a table that the last of two trees makes
pub exp_register : (source : Option (List ℕ)) (p : Prototype) (e : Exp) (size t : ℕ) → ExpIsNear source p e size t → IsRegister t
exp_register source p (Call line f es) size t h = let r = h.0 in omega (arith, r)
exp_register source p (Method line o name es) size t h = let r = h.0 in omega (arith, r)
exp_register source p _ size t h = h.0

-- a local's register has 8 bits

place_near : (ups : ℕ) (q : Place) (r : ℕ) → local_at q ≡ Some r → NameIsNear ups q → r < 2 ^ 8
place_near ups (LocalPlace n) r e h = let same = some_is n r e in omega (arith, same, h)
place_near ups _ r e h = absurd (cc)

pub local_near : (source : Option (List ℕ)) (p : Prototype) (e : Exp) (size t r : ℕ) → local_of e ≡ Some r → ExpIsNear source p e size t → r < 2 ^ 8
local_near source p (Var line name) size t r e h = place_near (length p.own.upvalues) name.place r e h.1
local_near source p (Paren line inner) size t r e h = local_near source p inner size t r e h.1
local_near source p _ size t r e h = absurd (cc)

-- the register in which an operand stands that is alone
pub seat_near : (source : Option (List ℕ)) (p : Prototype) (e : Exp) (size t : ℕ) → t < 2 ^ 8 → ExpIsNear source p e size t → seat (local_of e) t < 2 ^ 8
seat_near source p e size t fits near = by (local_of e) refl
  where
    by : (at : Option ℕ) → local_of e ≡ at → seat at t < 2 ^ 8
    by None is = fits
    by (Some x) is = local_near source p e size t x is near

-- the items of a constructor that are stored by their number
abbrev pub positional : Fields → ℕ
positional EndFields = 0
positional (MoreFields (Item e) fs) = 1 + positional fs
positional (MoreFields (Keyed line e d) fs) = positional fs

-- an item has an instruction at least
item_some : (cs : List Const) (wait full : Bool) (e : Exp) (stored waiting b t r j c line : ℕ) → 1 ≤ length (item_code wait full (exp_code cs e r j c) stored waiting b t line)
item_some cs true false e stored waiting b t r j c line = exp_some cs e r j c
item_some cs true true e stored waiting b t r j c line = omega (arith, exp_some cs e r j c, length-append (exp_code cs e r j c) (set_list t (waiting + 1) stored line))
item_some cs false full e stored waiting b t r j c line =
    let code = exp_code cs e r j c in
    let store = set_list t b (stored + waiting) line in
    omega (arith, exp_some cs e r j c, length-append (waiting_code stored waiting t line) (code ++ store), length-append code store)

pub positional_below : (cs : List Const) (fs : Fields) (stored waiting t j line : ℕ) → positional fs ≤ length (fields_code cs fs stored waiting t j line)
positional_below cs EndFields stored waiting t j line = omega arith
positional_below cs (MoreFields (Item e) fs) stored waiting t j line =
    let full = is_full (stored + waiting + 1) in
    let field : ℕ = cond (is_last_item e fs) 0 2 in
    let b : ℕ = cond (is_last_item e fs) 0 1 in
    let r = item_register (waits e) t waiting in
    omega (
      arith,
      item_some cs (waits e) full e stored waiting b t r j field line,
      positional_below cs fs (stored_behind (waits e) full stored waiting) (waiting_behind (waits e) full waiting) t (j + made_by e) line,
      length-append (item_code (waits e) full (exp_code cs e r j field) stored waiting b t line) (fields_code cs fs (stored_behind (waits e) full stored waiting) (waiting_behind (waits e) full waiting) t (j + made_by e) line),
    )
positional_below cs (MoreFields (Keyed at_line e d) fs) stored waiting t j line =
    let store = keyed_store (field_key cs (is_quiet d) e) (stored_value cs d) (exp_code cs e (t + 1) j 2) (exp_code cs d (t + 2) (j + made_by e) 2) t at_line in
    let rest = fields_code cs fs (stored + waiting) 0 t (j + made_by e + made_by d) line in
    let a = length-append store rest in
    let b = length-append (waiting_code stored waiting t line) (store ++ rest) in
    let c = positional_below cs fs (stored + waiting) 0 t (j + made_by e + made_by d) line in
    omega (arith, a, b, c)

module _ (p : Prototype) (W : Whole p) (source : Option (List ℕ)) (H : Type 0) where
  abbrev pub C : List Const
  C = p.own.constants

  abbrev pub ExpLaw : Exp → Type 0
  ExpLaw e =
      (t j c pc size : ℕ) (cs : List Const) (rest : Prototypes) → ExpIsNear source p e size t → size ≤ t → c < 2 ^ 8 → Grows (of_exp e cs) p.own.constants → Functions p j (from_exp source e rest)
      → Piece p H closed (mark_of e c t) pc (exp_code p.own.constants e t j c)

  -- of which one value is wanted
  abbrev pub OneLaw : Exp → Type 0
  OneLaw e =
      (t j pc size : ℕ) (cs : List Const) (rest : Prototypes) → ExpIsNear source p e size t → size ≤ t → Grows (of_exp e cs) p.own.constants → Functions p j (from_exp source e rest)
      → Piece p H closed closed pc (exp_code p.own.constants e t j 2)

  -- of which all values are
  abbrev pub ListLaw : Exps → Type 0
  ListLaw es =
      (t j line pc size : ℕ) (cs : List Const) (rest : Prototypes) → ExpsAreNear source p es size t → size ≤ t → Grows (of_exps es cs) p.own.constants → Functions p j (from_exps source es rest)
      → Piece p H closed (open_mark es t) pc (exps_code p.own.constants es None t j line)

  -- of which n values are
  abbrev pub ExactLaw : Exps → Type 0
  ExactLaw es =
      (n t j line pc size : ℕ) (cs : List Const) (rest : Prototypes) → ExpsAreNear source p es size t → size ≤ t → HaveRoom n t → Grows (of_exps es cs) p.own.constants → Functions p j (from_exps source es rest)
      → Piece p H closed closed pc (exps_code p.own.constants es (Some n) t j line)

  -- the fields that are left, in front of which some items wait
  abbrev pub FieldsLaw : Fields → Type 0
  FieldsLaw fs =
      (stored waiting t j line pc size : ℕ) (cs : List Const) (rest : Prototypes) → waiting ≤ (stored + waiting) % 50 → (H → stored + waiting + positional fs < 2 ^ 33) → FieldsAreNear source p fs (stored + waiting) size t → size ≤ t → IsRegister (t + waiting)
      → Grows (of_fields fs cs) p.own.constants → Functions p j (from_fields source fs rest) → Piece p H closed closed pc (fields_code p.own.constants fs stored waiting t j line)

  pub one_of_any : (e : Exp) → ExpLaw e → OneLaw e
  one_of_any e law t j pc size cs rest near le g fs =
      subst (λ m. Piece p H closed m pc (exp_code p.own.constants e t j 2)) (same_either (is_open e) closed) (law t j 2 pc size cs rest near le (lit< tt) g fs)

  -- lists

  pub no_list : ListLaw EndExps
  no_list t j line pc size cs rest near le g fs = nothing p

  pub no_values : ExactLaw EndExps
  no_values n t j line pc size cs rest near le room g fs = nils_piece p n t line room

  pub last_list : (e : Exp) → ExpLaw e → ListLaw (MoreExps e EndExps)
  last_list e law t j line pc size cs rest near le g fs = by (is_open e) refl
    where
      by : (b : Bool) → is_open e ≡ b → Piece p H closed (cond b (listed t) closed) pc (exp_code p.own.constants e t j (cond b 0 2) ++ nils_code (cond b None None) (t + 1) line)
      by true opens =
          alike p (sym (append_nil (exp_code p.own.constants e t j 0)))
          (subst (λ b. Piece p H closed (cond b (listed t) closed) pc (exp_code p.own.constants e t j 0)) opens (law t j 0 pc size cs rest near.0 le (lit< tt) g fs))
      by false opens = alike p (sym (append_nil (exp_code p.own.constants e t j 2))) (one_of_any e law t j pc size cs rest near.0 le g fs)

  pub last_values : (e : Exp) → ExpLaw e → ExactLaw (MoreExps e EndExps)
  last_values e law n t j line pc size cs rest near le room g fs = by (is_open e) refl
    where
      by : (b : Bool) → is_open e ≡ b → Piece p H closed closed pc (exp_code p.own.constants e t j (cond b (n + 1) 2) ++ nils_code (cond b None (one_less (Some n))) (t + 1) line)
      by true opens =
          alike p (sym (append_nil (exp_code p.own.constants e t j (n + 1))))
          (subst (λ m. Piece p H closed m pc (exp_code p.own.constants e t j (n + 1))) (ap (λ m. cond (is_open e) m closed) (list_at_some n t) ∙ same_either (is_open e) closed)
          (law t j (n + 1) pc size cs rest near.0 le (room_field n t room) g fs))
      by false opens = both p (one_of_any e law t j pc size cs rest near.0 le g fs) (nils_piece p _ (t + 1) line (room_next n t room))

  pub more_list : (e d : Exp) (es : Exps) → ExpLaw e → ListLaw (MoreExps d es) → ListLaw (MoreExps e (MoreExps d es))
  more_list e d es law laws t j line pc size cs rest near le g fs =
      let first = of_exp e cs in
      both p (one_of_any e law t j pc size cs (from_exps source (MoreExps d es) rest) near.0 le (grows_then first (of_exps (MoreExps d es) first) p.own.constants (grows_exps (MoreExps d es) first) g) fs)
      (laws (t + 1) (j + made_by e) line (pc + length (exp_code p.own.constants e t j 2)) size first rest near.1 (omega (arith, le)) g (after_exp source p e j (from_exps source (MoreExps d es) rest) fs))

  pub more_values : (e d : Exp) (es : Exps) → ExpLaw e → ExactLaw (MoreExps d es) → ExactLaw (MoreExps e (MoreExps d es))
  more_values e d es law laws n t j line pc size cs rest near le room g fs =
      let first = of_exp e cs in
      both p (one_of_any e law t j pc size cs (from_exps source (MoreExps d es) rest) near.0 le (grows_then first (of_exps (MoreExps d es) first) p.own.constants (grows_exps (MoreExps d es) first) g) fs)
      (laws _ (t + 1) (j + made_by e) line (pc + length (exp_code p.own.constants e t j 2)) size first rest near.1 (omega (arith, le)) (room_next n t room) g (after_exp source p e j (from_exps source (MoreExps d es) rest) fs))

  -- forms

  pub function_form : (line : ℕ) (body : Body) → ExpLaw (Function line body)
  function_form line (BodyOf params vararg inner ups end) t j c pc size cs rest near le cf g fs =
      let r = near.0 in
      closure_piece p W t j end size ups (parts_of source (BodyOf params vararg inner ups end)) (from_body source (BodyOf params vararg inner ups end)) rest (omega (arith, r)) refl near.1.0 (omega (arith, le)) fs

  pub call_form : (line : ℕ) (f : Exp) (es : Exps) → OneLaw f → ListLaw es → ExpLaw (Call line f es)
  call_form line f es one_f list t j c pc size cs rest near le cf g fs =
      let r = near.0 in
      both p (one_f t j pc size cs (from_exps source es rest) near.1.0 le (grows_then (of_exp f cs) (of_exps es (of_exp f cs)) p.own.constants (grows_exps es (of_exp f cs)) g) fs)
      (both p (list (t + 1) (j + made_by f) line _ size (of_exp f cs) rest near.1.1 (omega (arith, le)) g (after_exp source p f j (from_exps source es rest) fs))
      (call_piece p (open_mark es (t + 1)) (list_at c t) t (list_field 0 es) c line (omega (arith, r)) (field_below (ends_open es) (0 + count es + 1) (omega (arith, r))) cf
      (takes_list_field es (0 + count es + 1) t (t + 1) (omega arith) (omega arith)) (gives_at c t)))

  -- an operand that is alone
  pub standing_piece : (e : Exp) → OneLaw e → (t j pc size : ℕ) (cs : List Const) (rest : Prototypes) → ExpIsNear source p e size t → size ≤ t → Grows (of_exp e cs) p.own.constants → Functions p j (from_exp source e rest)
      → Piece p H closed closed pc (unless (local_of e) (exp_code p.own.constants e t j 2))
  standing_piece e one_e t j pc size cs rest near le g fs = by (local_of e)
    where
      by : (at : Option ℕ) → Piece p H closed closed pc (unless at (exp_code p.own.constants e t j 2))
      by None = one_e t j pc size cs rest near le g fs
      by (Some x) = nothing p

  pub method_form : (line : ℕ) (o : Exp) (name : Name) (es : Exps) → OneLaw o → ListLaw es → ExpLaw (Method line o name es)
  method_form line o name es one_o list t j c pc size cs rest near le cf g fs =
      let r = near.0 in
      let made = of_exp o cs in
      let named = with_constant (StrConst name.text) made in
      let known = grows_then named (of_exps es named) p.own.constants (grows_exps es named) g in
      both p (standing_piece o one_o t j pc size cs (from_exps source es rest) near.1.0 le (grows_then made named p.own.constants (grows_with (StrConst name.text) made) known) fs)
      (both p (method_piece p W (seat (local_of o) t) t line name.text (seat_near source p o size t (omega (arith, r)) near.1.0) (omega (arith, r)) (is_in (StrConst name.text) (same_text name.text) made p.own.constants known))
      (both p (list (t + 2) (j + made_by o) line _ size named rest near.1.1 (omega (arith, le)) g (after_exp source p o j (from_exps source es rest) fs))
      (call_piece p (open_mark es (t + 2)) (list_at c t) t (list_field 1 es) c line (omega (arith, r)) (field_below (ends_open es) (1 + count es + 1) (omega (arith, r))) cf
      (takes_list_field es (1 + count es + 1) t (t + 2) (omega arith) (omega arith)) (gives_at c t))))

  pub unary_form : (line : ℕ) (op : UnOp) (e : Exp) → OneLaw e → ExpLaw (Unary line op e)
  unary_form line op e one_e t j c pc size cs rest near le cf g fs =
      let r = near.0 in
      both p (standing_piece e one_e t j pc size cs rest near.1 le g fs) (prefix_piece p op (seat (local_of e) t) t line (seat_near source p e size t (omega (arith, r)) near.1) (omega (arith, r)))

  -- two operands and what is done with them
  module _ (s : Second) (most : ℕ) (e d : Exp) (stands : Stands s d most) (by_registers by_number : (x y : ℕ) → List Coded) (one_e : OneLaw e) (one_d : OneLaw d) (t j pc size : ℕ) (cs : List Const) (rest : Prototypes)
      (r : IsRegister t) (near_e : ExpIsNear source p e size t) (near_d : ExpIsNear source p d size (t + 1)) (le : size ≤ t) (known : List Const) (grown : Grows (of_exp e cs) known) (g : Grows (of_exp d known) p.own.constants) (fs : Functions p j (from_exp source e (from_exp source d rest)))
      (registers_piece : (x y at : ℕ) → x < 2 ^ 8 → y < 2 ^ 8 → Piece p H closed closed at (by_registers x y)) (number_piece : (x n at : ℕ) → s ≡ a_number n → x < 2 ^ 8 → Piece p H closed closed at (by_number x n)) where
    abbrev first_code : List Coded
    first_code = exp_code C e t j 2

    abbrev code : List Coded
    code = exp_code C d (t + 1) (j + made_by e) 2

    first_piece : Piece p H closed closed pc first_code
    first_piece = one_e t j pc size cs (from_exp source d rest) near_e le (grows_then (of_exp e cs) known p.own.constants grown (grows_then known (of_exp d known) p.own.constants (grows_exp d known) g)) fs

    piece_by : (z : Second) (at : Option ℕ) → s ≡ z → first_of z e ≡ at → Piece p H closed closed pc (operands_code z at first_code code t by_registers by_number)
    piece_by made (Some x) is at_is = absurd (cc)
    piece_by made None is at_is =
        both p first_piece
        (both p (one_d (t + 1) (j + made_by e) (pc + length first_code) size known rest near_d (omega (arith, le)) g (after_exp source p e j (from_exp source d rest) fs))
        (registers_piece t (t + 1) _ (omega (arith, r)) (omega (arith, r))))
    piece_by (a_local q) None is at_is = both p first_piece (registers_piece t q _ (omega (arith, r)) (local_near source p d size (t + 1) q (stands.local q is) near_d))
    piece_by (a_local q) (Some x) is at_is = registers_piece x q _ (local_near source p e size t x (first_local (a_local q) e x at_is) near_e) (local_near source p d size (t + 1) q (stands.local q is) near_d)
    piece_by (a_number n) None is at_is = both p first_piece (number_piece t n _ is (omega (arith, r)))
    piece_by (a_number n) (Some x) is at_is = number_piece x n _ is (local_near source p e size t x (first_local (a_number n) e x at_is) near_e)

    operands_piece : Piece p H closed closed pc (operands_code s (first_of s e) first_code code t by_registers by_number)
    operands_piece = piece_by s (first_of s e) refl refl

  -- a value that goes to register r
  abbrev pub DirectLaw : Exp → Type 0
  DirectLaw e =
      (r t j pc size : ℕ) (cs : List Const) (rest : Prototypes) → r < 2 ^ 8 → ExpIsNear source p e size t → size ≤ t → Grows (of_exp e cs) p.own.constants → Functions p j (from_exp source e rest)
      → Piece p H closed closed pc (direct_code C e r t j)

  pub unary_direct : (line : ℕ) (op : UnOp) (e : Exp) → OneLaw e → DirectLaw (Unary line op e)
  unary_direct line op e one_e r t j pc size cs rest rf near le g fs =
      let room = near.0 in
      both p (standing_piece e one_e t j pc size cs rest near.1 le g fs) (prefix_piece p op (seat (local_of e) t) r line (seat_near source p e size t (omega (arith, room)) near.1) rf)

  pub index_direct : (line : ℕ) (o k : Exp) → OneLaw o → OneLaw k → DirectLaw (Index line o k)
  index_direct line o k one_o one_k r t j pc size cs rest rf near le g fs = by (name_in C k) refl
    where
      first_known : Grows (of_exp o cs) C
      first_known = grows_then (of_exp o cs) (of_exp k (of_exp o cs)) C (grows_exp k (of_exp o cs)) g

      by : (named : Option ℕ) → name_in C k ≡ named → Piece p H closed closed pc (read_code named o k (exp_code C o t j 2) (exp_code C k (t + 1) (j + made_by o) 2) r t line)
      by (Some number) is = named_piece (local_of o) refl
        where
          form : IsName C k number
          form = name_is C k number is

          known : Grows (of_exp (Str form.line form.bytes) (of_exp o cs)) C
          known = subst (λ q. Grows (of_exp q (of_exp o cs)) C) form.is g

          read_piece : {pc : ℕ} (x : ℕ) → x < 2 ^ 8 → Piece p H closed closed pc (with_abc GetField r x number line ∷ [])
          read_piece x xf = let short = form.short in get_name_piece p r x number line form.bytes rf xf (omega (arith, short)) form.same (is_in (StrConst form.bytes) (same_text form.bytes) (of_exp o cs) C known)

          named_piece : (at : Option ℕ) → local_of o ≡ at → Piece p H closed closed pc (unless at (exp_code C o t j 2) ++ with_abc GetField r (seat at t) number line ∷ [])
          named_piece None at_is = let register = near.0 in both p (one_o t j pc size cs (from_exp source k rest) near.1.0 le first_known fs) (read_piece t (omega (arith, register)))
          named_piece (Some x) at_is = read_piece x (local_near source p o size t x at_is near.1.0)
      by None is =
          operands_piece (key_operand k) 255 o k (key_stands k) (λ x y. with_abc GetTable r x y line ∷ []) (λ x n. with_abc GetI r x n line ∷ []) one_o one_k t j pc size cs rest near.0 near.1.0 near.1.1 le (of_exp o cs) (grows_none (of_exp o cs)) g fs
          (λ x y at xf yf. simple p GetTable (simple_get_table p) r x y line rf xf yf)
          (λ x n at is xf. let small = ((key_stands k).number n is).small in simple p GetI (simple_get_i p) r x n line rf xf (omega (arith, small)))

  pub binary_direct : (line : ℕ) (op : BinOp) (e d : Exp) → OneLaw e → OneLaw d → DirectLaw (Binary line op e d)
  binary_direct line op e d one_e one_d r t j pc size cs rest rf near le g fs = by (constant_in C op d) refl
    where
      known : List Const
      known = with_any (constant_of op d) (of_exp e cs)

      grown : Grows (of_exp e cs) known
      grown = grows_any (constant_of op d) (of_exp e cs)

      by : (o : Option ℕ) → constant_in C op d ≡ o → Piece p H closed closed pc (operation_code o op e d (exp_code C e t j 2) (exp_code C d (t + 1) (j + made_by e) 2) r t line)
      by (Some number) is = beside_constant (local_of e) refl
        where
          operand : IsOperand C op d number
          operand = constant_is C op d number is

          last_piece : {pc : ℕ} (x : ℕ) → x < 2 ^ 8 → Piece p H closed closed pc (constant_code op x number r line)
          last_piece x xf = let short = operand.short in constant_piece p op d operand.value x number r line (operand_form op d operand.value operand.is) operand.there xf (omega (arith, short)) rf

          beside_constant : (at : Option ℕ) → local_of e ≡ at → Piece p H closed closed pc (unless at (exp_code C e t j 2) ++ constant_code op (seat at t) number r line)
          beside_constant None at_is =
              let register = near.0 in
              both p (one_e t j pc size cs (from_exp source d rest) near.1.0 le (grows_then (of_exp e cs) known C grown (grows_then known (of_exp d known) C (grows_exp d known) g)) fs) (last_piece t (omega (arith, register)))
          beside_constant (Some x) at_is = last_piece x (local_near source p e size t x at_is near.1.0)
      by None is =
          operands_piece (second_of op d) 128 e d (operator_stands op d) (λ x y. operator_code op x y r line) (λ x n. number_code op x n r line) one_e one_d t j pc size cs rest near.0 near.1.0 near.1.1 le known grown g fs
          (λ x y at xf yf. operator_piece p op x y r line xf yf rf) (λ x n at is xf. number_piece p op d x n r line (second_number op d n is) xf rf)

  pub index_form : (line : ℕ) (o k : Exp) → OneLaw o → OneLaw k → ExpLaw (Index line o k)
  index_form line o k one_o one_k t j c pc size cs rest near le cf g fs =
      let r = near.0 in
      index_direct line o k one_o one_k t t j pc size cs rest (omega (arith, r)) near le g fs

  pub paren_form : (line : ℕ) (e : Exp) → OneLaw e → ExpLaw (Paren line e)
  paren_form line e one_e t j c pc size cs rest near le cf g fs =
      subst (λ m. Piece p H closed m pc (exp_code p.own.constants e t j 2)) refl (one_e t j pc size cs rest near.1 le g fs)
