-- The code of the items of a constructor is a piece: of those that wait, of the instruction that stores them, and of others.
use Rattle.std.proofs.Common.{◌≡◌, ℕ, zero, suc, ◌+◌, ◌%◌, ◌<◌, ◌≤◌, ◌^◌, lit<, Bool, true, false, cond, List, ◌++◌, Option, refl, sym, ap, subst, arith}
use Rattle.tree_core.specs.Tree.{Exp, Fields, EndFields, MoreFields, Item}
use Rattle.code_core.specs.declared.proto.Const.{Const}
use Rattle.code_core.specs.Prototype.{Prototype, Prototypes}
use Rattle.code_of.specs.Constants.{of_exp, of_fields}
use Rattle.code_of.specs.CodeOf.{from_exp, from_fields}
use Rattle.code_of.specs.Expressions.{made_by, is_last_item, set_list, waiting_code, item_code, exp_code, fields_code}
use Rattle.code_of.specs.Items.{waits, is_full, item_register, stored_behind, waiting_behind}
use Rattle.code_of.proofs.Items.{last_waits, last_opens, still_few}
use Rattle.code_checked.specs.Near.{IsRegister, ExpIsNear, FieldsAreNear}
use Rattle.code_checked.proofs.Pieces.{closed, listed, Piece, both, nothing}
use Rattle.code_checked.proofs.Found.{Grows, grows_then}
use Rattle.code_checked.proofs.Loads.{Whole, Functions}
use Rattle.code_checked.proofs.Calls.{list_piece}
use Rattle.code_checked.proofs.Growing.{grows_fields, after_exp}
use Rattle.code_checked.proofs.Lowering.{exp_lower}
use Rattle.code_checked.proofs.ExpForms.{ExpLaw, FieldsLaw, positional, exp_register, one_of_any}

module _ (p : Prototype) (W : Whole p) (source : Option (List ℕ)) (H : Type 0) where
  abbrev C : List Const
  C = p.own.constants

  -- what waits is stored
  pub waiting_piece : {pc : ℕ} (stored waiting t line : ℕ) → IsRegister (t + waiting) → (H → stored + waiting < 2 ^ 33) → Piece p H closed closed pc (waiting_code stored waiting t line)
  waiting_piece stored zero t line r few = nothing p
  waiting_piece stored (suc more) t line r few =
      list_piece p closed t (suc more) stored line (omega (arith, r)) (omega (arith, r)) (λ h. let all = few h in omega (arith, all)) (omega arith)

  pub no_fields : FieldsLaw p W source H EndFields
  no_fields stored waiting t j line pc size cs rest behind few near le r g fs = waiting_piece stored waiting t line r (λ h. let all = few h in omega (arith, all))

  -- an item that does not wait, and the instruction that stores it
  alone_piece : (e : Exp) (fields : Fields) → ExpLaw p W source H e → (items t j line pc size : ℕ) (cs : List Const) (rest : Prototypes) → (H → items < 2 ^ 33) → ExpIsNear source p e size (t + 1) → size ≤ t → t < 2 ^ 8
      → Grows (of_exp e cs) C → Functions p j (from_exp source e rest)
      → Piece p H closed closed pc (exp_code C e (t + 1) j (cond (is_last_item e fields) 0 2) ++ set_list t (cond (is_last_item e fields) 0 1) items line)
  alone_piece e fields law items t j line pc size cs rest few near le r g fs = by (is_last_item e fields) refl
    where
      by : (b : Bool) → is_last_item e fields ≡ b → Piece p H closed closed pc (exp_code C e (t + 1) j (cond b 0 2) ++ set_list t (cond b 0 1) items line)
      by true last =
          both p
          (subst (λ b. Piece p H closed (cond b (listed (t + 1)) closed) pc (exp_code C e (t + 1) j 0)) (last_opens e fields last) (law (t + 1) j 0 pc size cs rest near (omega (arith, le)) (lit< tt) g fs))
          (list_piece p (listed (t + 1)) t 0 items line r (lit< tt) few (refl, omega arith))
      by false last = both p (one_of_any p W source H e law (t + 1) j pc size cs rest near (omega (arith, le)) g fs) (list_piece p closed t 1 items line r (lit< tt) few (omega arith))

  item_by : (e : Exp) (fields : Fields) → ExpLaw p W source H e → FieldsLaw p W source H fields → (wait full : Bool) → waits e ≡ wait → (stored waiting t j line pc size : ℕ) (cs : List Const) (rest : Prototypes)
      → is_full (stored + waiting + 1) ≡ full → waiting ≤ (stored + waiting) % 50 → (H → stored + waiting + (1 + positional fields) < 2 ^ 33) → ExpIsNear source p e size (t + 1 + (stored + waiting) % 50)
      → FieldsAreNear source p fields (stored + waiting + 1) size t → size ≤ t → IsRegister (t + waiting) → Grows (of_exp e cs) C → Grows (of_fields fields (of_exp e cs)) C
      → Functions p j (from_exp source e (from_fields source fields rest)) → Functions p (j + made_by e) (from_fields source fields rest)
      → Piece p H closed closed pc (item_code wait full (exp_code C e (item_register wait t waiting) j (cond (is_last_item e fields) 0 2)) stored waiting (cond (is_last_item e fields) 0 1) t line
      ++ fields_code C fields (stored_behind wait full stored waiting) (waiting_behind wait full waiting) t (j + made_by e) line)
  item_by e fields law laws true false w stored waiting t j line pc size cs rest off behind few near nears le r g gs fs after =
      let field : ℕ = cond (is_last_item e fields) 0 2 in
      let two : field ≡ 2 = ap (λ b. cond b 0 2) (last_waits e fields w) in
      let same : stored + waiting + 1 ≡ stored + (waiting + 1) = omega arith in
      let top = exp_register source p e size (t + 1 + (stored + waiting) % 50) near in
      both p
      (subst (λ z. Piece p H closed closed pc (exp_code C e (t + 1 + waiting) j z)) (sym two)
      (one_of_any p W source H e law (t + 1 + waiting) j pc size cs (from_fields source fields rest) (exp_lower source p e size (t + 1 + waiting) (t + 1 + (stored + waiting) % 50) (omega (arith, behind)) near) (omega (arith, le)) g fs))
      (laws stored (waiting + 1) t (j + made_by e) line _ size (of_exp e cs) rest (still_few stored waiting behind off) (λ h. let all = few h in omega (arith, all)) (subst (λ z. FieldsAreNear source p fields z size t) same nears) le (omega (arith, top, behind)) gs after)
  item_by e fields law laws true true w stored waiting t j line pc size cs rest on behind few near nears le r g gs fs after =
      let field : ℕ = cond (is_last_item e fields) 0 2 in
      let two : field ≡ 2 = ap (λ b. cond b 0 2) (last_waits e fields w) in
      let same : stored + waiting + 1 ≡ stored + waiting + 1 + 0 = omega arith in
      let top = exp_register source p e size (t + 1 + (stored + waiting) % 50) near in
      both p
      (both p
      (subst (λ z. Piece p H closed closed pc (exp_code C e (t + 1 + waiting) j z)) (sym two)
      (one_of_any p W source H e law (t + 1 + waiting) j pc size cs (from_fields source fields rest) (exp_lower source p e size (t + 1 + waiting) (t + 1 + (stored + waiting) % 50) (omega (arith, behind)) near) (omega (arith, le)) g fs))
      (list_piece p closed t (waiting + 1) stored line (omega (arith, r)) (omega (arith, r)) (λ h. let all = few h in omega (arith, all)) (omega arith)))
      (laws (stored + waiting + 1) 0 t (j + made_by e) line _ size (of_exp e cs) rest (omega arith) (λ h. let all = few h in omega (arith, all)) (subst (λ z. FieldsAreNear source p fields z size t) same nears) le (omega (arith, r)) gs after)
  item_by e fields law laws false full w stored waiting t j line pc size cs rest on behind few near nears le r g gs fs after =
      let same : stored + waiting + 1 ≡ stored + waiting + 1 + 0 = omega arith in
      both p
      (both p (waiting_piece stored waiting t line r (λ h. let all = few h in omega (arith, all)))
      (alone_piece e fields law (stored + waiting) t j line _ size cs (from_fields source fields rest) (λ h. let all = few h in omega (arith, all)) (exp_lower source p e size (t + 1) (t + 1 + (stored + waiting) % 50) (omega arith) near) le (omega (arith, r)) g fs))
      (laws (stored + waiting + 1) 0 t (j + made_by e) line _ size (of_exp e cs) rest (omega arith) (λ h. let all = few h in omega (arith, all)) (subst (λ z. FieldsAreNear source p fields z size t) same nears) le (omega (arith, r)) gs after)

  pub more_item : (e : Exp) (fields : Fields) → ExpLaw p W source H e → FieldsLaw p W source H fields → FieldsLaw p W source H (MoreFields (Item e) fields)
  more_item e fields law laws stored waiting t j line pc size cs rest behind few near le r g fs =
      let first = of_exp e cs in
      item_by e fields law laws (waits e) (is_full (stored + waiting + 1)) refl stored waiting t j line pc size cs rest refl behind few near.0 near.1 le r (grows_then first (of_fields fields first) C (grows_fields fields first) g) g fs
      (after_exp source p e j (from_fields source fields rest) fs)
