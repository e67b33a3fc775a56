-- The code of statements without blocks is a piece.
use Rattle.std.proofs.Common.{◌≡◌, ℕ, zero, suc, ◌+◌, ◌*◌, ◌<◌, ◌≤◌, ◌^◌, lit<, Bool, true, false, cond, List, [], ◌∷◌, length, Option, Some, None, refl, sym, ap, subst, arith}
use Rattle.std.specs.Prelude.{nat_eq, nat_lt}
use Rattle.tree_core.specs.declared.name.Name.{Name}
use Rattle.tree_core.specs.declared.name.Declared.{Declared}
use Rattle.tree_core.specs.declared.name.Place.{Place}
use Rattle.tree_core.specs.declared.name.Place.TheVariants.{Unset, Upvalue, GlobalIn, GlobalOf, Local as LocalPlace}
use Rattle.tree_core.specs.Tree.{Body, BodyOf, Exp, Nil, True, False, Int, Str, Var, Index, Unary, Binary, Paren, Call, Method, Exps, EndExps, MoreExps}
use Rattle.tree_terms.specs.Bodies.{upvalues_of}
use Rattle.tree_activation.specs.Statements.{is_closed}
use Rattle.code_core.specs.declared.opcode.Opcode.TheVariants.{Move, LoadNil, Close, Tbc, Closure, LoadTrue, LoadFalse}
use Rattle.code_core.specs.declared.proto.Const.{Const}
use Rattle.code_core.specs.declared.proto.Const.TheVariants.{Int as IntConst, Str as StrConst}
use Rattle.code_core.specs.Prototype.{Prototype, Prototypes, more}
use Rattle.code_of.specs.Coded.{Coded, with_abc, with_abx}
use Rattle.code_of.specs.ConstantOperands.{stored_constant}
use Rattle.code_of.specs.Constants.{with_constant, with_any, of_name, of_exp, of_exps, loads}
use Rattle.code_of.specs.Expressions.{made_by, made_in, count, ends_open, list_field, exps_code, exp_code}
use Rattle.code_of.specs.Operands.{local_of, lone_local, seat, assigned, second_assigned}
use Rattle.code_of.proofs.Operands.{assigned_is, lone_is, second_is}
use Rattle.code_of.specs.Stores.{stores_field}
use Rattle.code_of.proofs.Stores.{stores_field_is}
use Rattle.code_of.specs.Parts.{marks_code, close_code, captures_local, closure_code, function_code, name_target, target_code, targets_code, name_store, store_code, stores_code, first_direct, first_field, stored_code, store_by, assign_by, assign_code, returned_by, values_last, call_last, method_last, return_code, kept_code, two_code, first_two, two_by, direct_code}
use Rattle.code_of.specs.Targets.{waiting_key, text_key, single_store}
use Rattle.code_of.proofs.Targets.{key_waits, single_store_is}
use Rattle.code_of.specs.CodeOf.{parts_of, from_exp, from_exps, from_body}
use Rattle.code_checked.specs.Near.{IsRegister, NameIsNear, AreCaptured, ExpsAreNear, TargetIsNear, TargetsAreNear, ResultIsNear, ExpIsNear}
use Rattle.code_checked.proofs.Pieces.{closed, listed, returned, Ends, Piece, both, nothing}
use Rattle.code_checked.proofs.Words.{simple, simple_move, simple_load_nil, simple_load_true, simple_load_false, simple_close, simple_tbc}
use Rattle.code_checked.proofs.Found.{Grows, grows_then, grows_with, grows_any, is_in}
use Rattle.code_of.proofs.Constants.{same_text, same_int}
use Rattle.code_checked.proofs.Loads.{Whole, Functions, loads_piece, integer_piece, named_piece, upvalue_piece, set_upvalue_piece, closure_piece, method_piece}
use Rattle.code_checked.proofs.Calls.{return_piece, any_return_piece, tail_piece}
use Rattle.code_checked.proofs.Lists.{open_mark, takes_list_field, field_below, HaveRoom}
use Rattle.code_checked.proofs.Growing.{grows_exp, grows_exps, after_exp, after_exps}
use Rattle.code_checked.proofs.Exps.{one_law, list_law, values_law}
use Rattle.code_checked.proofs.FieldStores.{field_piece}
use Rattle.code_checked.proofs.ExpForms.{seat_near, standing_piece, DirectLaw, unary_direct, index_direct, binary_direct, local_near}
use Rattle.code_checked.proofs.Targets.{waiting_store, local_piece}
use Rattle.code_checked.proofs.KeyedFields.{key_piece, stored_near}
use Rattle.code_checked.proofs.Lowering.{exps_lower}

module _ (p : Prototype) where
  pub marks_piece : {H : Type 0} (names : List Declared) (t pc : ℕ) → t + length names < 2 ^ 8 → Piece p H closed closed pc (marks_code names t)
  marks_piece [] t pc h = nothing p
  marks_piece {H} (d ∷ names) t pc h = by (is_closed d.attrib) (λ q. marks_piece names (t + 1) q (omega (arith, h)))
    where
      by : (b : Bool) → ((q : ℕ) → Piece p H closed closed q (marks_code names (t + 1))) → Piece p H closed closed pc (cond b (with_abc Tbc t 0 0 d.name.line ∷ marks_code names (t + 1)) (marks_code names (t + 1)))
      by true more_marks = both p (simple p Tbc (simple_tbc p) t 0 0 d.name.line (omega (arith, h)) (lit< tt) (lit< tt)) (more_marks (pc + 1))
      by false more_marks = more_marks pc

  pub close_piece : {H : Type 0} (before after line pc : ℕ) → before < 2 ^ 8 → Piece p H closed closed pc (close_code before after line)
  close_piece {H} before after line pc h = by (nat_eq before after)
    where
      by : (b : Bool) → Piece p H closed closed pc (cond b [] (with_abc Close before 0 0 line ∷ []))
      by true = nothing p
      by false = simple p Close (simple_close p) before 0 0 line h (lit< tt) (lit< tt)

  -- what returns is closed too
  pub as_closed : {H : Type 0} {pc : ℕ} {xs : List Coded} → Piece p H closed returned pc xs → Piece p H closed closed pc xs
  as_closed {H} {pc} {xs} a = record { starts = a.starts; ends = ends xs a.ends; kept = λ h has front behind. a.kept h has front tt }
    where
      ends : (xs : List Coded) → Ends closed returned xs → Ends closed closed xs
      ends [] h = absurd (cc)
      ends (x ∷ []) h = (h.0, h.1)
      ends (x ∷ y ∷ xs) h = ends (y ∷ xs) h

  -- stores

  name_store_piece : {H : Type 0} {pc : ℕ} (place : Place) (text : List ℕ) (r v line : ℕ) (cs : List Const) → Whole p → NameIsNear (length p.own.upvalues) place → r + 1 < 2 ^ 8 → v < 2 ^ 8 → Grows (of_name place text cs) p.own.constants
      → Piece p H closed closed pc (name_store p.own.constants place text r v line)
  name_store_piece Unset text r v line cs W h rf vf g = nothing p
  name_store_piece (LocalPlace n) text r v line cs W h rf vf g = simple p Move (simple_move p) n v 0 line h vf (lit< tt)
  name_store_piece (Upvalue u) text r v line cs W h rf vf g = let most = W.upvalues in set_upvalue_piece p v u line vf (omega (arith, h, most)) h
  name_store_piece (GlobalIn n) text r v line cs W h rf vf g = waiting_store p (text_key p.own.constants text) (Str line text) r v line cs (key_waits p.own.constants (Str line text)) rf vf g
  name_store_piece (GlobalOf u) text r v line cs W h rf vf g = waiting_store p (text_key p.own.constants text) (Str line text) r v line cs (key_waits p.own.constants (Str line text)) rf vf g

  store_piece : {H : Type 0} {pc : ℕ} (source : Option (List ℕ)) (e : Exp) (size r v : ℕ) (cs : List Const) → Whole p → TargetIsNear source p e size r → r + 1 < 2 ^ 8 → v < 2 ^ 8 → Grows (of_exp e cs) p.own.constants
      → Piece p H closed closed pc (store_code p.own.constants e r v)
  store_piece source (Var line name) size r v cs W h rf vf g = name_store_piece name.place name.text r v line cs W h rf vf g
  store_piece source (Index line o k) size r v cs W h rf vf g = waiting_store p (waiting_key p.own.constants k) k r v line (of_exp o cs) (key_waits p.own.constants k) rf vf g
  store_piece source _ size r v cs W h rf vf g = nothing p

  pub stores_piece : {H : Type 0} (source : Option (List ℕ)) (es : Exps) (size r v pc : ℕ) (cs : List Const) → Whole p → TargetsAreNear source p es size r → r + 2 * count es < 2 ^ 8 → v + count es < 2 ^ 8 → Grows (of_exps es cs) p.own.constants
      → Piece p H closed closed pc (stores_code p.own.constants es r v)
  stores_piece source EndExps size r v pc cs W h rf vf g = nothing p
  stores_piece source (MoreExps e es) size r v pc cs W h rf vf g =
      let first = of_exp e cs in
      both p (stores_piece source es size (r + 2) (v + 1) pc first W h.1 (omega (arith, rf)) (omega (arith, vf)) g)
      (store_piece source e size r v cs W h.0 (omega (arith, rf)) (omega (arith, vf)) (grows_then first (of_exps es first) p.own.constants (grows_exps es first) g))

  module _ (W : Whole p) (source : Option (List ℕ)) (H : Type 0) where
    pub function_piece : (body : Body) (t j pc : ℕ) (rest : Prototypes) → t < 2 ^ 8 → AreCaptured (upvalues_of body) (t + 1) (length p.own.upvalues) → Functions p j (more (parts_of source body) (from_body source body) rest)
        → Piece p H closed closed pc (function_code body t j)
    function_piece (BodyOf params vararg inner ups line) t j pc rest tf captured fs = by (captures_local t ups) pc
      where
        made : (pc : ℕ) → Piece p H closed closed pc (with_abx Closure t j line ∷ [])
        made pc = closure_piece p W t j line (t + 1) ups (parts_of source (BodyOf params vararg inner ups line)) (from_body source (BodyOf params vararg inner ups line)) rest tf refl captured (omega arith) fs

        by : (own : Bool) (pc : ℕ) → Piece p H closed closed pc (closure_code own t j line)
        by false pc = made pc
        by true pc = both p (simple p LoadNil (simple_load_nil p) t 0 0 line tf (lit< tt) (lit< tt)) (made (pc + 1))

    -- targets

    name_target_piece : {pc : ℕ} (place : Place) (text : List ℕ) (r line : ℕ) (cs : List Const) → NameIsNear (length p.own.upvalues) place → r + 1 < 2 ^ 8 → Grows (of_name place text cs) p.own.constants
        → Piece p H closed closed pc (name_target p.own.constants place text r line)
    name_target_piece Unset text r line cs h rf g = nothing p
    name_target_piece (LocalPlace n) text r line cs h rf g = nothing p
    name_target_piece (Upvalue u) text r line cs h rf g = nothing p
    name_target_piece (GlobalIn n) text r line cs h rf g =
        both p (simple p Move (simple_move p) r n 0 line (omega (arith, rf)) h (lit< tt))
        (key_piece p H (text_key p.own.constants text) (loads p.own.constants (StrConst text) (r + 1) line) (loads_piece p W (StrConst text) (r + 1) line rf (is_in (StrConst text) (same_text text) cs p.own.constants g)))
    name_target_piece (GlobalOf u) text r line cs h rf g =
        both p (upvalue_piece p W r u line (omega (arith, rf)) h)
        (key_piece p H (text_key p.own.constants text) (loads p.own.constants (StrConst text) (r + 1) line) (loads_piece p W (StrConst text) (r + 1) line rf (is_in (StrConst text) (same_text text) cs p.own.constants g)))

    target_piece : (e : Exp) (r j pc size : ℕ) (cs : List Const) (rest : Prototypes) → TargetIsNear source p e size r → size ≤ r → r + 1 < 2 ^ 8 → Grows (of_exp e cs) p.own.constants → Functions p j (from_exp source e rest)
        → Piece p H closed closed pc (target_code p.own.constants e r j)
    target_piece (Var line name) r j pc size cs rest h le rf g fs = name_target_piece name.place name.text r line cs h rf g
    target_piece (Index line o k) r j pc size cs rest h le rf g fs =
        both p (one_law p W source o H r j pc size cs (from_exp source k rest) h.0 le (grows_then (of_exp o cs) (of_exp k (of_exp o cs)) p.own.constants (grows_exp k (of_exp o cs)) g) fs)
        (key_piece p H (waiting_key p.own.constants k) (exp_code p.own.constants k (r + 1) (j + made_by o) 2)
        (one_law p W source k H (r + 1) (j + made_by o) _ size (of_exp o cs) rest h.1 (omega (arith, le)) g (after_exp source p o j (from_exp source k rest) fs)))
    target_piece _ r j pc size cs rest h le rf g fs = nothing p

    targets_piece : (es : Exps) (r j pc size : ℕ) (cs : List Const) (rest : Prototypes) → TargetsAreNear source p es size r → size ≤ r → r + 2 * count es < 2 ^ 8 → Grows (of_exps es cs) p.own.constants → Functions p j (from_exps source es rest)
        → Piece p H closed closed pc (targets_code p.own.constants es r j)
    targets_piece EndExps r j pc size cs rest h le rf g fs = nothing p
    targets_piece (MoreExps e es) r j pc size cs rest h le rf g fs =
        let first = of_exp e cs in
        both p (target_piece e r j pc size cs (from_exps source es rest) h.0 le (omega (arith, rf)) (grows_then first (of_exps es first) p.own.constants (grows_exps es first) g) fs)
        (targets_piece es (r + 2) (j + made_by e) _ size first rest h.1 (omega (arith, le)) (omega (arith, rf)) g (after_exp source p e j (from_exps source es rest) fs))

    have_room : (n t : ℕ) → t + n + 2 < 2 ^ 8 → HaveRoom n t
    have_room zero t h = tt
    have_room (suc n) t h = omega (arith, h)

    pub values_piece : (es : Exps) (n t j line pc size : ℕ) (cs : List Const) (rest : Prototypes) → ExpsAreNear source p es size t → size ≤ t → t + n + 2 < 2 ^ 8 → Grows (of_exps es cs) p.own.constants → Functions p j (from_exps source es rest)
        → Piece p H closed closed pc (exps_code p.own.constants es (Some n) t j line)
    values_piece es n t j line pc size cs rest h le room g fs = values_law p W source es H n t j line pc size cs rest h le (have_room n t room) g fs

    -- the constants of the targets stand in front of those of the values
    targets_grow : (ts es : Exps) (cs : List Const) → Grows (of_exps es (with_any (stored_constant ts es) (of_exps ts cs))) p.own.constants → Grows (of_exps ts cs) p.own.constants
    targets_grow ts es cs g =
        let first = of_exps ts cs in
        let named = with_any (stored_constant ts es) first in
        grows_then first named p.own.constants (grows_any (stored_constant ts es) first) (grows_then named (of_exps es named) p.own.constants (grows_exps es named) g)

    stored_piece : (ts es : Exps) (t j line pc : ℕ) (cs : List Const) (rest : Prototypes) → IsRegister (t + 2 * count ts + count ts) → TargetsAreNear source p ts t t → ExpsAreNear source p es t (t + 2 * count ts) → Grows (of_exps es (with_any (stored_constant ts es) (of_exps ts cs))) p.own.constants
        → Functions p j (from_exps source ts (from_exps source es rest)) → Piece p H closed closed pc (stored_code p.own.constants ts es t j line)
    stored_piece ts es t j line pc cs rest r near_ts near_es g fs =
        let named = with_any (stored_constant ts es) (of_exps ts cs) in
        let known = targets_grow ts es cs g in
        both p (targets_piece ts t j pc t cs (from_exps source es rest) near_ts (omega arith) (omega (arith, r)) known fs)
        (both p (values_piece es (count ts) (t + 2 * count ts) (j + made_in ts) line _ t named rest near_es (omega arith) (omega (arith, r)) g (after_exps source p ts j (from_exps source es rest) fs))
        (stores_piece source ts t t (t + 2 * count ts) _ cs W near_ts (omega (arith, r)) (omega (arith, r)) known))

    -- a value that goes straight to a local's register

    direct_piece : (e : Exp) → DirectLaw p W source H e
    direct_piece (Nil line) = λ r t j pc size cs rest rf near le g fs. simple p LoadNil (simple_load_nil p) r 0 0 line rf (lit< tt) (lit< tt)
    direct_piece (True line) = λ r t j pc size cs rest rf near le g fs. simple p LoadTrue (simple_load_true p) r 0 0 line rf (lit< tt) (lit< tt)
    direct_piece (False line) = λ r t j pc size cs rest rf near le g fs. simple p LoadFalse (simple_load_false p) r 0 0 line rf (lit< tt) (lit< tt)
    direct_piece (Int line z) = λ r t j pc size cs rest rf near le g fs. integer_piece p W z r line rf (λ e. is_in (IntConst z) (same_int z) cs p.own.constants (subst (λ b. Grows (cond b cs (with_constant (IntConst z) cs)) p.own.constants) e g))
    direct_piece (Str line bytes) = λ r t j pc size cs rest rf near le g fs. loads_piece p W (StrConst bytes) r line rf (is_in (StrConst bytes) (same_text bytes) cs p.own.constants g)
    direct_piece (Var line name) = λ r t j pc size cs rest rf near le g fs. named_piece p W name.place name.text r t line cs rf near.0 near.1 g
    direct_piece (Paren line e) = λ r t j pc size cs rest rf near le g fs. direct_piece e r t j pc size cs rest rf near.1 le g fs
    direct_piece (Unary line op e) = unary_direct p W source H line op e (one_law p W source e H)
    direct_piece (Index line o k) = index_direct p W source H line o k (one_law p W source o H) (one_law p W source k H)
    direct_piece (Binary line op e d) = binary_direct p W source H line op e d (one_law p W source e H) (one_law p W source d H)
    direct_piece _ = λ r t j pc size cs rest rf near le g fs. nothing p

    first_piece : (es : Exps) (r t j pc size : ℕ) (cs : List Const) (rest : Prototypes) → r < 2 ^ 8 → ExpsAreNear source p es size t → size ≤ t → Grows (of_exps es cs) p.own.constants → Functions p j (from_exps source es rest)
        → Piece p H closed closed pc (first_direct p.own.constants es r t j)
    first_piece EndExps r t j pc size cs rest rf near le g fs = nothing p
    first_piece (MoreExps e es) r t j pc size cs rest rf near le g fs =
        let first = of_exp e cs in
        direct_piece e r t j pc size cs (from_exps source es rest) rf near.0 le (grows_then first (of_exps es first) p.own.constants (grows_exps es first) g) fs

    -- two values, of which the second one goes straight to a local's register
    two_piece : (x e d : Exp) (r t j pc : ℕ) (cs : List Const) (rest : Prototypes) → r < 2 ^ 8 → t + 3 < 2 ^ 8 → TargetIsNear source p x t t → ExpIsNear source p e t (t + 2) → ExpIsNear source p d t (t + 3)
        → Grows (of_exp x cs) p.own.constants → (named : List Const) → Grows (of_exp d (of_exp e named)) p.own.constants → Functions p j (from_exp source x (from_exp source e (from_exp source d rest)))
        → Piece p H closed closed pc (two_code p.own.constants x e d r t j)
    two_piece x e d r t j pc cs rest rf tf near_x near_e near_d grows_x named g fs =
        let functions = after_exp source p x j (from_exp source e (from_exp source d rest)) fs in
        both p (target_piece x t j pc t cs (from_exp source e (from_exp source d rest)) near_x (omega arith) (omega (arith, tf)) grows_x fs)
        (both p (one_law p W source e H (t + 2) (j + made_by x) _ t named (from_exp source d rest) near_e (omega arith) (grows_then (of_exp e named) (of_exp d (of_exp e named)) p.own.constants (grows_exp d (of_exp e named)) g) functions)
        (both p (direct_piece d r (t + 3) (j + made_by x + made_by e) _ t (of_exp e named) rest rf near_d (omega arith) g (after_exp source p e (j + made_by x) (from_exp source d rest) functions))
        (store_piece source x t t (t + 2) cs W near_x (omega (arith, tf)) (omega (arith, tf)) grows_x)))

    pub assign_piece : (ts es : Exps) (t j line pc : ℕ) (cs : List Const) (rest : Prototypes) → IsRegister (t + 2 * count ts + count ts) → TargetsAreNear source p ts t t → ExpsAreNear source p es t (t + 2 * count ts) → Grows (of_exps es (with_any (stored_constant ts es) (of_exps ts cs))) p.own.constants
        → Functions p j (from_exps source ts (from_exps source es rest)) → Piece p H closed closed pc (assign_code p.own.constants ts es t j line)
    assign_piece ts es t j line pc cs rest r near_ts near_es g fs = by (assigned ts es) refl
      where
        by : (o : Option ℕ) → assigned ts es ≡ o → Piece p H closed closed pc (assign_by p.own.constants o ts es t j line)
        by None is = by_two (second_assigned ts es) refl
          where
            by_two : (o : Option ℕ) → second_assigned ts es ≡ o → Piece p H closed closed pc (two_by p.own.constants o ts es t j line)
            by_two None is = by_field (stores_field ts es) refl
              where
                by_field : (b : Bool) → stores_field ts es ≡ b → Piece p H closed closed pc (store_by p.own.constants b ts es t j line)
                by_field false is = by_store (single_store p.own.constants ts es) refl
                  where
                    by_store : (o : Option Coded) → single_store p.own.constants ts es ≡ o → Piece p H closed closed pc (kept_code p.own.constants o ts es t j line)
                    by_store None is = stored_piece ts es t j line pc cs rest r near_ts near_es g fs
                    by_store (Some x) is =
                        let form = single_store_is p.own.constants ts es x is in
                        let near_target = subst (λ z. TargetsAreNear source p z t t) form.target near_ts in
                        let near_value = subst (λ z. ExpsAreNear source p z t (t + 2 * count ts)) form.values near_es in
                        let grows = subst (λ z. Grows (of_exps z cs) p.own.constants) form.target (targets_grow ts es cs g) in
                        let seat = stored_near p source form.value form.constant form.field t (t + 2 * count ts) form.is near_value.0 in
                        local_piece p form.name.place form.name.text form.constant form.field form.line x cs W form.store form.short near_target.0 seat.0 seat.1 grows
                by_field true is =
                    let form = stores_field_is ts es is in
                    let after = j + made_in ts in
                    let target = MoreExps (Index form.line form.object form.key) EndExps in
                    let alone = MoreExps form.value EndExps in
                    let value_at : t + 2 * count ts ≡ t + 2 = let n = ap count form.target in omega (arith, n) in
                    let near_target = subst (λ z. TargetsAreNear source p z t t) form.target near_ts in
                    let near_value = subst (λ z. ExpsAreNear source p z t (t + 2)) form.values (subst (λ m. ExpsAreNear source p es t m) value_at near_es) in
                    let grows = subst (λ z. Grows (of_exps alone (with_any (stored_constant z alone) (of_exps z cs))) p.own.constants) form.target
                    (subst (λ z. Grows (of_exps z (with_any (stored_constant ts z) (of_exps ts cs))) p.own.constants) form.values g) in
                    let functions = subst (λ z. Functions p j (from_exps source z (from_exps source alone rest))) form.target (subst (λ z. Functions p j (from_exps source ts (from_exps source z rest))) form.values fs) in
                    let behind = subst (λ z. Functions p after (from_exps source z rest)) form.values (after_exps source p ts j (from_exps source es rest) fs) in
                    subst (λ z. Piece p H closed closed pc (first_field p.own.constants z es t j after)) (sym form.target)
                    (subst (λ z. Piece p H closed closed pc (first_field p.own.constants target z t j after)) (sym form.values)
                    (field_piece p W source H form.line form.object form.key form.value t j after pc t cs rest near_target.0.0 near_target.0.1 near_value.0 (omega arith) grows functions behind))
            by_two (Some q) is =
                let form = second_is ts es q is in
                let both = MoreExps form.target (MoreExps (Var form.line form.name) EndExps) in
                let values = MoreExps form.first (MoreExps form.second EndExps) in
                let counted = ap count form.targets_are in
                let named = with_any (stored_constant ts es) (of_exps ts cs) in
                let near_targets = subst (λ z. TargetsAreNear source p z t t) form.targets_are near_ts in
                let fits = subst (λ z. NameIsNear (length p.own.upvalues) z) form.place near_targets.1.0 in
                let near_values = exps_lower source p values t (t + 2) (t + 2 * count ts) (omega (arith, counted)) (subst (λ z. ExpsAreNear source p z t (t + 2 * count ts)) form.values near_es) in
                let third : t + 2 + 1 ≡ t + 3 = omega arith in
                let known = subst (λ z. Grows (of_exps z cs) p.own.constants) form.targets_are (targets_grow ts es cs g) in
                let first_known = of_exp form.target cs in
                let grows_x = grows_then first_known (of_exps (MoreExps (Var form.line form.name) EndExps) first_known) p.own.constants (grows_exps (MoreExps (Var form.line form.name) EndExps) first_known) known in
                let functions = subst (λ z. Functions p j (from_exps source z (from_exps source values rest))) form.targets_are (subst (λ z. Functions p j (from_exps source ts (from_exps source z rest))) form.values fs) in
                subst (λ z. Piece p H closed closed pc (first_two p.own.constants z es q t j)) (sym form.targets_are)
                (subst (λ z. Piece p H closed closed pc (first_two p.own.constants both z q t j)) (sym form.values)
                (two_piece form.target form.first form.second q t j pc cs rest fits (omega (arith, r, counted)) near_targets.0 near_values.0 (subst (λ m. ExpIsNear source p form.second t m) third near_values.1.0)
                grows_x named (subst (λ z. Grows (of_exps z named) p.own.constants) form.values g) functions))
        by (Some q) is =
            let form = assigned_is ts es q is in
            let target = subst (λ z. TargetsAreNear source p z t t) form.target near_ts in
            let fits = subst (λ z. NameIsNear (length p.own.upvalues) z) form.place target.0 in
            first_piece es q t (j + made_in ts) pc t (with_any (stored_constant ts es) (of_exps ts cs)) rest fits (exps_lower source p es t t (t + 2 * count ts) (omega arith) near_es) (omega arith) g (after_exps source p ts j (from_exps source es rest) fs)

    -- returns

    values_return : (es : Exps) (t j line back pc : ℕ) (cs : List Const) (rest : Prototypes) → ResultIsNear source p es t → back < 2 ^ 8 → Grows (of_exps es cs) p.own.constants → Functions p j (from_exps source es rest)
        → Piece p H closed returned pc (values_last p.own.constants es t j line back)
    values_return es t j line back pc cs rest near bf g fs = by (lone_local es) refl
      where
        by : (o : Option ℕ) → lone_local es ≡ o → Piece p H closed returned pc (returned_by p.own.constants o es t j line back)
        by None is =
            let r = near.0 in
            both p (list_law p W source es H t j line pc t cs rest near.1 (omega arith) g fs)
            (return_piece p (open_mark es t) t (list_field 0 es) back line (omega (arith, r)) (field_below (ends_open es) (0 + count es + 1) (omega (arith, r))) bf (takes_list_field es (0 + count es + 1) t t (omega arith) (omega arith)))
        by (Some q) is =
            let lone = lone_is es q is in
            let alone = subst (λ z. ExpsAreNear source p z t t) lone.values near.1 in
            any_return_piece p closed (nat_lt 0 t) q 2 back line (local_near source p lone.value t t q lone.is alone.0) (lit< tt) bf (omega arith)

    call_return : (call_line : ℕ) (f : Exp) (es : Exps) (t j back pc : ℕ) (cs : List Const) (rest : Prototypes) → ResultIsNear source p (MoreExps (Call call_line f es) EndExps) t → back < 2 ^ 8
        → Grows (of_exps (MoreExps (Call call_line f es) EndExps) cs) p.own.constants → Functions p j (from_exps source (MoreExps (Call call_line f es) EndExps) rest)
        → Piece p H closed returned pc (call_last p.own.constants f es t j call_line back)
    call_return call_line f es t j back pc cs rest near bf g fs =
        let n = near.1.0 in
        let r = n.0 in
        both p (one_law p W source f H t j pc t cs (from_exps source es rest) n.1.0 (omega arith) (grows_then (of_exp f cs) (of_exps es (of_exp f cs)) p.own.constants (grows_exps es (of_exp f cs)) g) fs)
        (both p (list_law p W source es H (t + 1) (j + made_by f) call_line _ t (of_exp f cs) rest n.1.1 (omega arith) g (after_exp source p f j (from_exps source es rest) fs))
        (both p (tail_piece p (open_mark es (t + 1)) t (list_field 0 es) back call_line (omega (arith, r)) (field_below (ends_open es) (0 + count es + 1) (omega (arith, r))) bf (takes_list_field es (0 + count es + 1) t (t + 1) (omega arith) (omega arith)))
        (return_piece p (listed t) t 0 back call_line (omega (arith, r)) (lit< tt) bf (refl, omega arith))))

    method_return : (call_line : ℕ) (o : Exp) (name : Name) (es : Exps) (t j back pc : ℕ) (cs : List Const) (rest : Prototypes) → ResultIsNear source p (MoreExps (Method call_line o name es) EndExps) t → back < 2 ^ 8
        → Grows (of_exps (MoreExps (Method call_line o name es) EndExps) cs) p.own.constants → Functions p j (from_exps source (MoreExps (Method call_line o name es) EndExps) rest)
        → Piece p H closed returned pc (method_last p.own.constants o name.text es t j call_line back)
    method_return call_line o name es t j back pc cs rest near bf g fs =
        let n = near.1.0 in
        let r = n.0 in
        let made = of_exp o cs in
        let named = with_constant (StrConst name.text) made in
        let known = grows_then named (of_exps es named) p.own.constants (grows_exps es named) g in
        both p (standing_piece p W source H o (one_law p W source o H) t j pc t cs (from_exps source es rest) n.1.0 (omega arith) (grows_then made named p.own.constants (grows_with (StrConst name.text) made) known) fs)
        (both p (method_piece p W (seat (local_of o) t) t call_line name.text (seat_near source p o t t (omega (arith, r)) n.1.0) (omega (arith, r)) (is_in (StrConst name.text) (same_text name.text) made p.own.constants known))
        (both p (list_law p W source es H (t + 2) (j + made_by o) call_line _ t named rest n.1.1 (omega arith) g (after_exp source p o j (from_exps source es rest) fs))
        (both p (tail_piece p (open_mark es (t + 2)) t (list_field 1 es) back call_line (omega (arith, r)) (field_below (ends_open es) (1 + count es + 1) (omega (arith, r))) bf (takes_list_field es (1 + count es + 1) t (t + 2) (omega arith) (omega arith)))
        (return_piece p (listed t) t 0 back call_line (omega (arith, r)) (lit< tt) bf (refl, omega arith)))))

    pub return_law : (closing : Bool) (es : Exps) (t j line back pc : ℕ) (cs : List Const) (rest : Prototypes) → ResultIsNear source p es t → back < 2 ^ 8 → Grows (of_exps es cs) p.own.constants → Functions p j (from_exps source es rest)
        → Piece p H closed returned pc (return_code p.own.constants closing es t j line back)
    return_law false (MoreExps (Call call_line f es) EndExps) t j line back pc cs rest near bf g fs = call_return call_line f es t j back pc cs rest near bf g fs
    return_law false (MoreExps (Method call_line o name es) EndExps) t j line back pc cs rest near bf g fs = method_return call_line o name es t j back pc cs rest near bf g fs
    return_law closing es t j line back pc cs rest near bf g fs = values_return es t j line back pc cs rest near bf g fs
