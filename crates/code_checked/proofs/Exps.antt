-- The code of each expression, of each list of expressions and of each constructor is a piece.
use Rattle.code_core.specs.Instruction.{op_ax}
use Rattle.code_of.specs.Coded.{with_abc}
use Rattle.std.proofs.Common.{ℕ, ◌+◌, ◌<◌, ◌≤◌, ◌^◌, lit<, Bool, true, false, List, length, length-append, Option, refl, subst, arith, ◌∷◌, ◌++◌}
use Rattle.tree_core.specs.Tree.{Exp, Nil, True, False, Int, Str, Vararg, Function, Var, Index, Call, Method, Unary, Binary, And, Or, Paren, Table, Exps, EndExps, MoreExps, Fields, EndFields, MoreFields, Item, Keyed}
use Rattle.code_core.specs.declared.opcode.Opcode.TheVariants.{LoadNil, LoadTrue, LoadFalse, NewTable, ExtraArg}
use Rattle.code_core.specs.declared.proto.Const.TheVariants.{Int as IntConst, Str as StrConst}
use Rattle.code_core.specs.declared.proto.Const.{Const}
use Rattle.code_core.specs.Prototype.{Prototype, Prototypes}
use Rattle.tree_core.specs.declared.name.Name.{Name}
use Rattle.code_checked.specs.Near.{ExpIsNear}
use Rattle.std.specs.Prelude.{ℤ, cond}
use Rattle.code_of.specs.Constants.{with_constant, of_exp}
use Rattle.code_of.specs.Conditions.{keep_code}
use Rattle.code_of.specs.Expressions.{made_by, exp_code, fields_code}
use Rattle.code_of.specs.CodeOf.{from_exp}
use Rattle.code_checked.proofs.Pieces.{closed, Land, Piece, both, supposing}
use Rattle.code_checked.proofs.Words.{simple, simple_load_nil, simple_load_true, simple_load_false}
use Rattle.code_checked.proofs.Found.{Grows, grows_then, is_in}
use Rattle.code_of.proofs.Constants.{same_text, same_int}
use Rattle.code_checked.proofs.Loads.{Whole, Functions, loads_piece, integer_piece, name_piece}
use Rattle.code_checked.proofs.Calls.{vararg_piece, table_piece}
use Rattle.code_checked.proofs.Jumping.{shortly}
use Rattle.code_checked.proofs.Seams.{ending}
use Rattle.code_checked.proofs.TestForms.{OneAll, TestLaw, value_law, paren_law, not_law, and_law, or_law, binary_law, true_law, KeepLaw, leaf_law, unary_kept, binary_kept, paren_kept, and_kept, or_kept}
use Rattle.code_checked.proofs.Lists.{list_at, gives_at}
use Rattle.code_checked.proofs.Growing.{grows_exp, after_exp}
use Rattle.code_checked.proofs.ExpForms.{ExpLaw, OneLaw, ListLaw, ExactLaw, FieldsLaw, one_of_any, no_list, no_values, last_list, last_values, more_list, more_values, function_form, index_form, call_form, method_form, unary_form, paren_form, positional_below}
use Rattle.code_checked.proofs.ItemForms.{no_fields, more_item}
use Rattle.code_checked.proofs.KeyedFields.{more_keyed}
use Rattle.code_checked.proofs.ChainForms.{ChainsLaw, chain_end, chain_binary, binary_form}

module _ (p : Prototype) (W : Whole p) (source : Option (List ℕ)) where
  abbrev pub AllExp : Exp → Type 1
  AllExp e = (H : Type 0) → ExpLaw p W source H e

  -- a first operand whose value is kept leads to the end of the second one
  either_law : (H : Type 0) (k : Bool) (e d : Exp) → KeepLaw p W source e → AllExp d → (t j pc size : ℕ) (cs : List Const) (rest : Prototypes) → ExpIsNear source p e size t → ExpIsNear source p d size t → size ≤ t
      → Grows (of_exp d (of_exp e cs)) p.own.constants → Functions p j (from_exp source e (from_exp source d rest))
      → Piece p H closed closed pc (keep_code p.own.constants e k (length (exp_code p.own.constants d t (j + made_by e) 2)) t j ++ exp_code p.own.constants d t (j + made_by e) 2)
  either_law H k e d keep_e law_d t j pc size cs rest near_e near_d le g fs =
      let second = exp_code p.own.constants d t (j + made_by e) 2 in
      let front = keep_code p.own.constants e k (length second) t j in
      let sum = length-append front second in
      let all : ℕ = length (front ++ second) in
      let G : Type 0 = H × (all < 2 ^ 24) × Land p (pc + all) in
      let inner : Piece p G closed closed pc (front ++ second) =
      both p
      (keep_e G k (length second) t j pc size (pc + all) cs (from_exp source d rest) near_e le (grows_then (of_exp e cs) (of_exp d (of_exp e cs)) p.own.constants (grows_exp d (of_exp e cs)) g) fs (λ h. let f = h.1 in omega (arith, f, sum)) (omega (arith, sum)) (λ h. h.2))
      (one_of_any p W source G d (law_d G) t (j + made_by e) (pc + length front) size (of_exp e cs) rest near_d le g (after_exp source p e j (from_exp source d rest) fs)) in
      shortly p W (ending p (pc + all) refl (supposing p (λ h. (h.0.0, h.0.1, h.1)) inner))

  and_form : (line : ℕ) (e d : Exp) → KeepLaw p W source e → AllExp d → AllExp (And line e d)
  and_form line e d keep_e law_d H t j c pc size cs rest near le cf g fs = either_law H false e d keep_e law_d t j pc size cs rest near.1.0 near.1.1 le g fs

  or_form : (line : ℕ) (e d : Exp) → KeepLaw p W source e → AllExp d → AllExp (Or line e d)
  or_form line e d keep_e law_d H t j c pc size cs rest near le cf g fs = either_law H true e d keep_e law_d t j pc size cs rest near.1.0 near.1.1 le g fs

  nil_form : (line : ℕ) → AllExp (Nil line)
  nil_form line H t j c pc size cs rest near le cf g fs = let r = near.0 in simple p LoadNil (simple_load_nil p) t 0 0 line (omega (arith, r)) (lit< tt) (lit< tt)

  true_form : (line : ℕ) → AllExp (True line)
  true_form line H t j c pc size cs rest near le cf g fs = let r = near.0 in simple p LoadTrue (simple_load_true p) t 0 0 line (omega (arith, r)) (lit< tt) (lit< tt)

  false_form : (line : ℕ) → AllExp (False line)
  false_form line H t j c pc size cs rest near le cf g fs = let r = near.0 in simple p LoadFalse (simple_load_false p) t 0 0 line (omega (arith, r)) (lit< tt) (lit< tt)

  integer_form : (line : ℕ) (z : ℤ) → AllExp (Int line z)
  integer_form line z H t j c pc size cs rest near le cf g fs =
      let r = near.0 in
      integer_piece p W z t line (omega (arith, r)) (λ e. is_in (IntConst z) (same_int z) cs p.own.constants (subst (λ b. Grows (cond b cs (with_constant (IntConst z) cs)) p.own.constants) e g))

  string_form : (line : ℕ) (bytes : List ℕ) → AllExp (Str line bytes)
  string_form line bytes H t j c pc size cs rest near le cf g fs =
      let r = near.0 in
      loads_piece p W (StrConst bytes) t line (omega (arith, r)) (is_in (StrConst bytes) (same_text bytes) cs p.own.constants g)

  vararg_form : (line : ℕ) → AllExp (Vararg line)
  vararg_form line H t j c pc size cs rest near le cf g fs = let r = near.0 in vararg_piece p (list_at c t) t c line (omega (arith, r)) cf near.1 (gives_at c t)

  variable_form : (line : ℕ) (name : Name) → AllExp (Var line name)
  variable_form line name H t j c pc size cs rest near le cf g fs = name_piece p W name.place name.text t line cs near.0 near.1 g

  table_form : (line : ℕ) (fields : Fields) → ((G : Type 0) → FieldsLaw p W source G fields) → AllExp (Table line fields)
  table_form line fields law H t j c pc size cs rest near le cf g fs =
      let r = near.0 in
      let code = fields_code p.own.constants fields 0 0 t j line in
      let below = positional_below p.own.constants fields 0 0 t j line in
      let all : ℕ = length (with_abc NewTable t 0 0 line ∷ (op_ax ExtraArg 0, line) ∷ code) in
      shortly p W (both p (table_piece p t line (omega (arith, r))) (law (H × (all < 2 ^ 24)) 0 0 t j line _ size cs rest (omega arith) (λ h. let short = h.1 in omega (arith, short, below)) near.1 le (omega (arith, r)) g fs))

  mutual
    pub exp_law : (e : Exp) (H : Type 0) → ExpLaw p W source H e
    exp_law (Nil line) H = nil_form line H
    exp_law (True line) H = true_form line H
    exp_law (False line) H = false_form line H
    exp_law (Int line z) H = integer_form line z H
    exp_law (Str line bytes) H = string_form line bytes H
    exp_law (Vararg line) H = vararg_form line H
    exp_law (Function line body) H = function_form p W source H line body
    exp_law (Var line name) H = variable_form line name H
    exp_law (Index line o k) H = index_form p W source H line o k (one_of_any p W source H o (exp_law o H)) (one_of_any p W source H k (exp_law k H))
    exp_law (Call line f es) H = call_form p W source H line f es (one_of_any p W source H f (exp_law f H)) (list_law es H)
    exp_law (Method line o name es) H = method_form p W source H line o name es (one_of_any p W source H o (exp_law o H)) (list_law es H)
    exp_law (Unary line op e) H = unary_form p W source H line op e (one_of_any p W source H e (exp_law e H))
    exp_law (Binary line op e d) H =
        binary_form p W source H line op e d (one_of_any p W source H e (exp_law e H)) (one_of_any p W source H d (exp_law d H)) (chain_law d H (one_of_any p W source H d (exp_law d H)) line)
    exp_law (And line e d) H = and_form line e d (kept_law e (λ G. one_of_any p W source G e (exp_law e G))) (λ G. exp_law d G) H
    exp_law (Or line e d) H = or_form line e d (kept_law e (λ G. one_of_any p W source G e (exp_law e G))) (λ G. exp_law d G) H
    exp_law (Paren line e) H = paren_form p W source H line e (one_of_any p W source H e (exp_law e H))
    exp_law (Table line fs) H = table_form line fs (λ G. fields_law fs G) H

    -- conditions, and first operands whose values are kept. The value's own law is given, since it is one of the same tree
    pub tested_law : (e : Exp) → OneAll p W source e → TestLaw p W source e
    tested_law (Paren line e) law = paren_law p W source line e (tested_law e (λ G. one_of_any p W source G e (exp_law e G)))
    tested_law (Unary line op e) law = not_law p W source line op e law (tested_law e (λ G. one_of_any p W source G e (exp_law e G)))
    tested_law (And line e d) law = and_law p W source e d (tested_law e (λ G. one_of_any p W source G e (exp_law e G))) (tested_law d (λ G. one_of_any p W source G d (exp_law d G))) line
    tested_law (Or line e d) law = or_law p W source e d (tested_law e (λ G. one_of_any p W source G e (exp_law e G))) (tested_law d (λ G. one_of_any p W source G d (exp_law d G))) line
    tested_law (Binary line op e d) law = binary_law p W source line op e d law (λ G. one_of_any p W source G e (exp_law e G)) (λ G. one_of_any p W source G d (exp_law d G))
    tested_law (True line) law = true_law p W source line
    tested_law e law = value_law p W source e law

    kept_law : (e : Exp) → OneAll p W source e → KeepLaw p W source e
    kept_law (Paren line e) law = paren_kept p W source line e (kept_law e (λ G. one_of_any p W source G e (exp_law e G)))
    kept_law (And line e d) law = and_kept p W source e d (tested_law e (λ G. one_of_any p W source G e (exp_law e G))) (kept_law e (λ G. one_of_any p W source G e (exp_law e G))) (kept_law d (λ G. one_of_any p W source G d (exp_law d G))) line
    kept_law (Or line e d) law = or_kept p W source e d (tested_law e (λ G. one_of_any p W source G e (exp_law e G))) (kept_law e (λ G. one_of_any p W source G e (exp_law e G))) (kept_law d (λ G. one_of_any p W source G d (exp_law d G))) line
    kept_law (Unary line op e) law = unary_kept p W source line op e law (tested_law e (λ G. one_of_any p W source G e (exp_law e G)))
    kept_law (Binary line op e d) law = binary_kept p W source line op e d law (λ G. one_of_any p W source G e (exp_law e G)) (λ G. one_of_any p W source G d (exp_law d G))
    kept_law e law = leaf_law p W source e law

    -- the right operand of a `..`, of which the law is known
    chain_law : (d : Exp) (H : Type 0) → OneLaw p W source H d → ChainsLaw p W source H d
    chain_law (Binary own op e d) H one =
        chain_binary p W source H own op e d (one_of_any p W source H e (exp_law e H)) (chain_law d H (one_of_any p W source H d (exp_law d H))) one
    chain_law d H one = λ line. chain_end p W source H d one line refl

    pub list_law : (es : Exps) (H : Type 0) → ListLaw p W source H es
    list_law EndExps H = no_list p W source H
    list_law (MoreExps e EndExps) H = last_list p W source H e (exp_law e H)
    list_law (MoreExps e (MoreExps d es)) H = more_list p W source H e d es (exp_law e H) (list_law (MoreExps d es) H)

    pub fields_law : (fs : Fields) (H : Type 0) → FieldsLaw p W source H fs
    fields_law EndFields H = no_fields p W source H
    fields_law (MoreFields (Item e) fs) H = more_item p W source H e fs (exp_law e H) (fields_law fs H)
    fields_law (MoreFields (Keyed line e d) fs) H = more_keyed p W source H line e d fs (one_of_any p W source H e (exp_law e H)) (one_of_any p W source H d (exp_law d H)) (fields_law fs H)

  pub one_law : (e : Exp) (H : Type 0) → OneLaw p W source H e
  one_law e H = one_of_any p W source H e (exp_law e H)

  pub values_law : (es : Exps) (H : Type 0) → ExactLaw p W source H es
  values_law EndExps H = no_values p W source H
  values_law (MoreExps e EndExps) H = last_values p W source H e (exp_law e H)
  values_law (MoreExps e (MoreExps d es)) H = more_values p W source H e d es (exp_law e H) (values_law (MoreExps d es) H)
