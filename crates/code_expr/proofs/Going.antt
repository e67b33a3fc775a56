-- Lists of expressions and fields that are written one by one.
use Rattle.std.proofs.Common.{arith, ℕ, suc, ◌+◌, ◌≡◌, ◌≤◌, ◌<◌, Bool, true, false, List, [], ◌∷◌, ◌++◌, refl, sym, ap, ◌∙◌, append_assoc, length, map, drop, None}
use Rattle.std.specs.Prelude.{slice_index_or, nat_eq, ◌&&◌}
use Rattle.std.proofs.lemmas.Bool.Decides.{nat_tests}
use Rattle.std.proofs.lemmas.List.{drop_more, drop_all, length-drop}
use Rattle.tree_core.specs.declared.tree.Exp.{Exp}
use Rattle.tree_core.specs.declared.tree.Field.{Field}
use Rattle.tree_core.specs.Tree as tree
use Rattle.tree_core.specs.Plain.{plain_exp, plain_exps, plain_field}
use Rattle.code_core.specs.declared.proto.Const.{Const}
use Rattle.code_core.specs.declared.opcode.Opcode.TheVariants.{NewTable, ExtraArg}
use Rattle.code_core.specs.Instruction.{op_ax}
use Rattle.code_of.specs.Coded.{Coded, with_abc}
use Rattle.code_of.specs.Operands.{local_of, seat, unless, operand_code}
use Rattle.code_of.specs.Operators.{self_code}
use Rattle.code_of.specs.Expressions.{Wanted, field_of, wanted_after, is_open, is_last_open, made_by, made_in, made_in_fields, made_by_field, exp_code, exps_code, fields_code, nils_code, waiting_code}
use Rattle.code_emitter.specs.Listing.{Listing, listed, followed}
use Rattle.code_expr.specs.declared.items.Items.{Items}
use Rattle.code_expr.specs.Parts.{field_where, wanted_where, so_many, items_behind, passed_code, method_code, keyed_code, field_code}
use Rattle.code_emitter.proofs.Joining.{after, after_listed, none_made, then_listed}

front : {X : Type 0} (xs : List X) (i : ℕ) (x : X) → i < length xs → x ≡ slice_index_or xs i x → drop i xs ≡ x ∷ drop (i + 1) xs
front xs i x h e = drop_more xs i x h ∙ ap (λ y. y ∷ drop (i + 1) xs) (sym e)

left_behind : {X : Type 0} (xs : List X) (i left : ℕ) → left + (i + 1) ≡ length xs → length (drop (i + 1) xs) ≡ left
left_behind xs i left h = length-drop (i + 1) xs ∙ omega (arith, h)

-- expressions

abbrev pub list_from : Listing → Wanted → (t line : ℕ) → tree.Exps → Listing
list_from s wanted t line es = followed s (exps_code s.constants es wanted t s.made line) (made_in es)

list_step :
    (s : Listing) (wanted : Wanted) (t line : ℕ) (e : tree.Exp) (es : tree.Exps)
    → list_from s wanted t line (tree.MoreExps e es) ≡ list_from (followed s (exp_code s.constants e t s.made (field_of e es wanted)) (made_by e)) (wanted_after e es wanted) (t + 1) line es
list_step s wanted t line e es =
    sym (after s (exp_code s.constants e t s.made (field_of e es wanted)) (made_by e) (exps_code s.constants es (wanted_after e es wanted) (t + 1) (s.made + made_by e) line) (made_in es))

not_none : (n : ℕ) → nat_eq (suc n) 0 ≡ false
not_none n = grind (arith, nat_tests)

last_open : (e : tree.Exp) (ys : List Exp) → is_last_open e (tree.exps (plain_exps ys)) ≡ (nat_eq (length ys) 0 && is_open e)
last_open e [] = refl
last_open e (y ∷ ys) = sym (ap (λ b. b && is_open e) (not_none (length ys)))

pub next_exp :
    (xs : List Exp) (i : ℕ) (x : Exp) (s r : Listing) (left t t' line field : ℕ) (wanted wanted' : Wanted) (whole : Bool) (all : Listing)
    → i < length xs → x ≡ slice_index_or xs i x → left + (i + 1) ≡ length xs
    → whole ≡ (nat_eq left 0 && is_open (plain_exp x)) → field ≡ field_where whole wanted
    → r ≡ followed s (exp_code s.constants (plain_exp x) t s.made field) (made_by (plain_exp x))
    → wanted' ≡ wanted_where whole wanted → t' ≡ t + 1
    → list_from s wanted t line (tree.exps (plain_exps (drop i xs))) ≡ all → list_from r wanted' t' line (tree.exps (plain_exps (drop (i + 1) xs))) ≡ all
next_exp xs i x s r left t t' line field wanted wanted' whole all h is size whole_is field_is r_is wanted_is t_is known =
    let es = tree.exps (plain_exps (drop (i + 1) xs)) in
    let decides : whole ≡ is_last_open (plain_exp x) es =
    whole_is ∙ sym (last_open (plain_exp x) (drop (i + 1) xs) ∙ ap (λ n. nat_eq n 0 && is_open (plain_exp x)) (left_behind xs i left size)) in
    ap (λ q. list_from q wanted' t' line es) r_is
    ∙ ap (λ f. list_from (followed s (exp_code s.constants (plain_exp x) t s.made f) (made_by (plain_exp x))) wanted' t' line es) (field_is ∙ ap (λ b. field_where b wanted) decides)
    ∙ ap (λ w. list_from (followed s (exp_code s.constants (plain_exp x) t s.made (field_of (plain_exp x) es wanted)) (made_by (plain_exp x))) w t' line es) (wanted_is ∙ ap (λ b. wanted_where b wanted) decides)
    ∙ ap (λ k. list_from (followed s (exp_code s.constants (plain_exp x) t s.made (field_of (plain_exp x) es wanted)) (made_by (plain_exp x))) (wanted_after (plain_exp x) es wanted) k line es) t_is
    ∙ sym (list_step s wanted t line (plain_exp x) es)
    ∙ sym (ap (λ l. list_from s wanted t line (tree.exps (plain_exps l))) (front xs i x h is))
    ∙ known

pub all_exps :
    (xs : List Exp) (i : ℕ) (s q : Listing) (t line : ℕ) (wanted : Wanted) (all : Listing)
    → length xs ≤ i → q ≡ listed s (nils_code wanted t line) → list_from s wanted t line (tree.exps (plain_exps (drop i xs))) ≡ all → q ≡ all
all_exps xs i s q t line wanted all h q_is known =
    q_is
    ∙ sym (none_made s (nils_code wanted t line))
    ∙ sym (ap (λ l. list_from s wanted t line (tree.exps (plain_exps l))) (drop_all i xs h))
    ∙ known

-- fields

abbrev pub fields_from : Listing → Items → (t line : ℕ) → tree.Fields → Listing
fields_from s n t line fs = followed s (fields_code s.constants fs n.stored n.waiting t s.made line) (made_in_fields fs)

abbrev is_none : tree.Fields → Bool
is_none tree.EndFields = true
is_none (tree.MoreFields f fs) = false

field_code_in :
    (k : List Const) (f : tree.Field) (fs : tree.Fields) (n : Items) (t j line : ℕ)
    → fields_code k (tree.MoreFields f fs) n.stored n.waiting t j line
    ≡ field_code k f (is_none fs) n t j line ++ fields_code k fs (items_behind f n).stored (items_behind f n).waiting t (j + made_by_field f) line
field_code_in k (tree.Item e) tree.EndFields n t j line = refl
field_code_in k (tree.Item e) (tree.MoreFields f fs) n t j line = refl
field_code_in k (tree.Keyed field_line e d) fs n t j line =
    let before = waiting_code n.stored n.waiting t line in
    let code = keyed_code k e d t j field_line in
    let sum : j + made_by e + made_by d ≡ j + (made_by e + made_by d) = omega arith in
    sym (append_assoc before code (fields_code k fs (n.stored + n.waiting) 0 t (j + made_by e + made_by d) line))
    ∙ ap (λ m. (before ++ code) ++ fields_code k fs (n.stored + n.waiting) 0 t m line) sum

field_step :
    (s : Listing) (n : Items) (t line : ℕ) (f : tree.Field) (fs : tree.Fields)
    → fields_from s n t line (tree.MoreFields f fs) ≡ fields_from (followed s (field_code s.constants f (is_none fs) n t s.made line) (made_by_field f)) (items_behind f n) t line fs
field_step s n t line f fs =
    ap (λ c. followed s c (made_by_field f + made_in_fields fs)) (field_code_in s.constants f fs n t s.made line)
    ∙ sym (after s (field_code s.constants f (is_none fs) n t s.made line) (made_by_field f)
    (fields_code s.constants fs (items_behind f n).stored (items_behind f n).waiting t (s.made + made_by_field f) line) (made_in_fields fs))

last_field : (ys : List Field) → is_none (tree.fields (map plain_field ys)) ≡ nat_eq (length ys) 0
last_field [] = refl
last_field (y ∷ ys) = sym (not_none (length ys))

pub next_field :
    (xs : List Field) (i : ℕ) (x : Field) (s r : Listing) (left : ℕ) (n m : Items) (t line : ℕ) (all : Listing)
    → i < length xs → x ≡ slice_index_or xs i x → left + (i + 1) ≡ length xs
    → r ≡ followed s (field_code s.constants (plain_field x) (nat_eq left 0) n t s.made line) (made_by_field (plain_field x))
    → m ≡ items_behind (plain_field x) n
    → fields_from s n t line (tree.fields (map plain_field (drop i xs))) ≡ all → fields_from r m t line (tree.fields (map plain_field (drop (i + 1) xs))) ≡ all
next_field xs i x s r left n m t line all h is size r_is items_are known =
    let fs = tree.fields (map plain_field (drop (i + 1) xs)) in
    let decides : nat_eq left 0 ≡ is_none fs = sym (last_field (drop (i + 1) xs) ∙ ap (λ n. nat_eq n 0) (left_behind xs i left size)) in
    ap (λ q. fields_from q m t line fs) r_is
    ∙ ap (λ b. fields_from (followed s (field_code s.constants (plain_field x) b n t s.made line) (made_by_field (plain_field x))) m t line fs) decides
    ∙ ap (λ y. fields_from (followed s (field_code s.constants (plain_field x) (is_none fs) n t s.made line) (made_by_field (plain_field x))) y t line fs) items_are
    ∙ sym (field_step s n t line (plain_field x) fs)
    ∙ sym (ap (λ l. fields_from s n t line (tree.fields (map plain_field l))) (front xs i x h is))
    ∙ known

pub all_fields :
    (xs : List Field) (i : ℕ) (s q : Listing) (n : Items) (t line : ℕ) (all : Listing)
    → length xs ≤ i → q ≡ listed s (waiting_code n.stored n.waiting t line) → fields_from s n t line (tree.fields (map plain_field (drop i xs))) ≡ all → q ≡ all
all_fields xs i s q n t line all h q_is known =
    q_is
    ∙ sym (none_made s (waiting_code n.stored n.waiting t line))
    ∙ sym (ap (λ l. fields_from s n t line (tree.fields (map plain_field l))) (drop_all i xs h))
    ∙ known

-- a constructor: its table, and then its fields

abbrev pub opened : Listing → (t line : ℕ) → Listing
opened s t line = listed (listed s (with_abc NewTable t 0 0 line ∷ [])) ((op_ax ExtraArg 0, line) ∷ [])

pub table_written : (s q : Listing) (t line : ℕ) (fs : tree.Fields) → q ≡ fields_from (opened s t line) (so_many 0 0) t line fs → q ≡ followed s (exp_code s.constants (tree.Table line fs) t s.made 2) (made_in_fields fs)
table_written s q t line fs written =
    let table = with_abc NewTable t 0 0 line ∷ [] in
    let extra = (op_ax ExtraArg 0, line) ∷ [] in
    let code = fields_code s.constants fs 0 0 t s.made line in
    written ∙ after_listed (listed s table) extra code (made_in_fields fs) ∙ after_listed s table (extra ++ code) (made_in_fields fs)

-- what is called and its arguments, and then the instructions of the call

module _ (s r q : Listing) (e : tree.Exp) (es : tree.Exps) (t line : ℕ) (last : List Coded) where
  abbrev made : ℕ
  made = made_by e + made_in es

  pub called_written : r ≡ followed s (passed_code s.constants e es t s.made line) made → q ≡ listed r last
      → q ≡ followed s (exp_code s.constants e t s.made 2 ++ (exps_code s.constants es None (t + 1) (s.made + made_by e) line ++ last)) made
  called_written passed put =
      let first = exp_code s.constants e t s.made 2 in
      let rest = exps_code s.constants es None (t + 1) (s.made + made_by e) line in
      then_listed s r q (first ++ rest) made (λ k. last) passed put ∙ ap (λ code. followed s code made) (append_assoc first rest last)

  pub method_written : (name : List ℕ) → r ≡ followed s (method_code s.constants e name es t s.made line) made → q ≡ listed r last
      → q ≡ followed s (operand_code (local_of e) (exp_code s.constants e t s.made 2) t (λ x. self_code s.constants name x t line ++ (exps_code s.constants es None (t + 2) (s.made + made_by e) line ++ last))) made
  method_written name passed put =
      let first = unless (local_of e) (exp_code s.constants e t s.made 2) in
      let found = self_code s.constants name (seat (local_of e) t) t line in
      let rest = exps_code s.constants es None (t + 2) (s.made + made_by e) line in
      then_listed s r q (first ++ (found ++ rest)) made (λ k. last) passed put
      ∙ ap (λ code. followed s code made) (append_assoc first (found ++ rest) last ∙ ap (λ code. first ++ code) (append_assoc found rest last))
