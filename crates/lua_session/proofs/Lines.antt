-- The texts of values, one after another.
use Rattle.std.proofs.Common.{ℕ, zero, suc, ◌≡◌, List, [], ◌∷◌, ◌++◌, length, Some, refl, ap, sym, ◌∙◌}
use Rattle.std.proofs.lemmas.List.{append_assoc}
use Rattle.std.specs.Prelude.{map, drop, slice_get, slice_index_or, codes}
use Rattle.int_core.specs.Value.{Value}
use Rattle.lua_meaning.specs.Meaning.{report_text, report_values}
use Rattle.table_core.specs.declared.value.Value.{Value as Kept}
use Rattle.table_core.specs.declared.value.Value.TheVariants.{Nil}
use Rattle.lua_stack.proofs.Parts.{drop_there}
use Rattle.lua_heap.specs.Errors.{HasText}
use Rattle.lua_session.specs.Report.{HaveTexts}

-- one value is written, and the others are left
pub one_less : (f : Kept → Value) (vs : List Kept) (n : ℕ) (v : Kept) (line new : List ℕ) → slice_get vs n ≡ Some v → new ≡ line ++ codes "\t" ++ report_text (f v)
    → new ++ report_values (map f (drop (suc n) vs)) ≡ line ++ report_values (map f (drop n vs))
one_less f vs n v line new e w =
    let left = report_values (map f (drop (suc n) vs)) in
    ap (λ new. new ++ left) (w ∙ append_assoc line (codes "\t") (report_text (f v)))
    ∙ append_assoc line (codes "\t" ++ report_text (f v)) left
    ∙ sym (ap (λ l. line ++ report_values (map f l)) (drop_there vs n v e))

pub texts_from : (texts : List (List ℕ)) (vs : List Kept) (n : ℕ) → HaveTexts texts vs → HaveTexts texts (drop n vs)
texts_from texts vs zero h = h
texts_from texts [] (suc n) h = h
texts_from texts (v ∷ vs) (suc n) h = texts_from texts vs n h.1

pub text_at : (texts : List (List ℕ)) (vs : List Kept) (n : ℕ) → HaveTexts texts vs → HasText texts (slice_index_or vs n Nil)
text_at texts [] n h = tt
text_at texts (v ∷ vs) zero h = h.0
text_at texts (v ∷ vs) (suc n) h = text_at texts vs n h.1

pub none_left : (f : Kept → Value) (vs : List Kept) → report_values (map f (drop (length vs) vs)) ≡ codes "\n"
none_left f [] = refl
none_left f (v ∷ vs) = none_left f vs
