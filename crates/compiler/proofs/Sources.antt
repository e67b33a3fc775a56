-- The code of a source's tree keeps the rules on code, loses nothing in the words, and means the tree.
use Rattle.std.proofs.Common.{arith, ◌≡◌, ℕ, ◌≤◌, Bool, true, false, List, length, Option, Some, None, refl, sym, ap, subst, ◌∙◌}
use Rattle.std.specs.Prelude.{IsTrue}
use Rattle.std.proofs.lemmas.Bool.{le-leb}
use Rattle.int_core.specs.Value.{greatest_string}
use Rattle.scope_core.specs.declared.resolved.Resolved.{Resolved}
use Rattle.tree_core.specs.Plain.{plain_body}
use Rattle.code_core.specs.Prototype.{Prototype}
use Rattle.code_core.specs.Check.{IsChecked}
use Rattle.code_core.specs.Writable.{name_fits}
use Rattle.code_means.specs.Means.{Means}
use Rattle.code_of.specs.CodeOf.{code_of}
use Rattle.code_parts.specs.Assembled.{low_prototype}
use Rattle.stat_laws.specs.Fits.{is_known}
use Rattle.source_laws.proofs.Checked.{source_checked}
use Rattle.source_laws.proofs.Meaning.{source_means}
use Rattle.compiler.specs.Source.{IsOfSource, name_where}
use Rattle.compiler.proofs.Fitting.{low_checked}

known_where : (lines : Bool) (source : List ℕ) → is_known (name_where lines source) ≡ lines
known_where true source = refl
known_where false source = refl

named_fits : (lines : Bool) (source : List ℕ) → length source ≤ greatest_string → IsTrue (name_fits (name_where lines source))
named_fits true source few = le-leb (length source) greatest_string few
named_fits false source few = refl

module _ (r : Resolved) (s : IsOfSource r) (lines : Bool) (source : List ℕ) (few : length source ≤ greatest_string) where
  is_checked : IsChecked (code_of (name_where lines source) (plain_body r.main))
  is_checked =
      subst (λ b. IsChecked (code_of (name_where lines source) b)) (sym s.resolves.1)
      (source_checked s.source s.tokens s.tree s.limited s.lexed s.derived s.resolves.0 (name_where lines source) (named_fits lines source few))

  module _ (name : Option (List ℕ)) (is : name ≡ name_where lines source) (p : Prototype) (made : p ≡ low_prototype (code_of name (plain_body r.main))) where
    pub made_whole : p ≡ code_of (name_where lines source) (plain_body r.main)
    made_whole = made ∙ ap (λ n. low_prototype (code_of n (plain_body r.main))) is ∙ low_checked (code_of (name_where lines source) (plain_body r.main)) is_checked

    pub made_checked : IsChecked p
    made_checked = subst IsChecked (sym made_whole) is_checked

    pub made_means : Means lines p (plain_body r.main)
    made_means =
        subst (λ q. Means lines q (plain_body r.main)) (sym made_whole)
        (subst (λ b. Means b (code_of (name_where lines source) (plain_body r.main)) (plain_body r.main)) (known_where lines source)
        (subst (λ b. Means (is_known (name_where lines source)) (code_of (name_where lines source) b) b) (sym s.resolves.1)
        (source_means s.source s.tokens s.tree s.limited s.lexed s.derived s.resolves.0 (name_where lines source))))
