-- The code of a function stands in its prototype, with its lines.
use Rattle.std.proofs.Common.{◌≡◌, ℕ, ◌+◌, cond, List, [], ◌∷◌, ◌++◌, length, slice_get, Some, None, refl, sym, ap, subst, ◌∙◌, arith, append_assoc}
use Rattle.std.specs.Prelude.{option_map}
use Rattle.std.proofs.lemmas.Option.{slice_get-map}
use Rattle.machine_core.specs.Moves.{line_of}
use Rattle.list_laws.proofs.Items.{length_more}
use Rattle.code_of.specs.Coded.{Coded, words}
use Rattle.exp_laws.specs.Setting.{Setting}
use Rattle.exp_laws.proofs.Placing.{HasAt}

get_seam : {A : Type 0} (front : List A) (x : A) (rest : List A) → slice_get (front ++ x ∷ rest) (length front) ≡ Some x
get_seam [] x rest = refl
get_seam (y ∷ front) x rest = get_seam front x rest

module _ (S : Setting) where
  -- code and lines of the whole function
  pub has_all : (front code : List Coded) → S.code.own.code ≡ words (front ++ code) → ((i : ℕ) (x : Coded) → slice_get (front ++ code) i ≡ Some x → line_of S.code i ≡ cond S.lines (Some x.1) None) → HasAt S (length front) code
  has_all front [] whole lined = tt
  has_all front (x ∷ code) whole lined =
      let here = get_seam front x code in
      let same : (front ++ x ∷ []) ++ code ≡ front ++ x ∷ code = append_assoc front (x ∷ []) code in
      let next : length (front ++ x ∷ []) ≡ length front + 1 = (let l = length_more front x in omega (arith, l)) in (
        ap (λ w. slice_get w (length front)) whole ∙ slice_get-map (λ y. y.0) (front ++ x ∷ code) (length front) ∙ ap (option_map (λ y. y.0)) here,
        (
          lined (length front) x here,
          subst (λ q. HasAt S q code) next (has_all (front ++ x ∷ []) code (whole ∙ ap words (sym same)) (λ i y e. lined i y (ap (λ l. slice_get l i) (sym same) ∙ e))),
        ),
      )
