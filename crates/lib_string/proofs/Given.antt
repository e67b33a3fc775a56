-- A match as `seek` gives it.
use Rattle.std.proofs.Common.{◌≡◌, ◌+◌, Bool, true, false, List, ◌∷◌, Some, Ok, sym, ap, ◌∙◌}
use Rattle.std.specs.Prelude.{ℕ, pos, cond}
use Rattle.std.specs.List.{list_all}
use Rattle.int_core.specs.Value.{Plain as Known}
use Rattle.library_rows.specs.Look.{Look, refuses}
use Rattle.library_rows.specs.Plainly.{fits_length, too_large}
use Rattle.library_rows.specs.Searches.{Hit as Found, captured_or_whole, gives_hit, whole}
use Rattle.lib_string.specs.Searches.{gives_values}

abbrev by_fit : Look → Bool → Look
by_fit row b = elim b as (λ _. Look) [ true ↦ row | false ↦ refuses too_large ]

module _ (s : List ℕ) (hit : Found) (values : List Known) (e : values ≡ whole s hit ∷ captured_or_whole s hit) where
  pub given_fits : list_all fits_length values ≡ true → gives_hit s (Ok (Some hit)) ≡ gives_values (pos (hit.start + 1)) (pos (hit.end + 1)) values
  given_fits fit =
      ap (by_fit (gives_values (pos (hit.start + 1)) (pos (hit.end + 1)) (whole s hit ∷ captured_or_whole s hit))) (ap (list_all fits_length) (sym e) ∙ fit)
      ∙ ap (gives_values (pos (hit.start + 1)) (pos (hit.end + 1))) (sym e)

  pub given_is_refused : list_all fits_length values ≡ false → gives_hit s (Ok (Some hit)) ≡ refuses too_large
  given_is_refused fit = ap (by_fit (gives_values (pos (hit.start + 1)) (pos (hit.end + 1)) (whole s hit ∷ captured_or_whole s hit))) (ap (list_all fits_length) (sym e) ∙ fit)
