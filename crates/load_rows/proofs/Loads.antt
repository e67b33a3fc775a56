-- What holds of all that `load` may come to: the texts and names in it are no longer than a string may be.
use Rattle.std.proofs.Common.{ℕ, ◌≡◌, ◌≤◌, Bool, true, false, cond, List, ◌++◌, length, refl, arith}
use Rattle.std.specs.Prelude.{Result, Ok, Err, nat_le, codes}
use Rattle.std.proofs.lemmas.Bool.Decides.{nat_tests}
use Rattle.int_core.specs.Value.{Shape, greatest_string}
use Rattle.int_core.specs.Limits.{string_fits}
use Rattle.library_rows.specs.Arguments.{text_argument, text_or}
use Rattle.library_rows.specs.Plainly.{too_large}
use Rattle.load_rows.specs.Loading.{Built, built, refused_at, Builds, Loaded, wrong, not_loaded, loaded, fitted, why_refused, after_building, admits_sources, is_binary, builds_source, with_text, load_of, load_name}

within : (a b : ℕ) → nat_le a b ≡ true → a ≤ b
within a b h = grind (arith, nat_tests)

pub fitted_is_short : (text : List ℕ) → length (fitted text) ≤ greatest_string
fitted_is_short text = pick (string_fits text) refl
  where
    pick : (b : Bool) → string_fits text ≡ b → length (cond b text too_large) ≤ greatest_string
    pick true e = within (length text) greatest_string e
    pick false e = within _ greatest_string refl

module _ {F : Type 0} (P : Loaded F → Type 0) (builds : Builds F) (wrongs : (error : List ℕ) → P (wrong error)) (not_loads : (why : List ℕ) → length why ≤ greatest_string → P (not_loaded why))
    (loads : (name source : List ℕ) (f : F) → length name ≤ greatest_string → builds name source ≡ built f → P (loaded name f)) where
  of_built : (name source : List ℕ) → length name ≤ greatest_string → (b : Built F) → builds name source ≡ b → P (after_building name b)
  of_built name source l (built f) e = loads name source f l e
  of_built name source l (refused_at line rule) e = not_loads (fitted (why_refused name line rule)) (fitted_is_short (why_refused name line rule))

  of_source : (name mode source : List ℕ) → length name ≤ greatest_string → P (builds_source builds name mode source)
  of_source name mode source l = by (admits_sources mode) (is_binary source)
    where
      by : (a b : Bool) → P (cond a (cond b (not_loaded (codes "binary chunks are not loaded")) (after_building name (builds name source))) (not_loaded (fitted (codes "attempt to load a text chunk (mode is '" ++ mode ++ codes "')"))))
      by true true = not_loads (codes "binary chunks are not loaded") (within _ greatest_string refl)
      by true false = of_built name source l (builds name source) refl
      by false b = not_loads (fitted (codes "attempt to load a text chunk (mode is '" ++ mode ++ codes "')")) (fitted_is_short (codes "attempt to load a text chunk (mode is '" ++ mode ++ codes "')"))

  of_text : (r : Result (List ℕ) (List ℕ)) (k : List ℕ → Loaded F) → ((text : List ℕ) → P (k text)) → P (with_text r k)
  of_text (Ok text) k f = f text
  of_text (Err error) k f = wrongs error

  pub load_is : (chunk name mode : Shape) → P (load_of builds chunk name mode)
  load_is chunk name mode =
      of_text (text_argument load_name 1 chunk) _ (λ source. of_text (text_or (codes "[string]") load_name 2 name) _ (λ given. of_text (text_or (codes "bt") load_name 3 mode) _ (λ admitted.
      of_source (fitted given) admitted source (fitted_is_short given))))
