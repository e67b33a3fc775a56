-- What `load` comes to is alike where sources are built alike.
use Rattle.std.proofs.Common.{◌≡◌, ℕ, Bool, true, false, cond, List, ◌++◌, refl, ap₂}
use Rattle.std.specs.Prelude.{Result, Ok, Err, codes}
use Rattle.int_core.specs.Value.{Shape}
use Rattle.library_rows.specs.Arguments.{text_argument, text_or}
use Rattle.load_rows.specs.Loading.{Built, built, refused_at, Builds, Loaded, wrong, not_loaded, loaded, fitted, why_refused, after_building, admits_sources, is_binary, builds_source, with_text, load_of, load_name}
use Rattle.runs_alike.specs.Alike.{BuiltAlike, BuildsAlike}

module _ {A B : Type 0} (R : Bool → A → B → Type 0) where
  abbrev pub LoadedAlike : Loaded A → Loaded B → Type 0
  LoadedAlike (wrong e) (wrong d) = e ≡ d
  LoadedAlike (not_loaded e) (not_loaded d) = e ≡ d
  LoadedAlike (loaded name a) (loaded other b) = (name ≡ other) × R true a b
  LoadedAlike _ _ = ⊥

  built_alike : (name : List ℕ) (x : Built A) (y : Built B) → BuiltAlike R x y → LoadedAlike (after_building name x) (after_building name y)
  built_alike name (built a) (built b) like = (refl, like)
  built_alike name (refused_at line rule) (refused_at l r) like = ap₂ (λ l r. fitted (why_refused name l r)) like.0 like.1
  built_alike name (built a) (refused_at l r) like = absurd like
  built_alike name (refused_at line rule) (built b) like = absurd like

  text_alike : (r : Result (List ℕ) (List ℕ)) (f : List ℕ → Loaded A) (g : List ℕ → Loaded B) → ((text : List ℕ) → LoadedAlike (f text) (g text)) → LoadedAlike (with_text r f) (with_text r g)
  text_alike (Ok text) f g more = more text
  text_alike (Err error) f g more = refl

  module _ (ba : Builds A) (bb : Builds B) (all : BuildsAlike R ba bb) where
    source_alike : (name mode source : List ℕ) → LoadedAlike (builds_source ba name mode source) (builds_source bb name mode source)
    source_alike name mode source = by (admits_sources mode) (is_binary source)
      where
        by : (x y : Bool) → LoadedAlike (cond x (cond y (not_loaded (codes "binary chunks are not loaded")) (after_building name (ba name source))) (not_loaded (fitted (codes "attempt to load a text chunk (mode is '" ++ mode ++ codes "')"))))
            (cond x (cond y (not_loaded (codes "binary chunks are not loaded")) (after_building name (bb name source))) (not_loaded (fitted (codes "attempt to load a text chunk (mode is '" ++ mode ++ codes "')"))))
        by true true = refl
        by true false = built_alike name (ba name source) (bb name source) (all name source)
        by false y = refl

    pub load_alike : (chunk name mode : Shape) → LoadedAlike (load_of ba chunk name mode) (load_of bb chunk name mode)
    load_alike chunk name mode =
        text_alike (text_argument load_name 1 chunk) _ _ (λ source. text_alike (text_or (codes "[string]") load_name 2 name) _ _ (λ given. text_alike (text_or (codes "bt") load_name 3 mode) _ _ (λ admitted. source_alike (fitted given) admitted source)))
