-- What `load` comes to (Lua 5.4 manual, 6.1): by its arguments, and by what each source is built to. Which source is built to what is left open, since
-- a source is built to a tree where trees run, and to code where code does.
use Rattle.std.specs.Prelude.{ℕ, Bool, false, cond, List, [], ◌∷◌, ◌++◌, Option, Some, None, Result, Ok, Err, nat_eq, codes, decimal}
use Rattle.std.specs.List.{list_any}
use Rattle.int_core.specs.Value.{Shape}
use Rattle.int_core.specs.Limits.{string_fits, position}
use Rattle.library_rows.specs.Arguments.{text_argument, text_or}
use Rattle.library_rows.specs.Plainly.{too_large}

-- what a function is made of, or the line at which a source is refused, and the static rule where it is one of these
pub data Built (F : Type 0) : Type 0 where
  built : F → Built F
  refused_at : (line : ℕ) → (rule : Option ℕ) → Built F

-- what each source is built to under each name
abbrev pub Builds : Type 0 → Type 0
Builds F = (name source : List ℕ) → Built F

-- an argument is wrong; nothing is loaded, and this is why; or a function of a source of this name
pub data Loaded (F : Type 0) : Type 0 where
  wrong : (error : List ℕ) → Loaded F
  not_loaded : (why : List ℕ) → Loaded F
  loaded : (name : List ℕ) → F → Loaded F

-- a text that is too long for a string gives another one
abbrev pub fitted : List ℕ → List ℕ
fitted text = cond (string_fits text) text too_large

abbrev pub by_rule : Option ℕ → List ℕ
by_rule None = []
by_rule (Some rule) = codes " by rule " ++ decimal rule

abbrev pub why_refused : (name : List ℕ) → (line : ℕ) → (rule : Option ℕ) → List ℕ
why_refused name line rule = position name line ++ codes "source refused" ++ by_rule rule

abbrev pub after_building : {F : Type 0} → (name : List ℕ) → Built F → Loaded F
after_building name (built f) = loaded name f
after_building name (refused_at line rule) = not_loaded (fitted (why_refused name line rule))

-- a mode with a `t` admits sources
abbrev pub admits_sources : (mode : List ℕ) → Bool
admits_sources mode = list_any (λ byte. nat_eq byte 116) mode

-- a binary chunk begins with the byte 27
abbrev pub is_binary : List ℕ → Bool
is_binary [] = false
is_binary (byte ∷ bytes) = nat_eq byte 27

abbrev pub builds_source : {F : Type 0} → Builds F → (name mode source : List ℕ) → Loaded F
builds_source builds name mode source =
    cond (admits_sources mode)
    (cond (is_binary source) (not_loaded (codes "binary chunks are not loaded")) (after_building name (builds name source)))
    (not_loaded (fitted (codes "attempt to load a text chunk (mode is '" ++ mode ++ codes "')")))

abbrev pub with_text : {F : Type 0} → Result (List ℕ) (List ℕ) → (List ℕ → Loaded F) → Loaded F
with_text (Ok text) k = k text
with_text (Err error) k = wrong error

abbrev pub load_name : List ℕ
load_name = codes "load"

-- the arguments in their order: the source, its name, and the mode
abbrev pub load_of : {F : Type 0} → Builds F → (chunk name mode : Shape) → Loaded F
load_of builds chunk name mode =
    with_text (text_argument load_name 1 chunk) (λ source.
    with_text (text_or (codes "[string]") load_name 2 name) (λ given.
    with_text (text_or (codes "bt") load_name 3 mode) (λ admitted.
    builds_source builds (fitted given) admitted source)))
