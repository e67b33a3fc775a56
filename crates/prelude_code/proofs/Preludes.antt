-- A source has one code, and so has the prelude's text.
use Rattle.std.proofs.Common.{◌≡◌, ◌≢◌, ℕ, suc, Bool, true, false, List, [], ◌∷◌, ◌++◌, length, map, Bor, refl, sym, ap, ◌∙◌}
use Rattle.std.proofs.lemmas.List.{length-map}
use Rattle.code_core.specs.Prototype.{Prototype, prototypes, list_of}
use Rattle.code_of.specs.CodeOf.{code_of}
use Rattle.compile_chunk.specs.Chunk.{IsCodeOf}
use Rattle.compiler.specs.Source.{name_where}
use Rattle.library_rows.specs.Library.{Library, library_name}
use Rattle.library_rows.specs.PreludeText.{function_keys, prelude_functions, prelude_text}
use Rattle.scope_core.specs.Places.{placed}
use Rattle.prelude_guard.specs.Checks.{all_guarded}
use Rattle.prelude_code.specs.Prelude.{IsPreludeCode}

pub code_once : (name source : List ℕ) (lines : Bool) (a b : Prototype) → IsCodeOf name source lines a → IsCodeOf name source lines b → a ≡ b
code_once name source lines a b first second =
    let trees : first.tree ≡ second.tree = second.is_source.only first.tree first.is_source.has_tree in
    first.code_is ∙ ap (λ t. code_of (name_where lines name) (placed t)) trees ∙ sym second.code_is

pub prelude_once : (code other : Prototype) → IsPreludeCode code → IsPreludeCode other → code ≡ other
prelude_once code other first second = code_once [] prelude_text false code other first.compiled second.compiled

-- where the code has another number of functions, no code of the text is that of a prelude
pub no_prelude : (code : Prototype) → IsCodeOf [] prelude_text false code → length (list_of code.inner) ≢ length prelude_functions → (other : Prototype) → IsPreludeCode other → ⊥
no_prelude code compiled differ other own = differ (ap (λ p. length (list_of p.inner)) (code_once [] prelude_text false code other compiled own.compiled) ∙ own.functions)

-- and where a function does not keep its environment to itself
pub no_guard : (code : Prototype) → IsCodeOf [] prelude_text false code → all_guarded code ≡ false → (other : Prototype) → IsPreludeCode other → ⊥
no_guard code compiled unguarded other own =
    let same = code_once [] prelude_text false code other compiled own.compiled in
    let both : true ≡ false = sym own.guarded ∙ sym (ap all_guarded same) ∙ unguarded in
    cc

listed_count : (ps : List Prototype) → length (list_of (prototypes ps)) ≡ length ps
listed_count [] = refl
listed_count (p ∷ ps) = ap (λ n. suc n) (listed_count ps)

-- so many functions are defined in the code
pub counted : (ps : List Prototype) (n m : ℕ) (p q : Prototype) → n ≡ m → m ≡ length ps → p ≡ q → p.inner ≡ prototypes ps → n ≡ length (list_of q.inner)
counted ps n m p q a b e f = a ∙ b ∙ sym (listed_count ps) ∙ ap (λ ps. length (list_of ps)) (sym f) ∙ ap (λ (p : Prototype). length (list_of p.inner)) e

pub named : (names : List (Bor (List ℕ))) → map (λ (name : Bor (List ℕ)). name.now) names ≡ function_keys → length names ≡ length prelude_functions
named names are = sym (length-map names (λ (name : Bor (List ℕ)). name.now)) ∙ ap (λ (keys : List (List ℕ)). length keys) are ∙ length-map prelude_functions (λ (f : List ℕ × Library). library_name f.1 ++ f.0)
