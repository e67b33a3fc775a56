-- The libraries' tables do not hang on the code of the prelude's functions.
use Rattle.std.proofs.Common.{◌≡◌, ℕ, suc, List, [], ◌∷◌, ◌++◌, length, refl, ap, arith}
use Rattle.std.specs.Prelude.{filter}
use Rattle.int_core.specs.Heap.{Table}
use Rattle.int_core.specs.Value.{Value, a_function, object}
use Rattle.code_core.specs.Prototype.{Prototype}
use Rattle.library_rows.specs.Library.{Library, Entry, entry}
use Rattle.library_rows.specs.PreludeText.{prelude_functions}
use Rattle.lua_meaning.specs.Libraries.{constant_values, primitive_values, functions_from, table_of, is_in, library_table, first_of_each, environment}
use Rattle.lua_meaning.specs.Opening.{entries_of, prelude_of}

-- the prelude's functions as values
abbrev pub functions_named : ℕ → List (List ℕ × Library) → List (Entry Value)
functions_named n [] = []
functions_named n (f ∷ fs) = entry f.1 f.0 (object a_function n) ∷ functions_named (suc n) fs

functions_are : (n : ℕ) (fs : List (List ℕ × Library)) (codes : List Prototype) → length codes ≡ length fs → functions_from n (entries_of fs codes) ≡ functions_named n fs
functions_are n [] codes h = refl
functions_are n (f ∷ fs) [] h = absurd (omega (arith, h))
functions_are n (f ∷ fs) (p ∷ ps) h = ap (λ l. entry f.1 f.0 (object a_function n) ∷ l) (functions_are (suc n) fs ps (omega (arith, h)))

abbrev pub library_named : Library → Table
library_named library = table_of (filter (is_in library) (constant_values ++ (primitive_values ++ functions_named 0 prelude_functions)))

pub library_is : (library : Library) (codes : List Prototype) → length codes ≡ length prelude_functions → library_table library (prelude_of codes) ≡ library_named library
unfolding library_table
library_is library codes h = ap (λ l. table_of (filter (is_in library) (constant_values ++ (primitive_values ++ l)))) (functions_are 0 prelude_functions codes h)

abbrev pub environment_named : Table
environment_named = table_of (first_of_each [] (primitive_values ++ functions_named 0 prelude_functions))

pub environment_is : (codes : List Prototype) → length codes ≡ length prelude_functions → environment (prelude_of codes) ≡ environment_named
unfolding environment
environment_is codes h = ap (λ l. table_of (first_of_each [] (primitive_values ++ l))) (functions_are 0 prelude_functions codes h)
