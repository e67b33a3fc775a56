-- The code of the prelude's functions, by their keys.
use Rattle.std.proofs.Common.{◌≡◌, ℕ, List, [], length, Some, ap, sym, ◌∙◌, refl, arith}
use Rattle.std.specs.Prelude.{slice_get, option_map}
use Rattle.code_core.specs.Prototype.{Prototype}
use Rattle.int_core.specs.Value.{a_function, Value, object}
use Rattle.library_rows.specs.Library.{Entry}
use Rattle.library_rows.specs.PreludeText.{function_keys}
use Rattle.lua_meaning.specs.Libraries.{environment_table}
use Rattle.machine_core.specs.World.{Function}
use Rattle.machine_runs.specs.Opening.{opening}
use Rattle.machine_alike.specs.Agree.{Pairs, SameValue, same_object}
use Rattle.image_core.specs.Image.{PermKey, permanent}
use Rattle.image_core.specs.Loading.{Target}
use Rattle.image_core.specs.Records.{key_of}
use Rattle.image_saved.specs.Permanents.{object_named, NamesAreRead}
use Rattle.session_images.specs.Permanents.{base_permanents}
use Rattle.session_images.specs.Saved.{prelude_pairs}
use Rattle.session_images.proofs.Keys.{base_inverse}
use Rattle.session_images.proofs.Prelude.{opening_has_prelude}
use Rattle.session_images.proofs.Same.{below_is}
use Rattle.eris_read.specs.Unpersist.{code_of}
use Rattle.sessions_load.specs.Law.{PreludesAreKnown}

-- what a session is read into, as far as names go
abbrev names : Target
names = record {
  tables = 0;
  functions = 0;
  coroutines = 0;
  cells = 0;
  named = λ kind key. object_named base_permanents key;
  environment = environment_table;
}

abbrev keyed_pairs : Pairs
keyed_pairs = prelude_pairs (length function_keys)

paired_is : (n : ℕ) (v : Value) → SameValue keyed_pairs (object a_function n) v → v ≡ object a_function n
paired_is n _ (same_object _ _ m s) = ap (object a_function) (sym (below_is (length function_keys) n m s).1)

-- the key of a function stands for the function
keyed : NamesAreRead → (n : ℕ) (key : PermKey) → key_of base_permanents (object a_function n) ≡ Some key → object_named base_permanents key ≡ object a_function n
keyed law n key e =
    paired_is n (object_named base_permanents key)
    (law keyed_pairs environment_table names base_permanents base_permanents (base_inverse (length function_keys) (omega arith)) (record { named = λ kind key. refl; environments = refl }) (object a_function n) (permanent a_function key)
    (ap (option_map (permanent a_function)) e) [])

code_there : (prelude : List (Entry Prototype)) (n : ℕ) (e : Entry Prototype) → slice_get prelude n ≡ Some e → code_of (opening prelude) (object a_function n) ≡ Some e.entry
code_there prelude n e there = ap (option_map (λ (f : Function). f.code)) ((opening_has_prelude prelude).known.functions n e there)

pub preludes_are_known : NamesAreRead → PreludesAreKnown
preludes_are_known law prelude = record { codes = λ n e key there is. ap (code_of (opening prelude)) (keyed law n key is) ∙ code_there prelude n e there }
