-- The session of an image has the prelude of the world that it was loaded into.
use Rattle.std.proofs.Common.{arith, ℕ, zero, suc, ◌+◌, ◌≡◌, ◌<◌, ◌≤◌, List, [], ◌∷◌, ◌++◌, Option, Some, None, refl, subst, sym, ⊎_elim, length, map}
use Rattle.std.specs.Prelude.{ℤ, slice_get}
use Rattle.code_core.specs.Prototype.{Prototype}
use Rattle.int_core.specs.Value.{Plain, nil, boolean, integer, string, primitive, a_table, a_function, a_coroutine, Value, known, object}
use Rattle.library_rows.specs.Library.{Entry}
use Rattle.lua_meaning.specs.Libraries.{environment_table, environment}
use Rattle.machine_core.specs.World.{Function, Cell, closed, World}
use Rattle.machine_sound.proofs.Lists.{get_within, get_push_old, map_get}
use Rattle.machine_runs.specs.Opening.{prelude_function, opening}
use Rattle.image_core.specs.Image.{Image, Record, table_record, function_record, closed_record, open_record, fresh_record, suspended_record, dead_record, failed_record, no_record}
use Rattle.image_core.specs.Loading.{Target, new_cell, value_made, table_made, function_made, coroutine_made, cell_made, chosen, loaded}
use Rattle.image_core.proofs.Lists.{get_split, none_some}
use Rattle.image_load.specs.Session.{with_roots}
use Rattle.session_images.specs.Prelude.{HasPrelude, HasFunctions, IsUntouched}
use Rattle.session_images.specs.Saved.{session_target, session_of}
use Rattle.session_images.specs.Laws.{SessionHasPrelude}
use Rattle.session_images.proofs.Prelude.{opening_has_prelude}
use Rattle.image_saved.proofs.Names.{some_so}

-- functions that were made of records have cells that were
module _ (T : Target) (rs : List Record) where
  abbrev NewCells : Function → Type 0
  NewCells f = (i c : ℕ) → slice_get f.cells i ≡ Some c → T.cells ≤ c

  cells_new : (cells : List ℕ) (i c : ℕ) → slice_get (map (new_cell T rs) cells) i ≡ Some c → T.cells ≤ c
  cells_new cells i c e = let m = map_get (new_cell T rs) cells i c e in let is = m.2 in omega (arith, is)

  chosen_new : (records : List Record) (n : ℕ) (f : Function) → slice_get (chosen (function_made T rs) records) n ≡ Some f → NewCells f
  chosen_new [] n f e = absurd (none_some f e)
  chosen_new (function_record code cells ∷ records) zero f e = let same : record { code = code; cells = map (new_cell T rs) cells } ≡ f = cc in subst NewCells same (cells_new cells)
  chosen_new (function_record code cells ∷ records) (suc n) f e = chosen_new records n f e
  chosen_new (table_record rows m ∷ records) n f e = chosen_new records n f e
  chosen_new (closed_record i ∷ records) n f e = chosen_new records n f e
  chosen_new (open_record co frame register ∷ records) n f e = chosen_new records n f e
  chosen_new (fresh_record body ∷ records) n f e = chosen_new records n f e
  chosen_new (suspended_record frames ∷ records) n f e = chosen_new records n f e
  chosen_new (dead_record ∷ records) n f e = chosen_new records n f e
  chosen_new (failed_record x pending ∷ records) n f e = chosen_new records n f e
  chosen_new (no_record ∷ records) n f e = chosen_new records n f e

loaded_has : (prelude : List (Entry Prototype)) (T : Target) (rs : List Record) (V : World) → T.cells ≡ length V.cells → HasPrelude prelude V → HasPrelude prelude (loaded T rs V)
loaded_has prelude T rs V count h = record {
  known = record {
    number = h.known.number;
    names = h.known.names;
    functions = λ n e k. get_push_old V.functions (chosen (function_made T rs) rs) n (prelude_function e) (h.known.functions n e k);
  };
  untouched = record {
    table = get_push_old V.heap.tables (chosen (table_made T rs) rs) environment_table (environment prelude) h.untouched.table;
    cell = get_push_old V.cells (chosen (cell_made T rs) rs) 0 (closed (object a_table environment_table)) h.untouched.cell;
    apart = λ n f past k i c. ⊎_elim (λ old. h.untouched.apart n f past old.0 i c) (λ new. late f (chosen_new T rs rs new.0 f new.2) i c) (get_split V.functions (chosen (function_made T rs) rs) n f k);
  };
}
  where
    late : (f : Function) → ((i c : ℕ) → slice_get f.cells i ≡ Some c → T.cells ≤ c) → (i : ℕ) → slice_get f.cells i ≡ Some 0 → ⊥
    late f new i c =
        let k = new i 0 c in
        let w = get_within V.cells 0 (closed (object a_table environment_table)) h.untouched.cell in
        absurd (omega (arith, k, w, count))

-- roots change nothing of it
rooted : (prelude : List (Entry Prototype)) (Y : World) (co g : ℕ) (m : Option ℕ) (key : List ℕ) (n : ℤ) → HasPrelude prelude Y
    → HasPrelude prelude (record Y { main = Some co; globals = g; heap = record Y.heap { string_metatable = m }; special_key = key; max_depth = n })
rooted prelude Y co g m key n h = record {
  known = record { number = h.known.number; names = h.known.names; functions = h.known.functions };
  untouched = record { table = h.untouched.table; cell = h.untouched.cell; apart = h.untouched.apart };
}

roots_have : (prelude : List (Entry Prototype)) (vs : List Value) (Y X : World) → HasPrelude prelude Y → with_roots vs Y ≡ Some X → HasPrelude prelude X
roots_have prelude (object a_coroutine co ∷ object a_table g ∷ known nil ∷ known (string key) ∷ known (integer n) ∷ []) Y X h e = subst (HasPrelude prelude) (some_so e) (rooted prelude Y co g None key n h)
roots_have prelude (object a_coroutine co ∷ object a_table g ∷ object a_table m ∷ known (string key) ∷ known (integer n) ∷ []) Y X h e = subst (HasPrelude prelude) (some_so e) (rooted prelude Y co g (Some m) key n h)
roots_have prelude _ Y X h e = absurd (cc)

pub session_has_prelude : SessionHasPrelude
session_has_prelude prelude I X e =
    roots_have prelude (map (value_made (session_target (opening prelude)) I.records) I.roots) (loaded (session_target (opening prelude)) I.records (opening prelude)) X
    (loaded_has prelude (session_target (opening prelude)) I.records (opening prelude) refl (opening_has_prelude prelude)) e
