-- Fields of tables in memory, in the words of the meaning.
use Rattle.std.proofs.Common.{◌≡◌, ◌≤◌, ◌<◌, ℕ, zero, suc, Bool, true, false, List, [], ◌∷◌, length, map, get_or, Option, Some, None, refl, ap, sym, ◌∙◌, arith}
use Rattle.std.specs.Prelude.{slice_get, option_map, bytes_eq}
use Rattle.std.specs.List.{list_any}
use Rattle.std.specs.Map.{lookup}
use Rattle.std.proofs.lemmas.Option.{slice_get-map, slice_get-get_or}
use Rattle.std.proofs.lemmas.Slice.Eq.{bytes_eq-Decides}
use Rattle.int_core.specs.Heap.{raw_get}
use Rattle.int_core.specs.Rows.{get}
use Rattle.int_core.specs.Value.{known, nil, object, string, a_table, same, bind, table_values, greatest_string}
use Rattle.machine_sound.specs.Sound.{Sizes}
use Rattle.table_core.specs.Table.{Contents}
use Rattle.table_core.specs.Value.{lua_values}
use Rattle.table_core.specs.declared.value.StrId.{StrId}
use Rattle.table_core.specs.declared.value.Value.{Value as Kept}
use Rattle.table_core.specs.declared.value.Value.TheVariants.{Str}
use Rattle.lua_heap.specs.Law.{TablesAreRead, StringsAreThere}
use Rattle.lua_heap.specs.Reading.{text_of, text_or, value, row}
use Rattle.lua_heap.specs.Strings.{AreApart, AreShort}
use Rattle.lua_heap.specs.Plain.{table, heap}
use Rattle.meta_ops.specs.Heap.{row_field}

module _ (texts : List (List ℕ)) (tables : List Contents) (strings : Option ℕ) where
  -- the table of a number

  pub table-is : (n : ℕ) (t : Option Contents) → slice_get tables n ≡ t → slice_get (map (table texts) tables) n ≡ option_map (table texts) t
  table-is n t there = slice_get-map (table texts) tables n ∙ ap (option_map (table texts)) there

  -- a field by a key in memory
  pub raw-is : TablesAreRead → AreApart texts → AreShort texts → (n : ℕ) (t : Contents) (key : Kept) → slice_get tables n ≡ Some t
      → raw_get (heap texts tables strings) (object a_table n) (value texts key) ≡ Some (value texts (get lua_values t.rows key))
  raw-is law apart short n t key there =
      ap (λ o. bind o (λ t. Some (get table_values t.rows (value texts key)))) (table-is n (Some t) there) ∙ ap Some ((law texts apart short t.rows).field key)

  pub raw-none : (n : ℕ) (key : Kept) → slice_get tables n ≡ None → raw_get (heap texts tables strings) (object a_table n) (value texts key) ≡ None
  raw-none n key there = ap (λ o. bind o (λ t. Some (get table_values t.rows (value texts key)))) (table-is n None there)

  -- a field by a name that is a string in memory
  pub named-is : TablesAreRead → AreApart texts → AreShort texts → (n : ℕ) (t : Contents) (id : StrId) (name : List ℕ) → slice_get tables n ≡ Some t → slice_get texts id.0 ≡ Some name
      → value texts (get lua_values t.rows (Str id)) ≡ row_field (heap texts tables strings) n name
  named-is law apart short n t id name there named =
      let key : value texts (Str id) ≡ known (string name) = ap (λ o. known (string (text_or id.0 o))) named in
      let raw : raw_get (heap texts tables strings) (object a_table n) (known (string name)) ≡ Some (value texts (get lua_values t.rows (Str id))) =
      ap (raw_get (heap texts tables strings) (object a_table n)) (sym key) ∙ raw-is law apart short n t (Str id) there in
      rw (row_field, raw) refl

  pub none-named : (n : ℕ) (name : List ℕ) → slice_get tables n ≡ None → known nil ≡ row_field (heap texts tables strings) n name
  none-named n name there =
      let raw : raw_get (heap texts tables strings) (object a_table n) (known (string name)) ≡ None = ap (λ o. bind o (λ t. Some (get table_values t.rows (known (string name))))) (table-is n None there) in
      rw (row_field, raw) refl

-- a name that no string has

module _ (texts : List (List ℕ)) (name : List ℕ) (short : length name ≤ greatest_string) (law : StringsAreThere) (unknown : list_any (bytes_eq name) texts ≡ false) where
  no-sizes : Sizes
  no-sizes = record { primitives = 0; tables = 0; functions = []; cells = 0; coroutines = 0 }

  not-among : (all : List (List ℕ)) (n : ℕ) → list_any (bytes_eq name) all ≡ false → slice_get all n ≡ Some name → ⊥
  not-among [] n none there = cc
  not-among (text ∷ all) zero none there =
      let same : name ≡ text = cc in
      let equal : bytes_eq name text ≡ true = (bytes_eq-Decides name text).1 same in
      absurd (grind (arith))
  not-among (text ∷ all) (suc n) none there = not-among all n (grind (arith)) there

  not-text : (id : StrId) → text_of texts id.0 ≡ name → ⊥
  not-text id e =
      let within : id.0 < length texts = law no-sizes texts id (rw e short) in
      let there : slice_get texts id.0 ≡ Some (get_or texts id.0 []) = slice_get-get_or texts id.0 [] within in
      not-among texts id.0 unknown (there ∙ ap Some (sym (ap (text_or id.0) there) ∙ e))

  other-text : (id : StrId) (b : Bool) → bytes_eq name (text_of texts id.0) ≡ b → b ≡ false
  other-text id false e = refl
  other-text id true e = absurd (not-text id (sym ((bytes_eq-Decides name (text_of texts id.0)).0 e)))

  other-key : (key : Kept) → same (known (string name)) (value texts key) ≡ false
  other-key (Str id) = other-text id _ refl
  other-key _ = refl

  no-row : (rows : List (Kept × Kept)) → lookup (same (known (string name))) (map (row texts) rows) ≡ None
  no-row [] = refl
  no-row (r ∷ rows) = rw (other-key r.0) (no-row rows)

  pub unknown-named : (tables : List Contents) (strings : Option ℕ) (n : ℕ) (t : Contents) → slice_get tables n ≡ Some t → known nil ≡ row_field (heap texts tables strings) n name
  unknown-named tables strings n t there =
      let nothing : get table_values (map (row texts) t.rows) (known (string name)) ≡ known nil = rw (no-row t.rows) refl in
      let raw : raw_get (heap texts tables strings) (object a_table n) (known (string name)) ≡ Some (known nil) =
      ap (λ o. bind o (λ t. Some (get table_values t.rows (known (string name))))) (table-is texts tables strings n (Some t) there) ∙ ap Some nothing in
      rw (row_field, raw) refl
