-- Valid values are there, and a string that is added changes nothing of sound tables.
use Rattle.std.proofs.Common.{◌≡◌, ◌<◌, ℕ, suc, Bool, true, false, List, [], ◌∷◌, ◌++◌, map, length, Option, refl, ap, subst, ◌∙◌}
use Rattle.std.specs.Prelude.{bytes_eq, if◌then◌else◌}
use Rattle.std.specs.List.{list_any}
use Rattle.machine_sound.specs.Sound.{Sizes, Each, Valid, TableOk}
use Rattle.table_core.specs.Table.{Contents}
use Rattle.table_core.specs.declared.value.TableId.{TableId}
use Rattle.table_core.specs.declared.value.Value.{Value as Kept}
use Rattle.table_core.specs.declared.value.Value.TheVariants.{Str, Table}
use Rattle.lua_heap.specs.Law.{NewStringsKeep, StringsAreThere}
use Rattle.lua_heap.specs.Plain.{table}
use Rattle.lua_heap.specs.Reading.{value}
use Rattle.lua_heap.specs.Strings.{interned}
use Rattle.meta_ops.specs.Heap.{heap_in, IsIn}
use Rattle.meta_ops.proofs.Storing.{with_rows, with_tables}

pub operand-there : StringsAreThere → (z : Sizes) (texts : List (List ℕ)) (tables : List Contents) (v : Kept) → z.tables ≡ length tables → Valid z (value texts v) → IsIn texts tables v
operand-there law z texts tables (Str id) e h = law z texts id h
operand-there law z texts tables (Table id) e h = subst (λ n. id.0 < n) e h
operand-there law z texts tables _ e h = tt

module _ (law : NewStringsKeep) (z : Sizes) (texts : List (List ℕ)) (text : List ℕ) where
  tables-stay : (ts : List Contents) → Each (TableOk z) (map (table texts) ts) → map (table (texts ++ text ∷ [])) ts ≡ map (table texts) ts
  tables-stay [] h = refl
  tables-stay (t ∷ ts) h =
      ap (λ rows. with_rows (table texts t) rows ∷ map (table (texts ++ text ∷ [])) ts) ((law z texts text).rows t.rows (h 0 (table texts t) refl).rows)
      ∙ ap (λ l. table texts t ∷ l) (tables-stay ts (λ i t e. h (suc i) t e))

  abbrev after : Bool → List (List ℕ)
  after there = if there then texts else texts ++ text ∷ []

  pub heap-stays : (tables : List Contents) (string_meta : Option TableId) → Each (TableOk z) (map (table texts) tables) → heap_in (interned texts text) tables string_meta ≡ heap_in texts tables string_meta
  heap-stays tables string_meta h = by (list_any (bytes_eq text) texts)
    where
      by : (there : Bool) → heap_in (after there) tables string_meta ≡ heap_in texts tables string_meta
      by true = refl
      by false = ap (with_tables (heap_in texts tables string_meta)) (tables-stay tables h)
