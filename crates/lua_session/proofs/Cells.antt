-- The cells of a main function's outer variables.
use Rattle.std.proofs.Common.{ℕ, zero, suc, ◌+◌, ◌≡◌, List, [], ◌∷◌, ◌++◌, length, refl, ap, sym, ◌∙◌, arith, append-nil, length-append}
use Rattle.std.specs.Prelude.{map}
use Rattle.std.proofs.lemmas.List.{append_assoc, map-append}
use Rattle.int_core.specs.Value.{nil, a_table, known, object}
use Rattle.machine_core.specs.World.{closed}
use Rattle.machine_runs.specs.Opening.{numbers, nil_cells, main_cells}
use Rattle.table_core.specs.declared.value.TableId.{TableId}
use Rattle.lua_heap.specs.declared.world.Cell.{Cell}
use Rattle.lua_heap.specs.declared.world.Cell.TheVariants.{Closed}
use Rattle.lua_heap.specs.Plain.{cell}
use Rattle.lua_session.specs.Beginning.{outer_value, kept_cells}

pub numbers_more : (from count : ℕ) → numbers from count ++ (from + count) ∷ [] ≡ numbers from (suc count)
numbers_more from zero = ap (λ n. n ∷ []) (let e : from + 0 ≡ from = omega arith in e)
numbers_more from (suc count) =
    ap (λ n. from ∷ numbers (suc from) count ++ n ∷ []) (let e : from + suc count ≡ suc from + count = omega arith in e)
    ∙ ap (λ l. from ∷ l) (numbers_more (suc from) count)

pub kept_length : (cells : List Cell) (globals : TableId) (count : ℕ) → length (kept_cells cells globals count) ≡ length cells + count
kept_length cells globals zero = omega arith
kept_length cells globals (suc count) =
    let l = length-append (kept_cells cells globals count) (Closed (outer_value globals count) ∷ []) in
    let k = kept_length cells globals count in
    omega (arith, l, k)

nil_more : (count : ℕ) → nil_cells count ++ closed (known nil) ∷ [] ≡ nil_cells (suc count)
nil_more zero = refl
nil_more (suc count) = ap (λ l. closed (known nil) ∷ l) (nil_more count)

main_more : (texts : List (List ℕ)) (globals : TableId) (count : ℕ) → main_cells globals.0 count ++ cell texts (Closed (outer_value globals count)) ∷ [] ≡ main_cells globals.0 (suc count)
main_more texts globals zero = refl
main_more texts globals (suc count) = ap (λ l. closed (object a_table globals.0) ∷ l) (nil_more count)

-- what they stand for
pub kept_read : (texts : List (List ℕ)) (cells : List Cell) (globals : TableId) (count : ℕ) → map (cell texts) (kept_cells cells globals count) ≡ map (cell texts) cells ++ main_cells globals.0 count
kept_read texts cells globals zero = sym (append-nil (map (cell texts) cells))
kept_read texts cells globals (suc count) =
    map-append (cell texts) (kept_cells cells globals count) (Closed (outer_value globals count) ∷ [])
    ∙ ap (λ l. l ++ cell texts (Closed (outer_value globals count)) ∷ []) (kept_read texts cells globals count)
    ∙ append_assoc (map (cell texts) cells) (main_cells globals.0 count) (cell texts (Closed (outer_value globals count)) ∷ [])
    ∙ ap (λ l. map (cell texts) cells ++ l) (main_more texts globals count)
