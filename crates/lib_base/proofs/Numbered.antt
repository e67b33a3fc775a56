-- Values that are put at whole numbers of a new table.
use Rattle.std.proofs.Common.{◌≡◌, ℕ, suc, ◌+◌, ◌-◌, ◌<◌, ◌≤◌, List, [], length, map, drop, ap, sym, ◌∙◌, arith}
use Rattle.std.specs.Prelude.{pos, codes}
use Rattle.std.proofs.lemmas.List.{drop_all, length-map}
use Rattle.int_core.specs.Rows.{set}
use Rattle.int_core.specs.Value.{Value, known, integer, string, table_values, nth}
use Rattle.table_core.specs.Value.{lua_values}
use Rattle.table_core.specs.declared.value.Value.{Value as Kept}
use Rattle.table_core.specs.declared.value.Value.TheVariants.{Int}
use Rattle.lua_heap.specs.Reading.{row, value}
use Rattle.lib_base.specs.Numbering.{numbered_from, numbered_rows}
use Rattle.lib_base.specs.Raw.{AreAlike}
use Rattle.lib_base.proofs.PackRows.{drop_next}

module _ (texts : List (List ℕ)) (a : AreAlike texts) (first : ℕ) where
  pub numbered_more : (vs : List Value) (at : ℕ) (rows now : List (Kept × Kept)) (v : Kept) → at < length vs → nth vs at ≡ value texts v → now ≡ set lua_values rows (Int (pos (at + first))) v →
      numbered_from (at + first) (drop at vs) (map (row texts) rows) ≡ numbered_from (at + 1 + first) (drop (at + 1) vs) (map (row texts) now)
  numbered_more vs at rows now v h e f =
      let n : suc (at + first) ≡ at + 1 + first = omega arith in
      let q : suc at ≡ at + 1 = omega arith in
      ap (λ ws. numbered_from (at + first) ws (map (row texts) rows)) (drop_next vs at h)
      ∙ ap (λ w. numbered_from (suc (at + first)) (drop (suc at) vs) (set table_values (map (row texts) rows) (known (integer (pos (at + first)))) w)) e
      ∙ ap (λ i. numbered_from i (drop (suc at) vs) (set table_values (map (row texts) rows) (known (integer (pos (at + first)))) (value texts v))) n
      ∙ ap (λ k. numbered_from (at + 1 + first) (drop k vs) (set table_values (map (row texts) rows) (known (integer (pos (at + first)))) (value texts v))) q
      ∙ ap (numbered_from (at + 1 + first) (drop (at + 1) vs)) ((a.read rows).written (Int (pos (at + first))) v ∙ ap (map (row texts)) (sym f))

  pub numbered_are : (vs : List Kept) (at : ℕ) (rows now : List (Kept × Kept)) (name : Kept) → length vs ≤ at → value texts name ≡ known (string (codes "n")) →
      numbered_from (at + first) (drop at (map (value texts) vs)) (map (row texts) rows) ≡ numbered_from first (map (value texts) vs) [] → now ≡ set lua_values rows name (Int (pos (length vs + first - 1))) →
      map (row texts) now ≡ numbered_rows first (map (value texts) vs)
  numbered_are vs at rows now name h n e f =
      let l : length (map (value texts) vs) ≡ length vs = length-map vs (value texts) in
      let d : drop at (map (value texts) vs) ≡ [] = drop_all at (map (value texts) vs) (omega (arith, h, l)) in
      let r : map (row texts) rows ≡ numbered_from first (map (value texts) vs) [] = sym (ap (λ ws. numbered_from (at + first) ws (map (row texts) rows)) d) ∙ e in
      ap (map (row texts)) f ∙ sym ((a.read rows).written name (Int (pos (length vs + first - 1))))
      ∙ ap (λ rows. set table_values rows (value texts name) (known (integer (pos (length vs + first - 1))))) r
      ∙ ap (λ k. set table_values (numbered_from first (map (value texts) vs) []) k (known (integer (pos (length vs + first - 1))))) n
      ∙ ap (λ m. set table_values (numbered_from first (map (value texts) vs) []) (known (string (codes "n"))) (known (integer (pos (m + first - 1))))) (sym l)
