-- Values that are made by what they are.
use Rattle.std.proofs.Common.{◌≡◌, ℕ, ◌<◌, ◌≤◌, ⊎_elim, List, map, Option, Some, None, length, refl, sym, ap, ◌∙◌, arith}
use Rattle.std.specs.Prelude.{slice_get, get_or}
use Rattle.std.specs.Option.{option_map}
use Rattle.std.proofs.lemmas.Option.{slice_get_past, slice_get_cases}
use Rattle.int_core.specs.Value.{Kind, Plain, Value, a_table, known, object, bind}
use Rattle.int_core.specs.Heap.{Table}
use Rattle.machine_core.specs.World.{Wait}
use Rattle.image_core.specs.Image.{PermKey, Item, plain, numbered, permanent, environment, Record}
use Rattle.image_core.specs.Loading.{Target, kind_in, value_made, numbered_value, new_cell, wait_made, row_made, table_number}
use Rattle.image_saved.specs.Permanents.{object_named}
use Rattle.image_records.specs.Names.{perms_of}
use Rattle.table_core.specs.declared.value.Value.{Value as Kept}
use Rattle.table_core.specs.declared.value.CellId.{CellId}
use Rattle.table_core.specs.declared.value.TableId.{TableId}
use Rattle.table_core.specs.Table.{Contents}
use Rattle.lua_heap.specs.Reading.{row, value}
use Rattle.lua_heap.specs.Plain.{table}
use Rattle.lua_stack.specs.declared.frame.Wait.{Wait as KeptWait}
use Rattle.lua_stack.specs.Frames.{wait_of}
use Rattle.image_made.specs.declared.place.Place.{Place}
use Rattle.image_made.specs.declared.place.Place.TheVariants.{Cell}
use Rattle.image_made.specs.declared.making.Maker.{Maker}
use Rattle.image_made.specs.Places.{ArePlaces, value_in}
use Rattle.image_made.specs.Making.{Makes, MakesError, MakesRow, MakesRows, MakesTable, MakesWait}

module _ (T : Target) (rs : List Record) (places : List Place) (are : ArePlaces T rs places) where
  pub numbered_is : (n : ℕ) → value_in (slice_get places n) ≡ numbered_value T rs n (bind (slice_get rs n) kind_in)
  numbered_is n = ⊎_elim found missing (slice_get_cases places n).1
    where
      found : (p : Place) × (n < length places) × (slice_get places n ≡ Some p) × (get_or places n p ≡ p) → value_in (slice_get places n) ≡ numbered_value T rs n (bind (slice_get rs n) kind_in)
      found f =
          let there = are.each n f.0 f.2 in
          ap value_in f.2 ∙ there.2.value ∙ sym (ap (λ o. numbered_value T rs n (bind o kind_in)) there.1)

      missing : (length places ≤ n) × (slice_get places n ≡ None) → value_in (slice_get places n) ≡ numbered_value T rs n (bind (slice_get rs n) kind_in)
      missing m =
          let count = are.count in
          let past : length rs ≤ n = let p = m.0 in omega (arith, count, p) in
          ap value_in m.1 ∙ sym (ap (λ o. numbered_value T rs n (bind o kind_in)) (slice_get_past rs n past))

  pub cell_is : (n : ℕ) (id : CellId) → slice_get places n ≡ Some (Cell id) → id.0 ≡ new_cell T rs n
  cell_is n id e = (are.each n (Cell id) e).2.cell

module _ (maker : Maker) (texts : List (List ℕ)) where
  pub plain_made : (p : Plain) (v : Kept) → value texts v ≡ known p → Makes maker texts (plain p) v
  plain_made p v e = record { is = λ T rs m. e }

  pub numbered_made : (n : ℕ) (v : Kept) → value texts v ≡ value_in (slice_get maker.places.now n) → Makes maker texts (numbered n) v
  numbered_made n v e = record { is = λ T rs m. e ∙ numbered_is T rs maker.places.now m.places n }

  pub permanent_made : (kind : Kind) (key : PermKey) (v : Kept) → value texts v ≡ object_named (perms_of maker.known.now) key → Makes maker texts (permanent kind key) v
  permanent_made kind key v e = record { is = λ T rs m. e ∙ sym (m.names kind key) }

  pub environment_made : (v : Kept) → value texts v ≡ object a_table maker.environment.0 → Makes maker texts environment v
  environment_made v e = record { is = λ T rs m. e ∙ ap (object a_table) (sym m.environment) }

  pub error_made : (item : Item) (v : Kept) → Makes maker texts item v → MakesError maker texts (Some item) (Some v)
  error_made item v made = record { is = λ T rs m. ap (λ v. Some v) (made.is T rs m) }

  pub no_error_made : MakesError maker texts None None
  no_error_made = record { is = λ T rs m. refl }

  pub wait_same : (w : Wait Item) (kept : KeptWait) → ((T : Target) (rs : List Record) → wait_of (value texts) kept ≡ wait_made T rs w) → MakesWait maker texts w kept
  wait_same w kept e = record { is = λ T rs m. e T rs }

-- rows and tables

pub row_made_is : (maker : Maker) (texts : List (List ℕ)) (r : Item × Item) (k v : Kept) → Makes maker texts r.0 k → Makes maker texts r.1 v → MakesRow maker texts r (k, v)
row_made_is maker texts r k v key made = record { is = λ T rs m. ap (λ x. (x, value texts v)) (key.is T rs m) ∙ ap (λ y. (value_made T rs r.0, y)) (made.is T rs m) }

pub table_is : (texts : List (List ℕ)) (t : Contents) (rows : List (Value × Value)) → map (row texts) t.rows ≡ rows → t.metatable ≡ None → table texts t ≡ record { rows = rows; metatable = None }
table_is texts t rows e m = ap (λ rows. record { rows = rows; metatable = option_map (λ m. m.0) t.metatable }) e ∙ ap (λ o. record { rows = rows; metatable = option_map (λ m. m.0) o }) m

pub table_made_is : (maker : Maker) (texts : List (List ℕ)) (rows : List (Item × Item)) (metatable : Item) (v : Kept) (t new : Contents) (o : Option TableId) → MakesRows maker texts rows t → Makes maker texts metatable v
    → ((texts : List (List ℕ)) → option_map (λ id. id.0) o ≡ table_number (value texts v)) → new ≡ record t { metatable = o } → MakesTable maker texts rows metatable new
table_made_is maker texts rows metatable v t new o made is told e = record {
  is = λ T rs m.
      let own : map (row texts) t.rows ≡ map (row_made T rs) rows = ap (λ (t : Table). t.rows) (made.is T rs m) in
      ap (table texts) e ∙ ap (λ rows. record { rows = rows; metatable = option_map (λ m. m.0) o }) own
      ∙ ap (λ o. record { rows = map (row_made T rs) rows; metatable = o }) (told texts ∙ ap table_number (is.is T rs m));
}
