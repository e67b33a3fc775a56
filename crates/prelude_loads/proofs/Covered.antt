-- What is loaded from the image of a world is paired with what it was.
use Rattle.std.proofs.Common.{ℕ, ◌+◌, ◌≡◌, ◌⊎◌, inl, inr, ⊎_elim, List, ◌++◌, Option, Some, subst, sym, ap, ◌∙◌, length, true}
use Rattle.std.specs.Prelude.{slice_get, flat_map, is_some, option_map}
use Rattle.std.proofs.lemmas.Option.{slice_get-map}
use Rattle.int_core.specs.Value.{Kind, a_table, a_function, a_coroutine, Value, object}
use Rattle.int_core.specs.Heap.{Table}
use Rattle.machine_core.specs.World.{Function, Coroutine, World}
use Rattle.machine_alike.specs.Agree.{Pairs, SameNumber}
use Rattle.image_core.specs.Visit.{place, IsMet, greatest_count}
use Rattle.image_core.specs.Image.{Item, Record, closed_record}
use Rattle.image_core.specs.Records.{Part, an_object, a_cell, same_part, of_value, field_parts, parts, is_reached, parts_in_order, record_of, naming, image_by}
use Rattle.image_core.specs.Loading.{is_kind, is_of, is_cell, rank, Target, count_in, new_number, table_made, function_made, coroutine_made, chosen, or_number, loading}
use Rattle.image_core.proofs.Lists.{get_split, map_some, chosen_from, is_made, place_met, place_get, get_met, order_once}
use Rattle.image_core.proofs.Making.{table_told, function_told, coroutine_told}
use Rattle.image_core.proofs.Parts.{part_tells, part_self}
use Rattle.image_load.specs.Loads.{CanLoad, IsWritten}
use Rattle.int_core.proofs.Equality.{kind_is}

no_both : (kind : Kind) (r : Record) → is_cell r ≡ true → is_of kind r ≡ true → ⊥
no_both kind (closed_record i) c h = cc
no_both kind _ c h = cc

module _ (base : Pairs) (W V : World) (T : Target) (name : Value → Option Item) (roots : List Value) (can : CanLoad base W V T name roots) where
  abbrev os : List Part
  os = parts_in_order W name roots

  abbrev records : List Record
  records = (image_by W name roots).records

  abbrev q : Pairs
  q = loading base T os records

  -- the record that a part has in the image
  abbrev record_in : Part → Record
  record_in o = record_of (naming W name roots) W o

  -- what has a record of an object's sort is an object of that sort
  part_of : (kind : Kind) (o : Part) → IsWritten W name roots o → is_of kind (record_in o) ≡ true → (i : ℕ) × (o ≡ an_object kind i)
  part_of kind (an_object k i) w h = let e : k ≡ kind = kind_is k kind (sym (ap (is_kind kind) w) ∙ h) in (i, ap (λ k. an_object k i) e)
  part_of kind (a_cell i) w h = absurd (no_both kind (record_in (a_cell i)) w h)

  paired : (kind : Kind) (n : ℕ) (r : Record) → slice_get records n ≡ Some r → is_of kind r ≡ true → (i : ℕ) × SameNumber q kind i (new_number T records kind n)
  paired kind n r e is =
      let o = map_some record_in (slice_get os n) r (sym (slice_get-map record_in os n) ∙ e) in
      let m : IsMet same_part os o.0 = get_met same_part part_tells part_self os o.0 n o.1 in
      let k = part_of kind o.0 (can.written o.0 m) (ap (is_of kind) o.2 ∙ is) in
      let part : Part = an_object kind k.0 in
      let at : slice_get os n ≡ Some part = o.1 ∙ ap Some k.1 in
      let met : IsMet same_part os part = subst (IsMet same_part os) k.1 m in
      let l = place_met same_part part_tells os part met in
      let there : slice_get os l.0 ≡ Some part = place_get same_part part_tells os part l.0 l.1 in
      let same : l.0 ≡ n = order_once same_part part_tells part_self (parts W name (is_reached W name roots)) greatest_count (flat_map (λ v. field_parts name (of_value v)) roots) l.0 n part there at in
      let number : ℕ → ℕ = new_number T records kind in
      (k.0, ap (λ (b : Option ℕ). or_number b (option_map number (place same_part os part))) (can.new_objects kind k.0 met) ∙ ap (option_map number) (l.1 ∙ ap Some same))

  -- what was made of a record of its sort
  made_paired : {A : Type 0} (kind : Kind) (made : Record → Option A) → ((r : Record) → is_of kind r ≡ is_some (made r))
      → (old : List A) → count_in T kind ≡ length old → (j : ℕ) (x : A) → slice_get (old ++ chosen made records) j ≡ Some x → (slice_get old j ≡ Some x) ⊎ ((i : ℕ) × SameNumber q kind i j)
  made_paired kind made told old count j x e = ⊎_elim (λ t. inl t.0)
      (λ t. let c = chosen_from (is_of kind) made told records t.0 x t.2 in
      let k = paired kind c.0 c.1 c.2 (is_made (is_of kind) made told c.1 x c.3) in
      let number : new_number T records kind c.0 ≡ j = ap (λ n. n + rank (is_of kind) records c.0) count ∙ ap (λ m. length old + m) (sym c.4) ∙ sym t.1 in
      inr (k.0, subst (SameNumber q kind k.0) number k.1))
      (get_split old (chosen made records) j x e)

  pub function_paired : (j : ℕ) (f : Function) → slice_get (V.functions ++ chosen (function_made T records) records) j ≡ Some f → (slice_get V.functions j ≡ Some f) ⊎ ((i : ℕ) × SameNumber q a_function i j)
  function_paired j f e = made_paired a_function (function_made T records) (function_told T records) V.functions can.functions j f e

  pub table_paired : (j : ℕ) (t : Table) → slice_get (V.heap.tables ++ chosen (table_made T records) records) j ≡ Some t → (slice_get V.heap.tables j ≡ Some t) ⊎ ((i : ℕ) × SameNumber q a_table i j)
  table_paired j t e = made_paired a_table (table_made T records) (table_told T records) V.heap.tables can.tables j t e

  pub coroutine_paired : (j : ℕ) (c : Coroutine) → slice_get (V.coroutines ++ chosen (coroutine_made T records) records) j ≡ Some c → (slice_get V.coroutines j ≡ Some c) ⊎ ((i : ℕ) × SameNumber q a_coroutine i j)
  coroutine_paired j c e = made_paired a_coroutine (coroutine_made T records) (coroutine_told T records) V.coroutines can.coroutines j c e
