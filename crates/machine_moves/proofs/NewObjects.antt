-- New objects in memory.
use Rattle.std.proofs.Common.{◌≡◌, ℕ, List, [], ◌∷◌, ◌++◌, length, Option, None, ap, ap₂, sym, ◌∙◌, true, Result, Ok, Err, IfOk, OnOk}
use Rattle.std.specs.Prelude.{map}
use Rattle.std.specs.Option.{option_map}
use Rattle.std.proofs.lemmas.List.{length-map}
use Rattle.int_core.specs.Heap.{Table}
use Rattle.int_core.specs.Value.{Value, object, a_table}
use Rattle.machine_core.specs.World.{World, place_of}
use Rattle.machine_core.specs.Text.{make_table}
use Rattle.machine_core.specs.Moves.{made, outside, do_outside}
use Rattle.machine_sound.proofs.Lists.{bind_at}
use Rattle.table_core.specs.Table.{Contents}
use Rattle.lua_heap.specs.declared.world.World.{World as Memory}
use Rattle.lua_heap.specs.Changes.{AddsTable}
use Rattle.lua_heap.specs.Plain.{plain, table}
use Rattle.lua_heap.specs.Reading.{row}
use Rattle.move_laws.specs.Memory.{HasFrame, Makes}

pub if_ok_on : {B E : Type 0} {P R : B → Type 0} {Q : Type 0} (o : Result B E) → IfOk o P → OnOk o Q → ((b : B) → P b → Q → R b) → IfOk o R
if_ok_on (Ok b) p q f = f b p q
if_ok_on (Err e) p q f = tt

abbrev table_of : List (Value × Value) → Option ℕ → Table
table_of rows metatable = record { rows = rows; metatable = metatable }

empty : (texts : List (List ℕ)) (t : Contents) → t.rows ≡ [] → t.metatable ≡ None → table texts t ≡ table_of [] None
empty texts t r m = ap₂ table_of (ap (map (row texts)) r) (ap (option_map (λ m. m.0)) m)

abbrev with_last : World → Table → World
with_last W t = record W { heap = record W.heap { tables = W.heap.tables ++ t ∷ [] } }

pub table_made : (old new : Memory) (t : Contents) (id : ℕ) (env : List Value) → HasFrame old → AddsTable old new t → id ≡ length old.tables.objects → t.rows ≡ [] → t.metatable ≡ None
    → Makes old new (outside make_table) env (object a_table id ∷ []) true
table_made old new t id env h a n r m = record {
  is = λ fuel.
      let V = plain old fuel in
      bind_at (do_outside make_table env V) (place_of V) h.place h.is
      ∙ ap (λ n. made (with_last V (table_of [] None)) (object a_table n ∷ []) true) (length-map old.tables.objects (table old.strings) ∙ sym n)
      ∙ ap (λ W. made W (object a_table id ∷ []) true) (ap (with_last V) (sym (empty old.strings t r m)) ∙ sym (a.plain fuel));
}
