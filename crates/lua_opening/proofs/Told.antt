-- A table that has the rows of the prelude's environment, and no metatable.
use Rattle.std.proofs.Common.{◌≡◌, ℕ, Bool, List, Option, Some, None, map, length, refl, ap, sym, ◌∙◌}
use Rattle.std.specs.Prelude.{◌↔◌, IsTrue}
use Rattle.std.specs.Option.{option_map}
use Rattle.int_core.specs.Heap.{Table}
use Rattle.int_core.specs.Value.{Value}
use Rattle.code_core.specs.Prototype.{Prototype}
use Rattle.library_rows.specs.PreludeText.{prelude_functions}
use Rattle.lua_meaning.specs.Libraries.{environment}
use Rattle.lua_meaning.specs.Opening.{prelude_of}
use Rattle.table_core.specs.declared.value.TableId.{TableId}
use Rattle.table_core.specs.Table.{Contents}
use Rattle.lua_heap.specs.Plain.{table}
use Rattle.lua_heap.specs.Reading.{row}
use Rattle.lua_opening.proofs.Names.{environment_named, environment_is}

abbrev rows_in : Table → List (Value × Value)
rows_in t = t.rows

abbrev metatable_in : Table → Option ℕ
metatable_in t = t.metatable

abbrev number : Option TableId → Option ℕ
number m = option_map (λ (id : TableId). id.0) m

abbrev with_metatable : List (Value × Value) → Option ℕ → Table
with_metatable rows m = record { rows = rows; metatable = m }

no_metatable : environment_named.metatable ≡ None
no_metatable = refl

some_none : {A : Type 0} {x : A} → Some x ≡ None → ⊥
some_none e = cc

pub with_none : (texts : List (List ℕ)) (t : Contents) {m : TableId} → t.metatable ≡ Some m → (codes : List Prototype) → length codes ≡ length prelude_functions → table texts t ≡ environment (prelude_of codes) → ⊥
with_none texts t {m} some codes h e = some_none (sym (ap number some) ∙ (ap metatable_in (e ∙ environment_is codes h) ∙ no_metatable))

pub told : (texts : List (List ℕ)) (t : Contents) (b : Bool) {rows : List (Value × Value)} → t.metatable ≡ None → (IsTrue b ↔ (map (row texts) t.rows ≡ rows)) → rows ≡ environment_named.rows
    → (codes : List Prototype) → length codes ≡ length prelude_functions → (IsTrue b ↔ (table texts t ≡ environment (prelude_of codes)))
told texts t b {rows} none same is codes h = (
  λ e. ap (λ rs. with_metatable rs (number t.metatable)) (same.0 e ∙ is) ∙ (ap (λ m. with_metatable environment_named.rows (number m)) none ∙ sym (environment_is codes h)),
  λ e. same.1 (ap rows_in (e ∙ environment_is codes h) ∙ sym is),
)
