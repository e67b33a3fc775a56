-- A string of the world moves.
use Rattle.std.proofs.Common.{◌≡◌, ◌≤◌, ℕ, List, [], ◌∷◌, Some, refl, ap, sym, subst, ◌∙◌, length}
use Rattle.std.specs.Prelude.{slice_get}
use Rattle.int_core.specs.Value.{Value, greatest_string, known, string}
use Rattle.machine_core.specs.World.{World}
use Rattle.machine_sound.specs.Sound.{Sound}
use Rattle.machine_runs.specs.Laws.{HandedIsSound, HandedMayTurn, MayTurn}
use Rattle.machine_runs.specs.Opening.{handed_line}
use Rattle.table_core.specs.declared.value.StrId.{StrId}
use Rattle.table_core.specs.declared.value.Value.TheVariants.{Str}
use Rattle.lua_heap.specs.declared.world.World.{World as Memory}
use Rattle.lua_heap.specs.Cells.{CellsAreListed}
use Rattle.lua_heap.specs.Changes.{Interns}
use Rattle.lua_heap.specs.Plain.{plain}
use Rattle.lua_heap.specs.Reading.{text_or, value}
use Rattle.move_laws.specs.Memory.{InOrder, IsSound}

abbrev pub with_moving : World → List Value → World
with_moving W vs = record W { moving = vs }

handed_is : (W : World) (line : List ℕ) → with_moving W (known (string line) ∷ []) ≡ handed_line W line
unfolding handed_line
handed_is W line = refl

pub handed_so : (old mid : Memory) (id : StrId) (line : List ℕ) → IsSound old → Interns old mid line → slice_get mid.strings id.0 ≡ Some line
    → (fuel : ℕ) → with_moving (plain mid fuel) (value mid.strings (Str id) ∷ []) ≡ handed_line (plain old fuel) line
handed_so old mid id line s i e fuel =
    let same : plain mid fuel ≡ plain old fuel = ap (λ (W : World). record W { fuel = fuel }) (i.plain s.primitives 0 s.sound) in
    let text : value mid.strings (Str id) ≡ known (string line) = ap (λ o. known (string (text_or id.0 o))) e in
    ap (λ W. with_moving W (value mid.strings (Str id) ∷ [])) same ∙ ap (λ v. with_moving (plain old fuel) (v ∷ [])) text ∙ handed_is (plain old fuel) line

pub interned_order : {old mid : Memory} {text : List ℕ} → InOrder old → Interns old mid text → InOrder mid
interned_order {old} {mid} o i = record { codes = i.codes o.codes; listed = subst CellsAreListed (sym i.rest) o.listed }

-- so the world stays sound, and main is to be resumed
pub still_sound : (old : Memory) (V : World) (line : List ℕ) → HandedIsSound → MayTurn (plain old 0) → length line ≤ greatest_string → V ≡ handed_line (plain old 0) line
    → (primitives : ℕ) → Sound primitives (plain old 0) → Sound primitives V
still_sound old V line law may short e n s = subst (Sound n) (sym e) (law n (plain old 0) line s may.idle short)

pub still_waits : (old : Memory) (V : World) (line : List ℕ) → HandedMayTurn → MayTurn (plain old 0) → V ≡ handed_line (plain old 0) line → MayTurn V
still_waits old V line law may e = subst MayTurn (sym e) (law (plain old 0) line may)
