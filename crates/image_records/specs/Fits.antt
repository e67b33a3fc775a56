-- The parts of the test that all records fit.
use Rattle.std.specs.Prelude.{ℕ, ◌≡◌, Bool, true, false, not, Option, Some, None, ◌&&◌, List, ◌∷◌, length, nat_eq, nat_lt}
use Rattle.std.specs.List.{list_all, list_any}
use Rattle.code_core.specs.declared.opcode.Opcode.{Opcode}
use Rattle.code_core.specs.declared.instruction.Instruction.{Instruction}
use Rattle.machine_sound.specs.Sound.{waits_at, waiting_size, kept_below}
use Rattle.image_core.specs.Image.{LuaFrameItem, Record, open_record}
use Rattle.image_sound.specs.Fitting.{is_open_record, opened_again}
use Rattle.image_records.specs.declared.fitting.OpenPlace.{OpenPlace}

-- a frame fits an instruction of code with so many registers
abbrev pub fits_at : LuaFrameItem → (stack : ℕ) → Instruction → Opcode → Bool
fits_at f stack w op =
    waits_at f.wait op w && (nat_eq (length f.registers) (waiting_size f.wait w stack)
    && (list_all (λ r. nat_lt r stack) f.pending && list_all (λ r. nat_lt r (kept_below f.wait w stack)) f.pending))

abbrev pub is_place : (co frame register : ℕ) → OpenPlace → Bool
is_place co frame register p = nat_eq co p.coroutine && (nat_eq frame p.frame && nat_eq register p.register)

-- the places are those at which cells of these records are open
pub record HoldsPlaces (places : List OpenPlace) (rs : List Record) : Type 0 where
  pub same : (co frame register : ℕ) → list_any (is_place co frame register) places ≡ list_any (is_open_record co frame register) rs

-- a record opens no cell where one is open, and its place is held too
pub record OpensAnew (places : List OpenPlace) (r : Record) (rs : List Record) (new : Bool) : Type 0 where
  pub told : new ≡ not (opened_again r rs)
  pub holds : HoldsPlaces places (r ∷ rs)

-- the place at which a record is an open cell
abbrev pub is_open : Record → Bool
is_open (open_record co frame register) = true
is_open _ = false

abbrev pub IsPlaceOf : Record → Option OpenPlace → Type 0
IsPlaceOf r None = is_open r ≡ false
IsPlaceOf r (Some p) = r ≡ open_record p.coroutine p.frame p.register
