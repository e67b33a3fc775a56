-- Results that are written, and where the frame goes on.
use Rattle.std.proofs.Common.{◌≡◌, ℕ, zero, suc, ◌+◌, ◌-◌, List, Some, refl, ap, sym, ◌∙◌, arith}
use Rattle.std.specs.Prelude.{pos}
use Rattle.int_core.specs.Value.{Value}
use Rattle.machine_core.specs.Text.{go_by, write_list, write_registers}
use Rattle.machine_core.specs.InstructionRows.{next, then, write_values}
use Rattle.machine_core.specs.FrameRows.{When, expand_by}
use Rattle.machine_core.specs.Moves.{place_from, go, stop}
use Rattle.lua_heap.specs.declared.world.World.{World as Memory}
use Rattle.move_laws.specs.Memory.{CanDo, Leads, IsSafe, StandsAt}
use Rattle.move_laws.proofs.Rows.{first, ended, can_go}
use Rattle.machine_moves.specs.Moves.{CanGo, Goes}
use Rattle.machine_returns.specs.Results.{writing}

pub none_written : (to slot count : ℕ) → count ≡ 0 → writing to count slot ≡ write_list to slot
none_written to slot count e = ap (λ count. writing to count slot) e

pub some_written : (to slot count : ℕ) → (count ≡ 0 → ⊥) → writing to count slot ≡ write_registers to (count - 1) slot
some_written to slot zero e = absurd (e refl)
some_written to slot (suc count) e = let z : count ≡ suc count - 1 = omega arith in ap (λ count. write_registers to count slot) z

pub written_text : (to count slot : ℕ) → write_values to count slot ≡ then (writing to count slot) next
written_text to zero slot = refl
written_text to (suc count) slot = refl

-- any slot may be named where one may
pub any_slot : {W : Memory} (to count slot other : ℕ) → CanDo W (writing to count slot) → CanDo W (writing to count other)
any_slot {W} to zero slot other d = record { place = d.place; is = d.is; fits = d.fits }
any_slot {W} to (suc count) slot other d = record { place = d.place; is = d.is; fits = d.fits }

-- where the frame goes on, in either reading

from_place : {W : Memory} {pc to : ℕ} (k : ℕ) (s : StandsAt W pc) → to ≡ pc + k → place_from s.place.top.own.pc (pos k) ≡ Some to
from_place k s e = ap (λ n. place_from n (pos k)) s.at ∙ ap (λ n. Some n) (sym e)

pub goes_on : {W V : Memory} {pc to : ℕ} (when : When) (k : ℕ) (s : StandsAt W pc) → to ≡ pc + k → Goes W V to → (env : List Value) → Leads (expand_by when (go_by (pos k))) env W V go
goes_on when k s e g env = first (λ _ _. stop go) (g.makes s.place s.is (pos k) (from_place k s e) env) ended

pub may_go : {W : Memory} {pc to : ℕ} {env : List Value} (when : When) (k : ℕ) (s : StandsAt W pc) → to ≡ pc + k → IsSafe (expand_by when (go_by (pos k))) env W → CanGo W to
may_go {W} {pc} {to} {env} when k s e h = record { place = s.place; is = s.is; there = can_go (pos k) (λ _ _. stop go) to s.place h s.is (from_place k s e) }
