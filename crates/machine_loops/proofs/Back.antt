-- Where a frame goes back, and jumps.
use Rattle.std.proofs.Common.{◌≡◌, ⊎_elim, ℕ, suc, ◌+◌, ◌-◌, ◌≤◌, ◌<◌, List, Option, Some, None, refl, ap, sym, subst, ◌∙◌, arith, Bool, true, false}
use Rattle.std.specs.Prelude.{ℤ, pos, negsuc, ◌+ℤ◌, ◌-ℤ◌, IsSome}
use Rattle.int_core.specs.Value.{Value, bind}
use Rattle.list_laws.proofs.Tests.{split}
use Rattle.code_core.specs.Check.{at}
use Rattle.machine_core.specs.World.{place_of}
use Rattle.machine_core.specs.Text.{Text, go_by, quick, pay}
use Rattle.machine_core.specs.InstructionRows.{back, jumps}
use Rattle.machine_core.specs.FrameRows.{expand}
use Rattle.machine_core.specs.Moves.{move_pc, moved_pc, place_from, go, stop, Outcome, trapped, run}
use Rattle.machine_sound.proofs.Lists.{bind_at}
use Rattle.lua_heap.specs.declared.world.World.{World as Memory}
use Rattle.lua_heap.specs.Plain.{plain}
use Rattle.move_laws.specs.Memory.{IsSafe, Leads, StandsAt}
use Rattle.move_laws.proofs.Rows.{first, ended, can_go}
use Rattle.move_laws.proofs.Running.{went}
use Rattle.machine_moves.specs.Moves.{CanGo, Goes}
use Rattle.machine_arms_numbers.specs.Numbers.{leads_back, distance_of}

abbrev place_by : ℤ → Option ℕ
place_by z = elim z [ pos n ↦ Some n | negsuc _ ↦ None ]

in_front_of_all : (n k : ℕ) → pos n +ℤ (pos 1 -ℤ pos (n + 1 + suc k)) ≡ negsuc k
in_front_of_all n k = grind arith

there_by : (n by d : ℕ) → n + 1 ≡ by + d → pos n +ℤ (pos 1 -ℤ pos by) ≡ pos d
there_by n by d e = let p : pos n +ℤ pos 1 ≡ pos by +ℤ pos d = ap pos e in grind arith

from_back : (pc by : ℕ) → by ≤ pc + 1 → place_from pc (pos 1 -ℤ pos by) ≡ Some (pc + 1 - by)
from_back pc by l = let e : pc + 1 ≡ by + (pc + 1 - by) = omega (arith, l) in ap place_by (there_by pc by (pc + 1 - by) e)

no_back : (pc by : ℕ) → pc + 1 < by → place_from pc (pos 1 -ℤ pos by) ≡ None
no_back pc by l =
    let k = by - (pc + 2) in
    let e : pc + 1 + suc k ≡ by = omega (arith, l) in
    ap (λ n. place_by (pos pc +ℤ (pos 1 -ℤ pos n))) (sym e) ∙ ap place_by (in_front_of_all pc k)

-- a safe row goes back to a place that is there
pub near_back : {W : Memory} {pc : ℕ} {env : List Value} (by : ℕ) → StandsAt W pc → IsSafe (expand (back by)) env W → by ≤ pc + 1
near_back {W} {pc} {env} by s h = ⊎_elim (λ l. absurd (far l)) (λ l. l) (split (pc + 1) by)
  where
    far : pc + 1 < by → ⊥
    far l =
        let V = plain W 0 in
        let p = s.place in
        let z = pos 1 -ℤ pos by in
        h.never 0 (ap (λ o. elim o as (λ _. Outcome) [ None ↦ trapped | Some d ↦ run (stop go) (Rattle.std.specs.Prelude.◌++◌ env d.values) d.world ])
        (bind_at (λ p. moved_pc V p z) (place_of V) p s.is
        ∙ ap (λ o. bind o (λ pc. bind (at p.function.code pc) (λ _. went V p pc))) (ap (λ n. place_from n z) s.at ∙ no_back pc by l)))

pub goes_back : {W V : Memory} {pc to : ℕ} (by : ℕ) (s : StandsAt W pc) → by ≤ pc + 1 → to ≡ pc + 1 - by → Goes W V to → (env : List Value) → Leads (expand (back by)) env W V go
goes_back {W} {V} {pc} {to} by s l e g env =
    first (λ _ _. stop go) (g.makes s.place s.is (pos 1 -ℤ pos by) (ap (λ n. place_from n (pos 1 -ℤ pos by)) s.at ∙ from_back pc by l ∙ ap (λ n. Some n) (sym e)) env) ended

pub may_go_back : {W : Memory} {pc to : ℕ} {env : List Value} (by : ℕ) (s : StandsAt W pc) → by ≤ pc + 1 → to ≡ pc + 1 - by → IsSafe (expand (back by)) env W → CanGo W to
may_go_back {W} {pc} {to} {env} by s l e h = record {
  place = s.place;
  is = s.is;
  there = can_go (pos 1 -ℤ pos by) (λ _ _. stop go) to s.place h s.is (ap (λ n. place_from n (pos 1 -ℤ pos by)) s.at ∙ from_back pc by l ∙ ap (λ n. Some n) (sym e));
}

-- what a jump does

pub jumps_ahead : (z : ℤ) → leads_back z ≡ false → jumps z ≡ go_by (pos (distance_of z + 1))
jumps_ahead (pos n) e = refl
jumps_ahead (negsuc n) e = absurd (cc)

same_back : (n : ℕ) → negsuc n +ℤ pos 1 ≡ pos 1 -ℤ pos (suc n)
same_back n = grind arith

pub jumps_back : (z : ℤ) → leads_back z ≡ true → jumps z ≡ quick pay (λ _. back (distance_of z))
jumps_back (pos n) e = absurd (cc)
jumps_back (negsuc n) e = ap (λ z. quick pay (λ _. go_by z)) (same_back n)
