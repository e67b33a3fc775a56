-- Runs from a sound world: there is one alone on any lines, and where it is suspended it leaves a sound world that waits for a line.
use Rattle.std.proofs.Common.{ℕ, ◌≡◌, ◌≤◌, List, [], ◌∷◌, ◌++◌, Option, Some, None, refl, subst, sym, ◌∙◌, ap, length}
use Rattle.int_core.specs.Value.{greatest_string}
use Rattle.list_laws.proofs.Items.{some_same}
use Rattle.library_rows.specs.Library.{all_entries}
use Rattle.machine_core.specs.World.{World}
use Rattle.machine_core.specs.Moves.{Row, calls_primitive, spent, main_yielded, main_returned, main_failed, Outcome, ends}
use Rattle.machine_core.specs.PrimitiveRows.{row_numbered}
use Rattle.machine_sound.specs.Sound.{Each, Sound}
use Rattle.machine_sound.proofs.Lists.{each_tail, each_append}
use Rattle.machine_ends.proofs.Ends.{code_runs}
use Rattle.machine_runs.specs.Laws.{MayTurn}
use Rattle.machine_runs.specs.Opening.{handed_line}
use Rattle.machine_runs.specs.Runs.{turn, Close, has_returned, has_failed, has_spent, is_suspended, Run, turn_text, closes, behind, suspends, at_end, run_from, onward, CodeRun, CodeOnward}
use Rattle.machine_runs.proofs.Opening.{handed_sound, handed_may_turn}
use Rattle.machine_runs.proofs.MainWaits.{turn_yields}
use Rattle.machine_runs.proofs.Runs.{run_once}
use Rattle.image_core.proofs.Lists.{map_some, none_some}
use Rattle.sessions_join.specs.Laws.{IsFit, AreShort, all_lines}

abbrev pub Short : List ℕ → Type 0
Short line = length line ≤ greatest_string

-- lines of all sessions

pub all_short : (inputs : List (List (List ℕ))) → AreShort inputs → Each Short (all_lines inputs)
all_short [] h = λ i x e. absurd (none_some x e)
all_short (lines ∷ inputs) h = each_append Short lines (all_lines inputs) (h 0 lines refl) (all_short inputs (each_tail (λ (lines : List (List ℕ)). Each Short lines) lines inputs h))

-- a run that is suspended went through a yield

record Yields (o : Outcome) (goes : World → Option Run) (r : Run) : Type 0 where
  world : World
  rest : Run
  yields : o ≡ ends main_yielded world
  goes_on : goes world ≡ Some rest
  suspended : rest.close ≡ is_suspended
  last : rest.last ≡ r.last

closed_otherwise : (c : Close) (x r : Run) → x.close ≡ c → (c ≡ is_suspended → ⊥) → Some x ≡ Some r → r.close ≡ is_suspended → ⊥
closed_otherwise c x r is other e s = other (sym is ∙ (ap (λ (m : Run). m.close) (some_same x r e) ∙ s))

yielded : (o : Outcome) (goes : World → Option Run) (r : Run) → at_end o goes ≡ Some r → r.close ≡ is_suspended → Yields o goes r
yielded (ends main_yielded V) goes r e s =
    let m = map_some (behind (turn_text main_yielded V)) (goes V) r e in
    record { world = V; rest = m.0; yields = refl; goes_on = m.1; suspended = ap (λ (x : Run). x.close) m.2 ∙ s; last = ap (λ (x : Run). x.last) m.2 }
yielded (ends main_returned V) goes r e s = absurd (closed_otherwise has_returned (closes main_returned has_returned V) r refl (λ q. absurd (cc)) e s)
yielded (ends main_failed V) goes r e s = absurd (closed_otherwise has_failed (closes main_failed has_failed V) r refl (λ q. absurd (cc)) e s)
yielded (ends spent V) goes r e s = absurd (closed_otherwise has_spent (closes spent has_spent V) r refl (λ q. absurd (cc)) e s)
yielded (ends (calls_primitive n) V) goes r e s = absurd (none_some r e)
yielded _ goes r e s = absurd (none_some r e)

module _ (build : Row) (fit : IsFit build) (budget : ℕ) where
  pub record Waits (W : World) : Type 0 where
    pub sound : Sound (length all_entries) W
    pub may : MayTurn W

  handed_waits : (W : World) (line : List ℕ) → Waits W → Short line → Waits (handed_line W line)
  handed_waits W line w s = record { sound = handed_sound (length all_entries) W line w.sound w.may.idle s; may = handed_may_turn W line w.may }

  turn_waits : (count : ℕ) (W V : World) → Waits W → turn (row_numbered build) count W budget ≡ ends main_yielded V → Waits V
  turn_waits count W V w e = let k = turn_yields build fit.silent (length all_entries) fit.safe count W budget V w.sound w.may e in record { sound = k.0; may = k.1 }

  -- what holds of each world in which a turn ends with a yield holds of the last one of a run that is suspended

  abbrev pub Left : (World → Type 0) → Type 0
  Left P = (count : ℕ) (W V : World) → Waits W → turn (row_numbered build) count W budget ≡ ends main_yielded V → P V

  from_leaves : (P : World → Type 0) → Left P → (count : ℕ) (input : List (List ℕ)) (W : World) (r : Run) → Waits W → Each Short input → run_from (row_numbered build) count W input budget ≡ Some r → r.close ≡ is_suspended → P r.last
  from_leaves P left count [] W r w l e s =
      let y = yielded (turn (row_numbered build) count W budget) suspends r e s in
      let same : y.world ≡ r.last = ap (λ (x : Run). x.last) (some_same (record { printed = []; close = is_suspended; last = y.world }) y.rest y.goes_on) ∙ y.last in
      subst P same (left count W y.world w y.yields)
  from_leaves P left count (line ∷ more) W r w l e s =
      let y = yielded (turn (row_numbered build) count W budget) (λ V. run_from (row_numbered build) count (handed_line V line) more budget) r e s in
      subst P y.last
      (from_leaves P left count more (handed_line y.world line) y.rest (handed_waits y.world line (turn_waits count W y.world w y.yields) (l 0 line refl)) (each_tail Short line more l) y.goes_on y.suspended)

  pub run_leaves : (P : World → Type 0) → Left P → (W : World) (input : List (List ℕ)) (r : Run) → Waits W → Each Short input → CodeRun (row_numbered build) W input budget r → r.close ≡ is_suspended → P r.last
  run_leaves P left W input r w l c s = from_leaves P left c.count input W r w l c.gives s

  -- and so from a world that waits for a line, where it holds there
  pub onward_leaves : (P : World → Type 0) → Left P → (W : World) (input : List (List ℕ)) (r : Run) → Waits W → P W → Each Short input → CodeOnward (row_numbered build) W input budget r → r.close ≡ is_suspended → P r.last
  onward_leaves P left W [] r w now l c s = subst P (ap (λ (x : Run). x.last) (some_same (record { printed = []; close = is_suspended; last = W }) r c.gives)) now
  onward_leaves P left W (line ∷ more) r w now l c s = from_leaves P left c.count more (handed_line W line) r (handed_waits W line w (l 0 line refl)) (each_tail Short line more l) c.gives s

  pub run_waits : (W : World) (input : List (List ℕ)) (r : Run) → Waits W → Each Short input → CodeRun (row_numbered build) W input budget r → r.close ≡ is_suspended → Waits r.last
  run_waits = run_leaves Waits turn_waits

  pub onward_waits : (W : World) (input : List (List ℕ)) (r : Run) → Waits W → Each Short input → CodeOnward (row_numbered build) W input budget r → r.close ≡ is_suspended → Waits r.last
  onward_waits W input r w l c s = onward_leaves Waits turn_waits W input r w w l c s

  -- a world that waits for a line goes on in one way alone

  pub onward_runs : (W : World) (input : List (List ℕ)) → Waits W → Each Short input → (r : Run) × CodeOnward (row_numbered build) W input budget r
  onward_runs W [] w l = (record { printed = []; close = is_suspended; last = W }, record { count = 0; gives = refl })
  onward_runs W (line ∷ more) w l =
      let h = handed_waits W line w (l 0 line refl) in
      let k = code_runs build fit.least fit.falls (length all_entries) fit.safe fit.silent (handed_line W line) more budget h.sound h.may (each_tail Short line more l) in
      (k.0, record { count = k.1.count; gives = k.1.gives })

  pub onward_once : (W : World) (input : List (List ℕ)) (x y : Run) → CodeOnward (row_numbered build) W input budget x → CodeOnward (row_numbered build) W input budget y → x ≡ y
  onward_once W [] x y a b = some_same x y (sym a.gives ∙ b.gives)
  onward_once W (line ∷ more) x y a b =
      run_once (row_numbered build) (handed_line W line) more budget x y (record { count = a.count; gives = a.gives }) (record { count = b.count; gives = b.gives })
