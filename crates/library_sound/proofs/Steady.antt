-- Rows that leave all tables as they were, and give plain values.
use Rattle.std.proofs.Common.{ℕ, zero, ◌≡◌, List, [], ◌∷◌, ◌++◌, Some, None, refl, subst, sym, Bool, true, false, cond, map, length}
use Rattle.std.specs.Prelude.{IsTrue}
use Rattle.std.specs.List.{list_all}
use Rattle.int_core.specs.Heap.{Heap}
use Rattle.int_core.specs.Value.{Plain, string, primitive, Value, known, greatest_string}
use Rattle.library_rows.specs.Look.{Look, Done, done, refused, looked}
use Rattle.library_rows.specs.Plainly.{Outcome as Rows, results, error, too_large, fits_length, done_as}
use Rattle.machine_core.specs.World.{World}
use Rattle.machine_core.specs.Moves.{consulted, LookShape, is_given, is_refused, is_raised, Outcome, trapped, run}
use Rattle.machine_core.specs.MachineStep.{look_row, after_look}
use Rattle.machine_sound.specs.Sound.{Each, Sizes, sizes, Valid, Solid, StackWaits}
use Rattle.machine_sound.specs.Safe.{waiting, Is, Safe, Good}
use Rattle.machine_sound.specs.Laws.{PrimitiveGood}
use Rattle.machine_sound.proofs.Lists.{each_none, each_cons, each_tail, each_append}
use Rattle.machine_sound.proofs.Values.{le_of, both_of}
use Rattle.machine_sound.proofs.Grow.{values_on}
use Rattle.machine_sound.proofs.Waits.{with_moving, moving_grows, moving_solid, moving_waits}
use Rattle.machine_sound.proofs.All.{all_rows_good}
use Rattle.machine_sound.proofs.FrameRowsSafe.{hand_over_safe}
use Rattle.library_sound.proofs.Plain.{IsThere, AllThere}

plain_valid : (z : Sizes) (p : Plain) → IsTrue (fits_length p) → IsThere z.primitives p → Valid z (known p)
plain_valid z (string bytes) h k = le_of (length bytes) greatest_string h
plain_valid z (primitive n) h k = k
plain_valid z _ h k = tt

plains_valid : (z : Sizes) (ps : List Plain) → IsTrue (list_all fits_length ps) → Each (IsThere z.primitives) ps → Each (Valid z) (map known ps)
plains_valid z [] h k = each_none (Valid z)
plains_valid z (p ∷ ps) h k =
    let b = both_of (fits_length p) (list_all fits_length ps) h in
    each_cons (Valid z) (known p) (map known ps) (plain_valid z p b.0 (k zero p refl)) (plains_valid z ps b.1 (each_tail (IsThere z.primitives) p ps k))

after_safe : (env : List Value) (v : ℕ) (s : LookShape) → Safe (waiting None) env (after_look v s)
after_safe env v is_given = (tt, λ _. hand_over_safe None (env ++ []))
after_safe env v (is_refused text) = (tt, λ _. tt)
after_safe env v is_raised = ((tt, tt), λ _. tt)

-- what a row comes to over the arguments and tables
module _ (n : ℕ) (l : Look) (g : List Value → Heap → Rows) (is : (vs : List Value) (H : Heap) → looked l vs H ≡ done_as H (g vs H)) (fits : (vs : List Value) (H : Heap) → AllThere n (g vs H)) (W : World) (s : Solid n W) (h : StackWaits n W) where
  us : Solid n (with_moving W [] W.fuel)
  us = moving_solid n W [] W.fuel s (each_none (Valid (sizes n W)))

  uw : StackWaits n (with_moving W [] W.fuel)
  uw = moving_waits n W [] W.fuel h

  is_here : (env : List Value) → Each (Valid (sizes n (with_moving W [] W.fuel))) env → Is n (waiting None) env (with_moving W [] W.fuel)
  is_here env v = record { solid = us; phase = record { all = uw; top = tt }; valid = v }

  moved : Each (Valid (sizes n (with_moving W [] W.fuel))) W.moving
  moved = values_on (sizes n W) (sizes n (with_moving W [] W.fuel)) (moving_grows n W [] W.fuel) W.moving s.moving

  abbrev then_on : Done → Outcome
  then_on d = elim (consulted (with_moving W [] W.fuel) d) [ None ↦ trapped | Some d ↦ run (after_look (length W.moving) d.told) (W.moving ++ d.values) d.world ]

  went_on : (vs : List Value) (t : LookShape) → Each (Valid (sizes n (with_moving W [] W.fuel))) vs → Good n (run (after_look (length W.moving) t) (W.moving ++ vs) (with_moving W [] W.fuel))
  went_on vs t v = all_rows_good n (after_look (length W.moving) t) (waiting None) (W.moving ++ vs) (with_moving W [] W.fuel)
      (is_here (W.moving ++ vs) (each_append (Valid (sizes n (with_moving W [] W.fuel))) W.moving vs moved v)) (after_safe (W.moving ++ vs) (length W.moving) t)

  came : (r : Rows) → AllThere n r → Good n (then_on (done_as W.heap r))
  came (error text) t = went_on [] (is_refused text) (each_none (Valid (sizes n (with_moving W [] W.fuel))))
  came (results ps) t = by (list_all fits_length ps) refl
    where
      by : (b : Bool) → list_all fits_length ps ≡ b → Good n (then_on (cond b (done W.heap (map known ps)) (refused too_large)))
      by true q = went_on (map known ps) is_given (plains_valid (sizes n (with_moving W [] W.fuel)) ps q t)
      by false q = went_on [] (is_refused too_large) (each_none (Valid (sizes n (with_moving W [] W.fuel))))

  steady : Good n (run (look_row l) [] W)
  steady = subst (λ d. Good n (then_on d)) (sym (is W.moving W.heap)) (came (g W.moving W.heap) (fits W.moving W.heap))

pub steady_good : (n : ℕ) (l : Look) (g : List Value → Heap → Rows) → ((vs : List Value) (H : Heap) → looked l vs H ≡ done_as H (g vs H)) → ((vs : List Value) (H : Heap) → AllThere n (g vs H)) → PrimitiveGood n (look_row l)
steady_good n l g is fits W s h = steady n l g is fits W s h
