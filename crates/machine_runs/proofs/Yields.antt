-- A turn that ends with a yield leaves main waiting for a line: no row ends so but that of `coroutine.yield`.
use Rattle.std.proofs.Common.{ℕ, ◌≡◌, List, [], ◌∷◌, ◌++◌, Option, Some, None, subst, ap, length, drop, true}
use Rattle.int_core.specs.Value.{boolean, Value}
use Rattle.library_rows.specs.Look.{Look}
use Rattle.library_rows.specs.Library.{Primitive, coroutine_yield}
use Rattle.machine_core.specs.World.{World}
use Rattle.machine_core.specs.Text.{written, Text}
use Rattle.machine_core.specs.Moves.{Move, Made, take_moving, give_with, move, Told, Ending, main_yielded, Row, traps, stop, only, act, Outcome, trapped, ends, run}
use Rattle.machine_core.specs.FrameRows.{then, hand_over, When, expand_by}
use Rattle.machine_core.specs.MachineStep.{look_row}
use Rattle.machine_core.specs.PrimitiveRows.{own_row, load_row}
use Rattle.machine_core.proofs.RowWalk.{RowHas, IsNoYield, IsUsual, RowsHave, hand_over_has, text_has, look_has, rows_have, own_has}
use Rattle.machine_runs.specs.Laws.{LoadsNeverYield}

-- a row that ends no turn with a yield
abbrev pub Silent : Row → Type 0
Silent traps = Unit {0}
Silent (stop e) = IsNoYield e
Silent (only slot r) = Silent r
Silent (act m k) = (n : ℕ) (t : Told m) → Silent (k n t)

pub ends_so : (e d : Ending) (W V : World) → IsNoYield e → ends e W ≡ ends d V → IsNoYield d
ends_so e d W V s h = subst IsNoYield (ap (ending_of e) h) s
  where
    ending_of : Ending → Outcome → Ending
    ending_of e trapped = e
    ending_of e (ends d V) = d

pub silent_run : (r : Row) (env : List Value) (W : World) (e : Ending) (V : World) → Silent r → run r env W ≡ ends e V → IsNoYield e
silent_run traps env W e V s h = absurd (cc)
silent_run (stop d) env W e V s h = ends_so d e W V s h
silent_run (only slot r) env W e V s h = silent_run r (drop slot env) W e V s h
silent_run (act m k) env W e V s h = from (move m env W) (λ n t env W. silent_run (k n t) env W e V (s n t)) h
  where
    from : (o : Option (Made (Told m))) → ((n : ℕ) (t : Told m) (env : List Value) (W : World) → run (k n t) env W ≡ ends e V → IsNoYield e)
        → elim o as (λ _. Outcome) [ None ↦ trapped | Some d ↦ run (k (length env) d.told) (env ++ d.values) d.world ] ≡ ends e V → IsNoYield e
    from None f h = absurd (cc)
    from (Some d) f h = f (length env) d.told (env ++ d.values) d.world h

-- the machine's rows

abbrev AnyMove : Move → Type 0
AnyMove m = Unit {0}

may_end : (e : Ending) → IsNoYield e → IsNoYield e
may_end e h = h

may_move : (m : Move) → IsUsual m → AnyMove m
may_move m h = tt

silent_of : (r : Row) → RowHas IsNoYield AnyMove r → Silent r
silent_of traps h = tt
silent_of (stop e) h = h
silent_of (only slot r) h = silent_of r h
silent_of (act m k) h = λ n t. silent_of (k n t) (h.1 n t)

pub silent_text : (w : When) (t : Text) → Silent (expand_by w t)
silent_text w t = silent_of (expand_by w t) (text_has IsNoYield AnyMove may_end may_move (λ n. tt) w t)

pub silent_rows : RowsHave Silent
silent_rows = rows_have IsNoYield AnyMove may_end may_move Silent silent_of

-- that of `coroutine.yield` in a coroutine that another one resumed
pub silent_rest_of_yield : Silent (act take_moving (λ v _. then (give_with (written (boolean true) ∷ []) v) hand_over))
silent_rest_of_yield = λ n t m u. silent_of hand_over (hand_over_has IsNoYield AnyMove may_end may_move)

pub silent_look : (l : Look) → Silent (look_row l)
silent_look l = silent_of (look_row l) (look_has IsNoYield AnyMove may_end may_move l (λ slot. tt))

pub loads_never_yield : LoadsNeverYield
loads_never_yield builds W V h = silent_run (load_row builds) [] W main_yielded V (silent_rows.of_loads builds) h

-- each primitive but `coroutine.yield` and `build`
pub silent_own : (p : Primitive) → (p ≡ coroutine_yield → ⊥) → Silent (own_row traps p)
silent_own p q = silent_of (own_row traps p) (own_has IsNoYield AnyMove may_end may_move traps tt p q)
