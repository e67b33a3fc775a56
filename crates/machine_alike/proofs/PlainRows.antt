-- Which rows make no function: those of texts that make none, those of frames, errors and results, and those of the primitives.
use Rattle.std.proofs.Common.{ℕ, suc, Bool, true, false, cond, List, [], ◌∷◌}
use Rattle.std.specs.Prelude.{Option, Some, None}
use Rattle.library_rows.specs.Look.{Look}
use Rattle.library_rows.specs.Library.{Primitive, primitive_at, row_of}
use Rattle.machine_core.specs.World.{Wait}
use Rattle.machine_core.specs.MachineStep.{look_row}
use Rattle.machine_core.specs.PrimitiveRows.{own_row, primitive_row, row_numbered}
use Rattle.machine_core.specs.Text.{Arg, read, Own, read_upvalue, write_upvalue, make_table, make_function, fill_table, pay, Text, go_by, own, open_cell, quick, operate, call, tail_call, close, closable, raise, leave, trap}
use Rattle.machine_core.specs.Moves.{Move, outside, CallShape, SettledShape, is_found, is_asked, is_fault, Ending, Row, traps, stop, only, act}
use Rattle.machine_core.specs.FrameRows.{raises, after_call, When, calls_row, prepares, leave_row, expand_by}
use Rattle.machine_core.specs.RowFits.{MakesNone}
use Rattle.machine_core.proofs.RowWalk.{RowHas, IsNoYield, IsUsual, RowsHave, after_call_has, calls_has, leave_has, look_has, rows_have, own_has}
use Rattle.machine_alike.specs.Laws.{NoneMade}

abbrev AnyEnd : Ending → Type 0
AnyEnd e = Unit {0}

abbrev MakesNo : Move → Type 0
MakesNo (outside (make_function n)) = ⊥
MakesNo _ = Unit {0}

may_end : (e : Ending) → IsNoYield e → AnyEnd e
may_end e h = tt

may_move : (m : Move) → IsUsual m → MakesNo m
may_move (outside (make_function n)) h = absurd h
may_move _ h = tt

none_of : (r : Row) → RowHas AnyEnd MakesNo r → NoneMade r
none_of traps h = tt
none_of (stop e) h = tt
none_of (only slot r) h = none_of r h
none_of (act (outside (make_function n)) k) h = absurd h.0
none_of (act m k) h = λ n t. none_of (k n t) (h.1 n t)

has_of : (r : Row) → NoneMade r → RowHas AnyEnd MakesNo r
has_of traps h = tt
has_of (stop e) h = tt
has_of (only slot r) h = has_of r h
has_of (act (outside (make_function n)) k) h = absurd h
has_of (act m k) h = (tt, λ n t. has_of (k n t) (h n t))

-- texts

after_call_none : (s : CallShape) → NoneMade (after_call s)
after_call_none s = none_of (after_call s) (after_call_has AnyEnd MakesNo may_end may_move s)

prepares_none : (ms : List Own) (r : Row) → NoneMade r → NoneMade (prepares ms r)
prepares_none [] r h = h
prepares_none (m ∷ ms) r h = λ _ _. prepares_none ms r h

cond_none : (b : Bool) (r s : Row) → NoneMade r → NoneMade s → NoneMade (cond b r s)
cond_none true r s h k = h
cond_none false r s h k = k

calls_none : (when : When) (f : Arg) (slot : ℕ) (wait : Wait Arg) (prepared : List Own) → NoneMade (calls_row when f slot wait prepared)
calls_none when f slot wait prepared = none_of (calls_row when f slot wait prepared) (calls_has AnyEnd MakesNo may_end may_move when f slot wait prepared)

pub expand_none : (when : When) (t : Text) → MakesNone t → NoneMade (expand_by when t)
expand_none when (go_by z) h = λ _ _. tt
expand_none when (own m k) h = λ n s. expand_none when (k n s) (h n s)
expand_none when (open_cell r t) h = λ _ _. expand_none when t h
expand_none when (quick (read_upvalue u) k) h = λ n _. expand_none when (k n) (h n)
expand_none when (quick (write_upvalue u x) k) h = λ n _. expand_none when (k n) (h n)
expand_none when (quick make_table k) h = λ n _. expand_none when (k n) (h n)
expand_none when (quick (make_function n) k) h = absurd h
expand_none when (quick (fill_table t last slot) k) h = λ n _. expand_none when (k n) (h n)
expand_none when (quick pay k) h = λ n paid. cond_none paid _ _ (expand_none when (k n) (h n)) tt
expand_none when (operate op xs wait prepared t) h = λ n s. by n s (expand_none when t h)
  where
    by : (n : ℕ) (s : SettledShape) → NoneMade (expand_by when t) → NoneMade (elim s [
      | is_found ↦ prepares prepared (only n (expand_by when t))
      | is_asked ↦ calls_row when (read n) (suc n) wait prepared
      | is_fault text ↦ prepares prepared (raises text)
    ])
    by n is_found k = prepares_none prepared _ k
    by n is_asked k = calls_none when (read n) (suc n) wait prepared
    by n (is_fault text) k = prepares_none prepared _ (λ _ _. tt)
expand_none when (call f slot wait prepared) h = calls_none when f slot wait prepared
expand_none when (tail_call f slot) h = λ _ s. after_call_none s
expand_none when (close v e wait prepared) h = λ n _. calls_none when (read n) (suc n) wait prepared
expand_none when (closable v name t) h = λ _ yes. cond_none yes _ _ (expand_none when t h) (λ _ _. tt)
expand_none when (raise text) h = λ _ _. tt
expand_none when (leave given) h = none_of (leave_row given) (leave_has AnyEnd MakesNo may_end may_move given)
expand_none when trap h = tt

-- frames, errors and results; a function of loaded code captures no local
pub none_rows : RowsHave NoneMade
none_rows = rows_have AnyEnd MakesNo may_end may_move NoneMade none_of

-- primitives

look_none : (l : Look) → NoneMade (look_row l)
look_none l = none_of (look_row l) (look_has AnyEnd MakesNo may_end may_move l (λ slot. tt))

own_none : (build : Row) → NoneMade build → (p : Primitive) → NoneMade (own_row build p)
own_none build b p = none_of (own_row build p) (own_has AnyEnd MakesNo may_end may_move build (has_of build b) p (λ e. tt))

-- all of them, by their numbers
pub numbered_none : (build : Row) → NoneMade build → (n : ℕ) → NoneMade (row_numbered build n)
numbered_none build b n = from (primitive_at n)
  where
    by : (p : Primitive) (o : Option Look) → NoneMade (elim o as (λ _. Row) [ Some l ↦ look_row l | None ↦ own_row build p ])
    by p (Some l) = look_none l
    by p None = own_none build b p

    from : (o : Option Primitive) → NoneMade (elim o as (λ _. Row) [ None ↦ traps | Some p ↦ primitive_row build p ])
    from None = tt
    from (Some p) = by p (row_of p)
