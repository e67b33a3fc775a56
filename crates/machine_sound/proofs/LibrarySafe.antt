-- The rows of all primitives are safe, by their numbers, where what they write out is right.
use Rattle.std.proofs.Common.{◌≡◌, Option, Some, None, refl, length}
use Rattle.std.specs.Prelude.{slice_get}
use Rattle.library_rows.specs.Look.{Look}
use Rattle.machine_core.specs.Moves.{Row, traps}
use Rattle.machine_core.specs.MachineStep.{look_row, error_row, pcall_row, xpcall_row, close_row, create_row, yieldable_row, resume_row, running_row, status_row, yield_row, print_row}
use Rattle.machine_sound.specs.Laws.{PrimitiveSafe, PrimitiveGood, LookRowsSafe, LibrarySafe}
use Rattle.machine_sound.proofs.Lists.{get_there}
use Rattle.machine_sound.proofs.Steps.{safe_is_good}
use Rattle.library_rows.specs.Library.{Primitive, base_error, base_pcall, base_xpcall, coroutine_close, coroutine_create, coroutine_isyieldable, coroutine_resume, coroutine_running, coroutine_status, coroutine_yield, prelude_build, prelude_out, Entry, all_entries, row_of}
use Rattle.machine_core.specs.PrimitiveRows.{own_row, primitive_row}
use Rattle.machine_sound.proofs.FrameRowsSafe.{pcall_safe, xpcall_safe, error_safe, resume_safe, yield_safe, close_safe, create_safe, status_safe, running_safe, yieldable_safe, print_safe, look_safe}

pub look_rows_safe : LookRowsSafe
look_rows_safe l k = look_safe l k

module _ (build : Row) (b : PrimitiveGood (length all_entries) build) where
  abbrev Fine : Row → Type 0
  Fine r = PrimitiveGood (length all_entries) r

  safe : (r : Row) → PrimitiveSafe r → Fine r
  safe r k = safe_is_good (length all_entries) r k

  own_safe : (p : Primitive) → row_of p ≡ None → Fine (own_row build p)
  own_safe base_error e = safe error_row error_safe
  own_safe base_pcall e = safe pcall_row pcall_safe
  own_safe base_xpcall e = safe xpcall_row xpcall_safe
  own_safe coroutine_close e = safe close_row close_safe
  own_safe coroutine_create e = safe create_row create_safe
  own_safe coroutine_isyieldable e = safe yieldable_row yieldable_safe
  own_safe coroutine_resume e = safe resume_row resume_safe
  own_safe coroutine_running e = safe running_row running_safe
  own_safe coroutine_status e = safe status_row status_safe
  own_safe coroutine_yield e = safe yield_row yield_safe
  own_safe prelude_build e = b
  own_safe prelude_out e = safe print_row print_safe
  own_safe p e = absurd (cc)

  primitive_safe : (p : Primitive) → ((l : Look) → row_of p ≡ Some l → Fine (look_row l)) → Fine (primitive_row build p)
  primitive_safe p k = from (row_of p) refl k
    where
      from : (o : Option Look) → row_of p ≡ o → ((l : Look) → row_of p ≡ Some l → Fine (look_row l)) → Fine (elim o as (λ _. Row) [ Some l ↦ look_row l | None ↦ own_row build p ])
      from (Some l) e k = k l e
      from None e k = own_safe p e

pub library_safe : LibrarySafe
library_safe build b k n l = from (slice_get all_entries n) (get_there all_entries n l)
  where
    from : (o : Option (Entry Primitive)) → (x : Entry Primitive) × (o ≡ Some x)
        → PrimitiveGood (length all_entries) (elim (elim o as (λ _. Option Primitive) [ None ↦ None | Some e ↦ Some e.entry ]) as (λ _. Row) [ None ↦ traps | Some p ↦ primitive_row build p ])
    from None x = absurd (let e = x.1 in cc)
    from (Some y) x = primitive_safe build b y.entry (λ l e. k y.entry l e)
