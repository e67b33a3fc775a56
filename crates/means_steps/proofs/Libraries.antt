-- All primitives by their numbers.
use Rattle.code_core.specs.Prototype.{Prototype}
use Rattle.load_rows.specs.Loading.{Builds}
use Rattle.std.proofs.Common.{ℕ, zero, suc, ◌≡◌, ◌<◌, List, [], ◌∷◌, length, Option, Some, None, refl, arith}
use Rattle.std.specs.Prelude.{slice_get}
use Rattle.library_rows.specs.Look.{Look}
use Rattle.library_rows.specs.Library.{Primitive, base_error, base_pcall, base_xpcall, coroutine_close, coroutine_create, coroutine_isyieldable, coroutine_resume, coroutine_running, coroutine_status, coroutine_yield, prelude_build, prelude_out, Entry, all_entries, row_of}
use Rattle.machine_core.specs.Moves.{Row, traps}
use Rattle.machine_core.specs.MachineStep.{look_row}
use Rattle.machine_core.specs.PrimitiveRows.{own_row, primitive_row}
use Rattle.means_steps.specs.Steps.{PrimitiveJoined, PrimitivesJoined, LibrariesAreSame}
use Rattle.means_steps.proofs.Coroutines.{create_leads, error_leads}
use Rattle.means_steps.proofs.Primitives.{close_leads, look_leads, pcall_leads, print_leads, resume_leads, running_leads, status_leads, xpcall_leads, yield_leads, yieldable_leads}

module _ (builds : Builds Prototype) (build : Row) (joined : PrimitiveJoined builds build prelude_build) where
  -- a primitive without a row of its own has one that looks at values
  own_leads : (p : Primitive) → PrimitiveJoined builds (own_row build p) p
  own_leads base_error = error_leads builds
  own_leads base_pcall = pcall_leads builds
  own_leads base_xpcall = xpcall_leads builds
  own_leads coroutine_close = close_leads builds
  own_leads coroutine_create = create_leads builds
  own_leads coroutine_isyieldable = yieldable_leads builds
  own_leads coroutine_resume = resume_leads builds
  own_leads coroutine_running = running_leads builds
  own_leads coroutine_status = status_leads builds
  own_leads coroutine_yield = yield_leads builds
  own_leads prelude_build = joined
  own_leads prelude_out = print_leads builds
  own_leads p = λ library primitives M T k. tt

  by_row : (p : Primitive) (o : Option Look) → row_of p ≡ o → PrimitiveJoined builds (elim o as (λ _. Row) [ Some l ↦ look_row l | None ↦ own_row build p ]) p
  by_row p (Some l) e = look_leads l p e builds
  by_row p None e = own_leads p

  each_leads : (p : Primitive) → PrimitiveJoined builds (primitive_row build p) p
  each_leads p = by_row p (row_of p) refl

  -- over any list of them
  abbrev IsThere : Option (Entry Primitive) → Type 0
  IsThere o =
      (p : Primitive)
      × (elim o as (λ _. Option Primitive) [ None ↦ None | Some e ↦ Some e.entry ] ≡ Some p)
      × PrimitiveJoined builds (elim (elim o as (λ _. Option Primitive) [ None ↦ None | Some e ↦ Some e.entry ]) as (λ _. Row) [ None ↦ traps | Some p ↦ primitive_row build p ]) p

  at_number : (es : List (Entry Primitive)) (n : ℕ) → n < length es → IsThere (slice_get es n)
  at_number [] n l = absurd (omega (arith, l))
  at_number (e ∷ es) zero l = (e.entry, refl, each_leads e.entry)
  at_number (e ∷ es) (suc n) l = at_number es n (omega (arith, l))

pub primitives_joined : PrimitivesJoined
primitives_joined builds build joined p = each_leads builds build joined p

pub libraries_same : LibrariesAreSame
libraries_same builds build joined n l = at_number builds build joined all_entries n l
