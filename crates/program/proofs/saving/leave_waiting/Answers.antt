use Rattle.std.proofs.Common.{arith, ℕ, List, refl, ap, sym, subst, Bor}
use Rattle.std.specs.Option.{option_map}
use Rattle.program.specs.declared.fault.Fault.TheVariants.{Device}
use Rattle.program.specs.Faults.{fault_of_saving, status_of}
use Rattle.program.specs.Outcomes.{unnamed, saved, unput}
use Rattle.lua_saving.specs.Saving.{IsImage}
use Rattle.program.proofs.Leaving.{not_saved}
use Rattle.program.proofs.LimitLemmas.{saving_leaves}
use Rattle.program.proofs.Raised.{raised}
use Rattle.program.proofs.saving.leave_waiting.Goals as goal

pub returns-in_default-clause-left : goal.returns-in_default-clause-left
returns-in_default-clause-left g c = unnamed refl (ap (option_map (λ (name : Bor (List ℕ)). name.now)) c.in_default.is) (record { no_fault = refl; unwritten = refl })

pub returns-in_err-image-clause-left : goal.returns-in_err-image-clause-left
returns-in_err-image-clause-left g c =
    let is = raised c.from_residual.result (fault_of_saving c.in_err-image.field-0.0) c.from_residual.ensures.1 in
    rw (ap status_of is) (not_saved c.args.world.now _ c.in-Some.name.now _ _ c.in_err-image.field-0.0 (ap (option_map (λ (name : Bor (List ℕ)). name.now)) c.in-Some.is) c.in_err-image.ensures.large c.in_err-image.ensures.touched)

pub returns-in_err-put-clause-left : goal.returns-in_err-put-clause-left
returns-in_err-put-clause-left g c =
    let is = raised c.from_residual-in_err-put.result Device c.from_residual-in_err-put.ensures.1 in
    rw (ap status_of is) (unput c.in-Some.name.now refl (ap (option_map (λ (name : Bor (List ℕ)). name.now)) c.in-Some.is) c.in_err-put.ensures.cause.rose c.in_err-put.ensures.failed)

pub returns-clause-left : goal.returns-clause-left
returns-clause-left g c =
    let image : IsImage c.args.world.now c.as_slice.result.now = subst (IsImage c.args.world.now) (sym c.as_slice.ensures.value) c.in_ok-image.ensures.image in
    saved c.in-Some.name.now c.as_slice.result.now refl (ap (option_map (λ (name : Bor (List ℕ)). name.now)) c.in-Some.is) image c.in_ok-put.ensures.cause.only c.in_ok-put.ensures.replaced

pub returns-in_err-image-clause-limits : goal.returns-in_err-image-clause-limits
returns-in_err-image-clause-limits g c =
    let is = raised c.from_residual.result (fault_of_saving c.in_err-image.field-0.0) c.from_residual.ensures.1 in
    rw is (saving_leaves c.in_err-image.field-0.0)

pub returns-in_err-put-clause-limits : goal.returns-in_err-put-clause-limits
returns-in_err-put-clause-limits g c = rw (raised c.from_residual-in_err-put.result Device c.from_residual-in_err-put.ensures.1) tt

pub returns-in_err-put-clause-once : goal.returns-in_err-put-clause-once
returns-in_err-put-clause-once g c = omega (arith, c.in_err-put.ensures.cause.once)

pub returns-clause-once : goal.returns-clause-once
returns-clause-once g c = omega (arith, c.in_ok-put.ensures.cause.once)
