-- When a device may answer that it failed: only where its count of faults rose in the call.
use Rattle.std.specs.Prelude.{◌≡◌, ◌+◌, ◌-◌, ◌^◌, ◌<◌, ◌≤◌, ℕ, Bool, true, false, min, Result, Ok, Err}
use Rattle.std.specs.Bool.{OnTrue, OnFalse}
use Rattle.io_edge.specs.declared.fault.FileFault.{FileFault}
use Rattle.io_edge.specs.declared.fault.FileFault.TheVariants.{Failed, Absent, Memory}

-- the count became greater, or it stands at 2^64 - 1, where it stops
abbrev pub Rose : ℕ → ℕ → Type 0
Rose before now = min (before + 1) (2 ^ 64 - 1) ≤ now

-- The count of faults over one call: it never falls and never passes 2^64 - 1, it rose where the call answers
-- that the device failed, by one fault at most, and it is as before where the call answers anything else.
pub record HasCause (before now : ℕ) (failed : Bool) : Type 0 where
  pub later : before ≤ now
  pub once : now ≤ before + 1
  pub bounded : before < 2 ^ 64 → now < 2 ^ 64
  pub rose : OnTrue failed (Rose before now)
  pub only : OnFalse failed (now ≡ before)

-- whether the reading of a file answers that the device failed
abbrev pub is_failed : {T : Type 0} → Result T FileFault → Bool
is_failed (Ok value) = false
is_failed (Err Failed) = true
is_failed (Err Absent) = false
is_failed (Err Memory) = false
