-- A session that waits for a line is not saved.
use Rattle.std.proofs.Common.{Err, ◌≡◌, ℕ, List, Option, Some, refl}
use Rattle.std.specs.Prelude.{IsErrOf}
use Rattle.std.specs.declared.vec.Vec.{Vec}
use Rattle.std.specs.declared.alloc.Global.{Global}
use Rattle.io_edge.specs.Content.{FileMap}
use Rattle.machine_runs.specs.Runs.{is_suspended}
use Rattle.lua_heap.specs.declared.world.World.{World as Memory}
use Rattle.lua_saving.specs.Saving.{IsLarge, IsTouched}
use Rattle.lua_saving.specs.declared.fault.SaveFault.{SaveFault}
use Rattle.lua_saving.specs.declared.fault.SaveFault.TheVariants as saving
use Rattle.program.specs.Faults.{fault_of_saving}
use Rattle.program.specs.Outcomes.{IsLeftBy, too_large, touched, no_memory}
use Rattle.program.specs.Report.{status_of_fault}
use Rattle.program.proofs.DeviceLemmas.{files_of}

pub not_saved : (W : Memory) (save : Option (List ℕ)) (image : List ℕ) (f : ℕ) (held : Option FileMap) (reason : SaveFault) → save ≡ Some image
    → (IsErrOf {T = Vec ℕ Global} (Err reason) saving.TooLarge → IsLarge W) → (IsErrOf {T = Vec ℕ Global} (Err reason) saving.Prelude → IsTouched W)
    → IsLeftBy W is_suspended save (files_of f f held held) (status_of_fault (fault_of_saving reason))
not_saved W save image f held saving.TooLarge named large other = too_large image refl named (large refl) (record { no_fault = refl; unwritten = refl })
not_saved W save image f held saving.Prelude named large other = touched image refl named (other refl) (record { no_fault = refl; unwritten = refl })
not_saved W save image f held saving.Memory named large other = no_memory image refl named (record { no_fault = refl; unwritten = refl })
