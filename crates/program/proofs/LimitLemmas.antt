-- Which of its two lines a 7 has, and that one fault at most is counted.
use Rattle.std.proofs.Common.{Err, Ok, Result, IfErr, ◌≡◌, ◌≢◌, ◌⊎◌, inl, inr, ℕ, ◌+◌, ◌-◌, ◌≤◌, List, [], true, false, Bool, Option, Some, None, IfSome, refl, sym, arith}
use Rattle.std.specs.Bool.{MatchBool}
use Rattle.std.specs.Prelude.{IsErrOf}
use Rattle.code_core.specs.Prototype.{Prototype}
use Rattle.io_edge.specs.Causes.{HasCause}
use Rattle.io_edge.specs.Lines.{Unread, ahead}
use Rattle.io_edge.specs.declared.fault.FileFault.{FileFault}
use Rattle.io_edge.specs.declared.fault.FileFault.TheVariants as file
use Rattle.image_bytes.specs.Format.{Fault as Refusal}
use Rattle.prelude_code.specs.declared.fault.PreludeFault.{PreludeFault}
use Rattle.prelude_code.specs.declared.fault.PreludeFault.TheVariants as prelude
use Rattle.machine_runs.specs.Runs.{Close, Run, is_suspended}
use Rattle.lua_heap.specs.declared.world.World.{World as Memory}
use Rattle.lua_feed.specs.Faults.{is_input_fault, is_output_fault}
use Rattle.lua_feed.specs.Feeding.{IsCutOff, IsFedTo}
use Rattle.lua_feed.specs.Limits.{usable_lines, passes_limits}
use Rattle.lua_feed.specs.declared.fault.FeedFault.{FeedFault}
use Rattle.lua_feed.specs.declared.fault.FeedFault.TheVariants as feeding
use Rattle.lua_feed.specs.declared.feeding.Close.{Close as Kept}
use Rattle.lua_saving.specs.declared.fault.SaveFault.{SaveFault}
use Rattle.lua_saving.specs.declared.fault.SaveFault.TheVariants as saving
use Rattle.program.specs.declared.fault.Fault.{Fault}
use Rattle.program.specs.declared.fault.Fault.TheVariants as fault
use Rattle.program.specs.Checking.{begins_chunk}
use Rattle.program.specs.Faults.{fault_of_feeding, fault_of_file, fault_of_prelude, fault_of_saving}
use Rattle.program.specs.Outcomes.{IsNoChunkFor, IsNoCodeFor, IsNoScriptFor, IsNoSessionFor, LeavesFor, told_refusal}
use Rattle.program.specs.Report.{LimitFits, status_of_fault}
use Rattle.program.proofs.Endings.{fed_new, limit_new}

-- faults of which no 7 tells

pub file_limits : (left : Option (List ℕ)) (reason : FileFault) → LimitFits left (fault_of_file reason)
file_limits left file.Failed = tt
file_limits left file.Absent = tt
file_limits left file.Memory = tt

pub prelude_limits : (left : Option (List ℕ)) (reason : PreludeFault) → LimitFits left (fault_of_prelude reason)
prelude_limits left prelude.Refused = tt
prelude_limits left prelude.Memory = tt

other_limits : (left : Option (List ℕ)) (status : ℕ) (reason : Fault) → status_of_fault reason ≡ status → status ≢ 7 → LimitFits left reason
other_limits left status fault.InputLimit is other = absurd (other (sym is))
other_limits left status fault.TooLarge is other = absurd (other (sym is))
other_limits left status _ is other = tt

refused_limits : (left : Option (List ℕ)) (content : List ℕ) (reason : Fault) (b : Bool) → MatchBool b (IsNoChunkFor content reason) (IsNoScriptFor content reason) → LimitFits left reason
refused_limits left content reason true own = other_limits left 8 reason own.status (λ is. let k : 8 ≡ 7 = is in absurd (omega (arith, k)))
refused_limits left content reason false own = other_limits left 5 reason own.status (λ is. let k : 5 ≡ 7 = is in absurd (omega (arith, k)))

pub code_limits : (left : Option (List ℕ)) (content : List ℕ) (reason : Fault) → IsNoCodeFor content reason ⊎ (reason ≡ fault.Memory) → LimitFits left reason
code_limits left content reason (inl own) = refused_limits left content reason (begins_chunk content) own
code_limits left content reason (inr memory) = rw memory tt

told_limits : (left : Option (List ℕ)) (reason : Fault) (why : Refusal) → told_refusal reason ≡ Some why → LimitFits left reason
told_limits left fault.InputLimit why told = absurd (cc)
told_limits left fault.TooLarge why told = absurd (cc)
told_limits left _ why told = tt

pub session_limits : (left : Option (List ℕ)) (own : Prototype) (content : List ℕ) (reason : Fault) → IsNoSessionFor own content reason ⊎ (reason ≡ fault.Memory) → LimitFits left reason
session_limits left own content reason (inl none) = told_limits left reason none.why none.told
session_limits left own content reason (inr memory) = rw memory tt

-- a line that is waited for is past the limits

pub one_past : (reader : Unread) (Runs : List (List ℕ) → Run → Type 0) (left written written' : Option (List ℕ)) → reader ≡ record { pending = []; taken = 0 } → IsCutOff Runs reader.taken (ahead reader left) written written'
    → IfSome left (λ text. passes_limits 0 text ≡ true)
one_past reader Runs left written written' new cut = (limit_new reader Runs left written written' new cut).past

pub feeding_limits : (left : Option (List ℕ)) (reason : FeedFault) → (IsErrOf {T = Kept} (Err reason) feeding.Limit → IfSome left (λ text. passes_limits 0 text ≡ true)) → LimitFits left (fault_of_feeding reason)
feeding_limits left feeding.Input past = tt
feeding_limits left feeding.Output past = tt
feeding_limits left feeding.Limit past = past refl
feeding_limits left feeding.Memory past = tt

-- the image is too large, of a session that waits where no line is past the limits

pub saving_leaves : (reason : SaveFault) → LeavesFor is_suspended (fault_of_saving reason)
saving_leaves saving.TooLarge = refl
saving_leaves saving.Prelude = tt
saving_leaves saving.Memory = tt

pub left_limits : (left : Option (List ℕ)) (close : Close) (r : Result ℕ Fault) → (close ≡ is_suspended → IfSome left (λ text. passes_limits 0 text ≡ false)) → IfErr r (LeavesFor close) → IfErr r (LimitFits left)
left_limits left close (Ok status) none given = tt
left_limits left close (Err fault.InputLimit) none given = absurd given
left_limits left close (Err fault.TooLarge) none given = none given
left_limits left close (Err _) none given = tt

pub none_past : (reader : Unread) (Runs : List (List ℕ) → Run → Type 0) (left written written' : Option (List ℕ)) (close : Close) (W : Memory) → reader ≡ record { pending = []; taken = 0 }
    → IsFedTo Runs reader.taken (ahead reader left) written written' close W → close ≡ is_suspended → IfSome left (λ text. passes_limits 0 text ≡ false)
none_past reader Runs left written written' close W new to waits = let own = fed_new reader Runs left written written' close W new to in by own.fed.run left own.fed.within
  where
    by : (run : Run) (left : Option (List ℕ)) → IfSome left (λ bytes. Runs (usable_lines 0 bytes) run × (close ≡ is_suspended → passes_limits 0 bytes ≡ false)) → IfSome left (λ text. passes_limits 0 text ≡ false)
    by run (Some text) within = within.1 waits
    by run None within = tt

-- feeding ends at its first fault

pub one_fault : (i i' k k' : ℕ) (reason : FeedFault) → HasCause i i' (is_input_fault {T = Kept} (Err reason)) → HasCause k k' (is_output_fault {T = Kept} (Err reason)) → (i' - i) + (k' - k) ≤ 1
one_fault i i' k k' feeding.Input cause cause' = omega (arith, cause.once, cause'.only)
one_fault i i' k k' feeding.Output cause cause' = omega (arith, cause.only, cause'.once)
one_fault i i' k k' feeding.Limit cause cause' = omega (arith, cause.only, cause'.only)
one_fault i i' k k' feeding.Memory cause cause' = omega (arith, cause.only, cause'.only)
