-- A step of the machine on a world in memory, by the ending of the one before.
use Rattle.std.proofs.Common.{◌≡◌, ℕ, List, [], Some, None, refl, ap, sym, subst, ◌∙◌}
use Rattle.std.specs.Prelude.{map, slice_get}
use Rattle.int_core.specs.Ask.{values}
use Rattle.int_core.specs.Value.{Value, last}
use Rattle.code_core.specs.Prototype.{Prototype}
use Rattle.code_core.specs.Instruction.{opcode_of}
use Rattle.machine_core.specs.World.{LuaFrame, Stack, stack_of, Place, place_of, World, Wait, running}
use Rattle.machine_core.specs.Text.{Text, trap}
use Rattle.machine_core.specs.InstructionRows.{text_at, text_by, rest_at, rest_by, told_values}
use Rattle.machine_core.specs.FrameRows.{at_once, by_asking, expand, goes_on_by, asked_row, raised_row, unwound, handed_to, results_row, unwinding_row}
use Rattle.machine_core.specs.Moves.{Ending, go, spent, main_yielded, main_returned, main_failed, see_top, Row, act, Outcome, trapped, run}
use Rattle.machine_core.specs.MachineStep.{woken, lua_step, top_step, from_world}
use Rattle.machine_sound.specs.Sound.{Solid, StackWaits}
use Rattle.machine_sound.specs.Safe.{waiting, Safe, Good}
use Rattle.machine_sound.proofs.Lists.{bind_at}
use Rattle.machine_sound.proofs.LuaSteps.{settles, running_text_good, waiting_text_good}
use Rattle.machine_sound.proofs.Steps.{from_waiting}
use Rattle.machine_sound.proofs.FrameRowsSafe.{returned_safe, asked_safe, raised_safe, unwinding_safe}
use Rattle.instruction_forms.specs.declared.form.Form.{Form}
use Rattle.instruction_forms.specs.Forms.{text_of}
use Rattle.instruction_forms.proofs.Waiting.{rest_has_form}
use Rattle.lua_heap.specs.declared.world.World.{World as Memory}
use Rattle.lua_heap.specs.Plain.{plain}
use Rattle.lua_heap.specs.Reading.{value}
use Rattle.move_laws.specs.Memory.{IsSafe, Leads}
use Rattle.move_laws.proofs.Order.{ended_from, steps_of}
use Rattle.move_laws.proofs.Places.{place_is}
use Rattle.move_laws.proofs.Rows.{first, safe_after}
use Rattle.step_laws.specs.Steps.{Does, RunsAt, HasForm}
use Rattle.step_laws.specs.Law.{InstructionIsSafe, InstructionIsStep, AnswerIsSafe, AnswerIsStep, AnswerHasForm, ReturnedIsSafe, ReturnedIsStep, UnwindingIsSafe, UnwindingIsStep, ResultsAreSafe, ResultsAreStep, ErrorIsSafe, ErrorIsStep, RaisedIsSafe, RaisedIsStep, AskedIsSafe, AskedIsStep, PrimitiveIsSafe, PrimitiveIsStep, EndStays}
use Rattle.step_laws.proofs.Unpaid.{IsUnpaid}
use Rattle.step_laws.proofs.Free.{never_spent, none_paid, rest_at_free, handed_to_never, unwound_never, raised_never}
use Rattle.step_laws.proofs.Ready.{solid_by, sound_by, waits_by}

-- the step of the Lua frame on top

frame_step_is : (W : World) (p : Place) → place_of W ≡ Some p → top_step W ≡ Some (lua_step W p.stack p.top p.function.code p.top.wait)
frame_step_is W p e =
    let q = place_is W p e in
    bind_at _ (stack_of W) p.stack q.stack ∙ bind_at _ (last p.stack.frames) _ q.top ∙ bind_at _ (slice_get W.functions p.top.function) p.function q.function

text_is : (W : Memory) (form : Form) (k : RunsAt W) → HasForm k.opcode k.instruction form → text_at k.place.function.code k.place.top.own.pc ≡ text_of k.place.function.code k.place.top.own.pc form
text_is W form k f =
    let p = k.place.function.code in
    let pc = k.place.top.own.pc in
    ap (λ o. elim o as (λ _. Text) [ None ↦ trap | Some w ↦ text_by p pc w (opcode_of w) ]) k.at_pc ∙ ap (text_by p pc k.instruction) k.is_opcode ∙ sym (f p pc)

pub instruction_is_safe : InstructionIsSafe
instruction_is_safe W form k s f = record {
  never = λ fuel e.
      let b = sound_by s.primitives W 0 fuel s.sound in
      let g = running_text_good s.primitives (plain W fuel) k.place b.solid (settles s.primitives (plain W fuel) k.place b k.is) k.is k.running in
      subst (Good s.primitives) (ap (λ t. run (expand t) [] (plain W fuel)) (text_is W form k f) ∙ e) g;
}

pub instruction_is_step : InstructionIsStep
instruction_is_step rows old new fuel left to form k f s = record {
  is =
      let W = plain old fuel in
      let p = k.place in
      ap (λ o. from_world W (elim o as (λ _. Outcome) [ None ↦ trapped | Some o ↦ o ])) (frame_step_is W p k.is)
      ∙ ap (λ wait. from_world W (lua_step W p.stack p.top p.function.code wait)) k.running
      ∙ ap (λ t. from_world W (run (expand t) [] W)) (text_is old form k f)
      ∙ s.is;
}

-- a row that pays for nothing
pub unpaid_is_step : (rows : ℕ → Row) (old new : Memory) (fuel : ℕ) (to : Ending) (form : Form) (k : RunsAt old) → HasForm k.opcode k.instruction form
    → IsUnpaid (text_of k.place.function.code k.place.top.own.pc form) → Leads (expand (text_of k.place.function.code k.place.top.own.pc form)) [] old new to → Does rows go old fuel new fuel to
unpaid_is_step rows old new fuel to form k f u l =
    let t = text_of k.place.function.code k.place.top.own.pc form in
    instruction_is_step rows old new fuel fuel to form k f (steps_of fuel (never_spent (expand t) [] (plain old 0) (plain new 0) to (none_paid at_once t u) (l.is 0)) l)

-- a frame that goes on with what came

abbrev answer_row : Place → Row
answer_row p = goes_on_by (rest_at p.top.wait p.function.code p.top.own.pc)

abbrev answer_of : Memory → Place → List Value
answer_of W p = told_values p.top.wait (values (map (value W.strings) W.moving.items))

pub answer_is_safe : AnswerIsSafe
answer_is_safe old woken k s w = record {
  never = λ fuel e.
      let b = sound_by s.primitives old 0 fuel s.sound in
      let g = waiting_text_good s.primitives (plain old fuel) k.place b.solid (settles s.primitives (plain old fuel) k.place b k.is) k.is k.waits in
      subst (Good s.primitives) (ap (run (answer_row k.place) (answer_of old k.place)) (sym (w.plain fuel)) ∙ e) g;
}

waiting_step_is : (W : World) (s : Stack) (f : LuaFrame) (p : Prototype) (wait : Wait Value) → (wait ≡ running → ⊥) → lua_step W s f p wait ≡ run (goes_on_by (rest_at wait p f.own.pc)) (told_values wait (values W.moving)) (woken W s f)
waiting_step_is W s f p running r = absurd (r refl)
waiting_step_is W s f p _ r = refl

pub answer_is_step : AnswerIsStep
answer_is_step rows old awake new fuel to k w l = record {
  is =
      let W = plain old fuel in
      let p = k.place in
      let free = never_spent (answer_row p) (answer_of old p) (plain awake 0) (plain new 0) to (none_paid by_asking (rest_at p.top.wait p.function.code p.top.own.pc) (rest_at_free p.top.wait p.function.code p.top.own.pc)) (l.is 0) in
      ap (λ o. from_world W (elim o as (λ _. Outcome) [ None ↦ trapped | Some o ↦ o ])) (frame_step_is W p k.is)
      ∙ ap (from_world W) (waiting_step_is W p.stack p.top p.function.code p.top.wait k.waits)
      ∙ ap (λ V. from_world W (run (answer_row p) (answer_of old p) V)) (sym (w.plain fuel))
      ∙ ap (from_world W) (l.is fuel)
      ∙ ended_from W (plain new fuel) to free;
}

pub answer_has_form : AnswerHasForm
answer_has_form W k w form e =
    let wait = k.place.top.wait in
    let p = k.place.function.code in
    let pc = k.place.top.own.pc in
    ap (λ o. elim o as (λ _. Text) [ None ↦ trap | Some i ↦ rest_by wait p pc i (opcode_of i) ]) w.at_pc
    ∙ ap (rest_by wait p pc w.instruction) w.is_opcode
    ∙ sym (rest_has_form wait w.opcode w.instruction form p pc e w.fits)

-- rows that begin where all frames wait

row_safe : (n : ℕ) (r : Row) (W : Memory) → Solid n (plain W 0) → StackWaits n (plain W 0) → Safe (waiting None) [] r → IsSafe r [] W
row_safe n r W s h k = record { never = λ fuel e. subst (Good n) e (from_waiting n r (plain W fuel) (solid_by n W 0 fuel s) (waits_by n W 0 fuel h) k) }

pub returned_is_safe : ReturnedIsSafe
returned_is_safe n W top r m = safe_after (λ _ top. handed_to top) (row_safe n (act see_top (λ _ top. handed_to top)) W r.after.sound.solid r.after.ready returned_safe) m

pub unwinding_is_safe : UnwindingIsSafe
unwinding_is_safe n W top r m = safe_after (λ _ top. unwound top) (row_safe n (act see_top (λ _ top. unwound top)) W r.after.sound.solid r.after.ready unwinding_safe) m

pub results_are_safe : ResultsAreSafe
results_are_safe n W r = row_safe n results_row W r.after.sound.solid r.after.ready returned_safe

pub error_is_safe : ErrorIsSafe
error_is_safe n W r = row_safe n unwinding_row W r.after.sound.solid r.after.ready unwinding_safe

pub raised_is_safe : RaisedIsSafe
raised_is_safe n W r = row_safe n raised_row W r.after.sound.solid r.after.ready raised_safe

pub asked_is_safe : AskedIsSafe
asked_is_safe n W r = row_safe n asked_row W r.after.sound.solid r.after.ready asked_safe

pub primitive_is_safe : PrimitiveIsSafe
primitive_is_safe n m rows W p r = record {
  never = λ fuel e. subst (Good n) e (p m r.after.ready.there (plain W fuel) (solid_by n W 0 fuel r.after.sound.solid) (waits_by n W 0 fuel r.after.ready.all));
}

pub returned_is_step : ReturnedIsStep
returned_is_step rows old new fuel to top m l =
    record { is = (steps_of fuel (never_spent (handed_to top) [] (plain old 0) (plain new 0) to (handed_to_never top) (l.is 0)) (first (λ _ top. handed_to top) m l)).is }

pub unwinding_is_step : UnwindingIsStep
unwinding_is_step rows old new fuel to top m l =
    record { is = (steps_of fuel (never_spent (unwound top) [] (plain old 0) (plain new 0) to (unwound_never top) (l.is 0)) (first (λ _ top. unwound top) m l)).is }

pub results_are_step : ResultsAreStep
results_are_step rows old new fuel to l = record { is = (steps_of fuel (never_spent results_row [] (plain old 0) (plain new 0) to (λ _ top. handed_to_never top) (l.is 0)) l).is }

pub error_is_step : ErrorIsStep
error_is_step rows old new fuel to l = record { is = (steps_of fuel (never_spent unwinding_row [] (plain old 0) (plain new 0) to (λ _ top. unwound_never top) (l.is 0)) l).is }

pub raised_is_step : RaisedIsStep
raised_is_step rows old new fuel to l = record { is = (steps_of fuel (never_spent raised_row [] (plain old 0) (plain new 0) to raised_never (l.is 0)) l).is }

pub asked_is_step : AskedIsStep
asked_is_step rows old new fuel left to s = record { is = s.is }

pub primitive_is_step : PrimitiveIsStep
primitive_is_step rows n old new fuel left to s = record { is = s.is }

pub end_stays : EndStays
end_stays rows spent W fuel e = record { is = refl }
end_stays rows main_yielded W fuel e = record { is = refl }
end_stays rows main_returned W fuel e = record { is = refl }
end_stays rows main_failed W fuel e = record { is = refl }
end_stays rows _ W fuel e = absurd (cc)
