-- What is known of a world in memory between two steps, whatever the budget is.
use Rattle.std.proofs.Common.{◌≡◌, ℕ, length, ap, sym, subst, ◌∙◌, Bool, true, false}
use Rattle.std.specs.Prelude.{IsTrue}
use Rattle.int_core.specs.Value.{Value}
use Rattle.code_core.specs.Prototype.{Prototype}
use Rattle.code_core.specs.Check.{at}
use Rattle.machine_core.specs.World.{Function, Wait, running, Place}
use Rattle.machine_core.specs.Moves.{Ending, go, calls_primitive, spent, main_yielded, main_returned, main_failed}
use Rattle.machine_sound.specs.Sound.{sizes, waits_at, waiting_size, LuaWaits, Solid, TopIs, RunsOrWaits, FitsIfRuns, Settled, StackWaits, Rests, idle, on_top, all_wait, Sound}
use Rattle.machine_sound.specs.Safe.{EndIs}
use Rattle.machine_sound.specs.Laws.{StepGood}
use Rattle.machine_sound.proofs.Calls.{fuel_top}
use Rattle.machine_sound.proofs.Frames.{the_place, place_is as top_place}
use Rattle.machine_sound.proofs.Lists.{some_is}
use Rattle.machine_sound.proofs.LuaSteps.{settles}
use Rattle.machine_sound.proofs.Steps.{steps_good}
use Rattle.machine_sound.proofs.Waits.{moving_solid, moving_waits, waits_stack}
use Rattle.lua_heap.specs.declared.world.World.{World as Memory}
use Rattle.lua_heap.specs.Plain.{plain}
use Rattle.move_laws.specs.Memory.{HasStack}
use Rattle.move_laws.proofs.Places.{place_is}
use Rattle.step_laws.specs.Steps.{RunsAt, WaitsFor}
use Rattle.step_laws.specs.Law.{ReadyByFuel, ReadyIsSound, StepsStayReady, GoHasFrame, ReturnedHasStack, AsksHasStack, RaisedHasStack, UnwindingHasStack, CallHasStack, RunningIsAt, WaitingIsAt}

pub solid_by : (n : ℕ) (W : Memory) (f g : ℕ) → Solid n (plain W f) → Solid n (plain W g)
solid_by n W f g s = moving_solid n (plain W f) (plain W f).moving g s s.moving

pub waits_by : (n : ℕ) (W : Memory) (f g : ℕ) → StackWaits n (plain W f) → StackWaits n (plain W g)
waits_by n W f g h = moving_waits n (plain W f) (plain W f).moving g h

pub settled_by : (n : ℕ) (W : Memory) (f g : ℕ) → Solid n (plain W f) → Settled n (plain W f) → Settled n (plain W g)
settled_by n W f g s k = record { top = k.top; is_top = fuel_top n k.top (plain W f) (plain W f).moving g s k.is_top s.moving; fits = k.fits }

rests_by : (n : ℕ) (W : Memory) (f g : ℕ) → Solid n (plain W f) → Rests n (plain W f) → Rests n (plain W g)
rests_by n W f g s (idle c) = idle c
rests_by n W f g s (on_top k) = on_top (settled_by n W f g s k)
rests_by n W f g s (all_wait h) = all_wait (waits_by n W f g h)

pub sound_by : (n : ℕ) (W : Memory) (f g : ℕ) → Sound n (plain W f) → Sound n (plain W g)
sound_by n W f g s = record { solid = solid_by n W f g s.solid; rests = rests_by n W f g s.solid s.rests }

end_by : (n : ℕ) (e : Ending) (W : Memory) (f g : ℕ) → Solid n (plain W f) → EndIs n e (plain W f) → EndIs n e (plain W g)
end_by n go W f g s k = settled_by n W f g s k
end_by n (calls_primitive m) W f g s k = record { all = waits_by n W f g k.all; there = k.there }
end_by n spent W f g s k = tt
end_by n main_yielded W f g s k = k
end_by n main_returned W f g s k = k
end_by n main_failed W f g s k = k
end_by n _ W f g s k = waits_by n W f g k

pub ready_by_fuel : ReadyByFuel
ready_by_fuel n e W f g s = record { sound = sound_by n W f g s.sound; ready = end_by n e W f g s.sound.solid s.ready }

pub ready_is_sound : ReadyIsSound
ready_is_sound n e W r = record { primitives = n; sound = r.after.sound; order = r.order }

pub steps_stay_ready : StepsStayReady
steps_stay_ready n rows p from to old new fuel left r d o =
    let s = steps_good n rows p from (plain old fuel) (ready_by_fuel n from old 0 fuel r.after) in
    record { after = ready_by_fuel n to new left 0 (subst (StepGood n) d.is s); order = o }

-- what is on top

pub go_has_frame : GoHasFrame
go_has_frame n W r = let k = r.after.ready in record { place = the_place n k.top (plain W 0) k.is_top; is = top_place n k.top (plain W 0) k.is_top }

has_stack : (n : ℕ) (W : Memory) → StackWaits n (plain W 0) → HasStack W
has_stack n W h = record { stack = record { coroutine = h.coroutine; frames = h.frames }; is = waits_stack n (plain W 0) h }

pub returned_has_stack : ReturnedHasStack
returned_has_stack n W r = has_stack n W r.after.ready

pub asks_has_stack : AsksHasStack
asks_has_stack n W r = has_stack n W r.after.ready

pub raised_has_stack : RaisedHasStack
raised_has_stack n W r = has_stack n W r.after.ready

pub unwinding_has_stack : UnwindingHasStack
unwinding_has_stack n W r = has_stack n W r.after.ready

pub call_has_stack : CallHasStack
call_has_stack n m W r = has_stack n W r.after.ready.all

-- a frame that runs is at an instruction

abbrev waits_for_nothing : Wait Value
waits_for_nothing = running

pub running_is_at : RunningIsAt
running_is_at W place s e w = by k.top.runs h.wait k.fits
  where
    n : ℕ
    n = s.primitives

    k : Settled n (plain W 0)
    k = settles n (plain W 0) place s.sound e

    h : TopIs n k.top (plain W 0)
    h = k.is_top

    same : the_place n k.top (plain W 0) h ≡ place
    same = some_is (top_place n k.top (plain W 0) h) e

    code : place.function.code ≡ k.top.code
    code = sym (ap (λ (p : Place). p.function.code) same) ∙ h.code

    pc : place.top.own.pc ≡ k.top.pc
    pc = sym (ap (λ (p : Place). p.top.own.pc) same) ∙ h.pc

    waited : h.top.wait ≡ running
    waited = ap (λ (p : Place). p.top.wait) same ∙ w

    never : (x : LuaWaits (sizes n (plain W 0)) h.top) → IsTrue (waits_at waits_for_nothing x.opcode x.instruction) → ⊥
    never x f = absurd (cc)

    by : (b : Bool) → RunsOrWaits b (sizes n (plain W 0)) h.top → FitsIfRuns b k.top → RunsAt W
    by true x f = record {
      place = place;
      is = e;
      running = w;
      checked = (s.sound.solid.functions place.top.function place.function (place_is (plain W 0) place e).function).code;
      instruction = f.instruction;
      at_pc = ap (λ p. at p place.top.own.pc) code ∙ ap (at k.top.code) pc ∙ f.at_pc;
      opcode = f.opcode;
      is_opcode = f.is_opcode;
    }
    by false x f = absurd (never x (subst (λ (wait : Wait Value). IsTrue (waits_at wait x.opcode x.instruction)) waited x.fits))

pub waiting_is_at : WaitingIsAt
waiting_is_at W p s = by k.top.runs h.wait
  where
    n : ℕ
    n = s.primitives

    k : Settled n (plain W 0)
    k = settles n (plain W 0) p.place s.sound p.is

    h : TopIs n k.top (plain W 0)
    h = k.is_top

    same : the_place n k.top (plain W 0) h ≡ p.place
    same = some_is (top_place n k.top (plain W 0) h) p.is

    by : (b : Bool) → RunsOrWaits b (sizes n (plain W 0)) h.top → WaitsFor W p
    by true x = absurd (p.waits (sym (ap (λ (q : Place). q.top.wait) same) ∙ x))
    by false x =
        let found : x.function ≡ h.function = some_is x.there h.there in
        let code : p.place.function.code ≡ x.function.code = sym (ap (λ (q : Place). q.function.code) same) ∙ ap (λ (f : Function). f.code) (sym found) in
        let pc : p.place.top.own.pc ≡ h.top.own.pc = sym (ap (λ (q : Place). q.top.own.pc) same) in
        record {
          checked = (s.sound.solid.functions p.place.top.function p.place.function (place_is (plain W 0) p.place p.is).function).code;
          instruction = x.instruction;
          at_pc = ap (λ q. at q p.place.top.own.pc) code ∙ ap (at x.function.code) pc ∙ x.at_pc;
          opcode = x.opcode;
          is_opcode = x.is_opcode;
          fits = subst (λ (wait : Wait Value). IsTrue (waits_at wait x.opcode x.instruction)) (ap (λ (q : Place). q.top.wait) same) x.fits;
          size =
              sym (ap (λ (q : Place). length q.top.own.registers) same)
              ∙ x.size
              ∙ ap (λ (wait : Wait Value). waiting_size wait x.instruction x.function.code.own.stack) (ap (λ (q : Place). q.top.wait) same)
              ∙ ap (λ (c : Prototype). waiting_size p.place.top.wait x.instruction c.own.stack) (sym code);
        }
