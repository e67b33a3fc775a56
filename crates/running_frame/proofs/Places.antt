-- The word at the place of the Lua frame on top is there, whether the frame runs or waits.
use Rattle.std.proofs.Common.{◌≡◌, ℕ, Some, refl, ap, sym, ◌∙◌, Bool, true, false}
use Rattle.std.specs.Prelude.{not}
use Rattle.code_core.specs.Check.{at}
use Rattle.int_core.specs.Value.{Value}
use Rattle.machine_core.specs.World.{Wait, running, Place, place_of}
use Rattle.machine_sound.proofs.Lists.{some_is}
use Rattle.lua_heap.specs.declared.world.World.{World as Memory}
use Rattle.lua_heap.specs.Plain.{plain}
use Rattle.move_laws.specs.Memory.{IsSound, StandsAt}
use Rattle.step_laws.specs.Steps.{WaitsAt}
use Rattle.step_laws.proofs.Ready.{running_is_at, waiting_is_at}
use Rattle.running_frame.specs.Here.{HasWord, is_none}

-- what a negated test says
pub runs_where : (b : Bool) → not b ≡ false → b ≡ true
runs_where true e = refl
runs_where false e = absurd (cc)

pub none_is : (w : Wait Value) → is_none w ≡ true → w ≡ running
none_is running h = refl
none_is w h = absurd (cc)

pub waits_so : (w : Wait Value) → is_none w ≡ false → w ≡ running → ⊥
waits_so w h e = let k : is_none w ≡ true = ap is_none e in absurd (cc)

module _ {W : Memory} (s : IsSound W) where
  abbrev waits_at_place : (place : Place) → place_of (plain W 0) ≡ Some place → is_none place.top.wait ≡ false → WaitsAt W
  waits_at_place place e h = record { place = place; is = e; waits = waits_so place.top.wait h }

  pub has_word : {pc : ℕ} → StandsAt W pc → HasWord W pc
  has_word {pc} h = by (is_none h.place.top.wait) refl
    where
      by : (b : Bool) → is_none h.place.top.wait ≡ b → HasWord W pc
      by true e =
          let k = running_is_at W h.place s h.is (none_is h.place.top.wait e) in
          let pc_is : k.place.top.own.pc ≡ pc = ap (λ (p : Place). p.top.own.pc) (some_is k.is h.is) ∙ h.at in
          record { place = k.place; is = k.is; checked = k.checked; at_pc = pc_is; word = k.instruction; there = ap (at k.place.function.code) (sym pc_is) ∙ k.at_pc }
      by false e =
          let f = waiting_is_at W (waits_at_place h.place h.is e) s in
          record { place = h.place; is = h.is; checked = f.checked; at_pc = h.at; word = f.instruction; there = ap (at h.place.function.code) (sym h.at) ∙ f.at_pc }
