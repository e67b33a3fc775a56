-- A world in which a frame was woken that waited for the value of a concatenation is sound, and few operands are left.
use Rattle.std.proofs.Common.{◌≡◌, ℕ, ◌+◌, ◌≤◌, List, length, Some, ap, sym, subst, ◌∙◌}
use Rattle.std.specs.Prelude.{map, IsTrue}
use Rattle.std.proofs.lemmas.List.{length-map}
use Rattle.code_core.specs.declared.instruction.Instruction.{Instruction}
use Rattle.code_core.specs.declared.opcode.Opcode.TheVariants.{Concat}
use Rattle.code_core.specs.Check.{at}
use Rattle.code_core.specs.Instruction.{b_of}
use Rattle.int_core.specs.Value.{Value}
use Rattle.machine_core.specs.World.{for_concat, Function, Place, place_of, World}
use Rattle.machine_core.specs.MachineStep.{woken}
use Rattle.machine_sound.specs.Sound.{Each, LuaWaits, sizes, Sound, Top, TopIs, Valid, waits_at}
use Rattle.machine_sound.proofs.Frames.{place_is}
use Rattle.machine_sound.proofs.Lists.{some_is}
use Rattle.machine_sound.proofs.LuaSteps.{settles}
use Rattle.machine_sound.proofs.Values.{le_of}
use Rattle.machine_sound.proofs.Woken.{is_concat, waits_so, concat_sound}
use Rattle.table_core.specs.declared.value.Value.{Value as Kept}
use Rattle.lua_heap.specs.declared.world.World.{World as Memory}
use Rattle.lua_heap.specs.Plain.{plain, table}
use Rattle.lua_heap.specs.Reading.{value}
use Rattle.move_laws.specs.Memory.{InOrder, IsSound}
use Rattle.machine_operations.specs.Joining.{AreValid}

-- at least two of the operands have been taken, so that few are left

left_few : (n : ℕ) (t : Top) (W : World) (h : TopIs n t W) (left : ℕ) (w : Instruction) → h.top.wait ≡ for_concat left → at h.function.code h.top.own.pc ≡ Some w → LuaWaits (sizes n W) h.top → left + 2 ≤ b_of w
left_few n t W h left w e a k =
    let f : k.function ≡ h.function = some_is k.there h.there in
    let i : k.instruction ≡ w = some_is (ap (λ (f : Function). at f.code h.top.own.pc) (sym f) ∙ k.at_pc) a in
    let fits : IsTrue (waits_at {V = Value} (for_concat left) k.opcode k.instruction) = subst (λ wait. IsTrue (waits_at wait k.opcode k.instruction)) e k.fits in
    let here : IsTrue (waits_at {V = Value} (for_concat left) Concat k.instruction) = subst (λ op. IsTrue (waits_at {V = Value} (for_concat left) op k.instruction)) (is_concat left k.opcode k.instruction fits) fits in
    subst (λ w. left + 2 ≤ b_of w) i (le_of (left + 2) (b_of k.instruction) here)

abbrev FewLeft : ℕ → Instruction → Place → Type 0
FewLeft left w p = p.top.wait ≡ for_concat left → at p.function.code p.top.own.pc ≡ Some w → left + 2 ≤ b_of w

pub left_within : (n : ℕ) (W : World) (p : Place) (left : ℕ) (w : Instruction) → Sound n W → place_of W ≡ Some p → p.top.wait ≡ for_concat left → at p.function.code p.top.own.pc ≡ Some w → left + 2 ≤ b_of w
left_within n W p left w s e =
    let k = settles n W p s e in
    subst (FewLeft left w) (some_is (place_is n k.top W k.is_top) e) (λ is a. left_few n k.top W k.is_top left w is a (waits_so n W left k is))

-- so it is in memory, and what moved is valid there

pub concat_awake : (old new : Memory) (place : Place) (left : ℕ) → IsSound old → place_of (plain old 0) ≡ Some place → place.top.wait ≡ for_concat left
    → ((fuel : ℕ) → plain new fuel ≡ woken (plain old fuel) place.stack place.top) → InOrder new → IsSound new
concat_awake old new place left s is waits wakes order = record {
  primitives = s.primitives;
  sound = subst (Sound s.primitives) (sym (wakes 0)) (concat_sound s.primitives (plain old 0) place left s.sound is waits);
  order = order;
}

pub came_valid : (old new : Memory) (came : List Kept) → IsSound old → new ≡ record old { coros = new.coros; moving = new.moving } → came ≡ old.moving.items → AreValid new came
came_valid old new came s rest is =
    let z = sizes s.primitives (plain old 0) in
    let texts : new.strings ≡ old.strings = ap (λ (W : Memory). W.strings) rest in
    record {
      sizes = z;
      tables = length-map old.tables.objects (table old.strings) ∙ sym (ap (λ (W : Memory). length W.tables.objects) rest);
      valid = subst (λ vs. Each (Valid z) vs) (sym (ap (λ texts. map (value texts) came) texts ∙ ap (map (value old.strings)) is)) s.sound.solid.moving;
    }
