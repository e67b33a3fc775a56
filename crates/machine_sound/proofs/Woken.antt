-- A frame that waited for the value of a concatenation, and was woken: it fits its place, as its instruction takes no list.
use Rattle.std.proofs.Common.{◌≡◌, ℕ, ◌+◌, [], ◌∷◌, ◌++◌, Some, refl, ap, sym, subst, ◌∙◌, true, false, Bool, arith}
use Rattle.std.specs.Prelude.{IsTrue}
use Rattle.code_core.specs.declared.instruction.Instruction.{Instruction}
use Rattle.code_core.specs.declared.opcode.Opcode.{Opcode}
use Rattle.code_core.specs.declared.opcode.Opcode.TheVariants.{Concat}
use Rattle.code_core.specs.Check.{at, CodeIsChecked, fixed, Mark, mark, open_from}
use Rattle.code_core.specs.Instruction.{opcode_of}
use Rattle.code_core.specs.Prototype.{Prototype}
use Rattle.int_core.specs.Value.{Value}
use Rattle.machine_core.specs.World.{for_concat, Function, lua, Place, place_of, running, World}
use Rattle.machine_core.specs.MachineStep.{woken}
use Rattle.machine_sound.specs.Sound.{Fits, LuaWaits, on_top, MarkFits, RunsOrWaits, Settled, sizes, Solid, Sound, Top, TopIs, Valid, waiting_size, waits_at}
use Rattle.machine_sound.proofs.Calls.{fuel_top}
use Rattle.machine_sound.proofs.Frames.{function_ok, place_is}
use Rattle.machine_sound.proofs.Lists.{each_none, some_is}
use Rattle.machine_sound.proofs.LuaSteps.{settles, woken_top, woken_world, woken_solid, woken_top_is, woken_is}
use Rattle.machine_sound.proofs.Places.{taken}
use Rattle.machine_sound.proofs.Waits.{moving_solid}

-- the instruction is a concatenation, and no list is open in front of it

pub is_concat : (left : ℕ) (op : Opcode) (w : Instruction) → IsTrue (waits_at {V = Value} (for_concat left) op w) → op ≡ Concat
is_concat left Concat w h = refl
is_concat left _ w h = absurd (cc)

mark_fixed : (p : Prototype) (pc : ℕ) (w : Instruction) → CodeIsChecked p → at p pc ≡ Some w → opcode_of w ≡ Some Concat → mark p pc ≡ fixed
mark_fixed p pc w c a o = by (mark p pc) refl
  where
    by : (m : Mark) → mark p pc ≡ m → m ≡ fixed
    by fixed e = refl
    by (open_from r) e = absurd (let t = (taken p pc r w Concat c a o e).0 in cc)

module _ (n : ℕ) (t : Top) (W : World) (h : TopIs n t W) (s : Solid n W) (left : ℕ) (is : h.top.wait ≡ for_concat left) (k : LuaWaits (sizes n W) h.top) where
  code_is : k.function.code ≡ t.code
  code_is = ap (λ (f : Function). f.code) (some_is k.there h.there) ∙ h.code

  at_pc : at t.code t.pc ≡ Some k.instruction
  at_pc = ap (λ p. at p t.pc) (sym code_is) ∙ ap (at k.function.code) (sym h.pc) ∙ k.at_pc

  opcode_is : k.opcode ≡ Concat
  opcode_is = is_concat left k.opcode k.instruction (subst (λ wait. IsTrue (waits_at wait k.opcode k.instruction)) is k.fits)

  size_is : t.size ≡ t.code.own.stack
  size_is =
      sym h.size ∙ k.size
      ∙ ap (λ wait. waiting_size wait k.instruction k.function.code.own.stack) is
      ∙ ap (λ (p : Prototype). p.own.stack) code_is

  awake_fits : Fits (woken_top n t W h s)
  awake_fits =
      let o : opcode_of k.instruction ≡ Some Concat = k.is_opcode ∙ ap Some opcode_is in
      let c : CodeIsChecked t.code = subst CodeIsChecked h.code (function_ok n t W h s).code.code in
      record {
        instruction = k.instruction;
        at_pc = at_pc;
        opcode = Concat;
        is_opcode = o;
        no_extra = refl;
        fits_mark = subst (λ m. MarkFits m t.code.own.stack t.size t.opened) (sym (mark_fixed t.code t.pc k.instruction c at_pc o)) (size_is, sym h.opened ∙ k.opened);
        cells = (let e = size_is in omega (arith, e));
      }

  awake_sound : Sound n (woken W (record { coroutine = h.coroutine; frames = h.base ++ lua h.top ∷ [] }) h.top)
  awake_sound =
      let P = woken_world n t W h s in
      let none = each_none (Valid (sizes n P)) in
      subst (Sound n) (sym (woken_is n t W h s)) (record {
        solid = moving_solid n P [] P.fuel (woken_solid n t W h s) none;
        rests = on_top (record { top = woken_top n t W h s; is_top = fuel_top n (woken_top n t W h s) P [] P.fuel (woken_solid n t W h s) (woken_top_is n t W h s) none; fits = awake_fits });
      })

pub waits_so : (n : ℕ) (W : World) (left : ℕ) (k : Settled n W) → k.is_top.top.wait ≡ for_concat left → LuaWaits (sizes n W) k.is_top.top
waits_so n W left k is = by k.top.runs k.is_top.wait
  where
    by : (b : Bool) → RunsOrWaits b (sizes n W) k.is_top.top → LuaWaits (sizes n W) k.is_top.top
    by true r = absurd (let e : running ≡ for_concat left = sym r ∙ is in cc)
    by false w = w

pub concat_sound : (n : ℕ) (W : World) (p : Place) (left : ℕ) → Sound n W → place_of W ≡ Some p → p.top.wait ≡ for_concat left → Sound n (woken W p.stack p.top)
concat_sound n W p left s e is =
    let k = settles n W p s e in
    let h = k.is_top in
    let q = some_is (place_is n k.top W h) e in
    let w = ap (λ (p : Place). p.top.wait) q ∙ is in
    subst (λ (p : Place). Sound n (woken W p.stack p.top)) q (awake_sound n k.top W h s.solid left w (waits_so n W left k w))
