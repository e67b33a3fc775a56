-- What a sound world tells of the instruction at which the running frame stands.
use Rattle.std.proofs.Common.{◌≡◌, ℕ, ◌≤◌, List, [], ◌∷◌, length, Some, refl, ap, sym, ◌∙◌, subst, arith, Bool, true, false}
use Rattle.std.specs.Prelude.{slice_get, IsTrue, nat_lt, ◌&&◌}
use Rattle.std.specs.List.{list_all}
use Rattle.std.proofs.lemmas.Bool.Decides.{nat_tests}
use Rattle.code_core.specs.Check.{at, CodeIsChecked, Mark, fixed, open_from, mark}
use Rattle.code_core.specs.Instruction.{opcode_of}
use Rattle.code_core.specs.Fields.{registers}
use Rattle.code_core.specs.Prototype.{Prototype}
use Rattle.code_core.specs.declared.instruction.Instruction.{Instruction}
use Rattle.code_core.specs.declared.opcode.Opcode.{Opcode}
use Rattle.int_core.specs.Value.{Value}
use Rattle.machine_core.specs.World.{Wait, running, LuaFrame, World, Place}
use Rattle.machine_core.specs.Moves.{go, Row}
use Rattle.machine_sound.specs.Sound.{Top, Fits, FitsIfRuns, RunsOrWaits, MarkFits, waits_at, sizes}
use Rattle.machine_sound.specs.Laws.{StepGood}
use Rattle.machine_sound.proofs.Lists.{some_is}
use Rattle.machine_sound.proofs.Frames.{the_place, place_is, function_ok, top_ok}
use Rattle.machine_sound.proofs.Rules.{RulesAt, rules_at}
use Rattle.machine_sound.proofs.Steps.{steps_good}
use Rattle.machine_focus.specs.Focus.{Context, Held, world, place, top}
use Rattle.machine_focus.specs.Law.{IsReady, IsAtInstruction, IsValidFrame, ReadyFramesStand, HeldIsStep}
use Rattle.machine_focus.proofs.Local.{step_held}
use Rattle.machine_focus.proofs.Places.{place_is as place_here}

-- the code is checked, so its rules hold at the place
pub record Here (c : Context) (h : Held) : Type 0 where
  pub word : Instruction
  pub at_pc : at c.closure.code h.own.pc ≡ Some word
  pub opcode : Opcode
  pub is_opcode : opcode_of word ≡ Some opcode
  pub checked : CodeIsChecked c.closure.code
  pub rule : RulesAt c.closure.code h.own.pc word opcode
  pub size : c.closure.code.own.stack ≤ length h.own.registers

stack_fits : (m : Mark) (stack size opened : ℕ) → MarkFits m stack size opened → stack ≤ size
stack_fits fixed stack size opened e = let s = e.0 in omega arith
stack_fits (open_from r) stack size opened e = omega arith

fits_running : (n : ℕ) (t : Top) (z : LuaFrame) (W : World) → z.wait ≡ running → (b : Bool) → t.runs ≡ b → RunsOrWaits b (sizes n W) z → FitsIfRuns b t → Fits t
fits_running n t z W e true q w f = f
fits_running n t z W e false q w f = let k : IsTrue (waits_at {V = Value} running w.opcode w.instruction) = subst (λ (v : Wait Value). IsTrue (waits_at v w.opcode w.instruction)) e w.fits in absurd (cc)

and_true : (a b : Bool) → IsTrue (a && b) → (a ≡ true) × IsTrue b
and_true true b h = (refl, h)
and_true false b h = absurd (cc)

true_and : (a b : Bool) → a ≡ true → IsTrue b → IsTrue (a && b)
true_and true b e h = h
true_and false b e h = absurd (cc)

lt_wider : (i m n : ℕ) → m ≤ n → nat_lt i m ≡ true → nat_lt i n ≡ true
lt_wider i m n l e = search (arith, nat_tests)

wider : (m n : ℕ) → m ≤ n → (is : List ℕ) → IsTrue (list_all (λ i. nat_lt i m) is) → IsTrue (list_all (λ i. nat_lt i n) is)
wider m n l [] h = h
wider m n l (i ∷ is) h = let x = and_true (nat_lt i m) (list_all (λ i. nat_lt i m) is) h in true_and (nat_lt i n) _ (lt_wider i m n l x.0) (wider m n l is x.1)

module _ (n : ℕ) (rows : ℕ → Row) (c : Context) (h : Held) (k : IsReady n rows c h) where
  pub same_place : the_place n k.sound.ready.top (world c h) k.sound.ready.is_top ≡ place c h
  same_place = some_is (place_is n k.sound.ready.top (world c h) k.sound.ready.is_top) (place_here c k.stands h)

  pub here : Here c h
  here =
      let W = world c h in
      let s = k.sound.ready.is_top in
      let t = k.sound.ready.top in
      let code : s.function.code ≡ c.closure.code = ap (λ (p : Place). p.function.code) same_place in
      let at_top : s.top ≡ top c h.own = ap (λ (p : Place). p.top) same_place in
      let f = fits_running n t s.top W (ap (λ (f : LuaFrame). f.wait) at_top) t.runs refl s.wait k.sound.ready.fits in
      let code' : t.code ≡ c.closure.code = sym s.code ∙ code in
      let pc' : t.pc ≡ h.own.pc = sym s.pc ∙ ap (λ (f : LuaFrame). f.own.pc) at_top in
      let size' : t.size ≡ length h.own.registers = sym s.size ∙ ap (λ (f : LuaFrame). length f.own.registers) at_top in
      let at_pc : at c.closure.code h.own.pc ≡ Some f.instruction = ap (λ p. at p h.own.pc) (sym code') ∙ ap (at t.code) (sym pc') ∙ f.at_pc in
      let checked : CodeIsChecked c.closure.code = subst CodeIsChecked code (function_ok n t W s k.sound.sound.solid).code.code in
      let fits : t.code.own.stack ≤ t.size = stack_fits (mark t.code t.pc) t.code.own.stack t.size t.opened f.fits_mark in
      record {
        word = f.instruction;
        at_pc = at_pc;
        opcode = f.opcode;
        is_opcode = f.is_opcode;
        checked = checked;
        rule = rules_at c.closure.code h.own.pc f.instruction f.opcode checked at_pc f.is_opcode;
        size = subst (λ m. c.closure.code.own.stack ≤ m) size' (subst (λ (p : Prototype). p.own.stack ≤ t.size) code' fits);
      }

  at_instruction : IsAtInstruction c h
  at_instruction = record {
    word = here.word;
    at_pc = here.at_pc;
    opcode = here.opcode;
    is_opcode = here.is_opcode;
    registers_there = wider c.closure.code.own.stack (length h.own.registers) here.size (registers here.opcode here.word) here.rule.registers_there;
  }

  valid_frame : IsValidFrame n c h
  valid_frame =
      let o = top_ok n k.sound.ready.top (world c h) k.sound.ready.is_top k.sound.sound.solid in
      let f = function_ok n k.sound.ready.top (world c h) k.sound.ready.is_top k.sound.sound.solid in
      record {
        registers = λ i v e. o.registers i v (ap (λ (p : Place). slice_get p.top.own.registers i) same_place ∙ e);
        cells = λ i m e. f.cells i m (ap (λ (p : Place). slice_get p.function.cells i) same_place ∙ e);
      }

pub ready_frames_stand : ReadyFramesStand
ready_frames_stand n rows c h k = (at_instruction n rows c h k, valid_frame n rows c h k)

pub held_is_step : HeldIsStep
held_is_step n rows c h k r e =
    let stepped = step_held c r.stands h k rows e in
    (stepped, record { stands = r.stands; safe = r.safe; sound = subst (StepGood n) stepped (steps_good n rows r.safe go (world c h) r.sound) })
