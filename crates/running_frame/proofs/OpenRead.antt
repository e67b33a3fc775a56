-- GETUPVAL of a variable that stands in a register of the same coroutine is a step that changes a register of the frame on top alone.
use Rattle.std.proofs.Common.{◌≡◌, ℕ, ◌+◌, List, [], length, map, Option, Some, None, refl, ap, sym, subst, ◌∙◌, true}
use Rattle.std.specs.Prelude.{slice_get, slice_set}
use Rattle.code_core.specs.Check.{at}
use Rattle.code_core.specs.Instruction.{a_of, b_of, opcode_of}
use Rattle.code_core.specs.declared.instruction.Instruction.{Instruction}
use Rattle.code_core.specs.declared.opcode.Opcode.{Opcode}
use Rattle.code_core.specs.declared.opcode.Opcode.TheVariants.{GetUpval}
use Rattle.machine_core.specs.Text.{trap}
use Rattle.machine_core.specs.InstructionRows.{row_of, text_at, text_by}
use Rattle.machine_core.specs.MachineStep.{steps, and_then}
use Rattle.machine_focus.specs.Focus.{Held, frames as held_frames, local}
use Rattle.machine_focus.proofs.Here.{held_is_step}
use Rattle.machine_view.specs.View.{IsAt, held}
use Rattle.table_core.specs.Table.{Contents}
use Rattle.table_core.specs.declared.value.Value.{Value as Kept}
use Rattle.lua_stack.specs.Frames.{KeptStack, OnTop, TopBecomes, frames, register_in, with_pc}
use Rattle.lua_stack.specs.Lending.{with_top}
use Rattle.lua_heap.specs.declared.world.Cell.{Cell as KeptCell}
use Rattle.lua_heap.specs.Plain.{cell, heap}
use Rattle.lua_heap.specs.Reading.{value}
use Rattle.machine_arms_tables.specs.Frame.{Code, Moment, moment, IsReadyAt, RunsTo}
use Rattle.machine_arms_tables.proofs.Steps.{at_opcode}
use Rattle.machine_loop.specs.Running.{Running}
use Rattle.machine_loop.proofs.Recalled.{open_comes}
use Rattle.frame_calls.specs.Standing.{RunsAt}
use Rattle.running_frame.specs.Upvalues.{ListsOpen, StandsOpen, is_read}
use Rattle.running_frame.specs.Between.{GoesOver}
use Rattle.running_frame.proofs.OnStack.{frames_are, loop_ready, round_reaches, round_runs}

pub read_is : (o : Option Opcode) → is_read o ≡ true → o ≡ Some GetUpval
read_is (Some GetUpval) h = refl
read_is _ h = absurd (cc)

pub lists_open : {g : Running} {k : Code} {s : KeptStack} {ts : List Contents} {cs : List KeptCell} {fuel pc : ℕ} (co : ℕ) → co ≡ g.around.context.coroutine → RunsAt g k s ts cs fuel pc → ListsOpen co s cs
lists_open {s = s} {cs = cs} co e r = subst (λ n. ListsOpen n s cs) (sym e) (record { listed = r.may.listed })

-- what the row comes to

-- the frame that runs at a moment
abbrev held_at : Running → Moment → Held
held_at g m = held g.around (heap g.around.texts m.tables g.string_metatable) (map (cell g.around.texts) m.cells) m.registers m.pc m.fuel

module _ (g : Running) (k : Code) (m : Moment) (here : IsReadyAt g.around g.string_metatable k m) (w : Instruction) (h : IsAt GetUpval w k.words k.constants m.registers m.pc) (s : KeptStack)
    (same : frames (value g.around.texts) s ≡ held_frames g.around.context (held_at g m).own) (v : Kept) (open_there : StandsOpen g.around.context.coroutine k.upvalues s m.cells (b_of w) v)
    (q : List Kept) (to : ℕ) (written : q ≡ slice_set m.registers (a_of w) v) (next : to ≡ m.pc + 1) where
  abbrev after : Moment
  after = moment m.tables m.cells q to m.fuel

  comes_to : local g.around.context (row_of g.around.context.closure.code m.pc GetUpval w) [] (held_at g m) ≡ Some (held_at g after)
  comes_to =
      open_comes g k m here w h v open_there.id open_there.coroutine open_there.frame open_there.register open_there.named open_there.holds open_there.own
      (ap (register_in open_there.frame open_there.register) (sym same) ∙ open_there.has.reads (value g.around.texts)) q to written next

  pub read_step : IsReadyAt g.around g.string_metatable k after × RunsTo g.around g.string_metatable m after
  read_step =
      let p = g.around.context.closure.code in
      let at_pc : at p m.pc ≡ Some w = ap (λ ws. slice_get ws m.pc) here.ready.code.code.words_are ∙ h.at_pc in
      let text_is : text_at p m.pc ≡ row_of p m.pc GetUpval w = ap (λ (o : Option Instruction). elim o [ None ↦ trap | Some w ↦ text_by p m.pc w (opcode_of w) ]) at_pc ∙ ap (text_by p m.pc w) h.is_opcode in
      let x = held_is_step g.around.primitives g.around.rows g.around.context (held_at g m) (held_at g after) here.ready.frame (ap (λ t. local g.around.context t [] (held_at g m)) text_is ∙ comes_to) in
      (record { ready = record { code = here.ready.code; frame = x.1 }; upvalues_are = here.upvalues_are; texts_are = here.texts_are }, (1, ap (λ o. and_then o (steps g.around.rows 0)) x.0))

-- the frame on top of a stack

module _ (g : Running) (k : Code) (s : KeptStack) (cs : List KeptCell) (pc : ℕ) (r : List Kept) (lent : OnTop s (λ f t. map f r ≡ t.own.registers)) where
  module _ (ts : List Contents) (fuel : ℕ) (x : RunsAt g k s ts cs fuel pc) where
    registers_are : map (value g.around.texts) r ≡ x.may.top.own.registers
    registers_are = lent (value g.around.texts) g.around.context.below x.may.top x.may.is

    pub ready_at : IsReadyAt g.around g.string_metatable k (moment ts cs r pc fuel)
    ready_at = loop_ready g k s ts cs fuel x.may r pc x.runs (sym x.at_pc) registers_are

    pub read_at : (w : Instruction) → slice_get k.words pc ≡ Some w → opcode_of w ≡ Some GetUpval → IsAt GetUpval w k.words k.constants r pc
    read_at w e o = at_opcode g.around g.string_metatable k (moment ts cs r pc fuel) ready_at w GetUpval e o

  pub read_goes : (w : Instruction) → slice_get k.words pc ≡ Some w → opcode_of w ≡ Some GetUpval → (v : Kept) → StandsOpen g.around.context.coroutine k.upvalues s cs (b_of w) v
      → (q : List Kept) → q ≡ slice_set r (a_of w) v → length q ≡ length r → (to : ℕ) → to ≡ pc + 1 → (u : KeptStack) → TopBecomes (with_top s q) u (λ f t. with_pc to t) → GoesOver g k s u cs pc to
  read_goes w e o v open_there q written long to next u b = λ ts. record {
    runs = λ fuel x. round_runs x r q lent long u ts cs to fuel b (stepped ts fuel x).0 refl;
    reaches = λ fuel x. round_reaches x r q lent long u ts cs to fuel b (stepped ts fuel x).1;
    listed = b.cells;
  }
    where
      stepped : (ts : List Contents) (fuel : ℕ) → RunsAt g k s ts cs fuel pc
          → IsReadyAt g.around g.string_metatable k (moment ts cs q to fuel) × RunsTo g.around g.string_metatable (moment ts cs r pc fuel) (moment ts cs q to fuel)
      stepped ts fuel x =
          read_step g k (moment ts cs r pc fuel) (ready_at ts fuel x) w (read_at ts fuel x w e o) s
          (frames_are g k s ts cs fuel x.may r pc x.runs (sym x.at_pc) (registers_are ts fuel x)) v open_there q to written next
