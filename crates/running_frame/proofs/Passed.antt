-- A CLOSE that has nothing to do, on a stack, is a step that changes the place of the frame on top alone.
use Rattle.std.proofs.Common.{◌≡◌, ℕ, ◌+◌, ◌<◌, List, [], ◌∷◌, ◌++◌, length, map, Option, Some, refl, ap, sym, ◌∙◌, true}
use Rattle.std.specs.Prelude.{IfSome, slice_get}
use Rattle.code_core.specs.Instruction.{opcode_of}
use Rattle.code_core.specs.declared.instruction.Instruction.{Instruction}
use Rattle.code_core.specs.declared.opcode.Opcode.{Opcode}
use Rattle.code_core.specs.declared.opcode.Opcode.TheVariants.{Close}
use Rattle.int_core.specs.Value.{Value}
use Rattle.machine_core.specs.World.{Frame, lua}
use Rattle.table_core.specs.Table.{Contents}
use Rattle.table_core.specs.declared.value.Value.{Value as Kept}
use Rattle.lua_stack.proofs.Ends.{last_same}
use Rattle.lua_stack.specs.Frames.{HasLuaTop, KeptStack, OnTop, TopBecomes, frame_of, frames, lua_of, with_pc, with_registers}
use Rattle.lua_heap.specs.declared.world.Cell.{Cell}
use Rattle.lua_heap.specs.Reading.{value}
use Rattle.machine_arms_tables.specs.Frame.{Code, StepsOn, moment}
use Rattle.machine_loop.specs.Running.{ClosesNothing, PassesClose, Running}
use Rattle.machine_loop.proofs.Closing.{close_so, next_is_there}
use Rattle.running_frame.specs.Closing.{is_close}
use Rattle.frame_calls.specs.Returning.{HasKept}
use Rattle.frame_calls.specs.Standing.{RunsAt}
use Rattle.running_frame.specs.Between.{GoesOver}
use Rattle.running_frame.proofs.OnStack.{loop_reaches, runs_at}
use Rattle.running_frame.proofs.OpenRead.{ready_at}
use Rattle.frame_calls.proofs.Takers.{top_by}

pub close_is : (o : Option Opcode) → is_close o ≡ true → o ≡ Some Close
close_is (Some Close) h = refl
close_is _ h = absurd (cc)

pub lua_on_top : {g : Running} {k : Code} {s : KeptStack} {ts : List Contents} {cs : List Cell} {fuel pc : ℕ} → RunsAt g k s ts cs fuel pc → HasLuaTop s
lua_on_top {g} x = record { value = value g.around.texts; below = g.around.context.below; top = x.may.top; is = x.may.is }

-- the registers of the frame on top, as they are kept

abbrev registers_in : Frame → List Value
registers_in (lua t) = t.own.registers
registers_in _ = []

own_registers : {s : KeptStack} (h : HasKept s 0) → OnTop s (λ f t. map f h.top.registers ≡ t.own.registers)
own_registers h f below t e = ap registers_in (last_same (map (frame_of f) h.below) below (lua (lua_of f h.top)) (lua t) (sym (top_by h f) ∙ e))

module _ (g : Running) (k : Code) (s : KeptStack) (cs : List Cell) (pc : ℕ) (h : HasKept s 0) (w : Instruction) (word : slice_get k.words pc ≡ Some w) (is : opcode_of w ≡ Some Close) where
  abbrev r : List Kept
  r = h.top.registers

  pub next_inside : (ts : List Contents) (fuel : ℕ) → RunsAt g k s ts cs fuel pc → pc + 1 < length k.words
  next_inside ts fuel x = next_is_there g k (moment ts cs r pc fuel) (ready_at g k s cs pc r (own_registers h) ts fuel x) w {op = Close} refl word (sym is)

  module _ (known : Option ℕ) (none : IfSome known (λ register. ClosesNothing g.around cs register)) (to : ℕ) (passes : PassesClose w pc known to) (u : KeptStack) (b : TopBecomes s u (λ f t. with_pc to t)) where
    steps_on : (ts : List Contents) (fuel : ℕ) → RunsAt g k s ts cs fuel pc → StepsOn g.around g.string_metatable k (moment ts cs r pc fuel) (moment ts cs r to fuel)
    steps_on ts fuel x =
        close_so g k (moment ts cs r pc fuel) (ready_at g k s cs pc r (own_registers h) ts fuel x) w {op = Close} refl word (sym is) known none (Some to) passes

    same_registers : (ts : List Contents) (fuel : ℕ) (x : RunsAt g k s ts cs fuel pc) → map (value g.around.texts) r ≡ x.may.top.own.registers
    same_registers ts fuel x = own_registers h (value g.around.texts) g.around.context.below x.may.top x.may.is

    becomes : (ts : List Contents) (fuel : ℕ) (x : RunsAt g k s ts cs fuel pc)
        → frames (value g.around.texts) u ≡ g.around.context.below ++ lua (with_pc to (with_registers (map (value g.around.texts) r) x.may.top)) ∷ []
    becomes ts fuel x =
        b.top (value g.around.texts) refl g.around.context.below x.may.top x.may.is
        ∙ ap (λ (rs : List Value). g.around.context.below ++ lua (with_pc to (with_registers rs x.may.top)) ∷ []) (sym (same_registers ts fuel x))

    pub close_goes : GoesOver g k s u cs pc to
    close_goes = λ ts. record {
      runs = λ fuel x.
          runs_at g k s ts cs fuel x.may r pc x.runs (sym x.at_pc) (same_registers ts fuel x) u ts cs r to fuel (steps_on ts fuel x).ready (becomes ts fuel x) b.cells refl;
      reaches = λ fuel x.
          loop_reaches g k s ts cs fuel x.may r pc x.runs (sym x.at_pc) (same_registers ts fuel x) u ts cs r to fuel ((steps_on ts fuel x).runs (moment ts cs r pc fuel) (0, refl)) (becomes ts fuel x);
      listed = b.cells;
    }
