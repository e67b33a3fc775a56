-- What opens a list, and a return of all its values on a stack, which is two steps of the machine.
use Rattle.std.proofs.Common.{◌≡◌, ℕ, ◌+◌, ◌-◌, List, [], length, Option, Some, None, ap, sym, ◌∙◌, arith, true}
use Rattle.std.specs.Prelude.{◌==◌, cond, if◌then◌else◌, option_and_then, slice_get}
use Rattle.code_core.specs.Check.{leaves, open_from, opened}
use Rattle.code_core.specs.Fields.{opens}
use Rattle.code_core.specs.Instruction.{a_of, b_of, c_of, opcode_of}
use Rattle.code_core.specs.declared.instruction.Instruction.{Instruction}
use Rattle.code_core.specs.declared.opcode.Opcode.{Opcode}
use Rattle.code_core.specs.declared.opcode.Opcode.TheVariants.{Call, Return, VarArg}
use Rattle.int_core.specs.Value.{range}
use Rattle.machine_core.specs.Text.{Text, fits, is_there, list_end, list_values, read_list}
use Rattle.machine_core.specs.FrameRows.{expand}
use Rattle.machine_core.specs.InstructionRows.{counted, read_values, returns, row_of}
use Rattle.machine_core.specs.Moves.{run}
use Rattle.machine_focus.specs.Focus.{Context, Held, Reaches, Stands, world}
use Rattle.machine_sound.proofs.Values.{length_range}
use Rattle.table_core.specs.Table.{Contents}
use Rattle.lua_stack.specs.Frames.{KeptStack}
use Rattle.lua_heap.specs.declared.world.Cell.{Cell}
use Rattle.machine_arms_tables.specs.Frame.{Code}
use Rattle.machine_loop.specs.Running.{Running}
use Rattle.frame_calls.specs.Calling.{AreFunctions, Program}
use Rattle.frame_calls.specs.Returning.{ReturnsOpen}
use Rattle.frame_calls.specs.Standing.{RunsAt, standing}
use Rattle.frame_calls.proofs.Called.{held_on, list_ends, own_now, ready_held}
use Rattle.frame_calls.proofs.FrameRows.{own_runs}
use Rattle.frame_calls.proofs.Returned.{given_back_so}

-- what a test of an instruction says

list_from : (n a : ℕ) → n ≡ 0 → (if n == 0 then Some a else None) ≡ Some a
list_from n a e = ap (λ n. if n == 0 then Some a else None) e

pub call_opens : (w : Instruction) (from : ℕ) → opcode_of w ≡ Some Call → c_of w ≡ 0 → from ≡ a_of w → leaves w ≡ open_from from
call_opens w from o c a =
    ap (λ (o : Option Opcode). opened (option_and_then (λ op. opens op w) o)) o
    ∙ ap opened (list_from (c_of w) (a_of w) c)
    ∙ ap open_from (sym a)

pub varargs_open : (w : Instruction) (from : ℕ) → opcode_of w ≡ Some VarArg → c_of w ≡ 0 → from ≡ a_of w → leaves w ≡ open_from from
varargs_open w from o c a =
    ap (λ (o : Option Opcode). opened (option_and_then (λ op. opens op w) o)) o
    ∙ ap opened (list_from (c_of w) (a_of w) c)
    ∙ ap open_from (sym a)

-- a return of them all reads them first

module _ (c : Context) (s : Stands c) (h : Held) where
  abbrev list_counts : (a n : ℕ) → Text
  list_counts a n = read_values a n (λ _ s. returns a (cond (n == 0) (counted s) (n - 1)))

  open_row : (w : Instruction) (count end : ℕ) → b_of w ≡ 0 → list_end c.closure.code h.own ≡ Some end → end ≡ a_of w + count
      → run (expand (row_of c.closure.code h.own.pc Return w)) [] (world c h) ≡ run (expand (returns (a_of w) count)) (range (a_of w) count h.own.registers) (world c h)
  open_row w count end b e n =
      let from = a_of w in
      let rs = h.own.registers in
      let ends_there : fits (read_list from) c.closure.code h.own ≡ true = ap is_there e in
      let many : end - from ≡ count = omega (arith, n) in
      ap (λ n. run (expand (list_counts from n)) [] (world c h)) b
      ∙ own_runs c s h (read_list from) (λ _ s. returns from (counted s)) [] ends_there
      ∙ ap (λ (o : Option ℕ). run (expand (returns from (length (list_values from rs o)))) (list_values from rs o) (world c h)) e
      ∙ ap (λ n. run (expand (returns from (length (range from n rs)))) (range from n rs) (world c h)) many
      ∙ ap (λ n. run (expand (returns from n)) (range from count rs) (world c h)) (length_range from count rs)

-- on a stack all values of the list go to the frame below
pub open_returned_so : (g : Running) (k : Code) (s : KeptStack) (ts : List Contents) (cs : List Cell) (fuel pc : ℕ) → RunsAt g k s ts cs fuel pc → (u : KeptStack) (program : Program) (w : Instruction) → ReturnsOpen s u program k.words pc w
    → AreFunctions g.around.context.base.functions program → slice_get k.words pc ≡ Some w → Reaches g.around.rows (standing g s ts cs fuel) (standing g u ts cs fuel)
open_returned_so g k s ts cs fuel pc r u program w x a word =
    let own = own_now g k s ts cs fuel pc r in
    given_back_so g k s ts cs fuel pc r u program w x.count x.gives_back a word (record {
      op = Return;
      is = x.is_return;
      env = range (a_of w) x.count own.registers;
      row = open_row g.around.context (ready_held g k s ts cs fuel pc r).stands (held_on g k s ts cs fuel pc r fuel own) w x.count x.end x.takes_all (list_ends g k s ts cs fuel pc r x.end x.list) x.all;
    })
