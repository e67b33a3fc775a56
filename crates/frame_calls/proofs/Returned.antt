-- A return on a stack is two steps of the machine: the frame is left, and the frame below goes on with what it returned.
use Rattle.std.proofs.Common.{◌≡◌, ℕ, suc, ◌+◌, ◌-◌, List, [], ◌∷◌, ◌++◌, length, map, Option, Some, refl, ap, sym, ◌∙◌, arith, true, false}
use Rattle.std.proofs.lemmas.Bool.Decides.{nat_tests}
use Rattle.std.specs.Prelude.{◌==◌, cond, nat_le, slice_get}
use Rattle.std.proofs.lemmas.List.{length-map}
use Rattle.code_core.specs.Check.{at}
use Rattle.code_core.specs.Instruction.{a_of, b_of, opcode_of}
use Rattle.code_core.specs.declared.instruction.Instruction.{Instruction}
use Rattle.code_core.specs.declared.opcode.Opcode.{Opcode}
use Rattle.code_core.specs.declared.opcode.Opcode.TheVariants.{Return, Return0, Return1}
use Rattle.int_core.specs.Value.{Value, range, without_last, write_all}
use Rattle.machine_core.specs.World.{running, Activation, Wait, LuaFrame, Frame, lua, World}
use Rattle.machine_core.specs.Text.{behind}
use Rattle.machine_core.specs.InstructionRows.{returns, row_of}
use Rattle.machine_core.specs.FrameRows.{expand}
use Rattle.machine_core.specs.Moves.{ends, go, run}
use Rattle.machine_core.specs.MachineStep.{steps}
use Rattle.machine_focus.specs.Focus.{Context, Held, Reaches, Stands, stacked, world}
use Rattle.machine_sound.proofs.Values.{le_true}
use Rattle.machine_sound.proofs.Lists.{some_is}
use Rattle.table_core.specs.Table.{Contents}
use Rattle.table_core.specs.declared.value.FuncId.{FuncId}
use Rattle.table_core.specs.declared.value.Value.{Value as Kept}
use Rattle.lua_stack.specs.declared.frame.LuaState.{LuaState}
use Rattle.lua_stack.specs.Frames.{KeptStack, frames, lua_of, wait_of}
use Rattle.lua_heap.specs.declared.world.Cell.{Cell as KeptCell}
use Rattle.lua_heap.specs.Plain.{cell, heap}
use Rattle.lua_heap.specs.Reading.{value}
use Rattle.machine_arms_tables.specs.Frame.{Code}
use Rattle.machine_loop.specs.Running.{Running}
use Rattle.frame_calls.specs.Calling.{AreFunctions, KnownFunction, Program}
use Rattle.frame_calls.specs.Returning.{GivesBack, HandsBack, IsCaller, IsTaker, ReturnsIn, TakesIn, count_of}
use Rattle.frame_calls.specs.Standing.{RunsAt, standing}
use Rattle.frame_calls.proofs.BelowTop.{at_its_place, at_next, behind_it, below_waits, known_function, nothing_closed, nothing_pending, popped_waits, to_is, top_registers, values_there, words_are}
use Rattle.frame_calls.proofs.Calls.{less_is}
use Rattle.frame_calls.proofs.Called.{behind_within, held_on, own_now, ready_held, standing_is, word_is}
use Rattle.frame_calls.proofs.FrameRows.{given, handed, outer, return_row, return_steps, still_waits, takes, takes_all}
use Rattle.frame_calls.proofs.Held.{frame_with}
use Rattle.frame_calls.proofs.Takers.{two_range}

-- the row of a return, after what it reads first
pub record RowReturns (c : Context) (h : Held) (w : Instruction) (count : ℕ) (o : Option Opcode) : Type 0 where
  pub op : Opcode
  pub is : o ≡ Some op
  pub env : List Value
  pub row : run (expand (row_of c.closure.code h.own.pc op w)) [] (world c h) ≡ run (expand (returns (a_of w) count)) env (world c h)

less_counts : (n : ℕ) → cond (suc n == 0) 0 (suc n - 1) ≡ n
less_counts n =
    let more : (suc n == 0) ≡ false = grind (arith, nat_tests) in
    ap (λ b. cond b 0 (suc n - 1)) more ∙ omega arith

pub row_returns : (c : Context) (s : Stands c) (h : Held) (w : Instruction) (count : ℕ) → nat_le (behind (a_of w) count) (length h.own.registers) ≡ true → (o : Option Opcode) → count_of o (b_of w) ≡ Some count → RowReturns c h w count o
row_returns c s h w count there (Some Return) e = record {
  op = Return;
  is = refl;
  env = given c s h (a_of w) count there;
  row = return_row c s h (a_of w) count there w refl (less_is (b_of w) count e) (less_counts count);
}
row_returns c s h w count there (Some Return0) e = record {
  op = Return0;
  is = refl;
  env = [];
  row = ap (λ n. run (expand (returns (a_of w) n)) [] (world c h)) (some_is {o = Some 0} refl e);
}
row_returns c s h w count there (Some Return1) e = record {
  op = Return1;
  is = refl;
  env = [];
  row = ap (λ n. run (expand (returns (a_of w) n)) [] (world c h)) (some_is {o = Some 1} refl e);
}
row_returns c s h w count there _ e = absurd (cc)

module _ (g : Running) (k : Code) (s : KeptStack) (ts : List Contents) (cs : List KeptCell) (fuel pc : ℕ) (r : RunsAt g k s ts cs fuel pc) (u : KeptStack) (program : Program) (w : Instruction)
    (count : ℕ) (x : GivesBack s u program w count) (a : AreFunctions g.around.context.base.functions program) where
  abbrev read : Kept → Value
  read = value g.around.texts

  abbrev ctx : Context
  ctx = g.around.context

  abbrev own : Activation
  own = own_now g k s ts cs fuel pc r

  abbrev back : HandsBack s u (a_of w) count x.taker
  back = x.back

  -- the frame below

  abbrev caller : LuaState
  caller = x.below.caller

  abbrev calls : IsCaller s caller
  calls = x.below.calls

  abbrev in_code : TakesIn program caller x.taker
  in_code = x.below.takes

  abbrev taker_is : IsTaker in_code.code.words.items caller x.taker
  taker_is = in_code.takes

  abbrev waiting : LuaFrame
  waiting = lua_of read calls.frame

  abbrev lower : List Frame
  lower = without_last ctx.below

  abbrev number : ℕ
  number = caller.function.0

  abbrev wait_is : Wait Value
  wait_is = wait_of read caller.wait

  below_is : ctx.below ≡ lower ++ lua (frame_with number wait_is waiting.own) ∷ []
  below_is = below_waits g k s ts cs fuel pc r caller calls

  -- its code

  abbrev Takes : List Instruction → Type 0
  Takes words = IsTaker words caller x.taker

  abbrev its_function : KnownFunction ctx.base.functions number in_code.code
  its_function = known_function g k s ts cs fuel pc r caller calls program a Takes in_code

  at_call : at its_function.function.code waiting.own.pc ≡ Some taker_is.word
  at_call = at_its_place g k s ts cs fuel pc r caller calls program a Takes in_code taker_is.word taker_is.at_pc

  room : nat_le (behind x.taker.register x.taker.count) (length waiting.own.registers) ≡ true
  room =
      let l = taker_is.room in
      let n = calls.knows.size in
      let o = length-map calls.frame.registers read in
      le_true (behind x.taker.register x.taker.count) (length waiting.own.registers) (behind_within x.taker.register x.taker.count (length waiting.own.registers) (omega (arith, l, n, o)))

  -- the frame on top

  registers_are : map read back.registers ≡ own.registers
  registers_are = top_registers g k s ts cs fuel pc r back.registers back.are

  there : nat_le (behind (a_of w) count) (length own.registers) ≡ true
  there = values_there g k s ts cs fuel pc r back.registers back.are (a_of w) count back.gives.room

  -- what both steps come to

  abbrev after : ℕ → (register : ℕ) → List Value → (to : ℕ) → World
  after n register vs to =
      stacked ctx.base ctx.coroutine (lower ++ lua (frame_with n running (record waiting.own { registers = write_all register vs waiting.own.registers; pc = to })) ∷ []) (heap g.around.texts ts g.string_metatable) (map (cell g.around.texts) cs) fuel []

  popped_is : frames read back.popped ≡ lower ++ lua waiting ∷ []
  popped_is = popped_waits g k s ts cs fuel pc r caller calls back.popped back.pops

  values_are : range 0 x.taker.count (read back.given.first ∷ read back.given.second ∷ []) ≡ range 0 x.taker.count (range (a_of w) count own.registers)
  values_are =
      sym (two_range (range (a_of w) count (map read back.registers)) (read back.given.first) (read back.given.second) (back.gives.two read refl) x.taker.count taker_is.few)
      ∙ ap (λ rs. range 0 x.taker.count (range (a_of w) count rs)) registers_are

  standing_after : standing g u ts cs fuel ≡ after number x.taker.register (range 0 x.taker.count (range (a_of w) count own.registers)) (waiting.own.pc + 1)
  standing_after =
      ap (λ fs. stacked ctx.base ctx.coroutine fs (heap g.around.texts ts g.string_metatable) (map (cell g.around.texts) cs) fuel []) (back.hands.top read refl lower waiting popped_is)
      ∙ ap (λ (id : FuncId). after id.0 x.taker.register (range 0 x.taker.count (read back.given.first ∷ read back.given.second ∷ [])) x.taker.to) calls.knows.function
      ∙ ap (λ vs. after number x.taker.register vs x.taker.to) values_are
      ∙ ap (after number x.taker.register (range 0 x.taker.count (range (a_of w) count own.registers))) (to_is g k s ts cs fuel pc r caller calls program a Takes in_code x.taker.to taker_is.next taker_is.within)

  pub given_back_so : slice_get k.words pc ≡ Some w → RowReturns ctx (held_on g k s ts cs fuel pc r fuel own) w count (opcode_of w) → Reaches g.around.rows (standing g s ts cs fuel) (standing g u ts cs fuel)
  given_back_so word o =
      let stands = (ready_held g k s ts cs fuel pc r).stands in
      let h = held_on g k s ts cs fuel pc r fuel own in
      let d = outer ctx lower number its_function.function in
      let held : Held = record { heap = h.heap; cells = h.cells; fuel = h.fuel; own = waiting.own } in
      let behind_call = behind_it g k s ts cs fuel pc r caller calls program a Takes in_code x.taker.to taker_is.next taker_is.within in
      let next_is = at_next g k s ts cs fuel pc r caller calls program a Takes in_code x.taker.to taker_is.next taker_is.within in
      let given_values = range (a_of w) count own.registers in (
        2,
        ap (steps g.around.rows 2 go) (standing_is g k s ts cs fuel pc r)
            ∙ return_steps ctx stands h w o.op (word_is g k s ts cs fuel pc r w word) o.is (a_of w) count o.env o.row
            (nothing_pending g k s ts cs fuel pc r x.closed) there (nothing_closed g k s ts cs fuel pc r x.closed) lower number its_function.function waiting.own wait_is (still_waits read taker_is.wants) below_is its_function.is
            (handed d x.taker held given_values) (takes_all read given_values taker_is.wants)
            (takes d x.taker held in_code.code.words.items (words_are g k s ts cs fuel pc r caller calls program a Takes in_code) taker_is.word at_call caller.pc read calls.knows.pc taker_is.wants given_values behind_call.0 room next_is) g.around.rows
            ∙ ap (ends go) (sym standing_after),
      )

-- an instruction does so that says how many values it returns

pub returned_so : (g : Running) (k : Code) (s : KeptStack) (ts : List Contents) (cs : List KeptCell) (fuel pc : ℕ) → RunsAt g k s ts cs fuel pc → (u : KeptStack) (program : Program) (w : Instruction) → ReturnsIn s u program w
    → AreFunctions g.around.context.base.functions program → slice_get k.words pc ≡ Some w → Reaches g.around.rows (standing g s ts cs fuel) (standing g u ts cs fuel)
returned_so g k s ts cs fuel pc r u program w x a word =
    let b = x.gives_back in
    let h = held_on g k s ts cs fuel pc r fuel (own_now g k s ts cs fuel pc r) in
    let room = values_there g k s ts cs fuel pc r b.back.registers b.back.are (a_of w) x.count b.back.gives.room in
    given_back_so g k s ts cs fuel pc r u program w x.count b a word (row_returns g.around.context (ready_held g k s ts cs fuel pc r).stands h w x.count room (opcode_of w) x.is)
