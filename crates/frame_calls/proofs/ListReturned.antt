-- A return on a stack whose values are an open list of the frame below is two steps of the machine: the frame is left, and the frame below goes on with what it
-- returned.
use Rattle.std.proofs.Common.{◌≡◌, ℕ, zero, suc, ◌+◌, ◌≤◌, List, [], ◌∷◌, ◌++◌, length, map, Option, Some, None, refl, ap, sym, ◌∙◌, arith, true}
use Rattle.std.specs.Prelude.{cond, nat_lt, slice_get}
use Rattle.std.proofs.lemmas.List.{length-map}
use Rattle.code_core.specs.Check.{at}
use Rattle.code_core.specs.Instruction.{a_of, c_of, opcode_of}
use Rattle.code_core.specs.declared.instruction.Instruction.{Instruction}
use Rattle.code_core.specs.declared.opcode.Opcode.{Opcode}
use Rattle.code_core.specs.declared.opcode.Opcode.TheVariants.{Call}
use Rattle.int_core.specs.Value.{Value, nth, range, without_last, write_all}
use Rattle.machine_core.specs.World.{running, for_call, Wait, LuaFrame, Frame, lua, World}
use Rattle.machine_core.specs.Text.{trap, write_list}
use Rattle.machine_core.specs.InstructionRows.{next, rest_at, rest_by, write_values}
use Rattle.machine_core.specs.Moves.{ends, go}
use Rattle.machine_core.specs.MachineStep.{steps}
use Rattle.machine_focus.specs.Focus.{Context, Held, Reaches, held_own, local, stacked, with_pc}
use Rattle.machine_sound.proofs.Values.{length_range, lt_true}
use Rattle.table_core.specs.Table.{Contents}
use Rattle.table_core.specs.declared.value.FuncId.{FuncId}
use Rattle.table_core.specs.declared.value.Value.{Value as Kept}
use Rattle.lua_stack.specs.declared.frame.LuaState.{LuaState}
use Rattle.lua_stack.specs.Frames.{KeptStack, lua_of, wait_of}
use Rattle.lua_heap.specs.declared.world.Cell.{Cell}
use Rattle.lua_heap.specs.Plain.{cell, heap}
use Rattle.lua_heap.specs.Reading.{value}
use Rattle.machine_arms_tables.specs.Frame.{Code}
use Rattle.machine_loop.specs.Running.{Running}
use Rattle.frame_calls.specs.Calling.{AreFunctions, KnownFunction, Program}
use Rattle.frame_calls.specs.Opening.{IsListTaker, ReturnsList, TakesListIn}
use Rattle.frame_calls.specs.Returning.{HandsBack, IsCaller}
use Rattle.frame_calls.specs.Standing.{RunsAt, standing}
use Rattle.frame_calls.proofs.BelowTop.{at_its_place, at_next, behind_it, below_waits, known_function, nothing_closed, nothing_pending, popped_waits, to_is, top_registers, values_there}
use Rattle.frame_calls.proofs.Called.{held_on, ready_held, standing_is, word_is}
use Rattle.frame_calls.proofs.FrameRows.{outer, return_steps}
use Rattle.frame_calls.proofs.Returned.{row_returns}
use Rattle.frame_calls.proofs.Held.{frame_with}
use Rattle.frame_calls.proofs.Takers.{both_changes, two_range}

-- all items of a list

range_behind : (from count : ℕ) (v : Value) (vs : List Value) → range (suc from) count (v ∷ vs) ≡ range from count vs
range_behind from zero v vs = refl
range_behind from (suc count) v vs = ap (λ ws. nth vs from ∷ ws) (range_behind (suc from) count v vs)

pub range_whole : (vs : List Value) → range 0 (length vs) vs ≡ vs
range_whole [] = refl
range_whole (v ∷ vs) = ap (λ ws. v ∷ ws) (range_behind 0 (length vs) v vs ∙ range_whole vs)

-- a frame that waits for a call is no frame that runs
pub call_waits : ◌≡◌ {A = Wait Value} for_call running → ⊥
call_waits e = absurd (cc)

-- what is left of its CALL: the values that came are an open list from its register on

module _ (d : Context) (H : Held) (w : Instruction) (vs : List Value) where
  abbrev pub listed : Held
  listed = record H { own = record H.own { registers = write_all (a_of w) vs H.own.registers; opened = length vs; pc = H.own.pc + 1 } }

  pub opens_list : (u : Instruction) → at d.closure.code H.own.pc ≡ Some w → opcode_of w ≡ Some Call → c_of w ≡ 0 → nat_lt (a_of w) (length H.own.registers) ≡ true → at d.closure.code (H.own.pc + 1) ≡ Some u
      → local d (rest_at {V = Value} for_call d.closure.code H.own.pc) vs H ≡ Some listed
  opens_list u at_pc is_call takes_all there behind_is =
      let p = d.closure.code in
      let written = record H { own = record H.own { registers = write_all (a_of w) vs H.own.registers; opened = length vs } } in
      ap (λ (o : Option Instruction). local d (elim o [ None ↦ trap | Some w ↦ rest_by {V = Value} for_call p H.own.pc w (opcode_of w) ]) vs H) at_pc
      ∙ ap (λ (o : Option Opcode). local d (rest_by {V = Value} for_call p H.own.pc w o) vs H) is_call
      ∙ ap (λ n. local d (write_values (a_of w) n 0) vs H) takes_all
      ∙ ap (λ b. cond b (local d next (vs ++ []) (held_own d (write_list (a_of w) 0) vs H)) None) there
      ∙ ap (λ (o : Option Instruction). elim o as (λ _. Option Held) [ None ↦ None | Some _ ↦ Some (with_pc written (H.own.pc + 1)) ]) behind_is

module _ (g : Running) (k : Code) (s : KeptStack) (ts : List Contents) (cs : List Cell) (fuel pc : ℕ) (r : RunsAt g k s ts cs fuel pc) (u : KeptStack) (program : Program) (w : Instruction)
    (x : ReturnsList s u program w) (a : AreFunctions g.around.context.base.functions program) where
  abbrev read : Kept → Value
  read = value g.around.texts

  abbrev ctx : Context
  ctx = g.around.context

  abbrev back : HandsBack s x.handed (a_of w) x.count x.taker
  back = x.back

  -- the frame below, and its CALL

  abbrev caller : LuaState
  caller = x.below.caller

  abbrev calls : IsCaller s caller
  calls = x.below.calls

  abbrev in_code : TakesListIn program caller x.count x.taker
  in_code = x.below.takes

  abbrev list_is : IsListTaker in_code.code.words.items caller x.count x.taker
  list_is = in_code.takes

  abbrev waiting : LuaFrame
  waiting = lua_of read calls.frame

  abbrev lower : List Frame
  lower = without_last ctx.below

  below_is : ctx.below ≡ lower ++ lua (frame_with caller.function.0 for_call waiting.own) ∷ []
  below_is = below_waits g k s ts cs fuel pc r caller calls ∙ ap (λ w. lower ++ lua (frame_with caller.function.0 (wait_of read w) waiting.own) ∷ []) list_is.waits

  abbrev Takes : List Instruction → Type 0
  Takes words = IsListTaker words caller x.count x.taker

  abbrev its_function : KnownFunction ctx.base.functions caller.function.0 in_code.code
  its_function = known_function g k s ts cs fuel pc r caller calls program a Takes in_code

  abbrev call_word : Instruction
  call_word = list_is.word

  at_call : at its_function.function.code waiting.own.pc ≡ Some call_word
  at_call = at_its_place g k s ts cs fuel pc r caller calls program a Takes in_code call_word list_is.at_pc

  has_register : nat_lt (a_of call_word) (length waiting.own.registers) ≡ true
  has_register =
      let l = list_is.there in
      let m = list_is.register in
      let n = calls.knows.size in
      let o = length-map calls.frame.registers read in
      lt_true (a_of call_word) (length waiting.own.registers) (omega (arith, l, m, n, o))

  -- the values

  abbrev came : List Value
  came = range (a_of w) x.count r.may.top.own.registers

  few : x.count ≤ 2
  few = let f = list_is.few in let m = list_is.many in omega (arith, f, m)

  came_whole : range 0 x.count came ≡ came
  came_whole = ap (λ n. range 0 n came) (sym (length_range (a_of w) x.count r.may.top.own.registers)) ∙ range_whole came

  values_are : range 0 x.taker.count (read back.given.first ∷ read back.given.second ∷ []) ≡ came
  values_are =
      ap (λ n. range 0 n (read back.given.first ∷ read back.given.second ∷ [])) list_is.many
      ∙ sym (two_range (range (a_of w) x.count (map read back.registers)) (read back.given.first) (read back.given.second) (back.gives.two read refl) x.count few)
      ∙ ap (λ rs. range 0 x.count (range (a_of w) x.count rs)) (top_registers g k s ts cs fuel pc r back.registers back.are)
      ∙ came_whole

  -- what both steps come to

  abbrev after : ℕ → (register : ℕ) → List Value → (to count : ℕ) → World
  after n register vs to count =
      stacked ctx.base ctx.coroutine (lower ++ lua (frame_with n running (record waiting.own { registers = write_all register vs waiting.own.registers; opened = count; pc = to })) ∷ []) (heap g.around.texts ts g.string_metatable) (map (cell g.around.texts) cs) fuel []

  standing_after : standing g u ts cs fuel ≡ after caller.function.0 (a_of call_word) came (waiting.own.pc + 1) (length came)
  standing_after =
      ap (λ fs. stacked ctx.base ctx.coroutine fs (heap g.around.texts ts g.string_metatable) (map (cell g.around.texts) cs) fuel [])
      ((both_changes back.hands x.opens).top read refl lower waiting (popped_waits g k s ts cs fuel pc r caller calls back.popped back.pops))
      ∙ ap (λ (id : FuncId). after id.0 x.taker.register (range 0 x.taker.count (read back.given.first ∷ read back.given.second ∷ [])) x.taker.to x.count) calls.knows.function
      ∙ ap (λ vs. after caller.function.0 x.taker.register vs x.taker.to x.count) values_are
      ∙ ap (λ n. after caller.function.0 n came x.taker.to x.count) list_is.register
      ∙ ap (λ n. after caller.function.0 (a_of call_word) came n x.count) (to_is g k s ts cs fuel pc r caller calls program a Takes in_code x.taker.to list_is.next list_is.within)
      ∙ ap (after caller.function.0 (a_of call_word) came (waiting.own.pc + 1)) (sym (length_range (a_of w) x.count r.may.top.own.registers))

  pub list_returned_so : slice_get k.words pc ≡ Some w → Reaches g.around.rows (standing g s ts cs fuel) (standing g u ts cs fuel)
  list_returned_so word =
      let stands = (ready_held g k s ts cs fuel pc r).stands in
      let h = held_on g k s ts cs fuel pc r fuel r.may.top.own in
      let there = values_there g k s ts cs fuel pc r back.registers back.are (a_of w) x.count back.gives.room in
      let o = row_returns ctx stands h w x.count there (opcode_of w) x.is in
      let d = outer ctx lower caller.function.0 its_function.function in
      let behind_call = behind_it g k s ts cs fuel pc r caller calls program a Takes in_code x.taker.to list_is.next list_is.within in
      let next_is = at_next g k s ts cs fuel pc r caller calls program a Takes in_code x.taker.to list_is.next list_is.within in
      let held : Held = record { heap = h.heap; cells = h.cells; fuel = h.fuel; own = waiting.own } in (
        2,
        ap (steps g.around.rows 2 go) (standing_is g k s ts cs fuel pc r)
            ∙ return_steps ctx stands h w o.op (word_is g k s ts cs fuel pc r w word) o.is (a_of w) x.count o.env o.row
            (nothing_pending g k s ts cs fuel pc r x.closed) there (nothing_closed g k s ts cs fuel pc r x.closed) lower caller.function.0 its_function.function waiting.own for_call call_waits below_is its_function.is
            (listed d held call_word came) refl (opens_list d held call_word came behind_call.0 at_call list_is.is_call list_is.takes_all has_register next_is) g.around.rows
            ∙ ap (ends go) (sym standing_after),
      )
