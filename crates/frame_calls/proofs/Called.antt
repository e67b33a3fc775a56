-- A call of a Lua function on a stack is a step of the machine, and so are one of an iterator and one in place of the frame on top.
use Rattle.std.proofs.Common.{◌≡◌, ℕ, zero, suc, ◌+◌, ◌≤◌, List, [], ◌∷◌, ◌++◌, length, map, Option, Some, None, refl, ap, sym, ◌∙◌, arith, true}
use Rattle.std.specs.Prelude.{nat_le, nat_lt, slice_get}
use Rattle.std.proofs.lemmas.List.{append_assoc, length-map}
use Rattle.code_core.specs.Check.{Mark, at, fixed, in_front, left_by, mark, open_from}
use Rattle.code_core.specs.Prototype.{Prototype}
use Rattle.code_core.specs.Instruction.{a_of}
use Rattle.code_core.specs.declared.instruction.Instruction.{Instruction}
use Rattle.int_core.specs.Limits.{greatest_depth}
use Rattle.int_core.specs.Value.{Value, a_function, nth, object, range}
use Rattle.machine_core.specs.World.{Function, Activation, LuaFrame, Frame, lua}
use Rattle.machine_core.specs.Text.{behind, list_end, read_registers}
use Rattle.machine_core.specs.FrameRows.{expand}
use Rattle.machine_core.specs.InstructionRows.{read_values}
use Rattle.machine_core.specs.Moves.{ends, go, new_frame, run}
use Rattle.machine_core.specs.MachineStep.{and_then, step, steps}
use Rattle.machine_focus.specs.Focus.{Context, Held, Reaches, stacked, world}
use Rattle.machine_focus.specs.Law.{IsReady as IsHeldReady}
use Rattle.machine_sound.proofs.Values.{le_true, lt_true}
use Rattle.machine_sound.proofs.Lists.{get_within}
use Rattle.machine_view.proofs.Rows.{nth_map}
use Rattle.table_core.specs.Table.{Contents}
use Rattle.table_core.specs.declared.value.FuncId.{FuncId}
use Rattle.table_core.specs.declared.value.Value.{Value as Kept}
use Rattle.table_core.specs.declared.value.Value.TheVariants.{Func as a_func}
use Rattle.lua_stack.specs.declared.frame.Shape.{Shape}
use Rattle.lua_stack.specs.Frames.{IsShapeOf, KeptStack, frames, given_up, wait_of, with_wait}
use Rattle.lua_stack.specs.declared.frame.Wait.{Wait as KeptWait}
use Rattle.lua_stack.specs.declared.frame.Wait.TheVariants.{ForCall, ForIterator}
use Rattle.lua_heap.specs.declared.world.Cell.{Cell}
use Rattle.lua_heap.specs.Plain.{cell, heap}
use Rattle.lua_heap.specs.Reading.{value}
use Rattle.machine_arms_tables.specs.Frame.{Code}
use Rattle.machine_loop.specs.Running.{Running}
use Rattle.machine_loop.proofs.Closing.{stays}
use Rattle.frame_calls.specs.declared.calling.LuaFunction.{LuaFunction}
use Rattle.frame_calls.specs.Arguments.{AreArguments, ListEnds, by_count, by_list}
use Rattle.frame_calls.specs.Calling.{AreFunctions, CallsIn, HasShapeIn, IsCallee, IteratesIn, Program, TailCallsIn}
use Rattle.frame_calls.specs.Standing.{RunsAt, standing}
use Rattle.frame_calls.proofs.Closed.{closes_nothing, frame_count}
use Rattle.frame_calls.proofs.FrameRows.{ReadsArguments, call_steps, giving, iterate_steps, iterating, own_runs, reads_list, tail_call_steps}
use Rattle.frame_calls.proofs.Held.{frame_is}

pub behind_within : (from n size : ℕ) → from + n ≤ size → behind from n ≤ size
behind_within from zero size l = omega arith
behind_within from (suc n) size l = omega (arith, l)

module _ (g : Running) (k : Code) (s : KeptStack) (ts : List Contents) (cs : List Cell) (fuel pc : ℕ) (r : RunsAt g k s ts cs fuel pc) where
  abbrev pub held_on : ℕ → Activation → Held
  held_on left own = record { heap = heap g.around.texts ts g.string_metatable; cells = map (cell g.around.texts) cs; fuel = left; own = own }

  abbrev pub own_now : Activation
  own_now = r.may.top.own

  pub ready_held : IsHeldReady g.around.primitives g.around.rows g.around.context (held_on fuel own_now)
  ready_held = r.may.ready r.runs

  pub standing_is : standing g s ts cs fuel ≡ world g.around.context (held_on fuel own_now)
  standing_is =
      let c = g.around.context in
      ap (λ fs. stacked c.base c.coroutine fs (heap g.around.texts ts g.string_metatable) (map (cell g.around.texts) cs) fuel [])
      (r.may.is ∙ ap (λ (t : LuaFrame). c.below ++ lua t ∷ []) (frame_is r.may.top c.function own_now r.may.function r.runs refl))

  pub word_is : (w : Instruction) → slice_get k.words pc ≡ Some w → at g.around.context.closure.code own_now.pc ≡ Some w
  word_is w e = ap (at g.around.context.closure.code) r.at_pc ∙ ap (λ ws. slice_get ws pc) r.may.closure.code.code.words_are ∙ e

  pub depth_is : length s.frames ≡ length g.around.context.below + 1
  depth_is = frame_count (value g.around.texts) s g.around.context.below r.may.top r.may.is

  abbrev read : Kept → Value
  read = value g.around.texts

  abbrev ctx : Context
  ctx = g.around.context

  abbrev now : Held
  now = held_on fuel own_now

  -- one step to a stack of which the frames are known
  pub steps_to : (u : KeptStack) (left : ℕ) (fs : List Frame) → frames read u ≡ fs → step g.around.rows go (world ctx now) ≡ ends go (stacked ctx.base ctx.coroutine fs (heap g.around.texts ts g.string_metatable) (map (cell g.around.texts) cs) left [])
      → Reaches g.around.rows (standing g s ts cs fuel) (standing g u ts cs left)
  steps_to u left fs are e = (
    1,
    ap (steps g.around.rows 1 go) standing_is
        ∙ ap (λ o. and_then o (steps g.around.rows 0)) e
        ∙ ap (ends go) (sym (ap (λ fs. stacked ctx.base ctx.coroutine fs (heap g.around.texts ts g.string_metatable) (map (cell g.around.texts) cs) left []) are)),
  )

  -- a list that ends on the stack ends there in the machine's world too
  module _ (end : ℕ) (x : ListEnds s k.words pc end) where
    front_is : in_front ctx.closure.code own_now.pc ≡ Some x.before
    front_is = ap (in_front ctx.closure.code) (r.at_pc ∙ x.in_front.next) ∙ ap (λ ws. slice_get ws x.in_front.front) r.may.closure.code.code.words_are ∙ x.in_front.there

    mark_is : mark ctx.closure.code own_now.pc ≡ open_from x.from
    mark_is = ap left_by front_is ∙ x.is_open

    many_are : x.many ≡ own_now.opened
    many_are = x.counts read ctx.below r.may.top r.may.is

    pub list_ends : list_end ctx.closure.code own_now ≡ Some end
    list_ends =
        ap (λ (m : Mark). elim m as (λ _. Option ℕ) [ fixed ↦ None | open_from n ↦ Some (n + own_now.opened) ]) mark_is
        ∙ ap (λ n. Some (x.from + n)) (sym many_are)
        ∙ ap (λ n. Some n) (sym x.ends)

  -- a function in a register, and its arguments in those behind it
  module _ (program : Program) (w : Instruction) (given : ℕ) (callee : LuaFunction) (x : IsCallee s program (a_of w) given callee) where
    registers_are : map read x.registers ≡ own_now.registers
    registers_are = x.are read ctx.below r.may.top r.may.is

    many : length own_now.registers ≡ length x.registers
    many = ap length (sym registers_are) ∙ length-map x.registers read

    there : nat_lt (a_of w) (length own_now.registers) ≡ true
    there = lt_true (a_of w) (length own_now.registers) (let l = get_within x.registers (a_of w) (a_func callee.id) x.holds.holds in let m = many in omega (arith, l, m))

    all : nat_le (behind (a_of w + 1) given) (length own_now.registers) ≡ true
    all = le_true (behind (a_of w + 1) given) (length own_now.registers) (behind_within (a_of w + 1) given (length own_now.registers) (let l = x.holds.room in let m = many in omega (arith, l, m)))

    callee_is : nth own_now.registers (a_of w) ≡ object a_function callee.id.0
    callee_is = ap (λ rs. nth rs (a_of w)) (sym registers_are) ∙ nth_map read x.registers (a_of w) (a_func callee.id) x.holds.holds

    arguments_read : AreArguments s k.words pc w given → ReadsArguments ctx now w given
    arguments_read (by_count b) t env =
        ap (λ n. run (expand (read_values (a_of w + 1) n (λ v _. t v))) env (world ctx now)) b
        ∙ own_runs ctx ready_held.stands now (read_registers (a_of w + 1) given) (λ v _. t v) env all
    arguments_read (by_list b end l e) t env =
        ap (λ n. run (expand (read_values (a_of w + 1) n (λ v _. t v))) env (world ctx now)) b
        ∙ reads_list ctx ready_held.stands now t env (a_of w + 1) given end (list_ends end l) e

    abbrev entered : ℕ → (from : ℕ) → Prototype → Frame
    entered n from p = new_frame n p (range from given own_now.registers)

    -- its frame is over the one on top, which waits so and keeps the registers in front of one
    module _ (u : KeptStack) (size : ℕ) (size_is : size ≡ ctx.closure.code.own.stack) (keeps : ℕ) (wait : KeptWait) (p : Prototype) where
      abbrev waits_so : (n size : ℕ) → LuaFrame
      waits_so n size = record (with_wait (wait_of read wait) (given_up keeps size r.may.top)) { function = n }

      abbrev gives_so : LuaFrame
      gives_so = record (giving ctx keeps own_now) { wait = wait_of read wait }

      over_it : frames read u ≡ ctx.below ++ lua (with_wait (wait_of read wait) (given_up keeps size r.may.top)) ∷ entered callee.id.0 (suc (a_of w)) p ∷ []
          → frames read u ≡ ctx.below ++ lua gives_so ∷ [] ++ entered callee.id.0 (a_of w + 1) p ∷ []
      over_it e =
          let one_more : suc (a_of w) ≡ a_of w + 1 = omega arith in
          e
          ∙ ap (λ n. ctx.below ++ lua (waits_so r.may.top.function n) ∷ entered callee.id.0 (suc (a_of w)) p ∷ []) size_is
          ∙ ap (λ n. ctx.below ++ lua (waits_so n ctx.closure.code.own.stack) ∷ entered callee.id.0 (suc (a_of w)) p ∷ []) r.may.function
          ∙ ap (λ n. ctx.below ++ lua gives_so ∷ entered callee.id.0 n p ∷ []) one_more
          ∙ sym (append_assoc ctx.below (lua gives_so ∷ []) (entered callee.id.0 (a_of w + 1) p ∷ []))

  one_more_fits : length s.frames + 1 ≤ greatest_depth → nat_le (length ctx.below + 1 + 1) greatest_depth ≡ true
  one_more_fits room = ap (λ n. nat_le (n + 1) greatest_depth) (sym depth_is) ∙ le_true (length s.frames + 1) greatest_depth room

  module _ (u : KeptStack) (size : ℕ) (program : Program) (w : Instruction) (left : ℕ) (size_is : size ≡ ctx.closure.code.own.stack) (word : slice_get k.words pc ≡ Some w) (q : Function) where
    -- a CALL
    pub called_so : (x : CallsIn s u size program k.words pc w fuel left) → slice_get ctx.base.functions x.enters.callee.id.0 ≡ Some q → IsShapeOf q.code x.enters.callee.shape
        → Reaches g.around.rows (standing g s ts cs fuel) (standing g u ts cs left)
    called_so x fn shape_is =
        let e = x.enters in
        let n = e.callee.id.0 in
        steps_to u left (ctx.below ++ lua (giving ctx (a_of w) own_now) ∷ [] ++ new_frame n q.code (range (a_of w + 1) e.given own_now.registers) ∷ [])
        (over_it program w e.given e.callee e.is u size size_is (a_of w) ForCall q.code (e.calls.called read refl q.code shape_is ctx.below r.may.top r.may.is))
        (call_steps ctx ready_held.stands now w (word_is w word) x.is_call e.given n q left (arguments_read program w e.given e.callee e.is e.arguments)
        (there program w e.given e.callee e.is) (callee_is program w e.given e.callee e.is) fn x.paid (one_more_fits e.room) g.around.rows)

    -- the iterator of a loop
    pub iterated_so : (x : IteratesIn s u size program w fuel left) → slice_get ctx.base.functions x.enters.callee.id.0 ≡ Some q → IsShapeOf q.code x.enters.callee.shape
        → Reaches g.around.rows (standing g s ts cs fuel) (standing g u ts cs left)
    iterated_so x fn shape_is =
        let e = x.enters in
        let n = e.callee.id.0 in
        steps_to u left (ctx.below ++ lua (iterating ctx (a_of w + 4) own_now) ∷ [] ++ new_frame n q.code (range (a_of w + 1) 2 own_now.registers) ∷ [])
        (over_it program w 2 e.callee e.is u size size_is (a_of w + 4) ForIterator q.code (e.calls.called read refl q.code shape_is ctx.below r.may.top r.may.is))
        (iterate_steps ctx ready_held.stands now w (word_is w word) x.is_iteration n q left (there program w 2 e.callee e.is) (callee_is program w 2 e.callee e.is) (all program w 2 e.callee e.is) fn x.paid (one_more_fits e.room) g.around.rows)

    -- a function that takes the place of the frame
    pub tail_called_so : (x : TailCallsIn s u program k.words pc w fuel left) → slice_get ctx.base.functions x.enters.callee.id.0 ≡ Some q → IsShapeOf q.code x.enters.callee.shape
        → Reaches g.around.rows (standing g s ts cs fuel) (standing g u ts cs left)
    tail_called_so x fn shape_is =
        let e = x.enters in
        let n = e.callee.id.0 in
        let fits_depth : nat_le (length ctx.below + 1) greatest_depth ≡ true = ap (λ n. nat_le n greatest_depth) (sym depth_is) ∙ le_true (length s.frames) greatest_depth e.room in
        let none_closed = stays g.around cs 0 0 (closes_nothing g k s ts cs fuel r.may (Some 0) e.closed) (omega arith) own_now.registers in
        let one_more : suc (a_of w) ≡ a_of w + 1 = omega arith in
        steps_to u left (ctx.below ++ new_frame n q.code (range (a_of w + 1) e.given own_now.registers) ∷ [])
        (e.replaces.replaced read refl q.code shape_is ctx.below r.may.top r.may.is ∙ ap (λ m. ctx.below ++ new_frame n q.code (range m e.given own_now.registers) ∷ []) one_more)
        (tail_call_steps ctx ready_held.stands now w (word_is w word) x.is_tail_call e.given n q left (arguments_read program w e.given e.callee e.is e.arguments)
        (there program w e.given e.callee e.is) (callee_is program w e.given e.callee e.is) fn x.paid fits_depth none_closed g.around.rows)

-- what is told of a function

pub shape_known : (functions : List Function) (program : Program) (a : AreFunctions functions program) (id : FuncId) (shape : Shape) (x : HasShapeIn program id shape)
    → (q : Function) × (slice_get functions id.0 ≡ Some q) × IsShapeOf q.code shape
shape_known functions program a id shape x =
    let k = a.known id.0 x.there.func x.code x.there.func_there x.there.code_there in (
      k.function,
      k.is,
      record {
        params = sym (ap (λ (s : Shape). s.params) x.is ∙ k.params);
        is_vararg = sym (ap (λ (s : Shape). s.vararg) x.is ∙ k.vararg);
        size = sym (ap (λ (s : Shape). s.stack) x.is ∙ k.stack);
      },
    )
