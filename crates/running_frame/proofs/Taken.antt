-- A Lua frame that waits for a call and takes at most two values, or all as an open list: that it goes on with what moves is a step of the machine.
use Rattle.std.proofs.Common.{◌≡◌, inl, inr, ℕ, ◌+◌, ◌<◌, ◌≤◌, List, [], ◌∷◌, ◌++◌, length, map, Some, refl, ap, sym, ◌∙◌, arith, true}
use Rattle.std.specs.Prelude.{nat_le, nat_lt, slice_get}
use Rattle.std.proofs.lemmas.List.{length-map}
use Rattle.code_core.specs.Check.{at}
use Rattle.code_core.specs.Instruction.{a_of}
use Rattle.code_core.specs.declared.instruction.Instruction.{Instruction}
use Rattle.int_core.specs.Value.{Value, known, nil, range, write_all}
use Rattle.machine_core.specs.World.{Function, Wait, for_call, running, LuaFrame, Frame, lua, Place, World, put_frames}
use Rattle.machine_core.specs.Text.{behind}
use Rattle.machine_core.specs.Moves.{go, Row, ends}
use Rattle.machine_core.specs.MachineStep.{and_then, step, steps}
use Rattle.machine_focus.specs.Focus.{Context, Held, Reaches, Stands, stacked, world}
use Rattle.machine_sound.proofs.Lists.{get_there, last_splits, some_is}
use Rattle.machine_sound.proofs.Values.{le_true, lt_true}
use Rattle.table_core.specs.declared.value.CoroId.{CoroId}
use Rattle.table_core.specs.declared.value.FuncId.{FuncId}
use Rattle.table_core.specs.declared.value.Value.{Value as Kept}
use Rattle.lua_stack.specs.declared.frame.LuaState.{LuaState}
use Rattle.lua_stack.specs.declared.frame.Wait.{Wait as KeptWait}
use Rattle.lua_stack.specs.Frames.{HasLuaTop, KeptStack, OnTop, TopBecomes, frame_of, frames, lua_of, wait_of, with_opened}
use Rattle.lua_heap.specs.declared.codes.Code.{Code as HeapCode}
use Rattle.lua_heap.specs.declared.world.Func.{Func}
use Rattle.lua_heap.specs.declared.world.World.{World as Memory}
use Rattle.lua_heap.specs.Law.{CheckedCodeIsThere}
use Rattle.lua_heap.specs.Plain.{plain}
use Rattle.lua_heap.specs.Reading.{value}
use Rattle.move_laws.specs.Memory.{ChangesStack, HasFrame, Runs}
use Rattle.move_laws.proofs.Places.{place_is}
use Rattle.move_laws.proofs.Running.{Shown, changed_stack_is_put, shown}
use Rattle.step_laws.specs.Steps.{IsReady}
use Rattle.step_laws.proofs.Ready.{go_has_frame}
use Rattle.frame_calls.specs.Calling.{AreFunctions, KnownFunction, program_in}
use Rattle.frame_calls.specs.declared.returning.Given.{Given}
use Rattle.frame_calls.specs.declared.returning.Taker.{Taker}
use Rattle.frame_calls.specs.Opening.{IsListTaker}
use Rattle.frame_calls.specs.Returning.{AreFirst, HasKept, IsTaker, taken}
use Rattle.running_frame.specs.Taking.{IsWaiting, TakesOnTop, TakesSo}
use Rattle.running_frame.proofs.Apart.{are_functions}
use Rattle.frame_calls.proofs.Called.{behind_within}
use Rattle.frame_calls.proofs.FrameRows.{handed, still_waits, takes, takes_all}
use Rattle.frame_calls.proofs.Held.{context_at, stacked_moving, stands_at}
use Rattle.frame_calls.proofs.ListReturned.{call_waits, listed, opens_list, range_whole}
use Rattle.frame_calls.proofs.Listed.{kept_top}
use Rattle.frame_calls.proofs.Takers.{top_by, two_range}
use Rattle.frame_calls.proofs.Waking.{woken_step}

-- the frame that waits

pub waiting_is : (s : KeptStack) (id : FuncId) (wait : KeptWait) (pc size : ℕ) (registers : List Kept) → size ≡ length registers → OnTop s (λ f t. id.0 ≡ t.function) → OnTop s (λ f t. wait_of f wait ≡ t.wait)
    → OnTop s (λ f t. pc ≡ t.own.pc) → OnTop s (λ f t. map f registers ≡ t.own.registers) → IsWaiting s (record { function = id; wait = wait; pc = pc; size = size })
waiting_is s id wait pc size registers n fn ws ps rs = record {
  waits = λ f below t e. sym (ws f below t e);
  function = λ f below t e. sym (fn f below t e);
  pc = λ f below t e. sym (ps f below t e);
  size = λ f below t e. ap length (sym (rs f below t e)) ∙ length-map registers f ∙ sym n;
}

pub waiting_kept : {s : KeptStack} {c : LuaState} (n : ℕ) → HasLuaTop s → IsWaiting s c → n ≤ c.size → HasKept s n
waiting_kept {s} {c} n h w l =
    let k = kept_top h in
    let read : Kept → Value = λ v. known nil in
    let e = w.size read (map (frame_of read) k.below) (lua_of read k.top) (top_by k read) in
    let m = length-map k.top.registers read in
    record { below = k.below; top = k.top; is = k.is; room = omega (arith, e, m, l) }

module _ (n : ℕ) (W : Memory) (ready : IsReady n go W) (law : CheckedCodeIsThere) (co : CoroId) (s : KeptStack) (runs : Runs W co s) (caller : LuaState) (waits : IsWaiting s caller) (func : Func) (code : HeapCode)
    (func_there : slice_get W.funcs.objects caller.function.0 ≡ Some func) (code_there : slice_get W.codes.list.items func.code.0 ≡ Some code) where
  abbrev read : Kept → Value
  read = value W.strings

  abbrev frame : HasFrame W
  frame = go_has_frame n W ready

  abbrev spot : Place
  spot = frame.place

  abbrev ctx : Context
  ctx = context_at (plain W 0) spot

  stands : Stands ctx
  stands = stands_at (plain W 0) spot frame.is

  there : Shown W co s spot
  there = shown W co s spot runs frame.is

  -- it waits

  abbrev waiting_by : Wait Value → LuaFrame
  waiting_by w = record { function = spot.top.function; wait = w; own = spot.top.own }

  abbrev wait_is : Wait Value
  wait_is = wait_of read caller.wait

  waits_so : spot.top.wait ≡ wait_is
  waits_so = waits.waits read ctx.below spot.top there.frames_are

  number_is : spot.top.function ≡ caller.function.0
  number_is = waits.function read ctx.below spot.top there.frames_are

  pc_is : spot.top.own.pc ≡ caller.pc
  pc_is = waits.pc read ctx.below spot.top there.frames_are

  size_is : length spot.top.own.registers ≡ caller.size
  size_is = waits.size read ctx.below spot.top there.frames_are

  -- its CALL

  functions_are : AreFunctions (plain W 0).functions (program_in W)
  functions_are = are_functions n W ready.after ready.order law

  abbrev words : List Instruction
  words = code.words.items

  known_function : KnownFunction (plain W 0).functions caller.function.0 code
  known_function = functions_are.known caller.function.0 func code func_there code_there

  closure_is : known_function.function ≡ spot.function
  closure_is = some_is known_function.is (ap (slice_get (plain W 0).functions) (sym number_is) ∙ (place_is (plain W 0) spot frame.is).function)

  word_there : (pc : ℕ) (w : Instruction) → slice_get words pc ≡ Some w → at ctx.closure.code pc ≡ Some w
  word_there pc w e =
      ap (λ (q : Function). at q.code pc) (sym closure_is)
      ∙ ap (λ ws. slice_get ws pc) (sym known_function.words)
      ∙ e

  at_call : (w : Instruction) → slice_get words caller.pc ≡ Some w → at ctx.closure.code spot.top.own.pc ≡ Some w
  at_call w e = word_there spot.top.own.pc w (ap (slice_get words) pc_is ∙ e)

  to_is : (to : ℕ) → to ≡ caller.pc + 1 → to ≡ spot.top.own.pc + 1
  to_is to e = e ∙ ap (λ n. n + 1) (sym pc_is)

  abbrev behind_call : (to : ℕ) → to < length words → (i : Instruction) × (slice_get words to ≡ Some i)
  behind_call to l = get_there words to l

  at_next : (to : ℕ) (l : to < length words) → to ≡ caller.pc + 1 → at ctx.closure.code (spot.top.own.pc + 1) ≡ Some (behind_call to l).0
  at_next to l e = word_there (spot.top.own.pc + 1) (behind_call to l).0 (ap (slice_get words) (sym (to_is to e)) ∙ (behind_call to l).1)

  -- what moves

  abbrev vs : List Value
  vs = map read W.moving.items

  -- the step

  module _ (fuel : ℕ) where
    abbrev held : Held
    held = record { heap = (plain W 0).heap; cells = (plain W 0).cells; fuel = fuel; own = spot.top.own }

    abbrev stack_with : List Frame → List Value → World
    stack_with fs moving = stacked (plain W 0) spot.stack.coroutine fs (plain W 0).heap (plain W 0).cells fuel moving

    before : plain W fuel ≡ stack_with (ctx.below ++ lua (waiting_by wait_is) ∷ []) vs
    before =
        sym (stacked_moving (plain W 0) spot frame.is (ctx.below ++ lua (waiting_by wait_is) ∷ []) fuel
        (ap (λ w. ctx.below ++ lua (waiting_by w) ∷ []) (sym waits_so)
        ∙ sym (last_splits spot.stack.frames (lua spot.top) (place_is (plain W 0) spot frame.is).top)))

    module _ (U V : Memory) (u : KeptStack) (changes : ChangesStack W U co u) (rest : V ≡ record U { moving = V.moving }) (still : V.moving.items ≡ []) where
      -- the world in memory, where the frame on top is changed
      stands_after : (change : (Kept → Value) → LuaFrame → LuaFrame) → TopBecomes s u change → stack_with (ctx.below ++ lua (change read spot.top) ∷ []) [] ≡ plain V fuel
      unfolding put_frames
      stands_after change hands =
          ap (λ fs. stack_with fs []) (sym (hands.top read refl ctx.below spot.top there.frames_are))
          ∙ ap (λ co. stacked (plain W 0) co (frames read u) (plain W 0).heap (plain W 0).cells fuel []) there.coroutine
          ∙ ap (λ (X : World). record X { moving = [] }) (sym (changed_stack_is_put W U co u fuel changes))
          ∙ ap (λ (vs : List Kept). record (plain U fuel) { moving = map (value U.strings) vs }) (sym still)
          ∙ sym (ap (λ (M : Memory). plain M fuel) rest)

      module _ (g : Given) (first : AreFirst (λ f. map f W.moving.items) g) (taker : Taker) where
        abbrev two : List Value
        two = read g.first ∷ read g.second ∷ []

        two_are : range 0 2 vs ≡ two
        two_are = first read refl

        -- it takes those that it wants
        module _ (t : IsTaker words caller taker) (hands : TopBecomes s u (λ f x. taken taker (f g.first) (f g.second) x)) where
          room : nat_le (behind taker.register taker.count) (length spot.top.own.registers) ≡ true
          room =
              let l = t.room in
              let k = size_is in
              le_true (behind taker.register taker.count) (length spot.top.own.registers) (behind_within taker.register taker.count (length spot.top.own.registers) (omega (arith, l, k)))

          values_are : range 0 taker.count vs ≡ range 0 taker.count two
          values_are = two_range vs (read g.first) (read g.second) two_are taker.count t.few

          steps_on : (rows : ℕ → Row) → step rows go (stack_with (ctx.below ++ lua (waiting_by wait_is) ∷ []) vs) ≡ ends go (world ctx (handed ctx taker held vs))
          steps_on rows =
              woken_step ctx stands spot.top.own (plain W 0).heap (plain W 0).cells fuel vs wait_is (still_waits read t.wants) (takes_all read vs t.wants) (handed ctx taker held vs) rows
              (takes ctx taker held words word_there t.word (at_call t.word t.at_pc) caller.pc read pc_is t.wants vs (behind_call taker.to t.within).0 room (at_next taker.to t.within t.next))

          abbrev after_by : List Value → (to : ℕ) → World
          after_by given to =
              stack_with (ctx.below ++ lua (record { function = spot.top.function; wait = running; own = record spot.top.own { registers = write_all taker.register given spot.top.own.registers; pc = to } }) ∷ []) []

          after : world ctx (handed ctx taker held vs) ≡ plain V fuel
          unfolding put_frames
          after =
              ap (after_by (range 0 taker.count vs)) (sym (to_is taker.to t.next))
              ∙ ap (λ given. after_by given taker.to) values_are
              ∙ stands_after (λ f x. taken taker (f g.first) (f g.second) x) hands

          values_reach : (rows : ℕ → Row) → Reaches rows (plain W fuel) (plain V fuel)
          values_reach rows = (
            1,
            ap (steps rows 1 go) before
                ∙ ap (λ o. and_then o (steps rows 0)) (steps_on rows)
                ∙ ap (ends go) after,
          )

        -- or all of them, as an open list
        module _ (count : ℕ) (many : count ≡ length W.moving.items) (t : IsListTaker words caller count taker) (hands : TopBecomes s u (λ f x. with_opened count (taken taker (f g.first) (f g.second) x))) where
          many_are : count ≡ length vs
          many_are = many ∙ sym (length-map W.moving.items read)

          all_are : range 0 taker.count two ≡ vs
          all_are =
              sym (two_range vs (read g.first) (read g.second) two_are taker.count t.few)
              ∙ ap (λ n. range 0 n vs) (t.many ∙ many_are)
              ∙ range_whole vs

          has_register : nat_lt (a_of t.word) (length spot.top.own.registers) ≡ true
          has_register =
              let l = t.there in
              let m = t.register in
              let n = size_is in
              lt_true (a_of t.word) (length spot.top.own.registers) (omega (arith, l, m, n))

          waits_for_call : wait_is ≡ for_call
          waits_for_call = ap (wait_of read) t.waits

          lists_on : (rows : ℕ → Row) → step rows go (stack_with (ctx.below ++ lua (waiting_by for_call) ∷ []) vs) ≡ ends go (world ctx (listed ctx held t.word vs))
          lists_on rows =
              woken_step ctx stands spot.top.own (plain W 0).heap (plain W 0).cells fuel vs for_call call_waits refl (listed ctx held t.word vs) rows
              (opens_list ctx held t.word vs (behind_call taker.to t.within).0 (at_call t.word t.at_pc) t.is_call t.takes_all has_register (at_next taker.to t.within t.next))

          abbrev listed_by : (register : ℕ) → List Value → (to opened : ℕ) → World
          listed_by register given to opened =
              stack_with (ctx.below ++ lua (record { function = spot.top.function; wait = running; own = record spot.top.own { registers = write_all register given spot.top.own.registers; opened = opened; pc = to } }) ∷ []) []

          listed_after : world ctx (listed ctx held t.word vs) ≡ plain V fuel
          unfolding put_frames
          listed_after =
              ap (λ to. listed_by (a_of t.word) vs to (length vs)) (sym (to_is taker.to t.next))
              ∙ ap (λ register. listed_by register vs taker.to (length vs)) (sym t.register)
              ∙ ap (λ given. listed_by taker.register given taker.to (length vs)) (sym all_are)
              ∙ ap (listed_by taker.register (range 0 taker.count two) taker.to) (sym many_are)
              ∙ stands_after (λ f x. with_opened count (taken taker (f g.first) (f g.second) x)) hands

          list_reaches : (rows : ℕ → Row) → Reaches rows (plain W fuel) (plain V fuel)
          list_reaches rows = (
            1,
            ap (steps rows 1 go) (before ∙ ap (λ w. stack_with (ctx.below ++ lua (waiting_by w) ∷ []) vs) waits_for_call)
                ∙ ap (λ o. and_then o (steps rows 0)) (lists_on rows)
                ∙ ap (ends go) listed_after,
          )

module _ (n : ℕ) (W : Memory) (ready : IsReady n go W) (law : CheckedCodeIsThere) (U V : Memory) (g : Given) (count : ℕ) (first : AreFirst (λ f. map f W.moving.items) g) (many : count ≡ length W.moving.items)
    (x : TakesOnTop W U g count) (rest : V ≡ record U { moving = V.moving }) (still : V.moving.items ≡ []) where
  pub taken_reaches : (rows : ℕ → Row) (fuel : ℕ) → Reaches rows (plain W fuel) (plain V fuel)
  taken_reaches rows fuel = by x.takes
    where
      by : TakesSo x.stack x.after (program_in W) g count → Reaches rows (plain W fuel) (plain V fuel)
      by (inl t) =
          values_reach n W ready law x.co x.stack x.runs t.caller t.waits t.takes.func t.takes.code t.takes.func_there t.takes.code_there fuel U V x.after x.changes rest still g first t.taker t.takes.takes t.hands rows
      by (inr t) =
          list_reaches n W ready law x.co x.stack x.runs t.caller t.waits t.takes.func t.takes.code t.takes.func_there t.takes.code_there fuel U V x.after x.changes rest still g first t.taker count many t.takes.takes t.hands rows
