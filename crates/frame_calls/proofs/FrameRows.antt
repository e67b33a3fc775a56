-- Calls of Lua functions and returns to a Lua frame that waits for them, with the frame that runs held apart: each is steps of the machine.
use Rattle.std.proofs.Common.{arith, ◌≡◌, ℕ, zero, suc, ◌+◌, List, [], ◌∷◌, ◌++◌, length, drop, Option, Some, None, refl, ap, sym, ◌∙◌, true, false}
use Rattle.std.specs.Prelude.{◌==◌, ◌-◌, cond, filter, nat_le, nat_lt, slice_get}
use Rattle.std.proofs.lemmas.Bool.Decides.{nat_tests}
use Rattle.code_core.specs.Check.{at, in_front}
use Rattle.code_core.specs.Prototype.{Prototype}
use Rattle.code_core.specs.Instruction.{a_of, b_of, c_of, opcode_of}
use Rattle.code_core.specs.declared.instruction.Instruction.{Instruction}
use Rattle.code_core.specs.declared.opcode.Opcode.{Opcode}
use Rattle.code_core.specs.declared.opcode.Opcode.TheVariants.{Call, MmBin, MmBinI, MmBinK, Return, TForCall, TailCall}
use Rattle.int_core.specs.Limits.{greatest_depth}
use Rattle.int_core.specs.Heap.{Heap}
use Rattle.int_core.specs.Operations.{callee, callee_of, greatest_chain}
use Rattle.int_core.specs.Value.{Value, Shape, a_function, bind, boolean, is_known, nil, nth, object, range, write_all}
use Rattle.machine_core.specs.World.{Function, Cell, Wait, running, dropped, for_call, for_iterator, for_value, returning, Activation, LuaFrame, Frame, lua, close_from, Place, World}
use Rattle.machine_core.specs.Text.{Arg, arg, Own, behind, blanked, call, tail_call, close, cut_from, drop_pending, fits, is_there, last_pending, leave, list_end, list_values, own, read, read_list, read_register, read_registers, reads, results, see_pending, tells, Text, trap, value_if, write_register, write_registers, written}
use Rattle.machine_core.specs.FrameRows.{after_call, at_once, expand, expand_by}
use Rattle.machine_core.specs.InstructionRows.{arrived, counted, is_true, next, read_values, rest, rest_at, rest_by, returned_so, returns, row_of, text_at, text_by, to_register, to_register_before, value_comes, write_values}
use Rattle.machine_core.specs.MachineStep.{and_then, from_world, step, steps}
use Rattle.machine_core.specs.Moves.{CallShape, Made, called_tail, enter_tail, enters, go, is_entered, made, new_frame, not_paid, on_own, popped, Row, ends, run}
use Rattle.machine_focus.specs.Focus.{Context, Held, Stands, held_own, local, place, stacked, top, with_pc, world}
use Rattle.machine_focus.proofs.Calls.{began, call_is, entered_is, inner, leave_is, pop_is}
use Rattle.machine_focus.proofs.Local.{drop_front, made_is}
use Rattle.machine_focus.proofs.Places.{own_move, place_is, step_is}
use Rattle.table_core.specs.declared.value.Value.{Value as Kept}
use Rattle.lua_stack.specs.declared.frame.Wait.{Wait as KeptWait}
use Rattle.lua_stack.specs.Frames.{wait_of}
use Rattle.frame_calls.specs.declared.returning.Taker.{Taker}
use Rattle.frame_calls.specs.Returning.{Wants, by_call, by_iterator, by_operator, by_store, by_value, is_operator}
use Rattle.frame_calls.proofs.Waking.{before_it, woken_step}

module _ (c : Context) (s : Stands c) (h : Held) where
  -- a move on the frame, and what follows it
  pub own_runs : (m : Own) (k : ℕ → Shape → Text) (env : List Value) → fits m c.closure.code h.own ≡ true
      → run (expand (own m k)) env (world c h) ≡ run (expand (k (length env) (tells m c.closure.code env h.own))) (env ++ reads m c.closure.code env h.own) (world c (held_own c m env h))
  own_runs m k env f =
      made_is (on_own m) (λ n s. expand_by at_once (k n s)) env (world c h) (world c (held_own c m env h)) (reads m c.closure.code env h.own) (tells m c.closure.code env h.own)
      (own_move c s h m env ∙ ap (λ b. cond b (made (world c (held_own c m env h)) (reads m c.closure.code env h.own) (tells m c.closure.code env h.own)) None) f)

  module _ (w : Instruction) (op : Opcode) (at_pc : at c.closure.code h.own.pc ≡ Some w) (is_opcode : opcode_of w ≡ Some op) where
    text_is : text_at c.closure.code h.own.pc ≡ row_of c.closure.code h.own.pc op w
    text_is =
        ap (λ (o : Option Instruction). elim o [ None ↦ trap | Some w ↦ text_by c.closure.code h.own.pc w (opcode_of w) ]) at_pc
        ∙ ap (text_by c.closure.code h.own.pc w) is_opcode

    pub row_is : (rows : ℕ → Row) → step rows go (world c h) ≡ from_world (world c h) (run (expand (row_of c.closure.code h.own.pc op w)) [] (world c h))
    row_is rows = step_is c s h rows ∙ ap (λ t. from_world (world c h) (run (expand t) [] (world c h))) text_is

  -- the values from a register on to the end of the list are read
  pub reads_list : (t : ℕ → Text) (env : List Value) (from given end : ℕ) → list_end c.closure.code h.own ≡ Some end → end ≡ from + given
      → run (expand (own (read_list from) (λ v _. t v))) env (world c h) ≡ run (expand (t (length env))) (env ++ range from given h.own.registers) (world c h)
  reads_list t env from given end e n =
      let ends_there : fits (read_list from) c.closure.code h.own ≡ true = ap is_there e in
      let many : end - from ≡ given = omega (arith, n) in
      own_runs (read_list from) (λ v _. t v) env ends_there
      ∙ ap (λ (o : Option ℕ). run (expand (t (length env))) (env ++ list_values from h.own.registers o) (world c h)) e
      ∙ ap (λ n. run (expand (t (length env))) (env ++ range from n h.own.registers) (world c h)) many

-- the values that a call gives are read, those of so many registers behind its own
abbrev pub ReadsArguments : Context → Held → Instruction → ℕ → Type 0
ReadsArguments c h w given = (t : ℕ → Text) (env : List Value)
    → run (expand (read_values (a_of w + 1) (b_of w) (λ v _. t v))) env (world c h) ≡ run (expand (t (length env))) (env ++ range (a_of w + 1) given h.own.registers) (world c h)

-- calls

-- what the frame that calls becomes
abbrev pub giving : Context → ℕ → Activation → LuaFrame
giving c register now = record {
  function = c.function;
  wait = for_call;
  own = record now { registers = blanked (λ i. nat_lt i register) 0 c.closure.code.own.stack now.registers; pending = filter (λ q. nat_lt q register) now.pending; opened = 0 };
}

abbrev called_with : ℕ → ℕ → List Own → Text
called_with f v ms = call (read f) v for_call ms

module _ (c : Context) (s : Stands c) (h : Held) (w : Instruction) (at_pc : at c.closure.code h.own.pc ≡ Some w) (is_call : opcode_of w ≡ Some Call) where
  pub call_steps : (given id : ℕ) (q : Function) (left : ℕ) → ReadsArguments c h w given → nat_lt (a_of w) (length h.own.registers) ≡ true → nth h.own.registers (a_of w) ≡ object a_function id
      → slice_get c.base.functions id ≡ Some q → h.fuel ≡ suc left → nat_le (length c.below + 1 + 1) greatest_depth ≡ true → (rows : ℕ → Row)
      → step rows go (world c h)
      ≡ ends go (world (inner c (giving c (a_of w) h.own) id q) (record { heap = h.heap; cells = h.cells; fuel = left; own = began q.code (range (a_of w + 1) given h.own.registers) }))
  call_steps given id q left reads there is fn pay room rows =
      let W = world c h in
      let a = a_of w in
      let ms = drop_pending a ∷ cut_from a ∷ [] in
      let x = nth h.own.registers a in
      row_is c s h w Call at_pc is_call rows
      ∙ ap (from_world W) (
      own_runs c s h (read_register a) (λ f _. read_values (a + 1) (b_of w) (λ v _. called_with f v ms)) [] there
      ∙ reads (λ v. called_with 0 v ms) (x ∷ [])
      ∙ call_is c s h (x ∷ range (a + 1) given h.own.registers) (read 0) 1 for_call ms id q left is fn pay room)

-- what a frame becomes that calls the iterator of its loop
abbrev pub iterating : Context → ℕ → Activation → LuaFrame
iterating c keeps now = record (giving c keeps now) { wait = for_iterator }

abbrev iterated_with : ℕ → ℕ → List Own → Text
iterated_with f v ms = call (read f) v for_iterator ms

module _ (c : Context) (s : Stands c) (h : Held) (w : Instruction) (at_pc : at c.closure.code h.own.pc ≡ Some w) (is_iteration : opcode_of w ≡ Some TForCall) where
  pub iterate_steps : (id : ℕ) (q : Function) (left : ℕ) → nat_lt (a_of w) (length h.own.registers) ≡ true → nth h.own.registers (a_of w) ≡ object a_function id
      → nat_le (behind (a_of w + 1) 2) (length h.own.registers) ≡ true → slice_get c.base.functions id ≡ Some q → h.fuel ≡ suc left → nat_le (length c.below + 1 + 1) greatest_depth ≡ true → (rows : ℕ → Row)
      → step rows go (world c h)
      ≡ ends go (world (inner c (iterating c (a_of w + 4) h.own) id q) (record { heap = h.heap; cells = h.cells; fuel = left; own = began q.code (range (a_of w + 1) 2 h.own.registers) }))
  iterate_steps id q left there is all fn pay room rows =
      let W = world c h in
      let a = a_of w in
      let ms = drop_pending (a + 4) ∷ cut_from (a + 4) ∷ [] in
      let x = nth h.own.registers a in
      row_is c s h w TForCall at_pc is_iteration rows
      ∙ ap (from_world W) (
      own_runs c s h (read_register a) (λ f _. own (read_registers (a + 1) 2) (λ v _. iterated_with f v ms)) [] there
      ∙ own_runs c s h (read_registers (a + 1) 2) (λ v _. iterated_with 0 v ms) (x ∷ []) all
      ∙ call_is c s h (x ∷ range (a + 1) 2 h.own.registers) (read 0) 1 for_iterator ms id q left is fn pay room)

-- tail calls

-- the context in the function that takes the frame's place
abbrev pub in_place : Context → ℕ → Function → Context
in_place c n q = record { base = c.base; coroutine = c.coroutine; below = c.below; function = n; closure = q }

function_is : (links : ℕ) (H : Heap) (n : ℕ) (vs : List Value) → callee_of links H (object a_function n) vs ≡ callee (object a_function n) vs
function_is zero H n vs = refl
function_is (suc links) H n vs = refl

-- the frame is gone
gone : (c : Context) (s : Stands c) (h : Held) → popped (world c h) (place c h) ≡ stacked c.base c.coroutine c.below h.heap (close_from c.coroutine (length c.below) 0 h.own.registers h.cells) h.fuel []
unfolding popped
gone c s h = pop_is c.base c.coroutine s.chain s.there h.heap (close_from c.coroutine (length c.below) 0 h.own.registers h.cells) h.fuel [] c.below (lua (top c h.own))

-- a tail call that is paid
paid_so : (W : World) (spot : Place) (v : Value) (vs : List Value) (left : ℕ) → W.fuel ≡ suc left → called_tail W spot (callee v vs) ≡ enters (record (popped W spot) { fuel = left }) v vs
paid_so W spot v vs left pay = ap (λ (m : ℕ). elim m as (λ _. Option (Made CallShape)) [ zero ↦ made W [] not_paid | suc fuel ↦ enters (record (popped W spot) { fuel = fuel }) v vs ]) pay

pub tail_is : (c : Context) (s : Stands c) (h : Held) (env : List Value) (f : Arg) (slot n : ℕ) (q : Function) (left : ℕ) → arg env f ≡ object a_function n → slice_get c.base.functions n ≡ Some q → h.fuel ≡ suc left
    → nat_le (length c.below + 1) greatest_depth ≡ true
    → run (expand (tail_call f slot)) env (world c h)
    ≡ ends go (world (in_place c n q) (record { heap = h.heap; cells = close_from c.coroutine (length c.below) 0 h.own.registers h.cells; fuel = left; own = began q.code (drop slot env) }))
tail_is c s h env f slot n q left e fn pay r =
    let W = world c h in
    let spot = place c h in
    let cs = close_from c.coroutine (length c.below) 0 h.own.registers h.cells in
    let vs = drop slot env in
    let V = stacked c.base c.coroutine (c.below ++ new_frame n q.code vs ∷ []) h.heap cs left [] in
    let found : called_tail W spot (callee_of greatest_chain W.heap (arg env f) vs) ≡ called_tail W spot (callee_of greatest_chain W.heap (object a_function n) vs) = ap (λ v. called_tail W spot (callee_of greatest_chain W.heap v vs)) e in
    let is_function : called_tail W spot (callee_of greatest_chain W.heap (object a_function n) vs) ≡ called_tail W spot (callee (object a_function n) vs) = ap (called_tail W spot) (function_is greatest_chain W.heap n vs) in
    let paid : called_tail W spot (callee (object a_function n) vs) ≡ enters (record (popped W spot) { fuel = left }) (object a_function n) vs = paid_so W spot (object a_function n) vs left pay in
    let left_so : enters (record (popped W spot) { fuel = left }) (object a_function n) vs ≡ enters (stacked c.base c.coroutine c.below h.heap cs left []) (object a_function n) vs =
    ap (λ (U : World). enters (record U { fuel = left }) (object a_function n) vs) (gone c s h) in
    let entered : enters (stacked c.base c.coroutine c.below h.heap cs left []) (object a_function n) vs ≡ made V [] is_entered = entered_is c.base c.coroutine s.chain s.there h.heap cs left [] c.below n q vs fn r in
    let all : called_tail W spot (callee_of greatest_chain W.heap (arg env f) vs) ≡ made V [] is_entered = found ∙ (is_function ∙ (paid ∙ (left_so ∙ entered))) in
    made_is (enter_tail f slot) (λ _ s. after_call s) env W V [] is_entered (ap (λ o. bind o (λ p. called_tail W p (callee_of greatest_chain W.heap (arg env f) vs))) (place_is c s h) ∙ all)

module _ (c : Context) (s : Stands c) (h : Held) (w : Instruction) (at_pc : at c.closure.code h.own.pc ≡ Some w) (is_tail_call : opcode_of w ≡ Some TailCall) where
  pub tail_call_steps : (given id : ℕ) (q : Function) (left : ℕ) → ReadsArguments c h w given → nat_lt (a_of w) (length h.own.registers) ≡ true → nth h.own.registers (a_of w) ≡ object a_function id
      → slice_get c.base.functions id ≡ Some q → h.fuel ≡ suc left → nat_le (length c.below + 1) greatest_depth ≡ true → close_from c.coroutine (length c.below) 0 h.own.registers h.cells ≡ h.cells → (rows : ℕ → Row)
      → step rows go (world c h) ≡ ends go (world (in_place c id q) (record { heap = h.heap; cells = h.cells; fuel = left; own = began q.code (range (a_of w + 1) given h.own.registers) }))
  tail_call_steps given id q left reads there is fn pay room closed rows =
      let W = world c h in
      let a = a_of w in
      let x = nth h.own.registers a in
      row_is c s h w TailCall at_pc is_tail_call rows
      ∙ ap (from_world W) (
      own_runs c s h (read_register a) (λ f _. read_values (a + 1) (b_of w) (λ v _. tail_call (read f) v)) [] there
      ∙ reads (λ v. tail_call (read 0) v) (x ∷ [])
      ∙ tail_is c s h (x ∷ range (a + 1) given h.own.registers) (read 0) 1 id q left is fn pay room
      ∙ ap (λ (cs : List Cell). ends go (world (in_place c id q) (record { heap = h.heap; cells = cs; fuel = left; own = began q.code (range (a + 1) given h.own.registers) }))) closed)

-- returns

-- what is left of the instruction of a frame that waits: the values go to its registers

one_more : (n m : ℕ) → m ≡ n → n + 1 ≡ suc m
one_more n m e = omega (arith, e)

room_for_one : (r n : ℕ) → nat_le (r + 1) n ≡ true → nat_lt r n ≡ true
room_for_one r n l = grind (arith, nat_tests)

-- where the value of a handler goes

value_to_own : (p : Prototype) (pc : ℕ) (op : Opcode) (w : Instruction) → is_operator op ≡ false → value_comes p pc op w ≡ to_register (a_of w) (read 0)
value_to_own p pc MmBin w e = absurd (cc)
value_to_own p pc MmBinI w e = absurd (cc)
value_to_own p pc MmBinK w e = absurd (cc)
value_to_own p pc _ w e = refl

value_to_before : (p : Prototype) (pc : ℕ) (op : Opcode) (w : Instruction) → is_operator op ≡ true → value_comes p pc op w ≡ to_register_before p pc
value_to_before p pc MmBin w e = refl
value_to_before p pc MmBinI w e = refl
value_to_before p pc MmBinK w e = refl
value_to_before p pc _ w e = absurd (cc)

module _ (d : Context) (t : Taker) (H : Held) where
  abbrev pub handed : List Value → Held
  handed vs = record H { own = record H.own { registers = write_all t.register (range 0 t.count vs) H.own.registers; pc = H.own.pc + 1 } }

  writes : (vs : List Value) (u : Instruction) → nat_le (behind t.register t.count) (length H.own.registers) ≡ true → at d.closure.code (H.own.pc + 1) ≡ Some u
      → local d (write_values t.register (suc t.count) 0) vs H ≡ Some (handed vs)
  writes vs u there behind_is =
      let written = record H { own = record H.own { registers = write_all t.register (range 0 t.count vs) H.own.registers } } in
      ap (λ b. cond b (local d next (vs ++ []) (held_own d (write_registers t.register t.count 0) vs H)) None) there
      ∙ ap (λ (o : Option Instruction). elim o as (λ _. Option Held) [ None ↦ None | Some _ ↦ Some (with_pc written (H.own.pc + 1)) ]) behind_is

  -- the values from a register on, and the frame after its instruction
  abbrev put_at : (register count : ℕ) → List Value → Option Held
  put_at register count vs = Some (record H { own = record H.own { registers = write_all register (range 0 count vs) H.own.registers; pc = H.own.pc + 1 } })

  writes_one : t.count ≡ 1 → (vs : List Value) (u : Instruction) → nat_le (behind t.register t.count) (length H.own.registers) ≡ true → at d.closure.code (H.own.pc + 1) ≡ Some u
      → local d (to_register t.register (read 0)) vs H ≡ Some (handed vs)
  writes_one one vs u there behind_is =
      let written = record H { own = record H.own { registers = write_all t.register (range 0 1 vs) H.own.registers } } in
      let room : nat_lt t.register (length H.own.registers) ≡ true = room_for_one t.register (length H.own.registers) (ap (λ n. nat_le (behind t.register n) (length H.own.registers)) (sym one) ∙ there) in
      ap (λ b. cond b (local d next (vs ++ []) (held_own d (write_register t.register (read 0)) vs H)) None) room
      ∙ ap (λ (o : Option Instruction). elim o as (λ _. Option Held) [ None ↦ None | Some _ ↦ Some (with_pc written (H.own.pc + 1)) ]) behind_is
      ∙ ap (λ n. put_at t.register n vs) (sym one)

  module _ (words : List Instruction) (words_are : (n : ℕ) (i : Instruction) → slice_get words n ≡ Some i → at d.closure.code n ≡ Some i) (v : Instruction) (at_pc : at d.closure.code H.own.pc ≡ Some v) where
    rest_there : (op : Opcode) (wait : Wait Value) → opcode_of v ≡ Some op → (vs : List Value) → local d (rest_at {V = Value} wait d.closure.code H.own.pc) vs H ≡ local d (rest {V = Value} wait d.closure.code H.own.pc op v) vs H
    rest_there op wait is vs =
        let p = d.closure.code in
        ap (λ (o : Option Instruction). local d (elim o [ None ↦ trap | Some w ↦ rest_by {V = Value} wait p H.own.pc w (opcode_of w) ]) vs H) at_pc
        ∙ ap (λ o. local d (rest_by {V = Value} wait p H.own.pc v o) vs H) is

    pub takes : {w : KeptWait} (pc : ℕ) (f : Kept → Value) → H.own.pc ≡ pc → Wants words pc v t w → (vs : List Value) (u : Instruction) → nat_le (behind t.register t.count) (length H.own.registers) ≡ true → at d.closure.code (H.own.pc + 1) ≡ Some u
        → local d (rest_at {V = Value} (wait_of f w) d.closure.code H.own.pc) vs H ≡ Some (handed vs)
    takes pc f here (by_call o r n) vs u there behind_is =
        rest_there Call for_call o vs
        ∙ ap (λ n. local d (write_values (a_of v) n 0) vs H) n
        ∙ ap (λ a. local d (write_values a (suc t.count) 0) vs H) (sym r)
        ∙ writes vs u there behind_is
    takes pc f here (by_iterator o r n) vs u there behind_is =
        rest_there TForCall for_iterator o vs
        ∙ ap (λ n. local d (write_values (a_of v + 4) n 0) vs H) (one_more (c_of v) t.count n)
        ∙ ap (λ a. local d (write_values a (suc t.count) 0) vs H) (sym r)
        ∙ writes vs u there behind_is
    takes pc f here (by_value op o plain r one) vs u there behind_is =
        rest_there op for_value o vs
        ∙ ap (λ (text : Text). local d text vs H) (value_to_own d.closure.code H.own.pc op v plain)
        ∙ ap (λ a. local d (to_register a (read 0)) vs H) (sym r)
        ∙ writes_one one vs u there behind_is
    takes pc f here (by_operator op o operator before front r one) vs u there behind_is =
        let before_is : in_front d.closure.code H.own.pc ≡ Some before = ap (in_front d.closure.code) (here ∙ front.next) ∙ words_are front.front before front.there in
        rest_there op for_value o vs
        ∙ ap (λ (text : Text). local d text vs H) (value_to_before d.closure.code H.own.pc op v operator)
        ∙ ap (λ (o : Option Instruction). local d (elim o as (λ _. Text) [ None ↦ trap | Some w ↦ to_register (a_of w) (read 0) ]) vs H) before_is
        ∙ ap (λ a. local d (to_register a (read 0)) vs H) (sym r)
        ∙ writes_one one vs u there behind_is
    takes pc f here (by_store op o nothing) vs u there behind_is =
        rest_there op dropped o vs
        ∙ ap (λ (o : Option Instruction). elim o as (λ _. Option Held) [ None ↦ None | Some _ ↦ Some (with_pc H (H.own.pc + 1)) ]) behind_is
        ∙ ap (λ n. put_at t.register n vs) (sym nothing)

-- it waits, and takes all that came

pub still_waits : {words : List Instruction} {pc : ℕ} {v : Instruction} {t : Taker} {w : KeptWait} (f : Kept → Value) → Wants words pc v t w → wait_of f w ≡ running → ⊥
still_waits f (by_call o r n) e = absurd (cc)
still_waits f (by_iterator o r n) e = absurd (cc)
still_waits f (by_value op o plain r one) e = absurd (cc)
still_waits f (by_operator op o operator before front r one) e = absurd (cc)
still_waits f (by_store op o nothing) e = absurd (cc)

pub takes_all : {words : List Instruction} {pc : ℕ} {v : Instruction} {t : Taker} {w : KeptWait} (f : Kept → Value) (vs : List Value) → Wants words pc v t w → arrived (wait_of f w) vs ≡ vs
takes_all f vs (by_call o r n) = refl
takes_all f vs (by_iterator o r n) = refl
takes_all f vs (by_value op o plain r one) = refl
takes_all f vs (by_operator op o operator before front r one) = refl
takes_all f vs (by_store op o nothing) = refl

-- the context in the frame below
abbrev pub outer : Context → List Frame → ℕ → Function → Context
outer c bs n q = record { base = c.base; coroutine = c.coroutine; below = bs; function = n; closure = q }

abbrev after_seen : (slot from count : ℕ) → Option ℕ → Text
after_seen slot from count o =
    cond (is_true (is_known (boolean (is_there o)))) (close (read slot) (written nil) (returning count) (returned_so from count)) (own (read_registers from count) (λ w _. leave (results w)))

module _ (c : Context) (s : Stands c) (h : Held) (from count : ℕ) (there : nat_le (behind from count) (length h.own.registers) ≡ true) where
  abbrev pub given : List Value
  given = range from count h.own.registers

  -- nothing is to be closed
  gives : last_pending 0 h.own.pending ≡ None → (env : List Value)
      → run (expand (returns from count)) env (world c h) ≡ run (expand (leave (results (length (env ++ []))))) (env ++ [] ++ given) (world c h)
  gives none env =
      own_runs c s h (see_pending 0) (λ v there. cond (is_true there) (close (read v) (written nil) (returning count) (returned_so from count)) (own (read_registers from count) (λ w _. leave (results w)))) env refl
      ∙ ap (λ o. run (expand (after_seen (length env) from count o)) (env ++ value_if h.own.registers o) (world c h)) none
      ∙ own_runs c s h (read_registers from count) (λ w _. leave (results w)) (env ++ []) there

  -- a RETURN of so many registers reads them first
  abbrev counts : (a n : ℕ) → Text
  counts a n = read_values a n (λ _ s. returns a (cond (n == 0) (counted s) (n - 1)))

  pub return_row : (w : Instruction) → from ≡ a_of w → b_of w ≡ suc count → cond (suc count == 0) 0 (suc count - 1) ≡ count
      → run (expand (row_of c.closure.code h.own.pc Return w)) [] (world c h) ≡ run (expand (returns (a_of w) count)) given (world c h)
  return_row w f b less =
      ap (λ n. run (expand (counts (a_of w) n)) [] (world c h)) b
      ∙ ap (λ a. run (expand (counts a (suc count))) [] (world c h)) (sym f)
      ∙ own_runs c s h (read_registers from count) (λ _ s. returns from (cond (suc count == 0) (counted s) (suc count - 1))) [] there
      ∙ ap (λ n. run (expand (returns from n)) given (world c h)) less
      ∙ ap (λ a. run (expand (returns a count)) given (world c h)) f

module _ (c : Context) (s : Stands c) (h : Held) (w : Instruction) (op : Opcode) (at_pc : at c.closure.code h.own.pc ≡ Some w) (is_opcode : opcode_of w ≡ Some op) (from count : ℕ) (env : List Value)
    (row : run (expand (row_of c.closure.code h.own.pc op w)) [] (world c h) ≡ run (expand (returns from count)) env (world c h))
    (none : last_pending 0 h.own.pending ≡ None) (there : nat_le (behind from count) (length h.own.registers) ≡ true)
    (closed : close_from c.coroutine (length c.below) 0 h.own.registers h.cells ≡ h.cells) where
  abbrev values : List Value
  values = range from count h.own.registers

  leaves : (rows : ℕ → Row) → step rows go (world c h) ≡ from_world (world c h) (run (expand (leave (results (length (env ++ []))))) (env ++ [] ++ values) (world c h))
  leaves rows = row_is c s h w op at_pc is_opcode rows ∙ ap (from_world (world c h)) (row ∙ gives c s h from count there none env)

  module _ (bs : List Frame) (n : ℕ) (q : Function) (a : Activation) (wait : Wait Value) (waits : wait ≡ running → ⊥) (below : c.below ≡ bs ++ lua (record { function = n; wait = wait; own = a }) ∷ []) (fn : slice_get c.base.functions n ≡ Some q) where
    abbrev pub waiting : Held
    waiting = record { heap = h.heap; cells = h.cells; fuel = h.fuel; own = a }

    pub return_steps : (k : Held) → arrived wait values ≡ values → local (outer c bs n q) (rest_at {V = Value} wait q.code a.pc) values waiting ≡ Some k → (rows : ℕ → Row) → steps rows 2 go (world c h) ≡ ends go (world (outer c bs n q) k)
    return_steps k all e rows =
        let d = outer c bs n q in
        let moved = env ++ [] ++ values in
        let slot = length (env ++ []) in
        let left = λ (cs : List Cell) (vs : List Value). before_it d (record { chain = s.chain; there = s.there; function = fn }) a h.heap cs h.fuel vs wait in
        ap (λ o. and_then o (steps rows 1)) (
        leaves rows
        ∙ ap (from_world (world c h)) (leave_is c s h moved slot bs (record { function = n; wait = wait; own = a }) below)
        ∙ ap (λ (cs : List Cell). ends go (left cs (drop slot moved))) closed
        ∙ ap (λ (vs : List Value). ends go (left h.cells vs)) (drop_front (env ++ []) values))
        ∙ ap (λ o. and_then o (steps rows 0)) (woken_step d (record { chain = s.chain; there = s.there; function = fn }) a h.heap h.cells h.fuel values wait waits all k rows e)
