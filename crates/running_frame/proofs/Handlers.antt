-- A read whose handler is a Lua function is a step of the machine: the function is entered over the frame that reads.
use Rattle.std.proofs.Common.{◌≡◌, inl, inr, ℕ, suc, ◌+◌, List, [], ◌∷◌, ◌++◌, length, map, Option, Some, None, refl, ap, sym, subst, ◌∙◌, true}
use Rattle.std.specs.Prelude.{◌-◌, ◌⊎◌, IfNone, IfSome, nat_le, option_map, slice_get}
use Rattle.code_core.specs.Instruction.{a_of, b_of, c_of, opcode_of}
use Rattle.code_core.specs.declared.instruction.Instruction.{Instruction}
use Rattle.code_core.specs.declared.opcode.Opcode.{Opcode}
use Rattle.code_core.specs.declared.opcode.Opcode.TheVariants.{GetTable, GetField, MmBin}
use Rattle.code_core.specs.declared.proto.Const.{Const}
use Rattle.int_core.specs.Limits.{greatest_depth}
use Rattle.int_core.specs.Heap.{Heap}
use Rattle.int_core.specs.Operations.{Event, Operation, Settled, arithmetic, ask, index}
use Rattle.int_core.specs.Value.{Value, known, nil}
use Rattle.machine_core.specs.World.{Function, LuaFrame, Frame, for_value, lua, running, World}
use Rattle.machine_core.specs.FrameRows.{at_once, calls_row, expand, prepares, raises}
use Rattle.machine_core.specs.InstructionRows.{event_numbered, gets, handled, to_register, to_register_before}
use Rattle.machine_core.specs.MachineStep.{and_then, from_world, step, steps}
use Rattle.machine_core.specs.Moves.{SettledShape, is_found, is_asked, is_fault, only, settle, settled, Row, go, ends, new_frame, run}
use Rattle.machine_core.specs.Text.{Text, constant, operate, own, read, read_constant, read_register}
use Rattle.machine_focus.specs.Focus.{Held, Reaches, Stands, place, stacked, world}
use Rattle.machine_focus.proofs.Calls.{began, call_is, inner}
use Rattle.machine_focus.proofs.Local.{made_is}
use Rattle.machine_focus.proofs.Places.{settle_move}
use Rattle.machine_sound.proofs.Lists.{get_map, get_within, map_get, some_is}
use Rattle.machine_sound.proofs.Values.{le_true, lt_true}
use Rattle.table_core.specs.Table.{Contents}
use Rattle.table_core.specs.declared.value.Value.{Value as Kept}
use Rattle.table_core.specs.declared.value.Value.TheVariants.{Func as a_func}
use Rattle.table_core.specs.declared.value.FuncId.{FuncId}
use Rattle.lua_stack.specs.Frames.{HasLuaTop, IsShapeOf, KeptStack, TopBecomes, frames, with_wait}
use Rattle.lua_heap.specs.declared.world.Cell.{Cell as KeptCell}
use Rattle.lua_heap.specs.Plain.{cell, heap}
use Rattle.lua_heap.specs.Reading.{value}
use Rattle.meta_ops.specs.Outcome.{settled as comes_to}
use Rattle.meta_ops.specs.declared.outcome.Outcome.{Outcome}
use Rattle.meta_ops.specs.declared.outcome.Outcome.TheVariants.{Ask}
use Rattle.machine_arms_tables.specs.Frame.{Code}
use Rattle.machine_loop.specs.Running.{Running}
use Rattle.meta_ops.specs.Events.{event_of}
use Rattle.meta_ops.specs.declared.event.Event.{Event as Variant}
use Rattle.running_frame.specs.Asking.{AsksOver, EntersOver, IsAsked, Names, ReadSame, by_name, by_operands, by_register, handled_events, operation_at}
use Rattle.running_frame.specs.declared.asking.Asked.{Asked}
use Rattle.frame_calls.specs.Calling.{AreFunctions, Program}
use Rattle.frame_calls.specs.Standing.{RunsAt, standing}
use Rattle.running_frame.specs.Apart.{IsHereIn}
use Rattle.running_frame.specs.Storing.{StoresOpen}
use Rattle.running_frame.specs.declared.place.Here.{Here}
use Rattle.frame_calls.proofs.Called.{depth_is, held_on, ready_held, shape_known, standing_is, word_is}
use Rattle.frame_calls.proofs.Chained.{reaches_none}
use Rattle.frame_calls.proofs.FrameRows.{own_runs, row_is}
use Rattle.running_frame.proofs.Places.{none_is}
use Rattle.running_frame.proofs.Stored.{stored_so}

module _ (g : Running) (k : Code) (s : KeptStack) (ts : List Contents) (cs : List KeptCell) (fuel pc : ℕ) (r : RunsAt g k s ts cs fuel pc) where
  abbrev meant : Kept → Value
  meant = value g.around.texts

  abbrev now : Held
  now = held_on g k s ts cs fuel pc r fuel r.may.top.own

  abbrev all : World
  all = world g.around.context now

  stands_now : Stands g.around.context
  stands_now = (ready_held g k s ts cs fuel pc r).stands

  -- what an instruction reads

  reads_register : (t : ℕ → Text) (env : List Value) (b : ℕ) (v : Kept) → slice_get r.may.top.own.registers b ≡ Some (meant v)
      → run (expand (own (read_register b) (λ n _. t n))) env all ≡ run (expand (t (length env))) (env ++ meant v ∷ []) all
  reads_register t env b v e =
      own_runs g.around.context stands_now now (read_register b) (λ n _. t n) env (lt_true b (length r.may.top.own.registers) (get_within r.may.top.own.registers b (meant v) e))
      ∙ ap (λ (o : Option Value). run (expand (t (length env))) (env ++ elim o as (λ _. Value) [ None ↦ known nil | Some x ↦ x ] ∷ []) all) e

  reads_name : (t : ℕ → Text) (env : List Value) (n : ℕ) (v : Kept) → slice_get k.constants n ≡ Some v
      → run (expand (own (read_constant n) (λ n _. t n))) env all ≡ run (expand (t (length env))) (env ++ meant v ∷ []) all
  reads_name t env n v e = by (map_get (λ k. known (constant k)) cn n (meant v) (ap (λ xs. slice_get xs n) r.may.closure.code.code.constants_are ∙ get_map meant k.constants n v e))
    where
      cn : List Const
      cn = g.around.context.closure.code.own.constants

      by : (x : Const) × (slice_get g.around.context.closure.code.own.constants n ≡ Some x) × (known (constant x) ≡ value g.around.texts v)
          → run (expand (own (read_constant n) (λ n _. t n))) env all ≡ run (expand (t (length env))) (env ++ meant v ∷ []) all
      by x =
          own_runs g.around.context stands_now now (read_constant n) (λ n _. t n) env (lt_true n (length g.around.context.closure.code.own.constants) (get_within g.around.context.closure.code.own.constants n x.0 x.1))
          ∙ ap (λ (o : Option Const). run (expand (t (length env))) (env ++ elim o as (λ _. List Value) [ None ↦ [] | Some c ↦ known (constant c) ∷ [] ]) all) x.1
          ∙ ap (λ v. run (expand (t (length env))) (env ++ v ∷ []) all) x.2

  -- the operation itself, and what follows its value

  abbrev asks_for : Operation → Text → Text
  asks_for operation t = operate operation (read 0 ∷ read 1 ∷ []) for_value [] t

  abbrev to_before : Text
  to_before = to_register_before g.around.context.closure.code r.may.top.own.pc

  -- by an instruction: the row comes to the operation on the two values
  record Comes (w : Instruction) (operation : Operation) (object key : Kept) : Type 0 where
    follows : Text
    is : step g.around.rows go all ≡ from_world all (run (expand (asks_for operation follows)) (meant object ∷ meant key ∷ []) all)

  comes_to_read : (registers : List Kept) (w : Instruction) (object key : Kept) → map meant registers ≡ r.may.top.own.registers → slice_get k.words pc ≡ Some w → {op : Option Opcode} → opcode_of w ≡ op → Names registers k.constants w object key op
      → (operation : Operation) → operation_at op (c_of w) ≡ Some operation → Comes w operation object key
  comes_to_read registers w object key are word o (by_register eo ek) operation e =
      let there : (n : ℕ) (v : Kept) → slice_get registers n ≡ Some v → slice_get r.may.top.own.registers n ≡ Some (meant v) = (λ n v e. ap (λ l. slice_get l n) (sym are) ∙ get_map meant registers n v e) in
      record {
        follows = to_register (a_of w) (read 0);
        is =
            row_is g.around.context stands_now now w GetTable (word_is g k s ts cs fuel pc r w word) o g.around.rows
            ∙ ap (from_world all) (
            reads_register (λ o. own (read_register (c_of w)) (λ key _. gets (read o) (read key) [] (a_of w))) [] (b_of w) object (there (b_of w) object eo)
            ∙ reads_register (λ key. gets (read 0) (read key) [] (a_of w)) (meant object ∷ []) (c_of w) key (there (c_of w) key ek)
            ∙ ap (λ p. run (expand (asks_for p (to_register (a_of w) (read 0)))) (meant object ∷ meant key ∷ []) all) (some_is {o = Some index} refl e));
      }
  comes_to_read registers w object key are word o (by_name eo ek) operation e = record {
    follows = to_register (a_of w) (read 0);
    is =
        row_is g.around.context stands_now now w GetField (word_is g k s ts cs fuel pc r w word) o g.around.rows
        ∙ ap (from_world all) (
        reads_register (λ o. own (read_constant (c_of w)) (λ key _. gets (read o) (read key) [] (a_of w))) [] (b_of w) object (ap (λ l. slice_get l (b_of w)) (sym are) ∙ get_map meant registers (b_of w) object eo)
        ∙ reads_name (λ key. gets (read 0) (read key) [] (a_of w)) (meant object ∷ []) (c_of w) key ek
        ∙ ap (λ p. run (expand (asks_for p (to_register (a_of w) (read 0)))) (meant object ∷ meant key ∷ []) all) (some_is {o = Some index} refl e));
  }
  comes_to_read registers w object key are word o (by_operands eo ek) operation e = by (event_numbered (c_of w)) refl e
    where
      there : (n : ℕ) (v : Kept) → slice_get registers n ≡ Some v → slice_get r.may.top.own.registers n ≡ Some (meant v)
      there n v e = ap (λ l. slice_get l n) (sym are) ∙ get_map meant registers n v e

      by : (o' : Option Event) → event_numbered (c_of w) ≡ o' → option_map arithmetic o' ≡ Some operation → Comes w operation object key
      by None n e = absurd (cc)
      by (Some event) n e = record {
        follows = to_before;
        is =
            row_is g.around.context stands_now now w MmBin (word_is g k s ts cs fuel pc r w word) o g.around.rows
            ∙ ap (from_world all) (
            reads_register (λ x. own (read_register (b_of w)) (λ y _. handled g.around.context.closure.code r.may.top.own.pc w (event_numbered (c_of w)) (read x ∷ read y ∷ []))) [] (a_of w) object (there (a_of w) object eo)
            ∙ reads_register (λ y. handled g.around.context.closure.code r.may.top.own.pc w (event_numbered (c_of w)) (read 0 ∷ read y ∷ [])) (meant object ∷ []) (b_of w) key (there (b_of w) key ek)
            ∙ ap (λ (o' : Option Event). run (expand (handled g.around.context.closure.code r.may.top.own.pc w o' (read 0 ∷ read 1 ∷ []))) (meant object ∷ meant key ∷ []) all) n
            ∙ ap (λ p. run (expand (asks_for p to_before)) (meant object ∷ meant key ∷ []) all) (some_is {o = Some (arithmetic event)} refl e));
      }

  module _ (u : KeptStack) (program : Program) (w : Instruction) (left : ℕ) (x : AsksOver s u g.around.texts k.constants ts g.string_metatable program w fuel left) (q : Function)
      (fn : slice_get g.around.context.base.functions x.call.id.0 ≡ Some q) (shape_is : IsShapeOf q.code x.call.shape) where
    abbrev arguments : List Value
    arguments = meant x.call.first ∷ meant x.call.key ∷ []

    abbrev waiting_by : ℕ → LuaFrame
    waiting_by n = record { function = n; wait = for_value; own = r.may.top.own }

    abbrev called : World
    called = world (inner g.around.context (waiting_by g.around.context.function) x.call.id.0 q) (record { heap = now.heap; cells = now.cells; fuel = left; own = began q.code arguments })

    room : nat_le (length g.around.context.below + 1 + 1) greatest_depth ≡ true
    room = ap (λ n. nat_le (n + 1) greatest_depth) (sym (depth_is g k s ts cs fuel pc r)) ∙ le_true (length s.frames + 1) greatest_depth x.is.room

    asks_runs : (follows : Text) → run (expand (asks_for x.is.operation follows)) (meant x.is.object ∷ meant x.call.key ∷ []) all ≡ ends go called
    asks_runs follows =
        let env = meant x.is.object ∷ meant x.call.key ∷ [] in
        made_is (settle x.is.operation (read 0 ∷ read 1 ∷ [])) next_row env all all (meant (a_func x.call.id) ∷ arguments) is_asked
        (settle_move g.around.context stands_now now x.is.operation (read 0 ∷ read 1 ∷ []) env ∙ ap (λ r. settled all (place g.around.context now) r) x.is.asks)
        ∙ call_is g.around.context stands_now now (env ++ meant (a_func x.call.id) ∷ arguments) (read 2) 3 for_value [] x.call.id.0 q left refl fn x.paid room
      where
        next_row : ℕ → SettledShape → Row
        next_row n r = elim r [
          | is_found ↦ prepares [] (only n (expand follows))
          | is_asked ↦ calls_row at_once (read n) (suc n) for_value []
          | is_fault text ↦ prepares [] (raises text)
        ]

    frames_are : frames meant u ≡ g.around.context.below ++ lua (waiting_by g.around.context.function) ∷ [] ++ new_frame x.call.id.0 q.code arguments ∷ []
    frames_are =
        x.enters.enters.entered meant refl q.code shape_is
        ∙ ap (λ (fs : List Frame). fs ++ new_frame x.call.id.0 q.code arguments ∷ []) (x.enters.waits.top meant refl g.around.context.below r.may.top r.may.is)
        ∙ ap (λ n. g.around.context.below ++ lua (waiting_by n) ∷ [] ++ new_frame x.call.id.0 q.code arguments ∷ []) r.may.function

    pub asked_so : slice_get k.words pc ≡ Some w → Reaches g.around.rows (standing g s ts cs fuel) (standing g u ts cs left)
    asked_so word =
        let are = x.is.are meant g.around.context.below r.may.top r.may.is in
        let row = comes_to_read x.is.registers w x.is.object x.call.key are word refl x.is.names x.is.operation x.is.is_operation in (
          1,
          ap (steps g.around.rows 1 go) (standing_is g k s ts cs fuel pc r)
              ∙ ap (λ o. and_then o (steps g.around.rows 0)) (row.is ∙ ap (from_world all) (asks_runs row.follows))
              ∙ ap (ends go) (sym (ap (λ fs. stacked g.around.context.base g.around.context.coroutine fs (heap g.around.texts ts g.string_metatable) (map (cell g.around.texts) cs) left []) frames_are)),
        )

-- a call that is paid and entered
pub asks_by : {A : Type 0} {s : KeptStack} {texts : List (List ℕ)} {constants : List Kept} {ts : List Contents} {meta : Option ℕ} {program : Program} {w : Instruction} {call : Asked}
    → IsAsked s texts constants ts meta program w call → (u : KeptStack) (fuel left : ℕ) (o : Option A) → IfSome o (λ _. fuel ≡ suc left) → IfSome o (λ _. EntersOver s u call)
    → IfSome o (λ _. AsksOver s u texts constants ts meta program w fuel left)
asks_by is u fuel left None paid enters = tt
asks_by {call = call} is u fuel left (Some x) paid enters = record { call = call; is = is; paid = paid; enters = enters }

-- what two clauses of an answer say together
pub both_some : {A : Type 0} {P Q R : A → Type 0} (o : Option A) → ((x : A) → P x → Q x → R x) → IfSome o P → IfSome o Q → IfSome o R
both_some None f p q = tt
both_some (Some x) f p q = f x p q

-- the operator that a number tells
pub operator_named : (n : ℕ) (e : Variant) → Some e ≡ slice_get handled_events (n - 6) → option_map arithmetic (event_numbered n) ≡ Some (arithmetic (event_of e))
operator_named n e h = ap (option_map arithmetic) (get_map event_of handled_events (n - 6) e (sym h))

-- what is asked for, where the handler is a function

pub asked_of : (S : Settled) (texts : List (List ℕ)) (H : Heap) (more : List Value) (o : Outcome) (handler first : Kept) → S ≡ comes_to texts H more o → o ≡ Ask handler first
    → (id : FuncId) (object : Kept) → handler ≡ a_func id → object ≡ first → S ≡ ask (value texts (a_func id)) (value texts object ∷ more)
asked_of S texts H more o handler first is a id object h f =
    is
    ∙ ap (comes_to texts H more) a
    ∙ ap (λ v. ask (value texts v) (value texts first ∷ more)) h
    ∙ ap (λ v. ask (value texts (a_func id)) (value texts v ∷ more)) (sym f)

-- what is read as before

pub same_stack : (s : KeptStack) → ReadSame s s
same_stack s = record { frames_are = λ f z below t w e. e }

-- the frame waited and runs again
pub runs_again : {s t u : KeptStack} → TopBecomes s t (λ f x. with_wait for_value x) → TopBecomes t u (λ f x. with_wait running x) → ReadSame s u
runs_again {s} {t} {u} a b = record {
  frames_are = λ f z below x w e.
      b.top f z below (with_wait for_value x) (a.top f z below x e)
      ∙ ap (λ wait. below ++ lua (with_wait wait x) ∷ []) (sym w);
}

pub same_top : {s u : KeptStack} → HasLuaTop s → u ≡ s → HasLuaTop u
same_top {s} {u} h e = subst HasLuaTop (sym e) h

-- the frame on top is where it was
pub here_still : (g : Running) (k : Code) (s t u : KeptStack) (here : Here) → IsHereIn g k s here → here.runs ≡ true → t ≡ s → ReadSame t u → IsHereIn g k u here
here_still g k s t u here h runs same x =
    let frames_are = subst (λ (s : KeptStack). ReadSame s u) same x in
    record {
      top = h.top;
      is = frames_are.frames_are (value g.around.texts) refl g.around.context.below h.top (none_is h.top.wait (sym h.runs ∙ runs)) h.is;
      function = h.function;
      at_pc = h.at_pc;
      word = h.word;
      runs = h.runs;
    }

-- one of these, or nothing

pub reached_or_not : (g : Running) (k : Code) (s : KeptStack) (ts : List Contents) (cs : List KeptCell) (fuel pc : ℕ) → RunsAt g k s ts cs fuel pc → (t u : KeptStack) (meta : Option ℕ) (program : Program) (paid left co : ℕ) (w : Instruction)
    → AreFunctions g.around.context.base.functions program → t ≡ s → paid ≡ fuel → meta ≡ g.string_metatable → co ≡ g.around.context.coroutine → slice_get k.words pc ≡ Some w
    → (o : Option (Unit {0})) → IfSome o (λ _. (StoresOpen co k.upvalues k.words t u cs pc w × (left ≡ paid)) ⊎ AsksOver t u k.texts k.constants ts meta program w paid left) → IfNone o (ReadSame t u × (left ≡ paid))
    → Reaches g.around.rows (standing g s ts cs fuel) (standing g u ts cs left)
reached_or_not g k s ts cs fuel pc r t u meta program paid left co w a same budget metatable co_is word (Some o) x y =
    by (subst (λ (s : KeptStack). (StoresOpen co k.upvalues k.words s u cs pc w × (left ≡ paid)) ⊎ AsksOver s u k.texts k.constants ts meta program w paid left) same x)
  where
    by : (StoresOpen co k.upvalues k.words s u cs pc w × (left ≡ paid)) ⊎ AsksOver s u k.texts k.constants ts meta program w paid left → Reaches g.around.rows (standing g s ts cs fuel) (standing g u ts cs left)
    by (inl z) =
        subst (λ (n : ℕ). Reaches g.around.rows (standing g s ts cs fuel) (standing g u ts cs n)) (sym (z.1 ∙ budget))
        (stored_so g k s ts cs fuel pc r u w (subst (λ n. StoresOpen n k.upvalues k.words s u cs pc w) co_is z.0) word)
    by (inr z) =
        let here : AsksOver s u g.around.texts k.constants ts g.string_metatable program w fuel left =
        subst (λ n. AsksOver s u g.around.texts k.constants ts g.string_metatable program w n left) budget
        (subst (λ m. AsksOver s u g.around.texts k.constants ts m program w paid left) metatable
        (subst (λ l. AsksOver s u l k.constants ts meta program w paid left) (sym r.may.closure.texts_are) z)) in
        let q = shape_known g.around.context.base.functions program a here.call.id here.call.shape here.is.has in
        asked_so g k s ts cs fuel pc r u program w left here q.0 q.1 q.2 word
reached_or_not g k s ts cs fuel pc r t u meta program paid left co w a same budget metatable co_is word None x y =
    let z = subst (λ (s : KeptStack). ReadSame s u) same y.0 in
    let alike : frames (value g.around.texts) u ≡ frames (value g.around.texts) s = z.frames_are (value g.around.texts) refl g.around.context.below r.may.top r.runs r.may.is ∙ sym r.may.is in
    subst (λ (n : ℕ). Reaches g.around.rows (standing g s ts cs fuel) (standing g u ts cs n)) (sym (y.1 ∙ budget))
    (subst (λ (fs : List Frame). Reaches g.around.rows (standing g s ts cs fuel) (stacked g.around.context.base g.around.context.coroutine fs (heap g.around.texts ts g.string_metatable) (map (cell g.around.texts) cs) fuel [])) (sym alike)
    (reaches_none g.around.rows (standing g s ts cs fuel)))
