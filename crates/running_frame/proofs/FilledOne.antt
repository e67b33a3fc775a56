-- A SETLIST of one value, on a stack and the tables, is a step of the machine.
use Rattle.std.proofs.Common.{◌≡◌, inl, inr, ℕ, suc, ◌+◌, List, [], ◌∷◌, ◌++◌, length, map, take, Option, Some, None, refl, ap, sym, subst, ◌∙◌, arith, true}
use Rattle.std.specs.Prelude.{◌*◌, ◌⊎◌, IfNone, IfSome, cond, pos, slice_get, slice_set}
use Rattle.std.proofs.lemmas.List.{map-set}
use Rattle.code_core.specs.Check.{at}
use Rattle.code_core.specs.Instruction.{a_of, c_of}
use Rattle.code_core.specs.declared.instruction.Instruction.{Instruction}
use Rattle.code_core.specs.declared.opcode.Opcode.{Opcode}
use Rattle.code_core.specs.declared.opcode.Opcode.TheVariants.{SetList}
use Rattle.int_core.specs.Heap.{Heap, Table as PlainTable, filled, filled_table}
use Rattle.int_core.specs.Rows.{set}
use Rattle.int_core.specs.Value.{Value, a_table, bind, nth, object, shape}
use Rattle.machine_core.specs.World.{running, Activation, LuaFrame, lua}
use Rattle.machine_core.specs.FrameRows.{at_once, expand}
use Rattle.machine_core.specs.InstructionRows.{ends_list, fills, fills_by, fills_from, with_extra}
use Rattle.machine_core.specs.MachineStep.{and_then, from_world, step, steps}
use Rattle.machine_core.specs.Moves.{made, outside, go, ends, run}
use Rattle.machine_core.specs.Text.{Text, end_list, fill_table, quick, read, read_register}
use Rattle.machine_focus.specs.Focus.{Held, Reaches, held_own, stacked, with_pc as held_with_pc, world}
use Rattle.machine_focus.proofs.Local.{local_is, made_is}
use Rattle.machine_focus.proofs.Places.{quick_move}
use Rattle.machine_sound.proofs.Lists.{get_map, get_there, get_within}
use Rattle.machine_sound.proofs.Values.{lt_true}
use Rattle.machine_view.proofs.Rows.{nth_map}
use Rattle.move_laws.proofs.Running.{set_same}
use Rattle.table_core.specs.Table.{Contents}
use Rattle.table_core.specs.Value.{lua_values}
use Rattle.table_core.specs.declared.value.TableId.{TableId}
use Rattle.table_core.specs.declared.value.Value.{Value as Kept}
use Rattle.table_core.specs.declared.value.Value.TheVariants.{Int, Table}
use Rattle.lua_stack.specs.Frames.{KeptStack, frames, with_opened, with_pc, with_registers}
use Rattle.lua_heap.specs.declared.world.Cell.{Cell as KeptCell}
use Rattle.lua_heap.specs.Law.{TablesAreRead}
use Rattle.lua_heap.specs.Plain.{cell, heap, table}
use Rattle.lua_heap.specs.Reading.{row, value}
use Rattle.machine_arms_tables.specs.Fields.{with_field}
use Rattle.machine_arms_tables.specs.Frame.{Code}
use Rattle.machine_loop.specs.Running.{Running}
use Rattle.running_frame.specs.Asking.{AsksOver, ReadSame}
use Rattle.frame_calls.specs.Calling.{AreFunctions, Program}
use Rattle.running_frame.specs.Filling.{FillsOne, FillsTable, is_set_list}
use Rattle.running_frame.specs.Storing.{StoresOpen}
use Rattle.frame_calls.specs.Standing.{RunsAt, standing}
use Rattle.frame_calls.proofs.Called.{held_on, ready_held, standing_is, word_is}
use Rattle.frame_calls.proofs.FrameRows.{own_runs, row_is}
use Rattle.running_frame.proofs.Handlers.{reached_or_not}
use Rattle.frame_calls.proofs.Held.{frame_is}

pub set_list_is : (o : Option Opcode) → is_set_list o ≡ true → o ≡ Some SetList
set_list_is (Some SetList) h = refl
set_list_is _ h = absurd (cc)

-- the table that is filled

abbrev table_with : List (Value × Value) → Option ℕ → PlainTable
table_with rows metatable = record { rows = rows; metatable = metatable }

abbrev with_table : Heap → ℕ → PlainTable → Heap
with_table H n t = record H { tables = slice_set H.tables n t }

abbrev heap_with : List PlainTable → Option ℕ → Heap
heap_with tables string_metatable = record { tables = tables; string_metatable = string_metatable }

pub fills_so : {U : Type 0} → TablesAreRead → (ts : List Contents) (id : TableId) (last : ℕ) (t u : Contents) (key item : Kept) (o : Option U) → slice_get ts id.0 ≡ Some t → key ≡ Int (pos (last + 1))
    → IfSome o (λ _. u ≡ with_field t key item) → IfSome o (λ _. FillsTable ts (slice_set ts id.0 u) id last item)
fills_so law ts id last t u key item None there named put = tt
fills_so law ts id last t u key item (Some x) there named put = record {
  fills = λ texts meta apart short.
      let one : last + 1 ≡ suc last = omega arith in
      let key_is : Int (pos (suc last)) ≡ key = ap (λ n. Int (pos n)) (sym one) ∙ sym named in
      let vs = value texts item ∷ [] in
      let now : table_with (filled last vs (map (row texts) t.rows)) (table texts t).metatable ≡ table texts u =
      ap (λ rows. table_with rows (table texts t).metatable)
      ((law texts apart short t.rows).written (Int (pos (suc last))) item ∙ ap (λ k. map (row texts) (set lua_values t.rows k item)) key_is)
      ∙ ap (table texts) (sym put) in
      ap (λ o. bind o (λ (t : PlainTable). Some (with_table (heap texts ts meta) id.0 (table_with (filled last vs t.rows) t.metatable)))) (get_map (table texts) ts id.0 t there)
      ∙ ap (λ t. Some (with_table (heap texts ts meta) id.0 t)) now
      ∙ ap (λ tables. Some (heap_with tables meta)) (sym (map-set (table texts) ts id.0 u));
}

pub kept_so : {U : Type 0} (ts : List Contents) (n : ℕ) (t u : Contents) (o : Option U) → slice_get ts n ≡ Some t → IfNone o (u ≡ t) → IfNone o (slice_set ts n u ≡ ts)
kept_so ts n t u (Some x) there same = tt
kept_so ts n t u None there same = ap (slice_set ts n) same ∙ set_same ts n t there

module _ (g : Running) (k : Code) (s : KeptStack) (ts : List Contents) (cs : List KeptCell) (fuel pc : ℕ) (r : RunsAt g k s ts cs fuel pc) (u : KeptStack) (ts' : List Contents) (size : ℕ) (w : Instruction)
    (x : FillsOne s u ts ts' size k.words pc w) (size_is : size ≡ g.around.context.closure.code.own.stack) where
  abbrev meant : Kept → Value
  meant = value g.around.texts

  abbrev now : Held
  now = held_on g k s ts cs fuel pc r fuel r.may.top.own

  -- what stands in the registers

  registers_are : map meant x.registers ≡ r.may.top.own.registers
  registers_are = x.are meant g.around.context.below r.may.top r.may.is

  table_there : slice_get r.may.top.own.registers (a_of w) ≡ Some (object a_table x.id.0)
  table_there = ap (λ l. slice_get l (a_of w)) (sym registers_are) ∙ get_map meant x.registers (a_of w) (Table x.id) x.table

  item_there : slice_get r.may.top.own.registers (a_of w + 1) ≡ Some (meant x.item)
  item_there = ap (λ l. slice_get l (a_of w + 1)) (sym registers_are) ∙ get_map meant x.registers (a_of w + 1) x.item x.given

  table_is : nth r.may.top.own.registers (a_of w) ≡ object a_table x.id.0
  table_is = ap (λ rs. nth rs (a_of w)) (sym registers_are) ∙ nth_map meant x.registers (a_of w) (Table x.id) x.table

  item_is : nth r.may.top.own.registers (a_of w + 1) ≡ meant x.item
  item_is = ap (λ rs. nth rs (a_of w + 1)) (sym registers_are) ∙ nth_map meant x.registers (a_of w + 1) x.item x.given

  -- the heap after it

  abbrev heap_after : Heap
  heap_after = heap g.around.texts ts' g.string_metatable

  abbrev filled_held : Held
  filled_held = record now { heap = heap_after }

  fills_heap : filled_table now.heap (object a_table x.id.0) (c_of w) (meant x.item ∷ []) ≡ Some heap_after
  fills_heap = x.fills.fills g.around.texts g.string_metatable r.may.closure.code.apart r.may.closure.code.short

  -- the frame goes on after

  abbrev after : Activation
  after = record r.may.top.own { registers = take g.around.context.closure.code.own.stack r.may.top.own.registers; opened = 0; pc = r.may.top.own.pc + 1 }

  abbrev done_held : Held
  done_held = record filled_held { own = after }

  at_next : (i : Instruction) × (at g.around.context.closure.code (r.may.top.own.pc + 1) ≡ Some i)
  at_next =
      let t = get_there k.words (pc + 1) x.within in
      (t.0, ap (λ n. at g.around.context.closure.code (n + 1)) r.at_pc ∙ ap (λ ws. slice_get ws (pc + 1)) r.may.closure.code.code.words_are ∙ t.1)

  abbrev env : List Value
  env = object a_table x.id.0 ∷ meant x.item ∷ []

  goes_on : run (expand (ends_list (pos 1))) env (world g.around.context filled_held) ≡ ends go (world g.around.context done_held)
  goes_on =
      local_is g.around.context (ready_held g k s ts cs fuel pc r).stands at_once (ends_list (pos 1)) env filled_held done_held
      (ap (λ (o : Option Instruction). elim o as (λ _. Option Held) [ None ↦ None | Some _ ↦ Some (held_with_pc (held_own g.around.context end_list env filled_held) (r.may.top.own.pc + 1)) ]) at_next.1)

  abbrev puts_one : ℕ → Text
  puts_one v = quick (fill_table (read 0) (c_of w) v) (λ _. ends_list (pos 1))

  abbrev far : ℕ → Text
  far last = with_extra g.around.context.closure.code r.may.top.own.pc (λ ax. fills w (last + 256 * ax) (pos 2))

  frames_are : frames meant u ≡ g.around.context.below ++ lua (record { function = g.around.context.function; wait = running; own = after }) ∷ []
  frames_are =
      let ended = λ (n m : ℕ). with_pc (n + 1) (with_opened 0 (with_registers (take m r.may.top.own.registers) r.may.top)) in
      x.becomes.top meant refl g.around.context.below r.may.top r.may.is
      ∙ ap (λ m. g.around.context.below ++ lua (ended pc m) ∷ []) size_is
      ∙ ap (λ n. g.around.context.below ++ lua (ended n g.around.context.closure.code.own.stack) ∷ []) (sym r.at_pc)
      ∙ ap (λ (t : LuaFrame). g.around.context.below ++ lua t ∷ []) (frame_is (ended r.may.top.own.pc g.around.context.closure.code.own.stack) g.around.context.function after r.may.function r.runs refl)

  pub filled_one_so : slice_get k.words pc ≡ Some w → Reaches g.around.rows (standing g s ts cs fuel) (standing g u ts' cs fuel)
  filled_one_so word =
      let stands = (ready_held g k s ts cs fuel pc r).stands in
      let a = a_of w in
      let last = c_of w in
      let holder = object a_table x.id.0 in
      let stepped : step g.around.rows go (world g.around.context now) ≡ ends go (world g.around.context done_held) =
      row_is g.around.context stands now w SetList (word_is g k s ts cs fuel pc r w word) x.is_list g.around.rows
      ∙ ap (from_world (world g.around.context now)) (
      ap (λ b. run (expand (cond b (far last) (fills w last (pos 1)))) [] (world g.around.context now)) x.near
      ∙ own_runs g.around.context stands now (read_register a) (λ t s. fills_by s t w last (pos 1)) [] (lt_true a (length r.may.top.own.registers) (get_within r.may.top.own.registers a holder table_there))
      ∙ ap (λ v. run (expand (fills_by (shape v) 0 w last (pos 1))) (v ∷ []) (world g.around.context now)) table_is
      ∙ ap (λ n. run (expand (fills_from n 0 (a + 1) last (pos 1))) (holder ∷ []) (world g.around.context now)) x.one
      ∙ own_runs g.around.context stands now (read_register (a + 1)) (λ v _. puts_one v) (holder ∷ []) (lt_true (a + 1) (length r.may.top.own.registers) (get_within r.may.top.own.registers (a + 1) (meant x.item) item_there))
      ∙ ap (λ v. run (expand (puts_one 1)) (holder ∷ v ∷ []) (world g.around.context now)) item_is
      ∙ made_is (outside (fill_table (read 0) last 1)) (λ _ _. expand (ends_list (pos 1))) env (world g.around.context now) (world g.around.context filled_held) [] true
      (quick_move g.around.context stands now (fill_table (read 0) last 1) env ∙ ap (λ o. bind o (λ (H : Heap). made (record (world g.around.context now) { heap = H }) [] true)) fills_heap)
      ∙ goes_on) in (
        1,
        ap (steps g.around.rows 1 go) (standing_is g k s ts cs fuel pc r)
            ∙ ap (λ o. and_then o (steps g.around.rows 0)) stepped
            ∙ ap (ends go) (sym (ap (λ fs. stacked g.around.context.base g.around.context.coroutine fs heap_after (map (cell g.around.texts) cs) fuel []) frames_are)),
      )

-- it, or what changes no table, or neither

abbrev Writes : (co : ℕ) → Code → (s u : KeptStack) → (ts ts' : List Contents) → (meta : Option ℕ) → List KeptCell → Program → (size pc : ℕ) → Instruction → (fuel left : ℕ) → Type 0
Writes co k s u ts ts' meta cells program size pc w fuel left =
    (((StoresOpen co k.upvalues k.words s u cells pc w × (left ≡ fuel)) ⊎ AsksOver s u k.texts k.constants ts meta program w fuel left) × (ts' ≡ ts)) ⊎ (FillsOne s u ts ts' size k.words pc w × (left ≡ fuel))

pub written_or_not : (g : Running) (k : Code) (s : KeptStack) (ts : List Contents) (cs : List KeptCell) (fuel pc : ℕ) → RunsAt g k s ts cs fuel pc → (t u : KeptStack) (ts' : List Contents) (meta : Option ℕ) (program : Program)
    (paid left co size : ℕ) (w : Instruction) → AreFunctions g.around.context.base.functions program → t ≡ s → paid ≡ fuel → meta ≡ g.string_metatable → co ≡ g.around.context.coroutine → size ≡ g.around.context.closure.code.own.stack
    → slice_get k.words pc ≡ Some w → (o : Option (Unit {0})) → IfSome o (λ _. Writes co k t u ts ts' meta cs program size pc w paid left) → IfNone o (ReadSame t u × (left ≡ paid) × (ts' ≡ ts))
    → Reaches g.around.rows (standing g s ts cs fuel) (standing g u ts' cs left)
written_or_not g k s ts cs fuel pc r t u ts' meta program paid left co size w a same budget metatable own size_is word (Some o) x y = by x
  where
    by : Writes co k t u ts ts' meta cs program size pc w paid left → Reaches g.around.rows (standing g s ts cs fuel) (standing g u ts' cs left)
    by (inl z) =
        subst (λ (ts' : List Contents). Reaches g.around.rows (standing g s ts cs fuel) (standing g u ts' cs left)) (sym z.1)
        (reached_or_not g k s ts cs fuel pc r t u meta program paid left co w a same budget metatable own word (Some o) z.0 tt)
    by (inr z) =
        subst (λ (n : ℕ). Reaches g.around.rows (standing g s ts cs fuel) (standing g u ts' cs n)) (sym (z.1 ∙ budget))
        (filled_one_so g k s ts cs fuel pc r u ts' size w (subst (λ (s : KeptStack). FillsOne s u ts ts' size k.words pc w) same z.0) size_is word)
written_or_not g k s ts cs fuel pc r t u ts' meta program paid left co size w a same budget metatable own size_is word None x y =
    subst (λ (ts' : List Contents). Reaches g.around.rows (standing g s ts cs fuel) (standing g u ts' cs left)) (sym y.2)
    (reached_or_not g k s ts cs fuel pc r t u meta program paid left co w a same budget metatable own word None tt (y.0, y.1))
