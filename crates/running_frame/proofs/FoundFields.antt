-- GETFIELD and SELF of a field that handlers lead to without a call are steps that change registers of the frame on top alone.
use Rattle.std.proofs.Common.{◌≡◌, ℕ, suc, ◌+◌, ◌<◌, List, [], ◌∷◌, ◌++◌, length, map, Option, Some, None, refl, ap, sym, subst, ◌∙◌, arith, Bool, true, false}
use Rattle.std.specs.Prelude.{cond, slice_get, slice_set}
use Rattle.std.proofs.lemmas.List.{length-map}
use Rattle.code_core.specs.Check.{at}
use Rattle.code_core.specs.Instruction.{a_of, b_of, c_of, k_of, opcode_of}
use Rattle.code_core.specs.declared.instruction.Instruction.{Instruction}
use Rattle.code_core.specs.declared.opcode.Opcode.{Opcode}
use Rattle.code_core.specs.declared.opcode.Opcode.TheVariants.{GetField, OpSelf}
use Rattle.code_core.specs.declared.proto.Const.{Const}
use Rattle.int_core.specs.Heap.{Heap}
use Rattle.int_core.specs.Operations.{index}
use Rattle.int_core.specs.Value.{Value, is_known, known, nil}
use Rattle.machine_core.specs.World.{for_value}
use Rattle.machine_core.specs.FrameRows.{at_once, calls_row, expand, prepares, raises}
use Rattle.machine_core.specs.InstructionRows.{gets, register_or_constant, row_of, to_register}
use Rattle.machine_core.specs.MachineStep.{and_then, from_world, step, steps}
use Rattle.machine_core.specs.Moves.{SettledShape, is_found, is_asked, is_fault, only, on_own, settle, settled, made, Row, go, ends, run}
use Rattle.machine_core.specs.Text.{Text, constant, own, read, read_constant, read_register, write_register}
use Rattle.machine_focus.specs.Focus.{Context, Held, held_own, place, world}
use Rattle.machine_focus.proofs.Local.{local_is, made_is}
use Rattle.machine_focus.proofs.Places.{own_move, settle_move}
use Rattle.machine_sound.specs.Laws.{StepGood}
use Rattle.machine_sound.proofs.Lists.{get_map, get_within, length_set, map_get}
use Rattle.machine_sound.proofs.Steps.{steps_good}
use Rattle.machine_sound.proofs.Values.{lt_true}
use Rattle.machine_view.specs.View.{IsAt, held}
use Rattle.machine_view.proofs.Going.{at_next, puts}
use Rattle.machine_view.proofs.Places.{next_there, register_there}
use Rattle.machine_view.proofs.Rows.{settles, write_map}
use Rattle.table_core.specs.Table.{Contents}
use Rattle.table_core.specs.declared.value.CellId.{CellId}
use Rattle.table_core.specs.declared.value.Value.{Value as Kept}
use Rattle.lua_stack.specs.Frames.{KeptStack, OnTop, TopBecomes, with_pc}
use Rattle.lua_stack.specs.Lending.{with_top}
use Rattle.lua_heap.specs.declared.world.Cell.{Cell as KeptCell}
use Rattle.lua_heap.specs.Plain.{cell, heap}
use Rattle.lua_heap.specs.Reading.{value}
use Rattle.machine_arms_tables.specs.Frame.{Code, IsReadyAt, Moment, RunsTo, moment}
use Rattle.machine_arms_tables.proofs.Steps.{at_opcode}
use Rattle.machine_loop.specs.Running.{Running}
use Rattle.running_frame.specs.Inheriting.{Finds, GetsField, with_found}
use Rattle.running_frame.specs.Between.{GoesAmid, GoesOver, GoesWith, RunsOver, RunsWith}
use Rattle.frame_calls.specs.Standing.{RunsAt}
use Rattle.frame_calls.proofs.FrameRows.{own_runs, row_is}
use Rattle.running_frame.proofs.OnStack.{round_reaches, round_runs}
use Rattle.running_frame.proofs.OpenRead.{ready_at}

-- what the rows come to

module _ (g : Running) (k : Code) (m : Moment) (here : IsReadyAt g.around g.string_metatable k m) where
  abbrev texts : List (List ℕ)
  texts = g.around.texts

  abbrev ctx : Context
  ctx = g.around.context

  abbrev kept : Heap
  kept = heap texts m.tables g.string_metatable

  abbrev held_with : List Kept → ℕ → Held
  held_with r to = held g.around kept (map (cell texts) m.cells) r to m.fuel

  abbrev now : Held
  now = held_with m.registers m.pc

  -- a row that is run is a step, and the frame is ready after it
  row_steps : (op : Opcode) (w : Instruction) → IsAt op w k.words k.constants m.registers m.pc → (q : List Kept) (to : ℕ)
      → run (expand (row_of ctx.closure.code m.pc op w)) [] (world ctx now) ≡ ends go (world ctx (held_with q to))
      → IsReadyAt g.around g.string_metatable k (moment m.tables m.cells q to m.fuel) × RunsTo g.around g.string_metatable m (moment m.tables m.cells q to m.fuel)
  row_steps op w a q to e =
      let f = here.ready.frame in
      let at_pc : at ctx.closure.code m.pc ≡ Some w = ap (λ ws. slice_get ws m.pc) here.ready.code.code.words_are ∙ a.at_pc in
      let stepped : step g.around.rows go (world ctx now) ≡ ends go (world ctx (held_with q to)) = row_is ctx f.stands now w op at_pc a.is_opcode g.around.rows ∙ ap (from_world (world ctx now)) e in (
        record {
          ready = record {
            code = here.ready.code;
            frame = record { stands = f.stands; safe = f.safe; sound = subst (StepGood g.around.primitives) stepped (steps_good g.around.primitives g.around.rows f.safe go (world ctx now) f.sound) };
          };
          upvalues_are = here.upvalues_are;
          texts_are = here.texts_are;
        },
        (1, ap (λ o. and_then o (steps g.around.rows 0)) stepped),
      )

  reads_register : (t : ℕ → Text) (env : List Value) (b : ℕ) (v : Kept) → slice_get (map (value texts) m.registers) b ≡ Some (value texts v)
      → run (expand (own (read_register b) (λ n _. t n))) env (world ctx now) ≡ run (expand (t (length env))) (env ++ value texts v ∷ []) (world ctx now)
  reads_register t env b v e =
      let rs = map (value texts) m.registers in
      own_runs ctx here.ready.frame.stands now (read_register b) (λ n _. t n) env (lt_true b (length rs) (get_within rs b (value texts v) e))
      ∙ ap (λ (o : Option Value). run (expand (t (length env))) (env ++ elim o as (λ _. Value) [ None ↦ known nil | Some x ↦ x ] ∷ []) (world ctx now)) e

  reads_name : (t : ℕ → Text) (env : List Value) (n : ℕ) (v : Kept) → slice_get k.constants n ≡ Some v
      → run (expand (own (read_constant n) (λ n _. t n))) env (world ctx now) ≡ run (expand (t (length env))) (env ++ value texts v ∷ []) (world ctx now)
  reads_name t env n v e = by (map_get (λ k. known (constant k)) cn n (value texts v) (ap (λ xs. slice_get xs n) here.ready.code.code.constants_are ∙ get_map (value texts) k.constants n v e))
    where
      cn : List Const
      cn = g.around.context.closure.code.own.constants

      by : (x : Const) × (slice_get g.around.context.closure.code.own.constants n ≡ Some x) × (known (constant x) ≡ value g.around.texts v)
          → run (expand (own (read_constant n) (λ n _. t n))) env (world g.around.context now) ≡ run (expand (t (length env))) (env ++ value g.around.texts v ∷ []) (world g.around.context now)
      by x =
          own_runs g.around.context here.ready.frame.stands now (read_constant n) (λ n _. t n) env (lt_true n (length g.around.context.closure.code.own.constants) (get_within g.around.context.closure.code.own.constants n x.0 x.1))
          ∙ ap (λ (o : Option Const). run (expand (t (length env))) (env ++ elim o [ None ↦ [] | Some c ↦ known (constant c) ∷ [] ]) (world g.around.context now)) x.1
          ∙ ap (λ v. run (expand (t (length env))) (env ++ v ∷ []) (world g.around.context now)) x.2

  -- GETFIELD
  field_runs : (w : Instruction) → IsAt GetField w k.words k.constants m.registers m.pc → (object key v : Kept) → slice_get (map (value texts) m.registers) (b_of w) ≡ Some (value texts object) → slice_get k.constants (c_of w) ≡ Some key
      → Finds texts m.tables g.string_metatable object key v → (q : List Kept) (to : ℕ) → q ≡ slice_set m.registers (a_of w) v → to ≡ m.pc + 1
      → run (expand (row_of ctx.closure.code m.pc GetField w)) [] (world ctx now) ≡ ends go (world ctx (held_with q to))
  field_runs w h object key v eo ek d q to f p =
      let cs = map (cell texts) m.cells in
      let both = value texts object ∷ value texts key ∷ [] in
      reads_register (λ o. own (read_constant (c_of w)) (λ key _. gets (read o) (read key) [] (a_of w))) [] (b_of w) object eo
      ∙ reads_name (λ key. gets (read 0) (read key) [] (a_of w)) (value texts object ∷ []) (c_of w) key ek
      ∙ local_is ctx here.ready.frame.stands at_once (gets (read 0) (read 1) [] (a_of w)) both now (held_with q to)
      (settles g.around kept cs m.registers m.pc m.fuel {op = index} {xs = read 0 ∷ read 1 ∷ []} {wait = for_value} {env = both} d
      (puts g.around kept cs m.registers m.pc m.fuel {env = value texts v ∷ []} {x = read 0} (a_of w) 1 v here.ready.code (at_next h refl p) (register_there h 0 (a_of w) refl) refl f p)).is

  -- SELF: the receiver goes to the register after A before the field goes to A
  prepared_gets : (object key v : Kept) (a : ℕ) → a + 1 < length m.registers → Finds texts m.tables g.string_metatable object key v
      → run (expand (gets (read 0) (read 1) (write_register (a + 1) (read 0) ∷ []) a)) (value texts object ∷ value texts key ∷ []) (world ctx now)
      ≡ run (expand (to_register a (read 0))) (value texts v ∷ []) (world ctx (held_with (slice_set m.registers (a + 1) object) m.pc))
  prepared_gets object key v a l d =
      let env = value texts object ∷ value texts key ∷ [] in
      let vs = value texts v ∷ [] in
      let w = write_register (a + 1) (read 0) in
      let t = to_register a (read 0) in
      let s = here.ready.frame.stands in
      made_is (settle index (read 0 ∷ read 1 ∷ [])) next_row env (world ctx now) (world ctx now) vs is_found
      (settle_move ctx s now index (read 0 ∷ read 1 ∷ []) env ∙ ap (λ r. settled (world ctx now) (place ctx now) r) d)
      ∙ made_is (on_own w) (λ _ _. only 2 (expand t)) (env ++ vs) (world ctx now) (world ctx (held_own ctx w (env ++ vs) now)) [] (is_known nil)
      (own_move ctx s now w (env ++ vs) ∙ ap (λ b. cond b (made (world ctx (held_own ctx w (env ++ vs) now)) [] (is_known nil)) None) (lt_true (a + 1) (length (map (value texts) m.registers)) (let n = length-map m.registers (value texts) in omega (arith, l, n))))
      ∙ ap (λ rs. run (expand t) vs (world ctx (record now { own = record now.own { registers = rs } }))) (write_map (value texts) m.registers (a + 1) object l)
    where
      next_row : ℕ → SettledShape → Row
      next_row n r = elim r [
        | is_found ↦ prepares (write_register (a + 1) (read 0) ∷ []) (only n (expand (to_register a (read 0))))
        | is_asked ↦ calls_row at_once (read n) (suc n) for_value (write_register (a + 1) (read 0) ∷ [])
        | is_fault text ↦ prepares (write_register (a + 1) (read 0) ∷ []) (raises text)
      ]

  method_runs : (w : Instruction) → IsAt OpSelf w k.words k.constants m.registers m.pc → k_of w ≡ true → (object key v : Kept) → slice_get (map (value texts) m.registers) (b_of w) ≡ Some (value texts object) → slice_get k.constants (c_of w) ≡ Some key
      → Finds texts m.tables g.string_metatable object key v → (q : List Kept) (to : ℕ) → q ≡ slice_set (slice_set m.registers (a_of w + 1) object) (a_of w) v → to ≡ m.pc + 1
      → run (expand (row_of ctx.closure.code m.pc OpSelf w)) [] (world ctx now) ≡ ends go (world ctx (held_with q to))
  method_runs w h constant_key object key v eo ek d q to f p =
      let r = slice_set m.registers (a_of w + 1) object in
      let room = register_there h 0 (a_of w + 1) refl in
      let room' : a_of w < length r = (let n = length_set m.registers (a_of w + 1) object in omega (arith, room, n)) in
      let t = λ (n : ℕ). gets (read 0) (read n) (write_register (a_of w + 1) (read 0) ∷ []) (a_of w) in
      reads_register (λ o. register_or_constant w (λ key _. gets (read o) (read key) (write_register (a_of w + 1) (read o) ∷ []) (a_of w))) [] (b_of w) object eo
      ∙ ap (λ b. run (expand (cond b (own (read_constant (c_of w)) (λ n _. t n)) (own (read_register (c_of w)) (λ n _. t n)))) (value texts object ∷ []) (world ctx now)) constant_key
      ∙ reads_name t (value texts object ∷ []) (c_of w) key ek
      ∙ prepared_gets object key v (a_of w) room d
      ∙ local_is ctx here.ready.frame.stands at_once (to_register (a_of w) (read 0)) (value texts v ∷ []) (held_with r m.pc) (held_with q to)
      (puts g.around kept (map (cell texts) m.cells) r m.pc m.fuel {env = value texts v ∷ []} {x = read 0} (a_of w) 1 v here.ready.code (at_next h refl p) room' refl f p).is

-- the frame on top of a stack

module _ (g : Running) (k : Code) (s : KeptStack) (ts : List Contents) (pc : ℕ) (r : List Kept) (lent : OnTop s (λ f t. map f r ≡ t.own.registers)) where
  module _ (cs : List KeptCell) (fuel : ℕ) (x : RunsAt g k s ts cs fuel pc) where
    registers_are : map (value g.around.texts) r ≡ x.may.top.own.registers
    registers_are = lent (value g.around.texts) g.around.context.below x.may.top x.may.is

    read_at : (op : Opcode) (w : Instruction) → slice_get k.words pc ≡ Some w → opcode_of w ≡ Some op → IsAt op w k.words k.constants r pc
    read_at op w e o = at_opcode g.around g.string_metatable k (moment ts cs r pc fuel) (ready_at g k s cs pc r lent ts fuel x) w op e o

    -- the registers and the next instruction of one that reads a field by a constant

    pub found_own : (receives : Bool) (w : Instruction) → slice_get k.words pc ≡ Some w → GetsField receives w → a_of w < length r
    found_own true w e is = let l = register_there (read_at OpSelf w e is.is) 0 (a_of w + 1) refl in omega (arith, l)
    found_own false w e is = register_there (read_at GetField w e is.is) 0 (a_of w) refl

    pub found_behind : (receives : Bool) (w : Instruction) → slice_get k.words pc ≡ Some w → GetsField receives w → receives ≡ true → a_of w + 1 < length r
    found_behind true w e is takes = register_there (read_at OpSelf w e is.is) 0 (a_of w + 1) refl
    found_behind false w e is takes = absurd (cc)

    pub found_next : (receives : Bool) (w : Instruction) → slice_get k.words pc ≡ Some w → GetsField receives w → pc + 1 < length k.words
    found_next true w e is = next_there (read_at OpSelf w e is.is) refl
    found_next false w e is = next_there (read_at GetField w e is.is) refl

    -- what is read of the same registers before they are lent
    pub read_of : (rs : List Kept) → OnTop s (λ f t. map f rs ≡ t.own.registers) → (n : ℕ) (v : Kept) → slice_get rs n ≡ Some v → slice_get (map (value g.around.texts) r) n ≡ Some (value g.around.texts v)
    read_of rs are n v e =
        ap (λ l. slice_get l n) (registers_are ∙ sym (are (value g.around.texts) g.around.context.below x.may.top x.may.is))
        ∙ get_map (value g.around.texts) rs n v e

  module _ (q : List Kept) (long : length q ≡ length r) (to : ℕ) (u : KeptStack) (b : TopBecomes (with_top s q) u (λ f t. with_pc to t)) where
    goes_amid : ((cs : List KeptCell) (fuel : ℕ) → RunsAt g k s ts cs fuel pc
        → IsReadyAt g.around g.string_metatable k (moment ts cs q to fuel) × RunsTo g.around g.string_metatable (moment ts cs r pc fuel) (moment ts cs q to fuel)) → GoesAmid g k s u ts pc to
    goes_amid stepped = λ cs. record {
      runs = λ fuel x. round_runs x r q lent long u ts cs to fuel b (stepped cs fuel x).0 refl;
      reaches = λ fuel x. round_reaches x r q lent long u ts cs to fuel b (stepped cs fuel x).1;
      listed = b.cells;
    }

    module _ (w : Instruction) (word : slice_get k.words pc ≡ Some w) (next : to ≡ pc + 1) (rs : List Kept) (are : OnTop s (λ f t. map f rs ≡ t.own.registers)) (object key v : Kept)
        (receiver : slice_get rs (b_of w) ≡ Some object) (name : slice_get k.constants (c_of w) ≡ Some key) (finds : Finds g.around.texts ts g.string_metatable object key v) where
      field_goes : opcode_of w ≡ Some GetField → q ≡ slice_set r (a_of w) v → GoesAmid g k s u ts pc to
      field_goes o written = goes_amid (λ cs fuel x.
          let m = moment ts cs r pc fuel in
          let here = ready_at g k s cs pc r lent ts fuel x in
          let h = read_at cs fuel x GetField w word o in
          row_steps g k m here GetField w h q to (field_runs g k m here w h object key v (read_of cs fuel x rs are (b_of w) object receiver) name finds q to written next))

      method_goes : opcode_of w ≡ Some OpSelf → k_of w ≡ true → q ≡ slice_set (slice_set r (a_of w + 1) object) (a_of w) v → GoesAmid g k s u ts pc to
      method_goes o constant_key written = goes_amid (λ cs fuel x.
          let m = moment ts cs r pc fuel in
          let here = ready_at g k s cs pc r lent ts fuel x in
          let h = read_at cs fuel x OpSelf w word o in
          row_steps g k m here OpSelf w h q to (method_runs g k m here w h constant_key object key v (read_of cs fuel x rs are (b_of w) object receiver) name finds q to written next))

      pub found_goes : (receives : Bool) → GetsField receives w → q ≡ with_found receives (a_of w) object v r → GoesAmid g k s u ts pc to
      found_goes true is written = method_goes is.is (is.constant refl) written
      found_goes false is written = field_goes is.is written

-- what is found among the strings of the frame's world
pub finds_here : (texts texts' : List (List ℕ)) (ts : List Contents) (meta meta' : Option ℕ) (object key v : Kept) → texts ≡ texts' → meta' ≡ meta → Finds texts' ts meta' object key v → Finds texts ts meta object key v
finds_here texts texts' ts meta meta' object key v e f d = subst (λ meta. Finds texts ts meta object key v) f (subst (λ texts. Finds texts ts meta' object key v) (sym e) d)

-- what runs over some tables, with the strings by their other name
pub over_runs : {g : Running} {words : List Instruction} {constants : List Kept} {upvalues : List CellId} {texts : List (List ℕ)} {s : KeptStack} {ts : List Contents} {cs : List KeptCell} {pc : ℕ}
    → RunsWith g (record { words = words; constants = constants; upvalues = upvalues; texts = texts }) s ts cs pc → RunsOver g (record { words = words; constants = constants; upvalues = upvalues; texts = g.around.texts }) s cs pc
over_runs {g} {words} {constants} {upvalues} {s = s} {ts = ts} {cs = cs} {pc = pc} x =
    (ts, subst (λ texts. RunsWith g (record { words = words; constants = constants; upvalues = upvalues; texts = texts }) s ts cs pc) (sym x.runs.may.closure.texts_are) x)

-- what leads on whatever the tables are, or whatever the cells are

pub over_goes : {g : Running} {words : List Instruction} {constants : List Kept} {upvalues : List CellId} {texts : List (List ℕ)} {s u : KeptStack} {ts : List Contents} {cs : List KeptCell} {pc to : ℕ} → g.around.texts ≡ texts
    → GoesOver g (record { words = words; constants = constants; upvalues = upvalues; texts = g.around.texts }) s u cs pc to
    → GoesWith g (record { words = words; constants = constants; upvalues = upvalues; texts = texts }) s u ts cs pc to
over_goes {g} {words} {constants} {upvalues} {s = s} {u = u} {ts = ts} {cs = cs} {pc = pc} {to = to} e o =
    subst (λ texts. GoesWith g (record { words = words; constants = constants; upvalues = upvalues; texts = texts }) s u ts cs pc to) e (o ts)

pub amid_goes : {g : Running} {k : Code} {s t u : KeptStack} {ts : List Contents} {cs : List KeptCell} {pc to : ℕ} → t ≡ s → GoesAmid g k t u ts pc to → GoesWith g k s u ts cs pc to
amid_goes {g} {k} {u = u} {ts = ts} {cs = cs} {pc = pc} {to = to} e o = subst (λ (s : KeptStack). GoesWith g k s u ts cs pc to) e (o cs)
