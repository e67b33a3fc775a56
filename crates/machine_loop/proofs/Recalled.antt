-- A GETUPVAL of a variable of a frame below is a step that writes its value to a register, and reads of the loop that look around are steps.
use Rattle.std.proofs.Common.{◌≡◌, inl, inr, ℕ, ◌+◌, List, [], ◌∷◌, ◌++◌, map, Option, Some, None, refl, ap, sym, subst, ◌∙◌}
use Rattle.std.specs.Prelude.{IfSome, slice_get, slice_set}
use Rattle.std.proofs.lemmas.Option.{IfSome_then}
use Rattle.code_core.specs.Instruction.{a_of, b_of}
use Rattle.code_core.specs.declared.instruction.Instruction.{Instruction}
use Rattle.code_core.specs.declared.opcode.Opcode.TheVariants.{GetUpval}
use Rattle.int_core.specs.Value.{Value, bind}
use Rattle.lua_stack.specs.Frames.{register_in}
use Rattle.lua_heap.specs.Plain.{cell, heap}
use Rattle.lua_heap.specs.Reading.{value}
use Rattle.lua_heap.specs.declared.world.Cell.{Cell as KeptCell}
use Rattle.lua_heap.specs.declared.world.Cell.TheVariants.{Open}
use Rattle.machine_core.specs.World.{Cell, Coroutine, Frame, LuaFrame, frames_of, in_progress, lua, lua_frame, open_at, read_cell, register_at}
use Rattle.machine_core.specs.FrameRows.{at_once, expand}
use Rattle.machine_core.specs.InstructionRows.{row_of, to_register}
use Rattle.machine_core.specs.Moves.{ends, go, run}
use Rattle.machine_core.specs.Text.{read}
use Rattle.machine_focus.specs.Focus.{Held, cell_at, frames as held_frames, local, top, world}
use Rattle.machine_focus.proofs.Local.{local_is}
use Rattle.machine_sound.proofs.Lists.{get_front, get_map, get_set_same, get_there, get_within}
use Rattle.machine_view.specs.View.{Around, IsAt, held}
use Rattle.machine_view.proofs.Going.{at_next, puts}
use Rattle.machine_view.proofs.Places.{register_there}
use Rattle.table_core.specs.Table.{Contents}
use Rattle.table_core.specs.declared.value.CellId.{CellId}
use Rattle.table_core.specs.declared.value.CoroId.{CoroId}
use Rattle.table_core.specs.declared.value.Value.{Value as Kept}
use Rattle.machine_arms_tables.specs.Frame.{AreOpenAlike, Code, IsReadyAt, Moment, StepsOn, moment, world_at}
use Rattle.machine_arms_tables.proofs.Steps.{at_opcode, stepped_by, stepped_run, steps_on, steps_when}
use Rattle.machine_loop.specs.declared.memo.Known.{Known}
use Rattle.machine_loop.specs.declared.memo.Memo.{Memo}
use Rattle.machine_loop.specs.Around.{GoesAround, GoesBeyond}
use Rattle.machine_loop.specs.Knowing.{Adds, AllHold, HasValue, ReadsKnown, Remembers, Tells, by_first, by_second, by_third, to_first, to_second, to_third}
use Rattle.machine_loop.specs.Running.{IsStep, Running, StepsOnce}
use Rattle.machine_loop.proofs.Alike.{still_open}

-- what is known

module _ (g : Around) (upvalues : List CellId) where
  -- the cells that are open stay so
  still_has : (cells cells' : List KeptCell) → AreOpenAlike cells cells' → (o : Option Known) → IfSome o (λ k. HasValue g upvalues cells k.upvalue k.value) → IfSome o (λ k. HasValue g upvalues cells' k.upvalue k.value)
  still_has cells cells' a o h = IfSome_then o h (λ k x. record {
    id = x.id;
    named = x.named;
    coroutine = x.coroutine;
    frame = x.frame;
    register = x.register;
    own = x.own;
    holds = still_open cells cells' a x.id.0 x.coroutine x.frame x.register x.holds;
    stands = x.stands;
  })

  pub still_hold : (cells cells' : List KeptCell) → AreOpenAlike cells cells' → (memo : Memo) → AllHold g upvalues cells memo → AllHold g upvalues cells' memo
  still_hold cells cells' a memo h = record {
    first = still_has cells cells' a memo.first h.first;
    second = still_has cells cells' a memo.second h.second;
    third = still_has cells cells' a memo.third h.third;
  }

  module _ (cells : List KeptCell) (memo : Memo) (h : AllHold g upvalues cells memo) where
    pub more_hold : (entry : Known) → HasValue g upvalues cells entry.upvalue entry.value → (more : Memo) → Adds memo entry more → AllHold g upvalues cells more
    more_hold entry x more (to_first e) = subst (λ (m : Memo). AllHold g upvalues cells m) (sym e) (record { first = x; second = h.second; third = h.third })
    more_hold entry x more (to_second e) = subst (λ (m : Memo). AllHold g upvalues cells m) (sym e) (record { first = h.first; second = x; third = h.third })
    more_hold entry x more (to_third e) = subst (λ (m : Memo). AllHold g upvalues cells m) (sym e) (record { first = h.first; second = h.second; third = x })

    by_entry : (o : Option Known) → IfSome o (λ k. HasValue g upvalues cells k.upvalue k.value) → (u : ℕ) (v : Kept) → Tells o u v → HasValue g upvalues cells u v
    by_entry o x u v t =
        subst (λ v. HasValue g upvalues cells u v) t.told
        (subst (λ u. HasValue g upvalues cells u t.entry.value) t.upvalue (subst (λ o. IfSome o (λ k. HasValue g upvalues cells k.upvalue k.value)) t.is x))

    value_there : (u : ℕ) (v : Kept) → Remembers memo u v → HasValue g upvalues cells u v
    value_there u v (by_first t) = by_entry memo.first h.first u v t
    value_there u v (by_second t) = by_entry memo.second h.second u v t
    value_there u v (by_third t) = by_entry memo.third h.third u v t

-- a register of a frame below is that of the stack

below_stands : (fs more : List Frame) (frame register : ℕ) (v : Value) → register_in frame register fs ≡ Some v → register_in frame register (fs ++ more) ≡ Some v
below_stands fs more frame register v e = by (slice_get fs frame) refl e
  where
    by : (o : Option Frame) → slice_get fs frame ≡ o → bind {A = LuaFrame} {B = Value} (bind {A = Frame} {B = LuaFrame} o lua_frame) (λ t. slice_get t.own.registers register) ≡ Some v → register_in frame register (fs ++ more) ≡ Some v
    by None f h = absurd (cc)
    by (Some x) f h =
        ap (λ (o : Option Frame). bind {A = LuaFrame} {B = Value} (bind {A = Frame} {B = LuaFrame} o lua_frame) (λ t. slice_get t.own.registers register))
        (get_front fs more frame (get_within fs frame x f) ∙ f)
        ∙ h

-- what the row comes to

module _ (g : Running) (k : Code) (m : Moment) (here : IsReadyAt g.around g.string_metatable k m) where
  abbrev texts : List (List ℕ)
  texts = g.around.texts

  abbrev held_with : List Kept → ℕ → Held
  held_with r to = held g.around (heap texts m.tables g.string_metatable) (map (cell texts) m.cells) r to m.fuel

  abbrev now : Held
  now = held_with m.registers m.pc

  module _ (w : Instruction) (h : IsAt GetUpval w k.words k.constants m.registers m.pc) (v : Kept) where
    -- wherever the cell is open
    module _ (id : CellId) (co : CoroId) (frame register : ℕ) (named : slice_get k.upvalues (b_of w) ≡ Some id) (holds : slice_get m.cells id.0 ≡ Some (Open co frame register))
        (own : co.0 ≡ g.around.context.coroutine) (stands : register_in frame register (held_frames g.around.context now.own) ≡ Some (value texts v)) where
      cell_is : cell_at g.around.context now (b_of w) ≡ Some (id.0, open_at co.0 frame register)
      cell_is =
          ap (λ ns. bind {A = ℕ} {B = ℕ × Cell} (slice_get ns (b_of w)) (λ n. bind (slice_get (map (cell texts) m.cells) n) (λ c. Some (n, c)))) here.upvalues_are
          ∙ ap (λ o. bind {A = ℕ} {B = ℕ × Cell} o (λ n. bind (slice_get (map (cell texts) m.cells) n) (λ c. Some (n, c)))) (get_map (λ (c : CellId). c.0) k.upvalues (b_of w) id named)
          ∙ ap (λ o. bind {A = Cell} {B = ℕ × Cell} o (λ c. Some (id.0, c)))
          (get_map (cell texts) m.cells id.0 (Open co frame register) holds)

      value_is : read_cell (world g.around.context now) (open_at co.0 frame register) ≡ Some (value texts v)
      value_is =
          let c = g.around.context in
          let fs = held_frames c now.own in
          let there = get_there c.base.coroutines c.coroutine here.ready.frame.stands.there in
          ap (λ n. register_at (slice_set c.base.coroutines c.coroutine (in_progress fs)) n frame register) own
          ∙ ap (λ o. bind {A = List Frame} {B = Value} (bind {A = Coroutine} {B = List Frame} o frames_of) (λ gs. register_in frame register gs))
          (get_set_same c.base.coroutines c.coroutine there.0 (in_progress fs) there.1)
          ∙ stands

      pub open_comes : (q : List Kept) (to : ℕ) → q ≡ slice_set m.registers (a_of w) v → to ≡ m.pc + 1 → local g.around.context (row_of g.around.context.closure.code m.pc GetUpval w) [] now ≡ Some (held_with q to)
      open_comes q to written next =
          let c = g.around.context in
          let x =
          puts g.around (heap texts m.tables g.string_metatable) (map (cell texts) m.cells) m.registers m.pc m.fuel {env = value texts v ∷ []} {x = read 0} (a_of w) 1 v here.ready.code (at_next h refl next) (register_there h 0 (a_of w) refl) refl written next in
          ap (λ o. bind {A = ℕ × Cell} {B = Held} o (λ x. bind {A = Value} {B = Held} (read_cell (world c now) x.1) (λ v. local c (to_register (a_of w) (read 0)) (v ∷ []) now))) cell_is
          ∙ ap (λ o. bind {A = Value} {B = Held} o (λ v. local c (to_register (a_of w) (read 0)) (v ∷ []) now)) value_is
          ∙ x.is

    module _ (has : HasValue g.around k.upvalues m.cells (b_of w) v) where
      runs_to : (q : List Kept) (to : ℕ) → q ≡ slice_set m.registers (a_of w) v → to ≡ m.pc + 1
          → run (expand (row_of g.around.context.closure.code m.pc GetUpval w)) [] (world_at g.around g.string_metatable m) ≡ ends go (world_at g.around g.string_metatable (moment m.tables m.cells q to m.fuel))
      runs_to q to written next =
          let c = g.around.context in
          local_is c here.ready.frame.stands at_once (row_of c.closure.code m.pc GetUpval w) [] now (held_with q to)
          (open_comes has.id has.coroutine has.frame has.register has.named has.holds has.own
          (below_stands c.below (lua (top c now.own) ∷ []) has.frame has.register (value texts v) has.stands) q to written next)

  module _ (memo : Memo) (holds : AllHold g.around k.upvalues m.cells memo) (q : List Kept) (to : ℕ) (x : ReadsKnown k.words memo m.registers q m.pc to) where
    at_read : IsAt GetUpval x.word k.words k.constants m.registers m.pc
    at_read = at_opcode g.around g.string_metatable k m here x.word GetUpval x.at_pc x.is_read

    known_runs : run (expand (row_of g.around.context.closure.code m.pc GetUpval x.word)) [] (world_at g.around g.string_metatable m) ≡ ends go (world_at g.around g.string_metatable (moment m.tables m.cells q to m.fuel))
    known_runs =
        runs_to x.word at_read x.reads.given (value_there g.around k.upvalues m.cells memo holds (b_of x.word) x.reads.given x.reads.known) q to x.reads.written x.reads.next

    known_one : IsStep g m (moment m.tables m.cells q to m.fuel)
    known_one = record { is = λ rows. stepped_run g.around g.string_metatable k m here rows (moment m.tables m.cells q to m.fuel) GetUpval x.word at_read known_runs }

    known_steps : StepsOn g.around g.string_metatable k m (moment m.tables m.cells q to m.fuel)
    known_steps = steps_when g.around g.string_metatable k m here (moment m.tables m.cells q to m.fuel) refl (known_one.is g.around.rows)

  module _ (us : List Contents) (q : List Kept) (to : ℕ) (x : GoesBeyond k m.tables us m.cells m.registers q m.pc to) where
    at_beyond : IsAt x.op x.word k.words k.constants m.registers m.pc
    at_beyond = at_opcode g.around g.string_metatable k m here x.word x.op x.at_pc x.is_opcode

    beyond_one : IsStep g m (moment us m.cells q to m.fuel)
    beyond_one = record { is = λ rows. stepped_by g.around g.string_metatable k m here rows (moment us m.cells q to m.fuel) x.op x.word at_beyond (x.leads m.fuel) }

    beyond_steps : StepsOn g.around g.string_metatable k m (moment us m.cells q to m.fuel)
    beyond_steps = steps_on g.around g.string_metatable k m here (moment us m.cells q to m.fuel) x.op x.word at_beyond (x.leads m.fuel)

  module _ (memo : Memo) (holds : AllHold g.around k.upvalues m.cells memo) (us : List Contents) (q : List Kept) (to : ℕ) where
    around_once : GoesAround k m.tables us m.cells memo m.registers q m.pc to → StepsOnce g k m (moment us m.cells q to m.fuel)
    around_once (inl x) = subst (λ us. StepsOnce g k m (moment us m.cells q to m.fuel)) (sym x.1) (record { steps = known_steps memo holds q to x.0; one = known_one memo holds q to x.0 })
    around_once (inr x) = record { steps = beyond_steps us q to x; one = beyond_one us q to x }

  -- where an instruction was tried that left all as it was
  module _ (memo : Memo) (holds : AllHold g.around k.upvalues m.cells memo) (o : Option ℕ) (ts us : List Contents) (cs : List KeptCell) (r q : List Kept) (left : ℕ)
      (t : ts ≡ m.tables) (c : cs ≡ m.cells) (e : r ≡ m.registers) (l : left ≡ m.fuel) (x : IfSome o (λ to. GoesAround k ts us cs memo r q m.pc to)) where
    goes_now : IfSome o (λ to. GoesAround k m.tables us m.cells memo m.registers q m.pc to)
    goes_now =
        subst (λ ts. IfSome o (λ to. GoesAround k ts us m.cells memo m.registers q m.pc to)) t
        (subst (λ cs. IfSome o (λ to. GoesAround k ts us cs memo m.registers q m.pc to)) c (subst (λ r. IfSome o (λ to. GoesAround k ts us cs memo r q m.pc to)) e x))

    pub once_then : IfSome o (λ to. StepsOnce g k m (moment us cs q to left))
    once_then =
        subst (λ cs. IfSome o (λ to. StepsOnce g k m (moment us cs q to left))) (sym c)
        (subst (λ left. IfSome o (λ to. StepsOnce g k m (moment us m.cells q to left))) (sym l) (IfSome_then o goes_now (λ to y. around_once memo holds us q to y)))
