-- A store to a variable that stands in a register of a frame below is a step of the machine.
use Rattle.std.proofs.Common.{◌≡◌, ℕ, zero, suc, ◌+◌, ◌<◌, List, [], ◌∷◌, ◌++◌, length, map, Option, Some, None, refl, ap, sym, ◌∙◌, arith, true}
use Rattle.std.specs.Prelude.{slice_get, slice_set}
use Rattle.code_core.specs.Check.{at}
use Rattle.code_core.specs.Instruction.{a_of, b_of}
use Rattle.code_core.specs.declared.instruction.Instruction.{Instruction}
use Rattle.code_core.specs.declared.opcode.Opcode.{Opcode}
use Rattle.code_core.specs.declared.opcode.Opcode.TheVariants.{SetUpval}
use Rattle.int_core.specs.Value.{Value, bind, known, nil}
use Rattle.machine_core.specs.World.{Cell, open_at, LuaFrame, Frame, lua, Coroutine, in_progress, World, read_cell, write_cell, write_in_coroutine, write_in_frame}
use Rattle.machine_core.specs.FrameRows.{at_once, expand}
use Rattle.machine_core.specs.InstructionRows.{next}
use Rattle.machine_core.specs.MachineStep.{and_then, from_world, step, steps}
use Rattle.machine_core.specs.Moves.{made, outside, go, ends, run}
use Rattle.machine_core.specs.Text.{Text, quick, read, read_register, write_upvalue}
use Rattle.machine_focus.specs.Focus.{Context, Held, Reaches, Stands, cell_at, stacked, top, with_pc as held_with_pc, world, frames as held_frames}
use Rattle.machine_focus.proofs.Local.{local_is, made_is}
use Rattle.machine_focus.proofs.Places.{quick_move, set_set}
use Rattle.machine_sound.proofs.Cells.{cell_read}
use Rattle.machine_sound.proofs.Lists.{get_map, get_push_old, get_set_same, get_there, get_within}
use Rattle.machine_sound.proofs.Values.{lt_true}
use Rattle.table_core.specs.Table.{Contents}
use Rattle.table_core.specs.declared.value.CellId.{CellId}
use Rattle.table_core.specs.declared.value.Value.{Value as Kept}
use Rattle.table_core.specs.declared.value.Value.TheVariants.{Nil}
use Rattle.lua_stack.specs.declared.frame.OpenCell.{OpenCell}
use Rattle.lua_stack.specs.Frames.{HasOpen, KeptStack, RegisterBecomes, TopBecomes, cell_at as open_cell_at, frames, with_pc}
use Rattle.lua_heap.specs.declared.world.Cell.{Cell as KeptCell}
use Rattle.lua_heap.specs.declared.world.Cell.TheVariants.{Open}
use Rattle.lua_heap.specs.Plain.{cell, heap}
use Rattle.lua_heap.specs.Reading.{value}
use Rattle.machine_arms_tables.specs.Frame.{Code}
use Rattle.machine_loop.specs.Running.{Running}
use Rattle.frame_calls.specs.Standing.{RunsAt, standing}
use Rattle.running_frame.specs.Storing.{StandsBelow, StoresOpen, is_store}
use Rattle.running_frame.specs.Upvalues.{ListsOpen}
use Rattle.frame_calls.proofs.Called.{depth_is, held_on, ready_held, standing_is, word_is}
use Rattle.frame_calls.proofs.FrameRows.{own_runs, row_is}
use Rattle.frame_calls.proofs.Held.{frame_is}

pub store_is : (o : Option Opcode) → is_store o ≡ true → o ≡ Some SetUpval
store_is (Some SetUpval) h = refl
store_is _ h = absurd (cc)

-- a write before the last item of a list
set_front : {A : Type 0} (xs : List A) (x y : A) (n : ℕ) → n < length xs → slice_set (xs ++ x ∷ []) n y ≡ slice_set xs n y ++ x ∷ []
set_front [] x y n l = absurd (omega (arith, l))
set_front (z ∷ xs) x y zero l = refl
set_front (z ∷ xs) x y (suc n) l = ap (λ l. z ∷ l) (set_front xs x y n (omega (arith, l)))

-- what the stack becomes

pub open_still : {s t : KeptStack} {co depth upvalue : ℕ} {upvalues : List CellId} {cs : List KeptCell} (o : OpenCell) → ListsOpen co s cs → StandsBelow co upvalues depth cs upvalue o → t.open_cells ≡ s.open_cells → HasOpen t o.frame o.register
open_still o l b e = record { cell = o.cell; is = ap (open_cell_at o.frame o.register) e ∙ l.listed o.cell b.coroutine o.frame o.register b.own b.holds }

pub stored_below : {s t u : KeptStack} {to : ℕ} (pc : ℕ) (o : OpenCell) (v : Kept) → to ≡ pc + 1 → TopBecomes s t (λ f t. with_pc to t) → RegisterBecomes t u o.frame o.register v
    → (f : Kept → Value) → f Nil ≡ known nil → (below : List Frame) (t : LuaFrame) (g : Frame) → frames f s ≡ below ++ lua t ∷ [] → slice_get below o.frame ≡ Some g
    → frames f u ≡ slice_set below o.frame (write_in_frame o.register (f v) g) ++ lua (with_pc (pc + 1) t) ∷ []
stored_below {t = middle} {u = u} {to = to} pc o v behind_is b w f z below t g e there =
    let front : frames f middle ≡ below ++ lua (with_pc to t) ∷ [] = b.top f z below t e in
    let x = write_in_frame o.register (f v) g in
    w.writes f g (ap (λ l. slice_get l o.frame) front ∙ get_push_old below (lua (with_pc to t) ∷ []) o.frame g there)
    ∙ ap (λ l. slice_set l o.frame x) front
    ∙ set_front below (lua (with_pc to t)) x o.frame (get_within below o.frame g there)
    ∙ ap (λ n. slice_set below o.frame x ++ lua (with_pc n t) ∷ []) behind_is

module _ (g : Running) (k : Code) (s : KeptStack) (ts : List Contents) (cs : List KeptCell) (fuel pc : ℕ) (r : RunsAt g k s ts cs fuel pc) (u : KeptStack) (w : Instruction)
    (x : StoresOpen g.around.context.coroutine k.upvalues k.words s u cs pc w) where
  abbrev meant : Kept → Value
  meant = value g.around.texts

  abbrev now : Held
  now = held_on g k s ts cs fuel pc r fuel r.may.top.own

  abbrev register : ℕ
  register = x.variable.register

  -- the variable

  abbrev the_cell : Cell
  the_cell = open_at x.stands.coroutine.0 x.variable.frame register

  frame_there : (f : Frame) × (slice_get g.around.context.below x.variable.frame ≡ Some f)
  frame_there = get_there g.around.context.below x.variable.frame (let d = x.stands.deep in let n = depth_is g k s ts cs fuel pc r in omega (arith, d, n))

  cell_there : slice_get now.cells x.variable.cell.0 ≡ Some the_cell
  cell_there = get_map (cell g.around.texts) cs x.variable.cell.0 (Open x.stands.coroutine x.variable.frame register) x.stands.holds

  cell_is : cell_at g.around.context now (b_of w) ≡ Some (x.variable.cell.0, the_cell)
  cell_is =
      ap (λ ns. bind {A = ℕ} {B = ℕ × Cell} (slice_get ns (b_of w)) (λ n. bind (slice_get now.cells n) (λ c. Some (n, c)))) r.may.closure.upvalues_are
      ∙ ap (λ o. bind {A = ℕ} {B = ℕ × Cell} o (λ n. bind (slice_get now.cells n) (λ c. Some (n, c)))) (get_map (λ (c : CellId). c.0) k.upvalues (b_of w) x.variable.cell x.stands.named)
      ∙ ap (λ o. bind {A = Cell} {B = ℕ × Cell} o (λ c. Some (x.variable.cell.0, c))) cell_there

  has_value : (v : Value) × (read_cell (world g.around.context now) the_cell ≡ Some v)
  has_value =
      let solid = (ready_held g k s ts cs fuel pc r).sound.sound.solid in
      let v = cell_read g.around.primitives (world g.around.context now) solid the_cell (solid.cells x.variable.cell.0 the_cell cell_there) in
      (v.0, v.1)

  -- the value that it gets

  registers_are : map meant x.registers ≡ r.may.top.own.registers
  registers_are = x.are meant g.around.context.below r.may.top r.may.is

  given_is : slice_get r.may.top.own.registers (a_of w) ≡ Some (meant x.value)
  given_is = ap (λ l. slice_get l (a_of w)) (sym registers_are) ∙ get_map meant x.registers (a_of w) x.value x.given

  -- the context after it

  abbrev written : Frame
  written = write_in_frame register (meant x.value) frame_there.0

  abbrev beside : Context
  beside = record g.around.context { below = slice_set g.around.context.below x.variable.frame written }

  stands_beside : Stands beside
  stands_beside = let s = (ready_held g k s ts cs fuel pc r).stands in record { chain = s.chain; there = s.there; function = s.function }

  write_is : write_cell (world g.around.context now) x.variable.cell.0 the_cell (meant x.value) ≡ world beside now
  unfolding write_cell
  write_is =
      let n = x.variable.frame in
      let v = meant x.value in
      let fs = held_frames g.around.context r.may.top.own in
      let there = get_there g.around.context.base.coroutines g.around.context.coroutine (ready_held g k s ts cs fuel pc r).stands.there in
      ap (λ co. elim (slice_get (world g.around.context now).coroutines co) as (λ _. World) [ None ↦ (world g.around.context now) | Some c ↦ record (world g.around.context now) { coroutines = slice_set (world g.around.context now).coroutines co (write_in_coroutine n register v c) } ]) x.stands.own
      ∙ ap (λ (o : Option Coroutine). elim o as (λ _. World) [ None ↦ (world g.around.context now) | Some c ↦ record (world g.around.context now) { coroutines = slice_set (world g.around.context now).coroutines g.around.context.coroutine (write_in_coroutine n register v c) } ])
      (get_set_same g.around.context.base.coroutines g.around.context.coroutine there.0 (in_progress fs) there.1)
      ∙ ap (λ (o : Option Frame). record (world g.around.context now) { coroutines = slice_set (world g.around.context now).coroutines g.around.context.coroutine (elim (bind {A = Frame} {B = List Frame} o (λ f. Some (slice_set fs n (write_in_frame register v f)))) as (λ _. Coroutine) [ None ↦ in_progress fs | Some l ↦ in_progress l ]) })
      (get_push_old g.around.context.below (lua (top g.around.context r.may.top.own) ∷ []) n frame_there.0 frame_there.1)
      ∙ ap (λ (l : List Frame). record (world g.around.context now) { coroutines = slice_set (world g.around.context now).coroutines g.around.context.coroutine (in_progress l) }) (set_front g.around.context.below (lua (top g.around.context r.may.top.own)) written n (get_within g.around.context.below n frame_there.0 frame_there.1))
      ∙ ap (λ (cs : List Coroutine). record (world g.around.context now) { coroutines = cs }) (set_set g.around.context.base.coroutines g.around.context.coroutine (in_progress fs) (in_progress (held_frames beside r.may.top.own)))

  -- the frame goes on after

  abbrev behind : Held
  behind = held_with_pc now (r.may.top.own.pc + 1)

  at_next : (i : Instruction) × (at g.around.context.closure.code (r.may.top.own.pc + 1) ≡ Some i)
  at_next =
      let t = get_there k.words (pc + 1) x.within in
      (t.0, ap (λ n. at g.around.context.closure.code (n + 1)) r.at_pc ∙ ap (λ ws. slice_get ws (pc + 1)) r.may.closure.code.code.words_are ∙ t.1)

  goes_on : run (expand next) (meant x.value ∷ []) (world beside now) ≡ ends go (world beside behind)
  goes_on =
      local_is beside stands_beside at_once next (meant x.value ∷ []) now behind
      (ap (λ (o : Option Instruction). elim o as (λ _. Option Held) [ None ↦ None | Some _ ↦ Some behind ]) at_next.1)

  abbrev stores : ℕ → Text
  stores v = quick (write_upvalue (b_of w) (read v)) (λ _. next)

  frames_are : frames meant u ≡ held_frames beside behind.own
  frames_are =
      let after = λ (t : LuaFrame). slice_set g.around.context.below x.variable.frame written ++ lua t ∷ [] in
      x.becomes meant refl g.around.context.below r.may.top frame_there.0 r.may.is frame_there.1
      ∙ ap (λ n. after (with_pc (n + 1) r.may.top)) (sym r.at_pc)
      ∙ ap after (frame_is (with_pc (r.may.top.own.pc + 1) r.may.top) g.around.context.function behind.own r.may.function r.runs refl)

  pub stored_so : slice_get k.words pc ≡ Some w → Reaches g.around.rows (standing g s ts cs fuel) (standing g u ts cs fuel)
  stored_so word =
      let stands = (ready_held g k s ts cs fuel pc r).stands in
      let v = meant x.value in
      let stepped : step g.around.rows go (world g.around.context now) ≡ ends go (world beside behind) =
      row_is g.around.context stands now w SetUpval (word_is g k s ts cs fuel pc r w word) x.is_store g.around.rows
      ∙ ap (from_world (world g.around.context now)) (
      own_runs g.around.context stands now (read_register (a_of w)) (λ v _. stores v) [] (lt_true (a_of w) (length r.may.top.own.registers) (get_within r.may.top.own.registers (a_of w) v given_is))
      ∙ ap (λ (o : Option Value). run (expand (stores 0)) (elim o as (λ _. Value) [ None ↦ known nil | Some v ↦ v ] ∷ []) (world g.around.context now)) given_is
      ∙ made_is (outside (write_upvalue (b_of w) (read 0))) (λ _ _. expand next) (v ∷ []) (world g.around.context now) (world beside now) [] true
      (quick_move g.around.context stands now (write_upvalue (b_of w) (read 0)) (v ∷ [])
      ∙ ap (λ o. bind o (λ y. bind (read_cell (world g.around.context now) y.1) (λ _. made (write_cell (world g.around.context now) y.0 y.1 v) [] true))) cell_is
      ∙ ap (λ o. bind o (λ _. made (write_cell (world g.around.context now) x.variable.cell.0 the_cell v) [] true)) has_value.1
      ∙ ap (λ W. made W [] true) write_is)
      ∙ goes_on) in (
        1,
        ap (steps g.around.rows 1 go) (standing_is g k s ts cs fuel pc r)
            ∙ ap (λ o. and_then o (steps g.around.rows 0)) stepped
            ∙ ap (ends go) (sym (ap (λ fs. stacked g.around.context.base g.around.context.coroutine fs (heap g.around.texts ts g.string_metatable) (map (cell g.around.texts) cs) fuel []) frames_are)),
      )
