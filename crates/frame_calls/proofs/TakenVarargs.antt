-- A VARARG that takes at most two extra arguments, on a stack, is a step of the machine.
use Rattle.std.proofs.Common.{◌≡◌, inl, inr, ℕ, suc, ◌+◌, ◌≤◌, List, [], ◌∷◌, ◌++◌, length, map, Option, Some, None, refl, ap, sym, ◌∙◌, arith, true}
use Rattle.std.specs.Prelude.{cond, nat_le, slice_get}
use Rattle.std.proofs.lemmas.List.{length-map}
use Rattle.code_core.specs.Check.{at}
use Rattle.code_core.specs.Instruction.{a_of, c_of, opcode_of}
use Rattle.code_core.specs.declared.instruction.Instruction.{Instruction}
use Rattle.code_core.specs.declared.opcode.Opcode.TheVariants.{VarArg}
use Rattle.int_core.specs.Value.{Value, known, nil, range, write_all}
use Rattle.machine_core.specs.World.{running, Activation, LuaFrame, lua}
use Rattle.machine_core.specs.Text.{behind, trap, write_registers}
use Rattle.machine_core.specs.InstructionRows.{next, row_of, text_at, text_by, write_values}
use Rattle.machine_core.specs.Moves.{ends, go}
use Rattle.machine_core.specs.MachineStep.{and_then, steps}
use Rattle.machine_focus.specs.Focus.{Held, Reaches, held_own, local, stacked, with_pc as held_with_pc}
use Rattle.machine_focus.proofs.Here.{held_is_step}
use Rattle.machine_sound.proofs.Lists.{get_there}
use Rattle.machine_sound.proofs.Values.{le_true}
use Rattle.table_core.specs.Table.{Contents}
use Rattle.table_core.specs.declared.value.Value.{Value as Kept}
use Rattle.lua_stack.specs.Frames.{HasLuaTop, KeptStack, OnTop, TopBecomes, frame_of, frames, lua_of, with_pc, with_registers, with_wait}
use Rattle.lua_heap.specs.declared.world.Cell.{Cell}
use Rattle.lua_heap.specs.Plain.{cell, heap}
use Rattle.lua_heap.specs.Reading.{value}
use Rattle.machine_arms_tables.specs.Frame.{Code}
use Rattle.machine_loop.specs.Running.{Running}
use Rattle.frame_calls.specs.declared.returning.Given.{Given}
use Rattle.frame_calls.specs.Listing.{TakesVarargs, WritesVarargs}
use Rattle.frame_calls.specs.Returning.{AreFirst, HasKept, taken}
use Rattle.frame_calls.specs.Standing.{RunsAt, standing}
use Rattle.frame_calls.proofs.Called.{behind_within, held_on, ready_held, standing_is, word_is}
use Rattle.frame_calls.proofs.Calls.{taken_is}
use Rattle.frame_calls.proofs.Held.{frame_is}
use Rattle.frame_calls.proofs.Listed.{kept_top, listed_so}
use Rattle.frame_calls.proofs.Takers.{top_by, two_range}

-- a frame that has registers has them as they are kept
pub kept_room : {s : KeptStack} (n : ℕ) (registers : List Kept) → HasLuaTop s → OnTop s (λ f t. map f registers ≡ t.own.registers) → n ≤ length registers → HasKept s n
kept_room {s} n registers h are l =
    let k = kept_top h in
    let as_nil : Kept → Value = λ v. known nil in
    let e : length (map as_nil registers) ≡ length (map as_nil k.top.registers) = ap length (are as_nil (map (frame_of as_nil) k.below) (lua_of as_nil k.top) (top_by k as_nil)) in
    let m = length-map k.top.registers as_nil in
    let o = length-map registers as_nil in
    record { below = k.below; top = k.top; is = k.is; room = omega (arith, e, m, o, l) }

-- at most two of the extra arguments are the first two of them
pub takes_behind : (s u : KeptStack) (register count to a pc : ℕ) (g : Given) (values : List Kept) → register ≡ a → to ≡ pc + 1 → count ≤ 2 → OnTop s (λ f t. map f values ≡ t.own.varargs) → AreFirst (λ f. map f values) g
    → TopBecomes s u (λ f t. taken (record { register = register; count = count; to = to }) (f g.first) (f g.second) t)
    → TopBecomes s u (λ f t. with_pc (pc + 1) (with_wait running (with_registers (write_all a (range 0 count t.own.varargs) t.own.registers) t)))
takes_behind s u register count to a pc g values e n few are first b = record {
  top = λ f z below t h.
      b.top f z below t h
      ∙ ap (λ vs. below ++ lua (with_pc to (with_wait running (with_registers (write_all register vs t.own.registers) t))) ∷ [])
      (sym (two_range (map f values) (f g.first) (f g.second) (first f z) count few) ∙ ap (range 0 count) (are f below t h))
      ∙ ap (λ r. below ++ lua (with_pc to (with_wait running (with_registers (write_all r (range 0 count t.own.varargs) t.own.registers) t))) ∷ []) e
      ∙ ap (λ m. below ++ lua (with_pc m (with_wait running (with_registers (write_all a (range 0 count t.own.varargs) t.own.registers) t))) ∷ []) n;
  cells = b.cells;
}

module _ (g : Running) (k : Code) (s : KeptStack) (ts : List Contents) (cs : List Cell) (fuel pc : ℕ) (r : RunsAt g k s ts cs fuel pc) (u : KeptStack) (w : Instruction) (x : TakesVarargs s u k.words pc w) where
  abbrev read : Kept → Value
  read = value g.around.texts

  abbrev now : Held
  now = held_on g k s ts cs fuel pc r fuel r.may.top.own

  abbrev after : Activation
  after = record r.may.top.own { registers = write_all (a_of w) (range 0 x.count r.may.top.own.varargs) r.may.top.own.registers; pc = r.may.top.own.pc + 1 }

  wanted : (opcode_of w ≡ Some VarArg) × (c_of w ≡ suc x.count)
  wanted = taken_is (opcode_of w) (c_of w) x.count x.is

  there : nat_le (behind (a_of w) x.count) (length r.may.top.own.registers) ≡ true
  there =
      let many = ap length (sym (x.are read g.around.context.below r.may.top r.may.is)) ∙ length-map x.registers read in
      le_true (behind (a_of w) x.count) (length r.may.top.own.registers) (behind_within (a_of w) x.count (length r.may.top.own.registers) (let l = x.room in omega (arith, l, many)))

  at_next : (i : Instruction) × (at g.around.context.closure.code (r.may.top.own.pc + 1) ≡ Some i)
  at_next =
      let t = get_there k.words (pc + 1) x.within in
      (t.0, ap (λ n. at g.around.context.closure.code (n + 1)) r.at_pc ∙ ap (λ ws. slice_get ws (pc + 1)) r.may.closure.code.code.words_are ∙ t.1)

  comes_to : local g.around.context (row_of g.around.context.closure.code r.may.top.own.pc VarArg w) [] now ≡ Some (record now { own = after })
  comes_to =
      let c = g.around.context in
      let took = held_own c (write_registers (a_of w) x.count 0) r.may.top.own.varargs now in
      ap (λ n. local c (write_values (a_of w) n 0) r.may.top.own.varargs now) wanted.1
      ∙ ap (λ b. cond b (local c next (r.may.top.own.varargs ++ []) took) None) there
      ∙ ap (λ (o : Option Instruction). elim o as (λ _. Option Held) [ None ↦ None | Some _ ↦ Some (held_with_pc took (r.may.top.own.pc + 1)) ]) at_next.1

  frames_are : frames read u ≡ g.around.context.below ++ lua (record { function = g.around.context.function; wait = running; own = after }) ∷ []
  frames_are =
      let took = λ (n : ℕ). with_pc (n + 1) (with_wait running (with_registers (write_all (a_of w) (range 0 x.count r.may.top.own.varargs) r.may.top.own.registers) r.may.top)) in
      x.becomes.top read refl g.around.context.below r.may.top r.may.is
      ∙ ap (λ n. g.around.context.below ++ lua (took n) ∷ []) (sym r.at_pc)
      ∙ ap (λ (t : LuaFrame). g.around.context.below ++ lua t ∷ []) (frame_is (took r.may.top.own.pc) g.around.context.function after r.may.function refl refl)

  pub taken_varargs_so : slice_get k.words pc ≡ Some w → Reaches g.around.rows (standing g s ts cs fuel) (standing g u ts cs fuel)
  taken_varargs_so word =
      let c = g.around.context in
      let p = c.closure.code in
      let text_is : text_at p r.may.top.own.pc ≡ row_of p r.may.top.own.pc VarArg w = ap (λ (o : Option Instruction). elim o [ None ↦ trap | Some w ↦ text_by p r.may.top.own.pc w (opcode_of w) ]) (word_is g k s ts cs fuel pc r w word) ∙ ap (text_by p r.may.top.own.pc w) wanted.0 in
      let step = held_is_step g.around.primitives g.around.rows c now (record now { own = after }) (ready_held g k s ts cs fuel pc r) (ap (λ t. local c t [] now) text_is ∙ comes_to) in (
        1,
        ap (steps g.around.rows 1 go) (standing_is g k s ts cs fuel pc r)
            ∙ ap (λ o. and_then o (steps g.around.rows 0)) step.0
            ∙ ap (ends go) (sym (ap (λ fs. stacked c.base c.coroutine fs (heap g.around.texts ts g.string_metatable) (map (cell g.around.texts) cs) fuel []) frames_are)),
      )

-- one or the other
pub written_varargs_so : (g : Running) (k : Code) (s : KeptStack) (ts : List Contents) (cs : List Cell) (fuel pc : ℕ) → RunsAt g k s ts cs fuel pc → (u : KeptStack) (w : Instruction) → WritesVarargs s u k.words pc w → slice_get k.words pc ≡ Some w
    → Reaches g.around.rows (standing g s ts cs fuel) (standing g u ts cs fuel)
written_varargs_so g k s ts cs fuel pc r u w (inl x) word = listed_so g k s ts cs fuel pc r u w x word
written_varargs_so g k s ts cs fuel pc r u w (inr x) word = taken_varargs_so g k s ts cs fuel pc r u w x word
