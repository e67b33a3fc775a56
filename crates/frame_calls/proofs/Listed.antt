-- A VARARG that lists all extra arguments, on a stack, is a step of the machine.
use Rattle.std.proofs.Common.{◌≡◌, ℕ, ◌+◌, ◌-◌, List, [], ◌∷◌, ◌++◌, length, map, Option, Some, None, refl, ap, sym, subst, ◌∙◌, arith, true}
use Rattle.std.specs.Prelude.{cond, nat_lt, slice_get}
use Rattle.std.proofs.lemmas.List.{length-map}
use Rattle.code_core.specs.Check.{at}
use Rattle.code_core.specs.Instruction.{a_of, opcode_of}
use Rattle.code_core.specs.declared.instruction.Instruction.{Instruction}
use Rattle.code_core.specs.declared.opcode.Opcode.{Opcode}
use Rattle.code_core.specs.declared.opcode.Opcode.TheVariants.{VarArg}
use Rattle.int_core.specs.Value.{Value, without_last, write_all}
use Rattle.machine_core.specs.World.{running, Activation, LuaFrame, lua}
use Rattle.machine_core.specs.Text.{trap, write_list}
use Rattle.machine_core.specs.InstructionRows.{next, row_of, text_at, text_by, write_values}
use Rattle.machine_core.specs.Moves.{ends, go}
use Rattle.machine_core.specs.MachineStep.{and_then, steps}
use Rattle.machine_focus.specs.Focus.{Held, Reaches, held_own, local, stacked, with_pc as held_with_pc}
use Rattle.machine_focus.proofs.Here.{held_is_step}
use Rattle.machine_sound.proofs.Lists.{get_there, last_splits}
use Rattle.machine_sound.proofs.Values.{lt_true}
use Rattle.table_core.specs.Table.{Contents}
use Rattle.table_core.specs.declared.value.Value.{Value as Kept}
use Rattle.lua_stack.proofs.Ends.{last_same, map_more}
use Rattle.lua_stack.specs.Frames.{HasLuaTop, KeptFrame, KeptLua, KeptStack, TopBecomes, frame_of, frames, kept_lua, with_opened, with_pc, with_registers}
use Rattle.lua_heap.specs.declared.world.Cell.{Cell}
use Rattle.lua_heap.specs.Plain.{cell, heap}
use Rattle.lua_heap.specs.Reading.{value}
use Rattle.machine_arms_tables.specs.Frame.{Code}
use Rattle.machine_loop.specs.Running.{Running}
use Rattle.frame_calls.specs.Listing.{ListsVarargs, is_list}
use Rattle.frame_calls.specs.Returning.{HasKept}
use Rattle.frame_calls.specs.Standing.{RunsAt, standing}
use Rattle.frame_calls.proofs.Called.{held_on, own_now, ready_held, standing_is, word_is}
use Rattle.frame_calls.proofs.Held.{frame_is}
use Rattle.frame_calls.proofs.Takers.{both_changes, frames_there, last_at, top_after}

pub list_is : (o : Option Opcode) → is_list o ≡ true → o ≡ Some VarArg
list_is (Some VarArg) h = refl
list_is _ h = absurd (cc)

-- a Lua frame on top, as it is kept

lua_kept : (f : Kept → Value) (k : KeptFrame) (t : LuaFrame) → frame_of f k ≡ lua t → (u : KeptLua) × (k ≡ kept_lua u)
lua_kept f (kept_lua u) t e = (u, refl)
lua_kept f _ t e = absurd (cc)

pub kept_top : {s : KeptStack} → HasLuaTop s → HasKept s 0
kept_top {s} h =
    let l = frames_there h in
    let z = get_there s.frames (length s.frames - 1) (omega (arith, l)) in
    let front = without_last s.frames in
    let whole = last_splits s.frames z.0 (last_at s.frames z.0 z.1) in
    let both : map (frame_of h.value) front ++ frame_of h.value z.0 ∷ [] ≡ h.below ++ lua h.top ∷ [] = sym (map_more (frame_of h.value) front (z.0 ∷ [])) ∙ ap (map (frame_of h.value)) (sym whole) ∙ h.is in
    let k = lua_kept h.value z.0 h.top (last_same (map (frame_of h.value) front) h.below (frame_of h.value z.0) (lua h.top) both) in
    record { below = front; top = k.0; is = whole ∙ ap (λ k. front ++ k ∷ []) k.1; room = omega arith }

pub written_on_top : {s u : KeptStack} {change : (Kept → Value) → LuaFrame → LuaFrame} → HasLuaTop s → TopBecomes s u change → HasLuaTop u
written_on_top h b = top_after (kept_top h) b

pub goes_behind : {s t u : KeptStack} {register to a : ℕ} (pc : ℕ) → register ≡ a → to ≡ pc + 1 → TopBecomes s t (λ f t. with_opened (length t.own.varargs) (with_registers (write_all register t.own.varargs t.own.registers) t)) → TopBecomes t u (λ f t. with_pc to t)
    → TopBecomes s u (λ f t. with_pc (pc + 1) (with_opened (length t.own.varargs) (with_registers (write_all a t.own.varargs t.own.registers) t)))
goes_behind {s} {t} {u} {to = to} {a = a} pc e n b d =
    subst (λ n. TopBecomes s u (λ f t. with_pc n (with_opened (length t.own.varargs) (with_registers (write_all a t.own.varargs t.own.registers) t)))) n
    (both_changes (subst (λ a. TopBecomes s t (λ f t. with_opened (length t.own.varargs) (with_registers (write_all a t.own.varargs t.own.registers) t))) e b) d)

module _ (g : Running) (k : Code) (s : KeptStack) (ts : List Contents) (cs : List Cell) (fuel pc : ℕ) (r : RunsAt g k s ts cs fuel pc) (u : KeptStack) (w : Instruction) (x : ListsVarargs s u k.words pc w) where
  abbrev read : Kept → Value
  read = value g.around.texts

  abbrev own : Activation
  own = own_now g k s ts cs fuel pc r

  abbrev now : Held
  now = held_on g k s ts cs fuel pc r fuel own

  abbrev after : Activation
  after = record own { registers = write_all (a_of w) own.varargs own.registers; opened = length own.varargs; pc = own.pc + 1 }

  there : nat_lt (a_of w) (length own.registers) ≡ true
  there =
      let many = ap length (sym (x.are read g.around.context.below r.may.top r.may.is)) ∙ length-map x.registers read in
      lt_true (a_of w) (length own.registers) (let l = x.room in omega (arith, l, many))

  at_next : (i : Instruction) × (at g.around.context.closure.code (own.pc + 1) ≡ Some i)
  at_next =
      let t = get_there k.words (pc + 1) x.within in
      (t.0, ap (λ n. at g.around.context.closure.code (n + 1)) r.at_pc ∙ ap (λ ws. slice_get ws (pc + 1)) r.may.closure.code.code.words_are ∙ t.1)

  comes_to : local g.around.context (row_of g.around.context.closure.code own.pc VarArg w) [] now ≡ Some (record now { own = after })
  comes_to =
      let c = g.around.context in
      let listed = held_own c (write_list (a_of w) 0) own.varargs now in
      ap (λ n. local c (write_values (a_of w) n 0) own.varargs now) x.all
      ∙ ap (λ b. cond b (local c next (own.varargs ++ []) listed) None) there
      ∙ ap (λ (o : Option Instruction). elim o as (λ _. Option Held) [ None ↦ None | Some _ ↦ Some (held_with_pc listed (own.pc + 1)) ]) at_next.1

  frames_are : frames read u ≡ g.around.context.below ++ lua (record { function = g.around.context.function; wait = running; own = after }) ∷ []
  frames_are =
      let listed = λ (n : ℕ). with_pc (n + 1) (with_opened (length own.varargs) (with_registers (write_all (a_of w) own.varargs own.registers) r.may.top)) in
      x.becomes.top read refl g.around.context.below r.may.top r.may.is
      ∙ ap (λ n. g.around.context.below ++ lua (listed n) ∷ []) (sym r.at_pc)
      ∙ ap (λ (t : LuaFrame). g.around.context.below ++ lua t ∷ []) (frame_is (listed own.pc) g.around.context.function after r.may.function r.runs refl)

  pub listed_so : slice_get k.words pc ≡ Some w → Reaches g.around.rows (standing g s ts cs fuel) (standing g u ts cs fuel)
  listed_so word =
      let c = g.around.context in
      let p = c.closure.code in
      let text_is : text_at p own.pc ≡ row_of p own.pc VarArg w = ap (λ (o : Option Instruction). elim o [ None ↦ trap | Some w ↦ text_by p own.pc w (opcode_of w) ]) (word_is g k s ts cs fuel pc r w word) ∙ ap (text_by p own.pc w) x.is_vararg in
      let step = held_is_step g.around.primitives g.around.rows c now (record now { own = after }) (ready_held g k s ts cs fuel pc r) (ap (λ t. local c t [] now) text_is ∙ comes_to) in (
        1,
        ap (steps g.around.rows 1 go) (standing_is g k s ts cs fuel pc r)
            ∙ ap (λ o. and_then o (steps g.around.rows 0)) step.0
            ∙ ap (ends go) (sym (ap (λ fs. stacked c.base c.coroutine fs (heap g.around.texts ts g.string_metatable) (map (cell g.around.texts) cs) fuel []) frames_are)),
      )
