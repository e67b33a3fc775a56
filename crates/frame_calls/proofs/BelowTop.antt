-- The frame below the one on top, by what is told of it, and the one on top where nothing in it is open or to be closed.
use Rattle.std.proofs.Common.{◌≡◌, ℕ, ◌+◌, ◌-◌, ◌<◌, ◌≤◌, List, [], ◌∷◌, ◌++◌, length, map, take, Some, None, ap, sym, subst, ◌∙◌, arith, true}
use Rattle.std.specs.Prelude.{nat_le, slice_get}
use Rattle.std.proofs.lemmas.List.{length-map}
use Rattle.code_core.specs.Check.{at}
use Rattle.code_core.specs.declared.instruction.Instruction.{Instruction}
use Rattle.int_core.specs.Value.{Value, last, without_last}
use Rattle.machine_core.specs.World.{close_from, Wait, LuaFrame, lua}
use Rattle.machine_core.specs.Text.{behind, last_pending}
use Rattle.machine_sound.proofs.Values.{le_true}
use Rattle.machine_sound.proofs.Lists.{get_there, last_push, last_splits, without_push}
use Rattle.table_core.specs.Table.{Contents}
use Rattle.table_core.specs.declared.value.FuncId.{FuncId}
use Rattle.table_core.specs.declared.value.Value.{Value as Kept}
use Rattle.lua_stack.proofs.Parts.{map_take}
use Rattle.lua_stack.specs.declared.frame.LuaState.{LuaState}
use Rattle.lua_stack.specs.Frames.{KeptStack, OnTop, frame_of, frames, kept_lua, lua_of, wait_of}
use Rattle.lua_heap.specs.declared.world.Cell.{Cell}
use Rattle.lua_heap.specs.Plain.{cell}
use Rattle.lua_heap.specs.Reading.{value}
use Rattle.machine_arms_tables.specs.Frame.{Code}
use Rattle.machine_loop.specs.Running.{Running}
use Rattle.machine_loop.proofs.Closing.{stays}
use Rattle.frame_calls.specs.Calling.{AreFunctions, KnownFunction, Program}
use Rattle.frame_calls.specs.Returning.{IsCaller, TakesBy}
use Rattle.frame_calls.specs.Standing.{IsClosedFrom, RunsAt}
use Rattle.frame_calls.proofs.Closed.{closes_nothing}
use Rattle.frame_calls.proofs.Takers.{map_more}

-- without its last item, item by item
map_without : {A B : Type 0} (f : A → B) (xs : List A) → map f (without_last xs) ≡ without_last (map f xs)
map_without f xs = map_take f (length xs - 1) xs ∙ ap (λ n. take (n - 1) (map f xs)) (sym (length-map xs f))

module _ (g : Running) (k : Code) (s : KeptStack) (ts : List Contents) (cs : List Cell) (fuel pc : ℕ) (r : RunsAt g k s ts cs fuel pc) where
  module _ (c : LuaState) (x : IsCaller s c) where
    below_read : g.around.context.below ≡ map (frame_of (value g.around.texts)) (without_last s.frames)
    below_read =
        sym (without_push g.around.context.below (lua r.may.top))
        ∙ ap without_last (sym r.may.is)
        ∙ sym (map_without (frame_of (value g.around.texts)) s.frames)

    in_below : last g.around.context.below ≡ Some (lua (lua_of (value g.around.texts) x.frame))
    in_below =
        let lower = map (frame_of (value g.around.texts)) (without_last (without_last s.frames)) in
        ap last (below_read
        ∙ ap (map (frame_of (value g.around.texts))) (last_splits (without_last s.frames) (kept_lua x.frame) x.at)
        ∙ map_more (frame_of (value g.around.texts)) (without_last (without_last s.frames)) (kept_lua x.frame ∷ []))
        ∙ last_push lower (lua (lua_of (value g.around.texts) x.frame))

    splits : g.around.context.below ≡ without_last g.around.context.below ++ lua (lua_of (value g.around.texts) x.frame) ∷ []
    splits = last_splits g.around.context.below (lua (lua_of (value g.around.texts) x.frame)) in_below

    abbrev waits_so : ℕ → Wait Value → LuaFrame
    waits_so n w = record { function = n; wait = w; own = (lua_of (value g.around.texts) x.frame).own }

    -- it waits so
    pub below_waits : g.around.context.below
        ≡ without_last g.around.context.below ++ lua (record { function = c.function.0; wait = wait_of (value g.around.texts) c.wait; own = (lua_of (value g.around.texts) x.frame).own }) ∷ []
    below_waits =
        splits
        ∙ ap (λ (id : FuncId). without_last g.around.context.below ++ lua (waits_so id.0 (wait_of (value g.around.texts) x.frame.wait)) ∷ []) x.knows.function
        ∙ ap (λ w. without_last g.around.context.below ++ lua (waits_so c.function.0 (wait_of (value g.around.texts) w)) ∷ []) x.knows.waits

    -- it is on top of the stack without the frame on top
    pub popped_waits : (popped : KeptStack) → popped.frames ≡ without_last s.frames → frames (value g.around.texts) popped ≡ without_last g.around.context.below ++ lua (lua_of (value g.around.texts) x.frame) ∷ []
    popped_waits popped pops =
        ap (map (frame_of (value g.around.texts))) pops
        ∙ map_without (frame_of (value g.around.texts)) s.frames
        ∙ ap without_last r.may.is
        ∙ without_push g.around.context.below (lua r.may.top)
        ∙ splits

    -- its instruction and the one after it are in the code of its function in the machine's world
    module _ (program : Program) (a : AreFunctions g.around.context.base.functions program) (Takes : List Instruction → Type 0) (takes : TakesBy program c Takes) where
      abbrev pub known_function : KnownFunction g.around.context.base.functions c.function.0 takes.code
      known_function = a.known c.function.0 takes.func takes.code takes.func_there takes.code_there

      abbrev pub waits_at : ℕ
      waits_at = (lua_of (value g.around.texts) x.frame).own.pc

      pub words_are : (n : ℕ) (i : Instruction) → slice_get takes.code.words.items n ≡ Some i → at known_function.function.code n ≡ Some i
      words_are n i e = ap (λ ws. slice_get ws n) (sym known_function.words) ∙ e

      pub at_its_place : (w : Instruction) → slice_get takes.code.words.items c.pc ≡ Some w → at known_function.function.code waits_at ≡ Some w
      at_its_place w e = words_are waits_at w (ap (slice_get takes.code.words.items) x.knows.pc ∙ e)

      module _ (to : ℕ) (next : to ≡ c.pc + 1) (within : to < length takes.code.words.items) where
        abbrev pub behind_it : (i : Instruction) × (slice_get takes.code.words.items to ≡ Some i)
        behind_it = get_there takes.code.words.items to within

        pub to_is : to ≡ waits_at + 1
        to_is = next ∙ ap (λ n. n + 1) (sym x.knows.pc)

        pub at_next : at known_function.function.code (waits_at + 1) ≡ Some behind_it.0
        at_next = words_are (waits_at + 1) behind_it.0 (ap (slice_get takes.code.words.items) (sym to_is) ∙ behind_it.1)

  -- the frame on top

  module _ (registers : List Kept) (are : OnTop s (λ f t. map f registers ≡ t.own.registers)) where
    pub top_registers : map (value g.around.texts) registers ≡ r.may.top.own.registers
    top_registers = are (value g.around.texts) g.around.context.below r.may.top r.may.is

    pub values_there : (from count : ℕ) → behind from count ≤ length registers → nat_le (behind from count) (length r.may.top.own.registers) ≡ true
    values_there from count room =
        le_true (behind from count) (length r.may.top.own.registers)
        (subst (λ n. behind from count ≤ n) (sym (length-map registers (value g.around.texts)) ∙ ap length top_registers) room)

  module _ (closed : IsClosedFrom s 0) where
    pub nothing_pending : last_pending 0 r.may.top.own.pending ≡ None
    nothing_pending = closed.pending (value g.around.texts) g.around.context.below r.may.top r.may.is

    pub nothing_closed : close_from g.around.context.coroutine (length g.around.context.below) 0 r.may.top.own.registers (map (cell g.around.texts) cs) ≡ map (cell g.around.texts) cs
    nothing_closed = stays g.around cs 0 0 (closes_nothing g k s ts cs fuel r.may (Some 0) closed) (omega arith) r.may.top.own.registers
