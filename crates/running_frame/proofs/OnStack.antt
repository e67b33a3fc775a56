-- The frame on top of a stack: what the loop over it supposes, and what the loop has done to the stack.
use Rattle.std.proofs.Common.{◌≡◌, ℕ, ◌<◌, List, [], ◌∷◌, ◌++◌, length, map, refl, ap, sym, subst, ◌∙◌, arith}
use Rattle.std.proofs.lemmas.List.{length-map}
use Rattle.int_core.specs.Value.{Value}
use Rattle.machine_core.specs.World.{running, Activation, LuaFrame, Frame, lua}
use Rattle.machine_focus.specs.Focus.{stacked, Reaches}
use Rattle.machine_focus.specs.Law.{IsReady as IsHeldReady}
use Rattle.table_core.specs.Table.{Contents}
use Rattle.table_core.specs.declared.value.Value.{Value as Kept}
use Rattle.lua_stack.specs.Frames.{KeptStack, cell_at, frames, HasLuaTop, OnTop, TopBecomes, with_pc, with_registers}
use Rattle.lua_stack.specs.Lending.{with_top}
use Rattle.lua_stack.proofs.Lent.{lent_becomes}
use Rattle.lua_heap.specs.declared.world.Cell.{Cell}
use Rattle.lua_heap.specs.Plain.{heap, cell}
use Rattle.lua_heap.specs.Reading.{value}
use Rattle.machine_view.specs.View.{whole}
use Rattle.machine_view.proofs.Here.{ready_is_at}
use Rattle.machine_arms_tables.specs.Frame.{AreOpenAlike, Code, moment, IsReadyAt, RunsTo}
use Rattle.machine_loop.specs.Running.{Running}
use Rattle.machine_loop.proofs.Alike.{still_open}
use Rattle.frame_calls.specs.Standing.{standing, MayRun, RunsAt}
use Rattle.frame_calls.proofs.Held.{reaches_by, frame_is, activation_is}

module _ (g : Running) (k : Code) (s : KeptStack) (ts : List Contents) (cs : List Cell) (fuel : ℕ) (m : MayRun g k s ts cs fuel) (r : List Kept) (pc : ℕ) (waits : m.top.wait ≡ running)
    (at : pc ≡ m.top.own.pc) (registers : map (value g.around.texts) r ≡ m.top.own.registers) where
  abbrev own_with : (registers : List Kept) → (pc : ℕ) → Activation
  own_with q to = record { pc = to; registers = map (value g.around.texts) q; varargs = g.around.varargs; pending = g.around.pending; opened = g.around.opened }

  own_is : m.top.own ≡ own_with r pc
  own_is = activation_is m.top.own pc (map (value g.around.texts) r) g.around.varargs g.around.pending g.around.opened (sym at) (sym registers) m.varargs m.pending m.opened

  pub loop_ready : IsReadyAt g.around g.string_metatable k (moment ts cs r pc fuel)
  loop_ready = record {
    ready = record {
      code = m.closure.code;
      frame = subst (λ own. IsHeldReady g.around.primitives g.around.rows g.around.context (record { heap = heap g.around.texts ts g.string_metatable; cells = map (cell g.around.texts) cs; fuel = fuel; own = own })) own_is (m.ready waits);
    };
    upvalues_are = m.closure.upvalues_are;
    texts_are = m.closure.texts_are;
  }

  -- its frames are those of the world that is held apart
  pub frames_are : frames (value g.around.texts) s ≡ g.around.context.below ++ lua (record { function = g.around.context.function; wait = running; own = own_with r pc }) ∷ []
  frames_are = m.is ∙ ap (λ (t : LuaFrame). g.around.context.below ++ lua t ∷ []) (frame_is m.top g.around.context.function (own_with r pc) m.function waits own_is)

  -- other values in its registers

  lent_length : (w : List Kept) → OnTop s (λ f t. map f r ≡ t.own.registers) → length w ≡ length r → (f : Kept → Value) (below : List Frame) (t : LuaFrame) → frames f s ≡ below ++ lua t ∷ [] → length w ≡ length t.own.registers
  lent_length w o l f below t e = l ∙ sym (length-map r f) ∙ ap length (o f below t e)

  pub rewritten : (w : List Kept) → OnTop s (λ f t. map f r ≡ t.own.registers) → length w ≡ length r
      → frames (value g.around.texts) (with_top s w) ≡ g.around.context.below ++ lua (with_registers (map (value g.around.texts) w) m.top) ∷ []
  rewritten w o l = (lent_becomes s w (lent_length w o l)).top (value g.around.texts) refl g.around.context.below m.top m.is

  stays_on_top : (w : List Kept) → OnTop s (λ f t. map f r ≡ t.own.registers) → length w ≡ length r → HasLuaTop (with_top s w)
  stays_on_top w o l = record { value = value g.around.texts; below = g.around.context.below; top = with_registers (map (value g.around.texts) w) m.top; is = rewritten w o l }

  -- what the loop has done to the stack
  pub loop_reaches : (u : KeptStack) (ts' : List Contents) (cs' : List Cell) (q : List Kept) (to left : ℕ) → RunsTo g.around g.string_metatable (moment ts cs r pc fuel) (moment ts' cs' q to left)
      → frames (value g.around.texts) u ≡ g.around.context.below ++ lua (with_pc to (with_registers (map (value g.around.texts) q) m.top)) ∷ []
      → Reaches g.around.rows (standing g s ts cs fuel) (standing g u ts' cs' left)
  loop_reaches u ts' cs' q to left x b = reaches_by g.around.rows before after x
    where
      on_top : (t : LuaFrame) (own : Activation) → t.function ≡ m.top.function → t.wait ≡ m.top.wait → t.own ≡ own
          → g.around.context.below ++ lua t ∷ [] ≡ g.around.context.below ++ lua (record { function = g.around.context.function; wait = running; own = own }) ∷ []
      on_top t own f w o = ap (λ (t : LuaFrame). g.around.context.below ++ lua t ∷ []) (frame_is t g.around.context.function own (f ∙ m.function) (w ∙ waits) o)

      moved : LuaFrame
      moved = with_pc to (with_registers (map (value g.around.texts) q) m.top)

      before : standing g s ts cs fuel ≡ whole g.around (heap g.around.texts ts g.string_metatable) (map (cell g.around.texts) cs) r pc fuel
      before =
          ap (λ fs. stacked g.around.context.base g.around.context.coroutine fs (heap g.around.texts ts g.string_metatable) (map (cell g.around.texts) cs) fuel [])
          (m.is ∙ on_top m.top (own_with r pc) refl refl own_is)

      after : whole g.around (heap g.around.texts ts' g.string_metatable) (map (cell g.around.texts) cs') q to left ≡ standing g u ts' cs' left
      after =
          ap (λ fs. stacked g.around.context.base g.around.context.coroutine fs (heap g.around.texts ts' g.string_metatable) (map (cell g.around.texts) cs') left [])
          (sym (b ∙ on_top moved (own_with q to) refl refl
          (activation_is moved.own to (map (value g.around.texts) q) g.around.varargs g.around.pending g.around.opened refl refl m.varargs m.pending m.opened)))

  -- where it runs then
  pub runs_at : (u : KeptStack) (ts' : List Contents) (cs' : List Cell) (q : List Kept) (to left : ℕ) → IsReadyAt g.around g.string_metatable k (moment ts' cs' q to left)
      → frames (value g.around.texts) u ≡ g.around.context.below ++ lua (with_pc to (with_registers (map (value g.around.texts) q) m.top)) ∷ [] → u.open_cells ≡ s.open_cells → AreOpenAlike cs cs'
      → RunsAt g k u ts' cs' left to
  runs_at u ts' cs' q to left h b l a = record {
    may = record {
      top = moved;
      is = b;
      function = m.function;
      varargs = m.varargs;
      pending = m.pending;
      opened = m.opened;
      within = (ready_is_at g.around _ _ _ _ _ _ _ h.ready).there;
      closure = m.closure;
      listed = λ id co frame register own there. ap (cell_at frame register) l ∙ m.listed id co frame register own (still_open cs' cs (sym a) id.0 co frame register there);
      ready = λ w. subst (λ own. IsHeldReady g.around.primitives g.around.rows g.around.context (record { heap = heap g.around.texts ts' g.string_metatable; cells = map (cell g.around.texts) cs'; fuel = left; own = own })) (sym own_moved) h.ready.frame;
    };
    runs = waits;
    at_pc = refl;
  }
    where
      moved : LuaFrame
      moved = with_pc to (with_registers (map (value g.around.texts) q) m.top)

      own_moved : moved.own ≡ own_with q to
      own_moved = activation_is moved.own to (map (value g.around.texts) q) g.around.varargs g.around.pending g.around.opened refl refl m.varargs m.pending m.opened

-- a frame that runs is at a word of its code
pub place_within : {g : Running} {k : Code} {s : KeptStack} {ts : List Contents} {cs : List Cell} {fuel pc : ℕ} → RunsAt g k s ts cs fuel pc → pc < length k.words
place_within x = let l = x.may.within in let e = x.at_pc in omega (arith, l, e)

-- a frame that runs, once other values are in its registers

module _ {g : Running} {k : Code} {s : KeptStack} {ts : List Contents} {cs : List Cell} {fuel pc : ℕ} (x : RunsAt g k s ts cs fuel pc) (r w : List Kept) (lent : OnTop s (λ f t. map f r ≡ t.own.registers)) (long : length w ≡ length r) where
  values_are : map (value g.around.texts) r ≡ x.may.top.own.registers
  values_are = lent (value g.around.texts) g.around.context.below x.may.top x.may.is

  -- it is still on top
  pub stays_so : HasLuaTop (with_top s w)
  stays_so = stays_on_top g k s ts cs fuel x.may r pc x.runs (sym x.at_pc) values_are w lent long

  -- and what the loop has done, where its place is set after that
  module _ (u : KeptStack) (ts' : List Contents) (cs' : List Cell) (to left : ℕ) (b : TopBecomes (with_top s w) u (λ f t. with_pc to t)) where
    set_behind : frames (value g.around.texts) u ≡ g.around.context.below ++ lua (with_pc to (with_registers (map (value g.around.texts) w) x.may.top)) ∷ []
    set_behind =
        b.top (value g.around.texts) refl g.around.context.below (with_registers (map (value g.around.texts) w) x.may.top) (rewritten g k s ts cs fuel x.may r pc x.runs (sym x.at_pc) values_are w lent long)

    pub round_reaches : RunsTo g.around g.string_metatable (moment ts cs r pc fuel) (moment ts' cs' w to left) → Reaches g.around.rows (standing g s ts cs fuel) (standing g u ts' cs' left)
    round_reaches h = loop_reaches g k s ts cs fuel x.may r pc x.runs (sym x.at_pc) values_are u ts' cs' w to left h set_behind

    pub round_runs : IsReadyAt g.around g.string_metatable k (moment ts' cs' w to left) → AreOpenAlike cs cs' → RunsAt g k u ts' cs' left to
    round_runs h a = runs_at g k s ts cs fuel x.may r pc x.runs (sym x.at_pc) values_are u ts' cs' w to left h set_behind b.cells a
