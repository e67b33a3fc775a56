-- Frame after frame of one stack, apart from the world in memory: what each supposes, and what becomes of the world that they stand for.
use Rattle.std.proofs.Common.{◌≡◌, ℕ, List, [], length, map, refl, ap, sym, subst, ◌∙◌}
use Rattle.std.specs.Prelude.{slice_set}
use Rattle.int_core.specs.Value.{last}
use Rattle.machine_core.specs.Moves.{go}
use Rattle.machine_focus.specs.Focus.{Reaches}
use Rattle.machine_focus.proofs.Places.{set_set}
use Rattle.library_rows.specs.Library.{all_entries}
use Rattle.object_pool.specs.Pool.{Pool}
use Rattle.table_core.specs.Table.{Contents}
use Rattle.table_core.specs.declared.value.CoroId.{CoroId}
use Rattle.lua_stack.specs.Frames.{HasLuaTop, KeptStack}
use Rattle.lua_heap.specs.declared.codes.Codes.{Codes}
use Rattle.lua_heap.specs.declared.world.Cell.{Cell}
use Rattle.lua_heap.specs.declared.world.Coro.TheVariants.{Running as CoroRuns}
use Rattle.lua_heap.specs.declared.world.Func.{Func}
use Rattle.lua_heap.specs.declared.world.World.{World as Memory}
use Rattle.lua_heap.specs.Cells.{open_cells_in}
use Rattle.lua_heap.specs.Plain.{plain}
use Rattle.machine_arms_tables.specs.Frame.{AreOpenAlike}
use Rattle.machine_loop.specs.Running.{Running}
use Rattle.move_laws.specs.Memory.{ChangesStack, InOrder, Runs}
use Rattle.move_laws.proofs.Order.{lists_same, order_after}
use Rattle.move_laws.proofs.Running.{lua_top}
use Rattle.machine_moves.proofs.OnTop.{kept_whole, runs_after}
use Rattle.machine_moves.proofs.Stacks.{with_stack}
use Rattle.step_laws.specs.Steps.{IsReady}
use Rattle.running_frame.specs.Crossing.{Ground, Grounds, MayCross, one_or_any, runs_on, world_with}
use Rattle.frame_calls.specs.Standing.{standing}
use Rattle.running_frame.specs.Apart.{IsApart, held_apart}
use Rattle.running_frame.proofs.Apart.{apart_there, listed_alike, ready_there, went_so, with_parts}

module _ (n : Ground) (texts : List (List ℕ)) (funcs : Pool Func) (codes : Codes) (tables : Pool Contents) (cells : Pool Cell) (s : KeptStack) (m : MayCross n (world_with n s texts funcs codes tables cells) s) where
  abbrev now : Memory
  now = world_with n s texts funcs codes tables cells

  abbrev g : Running
  g = held_apart (length all_entries) n.rows now

  -- the frame on top is held apart
  pub apart_so : IsApart g now
  apart_so = apart_there (length all_entries) n.rows now m.safe m.ready m.still

  pub top_there : HasLuaTop s
  top_there = lua_top now (runs_on n) s apart_so.place m.runs apart_so.is

  -- once it has run, and another frame is on top

  module _ (ts : Pool Contents) (cs : Pool Cell) (u : KeptStack) (fuel left : ℕ) (opened : AreOpenAlike cells.objects cs.objects) (listed : u.open_cells ≡ s.open_cells)
      (x : Reaches n.rows (standing g s tables.objects cells.objects fuel) (standing g u ts.objects cs.objects left)) where
    abbrev after : Memory
    after = world_with n u texts funcs codes ts cs

    slot : slice_set n.world.coros.objects (runs_on n).0 (CoroRuns u) ≡ slice_set now.coros.objects (runs_on n).0 (CoroRuns u)
    slot = sym (set_set n.world.coros.objects (runs_on n).0 (CoroRuns s) (CoroRuns u))

    changes : ChangesStack (with_parts now ts cs) after (runs_on n) u
    changes = record { rest = refl; objects = slot }

    pub reaches_after : Reaches n.rows (plain now fuel) (plain after left)
    reaches_after = went_so g now apart_so (runs_on n) s m.runs ts cs after u fuel left changes x

    in_order : InOrder after
    in_order =
        order_after m.ready.order refl refl (listed_alike now after opened (ap (map open_cells_in) slot ∙ lists_same now.coros.objects (runs_on n).0 s u m.runs.there listed) m.ready.order.listed)

    pub may_after : MayCross n after u
    may_after = record {
      safe = m.safe;
      ready = ready_there (length all_entries) n.rows now after fuel left m.safe m.ready in_order reaches_after;
      still = m.still;
      runs = runs_after (with_parts now ts cs) after (runs_on n) s u (record { chain = m.runs.chain; there = m.runs.there }) changes;
    }

-- the world in which the stack is found

module _ (n : Ground) (W : Memory) (k : Grounds n W) (co : CoroId) (s : KeptStack) (r : Runs W co s) where
  same_co : runs_on n ≡ co
  same_co = ap (λ (W : Memory). one_or_any (last W.chain.items)) k.is ∙ ap one_or_any r.chain

  pub own_co : co ≡ runs_on n
  own_co = sym same_co

  with_own : (u : KeptStack) (ts : Pool Contents) (cs : Pool Cell) → world_with n u W.strings W.funcs W.codes ts cs ≡ with_stack (with_parts W ts cs) co u
  with_own u ts cs =
      ap (λ (B : Memory). record B { strings = W.strings; funcs = W.funcs; codes = W.codes; tables = ts; cells = cs; coros = record B.coros { objects = slice_set B.coros.objects (runs_on n).0 (CoroRuns u) } }) k.is
      ∙ ap (λ (c : CoroId). with_stack (with_parts W ts cs) c u) same_co

  own_is : world_with n s W.strings W.funcs W.codes W.tables W.cells ≡ W
  own_is = with_own s W.tables W.cells ∙ kept_whole W co s s r refl

  pub begins_so : MayCross n (world_with n s W.strings W.funcs W.codes W.tables W.cells) s
  begins_so = record {
    safe = k.safe;
    ready = subst (λ (V : Memory). IsReady (length all_entries) go V) (sym own_is) k.ready;
    still = subst (λ (V : Memory). V.moving.items ≡ []) (sym own_is) k.still;
    runs = subst (λ (V : Memory). Runs V (runs_on n) s) (sym own_is) (subst (λ (c : CoroId). Runs W c s) (sym same_co) r);
  }

  pub reaches_so : (ts : Pool Contents) (cs : Pool Cell) (u : KeptStack) (fuel left : ℕ)
      → Reaches n.rows (plain (world_with n s W.strings W.funcs W.codes W.tables W.cells) fuel) (plain (world_with n u W.strings W.funcs W.codes ts cs) left)
      → Reaches n.rows (plain W fuel) (plain (with_stack (with_parts W ts cs) co u) left)
  reaches_so ts cs u fuel left x =
      subst (λ (V : Memory). Reaches n.rows (plain W fuel) (plain V left)) (with_own u ts cs)
      (subst (λ (V : Memory). Reaches n.rows (plain V fuel) (plain (world_with n u W.strings W.funcs W.codes ts cs) left)) own_is x)

  pub ready_so : (ts : Pool Contents) (cs : Pool Cell) (u : KeptStack) → MayCross n (world_with n u W.strings W.funcs W.codes ts cs) u → IsReady (length all_entries) go (with_stack (with_parts W ts cs) co u)
  ready_so ts cs u m = subst (λ (V : Memory). IsReady (length all_entries) go V) (with_own u ts cs) m.ready
