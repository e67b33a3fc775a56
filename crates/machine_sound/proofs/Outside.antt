-- Moves of a Lua frame on top that leave the coroutines and their cells: operations, new tables, lists put into tables, costs, and what moves.
use Rattle.std.proofs.Common.{ℕ, zero, suc, ◌<◌, ◌≡◌, List, [], ◌∷◌, ◌++◌, Option, Some, None, refl, subst, ap, ◌∙◌, length, drop, arith, Bool, true, false, length-append}
use Rattle.std.specs.Prelude.{slice_get, slice_set, not}
use Rattle.int_core.specs.Value.{Value, object, a_table, is_object, shape, last, is_nil}
use Rattle.int_core.specs.Heap.{Table, Heap, filled, filled_table, add_table}
use Rattle.int_core.specs.Operations.{Operation, Settled, found, ask, fault, cannot_arise, does, handler_in, of_close}
use Rattle.machine_core.specs.World.{Function, World, place_of}
use Rattle.machine_core.specs.Text.{Arg, read, written, arg, args_of, Quick, make_table, fill_table, pay}
use Rattle.machine_core.specs.Moves.{outside, settle, find_close, is_closable, take_moving, Made, made, move, do_outside, settled}
use Rattle.machine_sound.specs.Sound.{Each, sizes, Valid, TableOk, FunctionOk, CoroutineOk, CellOk, Solid, Top, RunsOrWaits, TopIs}
use Rattle.machine_sound.specs.Safe.{on_lua, Is, TopReady, QuickReady, has_found, asks_for, fails_with, MoveGood}
use Rattle.machine_sound.proofs.Lists.{each_none, each_cons, each_one, each_push, each_set, each_drop, each_on, bind_at, get_there, length_set}
use Rattle.machine_sound.proofs.Values.{args_valid, arg_valid, count_args, nth_ok}
use Rattle.machine_sound.proofs.Grow.{Grows, grows_self, values_on, table_on, function_on, coroutine_on, cell_on, roots_on, lua_waits_on, each_waits_on}
use Rattle.machine_sound.proofs.Heaps.{HeapOk, HeapStays, does_ok, closer_ok, SettledOk}
use Rattle.machine_sound.proofs.TableRows.{filled_has}
use Rattle.machine_sound.proofs.Frames.{the_place, place_is}
use Rattle.machine_sound.proofs.Moves.{made_so}
use Rattle.machine_sound.proofs.Tops.{same_top}

-- the world with another heap, other functions, other values on their way and other fuel
abbrev pub with_outside : World → Heap → List Function → List Value → ℕ → World
with_outside W H functions moving fuel = record W { heap = H; functions = functions; moving = moving; fuel = fuel }

pub heap_of : (n : ℕ) (W : World) → Solid n W → HeapOk (sizes n W) W.heap
heap_of n W s = record { tables = s.tables; count = refl; metatable = s.roots.string_metatable }

pub record OutsideOk (n : ℕ) (W V : World) : Type 0 where
  pub grows : Grows (sizes n W) (sizes n V)
  pub tables : Each (TableOk (sizes n V)) V.heap.tables
  pub metatable : W.heap.string_metatable ≡ V.heap.string_metatable
  pub functions : Each (FunctionOk (sizes n V)) V.functions
  pub moving : Each (Valid (sizes n V)) V.moving

module _ (n : ℕ) (W : World) (H : Heap) (functions : List Function) (moving : List Value) (fuel : ℕ) (o : OutsideOk n W (with_outside W H functions moving fuel)) where
  abbrev V : World
  V = with_outside W H functions moving fuel

  pub outside_solid : Solid n W → Solid n (with_outside W H functions moving fuel)
  outside_solid s = record {
    tables = o.tables;
    functions = o.functions;
    cells = each_on (CellOk (sizes n W) W.coroutines) (CellOk (sizes n V) W.coroutines) (cell_on (sizes n W) (sizes n V) o.grows W.coroutines) W.cells s.cells;
    one_each = s.one_each;
    coroutines = each_on (CoroutineOk (sizes n W)) (CoroutineOk (sizes n V)) (coroutine_on (sizes n W) (sizes n V) o.grows) W.coroutines s.coroutines;
    chain = s.chain;
    moving = o.moving;
    roots = roots_on (sizes n W) (sizes n V) o.grows W V s.roots refl refl refl refl refl o.metatable;
  }

  pub outside_top : (t : Top) → TopIs n t W → TopIs n t (with_outside W H functions moving fuel)
  outside_top t h =
      same_top n t W V h t.pending t.cells t.captured h.last h.frames (o.grows.functions h.top.function h.function h.there)
      (each_waits_on (sizes n W) (sizes n V) o.grows h.base h.below) h.pending h.cells h.captured (waits t.runs h.wait)
    where
      waits : (b : Bool) → RunsOrWaits b (sizes n W) h.top → RunsOrWaits b (sizes n V) h.top
      waits true k = k
      waits false k = lua_waits_on (sizes n W) (sizes n V) o.grows h.top k

-- other tables, as many
pub stays_ok : (n : ℕ) (W : World) (K : Heap) (moving : List Value) (fuel : ℕ) → Solid n W → HeapStays (sizes n W) W.heap K → Each (Valid (sizes n W)) moving → OutsideOk n W (with_outside W K W.functions moving fuel)
stays_ok n W K moving fuel s h m =
    let V = with_outside W K W.functions moving fuel in
    let g : Grows (sizes n W) (sizes n V) = record { primitives = refl; tables = (let e = h.ok.count in omega arith); some = omega arith; functions = λ i f e. e; cells = omega arith; coroutines = omega arith } in
    record {
      grows = g;
      tables = each_on (TableOk (sizes n W)) (TableOk (sizes n V)) (table_on (sizes n W) (sizes n V) g) K.tables h.ok.tables;
      metatable = h.same_metatable;
      functions = each_on (FunctionOk (sizes n W)) (FunctionOk (sizes n V)) (function_on (sizes n W) (sizes n V) g) W.functions s.functions;
      moving = values_on (sizes n W) (sizes n V) g moving m;
    }

-- a move that leaves such a world
pub goes_outside : (n : ℕ) (t : Top) (env vs : List Value) (W : World) (H : Heap) (functions : List Function) (moving : List Value) (fuel : ℕ) → OutsideOk n W (with_outside W H functions moving fuel)
    → Is n (on_lua t) env W → Each (Valid (sizes n (with_outside W H functions moving fuel))) vs → Is n (on_lua t) (env ++ vs) (with_outside W H functions moving fuel)
goes_outside n t env vs W H functions moving fuel o i v =
    made_so n (on_lua t) (on_lua t) env vs W (with_outside W H functions moving fuel) i o.grows (outside_solid n W H functions moving fuel o i.solid) (outside_top n W H functions moving fuel o t i.phase) v

-- nothing is changed
pub goes_still : (n : ℕ) (t : Top) (env vs : List Value) (W : World) → Is n (on_lua t) env W → Each (Valid (sizes n W)) vs → Is n (on_lua t) (env ++ vs) W
goes_still n t env vs W i v = made_so n (on_lua t) (on_lua t) env vs W W i (grows_self (sizes n W)) i.solid i.phase v

pub stays_self_ok : (n : ℕ) (W : World) (moving : List Value) (fuel : ℕ) → Solid n W → Each (Valid (sizes n W)) moving → OutsideOk n W (with_outside W W.heap W.functions moving fuel)
stays_self_ok n W moving fuel s m = stays_ok n W W.heap moving fuel s (record { ok = heap_of n W s; same_metatable = refl }) m

-- operations

pub settle_move : (n : ℕ) (op : Operation) (xs : List Arg) (t : Top) (env : List Value) (W : World) → Is n (on_lua t) env W → TopReady t env (settle op xs) → MoveGood n (on_lua t) env (settle op xs) W
settle_move n op xs t env W i r = from (does op (args_of env xs) W.heap) refl (does_ok (sizes n W) W.heap (heap_of n W i.solid) op (args_of env xs) (args_valid (sizes n W) env xs i.valid r.0) (count_args env xs ∙ r.1))
  where
    is : (s : Settled) → does op (args_of env xs) W.heap ≡ s → move (settle op xs) env W ≡ settled W (the_place n t W i.phase) s
    is s e = bind_at (λ p. settled W p (does op (args_of env xs) W.heap)) (place_of W) (the_place n t W i.phase) (place_is n t W i.phase) ∙ ap (settled W (the_place n t W i.phase)) e

    from : (s : Settled) → does op (args_of env xs) W.heap ≡ s → SettledOk (sizes n W) W.heap (heap_of n W i.solid) s → MoveGood n (on_lua t) env (settle op xs) W
    from (found K vs) e k =
        let o = stays_ok n W K W.moving W.fuel i.solid k.0 i.solid.moving in
        record {
          event = has_found vs;
          world = record W { heap = K };
          is = is (found K vs) e;
          holds = goes_outside n t env vs W K W.functions W.moving W.fuel o i (values_on (sizes n W) (sizes n (record W { heap = K })) o.grows vs k.1);
        }
    from (ask f vs) e k = record { event = asks_for f vs; world = W; is = is (ask f vs) e; holds = goes_still n t env (f ∷ vs) W i (each_cons (Valid (sizes n W)) f vs k.0 k.1) }
    from cannot_arise e k = absurd k
    from (fault text) e k = record { event = fails_with text; world = W; is = is (fault text) e; holds = goes_still n t env [] W i (each_none (Valid (sizes n W))) }

pub find_close_move : (n : ℕ) (v e : Arg) (t : Top) (env : List Value) (W : World) → Is n (on_lua t) env W → TopReady t env (find_close v e) → MoveGood n (on_lua t) env (find_close v e) W
find_close_move n v e t env W i r =
    let z = sizes n W in
    record {
      event = handler_in W.heap of_close (arg env v);
      world = W;
      is = refl;
      holds = goes_still n t env (handler_in W.heap of_close (arg env v) ∷ arg env v ∷ arg env e ∷ []) W i
          (closer_ok z W.heap (heap_of n W i.solid) (arg env v) (arg env e) (arg_valid z env v i.valid r.0) (arg_valid z env e i.valid r.1));
    }

pub is_closable_move : (n : ℕ) (v : Arg) (t : Top) (env : List Value) (W : World) → Is n (on_lua t) env W → MoveGood n (on_lua t) env (is_closable v) W
is_closable_move n v t env W i = record {
  event = not (is_nil (handler_in W.heap of_close (arg env v)));
  world = W;
  is = refl;
  holds = goes_still n t env [] W i (each_none (Valid (sizes n W)));
}

pub take_moving_move : (n : ℕ) (t : Top) (env : List Value) (W : World) → Is n (on_lua t) env W → MoveGood n (on_lua t) env take_moving W
take_moving_move n t env W i =
    let o = stays_self_ok n W [] W.fuel i.solid (each_none (Valid (sizes n W))) in
    record { event = W.moving; world = record W { moving = [] }; is = refl; holds = goes_outside n t env W.moving W W.heap W.functions [] W.fuel o i (values_on (sizes n W) (sizes n (record W { moving = [] })) o.grows W.moving i.solid.moving) }

-- tables and costs

abbrev pub QuickGood : ℕ → Quick → Type 0
QuickGood n q = (t : Top) (env : List Value) (W : World) → Is n (on_lua t) env W → QuickReady t env q → MoveGood n (on_lua t) env (outside q) W

pub quick_is : (n : ℕ) (q : Quick) (t : Top) (env : List Value) (W : World) (i : Is n (on_lua t) env W) → move (outside q) env W ≡ do_outside q env W (the_place n t W i.phase)
quick_is n q t env W i = bind_at (do_outside q env W) (place_of W) (the_place n t W i.phase) (place_is n t W i.phase)

pub pay_move : (n : ℕ) → QuickGood n pay
pay_move n t env W i r = from W.fuel refl
  where
    from : (f : ℕ) → W.fuel ≡ f → MoveGood n (on_lua t) env (outside pay) W
    from zero e = record {
      event = false;
      world = W;
      is = quick_is n pay t env W i ∙ ap (λ (f : ℕ). elim f as (λ _. Option (Made Bool)) [ zero ↦ made W [] false | suc fuel ↦ made (record W { fuel = fuel }) [] true ]) e;
      holds = goes_still n t env [] W i (each_none (Valid (sizes n W)));
    }
    from (suc f) e =
        let o = stays_self_ok n W W.moving f i.solid i.solid.moving in
        record {
          event = true;
          world = record W { fuel = f };
          is = quick_is n pay t env W i ∙ ap (λ (f : ℕ). elim f as (λ _. Option (Made Bool)) [ zero ↦ made W [] false | suc fuel ↦ made (record W { fuel = fuel }) [] true ]) e;
          holds = goes_outside n t env [] W W.heap W.functions W.moving f o i (each_none (Valid (sizes n (record W { fuel = f }))));
        }

-- a new table
pub more_tables : (n : ℕ) (W : World) → Solid n W → OutsideOk n W (record W { heap = add_table W.heap })
more_tables n W s =
    let V = record W { heap = add_table W.heap } in
    let l = length-append W.heap.tables (record { rows = []; metatable = None } ∷ []) in
    let g : Grows (sizes n W) (sizes n V) = record { primitives = refl; tables = omega arith; some = omega arith; functions = λ i f e. e; cells = omega arith; coroutines = omega arith } in
    let z = sizes n W in
    let y = sizes n V in
    record {
      grows = g;
      tables = each_push (TableOk y) W.heap.tables (record { rows = []; metatable = None }) (each_on (TableOk z) (TableOk y) (table_on z y g) W.heap.tables s.tables) (record { rows = each_none (λ (row : Value × Value). Valid y row.0 × Valid y row.1); metatable = tt });
      metatable = refl;
      functions = each_on (FunctionOk z) (FunctionOk y) (function_on z y g) W.functions s.functions;
      moving = values_on z y g W.moving s.moving;
    }

pub new_table_valid : (n : ℕ) (W : World) → Each (Valid (sizes n (record W { heap = add_table W.heap }))) (object a_table (length W.heap.tables) ∷ [])
new_table_valid n W =
    let l = length-append W.heap.tables (record { rows = []; metatable = None } ∷ []) in
    each_one (Valid (sizes n (record W { heap = add_table W.heap }))) (object a_table (length W.heap.tables)) (omega arith)

pub make_table_move : (n : ℕ) → QuickGood n make_table
make_table_move n t env W i r = record {
  event = length W.heap.tables;
  world = record W { heap = add_table W.heap };
  is = quick_is n make_table t env W i;
  holds = goes_outside n t env (object a_table (length W.heap.tables) ∷ []) W (add_table W.heap) W.functions W.moving W.fuel (more_tables n W i.solid) i (new_table_valid n W);
}

table_is : (v : Value) → shape v ≡ is_object a_table → (m : ℕ) × (v ≡ object a_table m)
table_is (object a_table m) h = (m, refl)
table_is _ h = absurd (cc)

pub fill_table_move : (n : ℕ) (x : Arg) (last slot : ℕ) → QuickGood n (fill_table x last slot)
fill_table_move n x last slot t env W i r =
    let v = table_is (arg env x) r in
    let z = sizes n W in
    let b : v.0 < length W.heap.tables = subst (Valid z) v.1 (is_valid x r) in
    let old = get_there W.heap.tables v.0 b in
    let vs = drop slot env in
    let new : Table = record old.0 { rows = filled last vs old.0.rows } in
    let H : Heap = record W.heap { tables = slice_set W.heap.tables v.0 new } in
    let k : HeapStays z W.heap H = record {
      ok = record {
        tables = each_set (TableOk z) W.heap.tables v.0 new i.solid.tables (record { rows = filled_has (Valid z) (λ n. tt) last vs old.0.rows (each_drop (Valid z) slot env i.valid) (i.solid.tables v.0 old.0 old.1).rows; metatable = (i.solid.tables v.0 old.0 old.1).metatable });
        count = length_set W.heap.tables v.0 new;
        metatable = i.solid.roots.string_metatable;
      };
      same_metatable = refl;
    } in
    let o = stays_ok n W H W.moving W.fuel i.solid k i.solid.moving in
    let e : filled_table W.heap (arg env x) last vs ≡ Some H = ap (λ v. filled_table W.heap v last vs) v.1 ∙ bind_at _ (slice_get W.heap.tables v.0) old.0 old.1 in
    record {
      event = tt;
      world = record W { heap = H };
      is = quick_is n (fill_table x last slot) t env W i ∙ bind_at _ (filled_table W.heap (arg env x) last vs) H e;
      holds = goes_outside n t env [] W H W.functions W.moving W.fuel o i (each_none (Valid (sizes n (record W { heap = H }))));
    }
  where
    is_valid : (x : Arg) → shape (arg env x) ≡ is_object a_table → Valid (sizes n W) (arg env x)
    is_valid (read k) h = nth_ok (Valid (sizes n W)) tt env k i.valid
    is_valid (written p) h = absurd (cc)
