-- Moves that make a coroutine, look at one, or print.
use Rattle.std.proofs.Common.{ℕ, ◌<◌, ◌≤◌, ◌≡◌, List, [], ◌∷◌, ◌++◌, Option, Some, None, refl, subst, sym, ap, ◌∙◌, length, arith, Bool, true, false, cond, length-append}
use Rattle.std.specs.Prelude.{slice_get, IsTrue}
use Rattle.std.proofs.lemmas.List.{map-append}
use Rattle.int_core.specs.Value.{Value, known, primitive, object, a_function, a_coroutine, shape, bind, last}
use Rattle.int_core.specs.Operations.{is_function}
use Rattle.machine_core.specs.World.{Cell, closed, open_at, Frame, lua, Coroutine, fresh, in_progress, World, frames_of}
use Rattle.machine_core.specs.Text.{Arg, arg}
use Rattle.machine_core.specs.Moves.{create, see_status, see_running, print, TopShape, top_shape, Made, made, move, add_coroutine, add_printed, bytes_in, status_of, coroutine_number}
use Rattle.machine_core.specs.MachineStep.{can_call}
use Rattle.machine_sound.specs.Sound.{sizes, Valid, TableOk, FunctionOk, CoroutineOk, standing, ChainOk, CellOk, registers_in, registers_of, Solid, StackWaits}
use Rattle.machine_sound.specs.Safe.{waiting, WaitsUnder}
use Rattle.machine_sound.proofs.Lists.{each_none, each_one, each_push, each_on, bind_at, get_front, get_push_old, get_within}
use Rattle.machine_sound.proofs.Values.{arg_valid}
use Rattle.machine_sound.proofs.Grow.{Grows, grows_self, valid_on, values_on, table_on, function_on, coroutine_on, each_waits_on, roots_on}
use Rattle.machine_sound.proofs.Budgets.{solid_budget}
use Rattle.machine_sound.proofs.Chains.{chain_beside}
use Rattle.machine_sound.proofs.Moves.{made_so}
use Rattle.machine_sound.proofs.WaitingMoves.{WaitingGood, stays}
use Rattle.machine_sound.proofs.CoroutineMoves.{named_there}

-- what is on top does not hang on other fields than the chain
pub same_under : (n : ℕ) (s : Option TopShape) (W V : World) → W.chain ≡ V.chain → (h : WaitsUnder n s W) → (k : StackWaits n V) → k.frames ≡ h.all.frames → WaitsUnder n s V
same_under n None W V e h k f = record { all = k; top = tt }
same_under n (Some t) W V e h k f = record { all = k; top = ap (λ fs. top_shape V (last fs)) f ∙ same (last h.all.frames) ∙ h.top }
  where
    same : (o : Option Frame) → top_shape V o ≡ top_shape W o
    same None = ap (λ ch. Rattle.machine_core.specs.Moves.no_top (Rattle.std.specs.Prelude.nat_eq (length ch) 1)) (sym e)
    same (Some (lua f)) = refl
    same _ = refl

-- a coroutine of which a frame has registers is there
pub coroutine_within : (cs : List Coroutine) (co g r : ℕ) → r < registers_of cs co g → co < length cs
coroutine_within cs co g r h = from (slice_get cs co) refl h
  where
    from : (o : Option Coroutine) → slice_get cs co ≡ o → r < elim (bind o frames_of) as (λ _. ℕ) [ None ↦ 0 | Some frames ↦ registers_in frames g ] → co < length cs
    from None e h = absurd (omega arith)
    from (Some c) e h = get_within cs co c e

-- one more coroutine
module _ (n : ℕ) (W : World) (s : Solid n W) (v : Value) (ok : Valid (sizes n W) v) (f : IsTrue (is_function v)) where
  abbrev V : World
  V = record W { coroutines = W.coroutines ++ fresh v ∷ [] }

  more_grows : Grows (sizes n W) (sizes n V)
  more_grows = record { primitives = refl; tables = omega arith; some = omega arith; functions = λ i f e. e; cells = omega arith; coroutines = (let l = length-append W.coroutines (fresh v ∷ []) in omega arith) }

  cell_more : (c : Cell) → CellOk (sizes n W) W.coroutines c → CellOk (sizes n V) V.coroutines c
  cell_more (closed x) h = valid_on (sizes n W) (sizes n V) more_grows x h
  cell_more (open_at co g r) h = subst (λ m. r < m) (sym (rw (get_front W.coroutines (fresh v ∷ []) co (coroutine_within W.coroutines co g r h), registers_of) refl)) h

  more_solid : Solid n V
  more_solid =
      let z = sizes n W in
      let y = sizes n V in
      record {
        tables = each_on (TableOk z) (TableOk y) (table_on z y more_grows) W.heap.tables s.tables;
        functions = each_on (FunctionOk z) (FunctionOk y) (function_on z y more_grows) W.functions s.functions;
        cells = each_on (CellOk z W.coroutines) (CellOk y V.coroutines) cell_more W.cells s.cells;
        one_each = s.one_each;
        coroutines = each_push (CoroutineOk y) W.coroutines (fresh v) (each_on (CoroutineOk z) (CoroutineOk y) (coroutine_on z y more_grows) W.coroutines s.coroutines) (valid_on z y more_grows v ok, f);
        chain = subst (λ st. ChainOk W.main st W.chain) (sym (map-append standing W.coroutines (fresh v ∷ []))) (chain_beside W.main (Rattle.std.proofs.Common.map standing W.coroutines) W.chain s.chain);
        moving = values_on z y more_grows W.moving s.moving;
        roots = roots_on z y more_grows W V s.roots refl refl refl refl refl refl;
      }

  abbrev more_waits : StackWaits n W → StackWaits n V
  more_waits h = record {
    coroutine = h.coroutine;
    frames = h.frames;
    last = h.last;
    running = get_push_old W.coroutines (fresh v ∷ []) h.coroutine (in_progress h.frames) h.running;
    waits = each_waits_on (sizes n W) (sizes n V) more_grows h.frames h.waits;
  }

-- what can be called is a function
callable : (v : Value) → IsTrue (can_call (shape v)) → IsTrue (is_function v)
callable (object a_function m) h = refl
callable (known (primitive m)) h = refl
callable _ h = absurd (cc)

create_is : (x : Arg) (env : List Value) (W : World) → is_function (arg env x) ≡ true → move (create x) env W ≡ made (record W { coroutines = W.coroutines ++ fresh (arg env x) ∷ [] }) (object a_coroutine (length W.coroutines) ∷ []) tt
unfolding add_coroutine
create_is x env W e = ap (λ b. cond b (made (record W { coroutines = W.coroutines ++ fresh (arg env x) ∷ [] }) (object a_coroutine (length W.coroutines) ∷ []) tt) None) e

pub create_waits : (n : ℕ) (x : Arg) → WaitingGood n (create x)
create_waits n x s env W i r =
    let v = arg env x in
    let ok = arg_valid (sizes n W) env x i.valid r.0 in
    let f = callable v r.1 in
    let X : World = record W { coroutines = W.coroutines ++ fresh v ∷ [] } in
    record {
      event = length W.coroutines;
      world = X;
      is = create_is x env W f;
      holds = made_so n (waiting s) (waiting s) env (object a_coroutine (length W.coroutines) ∷ []) W X i (more_grows n W i.solid v ok f) (more_solid n W i.solid v ok f)
          (same_under n s W X refl i.phase (more_waits n W i.solid v ok f i.phase.all) refl)
          (each_one (Valid (sizes n X)) (object a_coroutine (length W.coroutines)) (let l = length-append W.coroutines (fresh v ∷ []) in omega arith));
    }

pub see_status_waits : (n : ℕ) (x : Arg) → WaitingGood n (see_status x)
see_status_waits n x s env W i r =
    let c = named_there n env W x i.valid r in
    record {
      event = status_of c.coroutine;
      world = W;
      is = bind_at _ (coroutine_number (arg env x)) c.number c.is_number ∙ bind_at _ (slice_get W.coroutines c.number) c.coroutine c.there;
      holds = stays n s env [] W i (each_none (Valid (sizes n W)));
    }

pub see_running_waits : (n : ℕ) → WaitingGood n see_running
see_running_waits n s env W i r =
    let h = i.phase.all in
    record {
      event = h.coroutine;
      world = W;
      is = bind_at _ (last W.chain) h.coroutine h.last;
      holds = stays n s env (object a_coroutine h.coroutine ∷ []) W i (each_one (Valid (sizes n W)) (object a_coroutine h.coroutine) (get_within W.coroutines h.coroutine (in_progress h.frames) h.running));
    }

-- printing changes nothing else
printed_is : (x : Arg) (env : List Value) (W : World) → move (print x) env W ≡ made (record W { printed = W.printed ++ bytes_in (arg env x) }) [] tt
unfolding add_printed
printed_is x env W = refl

pub print_waits : (n : ℕ) (x : Arg) → WaitingGood n (print x)
print_waits n x s env W i r =
    let X : World = record W { printed = W.printed ++ bytes_in (arg env x) } in
    let solid : Solid n X = solid_budget n W (W.printed ++ bytes_in (arg env x)) W.fuel i.solid in
    let h = i.phase.all in
    record {
      event = tt;
      world = X;
      is = printed_is x env W;
      holds = made_so n (waiting s) (waiting s) env [] W X i (grows_self (sizes n W)) solid
          (same_under n s W X refl i.phase (record { coroutine = h.coroutine; frames = h.frames; last = h.last; running = h.running; waits = h.waits }) refl) (each_none (Valid (sizes n X)));
    }
