-- Rows that call a closing method, and rows of frames that are left.
use Rattle.std.proofs.Common.{◌≡◌, ℕ, suc, List, [], ◌∷◌, ◌++◌, length, Option, Some, None, refl, ap, sym, subst, ◌∙◌, true, false, Result, Ok, Err, IfOk}
use Rattle.std.specs.Prelude.{cond, map}
use Rattle.int_core.specs.Value.{Value, nil, boolean, Shape, is_known}
use Rattle.list_laws.proofs.Values.{nth_mid, drop_mid}
use Rattle.machine_core.specs.World.{Wait, for_close, returning}
use Rattle.machine_core.specs.Text.{Arg, arg, read, written, is_there, see_pending, take_pending, close_cells, read_registers, results, Text, own, close, leave}
use Rattle.machine_core.specs.InstructionRows.{is_true, next, returned_so, then}
use Rattle.machine_core.specs.FrameRows.{at_once, by_asking, calls_row, expand, expand_by}
use Rattle.machine_core.specs.Moves.{Ending, Move, Told, Row, act, on_own}
use Rattle.machine_core.specs.MachineStep.{from_world}
use Rattle.table_core.specs.declared.value.Value.{Value as Kept}
use Rattle.table_core.specs.declared.value.Value.TheVariants.{Nil}
use Rattle.lua_stack.specs.declared.frame.Wait.{Wait as KeptWait}
use Rattle.lua_stack.specs.declared.frame.Wait.TheVariants.{ForClose, Returning}
use Rattle.lua_heap.specs.declared.world.World.{World as Memory}
use Rattle.lua_heap.specs.Reading.{value}
use Rattle.lua_heap.specs.Plain.{plain}
use Rattle.move_laws.specs.Memory.{IsSafe, Leads, Makes, Steps}
use Rattle.move_laws.proofs.Rows.{act_is, first, safe_after}
use Rattle.move_laws.proofs.Order.{is_spent}
use Rattle.machine_moves.specs.Ending.{ending_of}
use Rattle.machine_moves.specs.declared.ending.Ending.{Ending as KeptEnding}
use Rattle.machine_moves.specs.declared.ending.Ending.TheVariants.{Spent}
use Rattle.machine_moves.specs.Moves.{value_seen}
use Rattle.machine_calls.specs.declared.preparing.Prepared.{Prepared}
use Rattle.machine_calls.specs.declared.preparing.Prepared.TheVariants.{Closed, ReturnedSo}
use Rattle.machine_calls.specs.Preparing.{prepared_of}
use Rattle.machine_calls.specs.Waiting.{AsksSo, CallsSo, IsHeld, IsHeldWait, IsNamed, MayCall}
use Rattle.machine_returns.specs.Closing.{AsksToClose, CallsToClose, Finds, MayCallToClose, NamesClose, found_with}

-- a pending register is seen, or none

abbrev pub SeesPending : Memory → ℕ → Option Kept → Type 0
SeesPending W register o = (env : List Value) → Makes W W (on_own (see_pending register)) env (value_seen (value W.strings) o) (is_known (boolean (is_there o)))

pub seen_some : (W : Memory) (register : ℕ) (o : Option Kept) (v : Kept) → SeesPending W register o → o ≡ Some v → (env : List Value) → Makes W W (on_own (see_pending register)) env (value W.strings v ∷ []) (is_known (boolean true))
seen_some W register o v m e env = subst (λ o. Makes W W (on_own (see_pending register)) env (value_seen (value W.strings) o) (is_known (boolean (is_there o)))) e (m env)

pub seen_none : (W : Memory) (register : ℕ) (o : Option Kept) → SeesPending W register o → o ≡ None → (env : List Value) → Makes W W (on_own (see_pending register)) env [] (is_known (boolean false))
seen_none W register o m e env = subst (λ o. Makes W W (on_own (see_pending register)) env (value_seen (value W.strings) o) (is_known (boolean (is_there o)))) e (m env)

-- what follows, by whether there is one

abbrev pub return_text : (from count v : ℕ) → Shape → Text
return_text from count v s = cond (is_true s) (close (read v) (written nil) (returning count) (returned_so from count)) (own (read_registers from count) (λ w _. leave (results w)))

abbrev pub close_text : (register v : ℕ) → Shape → Text
close_text register v s = cond (is_true s) (close (read v) (written nil) for_close (close_cells register ∷ take_pending register ∷ [])) (then (close_cells register) next)

-- a move that changes nothing comes first
pub steps_first : {W V : Memory} {m : Move} {env vs : List Value} {told : Told m} {ending : Ending} {fuel left : ℕ} (k : ℕ → Told m → Row)
    → Makes W W m env vs told → Steps (k (length env) told) (env ++ vs) W fuel V left ending → Steps (act m k) env W fuel V left ending
steps_first {W} {V} {m} {env} {vs} {told} {ending} {fuel} {left} k h s = record {
  is = ap (from_world (plain W fuel)) (act_is m k env (plain W fuel) (plain W fuel) vs told (h.is fuel)) ∙ s.is;
}

-- how a value is closed, in the words of the rows

pub names_close : (W : Memory) (v : Kept) (env : List Value) (register : ℕ)
    → NamesClose W (env ++ value W.strings v ∷ []) (read (length env)) (written nil) (written nil) for_close v Nil ForClose (Closed register)
names_close W v env register = record { closes = nth_mid env [] (value W.strings v); fails = refl; waits = λ _. refl; copies = λ _. tt }

pub names_return : (W : Memory) (v : Kept) (env : List Value) (from count : ℕ)
    → NamesClose W (env ++ value W.strings v ∷ []) (read (length env)) (written nil) (written nil) (returning count) v Nil (Returning count) (ReturnedSo from count)
names_return W v env from count = record { closes = nth_mid env [] (value W.strings v); fails = refl; waits = λ _. refl; copies = λ _. tt }

pub may_so : {W : Memory} {env : List Value} {x e y : Arg} {w : Wait Arg} {v error : Kept} {wait : KeptWait} {prepared : Prepared} → NamesClose W env x e y w v error wait prepared
    → IsSafe (expand (close x e w (prepared_of y prepared))) env W → IsHeldWait W.strings wait → IsHeld W.strings prepared → MayCallToClose W v error wait prepared
may_so {env = env} {x = x} {e = e} {y = y} {w = w} names safe held_wait held = record { env = env; x = x; e = e; y = y; w = w; names = names; safe = safe; held_wait = held_wait; held = held }

-- with the method that was found

module _ (W : Memory) (v error method : Kept) (arguments : List Kept) (wait : KeptWait) (prepared : Prepared) (finds : Finds W v method) (are : arguments ≡ v ∷ error ∷ []) where
  closing_named : (env : List Value) (x e y : Arg) (w : Wait Arg) → NamesClose W env x e y w v error wait prepared
      → IsNamed W (found_with W env v method e) (read (length env)) (suc (length env)) w y method arguments wait prepared
  closing_named env x e y w n =
      let f = value W.strings in
      let more = f v ∷ arg env e ∷ [] in
      record {
        calls = nth_mid env more (f method);
        gives = drop_mid env more (f method) ∙ ap (λ u. f v ∷ u ∷ []) n.fails ∙ sym (ap (map f) are);
        waits = n.waits method;
        copies = n.copies method;
      }

  pub closes_by_asking : (V : Memory) (ending : Ending) → AsksSo W V method arguments wait prepared ending → AsksToClose W V v error wait prepared ending
  closes_by_asking V ending asks = record {
    leads = λ env x e y w n.
        first (λ n _. calls_row by_asking (read n) (suc n) w (prepared_of y prepared)) (finds env x e n.closes)
        (asks.leads (found_with W env v method e) (read (length env)) (suc (length env)) w y (closing_named env x e y w n));
  }

  pub may_call : MayCallToClose W v error wait prepared → MayCall W method arguments wait prepared
  may_call m = record {
    env = found_with W m.env v method m.e;
    f = read (length m.env);
    slot = suc (length m.env);
    w = m.w;
    x = m.y;
    names = closing_named m.env m.x m.e m.y m.w m.names;
    safe = safe_after (λ n _. calls_row at_once (read n) (suc n) m.w (prepared_of m.y prepared)) m.safe (finds m.env m.x m.e m.names.closes);
    held_wait = m.held_wait;
    held = m.held;
  }

  pub closes_at_once : (V : Memory) (fuel left : ℕ) (ending : Ending) → CallsSo W V fuel left method arguments wait prepared ending → CallsToClose W V fuel left v error wait prepared ending
  closes_at_once V fuel left ending calls = record {
    steps = λ env x e y w n.
        steps_first (λ n _. calls_row at_once (read n) (suc n) w (prepared_of y prepared)) (finds env x e n.closes)
        (calls.steps (found_with W env v method e) (read (length env)) (suc (length env)) w y (closing_named env x e y w n));
  }

-- an ending that is not that of a spent budget
pub not_spent : (ending : KeptEnding) → (ending ≡ Spent → ⊥) → is_spent (ending_of ending) → ⊥
not_spent Spent n s = n refl
not_spent _ n s = s

pub where_ok : {B E : Type 0} {P Q : B → Type 0} (o : Result B E) → IfOk o P → ((b : B) → P b → Q b) → IfOk o Q
where_ok (Ok b) p f = f b p
where_ok (Err e) p f = tt
