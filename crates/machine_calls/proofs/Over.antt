-- A function that is entered over a Lua frame that has made itself ready.
use Rattle.std.proofs.Common.{◌≡◌, ℕ, zero, suc, ◌-◌, List, [], ◌∷◌, ◌++◌, Option, Some, None, refl, ap, sym, ◌∙◌, arith, Bool, true, false}
use Rattle.std.specs.Prelude.{cond, drop, map, slice_get}
use Rattle.int_core.specs.Limits.{stack_overflow}
use Rattle.int_core.specs.Operations.{Callee, callee, not_callable, callee_of, greatest_chain}
use Rattle.int_core.specs.Value.{Value, known, primitive, object, a_function, bind}
use Rattle.machine_core.specs.World.{Function, Wait, World, Place, place_of, put_top, put_frames}
use Rattle.machine_core.specs.Text.{Arg, arg, read, Own}
use Rattle.machine_core.specs.Moves.{Made, made, CallShape, is_entered, not_paid, not_entered, called, enters, enters_paid, has_room, push_all, new_frame, with_own, named, go, calls_primitive, raised, spent, Ending, Outcome, trapped, ends, run}
use Rattle.machine_core.specs.FrameRows.{after_call, call_row}
use Rattle.machine_core.specs.MachineStep.{from_world}
use Rattle.machine_sound.proofs.Lists.{bind_at}
use Rattle.table_core.specs.declared.value.Value.{Value as Kept}
use Rattle.lua_stack.specs.declared.frame.Wait.{Wait as KeptWait}
use Rattle.lua_stack.specs.Frames.{wait_of}
use Rattle.lua_heap.specs.declared.world.World.{World as Memory}
use Rattle.lua_heap.specs.Plain.{plain}
use Rattle.lua_heap.specs.Reading.{value}
use Rattle.move_laws.specs.Memory.{IsSound}
use Rattle.machine_calls.specs.declared.preparing.Prepared.{Prepared}
use Rattle.machine_calls.specs.Calling.{CanEnter}
use Rattle.machine_calls.specs.Entering.{EntersSo, HasFunction}
use Rattle.machine_calls.specs.Preparing.{prepared_of, ReadyFor}
use Rattle.machine_calls.specs.Waiting.{IsNamed, MayCall, CallsSo, EntersOver, RaisesOver, made_ready, follows}
use Rattle.machine_calls.proofs.Blamed.{copy_env, room_own, some_copy}
use Rattle.machine_calls.proofs.Callees.{reached_is_function}

abbrev with_moving : World → List Value → World
with_moving V vs = record V { moving = vs }

pub prim_over : (old ready new : Memory) (wait : KeptWait) (prepared : Prepared) (n : ℕ) (arguments : List Kept) → ReadyFor old ready wait prepared → ready.strings ≡ old.strings
    → ((fuel : ℕ) → plain new fuel ≡ with_moving (plain ready fuel) (map (value ready.strings) arguments)) → EntersOver old new wait prepared (known (primitive n)) (map (value old.strings) arguments) (calls_primitive n)
prim_over old ready new wait prepared n arguments r s m = record {
  is = λ at e env x i fuel all W.
      ap (λ V. ends (calls_primitive n) (with_moving V (map (value old.strings) arguments))) (r.is at e env x i fuel)
      ∙ ap (λ texts. ends (calls_primitive n) (with_moving (plain ready fuel) (map (value texts) arguments))) (sym s)
      ∙ ap (ends (calls_primitive n)) (sym (m fuel));
}

pub entered_over : (old ready new : Memory) (wait : KeptWait) (prepared : Prepared) (n : ℕ) (arguments : List Kept) → ReadyFor old ready wait prepared → ready.strings ≡ old.strings
    → EntersSo ready new (object a_function n) (map (value ready.strings) arguments) is_entered → EntersOver old new wait prepared (object a_function n) (map (value old.strings) arguments) go
entered_over old ready new wait prepared n arguments r s k = record {
  is = λ at e env x i fuel all W.
      ap (λ V. from_world W (follows all (enters V (object a_function n) (map (value old.strings) arguments)))) (r.is at e env x i fuel)
      ∙ ap (λ texts. from_world W (follows all (enters (plain ready fuel) (object a_function n) (map (value texts) arguments)))) (sym s)
      ∙ ap (λ o. from_world W (follows all o)) (k.is fuel);
}

-- where there is no room

pub functions_own : (V : World) (at : Place) (w : Wait Value) (ms : List Own) (env : List Value) → (with_own V at w ms env).functions ≡ V.functions
unfolding with_own put_top put_frames
functions_own V at w ms env = refl

abbrev pub entering : World → ℕ → List Value → Bool → Function → Option (Made CallShape)
entering P n arguments room f = cond room (made (push_all P (new_frame n f.code arguments ∷ [])) [] is_entered) (made P [] (not_entered stack_overflow))

pub enters_is : (P : World) (n : ℕ) (arguments : List Value) (f : Function) (room : Bool) → slice_get P.functions n ≡ Some f → has_room P 1 ≡ room → enters P (object a_function n) arguments ≡ entering P n arguments room f
enters_is P n arguments f room g q =
    bind_at (λ f. entering P n arguments (has_room P 1) f) (slice_get P.functions n) f g ∙ ap (λ room. entering P n arguments room f) q

pub full_over : (old new : Memory) (wait : KeptWait) (prepared : Prepared) (n : ℕ) (arguments : List Value) → HasFunction old n → has_room (plain old 0) 1 ≡ false
    → RaisesOver old new wait prepared stack_overflow → EntersOver old new wait prepared (object a_function n) arguments raised
full_over old new wait prepared n arguments h q r = record {
  is = λ at e env x i fuel all W.
      let V = plain old fuel in
      let w = wait_of (value old.strings) wait in
      let P = made_ready old fuel at wait prepared env x in
      let there : slice_get P.functions n ≡ Some h.function = ap (λ fs. slice_get fs n) (functions_own V at w (prepared_of x prepared) env) ∙ h.is in
      ap (λ o. from_world W (follows all o)) (enters_is P n arguments h.function false there (room_own V at w (prepared_of x prepared) env e ∙ q))
      ∙ ap (from_world W) (r.is at e env x i fuel (all ++ []));
}

-- where there is room the function is entered

abbrev pub told_in : Option (Made CallShape) → CallShape
told_in o = elim o [ None ↦ not_paid | Some d ↦ d.told ]

pub shapes_apart : is_entered ≡ not_entered stack_overflow → ⊥
shapes_apart e = absurd (cc)

pub function_after : {old new : Memory} {n : ℕ} → ((plain new 0).functions ≡ (plain old 0).functions) → HasFunction old n → HasFunction new n
function_after {n} e h = record { function = h.function; is = ap (λ fs. slice_get fs n) e ∙ h.is; checked = h.checked }

pub not_full : (old ready new : Memory) (wait : KeptWait) (prepared : Prepared) (at : Place) (n : ℕ) (arguments : List Value) → place_of (plain old 0) ≡ Some at → ReadyFor old ready wait prepared
    → HasFunction ready n → has_room (plain old 0) 1 ≡ true → EntersSo ready new (object a_function n) arguments (not_entered stack_overflow) → ⊥
not_full old ready new wait prepared at n arguments e r h q k =
    let f = value old.strings in
    let env = copy_env f prepared in
    let room : has_room (plain ready 0) 1 ≡ true =
    ap (λ W. has_room W 1) (sym (r.is at e env (read 0) (some_copy f prepared) 0)) ∙ room_own (plain old 0) at (wait_of f wait) (prepared_of (read 0) prepared) env e ∙ q in
    shapes_apart (ap told_in (sym (enters_is (plain ready 0) n arguments h.function true h.is room) ∙ k.is 0))

-- the row of the call

abbrev row_from : List Value → World → World → Callee → Outcome
row_from env V P c = follows env (enters_paid V P c)

call_is : (V : World) (at : Place) (env : List Value) (f : Arg) (slot : ℕ) (w : Wait Arg) (ms : List Own) → place_of V ≡ Some at
    → run (call_row f slot w ms) env V ≡ row_from env V (with_own V at (named env w) ms env) (callee_of greatest_chain V.heap (arg env f) (drop slot env))
call_is V at env f slot w ms e =
    ap (λ o. elim o as (λ _. Outcome) [ None ↦ trapped | Some d ↦ run (after_call d.told) (env ++ d.values) d.world ])
    (bind_at (λ p. called V (with_own V p (named env w) ms env) (arg env f) (drop slot env)) (place_of V) at e)

module _ (old : Memory) (at : Place) (e : place_of (plain old 0) ≡ Some at) (fuel : ℕ) (callable : Kept) (arguments : List Kept) (wait : KeptWait) (prepared : Prepared) (c : Callee)
    (reached : callee_of greatest_chain (plain old 0).heap (value old.strings callable) (map (value old.strings) arguments) ≡ c) where
  pub row_is : (env : List Value) (f : Arg) (slot : ℕ) (w : Wait Arg) (x : Arg) → IsNamed old env f slot w x callable arguments wait prepared
      → run (call_row f slot w (prepared_of x prepared)) env (plain old fuel) ≡ row_from env (plain old fuel) (made_ready old fuel at wait prepared env x) c
  row_is env f slot w x n =
      let V = plain old fuel in
      let ms = prepared_of x prepared in
      call_is V at env f slot w ms e
      ∙ ap (λ w. row_from env V (with_own V at w ms env) (callee_of greatest_chain V.heap (arg env f) (drop slot env))) n.waits
      ∙ ap (λ g. row_from env V (made_ready old fuel at wait prepared env x) (callee_of greatest_chain V.heap g (drop slot env))) n.calls
      ∙ ap (λ vs. row_from env V (made_ready old fuel at wait prepared env x) (callee_of greatest_chain V.heap (value old.strings callable) vs)) n.gives
      ∙ ap (row_from env V (made_ready old fuel at wait prepared env x)) reached

pub fault_so : (old new : Memory) (at : Place) (fuel : ℕ) (callable : Kept) (arguments : List Kept) (wait : KeptWait) (prepared : Prepared) (text : List ℕ) → place_of (plain old 0) ≡ Some at
    → callee_of greatest_chain (plain old 0).heap (value old.strings callable) (map (value old.strings) arguments) ≡ not_callable text
    → RaisesOver old new wait prepared text → CallsSo old new fuel fuel callable arguments wait prepared raised
fault_so old new at fuel callable arguments wait prepared text e k r = record {
  steps = λ env f slot w x n. record {
    is = ap (from_world (plain old fuel)) (row_is old at e fuel callable arguments wait prepared (not_callable text) k env f slot w x n ∙ r.is at e env x n.copies fuel (env ++ []));
  };
}

pub spent_so : (old : Memory) (at : Place) (fuel : ℕ) (callable : Kept) (arguments : List Kept) (wait : KeptWait) (prepared : Prepared) (g : Value) (more : List Value) → place_of (plain old 0) ≡ Some at
    → callee_of greatest_chain (plain old 0).heap (value old.strings callable) (map (value old.strings) arguments) ≡ callee g more → fuel ≡ 0
    → CallsSo old old fuel fuel callable arguments wait prepared spent
spent_so old at zero callable arguments wait prepared g more e k z = record {
  steps = λ env f slot w x n. record {
    is = ap (from_world (plain old 0)) (row_is old at e 0 callable arguments wait prepared (callee g more) k env f slot w x n);
  };
}
spent_so old at (suc m) callable arguments wait prepared g more e k z = absurd (cc)

fuel_own : (V : World) (at : Place) (w : Wait Value) (ms : List Own) (env : List Value) (fuel : ℕ) → (record (with_own V at w ms env) { fuel = fuel }) ≡ with_own (record V { fuel = fuel }) at w ms env
unfolding with_own put_top put_frames
fuel_own V at w ms env fuel = refl

pub paid_so : (old new : Memory) (at : Place) (fuel : ℕ) (callable : Kept) (arguments : List Kept) (wait : KeptWait) (prepared : Prepared) (g : Value) (more : List Value) (ending : Ending)
    → place_of (plain old 0) ≡ Some at → callee_of greatest_chain (plain old 0).heap (value old.strings callable) (map (value old.strings) arguments) ≡ callee g more → (fuel ≡ 0 → ⊥)
    → EntersOver old new wait prepared g more ending → CallsSo old new fuel (fuel - 1) callable arguments wait prepared ending
paid_so old new at zero callable arguments wait prepared g more ending e k z r = absurd (z refl)
paid_so old new at (suc m) callable arguments wait prepared g more ending e k z r = record {
  steps = λ env f slot w x n. record {
    is =
        (let V = plain old (suc m) in
        let less : m ≡ suc m - 1 = omega arith in
        ap (from_world V) (row_is old at e (suc m) callable arguments wait prepared (callee g more) k env f slot w x n)
        ∙ ap (λ P. from_world V (follows env (enters P g more))) (fuel_own V at (wait_of (value old.strings) wait) (prepared_of x prepared) env m)
        ∙ r.is at e env x n.copies m env V
        ∙ ap (λ m. ends ending (plain new m)) less);
  };
}

-- what the row's not trapping says of the function

pub may_enter : (old : Memory) (at : Place) (callable : Kept) (arguments : List Kept) (wait : KeptWait) (prepared : Prepared) (g : Value) (more : List Value) → IsSound old → place_of (plain old 0) ≡ Some at
    → MayCall old callable arguments wait prepared → callee_of greatest_chain (plain old 0).heap (value old.strings callable) (map (value old.strings) arguments) ≡ callee g more → CanEnter old g
may_enter old at callable arguments wait prepared g more s e h k = record {
  is = reached_is_function greatest_chain (plain old 0).heap (value old.strings callable) (map (value old.strings) arguments) g more k;
  there = λ n q. found n (slice_get (plain old 0).functions n) refl q;
}
  where
    P : World
    P = record (made_ready old 1 at wait prepared h.env h.x) { fuel = 0 }

    traps : (n : ℕ) → slice_get (plain old 0).functions n ≡ None → g ≡ object a_function n → run (call_row h.f h.slot h.w (prepared_of h.x prepared)) h.env (plain old 1) ≡ trapped
    traps n t q =
        row_is old at e 1 callable arguments wait prepared (callee g more) k h.env h.f h.slot h.w h.x h.names
        ∙ ap (λ g. follows h.env (enters P g more)) q
        ∙ ap (λ fs. follows h.env (bind (slice_get fs n) (λ f. entering P n more (has_room P 1) f))) (functions_own (plain old 1) at (wait_of (value old.strings) wait) (prepared_of h.x prepared) h.env)
        ∙ ap (λ o. follows h.env (bind o (λ f. entering P n more (has_room P 1) f))) t

    found : (n : ℕ) (o : Option Function) → slice_get (plain old 0).functions n ≡ o → g ≡ object a_function n → HasFunction old n
    found n None t q = absurd (h.safe.never 1 (traps n t q))
    found n (Some f) t q = record { function = f; is = t; checked = (s.sound.solid.functions n f t).code }
