-- A function that is entered in place of a Lua frame.
use Rattle.std.proofs.Common.{◌≡◌, ◌+◌, ◌≤◌, ℕ, zero, suc, ◌-◌, List, [], ◌∷◌, ◌++◌, length, Option, Some, None, refl, ap, sym, subst, ◌∙◌, arith, Bool, true, false, length-append}
use Rattle.std.specs.Prelude.{drop, map, nat_le, slice_get}
use Rattle.int_core.specs.Limits.{greatest_depth, stack_overflow}
use Rattle.int_core.specs.Operations.{Callee, callee, not_callable, callee_of, greatest_chain}
use Rattle.int_core.specs.Value.{Value, known, primitive, object, a_function, bind, without_last}
use Rattle.machine_core.specs.World.{Function, lua, in_progress, World, Stack, Place, place_of, stack_of, pop, put_frames}
use Rattle.machine_core.specs.Text.{Arg, arg}
use Rattle.machine_core.specs.Moves.{is_entered, not_entered, called_tail, enters, has_room, popped, go, calls_primitive, raised, spent, Ending, Outcome, trapped, ends, run}
use Rattle.machine_core.specs.FrameRows.{after_call, raises}
use Rattle.machine_core.specs.MachineStep.{from_world}
use Rattle.machine_sound.proofs.Lists.{bind_at, last_splits, get_set_same}
use Rattle.machine_sound.proofs.Frames.{stack_is as running_stack_is}
use Rattle.machine_sound.proofs.Values.{le_true}
use Rattle.table_core.specs.declared.value.Value.{Value as Kept}
use Rattle.lua_heap.specs.declared.world.World.{World as Memory}
use Rattle.lua_heap.specs.Plain.{plain}
use Rattle.lua_heap.specs.Reading.{value}
use Rattle.move_laws.specs.Memory.{IsSound, Leads}
use Rattle.move_laws.proofs.Places.{place_is, stack_is}
use Rattle.machine_calls.specs.Calling.{CanEnter}
use Rattle.machine_calls.specs.Entering.{EntersSo, HasFunction}
use Rattle.machine_calls.specs.Waiting.{follows}
use Rattle.machine_calls.specs.Tails.{tail_row, IsNamedTail, MayCallInPlace, CallsInPlace, Drops, EntersInPlace}
use Rattle.machine_calls.proofs.Callees.{reached_is_function}
use Rattle.machine_calls.proofs.Over.{entering, enters_is, shapes_apart, told_in}

abbrev with_moving : World → List Value → World
with_moving V vs = record V { moving = vs }

pub prim_in_place : (old gone new : Memory) (n : ℕ) (arguments : List Kept) → Drops old gone → gone.strings ≡ old.strings
    → ((fuel : ℕ) → plain new fuel ≡ with_moving (plain gone fuel) (map (value gone.strings) arguments)) → EntersInPlace old new (known (primitive n)) (map (value old.strings) arguments) (calls_primitive n)
prim_in_place old gone new n arguments d s m = record {
  is = λ at e fuel all W.
      ap (λ V. ends (calls_primitive n) (with_moving V (map (value old.strings) arguments))) (d.is at e fuel)
      ∙ ap (λ texts. ends (calls_primitive n) (with_moving (plain gone fuel) (map (value texts) arguments))) (sym s)
      ∙ ap (ends (calls_primitive n)) (sym (m fuel));
}

pub entered_in_place : (old gone new : Memory) (n : ℕ) (arguments : List Kept) → Drops old gone → gone.strings ≡ old.strings
    → EntersSo gone new (object a_function n) (map (value gone.strings) arguments) is_entered → EntersInPlace old new (object a_function n) (map (value old.strings) arguments) go
entered_in_place old gone new n arguments d s k = record {
  is = λ at e fuel all W.
      ap (λ V. from_world W (follows all (enters V (object a_function n) (map (value old.strings) arguments)))) (d.is at e fuel)
      ∙ ap (λ texts. from_world W (follows all (enters (plain gone fuel) (object a_function n) (map (value texts) arguments)))) (sym s)
      ∙ ap (λ o. from_world W (follows all o)) (k.is fuel);
}

-- where a frame is gone there is room for another

abbrev roomy : Option Stack → Bool
roomy o = elim o [ None ↦ false | Some s ↦ nat_le (length s.frames + 1) greatest_depth ]

popped_stack : (V : World) (at : Place) → place_of V ≡ Some at → stack_of (popped V at) ≡ Some (record { coroutine = at.stack.coroutine; frames = without_last at.stack.frames })
unfolding popped pop put_frames
popped_stack V at e =
    let p = place_is V at e in
    let k = stack_is V at.stack p.stack in
    running_stack_is (popped V at) at.stack.coroutine (without_last at.stack.frames) k.chain (get_set_same V.coroutines at.stack.coroutine (in_progress at.stack.frames) (in_progress (without_last at.stack.frames)) k.there)

pub room_again : (old gone : Memory) (at : Place) → IsSound old → place_of (plain old 0) ≡ Some at → Drops old gone → has_room (plain gone 0) 1 ≡ true
room_again old gone at s e d =
    let V = plain old 0 in
    let p = place_is V at e in
    let k = stack_is V at.stack p.stack in
    let depth : length at.stack.frames ≤ greatest_depth = (s.sound.solid.coroutines at.stack.coroutine (in_progress at.stack.frames) k.there).depth in
    let count : length at.stack.frames ≡ length (without_last at.stack.frames) + 1 = ap length (last_splits at.stack.frames (lua at.top) p.top) ∙ length-append (without_last at.stack.frames) (lua at.top ∷ []) in
    ap (λ W. has_room W 1) (sym (d.is at e 0)) ∙ ap roomy (popped_stack V at e) ∙ le_true (length (without_last at.stack.frames) + 1) greatest_depth (subst (λ n. n ≤ greatest_depth) count depth)

pub entered_there : (gone new : Memory) (n : ℕ) (arguments : List Value) → HasFunction gone n → has_room (plain gone 0) 1 ≡ true → EntersSo gone new (object a_function n) arguments (not_entered stack_overflow) → ⊥
entered_there gone new n arguments h q k = shapes_apart (ap told_in (sym (enters_is (plain gone 0) n arguments h.function true h.is q) ∙ k.is 0))

-- the row of the call

abbrev tail_from : List Value → World → Place → Callee → Outcome
tail_from env V at c = follows env (called_tail V at c)

tail_is : (V : World) (at : Place) (env : List Value) (f : Arg) (slot : ℕ) → place_of V ≡ Some at → run (tail_row f slot) env V ≡ tail_from env V at (callee_of greatest_chain V.heap (arg env f) (drop slot env))
tail_is V at env f slot e =
    ap (λ o. elim o as (λ _. Outcome) [ None ↦ trapped | Some d ↦ run (after_call d.told) (env ++ d.values) d.world ])
    (bind_at (λ p. called_tail V p (callee_of greatest_chain V.heap (arg env f) (drop slot env))) (place_of V) at e)

module _ (old : Memory) (at : Place) (e : place_of (plain old 0) ≡ Some at) (fuel : ℕ) (callable : Kept) (arguments : List Kept) (c : Callee)
    (reached : callee_of greatest_chain (plain old 0).heap (value old.strings callable) (map (value old.strings) arguments) ≡ c) where
  pub tail_row_is : (env : List Value) (f : Arg) (slot : ℕ) → IsNamedTail old env f slot callable arguments → run (tail_row f slot) env (plain old fuel) ≡ tail_from env (plain old fuel) at c
  tail_row_is env f slot n =
      let V = plain old fuel in
      tail_is V at env f slot e
      ∙ ap (λ g. tail_from env V at (callee_of greatest_chain V.heap g (drop slot env))) n.calls
      ∙ ap (λ vs. tail_from env V at (callee_of greatest_chain V.heap (value old.strings callable) vs)) n.gives
      ∙ ap (tail_from env V at) reached

pub fault_in_place : (old new : Memory) (at : Place) (fuel : ℕ) (callable : Kept) (arguments : List Kept) (text : List ℕ) → place_of (plain old 0) ≡ Some at
    → callee_of greatest_chain (plain old 0).heap (value old.strings callable) (map (value old.strings) arguments) ≡ not_callable text
    → ((env : List Value) → Leads (raises text) env old new raised) → CallsInPlace old new fuel fuel callable arguments raised
fault_in_place old new at fuel callable arguments text e k r = record {
  steps = λ env f slot n. record {
    is = ap (from_world (plain old fuel)) (tail_row_is old at e fuel callable arguments (not_callable text) k env f slot n ∙ (r (env ++ [])).is fuel);
  };
}

pub spent_in_place : (old : Memory) (at : Place) (fuel : ℕ) (callable : Kept) (arguments : List Kept) (g : Value) (more : List Value) → place_of (plain old 0) ≡ Some at
    → callee_of greatest_chain (plain old 0).heap (value old.strings callable) (map (value old.strings) arguments) ≡ callee g more → fuel ≡ 0 → CallsInPlace old old fuel fuel callable arguments spent
spent_in_place old at zero callable arguments g more e k z = record {
  steps = λ env f slot n. record { is = ap (from_world (plain old 0)) (tail_row_is old at e 0 callable arguments (callee g more) k env f slot n) };
}
spent_in_place old at (suc m) callable arguments g more e k z = absurd (cc)

fuel_popped : (V : World) (at : Place) (fuel : ℕ) → (record (popped V at) { fuel = fuel }) ≡ popped (record V { fuel = fuel }) at
unfolding popped pop put_frames
fuel_popped V at fuel = refl

pub paid_in_place : (old new : Memory) (at : Place) (fuel : ℕ) (callable : Kept) (arguments : List Kept) (g : Value) (more : List Value) (ending : Ending) → place_of (plain old 0) ≡ Some at
    → callee_of greatest_chain (plain old 0).heap (value old.strings callable) (map (value old.strings) arguments) ≡ callee g more → (fuel ≡ 0 → ⊥)
    → EntersInPlace old new g more ending → CallsInPlace old new fuel (fuel - 1) callable arguments ending
paid_in_place old new at zero callable arguments g more ending e k z r = absurd (z refl)
paid_in_place old new at (suc m) callable arguments g more ending e k z r = record {
  steps = λ env f slot n. record {
    is =
        (let V = plain old (suc m) in
        let less : m ≡ suc m - 1 = omega arith in
        ap (from_world V) (tail_row_is old at e (suc m) callable arguments (callee g more) k env f slot n)
        ∙ ap (λ P. from_world V (follows env (enters P g more))) (fuel_popped V at m)
        ∙ r.is at e m env V
        ∙ ap (λ m. ends ending (plain new m)) less);
  };
}

-- what the row's not trapping says of the function

functions_popped : (V : World) (at : Place) → (popped V at).functions ≡ V.functions
unfolding popped pop put_frames
functions_popped V at = refl

pub may_enter_in_place : (old : Memory) (at : Place) (callable : Kept) (arguments : List Kept) (g : Value) (more : List Value) → IsSound old → place_of (plain old 0) ≡ Some at
    → MayCallInPlace old callable arguments → callee_of greatest_chain (plain old 0).heap (value old.strings callable) (map (value old.strings) arguments) ≡ callee g more → CanEnter old g
may_enter_in_place old at callable arguments g more s e h k = record {
  is = reached_is_function greatest_chain (plain old 0).heap (value old.strings callable) (map (value old.strings) arguments) g more k;
  there = λ n q. found n (slice_get (plain old 0).functions n) refl q;
}
  where
    P : World
    P = record (popped (plain old 1) at) { fuel = 0 }

    traps : (n : ℕ) → slice_get (plain old 0).functions n ≡ None → g ≡ object a_function n → run (tail_row h.f h.slot) h.env (plain old 1) ≡ trapped
    traps n t q =
        tail_row_is old at e 1 callable arguments (callee g more) k h.env h.f h.slot h.names
        ∙ ap (λ g. follows h.env (enters P g more)) q
        ∙ ap (λ fs. follows h.env (bind (slice_get fs n) (λ f. entering P n more (has_room P 1) f))) (functions_popped (plain old 1) at)
        ∙ ap (λ o. follows h.env (bind o (λ f. entering P n more (has_room P 1) f))) t

    found : (n : ℕ) (o : Option Function) → slice_get (plain old 0).functions n ≡ o → g ≡ object a_function n → HasFunction old n
    found n None t q = absurd (h.safe.never 1 (traps n t q))
    found n (Some f) t q = record { function = f; is = t; checked = (s.sound.solid.functions n f t).code }
