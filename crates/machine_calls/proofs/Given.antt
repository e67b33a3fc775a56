-- A Lua function that is entered over a frame with the values of its registers.
use Rattle.std.proofs.Common.{◌≡◌, ℕ, zero, suc, ◌+◌, ◌-◌, List, [], ◌∷◌, ◌++◌, Option, Some, None, refl, ap, sym, subst, ◌∙◌, true, Result, Ok, Err, OnErr, OnOk}
use Rattle.std.specs.Prelude.{map, slice_get, slice_set}
use Rattle.std.proofs.lemmas.List.{append_assoc}
use Rattle.int_core.specs.Heap.{Heap}
use Rattle.int_core.specs.Operations.{callee, callee_of, greatest_chain}
use Rattle.int_core.specs.Value.{Value, a_function, object, range, without_last}
use Rattle.machine_core.specs.World.{Wait, LuaFrame, Frame, lua, in_progress, World, Stack, stack_of, Place, place_of, push, put_frames, put_top}
use Rattle.machine_core.specs.Text.{Own, cut_from, drop_pending}
use Rattle.machine_core.specs.Moves.{enters, go, has_room, is_entered, made, new_frame, push_all, with_own, ends}
use Rattle.machine_core.specs.MachineStep.{from_world}
use Rattle.machine_sound.proofs.Lists.{some_is}
use Rattle.table_core.specs.declared.value.CoroId.{CoroId}
use Rattle.table_core.specs.declared.value.FuncId.{FuncId}
use Rattle.table_core.specs.declared.value.Value.TheVariants.{Func}
use Rattle.lua_stack.specs.declared.frame.Shape.{Shape}
use Rattle.lua_stack.specs.declared.frame.Wait.{Wait as KeptWait}
use Rattle.lua_stack.specs.Frames.{KeptStack, Calls, frames, given_up, wait_of, with_wait}
use Rattle.lua_heap.specs.declared.world.World.{World as Memory}
use Rattle.lua_heap.specs.Plain.{plain}
use Rattle.lua_heap.specs.Reading.{value}
use Rattle.move_laws.specs.Memory.{Runs, ChangesStack}
use Rattle.move_laws.proofs.Places.{place_is}
use Rattle.move_laws.proofs.Running.{changed_stack_is_put, place_put, shown, with_top}
use Rattle.machine_calls.specs.declared.preparing.Prepared.TheVariants.{GivenUp}
use Rattle.machine_calls.specs.Entering.{HasShape}
use Rattle.machine_calls.specs.Given.{CallsGiven, EntersGiven}
use Rattle.machine_calls.specs.Waiting.{EntersOver, follows, made_ready}
use Rattle.machine_calls.proofs.Blamed.{room_own}
use Rattle.machine_calls.proofs.Over.{enters_is, functions_own, paid_so}

pub set_twice : {A : Type 0} (xs : List A) (i : ℕ) (x y : A) → slice_set (slice_set xs i x) i y ≡ slice_set xs i y
set_twice [] i x y = refl
set_twice (z ∷ xs) zero x y = refl
set_twice (z ∷ xs) (suc i) x y = ap (λ l. z ∷ l) (set_twice xs i x y)

abbrev pushed_all : World → Frame → Option Stack → World
pushed_all W f o = elim o [ None ↦ W | Some s ↦ push W s f ]

abbrev stack_with : Place → LuaFrame → Stack
stack_with at t = record { coroutine = at.stack.coroutine; frames = without_last at.stack.frames ++ lua t ∷ [] }

stack_put : (V : World) (at : Place) (t : LuaFrame) → place_of V ≡ Some at → t.function ≡ at.top.function → stack_of (put_top V at.stack (lua t)) ≡ Some (stack_with at t)
stack_put V at t e f = (place_is (put_top V at.stack (lua t)) (with_top at t) (place_put V at t e f)).stack

push_over : (V : World) (at : Place) (t : LuaFrame) (f : Frame) → push (put_top V at.stack (lua t)) (stack_with at t) f ≡ put_frames V at.stack.coroutine (without_last at.stack.frames ++ lua t ∷ f ∷ [])
unfolding push put_top put_frames
push_over V at t f =
    ap (λ cs. record V { coroutines = cs }) (set_twice V.coroutines at.stack.coroutine (in_progress (without_last at.stack.frames ++ lua t ∷ [])) (in_progress ((without_last at.stack.frames ++ lua t ∷ []) ++ f ∷ [])))
    ∙ ap (λ fs. record V { coroutines = slice_set V.coroutines at.stack.coroutine (in_progress fs) }) (append_assoc (without_last at.stack.frames) (lua t ∷ []) (f ∷ []))

abbrev moves_of : ℕ → List Own
moves_of register = drop_pending register ∷ cut_from register ∷ []

own_put : (V : World) (at : Place) (w : Wait Value) (register : ℕ) (env : List Value)
    → with_own V at w (moves_of register) env ≡ put_top V at.stack (lua (with_wait w (given_up register at.function.code.own.stack at.top)))
unfolding with_own
own_put V at w register env = refl

module _ (old new : Memory) (co : CoroId) (s s' : KeptStack) (register given : ℕ) (wait : KeptWait) (stack : ℕ) (id : FuncId) (shape : Shape) (at : Place) (r : Runs old co s)
    (e : place_of (plain old 0) ≡ Some at) (h : HasShape old id.0 shape) (c : Calls s s' register given wait stack id shape) (q : stack ≡ at.function.code.own.stack) (k : ChangesStack old new co s')
    (room : has_room (plain old 0) 1 ≡ true) where
  abbrev waits : Wait Value
  waits = wait_of (value old.strings) wait

  abbrev arguments : List Value
  arguments = range (suc register) given at.top.own.registers

  abbrev ready_top : ℕ → LuaFrame
  ready_top n = with_wait waits (given_up register n at.top)

  abbrev entered : Frame
  entered = new_frame id.0 h.function.code arguments

  frames_new : frames (value old.strings) s' ≡ without_last at.stack.frames ++ lua (ready_top stack) ∷ entered ∷ []
  frames_new = c.called (value old.strings) refl h.function.code h.shape_is (without_last at.stack.frames) at.top (shown old co s at r e).frames_are

  entered_world : (fuel : ℕ) → push_all (put_top (plain old fuel) at.stack (lua (ready_top stack))) (entered ∷ []) ≡ plain new fuel
  entered_world fuel =
      let V = plain old fuel in
      ap (pushed_all (put_top V at.stack (lua (ready_top stack))) entered) (stack_put V at (ready_top stack) e refl)
      ∙ push_over V at (ready_top stack) entered
      ∙ ap (λ n. put_frames V n (without_last at.stack.frames ++ lua (ready_top stack) ∷ entered ∷ [])) (shown old co s at r e).coroutine
      ∙ ap (put_frames V co.0) (sym frames_new)
      ∙ sym (changed_stack_is_put old new co s' fuel k)

  enters_so : (env : List Value) (fuel : ℕ) → enters (with_own (plain old fuel) at waits (moves_of register) env) (object a_function id.0) arguments ≡ made (plain new fuel) [] is_entered
  enters_so env fuel =
      let V = plain old fuel in
      let P = with_own V at waits (moves_of register) env in
      enters_is P id.0 arguments h.function true (ap (λ fs. slice_get fs id.0) (functions_own V at waits (moves_of register) env) ∙ h.is) (room_own V at waits (moves_of register) env e ∙ room)
      ∙ ap (λ W. made (push_all W (entered ∷ [])) [] is_entered) (own_put V at waits register env ∙ ap (λ n. put_top V at.stack (lua (ready_top n))) (sym q))
      ∙ ap (λ W. made W [] is_entered) (entered_world fuel)

  enters_here : EntersOver old new wait (GivenUp register) (object a_function id.0) arguments go
  enters_here = record {
    is = λ p f env x i fuel all W.
        subst (λ p. from_world W (follows all (enters (made_ready old fuel p wait (GivenUp register) env x) (object a_function id.0) arguments)) ≡ ends go (plain new fuel)) (some_is e f)
        (ap (λ o. from_world W (follows all o)) (enters_so env fuel));
  }

  pub enters_given : EntersGiven old new id register given wait
  enters_given = record {
    enters = λ p f.
        subst (λ (p : Place). EntersOver old new wait (GivenUp register) (object a_function id.0) (range (suc register) given p.top.own.registers) go) (some_is e f) enters_here;
  }

-- a function is called as it is, through no link

pub itself : (links : ℕ) (H : Heap) (n : ℕ) (vs : List Value) → callee_of links H (object a_function n) vs ≡ callee (object a_function n) vs
itself zero H n vs = refl
itself (suc links) H n vs = refl

pub calls_given : (old new : Memory) (at : Place) (fuel : ℕ) (id : FuncId) (register given : ℕ) (wait : KeptWait) → place_of (plain old 0) ≡ Some at → (fuel ≡ 0 → ⊥) → EntersGiven old new id register given wait
    → CallsGiven old new fuel (fuel - 1) id register given wait
calls_given old new at fuel id register given wait e z g = record {
  calls = λ arguments a.
      let vs = map (value old.strings) arguments in
      paid_so old new at fuel (Func id) arguments wait (GivenUp register) (object a_function id.0) vs go e (itself greatest_chain (plain old 0).heap id.0 vs) z
      (subst (λ vs. EntersOver old new wait (GivenUp register) (object a_function id.0) vs go) (a.are at e) (g.enters at e));
}

-- the cells stay listed

pub cells_stay : {E : Type 0} (o : Result (Unit {0}) E) (s s' : KeptStack) (register given : ℕ) (wait : KeptWait) (stack : ℕ) (id : FuncId) (shape : Shape) → OnOk o (Calls s s' register given wait stack id shape)
    → OnErr o (s' ≡ s) → s'.open_cells ≡ s.open_cells
cells_stay (Ok u) s s' register given wait stack id shape p q = p.cells
cells_stay (Err x) s s' register given wait stack id shape p q = ap (λ (s : KeptStack). s.open_cells) q
