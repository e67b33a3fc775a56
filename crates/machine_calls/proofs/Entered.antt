-- Functions that are entered in memory.
use Rattle.std.proofs.Common.{◌≡◌, ℕ, ◌+◌, ◌≤◌, ◌<◌, List, [], ◌∷◌, ◌++◌, length, Option, Some, None, refl, ap, sym, ◌∙◌, arith, Bool, true, false, ◌&&◌, Result, Ok, Err, IfOk}
use Rattle.std.specs.Prelude.{cond, map, nat_le, nat_lt, slice_get, IsTrue}
use Rattle.std.proofs.lemmas.List.{length-map}
use Rattle.std.proofs.lemmas.Bool.Decides.{nat_tests}
use Rattle.code_core.specs.Prototype.{Prototype}
use Rattle.code_core.specs.Check.{IsChecked}
use Rattle.int_core.specs.Limits.{greatest_depth, stack_overflow}
use Rattle.int_core.specs.Value.{object, a_function}
use Rattle.machine_core.specs.World.{Function, Frame, World, Stack, put_frames, push}
use Rattle.machine_core.specs.Moves.{new_frame, push_all, has_room, enters, made, is_entered, not_entered}
use Rattle.machine_sound.proofs.Lists.{bind_at, map_get, some_is, get_within}
use Rattle.table_core.specs.declared.value.CoroId.{CoroId}
use Rattle.table_core.specs.declared.value.FuncId.{FuncId}
use Rattle.table_core.specs.declared.value.Value.{Value as Kept}
use Rattle.lua_stack.specs.declared.frame.Shape.{Shape}
use Rattle.lua_stack.specs.Frames.{KeptStack, frame_of, Enters}
use Rattle.lua_heap.specs.declared.world.Func.{Func}
use Rattle.lua_heap.specs.declared.world.World.{World as Memory}
use Rattle.lua_heap.specs.Codes.{functions, prototype_at}
use Rattle.lua_heap.specs.Reading.{value}
use Rattle.lua_heap.specs.Plain.{plain, function}
use Rattle.move_laws.specs.Memory.{Runs, ChangesStack}
use Rattle.move_laws.proofs.Running.{changed_stack_is_put}
use Rattle.machine_moves.proofs.OnTop.{kept_as, stack_kept}
use Rattle.machine_calls.specs.Entering.{HasFunction, HasShape, EntersSo, entered_or_not}

-- the function in memory
pub record KeptFunction (W : Memory) (n : ℕ) (f : Function) : Type 0 where
  pub func : Func
  pub there : slice_get W.funcs.objects n ≡ Some func
  pub is : function (functions W.codes) func ≡ f

pub function_kept : (W : Memory) (n : ℕ) (h : HasFunction W n) → KeptFunction W n h.function
function_kept W n h =
    let f = map_get (function (functions W.codes)) W.funcs.objects n h.function h.is in
    record { func = f.0; there = f.1; is = f.2 }

pub function_there : {W : Memory} {n : ℕ} {f : Function} → KeptFunction W n f → n < length W.funcs.objects
function_there {W} {n} {f} k = get_within W.funcs.objects n k.func k.there

pub code_is : {W : Memory} {n : ℕ} {f : Function} (func : Func) → KeptFunction W n f → slice_get W.funcs.objects n ≡ Some func → prototype_at (functions W.codes) func.code.0 ≡ f.code
code_is {W} {n} {f} func k e =
    ap (λ (f : Func). prototype_at (functions W.codes) f.code.0) (some_is e k.there) ∙ ap (λ (g : Function). g.code) k.is

-- checked code has registers for its parameters
pub params_fit : (p : Prototype) → IsChecked p → p.own.params ≤ p.own.stack
params_fit p c = by (nat_lt 0 (length p.own.code)) (nat_le p.own.params p.own.stack) (nat_le (length p.own.upvalues) 255) refl c.code.sized
  where
    at_most : nat_le p.own.params p.own.stack ≡ true → p.own.params ≤ p.own.stack
    at_most e = search (arith, nat_tests)

    by : (a b d : Bool) → nat_le p.own.params p.own.stack ≡ b → IsTrue (a && (b && d)) → p.own.params ≤ p.own.stack
    by true true d e h = at_most e
    by true false d e h = absurd (cc)
    by false b d e h = absurd (cc)

-- the machine's stack

abbrev roomy : Option Stack → Bool
roomy o = elim o [ None ↦ false | Some s ↦ nat_le (length s.frames + 1) greatest_depth ]

abbrev pushed_all : World → Frame → Option Stack → World
pushed_all W f o = elim o [ None ↦ W | Some s ↦ push W s f ]

push_put : (W : World) (s : Stack) (f : Frame) → push W s f ≡ put_frames W s.coroutine (s.frames ++ f ∷ [])
unfolding push
push_put W s f = refl

pub record EntersStack (s s' : KeptStack) (function : FuncId) (shape : Shape) (arguments : List Kept) (room : Bool) : Type 0 where
  pub room_is : room ≡ nat_le (length s.frames + 1) greatest_depth
  pub entered : room ≡ true → Enters s s' function shape arguments
  pub kept : room ≡ false → s' ≡ s

module _ (old new : Memory) (co : CoroId) (s s' : KeptStack) (id : FuncId) (shape : Shape) (arguments : List Kept) (h : HasShape old id.0 shape) (r : Runs old co s) where
  enters_move : (fuel : ℕ) (room : Bool) → room ≡ nat_le (length s.frames + 1) greatest_depth
      → enters (plain old fuel) (object a_function id.0) (map (value old.strings) arguments)
      ≡ cond room (made (push (plain old fuel) (kept_as old co s) (new_frame id.0 h.function.code (map (value old.strings) arguments))) [] is_entered) (made (plain old fuel) [] (not_entered stack_overflow))
  enters_move fuel room q =
      let V = plain old fuel in
      let vs = map (value old.strings) arguments in
      let fr = new_frame id.0 h.function.code vs in
      let k = stack_kept old co s fuel r in
      bind_at (λ (f : Function). cond (has_room V 1) (made (push_all V (new_frame id.0 f.code vs ∷ [])) [] is_entered) (made V [] (not_entered stack_overflow))) (slice_get V.functions id.0) h.function h.is
      ∙ ap (λ b. cond b (made (push_all V (fr ∷ [])) [] is_entered) (made V [] (not_entered stack_overflow)))
      (ap roomy k ∙ ap (λ n. nat_le (n + 1) greatest_depth) (length-map s.frames (frame_of (value old.strings))) ∙ sym q)
      ∙ ap (λ o. cond room (made (pushed_all V fr o) [] is_entered) (made V [] (not_entered stack_overflow))) k

  entered_as : (fuel : ℕ) (room : Bool) → ChangesStack old new co s' → (room ≡ false → new ≡ old) → (room ≡ true → Enters s s' id shape arguments)
      → cond room (made (push (plain old fuel) (kept_as old co s) (new_frame id.0 h.function.code (map (value old.strings) arguments))) [] is_entered) (made (plain old fuel) [] (not_entered stack_overflow))
      ≡ made (plain new fuel) [] (entered_or_not room)
  entered_as fuel true c same e =
      ap (λ W. made W [] is_entered) (
      push_put (plain old fuel) (kept_as old co s) (new_frame id.0 h.function.code (map (value old.strings) arguments))
      ∙ ap (put_frames (plain old fuel) co.0) (sym ((e refl).entered (value old.strings) refl h.function.code h.shape_is))
      ∙ sym (changed_stack_is_put old new co s' fuel c))
  entered_as fuel false c same e = ap (λ W. made (plain W fuel) [] (not_entered stack_overflow)) (sym (same refl))

  pub entered_so : (room : Bool) → EntersStack s s' id shape arguments room → ChangesStack old new co s' → (room ≡ false → new ≡ old)
      → EntersSo old new (object a_function id.0) (map (value old.strings) arguments) (entered_or_not room)
  entered_so room e c same = record { is = λ fuel. enters_move fuel room e.room_is ∙ entered_as fuel room c same e.entered }

pub if_ok_all : {B E : Type 0} {P Q R S : B → Type 0} (o : Result B E) → IfOk o P → IfOk o Q → IfOk o R → ((b : B) → P b → Q b → R b → S b) → IfOk o S
if_ok_all (Ok b) p q r f = f b p q r
if_ok_all (Err e) p q r f = tt
