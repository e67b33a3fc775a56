-- Coroutines that end, in the words of the machine.
use Rattle.std.proofs.Common.{◌≡◌, ℕ, List, [], Option, Some, refl, ap, sym, ◌∙◌, Result, Ok, Err, IfOk}
use Rattle.std.specs.Prelude.{map, flat_map, slice_get}
use Rattle.int_core.specs.Value.{Value, bind}
use Rattle.machine_core.specs.World.{World, Stack, Frame, failed, frames_of, stack_of}
use Rattle.machine_core.specs.Text.{Arg, arg}
use Rattle.machine_core.specs.Moves.{Made, made, back_to_resumer, bury, ends_as, fail_coroutine, pending_values}
use Rattle.machine_sound.proofs.Lists.{bind_at, get_map}
use Rattle.table_core.specs.declared.value.CoroId.{CoroId}
use Rattle.table_core.specs.declared.value.Value.{Value as Kept}
use Rattle.lua_stack.specs.Frames.{KeptStack, frames}
use Rattle.lua_heap.specs.declared.world.Coro.{Coro}
use Rattle.lua_heap.specs.declared.world.Coro.TheVariants.{Running}
use Rattle.lua_heap.specs.declared.world.World.{World as Memory}
use Rattle.lua_heap.specs.Reading.{value}
use Rattle.lua_heap.specs.Plain.{coroutine, plain}
use Rattle.move_laws.specs.Memory.{Runs, Makes}
use Rattle.machine_moves.proofs.OnTop.{kept_as, stack_kept}
use Rattle.machine_coroutines.specs.Ends.{IsPending}

pub has_frames : (W : Memory) (co : CoroId) (s : KeptStack) (fuel : ℕ) → Runs W co s → bind (slice_get (plain W fuel).coroutines co.0) frames_of ≡ Some (frames (value W.strings) s)
has_frames W co s fuel r = ap (λ o. bind o frames_of) (get_map (coroutine W.strings) W.coros.objects co.0 (Running s) r.there)

pub ends_is : (old mid new : Memory) (co : CoroId) (s : KeptStack) (d : Coro) (fuel : ℕ) → Runs old co s
    → plain mid fuel ≡ bury (plain old fuel) co.0 (frames (value old.strings) s) (coroutine old.strings d) → plain new fuel ≡ back_to_resumer (plain mid fuel)
    → ends_as (plain old fuel) (coroutine old.strings d) ≡ Some (plain new fuel)
ends_is old mid new co s d fuel r b k =
    let V = plain old fuel in
    bind_at (λ (s : Stack). Some (back_to_resumer (bury V s.coroutine s.frames (coroutine old.strings d)))) (stack_of V) (kept_as old co s) (stack_kept old co s fuel r)
    ∙ ap (λ W. Some (back_to_resumer W)) (sym b) ∙ ap (λ W. Some W) (sym k)

abbrev failed_with : World → List Frame → Value → List Value → Option (Made (Unit {0}))
failed_with W fs v vs = bind (ends_as W (failed v vs)) (λ V. made V [] tt)

pub fails_is : (old new : Memory) (co : CoroId) (s : KeptStack) (v : Kept) (vs : List Kept) (env : List Value) (x : Arg) → Runs old co s → IsPending old vs → arg env x ≡ value old.strings v
    → ((fuel : ℕ) → ends_as (plain old fuel) (failed (value old.strings v) (map (value old.strings) vs)) ≡ Some (plain new fuel)) → Makes old new (fail_coroutine x) env [] tt
fails_is old new co s v vs env x r p e k = record {
  is = λ fuel.
      let V = plain old fuel in
      let fs = frames (value old.strings) s in
      bind_at (λ (s : Stack). failed_with V s.frames (arg env x) (flat_map pending_values s.frames)) (stack_of V) (kept_as old co s) (stack_kept old co s fuel r)
      ∙ ap (λ v. failed_with V fs v (flat_map pending_values fs)) e
      ∙ ap (failed_with V fs (value old.strings v)) (sym ((p co s r).read (value old.strings) refl))
      ∙ ap (λ o. bind {B = Made (Unit {0})} o (λ V. made V [] tt)) (k fuel);
}

pub if_ok_one : {B E : Type 0} {P R : B → Type 0} (o : Result B E) → IfOk o P → ((b : B) → P b → R b) → IfOk o R
if_ok_one (Ok b) p f = f b p
if_ok_one (Err e) p f = tt
