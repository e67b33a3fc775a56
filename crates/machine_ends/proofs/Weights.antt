-- What worlds weigh whose running coroutine has other frames.
use Rattle.std.proofs.Common.{ℕ, zero, suc, ◌+◌, ◌*◌, ◌≤◌, ◌≡◌, List, [], ◌∷◌, ◌++◌, Option, Some, None, refl, subst, ap, ◌∙◌, length, map, arith, length-append}
use Rattle.std.specs.Prelude.{slice_get, slice_set, flat_map}
use Rattle.int_core.specs.Value.{nth, bind, last, without_last}
use Rattle.machine_core.specs.World.{Frame, lua, Coroutine, in_progress, World, Stack, stack_of, running_frames}
use Rattle.machine_core.specs.Moves.{pending_values}
use Rattle.machine_sound.proofs.Lists.{get_set_same, bind_some, last_splits}
use Rattle.machine_ends.specs.Measure.{frame_weight, frames_weight, coroutine_weight, coroutines_weight}

module _ (most : ℕ) where
  pub frames_append : (fs gs : List Frame) → frames_weight most (fs ++ gs) ≡ frames_weight most fs + frames_weight most gs
  frames_append [] gs = omega arith
  frames_append (f ∷ fs) gs = let k = frames_append fs gs in omega arith

  pub frames_push : (fs : List Frame) (f : Frame) → frames_weight most (fs ++ f ∷ []) ≡ frames_weight most fs + frame_weight most f
  frames_push fs f = let k = frames_append fs (f ∷ []) in omega arith

  pub frames_last : (fs : List Frame) (f : Frame) → last fs ≡ Some f → frames_weight most (without_last fs) + frame_weight most f ≡ frames_weight most fs
  frames_last fs f e = let k = frames_push (without_last fs) f in let j = ap (frames_weight most) (last_splits fs f e) in omega arith

  -- without the last one they weigh no more
  pub frames_without : (fs : List Frame) → frames_weight most (without_last fs) ≤ frames_weight most fs
  frames_without fs = from (last fs) refl
    where
      from : (o : Option Frame) → last fs ≡ o → frames_weight most (without_last fs) ≤ frames_weight most fs
      from (Some f) e = let k = frames_last fs f e in omega arith
      from None e = none fs e
        where
          none : (fs : List Frame) → last fs ≡ None → frames_weight most (without_last fs) ≤ frames_weight most fs
          none [] e = omega arith
          none (f ∷ fs) e = absurd (let k = last_is f fs in cc)
            where
              last_is : (f : Frame) (fs : List Frame) → (g : Frame) × (last (f ∷ fs) ≡ Some g)
              last_is f [] = (f, refl)
              last_is f (g ∷ fs) = last_is g fs

  pub cos_set : (cs : List Coroutine) (i : ℕ) (c d : Coroutine) → slice_get cs i ≡ Some c → coroutines_weight most (slice_set cs i d) + coroutine_weight most c ≡ coroutines_weight most cs + coroutine_weight most d
  cos_set [] i c d e = absurd (cc)
  cos_set (b ∷ cs) zero c d e = let k : Some b ≡ Some c = e in let q : b ≡ c = cc in let j = ap (coroutine_weight most) q in omega arith
  cos_set (b ∷ cs) (suc i) c d e = let k = cos_set cs i c d e in omega arith

  pub cos_push : (cs : List Coroutine) (d : Coroutine) → coroutines_weight most (cs ++ d ∷ []) ≡ coroutines_weight most cs + coroutine_weight most d
  cos_push [] d = omega arith
  cos_push (c ∷ cs) d = let k = cos_push cs d in omega arith

  -- the values of pending variables
  pending_weight : (f : Frame) → 20 * length (pending_values f) ≤ frame_weight most f
  pending_weight (lua f) = let k = count f.own.pending in omega arith
    where
      count : (ps : List ℕ) → length (map (nth f.own.registers) ps) ≡ length ps
      count [] = refl
      count (p ∷ ps) = ap suc (count ps)
  pending_weight _ = omega arith

  pub pendings_weight : (fs : List Frame) → 20 * length (flat_map pending_values fs) ≤ frames_weight most fs
  pendings_weight [] = omega arith
  pendings_weight (f ∷ fs) = let a = pending_weight f in let b = pendings_weight fs in let l = length-append (pending_values f) (flat_map pending_values fs) in omega arith

-- the running coroutine

pub record Runs (W : World) (s : Stack) : Type 0 where
  pub last_is : last W.chain ≡ Some s.coroutine
  pub there : slice_get W.coroutines s.coroutine ≡ Some (in_progress s.frames)

running_is : (c : Coroutine) (fs : List Frame) → running_frames c ≡ Some fs → c ≡ in_progress fs
running_is (in_progress gs) fs e = let k : Some gs ≡ Some fs = e in let q : gs ≡ fs = cc in ap in_progress q
running_is _ fs e = absurd (cc)

pub stack_runs : (W : World) (s : Stack) → stack_of W ≡ Some s → Runs W s
stack_runs W s e =
    let a = bind_some (λ co. bind (bind (slice_get W.coroutines co) running_frames) (λ frames. Some (record { coroutine = co; frames = frames }))) (last W.chain) s e in
    let b = bind_some {B = Stack} (λ frames. Some (record { coroutine = a.0; frames = frames })) (bind (slice_get W.coroutines a.0) running_frames) s a.2 in
    let c = bind_some running_frames (slice_get W.coroutines a.0) b.0 b.1 in
    let r = running_is c.0 b.0 c.2 in
    let k : Some (record { coroutine = a.0; frames = b.0 }) ≡ Some s = b.2 in
    let q : record { coroutine = a.0; frames = b.0 } ≡ s = some_stack (record { coroutine = a.0; frames = b.0 }) s k in
    subst (Runs W) q (record { last_is = a.1; there = c.1 ∙ ap Some r })
  where
    some_stack : (x y : Stack) → Some x ≡ Some y → x ≡ y
    some_stack x y e = cc

pub runs_stack : (W : World) (s : Stack) → Runs W s → stack_of W ≡ Some s
runs_stack W s r = rw (r.last_is, r.there) refl

-- the chain of a world that runs
pub chain_longer : {A : Type 0} (ch : List A) (co : A) → last ch ≡ Some co → length (without_last ch) + 1 ≡ length ch
chain_longer ch co e = let k = ap length (last_splits ch co e) in let l = length-append (without_last ch) (co ∷ []) in omega arith

-- other frames
module _ (most : ℕ) (W : World) (s : Stack) (r : Runs W s) (gs : List Frame) where
  pub cos_run : coroutines_weight most (slice_set W.coroutines s.coroutine (in_progress gs)) + frames_weight most s.frames ≡ coroutines_weight most W.coroutines + frames_weight most gs
  cos_run = cos_set most W.coroutines s.coroutine (in_progress s.frames) (in_progress gs) r.there

  pub there_now : slice_get (slice_set W.coroutines s.coroutine (in_progress gs)) s.coroutine ≡ Some (in_progress gs)
  there_now = get_set_same W.coroutines s.coroutine (in_progress s.frames) (in_progress gs) r.there

-- the top is another frame
pub top_weight : (most : ℕ) (W : World) (s : Stack) → Runs W s → (f g : Frame) → last s.frames ≡ Some f
    → coroutines_weight most (slice_set W.coroutines s.coroutine (in_progress (without_last s.frames ++ g ∷ []))) + frame_weight most f ≡ coroutines_weight most W.coroutines + frame_weight most g
top_weight most W s r f g e =
    let a = cos_run most W s r (without_last s.frames ++ g ∷ []) in
    let b = frames_push most (without_last s.frames) g in
    let c = frames_last most s.frames f e in omega arith
