-- The row of `coroutine.close`, over whole worlds.
use Rattle.std.proofs.Common.{◌≡◌, ℕ, List, [], ◌++◌, Option, Some, None, refl, ap, sym, ◌∙◌, append-nil, Bool, true, false}
use Rattle.std.specs.Prelude.{cond, flat_map, map, slice_get}
use Rattle.int_core.specs.Limits.{stack_overflow}
use Rattle.int_core.specs.Value.{Value, object, a_coroutine, shape, bind, nth}
use Rattle.machine_core.specs.World.{Coroutine, fresh, suspended, in_progress, normal, dead, failed, closing, World, Stack, stack_of, push, put_frames}
use Rattle.machine_core.specs.Text.{Arg, arg, read}
use Rattle.machine_core.specs.FrameRows.{blames, closing_row}
use Rattle.machine_core.specs.Moves.{Made, made, move, ResumeShape, resumed, is_entered, not_entered, begin_closing, bury, closes_in, coroutine_number, has_room, pending_values, put_coroutine, take_moving, closes_coroutine as begins, Ending, run}
use Rattle.machine_core.specs.MachineStep.{after_closing, close_row, closes_coroutine}
use Rattle.lua_heap.specs.declared.world.World.{World as Memory}
use Rattle.lua_heap.specs.Reading.{value}
use Rattle.lua_heap.specs.Plain.{plain}
use Rattle.move_laws.specs.Memory.{Leads, Makes}
use Rattle.move_laws.proofs.Rows.{act_is}
use Rattle.lib_coroutine.proofs.Rows.{blames_on, with_moving}

-- what a move comes to where nothing moves
abbrev pub moved : Option (Made ResumeShape) → Option (Made ResumeShape)
moved None = None
moved (Some d) = Some (record d { world = with_moving d.world [] })

bind_moved : {A : Type 0} (o : Option A) (f g : A → Option (Made ResumeShape)) → ((a : A) → f a ≡ moved (g a)) → bind o f ≡ moved (bind o g)
bind_moved None f g h = refl
bind_moved (Some a) f g h = h a

chosen : (b : Bool) (X Y : Option (Made ResumeShape)) → cond b (moved X) (moved Y) ≡ moved (cond b X Y)
chosen true X Y = refl
chosen false X Y = refl

closes_in_moved : (V D : World) (s : Stack) (e : Option Value) (left : List Value) → closes_in (with_moving V []) (with_moving D []) s e left ≡ moved (closes_in V D s e left)
unfolding push put_frames
closes_in_moved V D s e left = chosen (has_room V 1) (made (push D s (closing e left)) [] (resumed is_entered)) (made V [] (resumed (not_entered stack_overflow)))

begins_moved : (V : World) (s : Stack) (co : ℕ) (c : Coroutine) → begins (with_moving V []) s co c ≡ moved (begins V s co c)
unfolding bury put_coroutine
begins_moved V s co (fresh body) = closes_in_moved V (put_coroutine V co dead) s None []
begins_moved V s co (suspended frames) = closes_in_moved V (bury V co frames dead) s None (flat_map pending_values frames)
begins_moved V s co (in_progress frames) = refl
begins_moved V s co (normal frames) = refl
begins_moved V s co dead = closes_in_moved V V s None []
begins_moved V s co (failed e pending) = closes_in_moved V (put_coroutine V co dead) s (Some e) pending

abbrev begun_with : World → Value → Option (Made ResumeShape)
begun_with V v = bind (stack_of V) (λ s. bind (coroutine_number v) (λ co. bind (slice_get V.coroutines co) (begins V s co)))

begun_moved : (V : World) (v : Value) → begun_with (with_moving V []) v ≡ moved (begun_with V v)
begun_moved V v =
    bind_moved (stack_of V) (λ s. bind (coroutine_number v) (λ co. bind (slice_get V.coroutines co) (begins (with_moving V []) s co))) (λ s. bind (coroutine_number v) (λ co. bind (slice_get V.coroutines co) (begins V s co)))
    (λ s. bind_moved (coroutine_number v) (λ co. bind (slice_get V.coroutines co) (begins (with_moving V []) s co)) (λ co. bind (slice_get V.coroutines co) (begins V s co))
    (λ co. bind_moved (slice_get V.coroutines co) (begins (with_moving V []) s co) (begins V s co) (begins_moved V s co)))

close_is : (V D : World) (co : ℕ) (told : ResumeShape) → nth V.moving 0 ≡ object a_coroutine co → move (begin_closing (read 0)) V.moving V ≡ made D [] told
    → run close_row [] V ≡ run (after_closing told) (V.moving ++ [] ++ []) (with_moving D [])
close_is V D co told e m =
    let V0 = with_moving V [] in
    ap (λ s. run (closes_coroutine s 0) (V.moving ++ []) V0) (ap shape e)
    ∙ act_is (begin_closing (read 0)) (λ _ s. after_closing s) (V.moving ++ []) V0 (with_moving D []) [] told
    (ap (λ l. begun_with V0 (nth l 0)) (append-nil V.moving) ∙ begun_moved V (nth V.moving 0) ∙ ap moved m)

module _ {old mid : Memory} {co : ℕ} {told : ResumeShape} (e : nth (map (value old.strings) old.moving.items) 0 ≡ object a_coroutine co)
    (m : (env : List Value) (x : Arg) → arg env x ≡ object a_coroutine co → Makes old mid (begin_closing x) env [] told) where
  begun : (fuel : ℕ) → run close_row [] (plain old fuel) ≡ run (after_closing told) ((plain old fuel).moving ++ [] ++ []) (with_moving (plain mid fuel) [])
  begun fuel = close_is (plain old fuel) (plain mid fuel) co told e ((m (plain old fuel).moving (read 0) e).is fuel)

  -- the frame is there
  pub closes_on : {taken new : Memory} {ending : Ending} → told ≡ resumed is_entered → ((fuel : ℕ) → plain taken fuel ≡ with_moving (plain mid fuel) []) → ((env : List Value) → Leads closing_row env taken new ending) → Leads close_row [] old new ending
  closes_on q t l = record {
    is = λ fuel.
        let E = (plain old fuel).moving ++ [] ++ [] in
        begun fuel ∙ ap (λ told. run (after_closing told) E (with_moving (plain mid fuel) [])) q ∙ ap (run closing_row E) (sym (t fuel)) ∙ (l E).is fuel;
  }

  -- an error is raised where nothing has changed
  pub closes_not : {new : Memory} {ending : Ending} (text : List ℕ) → ((E : List Value) (W : World) → run (after_closing told) E W ≡ run (blames text) E W) → ((fuel : ℕ) → plain mid fuel ≡ plain old fuel)
      → ((env : List Value) → Leads (blames text) env mid new ending) → Leads close_row [] old new ending
  closes_not text q s l = record {
    is = λ fuel.
        let E = (plain old fuel).moving ++ [] ++ [] in
        begun fuel ∙ q E (with_moving (plain mid fuel) []) ∙ blames_on (plain mid fuel) text E ∙ (l []).is fuel;
  }

pub taken_is : {mid taken : Memory} {vs : List Value} → Makes mid taken take_moving [] vs tt → (fuel : ℕ) → plain taken fuel ≡ with_moving (plain mid fuel) []
taken_is {mid} {taken} {vs} h fuel = sym (ap (λ (o : Option (Made (Unit {0}))). elim o as (λ _. World) [ Some d ↦ d.world | None ↦ plain taken fuel ]) (h.is fuel))
