-- Moves where any frame is on top.
use Rattle.std.proofs.Common.{ℕ, ◌+◌, ◌*◌, ◌-◌, ◌≤◌, ◌≡◌, List, [], ◌∷◌, ◌++◌, Option, Some, None, refl, subst, sym, ap, ◌∙◌, length, arith, Bool, true, false, cond, drop}
use Rattle.std.specs.Prelude.{slice_get, IsTrue, nat_le}
use Rattle.int_core.specs.Value.{Value, Shape, last, without_last, error_or_nil}
use Rattle.int_core.specs.Operations.{callee_of, greatest_chain}
use Rattle.library_rows.specs.Look.{Look, Done, done as came, refused as was_refused, raised as was_raised, looked}
use Rattle.machine_core.specs.World.{Frame, lua, closing, World, Stack, stack_of, place_of, put_frames, push, pop, put_top, Function}
use Rattle.machine_core.specs.Text.{Arg, arg, Own, Given}
use Rattle.machine_core.specs.Moves.{Over, over_pcall, on_own, take_moving, look, give, give_with, blame, place_text, find_close, see_status, see_running, print, consult, push_frame, call_value, see_top, see_catcher, pop_frame, take_closing, set_error, begin_leaving, leave_frame, Made, made, frame_over, CallShape, is_entered, is_primitive, not_paid, not_entered, TopShape, lua_top, closing_top, no_top, top_shape, top_now, ClosingShape, one_left, LookShape, next_closing, with_error, consulted, add_printed, bytes_in, coroutine_number, move, Status}
use Rattle.machine_sound.specs.Sound.{Each}
use Rattle.machine_sound.proofs.Lists.{bind_some, last_push}
use Rattle.machine_sound.proofs.Values.{le_of}
use Rattle.machine_ends.specs.Measure.{Within, frame_weight, world_weight}
use Rattle.machine_ends.specs.Falls.{anywhere, stands, not_told, after_enter, after_push, after_closing, after_own, own_needs, over_top, may_be, is_shape, is_frame, IsFrame, IsClosing}
use Rattle.machine_ends.proofs.Weights.{Runs, stack_runs, cos_run, there_now, frames_last, chain_longer}
use Rattle.machine_ends.proofs.Held.{spare, HeldOther, Holds, HoldsAfter, Known, lua_of, with_top, put_runs, put_weight, put_functions, top_last, top_is}
use Rattle.machine_ends.proofs.Outside.{through, here}
use Rattle.machine_ends.proofs.Calls.{push_weight, push_functions, CalledSo, called_so, begin_move, leave_move}
use Rattle.machine_ends.proofs.OwnMoves.{own_move}
use Rattle.code_core.specs.Prototype.{instruction_count}
use Rattle.int_core.specs.Heap.{Heap}
use Rattle.int_core.specs.Limits.{greatest_depth}

pub over_weight : (most : ℕ) (over : Over) (env : List Value) → frame_weight most (frame_over over env) ≡ 3
over_weight most over_pcall env = refl
over_weight most _ env = refl

over_shape : (W : World) (over : Over) (env : List Value) → top_shape W (Some (frame_over over env)) ≡ over_top over
over_shape W over_pcall env = refl
over_shape W _ env = refl

pub frame_least : (most : ℕ) (f : Frame) → 3 ≤ frame_weight most f
frame_least most (lua f) = omega arith
frame_least most _ = omega arith

pub push_runs : (P : World) (s : Stack) (x : Frame) → Runs P s → Runs (push P s x) (record { coroutine = s.coroutine; frames = s.frames ++ x ∷ [] })
unfolding push put_frames
push_runs P s x r = record { last_is = r.last_is; there = there_now 0 P s r (s.frames ++ x ∷ []) }

pop_so : (most : ℕ) (W : World) (s : Stack) (f : Frame) → Runs W s → last s.frames ≡ Some f → ((pop W s).functions ≡ W.functions) × (world_weight most (pop W s) + frame_weight most f ≡ world_weight most W)
unfolding pop put_frames
pop_so most W s f r e = (refl, let a = cos_run most W s r (without_last s.frames) in let b = frames_last most s.frames f e in omega arith)

printed_is : (W : World) (bytes : List ℕ) → add_printed W bytes ≡ record W { printed = W.printed ++ bytes }
unfolding add_printed
printed_is W bytes = refl

shape_self : (t : TopShape) → is_shape t t ≡ true
shape_self lua_top = refl
shape_self _ = refl

some_top : (t u : TopShape) → Some t ≡ Some u → t ≡ u
some_top t u e = cc

-- a frame is on top where its shape is that of one
frame_there : (W : World) (o : Option Frame) (t : TopShape) → top_shape W o ≡ t → IsTrue (is_frame t) → (f : Frame) × (o ≡ Some f)
frame_there W (Some f) t e h = (f, refl)
frame_there W None t e h = absurd (let k = ap is_frame e in cc)

module _ (most bound : ℕ) (rich : Bool) (c : ℕ) (top : Option TopShape) (env : List Value) (W : World) (within : Within most W) (h : HeldOther most bound rich c top W) where
  within_in : (V : World) → V.functions ≡ W.functions → Within most V
  within_in V e = subst (λ fs. Each (λ (f : Function). instruction_count f.code ≤ most) fs) (sym e) within

  pub plain_low : world_weight most W + c ≤ bound
  plain_low = by rich h.low
    where
      by : (b : Bool) → world_weight most W + spare most b c ≤ bound → world_weight most W + c ≤ bound
      by true l = omega arith
      by false l = omega arith

  abbrev Kept : {T : Type 0} → Made T → Type 0
  Kept d = Holds most bound (anywhere rich c top) d.world

  -- nothing changed that counts
  kept : (H : Heap) (moving : List Value) (printed : List ℕ) → Holds most bound (anywhere rich c top) (record W { heap = H; moving = moving; printed = printed })
  kept H moving printed = record { within = within; held = record { low = low rich h.low; known = known top h.known } }
    where
      low : (b : Bool) → world_weight most W + spare most b c ≤ bound → world_weight most W + spare most b c ≤ bound
      low b l = l

      known : (t : Option TopShape) → Known t W → Known t (record W { heap = H; moving = moving; printed = printed })
      known None k = tt
      known (Some t) k = k

  still : Holds most bound (anywhere rich c top) W
  still = record { within = within; held = h }

  pub taken : (d : Made (Unit {0})) → move take_moving env W ≡ Some d → Holds most bound (anywhere rich c top) d.world
  taken = here Kept _ (kept W.heap [] W.printed)

  pub looked_at : (x : Arg) (d : Made Shape) → move (look x) env W ≡ Some d → Holds most bound (anywhere rich c top) d.world
  looked_at x = here Kept _ still

  pub given : (xs : List Arg) (d : Made (Unit {0})) → move (give xs) env W ≡ Some d → Holds most bound (anywhere rich c top) d.world
  given xs = here Kept _ (kept W.heap _ W.printed)

  pub given_with : (xs : List Arg) (slot : ℕ) (d : Made (Unit {0})) → move (give_with xs slot) env W ≡ Some d → Holds most bound (anywhere rich c top) d.world
  given_with xs slot = here Kept _ (kept W.heap _ W.printed)

  pub blamed_so : (text : List ℕ) (d : Made (Unit {0})) → move (blame text) env W ≡ Some d → Holds most bound (anywhere rich c top) d.world
  blamed_so text = here Kept _ (kept W.heap _ W.printed)

  pub placed_so : (x : Arg) (level : ℕ) (d : Made (Unit {0})) → move (place_text x level) env W ≡ Some d → Holds most bound (anywhere rich c top) d.world
  placed_so x level = here Kept _ still

  pub found_close : (v e : Arg) (d : Made (Unit {0})) → move (find_close v e) env W ≡ Some d → Holds most bound (anywhere rich c top) d.world
  found_close v e = here Kept _ still

  pub seen_status : (x : Arg) (d : Made Status) → move (see_status x) env W ≡ Some d → Holds most bound (anywhere rich c top) d.world
  seen_status x = through Kept (coroutine_number (arg env x)) _ (λ co e. through Kept (slice_get W.coroutines co) _ (λ b k. here Kept _ still))

  pub seen_running : (d : Made (Unit {0})) → move see_running env W ≡ Some d → Holds most bound (anywhere rich c top) d.world
  seen_running = through Kept (last W.chain) _ (λ co e. here Kept _ still)

  pub printed_so : (x : Arg) (d : Made (Unit {0})) → move (print x) env W ≡ Some d → Holds most bound (anywhere rich c top) d.world
  printed_so x = here Kept _ (subst (Holds most bound (anywhere rich c top)) (sym (printed_is W (bytes_in (arg env x)))) (kept W.heap W.moving (W.printed ++ bytes_in (arg env x))))

  consulted_so : (o : Done) (d : Made LookShape) → consulted W o ≡ Some d → Holds most bound (anywhere rich c top) d.world
  consulted_so (came H vs) = here Kept _ (kept H W.moving W.printed)
  consulted_so (was_refused text) = here Kept _ still
  consulted_so (was_raised H v) = here Kept _ (kept H W.moving W.printed)

  pub consult_so : (l : Look) (slot : ℕ) (d : Made LookShape) → move (consult l slot) env W ≡ Some d → Holds most bound (anywhere rich c top) d.world
  consult_so l slot = consulted_so (looked l (drop slot env) W.heap)

  pub seen_catcher : (d : Made TopShape) → move see_catcher env W ≡ Some d → Holds most bound (anywhere rich c top) d.world
  seen_catcher = through Kept (stack_of W) _ (λ s e. here Kept _ still)

  -- what is on top

  pub seen_top : (d : Made TopShape) → move see_top env W ≡ Some d → HoldsAfter most bound (cond (may_be top d.told) (stands (anywhere rich c (Some d.told))) not_told) d.world
  seen_top = through (λ (d : Made TopShape). HoldsAfter most bound (cond (may_be top d.told) (stands (anywhere rich c (Some d.told))) not_told) d.world) (top_now W) _
      (λ t e. here (λ (d : Made TopShape). HoldsAfter most bound (cond (may_be top d.told) (stands (anywhere rich c (Some d.told))) not_told) d.world) _
      (subst (λ b. HoldsAfter most bound (cond b (stands (anywhere rich c (Some t))) not_told) W) (sym (may top h.known t e)) (record { within = within; held = record { low = h.low; known = e } })))
    where
      may : (o : Option TopShape) → Known o W → (t : TopShape) → top_now W ≡ Some t → may_be o t ≡ true
      may None k t e = refl
      may (Some u) k t e = subst (λ t. is_shape u t ≡ true) (some_top u t (sym k ∙ e)) (shape_self u)

  pub popped_frame : IsFrame top → (d : Made (Unit {0})) → move pop_frame env W ≡ Some d → Holds most bound (anywhere rich (c + 3) None) d.world
  popped_frame n = through (λ (d : Made (Unit {0})). Holds most bound (anywhere rich (c + 3) None) d.world) (stack_of W) _ (λ s e. here (λ (d : Made (Unit {0})). Holds most bound (anywhere rich (c + 3) None) d.world) _ (by s (stack_runs W s e) (frame top n h.known s (stack_runs W s e))))
    where
      frame : (o : Option TopShape) → IsFrame o → Known o W → (s : Stack) → Runs W s → (f : Frame) × (last s.frames ≡ Some f)
      frame None n k s r = absurd n
      frame (Some t) n k s r = frame_there W (last s.frames) t (some_top (top_shape W (last s.frames)) t (sym (top_is W s r) ∙ k)) n

      by : (s : Stack) → Runs W s → (f : Frame) × (last s.frames ≡ Some f) → Holds most bound (anywhere rich (c + 3) None) (pop W s)
      by s r f =
          let o = pop_so most W s f.0 r f.1 in
          record { within = within_in (pop W s) o.0; held = record { low = low rich (world_weight most (pop W s)) (frame_weight most f.0) o.1 (frame_least most f.0) h.low; known = tt } }
        where
          low : (b : Bool) (n m : ℕ) → n + m ≡ world_weight most W → 3 ≤ m → world_weight most W + spare most b c ≤ bound → n + spare most b (c + 3) ≤ bound
          low true n m e l k = omega arith
          low false n m e l k = omega arith

  -- a frame is pushed
  pub pushed_so : (over : Over) → IsTrue (nat_le 3 c) → (d : Made Bool) → move (push_frame over) env W ≡ Some d → Holds most bound (after_push over rich c top d.told) d.world
  pushed_so over n = by (stack_of W) refl
    where
      low : (b : Bool) (m k : ℕ) → k ≡ 3 → m ≡ world_weight most W + k → 3 ≤ c → world_weight most W + spare most b c ≤ bound → m + spare most b (c - 3) ≤ bound
      low true m k e f l a = omega arith
      low false m k e f l a = omega arith

      room : (b : Bool) (s : Stack) → Runs W s → (d : Made Bool) → cond b (made (push W s (frame_over over env)) [] true) (made W [] false) ≡ Some d → Holds most bound (after_push over rich c top d.told) d.world
      room true s r = here (λ (d : Made Bool). Holds most bound (after_push over rich c top d.told) d.world) _ (record {
        within = within_in (push W s (frame_over over env)) (push_functions W s (frame_over over env));
        held = record {
          low = low rich (world_weight most (push W s (frame_over over env))) (frame_weight most (frame_over over env)) (over_weight most over env) (push_weight most W s (frame_over over env) r) (le_of 3 c n) h.low;
          known = top_is (push W s (frame_over over env)) (record { coroutine = s.coroutine; frames = s.frames ++ frame_over over env ∷ [] }) (push_runs W s (frame_over over env) r)
              ∙ ap (λ x. Some (top_shape (push W s (frame_over over env)) x)) (last_push s.frames (frame_over over env)) ∙ ap Some (over_shape (push W s (frame_over over env)) over env);
        };
      })
      room false s r = here (λ (d : Made Bool). Holds most bound (after_push over rich c top d.told) d.world) _ still

      by : (o : Option Stack) → stack_of W ≡ o → (d : Made Bool)
          → cond (elim o as (λ _. Bool) [ None ↦ false | Some s ↦ nat_le (length s.frames + 1) greatest_depth ]) (made (elim o as (λ _. World) [ None ↦ W | Some s ↦ push W s (frame_over over env) ]) [] true) (made W [] false) ≡ Some d
          → Holds most bound (after_push over rich c top d.told) d.world
      by None e = here (λ (d : Made Bool). Holds most bound (after_push over rich c top d.told) d.world) _ still
      by (Some s) e = room (nat_le (length s.frames + 1) greatest_depth) s (stack_runs W s e)

  -- calls

  top_same : (V : World) → V.coroutines ≡ W.coroutines → V.chain ≡ W.chain → top_now V ≡ top_now W
  top_same V e f = rw (e, f) refl

  called_held : (s : CallShape) (V : World) → CalledSo most W W s V → Holds most bound (after_enter s (anywhere rich c top)) V
  called_held is_entered V k = record { within = within_in V k.0; held = record { low = (let a = k.1 in let l = plain_low in omega arith); known = tt } }
  called_held (is_primitive n) V k = record { within = within_in V k.0; held = record { low = (let a = k.1 in let l = plain_low in omega arith); known = tt } }
  called_held not_paid V k = record { within = within_in V (ap (λ (W : World). W.functions) k); held = tt }
  called_held (not_entered text) V k = record { within = within_in V k.functions; held = record { low = low rich k.weight h.low; known = known top h.known } }
    where
      low : (b : Bool) → world_weight most V ≤ world_weight most W → world_weight most W + spare most b c ≤ bound → world_weight most V + spare most b c ≤ bound
      low b e l = omega arith

      known : (t : Option TopShape) → Known t W → Known t V
      known None x = tt
      known (Some t) x = top_same V k.coroutines k.chain ∙ x

  pub called_value : (f : Arg) (slot : ℕ) (d : Made CallShape) → move (call_value f slot) env W ≡ Some d → Holds most bound (after_enter d.told (anywhere rich c top)) d.world
  called_value f slot d e = called_held d.told d.world (called_so most W W (callee_of greatest_chain W.heap (arg env f) (drop slot env)) refl d e)

  -- closing frames

  is_closing : (o : Option TopShape) → IsClosing o → Known o W → top_now W ≡ Some closing_top
  is_closing (Some closing_top) n k = k
  is_closing (Some (no_top b)) n k = absurd n
  is_closing _ n k = absurd n

  -- another closing frame on top
  closing_so : (s : Stack) (e d : Option Value) (left more : List Value) (k m : ℕ) → Runs W s → last s.frames ≡ Some (closing e left) → length more + k ≤ length left → m ≤ c + 20 * k
      → Holds most bound (anywhere rich m (Some closing_top)) (put_top W s (closing d more))
  closing_so s e d left more k m r l q z = record {
    within = within_in (put_top W s (closing d more)) (put_functions W s (closing d more));
    held = record {
      low = low rich (put_weight most W s (closing e left) (closing d more) r l) h.low;
      known = top_is (put_top W s (closing d more)) (with_top s (closing d more)) (put_runs W s (closing d more) r) ∙ ap (λ x. Some (top_shape (put_top W s (closing d more)) x)) (top_last s (closing d more));
    };
  }
    where
      low : (b : Bool) → world_weight most (put_top W s (closing d more)) + (3 + 20 * length left) ≡ world_weight most W + (3 + 20 * length more) → world_weight most W + spare most b c ≤ bound
          → world_weight most (put_top W s (closing d more)) + spare most b m ≤ bound
      low true w a = omega arith
      low false w a = omega arith

  known_closing : IsClosing top → Holds most bound (anywhere rich c (Some closing_top)) W
  known_closing n = record { within = within; held = record { low = h.low; known = is_closing top n h.known } }

  next_so : IsClosing top → (s : Stack) (f : Frame) → Runs W s → last s.frames ≡ Some f → (d : Made ClosingShape) → next_closing W s f ≡ Some d → Holds most bound (after_closing d.told rich c) d.world
  next_so n s (closing None []) r l = here (λ (d : Made ClosingShape). Holds most bound (after_closing d.told rich c) d.world) _ (known_closing n)
  next_so n s (closing (Some v) []) r l = here (λ (d : Made ClosingShape). Holds most bound (after_closing d.told rich c) d.world) _ (known_closing n)
  next_so n s (closing e (v ∷ left)) r l = by (last (v ∷ left)) refl
    where
      by : (o : Option Value) → last (v ∷ left) ≡ o → (d : Made ClosingShape)
          → elim o as (λ _. Option (Made ClosingShape)) [ None ↦ None | Some x ↦ made (put_top W s (closing e (without_last (v ∷ left)))) (x ∷ error_or_nil e ∷ []) one_left ] ≡ Some d
          → Holds most bound (after_closing d.told rich c) d.world
      by None q = λ d e. absurd (cc)
      by (Some x) q = here (λ (d : Made ClosingShape). Holds most bound (after_closing d.told rich c) d.world) _ (let k = chain_longer (v ∷ left) x q in closing_so s e e (v ∷ left) (without_last (v ∷ left)) 1 (c + 20) r l (omega arith) (omega arith))
  next_so n s _ r l = λ d e. absurd (cc)

  pub taken_closing : IsClosing top → (d : Made ClosingShape) → move take_closing env W ≡ Some d → Holds most bound (after_closing d.told rich c) d.world
  taken_closing n = through (λ (d : Made ClosingShape). Holds most bound (after_closing d.told rich c) d.world) (stack_of W) _ (λ s e. through (λ (d : Made ClosingShape). Holds most bound (after_closing d.told rich c) d.world) (last s.frames) _ (λ f l. next_so n s f (stack_runs W s e) l))

  error_so : IsClosing top → (s : Stack) (f : Frame) (v : Value) → Runs W s → last s.frames ≡ Some f → (d : Made (Unit {0})) → with_error W s f v ≡ Some d → Holds most bound (anywhere rich c (Some closing_top)) d.world
  error_so n s (closing e left) v r l = here (λ (d : Made (Unit {0})). Holds most bound (anywhere rich c (Some closing_top)) d.world) _ (closing_so s e (Some v) left left 0 c r l (omega arith) (omega arith))
  error_so n s _ v r l = λ d e. absurd (cc)

  pub error_set : IsClosing top → (x : Arg) (d : Made (Unit {0})) → move (set_error x) env W ≡ Some d → Holds most bound (anywhere rich c (Some closing_top)) d.world
  error_set n x = through (λ (d : Made (Unit {0})). Holds most bound (anywhere rich c (Some closing_top)) d.world) (stack_of W) _ (λ s e. through (λ (d : Made (Unit {0})). Holds most bound (anywhere rich c (Some closing_top)) d.world) (last s.frames) _ (λ f l. error_so n s f (arg env x) (stack_runs W s e) l))

  -- a Lua frame on top

  pub begins : (text : List ℕ) (d : Made (Unit {0})) → move (begin_leaving text) env W ≡ Some d → Holds most bound (anywhere rich c (Some lua_top)) d.world
  begins text d e =
      let a = bind_some {B = Made (Unit {0})} _ (place_of W) d e in
      begin_move most bound rich c None false env W within (lua_of most bound rich c top W a.0 h a.1) text d e

  pub leaves : (given : Given) (d : Made TopShape) → move (leave_frame given) env W ≡ Some d → Holds most bound (anywhere rich (c + 3) (Some d.told)) d.world
  leaves given d e =
      let a = bind_some {B = Made TopShape} _ (place_of W) d e in
      leave_move most bound rich c None false env W within (lua_of most bound rich c top W a.0 h a.1) given d e

  pub owns : (m : Own) → own_needs m c → (d : Made Shape) → move (on_own m) env W ≡ Some d → Holds most bound (after_own m rich c false d.told) d.world
  owns m n d e =
      let a = bind_some {B = Made Shape} _ (place_of W) d e in
      own_move most bound rich c None false env W within (lua_of most bound rich c top W a.0 h a.1) m n d e
