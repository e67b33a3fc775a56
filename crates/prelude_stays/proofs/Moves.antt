-- The moves that read no register: what they leave, and what they read, is apart from the environment.
use Rattle.std.proofs.Common.{ℕ, zero, ◌≡◌, List, [], ◌∷◌, ◌++◌, Option, Some, None, refl, subst, sym, length, drop, reverse}
use Rattle.std.specs.Prelude.{slice_get, flat_map}
use Rattle.std.proofs.lemmas.List.{reverse-append}
use Rattle.int_core.specs.Value.{primitive, a_function, a_coroutine, Value, known, object, bind, last, without_last, error_or_nil}
use Rattle.int_core.specs.Operations.{is_function}
use Rattle.library_rows.specs.Look.{Done, done as came, refused as was_refused, raised as was_raised, looked}
use Rattle.code_core.specs.Check.{at}
use Rattle.machine_core.specs.World.{leaving, Frame, lua, pcall, xpcall, handler, closing, dead, failed, World, Stack, stack_of, Place, place_of, put_top, put_frames}
use Rattle.machine_core.specs.Text.{Arg, arg, args_of, close_cells, keep_pending, Given, results, thrown, given_values}
use Rattle.machine_core.specs.Moves.{Over, over_pcall, over_xpcall, over_handler, frame_over, Move, on_own, move_pc, open_register, outside, settle, enter, enter_tail, await, find_close, is_closable, begin_leaving, leave_frame, take_moving, look, give, give_with, blame, place_text, push_frame, call_value, see_top, see_catcher, pop_frame, take_closing, set_error, end_coroutine, fail_coroutine, suspend, resume, begin_closing, consult, create, see_status, see_running, print, make_loaded, environment_in, Made, made, blamed, placed, place_from, popped, top_now, catcher, handler_value, ClosingShape, next_closing, one_left, with_error, pending_values, ends_as, runs_main, has_room, with_own, coroutine_number, add_printed, bytes_in, consulted, move}
use Rattle.machine_sound.specs.Sound.{Each, OptionOk}
use Rattle.machine_sound.proofs.Lists.{each_none, each_cons, each_one, each_tail, each_append, each_push, each_take, each_drop}
use Rattle.prelude_stays.specs.Guards.{Guard, unguarded}
use Rattle.prelude_stays.specs.Kept.{Home, Apart, FrameOk, Keeps}
use Rattle.prelude_stays.proofs.Heaps.{closer_ok}
use Rattle.prelude_stays.proofs.Looks.{DoneOk, looked_ok}
use Rattle.prelude_stays.proofs.Own.{arg_apart, args_apart}
use Rattle.prelude_stays.proofs.Worlds.{MadeKeeps, made_bind, made_cond, OnStack, stack_there, OnPlace, place_there, top_ok, frames_ok, moving_keeps, heap_keeps, changed}
use Rattle.prelude_stays.proofs.Frames.{top_keeps, own_keeps, popped_keeps, all_keeps, other_top, called_keeps, tail_keeps}
use Rattle.prelude_stays.proofs.Growing.{loaded_keeps}
use Rattle.prelude_stays.proofs.Coroutines.{suspend_keeps, resumes_keeps, closing_keeps, ends_keeps, add_keeps, all_pending_apart}
use Rattle.machine_sound.proofs.WaitingMoves.{each_reverse}

-- those that read no register of the frame on top, open none, and leave no frame alone
abbrev pub IsFree : Move → Type 0
IsFree (on_own m) = ⊥
IsFree (open_register r) = ⊥
IsFree (outside q) = ⊥
IsFree (settle op xs) = ⊥
IsFree (enter f slot wait prepared) = ⊥
IsFree (await f slot wait prepared) = ⊥
IsFree pop_frame = ⊥
IsFree m = Unit {0}

handler_apart : (e : ℕ) (gs : List Guard) (fs : List Frame) → Each (FrameOk e gs) fs → Each (Apart e) (handler_value (catcher fs))
handler_apart e gs [] h = each_none (Apart e)
handler_apart e gs (lua f ∷ fs) h = handler_apart e gs fs (each_tail (FrameOk e gs) (lua f) fs h)
handler_apart e gs (pcall ∷ fs) h = each_none (Apart e)
handler_apart e gs (xpcall v ∷ fs) h = each_one (Apart e) v (h zero (xpcall v) refl)
handler_apart e gs (handler ∷ fs) h = each_none (Apart e)
handler_apart e gs (closing v vs ∷ fs) h = each_none (Apart e)

last_held : {A : Type 0} (P : A → Type 0) (xs : List A) (x : A) → Each P xs → last xs ≡ Some x → P x
last_held P [] x h e = absurd (cc)
last_held P (z ∷ xs) x h e = h (length xs) x e

placed_apart : (e : ℕ) (W : World) (level : ℕ) (v : Value) → Apart e v → Apart e (placed W level v)
placed_apart e W level (known (primitive n)) a = tt
placed_apart e W level (object kind n) a = a
placed_apart e W level _ a = tt

given_apart : (e : ℕ) (env : List Value) (g : Given) → Each (Apart e) env → Each (Apart e) (given_values env g)
given_apart e env (results slot) v = each_drop (Apart e) slot env v
given_apart e env (thrown x) v = each_one (Apart e) (arg env x) (arg_apart e env x v)

over_ok : (e : ℕ) (gs : List Guard) (over : Over) (env : List Value) → Each (Apart e) env → FrameOk e gs (frame_over over env)
over_ok e gs over_pcall env v = tt
over_ok e gs (over_xpcall h) env v = arg_apart e env h v
over_ok e gs over_handler env v = tt

module _ (y : Home) (gs : List Guard) (W : World) (k : Keeps y gs W) where
  abbrev none : Each (Apart y.table) []
  none = each_none (Apart y.table)

  pc_keeps : (p : Place) → OnPlace W p → (pc : ℕ) → Keeps y gs (put_top W p.stack (lua (record p.top { own = record p.top.own { pc = pc } })))
  unfolding put_top put_frames
  pc_keeps p o pc =
      let l = top_ok y gs W k p o in
      top_keeps y gs W k p o l.guard l.there (record p.top { own = record p.top.own { pc = pc } }) refl (record { registers = l.registers; varargs = l.varargs; pending = l.pending }) l.wait W.cells (λ c h. h) k.cell

  leaving_keeps : (p : Place) → OnPlace W p → (text : List ℕ) → Keeps y gs (record (with_own W p (leaving (blamed W text)) (close_cells 0 ∷ keep_pending ∷ []) []) { moving = blamed W text ∷ [] })
  leaving_keeps p o text =
      let l = top_ok y gs W k p o in
      moving_keeps y gs _ (blamed W text ∷ []) (own_keeps y gs W k p o l.guard l.there (leaving (blamed W text)) (close_cells 0 ∷ keep_pending ∷ []) [] tt (tt, (tt, tt)) none) (each_one (Apart y.table) (blamed W text) tt)

  pub next_keeps : (s : Stack) (f : Frame) → OnStack W s → last s.frames ≡ Some f → MadeKeeps y (next_closing W s f)
  next_keeps s (closing None []) o e = (gs, k, none)
  next_keeps s (closing (Some x) []) o e = (gs, k, each_one (Apart y.table) x (last_held (FrameOk y.table gs) s.frames (closing (Some x) []) (frames_ok y gs W k s o) e).0)
  next_keeps s (closing x (v ∷ left)) o e = by (last (v ∷ left)) refl
    where
      ok : FrameOk y.table gs (closing x (v ∷ left))
      ok = last_held (FrameOk y.table gs) s.frames (closing x (v ∷ left)) (frames_ok y gs W k s o) e

      error_ok : (x : Option Value) → OptionOk (Apart y.table) x → Apart y.table (error_or_nil x)
      error_ok None a = tt
      error_ok (Some w) a = a

      by : (r : Option Value) → last (v ∷ left) ≡ r → MadeKeeps y (elim r as (λ _. Option (Made ClosingShape)) [
        | None ↦ None
        | Some w ↦ made (put_top W s (closing x (without_last (v ∷ left)))) (w ∷ error_or_nil x ∷ []) one_left
      ])
      by None q = tt
      by (Some w) q = (
        gs,
        other_top y gs W k s (closing x (v ∷ left)) (closing x (without_last (v ∷ left))) o e refl (ok.0, each_take (Apart y.table) _ (v ∷ left) ok.1),
        each_cons (Apart y.table) w (error_or_nil x ∷ []) (last_held (Apart y.table) (v ∷ left) w ok.1 q) (each_one (Apart y.table) (error_or_nil x) (error_ok x ok.0)),
      )
  next_keeps s _ o e = tt

  error_keeps : (s : Stack) (f : Frame) (v : Value) → OnStack W s → last s.frames ≡ Some f → Apart y.table v → MadeKeeps y (with_error W s f v)
  error_keeps s (closing x left) v o e a =
      (gs, other_top y gs W k s (closing x left) (closing (Some v) left) o e refl (a, (last_held (FrameOk y.table gs) s.frames (closing x left) (frames_ok y gs W k s o) e).1), none)
  error_keeps s _ v o e a = tt

  consulted_keeps : (d : Done) → DoneOk y d → MadeKeeps y (consulted W d)
  consulted_keeps (came H vs) h = (gs, heap_keeps y gs W H k h.0, h.1)
  consulted_keeps (was_refused text) h = (gs, k, none)
  consulted_keeps (was_raised H v) h = (gs, heap_keeps y gs W H k h.0, each_one (Apart y.table) v h.1)

  print_keeps : (bytes : List ℕ) → Keeps y gs (add_printed W bytes)
  unfolding add_printed
  print_keeps bytes = changed y gs W (add_printed W bytes) k refl refl k.heap (λ c h. h) k.cell k.coroutines k.moving

  environment_apart : (env : List Value) (x : Option Arg) → Each (Apart y.table) env → Apart y.table (environment_in W env x)
  environment_apart env None v = k.globals
  environment_apart env (Some x) v = arg_apart y.table env x v

  pub free_keeps : (m : Move) (env : List Value) → IsFree m → Each (Apart y.table) env → MadeKeeps y (move m env W)
  free_keeps (move_pc z) env i v = made_bind y (place_of W) _ (λ p e. made_bind y (place_from p.top.own.pc z) _ (λ pc _. made_bind y (at p.function.code pc) _ (λ _ _. (gs, pc_keeps p (place_there W p e) pc, none))))
  free_keeps (enter_tail f slot) env i v = made_bind y (place_of W) _ (λ p e. tail_keeps y gs W k p (place_there W p e) (arg env f) (drop slot env) (arg_apart y.table env f v) (each_drop (Apart y.table) slot env v))
  free_keeps (find_close x e) env i v = (gs, k, closer_ok y W.heap k.heap (arg env x) (arg env e) (arg_apart y.table env x v) (arg_apart y.table env e v))
  free_keeps (is_closable x) env i v = (gs, k, none)
  free_keeps (begin_leaving text) env i v = made_bind y (place_of W) _ (λ p e. (gs, leaving_keeps p (place_there W p e) text, none))
  free_keeps (leave_frame given) env i v =
      made_bind y (place_of W) _ (λ p e. made_bind y (top_now (record (popped W p) { moving = given_values env given })) _ (λ _ _.
      (gs, moving_keeps y gs (popped W p) (given_values env given) (popped_keeps y gs W k p (place_there W p e)) (given_apart y.table env given v), none)))
  free_keeps take_moving env i v = (gs, moving_keeps y gs W [] k none, k.moving)
  free_keeps (look x) env i v = (gs, k, none)
  free_keeps (give xs) env i v = (gs, moving_keeps y gs W (args_of env xs) k (args_apart y.table env xs v), none)
  free_keeps (give_with xs slot) env i v = (gs, moving_keeps y gs W (args_of env xs ++ drop slot env) k (each_append (Apart y.table) (args_of env xs) (drop slot env) (args_apart y.table env xs v) (each_drop (Apart y.table) slot env v)), none)
  free_keeps (blame text) env i v = (gs, moving_keeps y gs W (blamed W text ∷ []) k (each_one (Apart y.table) (blamed W text) tt), none)
  free_keeps (place_text x level) env i v = (gs, k, each_one (Apart y.table) (placed W level (arg env x)) (placed_apart y.table W level (arg env x) (arg_apart y.table env x v)))
  free_keeps (push_frame over) env i v = made_cond y (has_room W 1) _ _ (gs, all_keeps y gs W k (frame_over over env) (over_ok y.table gs over env v), none) (gs, k, none)
  free_keeps (call_value f slot) env i v = called_keeps y gs W k W k (arg env f) (drop slot env) (arg_apart y.table env f v) (each_drop (Apart y.table) slot env v)
  free_keeps see_top env i v = made_bind y (top_now W) _ (λ _ _. (gs, k, none))
  free_keeps see_catcher env i v = made_bind y (stack_of W) _ (λ s e. (gs, k, handler_apart y.table gs (reverse s.frames) (each_reverse (FrameOk y.table gs) s.frames (frames_ok y gs W k s (stack_there W s e)))))
  free_keeps take_closing env i v = made_bind y (stack_of W) _ (λ s e. made_bind y (last s.frames) _ (λ f q. next_keeps s f (stack_there W s e) q))
  free_keeps (set_error x) env i v = made_bind y (stack_of W) _ (λ s e. made_bind y (last s.frames) _ (λ f q. error_keeps s f (arg env x) (stack_there W s e) q (arg_apart y.table env x v)))
  free_keeps end_coroutine env i v = ends_keeps y gs W dead (runs_main W) k (λ s o. tt)
  free_keeps (fail_coroutine x) env i v = by (stack_of W) refl
    where
      by : (o : Option Stack) → stack_of W ≡ o → MadeKeeps y (bind o (λ s. bind (ends_as W (failed (arg env x) (flat_map pending_values s.frames))) (λ V. made {A = Unit {0}} V [] tt)))
      by None e = tt
      by (Some s) e =
          ends_keeps y gs W (failed (arg env x) (flat_map pending_values s.frames)) tt k (λ _ _. (arg_apart y.table env x v, all_pending_apart y.table gs s.frames (frames_ok y gs W k s (stack_there W s e))))
  free_keeps suspend env i v = made_bind y (stack_of W) _ (λ s e. (gs, suspend_keeps y gs W s k (stack_there W s e), none))
  free_keeps (resume x slot) env i v = made_bind y (stack_of W) _ (λ s e. made_bind y (coroutine_number (arg env x)) _ (λ co _. made_bind y (slice_get W.coroutines co) _ (λ c q.
      resumes_keeps y gs W s co c (drop slot env) k (stack_there W s e) q (each_drop (Apart y.table) slot env v))))
  free_keeps (begin_closing x) env i v = made_bind y (stack_of W) _ (λ s e. made_bind y (coroutine_number (arg env x)) _ (λ co _. made_bind y (slice_get W.coroutines co) _ (λ c q.
      closing_keeps y gs W s co c k (stack_there W s e) q)))
  free_keeps (consult l slot) env i v = consulted_keeps (looked l (drop slot env) W.heap) (looked_ok y l (drop slot env) W.heap k.heap (each_drop (Apart y.table) slot env v))
  free_keeps (create x) env i v = made_cond y (is_function (arg env x)) _ _ (gs, add_keeps y gs W (arg env x) k (arg_apart y.table env x v), each_one (Apart y.table) (object a_coroutine (length W.coroutines)) tt) tt
  free_keeps (see_status x) env i v = made_bind y (coroutine_number (arg env x)) _ (λ co _. made_bind y (slice_get W.coroutines co) _ (λ _ _. (gs, k, none)))
  free_keeps see_running env i v = made_bind y (last W.chain) _ (λ co _. (gs, k, each_one (Apart y.table) (object a_coroutine co) tt))
  free_keeps (print x) env i v = (gs, print_keeps (bytes_in (arg env x)), none)
  free_keeps (make_loaded p x) env i v = (gs ++ unguarded ∷ [], loaded_keeps y gs W k p (environment_in W env x) (environment_apart env x v), each_one (Apart y.table) (object a_function (length W.functions)) tt)
  free_keeps _ env i v = absurd i
