-- Frames of `coroutine.close` on top of the running stack.
use Rattle.std.proofs.Common.{◌≡◌, ℕ, suc, List, [], ◌∷◌, ◌++◌, length, Option, Some, None, refl, ap, sym, subst, ◌∙◌, append-nil, true, false}
use Rattle.std.specs.Prelude.{◌-◌, drop, map}
use Rattle.std.specs.Option.{option_map}
use Rattle.std.proofs.lemmas.List.{map-append}
use Rattle.int_core.specs.Value.{Value, known, boolean, nil, bind, last, nth, without_last, error_or_nil}
use Rattle.machine_core.specs.World.{Frame, closing, World, Stack, stack_of, put_frames, put_top}
use Rattle.machine_core.specs.Text.{Arg, arg, args_of, read, written}
use Rattle.machine_core.specs.FrameRows.{closing_by, closing_row, hand_over, then}
use Rattle.machine_core.specs.Moves.{Ending, asks, find_close, give, give_with, stop, ClosingShape, one_left, all_closed, closed_with_error, Made, made, next_closing, set_error, take_closing, with_error}
use Rattle.machine_sound.proofs.Lists.{bind_at, get_map, last_push, last_splits, without_push}
use Rattle.table_core.specs.declared.value.CoroId.{CoroId}
use Rattle.table_core.specs.declared.value.Value.{Value as Kept}
use Rattle.table_core.specs.declared.value.Value.TheVariants.{Bool as Boolean, Nil}
use Rattle.lua_stack.specs.declared.frame.Top.TheVariants.{Closing as ClosingTop}
use Rattle.lua_stack.specs.Frames.{KeptFrame, kept_lua, kept_pcall, kept_xpcall, kept_handler, kept_closing, KeptStack, HasClosingTop, IsTop, error_of, frame_of, top_is}
use Rattle.lua_heap.specs.declared.world.Coro.TheVariants.{Running}
use Rattle.lua_heap.specs.declared.world.World.{World as Memory}
use Rattle.lua_heap.specs.Reading.{value}
use Rattle.lua_heap.specs.Plain.{plain, coroutine}
use Rattle.move_laws.specs.Memory.{Runs, ChangesStack, Leads, Makes}
use Rattle.move_laws.proofs.Rows.{first, ended}
use Rattle.move_laws.proofs.Running.{changed_stack_is_put}
use Rattle.machine_moves.specs.Tops.{TopIs}
use Rattle.machine_moves.proofs.OnTop.{kept_as, runs_after, same_stack, stack_kept, put_same}
use Rattle.machine_coroutines.specs.Closings.{LeavesWith, closing_of, error_or, shape_of, values_of}
use Rattle.lua_heap.proofs.Resumed.{without_mapped}

-- such a frame is on top

pub closing_top : (s : KeptStack) → IsTop s ClosingTop → HasClosingTop s
closing_top s e = by (last s.frames) refl e
  where
    by : (o : Option KeptFrame) → last s.frames ≡ o → ClosingTop ≡ top_is o → HasClosingTop s
    by None q t = absurd (cc)
    by (Some (kept_lua f)) q t = absurd (cc)
    by (Some kept_pcall) q t = absurd (cc)
    by (Some (kept_xpcall h)) q t = absurd (cc)
    by (Some kept_handler) q t = absurd (cc)
    by (Some (kept_closing error left)) q t = record { below = without_last s.frames; error = error; left = left; is = last_splits s.frames (kept_closing error left) q }

-- and so it is on the stack that is found to run
pub closing_found : {W : Memory} {co : CoroId} {s : KeptStack} → TopIs W ClosingTop → Runs W co s → HasClosingTop s
closing_found {W} {co} {s} q r = subst HasClosingTop (same_stack W q.co co q.stack s q.runs r) (closing_top q.stack q.is)

pub top_after : (old new : Memory) (co : CoroId) (s s' : KeptStack) (below : List KeptFrame) (error : Option Kept) (left : List Kept) → Runs old co s → ChangesStack old new co s'
    → s'.frames ≡ below ++ kept_closing error left ∷ [] → TopIs new ClosingTop
top_after old new co s s' below error left r c e = record {
  co = co;
  stack = s';
  runs = runs_after old new co s s' r c;
  is = sym (ap (λ fs. top_is (last fs)) e ∙ ap top_is (last_push below (kept_closing error left)));
}

-- in the words of the machine

mapped_frames : (f : KeptFrame → Frame) (fs below : List KeptFrame) (g : KeptFrame) → fs ≡ below ++ g ∷ [] → map f fs ≡ map f below ++ f g ∷ []
mapped_frames f fs below g e = ap (map f) e ∙ map-append f below (g ∷ [])

last_mapped : {A B : Type 0} (f : A → B) (xs : List A) (x : A) → last xs ≡ Some x → last (map f xs) ≡ Some (f x)
last_mapped f [] x e = absurd (cc)
last_mapped f (y ∷ []) x e = ap (option_map f) e
last_mapped f (y ∷ z ∷ xs) x e = last_mapped f (z ∷ xs) x e

put_as : (W : World) (s : Stack) (f : Frame) → put_top W s f ≡ put_frames W s.coroutine (without_last s.frames ++ f ∷ [])
unfolding put_top
put_as W s f = refl

abbrev told_closing : World → Stack → Option Frame → Option (Made ClosingShape)
told_closing V k o = bind o (next_closing V k)

no_last : {A : Type 0} (x : A) (xs : List A) → last (x ∷ xs) ≡ None → ⊥
no_last x [] e = cc
no_last x (y ∷ xs) e = no_last y xs e

error_is : (f : Kept → Value) (error : Option Kept) → known nil ≡ f Nil → error_or_nil (error_of f error) ≡ f (error_or error)
error_is f None n = n
error_is f (Some e) n = refl

module _ (old new : Memory) (co : CoroId) (s s' : KeptStack) (below : List KeptFrame) (r : Runs old co s) (c : ChangesStack old new co s') where
  abbrev f : Kept → Value
  f = value old.strings

  abbrev g : KeptFrame → Frame
  g = frame_of f

  -- another frame in place of the one on top
  put_is : (was now : KeptFrame) (fuel : ℕ) → s.frames ≡ below ++ was ∷ [] → s'.frames ≡ below ++ now ∷ [] → put_top (plain old fuel) (kept_as old co s) (g now) ≡ plain new fuel
  put_is was now fuel e n =
      put_as (plain old fuel) (kept_as old co s) (g now)
      ∙ ap (λ fs. put_frames (plain old fuel) co.0 (fs ++ g now ∷ [])) (ap without_last (mapped_frames g s.frames below was e) ∙ without_push (map g below) (g was))
      ∙ ap (put_frames (plain old fuel) co.0) (sym (mapped_frames g s'.frames below now n))
      ∙ sym (changed_stack_is_put old new co s' fuel c)

  same_is : (fuel : ℕ) → s'.frames ≡ s.frames → plain old fuel ≡ plain new fuel
  same_is fuel e =
      sym (put_same (plain old fuel) co.0 (map g s.frames) (get_map (coroutine old.strings) old.coros.objects co.0 (Running s) r.there))
      ∙ ap (λ fs. put_frames (plain old fuel) co.0 (map g fs)) (sym e) ∙ sym (changed_stack_is_put old new co s' fuel c)

  on_top : (was : KeptFrame) (fuel : ℕ) → s.frames ≡ below ++ was ∷ [] → last (map g s.frames) ≡ Some (g was)
  on_top was fuel e = ap last (mapped_frames g s.frames below was e) ∙ last_push (map g below) (g was)

  taken : (error : Option Kept) (left : List Kept) (fuel : ℕ) → s.frames ≡ below ++ kept_closing error left ∷ [] → s'.frames ≡ below ++ kept_closing error (without_last left) ∷ []
      → next_closing (plain old fuel) (kept_as old co s) (closing (error_of f error) (map f left)) ≡ made (plain new fuel) (values_of f (closing_of error (last left))) (shape_of (closing_of error (last left)))
  taken None [] fuel e n = ap (λ W. made W [] all_closed) (same_is fuel (n ∙ sym e))
  taken (Some x) [] fuel e n = ap (λ W. made W (f x ∷ []) closed_with_error) (same_is fuel (n ∙ sym e))
  taken error (v ∷ left) fuel e n = by (last (v ∷ left)) refl
    where
      by : (o : Option Kept) → last (v ∷ left) ≡ o
          → next_closing (plain old fuel) (kept_as old co s) (closing (error_of f error) (map f (v ∷ left))) ≡ made (plain new fuel) (values_of f (closing_of error o)) (shape_of (closing_of error o))
      by None q = absurd (no_last v left q)
      by (Some x) q =
          ap (λ (o : Option Value). elim o as (λ _. Option (Made ClosingShape)) [
            | None ↦ None
            | Some x ↦ made (put_top (plain old fuel) (kept_as old co s) (closing (error_of f error) (without_last (map f (v ∷ left))))) (x ∷ error_or_nil (error_of f error) ∷ []) one_left
          ]) (last_mapped f (v ∷ left) x q)
          ∙ ap (λ vs. made (put_top (plain old fuel) (kept_as old co s) (closing (error_of f error) vs)) (f x ∷ error_or_nil (error_of f error) ∷ []) one_left) (sym (without_mapped f (v ∷ left)))
          ∙ ap (λ W. made W (f x ∷ error_or_nil (error_of f error) ∷ []) one_left) (put_is (kept_closing error (v ∷ left)) (kept_closing error (without_last (v ∷ left))) fuel e n)
          ∙ ap (λ y. made (plain new fuel) (f x ∷ y ∷ []) one_left) (error_is f error refl)

  pub takes_is : (error : Option Kept) (left : List Kept) (env : List Value) → s.frames ≡ below ++ kept_closing error left ∷ [] → s'.frames ≡ below ++ kept_closing error (without_last left) ∷ []
      → Makes old new take_closing env (values_of f (closing_of error (last left))) (shape_of (closing_of error (last left)))
  takes_is error left env e n = record {
    is = λ fuel.
        let V = plain old fuel in
        bind_at (λ (k : Stack). told_closing V k (last k.frames)) (stack_of V) (kept_as old co s) (stack_kept old co s fuel r)
        ∙ ap (told_closing V (kept_as old co s)) (on_top (kept_closing error left) fuel e)
        ∙ taken error left fuel e n;
  }

  pub sets_is : (error : Option Kept) (left : List Kept) (v : Kept) (env : List Value) (x : Arg) → s.frames ≡ below ++ kept_closing error left ∷ [] → s'.frames ≡ below ++ kept_closing (Some v) left ∷ []
      → arg env x ≡ f v → Makes old new (set_error x) env [] tt
  sets_is error left v env x e n q = record {
    is = λ fuel.
        let V = plain old fuel in
        let k = kept_as old co s in
        bind_at (λ (k : Stack). bind {B = Made (Unit {0})} (last k.frames) (λ f. with_error V k f (arg env x))) (stack_of V) k (stack_kept old co s fuel r)
        ∙ ap (λ o. bind {B = Made (Unit {0})} o (λ f. with_error V k f (arg env x))) (on_top (kept_closing error left) fuel e)
        ∙ ap (λ y. made (put_top V k (closing (Some y) (map f left))) [] tt) q
        ∙ ap (λ W. made W [] tt) (put_is (kept_closing error left) (kept_closing (Some v) left) fuel e n);
  }

-- the rows

behind_first : (env vs : List Value) → nth (env ++ vs) (length env) ≡ nth vs 0
behind_first [] vs = refl
behind_first (v ∷ env) vs = behind_first env vs

behind_second : (env vs : List Value) → nth (env ++ vs) (suc (length env)) ≡ nth vs 1
behind_second [] vs = refl
behind_second (v ∷ env) vs = behind_second env vs

behind_one : (env : List Value) (v : Value) (vs : List Value) → drop (suc (length env)) (env ++ v ∷ vs) ≡ vs
behind_one [] v vs = refl
behind_one (x ∷ env) v vs = behind_one env v vs

pub asks_next : {old taken new : Memory} (f : Kept → Value) (v e h : Kept) (answer : List Kept) (env : List Value) → Makes old taken take_closing env (f v ∷ f e ∷ []) one_left
    → ((env : List Value) (x y : Arg) → arg env x ≡ f v → Makes taken taken (find_close x y) env (f h ∷ f v ∷ arg env y ∷ []) tt)
    → ((env : List Value) (xs : List Arg) (slot : ℕ) → args_of env xs ++ drop slot env ≡ map f answer → Makes taken new (give_with xs slot) env [] tt)
    → answer ≡ h ∷ v ∷ e ∷ [] → Leads closing_row env old new asks
asks_next f v e h answer env t finds gives is =
    let E = env ++ f v ∷ f e ∷ [] in
    let n = length env in
    let err : arg E (read (suc n)) ≡ f e = behind_second env (f v ∷ f e ∷ []) in
    let D = E ++ f h ∷ f v ∷ arg E (read (suc n)) ∷ [] in
    let same : args_of D (read (length E) ∷ []) ++ drop (suc (length E)) D ≡ map f answer =
    ap (λ x. x ∷ drop (suc (length E)) D) (behind_first E (f h ∷ f v ∷ arg E (read (suc n)) ∷ []))
    ∙ ap (λ xs. f h ∷ xs) (behind_one E (f h) (f v ∷ arg E (read (suc n)) ∷ []))
    ∙ ap (λ x. f h ∷ f v ∷ x ∷ []) err ∙ sym (ap (map f) is) in
    first (λ v s. closing_by s v) t
    (first (λ h _. then (give_with (read h ∷ []) (suc h)) (stop asks)) (finds E (read n) (read (suc n)) (behind_first env (f v ∷ f e ∷ [])))
    (first (λ _ _. stop asks) (gives D (read (length E) ∷ []) (suc (length E)) same) ended))

pub answers_all : {old taken new : Memory} {ending : Ending} (answer : List Kept) (env : List Value) → Makes old taken take_closing env [] all_closed → LeavesWith taken new answer ending
    → answer ≡ Boolean true ∷ [] → Leads closing_row env old new ending
answers_all answer env t l is =
    let xs = written (boolean true) ∷ [] in
    let E = env ++ [] ++ [] in
    first (λ v s. closing_by s v) t
    (first (λ _ _. then (give xs) hand_over) (l.leaves (env ++ []))
    (first (λ _ _. hand_over) (l.gives E xs (sym (ap (map (value _)) is))) (l.hands (E ++ []))))

pub answers_error : {old taken new : Memory} {ending : Ending} (e : Kept) (answer : List Kept) (env : List Value) → Makes old taken take_closing env (value taken.strings e ∷ []) closed_with_error → LeavesWith taken new answer ending
    → answer ≡ Boolean false ∷ e ∷ [] → Leads closing_row env old new ending
answers_error {old} {taken} e answer env t l is =
    let n = length env in
    let f = value taken.strings in
    let xs = written (boolean false) ∷ read n ∷ [] in
    let E = env ++ f e ∷ [] ++ [] in
    let same : args_of E xs ≡ map f answer = ap (λ l. known (boolean false) ∷ nth l n ∷ []) (append-nil (env ++ f e ∷ [])) ∙ ap (λ v. known (boolean false) ∷ v ∷ []) (behind_first env (f e ∷ [])) ∙ sym (ap (map f) is) in
    first (λ v s. closing_by s v) t
    (first (λ _ _. then (give xs) hand_over) (l.leaves (env ++ f e ∷ []))
    (first (λ _ _. hand_over) (l.gives E xs same) (l.hands (E ++ []))))

pub still_closing : {old new : Memory} → new ≡ record old { moving = new.moving } → TopIs old ClosingTop → TopIs new ClosingTop
still_closing e t = subst (λ W. TopIs W ClosingTop) (sym e) (record { co = t.co; stack = t.stack; runs = record { chain = t.runs.chain; there = t.runs.there }; is = t.is })
