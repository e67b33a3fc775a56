-- The closing of a coroutine begins, in the words of the machine.
use Rattle.std.proofs.Common.{◌≡◌, ℕ, zero, suc, ◌+◌, List, [], ◌∷◌, ◌++◌, length, Option, Some, None, refl, ap, sym, subst, ◌∙◌, Bool, true, false}
use Rattle.std.specs.Prelude.{◌≢◌, cond, codes, map, nat_le, slice_get, slice_set}
use Rattle.std.proofs.lemmas.List.{length-map, map-append}
use Rattle.int_core.specs.Limits.{greatest_depth, stack_overflow}
use Rattle.int_core.specs.Value.{Value, object, a_coroutine, bind, last}
use Rattle.list_laws.proofs.Items.{get_set_other}
use Rattle.machine_core.specs.World.{Frame, closing, Coroutine, fresh, suspended, in_progress, normal, dead, failed, frames_of, World, Stack, stack_of, put_frames, push}
use Rattle.machine_core.specs.Text.{Arg, arg}
use Rattle.machine_core.specs.Moves.{Made, made, ResumeShape, resumed, refused, is_entered, not_entered, all_closed_from, begin_closing, bury, closes_coroutine, closes_in, coroutine_number, move, put_coroutine}
use Rattle.machine_sound.proofs.Lists.{bind_at, get_map, last_push, some_is}
use Rattle.table_core.specs.declared.value.CoroId.{CoroId}
use Rattle.table_core.specs.declared.value.Value.{Value as Kept}
use Rattle.lua_stack.specs.declared.frame.Top.TheVariants.{Closing as ClosingTop}
use Rattle.lua_stack.specs.Frames.{KeptStack, error_of, frame_of, frames, kept_closing, top_is}
use Rattle.lua_heap.specs.declared.world.Coro.{Coro}
use Rattle.lua_heap.specs.declared.world.Coro.TheVariants.{Fresh, Suspended, Running, Normal, Dead, Failed}
use Rattle.lua_heap.specs.declared.world.World.{World as Memory}
use Rattle.lua_heap.specs.Reading.{value}
use Rattle.lua_heap.specs.Plain.{coroutine, plain}
use Rattle.move_laws.specs.Memory.{Runs, Makes}
use Rattle.move_laws.proofs.Running.{changed_stack_is_put, set_same}
use Rattle.machine_moves.specs.Tops.{TopIs}
use Rattle.machine_moves.proofs.OnTop.{kept_as, runs_after, stack_kept, push_put}
use Rattle.machine_coroutines.specs.Beginning.{HasResumed, IsRunning, Leaves, PushesClosing}

-- changes of two places

pub set_set : {A : Type 0} (xs : List A) (i j : ℕ) (a b : A) → i ≢ j → slice_set (slice_set xs i a) j b ≡ slice_set (slice_set xs j b) i a
set_set [] i j a b d = refl
set_set (x ∷ xs) zero zero a b d = absurd (d refl)
set_set (x ∷ xs) zero (suc j) a b d = refl
set_set (x ∷ xs) (suc i) zero a b d = refl
set_set (x ∷ xs) (suc i) (suc j) a b d = ap (λ l. x ∷ l) (set_set xs i j a b (λ e. d (ap suc e)))

put_then_bury : (V : World) (i n : ℕ) (gs fs : List Frame) → i ≢ n → bury (put_frames V i gs) n fs dead ≡ put_frames (bury V n fs dead) i gs
unfolding bury put_frames put_coroutine
put_then_bury V i n gs fs d = ap (λ cs. record V { cells = all_closed_from n 0 fs V.cells; coroutines = cs }) (set_set V.coroutines i n (in_progress gs) dead d)

put_then_put : (V : World) (i n : ℕ) (gs : List Frame) → i ≢ n → put_coroutine (put_frames V i gs) n dead ≡ put_frames (put_coroutine V n dead) i gs
unfolding put_frames put_coroutine
put_then_put V i n gs d = ap (λ cs. record V { coroutines = cs }) (set_set V.coroutines i n (in_progress gs) dead d)

put_own : (V : World) (n : ℕ) (k : Coroutine) → slice_get V.coroutines n ≡ Some k → put_coroutine V n k ≡ V
unfolding put_coroutine
put_own V n k e = ap (λ cs. record V { coroutines = cs }) (set_same V.coroutines n k e)

get_past : (V : World) (i n : ℕ) (gs : List Frame) → i ≢ n → slice_get (put_frames V i gs).coroutines n ≡ slice_get V.coroutines n
unfolding put_frames
get_past V i n gs d = get_set_other V.coroutines i n (in_progress gs) d

-- a world in which the coroutine that was closed is dead
abbrev dead_after : World → ℕ → Coroutine → World
dead_after V n (fresh body) = put_coroutine V n dead
dead_after V n (suspended fs) = bury V n fs dead
dead_after V n (in_progress fs) = V
dead_after V n (normal fs) = V
dead_after V n dead = V
dead_after V n (failed e pending) = put_coroutine V n dead

abbrev roomy : Option Stack → Bool
roomy o = elim o [ None ↦ false | Some s ↦ nat_le (length s.frames + 1) greatest_depth ]

abbrev begun_by : World → World → Stack → Option Value → List Value → Bool → Option (Made ResumeShape)
begun_by V D k e left b = cond b (made (push D k (closing e left)) [] (resumed is_entered)) (made V [] (resumed (not_entered stack_overflow)))

closes_by : (texts : List (List ℕ)) (V : World) (k : Stack) (n : ℕ) (c : Coro) (error : Option Kept) (values : List Kept) → Leaves c error values
    → closes_coroutine V k n (coroutine texts c) ≡ closes_in V (dead_after V n (coroutine texts c)) k (error_of (value texts) error) (map (value texts) values)
closes_by texts V k n (Fresh body) error values h =
    ap (λ e. closes_in V (put_coroutine V n dead) k (error_of (value texts) e) []) (sym h.0) ∙ ap (λ vs. closes_in V (put_coroutine V n dead) k (error_of (value texts) error) (map (value texts) vs)) (sym h.1)
closes_by texts V k n (Suspended s) error values h =
    let D = bury V n (frames (value texts) s) dead in
    ap (closes_in V D k None) (sym (h.1.read (value texts) refl)) ∙ ap (λ e. closes_in V D k (error_of (value texts) e) (map (value texts) values)) (sym h.0)
closes_by texts V k n (Running s) error values h = absurd h
closes_by texts V k n (Normal s) error values h = absurd h
closes_by texts V k n Dead error values h =
    ap (λ e. closes_in V V k (error_of (value texts) e) []) (sym h.0) ∙ ap (λ vs. closes_in V V k (error_of (value texts) error) (map (value texts) vs)) (sym h.1)
closes_by texts V k n (Failed e pending) error values h =
    let D = put_coroutine V n dead in
    ap (λ e. closes_in V D k (error_of (value texts) e) (map (value texts) pending.items)) (sym h.0) ∙ ap (λ vs. closes_in V D k (error_of (value texts) error) (map (value texts) vs)) (sym h.1)

running_told : (texts : List (List ℕ)) (V : World) (k : Stack) (n : ℕ) (c : Coro) → IsRunning c → closes_coroutine V k n (coroutine texts c) ≡ made V [] (refused (codes "cannot close a running coroutine"))
running_told texts V k n (Running s) h = refl
running_told texts V k n _ h = absurd h

normal_told : (texts : List (List ℕ)) (V : World) (k : Stack) (n : ℕ) (c : Coro) → HasResumed c → closes_coroutine V k n (coroutine texts c) ≡ made V [] (refused (codes "cannot close a normal coroutine"))
normal_told texts V k n (Normal s) h = refl
normal_told texts V k n _ h = absurd h

module _ (old : Memory) (co : CoroId) (c : Coro) (there : slice_get old.coros.objects co.0 ≡ Some c) where
  abbrev f : Kept → Value
  f = value old.strings

  abbrev kc : Coroutine
  kc = coroutine old.strings c

  got : (fuel : ℕ) → slice_get (plain old fuel).coroutines co.0 ≡ Some kc
  got fuel = get_map (coroutine old.strings) old.coros.objects co.0 c there

  begins_by : (runner : CoroId) (s : KeptStack) (fuel : ℕ) (env : List Value) (x : Arg) → Runs old runner s → arg env x ≡ object a_coroutine co.0
      → move (begin_closing x) env (plain old fuel) ≡ closes_coroutine (plain old fuel) (kept_as old runner s) co.0 kc
  begins_by runner s fuel env x r q =
      let V = plain old fuel in
      let k = kept_as old runner s in
      bind_at (λ (s : Stack). bind {B = Made ResumeShape} (coroutine_number (arg env x)) (λ n. bind (slice_get V.coroutines n) (closes_coroutine V s n))) (stack_of V) k (stack_kept old runner s fuel r)
      ∙ ap (λ v. bind {B = Made ResumeShape} (coroutine_number v) (λ n. bind (slice_get V.coroutines n) (closes_coroutine V k n))) q
      ∙ bind_at (closes_coroutine V k co.0) (slice_get V.coroutines co.0) kc (got fuel)

  pub refuses_running : (runner : CoroId) (s : KeptStack) (env : List Value) (x : Arg) → Runs old runner s → IsRunning c → arg env x ≡ object a_coroutine co.0
      → Makes old old (begin_closing x) env [] (refused (codes "cannot close a running coroutine"))
  refuses_running runner s env x r h q = record { is = λ fuel. begins_by runner s fuel env x r q ∙ running_told old.strings (plain old fuel) (kept_as old runner s) co.0 c h }

  pub refuses_normal : (runner : CoroId) (s : KeptStack) (env : List Value) (x : Arg) → Runs old runner s → HasResumed c → arg env x ≡ object a_coroutine co.0
      → Makes old old (begin_closing x) env [] (refused (codes "cannot close a normal coroutine"))
  refuses_normal runner s env x r h q = record { is = λ fuel. begins_by runner s fuel env x r q ∙ normal_told old.strings (plain old fuel) (kept_as old runner s) co.0 c h }

  module _ (error : Option Kept) (values : List Kept) (h : Leaves c error values) (mid : Memory) (room : Bool) (p : PushesClosing old mid error values room) where
    abbrev k : Stack
    k = kept_as old p.co p.before

    begun_is : (fuel : ℕ) (env : List Value) (x : Arg) → arg env x ≡ object a_coroutine co.0
        → move (begin_closing x) env (plain old fuel) ≡ begun_by (plain old fuel) (dead_after (plain old fuel) co.0 kc) k (error_of f error) (map f values) room
    begun_is fuel env x q =
        let V = plain old fuel in
        begins_by p.co p.before fuel env x p.runs q
        ∙ closes_by old.strings V k co.0 c error values h
        ∙ ap (begun_by V (dead_after V co.0 kc) k (error_of f error) (map f values))
        (ap roomy (stack_kept old p.co p.before fuel p.runs) ∙ ap (λ n. nat_le (n + 1) greatest_depth) (length-map p.before.frames (frame_of f)) ∙ sym p.room_is)

    pub no_room : (env : List Value) (x : Arg) → room ≡ false → mid ≡ old → arg env x ≡ object a_coroutine co.0 → Makes old mid (begin_closing x) env [] (resumed (not_entered stack_overflow))
    no_room env x b same q = record {
      is = λ fuel.
          let V = plain old fuel in
          begun_is fuel env x q ∙ ap (begun_by V (dead_after V co.0 kc) k (error_of f error) (map f values)) b
          ∙ ap (λ W. made (plain W fuel) [] (resumed (not_entered stack_overflow))) (sym same);
    }

    apart : p.co.0 ≢ co.0
    apart e =
        let same : c ≡ Running p.before = some_is there (ap (slice_get old.coros.objects) (sym e) ∙ p.runs.there) in
        subst (λ c. Leaves c error values) same h

    pushed_frames : room ≡ true → frames f p.after ≡ frames f p.before ++ closing (error_of f error) (map f values) ∷ []
    pushed_frames b =
        ap (map (frame_of f)) (p.frames ∙ ap (λ b. cond b (p.before.frames ++ kept_closing error values ∷ []) p.before.frames) b)
        ∙ map-append (frame_of f) p.before.frames (kept_closing error values ∷ [])

    module _ (new : Memory) (buried : (fuel : ℕ) (fs : List Frame) → bind (slice_get (plain mid fuel).coroutines co.0) frames_of ≡ Some fs → plain new fuel ≡ bury (plain mid fuel) co.0 fs dead)
        (put : (fuel : ℕ) → bind (slice_get (plain mid fuel).coroutines co.0) frames_of ≡ None → plain new fuel ≡ put_coroutine (plain mid fuel) co.0 dead) (b : room ≡ true) where
      pushed : (fuel : ℕ) → plain mid fuel ≡ put_frames (plain old fuel) p.co.0 (frames f p.after)
      pushed fuel = changed_stack_is_put old mid p.co p.after fuel p.changes

      still_there : (fuel : ℕ) → bind (slice_get (plain mid fuel).coroutines co.0) frames_of ≡ frames_of kc
      still_there fuel = ap (λ (W : World). bind (slice_get W.coroutines co.0) frames_of) (pushed fuel) ∙ ap (λ o. bind o frames_of) (get_past (plain old fuel) p.co.0 co.0 (frames f p.after) apart ∙ got fuel)

      dead_is : (fuel : ℕ) (d : Coro) → c ≡ d → plain new fuel ≡ put_frames (dead_after (plain old fuel) co.0 (coroutine old.strings d)) p.co.0 (frames f p.after)
      dead_is fuel (Fresh body) e =
          put fuel (still_there fuel ∙ ap (λ c. frames_of (coroutine old.strings c)) e) ∙ ap (λ W. put_coroutine W co.0 dead) (pushed fuel) ∙ put_then_put (plain old fuel) p.co.0 co.0 (frames f p.after) apart
      dead_is fuel (Suspended s) e =
          buried fuel (frames f s) (still_there fuel ∙ ap (λ c. frames_of (coroutine old.strings c)) e)
          ∙ ap (λ W. bury W co.0 (frames f s) dead) (pushed fuel) ∙ put_then_bury (plain old fuel) p.co.0 co.0 (frames f p.after) (frames f s) apart
      dead_is fuel (Running s) e = absurd (subst (λ c. Leaves c error values) e h)
      dead_is fuel (Normal s) e = absurd (subst (λ c. Leaves c error values) e h)
      dead_is fuel Dead e =
          put fuel (still_there fuel ∙ ap (λ c. frames_of (coroutine old.strings c)) e) ∙ ap (λ W. put_coroutine W co.0 dead) (pushed fuel) ∙ put_then_put (plain old fuel) p.co.0 co.0 (frames f p.after) apart
          ∙ ap (λ W. put_frames W p.co.0 (frames f p.after)) (put_own (plain old fuel) co.0 dead (got fuel ∙ ap (λ c. Some (coroutine old.strings c)) e))
      dead_is fuel (Failed x pending) e =
          put fuel (still_there fuel ∙ ap (λ c. frames_of (coroutine old.strings c)) e) ∙ ap (λ W. put_coroutine W co.0 dead) (pushed fuel) ∙ put_then_put (plain old fuel) p.co.0 co.0 (frames f p.after) apart

      pub begun_so : (env : List Value) (x : Arg) → arg env x ≡ object a_coroutine co.0 → Makes old new (begin_closing x) env [] (resumed is_entered)
      begun_so env x q = record {
        is = λ fuel.
            let V = plain old fuel in
            let D = dead_after V co.0 kc in
            begun_is fuel env x q ∙ ap (begun_by V D k (error_of f error) (map f values)) b
            ∙ ap (λ W. made W [] (resumed is_entered)) (push_put D k (closing (error_of f error) (map f values)) ∙ ap (put_frames D p.co.0) (sym (pushed_frames b)) ∙ sym (dead_is fuel c refl));
      }

      pub begun_top : new.chain.items ≡ mid.chain.items → new.coros.objects ≡ slice_set mid.coros.objects co.0 Dead → TopIs new ClosingTop
      begun_top chain objects =
          let r = runs_after old mid p.co p.before p.after p.runs p.changes in
          record {
            co = p.co;
            stack = p.after;
            runs = record {
              chain = ap last chain ∙ r.chain;
              there = ap (λ l. slice_get l p.co.0) objects ∙ get_set_other mid.coros.objects co.0 p.co.0 Dead (λ e. apart (sym e)) ∙ r.there;
            };
            is = sym (ap (λ fs. top_is (last fs)) (p.frames ∙ ap (λ b. cond b (p.before.frames ++ kept_closing error values ∷ []) p.before.frames) b) ∙ ap top_is (last_push p.before.frames (kept_closing error values)));
          }
