-- Worlds after moves between coroutines.
use Rattle.std.proofs.Common.{ℕ, zero, suc, ◌≡◌, ◌≢◌, List, [], ◌∷◌, ◌++◌, Option, Some, None, refl, subst, sym, ap, ◌∙◌, length, map, Bool, true, false, cond}
use Rattle.std.specs.Prelude.{slice_get, slice_set, ◌&&◌, nat_lt, flat_map}
use Rattle.int_core.specs.Limits.{greatest_resumes}
use Rattle.int_core.specs.Value.{a_table, Value, object, bind, last, without_last, nth}
use Rattle.machine_core.specs.World.{closed, Frame, lua, closing, Coroutine, fresh, suspended, in_progress, normal, dead, failed, World, Stack, stack_of, frames_of}
use Rattle.machine_core.specs.Moves.{Made, made, CallShape, resumed, has_room, enters, pending_values, put_coroutine, awake, back_to_resumer, bury, ends_as, suspend_running, wait_for_another, go_into, starts_in, can_start, resumes, closes_in, closes_coroutine, add_coroutine}
use Rattle.machine_sound.specs.Sound.{Each, OptionOk}
use Rattle.machine_sound.proofs.Lists.{each_none, each_cons, each_tail, each_append, each_push, each_set, some_is, get_set_other, get_push_old}
use Rattle.prelude_stays.specs.Guards.{Guard}
use Rattle.prelude_stays.specs.Kept.{Home, Apart, FrameOk, CoroutineOk, function_at, Keeps}
use Rattle.prelude_stays.proofs.Cells.{in_frames, FramesStay, Stay, stay_carries, all_get, all_closed, bury_carries}
use Rattle.prelude_stays.proofs.Worlds.{MadeKeeps, made_cond, changed, OnStack, stack_there, frames_ok, set_keeps, moving_keeps}
use Rattle.prelude_stays.proofs.Frames.{push_keeps, enters_keeps}

-- pending values

pending_apart : (e : ℕ) (gs : List Guard) (f : Frame) → FrameOk e gs f → Each (Apart e) (pending_values f)
pending_apart e gs (lua f) h = go f.own.pending h.pending
  where
    go : (qs : List ℕ) → Each (λ r. h.guard.registers r ≡ false) qs → Each (Apart e) (map (nth f.own.registers) qs)
    go [] p = each_none (Apart e)
    go (q ∷ qs) p = each_cons (Apart e) (nth f.own.registers q) (map (nth f.own.registers) qs) (h.registers q (p zero q refl)) (go qs (each_tail (λ r. h.guard.registers r ≡ false) q qs p))
pending_apart e gs _ h = each_none (Apart e)

pub all_pending_apart : (e : ℕ) (gs : List Guard) (fs : List Frame) → Each (FrameOk e gs) fs → Each (Apart e) (flat_map pending_values fs)
all_pending_apart e gs [] h = each_none (Apart e)
all_pending_apart e gs (f ∷ fs) h = each_append (Apart e) (pending_values f) (flat_map pending_values fs) (pending_apart e gs f (h zero f refl)) (all_pending_apart e gs fs (each_tail (FrameOk e gs) f fs h))

set_absent : {A : Type 0} (xs : List A) (i : ℕ) (x : A) → slice_get xs i ≡ None → slice_set xs i x ≡ xs
set_absent [] i x e = refl
set_absent (z ∷ xs) zero x e = absurd (cc)
set_absent (z ∷ xs) (suc i) x e = ap (λ l. z ∷ l) (set_absent xs i x e)

pub no_frames : (o : Option (List Frame)) → FramesStay None o
no_frames o n f h = absurd (cc)

pub frames_held : (e : ℕ) (gs : List Guard) (c : Coroutine) (fs : List Frame) → frames_of c ≡ Some fs → CoroutineOk e gs c → Each (FrameOk e gs) fs
frames_held e gs (suspended hs) fs q h = let k : hs ≡ fs = cc in subst (Each (FrameOk e gs)) k h
frames_held e gs (in_progress hs) fs q h = let k : hs ≡ fs = cc in subst (Each (FrameOk e gs)) k h
frames_held e gs (normal hs) fs q h = let k : hs ≡ fs = cc in subst (Each (FrameOk e gs)) k h
frames_held e gs _ fs q h = absurd (cc)

module _ (y : Home) (gs : List Guard) where
  pub chain_keeps : (W : World) (chain : List ℕ) → Keeps y gs W → Keeps y gs (record W { chain = chain })
  chain_keeps W chain k = changed y gs W (record W { chain = chain }) k refl refl k.heap (λ c h. h) k.cell k.coroutines k.moving

  pub put_keeps : (W : World) (co : ℕ) (old new : Coroutine) → Keeps y gs W → slice_get W.coroutines co ≡ Some old → FramesStay (frames_of old) (frames_of new) → CoroutineOk y.table gs new → Keeps y gs (put_coroutine W co new)
  unfolding put_coroutine
  put_keeps W co old new k e h o = set_keeps y gs W k co old new e h o

  pub back_keeps : (W : World) → Keeps y gs W → Keeps y gs (back_to_resumer W)
  unfolding back_to_resumer put_coroutine
  back_keeps W k = by (last (without_last W.chain))
    where
      V : World
      V = record W { chain = without_last W.chain }

      h : Keeps y gs V
      h = chain_keeps W (without_last W.chain) k

      within : (co : ℕ) (o : Option Coroutine) → slice_get W.coroutines co ≡ o → Keeps y gs (record V { coroutines = slice_set W.coroutines co (in_progress (awake o)) })
      within co None e = subst (λ cos. Keeps y gs (record V { coroutines = cos })) (sym (set_absent W.coroutines co (in_progress []) e)) h
      within co (Some c) e = there (frames_of c) refl
        where
          there : (o : Option (List Frame)) → frames_of c ≡ o → Keeps y gs (record V { coroutines = slice_set W.coroutines co (in_progress (elim o as (λ _. List Frame) [ None ↦ [] | Some frames ↦ frames ])) })
          there None q = set_keeps y gs V h co c (in_progress []) e (subst (λ o. FramesStay o (Some [])) (sym q) (no_frames (Some []))) (each_none (FrameOk y.table gs))
          there (Some fs) q = set_keeps y gs V h co c (in_progress fs) e (subst (λ o. FramesStay o (Some fs)) (sym q) (λ n f z. z)) (frames_held y.table gs c fs q (k.coroutines co c e))

      by : (o : Option ℕ) → Keeps y gs (elim o as (λ _. World) [ None ↦ V | Some co ↦ record V { coroutines = slice_set W.coroutines co (in_progress (awake (slice_get W.coroutines co))) } ])
      by None = h
      by (Some co) = within co (slice_get W.coroutines co) refl

  pub bury_keeps : (W : World) (co : ℕ) (old new : Coroutine) (frames : List Frame) → Keeps y gs W → slice_get W.coroutines co ≡ Some old → frames_of old ≡ Some frames → CoroutineOk y.table gs new → Keeps y gs (bury W co frames new)
  unfolding bury put_coroutine
  bury_keeps W co old new frames k e q o =
      let fs = frames_held y.table gs old frames q (k.coroutines co old e) in
      changed y gs W (bury W co frames new) k refl refl k.heap (bury_carries y.table gs W.coroutines co old new frames W.cells e q fs)
      (all_get co 0 frames W.cells y.cell (closed (object a_table y.table)) k.cell ∙ ap Some (all_closed co 0 frames (object a_table y.table)))
      (each_set (CoroutineOk y.table gs) W.coroutines co new k.coroutines o) k.moving

  pub suspend_keeps : (W : World) (s : Stack) → Keeps y gs W → OnStack W s → Keeps y gs (suspend_running W s)
  unfolding suspend_running
  suspend_keeps W s k o = back_keeps (put_coroutine W s.coroutine (suspended s.frames)) (put_keeps W s.coroutine (in_progress s.frames) (suspended s.frames) k o.there (λ n f z. z) (frames_ok y gs W k s o))

  pub wait_keeps : (W : World) (s : Stack) → Keeps y gs W → OnStack W s → Keeps y gs (wait_for_another W s)
  unfolding wait_for_another
  wait_keeps W s k o = put_keeps W s.coroutine (in_progress s.frames) (normal s.frames) k o.there (λ n f z. z) (frames_ok y gs W k s o)

  pub into_keeps : (W : World) (co : ℕ) (old : Coroutine) (frames : List Frame) → Keeps y gs W → slice_get W.coroutines co ≡ Some old → FramesStay (frames_of old) (Some frames) → Each (FrameOk y.table gs) frames → Keeps y gs (go_into W co frames)
  unfolding go_into
  into_keeps W co old frames k e h o = put_keeps (record W { chain = W.chain ++ co ∷ [] }) co old (in_progress frames) (chain_keeps W (W.chain ++ co ∷ []) k) e h o

  pub starts_keeps : (W : World) (co : ℕ) (c : Coroutine) (vs : List Value) → Keeps y gs W → (can_start c ≡ true → slice_get W.coroutines co ≡ Some c) → CoroutineOk y.table gs c → Each (Apart y.table) vs → MadeKeeps y (starts_in W co c vs)
  starts_keeps W co (fresh body) vs k e o v =
      by (enters (go_into W co []) body vs) (enters_keeps y gs (go_into W co []) (into_keeps W co (fresh body) [] k (e refl) (no_frames (Some [])) (each_none (FrameOk y.table gs))) body vs v)
    where
      by : (o : Option (Made CallShape)) → MadeKeeps y o → MadeKeeps y (bind o (λ d. made d.world [] (resumed d.told)))
      by None h = tt
      by (Some d) h = (h.0, h.1, each_none (Apart y.table))
  starts_keeps W co (suspended fs) vs k e o v =
      (gs, moving_keeps y gs (go_into W co fs) vs (into_keeps W co (suspended fs) fs k (e refl) (λ n f z. z) o) v, each_none (Apart y.table))
  starts_keeps W co _ vs k e o v = (gs, k, each_none (Apart y.table))

  -- the running coroutine is no other one that may start
  other_starts : (W : World) (s : Stack) (co : ℕ) (c : Coroutine) → OnStack W s → slice_get W.coroutines co ≡ Some c → (c ≡ in_progress s.frames → ⊥) → co ≢ s.coroutine
  other_starts W s co c o e n x = n (some_is (sym (ap (slice_get W.coroutines) x) ∙ e) o.there)

  waited_there : (W : World) (s : Stack) (co : ℕ) (c : Coroutine) → co ≢ s.coroutine → slice_get W.coroutines co ≡ Some c → slice_get (wait_for_another W s).coroutines co ≡ Some c
  unfolding wait_for_another put_coroutine
  waited_there W s co c x e = get_set_other W.coroutines s.coroutine co (normal s.frames) (λ q. x (sym q)) ∙ e

  not_running : (c : Coroutine) (fs : List Frame) → can_start c ≡ true → c ≡ in_progress fs → ⊥
  not_running (fresh v) fs h e = cc
  not_running _ fs h e = cc

  pub resumes_keeps : (W : World) (s : Stack) (co : ℕ) (c : Coroutine) (vs : List Value) → Keeps y gs W → OnStack W s → slice_get W.coroutines co ≡ Some c → Each (Apart y.table) vs → MadeKeeps y (resumes W s co c vs)
  resumes_keeps W s co c vs k o e v = made_cond y (can_start c && nat_lt greatest_resumes (length W.chain)) _ _ (gs, k, each_none (Apart y.table)) (by (can_start c) refl)
    where
      by : (b : Bool) → can_start c ≡ b → MadeKeeps y (starts_in (cond b (wait_for_another W s) W) co c vs)
      by true h =
          starts_keeps (wait_for_another W s) co c vs (wait_keeps W s k o) (λ _. waited_there W s co c (other_starts W s co c o e (not_running c s.frames h)) e) (k.coroutines co c e) v
      by false h = starts_keeps W co c vs k (λ _. e) (k.coroutines co c e) v

  -- closing a coroutine

  closes_keeps : (W D : World) (s : Stack) (x : Option Value) (left : List Value) → Keeps y gs W → Keeps y gs D → OnStack D s → OptionOk (Apart y.table) x → Each (Apart y.table) left → MadeKeeps y (closes_in W D s x left)
  closes_keeps W D s x left k h o a v = made_cond y (has_room W 1) _ _ (gs, push_keeps y gs D h s (closing x left) o (a, v), each_none (Apart y.table)) (gs, k, each_none (Apart y.table))

  put_on : (W : World) (s : Stack) (co : ℕ) (new : Coroutine) → OnStack W s → co ≢ s.coroutine → OnStack (put_coroutine W co new) s
  unfolding put_coroutine
  put_on W s co new o x = record { chain = o.chain; there = get_set_other W.coroutines co s.coroutine new x ∙ o.there }

  bury_on : (W : World) (s : Stack) (co : ℕ) (frames : List Frame) (new : Coroutine) → OnStack W s → co ≢ s.coroutine → OnStack (bury W co frames new) s
  unfolding bury put_coroutine
  bury_on W s co frames new o x = record { chain = o.chain; there = get_set_other W.coroutines co s.coroutine new x ∙ o.there }

  pub closing_keeps : (W : World) (s : Stack) (co : ℕ) (c : Coroutine) → Keeps y gs W → OnStack W s → slice_get W.coroutines co ≡ Some c → MadeKeeps y (closes_coroutine W s co c)
  closing_keeps W s co (fresh body) k o e =
      closes_keeps W (put_coroutine W co dead) s None [] k (put_keeps W co (fresh body) dead k e (no_frames None) tt) (put_on W s co dead o (other_starts W s co (fresh body) o e (λ q. cc))) tt (each_none (Apart y.table))
  closing_keeps W s co (suspended fs) k o e =
      closes_keeps W (bury W co fs dead) s None (flat_map pending_values fs) k (bury_keeps W co (suspended fs) dead fs k e refl tt) (bury_on W s co fs dead o (other_starts W s co (suspended fs) o e (λ q. cc))) tt
      (all_pending_apart y.table gs fs (k.coroutines co (suspended fs) e))
  closing_keeps W s co (failed x xs) k o e =
      let a = k.coroutines co (failed x xs) e in
      closes_keeps W (put_coroutine W co dead) s (Some x) xs k (put_keeps W co (failed x xs) dead k e (no_frames None) tt) (put_on W s co dead o (other_starts W s co (failed x xs) o e (λ q. cc))) a.0 a.1
  closing_keeps W s co dead k o e = closes_keeps W W s None [] k k o tt (each_none (Apart y.table))
  closing_keeps W s co (in_progress fs) k o e = (gs, k, each_none (Apart y.table))
  closing_keeps W s co (normal fs) k o e = (gs, k, each_none (Apart y.table))

  -- the running coroutine is over

  pub ends_keeps : {A : Type 0} (W : World) (c : Coroutine) (told : A) → Keeps y gs W → ((s : Stack) → OnStack W s → CoroutineOk y.table gs c) → MadeKeeps y (bind (ends_as W c) (λ V. made V [] told))
  ends_keeps W c told k h = by (stack_of W) refl
    where
      by : (o : Option Stack) → stack_of W ≡ o → MadeKeeps y (bind (bind o (λ s. Some (back_to_resumer (bury W s.coroutine s.frames c)))) (λ V. made V [] told))
      by None e = tt
      by (Some s) e = let o = stack_there W s e in (gs, back_keeps (bury W s.coroutine s.frames c) (bury_keeps W s.coroutine (in_progress s.frames) c s.frames k o.there refl (h s o)), each_none (Apart y.table))

  -- a new one

  pub get_push : (cos : List Coroutine) (c : Coroutine) → Stay cos (cos ++ c ∷ [])
  get_push cos c co n f h = by (slice_get cos co) refl h
    where
      by : (o : Option Coroutine) → slice_get cos co ≡ o → in_frames (bind o frames_of) n ≡ Some f → function_at (cos ++ c ∷ []) co n ≡ Some f
      by None e z = absurd (cc)
      by (Some d) e z = ap (λ o. in_frames (bind o frames_of) n) (get_push_old cos (c ∷ []) co d e) ∙ z

  pub add_keeps : (W : World) (body : Value) → Keeps y gs W → Apart y.table body → Keeps y gs (add_coroutine W body)
  unfolding add_coroutine
  add_keeps W body k a =
      changed y gs W (add_coroutine W body) k refl refl k.heap (stay_carries y.table gs W.coroutines (W.coroutines ++ fresh body ∷ []) W.cells (get_push W.coroutines (fresh body))) k.cell
      (each_push (CoroutineOk y.table gs) W.coroutines (fresh body) k.coroutines a) k.moving
