-- Results and errors that reach a frame of `pcall` or `xpcall`, a message handler's call or a closing frame.
use Rattle.std.proofs.Common.{ℕ, ◌≡◌, List, [], ◌∷◌, ◌++◌, Option, Some, None, refl, sym, ap, subst, ◌∙◌, Bool, true, false}
use Rattle.std.specs.Prelude.{slice_set, reverse}
use Rattle.int_core.specs.Value.{Value, known, boolean, nth, bind, last, without_last}
use Rattle.list_laws.specs.Held.{Held}
use Rattle.list_laws.proofs.Ends.{without_last_is}
use Rattle.list_laws.proofs.Items.{append_nil}
use Rattle.machine_core.specs.World as machine
use Rattle.machine_core.specs.World.{Frame, lua, pcall, xpcall, handler, in_progress, put_frames, put_top}
use Rattle.machine_core.specs.Text.{read, written}
use Rattle.machine_core.specs.Moves.{top_shape, see_top, set_error, with_error, give, give_with, unwinding, Outcome, trapped, stop, act, run}
use Rattle.machine_core.specs.FrameRows.{then, hand_over, gives_up, closing_row, handed_to, unwound}
use Rattle.lua_meaning.specs.World as talk
use Rattle.lua_meaning.specs.World.{protected, handled_by, handling, now_in, on_frames, gives_back}
use Rattle.lua_meaning.specs.Calls as calls
use Rattle.lua_meaning.specs.Calls.{truth, closes_on, error_in_handler}
use Rattle.code_means.specs.Runs.{codes_run}
use Rattle.machine_means.specs.Joined.{TalkFrame, TalkWorld, Pair, under}
use Rattle.machine_means.specs.Stands.{ComesTo, AtRest, ResultsReach, ErrorsReach}
use Rattle.machine_means.proofs.Switches.{set_same}
use Rattle.machine_means.proofs.Frames.{HoldsSame, holds_nothing, holds_back, OnTop}
use Rattle.machine_means.proofs.AtRest.{stack_now, only, top, see_is, pop_is, popped_gives, popped_leaves}
use Rattle.machine_means.proofs.Closings.{stands_with, closing_comes}

is_protected : (lax : Bool) (fs : List machine.Function) (vs : List Value) (t : TalkFrame) (h : Held) → Pair lax fs vs pcall t h → (t ≡ protected) × (h ≡ [])
is_protected lax fs vs protected h k = (refl, k)
is_protected lax fs vs _ h k = absurd k

is_handled : (lax : Bool) (fs : List machine.Function) (vs : List Value) (v : Value) (t : TalkFrame) (h : Held) → Pair lax fs vs (xpcall v) t h → (t ≡ handled_by v) × (h ≡ [])
is_handled lax fs vs v (handled_by u) h k = (ap handled_by (sym k.0), k.1)
is_handled lax fs vs v _ h k = absurd k

is_handling : (lax : Bool) (fs : List machine.Function) (vs : List Value) (t : TalkFrame) (h : Held) → Pair lax fs vs handler t h → (t ≡ handling) × (h ≡ [])
is_handling lax fs vs handling h k = (refl, k)
is_handling lax fs vs _ h k = absurd k

is_closing : (lax : Bool) (fs : List machine.Function) (vs : List Value) (e : Option Value) (us : List Value) (t : TalkFrame) (h : Held) → Pair lax fs vs (machine.closing e us) t h → (ws : List Value) × (t ≡ talk.closing e ws) × (us ≡ reverse ws) × (h ≡ [])
is_closing lax fs vs e us (talk.closing d ws) h k = (ws, ap (λ e. talk.closing e ws) (sym k.0), k.1, k.2)
is_closing lax fs vs e us _ h k = absurd k

module _ (primitives : ℕ) (M : machine.World) (T : TalkWorld) (lax : Bool) (k : AtRest primitives lax M T) where
  abbrev Top : Frame → Type 0
  Top m = OnTop M T k.waits.coroutine k.waits.frames lax k.joined k.waits.running (only primitives M T lax k) m

  abbrev P : machine.World
  P = machine.pop M (record { coroutine = k.waits.coroutine; frames = k.waits.frames })

  abbrev results : List Value → TalkWorld
  results vs = calls.handed codes_run T vs T.frames

  -- results reach a call by `pcall` or `xpcall`
  gives_true : (m : Frame) (x : Top m) → x.h ≡ [] → under m ≡ false → calls.handed codes_run T M.moving (x.t ∷ x.ts) ≡ now_in (on_frames T x.ts) (gives_back (truth true ∷ M.moving))
      → run (act see_top (λ _ top. handed_to top)) [] M ≡ run (then Rattle.machine_core.specs.Moves.pop_frame (then (give_with (written (boolean true) ∷ []) 0) hand_over)) M.moving (record M { moving = [] })
      → ComesTo (run (act see_top (λ _ top. handed_to top)) [] M) (calls.handed codes_run T M.moving T.frames)
  gives_true m x empty u says seen =
      let ran : run (act see_top (λ _ top. handed_to top)) [] M ≡ run hand_over (M.moving ++ [] ++ []) (record P { moving = known (boolean true) ∷ M.moving }) =
      seen ∙ pop_is primitives M T lax k (then (give_with (written (boolean true) ∷ []) 0) hand_over) M.moving []
      ∙ ap (λ l. run hand_over (M.moving ++ [] ++ []) (record P { moving = known (boolean true) ∷ l })) (append_nil M.moving) in
      subst (λ o. ComesTo o (calls.handed codes_run T M.moving T.frames)) (sym ran)
      (subst (λ U. ComesTo (run hand_over (M.moving ++ [] ++ []) (record P { moving = known (boolean true) ∷ M.moving })) U) (sym (ap (calls.handed codes_run T M.moving) x.talks_are ∙ says))
      (popped_gives primitives M T lax k m x empty u (known (boolean true) ∷ M.moving) (M.moving ++ [] ++ [])))

  -- an error reaches it
  gives_false : (m : Frame) (x : Top m) (e : Value) → M.moving ≡ e ∷ [] → x.h ≡ [] → under m ≡ false → calls.unwound codes_run T e (x.t ∷ x.ts) ≡ now_in (on_frames T x.ts) (gives_back (truth false ∷ e ∷ []))
      → run (act see_top (λ _ top. unwound top)) [] M ≡ run (then Rattle.machine_core.specs.Moves.pop_frame (then (give (written (boolean false) ∷ read 0 ∷ [])) hand_over)) M.moving (record M { moving = [] })
      → ComesTo (run (act see_top (λ _ top. unwound top)) [] M) (calls.unwound codes_run T e T.frames)
  gives_false m x e moves empty u says seen =
      let r = then (give (written (boolean false) ∷ read 0 ∷ [])) hand_over in
      let ran : run (act see_top (λ _ top. unwound top)) [] M ≡ run hand_over (e ∷ []) (record P { moving = known (boolean false) ∷ e ∷ [] }) =
      seen ∙ ap (λ l. run (then Rattle.machine_core.specs.Moves.pop_frame r) l (record M { moving = [] })) moves ∙ pop_is primitives M T lax k r (e ∷ []) [] in
      subst (λ o. ComesTo o (calls.unwound codes_run T e T.frames)) (sym ran)
      (subst (λ U. ComesTo (run hand_over (e ∷ []) (record P { moving = known (boolean false) ∷ e ∷ [] })) U) (sym (ap (calls.unwound codes_run T e) x.talks_are ∙ says))
      (popped_gives primitives M T lax k m x empty u (known (boolean false) ∷ e ∷ []) (e ∷ [])))

  -- a message handler's call
  handler_results : (x : Top handler) → last k.waits.frames ≡ Some handler → ComesTo (run (act see_top (λ _ top. handed_to top)) [] M) (calls.handed codes_run T M.moving T.frames)
  handler_results x at =
      let p = is_handling lax M.functions T.cells x.t x.h x.pair in
      let r = then (give (read 0 ∷ [])) (stop unwinding) in
      let e = nth M.moving 0 in
      let ran : run (act see_top (λ _ top. handed_to top)) [] M ≡ run (stop unwinding) (M.moving ++ [] ++ []) (record P { moving = e ∷ [] }) =
      see_is primitives M T lax k (λ _ top. handed_to top) [] ∙ ap (λ o. run (handed_to (top_shape M o)) [] M) at ∙ pop_is primitives M T lax k r M.moving []
      ∙ ap (λ l. run (stop unwinding) (M.moving ++ [] ++ []) (record P { moving = nth l 0 ∷ [] })) (append_nil M.moving) in
      subst (λ o. ComesTo o (calls.handed codes_run T M.moving T.frames)) (sym ran)
      (subst (λ U. ComesTo (run (stop unwinding) (M.moving ++ [] ++ []) (record P { moving = e ∷ [] })) U) (sym (ap (calls.handed codes_run T M.moving) (x.talks_are ∙ ap (λ t. t ∷ x.ts) p.0)))
      (popped_leaves primitives M T lax k handler x p.1 refl e (M.moving ++ [] ++ [])))

  handler_error : (x : Top handler) (e : Value) → last k.waits.frames ≡ Some handler → ComesTo (run (act see_top (λ _ top. unwound top)) [] M) (calls.unwound codes_run T e T.frames)
  handler_error x e at =
      let p = is_handling lax M.functions T.cells x.t x.h x.pair in
      let ran : run (act see_top (λ _ top. unwound top)) [] M ≡ run (stop unwinding) [] (record P { moving = error_in_handler ∷ [] }) =
      see_is primitives M T lax k (λ _ top. unwound top) [] ∙ ap (λ o. run (unwound (top_shape M o)) [] M) at ∙ pop_is primitives M T lax k gives_up [] M.moving in
      subst (λ o. ComesTo o (calls.unwound codes_run T e T.frames)) (sym ran)
      (subst (λ U. ComesTo (run (stop unwinding) [] (record P { moving = error_in_handler ∷ [] })) U) (sym (ap (calls.unwound codes_run T e) (x.talks_are ∙ ap (λ t. t ∷ x.ts) p.0)))
      (popped_leaves primitives M T lax k handler x p.1 refl error_in_handler []))

  -- a closing frame
  module _ (err : Option Value) (us : List Value) (x : Top (machine.closing err us)) (at : last k.waits.frames ≡ Some (machine.closing err us)) (ws : List Value) (is : us ≡ reverse ws) (empty : x.h ≡ []) where
    abbrev co : ℕ
    co = k.waits.coroutine

    abbrev with_top : Option Value → List Value → machine.World
    with_top e mv = stands_with M T co k.waits.frames lax k.joined k.waits.running (only primitives M T lax k) k.waits.last (x.rest ++ machine.closing e us ∷ []) mv

    same_held : HoldsSame (x.h ∷ x.hs) x.hs
    same_held = subst (λ h. HoldsSame (h ∷ x.hs) x.hs) (sym empty) (holds_back x.hs ([] ∷ x.hs) (holds_nothing x.hs))

    more_held : HoldsSame (x.h ∷ x.hs) ([] ∷ x.hs)
    more_held = subst (λ h. HoldsSame (h ∷ x.hs) ([] ∷ x.hs)) (sym empty) ((λ f r c n. n), (λ f r c n. n))

    comes : (e : Option Value) (mv env : List Value) → ComesTo (run closing_row env (with_top e mv)) (closes_on codes_run T e ws x.ts)
    comes e mv env =
        subst (λ vs. ComesTo (run closing_row env (stands_with M T co k.waits.frames lax k.joined k.waits.running (only primitives M T lax k) k.waits.last (x.rest ++ machine.closing e vs ∷ []) mv)) (closes_on codes_run T e ws x.ts)) (sym is)
        (closing_comes M T co k.waits.frames lax k.joined k.waits.running (only primitives M T lax k) k.waits.last x.rest x.ts x.hs (x.h ∷ x.hs) x.holds same_held more_held x.below x.depth e ws mv env)

    -- the world is as it stands
    stays : (mv : List Value) → with_top err mv ≡ record M { moving = mv }
    stays mv = ap (λ fr. record M { coroutines = slice_set M.coroutines co (in_progress fr); moving = mv }) (sym x.frames_are) ∙ ap (λ cs. record M { coroutines = cs; moving = mv }) (set_same M.coroutines co (in_progress k.waits.frames) k.waits.running)

    closing_results : calls.handed codes_run T M.moving T.frames ≡ closes_on codes_run T err ws x.ts → ComesTo (run (act see_top (λ _ top. handed_to top)) [] M) (calls.handed codes_run T M.moving T.frames)
    closing_results says =
        let ran : run (act see_top (λ _ top. handed_to top)) [] M ≡ run closing_row M.moving (with_top err []) =
        see_is primitives M T lax k (λ _ top. handed_to top) [] ∙ ap (λ o. run (handed_to (top_shape M o)) [] M) at ∙ ap (λ (W : machine.World). run closing_row M.moving W) (sym (stays [])) in
        subst (λ o. ComesTo o (calls.handed codes_run T M.moving T.frames)) (sym ran) (subst (λ U. ComesTo (run closing_row M.moving (with_top err [])) U) (sym says) (comes err [] M.moving))

    error_put : (e : Value) → put_top (record M { moving = [] }) (record { coroutine = co; frames = k.waits.frames }) (machine.closing (Some e) us) ≡ with_top (Some e) []
    unfolding put_top put_frames
    error_put e = ap (λ fr. record M { coroutines = slice_set M.coroutines co (in_progress (fr ++ machine.closing (Some e) us ∷ [])); moving = [] }) (ap without_last x.frames_are ∙ without_last_is x.rest (machine.closing err us))

    closing_error : (e : Value) → M.moving ≡ e ∷ [] → calls.unwound codes_run T e T.frames ≡ closes_on codes_run T (Some e) ws x.ts → ComesTo (run (act see_top (λ _ top. unwound top)) [] M) (calls.unwound codes_run T e T.frames)
    closing_error e moves says =
        let N : machine.World = record M { moving = [] } in
        let ran : run (act see_top (λ _ top. unwound top)) [] M ≡ run closing_row (e ∷ []) (with_top (Some e) []) =
        see_is primitives M T lax k (λ _ top. unwound top) [] ∙ ap (λ o. run (unwound (top_shape M o)) [] M) at
        ∙ ap (λ l. run (then (set_error (read 0)) closing_row) l N) moves
        ∙ ap (λ o. elim (bind o (λ s. bind (last s.frames) (λ f. with_error N s f e))) as (λ _. Outcome) [ None ↦ trapped | Some d ↦ run closing_row ((e ∷ []) ++ d.values) d.world ]) (stack_now primitives M T lax k)
        ∙ ap (λ o. elim (bind o (λ f. with_error N (record { coroutine = co; frames = k.waits.frames }) f e)) as (λ _. Outcome) [ None ↦ trapped | Some d ↦ run closing_row ((e ∷ []) ++ d.values) d.world ]) at
        ∙ ap (λ (W : machine.World). run closing_row (e ∷ []) W) (error_put e) in
        subst (λ o. ComesTo o (calls.unwound codes_run T e T.frames)) (sym ran) (subst (λ U. ComesTo (run closing_row (e ∷ []) (with_top (Some e) [])) U) (sym says) (comes (Some e) [] (e ∷ [])))

pub results_reach : ResultsReach
results_reach primitives M T k (lua fr) at n = absurd (n tt)
results_reach primitives M T k pcall at n =
    let x = top primitives M T false k pcall at in
    let p = is_protected false M.functions T.cells x.t x.h x.pair in
    gives_true primitives M T false k pcall x p.1 refl (ap (λ t. calls.handed codes_run T M.moving (t ∷ x.ts)) p.0) (see_is primitives M T false k (λ _ top. handed_to top) [] ∙ ap (λ o. run (handed_to (top_shape M o)) [] M) at)
results_reach primitives M T k (xpcall v) at n =
    let x = top primitives M T false k (xpcall v) at in
    let p = is_handled false M.functions T.cells v x.t x.h x.pair in
    gives_true primitives M T false k (xpcall v) x p.1 refl (ap (λ t. calls.handed codes_run T M.moving (t ∷ x.ts)) p.0) (see_is primitives M T false k (λ _ top. handed_to top) [] ∙ ap (λ o. run (handed_to (top_shape M o)) [] M) at)
results_reach primitives M T k handler at n = handler_results primitives M T false k (top primitives M T false k handler at) at
results_reach primitives M T k (machine.closing e us) at n =
    let x = top primitives M T false k (machine.closing e us) at in
    let p = is_closing false M.functions T.cells e us x.t x.h x.pair in
    closing_results primitives M T false k e us x at p.0 p.2 p.3 (ap (calls.handed codes_run T M.moving) (x.talks_are ∙ ap (λ t. t ∷ x.ts) p.1))

pub errors_reach : ErrorsReach
errors_reach primitives M T k (lua fr) at n e moves = absurd (n tt)
errors_reach primitives M T k pcall at n e moves =
    let x = top primitives M T true k pcall at in
    let p = is_protected true M.functions T.cells x.t x.h x.pair in
    gives_false primitives M T true k pcall x e moves p.1 refl (ap (λ t. calls.unwound codes_run T e (t ∷ x.ts)) p.0) (see_is primitives M T true k (λ _ top. unwound top) [] ∙ ap (λ o. run (unwound (top_shape M o)) [] M) at)
errors_reach primitives M T k (xpcall v) at n e moves =
    let x = top primitives M T true k (xpcall v) at in
    let p = is_handled true M.functions T.cells v x.t x.h x.pair in
    gives_false primitives M T true k (xpcall v) x e moves p.1 refl (ap (λ t. calls.unwound codes_run T e (t ∷ x.ts)) p.0) (see_is primitives M T true k (λ _ top. unwound top) [] ∙ ap (λ o. run (unwound (top_shape M o)) [] M) at)
errors_reach primitives M T k handler at n e moves = handler_error primitives M T true k (top primitives M T true k handler at) e at
errors_reach primitives M T k (machine.closing err us) at n e moves =
    let x = top primitives M T true k (machine.closing err us) at in
    let p = is_closing true M.functions T.cells err us x.t x.h x.pair in
    closing_error primitives M T true k err us x at p.0 p.2 p.3 e moves (ap (calls.unwound codes_run T e) (x.talks_are ∙ ap (λ t. t ∷ x.ts) p.1))
