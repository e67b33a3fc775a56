-- A closing frame on top of both: the next value is closed, or it is popped.
use Rattle.std.proofs.Common.{ℕ, suc, ◌≤◌, ◌≡◌, List, [], ◌∷◌, ◌++◌, length, Option, Some, None, refl, sym, ap, subst, ◌∙◌, Bool, true, false}
use Rattle.std.specs.Prelude.{slice_get, slice_set, reverse, drop}
use Rattle.std.proofs.lemmas.List.{reverse-append}
use Rattle.int_core.specs.Value.{Value, known, boolean, nth, bind, last, without_last, error_or_nil}
use Rattle.int_core.specs.Operations.{handler_in, of_close}
use Rattle.int_core.specs.Limits.{greatest_depth}
use Rattle.list_laws.specs.Held.{Held}
use Rattle.list_laws.proofs.Ends.{last_is, without_last_is, upward, length_upward}
use Rattle.list_laws.proofs.Items.{get_set_same, append_nil}
use Rattle.machine_core.specs.World as machine
use Rattle.machine_core.specs.World.{Frame, in_progress, Stack, stack_of, put_frames, put_top, pop}
use Rattle.machine_core.specs.Text.{read, written}
use Rattle.machine_core.specs.Moves.{Made, made, move, take_closing, give, give_with, pop_frame, ClosingShape, one_left, next_closing, asks, Outcome, trapped, ends, stop, run}
use Rattle.machine_core.specs.Moves as moves
use Rattle.machine_core.specs.FrameRows.{then, hand_over, closing_by, closing_row}
use Rattle.lua_meaning.specs.World as talk
use Rattle.lua_meaning.specs.World.{now_in, on_frames, gives_back, raises_text}
use Rattle.lua_meaning.specs.Calls.{closes_on, calls_value}
use Rattle.code_means.specs.Runs.{codes_run}
use Rattle.machine_sound.proofs.Frames.{stack_is}
use Rattle.machine_means.proofs.Lists.{nth_mid, drop_mid, set_twice}
use Rattle.machine_means.specs.Joined.{TalkFrame, TalkWorld, Stacks, Joined}
use Rattle.machine_means.specs.Stands.{call_asked, ComesTo}
use Rattle.machine_means.proofs.Held.{reverse_is}
use Rattle.machine_means.proofs.Switches.{OnlyRuns}
use Rattle.machine_means.proofs.Handing.{moved, told_now, gives}
use Rattle.machine_means.proofs.Frames.{HoldsSame, frames_put}
use Rattle.machine_means.proofs.AtRest.{from_gives}

nth_next : (xs ys : List Value) (y z : Value) → nth (xs ++ y ∷ z ∷ ys) (suc (length xs)) ≡ z
nth_next [] ys y z = refl
nth_next (x ∷ xs) ys y z = nth_next xs ys y z

-- what is closed next
next_is : (W : machine.World) (s : Stack) (e : Option Value) (us : List Value) (u : Value) → next_closing W s (machine.closing e (us ++ u ∷ [])) ≡ made (put_top W s (machine.closing e us)) (u ∷ error_or_nil e ∷ []) one_left
next_is W s e [] u = refl
next_is W s e (x ∷ us) u =
    ap (λ o. elim o as (λ _. Option (Made ClosingShape)) [ None ↦ None | Some v ↦ made {A = ClosingShape} (put_top W s (machine.closing e (without_last (x ∷ us ++ u ∷ [])))) (v ∷ error_or_nil e ∷ []) one_left ]) (last_is (x ∷ us) u)
    ∙ ap (λ l. made {A = ClosingShape} (put_top W s (machine.closing e l)) (u ∷ error_or_nil e ∷ []) one_left) (without_last_is (x ∷ us) u)

-- worlds that differ in the stack of the running coroutine and in what moves
module _ (M : machine.World) (T : TalkWorld) (co : ℕ) (frames : List Frame) (lax : Bool) (k : Joined lax M T) (runs : slice_get M.coroutines co ≡ Some (in_progress frames)) (only : OnlyRuns M.coroutines co) (last_co : last M.chain ≡ Some co) where
  abbrev pub stands_with : List Frame → List Value → machine.World
  stands_with fr mv = record M { coroutines = slice_set M.coroutines co (in_progress fr); moving = mv }

  pub stack_with : (fr : List Frame) (mv : List Value) → stack_of (stands_with fr mv) ≡ Some (record { coroutine = co; frames = fr })
  stack_with fr mv = stack_is (stands_with fr mv) co fr last_co (get_set_same M.coroutines co (in_progress frames) (in_progress fr) runs)

  put_with : (fr fr' : List Frame) (mv : List Value) → put_frames (stands_with fr mv) co fr' ≡ stands_with fr' mv
  unfolding put_frames
  put_with fr fr' mv = ap (λ cs. record M { coroutines = cs; moving = mv }) (set_twice M.coroutines co (in_progress fr) (in_progress fr'))

  -- under the closing frame
  module _ (rest : List Frame) (ts : List TalkFrame) (hs hs0 : List Held) (holds : slice_get k.held co ≡ Some hs0) (same : HoldsSame hs0 hs) (same_more : HoldsSame hs0 ([] ∷ hs)) (below : Stacks false M.functions T.cells rest ts hs) (depth : suc (length rest) ≤ greatest_depth) where
    abbrev pub with_closing : Option Value → List Value → List Frame
    with_closing e us = rest ++ machine.closing e us ∷ []

    joined_rest : (mv : List Value) → Joined false (stands_with rest mv) (on_frames T ts)
    joined_rest mv = moved false (record M { coroutines = slice_set M.coroutines co (in_progress rest) }) (on_frames T ts) mv (frames_put M T co frames lax k runs only false rest ts hs0 hs holds same below)

    pub joined_closing : (e : Option Value) (ws : List Value) (mv : List Value) → Joined false (stands_with (with_closing e (reverse ws)) mv) (on_frames T (talk.closing e ws ∷ ts))
    joined_closing e ws mv =
        let up : rest ≡ upward below.ms = below.listed ∙ reverse_is below.ms in
        let size : length rest ≡ length below.ms = ap (λ l. length l) up ∙ length_upward below.ms in
        moved false (record M { coroutines = slice_set M.coroutines co (in_progress (with_closing e (reverse ws))) }) (on_frames T (talk.closing e ws ∷ ts)) mv
        (frames_put M T co frames lax k runs only false (with_closing e (reverse ws)) (talk.closing e ws ∷ ts) hs0 ([] ∷ hs) holds same_more
        (record {
          ms = machine.closing e (reverse ws) ∷ below.ms;
          listed = ap (λ l. l ++ machine.closing e (reverse ws) ∷ []) up ∙ sym (reverse_is (machine.closing e (reverse ws) ∷ below.ms));
          below = ((refl, refl, refl), below.below);
          depth = subst (λ n. suc n ≤ greatest_depth) size depth;
        }))

    take_is : (e : Option Value) (us mv env : List Value) → move take_closing env (stands_with (with_closing e us) mv) ≡ next_closing (stands_with (with_closing e us) mv) (record { coroutine = co; frames = with_closing e us }) (machine.closing e us)
    take_is e us mv env =
        ap (λ o. bind o (λ s. bind (last s.frames) (next_closing (stands_with (with_closing e us) mv) s))) (stack_with (with_closing e us) mv)
        ∙ ap (λ o. bind o (next_closing (stands_with (with_closing e us) mv) (record { coroutine = co; frames = with_closing e us }))) (last_is rest (machine.closing e us))

    put_top_with : (e : Option Value) (us us' mv : List Value) → put_top (stands_with (with_closing e us) mv) (record { coroutine = co; frames = with_closing e us }) (machine.closing e us') ≡ stands_with (with_closing e us') mv
    unfolding put_top
    put_top_with e us us' mv = ap (λ fr. put_frames (stands_with (with_closing e us) mv) co (fr ++ machine.closing e us' ∷ [])) (without_last_is rest (machine.closing e us)) ∙ put_with (with_closing e us) (with_closing e us') mv

    pop_with : (e : Option Value) (us mv : List Value) → pop (stands_with (with_closing e us) mv) (record { coroutine = co; frames = with_closing e us }) ≡ stands_with rest mv
    unfolding pop
    pop_with e us mv = ap (put_frames (stands_with (with_closing e us) mv) co) (without_last_is rest (machine.closing e us)) ∙ put_with (with_closing e us) rest mv

    popping : (e : Option Value) (us mv env : List Value) (r : moves.Row) → run (then pop_frame r) env (stands_with (with_closing e us) mv) ≡ run r (env ++ []) (stands_with rest mv)
    popping e us mv env r =
        ap (λ o. elim (bind o (λ s. made {A = Unit {0}} (pop (stands_with (with_closing e us) mv) s) [] tt)) as (λ _. Outcome) [ None ↦ trapped | Some d ↦ run r (env ++ d.values) d.world ]) (stack_with (with_closing e us) mv)
        ∙ ap (λ (W : machine.World). run r (env ++ []) W) (pop_with e us mv)

    given_back : (mv env : List Value) → ComesTo (run hand_over env (stands_with rest mv)) (now_in (on_frames T ts) (gives_back mv))
    given_back mv env =
        let U : TalkWorld = now_in (on_frames T ts) (gives_back mv) in
        from_gives (run hand_over env (stands_with rest mv)) U (gives (stands_with rest mv) U (record { coroutine = co; frames = rest }) env (stack_with rest mv) (told_now false (stands_with rest mv) (on_frames T ts) (gives_back mv) (joined_rest mv)) refl)

    taking : (e : Option Value) (us mv env : List Value) (d : Made ClosingShape) → next_closing (stands_with (with_closing e us) mv) (record { coroutine = co; frames = with_closing e us }) (machine.closing e us) ≡ Some d
        → run closing_row env (stands_with (with_closing e us) mv) ≡ run (closing_by d.told (length env)) (env ++ d.values) d.world
    taking e us mv env d n = ap (λ o. elim o as (λ _. Outcome) [ None ↦ trapped | Some d ↦ run (closing_by d.told (length env)) (env ++ d.values) d.world ]) (take_is e us mv env ∙ n)

    none_left : (e : Option Value) (mv env : List Value) → ComesTo (run closing_row env (stands_with (with_closing e []) mv)) (closes_on codes_run T e [] ts)
    none_left None mv env =
        let done = taking None [] mv env (record { world = stands_with (with_closing None []) mv; values = []; told = moves.all_closed }) refl ∙ popping None [] mv (env ++ []) (then (give (written (boolean true) ∷ [])) hand_over) in
        subst (λ o. ComesTo o (closes_on codes_run T None [] ts)) (sym done) (given_back (known (boolean true) ∷ []) (env ++ [] ++ [] ++ []))
    none_left (Some v) mv env =
        let r = then (give (written (boolean false) ∷ read (length env) ∷ [])) hand_over in
        let done : run closing_row env (stands_with (with_closing (Some v) []) mv) ≡ run r (env ++ v ∷ [] ++ []) (stands_with rest mv) =
        taking (Some v) [] mv env (record { world = stands_with (with_closing (Some v) []) mv; values = v ∷ []; told = moves.closed_with_error }) refl ∙ popping (Some v) [] mv (env ++ v ∷ []) r in
        let last_v : run r (env ++ v ∷ [] ++ []) (stands_with rest mv) ≡ run hand_over (env ++ v ∷ [] ++ [] ++ []) (stands_with rest (known (boolean false) ∷ v ∷ [])) =
        ap (λ w. run hand_over (env ++ v ∷ [] ++ [] ++ []) (stands_with rest (known (boolean false) ∷ w ∷ []))) (ap (λ l. nth l (length env)) (append_nil (env ++ v ∷ [])) ∙ nth_mid env [] v) in
        subst (λ o. ComesTo o (closes_on codes_run T (Some v) [] ts)) (sym (done ∙ last_v)) (given_back (known (boolean false) ∷ v ∷ []) (env ++ v ∷ [] ++ [] ++ []))

    some_left : (e : Option Value) (w : Value) (ws mv env : List Value) → ComesTo (run closing_row env (stands_with (with_closing e (reverse ws ++ w ∷ [])) mv)) (closes_on codes_run T e (w ∷ ws) ts)
    some_left e w ws mv env =
        let us = reverse ws in
        let x = error_or_nil e in
        let h = handler_in M.heap of_close w in
        let W : machine.World = stands_with (with_closing e us) mv in
        let V : machine.World = stands_with (with_closing e us) (h ∷ w ∷ x ∷ []) in
        let U : TalkWorld = on_frames T (talk.closing e ws ∷ ts) in
        let env1 = env ++ w ∷ x ∷ [] in
        let taken : run closing_row env (stands_with (with_closing e (us ++ w ∷ [])) mv) ≡ run (closing_by one_left (length env)) env1 W =
        taking e (us ++ w ∷ []) mv env (record { world = put_top (stands_with (with_closing e (us ++ w ∷ [])) mv) (record { coroutine = co; frames = with_closing e (us ++ w ∷ []) }) (machine.closing e us); values = w ∷ x ∷ []; told = one_left })
        (next_is (stands_with (with_closing e (us ++ w ∷ [])) mv) (record { coroutine = co; frames = with_closing e (us ++ w ∷ []) }) e us w)
        ∙ ap (λ (W : machine.World). run (closing_by one_left (length env)) env1 W) (put_top_with e (us ++ w ∷ []) us mv) in
        let env2 : Value → Value → List Value = λ a b. env1 ++ handler_in M.heap of_close a ∷ a ∷ b ∷ [] in
        let found : run (closing_by one_left (length env)) env1 W ≡ run (then (give_with (read (length env1) ∷ []) (suc (length env1))) (stop asks)) (env2 w x) W =
        ap (λ a. run (then (give_with (read (length env1) ∷ []) (suc (length env1))) (stop asks)) (env2 a (nth env1 (suc (length env)))) W) (nth_mid env (x ∷ []) w)
        ∙ ap (λ b. run (then (give_with (read (length env1) ∷ []) (suc (length env1))) (stop asks)) (env2 w b) W) (nth_next env [] w x) in
        let given : run (then (give_with (read (length env1) ∷ []) (suc (length env1))) (stop asks)) (env2 w x) W ≡ ends asks V =
        ap (λ a. ends asks (stands_with (with_closing e us) (a ∷ drop (suc (length env1)) (env2 w x)))) (nth_mid env1 (w ∷ x ∷ []) h)
        ∙ ap (λ l. ends asks (stands_with (with_closing e us) (h ∷ l))) (drop_mid env1 (w ∷ x ∷ []) h) in
        let told : closes_on codes_run T e (w ∷ ws) ts ≡ calls_value codes_run U h (w ∷ x ∷ []) (λ why V. raises_text V why) =
        ap (λ H. calls_value codes_run U (handler_in H of_close w) (w ∷ x ∷ []) (λ why V. raises_text V why)) (sym k.heap) in
        record { ending = asks; world = V; is = taken ∙ found ∙ given; stands = call_asked V (closes_on codes_run T e (w ∷ ws) ts) U h (w ∷ x ∷ []) refl (joined_closing e ws (h ∷ w ∷ x ∷ [])) told }

    -- a closing frame goes on
    pub closing_comes : (e : Option Value) (ws mv env : List Value) → ComesTo (run closing_row env (stands_with (with_closing e (reverse ws)) mv)) (closes_on codes_run T e ws ts)
    closing_comes e [] mv env = none_left e mv env
    closing_comes e (w ∷ ws) mv env = subst (λ us. ComesTo (run closing_row env (stands_with (with_closing e us) mv)) (closes_on codes_run T e (w ∷ ws) ts)) (sym (reverse-append (w ∷ []) ws)) (some_left e w ws mv env)
