-- An error was raised: who catches it is the same in both worlds.
use Rattle.std.proofs.Common.{ℕ, suc, ◌+◌, ◌≡◌, List, [], ◌∷◌, ◌++◌, length, Option, Some, None, refl, sym, ap, subst, ◌∙◌, arith, Bool, true, false, cond}
use Rattle.std.specs.Prelude.{nat_le, nat_eq, reverse}
use Rattle.std.proofs.lemmas.Bool.{cond-true, cond-false}
use Rattle.std.proofs.lemmas.List.{length-reverse, reverse-reverse}
use Rattle.int_core.specs.Value.{Value, bind}
use Rattle.int_core.specs.Limits.{greatest_depth}
use Rattle.list_laws.specs.Held.{Held}
use Rattle.machine_core.specs.World as machine
use Rattle.machine_core.specs.World.{Frame, lua, pcall, xpcall, handler, Stack, push, put_frames}
use Rattle.machine_core.specs.Text.{read}
use Rattle.machine_core.specs.Moves.{made, catcher, handler_value, TopShape, top_shape, no_top, runs_main, over_handler, push_frame, give_with, asks, unwinding, Outcome, trapped, ends, stop, act, run}
use Rattle.machine_core.specs.FrameRows.{then, gives_up, raised_row, coroutine_fails}
use Rattle.machine_core.specs.FrameRows as rows
use Rattle.lua_meaning.specs.World as talk
use Rattle.lua_meaning.specs.World.{waiting, raising, protected, handled_by, handling, now_in, on_frames, unwinds}
use Rattle.lua_meaning.specs.Calls.{calls_value, raised_to, fails_all, error_in_handler}
use Rattle.code_means.specs.Runs.{codes_run}
use Rattle.machine_means.specs.Joined.{TalkFrame, TalkWorld, Below, Joined}
use Rattle.machine_means.specs.Stands.{refused_under, Stands, call_asked, error_leaves, ComesTo, AtRest, ErrorsRaised}
use Rattle.machine_means.proofs.Handing.{moved, told_now}
use Rattle.machine_means.proofs.Frames.{own_stack, pushed}
use Rattle.machine_means.proofs.Running.{runs_first}
use Rattle.machine_means.proofs.Giving.{fails_joined}
use Rattle.machine_means.proofs.AtRest.{stack_now, only, from_gives}
use Rattle.machine_means.proofs.Raising.{same_room, room_below}

-- frames that stop an error without a message handler
abbrev pub Stops : Frame → Type 0
Stops pcall = Unit {0}
Stops handler = Unit {0}
Stops (machine.closing e us) = Unit {0}
Stops _ = ⊥

pub data Catching (T : TalkWorld) (e : Value) (c : Option Frame) (U : TalkWorld) : Type 0 where
  nobody : c ≡ None → U ≡ raised_to codes_run T e [] → Catching T e c U
  by_handler : (h : Value) → c ≡ Some (xpcall h) → U ≡ raised_to codes_run T e (handled_by h ∷ []) → Catching T e c U
  by_other : (m : Frame) → c ≡ Some m → Stops m → U ≡ now_in T (unwinds e) → Catching T e c U

module _ (fs : List machine.Function) (T : TalkWorld) (e : Value) where
  pub caught : (lax : Bool) (ms : List Frame) (ts : List TalkFrame) (hs : List Held) → Below lax fs T.cells ms ts hs → Catching T e (catcher ms) (raised_to codes_run T e ts)
  caught lax [] [] [] k = nobody refl refl
  caught lax (lua fr ∷ ms) (waiting asker ∷ ts) (h ∷ hs) k = caught false ms ts hs k.1
  caught true (lua fr ∷ ms) (raising asker ∷ ts) (h ∷ hs) k = caught false ms ts hs k.1
  caught lax (pcall ∷ ms) (protected ∷ ts) (h ∷ hs) k = by_other pcall refl tt refl
  caught lax (xpcall v ∷ ms) (handled_by u ∷ ts) (h ∷ hs) k = by_handler v refl (ap (λ v. raised_to codes_run T e (handled_by v ∷ [])) (sym k.0.0))
  caught lax (handler ∷ ms) (handling ∷ ts) (h ∷ hs) k = by_other handler refl tt refl
  caught lax (machine.closing d us ∷ ms) (talk.closing d' ws ∷ ts) (h ∷ hs) k = by_other (machine.closing d us) refl tt refl
  caught false (lua fr ∷ ms) (raising asker ∷ ts) (h ∷ hs) k = absurd k.0
  caught lax (m ∷ ms) (t ∷ ts) (h ∷ hs) k = absurd k.0
  caught lax _ _ _ k = absurd k

module _ (primitives : ℕ) (M : machine.World) (T : TalkWorld) (k : AtRest primitives true M T) (e : Value) (moves : M.moving ≡ e ∷ []) where
  abbrev s : Stack
  s = record { coroutine = k.waits.coroutine; frames = k.waits.frames }

  abbrev N : machine.World
  N = record M { moving = [] }

  seen : (c : Option Frame) → catcher (reverse k.waits.frames) ≡ c → run raised_row [] M ≡ run (rows.raised_to (top_shape M c) 0) (handler_value c) M
  seen c at =
      ap (λ o. elim (bind o (λ s. made {A = TopShape} M (handler_value (catcher (reverse s.frames))) (top_shape M (catcher (reverse s.frames))))) as (λ _. Outcome) [ None ↦ trapped | Some d ↦ run (rows.raised_to d.told 0) ([] ++ d.values) d.world ]) (stack_now primitives M T true k)
      ∙ ap (λ c. run (rows.raised_to (top_shape M c) 0) (handler_value c) M) at

  catching : Catching T e (catcher (reverse k.waits.frames)) (raised_to codes_run T e T.frames)
  catching =
      let o = own_stack M T k.waits.coroutine k.waits.frames true k.joined k.waits.running (only primitives M T true k) in
      subst (λ ms. Catching T e (catcher ms) (raised_to codes_run T e T.frames)) (sym (ap reverse o.2.listed ∙ reverse-reverse o.2.ms)) (caught M.functions T e true o.2.ms T.frames o.0 o.2.below)

  -- it goes on by leaving frames
  leaving : (mv : List Value) (d : Value) (env : List Value) → mv ≡ d ∷ [] → ComesTo (run (stop unwinding) env (record M { moving = mv })) (now_in T (unwinds d))
  leaving mv d env is = record {
    ending = unwinding;
    world = record M { moving = mv };
    is = refl;
    stands = error_leaves (record M { moving = mv }) (now_in T (unwinds d)) d is refl (told_now true (record M { moving = mv }) T (unwinds d) (moved true M T mv k.joined));
  }

  main_alone : runs_main M ≡ true → (U V : TalkWorld) → cond (talk.runs_main T) U V ≡ U
  main_alone b U V = let f = runs_first primitives M k.solid k.waits T true k.joined in from f.0 f.1
    where
      from : (rest : List ℕ) → T.chain ≡ k.waits.coroutine ∷ rest → cond (talk.runs_main T) U V ≡ U
      from [] c = ap (λ c. cond (elim c as (λ _. Bool) [ [] ↦ true | _ ∷ chain ↦ elim chain as (λ _. Bool) [ [] ↦ true | _ ∷ _ ↦ false ] ]) U V) c
      from (by ∷ rest) c = absurd (let l : nat_eq (length M.chain) 1 ≡ nat_eq (suc (suc (length rest))) 1 = ap (λ n. nat_eq n 1) (ap (λ l. length l) k.joined.chain ∙ length-reverse T.chain ∙ ap (λ l. length l) c) in two (length rest) (sym l ∙ b))
        where
          two : (n : ℕ) → nat_eq (suc (suc n)) 1 ≡ true → ⊥
          two n e = let d = Rattle.list_laws.proofs.Tests.eq_true (suc (suc n)) 1 e in omega (arith, d)

  main_apart : runs_main M ≡ false → (U V : TalkWorld) → cond (talk.runs_main T) U V ≡ V
  main_apart b U V = let f = runs_first primitives M k.solid k.waits T true k.joined in from f.0 f.1
    where
      from : (rest : List ℕ) → T.chain ≡ k.waits.coroutine ∷ rest → cond (talk.runs_main T) U V ≡ V
      from [] c = absurd (let l : nat_eq (length M.chain) 1 ≡ nat_eq 1 1 = ap (λ n. nat_eq n 1) (ap (λ l. length l) k.joined.chain ∙ length-reverse T.chain ∙ ap (λ l. length l) c) in let z : true ≡ false = sym (l ∙ Rattle.list_laws.proofs.Tests.eq_refl 1) ∙ b in cc)
      from (by ∷ rest) c = ap (λ c. cond (elim c as (λ _. Bool) [ [] ↦ true | _ ∷ chain ↦ elim chain as (λ _. Bool) [ [] ↦ true | _ ∷ _ ↦ false ] ]) U V) c

  -- nobody catches it
  uncaught : catcher (reverse k.waits.frames) ≡ None → ComesTo (run raised_row [] M) (raised_to codes_run T e [])
  uncaught none = by (runs_main M) refl
    where
      by : (b : Bool) → runs_main M ≡ b → ComesTo (run raised_row [] M) (raised_to codes_run T e [])
      by true b =
          subst (λ U. ComesTo (run raised_row [] M) U) (sym (main_alone b (now_in T (unwinds e)) (fails_all codes_run T e)))
          (subst (λ o. ComesTo o (now_in T (unwinds e))) (sym (seen None none ∙ ap (λ b. run (rows.raised_to (no_top b) 0) [] M) b)) (leaving M.moving e [] moves))
      by false b =
          subst (λ U. ComesTo (run raised_row [] M) U) (sym (main_apart b (now_in T (unwinds e)) (fails_all codes_run T e)))
          (subst (λ o. ComesTo o (fails_all codes_run T e)) (sym (seen None none ∙ ap (λ b. run (rows.raised_to (no_top b) 0) [] M) b))
          (from_gives (run coroutine_fails [] M) (fails_all codes_run T e) (fails_joined primitives M T (record { solid = k.solid; waits = k.waits; resumed = b; joined = k.joined }) e moves)))

  -- a message handler is called on top of all frames
  module _ (h : Value) (at : catcher (reverse k.waits.frames) ≡ Some (xpcall h)) where
    abbrev row : ℕ → Bool → Rattle.machine_core.specs.Moves.Row
    row n room = cond room (then (give_with (read 0 ∷ []) 1) (stop asks)) gives_up

    begins : run raised_row [] M ≡ run (act (push_frame over_handler) row) (h ∷ e ∷ []) N
    begins = seen (Some (xpcall h)) at ∙ ap (λ l. run (act (push_frame over_handler) row) ((h ∷ []) ++ l) N) moves

    pushes : (b : Bool) → nat_le (length k.waits.frames + 1) greatest_depth ≡ b
        → run (act (push_frame over_handler) row) (h ∷ e ∷ []) N ≡ elim (cond b (made {A = Bool} (push N s handler) [] true) (made N [] false)) as (λ _. Outcome) [ None ↦ trapped | Some d ↦ run (row 2 d.told) ((h ∷ e ∷ []) ++ d.values) d.world ]
    pushes b is =
        ap (λ o. elim (cond (elim o as (λ _. Bool) [ None ↦ false | Some s ↦ nat_le (length s.frames + 1) greatest_depth ]) (made {A = Bool} (elim o as (λ _. machine.World) [ None ↦ N | Some s ↦ push N s handler ]) [] true) (made N [] false)) as (λ _. Outcome) [ None ↦ trapped | Some d ↦ run (row 2 d.told) ((h ∷ e ∷ []) ++ d.values) d.world ]) (stack_now primitives M T true k)
        ∙ ap (λ b. elim (cond b (made {A = Bool} (push N s handler) [] true) (made N [] false)) as (λ _. Outcome) [ None ↦ trapped | Some d ↦ run (row 2 d.told) ((h ∷ e ∷ []) ++ d.values) d.world ]) is

    abbrev V : machine.World
    V = record (push M s handler) { moving = h ∷ e ∷ [] }

    is_pushed : run (row 2 true) (h ∷ e ∷ []) (push N s handler) ≡ ends asks V
    unfolding push put_frames
    is_pushed = refl

    abbrev U : TalkWorld
    U = on_frames T (handling ∷ T.frames)

    machine_asks : nat_le (length k.waits.frames + 1) greatest_depth ≡ true → run raised_row [] M ≡ ends asks V
    machine_asks b =
        let pushed_now : run (act (push_frame over_handler) row) (h ∷ e ∷ []) N ≡ run (row 2 true) (h ∷ e ∷ []) (push N s handler) = pushes true b in
        let asked : run (act (push_frame over_handler) row) (h ∷ e ∷ []) N ≡ ends asks V = pushed_now ∙ is_pushed in
        begins ∙ asked

    machine_gives_up : nat_le (length k.waits.frames + 1) greatest_depth ≡ false → run raised_row [] M ≡ run gives_up (h ∷ e ∷ []) N
    machine_gives_up b = let given_up : run (act (push_frame over_handler) row) (h ∷ e ∷ []) N ≡ run gives_up (h ∷ e ∷ []) N = pushes false b in begins ∙ given_up

    refuses_so : refused_under (handling ∷ T.frames) ≡ (λ why V. now_in V (unwinds error_in_handler))
    refuses_so = refl

    talk_asks : nat_le (length k.waits.frames + 1) greatest_depth ≡ true → raised_to codes_run T e (handled_by h ∷ []) ≡ calls_value codes_run U h (e ∷ []) (refused_under (handling ∷ T.frames))
    talk_asks b =
        subst (λ refused. raised_to codes_run T e (handled_by h ∷ []) ≡ calls_value codes_run U h (e ∷ []) refused) (sym refuses_so)
        (cond-true (talk.has_room T) (calls_value codes_run U h (e ∷ []) (λ why V. now_in V (unwinds error_in_handler))) (now_in T (unwinds error_in_handler)) (same_room primitives M T true k true b))

    talk_gives_up : nat_le (length k.waits.frames + 1) greatest_depth ≡ false → raised_to codes_run T e (handled_by h ∷ []) ≡ now_in T (unwinds error_in_handler)
    talk_gives_up b = cond-false (talk.has_room T) (calls_value codes_run U h (e ∷ []) (λ why V. now_in V (unwinds error_in_handler))) (now_in T (unwinds error_in_handler)) (same_room primitives M T true k false b)

    joined : nat_le (length k.waits.frames + 1) greatest_depth ≡ true → Joined false V U
    joined b =
        moved false (push M s handler) U (h ∷ e ∷ [])
        (pushed M T k.waits.coroutine k.waits.frames true k.joined k.waits.running (only primitives M T true k) handler handling refl refl (room_below (length k.waits.frames) greatest_depth b))

    stands_asked : nat_le (length k.waits.frames + 1) greatest_depth ≡ true → Stands asks V (raised_to codes_run T e (handled_by h ∷ []))
    stands_asked b = call_asked V (raised_to codes_run T e (handled_by h ∷ [])) U h (e ∷ []) refl (joined b) (talk_asks b)

    gives_up_so : nat_le (length k.waits.frames + 1) greatest_depth ≡ false → ComesTo (run gives_up (h ∷ e ∷ []) N) (raised_to codes_run T e (handled_by h ∷ []))
    gives_up_so b = subst (λ U. ComesTo (run gives_up (h ∷ e ∷ []) N) U) (sym (talk_gives_up b)) (leaving (error_in_handler ∷ []) error_in_handler (h ∷ e ∷ []) refl)

    by_room : (b : Bool) → nat_le (length k.waits.frames + 1) greatest_depth ≡ b → ComesTo (run raised_row [] M) (raised_to codes_run T e (handled_by h ∷ []))
    by_room true b = record { ending = asks; world = V; is = machine_asks b; stands = stands_asked b }
    by_room false b = subst (λ o. ComesTo o (raised_to codes_run T e (handled_by h ∷ []))) (sym (machine_gives_up b)) (gives_up_so b)

    handled : ComesTo (run raised_row [] M) (raised_to codes_run T e (handled_by h ∷ []))
    handled = by_room (nat_le (length k.waits.frames + 1) greatest_depth) refl

  stopped : (m : Frame) → catcher (reverse k.waits.frames) ≡ Some m → Stops m → ComesTo (run raised_row [] M) (now_in T (unwinds e))
  stopped pcall at is = subst (λ o. ComesTo o (now_in T (unwinds e))) (sym (seen (Some pcall) at)) (leaving M.moving e [] moves)
  stopped handler at is = subst (λ o. ComesTo o (now_in T (unwinds e))) (sym (seen (Some handler) at)) (leaving M.moving e [] moves)
  stopped (machine.closing d us) at is = subst (λ o. ComesTo o (now_in T (unwinds e))) (sym (seen (Some (machine.closing d us)) at)) (leaving M.moving e [] moves)
  stopped _ at is = absurd is

  decided : Catching T e (catcher (reverse k.waits.frames)) (raised_to codes_run T e T.frames) → ComesTo (run raised_row [] M) (raised_to codes_run T e T.frames)
  decided (nobody at is) = subst (λ U. ComesTo (run raised_row [] M) U) (sym is) (uncaught at)
  decided (by_handler h at is) = subst (λ U. ComesTo (run raised_row [] M) U) (sym is) (handled h at)
  decided (by_other m at stops is) = subst (λ U. ComesTo (run raised_row [] M) U) (sym is) (stopped m at stops)

pub errors_raised : ErrorsRaised
errors_raised primitives M T k e moves = decided primitives M T k e moves (catching primitives M T k e moves)
