-- What is asked for is called, in a step of its own: a function is entered, a primitive is called, nothing is left to pay with, or the call is refused.
use Rattle.std.proofs.Common.{ℕ, zero, suc, ◌+◌, ◌<◌, ◌≡◌, List, [], ◌∷◌, ◌++◌, length, Option, Some, None, refl, sym, ap, subst, ◌∙◌, arith, Bool, true, false, cond}
use Rattle.std.specs.Prelude.{slice_get, nat_le}
use Rattle.int_core.specs.Value.{Value, known, object, primitive, a_function, bind, last}
use Rattle.int_core.specs.Operations.{Callee, callee, not_callable, callee_of, greatest_chain}
use Rattle.int_core.specs.Limits.{greatest_depth, stack_overflow}
use Rattle.list_laws.specs.Held.{Held}
use Rattle.machine_core.specs.World as machine
use Rattle.machine_core.specs.World.{Frame, lua, pcall, xpcall, handler, Stack, push}
use Rattle.machine_core.specs.Text.{read}
use Rattle.machine_core.specs.Moves.{Made, made, call_value, CallShape, is_entered, not_paid, not_entered, TopShape, top_shape, enters, enters_paid, called, new_frame, has_room, push_all, blamed, go, calls_primitive, spent, raised, unwinding, Outcome, trapped, act, run}
use Rattle.machine_core.specs.FrameRows.{asked_row, after_asked, refused_under as machine_refuses, gives_up, blames}
use Rattle.machine_core.specs.Talk.{talk_start}
use Rattle.lua_meaning.specs.World as talk
use Rattle.lua_meaning.specs.World.{talking, talks, now_in, raises_text, raises_error, unwinds, handling, protected, handled_by}
use Rattle.lua_meaning.specs.Calls as calls
use Rattle.lua_meaning.specs.Calls.{pays_for, error_in_handler}
use Rattle.code_means.specs.Runs.{codes_run}
use Rattle.machine_means.specs.Joined.{TalkFrame, TalkWorld, Dressed, Pair, Joined}
use Rattle.machine_means.specs.Works.{Works}
use Rattle.machine_means.specs.Stands.{refused_under, Stands, call_asked, error_raised, error_leaves, primitive_called, budget_spent, code_runs, ComesTo, AtRest, IsLua, AskedSteps}
use Rattle.machine_means.proofs.Pending.{both_first}
use Rattle.machine_means.proofs.Rejoined.{rejoined}
use Rattle.machine_means.proofs.Handing.{told_now}
use Rattle.machine_means.proofs.Loosened.{loosened}
use Rattle.machine_means.proofs.AtRest.{stack_now, only, top}
use Rattle.machine_means.proofs.Raising.{blamed_same, same_room}
use Rattle.machine_means.proofs.Entered.{works}

-- nothing that joins the worlds looks at what moves, and both have paid the same
pub paid : (M : machine.World) (T : TalkWorld) (lax : Bool) (fuel : ℕ) (mv : List Value) → Joined lax M T → Joined lax (record M { fuel = fuel; moving = mv }) (record T { fuel = fuel })
paid M T lax fuel mv k = rejoined lax lax M T k M.cells M.coroutines M.chain mv fuel T.cells T.coroutines T.chain T.frames T.now fuel k.held refl k.chain k.cells k.coroutines

pub room_over : (n d : ℕ) → nat_le (n + 1) d ≡ true → n < d
room_over n d e = grind (arith, Rattle.std.proofs.lemmas.Bool.Decides.nat_tests)

module _ (primitives : ℕ) (M : machine.World) (U : TalkWorld) (k : AtRest primitives false M U) (no_lua : (m : Frame) → last k.waits.frames ≡ Some m → IsLua m → ⊥) where
  abbrev s : Stack
  s = record { coroutine = k.waits.coroutine; frames = k.waits.frames }

  abbrev after : ℕ → List Value → machine.World
  after fuel mv = record M { fuel = fuel; moving = mv }

  abbrev told : ℕ → TalkWorld
  told fuel = record U { fuel = fuel }

  -- what a call comes to goes on so
  abbrev asked_by : List Value → Option (Made CallShape) → Outcome
  asked_by env m = elim m as (λ _. Outcome) [ None ↦ trapped | Some d ↦ run (after_asked d.told) (env ++ d.values) d.world ]

  -- a refusal
  raising_paid : (text : List ℕ) (fuel : ℕ) (env mv : List Value) → ComesTo (run (blames text) env (after fuel mv)) (raises_text (told fuel) text)
  raising_paid text fuel env mv =
      let W : machine.World = after fuel (blamed M text ∷ []) in
      record {
        ending = raised;
        world = W;
        is = refl;
        stands = error_raised W (raises_text (told fuel) text) (talk.blamed U text) (ap (λ e. e ∷ []) (blamed_same primitives M U false k text)) refl
            (told_now true W (told fuel) (raises_error (talk.blamed U text)) (paid M U true fuel (blamed M text ∷ []) (loosened true M U k.joined)));
      }

  giving_up : (fuel : ℕ) (env mv : List Value) → ComesTo (run gives_up env (after fuel mv)) (now_in (told fuel) (unwinds error_in_handler))
  giving_up fuel env mv =
      let W : machine.World = after fuel (error_in_handler ∷ []) in
      record {
        ending = unwinding;
        world = W;
        is = refl;
        stands = error_leaves W (now_in (told fuel) (unwinds error_in_handler)) error_in_handler refl refl
            (told_now true W (told fuel) (unwinds error_in_handler) (paid M U true fuel (error_in_handler ∷ []) (loosened true M U k.joined)));
      }

  seen : (text : List ℕ) (fuel : ℕ) (env mv : List Value) (o : Option Frame) → last k.waits.frames ≡ o → run (after_asked (not_entered text)) env (after fuel mv) ≡ run (machine_refuses (top_shape (after fuel mv) o) text) (env ++ []) (after fuel mv)
  seen text fuel env mv o e =
      ap (λ o. elim (bind (bind o (λ s. Some (top_shape (after fuel mv) (last s.frames)))) (λ top. made {A = TopShape} (after fuel mv) [] top)) as (λ _. Outcome) [ None ↦ trapped | Some d ↦ run (machine_refuses d.told text) (env ++ d.values) d.world ]) (stack_now primitives M U false k)
      ∙ ap (λ o. run (machine_refuses (top_shape (after fuel mv) o) text) (env ++ []) (after fuel mv)) e

  -- by the frame on top of both
  by_top : (text : List ℕ) (fuel : ℕ) (env mv : List Value) (m : Frame) → last k.waits.frames ≡ Some m → (t : TalkFrame) (ts : List TalkFrame) (h : Held) → Pair false M.functions U.cells m t h
      → ComesTo (run (machine_refuses (top_shape (after fuel mv) (Some m)) text) (env ++ []) (after fuel mv)) (refused_under (t ∷ ts) text (told fuel))
  by_top text fuel env mv (lua fr) e t ts h p = absurd (no_lua (lua fr) e tt)
  by_top text fuel env mv pcall e protected ts h p = raising_paid text fuel (env ++ []) mv
  by_top text fuel env mv (xpcall v) e (handled_by u) ts h p = raising_paid text fuel (env ++ []) mv
  by_top text fuel env mv handler e handling ts h p = giving_up fuel (env ++ []) mv
  by_top text fuel env mv (machine.closing d us) e (talk.closing d' ws) ts h p = raising_paid text fuel (env ++ []) mv
  by_top text fuel env mv _ e _ ts h p = absurd p

  pub refused : (text : List ℕ) (fuel : ℕ) (env mv : List Value) → ComesTo (run (after_asked (not_entered text)) env (after fuel mv)) (refused_under U.frames text (told fuel))
  refused text fuel env mv = from (last k.waits.frames) refl
    where
      from : (o : Option Frame) → last k.waits.frames ≡ o → ComesTo (run (after_asked (not_entered text)) env (record M { fuel = fuel; moving = mv })) (refused_under U.frames text (record U { fuel = fuel }))
      from None e =
          let none = Rattle.machine_means.proofs.Steps.none_last k.waits.frames e in
          let empty = Rattle.machine_means.proofs.Steps.no_talks primitives M U k.solid k.waits false k.joined none in
          subst (λ o. ComesTo o (refused_under U.frames text (told fuel))) (sym (seen text fuel env mv None e))
          (subst (λ ts. ComesTo (run (blames text) (env ++ []) (after fuel mv)) (refused_under ts text (told fuel))) (sym empty) (raising_paid text fuel (env ++ []) mv))
      from (Some m) e =
          let x = top primitives M U false k m e in
          subst (λ o. ComesTo o (refused_under U.frames text (told fuel))) (sym (seen text fuel env mv (Some m) e))
          (subst (λ ts. ComesTo (run (machine_refuses (top_shape (after fuel mv) (Some m)) text) (env ++ []) (after fuel mv)) (refused_under ts text (told fuel))) (sym x.talks_are) (by_top text fuel env mv m e x.t x.ts x.h x.pair))

  dressed : (n : ℕ) (f : machine.Function) → slice_get M.functions n ≡ Some f → (g : talk.Function Rattle.code_core.specs.Prototype.Prototype) × (slice_get U.functions n ≡ Some g) × Dressed f g
  dressed n f there = both_first Dressed f (slice_get M.functions n) (slice_get U.functions n) there (k.joined.functions n)

  -- a function is entered
  module _ (n : ℕ) (f : machine.Function) (there : slice_get M.functions n ≡ Some f) (vs : List Value) (fuel : ℕ) (room : nat_le (length k.waits.frames + 1) greatest_depth ≡ true) where
    abbrev entered : machine.World
    entered = push (after fuel []) s (new_frame n f.code vs)

    abbrev talks_so : TalkWorld
    talks_so = record U { fuel = fuel; frames = talking n (talk_start f.code vs) ∷ U.frames; now = talks }

    works_so : Works entered talks_so
    works_so = works M U k.waits.coroutine k.waits.frames k.joined k.waits.running (only primitives M U false k) n f there vs fuel (room_over (length k.waits.frames) greatest_depth room) []

    entering : (env : List Value) → ComesTo (run (after_asked is_entered) env entered) (calls.enters_function codes_run (told fuel) n (slice_get U.functions n) vs (refused_under U.frames))
    entering env =
        let g = dressed n f there in
        let says : calls.enters_function codes_run (told fuel) n (slice_get U.functions n) vs (refused_under U.frames) ≡ talks_so =
        ap (λ o. calls.enters_function codes_run (told fuel) n o vs (refused_under U.frames)) g.1
        ∙ ap (λ b. cond b (record U { fuel = fuel; frames = talking n (talk_start g.0.made_of vs) ∷ U.frames; now = talks }) (refused_under U.frames stack_overflow (told fuel))) (same_room primitives M U false k true room)
        ∙ ap (λ p. record U { fuel = fuel; frames = talking n (talk_start p vs) ∷ U.frames; now = talks }) g.2.code in
        record { ending = go; world = entered; is = refl; stands = subst (λ V. Stands go entered V) (sym says) (code_runs entered talks_so works_so) }

  -- a function is called, by what stands at its number
  module _ (n : ℕ) (vs : List Value) (fuel : ℕ) (env : List Value) where
    abbrev asked_for : Outcome
    asked_for = asked_by env (enters (after fuel []) (object a_function n) vs)

    abbrev answered_so : TalkWorld
    answered_so = calls.enters_function codes_run (told fuel) n (slice_get U.functions n) vs (refused_under U.frames)

    abbrev by_function : Option machine.Function → Option (Made CallShape)
    by_function o = bind o (λ f. cond (has_room (after fuel []) 1) (made (push_all (after fuel []) (new_frame n f.code vs ∷ [])) [] is_entered) (made (after fuel []) [] (not_entered stack_overflow)))

    abbrev by_stack : machine.Function → Option Stack → Option (Made CallShape)
    by_stack f o = cond (elim o as (λ _. Bool) [ None ↦ false | Some s ↦ nat_le (length s.frames + 1) greatest_depth ]) (made {A = CallShape} (elim o as (λ _. machine.World) [ None ↦ after fuel [] | Some s ↦ push (after fuel []) s (new_frame n f.code vs) ]) [] is_entered) (made (after fuel []) [] (not_entered stack_overflow))

    abbrev by_room : machine.Function → Bool → Option (Made CallShape)
    by_room f b = cond b (made {A = CallShape} (push (after fuel []) s (new_frame n f.code vs)) [] is_entered) (made (after fuel []) [] (not_entered stack_overflow))

    looked : (f : machine.Function) → slice_get M.functions n ≡ Some f → (b : Bool) → nat_le (length k.waits.frames + 1) greatest_depth ≡ b → asked_for ≡ asked_by env (by_room f b)
    looked f there b r = ap (λ o. asked_by env (by_function o)) there ∙ ap (λ o. asked_by env (by_stack f o)) (stack_now primitives M U false k) ∙ ap (λ b. asked_by env (by_room f b)) r

    in_room : (f : machine.Function) → slice_get M.functions n ≡ Some f → (b : Bool) → nat_le (length k.waits.frames + 1) greatest_depth ≡ b → ComesTo asked_for answered_so
    in_room f there true r = subst (λ o. ComesTo o answered_so) (sym (looked f there true r)) (entering n f there vs fuel r (env ++ []))
    in_room f there false r =
        let g = dressed n f there in
        let says : answered_so ≡ refused_under U.frames stack_overflow (told fuel) =
        ap (λ o. calls.enters_function codes_run (told fuel) n o vs (refused_under U.frames)) g.1
        ∙ ap (λ b. cond b (record U { fuel = fuel; frames = talking n (talk_start g.0.made_of vs) ∷ U.frames; now = talks }) (refused_under U.frames stack_overflow (told fuel))) (same_room primitives M U false k false r) in
        subst (λ o. ComesTo o answered_so) (sym (looked f there false r))
        (subst (λ V. ComesTo (run (after_asked (not_entered stack_overflow)) (env ++ []) (after fuel [])) V) (sym says) (refused stack_overflow fuel (env ++ []) []))

    function_called : (o : Option machine.Function) → slice_get M.functions n ≡ o → (asked_for ≡ trapped → ⊥) → ComesTo asked_for answered_so
    function_called None e ok = absurd (ok (ap (λ o. asked_by env (by_function o)) e))
    function_called (Some f) e ok = in_room f e (nat_le (length k.waits.frames + 1) greatest_depth) refl

  -- whoever is called has been paid for
  entered_by : (f : Value) (vs : List Value) (fuel : ℕ) (env : List Value) → (asked_by env (enters (after fuel []) f vs) ≡ trapped → ⊥) → ComesTo (asked_by env (enters (after fuel []) f vs)) (calls.enters codes_run (told fuel) f vs (refused_under U.frames))
  entered_by (known (primitive n)) vs fuel env ok =
      let W : machine.World = after fuel vs in
      record { ending = calls_primitive n; world = W; is = refl; stands = primitive_called n W (now_in (told fuel) (talk.calls_primitive n vs)) refl (told_now false W (told fuel) (talk.calls_primitive n vs) (paid M U false fuel vs k.joined)) }
  entered_by (object a_function n) vs fuel env ok = function_called n vs fuel env (slice_get M.functions n) refl ok
  entered_by _ vs fuel env ok = absurd (ok refl)

  -- a callee that can be called is paid for, by what is left
  abbrev machine_pays : Value → List Value → List Value → ℕ → Outcome
  machine_pays f vs env n = asked_by env (elim n as (λ _. Option (Made CallShape)) [ zero ↦ made {A = CallShape} (after M.fuel []) [] not_paid | suc fuel ↦ enters (after fuel []) f vs ])

  abbrev talk_pays : Value → List Value → ℕ → TalkWorld
  talk_pays f vs n = calls.pays_with codes_run n (told M.fuel) f vs (refused_under U.frames)

  paid_by : (f : Value) (vs env : List Value) (n : ℕ) → M.fuel ≡ n → (machine_pays f vs env n ≡ trapped → ⊥) → ComesTo (machine_pays f vs env n) (talk_pays f vs n)
  paid_by f vs env zero e ok = record { ending = spent; world = after M.fuel []; is = refl; stands = budget_spent (after M.fuel []) (now_in (told M.fuel) (talk.ends talk.spent)) refl }
  paid_by f vs env (suc n) e ok = entered_by f vs n env ok

  -- what is called, which `callee_of` found
  by_callee : (c : Callee) (env : List Value) → (asked_by env (enters_paid (after M.fuel []) (after M.fuel []) c) ≡ trapped → ⊥) → ComesTo (asked_by env (enters_paid (after M.fuel []) (after M.fuel []) c)) (pays_for codes_run (told M.fuel) c (refused_under U.frames))
  by_callee (not_callable text) env ok = refused text M.fuel (env ++ []) []
  by_callee (callee f vs) env ok = paid_by f vs env M.fuel refl ok

  pub calling : (f : Value) (vs : List Value) → M.moving ≡ f ∷ vs → (run asked_row [] M ≡ trapped → ⊥) → ComesTo (run asked_row [] M) (calls.calls_value codes_run U f vs (refused_under U.frames))
  calling f vs moves ok =
      let begins : run asked_row [] M ≡ asked_by (f ∷ vs) (called (after M.fuel []) (after M.fuel []) f vs) = ap (λ l. run (act (call_value (read 0) 1) (λ _ told. after_asked told)) l (after M.fuel [])) moves in
      let fuel : told M.fuel ≡ U = ap (λ n. record U { fuel = n }) k.joined.fuel in
      let says : calls.calls_value codes_run U f vs (refused_under U.frames) ≡ pays_for codes_run (told M.fuel) (callee_of greatest_chain M.heap f vs) (refused_under U.frames) =
      ap (λ H. pays_for codes_run U (callee_of greatest_chain H f vs) (refused_under U.frames)) (sym k.joined.heap)
      ∙ ap (λ (V : TalkWorld). pays_for codes_run V (callee_of greatest_chain M.heap f vs) (refused_under U.frames)) (sym fuel) in
      subst (λ o. ComesTo o (calls.calls_value codes_run U f vs (refused_under U.frames))) (sym begins)
      (subst (λ T. ComesTo (asked_by (f ∷ vs) (called (after M.fuel []) (after M.fuel []) f vs)) T) (sym says) (by_callee (callee_of greatest_chain M.heap f vs) (f ∷ vs) (λ z. ok (begins ∙ z))))

pub asked_steps : AskedSteps
asked_steps primitives M T solid waits no_lua (call_asked _ _ U f vs moves k is) ok =
    subst (λ V. ComesTo (run asked_row [] M) V) (sym is) (calling primitives M U (record { solid = solid; waits = waits; joined = k }) no_lua f vs moves ok)
asked_steps primitives M T solid waits no_lua (Rattle.machine_means.specs.Stands.results_come _ _ _ reached now k) ok = absurd (Rattle.machine_means.proofs.Steps.not_asks primitives M T solid waits k reached)
