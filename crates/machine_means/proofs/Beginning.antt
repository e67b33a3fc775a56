-- A coroutine that has not begun is resumed: its function runs, or the primitive that it is made of is called.
use Rattle.std.proofs.Common.{ℕ, ◌+◌, ◌≡◌, ◌≢◌, ⊎_elim, List, [], ◌∷◌, ◌++◌, length, Option, Some, None, refl, sym, ap, subst, ◌∙◌, arith, Bool, true, false, cond}
use Rattle.std.specs.Prelude.{slice_get, slice_set, nat_le, nat_lt, codes}
use Rattle.std.proofs.lemmas.Bool.{cases_eq, cond-true, cond-false}
use Rattle.std.proofs.lemmas.List.{length-reverse}
use Rattle.int_core.specs.Value.{Value, known, object, primitive, a_function, a_coroutine, bind}
use Rattle.int_core.specs.Limits.{greatest_depth, greatest_resumes, stack_overflow}
use Rattle.list_laws.proofs.Ends.{last_is}
use Rattle.list_laws.proofs.Items.{append_nil, get_set_same, get_set_other}
use Rattle.machine_core.specs.World as machine
use Rattle.machine_core.specs.World.{Frame, fresh, in_progress, normal, Stack, stack_of, push, put_frames}
use Rattle.machine_core.specs.Text.{read}
use Rattle.machine_core.specs.Moves as moves
use Rattle.machine_core.specs.Moves.{Made, made, resume, ResumeShape, resumed, CallShape, is_entered, not_entered, enters, new_frame, has_room, push_all, put_coroutine, wait_for_another, go_into, go, calls_primitive, Outcome, trapped, ends, act, run}
use Rattle.machine_core.specs.FrameRows.{hand_over}
use Rattle.machine_core.specs.MachineStep.{resume_row, after_resume}
use Rattle.machine_core.specs.Talk.{talk_start}
use Rattle.lua_meaning.specs.World as talk
use Rattle.lua_meaning.specs.World.{talking, talks, now_in, raises_text}
use Rattle.lua_meaning.specs.Calls as calls
use Rattle.lua_meaning.specs.Calls.{refuses, goes_into, goes_along}
use Rattle.code_means.specs.Runs.{codes_run}
use Rattle.machine_sound.proofs.Frames.{stack_is}
use Rattle.machine_means.specs.Joined.{TalkWorld, Dressed, Stacks, Joined}
use Rattle.machine_means.specs.Works.{Works}
use Rattle.machine_means.specs.Stands.{Stands, primitive_called, code_runs, ComesTo, AtRest, CoroutinesBegin}
use Rattle.machine_means.proofs.Pending.{both_first}
use Rattle.machine_means.proofs.Switches.{OnlyRuns}
use Rattle.machine_means.proofs.Running.{runs_first}
use Rattle.machine_means.proofs.Handing.{hand_over_is, told_now}
use Rattle.machine_means.proofs.AtRest.{only, from_gives}
use Rattle.machine_means.proofs.Resuming.{fresh_held, joined_into}
use Rattle.machine_means.proofs.Resumed.{begins, move_is, refusal, told_is}
use Rattle.machine_means.proofs.Entered.{works}

room_at_first : nat_le (0 + 1) greatest_depth ≡ true
room_at_first = refl

module _ (primitives : ℕ) (M : machine.World) (T : TalkWorld) (k : AtRest primitives false M T) (co : ℕ) (vs : List Value) (body : Value) (there : slice_get M.coroutines co ≡ Some (fresh body)) where
  abbrev N : machine.World
  N = record M { moving = [] }

  abbrev s : Stack
  s = record { coroutine = k.waits.coroutine; frames = k.waits.frames }

  abbrev env : List Value
  env = object a_coroutine co ∷ (vs ++ [])

  abbrev begun : Outcome
  begun = run (act (resume (read 0) 1) (λ _ told. after_resume told)) env N

  abbrev resumed_there : TalkWorld
  resumed_there = calls.resumes codes_run T co (talk.fresh body) vs

  abbrev beside : List machine.Coroutine
  beside = slice_set M.coroutines k.waits.coroutine (normal k.waits.frames)

  -- the machine once it goes into the coroutine
  abbrev gone : List Value → machine.World
  gone mv = record M { coroutines = slice_set (slice_set M.coroutines k.waits.coroutine (normal k.waits.frames)) co (in_progress []); chain = M.chain ++ co ∷ []; moving = mv }

  apart : k.waits.coroutine ≢ co
  apart q = let x : Some (in_progress k.waits.frames) ≡ Some (fresh body) = sym k.waits.running ∙ ap (slice_get M.coroutines) q ∙ there in cc

  runs_now : slice_get (slice_set (slice_set M.coroutines k.waits.coroutine (normal k.waits.frames)) co (in_progress [])) co ≡ Some (in_progress [])
  runs_now = get_set_same beside co (fresh body) (in_progress []) (get_set_other M.coroutines k.waits.coroutine co (normal k.waits.frames) apart ∙ there)

  others : (j : ℕ) (fr : List Frame) → slice_get (slice_set M.coroutines k.waits.coroutine (normal k.waits.frames)) j ≡ Some (in_progress fr) → ⊥
  others j fr e = ⊎_elim
      (λ (q : k.waits.coroutine ≡ j). let z : Some (normal k.waits.frames) ≡ Some (in_progress fr) = sym (ap (slice_get beside) (sym q) ∙ get_set_same M.coroutines k.waits.coroutine (in_progress k.waits.frames) (normal k.waits.frames) k.waits.running) ∙ e in cc)
      (λ q. q (sym (only primitives M T false k j fr (sym (get_set_other M.coroutines k.waits.coroutine j (normal k.waits.frames) q) ∙ e))))
      (cases_eq k.waits.coroutine j)

  alone : OnlyRuns (slice_set (slice_set M.coroutines k.waits.coroutine (normal k.waits.frames)) co (in_progress [])) co
  alone j fr e = ⊎_elim (λ (q : co ≡ j). sym q) (λ q. absurd (others j fr (sym (get_set_other beside co j (in_progress []) q) ∙ e))) (cases_eq co j)

  stack_gone : (mv : List Value) → stack_of (gone mv) ≡ Some (record { coroutine = co; frames = [] })
  stack_gone mv = stack_is (gone mv) co [] (last_is M.chain co) runs_now

  -- what its call comes to goes on so
  abbrev entered_so : Option (Made CallShape) → Outcome
  entered_so m = elim (bind {B = Made ResumeShape} m (λ d. made d.world [] (resumed d.told))) as (λ _. Outcome) [ None ↦ trapped | Some d ↦ run (after_resume d.told) (env ++ d.values) d.world ]

  started : nat_lt greatest_resumes (length M.chain) ≡ false → moves.resumes N s co (fresh body) vs ≡ bind {B = Made ResumeShape} (enters (gone []) body vs) (λ d. made d.world [] (resumed d.told))
  unfolding put_coroutine wait_for_another go_into
  started l = ap (λ b. cond b (made {A = ResumeShape} N [] (moves.refused (codes "too many nested resumes"))) (bind {B = Made ResumeShape} (enters (gone []) body vs) (λ d. made d.world [] (resumed d.told)))) l

  begun_is : nat_lt greatest_resumes (length M.chain) ≡ false → begun ≡ entered_so (enters (gone []) body vs)
  begun_is l =
      ap (λ m. elim m as (λ _. Outcome) [ None ↦ trapped | Some d ↦ run (after_resume d.told) (env ++ d.values) d.world ])
      (move_is primitives M T k.solid k.waits k.joined co vs (fresh body) there ∙ ap (moves.resumes N s co (fresh body)) (append_nil vs) ∙ started l)

  -- the other world, which goes into it too
  module _ (rest : List ℕ) (chain : T.chain ≡ k.waits.coroutine ∷ rest) where
    abbrev U : TalkWorld
    U = record T { coroutines = slice_set (slice_set T.coroutines k.waits.coroutine (talk.normal T.frames)) co talk.running; chain = co ∷ k.waits.coroutine ∷ rest; frames = [] }

    none_held : Stacks false M.functions T.cells [] [] []
    none_held = record { ms = []; listed = refl; below = tt; depth = omega arith }

    joined : (mv : List Value) → Joined false (gone mv) U
    joined mv =
        let h = fresh_held M T k.joined co body there in
        joined_into M T k.waits.coroutine co rest chain apart k.waits.frames [] [] k.joined k.waits.running (only primitives M T false k) (fresh body) (talk.fresh body) there h.0 [] h.1 none_held mv

    -- its function runs
    module _ (n : ℕ) (f : machine.Function) (at : slice_get M.functions n ≡ Some f) where
      abbrev V : machine.World
      V = push (gone []) (record { coroutine = co; frames = [] }) (new_frame n f.code vs)

      abbrev talks_so : TalkWorld
      talks_so = record U { fuel = M.fuel; frames = talking n (talk_start f.code vs) ∷ []; now = talks }

      stack_entered : stack_of V ≡ Some (record { coroutine = co; frames = new_frame n f.code vs ∷ [] })
      unfolding push put_frames
      stack_entered =
          stack_is (record (gone []) { coroutines = slice_set (slice_set beside co (in_progress [])) co (in_progress (new_frame n f.code vs ∷ [])) }) co (new_frame n f.code vs ∷ []) (last_is M.chain co)
          (get_set_same (slice_set beside co (in_progress [])) co (in_progress []) (in_progress (new_frame n f.code vs ∷ [])) runs_now)

      works_so : Works V talks_so
      works_so = works (gone []) U co [] (joined []) runs_now alone n f at vs M.fuel (omega arith) []

      hands : run hand_over (env ++ []) V ≡ ends go V
      hands = hand_over_is V (record { coroutine = co; frames = new_frame n f.code vs ∷ [] }) (env ++ []) stack_entered

      says : calls.enters codes_run U (object a_function n) vs (λ why V. raises_text V why) ≡ talks_so
      says =
          let g = both_first Dressed f (slice_get M.functions n) (slice_get T.functions n) at (k.joined.functions n) in
          let found : calls.enters codes_run U (object a_function n) vs (λ why V. raises_text V why) ≡ record U { frames = talking n (talk_start g.0.made_of vs) ∷ []; now = talks } = ap (λ o. calls.enters_function codes_run U n o vs (λ why V. raises_text V why)) g.1 in
          let same_code : record U { frames = talking n (talk_start g.0.made_of vs) ∷ []; now = talks } ≡ record U { frames = talking n (talk_start f.code vs) ∷ []; now = talks } = ap (λ p. record U { frames = talking n (talk_start p vs) ∷ []; now = talks }) g.2.code in
          let same_fuel : record U { frames = talking n (talk_start f.code vs) ∷ []; now = talks } ≡ talks_so = ap (λ m. record U { fuel = m; frames = talking n (talk_start f.code vs) ∷ []; now = talks }) (sym k.joined.fuel) in
          found ∙ same_code ∙ same_fuel

      abbrev by_stack : Option Stack → Option (Made CallShape)
      by_stack o = cond (elim o as (λ _. Bool) [ None ↦ false | Some s ↦ nat_le (length s.frames + 1) greatest_depth ]) (made {A = CallShape} (elim o as (λ _. machine.World) [ None ↦ gone [] | Some s ↦ push (gone []) s (new_frame n f.code vs) ]) [] is_entered) (made (gone []) [] (not_entered stack_overflow))

      abbrev by_room : Bool → Option (Made CallShape)
      by_room b = cond b (made {A = CallShape} (push (gone []) (record { coroutine = co; frames = [] }) (new_frame n f.code vs)) [] is_entered) (made (gone []) [] (not_entered stack_overflow))

      looked : entered_so (by_stack (stack_of (gone []))) ≡ run hand_over (env ++ []) V
      looked =
          let stood : entered_so (by_stack (stack_of (gone []))) ≡ entered_so (by_room (nat_le (0 + 1) greatest_depth)) = ap (λ o. entered_so (by_stack o)) (stack_gone []) in
          let roomy : entered_so (by_room (nat_le (0 + 1) greatest_depth)) ≡ run hand_over (env ++ []) V = ap (λ b. entered_so (by_room b)) room_at_first in
          stood ∙ roomy

      runs_then : ComesTo (entered_so (by_stack (stack_of (gone [])))) (calls.enters codes_run U (object a_function n) vs (λ why V. raises_text V why))
      runs_then = record { ending = go; world = V; is = looked ∙ hands; stands = subst (λ X. Stands go V X) (sym says) (code_runs V talks_so works_so) }

    abbrev by_function : ℕ → Option machine.Function → Option (Made CallShape)
    by_function n o = bind o (λ f. cond (has_room (gone []) 1) (made (push_all (gone []) (new_frame n f.code vs ∷ [])) [] is_entered) (made (gone []) [] (not_entered stack_overflow)))

    function_begins : (n : ℕ) (o : Option machine.Function) → slice_get M.functions n ≡ o → (entered_so (enters (gone []) (object a_function n) vs) ≡ trapped → ⊥)
        → ComesTo (entered_so (enters (gone []) (object a_function n) vs)) (calls.enters codes_run U (object a_function n) vs (λ why V. raises_text V why))
    function_begins n None e ok = absurd (ok (ap (λ o. entered_so (by_function n o)) e))
    function_begins n (Some f) e ok =
        let seen : entered_so (enters (gone []) (object a_function n) vs) ≡ entered_so (by_stack n f e (stack_of (gone []))) = ap (λ o. entered_so (by_function n o)) e in
        subst (λ o. ComesTo o (calls.enters codes_run U (object a_function n) vs (λ why V. raises_text V why))) (sym seen) (runs_then n f e)

    entered_by : (b : Value) → (entered_so (enters (gone []) b vs) ≡ trapped → ⊥) → ComesTo (entered_so (enters (gone []) b vs)) (calls.enters codes_run U b vs (λ why V. raises_text V why))
    entered_by (known (primitive n)) ok =
        record { ending = calls_primitive n; world = gone vs; is = refl; stands = primitive_called n (gone vs) (now_in U (talk.calls_primitive n vs)) refl (told_now false (gone vs) U (talk.calls_primitive n vs) (joined vs)) }
    entered_by (object a_function n) ok = function_begins n (slice_get M.functions n) refl ok
    entered_by _ ok = absurd (ok refl)

    talk_begins : nat_lt greatest_resumes (length T.chain) ≡ false → resumed_there ≡ calls.enters codes_run U body vs (λ why V. raises_text V why)
    talk_begins l =
        let not_refused : resumed_there ≡ calls.enters codes_run (goes_into T co []) body vs (λ why V. raises_text V why) = cond-false (nat_lt greatest_resumes (length T.chain)) (refuses T (codes "too many nested resumes")) (calls.enters codes_run (goes_into T co []) body vs (λ why V. raises_text V why)) l in
        let into : goes_into T co [] ≡ U = ap (goes_along T co []) chain in
        let there_now : calls.enters codes_run (goes_into T co []) body vs (λ why V. raises_text V why) ≡ calls.enters codes_run U body vs (λ why V. raises_text V why) = ap (λ (V : TalkWorld). calls.enters codes_run V body vs (λ why V. raises_text V why)) into in
        not_refused ∙ there_now

  same_length : length M.chain ≡ length T.chain
  same_length = ap (λ l. length l) k.joined.chain ∙ length-reverse T.chain

  by_resumes : (b : Bool) → nat_lt greatest_resumes (length M.chain) ≡ b → (begun ≡ trapped → ⊥) → ComesTo begun resumed_there
  by_resumes true l ok =
      let n : nat_lt greatest_resumes (length T.chain) ≡ true = ap (nat_lt greatest_resumes) (sym same_length) ∙ l in
      let says : resumed_there ≡ refuses T (codes "too many nested resumes") = cond-true (nat_lt greatest_resumes (length T.chain)) (refuses T (codes "too many nested resumes")) (calls.enters codes_run (goes_into T co []) body vs (λ why V. raises_text V why)) n in
      let refused_so : moves.resumes N s co (fresh body) (vs ++ []) ≡ made {A = ResumeShape} N [] (moves.refused (codes "too many nested resumes")) =
      ap (λ b. cond b (made {A = ResumeShape} N [] (moves.refused (codes "too many nested resumes"))) (moves.starts_in (wait_for_another N s) co (fresh body) (vs ++ []))) l in
      subst (λ X. ComesTo begun X) (sym says) (from_gives begun (refuses T (codes "too many nested resumes")) (refusal primitives M T k.solid k.waits k.joined co vs (codes "too many nested resumes") (fresh body) there refused_so))
  by_resumes false l ok =
      let n : nat_lt greatest_resumes (length T.chain) ≡ false = ap (nat_lt greatest_resumes) (sym same_length) ∙ l in
      let f = runs_first primitives M k.solid k.waits T false k.joined in
      subst (λ X. ComesTo begun X) (sym (talk_begins f.0 f.1 n))
      (subst (λ o. ComesTo o (calls.enters codes_run (U f.0 f.1) body vs (λ why V. raises_text V why))) (sym (begun_is l)) (entered_by f.0 f.1 body (λ z. ok (begun_is l ∙ z))))

pub coroutines_begin : CoroutinesBegin
coroutines_begin builds primitives M T k co vs moves body there ok =
    let h = fresh_held M T k.joined co body there in
    let started : run resume_row [] M ≡ begun primitives M T k co vs body there = begins primitives M T k.solid k.waits k.joined co vs moves in
    subst (λ U. ComesTo (run resume_row [] M) U) (sym (told_is primitives M T k.solid k.waits k.joined co vs builds (talk.fresh body) h.0))
    (subst (λ o. ComesTo o (calls.resumes codes_run T co (talk.fresh body) vs)) (sym started) (by_resumes primitives M T k co vs body there (nat_lt greatest_resumes (length M.chain)) refl (λ z. ok (started ∙ z))))
