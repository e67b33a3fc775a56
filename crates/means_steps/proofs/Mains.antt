-- The main coroutine ends a turn: it yields, returns or fails.
use Rattle.code_core.specs.Prototype.{Prototype}
use Rattle.lua_meaning.specs.Step.{Primitives}
use Rattle.std.proofs.Common.{ℕ, ◌≡◌, List, [], ◌∷◌, ◌++◌, length, Option, Some, None, refl, sym, ap, subst, ◌∙◌, arith, Bool, true, false, cond}
use Rattle.std.specs.Prelude.{slice_get, slice_set, nat_eq, reverse, flat_map}
use Rattle.std.proofs.lemmas.List.{length-reverse}
use Rattle.int_core.specs.Value.{Value, bind, last, without_last}
use Rattle.list_laws.proofs.Ends.{without_last_is}
use Rattle.list_laws.proofs.Items.{get_set_same, some_same}
use Rattle.list_laws.proofs.Tests.{eq_true}
use Rattle.machine_core.specs.World as machine
use Rattle.machine_core.specs.World.{Cell, Frame, Coroutine, suspended, in_progress, dead, failed, stack_of}
use Rattle.machine_core.specs.Text.{read}
use Rattle.machine_core.specs.Moves.{made, runs_main, no_top, put_coroutine, back_to_resumer, awake, suspend_running, bury, all_closed_from, ends_as, pending_values, fail_coroutine, take_moving, give_with, main_yielded, main_returned, main_failed, Outcome, trapped, ends, stop, act, run}
use Rattle.machine_core.specs.Text.{written}
use Rattle.int_core.specs.Value.{boolean}
use Rattle.machine_core.specs.FrameRows.{then, hand_over, handed_to, unwound}
use Rattle.machine_core.specs.MachineStep.{yield_row}
use Rattle.lua_meaning.specs.World as talk
use Rattle.lua_meaning.specs.World.{now_in}
use Rattle.lua_meaning.specs.Calls as calls
use Rattle.lua_meaning.specs.Calls.{yields, leaves_coroutine, truth, all_pending}
use Rattle.code_means.specs.Runs.{codes_run}
use Rattle.machine_sound.specs.Sound.{Solid, StackWaits}
use Rattle.machine_sound.proofs.Frames.{stack_is}
use Rattle.machine_means.specs.Joined.{TalkWorld, Joined}
use Rattle.machine_means.proofs.Switches.{set_same}
use Rattle.machine_means.proofs.Lists.{set_twice}
use Rattle.machine_means.proofs.Handing.{told_now}
use Rattle.machine_means.proofs.Steps.{no_talks}
use Rattle.means_steps.specs.Steps.{Leads}

one_alone : (ch : List ℕ) (co : ℕ) → last ch ≡ Some co → nat_eq (length ch) 1 ≡ true → ch ≡ co ∷ []
one_alone [] co e n = absurd (cc)
one_alone (c ∷ []) co e n = let d : c ≡ co = some_same c co e in ap (λ c. c ∷ []) d
one_alone (c ∷ d ∷ ch) co e n = absurd (let z = eq_true (length (c ∷ d ∷ ch)) 1 n in omega (arith, z))

reversed_alone : (ch : List ℕ) (co : ℕ) → reverse ch ≡ co ∷ [] → ch ≡ co ∷ []
reversed_alone [] co e = absurd (cc)
reversed_alone (c ∷ []) co e = e
reversed_alone (c ∷ d ∷ ch) co e = absurd (let z : length (reverse (c ∷ d ∷ ch)) ≡ 1 = ap (λ xs. length xs) e in let n = length-reverse (c ∷ d ∷ ch) in omega (arith, z, n))

module _ (primitives : ℕ) (M : machine.World) (T : TalkWorld) (lax : Bool) (solid : Solid primitives M) (waits : StackWaits primitives M) (joined : Joined lax M T) (main : runs_main M ≡ true) where
  abbrev co : ℕ
  co = waits.coroutine

  abbrev frames : List Frame
  frames = waits.frames

  chain_is : M.chain ≡ waits.coroutine ∷ []
  chain_is = one_alone M.chain co waits.last main

  talk_chain : T.chain ≡ waits.coroutine ∷ []
  talk_chain = reversed_alone T.chain co (sym joined.chain ∙ chain_is)

  talk_main : talk.runs_main T ≡ true
  talk_main = ap (λ ch. elim ch as (λ _. Bool) [ [] ↦ true | _ ∷ chain ↦ elim chain as (λ _. Bool) [ [] ↦ true | _ ∷ _ ↦ false ] ]) talk_chain

  is_main : M.main ≡ Some waits.coroutine
  is_main = solid.chain.first co (ap (λ ch. slice_get ch 0) chain_is)

  stack_now : stack_of M ≡ Some (record { coroutine = waits.coroutine; frames = waits.frames })
  stack_now = stack_is M co frames waits.last waits.running

  -- it is left as `c`, and nobody runs
  abbrev left_as : Coroutine → List Cell → List Value → machine.World
  left_as c ws mv = record M { coroutines = slice_set M.coroutines waits.coroutine c; cells = ws; moving = mv; chain = [] }

  back_is : (c : Coroutine) (ws : List Cell) (mv : List Value) → back_to_resumer (put_coroutine (record M { cells = ws; moving = mv }) waits.coroutine c) ≡ left_as c ws mv
  unfolding back_to_resumer put_coroutine
  back_is c ws mv =
      let e : without_last M.chain ≡ [] = ap without_last chain_is ∙ without_last_is [] co in
      ap (λ (chain : List ℕ). elim (last {A = ℕ} chain) as (λ _. machine.World) [ None ↦ record M { coroutines = slice_set M.coroutines co c; chain = chain; cells = ws; moving = mv } | Some j ↦ record M { coroutines = slice_set (slice_set M.coroutines co c) j (in_progress (awake (slice_get (slice_set M.coroutines co c) j))); chain = chain; cells = ws; moving = mv } ]) e

  ends_as_is : (c : Coroutine) (mv : List Value) → ends_as (record M { moving = mv }) c ≡ Some (left_as c (all_closed_from waits.coroutine 0 waits.frames M.cells) mv)
  unfolding bury
  ends_as_is c mv =
      ap (λ o. bind {B = machine.World} o (λ s. Some (back_to_resumer (put_coroutine (record M { cells = all_closed_from s.coroutine 0 s.frames M.cells; moving = mv }) s.coroutine c)))) stack_now
      ∙ ap Some (back_is c (all_closed_from co 0 frames M.cells) mv)

  suspends_is : suspend_running M (record { coroutine = waits.coroutine; frames = waits.frames }) ≡ left_as (suspended waits.frames) M.cells M.moving
  unfolding suspend_running
  suspends_is = back_is (suspended frames) M.cells M.moving

  pub main_yields : (library : Primitives Prototype) → lax ≡ false → Leads library M.printed (yields T M.moving) (run yield_row [] M)
  main_yields library strict =
      let W : machine.World = left_as (suspended frames) M.cells M.moving in
      let U : TalkWorld = now_in T (talk.ends (talk.yielded M.moving)) in
      let ran : run yield_row [] M ≡ ends main_yielded W =
      ap (λ o. elim (bind o (λ s. made {A = Bool} (suspend_running M s) [] (runs_main M))) as (λ _. Outcome) [ None ↦ trapped | Some d ↦ run (cond d.told (stop main_yielded) (act take_moving (λ v _. then (give_with (written (boolean true) ∷ []) v) hand_over))) ([] ++ d.values) d.world ]) stack_now
      ∙ ap (λ V. run (cond (runs_main M) (stop main_yielded) (act take_moving (λ v _. then (give_with (written (boolean true) ∷ []) v) hand_over))) [] V) suspends_is
      ∙ ap (λ b. run (cond b (stop main_yielded) (act take_moving (λ v _. then (give_with (written (boolean true) ∷ []) v) hand_over))) [] W) main in
      let told : yields T M.moving ≡ U = ap (λ b. cond b U (leaves_coroutine T (talk.suspended T.frames) (truth true ∷ M.moving))) talk_main in
      let same : slice_set (slice_set M.coroutines co (suspended frames)) co (in_progress frames) ≡ M.coroutines = set_twice M.coroutines co (suspended frames) (in_progress frames) ∙ set_same M.coroutines co (in_progress frames) waits.running in
      let again : Joined false (record M { coroutines = slice_set (slice_set M.coroutines co (suspended frames)) co (in_progress frames); chain = co ∷ [] }) U =
      subst (λ cs. Joined false (record M { coroutines = cs; chain = co ∷ [] }) U) (sym same) (subst (λ ch. Joined false (record M { chain = ch }) U) chain_is (told_now false M T (talk.ends (talk.yielded M.moving)) (subst (λ b. Joined b M T) strict joined))) in
      subst (λ o. Leads library M.printed (yields T M.moving) o) (sym ran)
      (subst (λ X. Leads library M.printed X (ends main_yielded W)) (sym told) (
        0,
        (refl, (joined.printed, record { co = co; frames = frames; main = is_main; idle = refl; there = get_set_same M.coroutines co (in_progress frames) (suspended frames) waits.running; joined = again })),
      ))

  pub main_returns : (library : Primitives Prototype) → waits.frames ≡ [] → Leads library M.printed (calls.handed codes_run T M.moving T.frames) (run (handed_to (no_top true)) [] M)
  main_returns library none =
      let W : machine.World = left_as dead (all_closed_from co 0 frames M.cells) M.moving in
      let U : TalkWorld = now_in T (talk.ends (talk.returned M.moving)) in
      let ran : run (handed_to (no_top true)) [] M ≡ ends main_returned W = ap (λ m. elim (bind m (λ V. made {A = Bool} V [] (runs_main M))) as (λ _. Outcome) [ None ↦ trapped | Some d ↦ run (stop main_returned) ([] ++ d.values) d.world ]) (ends_as_is dead M.moving) in
      let told : calls.handed codes_run T M.moving T.frames ≡ U = ap (calls.handed codes_run T M.moving) (no_talks primitives M T solid waits lax joined none) ∙ ap (λ b. cond b U (leaves_coroutine T talk.dead (truth true ∷ M.moving))) talk_main in
      subst (λ o. Leads library M.printed (calls.handed codes_run T M.moving T.frames) o) (sym ran) (subst (λ X. Leads library M.printed X (ends main_returned W)) (sym told) (0, (refl, joined.printed)))

  pub main_fails : (library : Primitives Prototype) → waits.frames ≡ [] → (e : Value) → M.moving ≡ e ∷ [] → Leads library M.printed (calls.unwound codes_run T e T.frames) (run (unwound (no_top true)) [] M)
  main_fails library none e moves =
      let c : Coroutine = failed e (flat_map pending_values frames) in
      let W : machine.World = left_as c (all_closed_from co 0 frames M.cells) (e ∷ []) in
      let U : TalkWorld = now_in T (talk.ends (talk.failed_with e)) in
      let N : machine.World = record M { moving = e ∷ [] } in
      let begins : run (unwound (no_top true)) [] M ≡ run (then (fail_coroutine (read 0)) (stop main_failed)) (e ∷ []) N = ap (λ l. run (then (Rattle.machine_core.specs.Moves.give (read 0 ∷ [])) (then (fail_coroutine (read 0)) (stop main_failed))) l (record M { moving = [] })) moves in
      let ran : run (then (fail_coroutine (read 0)) (stop main_failed)) (e ∷ []) N ≡ ends main_failed W =
      ap (λ o. elim (bind o (λ s. bind (ends_as N (failed e (flat_map pending_values s.frames))) (λ V. made {A = Unit {0}} V [] tt))) as (λ _. Outcome) [ None ↦ trapped | Some d ↦ run (stop main_failed) ((e ∷ []) ++ d.values) d.world ]) stack_now
      ∙ ap (λ m. elim (bind m (λ V. made {A = Unit {0}} V [] tt)) as (λ _. Outcome) [ None ↦ trapped | Some d ↦ run (stop main_failed) ((e ∷ []) ++ d.values) d.world ]) (ends_as_is c (e ∷ [])) in
      let told : calls.unwound codes_run T e T.frames ≡ U =
      ap (calls.unwound codes_run T e) (no_talks primitives M T solid waits lax joined none)
      ∙ ap (λ b. cond b U (leaves_coroutine T (talk.failed e (all_pending codes_run T T.frames)) (truth false ∷ e ∷ []))) talk_main in
      subst (λ o. Leads library M.printed (calls.unwound codes_run T e T.frames) o) (sym (begins ∙ ran)) (subst (λ X. Leads library M.printed X (ends main_failed W)) (sym told) (0, (record { error = e; moves = refl; ended = refl }, joined.printed)))
