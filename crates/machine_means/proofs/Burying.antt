-- `coroutine.close`: the coroutine is dead, and a frame with what it still has to close stands on top of the one that runs.
use Rattle.code_core.specs.Prototype.{Prototype}
use Rattle.load_rows.specs.Loading.{Builds}
use Rattle.std.proofs.Common.{ℕ, ◌+◌, ◌≡◌, ◌≢◌, ⊎_elim, List, [], ◌∷◌, ◌++◌, length, Option, Some, None, refl, sym, ap, subst, ◌∙◌, Bool, true, false, cond}
use Rattle.std.specs.Prelude.{slice_get, slice_set, nat_le, reverse, flat_map, codes}
use Rattle.std.proofs.lemmas.Bool.{cases_eq}
use Rattle.int_core.specs.Value.{Value, bind, last, object, a_coroutine}
use Rattle.int_core.specs.Limits.{greatest_depth, stack_overflow}
use Rattle.list_laws.specs.Held.{Held}
use Rattle.list_laws.proofs.Items.{get_set_same, get_set_other}
use Rattle.machine_core.specs.World as machine
use Rattle.machine_core.specs.World.{Cell, Frame, Coroutine, fresh, suspended, in_progress, normal, dead, failed, Stack, push, put_frames}
use Rattle.machine_core.specs.Text.{read}
use Rattle.machine_core.specs.Moves as moves
use Rattle.machine_core.specs.Moves.{Made, made, move, look, begin_closing, ResumeShape, resumed, refused, is_entered, not_entered, closes_in, pending_values, all_closed_from, put_coroutine, bury, Outcome, trapped, act, run}
use Rattle.machine_core.specs.FrameRows.{closing_row}
use Rattle.machine_core.specs.MachineStep as rows
use Rattle.machine_core.specs.MachineStep.{close_row, after_closing}
use Rattle.machine_core.specs.Talk.{State}
use Rattle.lua_meaning.specs.World as talk
use Rattle.lua_meaning.specs.World.{breaks, raises_text}
use Rattle.lua_meaning.specs.Calls as calls
use Rattle.lua_meaning.specs.Calls.{closes_on, all_pending}
use Rattle.library_rows.specs.Library.{coroutine_close}
use Rattle.lua_meaning.specs.Step.{does_primitive}
use Rattle.code_means.specs.Runs.{codes_run}
use Rattle.machine_sound.specs.Sound.{sizes, FrameOk}
use Rattle.machine_sound.proofs.Lists.{each_on}
use Rattle.machine_means.specs.Joined.{TalkFrame, TalkWorld, Stacks, CoroutinePair, CellsPair, Joined}
use Rattle.machine_means.specs.Stands.{ComesTo, AtRest, CoroutinesClosed}
use Rattle.machine_means.proofs.CellWrites.{all3_first}
use Rattle.machine_means.proofs.Switches.{OnlyRuns, co_put_apart, set_same}
use Rattle.machine_means.proofs.Shutting.{all_shut}
use Rattle.machine_means.proofs.Pending.{Bounded, bounded_ok, stack_pending}
use Rattle.machine_means.proofs.Frames.{holds_nothing, own_stack}
use Rattle.machine_means.proofs.AtRest.{stack_now, only}
use Rattle.machine_means.proofs.Rejoined.{rejoined}
use Rattle.machine_means.proofs.Closings.{closing_comes}
use Rattle.machine_means.proofs.Raising.{same_room, room_below, raising}

module _ (primitives : ℕ) (M : machine.World) (T : TalkWorld) (k : AtRest primitives false M T) (co : ℕ) (vs : List Value) where
  abbrev by : ℕ
  by = k.waits.coroutine

  abbrev frames : List Frame
  frames = k.waits.frames

  abbrev N : machine.World
  N = record M { moving = [] }

  abbrev s : Stack
  s = record { coroutine = by; frames = frames }

  abbrev env : List Value
  env = object a_coroutine co ∷ (vs ++ [])

  abbrev runs : List Frame → List Held → Type 0
  runs fr hs = Stacks false M.functions T.cells fr T.frames hs

  abbrev U : TalkWorld
  U = calls.put_coroutine T co talk.dead

  abbrev begun : Outcome
  begun = run (act (begin_closing (read 0)) (λ _ told. after_closing told)) env N

  begins : M.moving ≡ object a_coroutine co ∷ vs → run close_row [] M ≡ begun
  begins e = ap (λ l. run (act (look (read 0)) (λ _ told. rows.closes_coroutine told 0)) l N) e

  move_is : (c : Coroutine) → slice_get M.coroutines co ≡ Some c → move (begin_closing (read 0)) env N ≡ moves.closes_coroutine N s co c
  move_is c there =
      ap (λ o. bind {B = Made ResumeShape} o (λ s. bind (slice_get M.coroutines co) (moves.closes_coroutine N s co))) (stack_now primitives M T false k)
      ∙ ap (λ o. bind {B = Made ResumeShape} o (moves.closes_coroutine N s co)) there

  goes : (V : machine.World) (told : ResumeShape) → move (begin_closing (read 0)) env N ≡ made V [] told → begun ≡ run (after_closing told) (env ++ []) V
  goes V told e = ap (λ m. elim m as (λ _. Outcome) [ None ↦ trapped | Some d ↦ run (after_closing d.told) (env ++ d.values) d.world ]) e

  refusal : (text : List ℕ) (c : Coroutine) → slice_get M.coroutines co ≡ Some c → moves.closes_coroutine N s co c ≡ made N [] (refused text) → ComesTo begun (raises_text T text)
  refusal text c there e = subst (λ o. ComesTo o (raises_text T text)) (sym (goes N (refused text) (move_is c there ∙ e))) (raising primitives M T k text (env ++ []) [])

  told_is : (builds : Builds Prototype) (d : talk.Coroutine State) → slice_get T.coroutines co ≡ Some d → does_primitive codes_run builds coroutine_close T (object a_coroutine co ∷ vs) ≡ calls.closes_coroutine codes_run T co d
  told_is builds d e = ap (λ o. elim o as (λ _. TalkWorld) [ None ↦ breaks T | Some d ↦ calls.closes_coroutine codes_run T co d ]) e

  -- the coroutine is dead, and holds nothing
  buried : (ws : List Cell) (x : Coroutine) (y : talk.Coroutine State) (hs : List Held) → slice_get M.coroutines co ≡ Some x → slice_get T.coroutines co ≡ Some y → slice_get k.joined.held co ≡ Some hs → CellsPair ws T.cells (slice_set k.joined.held co [])
      → Joined false (record N { coroutines = slice_set M.coroutines co dead; cells = ws }) U
  buried ws x y hs e f g cells =
      rejoined false false M T k.joined ws (slice_set M.coroutines co dead) M.chain [] M.fuel T.cells (slice_set T.coroutines co talk.dead) T.chain T.frames T.now T.fuel (slice_set k.joined.held co []) k.joined.fuel k.joined.chain cells
      (co_put_apart M.functions T.cells runs M.coroutines T.coroutines k.joined.held co x dead y talk.dead hs [] e f g refl k.joined.coroutines)

  -- one that held nothing
  cells_stay : slice_get k.joined.held co ≡ Some [] → CellsPair M.cells T.cells (slice_set k.joined.held co [])
  cells_stay g = subst (λ hss. CellsPair M.cells T.cells hss) (sym (set_same k.joined.held co [] g)) k.joined.cells

  -- with the frame that closes on top
  module _ (c : Coroutine) (there : slice_get M.coroutines co ≡ Some c) (D : machine.World) (e : Option Value) (us ws : List Value) (is : us ≡ reverse ws) (machine_says : moves.closes_coroutine N s co c ≡ closes_in N D s e us)
      (joined : Joined false D U) (chain : last D.chain ≡ Some by) (going : slice_get D.coroutines by ≡ Some (in_progress frames)) (alone : OnlyRuns D.coroutines by) where
    in_room : (b : Bool) → nat_le (length frames + 1) greatest_depth ≡ b → move (begin_closing (read 0)) env N ≡ cond b (made (push D s (machine.closing e us)) [] (resumed is_entered)) (made N [] (resumed (not_entered stack_overflow)))
    in_room b r =
        move_is c there ∙ machine_says
        ∙ ap (λ o. cond (elim o as (λ _. Bool) [ None ↦ false | Some s ↦ nat_le (length s.frames + 1) greatest_depth ]) (made {A = ResumeShape} (push D s (machine.closing e us)) [] (resumed is_entered)) (made N [] (resumed (not_entered stack_overflow)))) (stack_now primitives M T false k)
        ∙ ap (λ b. cond b (made {A = ResumeShape} (push D s (machine.closing e us)) [] (resumed is_entered)) (made N [] (resumed (not_entered stack_overflow)))) r

    talk_room : (b : Bool) → nat_le (length frames + 1) greatest_depth ≡ b → calls.closes_in codes_run T co e ws ≡ cond b (closes_on codes_run U e ws T.frames) (raises_text T stack_overflow)
    talk_room b r = ap (λ b. cond b (closes_on codes_run U e ws T.frames) (raises_text T stack_overflow)) (same_room primitives M T false k b r)

    closing_on_top : nat_le (length frames + 1) greatest_depth ≡ true → ComesTo (run closing_row (env ++ []) (push D s (machine.closing e us))) (closes_on codes_run U e ws T.frames)
    unfolding push put_frames
    closing_on_top r =
        let o = own_stack D U by frames false joined going alone in
        subst (λ us. ComesTo (run closing_row (env ++ []) (record D { coroutines = slice_set D.coroutines by (in_progress (frames ++ machine.closing e us ∷ [])) })) (closes_on codes_run U e ws T.frames)) (sym is)
        (closing_comes D U by frames false joined going alone chain frames T.frames o.0 o.0 o.1 ((λ f r c n. n), (λ f r c n. n)) (holds_nothing o.0) o.2 (room_below (length frames) greatest_depth r) e ws D.moving (env ++ []))

    closes : ComesTo begun (calls.closes_in codes_run T co e ws)
    closes = from (nat_le (length frames + 1) greatest_depth) refl
      where
        from : (b : Bool) → nat_le (length frames + 1) greatest_depth ≡ b → ComesTo (run (act (begin_closing (read 0)) (λ _ told. after_closing told)) (object a_coroutine co ∷ (vs ++ [])) (record M { moving = [] })) (calls.closes_in codes_run T co e ws)
        from true r =
            subst (λ V. ComesTo begun V) (sym (talk_room true r))
            (subst (λ o. ComesTo o (closes_on codes_run U e ws T.frames)) (sym (goes (push D s (machine.closing e us)) (resumed is_entered) (in_room true r))) (closing_on_top r))
        from false r =
            subst (λ V. ComesTo begun V) (sym (talk_room false r))
            (subst (λ o. ComesTo o (raises_text T stack_overflow)) (sym (goes N (resumed (not_entered stack_overflow)) (in_room false r))) (raising primitives M T k stack_overflow (env ++ []) []))

  -- where another one is dead, the same one runs, alone
  module _ (apart : co ≢ by) (x : Coroutine) (there : slice_get M.coroutines co ≡ Some x) where
    still_runs : slice_get (slice_set M.coroutines co dead) by ≡ Some (in_progress frames)
    still_runs = get_set_other M.coroutines co by dead apart ∙ k.waits.running

    still_alone : OnlyRuns (slice_set M.coroutines co dead) by
    still_alone j fr e = ⊎_elim
        (λ (q : co ≡ j). absurd (let z : Some dead ≡ Some (in_progress fr) = sym (ap (slice_get (slice_set M.coroutines co dead)) (sym q) ∙ get_set_same M.coroutines co x dead there) ∙ e in cc))
        (λ q. only primitives M T false k j fr (sym (get_set_other M.coroutines co j dead q) ∙ e))
        (cases_eq co j)

  not_running : (c : Coroutine) → ((fr : List Frame) → c ≡ in_progress fr → ⊥) → slice_get M.coroutines co ≡ Some c → co ≢ by
  not_running c n there q = n frames (let z : Some c ≡ Some (in_progress frames) = sym there ∙ ap (slice_get M.coroutines) q ∙ k.waits.running in cc)

  -- as the move does it
  abbrev D : List Cell → machine.World
  D ws = record N { coroutines = slice_set M.coroutines co dead; cells = ws }

  bury_is : (target : List Frame) → bury (record M { moving = [] }) co target dead ≡ put_coroutine (record M { moving = []; cells = all_closed_from co 0 target M.cells }) co dead
  unfolding bury
  bury_is target = refl

  put_is : (ws : List Cell) → put_coroutine (record N { cells = ws }) co dead ≡ record N { coroutines = slice_set M.coroutines co dead; cells = ws }
  unfolding put_coroutine
  put_is ws = refl

  buried_so : (c : Coroutine) → slice_get M.coroutines co ≡ Some c → ((fr : List Frame) → c ≡ in_progress fr → ⊥) → (e : Option Value) (us ws : List Value) → us ≡ reverse ws → (cells : List Cell)
      → moves.closes_coroutine N s co c ≡ closes_in N (put_coroutine (record N { cells = cells }) co dead) s e us → Joined false (record N { coroutines = slice_set M.coroutines co dead; cells = cells }) U
      → ComesTo begun (calls.closes_in codes_run T co e ws)
  buried_so c there n e us ws is cells says joined =
      let apart = not_running c n there in
      closes c there (D cells) e us ws is (says ∙ ap (λ (W : machine.World). closes_in N W s e us) (put_is cells)) joined k.waits.last (still_runs apart c there) (still_alone apart c there)

  pending : (target : List Frame) (ts : List TalkFrame) (hs : List Held) → slice_get M.coroutines co ≡ Some (suspended target) → Stacks false M.functions T.cells target ts hs → flat_map pending_values target ≡ reverse (all_pending codes_run T ts)
  pending target ts hs there st =
      let ok = k.solid.coroutines co (suspended target) there in
      stack_pending M.functions T k.joined.functions false target ts hs (each_on (FrameOk (sizes primitives M)) (Bounded M.functions) (bounded_ok (sizes primitives M)) target ok.right.each) st

  none_ran : slice_get M.coroutines co ≡ Some dead → put_coroutine N co dead ≡ N
  unfolding put_coroutine
  none_ran there = ap (λ cs. record N { coroutines = cs }) (set_same M.coroutines co dead there)

  pub closed_so : (c : Coroutine) (d : talk.Coroutine State) (hs : List Held) → slice_get M.coroutines co ≡ Some c → slice_get T.coroutines co ≡ Some d → slice_get k.joined.held co ≡ Some hs → CoroutinePair M.functions T.cells runs c d hs
      → ComesTo begun (calls.closes_coroutine codes_run T co d)
  closed_so (fresh v) (talk.fresh w) hs there talks held p =
      let g = held ∙ ap Some p.1 in
      buried_so (fresh v) there (λ fr q. cc) None [] [] refl M.cells refl (buried M.cells (fresh v) (talk.fresh w) [] there talks g (cells_stay g))
  closed_so (suspended target) (talk.suspended ts) hs there talks held p =
      buried_so (suspended target) there (λ fr q. cc) None (flat_map pending_values target) (all_pending codes_run T ts) (pending target ts hs there p) (all_closed_from co 0 target M.cells)
      (ap (λ (W : machine.World). closes_in N W s None (flat_map pending_values target)) (bury_is target))
      (buried (all_closed_from co 0 target M.cells) (suspended target) (talk.suspended ts) hs there talks held (all_shut M.functions false M.cells T.cells k.joined.held k.joined.cells co target ts hs held p))
  closed_so (failed e pend) (talk.failed d values) hs there talks held p =
      let g = held ∙ ap Some p.2 in
      subst (λ x. ComesTo begun (calls.closes_in codes_run T co (Some x) values)) p.0
      (buried_so (failed e pend) there (λ fr q. cc) (Some e) pend values p.1 M.cells refl (buried M.cells (failed e pend) (talk.failed d values) [] there talks g (cells_stay g)))
  closed_so dead talk.dead hs there talks held p =
      let g = held ∙ ap Some p in
      buried_so dead there (λ fr q. cc) None [] [] refl M.cells (ap (λ (W : machine.World). closes_in N W s None []) (sym (none_ran there))) (buried M.cells dead talk.dead [] there talks g (cells_stay g))
  closed_so (in_progress fr) talk.running hs there talks held p = refusal (codes "cannot close a running coroutine") (in_progress fr) there refl
  closed_so (normal fr) (talk.normal ts) hs there talks held p = refusal (codes "cannot close a normal coroutine") (normal fr) there refl
  closed_so _ _ hs there talks held p = absurd p

pub coroutines_closed : CoroutinesClosed
coroutines_closed builds primitives M T k co vs moves c there =
    let p = all3_first (CoroutinePair M.functions T.cells (runs primitives M T k co vs)) c (slice_get M.coroutines co) (slice_get T.coroutines co) (slice_get k.joined.held co) there (k.joined.coroutines co) in
    subst (λ U. ComesTo (run close_row [] M) U) (sym (told_is primitives M T k co vs builds p.0 p.2))
    (subst (λ o. ComesTo o (calls.closes_coroutine codes_run T co p.0)) (sym (begins primitives M T k co vs moves)) (closed_so primitives M T k co vs c p.0 p.1 there p.2 p.3 p.4))
