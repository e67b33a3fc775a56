-- A coroutine that another one resumed gives way to it: it yields, ends, or fails.
use Rattle.std.proofs.Common.{ℕ, ◌≡◌, List, [], ◌∷◌, ◌++◌, length, Some, None, refl, sym, ap, subst, ◌∙◌, arith, Bool, true, false, cond}
use Rattle.std.specs.Prelude.{slice_get, slice_set, flat_map, reverse}
use Rattle.std.proofs.lemmas.List.{length-reverse}
use Rattle.int_core.specs.Value.{Value, bind, known, boolean}
use Rattle.list_laws.specs.Held.{Held}
use Rattle.list_laws.proofs.Ends.{upward, last_is}
use Rattle.list_laws.proofs.Items.{get_set_same, get_set_other}
use Rattle.machine_core.specs.World as machine
use Rattle.machine_core.specs.World.{Cell, Frame, Coroutine, in_progress, Stack, stack_of}
use Rattle.machine_core.specs.Text.{read, written}
use Rattle.machine_core.specs.Moves.{made, move, fail_coroutine, take_moving, give, give_with, ends_as, bury, put_coroutine, back_to_resumer, all_closed_from, pending_values, runs_main, no_top, Outcome, trapped, main_yielded, stop, act, run}
use Rattle.machine_core.specs.FrameRows.{then, hand_over, coroutine_fails, handed_to}
use Rattle.machine_core.specs.MachineStep.{yield_row}
use Rattle.lua_meaning.specs.World as talk
use Rattle.lua_meaning.specs.World.{gives_back}
use Rattle.lua_meaning.specs.Calls.{leaves_coroutine, truth, yields, returns_all, fails_all, all_pending}
use Rattle.lua_meaning.specs.Calls as calls
use Rattle.code_means.specs.Runs.{codes_run}
use Rattle.machine_sound.specs.Sound.{Each, sizes, FrameOk}
use Rattle.machine_sound.proofs.Lists.{each_on}
use Rattle.machine_sound.proofs.Frames.{stack_is}
use Rattle.machine_means.specs.Joined.{TalkFrame, TalkWorld, Below, Stacks, Joined}
use Rattle.machine_means.specs.Laws.{GivesBack, InResumed, YieldsJoined, EndsJoined, FailsJoined}
use Rattle.machine_means.proofs.Switches as switches
use Rattle.machine_means.proofs.Switches.{OnlyRuns}
use Rattle.machine_means.proofs.Shutting.{all_shut}
use Rattle.machine_means.proofs.Pending.{Bounded, bounded_ok, stack_pending}
use Rattle.machine_means.proofs.Running.{Resumer, only_runs, resumer}
use Rattle.machine_means.proofs.Handing.{moved, gives}

pub none_reversed : {A : Type 0} (xs : List A) → reverse xs ≡ [] → xs ≡ []
none_reversed [] e = refl
none_reversed (x ∷ xs) e = absurd (let l : length (reverse (x ∷ xs)) ≡ 0 = ap (λ ys. length ys) e in let n = length-reverse (x ∷ xs) in omega (arith, l, n))

pub no_frames : (lax : Bool) (fs : List machine.Function) (vs : List Value) (ms : List Frame) (ts : List TalkFrame) (hs : List Held) → ms ≡ [] → Below lax fs vs ms ts hs → ts ≡ []
no_frames lax fs vs [] [] [] e k = refl
no_frames lax fs vs [] (t ∷ ts) hs e k = absurd k
no_frames lax fs vs [] [] (h ∷ hs) e k = absurd k
no_frames lax fs vs (m ∷ ms) ts hs e k = absurd (cc)

module _ (primitives : ℕ) (M : machine.World) (T : TalkWorld) (lax : Bool) (i : InResumed primitives lax M T) where
  abbrev pub co : ℕ
  co = i.waits.coroutine

  abbrev pub frames : List Frame
  frames = i.waits.frames

  abbrev pub r : Resumer M T i.waits.coroutine
  r = resumer primitives M i.solid i.waits T lax i.joined i.resumed

  abbrev pub only : OnlyRuns M.coroutines i.waits.coroutine
  only = only_runs primitives M i.solid i.waits

  -- the machine once its running coroutine is left as `c`
  abbrev pub left_as : Coroutine → machine.World
  left_as c = switches.given_way M T co r.by r.rest r.chain r.apart frames r.below lax i.joined i.waits.running only r.waits c

  left_stack : (c : Coroutine) (ws : List Cell) (mv : List Value) → stack_of (record (left_as c) { cells = ws; moving = mv }) ≡ Some (record { coroutine = r.by; frames = r.below })
  left_stack c ws mv =
      stack_is (record (left_as c) { cells = ws; moving = mv }) r.by r.below (last_is (upward r.rest) r.by)
      (get_set_same (slice_set M.coroutines co c) r.by (machine.normal r.below) (in_progress r.below) (get_set_other M.coroutines co r.by c r.apart ∙ r.waits))

  stack_now : stack_of M ≡ Some (record { coroutine = co; frames = frames })
  stack_now = stack_is M co frames i.waits.last i.waits.running

  ends_as_is : (c : Coroutine) → ends_as (record M { moving = [] }) c ≡ Some (record (left_as c) { cells = all_closed_from co 0 frames M.cells; moving = [] })
  unfolding bury
  ends_as_is c =
      ap (λ o. bind {B = machine.World} o (λ s. Some (back_to_resumer (put_coroutine (record M { cells = all_closed_from s.coroutine 0 s.frames M.cells; moving = [] }) s.coroutine c)))) stack_now
      ∙ ap Some (switches.back_is M T co r.by r.rest r.chain r.apart frames r.below lax i.joined i.waits.running only r.waits c (all_closed_from co 0 frames M.cells) [])

  left_now : (d : talk.Coroutine Rattle.machine_core.specs.Talk.State) (vs : List Value) → (leaves_coroutine T d vs).now ≡ gives_back vs
  left_now d vs = ap (λ (U : TalkWorld). U.now) (switches.left_is M T co r.by r.rest r.chain r.apart frames r.below lax i.joined i.waits.running only r.waits d vs)

  main_no : (U V : TalkWorld) → cond (talk.runs_main T) U V ≡ V
  main_no U V = ap (λ c. cond (elim c as (λ _. Bool) [ [] ↦ true | _ ∷ chain ↦ elim chain as (λ _. Bool) [ [] ↦ true | _ ∷ _ ↦ false ] ]) U V) r.chain

  own : (hs : List Held) × (slice_get i.joined.held co ≡ Some hs) × Stacks lax M.functions T.cells frames T.frames hs
  own = switches.own M T co r.by r.rest r.chain r.apart frames r.below lax i.joined i.waits.running only r.waits

  -- all cells of the frames are closed, and the frames are gone
  module _ (c : Coroutine) (d : talk.Coroutine Rattle.machine_core.specs.Talk.State) (kind : Rattle.machine_means.specs.Joined.CoroutinePair M.functions T.cells switches.Never c d []) (vs : List Value) where
    pub gone : Joined false (record (left_as c) { cells = all_closed_from co 0 frames M.cells }) (leaves_coroutine T d vs)
    gone =
        let o = own in
        switches.gives_way M T co r.by r.rest r.chain r.apart frames r.below lax i.joined i.waits.running only r.waits c d o.0 [] (all_closed_from co 0 frames M.cells) o.1
        (all_shut M.functions lax M.cells T.cells i.joined.held i.joined.cells co frames T.frames o.0 o.1 o.2) kind vs

  bounded : Each (Bounded M.functions) frames
  bounded = each_on (FrameOk (sizes primitives M)) (Bounded M.functions) (bounded_ok (sizes primitives M)) frames (i.solid.coroutines co (in_progress frames) i.waits.running).each

  pending : flat_map pending_values frames ≡ reverse (all_pending codes_run T T.frames)
  pending = let o = own in stack_pending M.functions T i.joined.functions lax frames T.frames o.0 bounded o.2

-- it yields
pub yields_joined : YieldsJoined
yields_joined builds primitives M T i =
    let x = resumer primitives M i.solid i.waits T false i.joined i.resumed in
    let co = i.waits.coroutine in
    let frames = i.waits.frames in
    let o = only_runs primitives M i.solid i.waits in
    let V = switches.given_way M T co x.by x.rest x.chain x.apart frames x.below false i.joined i.waits.running o x.waits (machine.suspended frames) in
    let W : machine.World = record V { moving = known (boolean true) ∷ M.moving } in
    let U = leaves_coroutine T (talk.suspended T.frames) (truth true ∷ M.moving) in
    let joined : Joined false W U = moved false V U (known (boolean true) ∷ M.moving) (switches.yielded M T co x.by x.rest x.chain x.apart frames x.below false i.joined i.waits.running o x.waits refl (truth true ∷ M.moving)) in
    let given : GivesBack (run hand_over (M.moving ++ []) W) U = gives W U (record { coroutine = x.by; frames = x.below }) (M.moving ++ []) (left_stack primitives M T false i (machine.suspended frames) M.cells (known (boolean true) ∷ M.moving)) joined (left_now primitives M T false i (talk.suspended T.frames) (truth true ∷ M.moving)) in
    let ran : run yield_row [] M ≡ run hand_over (M.moving ++ []) W =
    ap (λ m. elim m as (λ _. Outcome) [ None ↦ trapped | Some d ↦ run (cond d.told (stop main_yielded) (act take_moving (λ v _. then (give_with (written (boolean true) ∷ []) v) hand_over))) ([] ++ d.values) d.world ])
    (switches.yield_move M T co x.by x.rest x.chain x.apart frames x.below false i.joined i.waits.running o x.waits []) in
    subst (λ p. GivesBack p (yields T M.moving)) (sym ran) (subst (λ t. GivesBack (run hand_over (M.moving ++ []) W) t) (sym (switches.yield_talk M T co x.by x.rest x.chain x.apart frames x.below false i.joined i.waits.running o x.waits M.moving)) given)

-- it ends
pub ends_joined : EndsJoined
ends_joined primitives M T i none =
    let x = resumer primitives M i.solid i.waits T false i.joined i.resumed in
    let co = i.waits.coroutine in
    let frames = i.waits.frames in
    let ws = all_closed_from co 0 frames M.cells in
    let W : machine.World = record (left_as primitives M T false i machine.dead) { cells = ws; moving = known (boolean true) ∷ M.moving } in
    let U = leaves_coroutine T talk.dead (truth true ∷ M.moving) in
    let joined : Joined false W U = moved false (record (left_as primitives M T false i machine.dead) { cells = ws }) U (known (boolean true) ∷ M.moving) (gone primitives M T false i machine.dead talk.dead refl (truth true ∷ M.moving)) in
    let given : GivesBack (run hand_over (M.moving ++ [] ++ []) W) U = gives W U (record { coroutine = x.by; frames = x.below }) (M.moving ++ [] ++ []) (left_stack primitives M T false i machine.dead ws (known (boolean true) ∷ M.moving)) joined (left_now primitives M T false i talk.dead (truth true ∷ M.moving)) in
    let ran : run (handed_to (no_top false)) [] M ≡ run (then (give_with (written (boolean true) ∷ []) 0) hand_over) (M.moving ++ []) (record (left_as primitives M T false i machine.dead) { cells = ws; moving = [] }) =
    ap (λ m. elim (bind m (λ V. made {A = Bool} V [] (runs_main (record M { moving = [] })))) as (λ _. Outcome) [ None ↦ trapped | Some d ↦ run (then (give_with (written (boolean true) ∷ []) 0) hand_over) (M.moving ++ d.values) d.world ]) (ends_as_is primitives M T false i machine.dead) in
    let s = own primitives M T false i in
    let empty : T.frames ≡ [] = no_frames false M.functions T.cells s.2.ms T.frames s.0 (none_reversed s.2.ms (sym s.2.listed ∙ none)) s.2.below in
    let told : calls.handed codes_run T M.moving T.frames ≡ U = ap (calls.handed codes_run T M.moving) empty ∙ main_no primitives M T false i (talk.now_in T (talk.ends (talk.returned M.moving))) U in
    let given' : GivesBack (run (then (give_with (written (boolean true) ∷ []) 0) hand_over) (M.moving ++ []) (record (left_as primitives M T false i machine.dead) { cells = ws; moving = [] })) U =
    subst (λ mv. GivesBack (run hand_over (M.moving ++ [] ++ []) (record (left_as primitives M T false i machine.dead) { cells = ws; moving = known (boolean true) ∷ mv })) U) (sym (Rattle.list_laws.proofs.Items.append_nil M.moving)) given in
    subst (λ p. GivesBack p (calls.handed codes_run T M.moving T.frames)) (sym ran) (subst (λ t. GivesBack (run (then (give_with (written (boolean true) ∷ []) 0) hand_over) (M.moving ++ []) (record (left_as primitives M T false i machine.dead) { cells = ws; moving = [] })) t) (sym told) given')

-- it fails
pub fails_joined : FailsJoined
fails_joined primitives M T i e moves =
    let x = resumer primitives M i.solid i.waits T true i.joined i.resumed in
    let co = i.waits.coroutine in
    let frames = i.waits.frames in
    let ws = all_closed_from co 0 frames M.cells in
    let c : Coroutine = machine.failed e (flat_map pending_values frames) in
    let d : talk.Coroutine Rattle.machine_core.specs.Talk.State = talk.failed e (all_pending codes_run T T.frames) in
    let mv : List Value = known (boolean false) ∷ e ∷ [] in
    let W : machine.World = record (left_as primitives M T true i c) { cells = ws; moving = mv } in
    let U = leaves_coroutine T d (truth false ∷ e ∷ []) in
    let joined : Joined false W U = moved false (record (left_as primitives M T true i c) { cells = ws }) U mv (gone primitives M T true i c d (refl, pending primitives M T true i, refl) (truth false ∷ e ∷ [])) in
    let given : GivesBack (run hand_over (e ∷ []) W) U = gives W U (record { coroutine = x.by; frames = x.below }) (e ∷ []) (left_stack primitives M T true i c ws mv) joined (left_now primitives M T true i d (truth false ∷ e ∷ [])) in
    let N : machine.World = record M { moving = [] } in
    let begins : run coroutine_fails [] M ≡ run (then (fail_coroutine (read 0)) (then (give (written (boolean false) ∷ read 0 ∷ [])) hand_over)) (e ∷ []) N = ap (λ l. run (then (fail_coroutine (read 0)) (then (give (written (boolean false) ∷ read 0 ∷ [])) hand_over)) l N) moves in
    let failed : move (fail_coroutine (read 0)) (e ∷ []) N ≡ made (record (left_as primitives M T true i c) { cells = ws; moving = [] }) [] tt =
    ap (λ o. bind o (λ s. bind (ends_as N (machine.failed e (flat_map pending_values s.frames))) (λ V. made {A = Unit {0}} V [] tt))) (stack_now primitives M T true i)
    ∙ ap (λ o. bind o (λ V. made {A = Unit {0}} V [] tt)) (ends_as_is primitives M T true i c) in
    let ran : run (then (fail_coroutine (read 0)) (then (give (written (boolean false) ∷ read 0 ∷ [])) hand_over)) (e ∷ []) N ≡ run hand_over (e ∷ []) W =
    ap (λ m. elim m as (λ _. Outcome) [ None ↦ trapped | Some d ↦ run (then (give (written (boolean false) ∷ read 0 ∷ [])) hand_over) ((e ∷ []) ++ d.values) d.world ]) failed in
    let told : fails_all codes_run T e ≡ U = main_no primitives M T true i (talk.now_in T (talk.ends (talk.failed_with e))) U in
    subst (λ p. GivesBack p (fails_all codes_run T e)) (sym (begins ∙ ran)) (subst (λ t. GivesBack (run hand_over (e ∷ []) W) t) (sym told) given)
