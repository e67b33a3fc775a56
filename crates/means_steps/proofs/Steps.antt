-- Steps of a Lua frame on top: it runs, or it hears what comes to it.
use Rattle.std.proofs.Common.{ℕ, ◌<◌, ◌≡◌, List, [], ◌∷◌, ◌++◌, length, Option, Some, None, refl, sym, ap, subst, ◌∙◌, arith}
use Rattle.std.specs.Prelude.{slice_get}
use Rattle.code_core.specs.Prototype.{Prototype}
use Rattle.int_core.specs.Value.{Value, bind, last}
use Rattle.int_core.specs.Ask.{values}
use Rattle.list_laws.specs.Held.{Held}
use Rattle.list_laws.proofs.Ends.{upward, last_is}
use Rattle.machine_core.specs.World.{Function, Wait, running, for_call, leaving, Activation, LuaFrame, Frame, lua, in_progress, World, Stack}
use Rattle.machine_core.specs.InstructionRows.{text_at, after, told_values}
use Rattle.machine_core.specs.Moves.{go, Outcome, trapped, Row, run}
use Rattle.machine_core.specs.FrameRows.{at_once, expand, goes_on_by}
use Rattle.machine_core.specs.MachineStep.{woken, lua_step, frame_step, top_step, step_by}
use Rattle.machine_core.specs.RowFits.{IsWaiting}
use Rattle.machine_core.specs.Talk.{State, before}
use Rattle.means_steps.proofs.Alike.{Alike}
use Rattle.means_steps.proofs.RowsGood.{Knows, text_good}
use Rattle.lua_meaning.specs.World as talk
use Rattle.lua_meaning.specs.World.{talking, talks, shared_in}
use Rattle.lua_meaning.specs.Step.{Primitives, tick}
use Rattle.code_means.specs.Runs.{codes_run}
use Rattle.machine_sound.specs.Sound.{Solid}
use Rattle.machine_sound.proofs.Frames.{stack_is}
use Rattle.machine_means.specs.Joined.{TalkWorld, Dressed, Joined}
use Rattle.machine_means.specs.Works.{RunsOver, Works}
use Rattle.machine_means.proofs.Held.{reverse_is}
use Rattle.machine_means.proofs.CellWrites.{all3_first}
use Rattle.machine_means.proofs.Pending.{both_first}
use Rattle.machine_means.proofs.Switches.{OnlyRuns, running_is}
use Rattle.means_steps.proofs.Middle.{Around, Middle, frame, others_of}
use Rattle.means_steps.proofs.TopMoves.{stack_at}
use Rattle.means_steps.specs.Steps.{Leads, RunningSteps}
use Rattle.means_steps.proofs.Leads.{talk_tick}
use Rattle.means_steps.proofs.Answered.{fixed_of}
use Rattle.means_steps.proofs.Rows.{row_leads}

-- the cells of a function of a sound world are there
pub cells_there : (primitives : ℕ) (M : World) → Solid primitives M → (n : ℕ) (g : Function) → slice_get M.functions n ≡ Some g → (u d : ℕ) → slice_get g.cells u ≡ Some d → d < length M.cells
cells_there primitives M solid n g there u d e = (solid.functions n g there).cells u d e

-- the Lua frame on top steps
pub top_steps : (M : World) (co n : ℕ) (w : Wait Value) (own : Activation) (g : Function) (below : List Frame) → last M.chain ≡ Some co → slice_get M.coroutines co ≡ Some (in_progress (upward (lua (frame n w own) ∷ below))) → slice_get M.functions n ≡ Some g
    → top_step M ≡ Some (lua_step M (stack_at co (lua (frame n w own) ∷ below)) (frame n w own) g.code w)
top_steps M co n w own g below at_end runs there =
    ap (λ o. bind o (λ s. bind (last s.frames) (frame_step M s))) (stack_is M co (upward (lua (frame n w own) ∷ below)) at_end runs)
    ∙ ap (λ o. bind o (frame_step M (stack_at co (lua (frame n w own) ∷ below)))) (last_is (upward below) (lua (frame n w own)))
    ∙ ap (λ o. bind o (λ g. Some (lua_step M (stack_at co (lua (frame n w own) ∷ below)) (frame n w own) g.code w))) there

-- a function runs
module _ (rows : ℕ → Row) (known : Primitives Prototype) (primitives : ℕ) (M : World) (T : TalkWorld) (solid : Solid primitives M) (co : ℕ) (at_end : last M.chain ≡ Some co) (k : Works M T)
    (stack : List Frame) (going : slice_get M.coroutines co ≡ Some (in_progress stack)) where
  abbrev n : ℕ
  n = k.frame.function

  abbrev own : Activation
  own = k.frame.own

  abbrev vs : List Value
  vs = shared_in k.captured.gone T.cells

  abbrev over : List Frame → List Held → Type 0
  over = RunsOver M.functions (shared_in k.captured.gone T.cells) k.frame k.below k.talks_below k.captured.held

  only : OnlyRuns M.coroutines co
  only = Rattle.machine_means.proofs.Running.alone primitives M solid co at_end

  there_two : (y : talk.Coroutine State) × (hs : List Held) × (slice_get T.coroutines co ≡ Some y) × (slice_get k.held co ≡ Some hs) × Rattle.machine_means.specs.Joined.CoroutinePair M.functions vs over (in_progress stack) y hs
  there_two = all3_first (Rattle.machine_means.specs.Joined.CoroutinePair M.functions vs over) (in_progress stack) (slice_get M.coroutines co) (slice_get T.coroutines co) (slice_get k.held co) going (k.coroutines co)

  middle : (g' : talk.Function Prototype) → slice_get T.functions k.frame.function ≡ Some g' → Middle M T (shared_in k.captured.gone T.cells) co k.frame.function k.function g' k.frame.wait k.frame.own k.captured.held k.below k.talks_below
  middle g' talks_there =
      let p = there_two in
      let r = running_is M.functions vs over stack p.0 p.1 p.4 in
      let o = r.1 in
      record {
        functions = k.functions;
        there = k.there;
        talks_there = talks_there;
        in_range = cells_there primitives M solid n k.function k.there;
        not_own = k.not_own;
        last = at_end;
        runs = going ∙ ap (λ fr. Some (in_progress fr)) (o.listed ∙ reverse_is (lua k.frame ∷ k.below));
        talks = p.2 ∙ ap Some r.0;
        held = k.held;
        more = o.more;
        holds = p.3 ∙ ap Some o.is_held;
        cells = k.cells;
        waits = o.waits;
        depth = o.depth;
        others = others_of M.functions vs co M.coroutines T.coroutines k.held over only k.coroutines;
      }

  around : Around M T
  around = record { heap = k.heap; globals = k.globals; printed = k.printed; fuel = k.fuel; chain = k.chain }

  pub running_step : Leads known M.printed (tick codes_run known T) (step_by rows go M)
  running_step =
      let d = both_first Dressed k.function (slice_get M.functions k.frame.function) (slice_get T.functions k.frame.function) k.there (k.functions k.frame.function) in
      from d.0 d.1 d.2
    where
      from : (g' : talk.Function Prototype) → slice_get T.functions k.frame.function ≡ Some g' → Dressed k.function g' → Leads known M.printed (tick codes_run known T) (step_by rows go M)
      from g' talks_there dressed =
          let m = middle g' talks_there in
          let a : Activation = k.a in
          let s : State = before a k.captured in
          let fixed = fixed_of a k.frame.own k.alike.fixed in
          let al : Alike a k.frame.own = record { fixed = fixed; values = k.alike.values; size = k.alike.size } in
          let V : TalkWorld = record T { frames = talking k.frame.function s ∷ k.talks_below; now = talks } in
          let same : V ≡ T = sym (ap (λ fr. record T { frames = fr }) k.top ∙ ap (λ nw. record T { frames = talking k.frame.function s ∷ k.talks_below; now = nw }) k.now) in
          let stepped : step_by rows go M ≡ lua_step M (stack_at co (lua k.frame ∷ k.below)) k.frame k.function.code k.frame.wait = ap (λ o. elim o as (λ _. Outcome) [ None ↦ trapped | Some o ↦ o ]) (top_steps M co k.frame.function k.frame.wait k.frame.own k.function k.below m.last m.runs m.there) in
          let runs_on : lua_step M (stack_at co (lua k.frame ∷ k.below)) k.frame k.function.code k.frame.wait ≡ run (expand (text_at k.function.code k.frame.own.pc)) [] M = ap (lua_step M (stack_at co (lua k.frame ∷ k.below)) k.frame k.function.code) k.runs in
          let same_pc : run (expand (text_at k.function.code k.frame.own.pc)) [] M ≡ run (expand (text_at k.function.code a.pc)) [] M = ap (λ pc. run (expand (text_at k.function.code pc)) [] M) (sym fixed.pc) in
          let m1 : Middle M T (shared_in k.captured.gone T.cells) co k.frame.function k.function g' running k.frame.own k.captured.held k.below k.talks_below = subst (λ w. Middle M T (shared_in k.captured.gone T.cells) co k.frame.function k.function g' w k.frame.own k.captured.held k.below k.talks_below) k.runs m in
          let row = row_leads known M.printed at_once k.frame.function k.function g' dressed a.pc running (text_at k.function.code a.pc) [] a k.frame.own k.captured M V co k.below k.talks_below al refl (text_good k.function.code a.pc) refl (sym k.printed) around m1 in
          let ticked : Leads known M.printed (tick codes_run known V) (run (expand (text_at k.function.code a.pc)) [] M) =
          subst (λ X. Leads known M.printed X (run (expand (text_at k.function.code a.pc)) [] M)) (sym (talk_tick T k.frame.function s k.talks_below k.function g' talks_there dressed)) row in
          subst (λ o. Leads known M.printed (tick codes_run known T) o) (sym (stepped ∙ runs_on ∙ same_pc)) (subst (λ X. Leads known M.printed (tick codes_run known X) (run (expand (text_at k.function.code a.pc)) [] M)) same ticked)

pub running_steps : RunningSteps
running_steps primitives rows known M T solid settled k =
    let t = settled.is_top in
    running_step rows known primitives M T solid t.coroutine t.last k (t.base ++ lua t.top ∷ []) t.frames

-- a frame hears what it waited for
pub knows_told : (w : Wait Value) (vs : List Value) → Knows w → 0 < length (told_values w (values vs))
knows_told (leaving e) vs k = omega arith
knows_told _ vs k = absurd k

-- what a frame hears that waits
pub wakes : (W : World) (s : Stack) (fr : LuaFrame) (p : Prototype) → IsWaiting fr.wait → lua_step W s fr p fr.wait ≡ run (goes_on_by (after fr.wait p fr.own.pc (values W.moving))) (told_values fr.wait (values W.moving)) (woken W s fr)
wakes W s fr p i = by fr.wait i
  where
    by : (w : Wait Value) → IsWaiting w → lua_step W s fr p w ≡ run (goes_on_by (after w p fr.own.pc (values W.moving))) (told_values w (values W.moving)) (woken W s fr)
    by running i = absurd i
    by for_call i = refl
    by _ i = refl
