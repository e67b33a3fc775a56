-- A coroutine that has begun is resumed, or that is refused.
use Rattle.code_core.specs.Prototype.{Prototype}
use Rattle.load_rows.specs.Loading.{Builds}
use Rattle.std.proofs.Common.{ℕ, ◌≡◌, ◌≢◌, List, [], ◌∷◌, ◌++◌, length, Some, None, refl, sym, ap, subst, ◌∙◌, Bool, true, false, cond}
use Rattle.std.specs.Prelude.{slice_get, nat_lt, codes}
use Rattle.std.proofs.lemmas.List.{length-reverse}
use Rattle.int_core.specs.Value.{Value, bind, known, boolean, string, object, a_coroutine}
use Rattle.list_laws.specs.Held.{Held}
use Rattle.list_laws.proofs.Ends.{last_is}
use Rattle.list_laws.proofs.Items.{append_nil, get_set_same, get_set_other}
use Rattle.machine_core.specs.World as machine
use Rattle.machine_core.specs.World.{Frame, Coroutine, fresh, suspended, in_progress, normal, dead, failed, Stack, stack_of}
use Rattle.machine_core.specs.Text.{read}
use Rattle.machine_core.specs.Moves as moves
use Rattle.machine_core.specs.Moves.{Made, made, move, look, resume, ResumeShape, resumed, refused, is_entered, Outcome, trapped, act, run}
use Rattle.int_core.specs.Limits.{greatest_resumes}
use Rattle.machine_core.specs.MachineStep as rows
use Rattle.machine_core.specs.MachineStep.{resume_row, after_resume}
use Rattle.machine_core.specs.Talk.{State}
use Rattle.lua_meaning.specs.World as talk
use Rattle.lua_meaning.specs.World.{gives_back, breaks, now_in}
use Rattle.lua_meaning.specs.Calls as calls
use Rattle.lua_meaning.specs.Calls.{refuses, goes_into}
use Rattle.library_rows.specs.Library.{coroutine_resume}
use Rattle.lua_meaning.specs.Step.{does_primitive}
use Rattle.code_means.specs.Runs.{codes_run}
use Rattle.machine_sound.specs.Sound.{Solid, StackWaits}
use Rattle.machine_sound.proofs.Frames.{stack_is}
use Rattle.machine_means.specs.Joined.{TalkFrame, TalkWorld, Stacks, CoroutinePair, Joined}
use Rattle.machine_means.specs.Laws.{GivesBack, HasBegun, ResumesJoined}
use Rattle.machine_means.proofs.CellWrites.{all3_first}
use Rattle.machine_means.proofs.Resuming as resuming
use Rattle.machine_means.proofs.Running.{only_runs, runs_first}
use Rattle.machine_means.proofs.Handing.{moved, told_now, gives}

module _ (primitives : ℕ) (M : machine.World) (T : TalkWorld) (solid : Solid primitives M) (all : StackWaits primitives M) (k : Joined false M T) (co : ℕ) (vs : List Value) where
  abbrev N : machine.World
  N = record M { moving = [] }

  abbrev s : Stack
  s = record { coroutine = all.coroutine; frames = all.frames }

  abbrev env : List Value
  env = object a_coroutine co ∷ (vs ++ [])

  abbrev runs : List Frame → List Held → Type 0
  runs frames hs = Stacks false M.functions T.cells frames T.frames hs

  stack_now : stack_of M ≡ Some (record { coroutine = all.coroutine; frames = all.frames })
  stack_now = stack_is M all.coroutine all.frames all.last all.running

  pub begins : M.moving ≡ object a_coroutine co ∷ vs → run resume_row [] M ≡ run (act (resume (read 0) 1) (λ _ told. after_resume told)) env N
  begins e = ap (λ l. run (act (look (read 0)) (λ _ told. rows.resumes told 0)) l N) e

  pub move_is : (c : Coroutine) → slice_get M.coroutines co ≡ Some c → move (resume (read 0) 1) env N ≡ moves.resumes N s co c (vs ++ [])
  move_is c there =
      ap (λ o. bind {B = Made ResumeShape} o (λ s. bind (slice_get M.coroutines co) (λ c. moves.resumes N s co c (vs ++ [])))) stack_now
      ∙ ap (λ o. bind {B = Made ResumeShape} o (λ c. moves.resumes N s co c (vs ++ []))) there

  goes : (V : machine.World) (told : ResumeShape) → move (resume (read 0) 1) env N ≡ made V [] told → run (act (resume (read 0) 1) (λ _ told. after_resume told)) env N ≡ run (after_resume told) (env ++ []) V
  goes V told e = ap (λ m. elim m as (λ _. Outcome) [ None ↦ trapped | Some d ↦ run (after_resume d.told) (env ++ d.values) d.world ]) e

  -- it is refused with a text
  pub refusal : (text : List ℕ) (c : Coroutine) → slice_get M.coroutines co ≡ Some c → moves.resumes N s co c (vs ++ []) ≡ made N [] (refused text) → GivesBack (run (act (resume (read 0) 1) (λ _ told. after_resume told)) env N) (refuses T text)
  refusal text c there e =
      let mv : List Value = known (boolean false) ∷ known (string text) ∷ [] in
      let W : machine.World = record M { moving = mv } in
      subst (λ p. GivesBack p (refuses T text)) (sym (goes N (refused text) (move_is c there ∙ e)))
      (gives W (refuses T text) s (env ++ [] ++ []) stack_now (told_now false W T (gives_back mv) (moved false M T mv k)) refl)

  pub told_is : (builds : Builds Prototype) (d : talk.Coroutine State) → slice_get T.coroutines co ≡ Some d → does_primitive codes_run builds coroutine_resume T (object a_coroutine co ∷ vs) ≡ calls.resumes codes_run T co d vs
  told_is builds d e = ap (λ o. elim o as (λ _. TalkWorld) [ None ↦ breaks T | Some d ↦ calls.resumes codes_run T co d vs ]) e

  -- both refuse a coroutine with the same text
  pub record Refused (c : Coroutine) (d : talk.Coroutine State) : Type 0 where
    pub text : List ℕ
    pub machine_says : moves.resumes N s co c (vs ++ []) ≡ made N [] (refused text)
    pub talk_says : calls.resumes codes_run T co d vs ≡ refuses T text

  -- one that waits
  module _ (target : List Frame) (there : slice_get M.coroutines co ≡ Some (suspended target)) (ts : List TalkFrame) (talks : slice_get T.coroutines co ≡ Some (talk.suspended ts)) where
    apart : all.coroutine ≢ co
    apart q = let x : Some (in_progress all.frames) ≡ Some (suspended target) = sym all.running ∙ ap (slice_get M.coroutines) q ∙ there in cc

    same_length : length M.chain ≡ length T.chain
    same_length = ap (λ l. length l) k.chain ∙ length-reverse T.chain

    too_many : nat_lt greatest_resumes (length M.chain) ≡ true → GivesBack (run (act (resume (read 0) 1) (λ _ told. after_resume told)) env N) (calls.resumes codes_run T co (talk.suspended ts) vs)
    too_many l =
        let n : nat_lt greatest_resumes (length T.chain) ≡ true = ap (nat_lt greatest_resumes) (sym same_length) ∙ l in
        subst (λ U. GivesBack (run (act (resume (read 0) 1) (λ _ told. after_resume told)) env N) U) (sym (ap (λ b. cond b (refuses T (codes "too many nested resumes")) (now_in (goes_into T co ts) (gives_back vs))) n))
        (refusal (codes "too many nested resumes") (suspended target) there
        (ap (λ b. cond b (made {A = ResumeShape} N [] (refused (codes "too many nested resumes"))) (moves.starts_in (moves.wait_for_another N s) co (suspended target) (vs ++ []))) l))

    goes_on : nat_lt greatest_resumes (length M.chain) ≡ false → GivesBack (run (act (resume (read 0) 1) (λ _ told. after_resume told)) env N) (calls.resumes codes_run T co (talk.suspended ts) vs)
    goes_on l =
        let n : nat_lt greatest_resumes (length T.chain) ≡ false = ap (nat_lt greatest_resumes) (sym same_length) ∙ l in
        let f = runs_first primitives M solid all T false k in
        let kN = moved false M T [] k in
        let only = only_runs primitives M solid all in
        let h = resuming.suspended_held N T kN co target ts there talks in
        let V = resuming.gone_into N T all.coroutine co f.0 f.1 apart all.frames target ts kN all.running only (suspended target) (talk.suspended ts) there talks h.0 h.1 h.2 vs in
        let into : move (resume (read 0) 1) env N ≡ made V [] (resumed is_entered) =
        move_is (suspended target) there ∙ ap (moves.resumes N s co (suspended target)) (append_nil vs)
        ∙ resuming.resumes_move N T all.coroutine co f.0 f.1 apart all.frames target ts kN all.running only (suspended target) (talk.suspended ts) there talks h.0 h.1 h.2 vs l in
        let stack : stack_of V ≡ Some (record { coroutine = co; frames = target }) =
        stack_is V co target (last_is M.chain co)
        (get_set_same (Rattle.std.specs.Prelude.slice_set M.coroutines all.coroutine (normal all.frames)) co (suspended target) (in_progress target) (get_set_other M.coroutines all.coroutine co (normal all.frames) apart ∙ there)) in
        subst (λ U. GivesBack (run (act (resume (read 0) 1) (λ _ told. after_resume told)) env N) U) (sym (ap (λ b. cond b (refuses T (codes "too many nested resumes")) (now_in (goes_into T co ts) (gives_back vs))) n))
        (subst (λ p. GivesBack p (now_in (goes_into T co ts) (gives_back vs))) (sym (goes V (resumed is_entered) into))
        (gives V (now_in (goes_into T co ts) (gives_back vs)) (record { coroutine = co; frames = target }) (env ++ []) stack
        (told_now false V (goes_into T co ts) (gives_back vs) (resuming.resumed_into N T all.coroutine co f.0 f.1 apart all.frames target ts kN all.running only (suspended target) (talk.suspended ts) there talks h.0 h.1 h.2 vs)) refl))

    waits_joined : GivesBack (run (act (resume (read 0) 1) (λ _ told. after_resume told)) env N) (calls.resumes codes_run T co (talk.suspended ts) vs)
    waits_joined = by (nat_lt greatest_resumes (length M.chain)) refl
      where
        by : (b : Bool) → nat_lt greatest_resumes (length M.chain) ≡ b → GivesBack (run (act (resume (read 0) 1) (λ _ told. after_resume told)) (object a_coroutine co ∷ (vs ++ [])) (record M { moving = [] })) (calls.resumes codes_run T co (talk.suspended ts) vs)
        by true l = too_many l
        by false l = goes_on l

  abbrev Result : talk.Coroutine State → Type 0
  Result d = GivesBack (run (act (resume (read 0) 1) (λ _ told. after_resume told)) env N) (calls.resumes codes_run T co d vs)

  refused_so : (c : Coroutine) (d : talk.Coroutine State) → slice_get M.coroutines co ≡ Some c → Refused c d → Result d
  refused_so c d there x = subst (λ U. GivesBack (run (act (resume (read 0) 1) (λ _ told. after_resume told)) env N) U) (sym x.talk_says) (refusal x.text c there x.machine_says)

  from : (c : Coroutine) (d : talk.Coroutine State) (hs : List Held) → HasBegun c → slice_get M.coroutines co ≡ Some c → slice_get T.coroutines co ≡ Some d → CoroutinePair M.functions T.cells runs c d hs → Result d
  from (suspended target) (talk.suspended ts) hs begun there talks p = waits_joined target there ts talks
  from (in_progress frames) talk.running hs begun there talks p = refused_so (in_progress frames) talk.running there (record { text = codes "cannot resume non-suspended coroutine"; machine_says = refl; talk_says = refl })
  from (normal frames) (talk.normal ts) hs begun there talks p = refused_so (normal frames) (talk.normal ts) there (record { text = codes "cannot resume non-suspended coroutine"; machine_says = refl; talk_says = refl })
  from dead talk.dead hs begun there talks p = refused_so dead talk.dead there (record { text = codes "cannot resume dead coroutine"; machine_says = refl; talk_says = refl })
  from (failed e pending) (talk.failed d values) hs begun there talks p = refused_so (failed e pending) (talk.failed d values) there (record { text = codes "cannot resume dead coroutine"; machine_says = refl; talk_says = refl })
  from (fresh v) d hs begun there talks p = absurd begun
  from _ _ hs begun there talks p = absurd p

pub resumes_joined : ResumesJoined
resumes_joined builds primitives M T solid all k co vs moves c there begun =
    let p = all3_first (CoroutinePair M.functions T.cells (runs primitives M T solid all k co vs)) c (slice_get M.coroutines co) (slice_get T.coroutines co) (slice_get k.held co) there (k.coroutines co) in
    subst (λ U. GivesBack (run resume_row [] M) U) (sym (told_is primitives M T solid all k co vs builds p.0 p.2))
    (subst (λ o. GivesBack o (calls.resumes codes_run T co p.0 vs)) (sym (begins primitives M T solid all k co vs moves)) (from primitives M T solid all k co vs c p.0 p.1 begun there p.2 p.4))
