-- Whole runs of a script, both ways.
use Rattle.std.proofs.Common.{ℕ, suc, ◌+◌, ◌≡◌, List, [], ◌∷◌, refl, sym, subst, ◌∙◌, arith}
use Rattle.list_laws.proofs.Items.{some_same}
use Rattle.lua_meaning.specs.Meaning as meaning
use Rattle.lua_meaning.specs.Meaning.{Meaning, IsOnward}
use Rattle.lua_meaning.proofs.Runs.{given_within as meaning_within}
use Rattle.code_means.specs.Runs.{codes_run}
use Rattle.lua_meaning.specs.Step.{Primitives}
use Rattle.code_core.specs.Prototype.{Prototype}
use Rattle.machine_core.specs.World.{World}
use Rattle.machine_core.specs.Moves.{Row}
use Rattle.machine_core.specs.Talk.{State}
use Rattle.machine_sound.specs.Sound.{Sound}
use Rattle.machine_sound.specs.Laws.{PrimitivesSafe}
use Rattle.machine_means.specs.Joined.{TalkWorld}
use Rattle.means_steps.specs.Steps.{MainWaits, SameLibrary}
use Rattle.machine_runs.specs.Opening.{begun, handed_line}
use Rattle.machine_runs.specs.Runs.{is_suspended, Run, CodeOnward}
use Rattle.machine_runs.proofs.Runs.{run_once}
use Rattle.means_runs.specs.Runs.{RunsAlike, ScriptsRun, ScriptsMean}
use Rattle.means_runs.proofs.Lines.{Short, next_begins, both_run, both_mean}
use Rattle.means_runs.proofs.First.{first_begins}

pub scripts_run : ScriptsRun
scripts_run primitives rows library W T script input budget k r c =
    let first = first_begins primitives rows library k.safe k.same W T script budget k.sound k.opened k.script_ok in
    let b = both_run primitives rows library k.safe k.same input (begun W script.main) budget (meaning.begun codes_run library T script budget) first k.lines c.count r c.gives in
    let same : b.r ≡ r = run_once rows (begun W script.main) input budget b.r r (record { count = b.count; gives = b.gives }) c in
    (b.m, record { steps = b.steps; gives = b.means }, subst (λ r. RunsAlike r b.m) same b.alike)

pub scripts_mean : ScriptsMean
scripts_mean primitives rows library W T script input budget k m c =
    let X = meaning.begun codes_run library T script budget in
    let first = first_begins primitives rows library k.safe k.same W T script budget k.sound k.opened k.script_ok in
    let b = both_mean primitives rows library k.safe k.same input (begun W script.main) budget X first k.lines c.steps m c.gives in
    let far : ℕ = b.steps + c.steps in
    let same : b.m ≡ m = some_same b.m m (sym (meaning_within codes_run library b.steps far X input budget b.m b.means (omega arith)) ∙ meaning_within codes_run library c.steps far X input budget m c.gives (omega arith)) in
    (b.r, record { count = b.count; gives = b.gives }, subst (λ m. RunsAlike b.r m) same b.alike)

-- a run that waits for a line as its meaning does goes on as that does, with whatever budget
pub onward_run : (primitives : ℕ) (rows : ℕ → Row) (library : Primitives Prototype) (safe : PrimitivesSafe primitives rows) (same : SameLibrary primitives rows library) (input : List (List ℕ)) (budget : ℕ) (W : World) (T : TalkWorld)
    → Sound primitives W → MainWaits W T → Short primitives rows library safe same input → (r : Run) → CodeOnward rows W input budget r → (m : Meaning Prototype State) × IsOnward codes_run library T input budget m × RunsAlike r m
onward_run primitives rows library safe same [] budget W T sound waits short r c =
    let m : Meaning Prototype State = record { printed = []; outcome = meaning.is_suspended T } in
    (m, record { steps = 0; gives = refl }, subst (λ r. RunsAlike r m) (some_same (record { printed = []; close = is_suspended; last = W }) r c.gives) (record { printed = refl; ends = waits }))
onward_run primitives rows library safe same (line ∷ more) budget W T sound waits short r c =
    let X : TalkWorld = meaning.handed_line codes_run library T line budget in
    let begins = next_begins primitives rows library safe same W T line budget sound waits (short 0 line refl) in
    let b = both_run primitives rows library safe same more (handed_line W line) budget X begins (λ i x e. short (suc i) x e) c.count r c.gives in
    let one : b.r ≡ r = run_once rows (handed_line W line) more budget b.r r (record { count = b.count; gives = b.gives }) (record { count = c.count; gives = c.gives }) in
    (b.m, record { steps = b.steps; gives = b.means }, subst (λ r. RunsAlike r b.m) one b.alike)
