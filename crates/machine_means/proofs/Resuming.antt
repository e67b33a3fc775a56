-- A coroutine goes into another one, which waits or has not begun.
use Rattle.std.proofs.Common.{ℕ, ◌≡◌, ◌≢◌, List, [], ◌∷◌, ◌++◌, length, Some, refl, sym, ap, subst, ◌∙◌, false}
use Rattle.std.specs.Prelude.{slice_get, slice_set, nat_lt, cond}
use Rattle.int_core.specs.Value.{Value}
use Rattle.machine_core.specs.World as machine
use Rattle.machine_core.specs.World.{in_progress}
use Rattle.machine_core.specs.Moves.{made, resumed, is_entered, put_coroutine, wait_for_another, go_into}
use Rattle.int_core.specs.Limits.{greatest_resumes}
use Rattle.machine_core.specs.Moves as moves
use Rattle.lua_meaning.specs.World as talk
use Rattle.lua_meaning.specs.Calls.{goes_along, goes_into}
use Rattle.machine_core.specs.Talk.{State}
use Rattle.list_laws.proofs.Ends.{upward}
use Rattle.list_laws.proofs.Items.{get_set_other}
use Rattle.list_laws.specs.Held.{Held}
use Rattle.machine_means.specs.Joined.{TalkFrame, TalkWorld, Stacks, CoroutinePair, CoroutinesPair, Joined}
use Rattle.machine_means.proofs.CellWrites.{all3_first}
use Rattle.machine_means.proofs.Held.{reverse_is}
use Rattle.machine_means.proofs.Switches.{Never, OnlyRuns, co_put, set_same, never_runs, running_is}

pub suspended_is : (fs : List machine.Function) (vs : List Value) (run : List machine.Frame → List Held → Type 0) (below : List machine.Frame) (y : talk.Coroutine State) (hs : List Held) → CoroutinePair fs vs run (machine.suspended below) y hs → (ts : List TalkFrame) × (y ≡ talk.suspended ts) × Stacks false fs vs below ts hs
suspended_is fs vs run below (talk.suspended ts) hs k = (ts, refl, k)
suspended_is fs vs run below _ hs k = absurd k

abbrev fresh_with : Value → talk.Coroutine State
fresh_with body = talk.fresh body

pub fresh_is : (fs : List machine.Function) (vs : List Value) (run : List machine.Frame → List Held → Type 0) (body : Value) (y : talk.Coroutine State) (hs : List Held) → CoroutinePair fs vs run (machine.fresh body) y hs → (y ≡ talk.fresh body) × (hs ≡ [])
fresh_is fs vs run body (talk.fresh b) hs k = (ap fresh_with (sym k.0), k.1)
fresh_is fs vs run body _ hs k = absurd k

-- what a coroutine that is to go on holds
module _ (M : machine.World) (T : TalkWorld) (k : Joined false M T) (co : ℕ) where
  abbrev run_in : List machine.Frame → List Held → Type 0
  run_in = λ fr hs. Stacks false M.functions T.cells fr T.frames hs

  pub suspended_held : (target : List machine.Frame) (ts : List TalkFrame) → slice_get M.coroutines co ≡ Some (machine.suspended target) → slice_get T.coroutines co ≡ Some (talk.suspended ts) → (hs : List Held) × (slice_get k.held co ≡ Some hs) × Stacks false M.functions T.cells target ts hs
  suspended_held target ts waits there =
      let p = all3_first (CoroutinePair M.functions T.cells run_in) (machine.suspended target) (slice_get M.coroutines co) (slice_get T.coroutines co) (slice_get k.held co) waits (k.coroutines co) in
      let s = suspended_is M.functions T.cells run_in target p.0 p.1 p.4 in
      let same : Some (talk.suspended s.0) ≡ Some (talk.suspended ts) = ap Some (sym s.1) ∙ sym p.2 ∙ there in
      let frames_same : s.0 ≡ ts = cc in
      (p.1, p.3, subst (λ ts. Stacks false M.functions T.cells target ts p.1) frames_same s.2)

  pub fresh_held : (body : Value) → slice_get M.coroutines co ≡ Some (machine.fresh body) → (slice_get T.coroutines co ≡ Some (talk.fresh body)) × (slice_get k.held co ≡ Some [])
  fresh_held body waits =
      let p = all3_first (CoroutinePair M.functions T.cells run_in) (machine.fresh body) (slice_get M.coroutines co) (slice_get T.coroutines co) (slice_get k.held co) waits (k.coroutines co) in
      let f = fresh_is M.functions T.cells run_in body p.0 p.1 p.4 in
      (p.2 ∙ ap Some f.0, p.3 ∙ ap Some f.1)

module _ (M : machine.World) (T : TalkWorld) (by co : ℕ) (rest : List ℕ) (chain : T.chain ≡ by ∷ rest) (apart : by ≢ co)
    (frames target : List machine.Frame) (ts : List TalkFrame) (k : Joined false M T)
    (runs : slice_get M.coroutines by ≡ Some (in_progress frames)) (only : OnlyRuns M.coroutines by)
    (was : machine.Coroutine) (will : talk.Coroutine State) (waits : slice_get M.coroutines co ≡ Some was) (there : slice_get T.coroutines co ≡ Some will)
    (hs : List Held) (holds : slice_get k.held co ≡ Some hs) (stack : Stacks false M.functions T.cells target ts hs) where
  abbrev run : List machine.Frame → List Held → Type 0
  run = λ fr hs. Stacks false M.functions T.cells fr T.frames hs

  abbrev run' : List machine.Frame → List Held → Type 0
  run' = λ fr hs. Stacks false M.functions T.cells fr ts hs

  abbrev pub gone_into : List Value → machine.World
  gone_into vs = record M { coroutines = slice_set (slice_set M.coroutines by (machine.normal frames)) co (in_progress target); chain = M.chain ++ co ∷ []; moving = vs }

  pub resumes_move : (vs : List Value) → nat_lt greatest_resumes (length M.chain) ≡ false
      → moves.resumes M (record { coroutine = by; frames = frames }) co (machine.suspended target) vs ≡ made (gone_into vs) [] (resumed is_entered)
  unfolding put_coroutine wait_for_another go_into
  resumes_move vs l = ap (λ b. cond b (made M [] (moves.refused (Rattle.std.specs.Prelude.codes "too many nested resumes"))) (made (gone_into vs) [] (resumed is_entered))) l

  own : (y : talk.Coroutine State) × (hs : List Held) × (slice_get T.coroutines by ≡ Some y) × (slice_get k.held by ≡ Some hs) × CoroutinePair M.functions T.cells run (in_progress frames) y hs
  own = all3_first (CoroutinePair M.functions T.cells run) (in_progress frames) (slice_get M.coroutines by) (slice_get T.coroutines by) (slice_get k.held by) runs (k.coroutines by)

  parked : CoroutinesPair M.functions T.cells Never (slice_set M.coroutines by (machine.normal frames)) (slice_set T.coroutines by (talk.normal T.frames)) k.held
  parked =
      let p = own in
      subst (λ hss. CoroutinesPair M.functions T.cells Never (slice_set M.coroutines by (machine.normal frames)) (slice_set T.coroutines by (talk.normal T.frames)) hss) (set_same k.held by p.1 p.3)
      (co_put M.functions T.cells run Never M.coroutines T.coroutines k.held by (in_progress frames) (machine.normal frames) p.0 (talk.normal T.frames) p.1 p.1
      (λ j fr e n. n (sym (only j fr e))) runs p.2 p.3 (running_is M.functions T.cells run frames p.0 p.1 p.4).1 k.coroutines)

  abbrev pub talk_into : TalkWorld
  talk_into = record T { coroutines = slice_set (slice_set T.coroutines by (talk.normal T.frames)) co talk.running; chain = co ∷ by ∷ rest; frames = ts }

  pub into_is : goes_into T co ts ≡ record T { coroutines = slice_set (slice_set T.coroutines by (talk.normal T.frames)) co talk.running; chain = co ∷ by ∷ rest; frames = ts }
  into_is = ap (goes_along T co ts) chain

  -- the frames of both stand where they stood, and no cell changes
  pub joined_into : (vs : List Value) → Joined false (gone_into vs) talk_into
  joined_into vs = record {
    heap = k.heap;
    globals = k.globals;
    printed = k.printed;
    fuel = k.fuel;
    chain = ap (λ c. c ++ co ∷ []) (k.chain ∙ reverse_is T.chain ∙ ap upward chain) ∙ sym (reverse_is (co ∷ by ∷ rest));
    functions = k.functions;
    held = k.held;
    cells = k.cells;
    coroutines =
        subst (λ hss. CoroutinesPair M.functions T.cells run' (slice_set (slice_set M.coroutines by (machine.normal frames)) co (in_progress target)) (slice_set (slice_set T.coroutines by (talk.normal T.frames)) co talk.running) hss) (set_same k.held co hs holds)
        (co_put M.functions T.cells Never run' (slice_set M.coroutines by (machine.normal frames)) (slice_set T.coroutines by (talk.normal T.frames)) k.held co was (in_progress target) will talk.running hs hs
        (λ j fr e n. never_runs M.functions T.cells (slice_get (slice_set M.coroutines by (machine.normal frames)) j) (slice_get (slice_set T.coroutines by (talk.normal T.frames)) j) (slice_get k.held j) fr e (parked j))
        (get_set_other M.coroutines by co (machine.normal frames) apart ∙ waits) (get_set_other T.coroutines by co (talk.normal T.frames) apart ∙ there) holds stack parked);
  }

  pub resumed_into : (vs : List Value) → Joined false (gone_into vs) (goes_into T co ts)
  resumed_into vs = subst (λ U. Joined false (gone_into vs) U) (sym into_is) (joined_into vs)
