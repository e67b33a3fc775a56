-- Scripts whose calls never end come to a `stack overflow`, by induction over the frames: at the greatest depth, and not before.
use Rattle.std.proofs.Common.{◌≡◌, ℕ, zero, suc, ◌+◌, ◌-◌, ◌*◌, ◌≤◌, ◌<◌, Bool, true, false, cond, List, [], ◌∷◌, length, Option, Some, refl, sym, ◌∙◌, ap, ap₂, arith}
use Rattle.std.proofs.lemmas.Bool.{le-leb, lt-leb}
use Rattle.std.specs.Prelude.{nat_le, option_map, codes}
use Rattle.int_core.specs.Value.{Value}
use Rattle.int_core.specs.Limits.{greatest_depth}
use Rattle.tree_core.specs.Tree.{Body}
use Rattle.tree_activation.specs.Work.{Celling, when_declared, when_captured, State}
use Rattle.lua_meaning.specs.World.{raises_error, unwinds, now_in, runs_main}
use Rattle.lua_meaning.specs.Calls.{raised_to}
use Rattle.lua_meaning.specs.Step.{has_ended, tick}
use Rattle.lua_meaning.specs.Meaning.{Meaning, has_returned, has_failed, has_spent, at_end, suspends}
use Rattle.lua_meaning.specs.Opening.{primitives}
use Rattle.lua_meaning.specs.TreeMeaning.{trees}
use Rattle.lua_meaning.proofs.Scripts.{nothing_built, summary, run, ran, usual}
use Rattle.lua_meaning.proofs.Runs.{ended_within}
use Rattle.lua_meaning.proofs.Endless.{endless, endless_in_pcall, Run, after, begins, Caller, by_main, by_pcall, tower, world, with_f, entered, steps_of_main, main_calls, main_unpaid, main_cannot_pay, steps_of_pcall, pcall_calls, grown, deeper, steps_of_call, refused, f_calls, unpaid, f_cannot_pay, overflow, n_kept, raised, raises_it, passes_up, leaving, leaves_top, leaves_call, main_left, leaves_main, pcall_left, leaves_pcall}

-- numbers of steps

ended : (celling : Celling) (n : ℕ) (W : Run) → has_ended W.now ≡ true → after celling n W ≡ W
ended celling n W is = ended_within (trees celling) (primitives nothing_built) zero n W is (omega arith)

abbrev next : Celling → Run → Run
next celling W = tick (trees celling) (primitives nothing_built) W

steps_add : (celling : Celling) (m n : ℕ) (W : Run) → after celling (m + n) W ≡ after celling n (after celling m W)
steps_add celling zero n W = let e : zero + n ≡ n = omega arith in ap (λ k. after celling k W) e
steps_add celling (suc m) n W =
    let e : suc m + n ≡ suc (m + n) = omega arith in
    ap (λ k. after celling k W) e ∙ by (has_ended W.now) refl (steps_add celling m n (next celling W)) where
      by : (b : Bool) → has_ended W.now ≡ b → after celling (m + n) (next celling W) ≡ after celling n (after celling m (next celling W))
          → elim b as (λ _. Run) [ true ↦ W | false ↦ after celling (m + n) (next celling W) ] ≡ after celling n (elim b as (λ _. Run) [ true ↦ W | false ↦ after celling m (next celling W) ])
      by true is more = sym (ended celling n W is)
      by false is more = more

-- what a turn without lines gives
abbrev given : Run → Option (Meaning Body State)
given W = at_end W.now W suspends

-- from W on, `most` steps or more give m
pub record Gives (celling : Celling) (W : Run) (m : Meaning Body State) (most : ℕ) : Type 0 where
  pub within : (n : ℕ) → most ≤ n → given (after celling n W) ≡ Some m

at_once : (celling : Celling) (W : Run) (m : Meaning Body State) → has_ended W.now ≡ true → given W ≡ Some m → Gives celling W m 0
at_once celling W m is gives = record { within = λ n enough. ap given (ended celling n W is) ∙ gives }

later : {m : Meaning Body State} {most : ℕ} → (celling : Celling) (W V : Run) (steps all : ℕ) → after celling steps W ≡ V → steps + most ≤ all
    → Gives celling V m most → Gives celling W m all
later celling W V steps all leads fits gives = record {
  within = λ n enough.
      let e : n ≡ steps + (n - steps) = omega (arith, fits, enough) in
      ap (λ k. given (after celling k W)) e ∙ ap given (steps_add celling steps (n - steps) W ∙ ap (after celling (n - steps)) leads)
      ∙ gives.within (n - steps) (omega (arith, fits, enough));
}

within_more : {celling : Celling} {W : Run} {m : Meaning Body State} {most more : ℕ} → most ≤ more → Gives celling W m most → Gives celling W m more
within_more less gives = record { within = λ n enough. gives.within n (omega (arith, less, enough)) }

-- an error leaves all calls

abbrev left_on : Caller → (values : List Value) → (fuel : ℕ) → Run
left_on caller values fuel = world caller.script values fuel caller.bottom (unwinds overflow)

-- what the frames at the bottom make of the error
pub record Catches (celling : Celling) (caller : Caller) (m : Meaning Body State) (most : ℕ) : Type 0 where
  pub hears : (W : Run) → runs_main W ≡ true → raised_to (trees celling) W overflow caller.bottom ≡ now_in W (unwinds overflow)
  pub ends_so : (values : List Value) (fuel : ℕ) → Gives celling (left_on caller values fuel) m most

abbrev overflowed : Meaning Body State
overflowed = record { printed = codes "error\ts.lua:1: stack overflow\n"; outcome = has_failed }

fails : (celling : Celling) → Catches celling (by_main celling) overflowed 4
fails celling = record {
  hears = λ W main_runs. rw main_runs refl;
  ends_so = λ values fuel. later celling (left_on (by_main celling) values fuel) (main_left values fuel) 4 4 (leaves_main celling values fuel) (omega arith)
      (at_once celling (main_left values fuel) overflowed refl refl);
}

abbrev caught : Meaning Body State
caught = record { printed = codes "return\tfalse\ts.lua:1: stack overflow\n"; outcome = has_returned }

is_caught : (celling : Celling) → Catches celling by_pcall caught 2
is_caught celling = record {
  hears = λ W main_runs. refl;
  ends_so = λ values fuel. later celling (left_on by_pcall values fuel) (pcall_left values fuel) 2 2 (leaves_pcall celling values fuel) (omega arith)
      (at_once celling (pcall_left values fuel) caught refl refl);
}

module _ {celling : Celling} {caller : Caller} {m : Meaning Body State} {most : ℕ} (catches : Catches celling caller m most) where
  leaves_all : (cells : List ℕ) (values : List Value) (fuel : ℕ) → Gives celling (leaving celling caller cells values fuel) m (3 * length cells + most)
  leaves_all [] values fuel = within_more (omega arith) (catches.ends_so values fuel)
  leaves_all (c ∷ cells) values fuel =
      later celling (leaving celling caller (c ∷ cells) values fuel) (leaving celling caller cells (n_kept celling c values) fuel) 3 (3 * length (c ∷ cells) + most)
      (leaves_call celling caller c cells values fuel) (omega arith) (leaves_all cells (n_kept celling c values) fuel)

  unwinds_it : (c : ℕ) (cells : List ℕ) (values : List Value) (fuel : ℕ)
      → after celling 1 (raised celling caller c cells values fuel (raises_error overflow)) ≡ raised celling caller c cells values fuel (unwinds overflow)
  unwinds_it c cells values fuel =
      let W = raised celling caller c cells values fuel (raises_error overflow) in
      passes_up celling caller cells W (catches.hears W refl)

  -- and the call that is refused first
  refusal : (cells : List ℕ) (more : List Value) (fuel : ℕ) → Gives celling (refused celling caller cells more fuel) m (3 * length cells + most + 5)
  refusal cells more fuel =
      let c = length (with_f more) in
      let values = with_f (grown celling more) in
      let first = raised celling caller c cells values fuel (raises_error overflow) in
      let second = raised celling caller c cells values fuel (unwinds overflow) in
      let third = leaving celling caller cells (n_kept celling c values) fuel in
      later celling (refused celling caller cells more fuel) first 1 (3 * length cells + most + 5) (raises_it celling caller cells more fuel) (omega arith)
      (later celling first second 1 (3 * length cells + most + 4) (unwinds_it c cells values fuel) (omega arith)
      (later celling second third 3 (3 * length cells + most + 3) (leaves_top celling caller c cells values fuel) (omega arith)
      (leaves_all cells (n_kept celling c values) fuel)))

-- whether a call has room

if_true : (b : Bool) (W V : Run) → b ≡ true → cond b W V ≡ W
if_true true W V is = refl
if_true false W V is = absurd (cc)

if_false : (b : Bool) (W V : Run) → b ≡ false → cond b W V ≡ V
if_false true W V is = absurd (cc)
if_false false W V is = refl

few_steps : (celling : Celling) → steps_of_call celling ≤ 14
few_steps when_declared = omega arith
few_steps when_captured = omega arith

height : (celling : Celling) (caller : Caller) (cells : List ℕ) → length (tower celling caller cells) ≡ length cells + length caller.bottom
height celling caller [] = omega arith
height celling caller (c ∷ cells) = let h = height celling caller cells in omega (arith, h)

abbrev frames_then : Celling → Caller → (cells : List ℕ) → (more : List Value) → ℕ
frames_then celling caller cells more = length (tower celling caller (deeper more cells)) + 1

-- the frame of the call that is made is one more
goes_deeper : (celling : Celling) (caller : Caller) (cells : List ℕ) (more : List Value) (fuel : ℕ) → length cells + length caller.bottom + 2 ≤ greatest_depth
    → after celling (steps_of_call celling) (entered celling caller cells more (suc fuel)) ≡ entered celling caller (deeper more cells) (grown celling more) fuel
goes_deeper celling caller cells more fuel room =
    let h = height celling caller (deeper more cells) in
    f_calls celling caller cells more fuel
    ∙ if_true (nat_le (frames_then celling caller cells more) greatest_depth) (entered celling caller (deeper more cells) (grown celling more) fuel) (refused celling caller cells more fuel)
    (le-leb (frames_then celling caller cells more) greatest_depth (omega (arith, h, room)))

is_refused : (celling : Celling) (caller : Caller) (cells : List ℕ) (more : List Value) (fuel : ℕ) → greatest_depth < length cells + length caller.bottom + 2
    → after celling (steps_of_call celling) (entered celling caller cells more (suc fuel)) ≡ refused celling caller cells more fuel
is_refused celling caller cells more fuel full =
    let h = height celling caller (deeper more cells) in
    f_calls celling caller cells more fuel
    ∙ if_false (nat_le (frames_then celling caller cells more) greatest_depth) (entered celling caller (deeper more cells) (grown celling more) fuel) (refused celling caller cells more fuel)
    (lt-leb (frames_then celling caller cells more) greatest_depth (omega (arith, h, full)))

-- `levels` further calls have room
overflows : {celling : Celling} {caller : Caller} {m : Meaning Body State} {most : ℕ} → Catches celling caller m most
    → (levels : ℕ) (cells : List ℕ) (more : List Value) (fuel : ℕ) → length cells + levels + length caller.bottom + 1 ≡ greatest_depth → levels < fuel
    → Gives celling (entered celling caller cells more fuel) m (17 * levels + 3 * length cells + most + 19)
overflows catches levels cells more zero deep paid = absurd (omega (arith, paid))
overflows {celling = celling} {caller = caller} {most = most} catches zero cells more (suc fuel) deep paid =
    let few = few_steps celling in
    later celling (entered celling caller cells more (suc fuel)) (refused celling caller cells more fuel) (steps_of_call celling) (17 * zero + 3 * length cells + most + 19)
    (is_refused celling caller cells more fuel (omega (arith, deep))) (omega (arith, few)) (refusal catches cells more fuel)
overflows {celling = celling} {caller = caller} {most = most} catches (suc levels) cells more (suc fuel) deep paid =
    let few = few_steps celling in
    later celling (entered celling caller cells more (suc fuel)) (entered celling caller (deeper more cells) (grown celling more) fuel) (steps_of_call celling)
    (17 * suc levels + 3 * length cells + most + 19) (goes_deeper celling caller cells more fuel (omega (arith, deep))) (omega (arith, few))
    (overflows catches levels (deeper more cells) (grown celling more) fuel (omega (arith, deep)) (omega (arith, paid)))

abbrev ran_dry : Meaning Body State
ran_dry = record { printed = []; outcome = has_spent }

-- there are no more units than calls that have room
runs_dry : (celling : Celling) (caller : Caller) (fuel : ℕ) (cells : List ℕ) (more : List Value) → length cells + fuel + length caller.bottom + 1 ≤ greatest_depth
    → Gives celling (entered celling caller cells more fuel) ran_dry (14 * fuel + 14)
runs_dry celling caller zero cells more short =
    let few = few_steps celling in
    later celling (entered celling caller cells more zero) (unpaid celling caller cells more) (steps_of_call celling) (14 * zero + 14)
    (f_cannot_pay celling caller cells more) (omega (arith, few)) (at_once celling (unpaid celling caller cells more) ran_dry refl refl)
runs_dry celling caller (suc fuel) cells more short =
    let few = few_steps celling in
    later celling (entered celling caller cells more (suc fuel)) (entered celling caller (deeper more cells) (grown celling more) fuel) (steps_of_call celling) (14 * suc fuel + 14)
    (goes_deeper celling caller cells more fuel (omega (arith, short))) (omega (arith, few))
    (runs_dry celling caller fuel (deeper more cells) (grown celling more) (omega (arith, short)))

-- the scripts, with 2,000,000 steps

few_for_main : (celling : Celling) → steps_of_main celling ≤ 17
few_for_main when_declared = omega arith
few_for_main when_captured = omega arith

few_for_pcall : (celling : Celling) → steps_of_pcall celling ≤ 21
few_for_pcall when_declared = omega arith
few_for_pcall when_captured = omega arith

script_overflows : (celling : Celling) (budget : ℕ) → 100000 ≤ budget → Gives celling (begins celling endless budget) overflowed 2000000
script_overflows celling zero paid = absurd (omega (arith, paid))
script_overflows celling (suc budget) paid =
    let few = few_for_main celling in
    later celling (begins celling endless (suc budget)) (entered celling (by_main celling) [] [] budget) (steps_of_main celling) 2000000
    (main_calls celling budget) (omega (arith, few)) (overflows (fails celling) 99998 [] [] budget (omega arith) (omega (arith, paid)))

script_runs_dry : (celling : Celling) (budget : ℕ) → budget < 100000 → Gives celling (begins celling endless budget) ran_dry 2000000
script_runs_dry celling zero short =
    let few = few_for_main celling in
    later celling (begins celling endless zero) (main_unpaid celling) (steps_of_main celling) 2000000 (main_cannot_pay celling) (omega (arith, few))
    (at_once celling (main_unpaid celling) ran_dry refl refl)
script_runs_dry celling (suc budget) short =
    let few = few_for_main celling in
    later celling (begins celling endless (suc budget)) (entered celling (by_main celling) [] [] budget) (steps_of_main celling) 2000000
    (main_calls celling budget) (omega (arith, few, short)) (runs_dry celling (by_main celling) budget [] [] (omega (arith, short)))

script_catches : (celling : Celling) (budget : ℕ) → 100001 ≤ budget → Gives celling (begins celling endless_in_pcall budget) caught 2000000
script_catches celling zero paid = absurd (omega (arith, paid))
script_catches celling (suc zero) paid = absurd (omega (arith, paid))
script_catches celling (suc (suc budget)) paid =
    let few = few_for_pcall celling in
    later celling (begins celling endless_in_pcall (suc (suc budget))) (entered celling by_pcall [] [] budget) (steps_of_pcall celling) 2000000
    (pcall_calls celling budget) (omega (arith, few)) (overflows (is_caught celling) 99998 [] [] budget (omega arith) (omega (arith, paid)))

both : (script : Body) (m : Meaning Body State) (steps budget : ℕ) → ((celling : Celling) → Gives celling (begins celling script budget) m 2000000) → 2000000 ≤ steps
    → run steps script [] budget ≡ (Some (summary m), Some (summary m))
both script m steps budget gives enough =
    let early = gives when_declared in
    let late = gives when_captured in
    ap₂ (λ x y. (x, y)) (ap (option_map summary) (late.within steps enough)) (ap (option_map summary) (early.within steps enough))

-- local function f(n) return 1 + f(n) end f(1), with a unit for each call up to the greatest depth and for the one beyond
stack_overflows : (steps budget : ℕ) → 2000000 ≤ steps → 100000 ≤ budget → run steps endless [] budget ≡ ran "error\ts.lua:1: stack overflow\n" 1
stack_overflows steps budget enough paid = both endless overflowed steps budget (λ celling. script_overflows celling budget paid) enough

-- with fewer units, all calls that are paid have room
no_overflow_before : (steps budget : ℕ) → 2000000 ≤ steps → budget < 100000 → run steps endless [] budget ≡ ran "" 4
no_overflow_before steps budget enough short = both endless ran_dry steps budget (λ celling. script_runs_dry celling budget short) enough

usual_overflow : run 2000000 endless [] usual ≡ ran "error\ts.lua:1: stack overflow\n" 1
usual_overflow = stack_overflows 2000000 usual (omega arith) (omega arith)

-- local function f(n) return 1 + f(n) end return pcall(f,1)
overflow_is_caught : (steps budget : ℕ) → 2000000 ≤ steps → 100001 ≤ budget → run steps endless_in_pcall [] budget ≡ ran "return\tfalse\ts.lua:1: stack overflow\n" 0
overflow_is_caught steps budget enough paid = both endless_in_pcall caught steps budget (λ celling. script_catches celling budget paid) enough
