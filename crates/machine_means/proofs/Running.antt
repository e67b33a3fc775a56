-- Which coroutine runs, and which one resumed it, as the chain of a sound world has it.
use Rattle.std.proofs.Common.{ℕ, suc, ◌-◌, ◌<◌, ◌≡◌, ◌≢◌, ⊎_elim, List, [], ◌∷◌, ◌++◌, length, Some, None, refl, sym, ap, ◌∙◌, arith, Bool, true, false}
use Rattle.std.specs.Prelude.{slice_get, map, reverse, nat_eq}
use Rattle.std.proofs.lemmas.Bool.{cases_eq}
use Rattle.int_core.specs.Value.{last}
use Rattle.list_laws.proofs.Ends.{upward, last_is}
use Rattle.list_laws.proofs.Items.{get_old, get_new, length_more}
use Rattle.machine_core.specs.World as machine
use Rattle.machine_core.specs.World.{Frame, Coroutine, in_progress, normal}
use Rattle.machine_core.specs.Moves.{runs_main}
use Rattle.machine_sound.specs.Sound.{runs, resumed_another, standing, Solid, StackWaits}
use Rattle.machine_sound.proofs.Lists.{get_map, map_get, get_within, some_is}
use Rattle.machine_sound.proofs.Chains.{last_get}
use Rattle.machine_means.specs.Joined.{TalkWorld, Joined}
use Rattle.machine_means.proofs.Held.{reverse_is}
use Rattle.machine_means.proofs.Switches.{OnlyRuns}

is_normal : (c : Coroutine) → standing c ≡ resumed_another → (frames : List Frame) × (c ≡ normal frames)
is_normal (normal frames) e = (frames, refl)
is_normal _ e = absurd (cc)

-- the coroutine that resumed the running one
pub record Resumer (M : machine.World) (T : TalkWorld) (co : ℕ) : Type 0 where
  pub by : ℕ
  pub rest : List ℕ
  pub below : List Frame
  pub chain : T.chain ≡ co ∷ by ∷ rest
  pub apart : co ≢ by
  pub waits : slice_get M.coroutines by ≡ Some (normal below)

-- the last one of the chain runs, alone
pub alone : (primitives : ℕ) (M : machine.World) → Solid primitives M → (co : ℕ) → last M.chain ≡ Some co → OnlyRuns M.coroutines co
alone primitives M solid co is_last j frames e =
    let st : slice_get (map standing M.coroutines) j ≡ Some runs = get_map standing M.coroutines j (in_progress frames) e in
    let y = solid.chain.running_in j st in
    ⊎_elim
    (λ (q : suc y.0 ≡ length M.chain). let i : y.0 ≡ length M.chain - 1 = omega (arith, q) in some_is y.1 (ap (slice_get M.chain) i ∙ (last_get M.chain co is_last).0))
    (λ q. let w = get_within M.chain y.0 j y.1 in let c : Some runs ≡ Some resumed_another = sym st ∙ solid.chain.before y.0 j y.1 (omega (arith, w, q)) in absurd (cc))
    (cases_eq (suc y.0) (length M.chain))

module _ (primitives : ℕ) (M : machine.World) (solid : Solid primitives M) (all : StackWaits primitives M) where
  pub only_runs : OnlyRuns M.coroutines all.coroutine
  only_runs = alone primitives M solid all.coroutine all.last

  module _ (T : TalkWorld) (lax : Bool) (k : Joined lax M T) where
    pub runs_first : (rest : List ℕ) × (T.chain ≡ all.coroutine ∷ rest)
    runs_first = from T.chain refl
      where
        from : (ch : List ℕ) → T.chain ≡ ch → (rest : List ℕ) × (T.chain ≡ all.coroutine ∷ rest)
        from [] e = absurd (let z : None ≡ Some all.coroutine = sym (ap last (k.chain ∙ ap reverse e)) ∙ all.last in cc)
        from (c ∷ rest) e =
            let up : M.chain ≡ upward rest ++ c ∷ [] = k.chain ∙ reverse_is T.chain ∙ ap upward e in
            let same : c ≡ all.coroutine = some_is (ap last up ∙ last_is (upward rest) c) all.last in
            (rest, e ∙ ap (λ c. c ∷ rest) same)

    pub resumer : runs_main M ≡ false → Resumer M T all.coroutine
    resumer b = let f = runs_first in from f.0 f.1
      where
        from : (rest : List ℕ) → T.chain ≡ all.coroutine ∷ rest → Resumer M T all.coroutine
        from [] e = absurd (let z : true ≡ false = sym (ap (λ ch. nat_eq (length ch) 1) (k.chain ∙ ap reverse e)) ∙ b in cc)
        from (by ∷ rest) e =
            let up : M.chain ≡ upward rest ++ by ∷ [] ++ all.coroutine ∷ [] = k.chain ∙ reverse_is T.chain ∙ ap upward e in
            let there : slice_get M.chain (length (upward rest)) ≡ Some by = ap (λ ch. slice_get ch (length (upward rest))) up ∙ get_old (upward rest ++ by ∷ []) (all.coroutine ∷ []) (length (upward rest)) by (get_new (upward rest) by) in
            let long : suc (length (upward rest)) < length M.chain = (let a = ap (λ ch. length ch) up in let d = length_more (upward rest ++ by ∷ []) all.coroutine in let f = length_more (upward rest) by in omega (arith, a, d, f)) in
            let st = solid.chain.before (length (upward rest)) by there long in
            let c = map_get standing M.coroutines by resumed_another st in
            let f = is_normal c.0 c.2 in
            let waits : slice_get M.coroutines by ≡ Some (normal f.0) = c.1 ∙ ap Some f.1 in
            record {
              by = by;
              rest = rest;
              below = f.0;
              chain = e;
              apart = λ q. (let x : Some (in_progress all.frames) ≡ Some (normal f.0) = sym all.running ∙ ap (slice_get M.coroutines) q ∙ waits in cc);
              waits = waits;
            }
