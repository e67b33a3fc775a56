-- What is asked for is called, whatever frame asks.
use Rattle.code_core.specs.Prototype.{Prototype}
use Rattle.lua_meaning.specs.Step.{Primitives}
use Rattle.std.proofs.Common.{ℕ, ◌≡◌, List, [], ◌∷◌, ◌++◌, Option, Some, None, refl, sym, ap, subst, ◌∙◌, false}
use Rattle.int_core.specs.Value.{Value, last}
use Rattle.int_core.specs.Limits.{stack_overflow}
use Rattle.int_core.specs.Operations.{callee_of, greatest_chain}
use Rattle.machine_core.specs.World.{Frame, lua, World}
use Rattle.machine_core.specs.Text.{read}
use Rattle.machine_core.specs.Moves.{call_value, TopShape, lua_top, not_entered, called, asks, Outcome, trapped, Row, act, run}
use Rattle.machine_core.specs.FrameRows.{refused_under as machine_refuses, after_asked, asked_row}
use Rattle.machine_core.specs.MachineStep.{step_by}
use Rattle.lua_meaning.specs.Calls.{calls_value, pays_for}
use Rattle.code_means.specs.Runs.{codes_run}
use Rattle.machine_sound.specs.Sound.{Solid, StackWaits}
use Rattle.machine_means.specs.Joined.{TalkWorld, Joined}
use Rattle.machine_means.specs.Stands.{refused_under, Stands, results_come, call_asked, IsLua}
use Rattle.machine_means.proofs.Switches.{OnlyRuns}
use Rattle.machine_means.proofs.Running.{alone}
use Rattle.machine_means.proofs.Handing.{moved}
use Rattle.machine_means.proofs.Steps.{not_asks}
use Rattle.machine_means.proofs.Entering.{refused}
use Rattle.means_steps.specs.Steps.{Leads}
use Rattle.means_steps.proofs.Within.{EndsNoTurn, comes_leads}
use Rattle.means_steps.proofs.Calls.{called_leads}
use Rattle.means_steps.proofs.Hears.{refusal_heard}

-- a refusal costs nothing
refusal_free : (text : List ℕ) (top : TopShape) → EndsNoTurn (machine_refuses top text)
refusal_free text lua_top = λ _ _ _. tt
refusal_free text _ = λ _ _ _. tt

abbrev pub LuaIn : Option Frame → Type 0
LuaIn None = ⊥
LuaIn (Some m) = IsLua m

module _ (rows : ℕ → Row) (known : Primitives Prototype) (primitives : ℕ) (M : World) (T : TalkWorld) (solid : Solid primitives M) (waits : StackWaits primitives M) where
  pub no_lua : (o : Option Frame) → last waits.frames ≡ o → (LuaIn o → ⊥) → (m : Frame) → last waits.frames ≡ Some m → IsLua m → ⊥
  no_lua o e n m at i = n (subst LuaIn (sym at ∙ e) i)

  -- what is on top tells whose error it is
  refusal_leads : (U : TalkWorld) → Joined false M U → (text : List ℕ) (m : ℕ) (env : List Value) → Leads known M.printed (refused_under U.frames text (record U { fuel = m })) (run (after_asked (not_entered text)) env (record M { fuel = m; moving = [] }))
  refusal_leads U joined text m env = by (last waits.frames) refl
    where
      rest : (o : Option Frame) → last waits.frames ≡ o → (LuaIn o → ⊥) → Leads known M.printed (refused_under U.frames text (record U { fuel = m })) (run (after_asked (not_entered text)) env (record M { fuel = m; moving = [] }))
      rest o e n = comes_leads known M.printed (after_asked (not_entered text)) env (record M { fuel = m; moving = [] }) (refused_under U.frames text (record U { fuel = m })) (λ _ top _. refusal_free text top)
          (refused primitives M U (record { solid = solid; waits = waits; joined = joined }) (no_lua o e n) text m env [])

      by : (o : Option Frame) → last waits.frames ≡ o → Leads known M.printed (refused_under U.frames text (record U { fuel = m })) (run (after_asked (not_entered text)) env (record M { fuel = m; moving = [] }))
      by (Some (lua fr)) e = refusal_heard rows known primitives M U solid waits.coroutine waits.frames waits.last waits.running fr e joined text m env
      by o e = rest o e (λ z. z)

  -- what moves is called
  module _ (U : TalkWorld) (joined : Joined false M U) (f : Value) (vs : List Value) (moves : M.moving ≡ f ∷ vs) where
    N : World
    N = record M { moving = [] }

    abbrev out : World → Outcome
    out W = elim (called (record W { moving = [] }) (record W { moving = [] }) f vs) as (λ _. Outcome) [ None ↦ trapped | Some d ↦ run (after_asked d.told) ((f ∷ vs) ++ d.values) d.world ]

    row_is : run asked_row [] M ≡ out M
    row_is = ap (λ env. run (act (call_value (read 0) 1) (λ _ s. after_asked s)) env (record M { moving = [] })) moves

    called_so : Leads known M.printed (calls_value codes_run U f vs (refused_under U.frames)) (out M)
    called_so =
        let only : OnlyRuns M.coroutines waits.coroutine = alone primitives M solid waits.coroutine waits.last in
        let same_fuel : record U { fuel = M.fuel } ≡ U = ap (λ m. record U { fuel = m }) joined.fuel in
        subst (λ H. Leads known M.printed (pays_for codes_run U (callee_of greatest_chain H f vs) (refused_under U.frames)) (out M)) joined.heap
        (called_leads known M.printed (record M { moving = [] }) U (sym joined.printed) waits.coroutine waits.frames (moved false M U [] joined) waits.last waits.running only (f ∷ vs) after_asked (refused_under U.frames) refl (λ m. refl) refl
        (λ _ m. refusal_leads U joined stack_overflow m ((f ∷ vs) ++ []))
        (λ text. subst (λ X. Leads known M.printed (refused_under U.frames text X) (run (after_asked (not_entered text)) ((f ∷ vs) ++ []) (record M { moving = [] }))) same_fuel (refusal_leads U joined text M.fuel ((f ∷ vs) ++ [])))
        (record M { moving = [] }) M.fuel refl (sym joined.fuel) (callee_of greatest_chain M.heap f vs))

  pub asked_leads : Stands asks M T → Leads known M.printed T (step_by rows asks M)
  asked_leads (call_asked _ _ U f vs moves joined is) =
      subst (λ o. Leads known M.printed T o) (sym (row_is U joined f vs moves)) (subst (λ X. Leads known M.printed X (out U joined f vs moves M)) (sym is) (called_so U joined f vs moves))
  asked_leads (results_come _ _ _ reached now joined) = absurd (not_asks primitives M T solid waits joined reached)
