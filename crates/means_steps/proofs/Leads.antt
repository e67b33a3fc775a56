-- What a row leads to: where the other world stands some ticks later.
use Rattle.std.proofs.Common.{ℕ, suc, ◌≡◌, List, ◌∷◌, ◌++◌, length, Option, Some, None, sym, ap, subst, ◌∙◌, Bool, true, false}
use Rattle.std.specs.Prelude.{slice_get}
use Rattle.code_core.specs.Prototype.{Prototype, Parts}
use Rattle.int_core.specs.Value.{Value, bind}
use Rattle.int_core.specs.Ask.{Ask, Answer, says}
use Rattle.machine_core.specs.World.{World, Function}
use Rattle.machine_core.specs.Moves.{Made, Told, Move, move, TopShape, lua_top, Row, act, Outcome, trapped, ends, run, line_of}
use Rattle.machine_core.specs.Talk.{State, talk_step}
use Rattle.lua_meaning.specs.World as talk
use Rattle.lua_meaning.specs.World.{talking, talks, breaks, as_known, without_name}
use Rattle.lua_meaning.specs.Asks.{turns, talks_on}
use Rattle.lua_meaning.specs.Step.{Primitives, has_ended, tick, ticks}
use Rattle.code_means.specs.Runs.{codes_run}
use Rattle.machine_means.specs.Joined.{TalkFrame, TalkWorld, Dressed, PartsNamed, line_known}
use Rattle.machine_means.specs.Stands.{Stands}
use Rattle.means_steps.specs.Steps.{EndsSo, Leads}
use Rattle.machine_means.proofs.Handing.{ending_of}

-- results that are handed over do not spend the budget
pub handed_so : (shown : List ℕ) (top : TopShape) (W : World) (T : TalkWorld) → Stands (ending_of top) W T → EndsSo shown (ending_of top) W T
handed_so shown lua_top W T s = s
handed_so shown _ W T s = s

module _ (known : Primitives Prototype) (shown : List ℕ) where
  -- where an activation runs, one tick further on
  pub leads_on : (T : TalkWorld) (n : ℕ) (s : State) (ts : List TalkFrame) (o : Outcome) → Leads known shown (talks_on codes_run (record T { frames = talking n s ∷ ts; now = talks }) (talking n s ∷ ts)) o → Leads known shown (record T { frames = talking n s ∷ ts; now = talks }) o
  leads_on T n s ts trapped k = tt
  leads_on T n s ts (ends ending W) k = (suc k.0, k.1)

  -- a row goes on by what its move does
  abbrev pub go_on : (m : Move) → (ℕ → Told m → Row) → List Value → Option (Made (Told m)) → Outcome
  go_on m k env o = elim o [ None ↦ trapped | Some d ↦ run (k (length env) d.told) (env ++ d.values) d.world ]

  pub by_move : (T : TalkWorld) (m : Move) (k : ℕ → Told m → Row) (env : List Value) (W : World) (o : Option (Made (Told m))) → move m env W ≡ o → Leads known shown T (go_on m k env o) → Leads known shown T (run (act m k) env W)
  by_move T m k env W o e l = subst (λ o. Leads known shown T (go_on m k env o)) (sym e) l

-- the tick of an activation
pub talk_tick : (T : TalkWorld) (n : ℕ) (s : State) (ts : List TalkFrame) (g : Function) (g' : talk.Function Prototype) → slice_get T.functions n ≡ Some g' → Dressed g g'
    → talks_on codes_run (record T { frames = talking n s ∷ ts; now = talks }) (talking n s ∷ ts) ≡ turns codes_run (as_known g'.has_lines (talk_step g.code s)) (record T { frames = talking n s ∷ ts; now = talks }) n ts
talk_tick T n s ts g g' e d =
    ap (λ o. elim o as (λ _. TalkWorld) [
      | None ↦ breaks (record T { frames = talking n s ∷ ts; now = talks })
      | Some f ↦ turns codes_run (as_known f.has_lines (talk_step f.made_of s)) (record T { frames = talking n s ∷ ts; now = talks }) n ts
    ]) e
    ∙ ap (λ p. turns codes_run (as_known g'.has_lines (talk_step p s)) (record T { frames = talking n s ∷ ts; now = talks }) n ts) d.code

-- an ask that names no variable has the line that is known
abbrev pub line_so : (lines : Bool) (source : List ℕ) (own : Parts) (line : Option ℕ) → PartsNamed lines source own → Option ℕ
line_so true source own line k = line
line_so false source own line k = None

pub line_is : (lines : Bool) (source : List ℕ) (p : Prototype) (pc : ℕ) (k : PartsNamed lines source p.own) → line_so lines source p.own (line_of p pc) k ≡ line_known p pc
line_is true source p pc k = sym (ap (λ o. bind o (λ _. line_of p pc)) k)
line_is false source p pc k = sym (ap (λ o. bind o (λ _. line_of p pc)) k.0)

pub says_known : (lines : Bool) (source : List ℕ) (p : Prototype) (pc : ℕ) → PartsNamed lines source p.own → (q : Ask Prototype) → without_name q ≡ q → (shared : List (ℕ × Value)) (k : Answer → State)
    → as_known lines (says q (line_of p pc) shared k) ≡ says q (line_known p pc) shared k
says_known true source p pc named q e shared k = ap (λ line. says q line shared k) (line_is true source p pc named)
says_known false source p pc named q e shared k = ap (λ q. says q None shared k) e ∙ ap (λ line. says q line shared k) (line_is false source p pc named)

module _ (known : Primitives Prototype) (shown : List ℕ) where
  -- one tick further on, whatever goes on
  pub leads_tick : (T : TalkWorld) (o : Outcome) → has_ended T.now ≡ false → Leads known shown (tick codes_run known T) o → Leads known shown T o
  leads_tick T trapped e k = tt
  leads_tick T (ends ending W) e k = (suc k.0, subst (λ U. EndsSo shown ending W U) (sym (ap (λ b. elim b as (λ _. TalkWorld) [ true ↦ T | false ↦ ticks codes_run known k.0 (tick codes_run known T) ]) e)) k.1)
