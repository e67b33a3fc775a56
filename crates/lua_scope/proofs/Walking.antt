-- What the steps of the walk give together.
use Rattle.std.proofs.Common.{ℕ, ◌+◌, ◌≡◌, Bool, true, false, List, [], Option, ap, ap₂, ◌∙◌, length, map, min}
use Rattle.std.specs.Prelude.{nat_lt}
use Rattle.tree_core.specs.declared.name.Name.{Name}
use Rattle.tree_core.specs.declared.name.UpName.{UpName}
use Rattle.tree_core.specs.Tree.{Block, Returns, BodyOf, Stats, Repeat, Exps, Exp}
use Rattle.scope_core.specs.declared.violation.Violation.{Violation}
use Rattle.scope_core.specs.declared.variable.Variable.{Variable}
use Rattle.scope_core.specs.Scopes.{Scope, Frame, declare_all, plain_variable, behind, behind_stats}
use Rattle.scope_core.specs.Walked.{own_variables, kept, entered, left}
use Rattle.scope_core.specs.Rules.{breach, locals}
use Rattle.scope_core.specs.Held.{held, held_behind}
use Rattle.lua_scope.specs.declared.labels.BlockPlace.{BlockPlace}
use Rattle.lua_scope.specs.declared.checks.Flags.{Flags}
use Rattle.lua_scope.specs.Met.{meet_all, met_declared, met_names, met_exp, met_exps, met_stats, met_block, met_body, met_stat, met_for}
use Rattle.lua_scope.specs.Blocks.{scope_at}
use Rattle.lua_scope.proofs.Meeting.{held_met}
use Rattle.lua_scope.proofs.Endings.{left_body, ended_for}

-- a block with a `return`
pub returned_met :
    (s : Scope) (ends : Bool) (ss : Stats) (es : Exps) (tokens line : ℕ) (o o₁ o₂ o₃ : Option Violation) (fs : List Frame) (r : ℕ)
    → fs ≡ behind_stats s.frames ss
    → o₁ ≡ met_stats s [] false o ss
    → r ≡ min (held_behind 0 es) 1000
    → o₂ ≡ meet_all o₁ (breach (nat_lt 250 (locals fs + r)) line 11)
    → o₃ ≡ met_exps fs s.is_vararg o₂ es
    → o₃ ≡ met_block s ends o (Returns ss es tokens line)
returned_met s ends ss es tokens line o o₁ o₂ o₃ fs r frames met counted checked last =
    last
    ∙ ap₂ (λ gs x. met_exps gs s.is_vararg x es) frames
    (checked
    ∙ held_met o₁ (locals fs) (held_behind 0 es) r line counted
    ∙ ap₂ (λ x gs. meet_all x (breach (nat_lt 250 (locals gs + held_behind 0 es)) line 11)) met frames)

-- what is called, and then the arguments

pub called_met :
    (fs fs₁ : List Frame) (vararg : Bool) (f f' : Exp) (es : Exps) (o o₁ o₂ : Option Violation)
    → f' ≡ f
    → fs₁ ≡ fs
    → o₁ ≡ met_exp fs vararg o f'
    → o₂ ≡ met_exps fs₁ vararg o₁ es
    → o₂ ≡ met_exps fs vararg (met_exp fs vararg o f) es
called_met fs fs₁ vararg f f' es o o₁ o₂ same frames met last =
    last ∙ ap₂ (λ gs x. met_exps gs vararg x es) frames (met ∙ ap (met_exp fs vararg o) same)

-- a function

pub body_met :
    (fs fs₁ fs₂ : List Frame) (blocks : List BlockPlace) (flags : Flags) (params : List Name) (vararg : Bool) (upvalues : List UpName) (line : ℕ) (b : Block) (o o₁ o₂ o₃ : Option Violation)
    → o₁ ≡ meet_all o (breach (nat_lt 255 (length upvalues)) line 10)
    → fs₁ ≡ entered fs
    → fs₂ ≡ declare_all fs₁ (map plain_variable params)
    → o₂ ≡ met_names fs₁ o₁ params
    → blocks ≡ []
    → flags ≡ record { in_loop = false; is_vararg = vararg }
    → o₃ ≡ met_block (scope_at fs₂ blocks flags) true o₂ b
    → o₃ ≡ met_body fs o (BodyOf params vararg b upvalues line)
body_met fs fs₁ fs₂ blocks flags params vararg upvalues line b o o₁ o₂ o₃ many begin within named none flagged last =
    last
    ∙ ap₂ (λ bs fl. met_block (scope_at fs₂ bs fl) true o₂ b) none flagged
    ∙ ap₂ (λ gs x. met_block (scope_at gs [] (record { in_loop = false; is_vararg = vararg })) true x b)
    (within ∙ ap (λ gs. declare_all gs (map plain_variable params)) begin)
    (named ∙ ap₂ (λ gs x. met_names gs x params) begin many)

pub body_left :
    (fs fs₁ fs₂ fs₃ fs₄ : List Frame) (vs : List Variable) (b : Block)
    → fs₁ ≡ entered fs → fs₂ ≡ declare_all fs₁ vs → fs₃ ≡ behind fs₂ b → fs₄ ≡ left fs₃ → fs₄ ≡ fs
body_left fs fs₁ fs₂ fs₃ fs₄ vs b begin within behind' last =
    last
    ∙ ap left (behind' ∙ ap (λ gs. behind gs b) (within ∙ ap (λ gs. declare_all gs vs) begin))
    ∙ left_body fs vs b

-- a `repeat`

pub repeated_met :
    (fs fs₁ : List Frame) (blocks : List BlockPlace) (flags flags' : Flags) (line : ℕ) (b : Block) (e : Exp) (o o₁ o₂ o₃ : Option Violation) (r : ℕ)
    → flags' ≡ record flags { in_loop = true }
    → fs₁ ≡ behind fs b
    → o₁ ≡ met_block (scope_at fs blocks flags') false o b
    → r ≡ min (held e) 1000
    → o₂ ≡ meet_all o₁ (breach (nat_lt 250 (locals fs₁ + r)) line 11)
    → o₃ ≡ met_exp fs₁ flags.is_vararg o₂ e
    → o₃ ≡ met_stat (scope_at fs blocks flags) o (Repeat line b e)
repeated_met fs fs₁ blocks flags flags' line b e o o₁ o₂ o₃ r looping frames met counted checked last =
    last
    ∙ ap₂ (λ gs x. met_exp gs flags.is_vararg x e) frames
    (checked
    ∙ held_met o₁ (locals fs₁) (held e) r line counted
    ∙ ap₂ (λ x gs. meet_all x (breach (nat_lt 250 (locals gs + held e)) line 11)) (met ∙ ap (λ fl. met_block (scope_at fs blocks fl) false o b) looping) frames)

-- a `for`

pub for_met :
    (fs fs₁ fs₂ : List Frame) (blocks : List BlockPlace) (flags flags' : Flags) (hidden : List Variable) (line : ℕ) (ns : List Name) (b : Block) (o o₁ o₂ o₃ : Option Violation)
    → fs₁ ≡ declare_all fs hidden
    → o₁ ≡ met_declared fs₁ o line
    → fs₂ ≡ declare_all fs₁ (map plain_variable ns)
    → o₂ ≡ met_names fs₁ o₁ ns
    → flags' ≡ record flags { in_loop = true }
    → o₃ ≡ met_block (scope_at fs₂ blocks flags') true o₂ b
    → o₃ ≡ met_for (scope_at fs blocks flags) hidden line ns o b
for_met fs fs₁ fs₂ blocks flags flags' hidden line ns b o o₁ o₂ o₃ hides declares within named looping last =
    last
    ∙ ap (λ fl. met_block (scope_at fs₂ blocks fl) true o₂ b) looping
    ∙ ap₂ (λ gs x. met_block (scope_at gs blocks (record flags { in_loop = true })) true x b)
    (within ∙ ap (λ gs. declare_all gs (map plain_variable ns)) hides)
    (named ∙ ap₂ (λ gs x. met_names gs x ns) hides (declares ∙ ap (λ gs. met_declared gs o line) hides))

pub for_ended :
    (fs fs₁ fs₂ fs₃ fs₄ : List Frame) (hidden vs : List Variable) (b : Block) (count : ℕ)
    → count ≡ length (own_variables fs)
    → fs₁ ≡ declare_all fs hidden
    → fs₂ ≡ declare_all fs₁ vs
    → fs₃ ≡ behind fs₂ b
    → fs₄ ≡ kept count fs₃
    → fs₄ ≡ fs
for_ended fs fs₁ fs₂ fs₃ fs₄ hidden vs b count counted hides within behind' last =
    last
    ∙ ap₂ kept counted (behind' ∙ ap (λ gs. behind gs b) (within ∙ ap (λ gs. declare_all gs vs) hides))
    ∙ ended_for fs hidden vs b
