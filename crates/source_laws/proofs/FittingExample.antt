-- A source whose body fits, so that the law's premises are no empty ones, and a body that the grammar has not, which does not fit.
use Rattle.std.proofs.Common.{rules, ◌≡◌, true, false, lit≤, [], ◌∷◌, List, None, refl}
use Rattle.tree_core.specs.Tree.{Block, Falls, Returns, BodyOf, Stat, CallStat, NumFor, GenFor, Exp, Var, Vararg, stats, exps}
use Rattle.tree_terms.proofs.Forms.{no_variable, int, call, loc_is, assign, vararg_fun, function}
use Rattle.scope_core.specs.Places.{placed}
use Rattle.scope_core.specs.Rules.{violations}
use Rattle.scope_laws.specs.Law.{BodyNamesFit}
use Rattle.scope_laws.proofs.Main.{names_fit}
use Rattle.stat_laws.specs.Fits.{BodyFits}
use Rattle.grammar_laws.specs.Formed.{BodyIsFormed}
use Rattle.grammar_laws.specs.Counted.{BodyIsCounted}
use Rattle.source_laws.proofs.Fitting.{body_fits}

abbrev does : List Stat → Block
does ss = Falls (stats ss) 100 1

abbrev gives : List Stat → List Exp → Block
gives ss es = Returns (stats ss) (exps es) 100 1

-- local a=1 for i=1,a do a=function(...) return a,i,g,... end end for k in a do end f(a) return a(...)
abbrev source : Block
source = gives (
    loc_is "a" 0 (int 1)
    ∷ NumFor 1 (no_variable "i") (int 1) (Var 1 (no_variable "a"))
    (does (assign (Var 1 (no_variable "a")) (function (vararg_fun [] [] (gives [] (Var 1 (no_variable "a") ∷ Var 1 (no_variable "i") ∷ Var 1 (no_variable "g") ∷ Vararg 1 ∷ [])))) ∷ []))
    ∷ GenFor 1 (no_variable "k" ∷ []) (exps (Var 1 (no_variable "a") ∷ [])) (does [])
    ∷ CallStat 1 (call (Var 1 (no_variable "f")) (Var 1 (no_variable "a") ∷ []))
    ∷ [])
    (call (Var 1 (no_variable "a")) (Vararg 1 ∷ []) ∷ [])

keeps_rules : violations source ≡ []
keeps_rules = refl

names : BodyNamesFit (placed source)
names = names_fit source keeps_rules

formed : BodyIsFormed (placed source)
formed = search rules

counted : BodyIsCounted (placed source)
counted = search rules

fits : BodyFits None (placed source)
fits = body_fits None (placed source) names.0 names.1 formed counted (lit≤ tt) (lit≤ tt)

-- a statement that is no call
no_call : BodyFits None (BodyOf [] false (does (CallStat 1 (int 1) ∷ [])) [] 0) → ⊥
no_call h = let wrong : false ≡ true = h.0.placed.0.0.0 in absurd (search rules)
