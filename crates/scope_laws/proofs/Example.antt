-- A source that keeps the static rules, so that the law's premise is no empty one, and what its definitions refuse.
use Rattle.std.proofs.Common.{rules, true, false, [], ◌∷◌, refl}
use Rattle.tree_core.specs.Tree.{Block, While, Repeat, NumFor, Label, Goto, Break, Var, Vararg}
use Rattle.tree_terms.proofs.Forms.{no_variable, int, call, block, returning, loc_is, assign, when, vararg_fun, function}
use Rattle.scope_core.specs.Places.{placed}
use Rattle.scope_laws.specs.Finding.{LocalIsThere, three_hidden}
use Rattle.scope_laws.specs.Keeping.{StatKeeps}
use Rattle.scope_laws.specs.Law.{BodyNamesFit}
use Rattle.scope_laws.proofs.Main.{names_fit}

abbrev source : Block
source = returning (
    loc_is "a" 0 (int 1)
    ∷ NumFor 1 (no_variable "i") (int 1) (Var 1 (no_variable "a"))
    (block (
    when (Var 1 (no_variable "i")) (Goto 1 (no_variable "next") ∷ [])
    ∷ assign (Var 1 (no_variable "a")) (function (vararg_fun [] [] (returning [] (Var 1 (no_variable "a") ∷ Var 1 (no_variable "i") ∷ Var 1 (no_variable "g") ∷ Vararg 1 ∷ []))))
    ∷ Label 1 (no_variable "next")
    ∷ []))
    ∷ Repeat 1 (block (loc_is "done" 0 (Var 1 (no_variable "a")) ∷ [])) (Var 1 (no_variable "done"))
    ∷ While 1 (Var 1 (no_variable "a")) (block (Break 1 ∷ []))
    ∷ [])
    (call (Var 1 (no_variable "a")) (Vararg 1 ∷ []) ∷ [])

fits : BodyNamesFit (placed source)
fits = names_fit source refl

-- the second hidden local of a `for` that begins behind one local
hides : LocalIsThere (three_hidden 1 []) 5 2 → ⊥
hides h = h.1.1.0 refl

-- a label in the scope of a local that the `goto` would enter
enters : StatKeeps (Goto 1 (no_variable "on")) false 1 ((111 ∷ 110 ∷ [], false) ∷ []) true → ⊥
enters e = absurd (search rules)

-- a `break` in no loop
breaks : StatKeeps (Break 1) false 1 [] false → ⊥
breaks e = absurd (search rules)
