-- Bodies that keep the limits, so that the premises are no empty ones, and how many registers their code has.
use Rattle.std.proofs.Common.{◌≡◌, ℕ, zero, suc, false, List, [], ◌∷◌, None, refl, lit<, lit≤}
use Rattle.tree_core.specs.declared.name.Name.{Name}
use Rattle.tree_core.specs.declared.name.Place.TheVariants.{Local as LocalPlace}
use Rattle.tree_core.specs.declared.operator.BinOp.TheVariants.{Add as Plus}
use Rattle.tree_core.specs.Tree.{Body, BodyOf, Exp, Nil}
use Rattle.code_core.specs.Opcode.{opcodes, number_of}
use Rattle.tree_terms.proofs.Forms.{name, loc, int, call, bin, returning, loc_is, assign, when, fun}
use Rattle.code_of.specs.CodeOf.{code_of}
use Rattle.scope_laws.specs.Finding.{ExpFinds, BodyFinds}
use Rattle.scope_laws.specs.Keeping.{ExpKeeps, BodyKeeps}
use Rattle.code_bounds.specs.Registers.{BodyHasRoom}
use Rattle.code_bounds.proofs.Body.{enough}

-- function(f) local x=f(1,2) if x then x=f end return f(x) end
abbrev chooses : Body
chooses = fun ("f" ∷ []) [] (returning (
    loc_is "x" 1 (call (loc "f" 0) (int 1 ∷ int 2 ∷ [])) ∷ when (loc "x" 1) (assign (loc "x" 1) (loc "f" 0) ∷ []) ∷ [])
    (call (loc "f" 0) (loc "x" 1 ∷ []) ∷ []))

its_names : BodyFinds chooses
its_names = (
  ((((lit< tt, tt), (tt, (tt, tt))), tt), (((lit< tt, tt), (((((lit< tt, tt), tt), ((lit< tt, tt), tt)), tt), tt)), tt)),
  (((lit< tt, tt), ((lit< tt, tt), tt)), tt),
)

its_limits : BodyKeeps chooses
its_limits = (
  lit≤ tt,
  (
    lit≤ tt,
    (
      (lit≤ tt, ((((tt, (tt, (tt, tt))), tt), lit≤ tt), (lit≤ tt, ((tt, ((lit≤ tt, (((tt, tt), (tt, tt)), tt)), tt)), tt)))),
      (lit≤ tt, ((tt, (tt, tt)), tt)),
    ),
  ),
)

it_has_room : BodyHasRoom (code_of None chooses) chooses
it_has_room = (enough None chooses its_names its_limits).1

its_registers : (code_of None chooses).own.stack ≡ 4
unfolding opcodes number_of
its_registers = refl

-- 200 parameters, and a sum of 50 operands, each of which is held until all are there, since the last one is no numeral: the limits are met, and so is the bound on registers

abbrev params : ℕ → List Name
params zero = []
params (suc n) = name "p" (LocalPlace 0) ∷ params n

abbrev sum_of : ℕ → Exp
sum_of zero = Nil 1
sum_of (suc n) = bin Plus (int 0) (sum_of n)

abbrev greatest : Body
greatest = BodyOf (params 200) false (returning [] (sum_of 49 ∷ [])) [] 1

sum_keeps : (n : ℕ) → ExpKeeps (sum_of n) false
sum_keeps zero = tt
sum_keeps (suc n) = (tt, sum_keeps n)

greatest_limits : BodyKeeps greatest
greatest_limits = (lit≤ tt, (lit≤ tt, (tt, (lit≤ tt, (sum_keeps 49, tt)))))

sum_known : (n size : ℕ) → ExpFinds (sum_of n) [] size 0
sum_known zero size = tt
sum_known (suc n) size = (tt, sum_known n size)

greatest_has_room : BodyHasRoom (code_of None greatest) greatest
greatest_has_room = (enough None greatest (tt, (sum_known 49 200, tt)) greatest_limits).1

greatest_registers : (code_of None greatest).own.stack ≡ 250
unfolding opcodes number_of
greatest_registers = refl
