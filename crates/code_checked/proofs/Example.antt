-- A body that the law covers, with a function in it, so that its premise is no empty one.
use Rattle.std.proofs.Common.{Bool, ℕ, true, false, List, [], ◌∷◌, Option, Some, lit<, lit≤, refl}
use Rattle.std.specs.Prelude.{codes, pos}
use Rattle.tree_core.specs.declared.name.Name.{Name}
use Rattle.tree_core.specs.declared.name.Place.{Place}
use Rattle.tree_core.specs.declared.name.Place.TheVariants.{Unset, GlobalOf}
use Rattle.tree_core.specs.declared.name.Place.TheVariants.{Local as LocalPlace}
use Rattle.tree_core.specs.Tree.{Falls, Returns, Body, BodyOf, EndStats, MoreStats, LocalFunction, If, NumFor, GenFor, Label, Goto, Break, EndArms, MoreArms, Exp, Int, Vararg, Var, Call, EndExps, MoreExps}
use Rattle.code_core.specs.Opcode.{opcodes, number_of}
use Rattle.code_core.specs.Check.{IsChecked}
use Rattle.code_of.specs.CodeOf.{code_of}
use Rattle.code_checked.specs.Near.{AreNear, BodyIsNear}
use Rattle.code_checked.specs.Written.{BodyIsWritten}
use Rattle.code_checked.proofs.Keeping.{code_is_checked}

abbrev named : List ℕ → Place → Name
named text place = record { text = text; line = 1; place = place }

abbrev variable : List ℕ → Place → Exp
variable text place = Var 1 (named text place)

-- function(x) return x end
abbrev gives_back : Body
gives_back = BodyOf (named (codes "x") (LocalPlace 0) ∷ []) false (Returns EndStats (MoreExps (variable (codes "x") (LocalPlace 0)) EndExps) 1 1) [] 1

-- local function f(x) return x end for k in p do if k then break end end ::top:: for i=1,9 do if i then goto top end end return f(...)
abbrev goes_about : Body
goes_about = BodyOf [] true
    (Returns
    (MoreStats (LocalFunction 1 (named (codes "f") (LocalPlace 0)) gives_back)
    (MoreStats (GenFor 1 (named (codes "k") (LocalPlace 5) ∷ []) (MoreExps (variable (codes "p") (GlobalOf 0)) EndExps)
    (Falls (MoreStats (If 1 (MoreArms (variable (codes "k") (LocalPlace 5)) (Falls (MoreStats (Break 1) EndStats) 1 1) EndArms)) EndStats) 6 1))
    (MoreStats (Label 1 (named (codes "top") Unset))
    (MoreStats (NumFor 1 (named (codes "i") (LocalPlace 4)) (Int 1 (pos 1)) (Int 1 (pos 9))
    (Falls (MoreStats (If 1 (MoreArms (variable (codes "i") (LocalPlace 4)) (Falls (MoreStats (Goto 1 (named (codes "top") Unset)) EndStats) 2 1) EndArms)) EndStats) 6 1))
    EndStats))))
    (MoreExps (Call 1 (variable (codes "f") (LocalPlace 0)) (MoreExps (Vararg 1) EndExps)) EndExps) 40 1)
    (record { text = codes "_ENV"; in_stack = true; index = 0 } ∷ []) 0

abbrev source : Option (List ℕ)
source = Some (codes "@s.lua")

inner_near : AreNear source gives_back
unfolding opcodes number_of
inner_near = (record { params = lit< tt; room = lit< tt; upvalues = lit≤ tt; code = lit≤ tt; constants = lit≤ tt; functions = lit≤ tt; locals = lit< tt }, (tt, (lit< tt, ((lit< tt, lit< tt), tt))))

-- how long a jump is hangs on whether the function makes functions
either_way : (P : Bool → Type 0) → P true → P false → (b : Bool) → P b
either_way P x y true = x
either_way P x y false = y

near : AreNear source goes_about
unfolding opcodes number_of
near = (
  record {
    params = lit< tt;
    room = lit< tt;
    upvalues = lit≤ tt;
    code = lit≤ tt;
    constants = lit≤ tt;
    functions = lit≤ tt;
    locals = lit< tt;
  },
  (
    (
      (lit< tt, (tt, inner_near)),
      (
        (lit< tt, (((lit< tt, lit< tt), tt), (either_way _ (lit< tt) (lit< tt), (((lit< tt, lit< tt), ((tt, tt), tt)), tt)))),
        (
          tt,
          (
            (lit< tt, ((lit< tt, tt), ((lit< tt, tt), (either_way _ (lit< tt) (lit< tt), (((lit< tt, lit< tt), ((tt, tt), tt)), tt))))),
            tt,
          ),
        ),
      ),
    ),
    (lit< tt, ((lit< tt, ((lit< tt, lit< tt), ((lit< tt, refl), tt))), tt)),
  ),
)

inner_written : BodyIsWritten gives_back
inner_written = (refl, ((refl, tt), (tt, (refl, (tt, ((refl, refl), tt))))))

written : BodyIsWritten goes_about
written = (
  refl,
  (
    tt,
    (
      (refl, (lit< tt, tt)),
      (
        refl,
        (
          (
            (refl, (refl, inner_written)),
            (
              (refl, ((refl, tt), (((refl, refl), tt), (refl, ((refl, ((refl, refl), ((refl, (refl, tt)), tt))), tt))))),
              (refl, ((refl, (refl, ((refl, refl), ((refl, refl), (refl, ((refl, ((refl, refl), ((refl, (refl, tt)), tt))), tt)))))), tt)),
            ),
          ),
          ((refl, ((refl, refl), (refl, tt))), tt),
        ),
      ),
    ),
  ),
)

it_is_near : BodyIsNear source goes_about
it_is_near = record { name = refl; near = near; written = written; depth = lit< tt; functions = lit< tt }

its_code_is_checked : IsChecked (code_of source goes_about)
its_code_is_checked = code_is_checked source goes_about it_is_near
