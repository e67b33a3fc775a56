-- Lists of violations that are met one after the other.
use Rattle.std.proofs.Common.{arith, ℕ, Bool, ◌+◌, ◌≡◌, true, false, List, [], ◌∷◌, ◌++◌, Option, refl, ap, ◌∙◌, length, min}
use Rattle.std.specs.Prelude.{nat_lt}
use Rattle.std.proofs.lemmas.Grind.{common_steps}
use Rattle.scope_core.specs.declared.violation.Violation.{Violation}
use Rattle.scope_core.specs.Scopes.{Frame}
use Rattle.scope_core.specs.Walked.{own_variables}
use Rattle.scope_core.specs.Rules.{breach, locals, stat_line, target_violations}
use Rattle.scope_core.specs.Scopes.{names_fixed}
use Rattle.tree_core.specs.declared.tree.StatNode.{StatNode, If', NumFor', StatNode-If-1-Some', StatNode-NumFor-3-Some'}
use Rattle.tree_core.specs.declared.tree.Stat.{Stat}
use Rattle.tree_core.specs.Tree as tree
use Rattle.tree_core.specs.Plain.{plain_stat, plain_stat_node}
use Rattle.lua_scope.specs.Met.{meet_all}
use Rattle.scope_core.specs.Least.{meet}

pub own_locals : (frames : List Frame) → length (own_variables frames) ≡ locals frames
own_locals [] = refl
own_locals (frame ∷ frames) = refl

pub capped : (n h : ℕ) → nat_lt 250 (min n 1000 + min h 1000) ≡ nat_lt 250 (n + h)
capped n h = grind (arith, common_steps)

pub meet_append : (least : Option Violation) (xs ys : List Violation) → meet_all least (xs ++ ys) ≡ meet_all (meet_all least xs) ys
meet_append least [] ys = refl
meet_append least (x ∷ xs) ys = meet_append (meet least x) xs ys

-- a count that stops at 1000 passes the limit where the number does
pub held_met : (o : Option Violation) (n h r line : ℕ) → r ≡ min h 1000 → meet_all o (breach (nat_lt 250 (n + r)) line 11) ≡ meet_all o (breach (nat_lt 250 (n + h)) line 11)
held_met o n h r line e = ap (λ b. meet_all o (breach b line 11)) (ap (λ k. nat_lt 250 (n + k)) e ∙ once n h)
  where
    once : (k m : ℕ) → nat_lt 250 (k + min m 1000) ≡ nat_lt 250 (k + m)
    once k m = grind (arith, common_steps)

pub line_of_stat : (s : Stat) → stat_line (plain_stat s) ≡ s.line
line_of_stat s = by s.node s.line
  where
    by : (node : StatNode) (line : ℕ) → stat_line (plain_stat_node node line) ≡ line
    by (If' n as' (StatNode-If-1-Some' p b)) line = refl
    by (NumFor' name p l a q k b (StatNode-NumFor-3-Some' o m c) r inner) line = refl
    by _ line = refl

pub one_target : (o : Option Violation) (frames : List Frame) (e : tree.Exp) (es : tree.Exps) → meet_all o (target_violations frames (tree.MoreExps e es)) ≡ meet_all (meet_all o (target_violations frames (tree.MoreExps e tree.EndExps))) (target_violations frames es)
one_target o frames (tree.Var line name) es = by (names_fixed name.text frames)
  where
    by : (b : Bool) → meet_all o (breach b name.line 1 ++ target_violations frames es) ≡ meet_all (meet_all o (breach b name.line 1 ++ [])) (target_violations frames es)
    by true = refl
    by false = refl
one_target o frames _ es = refl
