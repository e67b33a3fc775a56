-- What lists weigh and have that grew by one item.
use Rattle.std.proofs.Common.{◌≡◌, ◌+◌, ◌≤◌, List, [], ◌∷◌, ◌++◌, length, arith}
use Rattle.tree_core.specs.Tree as tree
use Rattle.tree_terms.specs.Weight.{weight, weight_of_arguments, weight_of_exps, weight_of_fields, weight_of_field, weight_of_stat, weight_of_arms, weight_of_stats, weight_of_block}
use Rattle.tree_terms.specs.FunctionCount.{functions, functions_in_exps, functions_in_fields, functions_in_field, functions_in_stat, functions_in_arms, functions_in_stats, functions_in_block}

-- expressions

pub exps_grow : (es : List tree.Exp) (e : tree.Exp)
    → (weight_of_exps (tree.exps (es ++ e ∷ [])) ≡ weight_of_exps (tree.exps es) + weight e) × (functions_in_exps (tree.exps (es ++ e ∷ [])) ≡ functions_in_exps (tree.exps es) + functions e)
exps_grow [] e = (omega arith, omega arith)
exps_grow (d ∷ es) e = let rest = exps_grow es e in (omega (arith, rest.0), omega (arith, rest.1))

-- fields

pub fields_grow : (fs : List tree.Field) (f : tree.Field)
    → (weight_of_fields (tree.fields (fs ++ f ∷ [])) ≡ weight_of_fields (tree.fields fs) + weight_of_field f) × (functions_in_fields (tree.fields (fs ++ f ∷ [])) ≡ functions_in_fields (tree.fields fs) + functions_in_field f)
fields_grow [] f = (omega arith, omega arith)
fields_grow (g ∷ fs) f = let rest = fields_grow fs f in (omega (arith, rest.0), omega (arith, rest.1))

-- statements

pub stats_grow : (ss : List tree.Stat) (s : tree.Stat)
    → (weight_of_stats (tree.stats (ss ++ s ∷ [])) ≡ weight_of_stats (tree.stats ss) + weight_of_stat s) × (functions_in_stats (tree.stats (ss ++ s ∷ [])) ≡ functions_in_stats (tree.stats ss) + functions_in_stat s)
stats_grow [] s = (omega arith, omega arith)
stats_grow (r ∷ ss) s = let rest = stats_grow ss s in (omega (arith, rest.0), omega (arith, rest.1))

-- the arms of an `if`

pub arms_grow : (as' : List (tree.Exp × tree.Block)) (e : tree.Exp) (b : tree.Block)
    → (weight_of_arms (tree.arms (as' ++ (e, b) ∷ [])) ≡ weight_of_arms (tree.arms as') + weight e + weight_of_block b + 1)
    × (functions_in_arms (tree.arms (as' ++ (e, b) ∷ [])) ≡ functions_in_arms (tree.arms as') + functions e + functions_in_block b)
arms_grow [] e b = (omega arith, omega arith)
arms_grow (a ∷ as') e b = let rest = arms_grow as' e b in (omega (arith, rest.0), omega (arith, rest.1))

-- names

pub names_count : {A : Type 0} (xs : List A) (x : A) → length (xs ++ x ∷ []) ≡ length xs + 1
names_count [] x = omega arith
names_count (y ∷ xs) x = omega (arith, names_count xs x)

-- brackets hold arguments where nothing else does

pub arguments_weigh : (es : tree.Exps) → weight_of_arguments es ≤ weight_of_exps es + 2
arguments_weigh tree.EndExps = omega arith
arguments_weigh (tree.MoreExps e es) = omega arith
