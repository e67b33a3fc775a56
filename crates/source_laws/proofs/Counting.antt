-- Values that are held, and locals, are few.
use Rattle.std.proofs.Common.{◌≡◌, ℕ, zero, suc, ◌+◌, ◌<◌, ◌≤◌, ◌^◌, Bool, true, false, List, [], ◌∷◌, ◌++◌, length, Option, Some, refl, ap, arith, length-append}
use Rattle.tree_core.specs.declared.name.Name.{Name}
use Rattle.tree_core.specs.declared.name.Declared.{Declared}
use Rattle.tree_core.specs.declared.name.UpName.{UpName}
use Rattle.tree_core.specs.Tree.{Block, Falls, Returns, BodyOf, Stats, EndStats, MoreStats, Stat, Local, Do, While, Repeat, If, IfElse, NumFor, NumForStep, GenFor, Arms, EndArms, MoreArms, Exp, Nil, True, False, Int, Str, Vararg, Function, Var, Index, Call, Method, Unary, Binary, And, Or, Paren, Table, Exps, EndExps, MoreExps}
use Rattle.code_core.specs.declared.proto.Const.{Const}
use Rattle.code_of.specs.declared.leaving.Leaving.{Leaving}
use Rattle.code_of.specs.Constants.{of_block}
use Rattle.code_of.specs.CodeOf.{leaving_of, body_code, variables_of, code_of}
use Rattle.code_of.specs.Expressions.{count, made_by, made_in, exps_code}
use Rattle.code_of.specs.Conditions.{test_code}
use Rattle.tree_terms.specs.Levels.{level_after, levels_after}
use Rattle.code_of.specs.Levels.{made_by_stat, made_in_arms, made_in_block, closing_after}
use Rattle.code_of.specs.Parts.{past_size, bounds_code, steps_code}
use Rattle.code_of.specs.Sizes.{stat_size, arms_size, block_size, whole_size}
use Rattle.code_of.specs.Variables.{variables, names_of, hidden, declared_by, looped, within_stat, within_arms, within_stats, within_block, within_open, within_whole}
use Rattle.scope_core.specs.Held.{held, held_behind, count as held_count}
use Rattle.tree_terms.specs.Labels.{Named, names_ahead, names_passed}
use Rattle.scope_laws.specs.Keeping.{StatsKeep}
use Rattle.tree_terms.specs.Weight.{weight_of_stat, weight_of_arms, weight_of_stats, weight_of_block, weight_of_body}
use Rattle.code_bounds.proofs.Holding.{some_name, some_held}
use Rattle.scope_laws.proofs.Rules.{few_after}
use Rattle.code_checked.proofs.Described.{known_below}

-- an expression holds a value at least

pub count_same : (es : Exps) → held_count es ≡ count es
count_same EndExps = refl
count_same (MoreExps e es) = let same = count_same es in omega (arith, same)

pub values_below : (es : Exps) (base before : ℕ) → base + before ≤ 250 → base + held_behind before es ≤ 250 → base + before + count es ≤ 250
values_below EndExps base before le room = omega (arith, le)
values_below (MoreExps e es) base before le room =
    let some = some_held e in
    let rest = values_below es base (before + 1) (omega (arith, room, some)) (omega (arith, room)) in
    omega (arith, rest)

-- locals in scope

pub levels_few : (ss : Stats) (falls vararg : Bool) (t : ℕ) (names named : List Named) (loops : Bool) → t ≤ 200 → StatsKeep ss falls vararg t names named loops → levels_after ss t ≤ 200
levels_few EndStats falls vararg t names named loops le k = le
levels_few (MoreStats s ss) falls vararg t names named loops le k =
    levels_few ss falls vararg (level_after s t) (names_passed s names) named loops (few_after s vararg t (names_ahead ss falls t (level_after s t) ++ (names ++ named)) loops le k.1.0) k.1.1

-- variables of a function

length_variables : (names : List Name) (from to : ℕ) → length (variables names from to) ≡ length names
length_variables [] from to = refl
length_variables (name ∷ names) from to = ap suc (length_variables names from to)

length_names : (names : List Declared) → length (names_of names) ≡ length names
length_names [] = refl
length_names (d ∷ names) = ap suc (length_names names)

length_hidden : (n from to : ℕ) → length (hidden n from to) ≡ n
length_hidden zero from to = refl
length_hidden (suc n) from to = ap suc (length_hidden n from to)

module _ (cs : List Const) (back : Leaving) where
  looped_few : (n : ℕ) (names : List Name) (place size end : ℕ) → length (looped cs back n names place size end) ≡ n + length names
  looped_few n names place size end =
      let a = length-append (hidden n place end) (variables names (place + 1) (place + 1 + size)) in
      let b = length_hidden n place end in
      let c = length_variables names (place + 1) (place + 1 + size) in
      omega (arith, a, b, c)

  mutual
    stat_few : (s : Stat) (closing : Bool) (t j pc end : ℕ) → length (declared_by cs back s t j pc end) + length (within_stat cs back s closing t j pc) ≤ weight_of_stat s
    stat_few (Local line names es) closing t j pc end =
        let a = length_variables (names_of names) (pc + length (exps_code cs es (Some (length names)) t j line)) end in
        let b = length_names names in
        omega (arith, a, b)
    stat_few (Do line block) closing t j pc end = let h = block_few block closing t t j pc in omega (arith, h)
    stat_few (While line e block) closing t j pc end = let h = block_few block closing t t (j + made_by e) (pc + length (test_code cs e true 0 t j)) in omega (arith, h)
    stat_few (Repeat line block e) closing t j pc end = let h = open_few block closing t j pc (pc + stat_size cs back (Repeat line block e) closing t j) in omega (arith, h)
    stat_few (If line arms) closing t j pc end = let h = arms_few arms 0 closing t j pc in omega (arith, h)
    stat_few (IfElse line arms block) closing t j pc end =
        let k = j + made_in_arms arms in
        let otherwise = block_size cs back block closing t t k in
        let place = pc + arms_size cs back arms otherwise closing t j in
        let a = arms_few arms otherwise closing t j pc in
        let b = block_few block closing t t k place in
        let c = length-append (within_arms cs back arms otherwise closing t j pc) (within_block cs back block closing t t k place) in
        omega (arith, a, b, c)
    stat_few (NumFor line name from limit block) closing t j pc end =
        let k = j + made_by from + made_by limit in
        let place = pc + length (bounds_code cs from limit t j line) in
        let size = block_size cs back block closing (t + 3) (t + 4) k in
        let last = pc + stat_size cs back (NumFor line name from limit block) closing t j in
        let a = looped_few 3 (name ∷ []) place size last in
        let b = block_few block closing (t + 3) (t + 4) k (place + 1) in
        let c = length-append (looped cs back 3 (name ∷ []) place size last) (within_block cs back block closing (t + 3) (t + 4) k (place + 1)) in
        omega (arith, a, b, c)
    stat_few (NumForStep line name from limit step block) closing t j pc end =
        let k = j + made_by from + made_by limit + made_by step in
        let place = pc + length (steps_code cs from limit step t j) in
        let size = block_size cs back block closing (t + 3) (t + 4) k in
        let last = pc + stat_size cs back (NumForStep line name from limit step block) closing t j in
        let a = looped_few 3 (name ∷ []) place size last in
        let b = block_few block closing (t + 3) (t + 4) k (place + 1) in
        let c = length-append (looped cs back 3 (name ∷ []) place size last) (within_block cs back block closing (t + 3) (t + 4) k (place + 1)) in
        omega (arith, a, b, c)
    stat_few (GenFor line names es block) closing t j pc end =
        let k = j + made_in es in
        let place = pc + length (exps_code cs es (Some 4) t j line) in
        let size = block_size cs back block true (t + 4) (t + 4 + length names) k in
        let last = pc + stat_size cs back (GenFor line names es block) closing t j in
        let a = looped_few 4 names place size last in
        let b = block_few block true (t + 4) (t + 4 + length names) k (place + 1) in
        let c = length-append (looped cs back 4 names place size last) (within_block cs back block true (t + 4) (t + 4 + length names) k (place + 1)) in
        omega (arith, a, b, c)
    stat_few _ closing t j pc end = omega arith

    arms_few : (arms : Arms) (rest : ℕ) (closing : Bool) (t j pc : ℕ) → length (within_arms cs back arms rest closing t j pc) ≤ weight_of_arms arms
    arms_few EndArms rest closing t j pc = omega arith
    arms_few (MoreArms e block arms) rest closing t j pc =
        let k = j + made_by e + made_in_block block in
        let inner = pc + length (test_code cs e true 0 t j) in
        let next = inner + block_size cs back block closing t t (j + made_by e) + past_size (arms_size cs back arms rest closing t k + rest) in
        let a = block_few block closing t t (j + made_by e) inner in
        let b = arms_few arms rest closing t k next in
        let c = length-append (within_block cs back block closing t t (j + made_by e) inner) (within_arms cs back arms rest closing t k next) in
        omega (arith, a, b, c)

    stats_few : (ss : Stats) (closing : Bool) (t j pc end : ℕ) → length (within_stats cs back ss closing t j pc end) ≤ weight_of_stats ss
    stats_few EndStats closing t j pc end = omega arith
    stats_few (MoreStats s ss) closing t j pc end =
        let next = pc + stat_size cs back s closing t j in
        let rest = within_stats cs back ss (closing_after s closing) (level_after s t) (j + made_by_stat s) next end in
        let own = within_stat cs back s closing t j pc in
        let a = stat_few s closing t j pc end in
        let b = stats_few ss (closing_after s closing) (level_after s t) (j + made_by_stat s) next end in
        let c = length-append (declared_by cs back s t j pc end) (own ++ rest) in
        let d = length-append own rest in
        omega (arith, a, b, c, d)

    block_few : (block : Block) (closing : Bool) (outer t j pc : ℕ) → length (within_block cs back block closing outer t j pc) ≤ weight_of_block block
    block_few (Falls ss tokens line) closing outer t j pc = stats_few ss closing t j pc (pc + block_size cs back (Falls ss tokens line) closing outer t j)
    block_few (Returns ss es tokens line) closing outer t j pc = let a = stats_few ss closing t j pc (pc + block_size cs back (Returns ss es tokens line) closing outer t j) in omega (arith, a)

    open_few : (block : Block) (closing : Bool) (t j pc end : ℕ) → length (within_open cs back block closing t j pc end) ≤ weight_of_block block
    open_few (Falls ss tokens line) closing t j pc end = stats_few ss closing t j pc end
    open_few (Returns ss es tokens line) closing t j pc end = let a = stats_few ss closing t j pc end in omega (arith, a)

whole_few : (cs : List Const) (back : Leaving) (block : Block) (params j pc : ℕ) → length (within_whole cs back block params j pc) ≤ weight_of_block block
whole_few cs back (Falls ss tokens line) params j pc = stats_few cs back ss false params j pc (pc + whole_size cs back (Falls ss tokens line) params j)
whole_few cs back (Returns ss es tokens line) params j pc = let a = stats_few cs back ss false params j pc (pc + whole_size cs back (Returns ss es tokens line) params j) in omega (arith, a)

pub locals_few : (source : Option (List ℕ)) (params : List Name) (vararg : Bool) (inner : Block) (ups : List UpName) (line : ℕ) → length params ≤ 200 → weight_of_body (BodyOf params vararg inner ups line) ≤ 2 ^ 21
    → length (code_of source (BodyOf params vararg inner ups line)).own.locals < 2 ^ 31
locals_few source params vararg inner ups line few w =
    let n = length (body_code (BodyOf params vararg inner ups line)) in
    let cs = of_block inner [] in
    let back = leaving_of vararg (length params) inner in
    let first = Rattle.std.specs.Prelude.cond vararg 1 0 in
    let a = length_variables params 0 n in
    let b = whole_few cs back inner (length params) 0 first in
    let c = length-append (variables params 0 n) (within_whole cs back inner (length params) 0 first) in
    known_below source (variables_of (BodyOf params vararg inner ups line)) (2 ^ 31) (omega (arith, a, b, c, few, w))
