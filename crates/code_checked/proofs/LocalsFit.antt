-- The variables of a function fit: their names do, and they are in scope within its code.
use Rattle.std.proofs.Common.{◌≡◌, ℕ, zero, suc, ◌+◌, ◌<◌, ◌≤◌, ◌^◌, Bool, true, false, ◌&&◌, List, [], ◌∷◌, ◌++◌, length, Some, refl, ap₂, arith, lt-ltb}
use Rattle.std.specs.List.{list_all}
use Rattle.tree_core.specs.declared.name.Name.{Name}
use Rattle.tree_core.specs.declared.name.Declared.{Declared}
use Rattle.tree_core.specs.Tree.{Block, Falls, Returns, Body, BodyOf, Stats, EndStats, MoreStats, Stat, Local, LocalFunction, Do, While, Repeat, If, IfElse, NumFor, NumForStep, GenFor, Arms, EndArms, MoreArms}
use Rattle.code_core.specs.declared.proto.Const.{Const}
use Rattle.code_core.specs.declared.proto.LocVar.{LocVar}
use Rattle.code_core.specs.Writable.{name_fits, local_fits}
use Rattle.code_of.specs.declared.leaving.Leaving.{Leaving}
use Rattle.code_of.specs.Constants.{of_block}
use Rattle.code_of.specs.Expressions.{made_by, made_in, exps_code}
use Rattle.code_of.specs.Conditions.{test_code}
use Rattle.code_of.specs.Levels.{made_by_stat, made_in_arms, made_in_block, closing_after}
use Rattle.tree_terms.specs.Levels.{level_after}
use Rattle.code_of.specs.Parts.{past_size, bounds_code, steps_code}
use Rattle.code_of.specs.Sizes.{stat_size, arms_size, stats_size, block_size, open_size, whole_size}
use Rattle.code_of.specs.Variables.{variables, names_of, hidden, declared_by, looped, within_stat, within_arms, within_stats, within_block, within_open, within_whole}
use Rattle.code_of.specs.CodeOf.{leaving_of, body_code, variables_of}
use Rattle.code_checked.specs.Written.{NamesFit, DeclaredFit, StatIsWritten, ArmsAreWritten, StatsAreWritten, BlockIsWritten, BodyIsWritten}
use Rattle.code_of.proofs.Sizes.{whole_sized, function_some}

-- variables that are in scope at no place behind n
abbrev pub LocalsFit : ℕ → List LocVar → Type 0
LocalsFit n [] = Unit {0}
LocalsFit n (v ∷ vs) = (name_fits v.name ≡ true) × (v.start ≤ n) × (v.end ≤ n) × LocalsFit n vs

pub all_locals : (n : ℕ) (vs : List LocVar) → n < 2 ^ 31 → LocalsFit n vs → list_all local_fits vs ≡ true
all_locals n [] few h = refl
all_locals n (v ∷ vs) few h =
    let s = h.1 in
    let e = h.2 in
    ap₂ (λ a b. a && b) (ap₂ (λ a b. a && b) h.0 (ap₂ (λ a b. a && b) (lt-ltb v.start (2 ^ 31) (omega (arith, few, s))) (lt-ltb v.end (2 ^ 31) (omega (arith, few, e))))) (all_locals n vs few h.3)

locals_both : (n : ℕ) (vs us : List LocVar) → LocalsFit n vs → LocalsFit n us → LocalsFit n (vs ++ us)
locals_both n [] us h k = k
locals_both n (v ∷ vs) us h k = (h.0, h.1, h.2, locals_both n vs us h.3 k)

variables_fit : (n : ℕ) (names : List Name) (from to : ℕ) → NamesFit names → from ≤ n → to ≤ n → LocalsFit n (variables names from to)
variables_fit n [] from to w f t = tt
variables_fit n (name ∷ names) from to w f t = (w.0, f, t, variables_fit n names from to w.1 f t)

hidden_fit : (n k from to : ℕ) → from ≤ n → to ≤ n → LocalsFit n (hidden k from to)
hidden_fit n zero from to f t = tt
hidden_fit n (suc k) from to f t = (refl, f, t, hidden_fit n k from to f t)

declared_names : (names : List Declared) → DeclaredFit names → NamesFit (names_of names)
declared_names [] w = tt
declared_names (d ∷ names) w = (w.0, declared_names names w.1.1)

module _ (cs : List Const) (back : Leaving) (n : ℕ) where
  looped_fit : (k : ℕ) (names : List Name) (place size end : ℕ) → NamesFit names → place + 1 + size ≤ end → end ≤ n → LocalsFit n (looped cs back k names place size end)
  looped_fit k names place size end w le few =
      locals_both n (hidden k place end) _ (hidden_fit n k place end (omega (arith, le, few)) few) (variables_fit n names (place + 1) (place + 1 + size) w (omega (arith, le, few)) (omega (arith, le, few)))

  declared_fit : (s : Stat) (closing : Bool) (t j pc end : ℕ) → StatIsWritten s → pc + stat_size cs back s closing t j ≤ n → end ≤ n → LocalsFit n (declared_by cs back s t j pc end)
  declared_fit (Local line names es) closing t j pc end w le few =
      variables_fit n (names_of names) (pc + length (exps_code cs es (Some (length names)) t j line)) end (declared_names names w.1.0) (omega (arith, le)) few
  declared_fit (LocalFunction line name body) closing t j pc end w le few = let some = function_some body t j in (w.1.0, omega (arith, le, some), few, tt)
  declared_fit _ closing t j pc end w le few = tt

  mutual
    stat_fit : (s : Stat) (closing : Bool) (t j pc : ℕ) → StatIsWritten s → pc + stat_size cs back s closing t j ≤ n → LocalsFit n (within_stat cs back s closing t j pc)
    stat_fit (Do line block) closing t j pc w le = block_fit block closing t t j pc w.1 le
    stat_fit (While line e block) closing t j pc w le = block_fit block closing t t (j + made_by e) (pc + length (test_code cs e true 0 t j)) w.1.1 (omega (arith, le))
    stat_fit (Repeat line block e) closing t j pc w le = open_fit block closing t j pc (pc + stat_size cs back (Repeat line block e) closing t j) w.1.0 (omega (arith, le)) le
    stat_fit (If line arms) closing t j pc w le = arms_fit arms 0 closing t j pc w.1 le
    stat_fit (IfElse line arms block) closing t j pc w le =
        let k = j + made_in_arms arms in
        let otherwise = block_size cs back block closing t t k in
        locals_both n (within_arms cs back arms otherwise closing t j pc) _ (arms_fit arms otherwise closing t j pc w.1.0 (omega (arith, le)))
        (block_fit block closing t t k (pc + arms_size cs back arms otherwise closing t j) w.1.1 (omega (arith, le)))
    stat_fit (NumFor line name from limit block) closing t j pc w le =
        let k = j + made_by from + made_by limit in
        let place = pc + length (bounds_code cs from limit t j line) in
        let size = block_size cs back block closing (t + 3) (t + 4) k in
        let end = pc + stat_size cs back (NumFor line name from limit block) closing t j in
        locals_both n (looped cs back 3 (name ∷ []) place size end) _ (looped_fit 3 (name ∷ []) place size end (w.1.0, tt) (omega arith) le) (block_fit block closing (t + 3) (t + 4) k (place + 1) w.1.1.1.1 (omega (arith, le)))
    stat_fit (NumForStep line name from limit step block) closing t j pc w le =
        let k = j + made_by from + made_by limit + made_by step in
        let place = pc + length (steps_code cs from limit step t j) in
        let size = block_size cs back block closing (t + 3) (t + 4) k in
        let end = pc + stat_size cs back (NumForStep line name from limit step block) closing t j in
        locals_both n (looped cs back 3 (name ∷ []) place size end) _ (looped_fit 3 (name ∷ []) place size end (w.1.0, tt) (omega arith) le) (block_fit block closing (t + 3) (t + 4) k (place + 1) w.1.1.1.1.1 (omega (arith, le)))
    stat_fit (GenFor line names es block) closing t j pc w le =
        let k = j + made_in es in
        let place = pc + length (exps_code cs es (Some 4) t j line) in
        let size = block_size cs back block true (t + 4) (t + 4 + length names) k in
        let end = pc + stat_size cs back (GenFor line names es block) closing t j in
        locals_both n (looped cs back 4 names place size end) _ (looped_fit 4 names place size end w.1.0 (omega arith) le) (block_fit block true (t + 4) (t + 4 + length names) k (place + 1) w.1.1.1 (omega (arith, le)))
    stat_fit _ closing t j pc w le = tt

    arms_fit : (arms : Arms) (rest : ℕ) (closing : Bool) (t j pc : ℕ) → ArmsAreWritten arms → pc + arms_size cs back arms rest closing t j ≤ n → LocalsFit n (within_arms cs back arms rest closing t j pc)
    arms_fit EndArms rest closing t j pc w le = tt
    arms_fit (MoreArms e block arms) rest closing t j pc w le =
        let k = j + made_by e + made_in_block block in
        let inner = pc + length (test_code cs e true 0 t j) in
        let next = inner + block_size cs back block closing t t (j + made_by e) + past_size (arms_size cs back arms rest closing t k + rest) in
        locals_both n (within_block cs back block closing t t (j + made_by e) inner) _ (block_fit block closing t t (j + made_by e) inner w.1.0 (omega (arith, le))) (arms_fit arms rest closing t k next w.1.1 (omega (arith, le)))

    stats_fit : (ss : Stats) (closing : Bool) (t j pc end : ℕ) → StatsAreWritten ss → pc + stats_size cs back ss closing t j ≤ n → end ≤ n → LocalsFit n (within_stats cs back ss closing t j pc end)
    stats_fit EndStats closing t j pc end w le few = tt
    stats_fit (MoreStats s ss) closing t j pc end w le few =
        locals_both n (declared_by cs back s t j pc end) _ (declared_fit s closing t j pc end w.0 (omega (arith, le)) few)
        (locals_both n (within_stat cs back s closing t j pc) _ (stat_fit s closing t j pc w.0 (omega (arith, le)))
        (stats_fit ss (closing_after s closing) (level_after s t) (j + made_by_stat s) (pc + stat_size cs back s closing t j) end w.1 (omega (arith, le)) few))

    pub block_fit : (block : Block) (closing : Bool) (outer t j pc : ℕ) → BlockIsWritten block → pc + block_size cs back block closing outer t j ≤ n → LocalsFit n (within_block cs back block closing outer t j pc)
    block_fit (Falls ss tokens line) closing outer t j pc w le = stats_fit ss closing t j pc (pc + block_size cs back (Falls ss tokens line) closing outer t j) w.1 (omega (arith, le)) le
    block_fit (Returns ss es tokens line) closing outer t j pc w le = stats_fit ss closing t j pc (pc + block_size cs back (Returns ss es tokens line) closing outer t j) w.1.0 (omega (arith, le)) le

    open_fit : (block : Block) (closing : Bool) (t j pc end : ℕ) → BlockIsWritten block → pc + open_size cs back block closing t j ≤ n → end ≤ n → LocalsFit n (within_open cs back block closing t j pc end)
    open_fit (Falls ss tokens line) closing t j pc end w le few = stats_fit ss closing t j pc end w.1 le few
    open_fit (Returns ss es tokens line) closing t j pc end w le few = stats_fit ss closing t j pc end w.1.0 (omega (arith, le)) few

whole_fit : (cs : List Const) (back : Leaving) (n : ℕ) (block : Block) (params j pc : ℕ) → BlockIsWritten block → pc + whole_size cs back block params j ≤ n → LocalsFit n (within_whole cs back block params j pc)
whole_fit cs back n (Falls ss tokens line) params j pc w le = stats_fit cs back n ss false params j pc (pc + whole_size cs back (Falls ss tokens line) params j) w.1 (omega (arith, le)) le
whole_fit cs back n (Returns ss es tokens line) params j pc w le = stats_fit cs back n ss false params j pc (pc + whole_size cs back (Returns ss es tokens line) params j) w.1.0 (omega (arith, le)) le

-- the variables of a function with n instructions, whose statements begin at a place
locals_from : (params : List Name) (cs : List Const) (back : Leaving) (inner : Block) (n pc : ℕ) → NamesFit params → BlockIsWritten inner → pc + whole_size cs back inner (length params) 0 ≤ n → n < 2 ^ 31
    → list_all local_fits (variables params 0 n ++ within_whole cs back inner (length params) 0 pc) ≡ true
locals_from params cs back inner n pc named written le few =
    all_locals n (variables params 0 n ++ within_whole cs back inner (length params) 0 pc) few
    (locals_both n (variables params 0 n) _ (variables_fit n params 0 n named (omega arith) (omega arith)) (whole_fit cs back n inner (length params) 0 pc written le))

pub body_locals : (body : Body) → BodyIsWritten body → length (body_code body) < 2 ^ 31 → list_all local_fits (variables_of body) ≡ true
body_locals (BodyOf params false inner ups line) w few =
    let cs = of_block inner [] in
    let back = leaving_of false (length params) inner in
    let size = whole_sized cs back inner (length params) 0 in
    locals_from params cs back inner (length (body_code (BodyOf params false inner ups line))) 0 w.1.0 w.1.1.1 (omega (arith, size)) few
body_locals (BodyOf params true inner ups line) w few =
    let cs = of_block inner [] in
    let back = leaving_of true (length params) inner in
    let size = whole_sized cs back inner (length params) 1 in
    locals_from params cs back inner (length (body_code (BodyOf params true inner ups line))) 1 w.1.0 w.1.1.1 (omega (arith, size)) few
