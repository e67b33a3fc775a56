-- The local variables of a function with the places of its code where they are in scope, in the order of their declarations (lobject.h, LocVar).
use Rattle.std.specs.Prelude.{ℕ, zero, suc, ◌+◌, Bool, true, false, List, [], ◌∷◌, ◌++◌, length, map, Some, None}
use Rattle.tree_core.specs.declared.name.Name.{Name}
use Rattle.tree_core.specs.declared.name.Declared.{Declared}
use Rattle.tree_core.specs.Tree.{Block, Falls, Returns, Stats, EndStats, MoreStats, Stat, Empty, Local, LocalFunction, Assign, CallStat, Do, While, Repeat, If, IfElse, NumFor, NumForStep, GenFor, Label, Goto, Break, Arms, EndArms, MoreArms}
use Rattle.code_core.specs.declared.proto.Const.{Const}
use Rattle.code_core.specs.declared.proto.LocVar.{LocVar}
use Rattle.code_of.specs.declared.leaving.Leaving.{Leaving}
use Rattle.code_of.specs.Expressions.{made_by, made_in, exps_code}
use Rattle.code_of.specs.Conditions.{test_code}
use Rattle.code_of.specs.Levels.{made_by_stat, made_in_arms, made_in_block, closing_after}
use Rattle.tree_terms.specs.Levels.{level_after}
use Rattle.code_of.specs.Parts.{past_size, bounds_code, steps_code}
use Rattle.code_of.specs.Sizes.{stat_size, arms_size, block_size, whole_size}

abbrev pub variable : Name → (from to : ℕ) → LocVar
variable name from to = record { name = Some name.text; start = from; end = to }

abbrev pub names_of : List Declared → List Name
names_of names = map (λ d. d.name) names

abbrev pub variables : List Name → (from to : ℕ) → List LocVar
variables names from to = map (λ name. variable name from to) names

-- the hidden variables of a `for` have no names
abbrev pub hidden : (n : ℕ) → (from to : ℕ) → List LocVar
hidden zero from to = []
hidden (suc n) from to = record { name = None; start = from; end = to } ∷ hidden n from to

module _ (constants : List Const) (back : Leaving) where
  -- what a statement declares is in scope from behind its values on, up to the end of the block
  abbrev pub declared_by : Stat → (t j pc end : ℕ) → List LocVar
  declared_by (Local line names es) t j pc end =
      variables (names_of names) (pc + length (exps_code constants es (Some (length names)) t j line)) end
  declared_by (LocalFunction line name body) t j pc end = variable name (pc + 1) end ∷ []
  declared_by _ t j pc end = []

  -- the variables of a `for` whose start ends at a place: the hidden ones up to the loop's end, the others in its block
  abbrev pub looped : (hidden_ones : ℕ) → List Name → (place size end : ℕ) → List LocVar
  looped n names place size end = hidden n place end ++ variables names (place + 1) (place + 1 + size)

  abbrev mutual
    pub within_stat : Stat → (closing : Bool) → (t j pc : ℕ) → List LocVar
    within_stat (Empty line) closing t j pc = []
    within_stat (Local line names es) closing t j pc = []
    within_stat (LocalFunction line name body) closing t j pc = []
    within_stat (Assign line targets es) closing t j pc = []
    within_stat (CallStat line e) closing t j pc = []
    within_stat (Do line block) closing t j pc = within_block block closing t t j pc
    within_stat (While line e block) closing t j pc = within_block block closing t t (j + made_by e) (pc + length (test_code constants e true 0 t j))
    within_stat (Repeat line block e) closing t j pc = within_open block closing t j pc (pc + stat_size constants back (Repeat line block e) closing t j)
    within_stat (If line arms) closing t j pc = within_arms arms 0 closing t j pc
    within_stat (IfElse line arms block) closing t j pc =
        let k = j + made_in_arms arms in
        let otherwise = block_size constants back block closing t t k in
        within_arms arms otherwise closing t j pc ++ within_block block closing t t k (pc + arms_size constants back arms otherwise closing t j)
    within_stat (NumFor line name from limit block) closing t j pc =
        let k = j + made_by from + made_by limit in
        let place = pc + length (bounds_code constants from limit t j line) in
        looped 3 (name ∷ []) place (block_size constants back block closing (t + 3) (t + 4) k)
        (pc + stat_size constants back (NumFor line name from limit block) closing t j)
        ++ within_block block closing (t + 3) (t + 4) k (place + 1)
    within_stat (NumForStep line name from limit step block) closing t j pc =
        let k = j + made_by from + made_by limit + made_by step in
        let place = pc + length (steps_code constants from limit step t j) in
        looped 3 (name ∷ []) place (block_size constants back block closing (t + 3) (t + 4) k)
        (pc + stat_size constants back (NumForStep line name from limit step block) closing t j)
        ++ within_block block closing (t + 3) (t + 4) k (place + 1)
    within_stat (GenFor line names es block) closing t j pc =
        let k = j + made_in es in
        let place = pc + length (exps_code constants es (Some 4) t j line) in
        looped 4 names place (block_size constants back block true (t + 4) (t + 4 + length names) k)
        (pc + stat_size constants back (GenFor line names es block) closing t j)
        ++ within_block block true (t + 4) (t + 4 + length names) k (place + 1)
    within_stat (Label line name) closing t j pc = []
    within_stat (Goto line name) closing t j pc = []
    within_stat (Break line) closing t j pc = []

    pub within_arms : Arms → (rest : ℕ) → (closing : Bool) → (t j pc : ℕ) → List LocVar
    within_arms EndArms rest closing t j pc = []
    within_arms (MoreArms e block arms) rest closing t j pc =
        let k = j + made_by e + made_in_block block in
        let inner = pc + length (test_code constants e true 0 t j) in
        let behind = inner + block_size constants back block closing t t (j + made_by e) + past_size (arms_size constants back arms rest closing t k + rest) in
        within_block block closing t t (j + made_by e) inner ++ within_arms arms rest closing t k behind

    pub within_stats : Stats → (closing : Bool) → (t j pc end : ℕ) → List LocVar
    within_stats EndStats closing t j pc end = []
    within_stats (MoreStats s ss) closing t j pc end =
        declared_by s t j pc end ++ (within_stat s closing t j pc
        ++ within_stats ss (closing_after s closing) (level_after s t) (j + made_by_stat s) (pc + stat_size constants back s closing t j) end)

    pub within_block : Block → (closing : Bool) → (outer t j pc : ℕ) → List LocVar
    within_block (Falls ss tokens line) closing outer t j pc =
        within_stats ss closing t j pc (pc + block_size constants back (Falls ss tokens line) closing outer t j)
    within_block (Returns ss es tokens line) closing outer t j pc =
        within_stats ss closing t j pc (pc + block_size constants back (Returns ss es tokens line) closing outer t j)

    -- the block of a `repeat`, whose test sees its locals
    pub within_open : Block → (closing : Bool) → (t j pc end : ℕ) → List LocVar
    within_open (Falls ss tokens line) closing t j pc end = within_stats ss closing t j pc end
    within_open (Returns ss es tokens line) closing t j pc end = within_stats ss closing t j pc end

  -- the block of a function, whose variables are in scope up to the end of its last return
  abbrev pub within_whole : Block → (params j pc : ℕ) → List LocVar
  within_whole (Falls ss tokens line) params j pc = within_stats ss false params j pc (pc + whole_size constants back (Falls ss tokens line) params j)
  within_whole (Returns ss es tokens line) params j pc = within_stats ss false params j pc (pc + whole_size constants back (Returns ss es tokens line) params j)
