-- A function's list of variables gives each variable to be closed its name at its mark.
use Rattle.std.proofs.Common.{◌≡◌, ℕ, ◌+◌, ◌<◌, ◌≤◌, Bool, true, false, cond, List, [], ◌∷◌, ◌++◌, length, Option, Some, None, refl, sym, ap, subst, ◌∙◌, arith, length-append, append_assoc}
use Rattle.std.proofs.lemmas.List.{length-map}
use Rattle.tree_core.specs.declared.name.Name.{Name}
use Rattle.tree_core.specs.Tree.{Block, Falls, Returns, BodyOf, Stats, EndStats, MoreStats, Stat, Local, LocalFunction, Do, While, Repeat, If, IfElse, NumFor, NumForStep, GenFor, Arms, EndArms, MoreArms}
use Rattle.code_core.specs.declared.proto.Const.{Const}
use Rattle.code_core.specs.declared.proto.LocVar.{LocVar}
use Rattle.code_core.specs.Prototype.{Prototype}
use Rattle.code_of.specs.Expressions.{made_by, made_in, exps_code}
use Rattle.code_of.specs.Conditions.{test_code}
use Rattle.code_of.specs.Levels.{made_by_stat, made_in_arms, made_in_block, closing_after}
use Rattle.tree_terms.specs.Levels.{level_after}
use Rattle.code_of.specs.Parts.{past_size, bounds_code, steps_code}
use Rattle.list_laws.proofs.Items.{append_nil}
use Rattle.tree_core.specs.declared.name.UpName.{UpName}
use Rattle.code_of.specs.Coded.{Coded}
use Rattle.code_of.specs.declared.leaving.Leaving.{Leaving}
use Rattle.code_of.specs.CodeOf.{leaving_of, opening, body_code, code_of}
use Rattle.code_of.specs.Constants.{of_block}
use Rattle.code_of.specs.Statements.{whole_code}
use Rattle.stat_laws.specs.Fits.{is_known}
use Rattle.code_of.proofs.Sizes.{whole_sized, function_some}
use Rattle.code_of.specs.Sizes.{stat_size, arms_size, stats_size, block_size, open_size, whole_size}
use Rattle.code_of.specs.Variables.{names_of, variables, hidden, looped, declared_by, within_stat, within_arms, within_stats, within_block, within_open, within_whole}
use Rattle.stat_laws.proofs.Naming.{StatIsNamed, ArmsAreNamed, StatsAreNamed, BlockIsNamed, OpenIsNamed}
use Rattle.stat_laws.proofs.Alive.{alive, variables_alive, hidden_alive, Ended, ended_by, ended_both, variables_ended, hidden_ended, ended_none, alive_both, Around, narrow, first_part, second_part, second_count, declared_named, closed_unnamed}

module _ (cs : List Const) (back : Leaving) where
  -- what is declared within a piece ends with it

  declared_ended : (s : Stat) (t j pc end : ℕ) → Ended (declared_by cs back s t j pc end) end
  declared_ended (Local l names es) t j pc end = variables_ended (names_of names) (pc + length (exps_code cs es (Some (length names)) t j l)) end end (omega arith)
  declared_ended (LocalFunction l name body) t j pc end = (omega arith, tt)
  declared_ended _ t j pc end = tt

  looped_ended : (k : ℕ) (names : List Name) (place size end : ℕ) → place + 1 + size ≤ end → Ended (looped cs back k names place size end) end
  looped_ended k names place size end le =
      ended_both (hidden k place end) (variables names (place + 1) (place + 1 + size)) end (hidden_ended k place end end (omega arith)) (variables_ended names (place + 1) (place + 1 + size) end le)

  mutual
    stat_ended : (s : Stat) (closing : Bool) (t j pc : ℕ) → Ended (within_stat cs back s closing t j pc) (pc + stat_size cs back s closing t j)
    stat_ended (Do l block) closing t j pc = block_ended block closing t t j pc
    stat_ended (While l e block) closing t j pc =
        let place = pc + length (test_code cs e true 0 t j) in
        ended_by (within_block cs back block closing t t (j + made_by e) place) (place + block_size cs back block closing t t (j + made_by e)) (pc + stat_size cs back (While l e block) closing t j) (omega arith) (block_ended block closing t t (j + made_by e) place)
    stat_ended (Repeat l block e) closing t j pc = open_ended block closing t j pc (pc + stat_size cs back (Repeat l block e) closing t j) (omega arith)
    stat_ended (If l arms) closing t j pc = arms_ended arms 0 closing t j pc
    stat_ended (IfElse l arms block) closing t j pc =
        let otherwise = block_size cs back block closing t t (j + made_in_arms arms) in
        let place = pc + arms_size cs back arms otherwise closing t j in
        ended_both (within_arms cs back arms otherwise closing t j pc) (within_block cs back block closing t t (j + made_in_arms arms) place) (pc + (arms_size cs back arms otherwise closing t j + otherwise))
        (ended_by (within_arms cs back arms otherwise closing t j pc) place (pc + (arms_size cs back arms otherwise closing t j + otherwise)) (omega arith) (arms_ended arms otherwise closing t j pc))
        (ended_by (within_block cs back block closing t t (j + made_in_arms arms) place) (place + otherwise) (pc + (arms_size cs back arms otherwise closing t j + otherwise)) (omega arith) (block_ended block closing t t (j + made_in_arms arms) place))
    stat_ended (NumFor l name from limit block) closing t j pc =
        let k = j + made_by from + made_by limit in
        let place = pc + length (bounds_code cs from limit t j l) in
        let size = block_size cs back block closing (t + 3) (t + 4) k in
        let end = pc + stat_size cs back (NumFor l name from limit block) closing t j in
        ended_both (looped cs back 3 (name ∷ []) place size end) (within_block cs back block closing (t + 3) (t + 4) k (place + 1)) end (looped_ended 3 (name ∷ []) place size end (omega arith))
        (ended_by (within_block cs back block closing (t + 3) (t + 4) k (place + 1)) (place + 1 + size) end (omega arith) (block_ended block closing (t + 3) (t + 4) k (place + 1)))
    stat_ended (NumForStep l name from limit step block) closing t j pc =
        let k = j + made_by from + made_by limit + made_by step in
        let place = pc + length (steps_code cs from limit step t j) in
        let size = block_size cs back block closing (t + 3) (t + 4) k in
        let end = pc + stat_size cs back (NumForStep l name from limit step block) closing t j in
        ended_both (looped cs back 3 (name ∷ []) place size end) (within_block cs back block closing (t + 3) (t + 4) k (place + 1)) end (looped_ended 3 (name ∷ []) place size end (omega arith))
        (ended_by (within_block cs back block closing (t + 3) (t + 4) k (place + 1)) (place + 1 + size) end (omega arith) (block_ended block closing (t + 3) (t + 4) k (place + 1)))
    stat_ended (GenFor l names es block) closing t j pc =
        let k = j + made_in es in
        let place = pc + length (exps_code cs es (Some 4) t j l) in
        let size = block_size cs back block true (t + 4) (t + 4 + length names) k in
        let end = pc + stat_size cs back (GenFor l names es block) closing t j in
        ended_both (looped cs back 4 names place size end) (within_block cs back block true (t + 4) (t + 4 + length names) k (place + 1)) end (looped_ended 4 names place size end (omega arith))
        (ended_by (within_block cs back block true (t + 4) (t + 4 + length names) k (place + 1)) (place + 1 + size) end (omega arith) (block_ended block true (t + 4) (t + 4 + length names) k (place + 1)))
    stat_ended _ closing t j pc = tt

    arms_ended : (arms : Arms) (rest : ℕ) (closing : Bool) (t j pc : ℕ) → Ended (within_arms cs back arms rest closing t j pc) (pc + arms_size cs back arms rest closing t j)
    arms_ended EndArms rest closing t j pc = tt
    arms_ended (MoreArms e block arms) rest closing t j pc =
        let k = j + made_by e + made_in_block block in
        let inner = pc + length (test_code cs e true 0 t j) in
        let size = block_size cs back block closing t t (j + made_by e) in
        let others = arms_size cs back arms rest closing t k in
        let behind = inner + size + past_size (others + rest) in
        let end = pc + arms_size cs back (MoreArms e block arms) rest closing t j in
        ended_both (within_block cs back block closing t t (j + made_by e) inner) (within_arms cs back arms rest closing t k behind) end
        (ended_by (within_block cs back block closing t t (j + made_by e) inner) (inner + size) end (omega arith) (block_ended block closing t t (j + made_by e) inner))
        (ended_by (within_arms cs back arms rest closing t k behind) (behind + others) end (omega arith) (arms_ended arms rest closing t k behind))

    stats_ended : (ss : Stats) (closing : Bool) (t j pc end : ℕ) → pc + stats_size cs back ss closing t j ≤ end → Ended (within_stats cs back ss closing t j pc end) end
    stats_ended EndStats closing t j pc end le = tt
    stats_ended (MoreStats s ss) closing t j pc end le =
        let place = pc + stat_size cs back s closing t j in
        let rest = within_stats cs back ss (closing_after s closing) (level_after s t) (j + made_by_stat s) place end in
        ended_both (declared_by cs back s t j pc end) (within_stat cs back s closing t j pc ++ rest) end (declared_ended s t j pc end)
        (ended_both (within_stat cs back s closing t j pc) rest end (ended_by (within_stat cs back s closing t j pc) place end (omega arith) (stat_ended s closing t j pc))
        (stats_ended ss (closing_after s closing) (level_after s t) (j + made_by_stat s) place end (omega arith)))

    block_ended : (block : Block) (closing : Bool) (outer t j pc : ℕ) → Ended (within_block cs back block closing outer t j pc) (pc + block_size cs back block closing outer t j)
    block_ended (Falls ss tokens line) closing outer t j pc = stats_ended ss closing t j pc (pc + block_size cs back (Falls ss tokens line) closing outer t j) (omega arith)
    block_ended (Returns ss es tokens line) closing outer t j pc = stats_ended ss closing t j pc (pc + block_size cs back (Returns ss es tokens line) closing outer t j) (omega arith)

    open_ended : (block : Block) (closing : Bool) (t j pc end : ℕ) → pc + open_size cs back block closing t j ≤ end → Ended (within_open cs back block closing t j pc end) end
    open_ended (Falls ss tokens line) closing t j pc end le = stats_ended ss closing t j pc end le
    open_ended (Returns ss es tokens line) closing t j pc end le = stats_ended ss closing t j pc end (omega arith)

  -- what a statement declares is in scope behind it
  declared_alive : (s : Stat) (closing : Bool) (t j pc end q : ℕ) → pc + stat_size cs back s closing t j ≤ q → q < end → t + alive q (declared_by cs back s t j pc end) ≡ level_after s t
  declared_alive (Local l names es) closing t j pc end q le lt =
      let count = variables_alive (names_of names) (pc + length (exps_code cs es (Some (length names)) t j l)) end q (omega arith) lt in
      let same = length-map names (λ d. d.name) in
      omega (arith, count, same)
  declared_alive (LocalFunction l name body) closing t j pc end q le lt = let some = function_some body t j in let count = variables_alive (name ∷ []) (pc + 1) end q (omega (arith, some)) lt in omega (arith, count)
  declared_alive _ closing t j pc end q le lt = omega arith

  looped_alive : (k : ℕ) (names : List Name) (place size end q : ℕ) → place + 1 ≤ q → q < place + 1 + size → place + 1 + size ≤ end → alive q (looped cs back k names place size end) ≡ k + length names
  looped_alive k names place size end q le lt fits =
      let both = alive_both q (hidden k place end) (variables names (place + 1) (place + 1 + size)) in
      let a = hidden_alive k place end q (omega arith) (omega arith) in
      let b = variables_alive names (place + 1) (place + 1 + size) q le lt in
      omega (arith, both, a, b)

module _ (lines : Bool) (p : Prototype) (back : Leaving) where
  -- the block of a `for`
  for_scope : (k : ℕ) (names : List Name) (t place size end lo hi : ℕ) (front block after : List LocVar) → lo ≤ place → end ≤ hi → place + 1 + size ≤ end → Around lines p front (looped p.own.constants back k names place size end ++ block) after t lo hi
      → Around lines p (front ++ looped p.own.constants back k names place size end) block after (t + (k + length names)) (place + 1) (place + 1 + size)
  for_scope k names t place size end lo hi front block after a b fits h =
      second_part lines p front (looped p.own.constants back k names place size end) block after t (t + (k + length names)) lo hi (place + 1) (place + 1 + size) h
      (λ q le lt. second_count lines p front (looped p.own.constants back k names place size end) t (k + length names) (t + (k + length names)) q (h.scope q (omega arith) (omega arith))
      (looped_alive p.own.constants back k names place size end q le lt fits) refl)

  joined_so : (front a b d after : List LocVar) (t lo hi : ℕ) → Around lines p front (a ++ (b ++ d)) after t lo hi → Around lines p front ((a ++ b) ++ d) after t lo hi
  joined_so front a b d after t lo hi h = record { whole = h.whole ∙ ap (λ l. cond lines (front ++ (l ++ after)) []) (sym (append_assoc a b d)); scope = h.scope }

  mutual
    stat_named : (s : Stat) (closing : Bool) (t j pc end : ℕ) (front after : List LocVar) → pc + stat_size p.own.constants back s closing t j ≤ end
        → Around lines p front (declared_by p.own.constants back s t j pc end ++ within_stat p.own.constants back s closing t j pc) after t pc end → StatIsNamed lines p back s closing t j pc
    stat_named (Local l names es) closing t j pc end front after le h =
        let from = pc + length (exps_code p.own.constants es (Some (length names)) t j l) in
        declared_named lines p names t from from end front [] after (omega arith) (omega arith)
        (narrow lines p front (variables (names_of names) from end ++ []) after t pc end from end (omega arith) (omega arith) h)
    stat_named (Do l block) closing t j pc end front after le h =
        block_named block closing t t j pc front after (narrow lines p front (within_block p.own.constants back block closing t t j pc) after t pc end pc (pc + block_size p.own.constants back block closing t t j) (omega arith) le h)
    stat_named (While l e block) closing t j pc end front after le h =
        let place = pc + length (test_code p.own.constants e true 0 t j) in
        block_named block closing t t (j + made_by e) place front after
        (narrow lines p front (within_block p.own.constants back block closing t t (j + made_by e) place) after t pc end place (place + block_size p.own.constants back block closing t t (j + made_by e)) (omega arith) (omega arith) h)
    stat_named (Repeat l block e) closing t j pc end front after le h =
        let close = pc + stat_size p.own.constants back (Repeat l block e) closing t j in
        open_named block closing t j pc close front after (omega arith) (narrow lines p front (within_open p.own.constants back block closing t j pc close) after t pc end pc close (omega arith) le h)
    stat_named (If l arms) closing t j pc end front after le h =
        arms_named arms 0 closing t j pc front after (narrow lines p front (within_arms p.own.constants back arms 0 closing t j pc) after t pc end pc (pc + arms_size p.own.constants back arms 0 closing t j) (omega arith) le h)
    stat_named (IfElse l arms block) closing t j pc end front after le h =
        let otherwise = block_size p.own.constants back block closing t t (j + made_in_arms arms) in
        let size = arms_size p.own.constants back arms otherwise closing t j in
        let place = pc + size in
        let one = within_arms p.own.constants back arms otherwise closing t j pc in
        let two = within_block p.own.constants back block closing t t (j + made_in_arms arms) place in (
          arms_named arms otherwise closing t j pc front (two ++ after) (narrow lines p front one (two ++ after) t pc end pc place (omega arith) (omega arith) (first_part lines p front one two after t pc end h)),
          block_named block closing t t (j + made_in_arms arms) place (front ++ one) after
              (second_part lines p front one two after t t pc end place (place + otherwise) h
              (λ q lo hi. second_count lines p front one t 0 t q (h.scope q (omega arith) (omega arith)) (ended_none one place q lo (arms_ended p.own.constants back arms otherwise closing t j pc)) (omega arith))),
        )
    stat_named (NumFor l name from limit block) closing t j pc end front after le h =
        let k = j + made_by from + made_by limit in
        let place = pc + length (bounds_code p.own.constants from limit t j l) in
        let size = block_size p.own.constants back block closing (t + 3) (t + 4) k in
        let close = pc + stat_size p.own.constants back (NumFor l name from limit block) closing t j in
        block_named block closing (t + 3) (t + 4) k (place + 1) (front ++ looped p.own.constants back 3 (name ∷ []) place size close) after
        (for_scope 3 (name ∷ []) t place size close pc end front (within_block p.own.constants back block closing (t + 3) (t + 4) k (place + 1)) after (omega arith) le (omega arith) h)
    stat_named (NumForStep l name from limit step block) closing t j pc end front after le h =
        let k = j + made_by from + made_by limit + made_by step in
        let place = pc + length (steps_code p.own.constants from limit step t j) in
        let size = block_size p.own.constants back block closing (t + 3) (t + 4) k in
        let close = pc + stat_size p.own.constants back (NumForStep l name from limit step block) closing t j in
        block_named block closing (t + 3) (t + 4) k (place + 1) (front ++ looped p.own.constants back 3 (name ∷ []) place size close) after
        (for_scope 3 (name ∷ []) t place size close pc end front (within_block p.own.constants back block closing (t + 3) (t + 4) k (place + 1)) after (omega arith) le (omega arith) h)
    stat_named (GenFor l names es block) closing t j pc end front after le h =
        let k = j + made_in es in
        let place = pc + length (exps_code p.own.constants es (Some 4) t j l) in
        let size = block_size p.own.constants back block true (t + 4) (t + 4 + length names) k in
        let close = pc + stat_size p.own.constants back (GenFor l names es block) closing t j in
        let inner = within_block p.own.constants back block true (t + 4) (t + 4 + length names) k (place + 1) in
        let all : t + (4 + length names) ≡ t + 4 + length names = omega arith in (
          closed_unnamed lines p t place close front (variables names (place + 1) (place + 1 + size)) (inner ++ after) (omega arith)
              (narrow lines p front (looped p.own.constants back 4 names place size close) (inner ++ after) t pc end place close (omega arith) le (first_part lines p front (looped p.own.constants back 4 names place size close) inner after t pc end h)),
          block_named block true (t + 4) (t + 4 + length names) k (place + 1) (front ++ looped p.own.constants back 4 names place size close) after
              (subst (λ u. Around lines p (front ++ looped p.own.constants back 4 names place size close) inner after u (place + 1) (place + 1 + size)) all
              (for_scope 4 names t place size close pc end front inner after (omega arith) le (omega arith) h)),
        )
    stat_named _ closing t j pc end front after le h = tt

    arms_named : (arms : Arms) (rest : ℕ) (closing : Bool) (t j pc : ℕ) (front after : List LocVar)
        → Around lines p front (within_arms p.own.constants back arms rest closing t j pc) after t pc (pc + arms_size p.own.constants back arms rest closing t j) → ArmsAreNamed lines p back arms rest closing t j pc
    arms_named EndArms rest closing t j pc front after h = tt
    arms_named (MoreArms e block arms) rest closing t j pc front after h =
        let k = j + made_by e + made_in_block block in
        let inner = pc + length (test_code p.own.constants e true 0 t j) in
        let size = block_size p.own.constants back block closing t t (j + made_by e) in
        let others = arms_size p.own.constants back arms rest closing t k in
        let behind = inner + size + past_size (others + rest) in
        let end = pc + arms_size p.own.constants back (MoreArms e block arms) rest closing t j in
        let one = within_block p.own.constants back block closing t t (j + made_by e) inner in
        let two = within_arms p.own.constants back arms rest closing t k behind in (
          block_named block closing t t (j + made_by e) inner front (two ++ after) (narrow lines p front one (two ++ after) t pc end inner (inner + size) (omega arith) (omega arith) (first_part lines p front one two after t pc end h)),
          arms_named arms rest closing t k behind (front ++ one) after
              (second_part lines p front one two after t t pc end behind (behind + others) h
              (λ q lo hi. second_count lines p front one t 0 t q (h.scope q (omega arith) (omega arith)) (ended_none one (inner + size) q (omega arith) (block_ended p.own.constants back block closing t t (j + made_by e) inner)) (omega arith))),
        )

    stats_named : (ss : Stats) (closing : Bool) (t j pc end : ℕ) (front after : List LocVar) → pc + stats_size p.own.constants back ss closing t j ≤ end
        → Around lines p front (within_stats p.own.constants back ss closing t j pc end) after t pc end → StatsAreNamed lines p back ss closing t j pc
    stats_named EndStats closing t j pc end front after le h = tt
    stats_named (MoreStats s ss) closing t j pc end front after le h =
        let place = pc + stat_size p.own.constants back s closing t j in
        let declared = declared_by p.own.constants back s t j pc end in
        let inner = within_stat p.own.constants back s closing t j pc in
        let rest = within_stats p.own.constants back ss (closing_after s closing) (level_after s t) (j + made_by_stat s) place end in
        let joined = joined_so front declared inner rest after t pc end h in (
          stat_named s closing t j pc end front (rest ++ after) (omega arith) (first_part lines p front (declared ++ inner) rest after t pc end joined),
          stats_named ss (closing_after s closing) (level_after s t) (j + made_by_stat s) place end (front ++ (declared ++ inner)) after (omega arith)
              (second_part lines p front (declared ++ inner) rest after t (level_after s t) pc end place end joined
              (λ q lo hi. second_count lines p front (declared ++ inner) t (alive q (declared ++ inner)) (level_after s t) q (h.scope q (omega arith) hi) refl
              (let sum = alive_both q declared inner in let none = ended_none inner place q lo (stat_ended p.own.constants back s closing t j pc) in let count = declared_alive p.own.constants back s closing t j pc end q lo hi in omega (arith, sum, none, count)))),
        )

    block_named : (block : Block) (closing : Bool) (outer t j pc : ℕ) (front after : List LocVar)
        → Around lines p front (within_block p.own.constants back block closing outer t j pc) after t pc (pc + block_size p.own.constants back block closing outer t j) → BlockIsNamed lines p back block closing outer t j pc
    block_named (Falls ss tokens line) closing outer t j pc front after h = stats_named ss closing t j pc (pc + block_size p.own.constants back (Falls ss tokens line) closing outer t j) front after (omega arith) h
    block_named (Returns ss es tokens line) closing outer t j pc front after h = stats_named ss closing t j pc (pc + block_size p.own.constants back (Returns ss es tokens line) closing outer t j) front after (omega arith) h

    open_named : (block : Block) (closing : Bool) (t j pc end : ℕ) (front after : List LocVar) → pc + open_size p.own.constants back block closing t j ≤ end
        → Around lines p front (within_open p.own.constants back block closing t j pc end) after t pc end → OpenIsNamed lines p back block closing t j pc
    open_named (Falls ss tokens line) closing t j pc end front after le h = stats_named ss closing t j pc end front after le h
    open_named (Returns ss es tokens line) closing t j pc end front after le h = stats_named ss closing t j pc end front after (omega arith) h

-- a whole function

whole_named : (lines : Bool) (p : Prototype) (back : Leaving) (block : Block) (params j pc : ℕ) (front after : List LocVar)
    → Around lines p front (within_whole p.own.constants back block params j pc) after params pc (pc + whole_size p.own.constants back block params j) → BlockIsNamed lines p back block false 0 params j pc
whole_named lines p back (Falls ss tokens line) params j pc front after h = stats_named lines p back ss false params j pc (pc + whole_size p.own.constants back (Falls ss tokens line) params j) front after (omega arith) h
whole_named lines p back (Returns ss es tokens line) params j pc front after h = stats_named lines p back ss false params j pc (pc + whole_size p.own.constants back (Returns ss es tokens line) params j) front after (omega arith) h

begin_size : (vararg : Bool) (params line : ℕ) → length (opening vararg params line) ≡ cond vararg 1 0
begin_size true params line = refl
begin_size false params line = refl

pub body_named : (source : Option (List ℕ)) (params : List Name) (vararg : Bool) (inner : Block) (ups : List UpName) (line : ℕ)
    → BlockIsNamed (is_known source) (code_of source (BodyOf params vararg inner ups line)) (leaving_of vararg (length params) inner) inner false 0 (length params) 0 (length (opening vararg (length params) line))
body_named source params vararg inner ups line =
    whole_named (is_known source) (code_of source (BodyOf params vararg inner ups line)) (leaving_of vararg (length params) inner) inner (length params) 0 (length (opening vararg (length params) line)) parameters []
    (record { whole = whole source; scope = λ q lo hi. variables_alive params 0 (length (body_code (BodyOf params vararg inner ups line))) q (omega arith) (omega (arith, hi, sum, wide)) })
  where
    parameters : List LocVar
    parameters = variables params 0 (length (body_code (BodyOf params vararg inner ups line)))

    within : ℕ → List LocVar
    within pc = within_whole (of_block inner []) (leaving_of vararg (length params) inner) inner (length params) 0 pc

    rest : List Coded
    rest = whole_code (of_block inner []) (leaving_of vararg (length params) inner) inner (length params) (length (opening vararg (length params) line))

    sum : length (body_code (BodyOf params vararg inner ups line)) ≡ length (opening vararg (length params) line) + length rest
    sum = length-append (opening vararg (length params) line) rest

    wide : length rest ≡ whole_size (of_block inner []) (leaving_of vararg (length params) inner) inner (length params) 0
    wide = whole_sized (of_block inner []) (leaving_of vararg (length params) inner) inner (length params) (length (opening vararg (length params) line))

    whole : (source : Option (List ℕ)) → (code_of source (BodyOf params vararg inner ups line)).own.locals ≡ cond (is_known source) (parameters ++ (within (length (opening vararg (length params) line)) ++ [])) []
    whole None = refl
    whole (Some text) = ap (λ l. parameters ++ l) (ap within (sym (begin_size vararg (length params) line)) ∙ sym (append_nil (within (length (opening vararg (length params) line)))))
