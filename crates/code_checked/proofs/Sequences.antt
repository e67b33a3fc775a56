-- Statements one after another, and the recursion over all statements. A label stands where the statement behind it begins.
use Rattle.std.proofs.Common.{◌≡◌, ℕ, ◌+◌, ◌<◌, ◌≤◌, ◌^◌, Bool, true, false, cond, ◌&&◌, List, ◌++◌, length, Option, sym, ap, subst, arith, length-append}
use Rattle.tree_core.specs.declared.name.Name.{Name}
use Rattle.tree_core.specs.Tree.{Block, Falls, Returns, Stats, EndStats, MoreStats, Stat, Empty, Local, LocalFunction, Assign, CallStat, Do, While, Repeat, If, IfElse, NumFor, NumForStep, GenFor, Label, Goto, Break, Arms, EndArms, MoreArms}
use Rattle.tree_terms.specs.Labels.{are_void}
use Rattle.code_core.specs.Prototype.{Prototype}
use Rattle.code_core.specs.Check.{in_front}
use Rattle.code_of.specs.Constants.{of_stat, of_stats}
use Rattle.code_of.specs.Jumps.{Visible, Reach}
use Rattle.code_of.specs.Levels.{made_by_stat, closing_after}
use Rattle.tree_terms.specs.Levels.{level_after, levels_after}
use Rattle.code_of.specs.Sizes.{stat_size}
use Rattle.code_of.specs.Statements.{passed_after, labels_ahead, stat_code, stats_code}
use Rattle.code_of.specs.CodeOf.{from_stats}
use Rattle.code_checked.specs.Near.{IsRegister, StatIsNear, StatsAreNear}
use Rattle.code_checked.proofs.Pieces.{closed, Front, There, Land, Has, Piece, both, nothing, has_left, has_right, front_behind, behind_front}
use Rattle.code_checked.proofs.Found.{grows_then}
use Rattle.code_checked.proofs.Loads.{Whole}
use Rattle.code_checked.proofs.Growing.{grows_stats, after_stat}
use Rattle.code_of.proofs.Landings.{AllLand, both_land}
use Rattle.code_of.proofs.Sizes.{stat_sized}
use Rattle.code_checked.proofs.Reaching.{Stands}
use Rattle.code_checked.proofs.Stats.{back, StatLaw, BlockLaw, OpenLaw, ArmsLaw, StatsLaw, Sequence, empty_law, local_law, local_function_law, assign_law, call_law, do_law, while_law, repeat_law, if_law, if_else_law, no_arms, more_arms, num_for_law, num_for_step_law, gen_for_law, goto_law, break_law, falls_law, returns_law, open_falls_law, open_returns_law}

level_fits : (b : Bool) (outer t : ℕ) → outer ≤ t → IsRegister t → cond b outer t < 2 ^ 8
level_fits true outer t le r = omega (arith, le, r)
level_fits false outer t le r = omega (arith, r)

module _ (p : Prototype) (W : Whole p) (source : Option (List ℕ)) (closes : Bool) where
  no_stats : StatsLaw p W source closes EndStats
  no_stats G falls closing outer t j pc passed reach cs rest to had near r le g fs = record { piece = nothing p; ahead = λ has front behind. tt }

  -- behind a statement there is room for a register still
  register_after : (s : Stat) (closing : Bool) (t j : ℕ) → StatIsNear source p s closing t j → IsRegister t → IsRegister (level_after s t)
  register_after (Local line names es) closing t j near r = near.0
  register_after (LocalFunction line name body) closing t j near r = near.0
  register_after _ closing t j near r = r

  pub levels_register : (ss : Stats) (closing : Bool) (t j : ℕ) → StatsAreNear source p ss closing t j → IsRegister t → IsRegister (levels_after ss t)
  levels_register EndStats closing t j near r = r
  levels_register (MoreStats s ss) closing t j near r = levels_register ss (closing_after s closing) (level_after s t) (j + made_by_stat s) near.1 (register_after s closing t j near.0 r)

  above_after : (s : Stat) (outer t : ℕ) → outer ≤ t → outer ≤ level_after s t
  above_after (Local line names es) outer t le = omega (arith, le)
  above_after (LocalFunction line name body) outer t le = omega (arith, le)
  above_after _ outer t le = le

  passed_stand : (s : Stat) (t pc : ℕ) (passed : List Visible) → Land p pc → IsRegister t → AllLand (Stands p) passed → AllLand (Stands p) (passed_after s t pc passed)
  passed_stand (Label line name) t pc passed land r h = (record { land = land; level = omega (arith, r) }, h)
  passed_stand _ t pc passed land r h = h

  -- the labels from a statement on
  ahead_stand : (s : Stat) (ss : Stats) (falls closing : Bool) (outer t j pc : ℕ) → Land p pc → outer ≤ t → IsRegister t
      → AllLand (Stands p) (labels_ahead p.own.constants (back p W source closes) ss falls (closing_after s closing) outer (level_after s t) (j + made_by_stat s) (pc + stat_size p.own.constants (back p W source closes) s closing t j))
      → AllLand (Stands p) (labels_ahead p.own.constants (back p W source closes) (MoreStats s ss) falls closing outer t j pc)
  ahead_stand (Label line name) ss falls closing outer t j pc land le r h =
      let e : j + 0 ≡ j = omega arith in
      let d : pc + 0 ≡ pc = omega arith in (
        record { land = land; level = level_fits (falls && are_void ss) outer t le r },
        subst (λ k. AllLand (Stands p) (labels_ahead p.own.constants (back p W source closes) ss falls closing outer t k pc)) e (subst (λ q. AllLand (Stands p) (labels_ahead p.own.constants (back p W source closes) ss falls closing outer t (j + 0) q)) d h),
      )
  ahead_stand _ ss falls closing outer t j pc land le r h = h

  more_stats : (s : Stat) (ss : Stats) → StatLaw p W source closes s → StatsLaw p W source closes ss → StatsLaw p W source closes (MoreStats s ss)
  more_stats s ss law laws G falls closing outer t j pc passed reach cs rest to had near r le g fs =
      let cst = p.own.constants in
      let b = back p W source closes in
      let k = j + made_by_stat s in
      let place = pc + stat_size cst b s closing t j in
      let ahead = labels_ahead cst b ss falls (closing_after s closing) outer (level_after s t) k place in
      let here : Reach = record { labels = ahead ++ (passed ++ reach.labels); exit = reach.exit } in
      let code = stat_code cst b s closing t j pc here in
      let behind_code = stats_code cst b ss falls (closing_after s closing) outer (level_after s t) k place (passed_after s t pc passed) reach in
      let first = of_stat s cs in
      let size : pc + length code ≡ place = ap (λ n. pc + n) (stat_sized cst b s closing t j pc here) in
      let H : Type 0 = G × AllLand (Stands p) ahead × Land p pc in
      let one : Piece p H closed closed pc code =
      law H closing t j pc here cs (from_stats source ss rest)
      (λ h. let q = to h.0 in record { begin = q.begin; labels = both_land (Stands p) ahead (passed ++ reach.labels) h.1 (both_land (Stands p) passed reach.labels (had h.0) q.labels); exit = q.exit })
      near.0 r (grows_then first (of_stats ss first) cst (grows_stats ss first) g) fs in
      let others : Sequence p W source closes ss H falls (closing_after s closing) outer (level_after s t) k place (passed_after s t pc passed) reach =
      laws H falls (closing_after s closing) outer (level_after s t) k place (passed_after s t pc passed) reach first rest (λ h. to h.0) (λ h. passed_stand s t pc passed h.2 r (had h.0))
      near.1 (register_after s closing t j near.0 r) (above_after s outer t le) g (after_stat source p s j (from_stats source ss rest) fs) in
      let next : Piece p H closed closed (pc + length code) behind_code = subst (λ q. Piece p H closed closed q behind_code) (sym size) others.piece in
      let whole : Piece p H closed closed pc (code ++ behind_code) = both p one next in
      let stand : Has p pc (code ++ behind_code) → Front closed (in_front p pc) → There p (pc + length (code ++ behind_code)) → AllLand (Stands p) ahead × Land p pc =
      (λ has front behind.
      let left = has_left p pc code behind_code has in
      let right : Has p place behind_code = subst (λ q. Has p q behind_code) size (has_right p pc code behind_code has) in
      let before : Front closed (in_front p place) = subst (λ q. Front closed (in_front p q)) size (front_behind p closed closed pc code one.ends left front) in
      let end : There p (place + length behind_code) = (let sum = length-append code behind_code in let e : pc + length (code ++ behind_code) ≡ place + length behind_code = omega (arith, sum, size) in subst (λ q. There p q) e behind) in
      (others.ahead right before end, record { there = behind_front p closed closed pc (code ++ behind_code) whole.starts whole.ends has behind; front = front })) in
      record {
        piece = record { starts = whole.starts; ends = whole.ends; kept = λ x has front behind. let s2 = stand has front behind in whole.kept (x, s2.0, s2.1) has front behind };
        ahead = λ has front behind. let s2 = stand has front behind in ahead_stand s ss falls closing outer t j pc s2.1 le r s2.0;
      }

  label_law : (line : ℕ) (name : Name) → StatLaw p W source closes (Label line name)
  label_law line name G closing t j pc reach cs rest to near r g fs = nothing p

  mutual
    pub stat_law : (s : Stat) → StatLaw p W source closes s
    stat_law (Empty line) = empty_law p W source closes line
    stat_law (Local line names es) = local_law p W source closes line names es
    stat_law (LocalFunction line name body) = local_function_law p W source closes line name body
    stat_law (Assign line ts es) = assign_law p W source closes line ts es
    stat_law (CallStat line e) = call_law p W source closes line e
    stat_law (Do line block) = do_law p W source closes line block (block_law block)
    stat_law (While line e block) = while_law p W source closes line e block (block_law block)
    stat_law (Repeat line block e) = repeat_law p W source closes line block e (open_law block)
    stat_law (If line arms) = if_law p W source closes line arms (arms_law arms)
    stat_law (IfElse line arms block) = if_else_law p W source closes line arms block (arms_law arms) (block_law block)
    stat_law (NumFor line name from limit block) = num_for_law p W source closes line name from limit block (block_law block)
    stat_law (NumForStep line name from limit step block) = num_for_step_law p W source closes line name from limit step block (block_law block)
    stat_law (GenFor line names es block) = gen_for_law p W source closes line names es block (block_law block)
    stat_law (Label line name) = label_law line name
    stat_law (Goto line name) = goto_law p W source closes line name
    stat_law (Break line) = break_law p W source closes line

    pub arms_law : (arms : Arms) → ArmsLaw p W source closes arms
    arms_law EndArms = no_arms p W source closes
    arms_law (MoreArms e block arms) = more_arms p W source closes e block arms (block_law block) (arms_law arms)

    pub stats_law : (ss : Stats) → StatsLaw p W source closes ss
    stats_law EndStats = no_stats
    stats_law (MoreStats s ss) = more_stats s ss (stat_law s) (stats_law ss)

    pub block_law : (block : Block) → BlockLaw p W source closes block
    block_law (Falls ss tokens line) = falls_law p W source closes ss tokens line (stats_law ss)
    block_law (Returns ss es tokens line) = returns_law p W source closes ss es tokens line (stats_law ss)

    pub open_law : (block : Block) → OpenLaw p W source closes block
    open_law (Falls ss tokens line) = open_falls_law p W source closes ss tokens line (stats_law ss)
    open_law (Returns ss es tokens line) = open_returns_law p W source closes ss es tokens line (stats_law ss)
