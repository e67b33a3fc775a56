-- The code of each statement, block and list of statements is a piece.
use Rattle.std.proofs.Common.{◌≡◌, ℕ, ◌+◌, ◌<◌, ◌≤◌, ◌^◌, lit<, Bool, true, false, ◌||◌, List, [], length, Option, Some, sym, ap, subst, ◌∙◌, arith}
use Rattle.tree_core.specs.declared.name.Name.{Name}
use Rattle.tree_core.specs.declared.name.Declared.{Declared}
use Rattle.tree_core.specs.Tree.{Block, Falls, Returns, Body, Stats, Stat, Empty, Local, LocalFunction, Assign, CallStat, Do, While, Repeat, If, IfElse, NumFor, NumForStep, GenFor, Goto, Break, Arms, EndArms, MoreArms, Exp, Exps}
use Rattle.tree_activation.specs.Activation.{line_of_end}
use Rattle.code_core.specs.declared.opcode.Opcode.TheVariants.{LoadI}
use Rattle.code_core.specs.declared.proto.Const.{Const}
use Rattle.code_core.specs.Prototype.{Prototype, Prototypes}
use Rattle.std.specs.Prelude.{pos}
use Rattle.code_of.specs.declared.leaving.Leaving.{Leaving}
use Rattle.code_of.specs.Coded.{Coded}
use Rattle.code_of.specs.Constants.{small_field, of_exp, of_exps, of_stat, of_arms, of_stats, of_block}
use Rattle.code_of.specs.Expressions.{made_by, made_in, exp_code, exps_code}
use Rattle.code_of.specs.Conditions.{test_code}
use Rattle.code_of.specs.Jumps.{Visible, Reach, label_in}
use Rattle.code_of.specs.Levels.{made_in_arms, made_in_stats, made_in_block, closings_after, closed_below, closed_until}
use Rattle.tree_terms.specs.Levels.{levels_after, levels_in}
use Rattle.code_of.specs.Parts.{close_code, past_size, past, return_code, bounds_code, steps_code, pair_code}
use Rattle.code_of.specs.Sizes.{stat_size, arms_size, block_size}
use Rattle.code_of.specs.Statements.{in_loop, labels_ahead, stat_code, arms_code, stats_code, block_code, open_code}
use Rattle.code_of.specs.CodeOf.{back_field, from_exp, from_exps, from_stat, from_arms, from_stats, from_block}
use Rattle.code_checked.specs.Near.{IsRegister, ExpIsNear, ResultIsNear, StatIsNear, ArmsAreNear, StatsAreNear, BlockIsNear}
use Rattle.code_checked.proofs.Pieces.{closed, returned, Front, There, Land, Has, Piece, both, nothing, placed_at}
use Rattle.code_checked.proofs.Words.{simple_wide, simple_load_i}
use Rattle.code_checked.proofs.Found.{Grows, grows_then}
use Rattle.code_checked.proofs.Loads.{Whole, Functions}
use Rattle.code_checked.proofs.Growing.{grows_exp, grows_exps, grows_arms, grows_block, after_exp, after_exps, after_arms, after_stats, after_block}
use Rattle.code_checked.proofs.Exps.{exp_law, one_law}
use Rattle.code_checked.proofs.Conditions.{test_law}
use Rattle.code_of.proofs.Landings.{AllLand, label_lands}
use Rattle.code_of.proofs.Sizes.{test_sized, stat_sized, arms_sized, block_sized, past_sized}
use Rattle.code_checked.proofs.Forms.{while_piece, repeat_piece, arm_piece, counting_piece, iterating_piece}
use Rattle.code_checked.proofs.Reaching.{Stands, Reaches, leads_piece}
use Rattle.code_checked.proofs.StatForms.{marks_piece, close_piece, as_closed, function_piece, values_piece, assign_piece, return_law}

module _ (p : Prototype) (W : Whole p) (source : Option (List ℕ)) (closes : Bool) where
  abbrev pub back : Leaving
  back = record { back = back_field p.own.vararg p.own.params; closes = closes }

  -- where a tree is near, and its constants and functions are the prototype's, its code is a piece at every place
  abbrev CodeLaw : (near : (closing : Bool) (t j : ℕ) → Type 0) → (constants : List Const → List Const) → (functions : Prototypes → Prototypes) → (code : (closing : Bool) (t j pc : ℕ) → Reach → List Coded) → Type 1
  CodeLaw near constants functions code =
      (G : Type 0) (closing : Bool) (t j pc : ℕ) (reach : Reach) (cs : List Const) (rest : Prototypes) → (G → Reaches p reach) → near closing t j → IsRegister t → Grows (constants cs) p.own.constants → Functions p j (functions rest)
      → Piece p G closed closed pc (code closing t j pc reach)

  abbrev pub StatLaw : Stat → Type 1
  StatLaw s = CodeLaw (StatIsNear source p s) (of_stat s) (from_stat source s) (stat_code p.own.constants back s)

  abbrev pub BlockLaw : Block → Type 1
  BlockLaw block =
      (G : Type 0) (closing : Bool) (outer t j pc : ℕ) (reach : Reach) (cs : List Const) (rest : Prototypes) → (G → Reaches p reach) → BlockIsNear source p block closing t j → IsRegister t → outer ≤ t → Grows (of_block block cs) p.own.constants → Functions p j (from_block source block rest)
      → Piece p G closed closed pc (block_code p.own.constants back block closing outer t j pc reach)

  -- the block of a `repeat`
  abbrev pub OpenLaw : Block → Type 1
  OpenLaw block = CodeLaw (BlockIsNear source p block) (of_block block) (from_block source block) (open_code p.own.constants back block)

  -- the code behind the arms is a piece at its place
  abbrev pub ArmsLaw : Arms → Type 1
  ArmsLaw arms =
      (G : Type 0) (otherwise : List Coded) (closing : Bool) (t j pc line : ℕ) (reach : Reach) (cs : List Const) (rest : Prototypes) → (G → Reaches p reach) → ArmsAreNear source p arms closing t j → IsRegister t → Grows (of_arms arms cs) p.own.constants → Functions p j (from_arms source arms rest)
      → ((H : Type 0) → (H → G) → Piece p H closed closed (pc + arms_size p.own.constants back arms (length otherwise) closing t j) otherwise)
      → Piece p G closed closed pc (arms_code p.own.constants back arms otherwise closing t j pc line reach)

  -- statements one after another, and what their labels stand for
  pub record Sequence (ss : Stats) (G : Type 0) (falls closing : Bool) (outer t j pc : ℕ) (passed : List Visible) (reach : Reach) : Type 0 where
    pub piece : Piece p G closed closed pc (stats_code p.own.constants back ss falls closing outer t j pc passed reach)
    pub ahead : Has p pc (stats_code p.own.constants back ss falls closing outer t j pc passed reach) → Front closed (Rattle.code_core.specs.Check.in_front p pc)
        → There p (pc + length (stats_code p.own.constants back ss falls closing outer t j pc passed reach)) → AllLand (Stands p) (labels_ahead p.own.constants back ss falls closing outer t j pc)

  abbrev pub StatsLaw : Stats → Type 1
  StatsLaw ss =
      (G : Type 0) (falls closing : Bool) (outer t j pc : ℕ) (passed : List Visible) (reach : Reach) (cs : List Const) (rest : Prototypes) → (G → Reaches p reach) → (G → AllLand (Stands p) passed) → StatsAreNear source p ss closing t j → IsRegister t → outer ≤ t
      → Grows (of_stats ss cs) p.own.constants → Functions p j (from_stats source ss rest) → Sequence ss G falls closing outer t j pc passed reach

  -- statements

  pub empty_law : (line : ℕ) → StatLaw (Empty line)
  empty_law line G closing t j pc reach cs rest to near r g fs = nothing p

  pub local_law : (line : ℕ) (names : List Declared) (es : Exps) → StatLaw (Local line names es)
  local_law line names es G closing t j pc reach cs rest to near r g fs =
      let room = near.0 in
      both p (values_piece p W source G es (length names) t j line pc t cs rest near.1 (omega arith) room g fs) (marks_piece p names t _ (omega (arith, room)))

  pub local_function_law : (line : ℕ) (name : Name) (body : Body) → StatLaw (LocalFunction line name body)
  local_function_law line name body G closing t j pc reach cs rest to near r g fs = function_piece p W source G body t j pc rest (omega (arith, r)) near.1.0 fs

  pub assign_law : (line : ℕ) (ts es : Exps) → StatLaw (Assign line ts es)
  assign_law line ts es G closing t j pc reach cs rest to near r g fs = assign_piece p W source G ts es t j line pc cs rest near.0 near.1.0 near.1.1 g fs

  -- one result, so that no list is left
  one_result : (e : Exp) (t : ℕ) → Rattle.code_checked.proofs.Lists.mark_of e 1 t ≡ closed
  one_result e t = Rattle.code_checked.proofs.Lists.same_either (Rattle.code_of.specs.Expressions.is_open e) closed

  pub call_law : (line : ℕ) (e : Exp) → StatLaw (CallStat line e)
  call_law line e G closing t j pc reach cs rest to near r g fs =
      subst (λ m. Piece p G closed m pc (exp_code p.own.constants e t j 1)) (one_result e t) (exp_law p W source e G t j 1 pc t cs rest near (omega arith) (lit< tt) g fs)

  pub do_law : (line : ℕ) (block : Block) → BlockLaw block → StatLaw (Do line block)
  do_law line block law G closing t j pc reach cs rest to near r g fs = law G closing t t j pc reach cs rest to near r (omega arith) g fs

  -- a loop's block sees the loop's end
  in_loop_reaches : (reach : Reach) (q t : ℕ) → t < 2 ^ 8 → Reaches p reach × Land p q → Reaches p (in_loop reach q t)
  in_loop_reaches reach q t tf h = record { begin = h.0.begin; labels = h.0.labels; exit = record { land = h.1; level = tf } }

  pub while_law : (line : ℕ) (e : Exp) (block : Block) → BlockLaw block → StatLaw (While line e block)
  while_law line e block law G closing t j pc reach cs rest to near r g fs =
      let q : ℕ = pc + stat_size p.own.constants back (While line e block) closing t j in
      let place : ℕ = pc + length (test_code p.own.constants e true 0 t j) in
      let code = block_code p.own.constants back block closing t t (j + made_by e) place (in_loop reach q t) in
      let first = of_exp e cs in
      let size = block_sized p.own.constants back block closing t t (j + made_by e) place (in_loop reach q t) in
      let tested = test_sized p.own.constants e true (length code + 1) t j in
      while_piece p W (λ ahead. test_code p.own.constants e true ahead t j) code line pc q (ap (λ n. pc + n) (stat_sized p.own.constants back (While line e block) closing t j pc reach))
      (λ H short h. test_law p W source e H true (length code + 1) t j pc t q cs (from_block source block rest) near.0 (omega arith) (grows_then first (of_block block first) p.own.constants (grows_block block first) g) fs
      short (omega (arith, size, tested)) (λ x. (h x).1))
      (λ H h. placed_at p (ap (λ n. pc + n) (sym tested))
      (law H closing t t (j + made_by e) place (in_loop reach q t) first rest (λ x. let y = h x in in_loop_reaches reach q t (omega (arith, r)) (to y.0, y.1)) near.1 r (omega arith) g (after_exp source p e j (from_block source block rest) fs)))

  pub repeat_law : (line : ℕ) (block : Block) (e : Exp) → OpenLaw block → StatLaw (Repeat line block e)
  repeat_law line block e law G closing t j pc reach cs rest to near r g fs =
      let q : ℕ = pc + stat_size p.own.constants back (Repeat line block e) closing t j in
      let low = closed_until block e t in
      let inner = levels_in block t in
      let k = j + made_in_block block in
      let first = of_block block cs in
      let code = open_code p.own.constants back block closing t j pc (in_loop reach q t) in
      repeat_piece p W (λ ahead. test_code p.own.constants e false ahead inner k) code (close_code t low (line_of_end block)) line pc q
      (ap (λ n. pc + n) (stat_sized p.own.constants back (Repeat line block e) closing t j pc reach))
      (λ H h. law H closing t j pc (in_loop reach q t) cs (from_exp source e rest) (λ x. let y = h x in in_loop_reaches reach q t (omega (arith, r)) (to y.0, y.1)) near.0 r (grows_then first (of_exp e first) p.own.constants (grows_exp e first) g) fs)
      (λ H end short place h. test_law p W source e H false (length (close_code t low (line_of_end block)) + 1) inner k (pc + length code) inner end first rest near.1 (omega arith) g (after_block source p block j (from_exp source e rest) fs) short place h)
      (λ H place. close_piece p t low (line_of_end block) place (omega (arith, r)))

  pub if_law : (line : ℕ) (arms : Arms) → ArmsLaw arms → StatLaw (If line arms)
  if_law line arms law G closing t j pc reach cs rest to near r g fs = law G [] closing t j pc line reach cs rest to near r g fs (λ H h. nothing p)

  pub if_else_law : (line : ℕ) (arms : Arms) (block : Block) → ArmsLaw arms → BlockLaw block → StatLaw (IfElse line arms block)
  if_else_law line arms block law block_law G closing t j pc reach cs rest to near r g fs =
      let k = j + made_in_arms arms in
      let place : ℕ = pc + arms_size p.own.constants back arms (block_size p.own.constants back block closing t t k) closing t j in
      let first = of_arms arms cs in
      let otherwise = block_code p.own.constants back block closing t t k place reach in
      let size = block_sized p.own.constants back block closing t t k place reach in
      law G otherwise closing t j pc line reach cs (from_block source block rest) to near.0 r (grows_then first (of_block block first) p.own.constants (grows_block block first) g) fs
      (λ H h. subst (λ n. Piece p H closed closed (pc + arms_size p.own.constants back arms n closing t j) otherwise) (sym size)
      (block_law H closing t t k place reach first rest (λ x. to (h x)) near.1 r (omega arith) g (after_arms source p arms j (from_block source block rest) fs)))

  pub no_arms : ArmsLaw EndArms
  no_arms G otherwise closing t j pc line reach cs rest to near r g fs behind =
      let e : pc + 0 ≡ pc = omega arith in
      subst (λ q. Piece p G closed closed q otherwise) e (behind G (λ x. x))

  pub more_arms : (e : Exp) (block : Block) (arms : Arms) → BlockLaw block → ArmsLaw arms → ArmsLaw (MoreArms e block arms)
  more_arms e block arms block_law law G otherwise closing t j pc line reach cs rest to near r g fs behind =
      let cst = p.own.constants in
      let lt = length (test_code cst e true 0 t j) in
      let k = j + made_by e + made_in_block block in
      let inner = pc + lt in
      let size = block_size cst back block closing t t (j + made_by e) in
      let others = arms_size cst back arms (length otherwise) closing t k in
      let next = inner + size + past_size (others + length otherwise) in
      let code = block_code cst back block closing t t (j + made_by e) inner reach in
      let after = arms_code cst back arms otherwise closing t k next line reach in
      let first = of_exp e cs in
      let second = of_block block first in
      let known = grows_then second (of_arms arms second) cst (grows_arms arms second) g in
      let fs1 = after_exp source p e j (from_block source block (from_arms source arms rest)) fs in
      let fs2 = after_block source p block (j + made_by e) (from_arms source arms rest) fs1 in
      let s1 : length code ≡ size = block_sized cst back block closing t t (j + made_by e) inner reach in
      let s2 : length after ≡ others + length otherwise = arms_sized cst back arms otherwise closing t k next line reach in
      let s3 : length (past after line) ≡ past_size (others + length otherwise) = past_sized after line ∙ ap past_size s2 in
      let ahead : ℕ = length code + length (past after line) in
      let tested : length (test_code cst e true ahead t j) ≡ lt = test_sized cst e true ahead t j in
      let place : next ≡ pc + length (test_code cst e true ahead t j) + length code + length (past after line) = omega (arith, s1, s3, tested) in
      arm_piece p W (λ ahead. test_code cst e true ahead t j) code after line pc
      (λ H end short at h. test_law p W source e H true ahead t j pc t end cs (from_block source block (from_arms source arms rest)) near.0 (omega arith) (grows_then first second cst (grows_block block first) known) fs short at (λ x. (h x).1))
      (λ H h. placed_at p (ap (λ n. pc + n) (sym tested)) (block_law H closing t t (j + made_by e) inner reach first (from_arms source arms rest) (λ x. to (h x)) near.1.0 r (omega arith) known fs1))
      (λ H h. subst (λ q. Piece p H closed closed q after) place
      (law H otherwise closing t k next line reach second rest (λ x. to (h x)) near.1.1 r g fs2
      (λ K k'. let e2 : next + others ≡ pc + (lt + (size + (past_size (others + length otherwise) + others))) = omega arith in subst (λ q. Piece p K closed closed q otherwise) (sym e2) (behind K (λ x. h (k' x))))))

  -- the values of a numeric `for`

  pair_piece : (H : Type 0) (from limit : Exp) (t j pc : ℕ) (cs : List Const) (rest : Prototypes) → ExpIsNear source p from t t → ExpIsNear source p limit t (t + 1) → Grows (of_exp limit (of_exp from cs)) p.own.constants → Functions p j (from_exp source from (from_exp source limit rest))
      → Piece p H closed closed pc (pair_code p.own.constants from limit t j)
  pair_piece H from limit t j pc cs rest near_from near_limit g fs =
      both p (one_law p W source from H t j pc t cs (from_exp source limit rest) near_from (omega arith) (grows_then (of_exp from cs) (of_exp limit (of_exp from cs)) p.own.constants (grows_exp limit (of_exp from cs)) g) fs)
      (one_law p W source limit H (t + 1) (j + made_by from) _ t (of_exp from cs) rest near_limit (omega arith) g (after_exp source p from j (from_exp source limit rest) fs))

  pub num_for_law : (line : ℕ) (name : Name) (from limit : Exp) (block : Block) → BlockLaw block → StatLaw (NumFor line name from limit block)
  num_for_law line name from limit block law G closing t j pc reach cs rest to near r g fs =
      let cst = p.own.constants in
      let q : ℕ = pc + stat_size cst back (NumFor line name from limit block) closing t j in
      let room = near.0 in
      let start = bounds_code cst from limit t j line in
      let k = j + made_by from + made_by limit in
      let second = of_exp limit (of_exp from cs) in
      let code = block_code cst back block closing (t + 3) (t + 4) k (pc + length start + 1) (in_loop reach q t) in
      let size = block_sized cst back block closing (t + 3) (t + 4) k (pc + length start + 1) (in_loop reach q t) in
      let short = near.1.1.1.0 closes in
      let fs2 = after_exp source p limit (j + made_by from) (from_block source block rest) (after_exp source p from j (from_exp source limit (from_block source block rest)) fs) in
      counting_piece p W start code t line pc q (omega (arith, r)) (omega (arith, short, size)) (ap (λ n. pc + n) (stat_sized cst back (NumFor line name from limit block) closing t j pc reach))
      (λ H h. both p (pair_piece H from limit t j pc cs (from_block source block rest) near.1.0 near.1.1.0 (grows_then second (of_block block second) cst (grows_block block second) g) fs)
      (simple_wide p LoadI (simple_load_i p) (t + 2) (small_field (pos 1)) line (omega (arith, room)) (lit< tt)))
      (λ H h. law H closing (t + 3) (t + 4) k (pc + length start + 1) (in_loop reach q t) second rest (λ x. let y = h x in in_loop_reaches reach q t (omega (arith, r)) (to y.0, y.1)) near.1.1.1.1 room (omega arith) g fs2)

  pub num_for_step_law : (line : ℕ) (name : Name) (from limit step : Exp) (block : Block) → BlockLaw block → StatLaw (NumForStep line name from limit step block)
  num_for_step_law line name from limit step block law G closing t j pc reach cs rest to near r g fs =
      let cst = p.own.constants in
      let q : ℕ = pc + stat_size cst back (NumForStep line name from limit step block) closing t j in
      let room = near.0 in
      let start = steps_code cst from limit step t j in
      let k = j + made_by from + made_by limit + made_by step in
      let second = of_exp limit (of_exp from cs) in
      let third = of_exp step second in
      let code = block_code cst back block closing (t + 3) (t + 4) k (pc + length start + 1) (in_loop reach q t) in
      let size = block_sized cst back block closing (t + 3) (t + 4) k (pc + length start + 1) (in_loop reach q t) in
      let short = near.1.1.1.1.0 closes in
      let known = grows_then third (of_block block third) cst (grows_block block third) g in
      let fs2 = after_exp source p limit (j + made_by from) (from_exp source step (from_block source block rest)) (after_exp source p from j (from_exp source limit (from_exp source step (from_block source block rest))) fs) in
      let fs3 = after_exp source p step (j + made_by from + made_by limit) (from_block source block rest) fs2 in
      counting_piece p W start code t line pc q (omega (arith, r)) (omega (arith, short, size)) (ap (λ n. pc + n) (stat_sized cst back (NumForStep line name from limit step block) closing t j pc reach))
      (λ H h. both p (pair_piece H from limit t j pc cs (from_exp source step (from_block source block rest)) near.1.0 near.1.1.0 (grows_then second third cst (grows_exp step second) known) fs)
      (one_law p W source step H (t + 2) (j + made_by from + made_by limit) _ t second (from_block source block rest) near.1.1.1.0 (omega arith) known fs2))
      (λ H h. law H closing (t + 3) (t + 4) k (pc + length start + 1) (in_loop reach q t) third rest (λ x. let y = h x in in_loop_reaches reach q t (omega (arith, r)) (to y.0, y.1)) near.1.1.1.1.1 room (omega arith) g fs3)

  pub gen_for_law : (line : ℕ) (names : List Name) (es : Exps) (block : Block) → BlockLaw block → StatLaw (GenFor line names es block)
  gen_for_law line names es block law G closing t j pc reach cs rest to near r g fs =
      let cst = p.own.constants in
      let q : ℕ = pc + stat_size cst back (GenFor line names es block) closing t j in
      let room = near.0 in
      let start = exps_code cst es (Some 4) t j line in
      let k = j + made_in es in
      let first = of_exps es cs in
      let code = block_code cst back block true (t + 4) (t + 4 + length names) k (pc + length start + 1) (in_loop reach q t) in
      let size = block_sized cst back block true (t + 4) (t + 4 + length names) k (pc + length start + 1) (in_loop reach q t) in
      let short = near.1.1.0 closes in
      iterating_piece p W start code t (length names) line pc q (omega (arith, r)) (omega (arith, room)) (omega (arith, short, size)) (ap (λ n. pc + n) (stat_sized cst back (GenFor line names es block) closing t j pc reach))
      (λ H h. values_piece p W source H es 4 t j line pc t cs (from_block source block rest) near.1.0 (omega arith) (omega (arith, room)) (grows_then first (of_block block first) cst (grows_block block first) g) fs)
      (λ H h. law H true (t + 4) (t + 4 + length names) k (pc + length start + 1) (in_loop reach q t) first rest (λ x. let y = h x in in_loop_reaches reach q t (omega (arith, r)) (to y.0, y.1)) near.1.1.1 room (omega arith) g (after_exps source p es j (from_block source block rest) fs))

  pub goto_law : (line : ℕ) (name : Name) → StatLaw (Goto line name)
  goto_law line name G closing t j pc reach cs rest to near r g fs =
      leads_piece p (closes || closing) W (label_in name.text reach.labels) pc line (λ x. (to x).begin) (λ x. label_lands (Stands p) name.text reach.labels (to x).labels)

  pub break_law : (line : ℕ) → StatLaw (Break line)
  break_law line G closing t j pc reach cs rest to near r g fs = leads_piece p (closes || closing) W reach.exit pc line (λ x. (to x).begin) (λ x. (to x).exit)

  -- blocks

  pub falls_law : (ss : Stats) (tokens line : ℕ) → StatsLaw ss → BlockLaw (Falls ss tokens line)
  falls_law ss tokens line law G closing outer t j pc reach cs rest to near r le g fs =
      both p (law G true closing outer t j pc [] reach cs rest to (λ x. tt) near r le g fs).piece (close_piece p outer (closed_below ss outer t) line _ (omega (arith, r, le)))

  pub result_piece : (G : Type 0) (ss : Stats) (es : Exps) (closing : Bool) (t j pc line : ℕ) (cs : List Const) (rest : Prototypes) → ResultIsNear source p es (levels_after ss t) → Grows (of_exps es (of_stats ss cs)) p.own.constants → Functions p j (from_stats source ss (from_exps source es rest))
      → Piece p G closed returned pc (return_code p.own.constants (closings_after ss closing) es (levels_after ss t) (j + made_in_stats ss) line back.back)
  result_piece G ss es closing t j pc line cs rest near g fs =
      return_law p W source G (closings_after ss closing) es (levels_after ss t) (j + made_in_stats ss) line back.back pc (of_stats ss cs) rest near W.returns g (after_stats source p ss j (from_exps source es rest) fs)

  pub returns_law : (ss : Stats) (es : Exps) (tokens line : ℕ) → StatsLaw ss → BlockLaw (Returns ss es tokens line)
  returns_law ss es tokens line law G closing outer t j pc reach cs rest to near r le g fs =
      both p (law G false closing outer t j pc [] reach cs (from_exps source es rest) to (λ x. tt) near.0 r le (grows_then (of_stats ss cs) (of_exps es (of_stats ss cs)) p.own.constants (grows_exps es (of_stats ss cs)) g) fs).piece
      (as_closed p (result_piece G ss es closing t j _ line cs rest near.1 g fs))

  pub open_falls_law : (ss : Stats) (tokens line : ℕ) → StatsLaw ss → OpenLaw (Falls ss tokens line)
  open_falls_law ss tokens line law G closing t j pc reach cs rest to near r g fs = (law G false closing t t j pc [] reach cs rest to (λ x. tt) near r (omega arith) g fs).piece

  pub open_returns_law : (ss : Stats) (es : Exps) (tokens line : ℕ) → StatsLaw ss → OpenLaw (Returns ss es tokens line)
  open_returns_law ss es tokens line law G closing t j pc reach cs rest to near r g fs =
      both p (law G false closing t t j pc [] reach cs (from_exps source es rest) to (λ x. tt) near.0 r (omega arith) (grows_then (of_stats ss cs) (of_exps es (of_stats ss cs)) p.own.constants (grows_exps es (of_stats ss cs)) g) fs).piece
      (as_closed p (result_piece G ss es closing t j _ line cs rest near.1 g fs))
