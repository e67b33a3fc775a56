-- All functions of a tree keep the rules, each with those in it.
use Rattle.std.proofs.Common.{ℕ, ◌+◌, ◌*◌, ◌%◌, Bool, List, length, Option, IsTrue, true, false, arith}
use Rattle.tree_core.specs.Tree.{Block, Falls, Returns, Body, BodyOf, Stats, EndStats, MoreStats, Stat, Local, LocalFunction, Assign, CallStat, Do, While, Repeat, If, IfElse, NumFor, NumForStep, GenFor, Arms, EndArms, MoreArms, Exp, Function, Var, Index, Call, Method, Unary, Binary, And, Or, Paren, Table, Exps, EndExps, MoreExps, Fields, EndFields, MoreFields, Item, Keyed}
use Rattle.code_core.specs.Prototype.{Prototype, Prototypes, none, more}
use Rattle.code_core.specs.Writable.{name_fits}
use Rattle.code_core.specs.Check.{IsChecked}
use Rattle.code_of.specs.Expressions.{made_by, made_in, count}
use Rattle.code_of.specs.Levels.{made_by_stat, made_in_arms, made_in_block, closing_after}
use Rattle.tree_terms.specs.Levels.{level_after, levels_after, levels_in}
use Rattle.code_of.specs.CodeOf.{parts_of, from_exp, from_exps, from_fields, from_stat, from_arms, from_stats, from_block, from_body, code_of}
use Rattle.code_checked.specs.Near.{ExpIsNear, ExpsAreNear, FieldsAreNear, TargetIsNear, TargetsAreNear, StatIsNear, ArmsAreNear, StatsAreNear, BlockIsNear, AreNear, BodyIsNear}
use Rattle.code_checked.specs.Written.{ExpIsWritten, ExpsAreWritten, FieldsAreWritten, StatIsWritten, ArmsAreWritten, StatsAreWritten, BlockIsWritten, BodyIsWritten}
use Rattle.code_checked.proofs.Described.{Keeps, AllKeep, function_keeps, checked, all_checked}

module _ (source : Option (List ℕ)) (named : IsTrue (name_fits source)) where
  -- a function and what is in it, in front of others
  with_function : (body : Body) (rest : Prototypes) → Keeps source (code_of source body) × AllKeep source (from_body source body) → AllKeep source rest → AllKeep source (more (parts_of source body) (from_body source body) rest)
  with_function body rest h others = (h.0, h.1, others)

  mutual
    keep_exp : (p : Prototype) (e : Exp) (size t : ℕ) (rest : Prototypes) → ExpIsNear source p e size t → ExpIsWritten e → AllKeep source rest → AllKeep source (from_exp source e rest)
    keep_exp p (Function line body) size t rest near w others = with_function body rest (keep_body body near.1.1 w.1) others
    keep_exp p (Index line object key) size t rest near w others = keep_exp p object size t (from_exp source key rest) near.1.0 w.1.0 (keep_exp p key size (t + 1) rest near.1.1 w.1.1 others)
    keep_exp p (Call line f es) size t rest near w others = keep_exp p f size t (from_exps source es rest) near.1.0 w.1.0 (keep_exps p es size (t + 1) rest near.1.1 w.1.1 others)
    keep_exp p (Method line object name es) size t rest near w others = keep_exp p object size t (from_exps source es rest) near.1.0 w.1.0 (keep_exps p es size (t + 2) rest near.1.1 w.1.1.1 others)
    keep_exp p (Unary line op e) size t rest near w others = keep_exp p e size t rest near.1 w.1 others
    keep_exp p (Binary line op e d) size t rest near w others = keep_exp p e size t (from_exp source d rest) near.1.0 w.1.0 (keep_exp p d size (t + 1) rest near.1.1 w.1.1 others)
    keep_exp p (And line e d) size t rest near w others = keep_exp p e size t (from_exp source d rest) near.1.0 w.1.0 (keep_exp p d size t rest near.1.1 w.1.1 others)
    keep_exp p (Or line e d) size t rest near w others = keep_exp p e size t (from_exp source d rest) near.1.0 w.1.0 (keep_exp p d size t rest near.1.1 w.1.1 others)
    keep_exp p (Paren line e) size t rest near w others = keep_exp p e size t rest near.1 w.1 others
    keep_exp p (Table line fs) size t rest near w others = keep_fields p fs 0 size t rest near.1 w.1 others
    keep_exp p _ size t rest near w others = others

    keep_exps : (p : Prototype) (es : Exps) (size t : ℕ) (rest : Prototypes) → ExpsAreNear source p es size t → ExpsAreWritten es → AllKeep source rest → AllKeep source (from_exps source es rest)
    keep_exps p EndExps size t rest near w others = others
    keep_exps p (MoreExps e es) size t rest near w others = keep_exp p e size t (from_exps source es rest) near.0 w.0 (keep_exps p es size (t + 1) rest near.1 w.1 others)

    keep_fields : (p : Prototype) (fs : Fields) (items size t : ℕ) (rest : Prototypes) → FieldsAreNear source p fs items size t → FieldsAreWritten fs → AllKeep source rest → AllKeep source (from_fields source fs rest)
    keep_fields p EndFields items size t rest near w others = others
    keep_fields p (MoreFields (Item e) fs) items size t rest near w others = keep_exp p e size (t + 1 + items % 50) (from_fields source fs rest) near.0 w.0 (keep_fields p fs (items + 1) size t rest near.1 w.1 others)
    keep_fields p (MoreFields (Keyed line e d) fs) items size t rest near w others = keep_exp p e size (t + 1) (from_exp source d (from_fields source fs rest)) near.0 w.1.0 (keep_exp p d size (t + 2) (from_fields source fs rest) near.1.0 w.1.1.0 (keep_fields p fs items size t rest near.1.1 w.1.1.1 others))

    keep_target : (p : Prototype) (e : Exp) (size r : ℕ) (rest : Prototypes) → TargetIsNear source p e size r → ExpIsWritten e → AllKeep source rest → AllKeep source (from_exp source e rest)
    keep_target p (Var line name) size r rest near w others = others
    keep_target p (Index line object key) size r rest near w others = keep_exp p object size r (from_exp source key rest) near.0 w.1.0 (keep_exp p key size (r + 1) rest near.1 w.1.1 others)
    keep_target p _ size r rest near w others = absurd near

    keep_targets : (p : Prototype) (es : Exps) (size r : ℕ) (rest : Prototypes) → TargetsAreNear source p es size r → ExpsAreWritten es → AllKeep source rest → AllKeep source (from_exps source es rest)
    keep_targets p EndExps size r rest near w others = others
    keep_targets p (MoreExps e es) size r rest near w others = keep_target p e size r (from_exps source es rest) near.0 w.0 (keep_targets p es size (r + 2) rest near.1 w.1 others)

    keep_stat : (p : Prototype) (s : Stat) (closing : Bool) (t j : ℕ) (rest : Prototypes) → StatIsNear source p s closing t j → StatIsWritten s → AllKeep source rest → AllKeep source (from_stat source s rest)
    keep_stat p (Local line names es) closing t j rest near w others = keep_exps p es t t rest near.1 w.1.1 others
    keep_stat p (LocalFunction line name body) closing t j rest near w others = with_function body rest (keep_body body near.1.1 w.1.1) others
    keep_stat p (Assign line targets es) closing t j rest near w others = keep_targets p targets t t (from_exps source es rest) near.1.0 w.1.0 (keep_exps p es t (t + 2 * count targets) rest near.1.1 w.1.1 others)
    keep_stat p (CallStat line e) closing t j rest near w others = keep_exp p e t t rest near w.1 others
    keep_stat p (Do line block) closing t j rest near w others = keep_block p block closing t j rest near w.1 others
    keep_stat p (While line e block) closing t j rest near w others = keep_exp p e t t (from_block source block rest) near.0 w.1.0 (keep_block p block closing t (j + made_by e) rest near.1 w.1.1 others)
    keep_stat p (Repeat line block e) closing t j rest near w others = keep_block p block closing t j (from_exp source e rest) near.0 w.1.0 (keep_exp p e (levels_in block t) (levels_in block t) rest near.1 w.1.1 others)
    keep_stat p (If line arms) closing t j rest near w others = keep_arms p arms closing t j rest near w.1 others
    keep_stat p (IfElse line arms block) closing t j rest near w others = keep_arms p arms closing t j (from_block source block rest) near.0 w.1.0 (keep_block p block closing t (j + made_in_arms arms) rest near.1 w.1.1 others)
    keep_stat p (NumFor line name from limit block) closing t j rest near w others = keep_exp p from t t (from_exp source limit (from_block source block rest)) near.1.0 w.1.1.0 (keep_exp p limit t (t + 1) (from_block source block rest) near.1.1.0 w.1.1.1.0 (keep_block p block closing (t + 4) (j + made_by from + made_by limit) rest near.1.1.1.1 w.1.1.1.1 others))
    keep_stat p (NumForStep line name from limit step block) closing t j rest near w others = keep_exp p from t t (from_exp source limit (from_exp source step (from_block source block rest))) near.1.0 w.1.1.0 (keep_exp p limit t (t + 1) (from_exp source step (from_block source block rest)) near.1.1.0 w.1.1.1.0 (keep_exp p step t (t + 2) (from_block source block rest) near.1.1.1.0 w.1.1.1.1.0 (keep_block p block closing (t + 4) (j + made_by from + made_by limit + made_by step) rest near.1.1.1.1.1 w.1.1.1.1.1 others)))
    keep_stat p (GenFor line names es block) closing t j rest near w others = keep_exps p es t t (from_block source block rest) near.1.0 w.1.1.0 (keep_block p block true (t + 4 + length names) (j + made_in es) rest near.1.1.1 w.1.1.1 others)
    keep_stat p _ closing t j rest near w others = others

    keep_arms : (p : Prototype) (a : Arms) (closing : Bool) (t j : ℕ) (rest : Prototypes) → ArmsAreNear source p a closing t j → ArmsAreWritten a → AllKeep source rest → AllKeep source (from_arms source a rest)
    keep_arms p EndArms closing t j rest near w others = others
    keep_arms p (MoreArms e block arms) closing t j rest near w others = keep_exp p e t t (from_block source block (from_arms source arms rest)) near.0 w.0 (keep_block p block closing t (j + made_by e) (from_arms source arms rest) near.1.0 w.1.0 (keep_arms p arms closing t (j + made_by e + made_in_block block) rest near.1.1 w.1.1 others))

    keep_stats : (p : Prototype) (ss : Stats) (closing : Bool) (t j : ℕ) (rest : Prototypes) → StatsAreNear source p ss closing t j → StatsAreWritten ss → AllKeep source rest → AllKeep source (from_stats source ss rest)
    keep_stats p EndStats closing t j rest near w others = others
    keep_stats p (MoreStats s ss) closing t j rest near w others = keep_stat p s closing t j (from_stats source ss rest) near.0 w.0 (keep_stats p ss (closing_after s closing) (level_after s t) (j + made_by_stat s) rest near.1 w.1 others)

    keep_block : (p : Prototype) (b : Block) (closing : Bool) (t j : ℕ) (rest : Prototypes) → BlockIsNear source p b closing t j → BlockIsWritten b → AllKeep source rest → AllKeep source (from_block source b rest)
    keep_block p (Falls ss tokens line) closing t j rest near w others = keep_stats p ss closing t j rest near w.1 others
    keep_block p (Returns ss es tokens line) closing t j rest near w others = keep_stats p ss closing t j (from_exps source es rest) near.0 w.1.0 (keep_exps p es (levels_after ss t) (levels_after ss t) rest near.1.1 w.1.1 others)

    keep_body : (body : Body) → AreNear source body → BodyIsWritten body → Keeps source (code_of source body) × AllKeep source (from_body source body)
    keep_body (BodyOf params vararg inner ups line) near w = (
      function_keeps source params vararg inner ups line near.0 near.1 w named,
      keep_block (code_of source (BodyOf params vararg inner ups line)) inner false (length params) 0 none near.1 w.1.1.1 tt,
    )

pub code_is_checked : (source : Option (List ℕ)) (body : Body) → BodyIsNear source body → IsChecked (code_of source body)
code_is_checked source body h =
    let all = keep_body source h.name body h.near h.written in
    let few = h.functions in
    record { code = checked source (code_of source body) all.0 all.1 h.depth few; inner = all_checked source (from_body source body) all.1 h.depth (omega (arith, few)) }
