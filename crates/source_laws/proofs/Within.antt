-- The code of a body has as many functions in it as are written in the body, and they are nested as deep.
use Rattle.std.proofs.Common.{◌≡◌, ℕ, ◌+◌, max, List, Option, arith}
use Rattle.tree_core.specs.Tree.{Block, Falls, Returns, Body, BodyOf, Stats, EndStats, MoreStats, Stat, Local, LocalFunction, Assign, CallStat, Do, While, Repeat, If, IfElse, NumFor, NumForStep, GenFor, Arms, EndArms, MoreArms, Exp, Function, Index, Call, Method, Unary, Binary, And, Or, Paren, Table, Exps, EndExps, MoreExps, Fields, EndFields, MoreFields, Field, Item, Keyed}
use Rattle.code_core.specs.Prototype.{Prototypes, none, count as count_of}
use Rattle.code_core.specs.Writable.{depth}
use Rattle.code_of.specs.CodeOf.{from_exp, from_exps, from_fields, from_field, from_stat, from_arms, from_stats, from_block, from_body}
use Rattle.tree_terms.specs.FunctionCount.{functions, functions_in_exps, functions_in_fields, functions_in_field, functions_in_stat, functions_in_arms, functions_in_stats, functions_in_block, functions_in_body}
use Rattle.grammar_laws.proofs.Nesting.{nesting, nesting_in_exps, nesting_in_fields, nesting_in_field, nesting_in_stat, nesting_in_arms, nesting_in_stats, nesting_in_block, nesting_in_body}

module _ (source : Option (List ℕ)) where
  mutual
    exp_holds : (x : Exp) (rest : Prototypes) → (depth (from_exp source x rest) ≡ max (nesting x) (depth rest)) × (count_of (from_exp source x rest) ≡ functions x + count_of rest)
    exp_holds (Function line body) rest = let inner = body_holds body in (omega (arith, inner.0), omega (arith, inner.1))
    exp_holds (Index line o k) rest = let h0 = exp_holds o (from_exp source k rest) in let h1 = exp_holds k rest in (omega (arith, h0.0, h1.0), omega (arith, h0.1, h1.1))
    exp_holds (Call line f es) rest = let h0 = exp_holds f (from_exps source es rest) in let h1 = exps_holds es rest in (omega (arith, h0.0, h1.0), omega (arith, h0.1, h1.1))
    exp_holds (Method line o name es) rest = let h0 = exp_holds o (from_exps source es rest) in let h1 = exps_holds es rest in (omega (arith, h0.0, h1.0), omega (arith, h0.1, h1.1))
    exp_holds (Unary line op e) rest = exp_holds e rest
    exp_holds (Binary line op e d) rest = let h0 = exp_holds e (from_exp source d rest) in let h1 = exp_holds d rest in (omega (arith, h0.0, h1.0), omega (arith, h0.1, h1.1))
    exp_holds (And line e d) rest = let h0 = exp_holds e (from_exp source d rest) in let h1 = exp_holds d rest in (omega (arith, h0.0, h1.0), omega (arith, h0.1, h1.1))
    exp_holds (Or line e d) rest = let h0 = exp_holds e (from_exp source d rest) in let h1 = exp_holds d rest in (omega (arith, h0.0, h1.0), omega (arith, h0.1, h1.1))
    exp_holds (Paren line e) rest = exp_holds e rest
    exp_holds (Table line fs) rest = fields_holds fs rest
    exp_holds _ rest = (omega arith, omega arith)

    exps_holds : (x : Exps) (rest : Prototypes) → (depth (from_exps source x rest) ≡ max (nesting_in_exps x) (depth rest)) × (count_of (from_exps source x rest) ≡ functions_in_exps x + count_of rest)
    exps_holds EndExps rest = (omega arith, omega arith)
    exps_holds (MoreExps e es) rest = let h0 = exp_holds e (from_exps source es rest) in let h1 = exps_holds es rest in (omega (arith, h0.0, h1.0), omega (arith, h0.1, h1.1))

    fields_holds : (x : Fields) (rest : Prototypes) → (depth (from_fields source x rest) ≡ max (nesting_in_fields x) (depth rest)) × (count_of (from_fields source x rest) ≡ functions_in_fields x + count_of rest)
    fields_holds EndFields rest = (omega arith, omega arith)
    fields_holds (MoreFields f fs) rest = let h0 = field_holds f (from_fields source fs rest) in let h1 = fields_holds fs rest in (omega (arith, h0.0, h1.0), omega (arith, h0.1, h1.1))

    field_holds : (x : Field) (rest : Prototypes) → (depth (from_field source x rest) ≡ max (nesting_in_field x) (depth rest)) × (count_of (from_field source x rest) ≡ functions_in_field x + count_of rest)
    field_holds (Item e) rest = exp_holds e rest
    field_holds (Keyed line e d) rest = let h0 = exp_holds e (from_exp source d rest) in let h1 = exp_holds d rest in (omega (arith, h0.0, h1.0), omega (arith, h0.1, h1.1))

    stat_holds : (x : Stat) (rest : Prototypes) → (depth (from_stat source x rest) ≡ max (nesting_in_stat x) (depth rest)) × (count_of (from_stat source x rest) ≡ functions_in_stat x + count_of rest)
    stat_holds (Local line names es) rest = exps_holds es rest
    stat_holds (LocalFunction line name body) rest = let inner = body_holds body in (omega (arith, inner.0), omega (arith, inner.1))
    stat_holds (Assign line ts es) rest = let h0 = exps_holds ts (from_exps source es rest) in let h1 = exps_holds es rest in (omega (arith, h0.0, h1.0), omega (arith, h0.1, h1.1))
    stat_holds (CallStat line e) rest = exp_holds e rest
    stat_holds (Do line b) rest = block_holds b rest
    stat_holds (While line e b) rest = let h0 = exp_holds e (from_block source b rest) in let h1 = block_holds b rest in (omega (arith, h0.0, h1.0), omega (arith, h0.1, h1.1))
    stat_holds (Repeat line b e) rest = let h0 = block_holds b (from_exp source e rest) in let h1 = exp_holds e rest in (omega (arith, h0.0, h1.0), omega (arith, h0.1, h1.1))
    stat_holds (If line a) rest = arms_holds a rest
    stat_holds (IfElse line a b) rest = let h0 = arms_holds a (from_block source b rest) in let h1 = block_holds b rest in (omega (arith, h0.0, h1.0), omega (arith, h0.1, h1.1))
    stat_holds (NumFor line name e d b) rest = let h0 = exp_holds e (from_exp source d (from_block source b rest)) in let h1 = exp_holds d (from_block source b rest) in let h2 = block_holds b rest in (omega (arith, h0.0, h1.0, h2.0), omega (arith, h0.1, h1.1, h2.1))
    stat_holds (NumForStep line name e d s b) rest = let h0 = exp_holds e (from_exp source d (from_exp source s (from_block source b rest))) in let h1 = exp_holds d (from_exp source s (from_block source b rest)) in let h2 = exp_holds s (from_block source b rest) in let h3 = block_holds b rest in (omega (arith, h0.0, h1.0, h2.0, h3.0), omega (arith, h0.1, h1.1, h2.1, h3.1))
    stat_holds (GenFor line names es b) rest = let h0 = exps_holds es (from_block source b rest) in let h1 = block_holds b rest in (omega (arith, h0.0, h1.0), omega (arith, h0.1, h1.1))
    stat_holds _ rest = (omega arith, omega arith)

    arms_holds : (x : Arms) (rest : Prototypes) → (depth (from_arms source x rest) ≡ max (nesting_in_arms x) (depth rest)) × (count_of (from_arms source x rest) ≡ functions_in_arms x + count_of rest)
    arms_holds EndArms rest = (omega arith, omega arith)
    arms_holds (MoreArms e b a) rest = let h0 = exp_holds e (from_block source b (from_arms source a rest)) in let h1 = block_holds b (from_arms source a rest) in let h2 = arms_holds a rest in (omega (arith, h0.0, h1.0, h2.0), omega (arith, h0.1, h1.1, h2.1))

    stats_holds : (x : Stats) (rest : Prototypes) → (depth (from_stats source x rest) ≡ max (nesting_in_stats x) (depth rest)) × (count_of (from_stats source x rest) ≡ functions_in_stats x + count_of rest)
    stats_holds EndStats rest = (omega arith, omega arith)
    stats_holds (MoreStats s ss) rest = let h0 = stat_holds s (from_stats source ss rest) in let h1 = stats_holds ss rest in (omega (arith, h0.0, h1.0), omega (arith, h0.1, h1.1))

    block_holds : (x : Block) (rest : Prototypes) → (depth (from_block source x rest) ≡ max (nesting_in_block x) (depth rest)) × (count_of (from_block source x rest) ≡ functions_in_block x + count_of rest)
    block_holds (Falls ss tokens line) rest = stats_holds ss rest
    block_holds (Returns ss es tokens line) rest = let h0 = stats_holds ss (from_exps source es rest) in let h1 = exps_holds es rest in (omega (arith, h0.0, h1.0), omega (arith, h0.1, h1.1))

    body_holds : (body : Body) → (depth (from_body source body) ≡ nesting_in_body body) × (count_of (from_body source body) ≡ functions_in_body body)
    body_holds (BodyOf params vararg inner ups line) = let h = block_holds inner none in (omega (arith, h.0), omega (arith, h.1))

  pub deep_body : (body : Body) → depth (from_body source body) ≡ nesting_in_body body
  deep_body body = (body_holds body).0

  pub many_body : (body : Body) → count_of (from_body source body) ≡ functions_in_body body
  many_body body = (body_holds body).1
