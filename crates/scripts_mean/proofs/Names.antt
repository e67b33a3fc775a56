-- Code has the name of its source and its lines, or neither, and so have all functions that are defined in it.
use Rattle.std.proofs.Common.{ℕ, List, Option, Some, None, refl}
use Rattle.tree_core.specs.Tree.{Block, Falls, Returns, Body, BodyOf, Stats, EndStats, MoreStats, Stat, Local, LocalFunction, Assign, CallStat, Do, While, Repeat, If, IfElse, NumFor, NumForStep, GenFor, Arms, EndArms, MoreArms, Exp, Function, Index, Call, Method, Unary, Binary, And, Or, Paren, Table, Exps, EndExps, MoreExps, Fields, EndFields, MoreFields, Field, Item, Keyed}
use Rattle.code_core.specs.Prototype.{Prototypes, none}
use Rattle.code_of.specs.CodeOf.{parts_of, from_exp, from_exps, from_fields, from_field, from_stat, from_arms, from_stats, from_block, from_body, code_of}
use Rattle.stat_laws.specs.Fits.{is_known}
use Rattle.machine_means.specs.Joined.{PartsNamed, AllNamed, Named}
use Rattle.scripts_mean.specs.Scripts.{name_in}

parts_named : (given : Option (List ℕ)) (body : Body) → PartsNamed (is_known given) (name_in given) (parts_of given body)
parts_named None (BodyOf params vararg inner ups line) = (refl, refl)
parts_named (Some name) (BodyOf params vararg inner ups line) = refl

module _ (given : Option (List ℕ)) where
  abbrev Are : Prototypes → Type 0
  Are ps = AllNamed (is_known given) (name_in given) ps

  mutual
    exp_named : (x : Exp) (rest : Prototypes) → Are rest → Are (from_exp given x rest)
    exp_named (Function line body) rest r = (parts_named given body, body_named body, r)
    exp_named (Index line o k) rest r = exp_named o (from_exp given k rest) (exp_named k rest r)
    exp_named (Call line f es) rest r = exp_named f (from_exps given es rest) (exps_named es rest r)
    exp_named (Method line o name es) rest r = exp_named o (from_exps given es rest) (exps_named es rest r)
    exp_named (Unary line op e) rest r = exp_named e rest r
    exp_named (Binary line op e d) rest r = exp_named e (from_exp given d rest) (exp_named d rest r)
    exp_named (And line e d) rest r = exp_named e (from_exp given d rest) (exp_named d rest r)
    exp_named (Or line e d) rest r = exp_named e (from_exp given d rest) (exp_named d rest r)
    exp_named (Paren line e) rest r = exp_named e rest r
    exp_named (Table line fs) rest r = fields_named fs rest r
    exp_named _ rest r = r

    exps_named : (x : Exps) (rest : Prototypes) → Are rest → Are (from_exps given x rest)
    exps_named EndExps rest r = r
    exps_named (MoreExps e es) rest r = exp_named e (from_exps given es rest) (exps_named es rest r)

    fields_named : (x : Fields) (rest : Prototypes) → Are rest → Are (from_fields given x rest)
    fields_named EndFields rest r = r
    fields_named (MoreFields f fs) rest r = field_named f (from_fields given fs rest) (fields_named fs rest r)

    field_named : (x : Field) (rest : Prototypes) → Are rest → Are (from_field given x rest)
    field_named (Item e) rest r = exp_named e rest r
    field_named (Keyed line e d) rest r = exp_named e (from_exp given d rest) (exp_named d rest r)

    stat_named : (x : Stat) (rest : Prototypes) → Are rest → Are (from_stat given x rest)
    stat_named (Local line names es) rest r = exps_named es rest r
    stat_named (LocalFunction line name body) rest r = (parts_named given body, body_named body, r)
    stat_named (Assign line ts es) rest r = exps_named ts (from_exps given es rest) (exps_named es rest r)
    stat_named (CallStat line e) rest r = exp_named e rest r
    stat_named (Do line b) rest r = block_named b rest r
    stat_named (While line e b) rest r = exp_named e (from_block given b rest) (block_named b rest r)
    stat_named (Repeat line b e) rest r = block_named b (from_exp given e rest) (exp_named e rest r)
    stat_named (If line a) rest r = arms_named a rest r
    stat_named (IfElse line a b) rest r = arms_named a (from_block given b rest) (block_named b rest r)
    stat_named (NumFor line name e d b) rest r = exp_named e (from_exp given d (from_block given b rest)) (exp_named d (from_block given b rest) (block_named b rest r))
    stat_named (NumForStep line name e d s b) rest r =
        exp_named e (from_exp given d (from_exp given s (from_block given b rest))) (exp_named d (from_exp given s (from_block given b rest)) (exp_named s (from_block given b rest) (block_named b rest r)))
    stat_named (GenFor line names es b) rest r = exps_named es (from_block given b rest) (block_named b rest r)
    stat_named _ rest r = r

    arms_named : (x : Arms) (rest : Prototypes) → Are rest → Are (from_arms given x rest)
    arms_named EndArms rest r = r
    arms_named (MoreArms e b a) rest r = exp_named e (from_block given b (from_arms given a rest)) (block_named b (from_arms given a rest) (arms_named a rest r))

    stats_named : (x : Stats) (rest : Prototypes) → Are rest → Are (from_stats given x rest)
    stats_named EndStats rest r = r
    stats_named (MoreStats s ss) rest r = stat_named s (from_stats given ss rest) (stats_named ss rest r)

    block_named : (x : Block) (rest : Prototypes) → Are rest → Are (from_block given x rest)
    block_named (Falls ss tokens line) rest r = stats_named ss rest r
    block_named (Returns ss es tokens line) rest r = stats_named ss (from_exps given es rest) (exps_named es rest r)

    body_named : (body : Body) → Are (from_body given body)
    body_named (BodyOf params vararg inner ups line) = block_named inner none tt

  pub code_named : (body : Body) → Named (is_known given) (name_in given) (code_of given body)
  code_named body = record { own = parts_named given body; inner = body_named body }
