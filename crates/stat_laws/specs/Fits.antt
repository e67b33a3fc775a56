-- What is assumed of a function's body, with the functions that are defined in it: each has its prototype at its number, and in each the names, labels,
-- constants and registers of its statements are there.
use Rattle.std.specs.Prelude.{◌≡◌, ℕ, ◌+◌, ◌<◌, ◌≤◌, ◌^◌, Bool, true, false, List, [], length, Option, Some, None, slice_get}
use Rattle.int_core.specs.Value.{Value}
use Rattle.tree_core.specs.Tree.{Block, Falls, Returns, Body, BodyOf, Stats, EndStats, MoreStats, Stat, Local, LocalFunction, Assign, CallStat, Do, While, Repeat, If, IfElse, NumFor, NumForStep, GenFor, Arms, EndArms, MoreArms, Exp, Function, Index, Call, Method, Unary, Binary, And, Or, Paren, Table, Exps, EndExps, MoreExps, Fields, EndFields, MoreFields, Field, Item, Keyed}
use Rattle.code_core.specs.Prototype.{Prototype, list_of}
use Rattle.code_of.specs.CodeOf.{code_of}
use Rattle.code_of.specs.Expressions.{made_by, made_in, made_by_field}
use Rattle.code_of.specs.Levels.{made_by_stat, made_in_arms, made_in_stats, made_in_block, closings_after}
use Rattle.tree_terms.specs.Levels.{levels_after}
use Rattle.exp_laws.specs.Setting.{Setting}
use Rattle.stat_laws.specs.Scoped.{StatsArePlaced, ReturnIsPlaced}

abbrev pub is_known : Option (List ℕ) → Bool
is_known None = false
is_known (Some source) = true

-- the function's block
abbrev pub BlockFits : Setting → (params : ℕ) → Block → Type 0
BlockFits S params (Falls ss tokens line) = StatsArePlaced S ss true false params 0 [] [] false × (levels_after ss params ≤ S.code.own.stack)
BlockFits S params (Returns ss es tokens line) = StatsArePlaced S ss false false params 0 [] [] false × ReturnIsPlaced S es (closings_after ss false) (levels_after ss params) (0 + made_in_stats ss)

module _ (source : Option (List ℕ)) where
  -- a function under way whose inner functions are alike through fewer than `bound` asks
  abbrev pub setting : (p : Prototype) (bound : ℕ) (varargs : List Value) → p.own.stack < 2 ^ 8 → length p.own.code ≤ 2 ^ 24 → Setting
  setting p bound varargs small short = record { lines = is_known source; code = p; varargs = varargs; bound = bound; hidden = record { integers = []; free_from = []; celled = true }; small = small; short = short }

  -- the function alone; nothing is asked of the functions in it
  pub record Alone (p : Prototype) (params : ℕ) (inner : Block) : Type 0 where
    pub small : p.own.stack < 2 ^ 8
    pub short : length p.own.code ≤ 2 ^ 24
    pub room : params ≤ p.own.stack
    pub placed : BlockFits (setting p 0 [] small short) params inner

  abbrev mutual
    pub BodyFits : Body → Type 0
    BodyFits (BodyOf params vararg inner ups line) =
        Alone (code_of source (BodyOf params vararg inner ups line)) (length params) inner × InBlock (code_of source (BodyOf params vararg inner ups line)) inner 0

    -- the functions that a piece of tree makes, from number j on
    pub InExp : Prototype → Exp → (j : ℕ) → Type 0
    InExp p (Function line body) j = (slice_get (list_of p.inner) j ≡ Some (code_of source body)) × BodyFits body
    InExp p (Index line object key) j = InExp p object j × InExp p key (j + made_by object)
    InExp p (Call line f es) j = InExp p f j × InExps p es (j + made_by f)
    InExp p (Method line object name es) j = InExp p object j × InExps p es (j + made_by object)
    InExp p (Unary line op e) j = InExp p e j
    InExp p (Binary line op e d) j = InExp p e j × InExp p d (j + made_by e)
    InExp p (And line e d) j = InExp p e j × InExp p d (j + made_by e)
    InExp p (Or line e d) j = InExp p e j × InExp p d (j + made_by e)
    InExp p (Paren line e) j = InExp p e j
    InExp p (Table line fs) j = InFields p fs j
    InExp p _ j = Unit {0}

    pub InExps : Prototype → Exps → (j : ℕ) → Type 0
    InExps p EndExps j = Unit {0}
    InExps p (MoreExps e es) j = InExp p e j × InExps p es (j + made_by e)

    pub InFields : Prototype → Fields → (j : ℕ) → Type 0
    InFields p EndFields j = Unit {0}
    InFields p (MoreFields f fs) j = InField p f j × InFields p fs (j + made_by_field f)

    pub InField : Prototype → Field → (j : ℕ) → Type 0
    InField p (Item e) j = InExp p e j
    InField p (Keyed line e d) j = InExp p e j × InExp p d (j + made_by e)

    pub InStat : Prototype → Stat → (j : ℕ) → Type 0
    InStat p (Local line names es) j = InExps p es j
    InStat p (LocalFunction line name body) j = (slice_get (list_of p.inner) j ≡ Some (code_of source body)) × BodyFits body
    InStat p (Assign line targets es) j = InExps p targets j × InExps p es (j + made_in targets)
    InStat p (CallStat line e) j = InExp p e j
    InStat p (Do line block) j = InBlock p block j
    InStat p (While line e block) j = InExp p e j × InBlock p block (j + made_by e)
    InStat p (Repeat line block e) j = InBlock p block j × InExp p e (j + made_in_block block)
    InStat p (If line arms) j = InArms p arms j
    InStat p (IfElse line arms block) j = InArms p arms j × InBlock p block (j + made_in_arms arms)
    InStat p (NumFor line name from limit block) j = InExp p from j × (InExp p limit (j + made_by from) × InBlock p block (j + made_by from + made_by limit))
    InStat p (NumForStep line name from limit step block) j =
        InExp p from j × (InExp p limit (j + made_by from) × (InExp p step (j + made_by from + made_by limit) × InBlock p block (j + made_by from + made_by limit + made_by step)))
    InStat p (GenFor line names es block) j = InExps p es j × InBlock p block (j + made_in es)
    InStat p _ j = Unit {0}

    pub InArms : Prototype → Arms → (j : ℕ) → Type 0
    InArms p EndArms j = Unit {0}
    InArms p (MoreArms e block arms) j = InExp p e j × (InBlock p block (j + made_by e) × InArms p arms (j + made_by e + made_in_block block))

    pub InStats : Prototype → Stats → (j : ℕ) → Type 0
    InStats p EndStats j = Unit {0}
    InStats p (MoreStats s ss) j = InStat p s j × InStats p ss (j + made_by_stat s)

    pub InBlock : Prototype → Block → (j : ℕ) → Type 0
    InBlock p (Falls ss tokens line) j = InStats p ss j
    InBlock p (Returns ss es tokens line) j = InStats p ss j × InExps p es (j + made_in_stats ss)
