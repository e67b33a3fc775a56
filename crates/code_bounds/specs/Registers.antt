-- That a function has the registers that its code names: `stack` of them, where t locals are in scope before a statement.
use Rattle.std.specs.Prelude.{◌≡◌, ℕ, ◌+◌, ◌*◌, ◌≤◌, List, length, Option, Some, None, Bool, true, false, nat_lt}
use Rattle.std.specs.List.{list_all}
use Rattle.tree_core.specs.Tree.{Block, Falls, Returns, Body, BodyOf, Stats, EndStats, MoreStats, Stat, Empty, Local, LocalFunction, Assign, CallStat, Do, While, Repeat, If, IfElse, NumFor, NumForStep, GenFor, Label, Goto, Break, Arms, EndArms, MoreArms, Exp, Var, Index, Exps, EndExps, MoreExps}
use Rattle.code_core.specs.declared.instruction.Instruction.{Instruction}
use Rattle.code_core.specs.declared.proto.Const.{Const}
use Rattle.code_core.specs.Check.{at}
use Rattle.code_core.specs.Prototype.{Prototype}
use Rattle.code_of.specs.Expressions.{count}
use Rattle.tree_terms.specs.Levels.{level_after, levels_after, levels_in}
use Rattle.code_of.specs.CodeOf.{named_by, code_of}
use Rattle.code_of.specs.Coded.{Coded}
use Rattle.code_of.specs.Operands.{assigned, second_assigned}
use Rattle.code_of.specs.Stores.{stores_field}
use Rattle.code_of.specs.Targets.{single_store}
use Rattle.code_of.specs.Rooms.{room_of, room_of_target, room_of_assigned, room_of_first, room_of_last, room_of_test, room_of_list, room_of_two}
use Rattle.scope_laws.specs.Finding.{BodyFinds}
use Rattle.scope_laws.specs.Keeping.{BodyKeeps}

module _ (constants : List Const) (stack : ℕ) where
  -- targets whose tables and keys go to the registers from r on
  abbrev pub TargetHasRoom : Exp → (r : ℕ) → Type 0
  TargetHasRoom (Var line name) r = r + room_of_target constants (Var line name) ≤ stack
  TargetHasRoom (Index line object key) r = r + room_of_target constants (Index line object key) ≤ stack
  TargetHasRoom _ r = Unit {0}

  abbrev pub TargetsHaveRoom : Exps → (r : ℕ) → Type 0
  TargetsHaveRoom EndExps r = Unit {0}
  TargetsHaveRoom (MoreExps e targets) r = TargetHasRoom e r × TargetsHaveRoom targets (r + 2)

  -- a store that is one instruction takes no register
  abbrev pub KeptHasRoom : (store : Option Coded) → (targets es : Exps) → (t : ℕ) → Type 0
  KeptHasRoom None targets es t =
      TargetsHaveRoom targets t
      × ((t + 2 * count targets + room_of_list constants 0 es (Some (count targets)) ≤ stack) × (t + 2 * count targets + count targets ≤ stack))
  KeptHasRoom (Some x) targets es t = Unit {0}

  abbrev pub StoreHasRoom : (field : Bool) → (targets es : Exps) → (t : ℕ) → Type 0
  StoreHasRoom true targets es t = t + room_of_first constants targets es ≤ stack
  StoreHasRoom false targets es t = KeptHasRoom (single_store constants targets es) targets es t

  -- the second one of two values goes straight to the register of a local, or not
  abbrev pub TwoHasRoom : Option ℕ → (targets es : Exps) → (t : ℕ) → Type 0
  TwoHasRoom None targets es t = StoreHasRoom (stores_field targets es) targets es t
  TwoHasRoom (Some r) targets es t = TargetsHaveRoom targets t × (t + room_of_two constants targets es ≤ stack)

  abbrev pub AssignHasRoom : Option ℕ → (targets es : Exps) → (t : ℕ) → Type 0
  AssignHasRoom None targets es t = TwoHasRoom (second_assigned targets es) targets es t
  AssignHasRoom (Some r) targets es t = t + room_of_assigned constants es ≤ stack

  abbrev mutual
    pub StatHasRoom : Stat → (t : ℕ) → Type 0
    StatHasRoom (Empty line) t = Unit {0}
    StatHasRoom (Local line names es) t = (t + room_of_list constants 0 es (Some (length names)) ≤ stack) × (t + length names ≤ stack)
    StatHasRoom (LocalFunction line name body) t = t + 1 ≤ stack
    StatHasRoom (Assign line targets es) t = AssignHasRoom (assigned targets es) targets es t
    StatHasRoom (CallStat line e) t = t + room_of constants e 1 ≤ stack
    StatHasRoom (Do line block) t = BlockHasRoom block t
    StatHasRoom (While line e block) t = (t + room_of_test constants e ≤ stack) × BlockHasRoom block t
    StatHasRoom (Repeat line block e) t = BlockHasRoom block t × (levels_in block t + room_of_test constants e ≤ stack)
    StatHasRoom (If line arms) t = ArmsHaveRoom arms t
    StatHasRoom (IfElse line arms block) t = ArmsHaveRoom arms t × BlockHasRoom block t
    StatHasRoom (NumFor line name from limit block) t =
        (t + room_of constants from 2 ≤ stack) × ((t + 1 + room_of constants limit 2 ≤ stack) × ((t + 4 ≤ stack) × BlockHasRoom block (t + 4)))
    StatHasRoom (NumForStep line name from limit step block) t =
        (t + room_of constants from 2 ≤ stack)
        × ((t + 1 + room_of constants limit 2 ≤ stack)
        × ((t + 2 + room_of constants step 2 ≤ stack) × ((t + 4 ≤ stack) × BlockHasRoom block (t + 4))))
    StatHasRoom (GenFor line names es block) t =
        (t + room_of_list constants 0 es (Some 4) ≤ stack)
        × ((t + 7 ≤ stack) × ((t + 4 + length names ≤ stack) × BlockHasRoom block (t + 4 + length names)))
    StatHasRoom (Label line name) t = Unit {0}
    StatHasRoom (Goto line name) t = Unit {0}
    StatHasRoom (Break line) t = Unit {0}

    pub ArmsHaveRoom : Arms → (t : ℕ) → Type 0
    ArmsHaveRoom EndArms t = Unit {0}
    ArmsHaveRoom (MoreArms e block arms) t = (t + room_of_test constants e ≤ stack) × (BlockHasRoom block t × ArmsHaveRoom arms t)

    -- and the locals before each statement, and behind all of them
    pub StatsHaveRoom : Stats → (t : ℕ) → Type 0
    StatsHaveRoom EndStats t = t ≤ stack
    StatsHaveRoom (MoreStats s ss) t = (t ≤ stack) × (StatHasRoom s t × StatsHaveRoom ss (level_after s t))

    pub BlockHasRoom : Block → (t : ℕ) → Type 0
    BlockHasRoom (Falls ss tokens line) t = StatsHaveRoom ss t
    BlockHasRoom (Returns ss es tokens line) t = StatsHaveRoom ss t × (levels_after ss t + room_of_last constants es ≤ stack)

abbrev pub BodyHasRoom : Prototype → Body → Type 0
BodyHasRoom p (BodyOf params vararg inner ups line) = BlockHasRoom p.own.constants p.own.stack inner (length params)

-- a body whose names are in scope and that keeps the limits has code with registers enough, and their numbers have 8 bits
abbrev pub RegistersAreEnough : Type 0
RegistersAreEnough =
    (source : Option (List ℕ)) (body : Body) → BodyFinds body → BodyKeeps body →
    ((code_of source body).own.stack ≤ 250) × BodyHasRoom (code_of source body) body

-- every register that an instruction names is there
abbrev pub RegistersAreCounted : Type 0
RegistersAreCounted =
    (source : Option (List ℕ)) (body : Body) (pc : ℕ) (w : Instruction) → at (code_of source body) pc ≡ Some w →
    list_all (λ r. nat_lt r (code_of source body).own.stack) (named_by w) ≡ true
