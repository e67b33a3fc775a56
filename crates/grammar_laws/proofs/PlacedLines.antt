-- Setting places keeps lines.
use Rattle.std.proofs.Common.{ℕ, List, [], ◌∷◌, arith}
use Rattle.std.specs.Prelude.{map}
use Rattle.tree_core.specs.declared.name.Name.{Name}
use Rattle.tree_core.specs.declared.name.Declared.{Declared}
use Rattle.tree_core.specs.Tree.{Block, Falls, Returns, Body, BodyOf, Stats, EndStats, MoreStats, Stat, Local, LocalFunction, Assign, CallStat, Do, While, Repeat, If, IfElse, NumFor, NumForStep, GenFor, Arms, EndArms, MoreArms, Exp, Function, Index, Call, Method, Unary, Binary, And, Or, Paren, Table, Exps, EndExps, MoreExps, Fields, EndFields, MoreFields, Field, Item, Keyed}
use Rattle.scope_core.specs.Scopes.{Frame, declare, declare_all, declared_by, declared_variable, plain_variable, behind, behind_stats, numeric_hidden, generic_hidden}
use Rattle.scope_core.specs.Places.{upvalues_of, placed_names, placed_declared, placed_exp, placed_exps, placed_fields, placed_field, placed_body, placed_block, placed_stats, placed_stat, placed_arms, placed}
use Rattle.grammar_laws.specs.Lines.{NamesAreWithin, DeclaredAreWithin, ExpIsWithin, ExpsAreWithin, FieldsAreWithin, FieldIsWithin, StatIsWithin, ArmsAreWithin, StatsAreWithin, BlockIsWithin, BodyIsWithin}

module _ (most : ℕ) where
  names_within : (fs : List Frame) (names : List Name) → NamesAreWithin most names → NamesAreWithin most (placed_names fs names)
  names_within fs [] h = tt
  names_within fs (x ∷ names) h = (h.0, names_within (declare fs (plain_variable x)) names h.1)

  declared_within : (fs : List Frame) (names : List Declared) → DeclaredAreWithin most names → DeclaredAreWithin most (placed_declared fs names)
  declared_within fs [] h = tt
  declared_within fs (d ∷ names) h = (h.0, declared_within (declare fs (declared_variable d)) names h.1)

  mutual
    pub exp_within : (fs : List Frame) (e : Exp) → ExpIsWithin most e → ExpIsWithin most (placed_exp fs e)
    exp_within fs (Function line body) h = (h.0, body_within fs body h.1)
    exp_within fs (Index line object key) h = (h.0, exp_within fs object h.1, exp_within fs key h.2)
    exp_within fs (Call line f es) h = (h.0, exp_within fs f h.1, exps_within fs es h.2)
    exp_within fs (Method line object name es) h = (h.0, exp_within fs object h.1, h.2, exps_within fs es h.3)
    exp_within fs (Unary line op e) h = (h.0, exp_within fs e h.1)
    exp_within fs (Binary line op e d) h = (h.0, exp_within fs e h.1, exp_within fs d h.2)
    exp_within fs (And line e d) h = (h.0, exp_within fs e h.1, exp_within fs d h.2)
    exp_within fs (Or line e d) h = (h.0, exp_within fs e h.1, exp_within fs d h.2)
    exp_within fs (Paren line e) h = (h.0, exp_within fs e h.1)
    exp_within fs (Table line inner) h = (h.0, fields_within fs inner h.1)
    exp_within fs _ h = h

    exps_within : (fs : List Frame) (es : Exps) → ExpsAreWithin most es → ExpsAreWithin most (placed_exps fs es)
    exps_within fs EndExps h = tt
    exps_within fs (MoreExps e es) h = (exp_within fs e h.0, exps_within fs es h.1)

    fields_within : (fs : List Frame) (inner : Fields) → FieldsAreWithin most inner → FieldsAreWithin most (placed_fields fs inner)
    fields_within fs EndFields h = tt
    fields_within fs (MoreFields f inner) h = (field_within fs f h.0, fields_within fs inner h.1)

    field_within : (fs : List Frame) (f : Field) → FieldIsWithin most f → FieldIsWithin most (placed_field fs f)
    field_within fs (Item e) h = exp_within fs e h
    field_within fs (Keyed line e d) h = (h.0, exp_within fs e h.1, exp_within fs d h.2)

    stat_within : (fs : List Frame) (s : Stat) → StatIsWithin most s → StatIsWithin most (placed_stat fs s)
    stat_within fs (Local line names es) h = (h.0, declared_within fs names h.1, exps_within fs es h.2)
    stat_within fs (LocalFunction line name body) h = (h.0, h.1, body_within (declare fs (plain_variable name)) body h.2)
    stat_within fs (Assign line targets es) h = (h.0, exps_within fs targets h.1, exps_within fs es h.2)
    stat_within fs (CallStat line e) h = (h.0, exp_within fs e h.1)
    stat_within fs (Do line block) h = (h.0, block_within fs block h.1)
    stat_within fs (While line e block) h = (h.0, exp_within fs e h.1, block_within fs block h.2)
    stat_within fs (Repeat line block e) h = (h.0, block_within fs block h.1, exp_within (behind fs block) e h.2)
    stat_within fs (If line arms) h = (h.0, arms_within fs arms h.1)
    stat_within fs (IfElse line arms block) h = (h.0, arms_within fs arms h.1, block_within fs block h.2)
    stat_within fs (NumFor line name from limit block) h =
        (h.0, h.1, exp_within fs from h.2, exp_within fs limit h.3, block_within (declare (declare_all fs numeric_hidden) (plain_variable name)) block h.4)
    stat_within fs (NumForStep line name from limit step block) h =
        (h.0, h.1, exp_within fs from h.2, exp_within fs limit h.3, exp_within fs step h.4, block_within (declare (declare_all fs numeric_hidden) (plain_variable name)) block h.5)
    stat_within fs (GenFor line names es block) h =
        (h.0, names_within (declare_all fs generic_hidden) names h.1, exps_within fs es h.2, block_within (declare_all (declare_all fs generic_hidden) (map plain_variable names)) block h.3)
    stat_within fs _ h = h

    arms_within : (fs : List Frame) (arms : Arms) → ArmsAreWithin most arms → ArmsAreWithin most (placed_arms fs arms)
    arms_within fs EndArms h = tt
    arms_within fs (MoreArms e block arms) h = (exp_within fs e h.0, block_within fs block h.1, arms_within fs arms h.2)

    stats_within : (fs : List Frame) (ss : Stats) → StatsAreWithin most ss → StatsAreWithin most (placed_stats fs ss)
    stats_within fs EndStats h = tt
    stats_within fs (MoreStats s ss) h = (stat_within fs s h.0, stats_within (declare_all fs (declared_by s)) ss h.1)

    block_within : (fs : List Frame) (block : Block) → BlockIsWithin most block → BlockIsWithin most (placed_block fs block)
    block_within fs (Falls ss tokens line) h = (h.0, stats_within fs ss h.1)
    block_within fs (Returns ss es tokens line) h = (h.0, stats_within fs ss h.1, exps_within (behind_stats fs ss) es h.2)

    body_within : (fs : List Frame) (body : Body) → BodyIsWithin most body → BodyIsWithin most (placed_body fs body)
    body_within fs (BodyOf params vararg inner ups line) h =
        let begin : List Frame = record { variables = []; upvalues = upvalues_of fs (BodyOf params vararg inner ups line) } ∷ fs in
        (h.0, names_within begin params h.1, block_within (declare_all begin (map plain_variable params)) inner h.2)

  pub placed_within : (block : Block) → BlockIsWithin most block → BodyIsWithin most (placed block)
  placed_within block h = (omega arith, tt, block_within _ block h)
