-- Setting places keeps what is asked of every part of a tree, where it keeps what is asked of one part.
use Rattle.std.proofs.Common.{ℕ, Bool, List, [], ◌∷◌}
use Rattle.std.specs.Prelude.{map}
use Rattle.tree_core.specs.declared.name.Name.{Name}
use Rattle.tree_core.specs.declared.name.UpName.{UpName}
use Rattle.tree_core.specs.Tree.{Block, Falls, Returns, Body, BodyOf, Stats, EndStats, MoreStats, Stat, Local, LocalFunction, Assign, CallStat, Do, While, Repeat, If, IfElse, NumFor, NumForStep, GenFor, Arms, EndArms, MoreArms, Exp, Function, Index, Call, Method, Unary, Binary, And, Or, Paren, Table, Exps, EndExps, MoreExps, Fields, EndFields, MoreFields, Field, Item, Keyed}
use Rattle.tree_terms.specs.Asked.{Asked, ExpMeets, ExpsMeet, FieldsMeet, FieldMeets, StatMeets, ArmsMeet, StatsMeet, BlockMeets, BodyMeets}
use Rattle.scope_core.specs.Scopes.{Frame, declare, declare_all, declared_by, plain_variable, behind, behind_stats, numeric_hidden, generic_hidden}
use Rattle.scope_core.specs.Places.{upvalues_of, placed_exp, placed_exps, placed_fields, placed_field, placed_body, placed_block, placed_stats, placed_stat, placed_arms}

-- of one part, whatever is known of the parts in it
pub record Stays (asked : Asked) : Type 1 where
  pub exp : (p q : Type 0) (fs : List Frame) (e : Exp) → asked.exp e p → (p → q) → asked.exp (placed_exp fs e) q
  pub name : (p q : Type 0) (x : Name) → asked.name x p → (p → q) → asked.name x q
  pub stat : (p q : Type 0) (fs : List Frame) (s : Stat) → asked.stat s p → (p → q) → asked.stat (placed_stat fs s) q
  pub loop : (p q : Type 0) (fs : List Frame) (b : Block) → asked.loop b p → (p → q) → asked.loop (placed_block fs b) q
  pub block : (p q : Type 0) (fs : List Frame) (b : Block) → asked.block b p → (p → q) → asked.block (placed_block fs b) q
  pub body : (q : Type 0) (fs : List Frame) (params : List Name) (vararg : Bool) (inner : Block) (ups : List UpName) (line : ℕ)
      → BodyMeets asked (BodyOf params vararg inner ups line) → (BlockMeets asked inner → q) → asked.body (placed_body fs (BodyOf params vararg inner ups line)) q

both : {A B C D : Type 0} → (A → C) → (B → D) → A × B → C × D
both f g h = (f h.0, g h.1)

module _ (asked : Asked) (stays : Stays asked) where
  looped : (fs : List Frame) (b : Block) → (BlockMeets asked b → BlockMeets asked (placed_block fs b)) → asked.loop b (BlockMeets asked b)
      → asked.loop (placed_block fs b) (BlockMeets asked (placed_block fs b))
  looped fs b kept h = stays.loop (BlockMeets asked b) (BlockMeets asked (placed_block fs b)) fs b h kept

  mutual
    exp_stays : (fs : List Frame) (e : Exp) → ExpMeets asked e → ExpMeets asked (placed_exp fs e)
    exp_stays fs (Function line body) = λ h. stays.exp _ _ fs (Function line body) h (body_stays fs body)
    exp_stays fs (Index line object key) = λ h. stays.exp _ _ fs (Index line object key) h (both (exp_stays fs object) (exp_stays fs key))
    exp_stays fs (Call line f es) = λ h. stays.exp _ _ fs (Call line f es) h (both (exp_stays fs f) (exps_stay fs es))
    exp_stays fs (Method line object x es) = λ h.
        let arguments : asked.name x (ExpsMeet asked es) → asked.name x (ExpsMeet asked (placed_exps fs es)) = λ k. stays.name _ _ x k (exps_stay fs es) in
        stays.exp _ _ fs (Method line object x es) h (both (exp_stays fs object) arguments)
    exp_stays fs (Unary line op e) = λ h. stays.exp _ _ fs (Unary line op e) h (exp_stays fs e)
    exp_stays fs (Binary line op e d) = λ h. stays.exp _ _ fs (Binary line op e d) h (both (exp_stays fs e) (exp_stays fs d))
    exp_stays fs (And line e d) = λ h. stays.exp _ _ fs (And line e d) h (both (exp_stays fs e) (exp_stays fs d))
    exp_stays fs (Or line e d) = λ h. stays.exp _ _ fs (Or line e d) h (both (exp_stays fs e) (exp_stays fs d))
    exp_stays fs (Paren line e) = λ h. stays.exp _ _ fs (Paren line e) h (exp_stays fs e)
    exp_stays fs (Table line inner) = λ h. stays.exp _ _ fs (Table line inner) h (fields_stay fs inner)
    exp_stays fs e = λ h. stays.exp (Unit {0}) (Unit {0}) fs e h (λ k. k)

    exps_stay : (fs : List Frame) (es : Exps) → ExpsMeet asked es → ExpsMeet asked (placed_exps fs es)
    exps_stay fs EndExps = λ h. tt
    exps_stay fs (MoreExps e es) = λ h. (exp_stays fs e h.0, exps_stay fs es h.1)

    fields_stay : (fs : List Frame) (inner : Fields) → FieldsMeet asked inner → FieldsMeet asked (placed_fields fs inner)
    fields_stay fs EndFields = λ h. tt
    fields_stay fs (MoreFields f inner) = λ h. (field_stays fs f h.0, fields_stay fs inner h.1)

    field_stays : (fs : List Frame) (f : Field) → FieldMeets asked f → FieldMeets asked (placed_field fs f)
    field_stays fs (Item e) = exp_stays fs e
    field_stays fs (Keyed line e d) = λ h. (exp_stays fs e h.0, exp_stays fs d h.1)

    stat_stays : (fs : List Frame) (s : Stat) → StatMeets asked s → StatMeets asked (placed_stat fs s)
    stat_stays fs (Local line names es) = λ h. stays.stat _ _ fs (Local line names es) h (exps_stay fs es)
    stat_stays fs (LocalFunction line x body) = λ h. stays.stat _ _ fs (LocalFunction line x body) h (body_stays (declare fs (plain_variable x)) body)
    stat_stays fs (Assign line targets es) = λ h. stays.stat _ _ fs (Assign line targets es) h (both (exps_stay fs targets) (exps_stay fs es))
    stat_stays fs (CallStat line e) = λ h. stays.stat _ _ fs (CallStat line e) h (exp_stays fs e)
    stat_stays fs (Do line b) = λ h. stays.stat _ _ fs (Do line b) h (block_stays fs b)
    stat_stays fs (While line e b) = λ h. stays.stat _ _ fs (While line e b) h (both (exp_stays fs e) (block_stays fs b))
    stat_stays fs (Repeat line b e) = λ h. stays.stat _ _ fs (Repeat line b e) h (both (block_stays fs b) (exp_stays (behind fs b) e))
    stat_stays fs (If line arms) = λ h. stays.stat _ _ fs (If line arms) h (arms_stay fs arms)
    stat_stays fs (IfElse line arms b) = λ h. stays.stat _ _ fs (IfElse line arms b) h (both (arms_stay fs arms) (block_stays fs b))
    stat_stays fs (NumFor line x from limit b) = λ h.
        let within : List Frame = declare (declare_all fs numeric_hidden) (plain_variable x) in
        stays.stat _ _ fs (NumFor line x from limit b) h (both (exp_stays fs from) (both (exp_stays fs limit) (looped within b (block_stays within b))))
    stat_stays fs (NumForStep line x from limit step b) = λ h.
        let within : List Frame = declare (declare_all fs numeric_hidden) (plain_variable x) in
        stays.stat _ _ fs (NumForStep line x from limit step b) h
        (both (exp_stays fs from) (both (exp_stays fs limit) (both (exp_stays fs step) (looped within b (block_stays within b)))))
    stat_stays fs (GenFor line names es b) = λ h.
        let within : List Frame = declare_all (declare_all fs generic_hidden) (map plain_variable names) in
        stays.stat _ _ fs (GenFor line names es b) h (both (exps_stay fs es) (looped within b (block_stays within b)))
    stat_stays fs s = λ h. stays.stat (Unit {0}) (Unit {0}) fs s h (λ k. k)

    arms_stay : (fs : List Frame) (arms : Arms) → ArmsMeet asked arms → ArmsMeet asked (placed_arms fs arms)
    arms_stay fs EndArms = λ h. tt
    arms_stay fs (MoreArms e b arms) = λ h. (exp_stays fs e h.0, (block_stays fs b h.1.0, arms_stay fs arms h.1.1))

    stats_stay : (fs : List Frame) (ss : Stats) → StatsMeet asked ss → StatsMeet asked (placed_stats fs ss)
    stats_stay fs EndStats = λ h. tt
    stats_stay fs (MoreStats s ss) = λ h. (stat_stays fs s h.0, stats_stay (declare_all fs (declared_by s)) ss h.1)

    pub block_stays : (fs : List Frame) (b : Block) → BlockMeets asked b → BlockMeets asked (placed_block fs b)
    block_stays fs (Falls ss tokens line) = λ h. stays.block _ _ fs (Falls ss tokens line) h (stats_stay fs ss)
    block_stays fs (Returns ss es tokens line) = λ h. stays.block _ _ fs (Returns ss es tokens line) h (both (stats_stay fs ss) (exps_stay (behind_stats fs ss) es))

    body_stays : (fs : List Frame) (body : Body) → BodyMeets asked body → BodyMeets asked (placed_body fs body)
    body_stays fs (BodyOf params vararg inner ups line) = λ h.
        let begin : List Frame = record { variables = []; upvalues = upvalues_of fs (BodyOf params vararg inner ups line) } ∷ fs in
        stays.body _ fs params vararg inner ups line h (block_stays (declare_all begin (map plain_variable params)) inner)
