-- A body fits, with the functions that are defined in it.
use Rattle.std.proofs.Common.{ℕ, ◌+◌, ◌≤◌, ◌^◌, Bool, true, false, List, [], ◌++◌, length, Option, arith}
use Rattle.tree_core.specs.Tree.{Block, Falls, Returns, Body, BodyOf, Stats, EndStats, MoreStats, Stat, Local, LocalFunction, Assign, CallStat, Do, While, Repeat, If, IfElse, NumFor, NumForStep, GenFor, Arms, EndArms, MoreArms, Exp, Function, Index, Call, Method, Unary, Binary, And, Or, Paren, Table, Exps, EndExps, MoreExps, Fields, EndFields, MoreFields, Field, Item, Keyed}
use Rattle.code_core.specs.Prototype.{Prototype, list_of}
use Rattle.code_of.specs.Expressions.{made_by, made_in, made_by_field}
use Rattle.code_of.specs.Levels.{made_by_stat, made_in_arms, made_in_stats, made_in_block}
use Rattle.tree_terms.specs.Levels.{level_after, levels_after, levels_in}
use Rattle.code_of.specs.CodeOf.{code_of}
use Rattle.stat_laws.specs.Fits.{BodyFits, InExp, InExps, InFields, InField, InStat, InArms, InStats, InBlock}
use Rattle.tree_terms.specs.Labels.{Named, names_ahead, names_passed}
use Rattle.scope_laws.specs.Keeping.{ExpKeeps, ExpsKeep, FieldsKeep, FieldKeeps, BodyKeeps, BlockKeeps, StatsKeep, StatKeeps, ArmsKeep}
use Rattle.scope_laws.specs.Finding.{three_hidden, four_hidden, ExpFinds, ExpsFind, FieldsFind, FieldFinds, BodyFinds, BlockFinds, StatsFind, StatFinds, ArmsFind}
use Rattle.code_bounds.specs.Functions.{ExpMakes, ExpsMake, FieldsMake, FieldMakes, StatMakes, ArmsMake, StatsMake, BlockMakes}
use Rattle.code_bounds.proofs.Functions.{body_made}
use Rattle.tree_terms.specs.FunctionCount.{functions, functions_in_exps, functions_in_fields, functions_in_field, functions_in_stat, functions_in_arms, functions_in_stats, functions_in_block, functions_in_body}
use Rattle.tree_terms.specs.Weight.{weight, weight_of_exps, weight_of_fields, weight_of_field, weight_of_stat, weight_of_arms, weight_of_stats, weight_of_block, weight_of_body}
use Rattle.tree_terms.specs.Asked.{ExpMeets, ExpsMeet, FieldsMeet, FieldMeets, StatMeets, ArmsMeet, StatsMeet}
use Rattle.code_bounds.proofs.Counts.{arguments_weigh}
use Rattle.grammar_laws.specs.Formed.{BlockIsFormed, BodyIsFormed, all_formed}
use Rattle.grammar_laws.specs.Counted.{BlockIsCounted, BodyIsCounted, all_counted}
use Rattle.source_laws.proofs.Alone.{alone}

module _ (source : Option (List ℕ)) where
  mutual
    pub body_fits : (body : Body) → BodyKeeps body → BodyFinds body → BodyIsFormed body → BodyIsCounted body → weight_of_body body ≤ 2 ^ 21 → functions_in_body body ≤ 2 ^ 17 → BodyFits source body
    body_fits (BodyOf params vararg inner ups line) k f o c w b = (
      alone source params vararg inner ups line k f o c w b,
      in_block (code_of source (BodyOf params vararg inner ups line)) vararg (length ups) inner true [] (length params) 0 [] false k.1.1 f o c
          (body_made source (BodyOf params vararg inner ups line)).0 (omega (arith, w)) b,
    )

    in_exp : (p : Prototype) (vararg : Bool) (ups : ℕ) (e : Exp) (hidden : List ℕ) (t j : ℕ) → ExpKeeps e vararg → ExpFinds e hidden t ups → ExpMeets all_formed e → ExpMeets all_counted e →
        ExpMakes source (list_of p.inner) e j → weight e ≤ 2 ^ 21 → functions e ≤ 2 ^ 17 → InExp source p e j
    in_exp p vararg ups (Function line body) hidden t j k f o c m w b = (m, body_fits body k f.0 o c w (omega (arith, b)))
    in_exp p vararg ups (Index line object key) hidden t j k f o c m w b = (
      in_exp p vararg ups object hidden t j k.0 f.0 o.0 c.0 m.0 (omega (arith, w)) (omega (arith, b)),
      in_exp p vararg ups key hidden t (j + made_by object) k.1 f.1 o.1 c.1 m.1 (omega (arith, w)) (omega (arith, b)),
    )
    in_exp p vararg ups (Call line called es) hidden t j k f o c m w b =
        let arguments = arguments_weigh es in (
          in_exp p vararg ups called hidden t j k.0 f.0 o.0 c.0 m.0 (omega (arith, w)) (omega (arith, b)),
          in_exps p vararg ups es hidden t (j + made_by called) k.1 f.1 o.1 c.1 m.1 (omega (arith, w, arguments)) (omega (arith, b)),
        )
    in_exp p vararg ups (Method line object name es) hidden t j k f o c m w b =
        let arguments = arguments_weigh es in (
          in_exp p vararg ups object hidden t j k.0 f.0 o.0 c.0 m.0 (omega (arith, w)) (omega (arith, b)),
          in_exps p vararg ups es hidden t (j + made_by object) k.1 f.1 o.1 c.1 m.1 (omega (arith, w, arguments)) (omega (arith, b)),
        )
    in_exp p vararg ups (Unary line op e) hidden t j k f o c m w b = in_exp p vararg ups e hidden t j k f o c m (omega (arith, w)) b
    in_exp p vararg ups (Binary line op e d) hidden t j k f o c m w b = (
      in_exp p vararg ups e hidden t j k.0 f.0 o.0 c.0 m.0 (omega (arith, w)) (omega (arith, b)),
      in_exp p vararg ups d hidden t (j + made_by e) k.1 f.1 o.1 c.1 m.1 (omega (arith, w)) (omega (arith, b)),
    )
    in_exp p vararg ups (And line e d) hidden t j k f o c m w b = (
      in_exp p vararg ups e hidden t j k.0 f.0 o.0 c.0 m.0 (omega (arith, w)) (omega (arith, b)),
      in_exp p vararg ups d hidden t (j + made_by e) k.1 f.1 o.1 c.1 m.1 (omega (arith, w)) (omega (arith, b)),
    )
    in_exp p vararg ups (Or line e d) hidden t j k f o c m w b = (
      in_exp p vararg ups e hidden t j k.0 f.0 o.0 c.0 m.0 (omega (arith, w)) (omega (arith, b)),
      in_exp p vararg ups d hidden t (j + made_by e) k.1 f.1 o.1 c.1 m.1 (omega (arith, w)) (omega (arith, b)),
    )
    in_exp p vararg ups (Paren line e) hidden t j k f o c m w b = in_exp p vararg ups e hidden t j k f o c m (omega (arith, w)) b
    in_exp p vararg ups (Table line fs) hidden t j k f o c m w b = in_fields p vararg ups fs hidden t j k f o c m (omega (arith, w)) b
    in_exp p vararg ups _ hidden t j k f o c m w b = tt

    in_exps : (p : Prototype) (vararg : Bool) (ups : ℕ) (es : Exps) (hidden : List ℕ) (t j : ℕ) → ExpsKeep es vararg → ExpsFind es hidden t ups → ExpsMeet all_formed es → ExpsMeet all_counted es →
        ExpsMake source (list_of p.inner) es j → weight_of_exps es ≤ 2 ^ 21 → functions_in_exps es ≤ 2 ^ 17 → InExps source p es j
    in_exps p vararg ups EndExps hidden t j k f o c m w b = tt
    in_exps p vararg ups (MoreExps e es) hidden t j k f o c m w b = (
      in_exp p vararg ups e hidden t j k.0 f.0 o.0 c.0 m.0 (omega (arith, w)) (omega (arith, b)),
      in_exps p vararg ups es hidden t (j + made_by e) k.1 f.1 o.1 c.1 m.1 (omega (arith, w)) (omega (arith, b)),
    )

    in_fields : (p : Prototype) (vararg : Bool) (ups : ℕ) (fs : Fields) (hidden : List ℕ) (t j : ℕ) → FieldsKeep fs vararg → FieldsFind fs hidden t ups → FieldsMeet all_formed fs → FieldsMeet all_counted fs →
        FieldsMake source (list_of p.inner) fs j → weight_of_fields fs ≤ 2 ^ 21 → functions_in_fields fs ≤ 2 ^ 17 → InFields source p fs j
    in_fields p vararg ups EndFields hidden t j k f o c m w b = tt
    in_fields p vararg ups (MoreFields field fs) hidden t j k f o c m w b = (
      in_field p vararg ups field hidden t j k.0 f.0 o.0 c.0 m.0 (omega (arith, w)) (omega (arith, b)),
      in_fields p vararg ups fs hidden t (j + made_by_field field) k.1 f.1 o.1 c.1 m.1 (omega (arith, w)) (omega (arith, b)),
    )

    in_field : (p : Prototype) (vararg : Bool) (ups : ℕ) (field : Field) (hidden : List ℕ) (t j : ℕ) → FieldKeeps field vararg → FieldFinds field hidden t ups → FieldMeets all_formed field → FieldMeets all_counted field →
        FieldMakes source (list_of p.inner) field j → weight_of_field field ≤ 2 ^ 21 → functions_in_field field ≤ 2 ^ 17 → InField source p field j
    in_field p vararg ups (Item e) hidden t j k f o c m w b = in_exp p vararg ups e hidden t j k f o c m w b
    in_field p vararg ups (Keyed line e d) hidden t j k f o c m w b = (
      in_exp p vararg ups e hidden t j k.0 f.0 o.0 c.0 m.0 (omega (arith, w)) (omega (arith, b)),
      in_exp p vararg ups d hidden t (j + made_by e) k.1 f.1 o.1 c.1 m.1 (omega (arith, w)) (omega (arith, b)),
    )

    in_stat : (p : Prototype) (vararg : Bool) (ups : ℕ) (s : Stat) (hidden : List ℕ) (t j : ℕ) (named : List Named) (loops : Bool) → StatKeeps s vararg t named loops → StatFinds s hidden t ups →
        StatMeets all_formed s → StatMeets all_counted s → StatMakes source (list_of p.inner) s j → weight_of_stat s ≤ 2 ^ 21 → functions_in_stat s ≤ 2 ^ 17 → InStat source p s j
    in_stat p vararg ups (Local line names es) hidden t j named loops k f o c m w b = in_exps p vararg ups es hidden t j k.0 f o c m (omega (arith, w)) b
    in_stat p vararg ups (LocalFunction line name body) hidden t j named loops k f o c m w b = (m, body_fits body k.0 f.0 o c (omega (arith, w)) (omega (arith, b)))
    in_stat p vararg ups (Assign line targets es) hidden t j named loops k f o c m w b = (
      in_exps p vararg ups targets hidden t j k.0 f.0 o.1.0 c.0 m.0 (omega (arith, w)) (omega (arith, b)),
      in_exps p vararg ups es hidden t (j + made_in targets) k.1 f.1 o.1.1 c.1 m.1 (omega (arith, w)) (omega (arith, b)),
    )
    in_stat p vararg ups (CallStat line e) hidden t j named loops k f o c m w b = in_exp p vararg ups e hidden t j k f o.1 c m w b
    in_stat p vararg ups (Do line block) hidden t j named loops k f o c m w b = in_block p vararg ups block true hidden t j named loops k f o c m (omega (arith, w)) b
    in_stat p vararg ups (While line e block) hidden t j named loops k f o c m w b = (
      in_exp p vararg ups e hidden t j k.0 f.0 o.0 c.0 m.0 (omega (arith, w)) (omega (arith, b)),
      in_block p vararg ups block true hidden t (j + made_by e) named true k.1 f.1 o.1 c.1 m.1 (omega (arith, w)) (omega (arith, b)),
    )
    in_stat p vararg ups (Repeat line block e) hidden t j named loops k f o c m w b = (
      in_block p vararg ups block false hidden t j named true k.0 f.0 o.0 c.0 m.0 (omega (arith, w)) (omega (arith, b)),
      in_exp p vararg ups e hidden (levels_in block t) (j + made_in_block block) k.1.1 f.1 o.1 c.1 m.1 (omega (arith, w)) (omega (arith, b)),
    )
    in_stat p vararg ups (If line arms) hidden t j named loops k f o c m w b = in_arms p vararg ups arms hidden t j named loops k f o c m (omega (arith, w)) b
    in_stat p vararg ups (IfElse line arms block) hidden t j named loops k f o c m w b = (
      in_arms p vararg ups arms hidden t j named loops k.0 f.0 o.0 c.0 m.0 (omega (arith, w)) (omega (arith, b)),
      in_block p vararg ups block true hidden t (j + made_in_arms arms) named loops k.1 f.1 o.1 c.1 m.1 (omega (arith, w)) (omega (arith, b)),
    )
    in_stat p vararg ups (NumFor line name from limit block) hidden t j named loops k f o c m w b = (
      in_exp p vararg ups from hidden t j k.0 f.0 o.0 c.0 m.0 (omega (arith, w)) (omega (arith, b)),
      (
        in_exp p vararg ups limit hidden t (j + made_by from) k.1.0 f.1.0 o.1.0 c.1.0 m.1.0 (omega (arith, w)) (omega (arith, b)),
        in_block p vararg ups block true (three_hidden t hidden) (t + 4) (j + made_by from + made_by limit) named true k.1.1.1.1 f.1.1 o.1.1 c.1.1 m.1.1 (omega (arith, w)) (omega (arith, b)),
      ),
    )
    in_stat p vararg ups (NumForStep line name from limit step block) hidden t j named loops k f o c m w b = (
      in_exp p vararg ups from hidden t j k.0 f.0 o.0 c.0 m.0 (omega (arith, w)) (omega (arith, b)),
      (
        in_exp p vararg ups limit hidden t (j + made_by from) k.1.0 f.1.0 o.1.0 c.1.0 m.1.0 (omega (arith, w)) (omega (arith, b)),
        (
          in_exp p vararg ups step hidden t (j + made_by from + made_by limit) k.1.1.0 f.1.1.0 o.1.1.0 c.1.1.0 m.1.1.0 (omega (arith, w)) (omega (arith, b)),
          in_block p vararg ups block true (three_hidden t hidden) (t + 4) (j + made_by from + made_by limit + made_by step) named true k.1.1.1.1.1 f.1.1.1 o.1.1.1 c.1.1.1 m.1.1.1 (omega (arith, w)) (omega (arith, b)),
        ),
      ),
    )
    in_stat p vararg ups (GenFor line names es block) hidden t j named loops k f o c m w b = (
      in_exps p vararg ups es hidden t j k.0 f.0 o.1.0 c.0 m.0 (omega (arith, w)) (omega (arith, b)),
      in_block p vararg ups block true (four_hidden t hidden) (t + 4 + length names) (j + made_in es) named true k.1.1.1 f.1 o.1.1 c.1 m.1 (omega (arith, w)) (omega (arith, b)),
    )
    in_stat p vararg ups _ hidden t j named loops k f o c m w b = tt

    in_arms : (p : Prototype) (vararg : Bool) (ups : ℕ) (arms : Arms) (hidden : List ℕ) (t j : ℕ) (named : List Named) (loops : Bool) → ArmsKeep arms vararg t named loops → ArmsFind arms hidden t ups →
        ArmsMeet all_formed arms → ArmsMeet all_counted arms → ArmsMake source (list_of p.inner) arms j → weight_of_arms arms ≤ 2 ^ 21 → functions_in_arms arms ≤ 2 ^ 17 → InArms source p arms j
    in_arms p vararg ups EndArms hidden t j named loops k f o c m w b = tt
    in_arms p vararg ups (MoreArms e block arms) hidden t j named loops k f o c m w b = (
      in_exp p vararg ups e hidden t j k.0 f.0 o.0 c.0 m.0 (omega (arith, w)) (omega (arith, b)),
      (
        in_block p vararg ups block true hidden t (j + made_by e) named loops k.1.0 f.1.0 o.1.0 c.1.0 m.1.0 (omega (arith, w)) (omega (arith, b)),
        in_arms p vararg ups arms hidden t (j + made_by e + made_in_block block) named loops k.1.1 f.1.1 o.1.1 c.1.1 m.1.1 (omega (arith, w)) (omega (arith, b)),
      ),
    )

    in_stats : (p : Prototype) (vararg : Bool) (ups : ℕ) (ss : Stats) (falls : Bool) (hidden : List ℕ) (t j : ℕ) (names named : List Named) (loops : Bool) → StatsKeep ss falls vararg t names named loops → StatsFind ss hidden t ups →
        StatsMeet all_formed ss → StatsMeet all_counted ss → StatsMake source (list_of p.inner) ss j → weight_of_stats ss ≤ 2 ^ 21 → functions_in_stats ss ≤ 2 ^ 17 → InStats source p ss j
    in_stats p vararg ups EndStats falls hidden t j names named loops k f o c m w b = tt
    in_stats p vararg ups (MoreStats stat ss) falls hidden t j names named loops k f o c m w b = (
      in_stat p vararg ups stat hidden t j (names_ahead ss falls t (level_after stat t) ++ (names ++ named)) loops k.1.0 f.0 o.0 c.0 m.0 (omega (arith, w)) (omega (arith, b)),
      in_stats p vararg ups ss falls hidden (level_after stat t) (j + made_by_stat stat) (names_passed stat names) named loops k.1.1 f.1 o.1 c.1 m.1 (omega (arith, w)) (omega (arith, b)),
    )

    in_block : (p : Prototype) (vararg : Bool) (ups : ℕ) (block : Block) (falls : Bool) (hidden : List ℕ) (t j : ℕ) (named : List Named) (loops : Bool) → BlockKeeps block falls vararg t named loops → BlockFinds block hidden t ups →
        BlockIsFormed block → BlockIsCounted block → BlockMakes source (list_of p.inner) block j → weight_of_block block ≤ 2 ^ 21 → functions_in_block block ≤ 2 ^ 17 → InBlock source p block j
    in_block p vararg ups (Falls ss tokens line) falls hidden t j named loops k f o c m w b = in_stats p vararg ups ss falls hidden t j [] named loops k f o c.1 m w b
    in_block p vararg ups (Returns ss es tokens line) falls hidden t j named loops k f o c m w b = (
      in_stats p vararg ups ss false hidden t j [] named loops k.0 f.0 o.0 c.1.0 m.0 (omega (arith, w)) (omega (arith, b)),
      in_exps p vararg ups es hidden (levels_after ss t) (j + made_in_stats ss) k.1.1 f.1 o.1 c.1.1 m.1 (omega (arith, w)) (omega (arith, b)),
    )
