-- What the static rules, the grammar and the limits on sources give of a tree makes it near.
use Rattle.std.proofs.Common.{◌≡◌, ℕ, suc, ◌+◌, ◌*◌, ◌%◌, ◌<◌, ◌≤◌, ◌^◌, Bool, true, false, cond, List, [], ◌∷◌, ◌++◌, length, map, Option, refl, sym, ap, subst, ◌∙◌, arith}
use Rattle.tree_core.specs.declared.name.Place.{Place}
use Rattle.tree_core.specs.declared.name.Place.TheVariants.{Unset, Upvalue, GlobalIn, GlobalOf, Local as LocalPlace}
use Rattle.tree_core.specs.declared.name.UpName.{UpName}
use Rattle.tree_core.specs.Tree.{Block, Falls, Returns, Body, BodyOf, Stats, EndStats, MoreStats, Stat, Local, LocalFunction, Assign, CallStat, Do, While, Repeat, If, IfElse, NumFor, NumForStep, GenFor, Arms, EndArms, MoreArms, Exp, Vararg, Function, Var, Index, Call, Method, Unary, Binary, And, Or, Paren, Table, Exps, EndExps, MoreExps, Fields, EndFields, MoreFields, Item, Keyed}
use Rattle.tree_terms.specs.Bodies.{upvalues_of}
use Rattle.code_core.specs.Prototype.{Prototype}
use Rattle.code_of.specs.CodeOf.{upvalue, back_field, code_of}
use Rattle.code_of.specs.Expressions.{made_by, made_in, count}
use Rattle.code_of.specs.Levels.{made_by_stat, made_in_arms, made_in_stats, made_in_block, closing_after}
use Rattle.tree_terms.specs.Levels.{level_after, levels_after, levels_in}
use Rattle.scope_core.specs.Held.{held, held_behind, held_fields, held_targets, held_tests, held_stat, count as held_count}
use Rattle.tree_terms.specs.Labels.{Named, names_ahead, names_passed}
use Rattle.stat_laws.specs.Fits.{BodyFits, InExp as ExpFits, InExps as ExpsFit, InFields as FieldsFit, InStat as StatFits, InArms as ArmsFit, InStats as StatsFit, InBlock as BlockFits}
use Rattle.scope_laws.specs.Keeping.{ExpKeeps, ExpsKeep, FieldsKeep, StatKeeps, ArmsKeep, StatsKeep, BlockKeeps, BodyKeeps}
use Rattle.scope_laws.specs.Finding.{PlaceIsThere, CaptureIsThere, CapturesAreThere, three_hidden, four_hidden, ExpFinds, ExpsFind, FieldsFind, StatFinds, ArmsFind, StatsFind, BlockFinds, BodyFinds}
use Rattle.grammar_laws.specs.Formed.{IsNameOrIndex, AreTargets, BlockIsFormed, BodyIsFormed, all_formed}
use Rattle.grammar_laws.specs.Each.{each_one, InBody}
use Rattle.source_laws.specs.Fields.{FunctionFits, LoopFits}
use Rattle.tree_terms.specs.Weight.{weight, weight_of_exps, weight_of_fields, weight_of_stat, weight_of_arms, weight_of_stats, weight_of_block, weight_of_body}
use Rattle.tree_terms.specs.Asked.{ExpMeets, ExpsMeet, FieldsMeet, StatMeets, ArmsMeet, StatsMeet, BlockMeets}
use Rattle.code_bounds.proofs.Functions.{body_made}
use Rattle.code_checked.specs.Near.{NameIsNear, AreCaptured, ExpIsNear, ExpsAreNear, FieldsAreNear, TargetIsNear, TargetsAreNear, StatIsNear, ArmsAreNear, StatsAreNear, BlockIsNear, AreNear}
use Rattle.source_laws.proofs.Counting.{count_same, values_below, levels_few, locals_few}
use Rattle.code_bounds.proofs.Counts.{arguments_weigh}
use Rattle.scope_laws.proofs.Rules.{few_after}
use Rattle.code_bounds.proofs.Holding.{some_held}

-- a function under way: its code has the function's `...` and upvalues
record Around : Type 0 where
  code : Prototype
  vararg : Bool
  ups : ℕ
  varargs : code.own.vararg ≡ vararg
  upvalues : length code.own.upvalues ≡ ups

length_map : (ups : List UpName) → length (map upvalue ups) ≡ length ups
length_map [] = refl
length_map (u ∷ ups) = ap suc (length_map ups)

name_near : (hidden : List ℕ) (t ups : ℕ) (place : Place) → t ≤ 250 → PlaceIsThere hidden t ups place → NameIsNear ups place
name_near hidden t ups Unset le h = tt
name_near hidden t ups (LocalPlace n) le h = let below = h.0 in omega (arith, le, below)
name_near hidden t ups (Upvalue u) le h = h
name_near hidden t ups (GlobalIn n) le h = let below = h.0 in omega (arith, le, below)
name_near hidden t ups (GlobalOf u) le h = h

capture_near : (hidden : List ℕ) (t ups : ℕ) (b : Bool) (n : ℕ) → CaptureIsThere hidden t ups b n → n < cond b t ups
capture_near hidden t ups true n h = h.0
capture_near hidden t ups false n h = h

captures_near : (hidden : List ℕ) (t ups : ℕ) (us : List UpName) → CapturesAreThere hidden t ups us → AreCaptured us t ups
captures_near hidden t ups [] h = tt
captures_near hidden t ups (u ∷ us) h = (capture_near hidden t ups u.in_stack u.index h.0, captures_near hidden t ups us h.1)

and_none : (n : ℕ) → n + 0 ≡ n
and_none n = omega arith

module _ (source : Option (List ℕ)) where
  abbrev around_body : Body → Around
  around_body (BodyOf params vararg inner ups line) = record { code = code_of source (BodyOf params vararg inner ups line); vararg = vararg; ups = length ups; varargs = refl; upvalues = length_map ups }

  known_place : (x : Around) (hidden : List ℕ) (t : ℕ) (place : Place) → t ≤ 250 → PlaceIsThere hidden t x.ups place → NameIsNear (length x.code.own.upvalues) place
  known_place x hidden t place le h = subst (λ u. NameIsNear u place) (sym x.upvalues) (name_near hidden t x.ups place le h)

  known_captures : (x : Around) (hidden : List ℕ) (t : ℕ) (us : List UpName) → CapturesAreThere hidden t x.ups us → AreCaptured us t (length x.code.own.upvalues)
  known_captures x hidden t us h = subst (λ u. AreCaptured us t u) (sym x.upvalues) (captures_near hidden t x.ups us h)

  mutual
    near_exp : (x : Around) (e : Exp) (hidden : List ℕ) (size t j : ℕ) → size ≤ 250 → t + held e ≤ 250 → ExpKeeps e x.vararg → ExpFinds e hidden size x.ups → ExpMeets all_formed e → ExpFits source x.code e j → ExpMeets (each_one FunctionFits LoopFits) e → weight e ≤ 2 ^ 21
        → ExpIsNear source x.code e size t
    near_exp x (Vararg line) hidden size t j le room k n f i s w = (omega (arith, room), x.varargs ∙ k)
    near_exp x (Function line body) hidden size t j le room k n f i s w = (omega (arith, room), (known_captures x hidden size (upvalues_of body) n.1, near_body body k n.0 f i.1 s w))
    near_exp x (Var line name) hidden size t j le room k n f i s w = (let some = some_held (Var line name) in omega (arith, room, some), known_place x hidden size name.place le n)
    near_exp x (Index line object key) hidden size t j le room k n f i s w = (let some = some_held object in omega (arith, room, some), (near_exp x object hidden size t j le (omega (arith, room)) k.0 n.0 f.0 i.0 s.0 (omega (arith, w)), near_exp x key hidden size (t + 1) (j + made_by object) le (omega (arith, room)) k.1 n.1 f.1 i.1 s.1 (omega (arith, w))))
    near_exp x (Call line called es) hidden size t j le room k n f i s w =
        let same = count_same es in
        let args = arguments_weigh es in
        (omega (arith, room, same), (near_exp x called hidden size t j le (omega (arith, room)) k.0 n.0 f.0 i.0 s.0 (omega (arith, w)), near_exps x es hidden size t 1 (t + 1) (j + made_by called) le (omega arith) (omega (arith, room)) k.1 n.1 f.1 i.1 s.1 (omega (arith, w, args))))
    near_exp x (Method line object name es) hidden size t j le room k n f i s w =
        let same = count_same es in
        let args = arguments_weigh es in
        (omega (arith, room, same), (near_exp x object hidden size t j le (omega (arith, room)) k.0 n.0 f.0 i.0 s.0 (omega (arith, w)), near_exps x es hidden size t 2 (t + 2) (j + made_by object) le (omega arith) (omega (arith, room)) k.1 n.1 f.1 i.1 s.1 (omega (arith, w, args))))
    near_exp x (Unary line op e) hidden size t j le room k n f i s w = (let some = some_held e in omega (arith, room, some), near_exp x e hidden size t j le (omega (arith, room)) k n f i s (omega (arith, w)))
    near_exp x (Binary line op e d) hidden size t j le room k n f i s w = (let some = some_held e in omega (arith, room, some), (near_exp x e hidden size t j le (omega (arith, room)) k.0 n.0 f.0 i.0 s.0 (omega (arith, w)), near_exp x d hidden size (t + 1) (j + made_by e) le (omega (arith, room)) k.1 n.1 f.1 i.1 s.1 (omega (arith, w))))
    near_exp x (And line e d) hidden size t j le room k n f i s w = (let some = some_held e in omega (arith, room, some), (near_exp x e hidden size t j le (omega (arith, room)) k.0 n.0 f.0 i.0 s.0 (omega (arith, w)), near_exp x d hidden size t (j + made_by e) le (omega (arith, room)) k.1 n.1 f.1 i.1 s.1 (omega (arith, w))))
    near_exp x (Or line e d) hidden size t j le room k n f i s w = (let some = some_held e in omega (arith, room, some), (near_exp x e hidden size t j le (omega (arith, room)) k.0 n.0 f.0 i.0 s.0 (omega (arith, w)), near_exp x d hidden size t (j + made_by e) le (omega (arith, room)) k.1 n.1 f.1 i.1 s.1 (omega (arith, w))))
    near_exp x (Paren line e) hidden size t j le room k n f i s w = (let some = some_held e in omega (arith, room, some), near_exp x e hidden size t j le (omega (arith, room)) k n f i s (omega (arith, w)))
    near_exp x (Table line fs) hidden size t j le room k n f i s w = (omega (arith, room), near_fields x fs hidden size t 0 j le (omega (arith, room)) k n f i s (omega (arith, w)))
    near_exp x _ hidden size t j le room k n f i s w = (omega (arith, room), tt)

    -- `before` registers above a base
    near_exps : (x : Around) (es : Exps) (hidden : List ℕ) (size base before r j : ℕ) → size ≤ 250 → base + before ≡ r → base + held_behind before es ≤ 250 → ExpsKeep es x.vararg → ExpsFind es hidden size x.ups → ExpsMeet all_formed es → ExpsFit source x.code es j
        → ExpsMeet (each_one FunctionFits LoopFits) es → weight_of_exps es ≤ 2 ^ 21 → ExpsAreNear source x.code es size r
    near_exps x EndExps hidden size base before r j le at room k n f i s w = tt
    near_exps x (MoreExps e es) hidden size base before r j le at room k n f i s w = (
      near_exp x e hidden size r j le (omega (arith, room, at)) k.0 n.0 f.0 i.0 s.0 (omega (arith, w)),
      near_exps x es hidden size base (before + 1) (r + 1) (j + made_by e) le (omega (arith, at)) (omega (arith, room)) k.1 n.1 f.1 i.1 s.1 (omega (arith, w)),
    )

    near_fields : (x : Around) (fs : Fields) (hidden : List ℕ) (size t items j : ℕ) → size ≤ 250 → t + held_fields items fs ≤ 250 → FieldsKeep fs x.vararg → FieldsFind fs hidden size x.ups → FieldsMeet all_formed fs → FieldsFit source x.code fs j
        → FieldsMeet (each_one FunctionFits LoopFits) fs → weight_of_fields fs ≤ 2 ^ 21 → FieldsAreNear source x.code fs items size t
    near_fields x EndFields hidden size t items j le room k n f i s w = tt
    near_fields x (MoreFields (Item e) fs) hidden size t items j le room k n f i s w = (
      near_exp x e hidden size (t + 1 + items % 50) j le (omega (arith, room)) k.0 n.0 f.0 i.0 s.0 (omega (arith, w)),
      near_fields x fs hidden size t (items + 1) (j + made_by e) le (omega (arith, room)) k.1 n.1 f.1 i.1 s.1 (omega (arith, w)),
    )
    near_fields x (MoreFields (Keyed line e d) fs) hidden size t items j le room k n f i s w = (
      near_exp x e hidden size (t + 1) j le (omega (arith, room)) k.0.0 n.0.0 f.0.0 i.0.0 s.0.0 (omega (arith, w)),
      (
        near_exp x d hidden size (t + 2) (j + made_by e) le (omega (arith, room)) k.0.1 n.0.1 f.0.1 i.0.1 s.0.1 (omega (arith, w)),
        subst (λ z. FieldsAreNear source x.code fs z size t) (and_none items)
            (near_fields x fs hidden size t (items + 0) (j + (made_by e + made_by d)) le (omega (arith, room)) k.1 n.1 f.1 i.1 s.1 (omega (arith, w))),
      ),
    )

    near_targets : (x : Around) (es : Exps) (hidden : List ℕ) (size base before r j : ℕ) → size ≤ 250 → base + before ≡ r → base + held_targets before es ≤ 250 → AreTargets es → ExpsKeep es x.vararg → ExpsFind es hidden size x.ups → ExpsMeet all_formed es
        → ExpsFit source x.code es j → ExpsMeet (each_one FunctionFits LoopFits) es → weight_of_exps es ≤ 2 ^ 21 → TargetsAreNear source x.code es size r
    near_targets x EndExps hidden size base before r j le at room g k n f i s w = tt
    near_targets x (MoreExps e es) hidden size base before r j le at room g k n f i s w = (
      near_target x e hidden size r j le (omega (arith, room, at)) g.0 k.0 n.0 f.0 i.0 s.0 (omega (arith, w)),
      near_targets x es hidden size base (before + 2) (r + 2) (j + made_by e) le (omega (arith, at)) (omega (arith, room)) g.1 k.1 n.1 f.1 i.1 s.1 (omega (arith, w)),
    )

    near_target : (x : Around) (e : Exp) (hidden : List ℕ) (size r j : ℕ) → size ≤ 250 → r + held e ≤ 250 → IsNameOrIndex e → ExpKeeps e x.vararg → ExpFinds e hidden size x.ups → ExpMeets all_formed e → ExpFits source x.code e j → ExpMeets (each_one FunctionFits LoopFits) e → weight e ≤ 2 ^ 21
        → TargetIsNear source x.code e size r
    near_target x (Var line name) hidden size r j le room g k n f i s w = known_place x hidden size name.place le n
    near_target x (Index line object key) hidden size r j le room g k n f i s w = (
      near_exp x object hidden size r j le (omega (arith, room)) k.0 n.0 f.0 i.0 s.0 (omega (arith, w)),
      near_exp x key hidden size (r + 1) (j + made_by object) le (omega (arith, room)) k.1 n.1 f.1 i.1 s.1 (omega (arith, w)),
    )
    near_target x _ hidden size r j le room g k n f i s w = absurd g

    near_stat : (x : Around) (s : Stat) (hidden : List ℕ) (named : List Named) (loops closing : Bool) (t j : ℕ) → t ≤ 200 → t + held_stat s ≤ 250 → StatKeeps s x.vararg t named loops → StatFinds s hidden t x.ups → StatMeets all_formed s → StatFits source x.code s j
        → StatMeets (each_one FunctionFits LoopFits) s → weight_of_stat s ≤ 2 ^ 21 → StatIsNear source x.code s closing t j
    near_stat x (Local line names es) hidden named loops closing t j le room k n f i s w = (let few = k.1 in omega (arith, few), near_exps x es hidden t t 0 t j (omega (arith, le)) (omega arith) (omega (arith, room)) k.0 n f i s (omega (arith, w)))
    near_stat x (LocalFunction line name body) hidden named loops closing t j le room k n f i s w = (let few = k.1 in omega (arith, few), (known_captures x hidden (t + 1) (upvalues_of body) n.1, near_body body k.0 n.0 f i.1 s (omega (arith, w))))
    near_stat x (Assign line targets es) hidden named loops closing t j le room k n f i s w =
        let same = count_same targets in
        (omega (arith, room, same), (near_targets x targets hidden t t 0 t j (omega (arith, le)) (omega arith) (omega (arith, room)) f.0 k.0 n.0 f.1.0 i.0 s.0 (omega (arith, w)), near_exps x es hidden t t (2 * held_count targets) (t + 2 * count targets) (j + made_in targets) (omega (arith, le)) (omega (arith, same)) (omega (arith, room)) k.1 n.1 f.1.1 i.1 s.1 (omega (arith, w))))
    near_stat x (CallStat line e) hidden named loops closing t j le room k n f i s w = near_exp x e hidden t t j (omega (arith, le)) (omega (arith, room)) k n f.1 i s (omega (arith, w))
    near_stat x (Do line block) hidden named loops closing t j le room k n f i s w = near_block x block true hidden named loops closing t j le k n f i s (omega (arith, w))
    near_stat x (While line e block) hidden named loops closing t j le room k n f i s w = (near_exp x e hidden t t j (omega (arith, le)) (omega (arith, room)) k.0 n.0 f.0 i.0 s.0 (omega (arith, w)), near_block x block true hidden named true closing t (j + made_by e) le k.1 n.1 f.1 i.1 s.1 (omega (arith, w)))
    near_stat x (Repeat line block e) hidden named loops closing t j le room k n f i s w =
        let ends = k.1.0 in
        let some = some_held e in
        (near_block x block false hidden named true closing t j le k.0 n.0 f.0 i.0 s.0 (omega (arith, w)), near_exp x e hidden (levels_in block t) (levels_in block t) (j + made_in_block block) (omega (arith, ends, some)) ends k.1.1 n.1 f.1 i.1 s.1 (omega (arith, w)))
    near_stat x (If line arms) hidden named loops closing t j le room k n f i s w = near_arms x arms hidden named loops closing t j le (omega (arith, room)) k n f i s (omega (arith, w))
    near_stat x (IfElse line arms block) hidden named loops closing t j le room k n f i s w = (near_arms x arms hidden named loops closing t j le (omega (arith, room)) k.0 n.0 f.0 i.0 s.0 (omega (arith, w)), near_block x block true hidden named loops closing t (j + made_in_arms arms) le k.1 n.1 f.1 i.1 s.1 (omega (arith, w)))
    near_stat x (NumFor line name from limit block) hidden named loops closing t j le room k n f i s w =
        let few = k.1.1.0 in
        (omega (arith, few), (near_exp x from hidden t t j (omega (arith, le)) (omega (arith, room)) k.0 n.0 f.0 i.0 s.0 (omega (arith, w)), (near_exp x limit hidden t (t + 1) (j + made_by from) (omega (arith, le)) (omega (arith, room)) k.1.0 n.1.0 f.1.0 i.1.0 s.1.0 (omega (arith, w)), ((λ closes. let p = x.code in s.1.1.0 p.own.constants (record { back = back_field p.own.vararg p.own.params; closes = closes }) closing (t + 3) (t + 4) (j + made_by from + made_by limit)), near_block x block true (three_hidden t hidden) named true closing (t + 4) (j + made_by from + made_by limit) few k.1.1.1.1 n.1.1 f.1.1 i.1.1 s.1.1.1 (omega (arith, w))))))
    near_stat x (NumForStep line name from limit step block) hidden named loops closing t j le room k n f i s w =
        let few = k.1.1.1.0 in
        (omega (arith, few), (near_exp x from hidden t t j (omega (arith, le)) (omega (arith, room)) k.0 n.0 f.0 i.0 s.0 (omega (arith, w)), (near_exp x limit hidden t (t + 1) (j + made_by from) (omega (arith, le)) (omega (arith, room)) k.1.0 n.1.0 f.1.0 i.1.0 s.1.0 (omega (arith, w)), (near_exp x step hidden t (t + 2) (j + made_by from + made_by limit) (omega (arith, le)) (omega (arith, room)) k.1.1.0 n.1.1.0 f.1.1.0 i.1.1.0 s.1.1.0 (omega (arith, w)), ((λ closes. let p = x.code in s.1.1.1.0 p.own.constants (record { back = back_field p.own.vararg p.own.params; closes = closes }) closing (t + 3) (t + 4) (j + made_by from + made_by limit + made_by step)), near_block x block true (three_hidden t hidden) named true closing (t + 4) (j + made_by from + made_by limit + made_by step) few k.1.1.1.1.1 n.1.1.1 f.1.1.1 i.1.1.1 s.1.1.1.1 (omega (arith, w)))))))
    near_stat x (GenFor line names es block) hidden named loops closing t j le room k n f i s w =
        let few = k.1.0 in
        (omega (arith, few), (near_exps x es hidden t t 0 t j (omega (arith, le)) (omega arith) (omega (arith, room)) k.0 n.0 f.1.0 i.0 s.0 (omega (arith, w)), ((λ closes. s.1.0 x.code.own.constants (record { back = back_field x.code.own.vararg x.code.own.params; closes = closes }) true (t + 4) (t + 4 + length names) (j + made_in es)), near_block x block true (four_hidden t hidden) named true true (t + 4 + length names) (j + made_in es) few k.1.1.1 n.1 f.1.1 i.1 s.1.1 (omega (arith, w)))))
    near_stat x _ hidden named loops closing t j le room k n f i s w = tt

    near_arms : (x : Around) (arms : Arms) (hidden : List ℕ) (named : List Named) (loops closing : Bool) (t j : ℕ) → t ≤ 200 → t + held_tests arms ≤ 250 → ArmsKeep arms x.vararg t named loops → ArmsFind arms hidden t x.ups → ArmsMeet all_formed arms → ArmsFit source x.code arms j
        → ArmsMeet (each_one FunctionFits LoopFits) arms → weight_of_arms arms ≤ 2 ^ 21 → ArmsAreNear source x.code arms closing t j
    near_arms x EndArms hidden named loops closing t j le room k n f i s w = tt
    near_arms x (MoreArms e block arms) hidden named loops closing t j le room k n f i s w = (
      near_exp x e hidden t t j (omega (arith, le)) (omega (arith, room)) k.0 n.0 f.0 i.0 s.0 (omega (arith, w)),
      (
        near_block x block true hidden named loops closing t (j + made_by e) le k.1.0 n.1.0 f.1.0 i.1.0 s.1.0 (omega (arith, w)),
        near_arms x arms hidden named loops closing t (j + made_by e + made_in_block block) le (omega (arith, room)) k.1.1 n.1.1 f.1.1 i.1.1 s.1.1 (omega (arith, w)),
      ),
    )

    near_stats : (x : Around) (ss : Stats) (falls : Bool) (hidden : List ℕ) (names named : List Named) (loops closing : Bool) (t j : ℕ) → t ≤ 200 → StatsKeep ss falls x.vararg t names named loops → StatsFind ss hidden t x.ups → StatsMeet all_formed ss → StatsFit source x.code ss j
        → StatsMeet (each_one FunctionFits LoopFits) ss → weight_of_stats ss ≤ 2 ^ 21 → StatsAreNear source x.code ss closing t j
    near_stats x EndStats falls hidden names named loops closing t j le k n f i s w = tt
    near_stats x (MoreStats st ss) falls hidden names named loops closing t j le k n f i s w = (
      near_stat x st hidden (names_ahead ss falls t (level_after st t) ++ (names ++ named)) loops closing t j le k.0 k.1.0 n.0 f.0 i.0 s.0 (omega (arith, w)),
      near_stats x ss falls hidden (names_passed st names) named loops (closing_after st closing) (level_after st t) (j + made_by_stat st) (few_after st x.vararg t _ loops le k.1.0) k.1.1 n.1 f.1 i.1 s.1 (omega (arith, w)),
    )

    near_block : (x : Around) (block : Block) (falls : Bool) (hidden : List ℕ) (named : List Named) (loops closing : Bool) (t j : ℕ) → t ≤ 200 → BlockKeeps block falls x.vararg t named loops → BlockFinds block hidden t x.ups → BlockIsFormed block → BlockFits source x.code block j
        → BlockMeets (each_one FunctionFits LoopFits) block → weight_of_block block ≤ 2 ^ 21 → BlockIsNear source x.code block closing t j
    near_block x (Falls ss tokens line) falls hidden named loops closing t j le k n f i s w = near_stats x ss falls hidden [] named loops closing t j le k n f i s w
    near_block x (Returns ss es tokens line) falls hidden named loops closing t j le k n f i s w =
        let few = levels_few ss false x.vararg t [] named loops le k.0 in
        let all = values_below es (levels_after ss t) 0 (omega (arith, few)) k.1.0 in
        let same = count_same es in (
          near_stats x ss false hidden [] named loops closing t j le k.0 n.0 f.0 i.0 s.0 (omega (arith, w)),
          (omega (arith, all), near_exps x es hidden (levels_after ss t) (levels_after ss t) 0 (levels_after ss t) (j + made_in_stats ss) (omega (arith, few)) (omega arith) k.1.0 k.1.1 n.1 f.1 i.1 s.1 (omega (arith, w))),
        )

    pub near_body : (body : Body) → BodyKeeps body → BodyFinds body → BodyIsFormed body → BodyFits source body → InBody FunctionFits LoopFits body → weight_of_body body ≤ 2 ^ 21 → AreNear source body
    near_body (BodyOf params vararg inner ups line) k n f i s w =
        let few = k.1.0 in
        let made = body_made source (BodyOf params vararg inner ups line) in
        let functions = s.0.functions in
        let constants = s.0.constants in
        let total = made.1.0 in
        let u = length_map ups in
        let least = k.0 in (
          record {
            params = omega (arith, few);
            room = i.0.small;
            upvalues = omega (arith, u, least);
            code = i.0.short;
            constants = omega (arith, constants);
            functions = omega (arith, functions, total);
            locals = locals_few source params vararg inner ups line few w;
          },
          near_block (around_body (BodyOf params vararg inner ups line)) inner true [] [] false false (length params) 0 few k.1.1 n f i.1 s.1 (omega (arith, w)),
        )
