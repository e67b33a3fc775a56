-- What holds of a function's pieces for no asks of its inner functions holds for more, where these are alike.
use Rattle.std.proofs.Common.{◌≡◌, ℕ, ◌+◌, ◌<◌, ◌≤◌, ◌^◌, Bool, true, false, List, [], ◌++◌, length, map, Option, Some, None, refl, subst, arith}
use Rattle.std.specs.Prelude.{slice_get}
use Rattle.int_core.specs.Value.{Value}
use Rattle.tree_core.specs.Tree.{Block, Falls, Returns, Body, BodyOf, Stats, EndStats, MoreStats, Stat, Local, LocalFunction, Assign, CallStat, Do, While, Repeat, If, IfElse, NumFor, NumForStep, GenFor, Arms, EndArms, MoreArms, Exp, Function, Index, Call, Method, Unary, Binary, And, Or, Paren, Table, Exps, EndExps, MoreExps, Fields, EndFields, MoreFields, Item, Keyed}
use Rattle.tree_terms.specs.Bodies.{upvalues_of}
use Rattle.code_core.specs.Prototype.{Prototype, list_of}
use Rattle.code_of.specs.CodeOf.{code_of, upvalue}
use Rattle.code_of.specs.Expressions.{made_by, made_in}
use Rattle.code_of.specs.Operands.{assigned, second_assigned}
use Rattle.code_of.specs.Coded.{Coded}
use Rattle.code_of.specs.Stores.{stores_field}
use Rattle.code_of.specs.Targets.{single_store}
use Rattle.code_of.specs.Levels.{made_by_stat, made_in_arms, made_in_stats, made_in_block, closing_after, closings_after}
use Rattle.tree_terms.specs.Levels.{level_after, levels_after, levels_in}
use Rattle.exp_laws.specs.Setting.{Hidden, Setting, with_loop, Alike}
use Rattle.exp_laws.specs.Placed.{Inner, IsPlaced, ArePlaced, FieldsArePlaced}
use Rattle.tree_terms.specs.Labels.{Named, names_ahead, names_passed}
use Rattle.stat_laws.specs.Scoped.{TargetsArePlaced, KeptIsPlaced, StoreIsPlaced, AssignIsPlaced, LastIsPlaced, ReturnIsPlaced, BoundsArePlaced, StatIsPlaced, ArmsArePlaced, StatsArePlaced, BlockIsPlaced, OpenIsPlaced, TwoIsPlaced}
use Rattle.stat_laws.specs.Fits.{is_known, setting, BodyFits, InExp, InExps, InFields, InStat, InArms, InStats, InBlock}

pub upvalues_same : (source : Option (List ℕ)) (body : Body) → (code_of source body).own.upvalues ≡ map upvalue (upvalues_of body)
upvalues_same source (BodyOf params vararg inner ups line) = refl

module _ (source : Option (List ℕ)) (p : Prototype) (bound : ℕ) (varargs : List Value) (small : p.own.stack < 2 ^ 8) (short : length p.own.code ≤ 2 ^ 24)
    (alike : (b : Body) → BodyFits source b → (m : ℕ) → m < bound → Alike (is_known source) m b (code_of source b)) where
  abbrev low : Hidden → Setting
  low hs = record (setting source p 0 [] small short) { hidden = hs }

  abbrev high : Hidden → Setting
  high hs = record (setting source p bound varargs small short) { hidden = hs }

  inner_up : (hs : Hidden) (j : ℕ) (body : Body) → Inner (low hs) j body → slice_get (list_of p.inner) j ≡ Some (code_of source body) → BodyFits source body → Inner (high hs) j body
  inner_up hs j body h there fits = record { prototype = code_of source body; there = there; near = h.near; upvalues = upvalues_same source body; alike = λ n lt. alike body fits n lt }

  mutual
    exp_up : (hs : Hidden) (e : Exp) (t j : ℕ) → IsPlaced (low hs) e t j → InExp source p e j → IsPlaced (high hs) e t j
    exp_up hs (Function l body) t j h g = (inner_up hs j body h.0 g.0 g.1, h.1)
    exp_up hs (Index l o key) t j h g = (exp_up hs o t j h.0 g.0, exp_up hs key t (j + made_by o) h.1 g.1)
    exp_up hs (Call l f es) t j h g = (exp_up hs f t j h.0 g.0, exps_up hs es t (j + made_by f) h.1 g.1)
    exp_up hs (Method l o name es) t j h g = (exp_up hs o t j h.0 g.0, (h.1.0, exps_up hs es t (j + made_by o) h.1.1 g.1))
    exp_up hs (Unary l op e) t j h g = exp_up hs e t j h g
    exp_up hs (Binary l op e d) t j h g = (exp_up hs e t j h.0 g.0, exp_up hs d t (j + made_by e) h.1 g.1)
    exp_up hs (And l e d) t j h g = (exp_up hs e t j h.0 g.0, exp_up hs d t (j + made_by e) h.1 g.1)
    exp_up hs (Or l e d) t j h g = (exp_up hs e t j h.0 g.0, exp_up hs d t (j + made_by e) h.1 g.1)
    exp_up hs (Paren l e) t j h g = exp_up hs e t j h g
    exp_up hs (Table l fs) t j h g = fields_up hs fs 0 t j h g
    exp_up hs _ t j h g = h

    exps_up : (hs : Hidden) (es : Exps) (t j : ℕ) → ArePlaced (low hs) es t j → InExps source p es j → ArePlaced (high hs) es t j
    exps_up hs EndExps t j h g = tt
    exps_up hs (MoreExps e es) t j h g = (exp_up hs e t j h.0 g.0, exps_up hs es t (j + made_by e) h.1 g.1)

    fields_up : (hs : Hidden) (fs : Fields) (items t j : ℕ) → FieldsArePlaced (low hs) fs items t j → InFields source p fs j → FieldsArePlaced (high hs) fs items t j
    fields_up hs EndFields items t j h g = tt
    fields_up hs (MoreFields (Item e) fs) items t j h g = (exp_up hs e t j h.0 g.0, (h.1.0, fields_up hs fs (items + 1) t (j + made_by e) h.1.1 g.1))
    fields_up hs (MoreFields (Keyed l e d) fs) items t j h g =
        let same : j + (made_by e + made_by d) ≡ j + made_by e + made_by d = omega arith in
        (exp_up hs e t j h.0 g.0.0, (exp_up hs d t (j + made_by e) h.1.0 g.0.1, fields_up hs fs items t (j + made_by e + made_by d) h.1.1 (subst (InFields source p fs) same g.1)))

  targets_up : (hs : Hidden) (ts : Exps) (r t j : ℕ) → TargetsArePlaced (low hs) ts r t j → InExps source p ts j → TargetsArePlaced (high hs) ts r t j
  targets_up hs EndExps r t j h g = tt
  targets_up hs (MoreExps e ts) r t j h g = (h.0, (exp_up hs e t j h.1.0 g.0, (h.1.1.0, targets_up hs ts (r + 2) t (j + made_by e) h.1.1.1 g.1)))

  kept_up : (hs : Hidden) (store : Option Coded) (targets es : Exps) (t j : ℕ) → KeptIsPlaced (low hs) store targets es t j → InExps source p targets j → InExps source p es (j + made_in targets) → KeptIsPlaced (high hs) store targets es t j
  kept_up hs None targets es t j h a b = (targets_up hs targets t t j h.0 a, (exps_up hs es t (j + made_in targets) h.1.0 b, h.1.1))
  kept_up hs (Some x) targets es t j h a b = (exps_up hs targets t j h.0 a, exps_up hs es t (j + made_in targets) h.1 b)

  store_up : (hs : Hidden) (field : Bool) (targets es : Exps) (t j : ℕ) → StoreIsPlaced (low hs) field targets es t j → InExps source p targets j → InExps source p es (j + made_in targets) → StoreIsPlaced (high hs) field targets es t j
  store_up hs true targets es t j h a b = (exps_up hs targets t j h.0 a, (exps_up hs es t (j + made_in targets) h.1.0 b, h.1.1))
  store_up hs false targets es t j h a b = kept_up hs (single_store p.own.constants targets es) targets es t j h a b

  two_up : (hs : Hidden) (o : Option ℕ) (targets es : Exps) (t j : ℕ) → TwoIsPlaced (low hs) o targets es t j → InExps source p targets j → InExps source p es (j + made_in targets) → TwoIsPlaced (high hs) o targets es t j
  two_up hs None targets es t j h a b = store_up hs (stores_field targets es) targets es t j h a b
  two_up hs (Some r) targets es t j h a b = (targets_up hs targets t t j h.0 a, (h.1.0, (h.1.1.0, (exps_up hs es t (j + made_in targets) h.1.1.1.0 b, h.1.1.1.1))))

  assign_up : (hs : Hidden) (o : Option ℕ) (targets es : Exps) (t j : ℕ) → AssignIsPlaced (low hs) o targets es t j → InExps source p targets j → InExps source p es (j + made_in targets) → AssignIsPlaced (high hs) o targets es t j
  assign_up hs None targets es t j h a b = two_up hs (second_assigned targets es) targets es t j h a b
  assign_up hs (Some r) targets es t j h a b = (h.0, (h.1.0, (exps_up hs es t (j + made_in targets) h.1.1.0 b, h.1.1.1)))

  last_up : (hs : Hidden) (es : Exps) (t j : ℕ) → LastIsPlaced (low hs) es t j → InExps source p es j → LastIsPlaced (high hs) es t j
  last_up hs EndExps t j h g = h
  last_up hs (MoreExps (Call l f es) EndExps) t j h g = (exp_up hs f t j h.0 g.0.0, (exps_up hs es t (j + made_by f) h.1.0 g.0.1, h.1.1))
  last_up hs (MoreExps (Method l o name es) EndExps) t j h g = (exp_up hs o t j h.0 g.0.0, (h.1.0, (exps_up hs es t (j + made_by o) h.1.1.0 g.0.1, h.1.1.1)))
  last_up hs es t j h g = (exps_up hs es t j h.0 g, h.1)

  pub return_up : (hs : Hidden) (es : Exps) (closing : Bool) (t j : ℕ) → ReturnIsPlaced (low hs) es closing t j → InExps source p es j → ReturnIsPlaced (high hs) es closing t j
  return_up hs es false t j h g = last_up hs es t j h g
  return_up hs es true t j h g = (exps_up hs es t j h.0 g, h.1)

  bounds_up : (hs : Hidden) (from limit : Exp) (t j : ℕ) → BoundsArePlaced (low hs) from limit t j → InExp source p from j → InExp source p limit (j + made_by from) → BoundsArePlaced (high hs) from limit t j
  bounds_up hs from limit t j h a b = (exp_up hs from t j h.0 a, (h.1.0, (exp_up hs limit t (j + made_by from) h.1.1.0 b, h.1.1.1)))

  mutual
    stat_up : (hs : Hidden) (s : Stat) (closing : Bool) (t j : ℕ) (named : List Named) (loops : Bool) → StatIsPlaced (low hs) s closing t j named loops → InStat source p s j → StatIsPlaced (high hs) s closing t j named loops
    stat_up hs (Local l names es) closing t j named loops h g = (exps_up hs es t j h.0 g, h.1)
    stat_up hs (CallStat l e) closing t j named loops h g = (h.0, (exp_up hs e t j h.1.0 g, h.1.1))
    stat_up hs (Do l block) closing t j named loops h g = block_up hs block closing t j named loops h g
    stat_up hs (While l e block) closing t j named loops h g = (exp_up hs e t j h.0 g.0, (h.1.0, block_up hs block closing t (j + made_by e) named true h.1.1 g.1))
    stat_up hs (Repeat l block e) closing t j named loops h g = (open_up hs block closing t j named true h.0 g.0, (exp_up hs e (levels_in block t) (j + made_in_block block) h.1.0 g.1, h.1.1))
    stat_up hs (If l arms) closing t j named loops h g = arms_up hs arms closing t j named loops h g
    stat_up hs (IfElse l arms block) closing t j named loops h g = (arms_up hs arms closing t j named loops h.0 g.0, block_up hs block closing t (j + made_in_arms arms) named loops h.1 g.1)
    stat_up hs (LocalFunction l name body) closing t j named loops h g = (inner_up hs j body h.0 g.0 g.1, h.1)
    stat_up hs (Assign l targets es) closing t j named loops h g = assign_up hs (assigned targets es) targets es t j h g.0 g.1
    stat_up hs (NumFor l name from limit block) closing t j named loops h g = (
      bounds_up hs from limit t j h.0 g.0 g.1.0,
      (h.1.0, (h.1.1.0, block_up (with_loop hs t) block closing (t + 4) (j + made_by from + made_by limit) named true h.1.1.1 g.1.1)),
    )
    stat_up hs (NumForStep l name from limit step block) closing t j named loops h g = (
      bounds_up hs from limit t j h.0 g.0 g.1.0,
      (
        exp_up hs step t (j + made_by from + made_by limit) h.1.0 g.1.1.0,
        (h.1.1.0, (h.1.1.1.0, (h.1.1.1.1.0, block_up (with_loop hs t) block closing (t + 4) (j + made_by from + made_by limit + made_by step) named true h.1.1.1.1.1 g.1.1.1))),
      ),
    )
    stat_up hs (GenFor l names es block) closing t j named loops h g =
        (exps_up hs es t j h.0 g.0, (h.1.0, (h.1.1.0, (h.1.1.1.0, (h.1.1.1.1.0, (h.1.1.1.1.1.0, block_up hs block true (t + 4 + length names) (j + made_in es) named true h.1.1.1.1.1.1 g.1))))))
    stat_up hs _ closing t j named loops h g = h

    arms_up : (hs : Hidden) (arms : Arms) (closing : Bool) (t j : ℕ) (named : List Named) (loops : Bool) → ArmsArePlaced (low hs) arms closing t j named loops → InArms source p arms j → ArmsArePlaced (high hs) arms closing t j named loops
    arms_up hs EndArms closing t j named loops h g = tt
    arms_up hs (MoreArms e block arms) closing t j named loops h g =
        (exp_up hs e t j h.0 g.0, (h.1.0, (block_up hs block closing t (j + made_by e) named loops h.1.1.0 g.1.0, arms_up hs arms closing t (j + made_by e + made_in_block block) named loops h.1.1.1 g.1.1)))

    pub stats_up : (hs : Hidden) (ss : Stats) (falls closing : Bool) (t j : ℕ) (names named : List Named) (loops : Bool) → StatsArePlaced (low hs) ss falls closing t j names named loops → InStats source p ss j → StatsArePlaced (high hs) ss falls closing t j names named loops
    stats_up hs EndStats falls closing t j names named loops h g = tt
    stats_up hs (MoreStats s ss) falls closing t j names named loops h g =
        (stat_up hs s closing t j (names_ahead ss falls t (level_after s t) ++ (names ++ named)) loops h.0 g.0, stats_up hs ss falls (closing_after s closing) (level_after s t) (j + made_by_stat s) (names_passed s names) named loops h.1 g.1)

    block_up : (hs : Hidden) (block : Block) (closing : Bool) (t j : ℕ) (named : List Named) (loops : Bool) → BlockIsPlaced (low hs) block closing t j named loops → InBlock source p block j → BlockIsPlaced (high hs) block closing t j named loops
    block_up hs (Falls ss tokens line) closing t j named loops h g = stats_up hs ss true closing t j [] named loops h g
    block_up hs (Returns ss es tokens line) closing t j named loops h g =
        (stats_up hs ss false closing t j [] named loops h.0 g.0, return_up hs es (closings_after ss closing) (levels_after ss t) (j + made_in_stats ss) h.1 g.1)

    open_up : (hs : Hidden) (block : Block) (closing : Bool) (t j : ℕ) (named : List Named) (loops : Bool) → OpenIsPlaced (low hs) block closing t j named loops → InBlock source p block j → OpenIsPlaced (high hs) block closing t j named loops
    open_up hs (Falls ss tokens line) closing t j named loops h g = stats_up hs ss false closing t j [] named loops h g
    open_up hs (Returns ss es tokens line) closing t j named loops h g =
        (stats_up hs ss false closing t j [] named loops h.0 g.0, return_up hs es (closings_after ss closing) (levels_after ss t) (j + made_in_stats ss) h.1 g.1)
