-- What holds of a function's pieces holds within a scope too where no local of it may be captured: no function is made there.
use Rattle.std.proofs.Common.{lt-ltb, ◌≡◌, ℕ, zero, suc, ◌+◌, Bool, true, false, cond, ◌||◌, List, [], ◌∷◌, ◌++◌, length, Option, Some, None, refl, sym, ap, ◌∙◌, arith}
use Rattle.std.specs.Prelude.{nat_lt}
use Rattle.tree_core.specs.declared.name.UpName.{UpName}
use Rattle.tree_core.specs.Tree.{Block, Falls, Returns, Body, Stats, EndStats, MoreStats, Stat, Local, LocalFunction, Assign, CallStat, Do, While, Repeat, If, IfElse, NumFor, NumForStep, GenFor, Arms, EndArms, MoreArms, Exp, Function, Index, Call, Method, Unary, Binary, And, Or, Paren, Table, Exps, EndExps, MoreExps, Fields, EndFields, MoreFields, Item, Keyed}
use Rattle.tree_terms.specs.Bodies.{upvalues_of}
use Rattle.code_of.specs.Operands.{assigned, second_assigned}
use Rattle.code_of.specs.Coded.{Coded}
use Rattle.code_of.specs.Stores.{stores_field}
use Rattle.code_of.specs.Targets.{single_store}
use Rattle.code_of.specs.Expressions.{made_by, made_in, made_in_fields}
use Rattle.code_of.specs.Levels.{made_by_stat, made_in_arms, made_in_stats, made_in_block, closing_after, closings_after, may_hold, made_until, marked_in_block, may_hold_until}
use Rattle.code_of.proofs.Marked.{all_closing}
use Rattle.tree_terms.specs.Levels.{level_after, levels_after, levels_in}
use Rattle.exp_laws.specs.Setting.{UnderAll, Setting, hiding, within_hidden, inside}
use Rattle.exp_laws.specs.Placed.{Captures, Inner, IsPlaced, ArePlaced, FieldsArePlaced}
use Rattle.tree_terms.specs.Labels.{Named, names_ahead, names_passed}
use Rattle.stat_laws.specs.Scoped.{TargetsArePlaced, KeptIsPlaced, StoreIsPlaced, AssignIsPlaced, LastIsPlaced, ReturnIsPlaced, BoundsArePlaced, StatIsPlaced, ArmsArePlaced, StatsArePlaced, BlockIsPlaced, OpenIsPlaced, TwoIsPlaced}
use Rattle.stat_laws.proofs.Labels.{closed_numbers, closed_after}
use Rattle.stat_laws.proofs.Blocks.{closeds_after, no_some, some_numbers}
use Rattle.list_laws.proofs.Items.{append_nil}

pub first_false : (a b : Bool) → (a || b) ≡ false → a ≡ false
first_false false b e = refl
first_false true b e = absurd (cc)

pub second_false : (a b : Bool) → (a || b) ≡ false → b ≡ false
second_false false b e = e
second_false true b e = absurd (cc)

pub none_counted : (n : ℕ) → nat_lt 0 n ≡ false → n ≡ 0
none_counted zero e = refl
none_counted (suc n) e = let some = lt-ltb 0 (suc n) (omega arith) in absurd (cc)

pub none_made : (ss : Stats) → may_hold ss ≡ false → made_in_stats ss ≡ 0
none_made ss e = none_counted (made_in_stats ss) (first_false (nat_lt 0 (made_in_stats ss)) (closings_after ss false) e)

-- of the block of a `repeat` and its test
pub none_until : (block : Block) (e : Exp) → may_hold_until block e ≡ false → made_until block e ≡ 0
none_until block e h = none_counted (made_until block e) (first_false (nat_lt 0 (made_until block e)) (marked_in_block block) h)

-- nor is a variable marked

-- where a variable is marked behind a statement, it is at the end
not_yet : (b : Bool) (ss : Stats) → closings_after ss b ≡ false → b ≡ false
not_yet false ss e = refl
not_yet true ss e = let all = all_closing ss in absurd (cc)

unmarked : (s : Stat) (t : ℕ) (closed : List ℕ) → closing_after s false ≡ false → closed_after s t closed ≡ closed
unmarked (Local l names es) t closed h = ap (λ ms. closed ++ ms) (no_some (closed_numbers names t) (sym (some_numbers names t) ∙ h)) ∙ append_nil closed
unmarked _ t closed h = refl

pub unmarked_after : (ss : Stats) (t : ℕ) (closed : List ℕ) → closings_after ss false ≡ false → closeds_after ss t closed ≡ closed
unmarked_after EndStats t closed e = refl
unmarked_after (MoreStats s ss) t closed e =
    let here = not_yet (closing_after s false) ss e in
    ap (closeds_after ss (level_after s t)) (unmarked s t closed here) ∙ unmarked_after ss (level_after s t) closed (ap (closings_after ss) (sym here) ∙ e)

-- what is captured

under_scoped : (captures : Bool) (levels : List ℕ) (level n : ℕ) → (captures ≡ false → ⊥) → UnderAll n levels → UnderAll n (cond captures levels (level ∷ levels))
under_scoped true levels level n some h = h
under_scoped false levels level n some h = absurd (some refl)

celled_scoped : (whole captures celled : Bool) → (captures ≡ false → ⊥) → celled ≡ true → cond whole captures celled ≡ true
celled_scoped true true celled some e = refl
celled_scoped true false celled some e = absurd (some refl)
celled_scoped false captures celled some e = e

module _ (captures : Bool) (level : ℕ) (whole : Bool) where
  -- where no local may be captured, no function is made
  abbrev Free : ℕ → Type 0
  Free n = captures ≡ false → n ≡ 0

  captures_scoped : (S : Setting) (us : List UpName) (size : ℕ) → (captures ≡ false → ⊥) → Captures S.hidden us size → Captures (within_hidden S.hidden captures level whole) us size
  captures_scoped S [] size some h = tt
  captures_scoped S (u ∷ us) size some h =
      ((λ is. ((h.0 is).0, ((h.0 is).1.0, (under_scoped captures S.hidden.free_from level u.index some (h.0 is).1.1.0, celled_scoped whole captures S.hidden.celled some (h.0 is).1.1.1)))), captures_scoped S us size some h.1)

  inner_scoped : (S : Setting) (j : ℕ) (body : Body) → Inner S j body → Inner (inside S captures level whole) j body
  inner_scoped S j body h = record { prototype = h.prototype; there = h.there; near = h.near; upvalues = h.upvalues; alike = h.alike }

  mutual
    pub exp_scoped : (S : Setting) (e : Exp) (t j : ℕ) → IsPlaced S e t j → Free (made_by e) → IsPlaced (inside S captures level whole) e t j
    exp_scoped S (Function l body) t j h g = (inner_scoped S j body h.0, captures_scoped S (upvalues_of body) t (λ is. absurd (omega (arith, g is))) h.1)
    exp_scoped S (Index l o key) t j h g = (exp_scoped S o t j h.0 (λ is. omega (arith, g is)), exp_scoped S key t (j + made_by o) h.1 (λ is. omega (arith, g is)))
    exp_scoped S (Call l f es) t j h g = (exp_scoped S f t j h.0 (λ is. omega (arith, g is)), exps_scoped S es t (j + made_by f) h.1 (λ is. omega (arith, g is)))
    exp_scoped S (Method l o name es) t j h g = (exp_scoped S o t j h.0 (λ is. omega (arith, g is)), (h.1.0, exps_scoped S es t (j + made_by o) h.1.1 (λ is. omega (arith, g is))))
    exp_scoped S (Unary l op e) t j h g = exp_scoped S e t j h g
    exp_scoped S (Binary l op e d) t j h g = (exp_scoped S e t j h.0 (λ is. omega (arith, g is)), exp_scoped S d t (j + made_by e) h.1 (λ is. omega (arith, g is)))
    exp_scoped S (And l e d) t j h g = (exp_scoped S e t j h.0 (λ is. omega (arith, g is)), exp_scoped S d t (j + made_by e) h.1 (λ is. omega (arith, g is)))
    exp_scoped S (Or l e d) t j h g = (exp_scoped S e t j h.0 (λ is. omega (arith, g is)), exp_scoped S d t (j + made_by e) h.1 (λ is. omega (arith, g is)))
    exp_scoped S (Paren l e) t j h g = exp_scoped S e t j h g
    exp_scoped S (Table l fs) t j h g = fields_scoped S fs 0 t j h g
    exp_scoped S _ t j h g = h

    exps_scoped : (S : Setting) (es : Exps) (t j : ℕ) → ArePlaced S es t j → Free (made_in es) → ArePlaced (inside S captures level whole) es t j
    exps_scoped S EndExps t j h g = tt
    exps_scoped S (MoreExps e es) t j h g = (exp_scoped S e t j h.0 (λ is. omega (arith, g is)), exps_scoped S es t (j + made_by e) h.1 (λ is. omega (arith, g is)))

    fields_scoped : (S : Setting) (fs : Fields) (items t j : ℕ) → FieldsArePlaced S fs items t j → Free (made_in_fields fs) → FieldsArePlaced (inside S captures level whole) fs items t j
    fields_scoped S EndFields items t j h g = tt
    fields_scoped S (MoreFields (Item e) fs) items t j h g = (exp_scoped S e t j h.0 (λ is. omega (arith, g is)), (h.1.0, fields_scoped S fs (items + 1) t (j + made_by e) h.1.1 (λ is. omega (arith, g is))))
    fields_scoped S (MoreFields (Keyed l e d) fs) items t j h g =
        (exp_scoped S e t j h.0 (λ is. omega (arith, g is)), (exp_scoped S d t (j + made_by e) h.1.0 (λ is. omega (arith, g is)), fields_scoped S fs items t (j + made_by e + made_by d) h.1.1 (λ is. omega (arith, g is))))

  targets_scoped : (S : Setting) (ts : Exps) (r t j : ℕ) → TargetsArePlaced S ts r t j → Free (made_in ts) → TargetsArePlaced (inside S captures level whole) ts r t j
  targets_scoped S EndExps r t j h g = tt
  targets_scoped S (MoreExps e ts) r t j h g = (h.0, (exp_scoped S e t j h.1.0 (λ is. omega (arith, g is)), (h.1.1.0, targets_scoped S ts (r + 2) t (j + made_by e) h.1.1.1 (λ is. omega (arith, g is)))))

  kept_scoped : (S : Setting) (store : Option Coded) (targets es : Exps) (t j : ℕ) → KeptIsPlaced S store targets es t j → Free (made_in targets + made_in es) → KeptIsPlaced (inside S captures level whole) store targets es t j
  kept_scoped S None targets es t j h g = (targets_scoped S targets t t j h.0 (λ is. omega (arith, g is)), (exps_scoped S es t (j + made_in targets) h.1.0 (λ is. omega (arith, g is)), h.1.1))
  kept_scoped S (Some x) targets es t j h g = (exps_scoped S targets t j h.0 (λ is. omega (arith, g is)), exps_scoped S es t (j + made_in targets) h.1 (λ is. omega (arith, g is)))

  store_scoped : (S : Setting) (field : Bool) (targets es : Exps) (t j : ℕ) → StoreIsPlaced S field targets es t j → Free (made_in targets + made_in es) → StoreIsPlaced (inside S captures level whole) field targets es t j
  store_scoped S true targets es t j h g = (exps_scoped S targets t j h.0 (λ is. omega (arith, g is)), (exps_scoped S es t (j + made_in targets) h.1.0 (λ is. omega (arith, g is)), h.1.1))
  store_scoped S false targets es t j h g = kept_scoped S (single_store S.code.own.constants targets es) targets es t j h g

  two_scoped : (S : Setting) (at : Option ℕ) (targets es : Exps) (t j : ℕ) → TwoIsPlaced S at targets es t j → Free (made_in targets + made_in es) → TwoIsPlaced (inside S captures level whole) at targets es t j
  two_scoped S None targets es t j h g = store_scoped S (stores_field targets es) targets es t j h g
  two_scoped S (Some r) targets es t j h g =
      (targets_scoped S targets t t j h.0 (λ is. omega (arith, g is)), (h.1.0, (h.1.1.0, (exps_scoped S es t (j + made_in targets) h.1.1.1.0 (λ is. omega (arith, g is)), h.1.1.1.1))))

  assign_scoped : (S : Setting) (at : Option ℕ) (targets es : Exps) (t j : ℕ) → AssignIsPlaced S at targets es t j → Free (made_in targets + made_in es) → AssignIsPlaced (inside S captures level whole) at targets es t j
  assign_scoped S None targets es t j h g = two_scoped S (second_assigned targets es) targets es t j h g
  assign_scoped S (Some r) targets es t j h g = (h.0, (h.1.0, (exps_scoped S es t (j + made_in targets) h.1.1.0 (λ is. omega (arith, g is)), h.1.1.1)))

  last_scoped : (S : Setting) (es : Exps) (t j : ℕ) → LastIsPlaced S es t j → Free (made_in es) → LastIsPlaced (inside S captures level whole) es t j
  last_scoped S EndExps t j h g = h
  last_scoped S (MoreExps (Call l f es) EndExps) t j h g = (exp_scoped S f t j h.0 (λ is. omega (arith, g is)), (exps_scoped S es t (j + made_by f) h.1.0 (λ is. omega (arith, g is)), h.1.1))
  last_scoped S (MoreExps (Method l o name es) EndExps) t j h g = (exp_scoped S o t j h.0 (λ is. omega (arith, g is)), (h.1.0, (exps_scoped S es t (j + made_by o) h.1.1.0 (λ is. omega (arith, g is)), h.1.1.1)))
  last_scoped S es t j h g = (exps_scoped S es t j h.0 g, h.1)

  pub return_scoped : (S : Setting) (es : Exps) (closing : Bool) (t j : ℕ) → ReturnIsPlaced S es closing t j → Free (made_in es) → ReturnIsPlaced (inside S captures level whole) es closing t j
  return_scoped S es false t j h g = last_scoped S es t j h g
  return_scoped S es true t j h g = (exps_scoped S es t j h.0 g, h.1)

  bounds_scoped : (S : Setting) (from limit : Exp) (t j : ℕ) → BoundsArePlaced S from limit t j → Free (made_by from) → Free (made_by limit) → BoundsArePlaced (inside S captures level whole) from limit t j
  bounds_scoped S from limit t j h a b = (exp_scoped S from t j h.0 a, (h.1.0, (exp_scoped S limit t (j + made_by from) h.1.1.0 b, h.1.1.1)))

  mutual
    stat_scoped : (S : Setting) (s : Stat) (closing : Bool) (t j : ℕ) (named : List Named) (loops : Bool) → StatIsPlaced S s closing t j named loops → Free (made_by_stat s) → StatIsPlaced (inside S captures level whole) s closing t j named loops
    stat_scoped S (Local l names es) closing t j named loops h g = (exps_scoped S es t j h.0 g, h.1)
    stat_scoped S (CallStat l e) closing t j named loops h g = (h.0, (exp_scoped S e t j h.1.0 g, h.1.1))
    stat_scoped S (Do l block) closing t j named loops h g = block_scoped S block closing t j named loops h g
    stat_scoped S (While l e block) closing t j named loops h g = (exp_scoped S e t j h.0 (λ is. omega (arith, g is)), (h.1.0, block_scoped S block closing t (j + made_by e) named true h.1.1 (λ is. omega (arith, g is))))
    stat_scoped S (Repeat l block e) closing t j named loops h g = (open_scoped S block closing t j named true h.0 (λ is. omega (arith, g is)), (exp_scoped S e (levels_in block t) (j + made_in_block block) h.1.0 (λ is. omega (arith, g is)), h.1.1))
    stat_scoped S (If l arms) closing t j named loops h g = arms_scoped S arms closing t j named loops h g
    stat_scoped S (IfElse l arms block) closing t j named loops h g = (arms_scoped S arms closing t j named loops h.0 (λ is. omega (arith, g is)), block_scoped S block closing t (j + made_in_arms arms) named loops h.1 (λ is. omega (arith, g is)))
    stat_scoped S (LocalFunction l name body) closing t j named loops h g = (inner_scoped S j body h.0, (captures_scoped S (upvalues_of body) (t + 1) (λ is. absurd (omega (arith, g is))) h.1.0, h.1.1))
    stat_scoped S (Assign l targets es) closing t j named loops h g = assign_scoped S (assigned targets es) targets es t j h g
    stat_scoped S (NumFor l name from limit block) closing t j named loops h g = (
      bounds_scoped S from limit t j h.0 (λ is. omega (arith, g is)) (λ is. omega (arith, g is)),
      (h.1.0, (h.1.1.0, block_scoped (hiding S t) block closing (t + 4) (j + made_by from + made_by limit) named true h.1.1.1 (λ is. omega (arith, g is)))),
    )
    stat_scoped S (NumForStep l name from limit step block) closing t j named loops h g = (
      bounds_scoped S from limit t j h.0 (λ is. omega (arith, g is)) (λ is. omega (arith, g is)),
      (
        exp_scoped S step t (j + made_by from + made_by limit) h.1.0 (λ is. omega (arith, g is)),
        (h.1.1.0, (h.1.1.1.0, (h.1.1.1.1.0, block_scoped (hiding S t) block closing (t + 4) (j + made_by from + made_by limit + made_by step) named true h.1.1.1.1.1 (λ is. omega (arith, g is))))),
      ),
    )
    stat_scoped S (GenFor l names es block) closing t j named loops h g =
        (exps_scoped S es t j h.0 (λ is. omega (arith, g is)), (h.1.0, (h.1.1.0, (h.1.1.1.0, (h.1.1.1.1.0, (h.1.1.1.1.1.0, block_scoped S block true (t + 4 + length names) (j + made_in es) named true h.1.1.1.1.1.1 (λ is. omega (arith, g is))))))))
    stat_scoped S _ closing t j named loops h g = h

    arms_scoped : (S : Setting) (arms : Arms) (closing : Bool) (t j : ℕ) (named : List Named) (loops : Bool) → ArmsArePlaced S arms closing t j named loops → Free (made_in_arms arms) → ArmsArePlaced (inside S captures level whole) arms closing t j named loops
    arms_scoped S EndArms closing t j named loops h g = tt
    arms_scoped S (MoreArms e block arms) closing t j named loops h g =
        (exp_scoped S e t j h.0 (λ is. omega (arith, g is)), (h.1.0, (block_scoped S block closing t (j + made_by e) named loops h.1.1.0 (λ is. omega (arith, g is)), arms_scoped S arms closing t (j + made_by e + made_in_block block) named loops h.1.1.1 (λ is. omega (arith, g is)))))

    pub stats_scoped : (S : Setting) (ss : Stats) (falls closing : Bool) (t j : ℕ) (names named : List Named) (loops : Bool) → StatsArePlaced S ss falls closing t j names named loops → Free (made_in_stats ss) → StatsArePlaced (inside S captures level whole) ss falls closing t j names named loops
    stats_scoped S EndStats falls closing t j names named loops h g = tt
    stats_scoped S (MoreStats s ss) falls closing t j names named loops h g =
        (stat_scoped S s closing t j (names_ahead ss falls t (level_after s t) ++ (names ++ named)) loops h.0 (λ is. omega (arith, g is)), stats_scoped S ss falls (closing_after s closing) (level_after s t) (j + made_by_stat s) (names_passed s names) named loops h.1 (λ is. omega (arith, g is)))

    block_scoped : (S : Setting) (block : Block) (closing : Bool) (t j : ℕ) (named : List Named) (loops : Bool) → BlockIsPlaced S block closing t j named loops → Free (made_in_block block) → BlockIsPlaced (inside S captures level whole) block closing t j named loops
    block_scoped S (Falls ss tokens line) closing t j named loops h g = stats_scoped S ss true closing t j [] named loops h g
    block_scoped S (Returns ss es tokens line) closing t j named loops h g =
        (stats_scoped S ss false closing t j [] named loops h.0 (λ is. omega (arith, g is)), return_scoped S es (closings_after ss closing) (levels_after ss t) (j + made_in_stats ss) h.1 (λ is. omega (arith, g is)))

    open_scoped : (S : Setting) (block : Block) (closing : Bool) (t j : ℕ) (named : List Named) (loops : Bool) → OpenIsPlaced S block closing t j named loops → Free (made_in_block block) → OpenIsPlaced (inside S captures level whole) block closing t j named loops
    open_scoped S (Falls ss tokens line) closing t j named loops h g = stats_scoped S ss false closing t j [] named loops h g
    open_scoped S (Returns ss es tokens line) closing t j named loops h g =
        (stats_scoped S ss false closing t j [] named loops h.0 (λ is. omega (arith, g is)), return_scoped S es (closings_after ss closing) (levels_after ss t) (j + made_in_stats ss) h.1 (λ is. omega (arith, g is)))
