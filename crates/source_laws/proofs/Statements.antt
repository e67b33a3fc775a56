-- A statement is placed where its names are found, its constants and functions have their numbers, its registers are there and the limits are kept.
use Rattle.std.proofs.Common.{◌≡◌, ℕ, ◌+◌, ◌≤◌, Bool, true, false, List, [], ◌++◌, length, Option, Some, None, refl, subst, arith}
use Rattle.tree_core.specs.declared.name.Place.{Place}
use Rattle.tree_core.specs.declared.name.Place.TheVariants.{Local as LocalPlace}
use Rattle.tree_core.specs.Tree.{Block, Falls, Returns, Stats, EndStats, MoreStats, Stat, Empty, Local, LocalFunction, Assign, CallStat, Do, While, Repeat, If, IfElse, NumFor, NumForStep, GenFor, Label, Goto, Break, Arms, EndArms, MoreArms, Exp, Vararg, Var, Index, Call, Method, Exps, EndExps, MoreExps}
use Rattle.tree_terms.specs.Bodies.{upvalues_of}
use Rattle.code_core.specs.declared.proto.Const.TheVariants.{Str as StrConst}
use Rattle.code_of.specs.Expressions.{made_by, made_in, is_open}
use Rattle.code_of.specs.Levels.{made_by_stat, made_in_arms, made_in_stats, made_in_block, closing_after, closings_after}
use Rattle.tree_terms.specs.Levels.{level_after, levels_after, levels_in}
use Rattle.scope_core.specs.Held.{held_behind, held_stat}
use Rattle.scope_core.specs.Rules.{tokens_of}
use Rattle.code_of.specs.Operands.{assigned, second_assigned}
use Rattle.code_of.specs.Coded.{Coded}
use Rattle.code_of.specs.Stores.{stores_field}
use Rattle.code_of.specs.Targets.{single_store}
use Rattle.code_of.proofs.Operands.{assigned_is, second_is}
use Rattle.code_of.specs.Rooms.{room_of_last}
use Rattle.tree_terms.specs.Labels.{Named, names_ahead, names_passed}
use Rattle.stat_laws.specs.Scoped.{MayAssign, IsNear, TargetsArePlaced, KeptIsPlaced, StoreIsPlaced, AssignIsPlaced, ListIsPlaced, LastIsPlaced, ReturnIsPlaced, StatIsPlaced, ArmsArePlaced, StatsArePlaced, BlockIsPlaced, OpenIsPlaced, TwoIsPlaced}
use Rattle.scope_laws.specs.Keeping.{BlockKeeps, StatsKeep, StatKeeps, ArmsKeep}
use Rattle.scope_laws.specs.Finding.{PlaceIsThere, ExpsFind, BlockFinds, StatsFind, StatFinds, ArmsFind}
use Rattle.code_bounds.specs.Constants.{BlockHas, all_constants}
use Rattle.code_bounds.specs.Functions.{ExpsMake, StatMakes, ArmsMake, StatsMake, BlockMakes}
use Rattle.code_bounds.specs.Registers.{TargetsHaveRoom, KeptHasRoom, StoreHasRoom, AssignHasRoom, StatHasRoom, ArmsHaveRoom, StatsHaveRoom, BlockHasRoom, TwoHasRoom}
use Rattle.code_bounds.proofs.Widths.{list_width, targets_width}
use Rattle.tree_terms.specs.Weight.{weight_of_exps, weight_of_stat, weight_of_arms, weight_of_stats, weight_of_block}
use Rattle.tree_terms.specs.Asked.{ExpsMeet, StatMeets, ArmsMeet, StatsMeet}
use Rattle.code_bounds.proofs.Counts.{arguments_weigh}
use Rattle.code_bounds.proofs.ShortStatements.{block_short}
use Rattle.grammar_laws.specs.Formed.{IsCall, AreTargets, BlockIsFormed, all_formed}
use Rattle.grammar_laws.specs.Counted.{BlockIsCounted, all_counted}
use Rattle.source_laws.proofs.Around.{Around, constants_of, functions_of, stack_of, counting, iterating}
use Rattle.source_laws.proofs.Expressions.{constant_found, inner_placed, captures_placed, exp_placed, exps_placed}
use Rattle.source_laws.proofs.Fields.{light}

call_open : (e : Exp) → IsCall e → is_open e ≡ true
call_open (Call line f es) o = refl
call_open (Method line object name es) o = refl
call_open (Vararg line) o = refl
call_open _ o = absurd o

module _ (x : Around) where
  -- a block of 16000 tokens has fewer than 2 ^ 17 instructions
  near : (block : Block) (closing : Bool) (outer t j : ℕ) → BlockIsCounted block → tokens_of block ≤ 16000 → IsNear (constants_of x) block closing outer t j
  near block closing outer t j c few = λ back.
      let short = block_short (constants_of x) back block closing outer t j in
      let weighs = light block c in
      omega (arith, short, weighs, few)

  -- what is assigned

  place_may : (p : Place) (t : ℕ) → PlaceIsThere x.hidden t x.ups p → MayAssign x.setting.hidden p
  place_may (LocalPlace n) t f = x.sees n f.1
  place_may _ t f = tt

  targets_placed :
      (es : Exps) (r t j : ℕ) → AreTargets es → ExpsFind es x.hidden t x.ups → ExpsMeet (all_constants (constants_of x)) es → ExpsMake x.source (functions_of x) es j
      → TargetsHaveRoom (constants_of x) (stack_of x) es r → j + made_in es ≤ x.most → weight_of_exps es ≤ x.heavy → TargetsArePlaced x.setting es r t j
  targets_placed EndExps r t j o f h m s b w = tt
  targets_placed (MoreExps (Var line name) es) r t j o f h m s b w = (
    place_may name.place t f.0,
    (
      exp_placed x (Var line name) t j f.0 h.0 m.0 (omega (arith, b)) (omega (arith, w)),
      (s.0, targets_placed es (r + 2) t (j + made_by (Var line name)) o.1 f.1 h.1 m.1 s.1 (omega (arith, b)) (omega (arith, w))),
    ),
  )
  targets_placed (MoreExps (Index line object key) es) r t j o f h m s b w = (
    tt,
    (
      exp_placed x (Index line object key) t j f.0 h.0 m.0 (omega (arith, b)) (omega (arith, w)),
      (s.0, targets_placed es (r + 2) t (j + made_by (Index line object key)) o.1 f.1 h.1 m.1 s.1 (omega (arith, b)) (omega (arith, w))),
    ),
  )
  targets_placed (MoreExps _ es) r t j o f h m s b w = absurd o.0

  -- what is returned

  list_placed :
      (es : Exps) (t j : ℕ) → t + held_behind 0 es ≤ 250 → ExpsFind es x.hidden t x.ups → ExpsMeet (all_constants (constants_of x)) es → ExpsMake x.source (functions_of x) es j
      → t + room_of_last (constants_of x) es ≤ stack_of x → j + made_in es ≤ x.most → weight_of_exps es ≤ x.heavy → ListIsPlaced x.setting es t j
  list_placed es t j g f h m s b w = (exps_placed x es t j f h m b w, (s, list_width es t g))

  last_placed :
      (es : Exps) (t j : ℕ) → t + held_behind 0 es ≤ 250 → ExpsFind es x.hidden t x.ups → ExpsMeet (all_constants (constants_of x)) es → ExpsMake x.source (functions_of x) es j
      → t + room_of_last (constants_of x) es ≤ stack_of x → j + made_in es ≤ x.most → weight_of_exps es ≤ x.heavy → LastIsPlaced x.setting es t j
  last_placed (MoreExps (Call line called es) EndExps) t j g f h m s b w =
      let arguments = arguments_weigh es in (
        exp_placed x called t j f.0.0 h.0.0 m.0.0 (omega (arith, b)) (omega (arith, w)),
        (exps_placed x es t (j + made_by called) f.0.1 h.0.1 m.0.1 (omega (arith, b)) (omega (arith, w, arguments)), (omega (arith, s), omega (arith, s))),
      )
  last_placed (MoreExps (Method line object name es) EndExps) t j g f h m s b w =
      let arguments = arguments_weigh es in (
        exp_placed x object t j f.0.0 h.0.0 m.0.0 (omega (arith, b)) (omega (arith, w)),
        (
          constant_found x (StrConst name.text) h.0.1.0,
          (
            exps_placed x es t (j + made_by object) f.0.1 h.0.1.1 m.0.1 (omega (arith, b)) (omega (arith, w, arguments)),
            (omega (arith, s), (omega (arith, s), omega (arith, s))),
          ),
        ),
      )
  last_placed es t j g f h m s b w = list_placed es t j g f h m s b w

  pub return_placed :
      (es : Exps) (closing : Bool) (t j : ℕ) → t + held_behind 0 es ≤ 250 → ExpsFind es x.hidden t x.ups → ExpsMeet (all_constants (constants_of x)) es → ExpsMake x.source (functions_of x) es j
      → t + room_of_last (constants_of x) es ≤ stack_of x → j + made_in es ≤ x.most → weight_of_exps es ≤ x.heavy → ReturnIsPlaced x.setting es closing t j
  return_placed es false t j g f h m s b w = last_placed es t j g f h m s b w
  return_placed es true t j g f h m s b w = list_placed es t j g f h m s b w

mutual
  stat_placed :
      (x : Around) (s : Stat) (closing : Bool) (t j : ℕ) (named : List Named) (loops : Bool) → StatKeeps s x.vararg t named loops → t + held_stat s ≤ 250
      → StatFinds s x.hidden t x.ups → StatMeets (all_constants (constants_of x)) s → StatMakes x.source (functions_of x) s j → StatHasRoom (constants_of x) (stack_of x) s t
      → StatMeets all_formed s → StatMeets all_counted s → j + made_by_stat s ≤ x.most → weight_of_stat s ≤ x.heavy → StatIsPlaced x.setting s closing t j named loops
  stat_placed x (Empty line) closing t j named loops k g f h m s o c b w = tt
  stat_placed x (Local line names es) closing t j named loops k g f h m s o c b w =
      let declared = k.1 in
      (exps_placed x es t j f h m b (omega (arith, w)), (s.0, (s.1, omega (arith, declared))))
  stat_placed x (LocalFunction line name body) closing t j named loops k g f h m s o c b w =
      (inner_placed x body j m b, (captures_placed x (upvalues_of body) (t + 1) f.1, omega (arith, s)))
  stat_placed x (Assign line targets es) closing t j named loops k g f h m s o c b w = by (assigned targets es) refl s
    where
      by : (local : Option ℕ) → assigned targets es ≡ local → AssignHasRoom (constants_of x) (stack_of x) local targets es t → AssignIsPlaced x.setting local targets es t j
      by None is s = by_two (second_assigned targets es) refl s
        where
          by_two : (local : Option ℕ) → second_assigned targets es ≡ local → TwoHasRoom (constants_of x) (stack_of x) local targets es t → TwoIsPlaced x.setting local targets es t j
          by_two None is s = by_field (stores_field targets es) s
            where
              by_field : (field : Bool) → StoreHasRoom (constants_of x) (stack_of x) field targets es t → StoreIsPlaced x.setting field targets es t j
              by_field true s = (
                exps_placed x targets t j f.0 h.0 m.0 (omega (arith, b)) (omega (arith, w)),
                (exps_placed x es t (j + made_in targets) f.1 h.1 m.1 (omega (arith, b)) (omega (arith, w)), s),
              )
              by_field false s = by_kept (single_store (constants_of x) targets es) s
                where
                  by_kept : (store : Option Coded) → KeptHasRoom (constants_of x) (stack_of x) store targets es t → KeptIsPlaced x.setting store targets es t j
                  by_kept None s = (
                    targets_placed x targets t t j o.0 f.0 h.0 m.0 s.0 (omega (arith, b)) (omega (arith, w)),
                    (exps_placed x es t (j + made_in targets) f.1 h.1 m.1 (omega (arith, b)) (omega (arith, w)), (s.1.0, (s.1.1, targets_width line targets es t g))),
                  )
                  by_kept (Some i) s = (exps_placed x targets t j f.0 h.0 m.0 (omega (arith, b)) (omega (arith, w)), exps_placed x es t (j + made_in targets) f.1 h.1 m.1 (omega (arith, b)) (omega (arith, w)))
          by_two (Some r) is s =
              let form = second_is targets es r is in
              let both = subst (λ z. ExpsFind z x.hidden t x.ups) form.targets_are f.0 in
              let found = subst (λ p. PlaceIsThere x.hidden t x.ups p) form.place both.1.0 in (
                targets_placed x targets t t j o.0 f.0 h.0 m.0 s.0 (omega (arith, b)) (omega (arith, w)),
                (found.0, (x.sees r found.1, (exps_placed x es t (j + made_in targets) f.1 h.1 m.1 (omega (arith, b)) (omega (arith, w)), s.1))),
              )
      by (Some r) is s =
          let form = assigned_is targets es r is in
          let target = subst (λ z. ExpsFind z x.hidden t x.ups) form.target f.0 in
          let found = subst (λ p. PlaceIsThere x.hidden t x.ups p) form.place target.0 in
          (found.0, (x.sees r found.1, (exps_placed x es t (j + made_in targets) f.1 h.1 m.1 (omega (arith, b)) (omega (arith, w)), s)))
  stat_placed x (CallStat line e) closing t j named loops k g f h m s o c b w = (call_open e o.0, (exp_placed x e t j f h m b w, s))
  stat_placed x (Do line block) closing t j named loops k g f h m s o c b w = block_placed x block closing t j named loops k f h m s o c b (omega (arith, w))
  stat_placed x (While line e block) closing t j named loops k g f h m s o c b w = (
    exp_placed x e t j f.0 h.0 m.0 (omega (arith, b)) (omega (arith, w)),
    (s.0, block_placed x block closing t (j + made_by e) named true k.1 f.1 h.1 m.1 s.1 o.1 c.1 (omega (arith, b)) (omega (arith, w))),
  )
  stat_placed x (Repeat line block e) closing t j named loops k g f h m s o c b w = (
    open_placed x block closing t j named true k.0 f.0 h.0 m.0 s.0 o.0 c.0 (omega (arith, b)) (omega (arith, w)),
    (exp_placed x e (levels_in block t) (j + made_in_block block) f.1 h.1 m.1 (omega (arith, b)) (omega (arith, w)), s.1),
  )
  stat_placed x (If line arms) closing t j named loops k g f h m s o c b w = arms_placed x arms closing t j named loops k f h m s o c b (omega (arith, w))
  stat_placed x (IfElse line arms block) closing t j named loops k g f h m s o c b w = (
    arms_placed x arms closing t j named loops k.0 f.0 h.0 m.0 s.0 o.0 c.0 (omega (arith, b)) (omega (arith, w)),
    block_placed x block closing t (j + made_in_arms arms) named loops k.1 f.1 h.1 m.1 s.1 o.1 c.1 (omega (arith, b)) (omega (arith, w)),
  )
  stat_placed x (NumFor line name from limit block) closing t j named loops k g f h m s o c b w =
      let inner = j + made_by from + made_by limit in (
        (
          exp_placed x from t j f.0 h.0 m.0 (omega (arith, b)) (omega (arith, w)),
          (s.0, (exp_placed x limit t (j + made_by from) f.1.0 h.1.0 m.1.0 (omega (arith, b)) (omega (arith, w)), s.1.0)),
        ),
        (
          s.1.1.0,
          (
            near x block closing (t + 3) (t + 4) inner c.1.1 k.1.1.1.0,
            block_placed (counting x t) block closing (t + 4) inner named true k.1.1.1.1 f.1.1 h.1.1 m.1.1 s.1.1.1 o.1.1 c.1.1 (omega (arith, b)) (omega (arith, w)),
          ),
        ),
      )
  stat_placed x (NumForStep line name from limit step block) closing t j named loops k g f h m s o c b w =
      let inner = j + made_by from + made_by limit + made_by step in (
        (
          exp_placed x from t j f.0 h.0 m.0 (omega (arith, b)) (omega (arith, w)),
          (s.0, (exp_placed x limit t (j + made_by from) f.1.0 h.1.0 m.1.0 (omega (arith, b)) (omega (arith, w)), s.1.0)),
        ),
        (
          exp_placed x step t (j + made_by from + made_by limit) f.1.1.0 h.1.1.0 m.1.1.0 (omega (arith, b)) (omega (arith, w)),
          (
            s.1.1.0,
            (
              s.1.1.1.0,
              (
                near x block closing (t + 3) (t + 4) inner c.1.1.1 k.1.1.1.1.0,
                block_placed (counting x t) block closing (t + 4) inner named true k.1.1.1.1.1 f.1.1.1 h.1.1.1 m.1.1.1 s.1.1.1.1 o.1.1.1 c.1.1.1 (omega (arith, b)) (omega (arith, w)),
              ),
            ),
          ),
        ),
      )
  stat_placed x (GenFor line names es block) closing t j named loops k g f h m s o c b w =
      let declared = k.1.0 in
      let inner = j + made_in es in (
        exps_placed x es t j f.0 h.0 m.0 (omega (arith, b)) (omega (arith, w)),
        (
          s.0,
          (
            s.1.1.0,
            (
              o.0,
              (
                omega (arith, declared),
                (
                  near x block true (t + 4) (t + 4 + length names) inner c.1 k.1.1.0,
                  block_placed (iterating x t) block true (t + 4 + length names) inner named true k.1.1.1 f.1 h.1 m.1 s.1.1.1 o.1.1 c.1 (omega (arith, b)) (omega (arith, w)),
                ),
              ),
            ),
          ),
        ),
      )
  stat_placed x (Label line name) closing t j named loops k g f h m s o c b w = tt
  stat_placed x (Goto line name) closing t j named loops k g f h m s o c b w = k
  stat_placed x (Break line) closing t j named loops k g f h m s o c b w = k

  arms_placed :
      (x : Around) (arms : Arms) (closing : Bool) (t j : ℕ) (named : List Named) (loops : Bool) → ArmsKeep arms x.vararg t named loops
      → ArmsFind arms x.hidden t x.ups → ArmsMeet (all_constants (constants_of x)) arms → ArmsMake x.source (functions_of x) arms j → ArmsHaveRoom (constants_of x) (stack_of x) arms t
      → ArmsMeet all_formed arms → ArmsMeet all_counted arms → j + made_in_arms arms ≤ x.most → weight_of_arms arms ≤ x.heavy → ArmsArePlaced x.setting arms closing t j named loops
  arms_placed x EndArms closing t j named loops k f h m s o c b w = tt
  arms_placed x (MoreArms e block arms) closing t j named loops k f h m s o c b w = (
    exp_placed x e t j f.0 h.0 m.0 (omega (arith, b)) (omega (arith, w)),
    (
      s.0,
      (
        block_placed x block closing t (j + made_by e) named loops k.1.0 f.1.0 h.1.0 m.1.0 s.1.0 o.1.0 c.1.0 (omega (arith, b)) (omega (arith, w)),
        arms_placed x arms closing t (j + made_by e + made_in_block block) named loops k.1.1 f.1.1 h.1.1 m.1.1 s.1.1 o.1.1 c.1.1 (omega (arith, b)) (omega (arith, w)),
      ),
    ),
  )

  pub stats_placed :
      (x : Around) (ss : Stats) (falls closing : Bool) (t j : ℕ) (names named : List Named) (loops : Bool) → StatsKeep ss falls x.vararg t names named loops
      → StatsFind ss x.hidden t x.ups → StatsMeet (all_constants (constants_of x)) ss → StatsMake x.source (functions_of x) ss j → StatsHaveRoom (constants_of x) (stack_of x) ss t
      → StatsMeet all_formed ss → StatsMeet all_counted ss → j + made_in_stats ss ≤ x.most → weight_of_stats ss ≤ x.heavy → StatsArePlaced x.setting ss falls closing t j names named loops
  stats_placed x EndStats falls closing t j names named loops k f h m s o c b w = tt
  stats_placed x (MoreStats stat ss) falls closing t j names named loops k f h m s o c b w = (
    stat_placed x stat closing t j (names_ahead ss falls t (level_after stat t) ++ (names ++ named)) loops k.1.0 k.0 f.0 h.0 m.0 s.1.0 o.0 c.0 (omega (arith, b)) (omega (arith, w)),
    stats_placed x ss falls (closing_after stat closing) (level_after stat t) (j + made_by_stat stat) (names_passed stat names) named loops k.1.1 f.1 h.1 m.1 s.1.1 o.1 c.1 (omega (arith, b)) (omega (arith, w)),
  )

  block_placed :
      (x : Around) (block : Block) (closing : Bool) (t j : ℕ) (named : List Named) (loops : Bool) → BlockKeeps block true x.vararg t named loops
      → BlockFinds block x.hidden t x.ups → BlockHas (constants_of x) block → BlockMakes x.source (functions_of x) block j → BlockHasRoom (constants_of x) (stack_of x) block t
      → BlockIsFormed block → BlockIsCounted block → j + made_in_block block ≤ x.most → weight_of_block block ≤ x.heavy → BlockIsPlaced x.setting block closing t j named loops
  block_placed x (Falls ss tokens line) closing t j named loops k f h m s o c b w = stats_placed x ss true closing t j [] named loops k f h m s o c.1 b w
  block_placed x (Returns ss es tokens line) closing t j named loops k f h m s o c b w = (
    stats_placed x ss false closing t j [] named loops k.0 f.0 h.0 m.0 s.0 o.0 c.1.0 (omega (arith, b)) (omega (arith, w)),
    return_placed x es (closings_after ss closing) (levels_after ss t) (j + made_in_stats ss) k.1.0 f.1 h.1 m.1 s.1 (omega (arith, b)) (omega (arith, w)),
  )

  -- the block of a `repeat`
  open_placed :
      (x : Around) (block : Block) (closing : Bool) (t j : ℕ) (named : List Named) (loops : Bool) → BlockKeeps block false x.vararg t named loops
      → BlockFinds block x.hidden t x.ups → BlockHas (constants_of x) block → BlockMakes x.source (functions_of x) block j → BlockHasRoom (constants_of x) (stack_of x) block t
      → BlockIsFormed block → BlockIsCounted block → j + made_in_block block ≤ x.most → weight_of_block block ≤ x.heavy → OpenIsPlaced x.setting block closing t j named loops
  open_placed x (Falls ss tokens line) closing t j named loops k f h m s o c b w = stats_placed x ss false closing t j [] named loops k f h m s o c.1 b w
  open_placed x (Returns ss es tokens line) closing t j named loops k f h m s o c b w = (
    stats_placed x ss false closing t j [] named loops k.0 f.0 h.0 m.0 s.0 o.0 c.1.0 (omega (arith, b)) (omega (arith, w)),
    return_placed x es (closings_after ss closing) (levels_after ss t) (j + made_in_stats ss) k.1.0 f.1 h.1 m.1 s.1 (omega (arith, b)) (omega (arith, w)),
  )
