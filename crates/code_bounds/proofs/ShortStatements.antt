-- The code of statements and of blocks is short.
use Rattle.std.proofs.Common.{ℕ, zero, suc, ◌+◌, ◌*◌, ◌≤◌, Bool, true, false, ◌||◌, cond, List, [], ◌∷◌, ◌++◌, length, Option, Some, None, arith, length-append}
use Rattle.tree_core.specs.declared.name.Declared.{Declared}
use Rattle.tree_core.specs.declared.name.Place.{Place}
use Rattle.tree_core.specs.declared.name.Place.TheVariants.{Unset, Upvalue, GlobalIn, GlobalOf, Local as LocalPlace}
use Rattle.tree_core.specs.Tree.{Block, Falls, Returns, Stats, EndStats, MoreStats, Stat, Empty, Local, LocalFunction, Assign, CallStat, Do, While, Repeat, If, IfElse, NumFor, NumForStep, GenFor, Label, Goto, Break, Arms, EndArms, MoreArms, Exp, Var, Index, Call, Method, Exps, EndExps, MoreExps}
use Rattle.tree_activation.specs.Statements.{is_closed}
use Rattle.code_core.specs.declared.opcode.Opcode.TheVariants.{Tbc, TailCall, Return}
use Rattle.code_core.specs.declared.proto.Const.{Const}
use Rattle.code_core.specs.declared.proto.Const.TheVariants.{Str as StrConst}
use Rattle.code_of.specs.declared.leaving.Leaving.{Leaving}
use Rattle.code_of.specs.Coded.{with_abc, leaving_by, Coded}
use Rattle.code_of.specs.Operands.{local_of, lone_local, seat, unless, assigned, second_assigned}
use Rattle.code_of.specs.Stores.{field_key, object_of, stores_field, is_quiet, key_code}
use Rattle.code_of.proofs.Stores.{fields_store_short}
use Rattle.code_of.specs.StoredValues.{stored_value}
use Rattle.code_of.specs.Targets.{waiting_key, text_key, single_store}
use Rattle.code_of.proofs.Targets.{key_code_short}
use Rattle.code_of.specs.Constants.{loads}
use Rattle.code_of.proofs.Operands.{unless_short}
use Rattle.code_of.specs.Operators.{self_code}
use Rattle.code_of.specs.Expressions.{made_by, made_in, count, list_field, exp_code, exps_code}
use Rattle.code_of.specs.Levels.{made_by_stat, made_in_arms, made_in_stats, made_in_block, closing_after, closings_after, closed_below, closed_until}
use Rattle.tree_terms.specs.Levels.{level_after, levels_after, levels_in}
use Rattle.code_of.specs.Parts.{marks_code, past_size, default_step, name_target, target_code, targets_code, name_store, store_code, stores_code, stored_code, first_direct, field_code, first_field, kept_code, store_by, assign_by, assign_code, call_last, method_last, returned_by, values_last, return_code, pair_code, bounds_code, steps_code, direct_code, first_two, two_by}
use Rattle.code_of.specs.Sizes.{stat_size, arms_size, stats_size, block_size, open_size}
use Rattle.tree_terms.specs.Weight.{weight, weight_of_arguments, weight_of_exps, weight_of_stat, weight_of_arms, weight_of_stats, weight_of_block}
use Rattle.code_bounds.proofs.Conditions.{test_short}
use Rattle.code_bounds.proofs.ShortExpressions.{loads_short, self_short, exp_short, direct_short, arguments_short, exps_short}
use Rattle.code_of.proofs.Sizes.{close_short, jump_short, function_short}

marks_short : (names : List Declared) (t : ℕ) → length (marks_code names t) ≤ length names
marks_short [] t = omega arith
marks_short (d ∷ names) t = by (marks_short names (t + 1)) (is_closed d.attrib)
  where
    by : length (marks_code names (t + 1)) ≤ length names → (b : Bool) → length (cond b (with_abc Tbc t 0 0 d.name.line ∷ marks_code names (t + 1)) (marks_code names (t + 1))) ≤ length (d ∷ names)
    by rest true = omega (arith, rest)
    by rest false = omega (arith, rest)

past_short : (rest : ℕ) → past_size rest ≤ 1
past_short zero = omega arith
past_short (suc n) = omega arith

module _ (cs : List Const) where
  -- a target's two registers and its store together

  name_target_short : (place : Place) (text : List ℕ) (r line : ℕ) → length (name_target cs place text r line) ≤ 3
  name_target_short Unset text r line = omega arith
  name_target_short (LocalPlace n) text r line = omega arith
  name_target_short (Upvalue u) text r line = omega arith
  name_target_short (GlobalIn n) text r line = omega (arith, loads_short cs (StrConst text) (r + 1) line, key_code_short (text_key cs text) (loads cs (StrConst text) (r + 1) line))
  name_target_short (GlobalOf u) text r line = omega (arith, loads_short cs (StrConst text) (r + 1) line, key_code_short (text_key cs text) (loads cs (StrConst text) (r + 1) line))

  name_store_short : (place : Place) (text : List ℕ) (r v line : ℕ) → length (name_store cs place text r v line) ≤ 1
  name_store_short Unset text r v line = omega arith
  name_store_short _ text r v line = omega arith

  target_short : (e : Exp) (r j s v : ℕ) → length (target_code cs e r j) + length (store_code cs e s v) ≤ 6 * weight e
  target_short (Var line name) r j s v = omega (arith, name_target_short name.place name.text r line, name_store_short name.place name.text s v line)
  target_short (Index line object key) r j s v =
      let second = exp_code cs key (r + 1) (j + made_by object) 2 in
      let s = waiting_key cs key in
      omega (arith, exp_short cs object r j 2, exp_short cs key (r + 1) (j + made_by object) 2, key_code_short s second, length-append (exp_code cs object r j 2) (key_code s second))
  target_short _ r j s v = omega arith

  targets_short : (es : Exps) (r j s v : ℕ) → length (targets_code cs es r j) + length (stores_code cs es s v) ≤ 6 * weight_of_exps es
  targets_short EndExps r j s v = omega arith
  targets_short (MoreExps e es) r j s v =
      omega (
        arith,
        target_short e r j s v,
        targets_short es (r + 2) (j + made_by e) (s + 2) (v + 1),
        length-append (target_code cs e r j) (targets_code cs es (r + 2) (j + made_by e)),
        length-append (stores_code cs es (s + 2) (v + 1)) (store_code cs e s v),
      )

  stored_short : (targets es : Exps) (t j line : ℕ) → length (stored_code cs targets es t j line) ≤ 6 * weight_of_exps targets + 6 * weight_of_exps es + 1
  stored_short targets es t j line =
      let v = t + 2 * count targets in
      let values = exps_code cs es (Some (count targets)) v (j + made_in targets) line in
      let stores = stores_code cs targets t v in
      omega (
        arith,
        targets_short targets t j t v,
        exps_short cs es (Some (count targets)) v (j + made_in targets) line,
        length-append (targets_code cs targets t j) (values ++ stores),
        length-append values stores,
      )

  first_short : (es : Exps) (r t j : ℕ) → length (first_direct cs es r t j) ≤ 6 * weight_of_exps es
  first_short EndExps r t j = omega arith
  first_short (MoreExps e es) r t j = let h = direct_short cs e r t j in omega (arith, h)

  first_two_short : (targets es : Exps) (r t j : ℕ) → length (first_two cs targets es r t j) ≤ 6 * weight_of_exps targets + 6 * weight_of_exps es + 1
  first_two_short EndExps es r t j = omega arith
  first_two_short (MoreExps x targets) EndExps r t j = omega arith
  first_two_short (MoreExps x targets) (MoreExps e EndExps) r t j = omega arith
  first_two_short (MoreExps x targets) (MoreExps e (MoreExps d es)) r t j =
      let aims = target_code cs x t j in
      let first = exp_code cs e (t + 2) (j + made_by x) 2 in
      let second = direct_code cs d r (t + 3) (j + made_by x + made_by e) in
      let last = store_code cs x t (t + 2) in
      omega (
        arith,
        target_short x t j t (t + 2),
        exp_short cs e (t + 2) (j + made_by x) 2,
        direct_short cs d r (t + 3) (j + made_by x + made_by e),
        length-append aims (first ++ (second ++ last)),
        length-append first (second ++ last),
        length-append second last,
      )

  field_short : (x e : Exp) (t j after : ℕ) → length (field_code cs x e t j after) ≤ 6 * weight x + 6 * weight e
  field_short (Index line object key) e t j after =
      let s = field_key cs (is_quiet e) key in
      let first_code = exp_code cs object t j 2 in
      let second = exp_code cs key (t + 1) (j + made_by object) 2 in
      let third = exp_code cs e (t + 2) after 2 in
      omega (
        arith,
        fields_store_short s (object_of s (is_quiet e) object) (stored_value cs e) first_code second third t line,
        exp_short cs object t j 2,
        exp_short cs key (t + 1) (j + made_by object) 2,
        exp_short cs e (t + 2) after 2,
      )
  field_short _ e t j after = omega arith

  first_field_short : (targets es : Exps) (t j after : ℕ) → length (first_field cs targets es t j after) ≤ 6 * weight_of_exps targets + 6 * weight_of_exps es + 1
  first_field_short EndExps es t j after = omega arith
  first_field_short (MoreExps x targets) EndExps t j after = omega arith
  first_field_short (MoreExps x targets) (MoreExps e es) t j after = let h = field_short x e t j after in omega (arith, h)

  assign_short : (targets es : Exps) (t j line : ℕ) → length (assign_code cs targets es t j line) ≤ 6 * weight_of_exps targets + 6 * weight_of_exps es + 1
  assign_short targets es t j line = by (assigned targets es)
    where
      by : (o : Option ℕ) → length (assign_by cs o targets es t j line) ≤ 6 * weight_of_exps targets + 6 * weight_of_exps es + 1
      by None = by_two (second_assigned targets es)
        where
          by_two : (o : Option ℕ) → length (two_by cs o targets es t j line) ≤ 6 * weight_of_exps targets + 6 * weight_of_exps es + 1
          by_two (Some r) = first_two_short targets es r t j
          by_two None = by_field (stores_field targets es)
            where
              by_field : (b : Bool) → length (store_by cs b targets es t j line) ≤ 6 * weight_of_exps targets + 6 * weight_of_exps es + 1
              by_field true = first_field_short targets es t j (j + made_in targets)
              by_field false = by_store (single_store cs targets es)
                where
                  by_store : (o : Option Coded) → length (kept_code cs o targets es t j line) ≤ 6 * weight_of_exps targets + 6 * weight_of_exps es + 1
                  by_store None = stored_short targets es t j line
                  by_store (Some x) = omega arith
      by (Some r) = let h = first_short es r t (j + made_in targets) in omega (arith, h)

  -- returns, where a call in its caller's place has one instruction more

  values_short : (es : Exps) (t j line back : ℕ) → length (values_last cs es t j line back) ≤ 6 * weight_of_exps es + 6
  values_short es t j line back = by (lone_local es)
    where
      by : (o : Option ℕ) → length (returned_by cs o es t j line back) ≤ 6 * weight_of_exps es + 6
      by None = omega (arith, exps_short cs es None t j line, length-append (exps_code cs es None t j line) (leaving_by Return t (list_field 0 es) back line ∷ []))
      by (Some r) = omega arith

  call_last_short : (f : Exp) (es : Exps) (t j line back : ℕ) → length (call_last cs f es t j line back) ≤ 6 * weight f + 6 * weight_of_arguments es + 6
  call_last_short f es t j line back =
      let arguments = exps_code cs es None (t + 1) (j + made_by f) line in
      let last = leaving_by TailCall t (list_field 0 es) back line ∷ leaving_by Return t 0 back line ∷ [] in
      omega (arith, exp_short cs f t j 2, arguments_short cs es (t + 1) (j + made_by f) line, length-append (exp_code cs f t j 2) (arguments ++ last), length-append arguments last)

  method_last_short : (object : Exp) (name : List ℕ) (es : Exps) (t j line back : ℕ) → length (method_last cs object name es t j line back) ≤ 6 * weight object + 6 * weight_of_arguments es + 6
  method_last_short object name es t j line back =
      let x = seat (local_of object) t in
      let first = unless (local_of object) (exp_code cs object t j 2) in
      let key = self_code cs name x t line in
      let arguments = exps_code cs es None (t + 2) (j + made_by object) line in
      let last = leaving_by TailCall t (list_field 1 es) back line ∷ leaving_by Return t 0 back line ∷ [] in
      let after = arguments ++ last in
      omega (
        arith,
        exp_short cs object t j 2,
        unless_short (local_of object) (exp_code cs object t j 2),
        self_short cs name x t line,
        arguments_short cs es (t + 2) (j + made_by object) line,
        length-append first (key ++ after),
        length-append key after,
        length-append arguments last,
      )

  return_short : (closing : Bool) (es : Exps) (t j line back : ℕ) → length (return_code cs closing es t j line back) ≤ 6 * weight_of_exps es + 6
  return_short false (MoreExps (Call own f es) EndExps) t j line back = omega (arith, call_last_short f es t j own back)
  return_short false (MoreExps (Method own object name es) EndExps) t j line back = omega (arith, method_last_short object name.text es t j own back)
  return_short closing es t j line back = values_short es t j line back

  -- the start of a numeric `for`

  pair_short : (from limit : Exp) (t j : ℕ) → length (pair_code cs from limit t j) + 4 ≤ 6 * weight from + 6 * weight limit
  pair_short from limit t j =
      let second = exp_code cs limit (t + 1) (j + made_by from) 2 in
      omega (arith, exp_short cs from t j 2, exp_short cs limit (t + 1) (j + made_by from) 2, length-append (exp_code cs from t j 2) second)

  bounds_short : (from limit : Exp) (t j line : ℕ) → length (bounds_code cs from limit t j line) + 3 ≤ 6 * weight from + 6 * weight limit
  bounds_short from limit t j line = omega (arith, pair_short from limit t j, length-append (pair_code cs from limit t j) (default_step (t + 2) line))

  steps_short : (from limit step : Exp) (t j : ℕ) → length (steps_code cs from limit step t j) + 6 ≤ 6 * weight from + 6 * weight limit + 6 * weight step
  steps_short from limit step t j =
      let third = exp_code cs step (t + 2) (j + made_by from + made_by limit) 2 in
      omega (arith, pair_short from limit t j, exp_short cs step (t + 2) (j + made_by from + made_by limit) 2, length-append (pair_code cs from limit t j) third)

module _ (cs : List Const) (back : Leaving) where
  mutual
    pub stat_short : (s : Stat) (closing : Bool) (t j : ℕ) → stat_size cs back s closing t j ≤ 6 * weight_of_stat s
    stat_short (Empty line) closing t j = omega arith
    stat_short (Local line names es) closing t j = omega (arith, exps_short cs es (Some (length names)) t j line, marks_short names t)
    stat_short (LocalFunction line name body) closing t j = omega (arith, function_short body t j)
    stat_short (Assign line targets es) closing t j = omega (arith, assign_short cs targets es t j line)
    stat_short (CallStat line e) closing t j = omega (arith, exp_short cs e t j 1)
    stat_short (Do line block) closing t j = omega (arith, block_short block closing t t j)
    stat_short (While line e block) closing t j = omega (arith, test_short cs e true 0 t j, block_short block closing t t (j + made_by e))
    stat_short (Repeat line block e) closing t j =
        let inner = levels_in block t in
        omega (arith, open_short block closing t j, test_short cs e false 0 inner (j + made_in_block block), close_short t (closed_until block e t) line)
    stat_short (If line arms) closing t j = omega (arith, arms_short arms 0 closing t j)
    stat_short (IfElse line arms block) closing t j =
        let otherwise = block_size cs back block closing t t (j + made_in_arms arms) in
        omega (arith, arms_short arms otherwise closing t j, block_short block closing t t (j + made_in_arms arms))
    stat_short (NumFor line name from limit block) closing t j =
        omega (arith, bounds_short cs from limit t j line, block_short block closing (t + 3) (t + 4) (j + made_by from + made_by limit))
    stat_short (NumForStep line name from limit step block) closing t j =
        omega (arith, steps_short cs from limit step t j, block_short block closing (t + 3) (t + 4) (j + made_by from + made_by limit + made_by step))
    stat_short (GenFor line names es block) closing t j =
        omega (arith, exps_short cs es (Some 4) t j line, block_short block true (t + 4) (t + 4 + length names) (j + made_in es))
    stat_short (Label line name) closing t j = omega arith
    stat_short (Goto line name) closing t j = omega (arith, jump_short (back.closes || closing))
    stat_short (Break line) closing t j = omega (arith, jump_short (back.closes || closing))

    pub arms_short : (arms : Arms) (rest : ℕ) (closing : Bool) (t j : ℕ) → arms_size cs back arms rest closing t j ≤ 6 * weight_of_arms arms
    arms_short EndArms rest closing t j = omega arith
    arms_short (MoreArms e block arms) rest closing t j =
        let k = j + made_by e + made_in_block block in
        omega (arith, test_short cs e true 0 t j, block_short block closing t t (j + made_by e), arms_short arms rest closing t k, past_short (arms_size cs back arms rest closing t k + rest))

    pub stats_short : (ss : Stats) (closing : Bool) (t j : ℕ) → stats_size cs back ss closing t j ≤ 6 * weight_of_stats ss
    stats_short EndStats closing t j = omega arith
    stats_short (MoreStats s ss) closing t j =
        omega (arith, stat_short s closing t j, stats_short ss (closing_after s closing) (level_after s t) (j + made_by_stat s))

    pub block_short : (block : Block) (closing : Bool) (outer t j : ℕ) → block_size cs back block closing outer t j ≤ 6 * weight_of_block block + 1
    block_short (Falls ss tokens line) closing outer t j = omega (arith, stats_short ss closing t j, close_short outer (closed_below ss outer t) line)
    block_short (Returns ss es tokens line) closing outer t j =
        omega (arith, stats_short ss closing t j, return_short cs (closings_after ss closing) es (levels_after ss t) (j + made_in_stats ss) line back.back)

    pub open_short : (block : Block) (closing : Bool) (t j : ℕ) → open_size cs back block closing t j ≤ 6 * weight_of_block block
    open_short (Falls ss tokens line) closing t j = stats_short ss closing t j
    open_short (Returns ss es tokens line) closing t j =
        omega (arith, stats_short ss closing t j, return_short cs (closings_after ss closing) es (levels_after ss t) (j + made_in_stats ss) line back.back)
