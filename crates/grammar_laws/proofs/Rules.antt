-- Where a source breaks no rule, the block of each `for` has at most 16,000 tokens.
use Rattle.std.proofs.Common.{◌≡◌, ℕ, ◌≤◌, Bool, true, false, List, [], ◌∷◌, ◌++◌, refl, sym, ◌∙◌, arith}
use Rattle.std.specs.Prelude.{map, nat_lt, flat_map}
use Rattle.std.proofs.lemmas.Bool.Decides.{nat_tests}
use Rattle.std.proofs.lemmas.Grind.{flat_map-append}
use Rattle.std.proofs.lemmas.List.Concat.{flat_map-cons}
use Rattle.tree_core.specs.Tree.{Block, Falls, Returns, Body, BodyOf, Stats, EndStats, MoreStats, Stat, Local, LocalFunction, Assign, CallStat, Do, While, Repeat, If, IfElse, NumFor, NumForStep, GenFor, Arms, EndArms, MoreArms, Exp, Function, Index, Call, Method, Unary, Binary, And, Or, Paren, Table, Exps, EndExps, MoreExps, Fields, EndFields, MoreFields, Field, Item, Keyed}
use Rattle.tree_terms.specs.Asked.{ExpMeets, ExpsMeet, FieldsMeet, FieldMeets, StatMeets, ArmsMeet, StatsMeet, BlockMeets}
use Rattle.scope_core.specs.declared.violation.Violation.{Violation}
use Rattle.scope_core.specs.Scopes.{Scope, declared_by, plain_variable, numeric_hidden, generic_hidden}
use Rattle.scope_core.specs.Parts.{Inner, Statement, Until, Result, Located, at, with_variables, with_block, in_loop_of, inside, scope_behind, declarations, name_declarations, loop_scope, for_declarations, exp_parts, exps_parts, fields_parts, field_parts, body_parts, stats_parts, block_parts, stat_parts, arms_parts}
use Rattle.scope_core.specs.Places.{placed}
use Rattle.scope_core.specs.Rules.{breach, tokens_of, stat_violations, held_violations, stat_line, part_violations, begin, violations}
use Rattle.scope_core.specs.Held.{held_stat}
use Rattle.grammar_laws.specs.Each.{InBody, each_one}

abbrev pub Nothing : Body → Type 0
Nothing body = Unit {0}

abbrev pub IsShort : Block → Type 0
IsShort block = tokens_of block ≤ 16000

-- parts that break no rule

abbrev broken : Located → List Violation
broken located = part_violations located.around located.part

abbrev IsQuiet : List Located → Type 0
IsQuiet parts = flat_map broken parts ≡ []

nothing_left : {A : Type 0} (xs ys : List A) → xs ++ ys ≡ [] → xs ≡ []
nothing_left [] ys e = refl
nothing_left (x ∷ xs) ys e = absurd cc

nothing_right : {A : Type 0} (xs ys : List A) → xs ++ ys ≡ [] → ys ≡ []
nothing_right [] ys e = e
nothing_right (x ∷ xs) ys e = absurd cc

left : (as' bs : List Located) → IsQuiet (as' ++ bs) → IsQuiet as'
left as' bs h = nothing_left (flat_map broken as') (flat_map broken bs) (sym (flat_map-append broken as' bs) ∙ h)

right : (as' bs : List Located) → IsQuiet (as' ++ bs) → IsQuiet bs
right as' bs h = nothing_right (flat_map broken as') (flat_map broken bs) (sym (flat_map-append broken as' bs) ∙ h)

first : (a : Located) (bs : List Located) → IsQuiet (a ∷ bs) → broken a ≡ []
first a bs h = nothing_left (broken a) (flat_map broken bs) (sym (flat_map-cons broken a bs) ∙ h)

later : (a : Located) (bs : List Located) → IsQuiet (a ∷ bs) → IsQuiet bs
later a bs h = nothing_right (broken a) (flat_map broken bs) (sym (flat_map-cons broken a bs) ∙ h)

no_breach : (n line rule : ℕ) → breach (nat_lt 16000 n) line rule ≡ [] → n ≤ 16000
no_breach n line rule e = by (nat_lt 16000 n) refl e
  where
    by : (b : Bool) → nat_lt 16000 n ≡ b → breach b line rule ≡ [] → n ≤ 16000
    by true is e = absurd cc
    by false is e = grind (arith, nat_tests)

-- a statement's own violations
own : (scope : Scope) (s : Stat) → part_violations scope (Statement s) ≡ [] → stat_violations scope s ≡ []
own scope s e = nothing_left (stat_violations scope s) (held_violations scope (stat_line s) (held_stat s)) e

mutual
  exp_rules : (scope : Scope) (e : Exp) → IsQuiet (exp_parts scope e) → ExpMeets (each_one Nothing IsShort) e
  exp_rules scope (Function line body) q = body_rules scope body q
  exp_rules scope (Index line object key) q =
      (exp_rules scope object (left (exp_parts scope object) (exp_parts scope key) q), exp_rules scope key (right (exp_parts scope object) (exp_parts scope key) q))
  exp_rules scope (Call line f es) q =
      (exp_rules scope f (left (exp_parts scope f) (exps_parts scope es) q), exps_rules scope es (right (exp_parts scope f) (exps_parts scope es) q))
  exp_rules scope (Method line object name es) q =
      (exp_rules scope object (left (exp_parts scope object) (exps_parts scope es) q), exps_rules scope es (right (exp_parts scope object) (exps_parts scope es) q))
  exp_rules scope (Unary line op e) q = exp_rules scope e q
  exp_rules scope (Binary line op e d) q = (exp_rules scope e (left (exp_parts scope e) (exp_parts scope d) q), exp_rules scope d (right (exp_parts scope e) (exp_parts scope d) q))
  exp_rules scope (And line e d) q = (exp_rules scope e (left (exp_parts scope e) (exp_parts scope d) q), exp_rules scope d (right (exp_parts scope e) (exp_parts scope d) q))
  exp_rules scope (Or line e d) q = (exp_rules scope e (left (exp_parts scope e) (exp_parts scope d) q), exp_rules scope d (right (exp_parts scope e) (exp_parts scope d) q))
  exp_rules scope (Paren line e) q = exp_rules scope e q
  exp_rules scope (Table line fs) q = fields_rules scope fs q
  exp_rules scope _ q = tt

  exps_rules : (scope : Scope) (es : Exps) → IsQuiet (exps_parts scope es) → ExpsMeet (each_one Nothing IsShort) es
  exps_rules scope EndExps q = tt
  exps_rules scope (MoreExps e es) q = (exp_rules scope e (left (exp_parts scope e) (exps_parts scope es) q), exps_rules scope es (right (exp_parts scope e) (exps_parts scope es) q))

  fields_rules : (scope : Scope) (fs : Fields) → IsQuiet (fields_parts scope fs) → FieldsMeet (each_one Nothing IsShort) fs
  fields_rules scope EndFields q = tt
  fields_rules scope (MoreFields f fs) q =
      (field_rules scope f (left (field_parts scope f) (fields_parts scope fs) q), fields_rules scope fs (right (field_parts scope f) (fields_parts scope fs) q))

  field_rules : (scope : Scope) (f : Field) → IsQuiet (field_parts scope f) → FieldMeets (each_one Nothing IsShort) f
  field_rules scope (Item e) q = exp_rules scope e q
  field_rules scope (Keyed line e d) q = (exp_rules scope e (left (exp_parts scope e) (exp_parts scope d) q), exp_rules scope d (right (exp_parts scope e) (exp_parts scope d) q))

  pub body_rules : (scope : Scope) (body : Body) → IsQuiet (body_parts scope body) → InBody Nothing IsShort body
  body_rules scope (BodyOf params vararg inner ups line) q =
      let start : Scope = inside scope.frames (BodyOf params vararg inner ups line) in
      let within : Scope = with_variables start (map plain_variable params) in
      let whole = later (at scope (Inner (BodyOf params vararg inner ups line))) (name_declarations start params ++ block_parts within true inner) q in
      (tt, block_rules within true inner (right (name_declarations start params) (block_parts within true inner) whole))

  stats_rules : (scope : Scope) (before : List Stat) (ends : Bool) (ss : Stats) → IsQuiet (stats_parts scope before ends ss) → StatsMeet (each_one Nothing IsShort) ss
  stats_rules scope before ends EndStats q = tt
  stats_rules scope before ends (MoreStats s ss) q =
      let here : Scope = with_block scope (record { before = before; behind = ss; ends_scope = ends }) in
      let rest = stats_parts (with_variables scope (declared_by s)) (s ∷ before) ends ss in
      let inner = later (at here (Statement s)) (stat_parts here s ++ rest) q in (
        stat_rules here s (first (at here (Statement s)) (stat_parts here s ++ rest) q) (left (stat_parts here s) rest inner),
        stats_rules (with_variables scope (declared_by s)) (s ∷ before) ends ss (right (stat_parts here s) rest inner),
      )

  block_rules : (scope : Scope) (ends : Bool) (block : Block) → IsQuiet (block_parts scope ends block) → BlockMeets (each_one Nothing IsShort) block
  block_rules scope ends (Falls ss tokens line) q = stats_rules scope [] ends ss q
  block_rules scope ends (Returns ss es tokens line) q =
      let last : Scope = scope_behind scope (Falls ss tokens line) in
      let values = at last (Result line es) ∷ exps_parts last es in
      let behind = right (stats_parts scope [] false ss) values q in
      (stats_rules scope [] false ss (left (stats_parts scope [] false ss) values q), exps_rules last es (later (at last (Result line es)) (exps_parts last es) behind))

  stat_rules : (scope : Scope) (s : Stat) → part_violations scope (Statement s) ≡ [] → IsQuiet (stat_parts scope s) → StatMeets (each_one Nothing IsShort) s
  stat_rules scope (Local line names es) o q = exps_rules scope es (left (exps_parts scope es) (declarations scope names) q)
  stat_rules scope (LocalFunction line name body) o q =
      let inner : Scope = with_variables scope (plain_variable name ∷ []) in
      body_rules inner body (right (name_declarations scope (name ∷ [])) (body_parts inner body) q)
  stat_rules scope (Assign line targets es) o q =
      (exps_rules scope targets (left (exps_parts scope targets) (exps_parts scope es) q), exps_rules scope es (right (exps_parts scope targets) (exps_parts scope es) q))
  stat_rules scope (CallStat line e) o q = exp_rules scope e q
  stat_rules scope (Do line block) o q = block_rules scope true block q
  stat_rules scope (While line e block) o q =
      let inner = block_parts (in_loop_of scope) true block in
      (exp_rules scope e (left (exp_parts scope e) inner q), block_rules (in_loop_of scope) true block (right (exp_parts scope e) inner q))
  stat_rules scope (Repeat line block e) o q =
      let behind : Scope = scope_behind scope block in
      let inner = block_parts (in_loop_of scope) false block in
      let test = at behind (Until line e) ∷ exp_parts behind e in
      (block_rules (in_loop_of scope) false block (left inner test q), exp_rules behind e (later (at behind (Until line e)) (exp_parts behind e) (right inner test q)))
  stat_rules scope (If line arms) o q = arms_rules scope arms q
  stat_rules scope (IfElse line arms block) o q =
      (arms_rules scope arms (left (arms_parts scope arms) (block_parts scope true block) q), block_rules scope true block (right (arms_parts scope arms) (block_parts scope true block) q))
  stat_rules scope (NumFor line name from limit block) o q =
      let hidden : Scope = loop_scope scope numeric_hidden in
      let within : Scope = with_variables hidden (plain_variable name ∷ []) in
      let a = exp_parts scope from in
      let b = exp_parts scope limit in
      let c = for_declarations hidden line (name ∷ []) in
      let d = block_parts within true block in
      let front = left (a ++ b ++ c) d q in
      let start = left (a ++ b) c front in (
        exp_rules scope from (left a b start),
        (
          exp_rules scope limit (right a b start),
          (no_breach (tokens_of block) line 12 (own scope (NumFor line name from limit block) o), block_rules within true block (right (a ++ b ++ c) d q)),
        ),
      )
  stat_rules scope (NumForStep line name from limit step block) o q =
      let hidden : Scope = loop_scope scope numeric_hidden in
      let within : Scope = with_variables hidden (plain_variable name ∷ []) in
      let a = exp_parts scope from in
      let b = exp_parts scope limit in
      let c = exp_parts scope step in
      let d = for_declarations hidden line (name ∷ []) in
      let inner = block_parts within true block in
      let front = left (a ++ b ++ c ++ d) inner q in
      let start = left (a ++ b ++ c) d front in
      let both = left (a ++ b) c start in (
        exp_rules scope from (left a b both),
        (
          exp_rules scope limit (right a b both),
          (
            exp_rules scope step (right (a ++ b) c start),
            (no_breach (tokens_of block) line 12 (own scope (NumForStep line name from limit step block) o), block_rules within true block (right (a ++ b ++ c ++ d) inner q)),
          ),
        ),
      )
  stat_rules scope (GenFor line names es block) o q =
      let hidden : Scope = loop_scope scope generic_hidden in
      let within : Scope = with_variables hidden (map plain_variable names) in
      let a = exps_parts scope es in
      let b = for_declarations hidden line names in
      let inner = block_parts within true block in (
        exps_rules scope es (left a b (left (a ++ b) inner q)),
        (no_breach (tokens_of block) line 12 (own scope (GenFor line names es block) o), block_rules within true block (right (a ++ b) inner q)),
      )
  stat_rules scope _ o q = tt

  arms_rules : (scope : Scope) (arms : Arms) → IsQuiet (arms_parts scope arms) → ArmsMeet (each_one Nothing IsShort) arms
  arms_rules scope EndArms q = tt
  arms_rules scope (MoreArms e block arms) q =
      let a = exp_parts scope e in
      let b = block_parts scope true block in
      let c = arms_parts scope arms in
      let front = left (a ++ b) c q in
      (exp_rules scope e (left a b front), (block_rules scope true block (right a b front), arms_rules scope arms (right (a ++ b) c q)))

pub short_loops : (tree : Block) → violations tree ≡ [] → InBody Nothing IsShort (placed tree)
short_loops tree e = body_rules begin (placed tree) e
