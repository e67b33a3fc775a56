-- The walk meets the violations of all parts, and the least of them is what it ends with.
use Rattle.std.proofs.Common.{ℕ, ◌≡◌, Bool, true, false, List, [], ◌∷◌, ◌++◌, Option, None, Some, refl, sym, ap, subst, ◌∙◌, map, append_assoc}
use Rattle.std.specs.Prelude.{flat_map, if◌then◌else◌}
use Rattle.tree_core.specs.declared.name.Name.{Name}
use Rattle.tree_core.specs.declared.name.Declared.{Declared}
use Rattle.tree_core.specs.Tree.{Block, Falls, Returns, Body, BodyOf, Stats, EndStats, MoreStats, Stat, Local, LocalFunction, Assign, CallStat, Do, While, Repeat, If, IfElse, NumFor, NumForStep, GenFor, Arms, EndArms, MoreArms, Exps, EndExps, MoreExps, Exp, Vararg, Function, Index, Call, Method, Unary, Binary, And, Or, Paren, Table, Fields, EndFields, MoreFields, Field, Item, Keyed}
use Rattle.scope_core.specs.declared.violation.Violation.{Violation}
use Rattle.scope_core.specs.declared.variable.Variable.{Variable}
use Rattle.scope_core.specs.Scopes.{Scope, declared_by, declared_variable, plain_variable, numeric_hidden, generic_hidden}
use Rattle.scope_core.specs.Parts.{Located, at, Rest, Declares, Statement, Inner, Result, Until, with_variables, with_block, in_loop_of, scope_behind, loop_scope, inside, declarations, name_declarations, for_declarations, exp_parts, exps_parts, fields_parts, field_parts, body_parts, stats_parts, block_parts, stat_parts, arms_parts}
use Rattle.scope_core.specs.Rules.{part_violations, held_violations, violations, begin}
use Rattle.scope_core.specs.Held.{held, held_behind}
use Rattle.scope_core.specs.Places.{placed}
use Rattle.scope_core.specs.Least.{IsLeastOf, is_before, meet}
use Rattle.scope_core.proofs.Leasts.{first_met, earlier_met, later_met}
use Rattle.lua_scope.specs.Met.{meet_all, met_declared, met_names, met_declarations, met_exp, met_exps, met_fields, met_field, met_body, met_stats, met_block, met_stat, met_arms}
use Rattle.lua_scope.proofs.Meeting.{meet_append}
use Rattle.scope_core.proofs.Going.{append_nil}

abbrev broken : List Located → List Violation
broken parts = flat_map (λ located. part_violations located.around located.part) parts

broken_append : (a b : List Located) → broken (a ++ b) ≡ broken a ++ broken b
broken_append [] b = refl
broken_append (p ∷ a) b =
    ap (λ vs. part_violations p.around p.part ++ vs) (broken_append a b)
    ∙ sym (append_assoc (part_violations p.around p.part) (broken a) (broken b))

both : (o o' o'' : Option Violation) (a b : List Located) → meet_all o (broken a) ≡ o' → meet_all o' (broken b) ≡ o'' → meet_all o (broken (a ++ b)) ≡ o''
both o o' o'' a b e f =
    ap (meet_all o) (broken_append a b)
    ∙ meet_append o (broken a) (broken b)
    ∙ ap (λ x. meet_all x (broken b)) e
    ∙ f

one : (o o' : Option Violation) (p : Located) (ps : List Located) → meet_all (meet_all o (part_violations p.around p.part)) (broken ps) ≡ o' → meet_all o (broken (p ∷ ps)) ≡ o'
one o o' p ps e = meet_append o (part_violations p.around p.part) (broken ps) ∙ e

alone : (o : Option Violation) (p : Located) → meet_all o (broken (p ∷ [])) ≡ meet_all o (part_violations p.around p.part)
alone o p = one o _ p [] refl

-- `(a ++ b) ++ c`, where `b ++ c` is known
apart : (o o' o'' : Option Violation) (a b c : List Located) → meet_all o (broken a) ≡ o' → meet_all o' (broken (b ++ c)) ≡ o'' → meet_all o (broken (a ++ b ++ c)) ≡ o''
apart o o' o'' a b c e f = ap (λ ps. meet_all o (broken ps)) (append_assoc a b c) ∙ both o o' o'' a (b ++ c) e f

names_met : (s : Scope) (o : Option Violation) (ns : List Name) → meet_all o (broken (name_declarations s ns)) ≡ met_names s.frames o ns
names_met s o [] = refl
names_met s o (n ∷ ns) =
    let s' : Scope = with_variables s (plain_variable n ∷ []) in
    one o _ (at s' (Declares n.line)) (name_declarations s' ns) (names_met s' (met_declared s'.frames o n.line) ns)

declarations_met : (s : Scope) (o : Option Violation) (ns : List Declared) → meet_all o (broken (declarations s ns)) ≡ met_declarations s.frames o ns
declarations_met s o [] = refl
declarations_met s o (n ∷ ns) =
    let s' : Scope = with_variables s (declared_variable n ∷ []) in
    one o _ (at s' (Declares n.name.line)) (declarations s' ns) (declarations_met s' (met_declared s'.frames o n.name.line) ns)

for_met :
    (s : Scope) (hidden : List Variable) (line : ℕ) (ns : List Name) (o o' : Option Violation) (b : Block)
    → meet_all (met_names (loop_scope s hidden).frames (met_declared (loop_scope s hidden).frames o line) ns) (broken (block_parts (with_variables (loop_scope s hidden) (map plain_variable ns)) true b)) ≡ o'
    → meet_all o (broken (for_declarations (loop_scope s hidden) line ns ++ block_parts (with_variables (loop_scope s hidden) (map plain_variable ns)) true b)) ≡ o'
for_met s hidden line ns o o' b e =
    let within : Scope = loop_scope s hidden in
    both o _ o' (for_declarations within line ns) (block_parts (with_variables within (map plain_variable ns)) true b)
    (one o _ (at within (Declares line)) (name_declarations within ns) (names_met within (met_declared within.frames o line) ns))
    e

mutual
  exp_met : (s : Scope) (o : Option Violation) (e : Exp) → meet_all o (broken (exp_parts s e)) ≡ met_exp s.frames s.is_vararg o e
  exp_met s o (Vararg line) = alone o (at s (Rest line))
  exp_met s o (Function line body) = body_met s o body
  exp_met s o (Index line a b) = both o _ _ (exp_parts s a) (exp_parts s b) (exp_met s o a) (exp_met s (met_exp s.frames s.is_vararg o a) b)
  exp_met s o (Call line a es) = both o _ _ (exp_parts s a) (exps_parts s es) (exp_met s o a) (exps_met s (met_exp s.frames s.is_vararg o a) es)
  exp_met s o (Method line a name es) = both o _ _ (exp_parts s a) (exps_parts s es) (exp_met s o a) (exps_met s (met_exp s.frames s.is_vararg o a) es)
  exp_met s o (Unary line op a) = exp_met s o a
  exp_met s o (Binary line op a b) = both o _ _ (exp_parts s a) (exp_parts s b) (exp_met s o a) (exp_met s (met_exp s.frames s.is_vararg o a) b)
  exp_met s o (And line a b) = both o _ _ (exp_parts s a) (exp_parts s b) (exp_met s o a) (exp_met s (met_exp s.frames s.is_vararg o a) b)
  exp_met s o (Or line a b) = both o _ _ (exp_parts s a) (exp_parts s b) (exp_met s o a) (exp_met s (met_exp s.frames s.is_vararg o a) b)
  exp_met s o (Paren line a) = exp_met s o a
  exp_met s o (Table line fs) = fields_met s o fs
  exp_met s o _ = refl

  exps_met : (s : Scope) (o : Option Violation) (es : Exps) → meet_all o (broken (exps_parts s es)) ≡ met_exps s.frames s.is_vararg o es
  exps_met s o EndExps = refl
  exps_met s o (MoreExps e es) = both o _ _ (exp_parts s e) (exps_parts s es) (exp_met s o e) (exps_met s (met_exp s.frames s.is_vararg o e) es)

  fields_met : (s : Scope) (o : Option Violation) (fs : Fields) → meet_all o (broken (fields_parts s fs)) ≡ met_fields s.frames s.is_vararg o fs
  fields_met s o EndFields = refl
  fields_met s o (MoreFields f fs) = both o _ _ (field_parts s f) (fields_parts s fs) (field_met s o f) (fields_met s (met_field s.frames s.is_vararg o f) fs)

  field_met : (s : Scope) (o : Option Violation) (f : Field) → meet_all o (broken (field_parts s f)) ≡ met_field s.frames s.is_vararg o f
  field_met s o (Item e) = exp_met s o e
  field_met s o (Keyed line a b) = both o _ _ (exp_parts s a) (exp_parts s b) (exp_met s o a) (exp_met s (met_exp s.frames s.is_vararg o a) b)

  pub body_met : (s : Scope) (o : Option Violation) (b : Body) → meet_all o (broken (body_parts s b)) ≡ met_body s.frames o b
  body_met s o (BodyOf params vararg inner upvalues line) =
      let begin' : Scope = inside s.frames (BodyOf params vararg inner upvalues line) in
      let within : Scope = with_variables begin' (map plain_variable params) in
      let o' : Option Violation = meet_all o (part_violations s (Inner (BodyOf params vararg inner upvalues line))) in
      one o _ (at s (Inner (BodyOf params vararg inner upvalues line))) (name_declarations begin' params ++ block_parts within true inner)
      (both o' _ _ (name_declarations begin' params) (block_parts within true inner) (names_met begin' o' params) (block_met within true (met_names begin'.frames o' params) inner))

  stats_met : (s : Scope) (before : List Stat) (ends : Bool) (o : Option Violation) (ss : Stats) → meet_all o (broken (stats_parts s before ends ss)) ≡ met_stats s before ends o ss
  stats_met s before ends o EndStats = refl
  stats_met s before ends o (MoreStats stat ss) =
      let here : Scope = with_block s (record { before = before; behind = ss; ends_scope = ends }) in
      let next : Scope = with_variables s (declared_by stat) in
      let o' : Option Violation = meet_all o (part_violations here (Statement stat)) in
      one o _ (at here (Statement stat)) (stat_parts here stat ++ stats_parts next (stat ∷ before) ends ss)
      (both o' _ _ (stat_parts here stat) (stats_parts next (stat ∷ before) ends ss) (stat_met here o' stat) (stats_met next (stat ∷ before) ends (met_stat here o' stat) ss))

  block_met : (s : Scope) (ends : Bool) (o : Option Violation) (b : Block) → meet_all o (broken (block_parts s ends b)) ≡ met_block s ends o b
  block_met s ends o (Falls ss tokens line) = stats_met s [] ends o ss
  block_met s ends o (Returns ss es tokens line) =
      let last : Scope = scope_behind s (Falls ss tokens line) in
      let o' : Option Violation = met_stats s [] false o ss in
      both o o' _ (stats_parts s [] false ss) (at last (Result line es) ∷ exps_parts last es) (stats_met s [] false o ss)
      (one o' _ (at last (Result line es)) (exps_parts last es) (exps_met last (meet_all o' (held_violations last line (held_behind 0 es))) es))

  stat_met : (s : Scope) (o : Option Violation) (st : Stat) → meet_all o (broken (stat_parts s st)) ≡ met_stat s o st
  stat_met s o (Local line names values) = both o _ _ (exps_parts s values) (declarations s names) (exps_met s o values) (declarations_met s (met_exps s.frames s.is_vararg o values) names)
  stat_met s o (LocalFunction line name body) =
      let s' : Scope = with_variables s (plain_variable name ∷ []) in
      both o _ _ (name_declarations s (name ∷ [])) (body_parts s' body) (names_met s o (name ∷ [])) (body_met s' (met_declared s'.frames o name.line) body)
  stat_met s o (Assign line ts es) = both o _ _ (exps_parts s ts) (exps_parts s es) (exps_met s o ts) (exps_met s (met_exps s.frames s.is_vararg o ts) es)
  stat_met s o (CallStat line e) = exp_met s o e
  stat_met s o (Do line b) = block_met s true o b
  stat_met s o (While line e b) = both o _ _ (exp_parts s e) (block_parts (in_loop_of s) true b) (exp_met s o e) (block_met (in_loop_of s) true (met_exp s.frames s.is_vararg o e) b)
  stat_met s o (Repeat line b e) =
      let last : Scope = scope_behind s b in
      let o' : Option Violation = met_block (in_loop_of s) false o b in
      both o o' _ (block_parts (in_loop_of s) false b) (at last (Until line e) ∷ exp_parts last e) (block_met (in_loop_of s) false o b)
      (one o' _ (at last (Until line e)) (exp_parts last e) (exp_met last (meet_all o' (held_violations last line (held e))) e))
  stat_met s o (If line arms) = arms_met s o arms
  stat_met s o (IfElse line arms b) = both o _ _ (arms_parts s arms) (block_parts s true b) (arms_met s o arms) (block_met s true (met_arms s o arms) b)
  stat_met s o (NumFor line name a c b) =
      let o' : Option Violation = met_exp s.frames s.is_vararg (met_exp s.frames s.is_vararg o a) c in
      let values : meet_all o (broken (exp_parts s a ++ exp_parts s c)) ≡ o' = both o _ _ (exp_parts s a) (exp_parts s c) (exp_met s o a) (exp_met s (met_exp s.frames s.is_vararg o a) c) in
      apart o o' _ (exp_parts s a ++ exp_parts s c) _ _ values (for_met s numeric_hidden line (name ∷ []) o' _ b (block_met (with_variables (loop_scope s numeric_hidden) (map plain_variable (name ∷ []))) true (met_names (loop_scope s numeric_hidden).frames (met_declared (loop_scope s numeric_hidden).frames o' line) (name ∷ [])) b))
  stat_met s o (NumForStep line name a c d b) =
      let o' : Option Violation = met_exp s.frames s.is_vararg (met_exp s.frames s.is_vararg o a) c in
      let o'' : Option Violation = met_exp s.frames s.is_vararg o' d in
      let two' : meet_all o (broken (exp_parts s a ++ exp_parts s c)) ≡ o' = both o _ _ (exp_parts s a) (exp_parts s c) (exp_met s o a) (exp_met s (met_exp s.frames s.is_vararg o a) c) in
      let values : meet_all o (broken (exp_parts s a ++ exp_parts s c ++ exp_parts s d)) ≡ o'' = both o o' _ (exp_parts s a ++ exp_parts s c) (exp_parts s d) two' (exp_met s o' d) in
      apart o o'' _ (exp_parts s a ++ exp_parts s c ++ exp_parts s d) _ _ values (for_met s numeric_hidden line (name ∷ []) o'' _ b (block_met (with_variables (loop_scope s numeric_hidden) (map plain_variable (name ∷ []))) true (met_names (loop_scope s numeric_hidden).frames (met_declared (loop_scope s numeric_hidden).frames o'' line) (name ∷ [])) b))
  stat_met s o (GenFor line names es b) =
      let o' : Option Violation = met_exps s.frames s.is_vararg o es in
      apart o o' _ (exps_parts s es) _ _ (exps_met s o es) (for_met s generic_hidden line names o' _ b (block_met (with_variables (loop_scope s generic_hidden) (map plain_variable names)) true (met_names (loop_scope s generic_hidden).frames (met_declared (loop_scope s generic_hidden).frames o' line) names) b))
  stat_met s o _ = refl

  arms_met : (s : Scope) (o : Option Violation) (as' : Arms) → meet_all o (broken (arms_parts s as')) ≡ met_arms s o as'
  arms_met s o EndArms = refl
  arms_met s o (MoreArms e b as') =
      let o' : Option Violation = met_exp s.frames s.is_vararg o e in
      let o'' : Option Violation = met_block s true o' b in
      both o o'' _ (exp_parts s e ++ block_parts s true b) (arms_parts s as')
      (both o o' o'' (exp_parts s e) (block_parts s true b) (exp_met s o e) (block_met s true o' b))
      (arms_met s o'' as')

-- The least of what was met.

step_least : (all : List Violation) (o : Option Violation) (v : Violation) → IsLeastOf all o → IsLeastOf (all ++ v ∷ []) (meet o v)
step_least all None v l = first_met all v l
step_least all (Some w) v l = by (is_before v w) refl where
  by : (b : Bool) → is_before v w ≡ b → IsLeastOf (all ++ v ∷ []) (if b then Some v else Some w)
  by true e = earlier_met all v w e l
  by false e = later_met all v w e l

least_of_all : (all : List Violation) (o : Option Violation) (vs : List Violation) → IsLeastOf all o → IsLeastOf (all ++ vs) (meet_all o vs)
least_of_all all o [] l = subst (λ xs. IsLeastOf xs o) (sym (append_nil all)) l
least_of_all all o (v ∷ vs) l =
    subst (λ xs. IsLeastOf xs (meet_all (meet o v) vs)) (append_assoc all (v ∷ []) vs) (least_of_all (all ++ v ∷ []) (meet o v) vs (step_least all o v l))

-- what the walk over a placed source ends with
pub walked_least : (source : Block) (o : Option Violation) → o ≡ met_body [] None (placed source) → IsLeastOf (violations source) o
walked_least source o e =
    subst (λ x. IsLeastOf (violations source) x) (body_met begin None (placed source) ∙ sym e) (least_of_all [] None (violations source) refl)
