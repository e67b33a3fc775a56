-- The names in the parts of a body fit where the body's texts do.
use Rattle.std.proofs.Common.{Bool, true, false, List, [], ◌∷◌, ◌++◌}
use Rattle.std.specs.Prelude.{map}
use Rattle.tree_core.specs.declared.name.Name.{Name}
use Rattle.tree_core.specs.declared.name.Declared.{Declared}
use Rattle.tree_core.specs.Tree.{Block, Falls, Returns, Body, BodyOf, Stats, EndStats, MoreStats, Stat, Local, LocalFunction, Assign, CallStat, Do, While, Repeat, If, IfElse, NumFor, NumForStep, GenFor, Arms, EndArms, MoreArms, Exp, Vararg, Var, Function, Index, Call, Method, Unary, Binary, And, Or, Paren, Table, Exps, EndExps, MoreExps, Fields, EndFields, MoreFields, Field, Item, Keyed}
use Rattle.tree_terms.specs.Asked.{ExpMeets, ExpsMeet, FieldsMeet, FieldMeets, StatMeets, ArmsMeet, StatsMeet}
use Rattle.scope_core.specs.Scopes.{Scope, declared_by, declared_variable, plain_variable, numeric_hidden, generic_hidden}
use Rattle.scope_core.specs.Parts.{Part, Naming, Located, with_variables, with_block, in_loop_of, inside, scope_behind, declarations, name_declarations, loop_scope, exp_parts, exps_parts, fields_parts, field_parts, body_parts, stats_parts, block_parts, stat_parts, arms_parts}
use Rattle.code_checked.specs.Written.{TextFits}
use Rattle.source_laws.proofs.Texts.{BlockTextsFit, BodyTextsFit, all_texts}

abbrev pub PartFits : Part → Type 0
PartFits (Naming name) = TextFits name.text
PartFits _ = Unit {0}

pub data PartsFit : List Located → Type 0 where
  none : PartsFit []
  also : {p : Located} {ps : List Located} → PartFits p.part → PartsFit ps → PartsFit (p ∷ ps)

both : {ps qs : List Located} → PartsFit ps → PartsFit qs → PartsFit (ps ++ qs)
both none k = k
both (also f h) k = also f (both h k)

declared_parts : (s : Scope) (names : List Declared) → PartsFit (declarations s names)
declared_parts s [] = none
declared_parts s (d ∷ names) = also tt (declared_parts (with_variables s (declared_variable d ∷ [])) names)

name_parts : (s : Scope) (names : List Name) → PartsFit (name_declarations s names)
name_parts s [] = none
name_parts s (x ∷ names) = also tt (name_parts (with_variables s (plain_variable x ∷ [])) names)

mutual
  exp_named : (s : Scope) (e : Exp) → ExpMeets all_texts e → PartsFit (exp_parts s e)
  exp_named s (Vararg line) h = also tt none
  exp_named s (Function line body) h = body_named s body h
  exp_named s (Var line name) h = also h none
  exp_named s (Index line object key) h = both (exp_named s object h.0) (exp_named s key h.1)
  exp_named s (Call line f es) h = both (exp_named s f h.0) (exps_named s es h.1)
  exp_named s (Method line object name es) h = both (exp_named s object h.0) (exps_named s es h.1.1)
  exp_named s (Unary line op e) h = exp_named s e h
  exp_named s (Binary line op e d) h = both (exp_named s e h.0) (exp_named s d h.1)
  exp_named s (And line e d) h = both (exp_named s e h.0) (exp_named s d h.1)
  exp_named s (Or line e d) h = both (exp_named s e h.0) (exp_named s d h.1)
  exp_named s (Paren line e) h = exp_named s e h
  exp_named s (Table line fs) h = fields_named s fs h
  exp_named s _ h = none

  exps_named : (s : Scope) (es : Exps) → ExpsMeet all_texts es → PartsFit (exps_parts s es)
  exps_named s EndExps h = none
  exps_named s (MoreExps e es) h = both (exp_named s e h.0) (exps_named s es h.1)

  fields_named : (s : Scope) (fs : Fields) → FieldsMeet all_texts fs → PartsFit (fields_parts s fs)
  fields_named s EndFields h = none
  fields_named s (MoreFields f fs) h = both (field_named s f h.0) (fields_named s fs h.1)

  field_named : (s : Scope) (f : Field) → FieldMeets all_texts f → PartsFit (field_parts s f)
  field_named s (Item e) h = exp_named s e h
  field_named s (Keyed line e d) h = both (exp_named s e h.0) (exp_named s d h.1)

  pub body_named : (s : Scope) (body : Body) → BodyTextsFit body → PartsFit (body_parts s body)
  body_named s (BodyOf params vararg inner ups line) h =
      let begin : Scope = inside s.frames (BodyOf params vararg inner ups line) in
      also tt (both (name_parts begin params) (block_named (with_variables begin (map plain_variable params)) true inner h.1.1))

  stats_named : (s : Scope) (before : List Stat) (ends : Bool) (ss : Stats) → StatsMeet all_texts ss → PartsFit (stats_parts s before ends ss)
  stats_named s before ends EndStats h = none
  stats_named s before ends (MoreStats stat ss) h =
      let here : Scope = with_block s (record { before = before; behind = ss; ends_scope = ends }) in
      also tt (both (stat_named here stat h.0) (stats_named (with_variables s (declared_by stat)) (stat ∷ before) ends ss h.1))

  block_named : (s : Scope) (ends : Bool) (block : Block) → BlockTextsFit block → PartsFit (block_parts s ends block)
  block_named s ends (Falls ss tokens line) h = stats_named s [] ends ss h
  block_named s ends (Returns ss es tokens line) h =
      both (stats_named s [] false ss h.0) (also tt (exps_named (scope_behind s (Falls ss tokens line)) es h.1))

  stat_named : (s : Scope) (stat : Stat) → StatMeets all_texts stat → PartsFit (stat_parts s stat)
  stat_named s (Local line names es) h = both (exps_named s es h.1) (declared_parts s names)
  stat_named s (LocalFunction line name body) h = both (name_parts s (name ∷ [])) (body_named (with_variables s (plain_variable name ∷ [])) body h.1)
  stat_named s (Assign line targets es) h = both (exps_named s targets h.0) (exps_named s es h.1)
  stat_named s (CallStat line e) h = exp_named s e h
  stat_named s (Do line block) h = block_named s true block h
  stat_named s (While line e block) h = both (exp_named s e h.0) (block_named (in_loop_of s) true block h.1)
  stat_named s (Repeat line block e) h = both (block_named (in_loop_of s) false block h.0) (also tt (exp_named (scope_behind s block) e h.1))
  stat_named s (If line arms) h = arms_named s arms h
  stat_named s (IfElse line arms block) h = both (arms_named s arms h.0) (block_named s true block h.1)
  stat_named s (NumFor line name from limit block) h =
      let hidden : Scope = loop_scope s numeric_hidden in
      both (both (both (exp_named s from h.1.0) (exp_named s limit h.1.1.0)) (also tt (name_parts hidden (name ∷ []))))
      (block_named (with_variables hidden (plain_variable name ∷ [])) true block h.1.1.1)
  stat_named s (NumForStep line name from limit step block) h =
      let hidden : Scope = loop_scope s numeric_hidden in
      both (both (both (both (exp_named s from h.1.0) (exp_named s limit h.1.1.0)) (exp_named s step h.1.1.1.0)) (also tt (name_parts hidden (name ∷ []))))
      (block_named (with_variables hidden (plain_variable name ∷ [])) true block h.1.1.1.1)
  stat_named s (GenFor line names es block) h =
      let hidden : Scope = loop_scope s generic_hidden in
      both (both (exps_named s es h.1.0) (also tt (name_parts hidden names))) (block_named (with_variables hidden (map plain_variable names)) true block h.1.1)
  stat_named s _ h = none

  arms_named : (s : Scope) (arms : Arms) → ArmsMeet all_texts arms → PartsFit (arms_parts s arms)
  arms_named s EndArms h = none
  arms_named s (MoreArms e block arms) h = both (both (exp_named s e h.0) (block_named s true block h.1.0)) (arms_named s arms h.1.1)
