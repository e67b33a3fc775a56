-- A tree whose parts break no rule keeps the limits, and its labels and loops are in sight.
use Rattle.std.proofs.Common.{arith, ℕ, ◌+◌, ◌≡◌, ◌≤◌, Bool, true, false, List, [], ◌∷◌, ◌++◌, refl, ap, ◌∙◌, length, map}
use Rattle.std.proofs.lemmas.List.{length-map}
use Rattle.tree_core.specs.declared.name.Name.{Name}
use Rattle.tree_core.specs.Tree.{Block, Falls, Returns, Body, BodyOf, Stats, EndStats, MoreStats, Stat, Empty, Local, LocalFunction, Assign, CallStat, Do, While, Repeat, If, IfElse, NumFor, NumForStep, GenFor, Label, Goto, Break, Arms, EndArms, MoreArms, Exps, EndExps, MoreExps, Exp, Vararg, Function, Index, Call, Method, Unary, Binary, And, Or, Paren, Table, Fields, EndFields, MoreFields, Field, Item, Keyed}
use Rattle.scope_core.specs.Scopes.{Scope, declared_by, plain_variable, numeric_hidden, generic_hidden}
use Rattle.scope_core.specs.Parts.{Located, Until, Result, at, inside, with_variables, with_block, in_loop_of, loop_scope, scope_behind, name_declarations, declarations, for_declarations, exp_parts, exps_parts, fields_parts, field_parts, body_parts, block_parts, stats_parts, stat_parts, arms_parts}
use Rattle.scope_core.specs.Held.{held, held_behind, held_stat}
use Rattle.scope_core.specs.Rules.{find_label, tokens_of, stat_line, stat_violations, held_violations}
use Rattle.tree_terms.specs.Levels.{level_after, levels_after, levels_in}
use Rattle.tree_terms.specs.Labels.{Named, names_ahead}
use Rattle.scope_laws.specs.Keeping.{ExpKeeps, ExpsKeep, FieldsKeep, FieldKeeps, BodyKeeps, BlockKeeps, StatsKeep, StatKeeps, ArmsKeep}
use Rattle.scope_laws.proofs.Parts.{Kept, none_of, front, back, allowed, at_most, HasLevel, same_level, level_declared, level_step, level_behind_stats, level_behind, declares_few, holds_few, names_few, declared_few}
use Rattle.scope_laws.proofs.Labels.{Legal, passed_all, legal_within, none_around, found_fine}

-- no statement declares more than the limit allows
pub few_after : (s : Stat) (vararg : Bool) (t : ℕ) (named : List Named) (loops : Bool) → t ≤ 200 → StatKeeps s vararg t named loops → level_after s t ≤ 200
few_after (Local line names es) vararg t named loops most k = k.1
few_after (LocalFunction line name body) vararg t named loops most k = k.1
few_after _ vararg t named loops most k = most

nothing_before : (n : ℕ) → 0 + n ≡ n
nothing_before n = omega arith

-- a loop's scope, behind its hidden locals and the one that counts
counts_few : (s : Scope) (line t : ℕ) (name : Name) → HasLevel s.frames t → Kept (for_declarations (loop_scope s numeric_hidden) line (name ∷ [])) → t + 4 ≤ 200
counts_few s line t name h k =
    let hidden : Scope = loop_scope s numeric_hidden in
    let level : HasLevel hidden.frames (t + 3) = level_declared s.frames numeric_hidden t h in
    let one : t + 3 ≤ 200 = declares_few hidden.frames (t + 3) line level k.0 in
    let all : t + 3 + 1 ≤ 200 = names_few (name ∷ []) hidden (t + 3) level one k.1 in
    omega (arith, all)

counts_level : (s : Scope) (t : ℕ) (name : Name) → HasLevel s.frames t → HasLevel (with_variables (loop_scope s numeric_hidden) (plain_variable name ∷ [])).frames (t + 4)
counts_level s t name h =
    let hidden : Scope = loop_scope s numeric_hidden in
    same_level (with_variables hidden (plain_variable name ∷ [])).frames (t + 3 + 1) (t + 4) (omega arith)
    (level_declared hidden.frames (plain_variable name ∷ []) (t + 3) (level_declared s.frames numeric_hidden t h))

mutual
  pub exp_keeps : (e : Exp) (s : Scope) → Kept (exp_parts s e) → ExpKeeps e s.is_vararg
  exp_keeps (Vararg line) s k = allowed s.is_vararg line 8 k.0
  exp_keeps (Function line body) s k = body_keeps body s k
  exp_keeps (Index line a b) s k =
      (exp_keeps a s (front (exp_parts s a) (exp_parts s b) k), exp_keeps b s (back (exp_parts s a) (exp_parts s b) k))
  exp_keeps (Call line a b) s k =
      (exp_keeps a s (front (exp_parts s a) (exps_parts s b) k), exps_keep b s (back (exp_parts s a) (exps_parts s b) k))
  exp_keeps (Method line a name b) s k =
      (exp_keeps a s (front (exp_parts s a) (exps_parts s b) k), exps_keep b s (back (exp_parts s a) (exps_parts s b) k))
  exp_keeps (Unary line operator operand) s k = exp_keeps operand s k
  exp_keeps (Binary line operator a b) s k =
      (exp_keeps a s (front (exp_parts s a) (exp_parts s b) k), exp_keeps b s (back (exp_parts s a) (exp_parts s b) k))
  exp_keeps (And line a b) s k =
      (exp_keeps a s (front (exp_parts s a) (exp_parts s b) k), exp_keeps b s (back (exp_parts s a) (exp_parts s b) k))
  exp_keeps (Or line a b) s k =
      (exp_keeps a s (front (exp_parts s a) (exp_parts s b) k), exp_keeps b s (back (exp_parts s a) (exp_parts s b) k))
  exp_keeps (Paren line inner) s k = exp_keeps inner s k
  exp_keeps (Table line fields) s k = fields_keep fields s k
  exp_keeps _ s k = tt

  pub exps_keep : (es : Exps) (s : Scope) → Kept (exps_parts s es) → ExpsKeep es s.is_vararg
  exps_keep EndExps s k = tt
  exps_keep (MoreExps e es) s k =
      (exp_keeps e s (front (exp_parts s e) (exps_parts s es) k), exps_keep es s (back (exp_parts s e) (exps_parts s es) k))

  pub fields_keep : (fs : Fields) (s : Scope) → Kept (fields_parts s fs) → FieldsKeep fs s.is_vararg
  fields_keep EndFields s k = tt
  fields_keep (MoreFields f fs) s k =
      (field_keeps f s (front (field_parts s f) (fields_parts s fs) k), fields_keep fs s (back (field_parts s f) (fields_parts s fs) k))

  pub field_keeps : (f : Field) (s : Scope) → Kept (field_parts s f) → FieldKeeps f s.is_vararg
  field_keeps (Item value) s k = exp_keeps value s k
  field_keeps (Keyed line a b) s k =
      (exp_keeps a s (front (exp_parts s a) (exp_parts s b) k), exp_keeps b s (back (exp_parts s a) (exp_parts s b) k))

  pub body_keeps : (b : Body) (s : Scope) → Kept (body_parts s b) → BodyKeeps b
  body_keeps (BodyOf params vararg inner ups line) s k =
      let begin : Scope = inside s.frames (BodyOf params vararg inner ups line) in
      let within : Scope = with_variables begin (map plain_variable params) in
      let ds : List Located = name_declarations begin params in
      let few : 0 + length params ≤ 200 = names_few params begin 0 refl (omega arith) (front ds (block_parts within true inner) k.1) in
      let most : length params ≤ 200 = omega (arith, few) in
      let level : HasLevel within.frames (length params) =
      same_level within.frames (0 + length (map plain_variable params)) (length params) (ap (λ n. 0 + n) (length-map params plain_variable) ∙ nothing_before (length params)) (level_declared begin.frames (map plain_variable params) 0 refl) in
      (at_most 255 (length ups) line 10 k.0, (most, block_keeps inner within true (length params) [] level most (none_around []) (back ds (block_parts within true inner) k.1)))

  pub block_keeps : (b : Block) (s : Scope) (ends : Bool) (t : ℕ) (named : List Named) → HasLevel s.frames t → t ≤ 200 → Legal s.blocks named → Kept (block_parts s ends b) → BlockKeeps b ends s.is_vararg t named s.in_loop
  block_keeps (Falls ss tokens line) s ends t named h most sees k = stats_keep ss s [] ends t named h most sees k
  block_keeps (Returns ss es tokens line) s ends t named h most sees k =
      let last : Scope = scope_behind s (Falls ss tokens line) in
      let rest : List Located = at last (Result line es) ∷ exps_parts last es in
      let there = back (stats_parts s [] false ss) rest k in (
        stats_keep ss s [] false t named h most sees (front (stats_parts s [] false ss) rest k),
        (holds_few last (levels_after ss t) (held_behind 0 es) line (level_behind_stats ss s.frames t h) there.0, exps_keep es last there.1),
      )

  pub stats_keep : (ss : Stats) (s : Scope) (before : List Stat) (ends : Bool) (t : ℕ) (named : List Named) → HasLevel s.frames t → t ≤ 200 → Legal s.blocks named → Kept (stats_parts s before ends ss) → StatsKeep ss ends s.is_vararg t (passed_all before) named s.in_loop
  stats_keep EndStats s before ends t named h most sees k = tt
  stats_keep (MoreStats stat ss) s before ends t named h most sees k =
      let here : Scope = with_block s (record { before = before; behind = ss; ends_scope = ends }) in
      let behind : Scope = with_variables s (declared_by stat) in
      let rest : List Located = stats_parts behind (stat ∷ before) ends ss in
      let level : ℕ = level_after stat t in
      let later : Kept rest = back (stat_parts here stat) rest k.1 in
      let there = none_of (stat_violations here stat) (held_violations here (stat_line stat) (held_stat stat)) k.0 in
      let now : StatKeeps stat s.is_vararg t (names_ahead ss ends t level ++ (passed_all before ++ named)) s.in_loop =
      stat_keeps stat here t (names_ahead ss ends t level ++ (passed_all before ++ named)) h most
      (λ still. legal_within ss behind stat before s.blocks ends t level named still later sees)
      there.0 (front (stat_parts here stat) rest k.1) in (
        holds_few here t (held_stat stat) (stat_line stat) h there.1,
        (
          now,
          stats_keep ss behind (stat ∷ before) ends level named (level_step stat s.frames t h) (few_after stat s.is_vararg t _ s.in_loop most now) sees later,
        ),
      )

  pub stat_keeps : (x : Stat) (s : Scope) (t : ℕ) (named : List Named) → HasLevel s.frames t → t ≤ 200 → (level_after x t ≤ t → Legal s.blocks named) → stat_violations s x ≡ [] → Kept (stat_parts s x) → StatKeeps x s.is_vararg t named s.in_loop
  stat_keeps (Empty line) s t named h most sees v k = tt
  stat_keeps (Local line names es) s t named h most sees v k =
      (exps_keep es s (front (exps_parts s es) (declarations s names) k), declared_few names s t h most (back (exps_parts s es) (declarations s names) k))
  stat_keeps (LocalFunction line name body) s t named h most sees v k =
      let ds : List Located = name_declarations s (name ∷ []) in
      let within : Scope = with_variables s (plain_variable name ∷ []) in
      (body_keeps body within (back ds (body_parts within body) k), names_few (name ∷ []) s t h most (front ds (body_parts within body) k))
  stat_keeps (Assign line targets es) s t named h most sees v k =
      (exps_keep targets s (front (exps_parts s targets) (exps_parts s es) k), exps_keep es s (back (exps_parts s targets) (exps_parts s es) k))
  stat_keeps (CallStat line e) s t named h most sees v k = exp_keeps e s k
  stat_keeps (Do line block) s t named h most sees v k = block_keeps block s true t named h most (sees (omega arith)) k
  stat_keeps (While line e block) s t named h most sees v k =
      let loop : Scope = in_loop_of s in (
        exp_keeps e s (front (exp_parts s e) (block_parts loop true block) k),
        block_keeps block loop true t named h most (sees (omega arith)) (back (exp_parts s e) (block_parts loop true block) k),
      )
  stat_keeps (Repeat line block e) s t named h most sees v k =
      let loop : Scope = in_loop_of s in
      let last : Scope = scope_behind s block in
      let rest : List Located = at last (Until line e) ∷ exp_parts last e in
      let there = back (block_parts loop false block) rest k in (
        block_keeps block loop false t named h most (sees (omega arith)) (front (block_parts loop false block) rest k),
        (holds_few last (levels_in block t) (held e) line (level_behind block s.frames t h) there.0, exp_keeps e last there.1),
      )
  stat_keeps (If line arms) s t named h most sees v k = arms_keep arms s t named h most (sees (omega arith)) k
  stat_keeps (IfElse line arms block) s t named h most sees v k = (
    arms_keep arms s t named h most (sees (omega arith)) (front (arms_parts s arms) (block_parts s true block) k),
    block_keeps block s true t named h most (sees (omega arith)) (back (arms_parts s arms) (block_parts s true block) k),
  )
  stat_keeps (NumFor line name a b block) s t named h most sees v k =
      let within : Scope = with_variables (loop_scope s numeric_hidden) (plain_variable name ∷ []) in
      let ds : List Located = for_declarations (loop_scope s numeric_hidden) line (name ∷ []) in
      let ps : List Located = block_parts within true block in
      let first = front ((exp_parts s a ++ exp_parts s b) ++ ds) ps k in
      let both = front (exp_parts s a ++ exp_parts s b) ds first in
      let few : t + 4 ≤ 200 = counts_few s line t name h (back (exp_parts s a ++ exp_parts s b) ds first) in (
        exp_keeps a s (front (exp_parts s a) (exp_parts s b) both),
        (
          exp_keeps b s (back (exp_parts s a) (exp_parts s b) both),
          (
            few,
            (
              at_most 16000 (tokens_of block) line 12 v,
              block_keeps block within true (t + 4) named (counts_level s t name h) few (sees (omega arith)) (back ((exp_parts s a ++ exp_parts s b) ++ ds) ps k),
            ),
          ),
        ),
      )
  stat_keeps (NumForStep line name a b c block) s t named h most sees v k =
      let within : Scope = with_variables (loop_scope s numeric_hidden) (plain_variable name ∷ []) in
      let ds : List Located = for_declarations (loop_scope s numeric_hidden) line (name ∷ []) in
      let ps : List Located = block_parts within true block in
      let two : List Located = exp_parts s a ++ exp_parts s b in
      let three : List Located = two ++ exp_parts s c in
      let first = front (three ++ ds) ps k in
      let all = front three ds first in
      let both = front two (exp_parts s c) all in
      let few : t + 4 ≤ 200 = counts_few s line t name h (back three ds first) in (
        exp_keeps a s (front (exp_parts s a) (exp_parts s b) both),
        (
          exp_keeps b s (back (exp_parts s a) (exp_parts s b) both),
          (
            exp_keeps c s (back two (exp_parts s c) all),
            (
              few,
              (
                at_most 16000 (tokens_of block) line 12 v,
                block_keeps block within true (t + 4) named (counts_level s t name h) few (sees (omega arith)) (back (three ++ ds) ps k),
              ),
            ),
          ),
        ),
      )
  stat_keeps (GenFor line names es block) s t named h most sees v k =
      let hidden : Scope = loop_scope s generic_hidden in
      let within : Scope = with_variables hidden (map plain_variable names) in
      let ds : List Located = for_declarations hidden line names in
      let ps : List Located = block_parts within true block in
      let first = front (exps_parts s es ++ ds) ps k in
      let declared = back (exps_parts s es) ds first in
      let level : HasLevel hidden.frames (t + 4) = level_declared s.frames generic_hidden t h in
      let few : t + 4 + length names ≤ 200 = names_few names hidden (t + 4) level (declares_few hidden.frames (t + 4) line level declared.0) declared.1 in
      let level' : HasLevel within.frames (t + 4 + length names) =
      same_level within.frames (t + 4 + length (map plain_variable names)) (t + 4 + length names) (ap (λ n. t + 4 + n) (length-map names plain_variable)) (level_declared hidden.frames (map plain_variable names) (t + 4) level) in (
        exps_keep es s (front (exps_parts s es) ds first),
        (
          few,
          (
            at_most 16000 (tokens_of block) line 12 v,
            block_keeps block within true (t + 4 + length names) named level' few (sees (omega arith)) (back (exps_parts s es ++ ds) ps k),
          ),
        ),
      )
  stat_keeps (Label line name) s t named h most sees v k = tt
  stat_keeps (Goto line name) s t named h most sees v k = sees (omega arith) name.text (found_fine (find_label name.text s.blocks) line v)
  stat_keeps (Break line) s t named h most sees v k = allowed s.in_loop line 5 v

  pub arms_keep : (as' : Arms) (s : Scope) (t : ℕ) (named : List Named) → HasLevel s.frames t → t ≤ 200 → Legal s.blocks named → Kept (arms_parts s as') → ArmsKeep as' s.is_vararg t named s.in_loop
  arms_keep EndArms s t named h most sees k = tt
  arms_keep (MoreArms e block arms) s t named h most sees k =
      let two : List Located = exp_parts s e ++ block_parts s true block in
      let first = front two (arms_parts s arms) k in (
        exp_keeps e s (front (exp_parts s e) (block_parts s true block) first),
        (
          block_keeps block s true t named h most sees (back (exp_parts s e) (block_parts s true block) first),
          arms_keep arms s t named h most sees (back two (arms_parts s arms) k),
        ),
      )
