-- Each name of a tree with its places is found there.
use Rattle.std.proofs.Common.{rules, arith, ℕ, suc, ◌≡◌, ◌≤◌, Bool, true, false, List, [], ◌∷◌, ◌++◌, refl, sym, ap, ◌∙◌, subst, length, map, drop}
use Rattle.tree_core.specs.declared.name.Name.{Name}
use Rattle.tree_core.specs.declared.name.UpName.{UpName}
use Rattle.tree_core.specs.Tree.{Block, Falls, Returns, Body, BodyOf, Stats, EndStats, MoreStats, Stat, Empty, Local, LocalFunction, Assign, CallStat, Do, While, Repeat, If, IfElse, NumFor, NumForStep, GenFor, Label, Goto, Break, Arms, EndArms, MoreArms, Exps, EndExps, MoreExps, Exp, Function, Var, Index, Call, Method, Unary, Binary, And, Or, Paren, Table, Fields, EndFields, MoreFields, Field, Item, Keyed}
use Rattle.tree_terms.specs.Bodies.{upvalues_of}
use Rattle.scope_core.specs.declared.variable.Variable.{Variable}
use Rattle.scope_core.specs.Scopes.{Scope, Frame, bare, declare_all, declared_by, plain_variable, numeric_hidden, generic_hidden}
use Rattle.scope_core.specs.Parts.{Located, Until, Result, at, inside, with_variables, with_block, in_loop_of, loop_scope, scope_behind, name_declarations, declarations, for_declarations, exp_parts, exps_parts, fields_parts, field_parts, body_parts, block_parts, stats_parts, stat_parts, arms_parts}
use Rattle.scope_core.specs.Places.{up_name, firsts, outside_all, upvalues_of as upvalues_in, placed_names, placed_exp, placed_exps, placed_fields, placed_field, placed_body, placed_block, placed_stats, placed_stat, placed_arms}
use Rattle.scope_core.specs.Walked.{own_variables, own_upvalues, entered, left, after_open}
use Rattle.scope_core.proofs.Growing.{extends_same}
use Rattle.scope_core.proofs.Levels.{add_all, text_of_up}
use Rattle.scope_core.proofs.Effects.{Effect, bare_declare_all, closed_declare, closed_entered, level_declare, grown_declare, grown_length, outside_append, names_outside}
use Rattle.scope_core.proofs.WalkEffects.{body_effect, open_effect}
use Rattle.scope_core.proofs.Settling.{firsts_added, own_bare}
use Rattle.tree_terms.specs.Labels.{Named}
use Rattle.scope_laws.specs.Keeping.{ExpKeeps, ExpsKeep, FieldsKeep, FieldKeeps, BodyKeeps, BlockKeeps, StatsKeep, StatKeeps, ArmsKeep}
use Rattle.scope_laws.specs.Finding.{CapturesAreThere, ExpFinds, ExpsFind, FieldsFind, FieldFinds, BodyFinds, BlockFinds, StatsFind, StatFinds, ArmsFind}
use Rattle.scope_laws.proofs.Named.{has, HasAll, KnowsAll, first_has, last_has, adds_nothing, has_added, known_added, all_known}
use Rattle.scope_laws.proofs.Views.{View, as_of, view_named, view_names, names_length, view_counts, view_iterates, view_stat, view_stats, view_block, place_there, captures_there, name_known}

-- the names that a function has from outside it
abbrev outside_of : List Frame → Body → List (List ℕ)
outside_of gs (BodyOf params vararg inner ups line) =
    outside_all (length gs) (block_parts (with_variables (inside (bare gs) (BodyOf params vararg inner ups line)) (map plain_variable params)) true inner)

-- they are its upvalues, and the function around it knows them
record Entered (gs : List Frame) (b : Body) : Type 0 where
  pub upvalues : add_all (up_name gs) [] (outside_of gs b) ≡ upvalues_in gs b
  pub known : KnowsAll gs (outside_of gs b)

body_entered : {gs : List Frame} {c : ℕ} {hidden : List ℕ} {t : ℕ} {us : List UpName} (b : Body) (s : Scope) → View gs s.frames c hidden t us → HasAll us (outside_all c (body_parts s b)) → Entered gs b
body_entered {gs} {c} {hidden} {t} {us} (BodyOf params vararg inner ups line) s w h =
    let b : Body = BodyOf params vararg inner ups line in
    let vs : List Variable = map plain_variable params in
    let begin : Scope = inside (bare gs) b in
    let here : Scope = with_variables begin vs in
    let parts : List Located = block_parts here true inner in
    let texts : List (List ℕ) = outside_all (length gs) parts in
    let within : List Frame = declare_all (entered gs) vs in
    let ends : List Frame = after_open within inner in
    let p : Effect gs (left ends) (bare gs) (body_parts s b) = body_effect b gs s w.seen w.closed in
    let q : Effect within ends _ parts = open_effect inner within here true (bare_declare_all (entered gs) vs) (closed_declare (entered gs) vs (closed_entered gs w.closed)) in
    let size : length within ≡ suc (length gs) = grown_length (entered gs) within (grown_declare (entered gs) vs) in
    let had : HasAll (own_upvalues gs) (outside_all c (body_parts s b)) = subst (λ xs. HasAll xs (outside_all c (body_parts s b))) (sym w.own) h in
    let same : own_upvalues (left ends) ≡ own_upvalues gs =
    p.level 0 c (omega (arith, w.depth)) (drop 1 (left ends)) (extends_same (drop 1 (left ends)))
    ∙ adds_nothing (up_name (drop 1 (left ends))) (own_upvalues gs) (outside_all c (body_parts s b)) had in
    let variables : own_variables (left ends) ≡ own_variables gs = sym (own_bare (left ends)) ∙ ap own_variables p.same ∙ own_bare gs in
    let met : own_upvalues ends ≡ add_all (up_name (drop 1 ends)) [] texts =
    q.level 0 (length gs) (omega (arith, size)) (drop 1 ends) (extends_same (drop 1 ends))
    ∙ ap (λ xs. add_all (up_name (drop 1 ends)) xs texts) (level_declare 0 (entered gs) vs) in
    let all : HasAll (own_upvalues ends) texts = subst (λ xs. HasAll xs texts) (sym met) (has_added (up_name (drop 1 ends)) (text_of_up (drop 1 ends)) [] texts) in
    record {
      upvalues =
          firsts_added (up_name gs) (text_of_up gs) texts
          ∙ ap (λ ts. map (up_name gs) (firsts ts)) (sym (outside_append (length gs) (name_declarations begin params) parts ∙ ap (λ ts. ts ++ texts) (names_outside (length gs) begin params)));
      known = all_known gs ends texts q.closed p.grown variables same all;
    }

-- the view from inside a function, behind its parameters
inner_view :
    {gs frames : List Frame} {c : ℕ} {hidden : List ℕ} {t : ℕ} {us : List UpName} (params : List Name) (vararg : Bool) (inner : Block) (ups : List UpName) (line : ℕ)
    (outer : List UpName) → View gs frames c hidden t us → Entered gs (BodyOf params vararg inner ups line) → outer ≡ upvalues_in gs (BodyOf params vararg inner ups line)
    → (n : ℕ) → n ≡ length params → n ≤ 200
    → View (declare_all (record { variables = []; upvalues = outer } ∷ gs) (map plain_variable params)) (with_variables (inside (bare gs) (BodyOf params vararg inner ups line)) (map plain_variable params)).frames (length gs) [] n outer
inner_view {gs} {frames} {c} {hidden} {t} {us} params vararg inner ups line outer w n is m size most =
    let b : Body = BodyOf params vararg inner ups line in
    let found : outer ≡ add_all (up_name gs) [] (outside_of gs b) = is ∙ sym n.upvalues in
    let begin : View (record { variables = []; upvalues = outer } ∷ gs) (record { variables = []; upvalues = [] } ∷ bare gs) (length gs) [] 0 outer =
    record {
      closed = (
        (λ text h.
            known_added (up_name gs) (text_of_up gs) gs [] (outside_of gs b) (λ x e. absurd (search rules)) n.known text (ap (λ xs. has xs text) (sym found) ∙ h)),
        w.closed,
      );
      seen = refl;
      depth = refl;
      level = refl;
      most = omega arith;
      below = tt;
      shown = λ text k e. tt;
      own = refl;
    } in
    as_of refl (omega (arith, size)) (view_names params begin (omega (arith, size, most)))

mutual
  pub exp_found : (e : Exp) {gs : List Frame} {hidden : List ℕ} {t : ℕ} (c : ℕ) (us : List UpName) (s : Scope) → View gs s.frames c hidden t us → HasAll us (outside_all c (exp_parts s e)) → (v : Bool) → ExpKeeps (placed_exp gs e) v → ExpFinds (placed_exp gs e) hidden t (length us)
  exp_found (Function line body) c us s w h v k = body_found body c us s w h k
  exp_found (Var line name) c us s w h v k = place_there name.text w (name_known s name w h)
  exp_found (Index line a b) c us s w h v k =
      (exp_found a c us s w (first_has us c (exp_parts s a) (exp_parts s b) h) v k.0, exp_found b c us s w (last_has us c (exp_parts s a) (exp_parts s b) h) v k.1)
  exp_found (Call line a b) c us s w h v k =
      (exp_found a c us s w (first_has us c (exp_parts s a) (exps_parts s b) h) v k.0, exps_found b c us s w (last_has us c (exp_parts s a) (exps_parts s b) h) v k.1)
  exp_found (Method line a name b) c us s w h v k =
      (exp_found a c us s w (first_has us c (exp_parts s a) (exps_parts s b) h) v k.0, exps_found b c us s w (last_has us c (exp_parts s a) (exps_parts s b) h) v k.1)
  exp_found (Unary line operator operand) c us s w h v k = exp_found operand c us s w h v k
  exp_found (Binary line operator a b) c us s w h v k =
      (exp_found a c us s w (first_has us c (exp_parts s a) (exp_parts s b) h) v k.0, exp_found b c us s w (last_has us c (exp_parts s a) (exp_parts s b) h) v k.1)
  exp_found (And line a b) c us s w h v k =
      (exp_found a c us s w (first_has us c (exp_parts s a) (exp_parts s b) h) v k.0, exp_found b c us s w (last_has us c (exp_parts s a) (exp_parts s b) h) v k.1)
  exp_found (Or line a b) c us s w h v k =
      (exp_found a c us s w (first_has us c (exp_parts s a) (exp_parts s b) h) v k.0, exp_found b c us s w (last_has us c (exp_parts s a) (exp_parts s b) h) v k.1)
  exp_found (Paren line inner) c us s w h v k = exp_found inner c us s w h v k
  exp_found (Table line fields) c us s w h v k = fields_found fields c us s w h v k
  exp_found _ c us s w h v k = tt

  pub exps_found : (es : Exps) {gs : List Frame} {hidden : List ℕ} {t : ℕ} (c : ℕ) (us : List UpName) (s : Scope) → View gs s.frames c hidden t us → HasAll us (outside_all c (exps_parts s es)) → (v : Bool) → ExpsKeep (placed_exps gs es) v → ExpsFind (placed_exps gs es) hidden t (length us)
  exps_found EndExps c us s w h v k = tt
  exps_found (MoreExps a b) c us s w h v k =
      (exp_found a c us s w (first_has us c (exp_parts s a) (exps_parts s b) h) v k.0, exps_found b c us s w (last_has us c (exp_parts s a) (exps_parts s b) h) v k.1)

  pub fields_found : (fs : Fields) {gs : List Frame} {hidden : List ℕ} {t : ℕ} (c : ℕ) (us : List UpName) (s : Scope) → View gs s.frames c hidden t us → HasAll us (outside_all c (fields_parts s fs)) → (v : Bool) → FieldsKeep (placed_fields gs fs) v → FieldsFind (placed_fields gs fs) hidden t (length us)
  fields_found EndFields c us s w h v k = tt
  fields_found (MoreFields a b) c us s w h v k =
      (field_found a c us s w (first_has us c (field_parts s a) (fields_parts s b) h) v k.0, fields_found b c us s w (last_has us c (field_parts s a) (fields_parts s b) h) v k.1)

  pub field_found : (f : Field) {gs : List Frame} {hidden : List ℕ} {t : ℕ} (c : ℕ) (us : List UpName) (s : Scope) → View gs s.frames c hidden t us → HasAll us (outside_all c (field_parts s f)) → (v : Bool) → FieldKeeps (placed_field gs f) v → FieldFinds (placed_field gs f) hidden t (length us)
  field_found (Item value) c us s w h v k = exp_found value c us s w h v k
  field_found (Keyed line a b) c us s w h v k =
      (exp_found a c us s w (first_has us c (exp_parts s a) (exp_parts s b) h) v k.0, exp_found b c us s w (last_has us c (exp_parts s a) (exp_parts s b) h) v k.1)

  pub body_found : (b : Body) {gs : List Frame} {hidden : List ℕ} {t : ℕ} (c : ℕ) (us : List UpName) (s : Scope) → View gs s.frames c hidden t us → HasAll us (outside_all c (body_parts s b)) → BodyKeeps (placed_body gs b) → BodyFinds (placed_body gs b) × CapturesAreThere hidden t (length us) (upvalues_of (placed_body gs b))
  body_found (BodyOf params vararg inner ups line) {gs} {hidden} {t} c us s w h k =
      let b : Body = BodyOf params vararg inner ups line in
      let n : Entered gs b = body_entered b s w h in
      let outer : List UpName = upvalues_in gs b in
      let begin : List Frame = record { variables = []; upvalues = outer } ∷ gs in
      let here : Scope = with_variables (inside (bare gs) b) (map plain_variable params) in
      let size : length (placed_names begin params) ≡ length params = names_length begin params in
      let view : View (declare_all begin (map plain_variable params)) here.frames (length gs) [] (length (placed_names begin params)) outer =
      inner_view params vararg inner ups line outer w n refl (length (placed_names begin params)) size k.1.0 in
      let all : HasAll outer (outside_of gs b) = subst (λ xs. HasAll xs (outside_of gs b)) n.upvalues (has_added (up_name gs) (text_of_up gs) [] (outside_of gs b)) in (
        block_found inner (length gs) outer here true view all true vararg [] false k.1.1,
        subst (CapturesAreThere hidden t (length us)) n.upvalues (captures_there (outside_of gs b) [] w n.known tt),
      )

  pub block_found : (b : Block) {gs : List Frame} {hidden : List ℕ} {t : ℕ} (c : ℕ) (us : List UpName) (s : Scope) (ends : Bool) → View gs s.frames c hidden t us → HasAll us (outside_all c (block_parts s ends b)) → (falls v : Bool) (named : List Named) (loops : Bool) → BlockKeeps (placed_block gs b) falls v t named loops → BlockFinds (placed_block gs b) hidden t (length us)
  block_found (Falls ss tokens line) c us s ends w h falls v named loops k = stats_found ss c us s [] ends w h falls v [] named loops k
  block_found (Returns ss es tokens line) c us s ends w h falls v named loops k =
      let last : Scope = scope_behind s (Falls ss tokens line) in
      let rest : List Located = at last (Result line es) ∷ exps_parts last es in (
        stats_found ss c us s [] false w (first_has us c (stats_parts s [] false ss) rest h) false v [] named loops k.0,
        exps_found es c us last (view_stats ss w false v [] named loops k.0) (last_has us c (stats_parts s [] false ss) rest h) v k.1.1,
      )

  pub stats_found : (ss : Stats) {gs : List Frame} {hidden : List ℕ} {t : ℕ} (c : ℕ) (us : List UpName) (s : Scope) (before : List Stat) (ends : Bool) → View gs s.frames c hidden t us → HasAll us (outside_all c (stats_parts s before ends ss)) → (falls v : Bool) (names named : List Named) (loops : Bool) → StatsKeep (placed_stats gs ss) falls v t names named loops → StatsFind (placed_stats gs ss) hidden t (length us)
  stats_found EndStats c us s before ends w h falls v names named loops k = tt
  stats_found (MoreStats x ss) c us s before ends w h falls v names named loops k =
      let here : Scope = with_block s (record { before = before; behind = ss; ends_scope = ends }) in
      let behind : Scope = with_variables s (declared_by x) in
      let rest : List Located = stats_parts behind (x ∷ before) ends ss in (
        stat_found x c us here w (first_has us c (stat_parts here x) rest h) v _ loops k.1.0,
        stats_found ss c us behind (x ∷ before) ends (view_stat x w v _ loops k.1.0) (last_has us c (stat_parts here x) rest h) falls v _ named loops k.1.1,
      )

  pub stat_found : (x : Stat) {gs : List Frame} {hidden : List ℕ} {t : ℕ} (c : ℕ) (us : List UpName) (s : Scope) → View gs s.frames c hidden t us → HasAll us (outside_all c (stat_parts s x)) → (v : Bool) (named : List Named) (loops : Bool) → StatKeeps (placed_stat gs x) v t named loops → StatFinds (placed_stat gs x) hidden t (length us)
  stat_found (Empty line) c us s w h v named loops k = tt
  stat_found (Local line names es) c us s w h v named loops k =
      exps_found es c us s w (first_has us c (exps_parts s es) (declarations s names) h) v k.0
  stat_found (LocalFunction line name body) c us s w h v named loops k =
      let within : Scope = with_variables s (plain_variable name ∷ []) in
      body_found body c us within (view_named name.text false w k.1) (last_has us c (name_declarations s (name ∷ [])) (body_parts within body) h) k.0
  stat_found (Assign line targets es) c us s w h v named loops k = (
    exps_found targets c us s w (first_has us c (exps_parts s targets) (exps_parts s es) h) v k.0,
    exps_found es c us s w (last_has us c (exps_parts s targets) (exps_parts s es) h) v k.1,
  )
  stat_found (CallStat line e) c us s w h v named loops k = exp_found e c us s w h v k
  stat_found (Do line block) c us s w h v named loops k = block_found block c us s true w h true v named loops k
  stat_found (While line e block) c us s w h v named loops k =
      let loop : Scope = in_loop_of s in (
        exp_found e c us s w (first_has us c (exp_parts s e) (block_parts loop true block) h) v k.0,
        block_found block c us loop true w (last_has us c (exp_parts s e) (block_parts loop true block) h) true v named true k.1,
      )
  stat_found (Repeat line block e) c us s w h v named loops k =
      let loop : Scope = in_loop_of s in
      let last : Scope = scope_behind s block in
      let rest : List Located = at last (Until line e) ∷ exp_parts last e in (
        block_found block c us loop false w (first_has us c (block_parts loop false block) rest h) false v named true k.0,
        exp_found e c us last (view_block block w false v named true k.0) (last_has us c (block_parts loop false block) rest h) v k.1.1,
      )
  stat_found (If line arms) c us s w h v named loops k = arms_found arms c us s w h v named loops k
  stat_found (IfElse line arms block) c us s w h v named loops k = (
    arms_found arms c us s w (first_has us c (arms_parts s arms) (block_parts s true block) h) v named loops k.0,
    block_found block c us s true w (last_has us c (arms_parts s arms) (block_parts s true block) h) true v named loops k.1,
  )
  stat_found (NumFor line name a b block) c us s w h v named loops k =
      let within : Scope = with_variables (loop_scope s numeric_hidden) (plain_variable name ∷ []) in
      let ds : List Located = for_declarations (loop_scope s numeric_hidden) line (name ∷ []) in
      let ps : List Located = block_parts within true block in
      let two : List Located = exp_parts s a ++ exp_parts s b in
      let both = first_has us c two ds (first_has us c (two ++ ds) ps h) in (
        exp_found a c us s w (first_has us c (exp_parts s a) (exp_parts s b) both) v k.0,
        (
          exp_found b c us s w (last_has us c (exp_parts s a) (exp_parts s b) both) v k.1.0,
          block_found block c us within true (view_counts name w k.1.1.0) (last_has us c (two ++ ds) ps h) true v named true k.1.1.1.1,
        ),
      )
  stat_found (NumForStep line name a b d block) c us s w h v named loops k =
      let within : Scope = with_variables (loop_scope s numeric_hidden) (plain_variable name ∷ []) in
      let ds : List Located = for_declarations (loop_scope s numeric_hidden) line (name ∷ []) in
      let ps : List Located = block_parts within true block in
      let two : List Located = exp_parts s a ++ exp_parts s b in
      let three : List Located = two ++ exp_parts s d in
      let all = first_has us c three ds (first_has us c (three ++ ds) ps h) in
      let both = first_has us c two (exp_parts s d) all in (
        exp_found a c us s w (first_has us c (exp_parts s a) (exp_parts s b) both) v k.0,
        (
          exp_found b c us s w (last_has us c (exp_parts s a) (exp_parts s b) both) v k.1.0,
          (
            exp_found d c us s w (last_has us c two (exp_parts s d) all) v k.1.1.0,
            block_found block c us within true (view_counts name w k.1.1.1.0) (last_has us c (three ++ ds) ps h) true v named true k.1.1.1.1.1,
          ),
        ),
      )
  stat_found (GenFor line names es block) {gs} {hidden} {t} c us s w h v named loops k =
      let within : Scope = with_variables (loop_scope s generic_hidden) (map plain_variable names) in
      let ds : List Located = for_declarations (loop_scope s generic_hidden) line names in
      let ps : List Located = block_parts within true block in
      let size : length (placed_names (declare_all gs generic_hidden) names) ≡ length names = names_length (declare_all gs generic_hidden) names in
      let view = as_of refl (omega (arith, size)) (view_iterates names w (omega (arith, size, k.1.0))) in (
        exps_found es c us s w (first_has us c (exps_parts s es) ds (first_has us c (exps_parts s es ++ ds) ps h)) v k.0,
        block_found block c us within true view (last_has us c (exps_parts s es ++ ds) ps h) true v named true k.1.1.1,
      )
  stat_found (Label line name) c us s w h v named loops k = tt
  stat_found (Goto line name) c us s w h v named loops k = tt
  stat_found (Break line) c us s w h v named loops k = tt

  pub arms_found : (as' : Arms) {gs : List Frame} {hidden : List ℕ} {t : ℕ} (c : ℕ) (us : List UpName) (s : Scope) → View gs s.frames c hidden t us → HasAll us (outside_all c (arms_parts s as')) → (v : Bool) (named : List Named) (loops : Bool) → ArmsKeep (placed_arms gs as') v t named loops → ArmsFind (placed_arms gs as') hidden t (length us)
  arms_found EndArms c us s w h v named loops k = tt
  arms_found (MoreArms e block arms) c us s w h v named loops k =
      let two : List Located = exp_parts s e ++ block_parts s true block in
      let first = first_has us c two (arms_parts s arms) h in (
        exp_found e c us s w (first_has us c (exp_parts s e) (block_parts s true block) first) v k.0,
        (
          block_found block c us s true w (last_has us c (exp_parts s e) (block_parts s true block) first) true v named loops k.1.0,
          arms_found arms c us s w (last_has us c two (arms_parts s arms) h) v named loops k.1.1,
        ),
      )
