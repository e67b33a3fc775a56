-- The effects of walks over all parts of a tree.
use Rattle.std.proofs.Common.{ℕ, ◌≡◌, Bool, true, false, List, [], ◌∷◌, ◌++◌, refl, sym, ap, ◌∙◌, map, append_assoc}
use Rattle.tree_core.specs.Tree.{Block, Falls, Returns, Body, BodyOf, Stats, EndStats, MoreStats, Stat, Local, LocalFunction, Assign, CallStat, Do, While, Repeat, If, IfElse, NumFor, NumForStep, GenFor, Arms, EndArms, MoreArms, Exps, EndExps, MoreExps, Exp, Vararg, Function, Var, Index, Call, Method, Unary, Binary, And, Or, Paren, Table, Fields, EndFields, MoreFields, Field, Item, Keyed}
use Rattle.scope_core.specs.declared.variable.Variable.{Variable}
use Rattle.scope_core.specs.declared.variable.Variable.TheVariants.{Hidden}
use Rattle.scope_core.specs.Scopes.{Scope, Frame, bare, declare, declare_all, declared_by, behind, behind_stats, plain_variable, declared_variable}
use Rattle.scope_core.specs.Parts.{Located, Statement, Until, Result, Inner, at, inside, with_variables, with_block, in_loop_of, loop_scope, scope_behind, name_declarations, declarations, for_declarations, exp_parts, exps_parts, fields_parts, field_parts, body_parts, block_parts, stats_parts, stat_parts, arms_parts}
use Rattle.scope_core.specs.Places.{outside_all}
use Rattle.scope_core.specs.Walked.{ended, entered, left, after_exp, after_exps, after_fields, after_field, after_body, after_open, after_stats, after_stat, after_arms}
use Rattle.scope_core.proofs.Levels.{Closed}
use Rattle.scope_core.proofs.Effects.{Effect, nothing, then_also, seen_as, same_names, naming, declaring, declaring_names, declaring_locals, names_outside, outside_append, bare_declare_all, Opened, opened_declare, opened_stats, opened_through, ending, leaving, closed_entered, closed_declare}

-- one part and another that sees the same variables
two : {fs gs hs : List Frame} {ps qs : List Located} (s : Scope) → s.frames ≡ bare fs → Effect fs gs (bare fs) ps → (s.frames ≡ bare gs → Closed gs → Effect gs hs (bare gs) qs) → Effect fs hs (bare fs) (ps ++ qs)
two {fs} {gs} {hs} {ps} {qs} s h p k =
    seen_as fs hs (bare gs) (bare fs) (ps ++ qs) p.same (then_also fs gs hs (bare fs) (bare gs) ps qs p (k (h ∙ sym p.same) p.closed))

opened_behind : (fs : List Frame) (b : Block) → Opened fs (behind fs b)
opened_behind fs (Falls stats tokens line) = opened_stats fs stats
opened_behind fs (Returns stats values tokens line) = opened_stats fs stats

-- a block whose variables end with it
pub closing : (fs : List Frame) (b : Block) (ps : List Located) → Effect fs (after_open fs b) (behind (bare fs) b) ps → Effect fs (ended fs (after_open fs b)) (bare fs) ps
closing fs b ps p = ending fs (after_open fs b) (behind (bare fs) b) ps (opened_behind (bare fs) b) p

-- a loop with variables of its own, behind its values
loop_ended :
    (fs es gs : List Frame) (b : Block) (vs : List Variable) (ps ds qs : List Located)
    → ((o : ℕ) → [] ≡ outside_all o ds)
    → Effect fs es (bare fs) ps
    → Effect (declare_all es vs) gs (behind (bare (declare_all es vs)) b) qs
    → Effect fs (ended fs gs) (bare fs) (ps ++ (ds ++ qs))
loop_ended fs es gs b vs ps ds qs none p q =
    let declared : Effect es (declare_all es vs) (declare_all (bare es) vs) ds =
    same_names es (declare_all es vs) (declare_all (bare es) vs) [] ds none (declaring es vs p.closed) in
    let inner : Effect es gs (behind (bare (declare_all es vs)) b) (ds ++ qs) =
    then_also es (declare_all es vs) gs (declare_all (bare es) vs) (behind (bare (declare_all es vs)) b) ds qs declared q in
    let all : Effect fs gs (behind (bare (declare_all es vs)) b) (ps ++ (ds ++ qs)) =
    then_also fs es gs (bare fs) (behind (bare (declare_all es vs)) b) ps (ds ++ qs) p inner in
    let seen : behind (bare (declare_all es vs)) b ≡ behind (declare_all (bare fs) vs) b =
    ap (λ hs. behind hs b) (sym (bare_declare_all es vs) ∙ ap (λ hs. declare_all hs vs) p.same) in
    ending fs gs (behind (declare_all (bare fs) vs) b) (ps ++ (ds ++ qs))
    (opened_through (bare fs) (declare_all (bare fs) vs) (behind (declare_all (bare fs) vs) b) (opened_declare (bare fs) vs) (opened_behind (declare_all (bare fs) vs) b))
    (seen_as fs gs (behind (bare (declare_all es vs)) b) (behind (declare_all (bare fs) vs) b) (ps ++ (ds ++ qs)) seen all)

-- the scope of a loop's block
loop_frames : (frames es : List Frame) (vs : List Variable) → frames ≡ bare es → declare_all frames vs ≡ bare (declare_all es vs)
loop_frames frames es vs h = ap (λ hs. declare_all hs vs) h ∙ bare_declare_all es vs

regrouped : (fs gs b : List Frame) (as' bs cs : List Located) → Effect fs gs b (as' ++ (bs ++ cs)) → Effect fs gs b ((as' ++ bs) ++ cs)
regrouped fs gs b as' bs cs p = same_names fs gs b (as' ++ (bs ++ cs)) ((as' ++ bs) ++ cs) (λ o. ap (outside_all o) (sym (append_assoc as' bs cs))) p

mutual
  pub exp_effect : (e : Exp) (fs : List Frame) (s : Scope) → s.frames ≡ bare fs → Closed fs → Effect fs (after_exp fs e) (bare fs) (exp_parts s e)
  exp_effect (Vararg line) fs s h c = same_names fs fs (bare fs) [] (exp_parts s (Vararg line)) (λ o. refl) (nothing fs c)
  exp_effect (Function line body) fs s h c = body_effect body fs s h c
  exp_effect (Var line name) fs s h c = naming fs s name h c
  exp_effect (Index line indexed key) fs s h c = two s h (exp_effect indexed fs s h c) (exp_effect key (after_exp fs indexed) s)
  exp_effect (Call line called arguments) fs s h c = two s h (exp_effect called fs s h c) (exps_effect arguments (after_exp fs called) s)
  exp_effect (Method line object name arguments) fs s h c = two s h (exp_effect object fs s h c) (exps_effect arguments (after_exp fs object) s)
  exp_effect (Unary line operator operand) fs s h c = exp_effect operand fs s h c
  exp_effect (Binary line operator first second) fs s h c = two s h (exp_effect first fs s h c) (exp_effect second (after_exp fs first) s)
  exp_effect (And line first second) fs s h c = two s h (exp_effect first fs s h c) (exp_effect second (after_exp fs first) s)
  exp_effect (Or line first second) fs s h c = two s h (exp_effect first fs s h c) (exp_effect second (after_exp fs first) s)
  exp_effect (Paren line inner) fs s h c = exp_effect inner fs s h c
  exp_effect (Table line fields) fs s h c = fields_effect fields fs s h c
  exp_effect _ fs s h c = nothing fs c

  pub exps_effect : (es : Exps) (fs : List Frame) (s : Scope) → s.frames ≡ bare fs → Closed fs → Effect fs (after_exps fs es) (bare fs) (exps_parts s es)
  exps_effect EndExps fs s h c = nothing fs c
  exps_effect (MoreExps exp exps) fs s h c = two s h (exp_effect exp fs s h c) (exps_effect exps (after_exp fs exp) s)

  pub fields_effect : (es : Fields) (fs : List Frame) (s : Scope) → s.frames ≡ bare fs → Closed fs → Effect fs (after_fields fs es) (bare fs) (fields_parts s es)
  fields_effect EndFields fs s h c = nothing fs c
  fields_effect (MoreFields field fields) fs s h c = two s h (field_effect field fs s h c) (fields_effect fields (after_field fs field) s)

  pub field_effect : (f : Field) (fs : List Frame) (s : Scope) → s.frames ≡ bare fs → Closed fs → Effect fs (after_field fs f) (bare fs) (field_parts s f)
  field_effect (Item value) fs s h c = exp_effect value fs s h c
  field_effect (Keyed line key value) fs s h c = two s h (exp_effect key fs s h c) (exp_effect value (after_exp fs key) s)

  pub body_effect : (b : Body) (fs : List Frame) (s : Scope) → s.frames ≡ bare fs → Closed fs → Effect fs (after_body fs b) (bare fs) (body_parts s b)
  body_effect (BodyOf params vararg inner upvalues line) fs s h c =
      let begin : Scope = inside s.frames (BodyOf params vararg inner upvalues line) in
      let vs : List Variable = map plain_variable params in
      let within : List Frame = declare_all (entered fs) vs in
      let ps : List Located = block_parts (with_variables begin vs) true inner in
      let seen : (with_variables begin vs).frames ≡ bare within =
      ap (λ hs. declare_all (record { variables = []; upvalues = [] } ∷ hs) vs) h ∙ bare_declare_all (entered fs) vs in
      same_names fs (left (after_open within inner)) (bare fs) ps (body_parts s (BodyOf params vararg inner upvalues line))
      (λ o. sym (outside_append o (name_declarations begin params) ps ∙ ap (λ ts. ts ++ outside_all o ps) (names_outside o begin params)))
      (leaving fs (after_open within inner) (behind (bare within) inner) vs ps
      (open_effect inner within (with_variables begin vs) true seen (closed_declare (entered fs) vs (closed_entered fs c))))

  pub open_effect : (b : Block) (fs : List Frame) (s : Scope) (ends : Bool) → s.frames ≡ bare fs → Closed fs → Effect fs (after_open fs b) (behind (bare fs) b) (block_parts s ends b)
  open_effect (Falls stats tokens line) fs s ends h c = stats_effect stats fs s [] ends h c
  open_effect (Returns stats values tokens line) fs s ends h c =
      let last : Scope = scope_behind s (Falls stats tokens line) in
      let gs : List Frame = after_stats fs stats in
      let p : Effect fs gs (behind_stats (bare fs) stats) (stats_parts s [] false stats) = stats_effect stats fs s [] false h c in
      let q : Effect gs (after_exps gs values) (bare gs) (exps_parts last values) =
      exps_effect values gs last (ap (λ hs. behind_stats hs stats) h ∙ sym p.same) p.closed in
      let r : Effect gs (after_exps gs values) (bare gs) (at last (Result line values) ∷ exps_parts last values) =
      same_names gs (after_exps gs values) (bare gs) (exps_parts last values) (at last (Result line values) ∷ exps_parts last values) (λ o. refl) q in
      seen_as fs (after_exps gs values) (bare gs) (behind_stats (bare fs) stats) (block_parts s ends (Returns stats values tokens line)) p.same
      (then_also fs gs (after_exps gs values) (behind_stats (bare fs) stats) (bare gs) (stats_parts s [] false stats) (at last (Result line values) ∷ exps_parts last values) p r)

  pub stats_effect : (ss : Stats) (fs : List Frame) (s : Scope) (before : List Stat) (ends : Bool) → s.frames ≡ bare fs → Closed fs → Effect fs (after_stats fs ss) (behind_stats (bare fs) ss) (stats_parts s before ends ss)
  stats_effect EndStats fs s before ends h c = nothing fs c
  stats_effect (MoreStats stat ss) fs s before ends h c =
      let here : Scope = with_block s (record { before = before; behind = ss; ends_scope = ends }) in
      let vs : List Variable = declared_by stat in
      let gs : List Frame = after_stat fs stat in
      let p : Effect fs gs (declare_all (bare fs) vs) (stat_parts here stat) = stat_effect stat fs here h c in
      let q : Effect gs (after_stats gs ss) (behind_stats (bare gs) ss) (stats_parts (with_variables s vs) (stat ∷ before) ends ss) =
      stats_effect ss gs (with_variables s vs) (stat ∷ before) ends (ap (λ hs. declare_all hs vs) h ∙ sym p.same) p.closed in
      let parts : List Located = stat_parts here stat ++ stats_parts (with_variables s vs) (stat ∷ before) ends ss in
      same_names fs (after_stats gs ss) (behind_stats (declare_all (bare fs) vs) ss) parts (at here (Statement stat) ∷ parts) (λ o. refl)
      (seen_as fs (after_stats gs ss) (behind_stats (bare gs) ss) (behind_stats (declare_all (bare fs) vs) ss) parts (ap (λ hs. behind_stats hs ss) p.same)
      (then_also fs gs (after_stats gs ss) (declare_all (bare fs) vs) (behind_stats (bare gs) ss) (stat_parts here stat) (stats_parts (with_variables s vs) (stat ∷ before) ends ss) p q))

  pub stat_effect : (t : Stat) (fs : List Frame) (s : Scope) → s.frames ≡ bare fs → Closed fs → Effect fs (after_stat fs t) (declare_all (bare fs) (declared_by t)) (stat_parts s t)
  stat_effect (Local line names values) fs s h c =
      let gs : List Frame = after_exps fs values in
      let vs : List Variable = map declared_variable names in
      let p : Effect fs gs (bare fs) (exps_parts s values) = exps_effect values fs s h c in
      seen_as fs (declare_all gs vs) (declare_all (bare gs) vs) (declare_all (bare fs) vs) (exps_parts s values ++ declarations s names) (ap (λ hs. declare_all hs vs) p.same)
      (then_also fs gs (declare_all gs vs) (bare fs) (declare_all (bare gs) vs) (exps_parts s values) (declarations s names) p (declaring_locals gs s names p.closed))
  stat_effect (LocalFunction line name body) fs s h c =
      let vs : List Variable = plain_variable name ∷ [] in
      let gs : List Frame = declare_all fs vs in
      let p : Effect fs gs (declare_all (bare fs) vs) (name_declarations s (name ∷ [])) = declaring_names fs s (name ∷ []) c in
      seen_as fs (after_body gs body) (bare gs) (declare_all (bare fs) vs) (name_declarations s (name ∷ []) ++ body_parts (with_variables s vs) body) p.same
      (then_also fs gs (after_body gs body) (declare_all (bare fs) vs) (bare gs) (name_declarations s (name ∷ [])) (body_parts (with_variables s vs) body) p
      (body_effect body gs (with_variables s vs) (loop_frames s.frames fs vs h) p.closed))
  stat_effect (Assign line targets values) fs s h c = two s h (exps_effect targets fs s h c) (exps_effect values (after_exps fs targets) s)
  stat_effect (CallStat line call) fs s h c = exp_effect call fs s h c
  stat_effect (Do line block) fs s h c = closing fs block (block_parts s true block) (open_effect block fs s true h c)
  stat_effect (While line test block) fs s h c =
      two s h (exp_effect test fs s h c)
      (λ h' c'. closing (after_exp fs test) block (block_parts (in_loop_of s) true block) (open_effect block (after_exp fs test) (in_loop_of s) true h' c'))
  stat_effect (Repeat line block test) fs s h c =
      let last : Scope = scope_behind s block in
      let gs : List Frame = after_open fs block in
      let p : Effect fs gs (behind (bare fs) block) (block_parts (in_loop_of s) false block) = open_effect block fs (in_loop_of s) false h c in
      let q : Effect gs (after_exp gs test) (bare gs) (exp_parts last test) = exp_effect test gs last (ap (λ hs. behind hs block) h ∙ sym p.same) p.closed in
      let r : Effect gs (after_exp gs test) (bare gs) (at last (Until line test) ∷ exp_parts last test) =
      same_names gs (after_exp gs test) (bare gs) (exp_parts last test) (at last (Until line test) ∷ exp_parts last test) (λ o. refl) q in
      let parts : List Located = block_parts (in_loop_of s) false block ++ at last (Until line test) ∷ exp_parts last test in
      ending fs (after_exp gs test) (behind (bare fs) block) parts (opened_behind (bare fs) block)
      (seen_as fs (after_exp gs test) (bare gs) (behind (bare fs) block) parts p.same
      (then_also fs gs (after_exp gs test) (behind (bare fs) block) (bare gs) (block_parts (in_loop_of s) false block) (at last (Until line test) ∷ exp_parts last test) p r))
  stat_effect (If line arms) fs s h c = arms_effect arms fs s h c
  stat_effect (IfElse line arms otherwise) fs s h c =
      two s h (arms_effect arms fs s h c)
      (λ h' c'. closing (after_arms fs arms) otherwise (block_parts s true otherwise) (open_effect otherwise (after_arms fs arms) s true h' c'))
  stat_effect (NumFor line name first limit block) fs s h c =
      let es : List Frame = after_exp (after_exp fs first) limit in
      let vs : List Variable = Hidden ∷ Hidden ∷ Hidden ∷ plain_variable name ∷ [] in
      let inner : Scope = record (in_loop_of s) { frames = declare_all s.frames vs } in
      let p : Effect fs es (bare fs) (exp_parts s first ++ exp_parts s limit) = two s h (exp_effect first fs s h c) (exp_effect limit (after_exp fs first) s) in
      let ds : List Located = for_declarations (loop_scope s (Hidden ∷ Hidden ∷ Hidden ∷ [])) line (name ∷ []) in
      regrouped fs (ended fs (after_open (declare_all es vs) block)) (bare fs) (exp_parts s first ++ exp_parts s limit) ds (block_parts inner true block)
      (loop_ended fs es (after_open (declare_all es vs) block) block vs (exp_parts s first ++ exp_parts s limit) ds (block_parts inner true block) (λ o. refl) p
      (open_effect block (declare_all es vs) inner true (loop_frames s.frames es vs (h ∙ sym p.same)) (closed_declare es vs p.closed)))
  stat_effect (NumForStep line name first limit step block) fs s h c =
      let es : List Frame = after_exp (after_exp (after_exp fs first) limit) step in
      let vs : List Variable = Hidden ∷ Hidden ∷ Hidden ∷ plain_variable name ∷ [] in
      let inner : Scope = record (in_loop_of s) { frames = declare_all s.frames vs } in
      let p : Effect fs es (bare fs) ((exp_parts s first ++ exp_parts s limit) ++ exp_parts s step) =
      two s h (two s h (exp_effect first fs s h c) (exp_effect limit (after_exp fs first) s)) (exp_effect step (after_exp (after_exp fs first) limit) s) in
      let ds : List Located = for_declarations (loop_scope s (Hidden ∷ Hidden ∷ Hidden ∷ [])) line (name ∷ []) in
      let ps : List Located = (exp_parts s first ++ exp_parts s limit) ++ exp_parts s step in
      regrouped fs (ended fs (after_open (declare_all es vs) block)) (bare fs) ps ds (block_parts inner true block)
      (loop_ended fs es (after_open (declare_all es vs) block) block vs ps ds (block_parts inner true block) (λ o. refl) p
      (open_effect block (declare_all es vs) inner true (loop_frames s.frames es vs (h ∙ sym p.same)) (closed_declare es vs p.closed)))
  stat_effect (GenFor line names values block) fs s h c =
      let es : List Frame = after_exps fs values in
      let vs : List Variable = Hidden ∷ Hidden ∷ Hidden ∷ Hidden ∷ map plain_variable names in
      let hidden : Scope = loop_scope s (Hidden ∷ Hidden ∷ Hidden ∷ Hidden ∷ []) in
      let inner : Scope = record (in_loop_of s) { frames = declare_all s.frames vs } in
      let p : Effect fs es (bare fs) (exps_parts s values) = exps_effect values fs s h c in
      regrouped fs (ended fs (after_open (declare_all es vs) block)) (bare fs) (exps_parts s values) (for_declarations hidden line names) (block_parts inner true block)
      (loop_ended fs es (after_open (declare_all es vs) block) block vs (exps_parts s values) (for_declarations hidden line names) (block_parts inner true block)
      (λ o. sym (names_outside o hidden names)) p
      (open_effect block (declare_all es vs) inner true (loop_frames s.frames es vs (h ∙ sym p.same)) (closed_declare es vs p.closed)))
  stat_effect _ fs s h c = nothing fs c

  pub arms_effect : (as' : Arms) (fs : List Frame) (s : Scope) → s.frames ≡ bare fs → Closed fs → Effect fs (after_arms fs as') (bare fs) (arms_parts s as')
  arms_effect EndArms fs s h c = nothing fs c
  arms_effect (MoreArms test block arms) fs s h c =
      two s h
      (two s h (exp_effect test fs s h c) (λ h' c'. closing (after_exp fs test) block (block_parts s true block) (open_effect block (after_exp fs test) s true h' c')))
      (arms_effect arms (ended (after_exp fs test) (after_open (after_exp fs test) block)) s)
