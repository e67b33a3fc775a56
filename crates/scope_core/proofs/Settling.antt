-- The places that a walk sets are those of the finished tree.
use Rattle.std.proofs.Common.{arith, ℕ, suc, ◌+◌, ◌≡◌, ◌<◌, Bool, true, false, not, ◌&&◌, ◌||◌, List, [], ◌∷◌, ◌++◌, Option, Some, None, refl, sym, ap, ap₂, ◌∙◌, subst, map, length, append_assoc, if◌then◌else◌}
use Rattle.std.specs.Prelude.{is_some, filter}
use Rattle.std.specs.Str.{bytes_eq}
use Rattle.tree_core.specs.declared.name.Name.{Name}
use Rattle.tree_core.specs.declared.name.Declared.{Declared}
use Rattle.tree_core.specs.declared.name.Place.{Place}
use Rattle.tree_core.specs.declared.name.UpName.{UpName}
use Rattle.tree_core.specs.Tree.{Block, Falls, Returns, Body, BodyOf, Stats, EndStats, MoreStats, Stat, Local, LocalFunction, Assign, CallStat, Do, While, Repeat, If, IfElse, NumFor, NumForStep, GenFor, Arms, EndArms, MoreArms, Exps, EndExps, MoreExps, Exp, Function, Var, Index, Call, Method, Unary, Binary, And, Or, Paren, Table, Fields, EndFields, MoreFields, Field, Item, Keyed}
use Rattle.scope_core.specs.declared.variable.Variable.{Variable}
use Rattle.scope_core.specs.declared.variable.Variable.TheVariants.{Hidden}
use Rattle.scope_core.specs.Scopes.{Scope, Frame, bare, declare, declare_all, declared_by, behind, behind_stats, plain_variable, declared_variable, needed, upvalue_of}
use Rattle.scope_core.specs.Parts.{Located, with_variables, inside, name_declarations, exp_parts, exps_parts, block_parts, arms_parts}
use Rattle.scope_core.specs.Places.{firsts, up_name, upvalues_of, outside_all, placed_name, placed_names, placed_declared, first_placed, next_register, placed_exp, placed_exps, placed_fields, placed_field, placed_body, placed_block, placed_stats, placed_stat, placed_arms}
use Rattle.scope_core.specs.Reaching.{reached}
use Rattle.scope_core.specs.Walked.{own_variables, own_upvalues, kept, ended, entered, left, named, after_exp, after_exps, after_fields, after_field, after_body, after_open, after_stats, after_stat, after_arms, settled_exp, settled_exps, settled_fields, settled_field, settled_body, settled_block, settled_stats, settled_stat, settled_arms}
use Rattle.std.proofs.lemmas.Slice.Eq.{bytes_eq-Decides}
use Rattle.scope_core.proofs.Captures.{pushed}
use Rattle.scope_core.proofs.Growing.{still_there, append_nil, Extends, Grown, extends_through, grown_through, grown_of, extends_of, knows, same_place, same_needed}
use Rattle.scope_core.proofs.Levels.{missed, text_of_up, add, add_all, Closed, reached_extends, knows_reached}
use Rattle.scope_core.proofs.Effects.{Effect, bare_declare_all, bare_extends, bare_length, grown_declare, grown_same, closed_declare, closed_entered, level_declare, drop_left, grown_length, outside_append, names_outside}
use Rattle.scope_core.proofs.WalkEffects.{exp_effect, exps_effect, fields_effect, field_effect, body_effect, open_effect, stats_effect, stat_effect, arms_effect, closing}

-- The upvalues of a function: each name once, where it stands first.

abbrev has : List UpName → List ℕ → Bool
has us text = is_some (upvalue_of text us)

abbrev fresh : List UpName → List ℕ → Bool
fresh us text = not (has us text)

has_push : (us : List UpName) (u : UpName) (text : List ℕ) → has (us ++ u ∷ []) text ≡ (has us text || bytes_eq u.text text)
has_push us u text = by (upvalue_of text us) (bytes_eq u.text text) refl refl
  where
    by : (q : Option ℕ) (b : Bool) → upvalue_of text us ≡ q → bytes_eq u.text text ≡ b → has (us ++ u ∷ []) text ≡ (has us text || bytes_eq u.text text)
    by (Some i) b e f = ap is_some (still_there text us (us ++ u ∷ []) i (u ∷ [], refl) e) ∙ ap (λ q. is_some q || bytes_eq u.text text) (sym e)
    by None true e f =
        ap is_some (pushed (λ (v : UpName). bytes_eq v.text text) us u e f) ∙ ap₂ (λ q b. is_some q || b) (sym e) (sym f)
    by None false e f = ap is_some (missed text us u e f) ∙ ap₂ (λ q b. is_some q || b) (sym e) (sym f)

filters : {X : Type 0} (p q r : X → Bool) → ((x : X) → p x ≡ (r x && q x)) → (xs : List X) → filter p xs ≡ filter q (filter r xs)
filters p q r e [] = refl
filters p q r e (x ∷ xs) = ap (λ b. if b then x ∷ filter p xs else filter p xs) (e x) ∙ by (r x) (filters p q r e xs)
  where
    by : (b : Bool) → filter p xs ≡ filter q (filter r xs) → (if (b && q x) then x ∷ filter p xs else filter p xs) ≡ filter q (if b then x ∷ filter r xs else filter r xs)
    by true rest = ap (λ ys. if q x then x ∷ ys else ys) rest
    by false rest = rest

known_twice : (us : List UpName) (text other : List ℕ) → has us text ≡ true → fresh us other ≡ (not (bytes_eq text other) && fresh us other)
known_twice us text other h = by (bytes_eq text other) refl
  where
    by : (b : Bool) → bytes_eq text other ≡ b → fresh us other ≡ (not (bytes_eq text other) && fresh us other)
    by true e =
        let is : text ≡ other = (bytes_eq-Decides text other).0 e in
        ap not (ap (has us) (sym is) ∙ h) ∙ ap (λ b. not b && fresh us other) (sym e)
    by false e = ap (λ b. not b && fresh us other) (sym e)

neither : (a b : Bool) → not (a || b) ≡ (not b && not a)
neither true true = refl
neither true false = refl
neither false true = refl
neither false false = refl

added : (up : List ℕ → UpName) → ((text : List ℕ) → (up text).text ≡ text) → (us : List UpName) (texts : List (List ℕ)) → add_all up us texts ≡ us ++ map up (filter (fresh us) (firsts texts))
added up names us [] = append_nil us
added up names us (text ∷ texts) = by (has us text) refl (λ vs. added up names vs texts)
  where
    rest : List (List ℕ)
    rest = filter (λ other. not (bytes_eq text other)) (firsts texts)

    by : (b : Bool) → has us text ≡ b → ((vs : List UpName) → add_all up vs texts ≡ vs ++ map up (filter (fresh vs) (firsts texts))) → add_all up (add up us text) texts ≡ us ++ map up (if fresh us text then text ∷ filter (fresh us) rest else filter (fresh us) rest)
    by true e go =
        ap (λ b. add_all up (if b then us else us ++ up text ∷ []) texts) e
        ∙ go us
        ∙ ap (λ ts. us ++ map up ts) (filters (fresh us) (fresh us) (λ other. not (bytes_eq text other)) (λ other. known_twice us text other e) (firsts texts))
        ∙ ap (λ b. us ++ map up (if not b then text ∷ filter (fresh us) rest else filter (fresh us) rest)) (sym e)
    by false e go =
        ap (λ b. add_all up (if b then us else us ++ up text ∷ []) texts) e
        ∙ go (us ++ up text ∷ [])
        ∙ ap (λ ts. (us ++ up text ∷ []) ++ map up ts)
        (filters (fresh (us ++ up text ∷ [])) (fresh us) (λ other. not (bytes_eq text other))
        (λ other. ap not (has_push us (up text) other ∙ ap (λ t. has us other || bytes_eq t other) (names text)) ∙ neither (has us other) (bytes_eq text other)) (firsts texts))
        ∙ append_assoc us (up text ∷ []) (map up (filter (fresh us) rest))
        ∙ ap (λ b. us ++ map up (if not b then text ∷ filter (fresh us) rest else filter (fresh us) rest)) (sym e)

all_fresh : (texts : List (List ℕ)) → filter (fresh []) texts ≡ texts
all_fresh [] = refl
all_fresh (text ∷ texts) = ap (λ ts. text ∷ ts) (all_fresh texts)

pub firsts_added : (up : List ℕ → UpName) → ((text : List ℕ) → (up text).text ≡ text) → (texts : List (List ℕ)) → add_all up [] texts ≡ map up (firsts texts)
firsts_added up names texts = added up names [] texts ∙ ap (map up) (all_fresh (firsts texts))

-- Variables alone decide registers.

pub own_bare : (fs : List Frame) → own_variables (bare fs) ≡ own_variables fs
own_bare [] = refl
own_bare (f ∷ fs) = refl

register_bare : (fs : List Frame) → next_register (bare fs) ≡ next_register fs
register_bare [] = refl
register_bare (f ∷ fs) = refl

declare_bare : (fs : List Frame) (v : Variable) → bare (declare fs v) ≡ declare (bare fs) v
declare_bare [] v = refl
declare_bare (f ∷ fs) v = refl

names_bare : (fs : List Frame) (names : List Name) → placed_names fs names ≡ placed_names (bare fs) names
names_bare fs [] = refl
names_bare fs (name ∷ names) =
    ap₂ (λ (r : ℕ) (ns : List Name). record name { place = Rattle.tree_core.specs.declared.name.Place.TheVariants.Local r } ∷ ns) (sym (register_bare fs))
    (names_bare (declare fs (plain_variable name)) names ∙ ap (λ gs. placed_names gs names) (declare_bare fs (plain_variable name)))

declared_bare : (fs : List Frame) (names : List Declared) → placed_declared fs names ≡ placed_declared (bare fs) names
declared_bare fs [] = refl
declared_bare fs (d ∷ names) =
    ap₂ (λ (r : ℕ) (ns : List Declared). record d { name = record d.name { place = Rattle.tree_core.specs.declared.name.Place.TheVariants.Local r } } ∷ ns) (sym (register_bare fs))
    (declared_bare (declare fs (declared_variable d)) names ∙ ap (λ gs. placed_declared gs names) (declare_bare fs (declared_variable d)))

same_names_placed : (fs gs : List Frame) (names : List Name) → bare gs ≡ bare fs → placed_names fs names ≡ placed_names gs names
same_names_placed fs gs names e = names_bare fs names ∙ ap (λ hs. placed_names hs names) (sym e) ∙ sym (names_bare gs names)

same_declared_placed : (fs gs : List Frame) (names : List Declared) → bare gs ≡ bare fs → placed_declared fs names ≡ placed_declared gs names
same_declared_placed fs gs names e = declared_bare fs names ∙ ap (λ hs. placed_declared hs names) (sym e) ∙ sym (declared_bare gs names)

same_first_placed : (fs gs : List Frame) (name : Name) → bare gs ≡ bare fs → first_placed fs name ≡ first_placed gs name
same_first_placed fs gs name e =
    ap (λ (r : ℕ). record name { place = Rattle.tree_core.specs.declared.name.Place.TheVariants.Local r }) (sym (register_bare fs) ∙ ap next_register (sym e) ∙ register_bare gs)

-- the scope of a source in which only the functions around matter
abbrev scope_of : List Frame → Scope
scope_of fs = record { frames = bare fs; blocks = []; in_loop = false; is_vararg = false }

own_same : (fs gs : List Frame) → bare gs ≡ bare fs → own_variables gs ≡ own_variables fs
own_same fs gs e = sym (own_bare gs) ∙ ap own_variables e ∙ own_bare fs

extends_from : {fs gs : List Frame} {ps : List Located} → Effect fs gs (bare fs) ps → Extends fs gs
extends_from {fs} {gs} p = extends_of fs gs p.grown (sym (own_same fs gs p.same))

-- what was found by then, where the functions have grown more since
to_end : (es gs : List Frame) → Grown es gs → bare gs ≡ bare es → Extends es gs
to_end es gs p e = extends_of es gs p (sym (own_same es gs e))

declare_all_same : (fs gs : List Frame) (vs : List Variable) → bare gs ≡ bare fs → bare (declare_all gs vs) ≡ bare (declare_all fs vs)
declare_all_same fs gs vs e = sym (bare_declare_all gs vs) ∙ ap (λ hs. declare_all hs vs) e ∙ bare_declare_all fs vs

bare_behind : (fs : List Frame) (ss : Stats) → behind_stats (bare fs) ss ≡ bare (behind_stats fs ss)
bare_behind fs EndStats = refl
bare_behind fs (MoreStats stat ss) =
    ap (λ hs. behind_stats hs ss) (bare_declare_all fs (declared_by stat)) ∙ bare_behind (declare_all fs (declared_by stat)) ss

pub bare_behind_block : (fs : List Frame) (b : Block) → behind (bare fs) b ≡ bare (behind fs b)
bare_behind_block fs (Falls stats tokens line) = bare_behind fs stats
bare_behind_block fs (Returns stats values tokens line) = bare_behind fs stats

grown_behind : (fs : List Frame) (ss : Stats) → Grown fs (behind_stats fs ss)
grown_behind fs EndStats = grown_same fs
grown_behind fs (MoreStats stat ss) =
    grown_through fs (declare_all fs (declared_by stat)) (behind_stats (declare_all fs (declared_by stat)) ss) (grown_declare fs (declared_by stat)) (grown_behind (declare_all fs (declared_by stat)) ss)

grown_behind_block : (fs : List Frame) (b : Block) → Grown fs (behind fs b)
grown_behind_block fs (Falls stats tokens line) = grown_behind fs stats
grown_behind_block fs (Returns stats values tokens line) = grown_behind fs stats

-- Effects in a scope in which only the functions around matter.

exp_alone : (e : Exp) (fs : List Frame) → Closed fs → Effect fs (after_exp fs e) (bare fs) (exp_parts (scope_of fs) e)
exp_alone e fs c = exp_effect e fs (scope_of fs) refl c

exp_grows : (e : Exp) (fs : List Frame) → Closed fs → Extends fs (after_exp fs e)
exp_grows e fs c = extends_from (exp_alone e fs c)

exps_alone : (es : Exps) (fs : List Frame) → Closed fs → Effect fs (after_exps fs es) (bare fs) (exps_parts (scope_of fs) es)
exps_alone es fs c = exps_effect es fs (scope_of fs) refl c

exps_grows : (es : Exps) (fs : List Frame) → Closed fs → Extends fs (after_exps fs es)
exps_grows es fs c = extends_from (exps_alone es fs c)

body_grows : (b : Body) (fs : List Frame) → Closed fs → Extends fs (after_body fs b)
body_grows b fs c = extends_from (body_effect b fs (scope_of fs) refl c)

arms_alone : (as' : Arms) (fs : List Frame) → Closed fs → Effect fs (after_arms fs as') (bare fs) (arms_parts (scope_of fs) as')
arms_alone as' fs c = arms_effect as' fs (scope_of fs) refl c

abbrev OpenEffect : List Frame → Block → Type 0
OpenEffect fs b = Effect fs (after_open fs b) (behind (bare fs) b) (block_parts (scope_of fs) true b)

open_of : (b : Block) (fs : List Frame) → Closed fs → OpenEffect fs b
open_of b fs c = open_effect b fs (scope_of fs) true refl c

pub unended : (n : ℕ) (hs gs : List Frame) → Grown (kept n hs) gs → Grown hs gs
unended n [] gs p = p
unended n (h ∷ hs) [] p = p
unended n (h ∷ hs) (g ∷ gs) p = p

pub grown_under : (ws hs : List Frame) (f : Frame) (gs : List Frame) → 0 < length ws → Grown ws hs → own_upvalues hs ≡ f.upvalues → Extends (left hs) gs → Grown hs (f ∷ gs)
grown_under [] hs f gs l p u x = absurd (omega (arith, l))
grown_under (w ∷ ws) [] f gs l p u x = absurd p
grown_under (w ∷ ws) (h ∷ hs) f gs l p u x = (refl, ([], sym u ∙ append_nil h.upvalues), x)

-- what a block within a statement leaves, which stands in the scope of the statement's variables, where it has any
record Rounds (block : Block) (vs : List Variable) (es gs : List Frame) : Type 0 where
  closed : Closed (declare_all es vs)
  inner : Grown (after_open (declare_all es vs) block) (declare_all gs vs)
  through : Extends es gs

rounds : (block : Block) (vs : List Variable) (n : ℕ) (es gs : List Frame) → Closed es → Grown (kept n (after_open (declare_all es vs) block)) gs → bare gs ≡ bare es → Rounds block vs es gs
rounds block vs n es gs d g seen =
    let ds : List Frame = declare_all es vs in
    let cd : Closed ds = closed_declare es vs d in
    let last : List Frame = after_open ds block in
    let open' : Grown last gs = unended n last gs g in
    let p : OpenEffect ds block = open_of block ds cd in
    record {
      closed = cd;
      inner = grown_through last gs (declare_all gs vs) open' (grown_declare gs vs);
      through = to_end es gs (grown_through es ds gs (grown_declare es vs) (grown_through ds last gs p.grown open')) seen;
    }

-- The places agree.

name_settled : (fs gs : List Frame) (name : Name) → Extends (named name.text fs) gs → placed_name (named name.text fs) name ≡ placed_name gs name
name_settled fs gs name x =
    let text : List ℕ = needed name.text fs in
    let same : needed name.text (named name.text fs) ≡ text = sym (same_needed name.text fs (reached fs text) (reached_extends fs text)) in
    ap (λ (p : Place). record name { place = p })
    (same_place name.text (named name.text fs) gs x (ap (knows (reached fs text)) same ∙ knows_reached fs text))

-- an expression before the rest of what has it, behind which the functions around are `last`
before_rest :
    {X Y : Type 0} (make : Exp → X → Y) {rest rest' : X} (e : Exp) (last fs gs : List Frame)
    → Closed fs → Extends last gs
    → (Closed (after_exp fs e) → Extends (after_exp fs e) last)
    → (Extends (after_exp fs e) gs → settled_exp fs e ≡ placed_exp gs e)
    → (Closed (after_exp fs e) → rest ≡ rest')
    → make (settled_exp fs e) rest ≡ make (placed_exp gs e) rest'
before_rest make e last fs gs c x grows first others =
    let d : Closed (after_exp fs e) = (exp_alone e fs c).closed in
    ap₂ make (first (extends_through (after_exp fs e) last gs (grows d) x)) (others d)

mutual
  pub exp_settled : (e : Exp) (fs gs : List Frame) → Closed fs → Extends (after_exp fs e) gs → settled_exp fs e ≡ placed_exp gs e
  exp_settled (Function line body) fs gs c x = ap (Function line) (body_settled body fs gs c x)
  exp_settled (Var line name) fs gs c x = ap (Var line) (name_settled fs gs name x)
  exp_settled (Index line a b) fs gs c x =
      before_rest (Index line) a (after_exp (after_exp fs a) b) fs gs c x (exp_grows b (after_exp fs a)) (exp_settled a fs gs c) (λ d. exp_settled b (after_exp fs a) gs d x)
  exp_settled (Call line a b) fs gs c x =
      before_rest (Call line) a (after_exps (after_exp fs a) b) fs gs c x (exps_grows b (after_exp fs a)) (exp_settled a fs gs c) (λ d. exps_settled b (after_exp fs a) gs d x)
  exp_settled (Method line a name b) fs gs c x =
      before_rest (λ o as'. Method line o name as') a (after_exps (after_exp fs a) b) fs gs c x (exps_grows b (after_exp fs a)) (exp_settled a fs gs c) (λ d. exps_settled b (after_exp fs a) gs d x)
  exp_settled (Unary line operator operand) fs gs c x = ap (Unary line operator) (exp_settled operand fs gs c x)
  exp_settled (Binary line operator a b) fs gs c x =
      before_rest (Binary line operator) a (after_exp (after_exp fs a) b) fs gs c x (exp_grows b (after_exp fs a)) (exp_settled a fs gs c) (λ d. exp_settled b (after_exp fs a) gs d x)
  exp_settled (And line a b) fs gs c x =
      before_rest (And line) a (after_exp (after_exp fs a) b) fs gs c x (exp_grows b (after_exp fs a)) (exp_settled a fs gs c) (λ d. exp_settled b (after_exp fs a) gs d x)
  exp_settled (Or line a b) fs gs c x =
      before_rest (Or line) a (after_exp (after_exp fs a) b) fs gs c x (exp_grows b (after_exp fs a)) (exp_settled a fs gs c) (λ d. exp_settled b (after_exp fs a) gs d x)
  exp_settled (Paren line inner) fs gs c x = ap (Paren line) (exp_settled inner fs gs c x)
  exp_settled (Table line fields) fs gs c x = ap (Table line) (fields_settled fields fs gs c x)
  exp_settled _ fs gs c x = refl

  pub exps_settled : (es : Exps) (fs gs : List Frame) → Closed fs → Extends (after_exps fs es) gs → settled_exps fs es ≡ placed_exps gs es
  exps_settled EndExps fs gs c x = refl
  exps_settled (MoreExps e es) fs gs c x =
      before_rest MoreExps e (after_exps (after_exp fs e) es) fs gs c x (exps_grows es (after_exp fs e)) (exp_settled e fs gs c) (λ d. exps_settled es (after_exp fs e) gs d x)

  pub fields_settled : (es : Fields) (fs gs : List Frame) → Closed fs → Extends (after_fields fs es) gs → settled_fields fs es ≡ placed_fields gs es
  fields_settled EndFields fs gs c x = refl
  fields_settled (MoreFields f es) fs gs c x =
      let hs : List Frame = after_field fs f in
      let d : Closed hs = (field_effect f fs (scope_of fs) refl c).closed in
      let y : Extends hs (after_fields hs es) = extends_from (fields_effect es hs (scope_of hs) refl d) in
      ap₂ MoreFields (field_settled f fs gs c (extends_through hs (after_fields hs es) gs y x)) (fields_settled es hs gs d x)

  pub field_settled : (f : Field) (fs gs : List Frame) → Closed fs → Extends (after_field fs f) gs → settled_field fs f ≡ placed_field gs f
  field_settled (Item value) fs gs c x = ap Item (exp_settled value fs gs c x)
  field_settled (Keyed line a b) fs gs c x =
      before_rest (Keyed line) a (after_exp (after_exp fs a) b) fs gs c x (exp_grows b (after_exp fs a)) (exp_settled a fs gs c) (λ d. exp_settled b (after_exp fs a) gs d x)

  pub body_settled : (b : Body) (fs gs : List Frame) → Closed fs → Extends (after_body fs b) gs → settled_body fs b ≡ placed_body gs b
  body_settled (BodyOf params vararg inner upvalues line) fs gs c x =
      let b : Body = BodyOf params vararg inner upvalues line in
      let vs : List Variable = map plain_variable params in
      let within : List Frame = declare_all (entered fs) vs in
      let ends : List Frame = after_open within inner in
      let cw : Closed within = closed_declare (entered fs) vs (closed_entered fs c) in
      let seen : bare gs ≡ bare fs = bare_extends fs gs (extends_through fs (left ends) gs (body_grows b fs c) x) in
      let begin : Scope = inside (bare gs) b in
      let here : Scope = with_variables begin vs in
      let parts : List Located = block_parts here true inner in
      let seen' : here.frames ≡ bare within = ap (λ hs. declare_all (record { variables = []; upvalues = [] } ∷ hs) vs) seen ∙ bare_declare_all (entered fs) vs in
      let q : Effect within ends (behind (bare within) inner) parts = open_effect inner within here true seen' cw in
      let size : length within ≡ suc (length fs) = grown_length (entered fs) within (grown_declare (entered fs) vs) in
      let size' : length gs ≡ length fs = sym (bare_length gs) ∙ ap length seen ∙ bare_length fs in
      let ups : own_upvalues ends ≡ upvalues_of gs b =
      q.level 0 (length gs) (omega (arith, size, size')) gs (subst (λ ks. Extends ks gs) (drop_left 0 ends) x)
      ∙ ap (λ us. add_all (up_name gs) us (outside_all (length gs) parts)) (level_declare 0 (entered fs) vs)
      ∙ firsts_added (up_name gs) (text_of_up gs) (outside_all (length gs) parts)
      ∙ ap (λ ts. map (up_name gs) (firsts ts)) (sym (outside_append (length gs) (name_declarations begin params) parts ∙ ap (λ ts. ts ++ outside_all (length gs) parts) (names_outside (length gs) begin params))) in
      let final : List Frame = record { variables = []; upvalues = upvalues_of gs b } ∷ gs in
      let front : Grown ends final = grown_under within ends (record { variables = []; upvalues = upvalues_of gs b }) gs (omega (arith, size)) q.grown ups x in
      let last : Grown ends (declare_all final vs) = grown_through ends final (declare_all final vs) front (grown_declare final vs) in
      let seen'' : bare (declare_all final vs) ≡ bare within = sym (bare_declare_all final vs) ∙ seen' in
      ap₂ (λ ns blk. BodyOf ns vararg blk (own_upvalues ends) line)
      (same_names_placed (entered fs) final params (ap (λ hs. record { variables = []; upvalues = [] } ∷ hs) seen))
      (block_settled inner within (declare_all final vs) cw last seen'')
      ∙ ap (λ us. BodyOf (placed_names final params) vararg (placed_block (declare_all final vs) inner) us line) ups

  pub block_settled : (b : Block) (fs gs : List Frame) → Closed fs → Grown (after_open fs b) gs → bare gs ≡ bare fs → settled_block fs b ≡ placed_block gs b
  block_settled (Falls stats tokens line) fs gs c g e = ap (λ ss. Falls ss tokens line) (stats_settled stats fs gs c g e)
  block_settled (Returns stats values tokens line) fs gs c g e =
      let es : List Frame = after_stats fs stats in
      let p : Effect fs es (behind_stats (bare fs) stats) _ = stats_effect stats fs (scope_of fs) [] false refl c in
      let x : Extends es (after_exps es values) = exps_grows values es p.closed in
      let ks : List Frame = behind_stats gs stats in
      let grown : Grown (after_exps es values) ks = grown_through (after_exps es values) gs ks g (grown_behind gs stats) in
      let seen : bare ks ≡ bare (after_exps es values) =
      sym (bare_behind gs stats) ∙ ap (λ hs. behind_stats hs stats) e ∙ sym p.same ∙ sym (bare_extends es (after_exps es values) x) in
      ap₂ (λ ss vs. Returns ss vs tokens line)
      (stats_settled stats fs gs c (grown_through es (after_exps es values) gs (grown_of es (after_exps es values) x) g) e)
      (exps_settled values es ks p.closed (to_end (after_exps es values) ks grown seen))

  pub stats_settled : (ss : Stats) (fs gs : List Frame) → Closed fs → Grown (after_stats fs ss) gs → bare gs ≡ bare fs → settled_stats fs ss ≡ placed_stats gs ss
  stats_settled EndStats fs gs c g e = refl
  stats_settled (MoreStats stat ss) fs gs c g e =
      let es : List Frame = after_stat fs stat in
      let vs : List Variable = declared_by stat in
      let p : Effect fs es (declare_all (bare fs) vs) _ = stat_effect stat fs (scope_of fs) refl c in
      let q : Effect es (after_stats es ss) (behind_stats (bare es) ss) _ = stats_effect ss es (scope_of es) [] true refl p.closed in
      ap₂ MoreStats
      (stat_settled stat fs gs c (grown_through es (after_stats es ss) gs q.grown g) e)
      (stats_settled ss es (declare_all gs vs) p.closed (grown_through (after_stats es ss) gs (declare_all gs vs) g (grown_declare gs vs))
      (sym (bare_declare_all gs vs) ∙ ap (λ hs. declare_all hs vs) e ∙ sym p.same))

  pub stat_settled : (t : Stat) (fs gs : List Frame) → Closed fs → Grown (after_stat fs t) gs → bare gs ≡ bare fs → settled_stat fs t ≡ placed_stat gs t
  stat_settled (Local line names values) fs gs c g e =
      let es : List Frame = after_exps fs values in
      let vs : List Variable = map declared_variable names in
      let seen : bare gs ≡ bare es = e ∙ sym (bare_extends fs es (exps_grows values fs c)) in
      ap₂ (Local line) (same_declared_placed es gs names seen)
      (exps_settled values fs gs c (to_end es gs (grown_through es (declare_all es vs) gs (grown_declare es vs) g) seen))
  stat_settled (LocalFunction line name body) fs gs c g e =
      let vs : List Variable = plain_variable name ∷ [] in
      let ds : List Frame = declare_all fs vs in
      let hs : List Frame = declare_all gs vs in
      let cd : Closed ds = closed_declare fs vs c in
      let x : Extends ds (after_body ds body) = body_grows body ds cd in
      ap₂ (LocalFunction line) (same_first_placed fs gs name e)
      (body_settled body ds hs cd
      (to_end (after_body ds body) hs (grown_through (after_body ds body) gs hs g (grown_declare gs vs)) (declare_all_same fs gs vs e ∙ sym (bare_extends ds (after_body ds body) x))))
  stat_settled (Assign line targets values) fs gs c g e =
      let es : List Frame = after_exps fs targets in
      let d : Closed es = (exps_alone targets fs c).closed in
      let last : List Frame = after_exps es values in
      let seen : bare gs ≡ bare last = e ∙ sym (bare_extends es last (exps_grows values es d) ∙ bare_extends fs es (exps_grows targets fs c)) in
      let x : Extends last gs = to_end last gs g seen in
      ap₂ (Assign line) (exps_settled targets fs gs c (extends_through es last gs (exps_grows values es d) x)) (exps_settled values es gs d x)
  stat_settled (CallStat line call) fs gs c g e =
      let es : List Frame = after_exp fs call in
      ap (CallStat line) (exp_settled call fs gs c (to_end es gs g (e ∙ sym (bare_extends fs es (exp_grows call fs c)))))
  stat_settled (Do line block) fs gs c g e = ap (Do line) (block_settled block fs gs c (unended (length (own_variables fs)) (after_open fs block) gs g) e)
  stat_settled (While line test block) fs gs c g e =
      let es : List Frame = after_exp fs test in
      let d : Closed es = (exp_alone test fs c).closed in
      let seen : bare gs ≡ bare es = e ∙ sym (bare_extends fs es (exp_grows test fs c)) in
      let r : Rounds block [] es gs = rounds block [] (length (own_variables es)) es gs d g seen in
      ap₂ (While line) (exp_settled test fs gs c r.through) (block_settled block es gs d r.inner seen)
  stat_settled (Repeat line block test) fs gs c g e =
      let hs : List Frame = after_open fs block in
      let p : OpenEffect fs block = open_of block fs c in
      let last : List Frame = after_exp hs test in
      let x : Extends hs last = exp_grows test hs p.closed in
      let open' : Grown last gs = unended (length (own_variables fs)) last gs g in
      let ks : List Frame = behind gs block in
      let seen : bare ks ≡ bare last = sym (bare_behind_block gs block) ∙ ap (λ bs. behind bs block) e ∙ sym p.same ∙ sym (bare_extends hs last x) in
      ap₂ (Repeat line)
      (block_settled block fs gs c (grown_through hs last gs (grown_of hs last x) open') e)
      (exp_settled test hs ks p.closed (to_end last ks (grown_through last gs ks open' (grown_behind_block gs block)) seen))
  stat_settled (If line arms) fs gs c g e =
      let es : List Frame = after_arms fs arms in
      ap (If line) (arms_settled arms fs gs c (to_end es gs g (e ∙ sym (bare_extends fs es (extends_from (arms_alone arms fs c))))))
  stat_settled (IfElse line arms otherwise) fs gs c g e =
      let es : List Frame = after_arms fs arms in
      let d : Closed es = (arms_alone arms fs c).closed in
      let seen : bare gs ≡ bare es = e ∙ sym (bare_extends fs es (extends_from (arms_alone arms fs c))) in
      let r : Rounds otherwise [] es gs = rounds otherwise [] (length (own_variables es)) es gs d g seen in
      ap₂ (IfElse line) (arms_settled arms fs gs c r.through) (block_settled otherwise es gs d r.inner seen)
  stat_settled (NumFor line name first limit block) fs gs c g e =
      let es' : List Frame = after_exp fs first in let d' : Closed es' = (exp_alone first fs c).closed in
      let es : List Frame = after_exp es' limit in let d : Closed es = (exp_alone limit es' d').closed in
      let hidden : List Variable = Hidden ∷ Hidden ∷ Hidden ∷ [] in
      let vs : List Variable = Hidden ∷ Hidden ∷ Hidden ∷ plain_variable name ∷ [] in
      let ds : List Frame = declare_all es vs in
      let seen : bare gs ≡ bare es = e ∙ sym (bare_extends es' es (exp_grows limit es' d') ∙ bare_extends fs es' (exp_grows first fs c)) in
      let r : Rounds block vs es gs = rounds block vs (length (own_variables fs)) es gs d g seen in
      ap₂ (λ n a. NumFor line n a (settled_exp es' limit) (settled_block ds block))
      (same_first_placed (declare_all es hidden) (declare_all gs hidden) name (declare_all_same es gs hidden seen))
      (exp_settled first fs gs c (extends_through es' es gs (exp_grows limit es' d') r.through))
      ∙ ap₂ (NumFor line (first_placed (declare_all gs hidden) name) (placed_exp gs first))
      (exp_settled limit es' gs d' r.through)
      (block_settled block ds (declare_all gs vs) r.closed r.inner (declare_all_same es gs vs seen))
  stat_settled (NumForStep line name first limit step block) fs gs c g e =
      let es'' : List Frame = after_exp fs first in let d'' : Closed es'' = (exp_alone first fs c).closed in
      let es' : List Frame = after_exp es'' limit in let d' : Closed es' = (exp_alone limit es'' d'').closed in
      let es : List Frame = after_exp es' step in let d : Closed es = (exp_alone step es' d').closed in
      let hidden : List Variable = Hidden ∷ Hidden ∷ Hidden ∷ [] in
      let vs : List Variable = Hidden ∷ Hidden ∷ Hidden ∷ plain_variable name ∷ [] in
      let ds : List Frame = declare_all es vs in
      let seen : bare gs ≡ bare es = e ∙ sym (bare_extends es' es (exp_grows step es' d') ∙ bare_extends es'' es' (exp_grows limit es'' d'') ∙ bare_extends fs es'' (exp_grows first fs c)) in
      let r : Rounds block vs es gs = rounds block vs (length (own_variables fs)) es gs d g seen in
      let x' : Extends es' gs = extends_through es' es gs (exp_grows step es' d') r.through in
      ap₂ (λ n a. NumForStep line n a (settled_exp es'' limit) (settled_exp es' step) (settled_block ds block))
      (same_first_placed (declare_all es hidden) (declare_all gs hidden) name (declare_all_same es gs hidden seen))
      (exp_settled first fs gs c (extends_through es'' es' gs (exp_grows limit es'' d'') x'))
      ∙ ap₂ (λ l s. NumForStep line (first_placed (declare_all gs hidden) name) (placed_exp gs first) l s (settled_block ds block))
      (exp_settled limit es'' gs d'' x')
      (exp_settled step es' gs d' r.through)
      ∙ ap (NumForStep line (first_placed (declare_all gs hidden) name) (placed_exp gs first) (placed_exp gs limit) (placed_exp gs step))
      (block_settled block ds (declare_all gs vs) r.closed r.inner (declare_all_same es gs vs seen))
  stat_settled (GenFor line names values block) fs gs c g e =
      let es : List Frame = after_exps fs values in
      let d : Closed es = (exps_alone values fs c).closed in
      let hidden : List Variable = Hidden ∷ Hidden ∷ Hidden ∷ Hidden ∷ [] in
      let vs : List Variable = Hidden ∷ Hidden ∷ Hidden ∷ Hidden ∷ map plain_variable names in
      let ds : List Frame = declare_all es vs in
      let seen : bare gs ≡ bare es = e ∙ sym (bare_extends fs es (exps_grows values fs c)) in
      let r : Rounds block vs es gs = rounds block vs (length (own_variables fs)) es gs d g seen in
      ap₂ (λ n a. GenFor line n a (settled_block ds block))
      (same_names_placed (declare_all es hidden) (declare_all gs hidden) names (declare_all_same es gs hidden seen))
      (exps_settled values fs gs c r.through)
      ∙ ap (GenFor line (placed_names (declare_all gs hidden) names) (placed_exps gs values))
      (block_settled block ds (declare_all gs vs) r.closed r.inner (declare_all_same es gs vs seen))
  stat_settled _ fs gs c g e = refl

  pub arms_settled : (as' : Arms) (fs gs : List Frame) → Closed fs → Extends (after_arms fs as') gs → settled_arms fs as' ≡ placed_arms gs as'
  arms_settled EndArms fs gs c x = refl
  arms_settled (MoreArms test block arms) fs gs c x =
      let es : List Frame = after_exp fs test in
      let d : Closed es = (exp_alone test fs c).closed in
      let hs : List Frame = ended es (after_open es block) in
      let p : Effect es hs (bare es) (block_parts (scope_of es) true block) = closing es block (block_parts (scope_of es) true block) (open_of block es d) in
      let y : Extends hs gs = extends_through hs (after_arms hs arms) gs (extends_from (arms_alone arms hs p.closed)) x in
      let z : Extends es gs = extends_through es hs gs (extends_from p) y in
      ap₂ (λ t r. MoreArms t (settled_block es block) r) (exp_settled test fs gs c z) (arms_settled arms hs gs p.closed x)
      ∙ ap (λ b. MoreArms (placed_exp gs test) b (placed_arms gs arms))
      (block_settled block es gs d (unended (length (own_variables es)) (after_open es block) gs (grown_of hs gs y)) (bare_extends es gs z))
