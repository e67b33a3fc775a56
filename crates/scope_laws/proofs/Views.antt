-- The functions around a place of a source, with what is known of the locals and upvalues of the innermost one.
use Rattle.std.proofs.Common.{rules, arith, ℕ, suc, ◌+◌, ◌-◌, ◌≡◌, ◌≤◌, ◌<◌, Bool, true, false, ◌||◌, List, [], ◌∷◌, ◌++◌, Option, Some, None, refl, sym, ap, ◌∙◌, subst, length, map, take, if◌then◌else◌}
use Rattle.std.specs.Prelude.{is_some, option_map, unwrap_or}
use Rattle.std.specs.List.{list_any}
use Rattle.std.specs.Option.{option_map_or}
use Rattle.std.specs.Str.{bytes_eq}
use Rattle.tree_core.specs.declared.name.Name.{Name}
use Rattle.tree_core.specs.declared.name.Declared.{Declared}
use Rattle.tree_core.specs.declared.name.UpName.{UpName}
use Rattle.tree_core.specs.declared.name.Place.TheVariants.{Local as InRegister, Upvalue, GlobalIn, GlobalOf}
use Rattle.tree_core.specs.Tree.{Block, Falls, Returns, Stats, EndStats, MoreStats, Stat, Local, LocalFunction}
use Rattle.scope_core.specs.declared.variable.Variable.{Variable}
use Rattle.scope_core.specs.declared.variable.Variable.TheVariants.{Named as NamedVariable, Hidden}
use Rattle.scope_core.specs.Scopes.{Scope, Frame, bare, declare, declare_all, declared_by, declared_variable, plain_variable, is_fixed, behind, behind_stats, numeric_hidden, generic_hidden, register_of, upvalue_of, environment, is_local, is_variable, needed}
use Rattle.scope_core.specs.Parts.{Naming, at}
use Rattle.scope_core.specs.Places.{as_byte, up_name, place_of, variable_place, global_place, placed_names, placed_declared, placed_stats, placed_stat, placed_block, outside_all}
use Rattle.scope_core.specs.Reaching.{captured_at, declared_at}
use Rattle.scope_core.specs.Walked.{own_variables, own_upvalues}
use Rattle.scope_core.proofs.Growing.{knows}
use Rattle.scope_core.proofs.Levels.{Closed, add_all}
use Rattle.scope_core.proofs.Effects.{bare_declare_all, bare_length, bare_needed}
use Rattle.tree_terms.specs.Levels.{level_after, levels_after, levels_in}
use Rattle.tree_terms.specs.Labels.{Named}
use Rattle.scope_laws.specs.Keeping.{BlockKeeps, StatsKeep, StatKeeps}
use Rattle.tree_terms.specs.Hidden.{IsNoneOf}
use Rattle.scope_laws.specs.Finding.{LocalIsThere, PlaceIsThere, CaptureIsThere, CapturesAreThere, three_hidden, four_hidden}
use Rattle.scope_laws.proofs.Named.{has, HasAll, KnowsAll, register_below, upvalue_below, known_by}

abbrev pub AllBelow : (t : ℕ) → List ℕ → Type 0
AllBelow t [] = Unit {0}
AllBelow t (h ∷ hidden) = (h < t) × AllBelow t hidden

-- c functions stand around the innermost one, which has t locals in scope and these upvalues; no name means a hidden local
pub record View (gs frames : List Frame) (c : ℕ) (hidden : List ℕ) (t : ℕ) (us : List UpName) : Type 0 where
  pub closed : Closed gs
  pub seen : frames ≡ bare gs
  pub depth : length gs ≡ suc c
  pub level : length (own_variables gs) ≡ t
  pub most : t ≤ 200
  pub below : AllBelow t hidden
  pub shown : (text : List ℕ) (n : ℕ) → register_of text (own_variables gs) ≡ Some n → IsNoneOf n hidden
  pub own : own_upvalues gs ≡ us

-- Variables that are declared.

below_more : (t : ℕ) (hidden : List ℕ) → AllBelow t hidden → AllBelow (t + 1) hidden
below_more t [] b = tt
below_more t (h ∷ hidden) b = (omega (arith, b.0), below_more t hidden b.1)

none_below : (n t : ℕ) (hidden : List ℕ) → n ≡ t → AllBelow t hidden → IsNoneOf n hidden
none_below n t [] e b = tt
none_below n t (h ∷ hidden) e b = ((λ f. omega (arith, e, f, b.0)), none_below n t hidden e b.1)

pub as_of : {gs frames : List Frame} {c : ℕ} {hidden hidden' : List ℕ} {t t' : ℕ} {us : List UpName} → hidden ≡ hidden' → t ≡ t' → View gs frames c hidden t us → View gs frames c hidden' t' us
as_of {gs} {frames} {c} {hidden} {hidden'} {t} {t'} {us} h e w =
    subst (λ hs. View gs frames c hs t' us) h (subst (λ k. View gs frames c hidden k us) e w)

declared_seen : (gs frames : List Frame) (v : Variable) → frames ≡ bare gs → declare frames v ≡ bare (declare gs v)
declared_seen gs frames v e = ap (λ fs. declare fs v) e ∙ bare_declare_all gs (v ∷ [])

pub view_named : {gs frames : List Frame} {c : ℕ} {hidden : List ℕ} {t : ℕ} {us : List UpName} (x : List ℕ) (fixed : Bool) → View gs frames c hidden t us → t + 1 ≤ 200 → View (declare gs (NamedVariable x fixed)) (declare frames (NamedVariable x fixed)) c hidden (t + 1) us
view_named {gs = []} x fixed w m = absurd (omega (arith, w.depth))
view_named {gs = g ∷ gs} {frames} {c} {hidden} {t} x fixed w m =
    record {
      closed = w.closed;
      seen = declared_seen (g ∷ gs) frames (NamedVariable x fixed) w.seen;
      depth = w.depth;
      level = omega (arith, w.level);
      most = m;
      below = below_more t hidden w.below;
      shown = λ text n. by text n (bytes_eq x text);
      own = w.own;
    }
  where
    by : (text : List ℕ) (n : ℕ) (b : Bool) → (if b then Some (length g.variables) else register_of text g.variables) ≡ Some n → IsNoneOf n hidden
    by text n true e =
        let is : length g.variables ≡ n = search rules in
        none_below n t hidden (sym is ∙ w.level) w.below
    by text n false e = w.shown text n e

view_hidden : {gs frames : List Frame} {c : ℕ} {hidden : List ℕ} {t : ℕ} {us : List UpName} → View gs frames c hidden t us → t + 1 ≤ 200 → View (declare gs Hidden) (declare frames Hidden) c (t ∷ hidden) (t + 1) us
view_hidden {gs = []} w m = absurd (omega (arith, w.depth))
view_hidden {gs = g ∷ gs} {frames} {c} {hidden} {t} w m =
    record {
      closed = w.closed;
      seen = declared_seen (g ∷ gs) frames Hidden w.seen;
      depth = w.depth;
      level = omega (arith, w.level);
      most = m;
      below = (omega arith, below_more t hidden w.below);
      shown = λ text n e. ((λ f. omega (arith, f, register_below text g.variables n e, w.level)), w.shown text n e);
      own = w.own;
    }

pub view_names : (names : List Name) {gs frames : List Frame} {c : ℕ} {hidden : List ℕ} {t : ℕ} {us : List UpName} → View gs frames c hidden t us → t + length names ≤ 200 → View (declare_all gs (map plain_variable names)) (declare_all frames (map plain_variable names)) c hidden (t + length names) us
view_names [] w m = as_of refl (omega arith) w
view_names (name ∷ names) w m =
    as_of refl (omega arith) (view_names names (view_named name.text false w (omega (arith, m))) (omega (arith, m)))

view_locals : (names : List Declared) {gs frames : List Frame} {c : ℕ} {hidden : List ℕ} {t : ℕ} {us : List UpName} → View gs frames c hidden t us → t + length names ≤ 200 → View (declare_all gs (map declared_variable names)) (declare_all frames (map declared_variable names)) c hidden (t + length names) us
view_locals [] w m = as_of refl (omega arith) w
view_locals (d ∷ names) w m =
    as_of refl (omega arith) (view_locals names (view_named d.name.text (is_fixed d.attrib) w (omega (arith, m))) (omega (arith, m)))

pub names_length : (fs : List Frame) (names : List Name) → length (placed_names fs names) ≡ length names
names_length fs [] = refl
names_length fs (name ∷ names) = ap suc (names_length (declare fs (plain_variable name)) names)

pub declared_length : (fs : List Frame) (names : List Declared) → length (placed_declared fs names) ≡ length names
declared_length fs [] = refl
declared_length fs (d ∷ names) = ap suc (declared_length (declare fs (declared_variable d)) names)

-- the same hidden locals in another order
hides_as :
    {gs frames : List Frame} {c : ℕ} {hidden : List ℕ} {t : ℕ} {us : List UpName} (hidden' : List ℕ) → View gs frames c hidden t us → AllBelow t hidden' → ((n : ℕ) → IsNoneOf n hidden → IsNoneOf n hidden')
    → View gs frames c hidden' t us
hides_as hidden' w below none =
    record { closed = w.closed; seen = w.seen; depth = w.depth; level = w.level; most = w.most; below = below; shown = λ text n e. none n (w.shown text n e); own = w.own }

pub view_counts :
    {gs frames : List Frame} {c : ℕ} {hidden : List ℕ} {t : ℕ} {us : List UpName} (name : Name) → View gs frames c hidden t us → t + 4 ≤ 200
    → View (declare (declare_all gs numeric_hidden) (plain_variable name)) (declare_all (declare_all frames numeric_hidden) (plain_variable name ∷ [])) c (three_hidden t hidden) (t + 4) us
view_counts {gs} {frames} {c} {hidden} {t} name w m =
    let one = view_hidden w (omega (arith, m)) in
    let two = view_hidden one (omega (arith, m)) in
    let three = view_hidden two (omega (arith, m)) in
    as_of refl (omega arith)
    (view_named name.text false
    (hides_as (three_hidden t hidden) three (omega arith, (omega arith, (omega arith, three.below.1.1.1)))
    (λ n h. (h.1.1.0, (h.1.0, ((λ e. h.0 (omega (arith, e))), h.1.1.1)))))
    (omega (arith, m)))

pub view_iterates :
    {gs frames : List Frame} {c : ℕ} {hidden : List ℕ} {t : ℕ} {us : List UpName} (names : List Name) → View gs frames c hidden t us → t + 4 + length names ≤ 200
    → View (declare_all (declare_all gs generic_hidden) (map plain_variable names)) (declare_all (declare_all frames generic_hidden) (map plain_variable names)) c (four_hidden t hidden) (t + 4 + length names) us
view_iterates {gs} {frames} {c} {hidden} {t} names w m =
    let one = view_hidden w (omega (arith, m)) in
    let two = view_hidden one (omega (arith, m)) in
    let three = view_hidden two (omega (arith, m)) in
    let four = view_hidden three (omega (arith, m)) in
    view_names names
    (as_of refl (omega arith)
    (hides_as (four_hidden t hidden) four (omega arith, (omega arith, (omega arith, (omega arith, four.below.1.1.1.1))))
    (λ n h. (h.1.1.1.0, (h.1.1.0, ((λ e. h.1.0 (omega (arith, e))), ((λ e. h.0 (omega (arith, e))), h.1.1.1.1)))))))
    m

-- behind a statement
pub view_stat :
    {gs frames : List Frame} {c : ℕ} {hidden : List ℕ} {t : ℕ} {us : List UpName} (x : Stat) → View gs frames c hidden t us
    → (v : Bool) (named : List Named) (loops : Bool) → StatKeeps (placed_stat gs x) v t named loops
    → View (declare_all gs (declared_by x)) (declare_all frames (declared_by x)) c hidden (level_after (placed_stat gs x) t) us
view_stat {gs} {frames} {c} {hidden} {t} (Local line names es) w v named loops k =
    let size : length (placed_declared gs names) ≡ length names = declared_length gs names in
    as_of refl (omega (arith, size)) (view_locals names w (omega (arith, size, k.1)))
view_stat (LocalFunction line name body) w v named loops k = view_named name.text false w k.1
view_stat _ w v named loops k = w

pub view_stats :
    (ss : Stats) {gs frames : List Frame} {c : ℕ} {hidden : List ℕ} {t : ℕ} {us : List UpName} → View gs frames c hidden t us
    → (falls v : Bool) (names named : List Named) (loops : Bool) → StatsKeep (placed_stats gs ss) falls v t names named loops
    → View (behind_stats gs ss) (behind_stats frames ss) c hidden (levels_after (placed_stats gs ss) t) us
view_stats EndStats w falls v names named loops k = w
view_stats (MoreStats x ss) w falls v names named loops k = view_stats ss (view_stat x w v _ loops k.1.0) falls v _ named loops k.1.1

pub view_block :
    {gs frames : List Frame} {c : ℕ} {hidden : List ℕ} {t : ℕ} {us : List UpName} (b : Block) → View gs frames c hidden t us
    → (falls v : Bool) (named : List Named) (loops : Bool) → BlockKeeps (placed_block gs b) falls v t named loops
    → View (behind gs b) (behind frames b) c hidden (levels_in (placed_block gs b) t) us
view_block (Falls ss tokens line) w falls v named loops k = view_stats ss w falls v [] named loops k
view_block (Returns ss es tokens line) w falls v named loops k = view_stats ss w false v [] named loops k.0

-- Where names are found.

local_there : {gs frames : List Frame} {c : ℕ} {hidden : List ℕ} {t : ℕ} {us : List UpName} (text : List ℕ) (n : ℕ) → View gs frames c hidden t us → register_of text (own_variables gs) ≡ Some n → LocalIsThere hidden t (as_byte n)
local_there {gs} {frames} {c} {hidden} {t} text n w e =
    let lt : n < t = omega (arith, register_below text (own_variables gs) n e, w.level) in
    let byte : n ≡ as_byte n = omega (arith, lt, w.most) in
    subst (LocalIsThere hidden t) byte (lt, w.shown text n e)

upvalue_there : {gs frames : List Frame} {c : ℕ} {hidden : List ℕ} {t : ℕ} {us : List UpName} (text : List ℕ) (n : ℕ) → View gs frames c hidden t us → upvalue_of text (own_upvalues gs) ≡ Some n → as_byte n < length us
upvalue_there {gs} {frames} {c} {hidden} {t} {us} text n w e =
    let lt : n < length us = upvalue_below text us n (ap (upvalue_of text) (sym w.own) ∙ e) in
    omega (arith, lt)

pub place_there : {gs frames : List Frame} {c : ℕ} {hidden : List ℕ} {t : ℕ} {us : List UpName} (text : List ℕ) → View gs frames c hidden t us → knows gs (needed text gs) ≡ true → PlaceIsThere hidden t (length us) (place_of text gs)
place_there {gs = []} text w k = absurd (omega (arith, w.depth))
place_there {gs = g ∷ gs} {frames} {c} {hidden} {t} {us} text w k = by (is_variable text (g ∷ gs)) k
  where
    variable : (r q : Option ℕ) → register_of text g.variables ≡ r → upvalue_of text g.upvalues ≡ q → is_some (option_map_or (λ x. Some (declared_at x)) r (option_map captured_at q)) ≡ true → PlaceIsThere hidden t (length us) (option_map_or (λ x. InRegister (as_byte x)) r (Upvalue (as_byte (unwrap_or q 0))))
    variable (Some n) q er eq k = local_there text n w er
    variable None (Some n) er eq k = upvalue_there text n w eq
    variable None None er eq k = absurd (search rules)

    global : (r q : Option ℕ) → register_of environment g.variables ≡ r → upvalue_of environment g.upvalues ≡ q → is_some (option_map_or (λ x. Some (declared_at x)) r (option_map captured_at q)) ≡ true → PlaceIsThere hidden t (length us) (option_map_or (λ x. GlobalIn (as_byte x)) r (GlobalOf (as_byte (unwrap_or q 0))))
    global (Some n) q er eq k = local_there environment n w er
    global None (Some n) er eq k = upvalue_there environment n w eq
    global None None er eq k = absurd (search rules)

    by : (b : Bool) → knows (g ∷ gs) (if b then text else environment) ≡ true → PlaceIsThere hidden t (length us) (if b then variable_place text g else global_place g)
    by true k = variable (register_of text g.variables) (upvalue_of text g.upvalues) refl refl k
    by false k = global (register_of environment g.variables) (upvalue_of environment g.upvalues) refl refl k

-- a variable that an inner function has from this one
capture_there : {gs frames : List Frame} {c : ℕ} {hidden : List ℕ} {t : ℕ} {us : List UpName} (text : List ℕ) → View gs frames c hidden t us → knows gs text ≡ true → CaptureIsThere hidden t (length us) (up_name gs text).in_stack (up_name gs text).index
capture_there {gs = []} text w k = absurd (omega (arith, w.depth))
capture_there {gs = g ∷ gs} {frames} {c} {hidden} {t} {us} text w k = by (register_of text g.variables) (upvalue_of text g.upvalues) refl refl k
  where
    named : Option ℕ → Option ℕ → UpName
    named r q = option_map_or {U = UpName} (λ x. record { text = text; in_stack = true; index = as_byte x }) r (record { text = text; in_stack = false; index = as_byte (unwrap_or q 0) })

    by : (r q : Option ℕ) → register_of text g.variables ≡ r → upvalue_of text g.upvalues ≡ q → is_some (option_map_or (λ x. Some (declared_at x)) r (option_map captured_at q)) ≡ true → CaptureIsThere hidden t (length us) (named r q).in_stack (named r q).index
    by (Some n) q er eq k = local_there text n w er
    by None (Some n) er eq k = upvalue_there text n w eq
    by None None er eq k = absurd (search rules)

one_more : (hidden : List ℕ) (t ups : ℕ) (us : List UpName) (u : UpName) → CapturesAreThere hidden t ups us → CaptureIsThere hidden t ups u.in_stack u.index → CapturesAreThere hidden t ups (us ++ u ∷ [])
one_more hidden t ups [] u h k = (k, tt)
one_more hidden t ups (x ∷ us) u h k = (h.0, one_more hidden t ups us u h.1 k)

pub captures_there :
    (texts : List (List ℕ)) {gs frames : List Frame} {c : ℕ} {hidden : List ℕ} {t : ℕ} {us : List UpName} (found : List UpName) → View gs frames c hidden t us
    → KnowsAll gs texts → CapturesAreThere hidden t (length us) found → CapturesAreThere hidden t (length us) (add_all (up_name gs) found texts)
captures_there [] found w k h = h
captures_there (text ∷ texts) {gs} {frames} {c} {hidden} {t} {us} found w k h = captures_there texts _ w k.1 (by (has found text))
  where
    by : (b : Bool) → CapturesAreThere hidden t (length us) (if b then found else found ++ up_name gs text ∷ [])
    by true = h
    by false = one_more hidden t (length us) found (up_name gs text) h (capture_there text w k.0)

-- A name that is met: its variable is the function's own, or among its upvalues.

pub name_known : {gs : List Frame} {c : ℕ} {hidden : List ℕ} {t : ℕ} {us : List UpName} (s : Scope) (name : Name) → View gs s.frames c hidden t us → HasAll us (outside_all c (at s (Naming name) ∷ [])) → knows gs (needed name.text gs) ≡ true
name_known {gs = []} s name w h = absurd (omega (arith, w.depth))
name_known {gs = g ∷ gs} {c} {hidden} {t} {us} s name w h =
    let text : List ℕ = needed name.text (g ∷ gs) in
    let one : length (bare (g ∷ gs)) - c ≡ 1 = omega (arith, w.depth, bare_length (g ∷ gs)) in
    let bared : HasAll us ((if list_any (is_local (needed name.text (bare (g ∷ gs)))) (take (length (bare (g ∷ gs)) - c) (bare (g ∷ gs))) then [] else needed name.text (bare (g ∷ gs)) ∷ []) ++ []) =
    subst (λ fs. HasAll us ((if list_any (is_local (needed name.text fs)) (take (length fs - c) fs) then [] else needed name.text fs ∷ []) ++ [])) w.seen h in
    let own : HasAll us ((if list_any (is_local text) (take (length (bare (g ∷ gs)) - c) (bare (g ∷ gs))) then [] else text ∷ []) ++ []) =
    subst (λ x. HasAll us ((if list_any (is_local x) (take (length (bare (g ∷ gs)) - c) (bare (g ∷ gs))) then [] else x ∷ []) ++ [])) (bare_needed name.text (g ∷ gs)) bared in
    let here : HasAll us ((if (is_local text g || false) then [] else text ∷ []) ++ []) =
    subst (λ n. HasAll us ((if list_any (is_local text) (take n (bare (g ∷ gs))) then [] else text ∷ []) ++ [])) one own in
    known_by (register_of text g.variables) (upvalue_of text g.upvalues)
    (ap (λ xs. is_local text g || has xs text) w.own ∙ by text (is_local text g) here)
  where
    by : (x : List ℕ) (b : Bool) → HasAll us ((if (b || false) then [] else x ∷ []) ++ []) → (b || has us x) ≡ true
    by x true k = refl
    by x false k = k.0
