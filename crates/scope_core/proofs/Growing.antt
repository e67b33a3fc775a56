-- Functions whose lists of upvalues grow: what is found in them stays found at its place.
use Rattle.std.proofs.Common.{rules, ℕ, ◌+◌, ◌≡◌, Bool, true, false, ◌||◌, List, [], ◌∷◌, ◌++◌, Option, Some, None, refl, sym, ap, ap₂, ◌∙◌, append_assoc, if◌then◌else◌}
use Rattle.std.specs.Prelude.{is_some, option_map, cond}
use Rattle.std.specs.List.{list_any, position_from}
use Rattle.std.specs.Option.{option_map_or}
use Rattle.std.specs.Str.{bytes_eq}
use Rattle.std.proofs.lemmas.Iterator.Adapters.{position_from-zero}
use Rattle.tree_core.specs.declared.name.UpName.{UpName}
use Rattle.scope_core.specs.declared.frame.Source.{Source}
use Rattle.scope_core.specs.Scopes.{Frame, register_of, upvalue_of, environment, is_local, is_variable, needed}
use Rattle.scope_core.specs.Places.{up_name, place_of}
use Rattle.scope_core.specs.Reaching.{captured_at, declared_at, source_in}
use Rattle.scope_core.specs.Walked.{own_variables}
use Rattle.scope_core.proofs.Captures.{found_source}
use Rattle.scope_core.proofs.Finding.{variable_at, global_at}

abbrev pub Prefix : List UpName → List UpName → Type 0
Prefix us vs = (more : List UpName) × (vs ≡ us ++ more)

-- the same functions with the same variables, and perhaps more upvalues behind theirs
abbrev pub Extends : List Frame → List Frame → Type 0
Extends [] [] = Unit {0}
Extends [] (g ∷ gs) = ⊥
Extends (f ∷ fs) [] = ⊥
Extends (f ∷ fs) (g ∷ gs) = (f.variables ≡ g.variables) × Prefix f.upvalues g.upvalues × Extends fs gs

abbrev pub without_own : List Frame → List Frame
without_own [] = []
without_own (f ∷ fs) = record f { variables = [] } ∷ fs

-- the same, but for the variables of the innermost function
abbrev pub Grown : List Frame → List Frame → Type 0
Grown fs gs = Extends (without_own fs) (without_own gs)

pub append_nil : {X : Type 0} (xs : List X) → xs ≡ xs ++ []
append_nil [] = refl
append_nil (x ∷ xs) = ap (λ ys. x ∷ ys) (append_nil xs)

prefix_same : (us : List UpName) → Prefix us us
prefix_same us = ([], append_nil us)

prefix_through : (us vs ws : List UpName) → Prefix us vs → Prefix vs ws → Prefix us ws
prefix_through us vs ws p q = (p.0 ++ q.0, q.1 ∙ ap (λ xs. xs ++ q.0) p.1 ∙ append_assoc us p.0 q.0)

pub extends_same : (fs : List Frame) → Extends fs fs
extends_same [] = tt
extends_same (f ∷ fs) = (refl, prefix_same f.upvalues, extends_same fs)

pub extends_through : (fs gs hs : List Frame) → Extends fs gs → Extends gs hs → Extends fs hs
extends_through [] [] hs p q = q
extends_through [] (g ∷ gs) hs p q = absurd p
extends_through (f ∷ fs) [] hs p q = absurd p
extends_through (f ∷ fs) (g ∷ gs) [] p q = q
extends_through (f ∷ fs) (g ∷ gs) (h ∷ hs) p q =
    (p.0 ∙ q.0, prefix_through f.upvalues g.upvalues h.upvalues p.1 q.1, extends_through fs gs hs p.2 q.2)

pub grown_through : (fs gs hs : List Frame) → Grown fs gs → Grown gs hs → Grown fs hs
grown_through fs gs hs p q = extends_through (without_own fs) (without_own gs) (without_own hs) p q

pub grown_of : (fs gs : List Frame) → Extends fs gs → Grown fs gs
grown_of [] [] p = tt
grown_of [] (g ∷ gs) p = absurd p
grown_of (f ∷ fs) [] p = absurd p
grown_of (f ∷ fs) (g ∷ gs) p = (refl, p.1, p.2)

pub extends_of : (fs gs : List Frame) → Grown fs gs → own_variables fs ≡ own_variables gs → Extends fs gs
extends_of [] [] p e = tt
extends_of [] (g ∷ gs) p e = absurd p
extends_of (f ∷ fs) [] p e = absurd p
extends_of (f ∷ fs) (g ∷ gs) p e = (e, p.1, p.2)

-- What is known to functions.

abbrev pub knows : List Frame → List ℕ → Bool
knows [] text = true
knows (f ∷ fs) text = is_some (source_in text f)

behind_from : {X : Type 0} (p : X → Bool) (k i : ℕ) (xs ys : List X) → position_from p k xs ≡ Some i → position_from p k (xs ++ ys) ≡ Some i
behind_from p k i [] ys e = absurd (search rules)
behind_from p k i (x ∷ xs) ys e = by_first (p x) e (behind_from p (k + 1) i xs ys)
  where
    by_first : (b : Bool) → cond b (Some k) (position_from p (k + 1) xs) ≡ Some i → (position_from p (k + 1) xs ≡ Some i → position_from p (k + 1) (xs ++ ys) ≡ Some i) → cond b (Some k) (position_from p (k + 1) (xs ++ ys)) ≡ Some i
    by_first true e go = e
    by_first false e go = go e

pub still_there : (text : List ℕ) (us vs : List UpName) (i : ℕ) → Prefix us vs → upvalue_of text us ≡ Some i → upvalue_of text vs ≡ Some i
still_there text us vs i p e =
    let has : UpName → Bool = λ (u : UpName). bytes_eq u.text text in
    ap (upvalue_of text) p.1
    ∙ position_from-zero has (us ++ p.0)
    ∙ behind_from has 0 i us p.0 (sym (position_from-zero has us) ∙ e)

stable : (r p q : Option ℕ) (s : Source) → ((i : ℕ) → p ≡ Some i → q ≡ Some i) → option_map_or (λ x. Some (declared_at x)) r (option_map captured_at p) ≡ Some s → option_map_or (λ x. Some (declared_at x)) r (option_map captured_at q) ≡ Some s
stable (Some r) p q s h e = e
stable None (Some i) q s h e = ap (option_map captured_at) (h i refl) ∙ e
stable None None q s h e = absurd (search rules)

same_source : (text : List ℕ) (f g : Frame) (s : Source) → f.variables ≡ g.variables → Prefix f.upvalues g.upvalues → source_in text f ≡ Some s → source_in text g ≡ Some s
same_source text f g s v u e =
    ap (λ vs. option_map_or (λ x. Some (declared_at x)) (register_of text vs) (option_map captured_at (upvalue_of text g.upvalues))) (sym v)
    ∙ stable (register_of text f.variables) (upvalue_of text f.upvalues) (upvalue_of text g.upvalues) s (λ i. still_there text f.upvalues g.upvalues i u) e

-- a source, where one is known
pub known_source : (o : Option Source) → is_some o ≡ true → (s : Source) × (o ≡ Some s)
known_source (Some s) e = (s, refl)
known_source None e = absurd (search rules)

some_known : (o : Option Source) (s : Source) → o ≡ Some s → is_some o ≡ true
some_known o s e = ap is_some e

pub knows_more : (text : List ℕ) (fs gs : List Frame) → Extends fs gs → knows fs text ≡ true → knows gs text ≡ true
knows_more text [] [] p k = refl
knows_more text [] (g ∷ gs) p k = absurd p
knows_more text (f ∷ fs) [] p k = absurd p
knows_more text (f ∷ fs) (g ∷ gs) p k =
    let s = known_source (source_in text f) k in
    some_known (source_in text g) s.0 (same_source text f g s.0 p.0 p.1 s.1)

pub same_up_name : (text : List ℕ) (fs gs : List Frame) → Extends fs gs → knows fs text ≡ true → up_name fs text ≡ up_name gs text
same_up_name text [] [] p k = refl
same_up_name text [] (g ∷ gs) p k = absurd p
same_up_name text (f ∷ fs) [] p k = absurd p
same_up_name text (f ∷ fs) (g ∷ gs) p k =
    let s = known_source (source_in text f) k in
    found_source text f fs s.0 s.1 ∙ sym (found_source text g gs s.0 (same_source text f g s.0 p.0 p.1 s.1))

pub same_locals : (text : List ℕ) (fs gs : List Frame) → Extends fs gs → list_any (is_local text) fs ≡ list_any (is_local text) gs
same_locals text [] [] p = refl
same_locals text [] (g ∷ gs) p = absurd p
same_locals text (f ∷ fs) [] p = absurd p
same_locals text (f ∷ fs) (g ∷ gs) p =
    ap₂ (λ a b. a || b) (ap (λ vs. option_map_or (λ (r : ℕ). true) (register_of text vs) false) p.0) (same_locals text fs gs p.2)

pub same_needed : (text : List ℕ) (fs gs : List Frame) → Extends fs gs → needed text fs ≡ needed text gs
same_needed text fs gs p = ap (λ b. if (bytes_eq text environment || b) then text else environment) (same_locals text fs gs p)

-- The place of a name.

place_by : (text : List ℕ) (fs gs : List Frame) (variable : Bool) → is_variable text fs ≡ variable → is_variable text gs ≡ variable → Extends fs gs → knows fs (if variable then text else environment) ≡ true → place_of text fs ≡ place_of text gs
place_by text [] [] variable a b p k = refl
place_by text [] (g ∷ gs) variable a b p k = absurd p
place_by text (f ∷ fs) [] variable a b p k = absurd p
place_by text (f ∷ fs) (g ∷ gs) true a b p k =
    let s = known_source (source_in text f) k in
    variable_at text (f ∷ fs) s.0 a (found_source text f fs s.0 s.1)
    ∙ sym (variable_at text (g ∷ gs) s.0 b (found_source text g gs s.0 (same_source text f g s.0 p.0 p.1 s.1)))
place_by text (f ∷ fs) (g ∷ gs) false a b p k =
    let s = known_source (source_in environment f) k in
    global_at text (f ∷ fs) s.0 a (found_source environment f fs s.0 s.1)
    ∙ sym (global_at text (g ∷ gs) s.0 b (found_source environment g gs s.0 (same_source environment f g s.0 p.0 p.1 s.1)))

pub same_place : (text : List ℕ) (fs gs : List Frame) → Extends fs gs → knows fs (needed text fs) ≡ true → place_of text fs ≡ place_of text gs
same_place text fs gs p k =
    place_by text fs gs (is_variable text fs) refl (ap (λ b. bytes_eq text environment || b) (sym (same_locals text fs gs p))) p k
