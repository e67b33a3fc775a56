-- Lists of names that a function has among its upvalues, or knows.
use Rattle.std.proofs.Common.{rules, arith, ℕ, suc, ◌+◌, ◌≡◌, ◌<◌, Bool, true, false, ◌||◌, List, [], ◌∷◌, ◌++◌, Option, Some, None, refl, sym, ap, ap₂, ◌∙◌, subst, length, if◌then◌else◌}
use Rattle.std.specs.Prelude.{is_some, option_map, cond}
use Rattle.std.specs.List.{position_from}
use Rattle.std.specs.Option.{option_map_or}
use Rattle.std.specs.Str.{bytes_eq}
use Rattle.std.proofs.lemmas.Iterator.Adapters.{position_from-zero}
use Rattle.std.proofs.lemmas.Slice.Eq.{bytes_eq-Decides}
use Rattle.tree_core.specs.declared.name.UpName.{UpName}
use Rattle.scope_core.specs.declared.variable.Variable.{Variable}
use Rattle.scope_core.specs.Scopes.{Frame, has_name, register_of, upvalue_of}
use Rattle.scope_core.specs.Parts.{Located}
use Rattle.scope_core.specs.Places.{outside_all}
use Rattle.scope_core.specs.Reaching.{captured_at, declared_at}
use Rattle.scope_core.specs.Walked.{own_variables, own_upvalues, left}
use Rattle.scope_core.proofs.Captures.{pushed}
use Rattle.scope_core.proofs.Growing.{Grown, knows, still_there}
use Rattle.scope_core.proofs.Levels.{Closed, add, add_all, missed}
use Rattle.scope_core.proofs.Effects.{outside_append}

-- Upvalues that are there.

abbrev pub has : List UpName → List ℕ → Bool
has us text = is_some (upvalue_of text us)

abbrev pub HasAll : List UpName → List (List ℕ) → Type 0
HasAll us [] = Unit {0}
HasAll us (text ∷ texts) = (has us text ≡ true) × HasAll us texts

has_front : (us : List UpName) (ts rs : List (List ℕ)) → HasAll us (ts ++ rs) → HasAll us ts
has_front us [] rs h = tt
has_front us (t ∷ ts) rs h = (h.0, has_front us ts rs h.1)

has_back : (us : List UpName) (ts rs : List (List ℕ)) → HasAll us (ts ++ rs) → HasAll us rs
has_back us [] rs h = h
has_back us (t ∷ ts) rs h = has_back us ts rs h.1

-- of the names in parts that stand one after the other
pub first_has : (us : List UpName) (c : ℕ) (ps qs : List Located) → HasAll us (outside_all c (ps ++ qs)) → HasAll us (outside_all c ps)
first_has us c ps qs h = has_front us (outside_all c ps) (outside_all c qs) (subst (HasAll us) (outside_append c ps qs) h)

pub last_has : (us : List UpName) (c : ℕ) (ps qs : List Located) → HasAll us (outside_all c (ps ++ qs)) → HasAll us (outside_all c qs)
last_has us c ps qs h = has_back us (outside_all c ps) (outside_all c qs) (subst (HasAll us) (outside_append c ps qs) h)

pub adds_nothing : (up : List ℕ → UpName) (us : List UpName) (texts : List (List ℕ)) → HasAll us texts → add_all up us texts ≡ us
adds_nothing up us [] h = refl
adds_nothing up us (text ∷ texts) h = ap (λ b. add_all up (if b then us else us ++ up text ∷ []) texts) h.0 ∙ adds_nothing up us texts h.1

has_more : (us : List UpName) (u : UpName) (text : List ℕ) → has us text ≡ true → has (us ++ u ∷ []) text ≡ true
has_more us u text h = by (upvalue_of text us) refl
  where
    by : (q : Option ℕ) → upvalue_of text us ≡ q → has (us ++ u ∷ []) text ≡ true
    by (Some i) e = ap is_some (still_there text us (us ++ u ∷ []) i (u ∷ [], refl) e)
    by None e = absurd (nothing (sym (ap is_some e) ∙ h))
      where
        nothing : false ≡ true → ⊥
        nothing f = search rules

has_last : (us : List UpName) (u : UpName) (text : List ℕ) → u.text ≡ text → has (us ++ u ∷ []) text ≡ true
has_last us u text named = by (upvalue_of text us) refl
  where
    by : (q : Option ℕ) → upvalue_of text us ≡ q → has (us ++ u ∷ []) text ≡ true
    by (Some i) e = has_more us u text (ap is_some e)
    by None e = ap is_some (pushed (λ (v : UpName). bytes_eq v.text text) us u e ((bytes_eq-Decides u.text text).1 named))

added_has : (up : List ℕ → UpName) (us : List UpName) (text other : List ℕ) → has us other ≡ true → has (add up us text) other ≡ true
added_has up us text other h = by (has us text)
  where
    by : (b : Bool) → has (if b then us else us ++ up text ∷ []) other ≡ true
    by true = h
    by false = has_more us (up text) other h

all_added_has : (up : List ℕ → UpName) (us : List UpName) (texts : List (List ℕ)) (other : List ℕ) → has us other ≡ true → has (add_all up us texts) other ≡ true
all_added_has up us [] other h = h
all_added_has up us (text ∷ texts) other h = all_added_has up (add up us text) texts other (added_has up us text other h)

add_has : (up : List ℕ → UpName) → ((text : List ℕ) → (up text).text ≡ text) → (us : List UpName) (text : List ℕ) → has (add up us text) text ≡ true
add_has up names us text = by (has us text) refl
  where
    by : (b : Bool) → has us text ≡ b → has (if b then us else us ++ up text ∷ []) text ≡ true
    by true e = e
    by false e = has_last us (up text) text (names text)

pub has_added : (up : List ℕ → UpName) → ((text : List ℕ) → (up text).text ≡ text) → (us : List UpName) (texts : List (List ℕ)) → HasAll (add_all up us texts) texts
has_added up names us [] = tt
has_added up names us (text ∷ texts) =
    (all_added_has up (add up us text) texts text (add_has up names us text), has_added up names (add up us text) texts)

-- Functions that know names.

abbrev pub KnowsAll : List Frame → List (List ℕ) → Type 0
KnowsAll gs [] = Unit {0}
KnowsAll gs (text ∷ texts) = (knows gs text ≡ true) × KnowsAll gs texts

-- the names that a function adds to its upvalues are known outside it, so all its upvalues are
pub known_added :
    (up : List ℕ → UpName) (names : (text : List ℕ) → (up text).text ≡ text) (gs : List Frame) (us : List UpName) (texts : List (List ℕ))
    → ((text : List ℕ) → has us text ≡ true → knows gs text ≡ true) → KnowsAll gs texts
    → (text : List ℕ) → has (add_all up us texts) text ≡ true → knows gs text ≡ true
known_added up names gs us [] old k = old
known_added up names gs us (x ∷ xs) old k = known_added up names gs (add up us x) xs (λ text. by text (has us x)) k.1
  where
    last : (text : List ℕ) (q : Option ℕ) (b : Bool) → upvalue_of text us ≡ q → bytes_eq (up x).text text ≡ b → has (us ++ up x ∷ []) text ≡ true → knows gs text ≡ true
    last text (Some i) b e f h = old text (ap is_some e)
    last text None true e f h =
        let is : x ≡ text = sym (names x) ∙ (bytes_eq-Decides (up x).text text).0 f in
        subst (λ y. knows gs y ≡ true) is k.0
    last text None false e f h =
        let none : upvalue_of text (us ++ up x ∷ []) ≡ None = missed text us (up x) e f in
        let bad : false ≡ true = sym (ap is_some none) ∙ h in
        absurd (search rules)

    by : (text : List ℕ) (b : Bool) → has (if b then us else us ++ up x ∷ []) text ≡ true → knows gs text ≡ true
    by text true h = old text h
    by text false h = last text (upvalue_of text us) (bytes_eq (up x).text text) refl refl h

closed_knows : (es : List Frame) (text : List ℕ) → Closed es → has (own_upvalues es) text ≡ true → knows (left es) text ≡ true
closed_knows [] text c h = refl
closed_knows (e ∷ es) text c h = c.0 text h

-- functions that have grown, and have no more in the innermost one
knows_back : (gs fs : List Frame) (text : List ℕ) → Grown gs fs → own_variables fs ≡ own_variables gs → own_upvalues fs ≡ own_upvalues gs → knows fs text ≡ true → knows gs text ≡ true
knows_back [] fs text g v u k = refl
knows_back (g ∷ gs) [] text p v u k = absurd p
knows_back (g ∷ gs) (f ∷ fs) text p v u k =
    ap₂ (λ (vs : List Variable) (us : List UpName). is_some (option_map_or (λ x. Some (declared_at x)) (register_of text vs) (option_map captured_at (upvalue_of text us)))) (sym v) (sym u) ∙ k

pub all_known :
    (gs es : List Frame) (texts : List (List ℕ)) → Closed es → Grown gs (left es) → own_variables (left es) ≡ own_variables gs → own_upvalues (left es) ≡ own_upvalues gs
    → HasAll (own_upvalues es) texts → KnowsAll gs texts
all_known gs es [] c g v u h = tt
all_known gs es (text ∷ texts) c g v u h = (knows_back gs (left es) text g v u (closed_knows es text c h.0), all_known gs es texts c g v u h.1)

-- Where a name is found.

pub register_below : (text : List ℕ) (vs : List Variable) (n : ℕ) → register_of text vs ≡ Some n → n < length vs
register_below text [] n e = absurd (search rules)
register_below text (v ∷ vs) n e = by (has_name text v) e (register_below text vs n)
  where
    by : (b : Bool) → (if b then Some (length vs) else register_of text vs) ≡ Some n → (register_of text vs ≡ Some n → n < length vs) → n < suc (length vs)
    by true f go =
        let is : length vs ≡ n = search rules in
        omega (arith, is)
    by false f go =
        let lt : n < length vs = go f in
        omega (arith, lt)

from_below : {X : Type 0} (p : X → Bool) (k n : ℕ) (xs : List X) → position_from p k xs ≡ Some n → n < k + length xs
from_below p k n [] e = absurd (search rules)
from_below p k n (x ∷ xs) e = by (p x) e (from_below p (k + 1) n xs)
  where
    by : (b : Bool) → cond b (Some k) (position_from p (k + 1) xs) ≡ Some n → (position_from p (k + 1) xs ≡ Some n → n < k + 1 + length xs) → n < k + suc (length xs)
    by true f go =
        let is : k ≡ n = search rules in
        omega (arith, is)
    by false f go =
        let lt : n < k + 1 + length xs = go f in
        omega (arith, lt)

pub upvalue_below : (text : List ℕ) (us : List UpName) (n : ℕ) → upvalue_of text us ≡ Some n → n < length us
upvalue_below text us n e =
    let p : UpName → Bool = λ (u : UpName). bytes_eq u.text text in
    let lt : n < 0 + length us = from_below p 0 n us (sym (position_from-zero p us) ∙ e) in
    omega (arith, lt)

pub known_by : (r q : Option ℕ) → (option_map_or (λ (x : ℕ). true) r false || is_some q) ≡ true → is_some (option_map_or (λ x. Some (declared_at x)) r (option_map captured_at q)) ≡ true
known_by (Some n) q k = refl
known_by None (Some n) k = refl
known_by None None k = k
