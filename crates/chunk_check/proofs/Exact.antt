-- There is no fault exactly where the code is checked.
use Rattle.std.proofs.Common.{◌≡◌, ℕ, zero, suc, ◌+◌, ◌<◌, ◌^◌, Bool, true, false, cond, List, [], ◌∷◌, ◌++◌, Some, None, refl, arith}
use Rattle.std.specs.Prelude.{slice_get, IsTrue}
use Rattle.code_core.specs.declared.instruction.Instruction.{Instruction}
use Rattle.code_core.specs.Prototype.{Prototype, Prototypes, none, more, count}
use Rattle.code_core.specs.Writable.{is_writable}
use Rattle.code_core.specs.Check.{Rule, rules, is_sized, is_described, at, AllHold, CodeIsChecked, AllChecked, IsChecked}
use Rattle.code_core.proofs.CheckedLemmas.{described_is_writable, function_count_below}
use Rattle.chunk_check.specs.Faults.{failing, code_faults, own_faults, inner_faults, faults, first_fault}

-- lists that are empty

both_empty : {A : Type 0} (xs ys : List A) → xs ++ ys ≡ [] → (xs ≡ []) × (ys ≡ [])
both_empty [] ys e = (refl, e)
both_empty (x ∷ xs) ys e = absurd (cc)

empty_first : {A : Type 0} (xs : List A) → slice_get xs 0 ≡ None → xs ≡ []
empty_first [] e = refl
empty_first (x ∷ xs) e = absurd (cc)

-- rules

none_failing : (function pc : ℕ) (rs : List Rule) → failing function pc rs ≡ [] → AllHold rs
none_failing function pc [] e = tt
none_failing function pc (r ∷ rs) e = go r.1 refl e (λ h. none_failing function pc rs h)
  where
    go : (b : Bool) → r.1 ≡ b → cond b (failing function pc rs) (record { function = function; pc = pc; rule = r.0 } ∷ failing function pc rs) ≡ []
        → (failing function pc rs ≡ [] → AllHold rs) → IsTrue r.1 × AllHold rs
    go true holds e again = (holds, again e)
    go false holds e again = absurd (cc)

all_hold : (function pc : ℕ) (rs : List Rule) → AllHold rs → failing function pc rs ≡ []
all_hold function pc [] h = refl
all_hold function pc (r ∷ rs) h = let holds : r.1 ≡ true = h.0 in rw holds (all_hold function pc rs h.1)

split_hold : (rs qs : List Rule) → AllHold (rs ++ qs) → AllHold rs × AllHold qs
split_hold [] qs h = (tt, h)
split_hold (r ∷ rs) qs h = let s = split_hold rs qs h.1 in ((h.0, s.0), s.1)

join_hold : (rs qs : List Rule) → AllHold rs → AllHold qs → AllHold (rs ++ qs)
join_hold [] qs h k = k
join_hold (r ∷ rs) qs h k = (h.0, join_hold rs qs h.1 k)

-- places

AllPlaces : Prototype → ℕ → List Instruction → Type 0
AllPlaces p pc ws = (i : ℕ) (w : Instruction) → slice_get ws i ≡ Some w → AllHold (rules p (pc + i) w)

none_in_code : (function : ℕ) (p : Prototype) (pc : ℕ) (ws : List Instruction) → code_faults function p pc ws ≡ [] → AllPlaces p pc ws
unfolding AllPlaces
none_in_code function p pc [] e i w h = absurd (cc)
none_in_code function p pc (v ∷ ws) e zero w h =
    let s = both_empty (failing function pc (rules p pc v)) _ e in
    let same : v ≡ w = cc in
    let here : pc + 0 ≡ pc = omega arith in
    rw (here, ← same) (none_failing function pc (rules p pc v) s.0)
none_in_code function p pc (v ∷ ws) e (suc i) w h =
    let s = both_empty (failing function pc (rules p pc v)) _ e in
    let there : pc + suc i ≡ pc + 1 + i = omega arith in
    rw there (none_in_code function p (pc + 1) ws s.1 i w h)

code_holds : (function : ℕ) (p : Prototype) (pc : ℕ) (ws : List Instruction) → AllPlaces p pc ws → code_faults function p pc ws ≡ []
unfolding AllPlaces
code_holds function p pc [] h = refl
code_holds function p pc (v ∷ ws) h =
    let at_pc : pc + 0 ≡ pc = omega arith in
    let here : AllHold (rules p pc v) = rw at_pc at (h 0 v refl) in
    let behind : AllPlaces p (pc + 1) ws = λ i w e. let there : pc + 1 + i ≡ pc + suc i = omega arith in rw there (h (suc i) w e) in
    rw (all_hold function pc (rules p pc v) here) (code_holds function p (pc + 1) ws behind)

-- functions

places_from : (p : Prototype) (ws : List Instruction) → p.own.code ≡ ws → AllPlaces p 0 ws → (pc : ℕ) (w : Instruction) → at p pc ≡ Some w → AllHold (rules p pc w)
unfolding AllPlaces
places_from p ws is h pc w e =
    let here : slice_get ws pc ≡ Some w = rw is at e in
    let at_pc : 0 + pc ≡ pc = omega arith in
    rw at_pc at (h pc w here)

places_of : (p : Prototype) (w : Instruction) (ws : List Instruction) → AllHold (rules p 0 w) → AllPlaces p 1 ws → AllPlaces p 0 (w ∷ ws)
unfolding AllPlaces
places_of p w ws first rest zero v e = let same : w ≡ v = cc in rw (← same) first
places_of p w ws first rest (suc i) v e = let there : 0 + suc i ≡ 1 + i = omega arith in rw there (rest i v e)

no_places : (p : Prototype) → AllPlaces p 0 []
unfolding AllPlaces
no_places p i w e = absurd (cc)

none_own : (function : ℕ) (p : Prototype) (ws : List Instruction) → p.own.code ≡ ws → own_faults function p ws ≡ [] → CodeIsChecked p
none_own function p [] is e =
    let h = none_failing function 0 ((1, is_sized p) ∷ (12, is_described p) ∷ []) e in
    record { sized = h.0; places = places_from p [] is (no_places p); described = h.1.0 }
none_own function p (w ∷ ws) is e =
    let s = both_empty (failing function 0 ((1, is_sized p) ∷ rules p 0 w ++ (12, is_described p) ∷ [])) _ e in
    let h = none_failing function 0 ((1, is_sized p) ∷ rules p 0 w ++ (12, is_described p) ∷ []) s.0 in
    let k = split_hold (rules p 0 w) ((12, is_described p) ∷ []) h.1 in
    record { sized = h.0; places = places_from p (w ∷ ws) is (places_of p w ws k.0 (none_in_code function p 1 ws s.1)); described = k.1.0 }

all_places : (p : Prototype) (ws : List Instruction) → p.own.code ≡ ws → CodeIsChecked p → AllPlaces p 0 ws
unfolding AllPlaces
all_places p ws is h i w e =
    let here : at p i ≡ Some w = rw (← is) at e in
    let at_pc : 0 + i ≡ i = omega arith in
    rw at_pc (h.places i w here)

first_place : (p : Prototype) (w : Instruction) (ws : List Instruction) → AllPlaces p 0 (w ∷ ws) → AllHold (rules p 0 w)
unfolding AllPlaces
first_place p w ws h = h 0 w refl

other_places : (p : Prototype) (w : Instruction) (ws : List Instruction) → AllPlaces p 0 (w ∷ ws) → AllPlaces p 1 ws
unfolding AllPlaces
other_places p w ws h i v e = let there : 1 + i ≡ 0 + suc i = omega arith in rw there (h (suc i) v e)

own_holds : (function : ℕ) (p : Prototype) (ws : List Instruction) → p.own.code ≡ ws → CodeIsChecked p → own_faults function p ws ≡ []
own_holds function p [] is h = all_hold function 0 ((1, is_sized p) ∷ (12, is_described p) ∷ []) (h.sized, (h.described, tt))
own_holds function p (w ∷ ws) is h =
    let places = all_places p (w ∷ ws) is h in
    let first = all_hold function 0 ((1, is_sized p) ∷ rules p 0 w ++ (12, is_described p) ∷ []) (h.sized, join_hold (rules p 0 w) ((12, is_described p) ∷ []) (first_place p w ws places) (h.described, tt)) in
    rw (first, code_holds function p 1 ws (other_places p w ws places)) refl

none_inner : (function : ℕ) (ps : Prototypes) → inner_faults function ps ≡ [] → AllChecked ps
none_inner function none e = tt
none_inner function (more own inner rest) e =
    let s = both_empty (own_faults function (record { own = own; inner = inner }) own.code) _ e in
    let t = both_empty (inner_faults (function + 1) inner) _ s.1 in
    (none_own function (record { own = own; inner = inner }) own.code refl s.0, none_inner (function + 1) inner t.0, none_inner (function + 1 + count inner) rest t.1)

inner_hold : (function : ℕ) (ps : Prototypes) → AllChecked ps → inner_faults function ps ≡ []
inner_hold function none h = refl
inner_hold function (more own inner rest) h =
    rw (own_holds function (record { own = own; inner = inner }) own.code refl h.0, inner_hold (function + 1) inner h.1, inner_hold (function + 1 + count inner) rest h.2) refl

pub checked_by_walks : (p : Prototype) → own_faults 0 p p.own.code ≡ [] → inner_faults 1 p.inner ≡ [] → IsChecked p
checked_by_walks p own inner = record { code = none_own 0 p p.own.code refl own; inner = none_inner 1 p.inner inner }

pub checked_without_faults : (p : Prototype) → first_fault p ≡ None → IsChecked p
checked_without_faults p e =
    let s = both_empty (own_faults 0 p p.own.code) (inner_faults 1 p.inner) (empty_first (faults p) e) in
    checked_by_walks p s.0 s.1

pub no_fault_in_checked : (p : Prototype) → IsChecked p → first_fault p ≡ None
no_fault_in_checked p h = rw (own_holds 0 p p.own.code refl h.code, inner_hold 1 p.inner h.inner) refl

-- from the answers of the two walks

pub writable_without_faults : (p : Prototype) → own_faults 0 p p.own.code ≡ [] → is_writable p ≡ true
writable_without_faults p own = described_is_writable p (none_own 0 p p.own.code refl own).described

pub numbers_without_faults : (p : Prototype) → own_faults 0 p p.own.code ≡ [] → 1 + count p.inner < 2 ^ 32
numbers_without_faults p own =
    let below = function_count_below p (writable_without_faults p own) in
    omega arith
