-- The first fault, place by place.
use Rattle.std.proofs.Common.{◌≡◌, ℕ, zero, suc, ◌+◌, ◌≤◌, Bool, true, false, cond, List, [], ◌∷◌, ◌++◌, Option, Some, None, refl, sym, ap, ◌∙◌, arith, ◌<◌, ◌^◌, length, drop}
use Rattle.std.specs.Prelude.{slice_get, nat_lt, ◌&&◌}
use Rattle.std.proofs.Math.ListN.{get_or}
use Rattle.std.proofs.lemmas.Option.{slice_get-get_or}
use Rattle.std.proofs.lemmas.Bool.Decides.{Decides-ltb}
use Rattle.code_core.specs.declared.instruction.Instruction.{Instruction}
use Rattle.code_core.specs.Prototype.{Parts, Prototype, Prototypes, more, count, prototypes}
use Rattle.code_core.specs.Writable.{is_writable, parts_fit, all_fit, keeps_source, depth, greatest_depth}
use Rattle.code_core.specs.Check.{Rule, rules, is_sized, is_described}
use Rattle.code_core.proofs.PrototypeLemmas.{drop-there}
use Rattle.code_core.proofs.CheckedLemmas.{first_of_two, rest_of, code_below, described_is_writable}
use Rattle.chunk_check.specs.declared.fault.CheckFault.{CheckFault}
use Rattle.chunk_check.specs.declared.fault.CheckFault.TheVariants.{Refused, Memory}
use Rattle.chunk_check.specs.Faults.{Fault, failing, code_faults, own_faults, inner_faults, first_broken, first_rules}
use Rattle.chunk_check.specs.Finds.{IsFirst}

pub entry : {A : Type 0} (xs : List A) (n : ℕ) (x : A) → n < length xs → x ≡ get_or xs n x → slice_get xs n ≡ Some x
entry xs n x within is = slice_get-get_or xs n x within ∙ ap (λ y. Some y) (sym is)

-- the same of a list that is shown as another
pub shown_entry : {A : Type 0} (xs ys : List A) (n : ℕ) (x : A) → xs ≡ ys → n < length ys → x ≡ get_or ys n x → slice_get xs n ≡ Some x
shown_entry xs ys n x shown within is = ap (λ zs. slice_get zs n) shown ∙ entry ys n x within is

abbrev pub or_else : Option ℕ → Option ℕ → Option ℕ
or_else None other = other
or_else (Some rule) other = Some rule

pub first_broken_append : (rs qs : List Rule) → first_broken (rs ++ qs) ≡ or_else (first_broken rs) (first_broken qs)
first_broken_append [] qs = refl
first_broken_append (r ∷ rs) qs = go r.1 (first_broken_append rs qs)
  where
    go : (b : Bool) → first_broken (rs ++ qs) ≡ or_else (first_broken rs) (first_broken qs) → cond b (first_broken (rs ++ qs)) (Some r.0) ≡ or_else (cond b (first_broken rs) (Some r.0)) (first_broken qs)
    go true h = h
    go false h = refl

-- the first fault in front of others, where a place has these rules
abbrev pub fault_or : ℕ → ℕ → Option ℕ → Option Fault → Option Fault
fault_or function pc None later = later
fault_or function pc (Some rule) later = Some (record { function = function; pc = pc; rule = rule })

pub first_failing : (function pc : ℕ) (rs : List Rule) (later : List Fault) → slice_get (failing function pc rs ++ later) 0 ≡ fault_or function pc (first_broken rs) (slice_get later 0)
first_failing function pc [] later = refl
first_failing function pc (r ∷ rs) later = go r.1 (first_failing function pc rs later)
  where
    go : (b : Bool) → slice_get (failing function pc rs ++ later) 0 ≡ fault_or function pc (first_broken rs) (slice_get later 0)
        → slice_get (cond b (failing function pc rs) (record { function = function; pc = pc; rule = r.0 } ∷ failing function pc rs) ++ later) 0 ≡ fault_or function pc (cond b (first_broken rs) (Some r.0)) (slice_get later 0)
    go true h = h
    go false h = refl

-- code, place by place

-- a place that breaks no rule has no fault
pub none_failing_there : (function pc : ℕ) (rs : List Rule) → first_broken rs ≡ None → failing function pc rs ≡ []
none_failing_there function pc [] e = refl
none_failing_there function pc (r ∷ rs) e = go r.1 (λ h. none_failing_there function pc rs h) e
  where
    go : (b : Bool) → (first_broken rs ≡ None → failing function pc rs ≡ []) → cond b (first_broken rs) (Some r.0) ≡ None
        → cond b (failing function pc rs) (record { function = function; pc = pc; rule = r.0 } ∷ failing function pc rs) ≡ []
    go true again h = again h
    go false again h = absurd (cc)

-- at a place that breaks no rule, the faults are those behind it
pub passes : (function : ℕ) (p : Prototype) (pc : ℕ) (w : Instruction) (ws : List Instruction) → slice_get ws pc ≡ Some w →
    first_broken (rules p pc w) ≡ None → code_faults function p pc (drop pc ws) ≡ code_faults function p (pc + 1) (drop (pc + 1) ws)
passes function p pc w ws there unbroken = rw (drop-there ws pc w there, none_failing_there function pc (rules p pc w) unbroken) refl

-- a place that breaks a rule has the first of the faults from there on
pub stops : (function : ℕ) (p : Prototype) (pc rule : ℕ) (w : Instruction) (ws : List Instruction) → slice_get ws pc ≡ Some w →
    first_broken (rules p pc w) ≡ Some rule → slice_get (code_faults function p pc (drop pc ws)) 0 ≡ Some (record { function = function; pc = pc; rule = rule })
stops function p pc rule w ws there broken =
    rw (drop-there ws pc w there, first_failing function pc (rules p pc w) (code_faults function p (pc + 1) (drop (pc + 1) ws)), broken) refl

-- behind the last place there are none
pub past_all : {A : Type 0} (xs : List A) (n : ℕ) → length xs ≤ n → drop n xs ≡ []
past_all [] zero h = refl
past_all [] (suc n) h = refl
past_all (x ∷ xs) zero h = absurd (omega arith)
past_all (x ∷ xs) (suc n) h = let k : length xs ≤ n = omega arith in past_all xs n k

pub none_past_all : (function : ℕ) (p : Prototype) (pc : ℕ) (ws : List Instruction) → length ws ≤ pc → code_faults function p pc (drop pc ws) ≡ []
none_past_all function p pc ws h = rw (past_all ws pc h) refl

-- a function without those in it

nothing_behind : {A : Type 0} (xs : List A) → xs ++ [] ≡ xs
nothing_behind [] = refl
nothing_behind (x ∷ xs) = ap (λ ys. x ∷ ys) (nothing_behind xs)

pub own_faults_are : (function : ℕ) (p : Prototype) (ws : List Instruction) → own_faults function p ws ≡ failing function 0 (first_rules p ws) ++ code_faults function p 1 (drop 1 ws)
own_faults_are function p [] = sym (nothing_behind (failing function 0 ((1, is_sized p) ∷ (12, is_described p) ∷ [])))
own_faults_are function p (w ∷ ws) = refl

pub own_passes : (function : ℕ) (p : Prototype) (ws : List Instruction) → first_broken (first_rules p ws) ≡ None → own_faults function p ws ≡ code_faults function p 1 (drop 1 ws)
own_passes function p ws unbroken = own_faults_are function p ws ∙ rw (none_failing_there function 0 (first_rules p ws) unbroken) refl

pub own_stops : (function : ℕ) (p : Prototype) (rule : ℕ) (ws : List Instruction) → first_broken (first_rules p ws) ≡ Some rule →
    slice_get (own_faults function p ws) 0 ≡ Some (record { function = function; pc = 0; rule = rule })
own_stops function p rule ws broken = rw (own_faults_are function p ws, first_failing function 0 (first_rules p ws) (code_faults function p 1 (drop 1 ws)), broken) refl

last_holds : (rs : List Rule) (rule : ℕ) (last : Bool) → first_broken (rs ++ (rule, last) ∷ []) ≡ None → last ≡ true
last_holds [] rule true h = refl
last_holds [] rule false h = absurd (cc)
last_holds (r ∷ rs) rule last h = go r.1 (λ k. last_holds rs rule last k) h
  where
    go : (b : Bool) → (first_broken (rs ++ (rule, last) ∷ []) ≡ None → last ≡ true) → cond b (first_broken (rs ++ (rule, last) ∷ [])) (Some r.0) ≡ None → last ≡ true
    go true again k = again k
    go false again k = absurd (cc)

described_there : (p : Prototype) (ws : List Instruction) → first_broken (first_rules p ws) ≡ None → is_described p ≡ true
described_there p [] h = last_holds ((1, is_sized p) ∷ []) 12 (is_described p) h
described_there p (w ∷ ws) h = last_holds ((1, is_sized p) ∷ rules p 0 w) 12 (is_described p) h

pub code_below_there : (p : Prototype) (ws : List Instruction) → first_broken (first_rules p ws) ≡ None → length p.own.code < 2 ^ 31
code_below_there p ws h = code_below p.own (first_of_two (parts_fit p.own) _ (described_is_writable p (described_there p ws h)))

-- the functions in a function, one after another

first_found : (xs ys : List Fault) (x : Fault) → slice_get xs 0 ≡ Some x → slice_get (xs ++ ys) 0 ≡ Some x
first_found [] ys x h = absurd (cc)
first_found (z ∷ xs) ys x h = h

is_first_still : (xs ys : List Fault) (fault : CheckFault) → IsFirst xs fault → IsFirst (xs ++ ys) fault
is_first_still xs ys (Refused function pc rule) h = first_found xs ys (record { function = function; pc = pc; rule = rule }) h
is_first_still xs ys Memory h = absurd h

pub inner_passes : (function : ℕ) (p : Prototype) (ps : List Prototype) (n : ℕ) → slice_get ps n ≡ Some p →
    own_faults function p p.own.code ≡ [] → inner_faults (function + 1) p.inner ≡ [] →
    inner_faults function (prototypes (drop n ps)) ≡ inner_faults (function + 1 + count p.inner) (prototypes (drop (n + 1) ps))
inner_passes function p ps n there own inner = rw (drop-there ps n p there, own, inner) refl

pub own_is_first : (function : ℕ) (p : Prototype) (ps : List Prototype) (n : ℕ) (fault : CheckFault) → slice_get ps n ≡ Some p →
    IsFirst (own_faults function p p.own.code) fault → IsFirst (inner_faults function (prototypes (drop n ps))) fault
own_is_first function p ps n fault there first = rw (drop-there ps n p there) (is_first_still (own_faults function p p.own.code) _ fault first)

pub inner_is_first : (function : ℕ) (p : Prototype) (ps : List Prototype) (n : ℕ) (fault : CheckFault) → slice_get ps n ≡ Some p →
    own_faults function p p.own.code ≡ [] → IsFirst (inner_faults (function + 1) p.inner) fault → IsFirst (inner_faults function (prototypes (drop n ps))) fault
inner_is_first function p ps n fault there own first = rw (drop-there ps n p there, own) (is_first_still (inner_faults (function + 1) p.inner) _ fault first)

-- what a function that can be written says of its first inner function and of those behind it
record FirstFits (parent own : Parts) (inner rest : Prototypes) : Type 0 where
  fits : (parts_fit own && (all_fit own inner && all_fit parent rest)) ≡ true
  deep : depth (more own inner rest) < greatest_depth
  many : 1 + count (more own inner rest) < 2 ^ 31

first_fits : (parent own : Parts) (inner rest : Prototypes) → is_writable (record { own = parent; inner = more own inner rest }) ≡ true → FirstFits parent own inner rest
first_fits parent own inner rest h =
    let within = rest_of (parts_fit parent) h in
    let sizes = rest_of (all_fit parent (more own inner rest)) within in
    record {
      fits = rest_of (keeps_source parent own) (first_of_two (all_fit parent (more own inner rest)) _ within);
      deep = (Decides-ltb (depth (more own inner rest)) greatest_depth).0 (first_of_two (nat_lt (depth (more own inner rest)) greatest_depth) _ sizes);
      many = (Decides-ltb (1 + count (more own inner rest)) (2 ^ 31)).0 (rest_of (nat_lt (depth (more own inner rest)) greatest_depth) sizes);
    }

-- so it has inner ones that can be written, and can be written with fewer of them

pub writable_first : (parent own : Parts) (inner rest : Prototypes) → is_writable (record { own = parent; inner = more own inner rest }) ≡ true →
    is_writable (record { own = own; inner = inner }) ≡ true
writable_first parent own inner rest h =
    let k = first_fits parent own inner rest h in
    let less_deep : depth inner < greatest_depth = omega (arith, k.deep) in let fewer : 1 + count inner < 2 ^ 31 = omega (arith, k.many) in
    rw (first_of_two (parts_fit own) _ k.fits, first_of_two (all_fit own inner) _ (rest_of (parts_fit own) k.fits), (Decides-ltb (depth inner) greatest_depth).1 less_deep, (Decides-ltb (1 + count inner) (2 ^ 31)).1 fewer) refl

pub writable_rest : (parent own : Parts) (inner rest : Prototypes) → is_writable (record { own = parent; inner = more own inner rest }) ≡ true →
    is_writable (record { own = parent; inner = rest }) ≡ true
writable_rest parent own inner rest h =
    let k = first_fits parent own inner rest h in
    let less_deep : depth rest < greatest_depth = omega (arith, k.deep) in let fewer : 1 + count rest < 2 ^ 31 = omega (arith, k.many) in
    rw (first_of_two (parts_fit parent) _ h, rest_of (all_fit own inner) (rest_of (parts_fit own) k.fits), (Decides-ltb (depth rest) greatest_depth).1 less_deep, (Decides-ltb (1 + count rest) (2 ^ 31)).1 fewer) refl

pub writable_at : (parent : Parts) (ps : List Prototype) (n : ℕ) (p : Prototype) → slice_get ps n ≡ Some p →
    is_writable (record { own = parent; inner = prototypes (drop n ps) }) ≡ true → is_writable p ≡ true
writable_at parent ps n p there h =
    let here : is_writable (record { own = parent; inner = more p.own p.inner (prototypes (drop (n + 1) ps)) }) ≡ true = rw (drop-there ps n p there) at h in
    writable_first parent p.own p.inner (prototypes (drop (n + 1) ps)) here

pub writable_behind : (parent : Parts) (ps : List Prototype) (n : ℕ) (p : Prototype) → slice_get ps n ≡ Some p →
    is_writable (record { own = parent; inner = prototypes (drop n ps) }) ≡ true → is_writable (record { own = parent; inner = prototypes (drop (n + 1) ps) }) ≡ true
writable_behind parent ps n p there h =
    let here : is_writable (record { own = parent; inner = more p.own p.inner (prototypes (drop (n + 1) ps)) }) ≡ true = rw (drop-there ps n p there) at h in
    writable_rest parent p.own p.inner (prototypes (drop (n + 1) ps)) here
