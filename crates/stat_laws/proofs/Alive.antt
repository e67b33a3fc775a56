-- Variables that are in scope at a place, as the list of a function's variables says.
use Rattle.std.proofs.Common.{◌≡◌, ℕ, zero, suc, ◌+◌, ◌<◌, ◌≤◌, Bool, true, false, cond, ◌&&◌, List, [], ◌∷◌, ◌++◌, length, Some, None, refl, sym, ap, ◌∙◌, arith, append_assoc}
use borrow.Author.Tests.{lt-ltb, le-leb}
use Rattle.std.specs.Prelude.{codes, filter, nat_lt, nat_le, slice_get}
use Rattle.tree_core.specs.declared.name.Name.{Name}
use Rattle.tree_core.specs.declared.name.Declared.{Declared}
use Rattle.tree_activation.specs.Statements.{is_closed}
use Rattle.code_core.specs.declared.proto.LocVar.{LocVar}
use Rattle.code_core.specs.Prototype.{Prototype}
use Rattle.machine_core.specs.InstructionRows.{is_alive, variable_name}
use Rattle.list_laws.proofs.Tests.{lt_not, both_true}
use Rattle.code_core.specs.declared.opcode.Opcode.TheVariants.{Tbc}
use Rattle.code_of.specs.Coded.{with_abc}
use Rattle.code_of.specs.Parts.{marks_code}
use Rattle.code_of.specs.Variables.{variable, names_of, variables, hidden}
use Rattle.stat_laws.proofs.Naming.{past_mark, AreNamed}

-- how many are in scope at a place
abbrev pub alive : ℕ → List LocVar → ℕ
alive q vs = length (filter (is_alive q) vs)

and_false : (b c : Bool) → c ≡ false → (b && c) ≡ false
and_false true c e = e
and_false false c e = refl

pub is_in : (q : ℕ) (v : LocVar) → v.start ≤ q → q < v.end → is_alive q v ≡ true
is_in q v from to = both_true (nat_le v.start q) (nat_lt q v.end) (le-leb v.start q from) (lt-ltb q v.end to)

is_out : (q : ℕ) (v : LocVar) → v.end ≤ q → is_alive q v ≡ false
is_out q v to = and_false (nat_le v.start q) (nat_lt q v.end) (lt_not q v.end (λ l. absurd (omega (arith, l, to))))

one_alive : (q : ℕ) (v : LocVar) (vs : List LocVar) → is_alive q v ≡ true → alive q (v ∷ vs) ≡ suc (alive q vs)
one_alive q v vs e = ap (λ b. length (cond b (v ∷ filter (is_alive q) vs) (filter (is_alive q) vs))) e

none_alive : (q : ℕ) (v : LocVar) (vs : List LocVar) → is_alive q v ≡ false → alive q (v ∷ vs) ≡ alive q vs
none_alive q v vs e = ap (λ b. length (cond b (v ∷ filter (is_alive q) vs) (filter (is_alive q) vs))) e

pub alive_both : (q : ℕ) (vs ws : List LocVar) → alive q (vs ++ ws) ≡ alive q vs + alive q ws
alive_both q [] ws = let e : alive q ws ≡ 0 + alive q ws = omega arith in e
alive_both q (v ∷ vs) ws = by (is_alive q v) refl (alive_both q vs ws)
  where
    by : (b : Bool) → is_alive q v ≡ b → alive q (vs ++ ws) ≡ alive q vs + alive q ws → alive q (v ∷ (vs ++ ws)) ≡ alive q (v ∷ vs) + alive q ws
    by true e rest = let a = one_alive q v (vs ++ ws) e in let b = one_alive q v vs e in omega (arith, a, b, rest)
    by false e rest = let a = none_alive q v (vs ++ ws) e in let b = none_alive q v vs e in omega (arith, a, b, rest)

pub variables_alive : (names : List Name) (from to q : ℕ) → from ≤ q → q < to → alive q (variables names from to) ≡ length names
variables_alive [] from to q lo hi = refl
variables_alive (name ∷ names) from to q lo hi = one_alive q (variable name from to) (variables names from to) (is_in q (variable name from to) lo hi) ∙ ap suc (variables_alive names from to q lo hi)

pub hidden_alive : (n from to q : ℕ) → from ≤ q → q < to → alive q (hidden n from to) ≡ n
hidden_alive zero from to q lo hi = refl
hidden_alive (suc n) from to q lo hi = one_alive q (record { name = None; start = from; end = to }) (hidden n from to) (is_in q (record { name = None; start = from; end = to }) lo hi) ∙ ap suc (hidden_alive n from to q lo hi)

-- variables whose scopes end by a place
abbrev pub Ended : List LocVar → ℕ → Type 0
Ended [] n = Unit {0}
Ended (v ∷ vs) n = (v.end ≤ n) × Ended vs n

pub ended_by : (vs : List LocVar) (m n : ℕ) → m ≤ n → Ended vs m → Ended vs n
ended_by [] m n le h = tt
ended_by (v ∷ vs) m n le h = let to = h.0 in (omega (arith, to), ended_by vs m n le h.1)

pub ended_both : (vs ws : List LocVar) (n : ℕ) → Ended vs n → Ended ws n → Ended (vs ++ ws) n
ended_both [] ws n h g = g
ended_both (v ∷ vs) ws n h g = (h.0, ended_both vs ws n h.1 g)

pub variables_ended : (names : List Name) (from to n : ℕ) → to ≤ n → Ended (variables names from to) n
variables_ended [] from to n le = tt
variables_ended (name ∷ names) from to n le = (le, variables_ended names from to n le)

pub hidden_ended : (k from to n : ℕ) → to ≤ n → Ended (hidden k from to) n
hidden_ended zero from to n le = tt
hidden_ended (suc k) from to n le = (le, hidden_ended k from to n le)

pub ended_none : (vs : List LocVar) (n q : ℕ) → n ≤ q → Ended vs n → alive q vs ≡ 0
ended_none [] n q le h = refl
ended_none (v ∷ vs) n q le h = let to = h.0 in none_alive q v vs (is_out q v (omega (arith, to))) ∙ ended_none vs n q le h.1

-- behind as many in scope as its number stands the variable itself
found_at : (front more : List LocVar) (v : LocVar) (q r : ℕ) → alive q front ≡ r → is_alive q v ≡ true → slice_get (filter (is_alive q) (front ++ v ∷ more)) r ≡ Some v
found_at [] more v q zero e is = ap (λ b. slice_get (cond b (v ∷ filter (is_alive q) more) (filter (is_alive q) more)) 0) is
found_at [] more v q (suc r) e is = absurd (omega (arith, e))
found_at (x ∷ front) more v q r e is = by (is_alive q x) refl r e (λ s d. found_at front more v q s d is)
  where
    by : (b : Bool) → is_alive q x ≡ b → (r : ℕ) → alive q (x ∷ front) ≡ r → ((s : ℕ) → alive q front ≡ s → slice_get (filter (is_alive q) (front ++ v ∷ more)) s ≡ Some v)
        → slice_get (filter (is_alive q) (x ∷ (front ++ v ∷ more))) r ≡ Some v
    by true h zero e again = let one = one_alive q x front h in absurd (omega (arith, one, e))
    by true h (suc r) e again =
        let one = one_alive q x front h in
        ap (λ b. slice_get (cond b (x ∷ filter (is_alive q) (front ++ v ∷ more)) (filter (is_alive q) (front ++ v ∷ more))) (suc r)) h ∙ again r (omega (arith, one, e))
    by false h r e again =
        let none = none_alive q x front h in
        ap (λ b. slice_get (cond b (x ∷ filter (is_alive q) (front ++ v ∷ more)) (filter (is_alive q) (front ++ v ∷ more))) r) h ∙ again r (sym none ∙ e)

-- a piece of a function's variables, in front of which t are in scope from a place on and before another. Where lines are not known there are no variables
pub record Around (lines : Bool) (p : Prototype) (front piece after : List LocVar) (t lo hi : ℕ) : Type 0 where
  pub whole : p.own.locals ≡ cond lines (front ++ (piece ++ after)) []
  pub scope : (q : ℕ) → lo ≤ q → q < hi → alive q front ≡ t

module _ (lines : Bool) (p : Prototype) where
  pub narrow : (front piece after : List LocVar) (t lo hi lo' hi' : ℕ) → lo ≤ lo' → hi' ≤ hi → Around lines p front piece after t lo hi → Around lines p front piece after t lo' hi'
  narrow front piece after t lo hi lo' hi' a b h = record { whole = h.whole; scope = λ q le lt. h.scope q (omega arith) (omega arith) }

  pub first_part : (front a b after : List LocVar) (t lo hi : ℕ) → Around lines p front (a ++ b) after t lo hi → Around lines p front a (b ++ after) t lo hi
  first_part front a b after t lo hi h = record { whole = h.whole ∙ ap (λ l. cond lines (front ++ l) []) (append_assoc a b after); scope = h.scope }

  pub second_part : (front a b after : List LocVar) (t u lo hi lo' hi' : ℕ) → Around lines p front (a ++ b) after t lo hi → ((q : ℕ) → lo' ≤ q → q < hi' → alive q (front ++ a) ≡ u) → Around lines p (front ++ a) b after u lo' hi'
  second_part front a b after t u lo hi lo' hi' h scope = record {
    whole = h.whole ∙ ap (λ l. cond lines (front ++ l) []) (append_assoc a b after) ∙ ap (λ l. cond lines l []) (sym (append_assoc front a (b ++ after)));
    scope = scope;
  }

  pub second_count : (front a : List LocVar) (t n u q : ℕ) → alive q front ≡ t → alive q a ≡ n → t + n ≡ u → alive q (front ++ a) ≡ u
  second_count front a t n u q e d sum = let both = alive_both q front a in omega (arith, both, e, d, sum)

  -- a variable's name is found by its number
  name_found : (front more : List LocVar) (v : LocVar) (text : List ℕ) (q r : ℕ) → p.own.locals ≡ cond lines (front ++ v ∷ more) [] → alive q front ≡ r → v.start ≤ q → q < v.end
      → elim v.name as (λ _. List ℕ) [ None ↦ codes "?" | Some name ↦ name ] ≡ text → variable_name p q r ≡ cond lines text (codes "?")
  name_found front more v text q r is e from to same = by lines is
    where
      found : List LocVar → List ℕ
      found l = elim (slice_get (filter (is_alive q) l) r) as (λ _. List ℕ) [ None ↦ codes "?" | Some v ↦ elim v.name as (λ _. List ℕ) [ None ↦ codes "?" | Some name ↦ name ] ]

      by : (b : Bool) → p.own.locals ≡ cond b (front ++ v ∷ more) [] → variable_name p q r ≡ cond b text (codes "?")
      by true is =
          ap found is
          ∙ ap (λ o. elim o as (λ _. List ℕ) [ None ↦ codes "?" | Some v ↦ elim v.name as (λ _. List ℕ) [ None ↦ codes "?" | Some name ↦ name ] ]) (found_at front more v q r e (is_in q v from to))
          ∙ same
      by false is = ap found is

  -- the names of a declaration, from the one of register r on, whose marks stand from pc on
  pub declared_named : (names : List Declared) (r from pc end : ℕ) (front rest after : List LocVar) → from ≤ pc → pc + length (marks_code names r) ≤ end
      → Around lines p front (variables (names_of names) from end ++ rest) after r from end → AreNamed lines p names r pc
  declared_named [] r from pc end front rest after le fits h = tt
  declared_named (d ∷ names) r from pc end front rest after le fits h =
      by (is_closed d.attrib) fits (λ pc' le' fits'. declared_named names (r + 1) from pc' end (front ++ v ∷ []) rest after le' fits' next)
    where
      v : LocVar
      v = variable d.name from end

      next : Around lines p (front ++ v ∷ []) (variables (names_of names) from end ++ rest) after (r + 1) from end
      next = second_part front (v ∷ []) (variables (names_of names) from end ++ rest) after r (r + 1) from end from end h
          (λ q lo hi. second_count front (v ∷ []) r 1 (r + 1) q (h.scope q lo hi) (one_alive q v [] (is_in q v lo hi)) refl)

      by : (b : Bool) → pc + length (cond b (with_abc Tbc r 0 0 d.name.line ∷ marks_code names (r + 1)) (marks_code names (r + 1))) ≤ end → ((pc' : ℕ) → from ≤ pc' → pc' + length (marks_code names (r + 1)) ≤ end → AreNamed lines p names (r + 1) pc')
          → (b ≡ true → variable_name p pc r ≡ cond lines d.name.text (codes "?")) × AreNamed lines p names (r + 1) (pc + past_mark b)
      by true fits later =
          let inside : pc < end = omega (arith, fits) in (
            (λ e. name_found front ((variables (names_of names) from end ++ rest) ++ after) v d.name.text pc r h.whole (h.scope pc le inside) le inside refl),
            later (pc + 1) (omega arith) (omega (arith, fits)),
          )
      by false fits later =
          ((λ e. absurd (cc)), later (pc + 0) (omega arith) (omega (arith, fits)))

  -- the value that a generic `for` closes is the fourth of its hidden variables
  pub closed_unnamed : (t place end : ℕ) (front rest after : List LocVar) → place < end → Around lines p front (hidden 4 place end ++ rest) after t place end → variable_name p place (t + 3) ≡ codes "?"
  closed_unnamed t place end front rest after inside h =
      name_found (front ++ hidden 3 place end) (rest ++ after) (record { name = None; start = place; end = end }) (codes "?") place (t + 3)
      (h.whole ∙ ap (λ l. cond lines l []) (sym (append_assoc front (hidden 3 place end) (record { name = None; start = place; end = end } ∷ (rest ++ after)))))
      (second_count front (hidden 3 place end) t 3 (t + 3) place (h.scope place (omega arith) inside) (hidden_alive 3 place end place (omega arith) inside) refl) (omega arith) inside refl
      ∙ either lines
    where
      either : (b : Bool) → cond b (codes "?") (codes "?") ≡ codes "?"
      either true = refl
      either false = refl
