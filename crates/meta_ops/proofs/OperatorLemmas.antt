-- Operators by the kinds of their operands.
use Rattle.std.proofs.Common.{◌≡◌, ◌<◌, min, ℕ, zero, suc, Bool, true, false, cond, List, [], ◌∷◌, length, get_or, Option, Some, None, refl, ap, sym, ◌∙◌, arith, true≢false}
use Rattle.std.proofs.lemmas.Bool.Decides.{nat_tests}
use Rattle.std.specs.Prelude.{ℤ, nat_eq, nat_lt, codes}
use Rattle.int_core.specs.Heap.{Heap}
use Rattle.int_core.specs.Operations.{Event, Settled, of_eq, of_len, arithmetic_on, asked, at_fault, before, cannot_compare, equal_on, fault, handler_of, is_number, length_on, number_in, of_type, ordered, truth, wrong_operand}
use Rattle.int_core.specs.Value.{Value, same}
use Rattle.table_core.specs.declared.value.StrId.{StrId}
use Rattle.table_core.specs.declared.value.TableId.{TableId}
use Rattle.table_core.specs.declared.value.Value.{Value as Kept}
use Rattle.table_core.specs.declared.value.Value.TheVariants.{Nil, Bool as Boolean, Int, Str, Prim, Table, Func, Coro}
use Rattle.lua_heap.specs.Reading.{value}
use Rattle.table_core.specs.Value.{are_tables}

-- equality

pub equal-same : (texts : List (List ℕ)) (H : Heap) (a b : Kept) → same (value texts a) (value texts b) ≡ true → equal_on H (value texts a) (value texts b) ≡ truth H true
equal-same texts H (Table m) (Table n) is = rw is refl
equal-same texts H Nil b is = ap (truth H) is
equal-same texts H (Boolean x) b is = ap (truth H) is
equal-same texts H (Int x) b is = ap (truth H) is
equal-same texts H (Str x) b is = ap (truth H) is
equal-same texts H (Prim x) b is = ap (truth H) is
equal-same texts H (Table m) Nil is = ap (truth H) is
equal-same texts H (Table m) (Boolean y) is = ap (truth H) is
equal-same texts H (Table m) (Int y) is = ap (truth H) is
equal-same texts H (Table m) (Str y) is = ap (truth H) is
equal-same texts H (Table m) (Prim y) is = ap (truth H) is
equal-same texts H (Table m) (Func y) is = ap (truth H) is
equal-same texts H (Table m) (Coro y) is = ap (truth H) is
equal-same texts H (Func x) b is = ap (truth H) is
equal-same texts H (Coro x) b is = ap (truth H) is

pub equal-others : (texts : List (List ℕ)) (H : Heap) (a b : Kept) → are_tables a b ≡ false → same (value texts a) (value texts b) ≡ false → equal_on H (value texts a) (value texts b) ≡ truth H false
equal-others texts H (Table m) (Table n) h other = absurd (true≢false h)
equal-others texts H Nil b h other = ap (truth H) other
equal-others texts H (Boolean x) b h other = ap (truth H) other
equal-others texts H (Int x) b h other = ap (truth H) other
equal-others texts H (Str x) b h other = ap (truth H) other
equal-others texts H (Prim x) b h other = ap (truth H) other
equal-others texts H (Table m) Nil h other = ap (truth H) other
equal-others texts H (Table m) (Boolean y) h other = ap (truth H) other
equal-others texts H (Table m) (Int y) h other = ap (truth H) other
equal-others texts H (Table m) (Str y) h other = ap (truth H) other
equal-others texts H (Table m) (Prim y) h other = ap (truth H) other
equal-others texts H (Table m) (Func y) h other = ap (truth H) other
equal-others texts H (Table m) (Coro y) h other = ap (truth H) other
equal-others texts H (Func x) b h other = ap (truth H) other
equal-others texts H (Coro x) b h other = ap (truth H) other

pub equal-tables : (texts : List (List ℕ)) (H : Heap) (a b : Kept) → are_tables a b ≡ true → same (value texts a) (value texts b) ≡ false
    → equal_on H (value texts a) (value texts b) ≡ asked (handler_of H of_eq (value texts a) (value texts b)) (value texts a ∷ value texts b ∷ []) (truth H false)
equal-tables texts H (Table m) (Table n) h other = rw other refl
equal-tables texts H _ _ h other = absurd (true≢false (sym h))

-- order

abbrev pub are_ordered : Kept → Kept → Bool
are_ordered (Int m) (Int n) = true
are_ordered (Str s) (Str t) = true
are_ordered _ _ = false

pub integer-other : (a b : Kept) (m : ℤ) → a ≡ Int m → ((n : ℤ) → b ≡ Int n → ⊥) → are_ordered a b ≡ false
integer-other (Int x) (Int y) m is other = absurd (other y refl)
integer-other (Int x) _ m is other = refl
integer-other _ b m is other = absurd (cc)

pub string-other : (a b : Kept) (s : StrId) → a ≡ Str s → ((t : StrId) → b ≡ Str t → ⊥) → are_ordered a b ≡ false
string-other (Str x) (Str y) s is other = absurd (other y refl)
string-other (Str x) _ s is other = refl
string-other _ b s is other = absurd (cc)

pub neither-ordered : (a b : Kept) → ((n : ℤ) → a ≡ Int n → ⊥) → ((t : StrId) → a ≡ Str t → ⊥) → are_ordered a b ≡ false
neither-ordered (Int x) b no_integer no_string = absurd (no_integer x refl)
neither-ordered (Str x) b no_integer no_string = absurd (no_string x refl)
neither-ordered _ b no_integer no_string = refl

module _ (texts : List (List ℕ)) (H : Heap) (event : Event) (by_number : ℤ → ℤ → Bool) (by_bytes : List ℕ → List ℕ → Bool) where
  pub ordered-others : (a b : Kept) → are_ordered a b ≡ false
      → ordered event by_number by_bytes H (value texts a) (value texts b)
      ≡ asked (handler_of H event (value texts a) (value texts b)) (value texts a ∷ value texts b ∷ []) (fault (cannot_compare (value texts a) (value texts b)))
  ordered-others (Int x) (Int y) none = absurd (true≢false none)
  ordered-others (Str x) (Str y) none = absurd (true≢false none)
  ordered-others (Int x) _ none = refl
  ordered-others (Str x) _ none = refl
  ordered-others _ b none = refl

-- length

pub length-others : (texts : List (List ℕ)) (H : Heap) (v : Kept) → ((s : StrId) → v ≡ Str s → ⊥) → ((t : TableId) → v ≡ Table t → ⊥)
    → length_on H (value texts v) ≡ asked (handler_of H of_len (value texts v) (value texts v)) (value texts v ∷ value texts v ∷ []) (fault (of_type (codes "get length of") (value texts v)))
length-others texts H (Str x) no_string no_table = absurd (no_string x refl)
length-others texts H (Table x) no_string no_table = absurd (no_table x refl)
length-others texts H _ no_string no_table = refl

-- arithmetic

abbrev is_some_integer : Option ℤ → Bool
is_some_integer None = false
is_some_integer (Some n) = true

module _ (H : Heap) (event : Event) (l r : Value) (text : List ℕ) where
  abbrev refused : List ℕ → Settled
  refused text = asked (handler_of H event l r) (l ∷ r ∷ []) (fault text)

  pub left-is_no_number : number_in l ≡ None → text ≡ of_type (wrong_operand event) l → arithmetic_on event H (number_in l) (number_in r) l r ≡ refused text
  left-is_no_number none is =
      let wrong : at_fault is_number l r ≡ l = ap (λ o. cond (is_some_integer o) r l) none in
      ap (λ o. arithmetic_on event H o (number_in r) l r) none ∙ ap (λ v. refused (of_type (wrong_operand event) v)) wrong ∙ ap refused (sym is)

  pub right-is_no_number : (m : ℤ) → number_in l ≡ Some m → number_in r ≡ None → text ≡ of_type (wrong_operand event) r → arithmetic_on event H (number_in l) (number_in r) l r ≡ refused text
  right-is_no_number m some none is =
      let wrong : at_fault is_number l r ≡ r = ap (λ o. cond (is_some_integer o) r l) some in
      ap (λ o. arithmetic_on event H o (number_in r) l r) some ∙ ap (λ o. arithmetic_on event H (Some m) o l r) none ∙ ap (λ v. refused (of_type (wrong_operand event) v)) wrong ∙ ap refused (sym is)

  pub both-are_numbers : (m n : ℤ) → number_in l ≡ Some m → number_in r ≡ Some n → arithmetic_on event H (number_in l) (number_in r) l r ≡ arithmetic_on event H (Some m) (Some n) l r
  both-are_numbers m n some others = ap (λ o. arithmetic_on event H o (number_in r) l r) some ∙ ap (λ o. arithmetic_on event H (Some m) o l r) others

-- strings by their bytes

pub before-differs : (s t : List ℕ) (at : ℕ) → at < length s → at < length t → ((i : ℕ) → i < at → get_or s i 0 ≡ get_or t i 0) → nat_eq (get_or s at 0) (get_or t at 0) ≡ false → before s t ≡ nat_lt (get_or s at 0) (get_or t at 0)
before-differs [] t at l m alike differ = absurd (omega (arith, l))
before-differs (b ∷ s) [] at l m alike differ = absurd (omega (arith, m))
before-differs (b ∷ s) (c ∷ t) zero l m alike differ = rw differ refl
before-differs (b ∷ s) (c ∷ t) (suc at) l m alike differ =
    let first : nat_eq b c ≡ true = let e : b ≡ c = alike 0 (omega arith) in grind (arith, nat_tests) in
    rw first (before-differs s t at (omega (arith, l)) (omega (arith, m)) (λ i below. alike (suc i) (omega (arith, below))) differ)

pub before-ends : (s t : List ℕ) → ((i : ℕ) → i < min (length s) (length t) → get_or s i 0 ≡ get_or t i 0) → before s t ≡ nat_lt (length s) (length t)
before-ends s [] alike = grind (arith, nat_tests)
before-ends [] (c ∷ t) alike = grind (arith, nat_tests)
before-ends (b ∷ s) (c ∷ t) alike =
    let first : nat_eq b c ≡ true = let e : b ≡ c = alike 0 (omega arith) in grind (arith, nat_tests) in
    let rest : before s t ≡ nat_lt (length s) (length t) = before-ends s t (λ i below. alike (suc i) (omega (arith, below))) in
    let longer : nat_lt (suc (length s)) (suc (length t)) ≡ nat_lt (length s) (length t) = grind (arith, nat_tests) in
    rw first (rest ∙ sym longer)
