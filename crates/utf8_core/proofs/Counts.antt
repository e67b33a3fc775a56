-- Sequences counted one after another.
use Rattle.std.proofs.Common.{◌≡◌, ℕ, zero, suc, ◌+◌, ◌<◌, ◌≤◌, Bool, true, false, nat_lt, List, [], ◌∷◌, length, drop, get_or, Option, Some, None, refl, sym, ap, ◌∙◌, length-drop, arith}
use Rattle.std.specs.Prelude.{pos}
use Rattle.std.proofs.lemmas.List.{drop_more, drop_all, drop-drop}
use Rattle.std.proofs.lemmas.Bool.Decides.{nat_tests}
use Rattle.int_core.specs.Value.{nil, integer}
use Rattle.library_rows.specs.Plainly.{Outcome, results}
use Rattle.library_rows.specs.Arguments.{one}
use Rattle.library_rows.specs.Codepoints.{Decoded, decode, counted_until}

-- bytes that belong to the sequence before are passed
passed : (lax : Bool) (more at end : ℕ) (text : List ℕ) (n : ℕ) → more ≤ length text → counted_until lax more at end text n ≡ counted_until lax 0 (at + more) end (drop more text) n
passed lax zero at end text n h = ap (λ k. counted_until lax 0 k end text n) (omega arith)
passed lax (suc more) at end [] n h = absurd (omega arith)
passed lax (suc more) at end (b ∷ text) n h =
    passed lax more (at + 1) end text n (omega arith) ∙ ap (λ k. counted_until lax 0 k end (drop more text) n) (omega arith)

-- what is counted at a first byte
abbrev by_code : Bool → ℕ → ℕ → List ℕ → ℕ → Option Decoded → Outcome
by_code lax at end text n None = results (nil ∷ integer (pos (at + 1)) ∷ [])
by_code lax at end text n (Some d) = counted_until lax d.more (at + 1) end text (n + 1)

at_first_byte : (lax : Bool) (at end b : ℕ) (text : List ℕ) (n : ℕ) → at < end → counted_until lax 0 at end (b ∷ text) n ≡ by_code lax at end text n (decode lax (b ∷ text))
at_first_byte lax at end b text n h = by (nat_lt at end) (decode lax (b ∷ text)) (grind (arith, nat_tests))
  where
    by : (t : Bool) (o : Option Decoded) → t ≡ true → elim t as (λ _. Outcome) [
      | false ↦ one (integer (pos n))
      | true ↦ elim o as (λ _. Outcome) [ None ↦ results (nil ∷ integer (pos (at + 1)) ∷ []) | Some d ↦ counted_until lax d.more (at + 1) end text (n + 1) ]
    ] ≡ by_code lax at end text n o
    by true None e = refl
    by true (Some d) e = refl
    by false o e = absurd (cc)

pub counted_more : (lax : Bool) (s : List ℕ) (at end n : ℕ) (d : Decoded) → at < length s → at < end → Some d ≡ decode lax (drop at s) → d.more < length (drop at s)
    → counted_until lax 0 at end (drop at s) n ≡ counted_until lax 0 (at + (1 + d.more)) end (drop (at + (1 + d.more)) s) (n + 1)
counted_more lax s at end n d within before found inside =
    let b : ℕ = get_or s at 0 in
    let text : List ℕ = drop (at + 1) s in
    let front : drop at s ≡ b ∷ text = drop_more s at 0 within in
    let is : decode lax (b ∷ text) ≡ Some d = sym (found ∙ ap (decode lax) front) in
    let more : d.more ≤ length text = omega (arith, length-drop at s, length-drop (at + 1) s) in
    ap (λ t. counted_until lax 0 at end t n) front ∙ at_first_byte lax at end b text n before ∙ ap (by_code lax at end text n) is
    ∙ passed lax d.more (at + 1) end text (n + 1) more
    ∙ ap (λ t. counted_until lax 0 (at + 1 + d.more) end t (n + 1)) (drop-drop d.more (at + 1) s)
    ∙ ap (λ k. counted_until lax 0 k end (drop k s) (n + 1)) (omega arith)

pub counted_bad : (lax : Bool) (s : List ℕ) (at end n : ℕ) → at < length s → at < end → None ≡ decode lax (drop at s) → counted_until lax 0 at end (drop at s) n ≡ results (nil ∷ integer (pos (at + 1)) ∷ [])
counted_bad lax s at end n within before found =
    let b : ℕ = get_or s at 0 in
    let text : List ℕ = drop (at + 1) s in
    let front : drop at s ≡ b ∷ text = drop_more s at 0 within in
    let is : decode lax (b ∷ text) ≡ None = sym (found ∙ ap (decode lax) front) in
    ap (λ t. counted_until lax 0 at end t n) front ∙ at_first_byte lax at end b text n before ∙ ap (by_code lax at end text n) is

pub counted_past : (lax : Bool) (s : List ℕ) (at end n : ℕ) → end ≤ at → counted_until lax 0 at end (drop at s) n ≡ one (integer (pos n))
counted_past lax s at end n h = by (drop at s)
  where
    test : (t : Bool) (x : Outcome) → t ≡ false → elim t as (λ _. Outcome) [ false ↦ one (integer (pos n)) | true ↦ x ] ≡ one (integer (pos n))
    test false x e = refl
    test true x e = absurd (cc)

    by : (text : List ℕ) → counted_until lax 0 at end text n ≡ one (integer (pos n))
    by [] = refl
    by (b ∷ text) = test (nat_lt at end) _ (grind (arith, nat_tests))

pub counted_out : (lax : Bool) (s : List ℕ) (at end n : ℕ) → length s ≤ at → counted_until lax 0 at end (drop at s) n ≡ one (integer (pos n))
counted_out lax s at end n h = ap (λ t. counted_until lax 0 at end t n) (drop_all at s h)
