-- The numbers of sequences, one after another.
use Rattle.std.proofs.Common.{◌≡◌, ℕ, zero, suc, ◌+◌, ◌<◌, ◌≤◌, Bool, true, false, nat_lt, List, [], ◌∷◌, ◌++◌, length, drop, get_or, Option, Some, None, refl, sym, ap, ◌∙◌, append_assoc, append-nil, length-drop, arith}
use Rattle.std.proofs.Math.Path.{fun_ext}
use Rattle.std.specs.Prelude.{pos}
use Rattle.std.proofs.lemmas.List.{drop_more, drop_all, drop-drop}
use Rattle.std.proofs.lemmas.Bool.Decides.{nat_tests}
use Rattle.int_core.specs.Value.{Plain as Known, integer}
use Rattle.library_rows.specs.Plainly.{Outcome, results, error}
use Rattle.library_rows.specs.Codepoints.{Decoded, codes_until, decode, invalid_code}

-- bytes that belong to the sequence before are passed
passed : (lax : Bool) (more at end : ℕ) (text : List ℕ) (k : List Known → Outcome) → more ≤ length text → codes_until lax more at end text k ≡ codes_until lax 0 (at + more) end (drop more text) k
passed lax zero at end text k h = ap (λ n. codes_until lax 0 n end text k) (omega arith)
passed lax (suc more) at end [] k h = absurd (omega arith)
passed lax (suc more) at end (b ∷ text) k h =
    passed lax more (at + 1) end text k (omega arith) ∙ ap (λ n. codes_until lax 0 n end (drop more text) k) (omega arith)

-- what a first byte comes to
abbrev by_code : Bool → ℕ → ℕ → List ℕ → (List Known → Outcome) → Option Decoded → Outcome
by_code lax at end text k None = error invalid_code
by_code lax at end text k (Some d) = codes_until lax d.more (at + 1) end text (λ ps. k (integer (pos d.code) ∷ ps))

at_first_byte : (lax : Bool) (at end b : ℕ) (text : List ℕ) (k : List Known → Outcome) → at < end → codes_until lax 0 at end (b ∷ text) k ≡ by_code lax at end text k (decode lax (b ∷ text))
at_first_byte lax at end b text k h = by (nat_lt at end) (decode lax (b ∷ text)) (grind (arith, nat_tests))
  where
    by : (t : Bool) (o : Option Decoded) → t ≡ true → elim t as (λ _. Outcome) [
      | false ↦ k []
      | true ↦ elim o as (λ _. Outcome) [ None ↦ error invalid_code | Some d ↦ codes_until lax d.more (at + 1) end text (λ ps. k (integer (pos d.code) ∷ ps)) ]
    ] ≡ by_code lax at end text k o
    by true None e = refl
    by true (Some d) e = refl
    by false o e = absurd (cc)

-- what all of a part comes to is what its rest comes to behind the numbers so far
pub record AreSoFar (lax : Bool) (s : List ℕ) (from end at : ℕ) (ps : List Known) : Type 0 where
  pub same : codes_until lax 0 from end (drop from s) (λ qs. results qs) ≡ codes_until lax 0 at end (drop at s) (λ qs. results (ps ++ qs))

pub none_so_far : (lax : Bool) (s : List ℕ) (from end : ℕ) → AreSoFar lax s from end from []
none_so_far lax s from end = record { same = refl }

module _ (lax : Bool) (s : List ℕ) (from end at : ℕ) (ps : List Known) (so : AreSoFar lax s from end at ps) where
  pub one_more : (code more : ℕ) → at < length s → at < end → Some (record { code = code; more = more }) ≡ decode lax (drop at s) → more < length (drop at s)
      → AreSoFar lax s from end (at + (1 + more)) (ps ++ integer (pos code) ∷ [])
  one_more code more within before found inside =
      let b : ℕ = get_or s at 0 in
      let text : List ℕ = drop (at + 1) s in
      let k : List Known → Outcome = λ qs. results (ps ++ qs) in
      let next : List Known → Outcome = λ qs. results (ps ++ integer (pos code) ∷ qs) in
      let d : Decoded = record { code = code; more = more } in
      let front : drop at s ≡ b ∷ text = drop_more s at 0 within in
      let is : decode lax (b ∷ text) ≡ Some d = sym (found ∙ ap (decode lax) front) in
      let left : more ≤ length text = omega (arith, length-drop at s, length-drop (at + 1) s) in
      record {
        same = so.same ∙ ap (λ t. codes_until lax 0 at end t k) front ∙ at_first_byte lax at end b text k before ∙ ap (by_code lax at end text k) is
            ∙ passed lax more (at + 1) end text next left
            ∙ ap (λ t. codes_until lax 0 (at + 1 + more) end t next) (drop-drop more (at + 1) s)
            ∙ ap (λ n. codes_until lax 0 n end (drop n s) next) (omega arith)
            ∙ ap (codes_until lax 0 (at + (1 + more)) end (drop (at + (1 + more)) s)) (fun_ext (λ qs. ap (λ rs. results rs) (sym (append_assoc ps (integer (pos code) ∷ []) qs))));
      }

  pub broken_code : at < length s → at < end → None ≡ decode lax (drop at s) → codes_until lax 0 from end (drop from s) (λ qs. results qs) ≡ error invalid_code
  broken_code within before found =
      let b : ℕ = get_or s at 0 in
      let text : List ℕ = drop (at + 1) s in
      let k : List Known → Outcome = λ qs. results (ps ++ qs) in
      let front : drop at s ≡ b ∷ text = drop_more s at 0 within in
      let is : decode lax (b ∷ text) ≡ None = sym (found ∙ ap (decode lax) front) in
      so.same ∙ ap (λ t. codes_until lax 0 at end t k) front ∙ at_first_byte lax at end b text k before ∙ ap (by_code lax at end text k) is

  past : end ≤ at → codes_until lax 0 at end (drop at s) (λ qs. results (ps ++ qs)) ≡ results (ps ++ [])
  past h = by (drop at s)
    where
      test : (t : Bool) (x : Outcome) → t ≡ false → elim t as (λ _. Outcome) [ false ↦ results (ps ++ []) | true ↦ x ] ≡ results (ps ++ [])
      test false x e = refl
      test true x e = absurd (cc)

      by : (text : List ℕ) → codes_until lax 0 at end text (λ qs. results (ps ++ qs)) ≡ results (ps ++ [])
      by [] = refl
      by (b ∷ text) = test (nat_lt at end) _ (grind (arith, nat_tests))

  pub all_past : end ≤ at → codes_until lax 0 from end (drop from s) (λ qs. results qs) ≡ results ps
  all_past h = so.same ∙ past h ∙ ap (λ qs. results qs) (append-nil ps)

  pub all_out : length s ≤ at → codes_until lax 0 from end (drop from s) (λ qs. results qs) ≡ results ps
  all_out h = so.same ∙ ap (λ t. codes_until lax 0 at end t (λ qs. results (ps ++ qs))) (drop_all at s h) ∙ ap (λ qs. results qs) (append-nil ps)
