-- The pieces of a format, one after another.
use Rattle.std.proofs.Common.{◌≡◌, ℕ, zero, suc, ◌+◌, ◌≤◌, ◌<◌, Bool, true, false, List, [], ◌∷◌, length, drop, take, Option, Some, None, refl, sym, ap, ◌∙◌, arith}
use Rattle.std.specs.Prelude.{◌==◌, cond}
use Rattle.std.specs.List.{prefix_len}
use Rattle.lua_pattern.specs.Bytes.{begins_with}
use Rattle.library_rows.specs.Formats.{Piece, Read, literal, conversion, broken, pieces, read_conversion}

passed : (more : ℕ) (text : List ℕ) → more ≤ length text → pieces more text ≡ pieces 0 (drop more text)
passed zero text h = refl
passed (suc more) [] h = absurd (omega arith)
passed (suc more) (b ∷ text) h = passed more text (omega arith)

abbrev by_read : List ℕ → Option Read → List Piece
by_read text o = elim o as (λ _. List Piece) [ None ↦ broken ∷ [] | Some c ↦ conversion c.conversion ∷ pieces c.size text ]

abbrev by_second : List ℕ → ℕ → List Piece
by_second text n = elim n as (λ _. List Piece) [ suc one ↦ literal 37 ∷ pieces 1 text | zero ↦ by_read text (read_conversion text) ]

abbrev by_first : ℕ → List ℕ → Bool → List Piece
by_first b text t = elim t as (λ _. List Piece) [ false ↦ literal b ∷ pieces 0 text | true ↦ by_second text (prefix_len (λ c. c == 37) (take 1 text)) ]

pub literal_first : (b : ℕ) (text : List ℕ) → (b == 37) ≡ false → pieces 0 (b ∷ text) ≡ literal b ∷ pieces 0 text
literal_first b text other = ap (by_first b text) other

escapes : (text : List ℕ) → begins_with 37 text ≡ true → prefix_len (λ c. c == 37) (take 1 text) ≡ 1
escapes [] e = absurd (cc)
escapes (c ∷ text) e = ap (λ p. cond p (1 + 0) 0) e

escapes_not : (text : List ℕ) → begins_with 37 text ≡ false → prefix_len (λ c. c == 37) (take 1 text) ≡ 0
escapes_not [] e = refl
escapes_not (c ∷ text) e = ap (λ p. cond p (1 + 0) 0) e

some_first : (text : List ℕ) → begins_with 37 text ≡ true → 1 ≤ length text
some_first [] e = absurd (cc)
some_first (c ∷ text) e = omega arith

pub percent_first : (b : ℕ) (text : List ℕ) → (b == 37) ≡ true → begins_with 37 text ≡ true → pieces 0 (b ∷ text) ≡ literal 37 ∷ pieces 0 (drop 1 text)
percent_first b text same twice = ap (by_first b text) same ∙ ap (by_second text) (escapes text twice) ∙ ap (λ ps. literal 37 ∷ ps) (passed 1 text (some_first text twice))

pub conversion_first : (b : ℕ) (text : List ℕ) (r : Read) → (b == 37) ≡ true → begins_with 37 text ≡ false → Some r ≡ read_conversion text → r.size ≤ length text
    → pieces 0 (b ∷ text) ≡ conversion r.conversion ∷ pieces 0 (drop r.size text)
conversion_first b text r same once is inside =
    ap (by_first b text) same ∙ ap (by_second text) (escapes_not text once) ∙ ap (by_read text) (sym is) ∙ ap (λ ps. conversion r.conversion ∷ ps) (passed r.size text inside)

pub broken_first : (b : ℕ) (text : List ℕ) → (b == 37) ≡ true → begins_with 37 text ≡ false → None ≡ read_conversion text → pieces 0 (b ∷ text) ≡ broken ∷ pieces 0 []
broken_first b text same once is = ap (by_first b text) same ∙ ap (by_second text) (escapes_not text once) ∙ ap (by_read text) (sym is)
