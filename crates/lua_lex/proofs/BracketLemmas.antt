-- The first closing long bracket of a level.
use Rattle.std.proofs.Common.{◌≡◌, ℕ, zero, suc, ◌+◌, ◌-◌, ◌≤◌, List, [], ◌∷◌, ◌++◌, length, take, drop, get_or, replicate, Bool, true, false, refl, ap, sym, ◌∙◌, arith, one-add, drop-drop, take-append-drop, length-take-le, length-drop, append_assoc, get_or-drop, eq-eqb, ⊎_elim}
use Rattle.std.specs.Prelude.{◌&&◌, ◌==◌}
use Rattle.std.specs.List.{prefix_len}
use Rattle.std.proofs.lemmas.Bool.{cases_lt}
use Rattle.std.proofs.lemmas.Bool.Decides.{nat_tests}
use Rattle.std.proofs.lemmas.List.{take_at, drop_at, get_or_past}
use Rattle.lua_lex.specs.Classes.{is_equals}
use Rattle.lua_lex.specs.Brackets.{level_of, closer, LongBracket}
use Rattle.lua_lex.specs.Inner.{closes, IsContent}
use Rattle.lua_lex.proofs.WordLemmas.{and-left, and-right}

same : (a b : ℕ) → (a == b) ≡ true → a ≡ b
same a b h = grind (arith, nat_tests)

-- so many `=` and then `]`
equals_run : (level : ℕ) (text : List ℕ) → prefix_len is_equals text ≡ level → get_or text level 0 ≡ 93 → text ≡ replicate level 61 ++ 93 ∷ drop (1 + level) text
equals_run level [] run last = absurd (omega (arith, last))
equals_run zero (byte ∷ text) run last = ap (λ b. b ∷ text) last
equals_run (suc level) (byte ∷ text) run last = by_first (equals_run level text) (is_equals byte) refl where
  by_first : (prefix_len is_equals text ≡ level → get_or text level 0 ≡ 93 → text ≡ replicate level 61 ++ 93 ∷ drop (1 + level) text) → (first : Bool) → is_equals byte ≡ first → byte ∷ text ≡ replicate (suc level) 61 ++ 93 ∷ drop (1 + suc level) (byte ∷ text)
  by_first later true h =
      let counted : 1 + prefix_len is_equals text ≡ suc level = rw h at run in
      let tail = later (omega (arith, counted)) last in
      let more : drop (1 + suc level) (byte ∷ text) ≡ drop (1 + level) text = rw (one-add, one-add) refl in
      ap (λ b. b ∷ text) (same byte 61 h) ∙ ap (λ t. 61 ∷ t) (tail ∙ ap (λ t. replicate level 61 ++ 93 ∷ t) (sym more))
  by_first later false h = let none : 0 ≡ suc level = rw h at run in absurd (omega (arith, none))

run_of : (level : ℕ) (after : List ℕ) → prefix_len is_equals (replicate level 61 ++ 93 ∷ after) ≡ level
run_of zero after = refl
run_of (suc level) after = rw one-add (ap suc (run_of level after))

last_of : (level : ℕ) (after : List ℕ) → get_or (replicate level 61 ++ 93 ∷ after) level 0 ≡ 93
last_of zero after = refl
last_of (suc level) after = last_of level after

pub closes-is : (level : ℕ) (text : List ℕ) → closes level text ≡ true → text ≡ closer level ++ drop (2 + level) text
closes-is level [] h = absurd (let bad : false ≡ true = h in cc)
closes-is level (byte ∷ text) h =
    let first = same byte 93 (and-left (byte == 93) (level_of (byte ∷ text) == level && get_or (byte ∷ text) (1 + level) 0 == 93) h) in
    let others = and-right (byte == 93) (level_of (byte ∷ text) == level && get_or (byte ∷ text) (1 + level) 0 == 93) h in
    let run = same (prefix_len is_equals text) level (and-left (level_of (byte ∷ text) == level) (get_or (byte ∷ text) (1 + level) 0 == 93) others) in
    let last = same (get_or (byte ∷ text) (1 + level) 0) 93 (and-right (level_of (byte ∷ text) == level) (get_or (byte ∷ text) (1 + level) 0 == 93) others) in
    let last' : get_or text level 0 ≡ 93 = rw one-add at last in
    let more : drop (2 + level) (byte ∷ text) ≡ drop (1 + level) text = (let e : 2 + level ≡ suc (1 + level) = omega arith in rw e refl) in
    ap (λ b. b ∷ text) first ∙ ap (λ t. 93 ∷ t) (equals_run level text run last' ∙ ap (λ t. replicate level 61 ++ 93 ∷ t) (sym more) ∙ sym (append_assoc (replicate level 61) (93 ∷ []) (drop (2 + level) (byte ∷ text))))

pub closes-from : (level : ℕ) (after : List ℕ) → closes level (closer level ++ after) ≡ true
closes-from level after =
    let inside : (replicate level 61 ++ 93 ∷ []) ++ after ≡ replicate level 61 ++ 93 ∷ after = append_assoc (replicate level 61) (93 ∷ []) after in
    let run : prefix_len is_equals ((replicate level 61 ++ 93 ∷ []) ++ after) ≡ level = ap (prefix_len is_equals) inside ∙ run_of level after in
    let last : get_or (closer level ++ after) (1 + level) 0 ≡ 93 = (rw one-add (ap (λ t. get_or t level 0) inside ∙ last_of level after)) in
    grind (arith, nat_tests, run, last)

pub closes-long : (level : ℕ) (text : List ℕ) → closes level text ≡ true → 2 + level ≤ length text
closes-long level text h =
    let others = and-right (get_or text 0 0 == 93) (level_of text == level && get_or text (1 + level) 0 == 93) h in
    let last = same (get_or text (1 + level) 0) 93 (and-right (level_of text == level) (get_or text (1 + level) 0 == 93) others) in
    ⊎_elim (λ within. omega (arith, within)) (λ past. absurd (omega (arith, last, get_or_past text (1 + level) 0 past))) (cases_lt (1 + level) (length text))

-- what is no `]` begins no closing bracket
pub no_closer : (text : List ℕ) (level at place : ℕ) → at ≤ place → ((get_or (drop at text) (place - at) 0 == 93) ≡ true → ⊥) → closes level (drop place text) ≡ true → ⊥
no_closer text level at place h other closed =
    let first = same (get_or (drop place text) 0 0) 93 (and-left (get_or (drop place text) 0 0 == 93) (level_of (drop place text) == level && get_or (drop place text) (1 + level) 0 == 93) closed) in
    let here : get_or (drop at text) (place - at) 0 ≡ get_or (drop place text) 0 0 = get_or-drop at text (place - at) 0 ∙ ap (λ n. get_or text n 0) (let e : at + (place - at) ≡ place + 0 = omega arith in e) ∙ sym (get_or-drop place text 0 0) in
    other (eq-eqb (get_or (drop at text) (place - at) 0) 93 (here ∙ first))

-- the bracket by the place of its first closing one
pub bracket_is : (text : List ℕ) (len : ℕ) → IsContent (drop (2 + level_of text) text) (level_of text) len → LongBracket text (take len (drop (2 + level_of text) text)) (drop (2 + level_of text + len + (2 + level_of text)) text)
bracket_is text len found =
    let level = level_of text in
    let inside = drop (2 + level) text in
    let long : 2 + level ≤ length (drop len inside) = closes-long level (drop len inside) found.closed in
    let in_range : len ≤ length inside = omega (arith, long, length-drop len inside) in
    let moved : drop (2 + level) (drop len inside) ≡ drop (2 + level + len + (2 + level)) text = ap (drop (2 + level)) (drop-drop len (2 + level) text) ∙ drop-drop (2 + level) (2 + level + len) text in
    record {
      whole = sym (take-append-drop len inside) ∙ ap (λ t. take len inside ++ t) (closes-is level (drop len inside) found.closed ∙ ap (λ t. closer level ++ t) moved);
      first = λ before after whole.
          let behind : drop (length before) inside ≡ closer level ++ after = ap (drop (length before)) whole ∙ drop_at before (closer level ++ after) (length before) refl in
          let closed : closes level (drop (length before) inside) ≡ true = ap (closes level) behind ∙ closes-from level after in
          ⊎_elim (λ early. absurd (found.before (length before) early closed)) (λ late. omega (arith, late, length-take-le len inside in_range)) (cases_lt (length before) len);
    }

pub no_bracket : (text : List ℕ) → ((at : ℕ) → closes (level_of text) (drop at (drop (2 + level_of text) text)) ≡ true → ⊥) → (content rest : List ℕ) → LongBracket text content rest → ⊥
no_bracket text none content rest b =
    let level = level_of text in
    let inside = drop (2 + level) text in
    let behind : drop (length content) inside ≡ closer level ++ rest = ap (drop (length content)) b.whole ∙ drop_at content (closer level ++ rest) (length content) refl in
    none (length content) (ap (closes level) behind ∙ closes-from level rest)

-- a text begins with one long bracket at most
pub record SameBracket (content content' rest rest' : List ℕ) : Type 0 where
  pub contents : content ≡ content'
  pub rests : rest ≡ rest'

pub one_bracket : (text content content' rest rest' : List ℕ) → LongBracket text content rest → LongBracket text content' rest' → SameBracket content content' rest rest'
one_bracket text content content' rest rest' b d =
    let level = level_of text in
    let lengths : length content ≡ length content' = omega (arith, b.first content' rest' d.whole, d.first content rest b.whole) in
    let wholes = sym b.whole ∙ d.whole in
    let tails : closer level ++ rest ≡ closer level ++ rest' = sym (drop_at content (closer level ++ rest) (length content') lengths) ∙ ap (drop (length content')) wholes ∙ drop_at content' (closer level ++ rest') (length content') refl in
    record {
      contents = sym (take_at content (closer level ++ rest) (length content') lengths) ∙ ap (take (length content')) wholes ∙ take_at content' (closer level ++ rest') (length content') refl;
      rests = sym (drop_at (closer level) rest (length (closer level)) refl) ∙ ap (drop (length (closer level))) tails ∙ drop_at (closer level) rest' (length (closer level)) refl;
    }
