-- A reading that is stuck, and what the lists in front of it are.
use Rattle.std.proofs.Common.{◌≡◌, ℕ, ◌+◌, ◌-◌, ◌≤◌, List, [], ◌∷◌, ◌++◌, length, take, drop, Option, Some, None, refl, sym, ap, subst, ◌∙◌, append_assoc, arith, length-append, length-drop}
use Rattle.std.specs.Prelude.{slice_get}
use Rattle.std.proofs.lemmas.List.{take-append-drop}
use Rattle.std.proofs.Math.Seq.{take-append-add}
use Rattle.tree_core.specs.Tree.{Block}
use Rattle.token_cursor.specs.Words.{Lexeme}
use Rattle.lua_parse.specs.Moves.{Piece, Part, chunk, Move, pick, pass, refuse, within}
use Rattle.lua_parse.specs.Grammar.{expects}
use Rattle.lua_parse.specs.Reading.{Outcome, whole, cut, stuck, Reads, picks, picks_none, passes, passes_none, refuses, refuses_none, is_whole, within_whole, within_cut, within_stuck, Derives, Front, ends_within, is_all, Stop}
use Rattle.lua_parse.proofs.ReadingLemmas.{only}

-- the rest of an outcome
abbrev pub rest_of : Outcome → Option (List Lexeme)
rest_of (whole piece height rest) = Some rest
rest_of cut = None
rest_of (stuck rest) = Some rest

-- the outcome with another rest
abbrev pub with_rest : Outcome → List Lexeme → Outcome
with_rest (whole piece height rest) other = whole piece height other
with_rest cut other = cut
with_rest (stuck rest) other = stuck other

-- the outcome where more tokens follow
abbrev pub extended : Outcome → List Lexeme → Outcome
extended (whole piece height rest) more = whole piece height (rest ++ more)
extended cut more = cut
extended (stuck rest) more = stuck (rest ++ more)

-- two lists begin with the same token, or have none
abbrev pub Alike : List Lexeme → List Lexeme → Type 0
Alike xs ys = slice_get xs 0 ≡ slice_get ys 0

-- the tokens in front of the rest decide, with the rest's first one
pub record Stands (move : Move) (tokens : List Lexeme) (outcome : Outcome) (rest : List Lexeme) : Type 0 where
  pub front : List Lexeme
  pub is : tokens ≡ front ++ rest
  pub others : (other : List Lexeme) → Alike other rest → Reads move (front ++ other) (with_rest outcome other)

alike_behind : (front other rest : List Lexeme) → Alike other rest → Alike (front ++ other) (front ++ rest)
alike_behind [] other rest is = is
alike_behind (token ∷ front) other rest is = refl

stuck_at : (token : Lexeme) (other : List Lexeme) → slice_get other 0 ≡ Some token → Reads refuse other (stuck other)
stuck_at token [] is = absurd (let bad : ◌≡◌ {A = Option Lexeme} None (Some token) = is in cc)
stuck_at token (first ∷ later) is = refuses

pub picks_at : (by : Lexeme → Move) (token : Lexeme) (list : List Lexeme) (outcome : Outcome) → slice_get list 0 ≡ Some token → Reads (by token) list outcome → Reads (pick by) list outcome
picks_at by token [] outcome is h = absurd (let bad : ◌≡◌ {A = Option Lexeme} None (Some token) = is in cc)
picks_at by token (first ∷ later) outcome is h = let same : token ≡ first = cc in picks (subst (λ t. Reads (by t) (first ∷ later) outcome) same h)

counts : (front between other : List Lexeme) (tokens : List Lexeme) → tokens ≡ front ++ between → length tokens - length between ≡ length (front ++ other) - length other
counts front between other tokens is = omega (arith, ap length is, length-append front between, length-append front other)

pub stands : {move : Move} {tokens : List Lexeme} {outcome : Outcome} (rest : List Lexeme) → Reads move tokens outcome → rest_of outcome ≡ Some rest → Stands move tokens outcome rest
stands rest (picks {by = by} {token = token} {outcome = outcome} h) e =
    let s = stands rest h e in
    record { front = s.front; is = s.is; others = λ other alike. picks_at by token (s.front ++ other) (with_rest outcome other) (alike_behind s.front other rest alike ∙ ap (λ ts. slice_get ts 0) (sym s.is)) (s.others other alike) }
stands rest picks_none e = absurd (let bad : ◌≡◌ {A = Option (List Lexeme)} None (Some rest) = e in cc)
stands rest (passes {token = token} h) e =
    let s = stands rest h e in
    record { front = token ∷ s.front; is = ap (λ ts. token ∷ ts) s.is; others = λ other alike. passes (s.others other alike) }
stands rest passes_none e = absurd (let bad : ◌≡◌ {A = Option (List Lexeme)} None (Some rest) = e in cc)
stands rest (refuses {token = token} {tokens = tokens}) e =
    let same : token ∷ tokens ≡ rest = cc in
    record { front = []; is = same; others = λ other alike. stuck_at token other (alike ∙ ap (λ ts. slice_get ts 0) (sym same)) }
stands rest refuses_none e = absurd (let bad : ◌≡◌ {A = Option (List Lexeme)} None (Some rest) = e in cc)
stands {tokens = tokens} rest is_whole e = record { front = []; is = (let same : tokens ≡ rest = cc in same); others = λ other alike. is_whole }
stands {tokens = tokens} {outcome = outcome} rest (within_whole {part = part} {room = room} {next = next} piece height between h later) e =
    let s = stands between h refl in
    let t = stands rest later e in
    record {
      front = s.front ++ t.front;
      is = s.is ∙ ap (λ ts. s.front ++ ts) t.is ∙ sym (append_assoc s.front t.front rest);
      others = λ other alike.
          let n = counts s.front between (t.front ++ other) tokens s.is in
          let behind = subst (λ k. Reads (next piece height k) (t.front ++ other) (with_rest outcome other)) n (t.others other alike) in
          subst (λ ts. Reads (within part room next) ts (with_rest outcome other)) (sym (append_assoc s.front t.front other)) (within_whole piece height (t.front ++ other) (s.others (t.front ++ other) (alike_behind t.front other rest alike ∙ ap (λ ts. slice_get ts 0) (sym t.is))) behind);
    }
stands rest (within_cut h) e = absurd (let bad : ◌≡◌ {A = Option (List Lexeme)} None (Some rest) = e in cc)
stands rest (within_stuck h) e =
    let s = stands rest h e in
    record { front = s.front; is = s.is; others = λ other alike. within_stuck (s.others other alike) }

-- what a list in front is: cut, or read as the whole list is
pub data Prefixed (move : Move) (front more : List Lexeme) (outcome : Outcome) : Type 0 where
  is_cut : Reads move front cut → Prefixed move front more outcome
  decided : (own : Outcome) → Reads move front own → outcome ≡ extended own more → Prefixed move front more outcome

prefix_picks : {by : Lexeme → Move} {token : Lexeme} {front more : List Lexeme} {outcome : Outcome} → Prefixed (by token) (token ∷ front) more outcome → Prefixed (pick by) (token ∷ front) more outcome
prefix_picks (is_cut h) = is_cut (picks h)
prefix_picks (decided own h is) = decided own (picks h) is

prefix_passes : {next : Move} {token : Lexeme} {front more : List Lexeme} {outcome : Outcome} → Prefixed next front more outcome → Prefixed (pass next) (token ∷ front) more outcome
prefix_passes (is_cut h) = is_cut (passes h)
prefix_passes (decided own h is) = decided own (passes h) is

prefix_then : {part : Part} {room : ℕ} {next : Piece → ℕ → ℕ → Move} {front between more : List Lexeme} {piece : Piece} {height : ℕ} {outcome : Outcome} → Reads (expects room part) front (whole piece height between) → Prefixed (next piece height (length front - length between)) between more outcome → Prefixed (within part room next) front more outcome
prefix_then {between = between} {piece = piece} {height = height} h (is_cut later) = is_cut (within_whole piece height between h later)
prefix_then {between = between} {piece = piece} {height = height} h (decided own later is) = decided own (within_whole piece height between h later) is

prefix_stuck : {part : Part} {room : ℕ} {next : Piece → ℕ → ℕ → Move} {front more rest : List Lexeme} → Prefixed (expects room part) front more (stuck rest) → Prefixed (within part room next) front more (stuck rest)
prefix_stuck (is_cut h) = is_cut (within_cut h)
prefix_stuck (decided (whole piece height own) h is) = absurd cc
prefix_stuck (decided cut h is) = absurd cc
prefix_stuck (decided (stuck own) h is) = decided (stuck own) (within_stuck h) is

prefix_cut : {part : Part} {room : ℕ} {next : Piece → ℕ → ℕ → Move} {front more : List Lexeme} → Prefixed (expects room part) front more cut → Prefixed (within part room next) front more cut
prefix_cut (is_cut h) = is_cut (within_cut h)
prefix_cut (decided (whole piece height own) h is) = absurd cc
prefix_cut (decided cut h is) = is_cut (within_cut h)
prefix_cut (decided (stuck own) h is) = absurd cc

prefix_within : {part : Part} {room : ℕ} {next : Piece → ℕ → ℕ → Move} {tokens front between more : List Lexeme} {piece : Piece} {height : ℕ} {outcome : Outcome} → tokens ≡ front ++ more → Prefixed (expects room part) front more (whole piece height between) → ((own : List Lexeme) → between ≡ own ++ more → Prefixed (next piece height (length tokens - length between)) own more outcome) → Prefixed (within part room next) front more outcome
prefix_within e (is_cut h) later = is_cut (within_cut h)
prefix_within {part = part} {room = room} {next = next} {tokens = tokens} {front = front} {between = between} {more = more} {piece = piece} {height = height} {outcome = outcome} e (decided (whole piece' height' own) h is) later =
    let pieces : piece' ≡ piece = cc in
    let heights : height' ≡ height = cc in
    let rest : between ≡ own ++ more = cc in
    let h' : Reads (expects room part) front (whole piece height own) = rw (← pieces, ← heights) h in
    let n : length tokens - length between ≡ length front - length own = omega (arith, ap length e, ap length rest, length-append front more, length-append own more) in
    prefix_then h' (subst (λ k. Prefixed (next piece height k) own more outcome) n (later own rest))
prefix_within e (decided cut h is) later = absurd cc
prefix_within e (decided (stuck own) h is) later = absurd cc

pub prefix : {move : Move} {tokens : List Lexeme} {outcome : Outcome} (front more : List Lexeme) → Reads move tokens outcome → tokens ≡ front ++ more → Prefixed move front more outcome
prefix [] more (picks h) e = is_cut picks_none
prefix (first ∷ front) more (picks {by = by} {token = token} {tokens = tokens} {outcome = outcome} h) e =
    let same : token ≡ first = cc in
    prefix_picks (subst (λ t. Prefixed (by t) (first ∷ front) more outcome) same (prefix (first ∷ front) more h e))
prefix [] more picks_none e = is_cut picks_none
prefix (first ∷ front) more picks_none e = absurd (let bad : ◌≡◌ {A = List Lexeme} [] (first ∷ (front ++ more)) = e in cc)
prefix [] more (passes h) e = is_cut passes_none
prefix (first ∷ front) more (passes h) e = prefix_passes (prefix front more h cc)
prefix [] more passes_none e = is_cut passes_none
prefix (first ∷ front) more passes_none e = absurd (let bad : ◌≡◌ {A = List Lexeme} [] (first ∷ (front ++ more)) = e in cc)
prefix [] more refuses e = is_cut refuses_none
prefix (first ∷ front) more refuses e = decided (stuck (first ∷ front)) refuses (ap stuck e)
prefix [] more refuses_none e = is_cut refuses_none
prefix (first ∷ front) more refuses_none e = absurd (let bad : ◌≡◌ {A = List Lexeme} [] (first ∷ (front ++ more)) = e in cc)
prefix front more (is_whole {piece = piece} {height = height}) e = decided (whole piece height front) is_whole (ap (λ ts. whole piece height ts) e)
prefix front more (within_whole piece height between h later) e = prefix_within e (prefix front more h e) (λ own is. prefix own more later is)
prefix front more (within_cut h) e = prefix_cut (prefix front more h e)
prefix front more (within_stuck h) e = prefix_stuck (prefix front more h e)

-- the rest where a reading is stuck has a first token
pub record Starts (tokens : List Lexeme) : Type 0 where
  pub token : Lexeme
  pub more : List Lexeme
  pub is : tokens ≡ token ∷ more

pub stuck_starts : {move : Move} {tokens : List Lexeme} {outcome : Outcome} (rest : List Lexeme) → Reads move tokens outcome → outcome ≡ stuck rest → Starts rest
stuck_starts rest (picks h) e = stuck_starts rest h e
stuck_starts rest (passes h) e = stuck_starts rest h e
stuck_starts rest (refuses {token = token} {tokens = tokens}) e = record { token = token; more = tokens; is = (let same : token ∷ tokens ≡ rest = cc in sym same) }
stuck_starts rest (within_whole piece height between h later) e = stuck_starts rest later e
stuck_starts rest (within_stuck h) e = stuck_starts rest h e
stuck_starts rest _ e = absurd cc

no_front : {tokens rest : List Lexeme} → Reads (expects 400 chunk) tokens (stuck rest) → Front tokens → ⊥
no_front h (ends_within h') = let bad = only h h' in cc
no_front h (is_all tree d) = let bad = only h d.reads in cc

earlier : {rest : List Lexeme} (front more : List Lexeme) → Prefixed (expects 400 chunk) front more (stuck rest) → length rest ≤ length more → Front front
earlier front more (is_cut h) short = ends_within h
earlier front more (decided (whole piece height own) h is) short = absurd cc
earlier front more (decided cut h is) short = absurd cc
earlier {rest = rest} front more (decided (stuck own) h is) short =
    let s = stuck_starts own h refl in
    let rests : rest ≡ own ++ more = cc in
    absurd (omega (arith, ap length rests, length-append own more, ap length s.is))

-- where the reading of the whole is stuck, the tokens in front of the rest and the rest's first one are the least that are no front
pub stops : (tokens rest : List Lexeme) → Reads (expects 400 chunk) tokens (stuck rest) → Stop tokens (length tokens - length rest + 1)
stops tokens rest h =
    let s = stands rest h refl in
    let t = stuck_starts rest h refl in
    let count : length tokens - length rest ≡ length s.front = omega (arith, ap length s.is, length-append s.front rest) in
    let taken : take (length tokens - length rest + 1) tokens ≡ s.front ++ t.token ∷ [] =
    ap (λ n. take (n + 1) tokens) count ∙ ap (take (length s.front + 1)) (s.is ∙ ap (λ ts. s.front ++ ts) t.is) ∙ take-append-add s.front (t.token ∷ t.more) 1 in
    record {
      no_front = λ f. no_front (s.others (t.token ∷ []) (ap (λ ts. slice_get ts 0) (sym t.is))) (subst Front taken f);
      least = λ m less. earlier (take m tokens) (drop m tokens) (prefix (take m tokens) (drop m tokens) h (sym (take-append-drop m tokens))) (omega (arith, length-drop m tokens, ap length s.is, length-append s.front rest));
    }

-- then they have no tree
pub no_tree : (tokens rest : List Lexeme) → Reads (expects 400 chunk) tokens (stuck rest) → (tree : Block) → Derives tokens tree → ⊥
no_tree tokens rest h tree d = let bad = only h d.reads in cc

-- and what has a tree has no other
pub one_tree : (tokens : List Lexeme) (tree other : Block) → Derives tokens tree → Derives tokens other → tree ≡ other
one_tree tokens tree other d e =
    let same = only d.reads e.reads in
    cc

pub stands_shorter : {move : Move} {tokens rest : List Lexeme} → Reads move tokens (stuck rest) → length rest ≤ length tokens
stands_shorter {rest = rest} h = let s = stands rest h refl in omega (arith, ap length s.is, length-append s.front rest)

-- what was read leaves no more tokens
pub shorter : {move : Move} {tokens rest : List Lexeme} {piece : Piece} {height : ℕ} → Reads move tokens (whole piece height rest) → length rest ≤ length tokens
shorter {rest = rest} h = let s = stands rest h refl in omega (arith, ap length s.is, length-append s.front rest)
