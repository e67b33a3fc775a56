-- The whole of the tokens.
use Rattle.std.proofs.Common.{◌≡◌, ℕ, ◌-◌, List, [], ◌∷◌, ◌++◌, length, drop, Some, Bool, true, false, refl, sym, ap, subst, ◌∙◌, arith, length-append}
use Rattle.std.specs.Prelude.{slice_get}
use Rattle.std.specs.Option.{option_map}
use Rattle.tree_core.specs.Tree.{Block}
use Rattle.lua_lex.specs.Lexical.{EndsOnce, LastWhere, is_end}
use Rattle.token_cursor.specs.Words.{Lexeme, first}
use Rattle.lua_parse.specs.Moves.{a_block, chunk, block, gives}
use Rattle.lua_parse.specs.Grammar.{expects, pass_if}
use Rattle.lua_parse.specs.Reading.{whole, stuck, Reads, within_stuck, Derives}
use Rattle.lua_parse.specs.Answers.{IsRefusal}
use Rattle.lua_parse.proofs.StopLemmas.{stands, stops, no_tree, stuck_starts}
use Rattle.lua_parse.proofs.Steps.{Comes, starts, picked, turned, passed, refused, found, ended}

last_behind : (front rest : List Lexeme) → EndsOnce (front ++ rest) → Comes rest → is_end (first rest).0 ≡ true → drop 1 rest ≡ []
last_behind [] [] once comes is = absurd once
last_behind [] (t ∷ ts) once comes is = subst (λ b. LastWhere b ts (EndsOnce ts)) is once
last_behind (f ∷ front) rest once comes is = last_cases (is_end f.0) once (λ later. last_behind front rest later comes is)
  where
    last_cases : (b : Bool) → LastWhere b (front ++ rest) (EndsOnce (front ++ rest)) → (EndsOnce (front ++ rest) → drop 1 rest ≡ []) → drop 1 rest ≡ []
    last_cases true none goes_on = absurd (omega (arith, ap length none, length-append front rest, ap length comes))
    last_cases false later goes_on = goes_on later

pub derives : (tokens rest : List Lexeme) (own : Block) (height : ℕ) → EndsOnce tokens → Reads (expects 400 block) tokens (whole (a_block own) height rest) → Comes rest → is_end (first rest).0 ≡ true → Derives tokens own
derives tokens rest own height once reads comes is =
    let s = stands rest reads refl in
    let nothing : drop 1 rest ≡ [] = last_behind s.front rest (subst EndsOnce s.is once) comes is in
    let l = turned (picked (found (starts chunk 400 tokens) reads) comes) (ap (λ b. pass_if b (gives (a_block own) height)) is) in
    record { height = height; reads = ended (passed l comes (sym nothing)) }

pub stuck_behind : (tokens rest : List Lexeme) (own : Block) (height : ℕ) → Reads (expects 400 block) tokens (whole (a_block own) height rest) → Comes rest → is_end (first rest).0 ≡ false → Reads (expects 400 chunk) tokens (stuck rest)
stuck_behind tokens rest own height reads comes is =
    refused (turned (picked (found (starts chunk 400 tokens) reads) comes) (ap (λ b. pass_if b (gives (a_block own) height)) is)) comes

pub stuck_within : (tokens rest : List Lexeme) → Reads (expects 400 block) tokens (stuck rest) → Reads (expects 400 chunk) tokens (stuck rest)
stuck_within tokens rest reads = within_stuck reads

at_front : (front rest : List Lexeme) → Comes rest → slice_get (front ++ rest) (length front) ≡ Some (first rest)
at_front [] [] comes = absurd (let bad : ◌≡◌ {A = List Lexeme} [] (first [] ∷ []) = comes in cc)
at_front [] (t ∷ ts) comes = refl
at_front (f ∷ front) rest comes = at_front front rest comes

comes_of : (rest : List Lexeme) (token : Lexeme) (more : List Lexeme) → rest ≡ token ∷ more → Comes rest
comes_of [] token more e = absurd (let bad : ◌≡◌ {A = List Lexeme} [] (token ∷ more) = e in cc)
comes_of (t ∷ ts) token more e = refl

pub refusal : (tokens rest : List Lexeme) (line : ℕ) → Reads (expects 400 chunk) tokens (stuck rest) → line ≡ (first rest).1 → IsRefusal tokens line
refusal tokens rest line reads is =
    let s = stands rest reads refl in
    let t = stuck_starts rest reads refl in
    let count : length tokens - length rest ≡ length s.front = omega (arith, ap length s.is, length-append s.front rest) in
    let here : slice_get tokens (length tokens - length rest) ≡ Some (first rest) = ap (slice_get tokens) count ∙ ap (λ ts. slice_get ts (length s.front)) s.is ∙ at_front s.front rest (comes_of rest t.token t.more t.is) in
    record {
      at = length tokens - length rest;
      stop = stops tokens rest reads;
      line_is = ap (option_map (λ (x : Lexeme). x.1)) here ∙ ap Some (sym is);
      no_tree = λ other d. no_tree tokens rest reads other d;
    }
