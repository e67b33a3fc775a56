-- What lists of tokens are by the grammar.
use Rattle.std.specs.Prelude.{ℕ, ◌-◌, ◌<◌, List, [], ◌∷◌, take, length}
use Rattle.tree_core.specs.Tree.{Block}
use Rattle.token_cursor.specs.Words.{Lexeme}
use Rattle.lua_parse.specs.Moves.{Piece, a_block, Part, chunk, Move, pick, pass, refuse, within, gives}
use Rattle.lua_parse.specs.Grammar.{expects}

-- How a reading comes out: what is wanted stands whole in front of a rest, and gives a piece of this height; or the list ends within it; or it can't go
-- on at the rest's first token.
pub data Outcome : Type 0 where
  whole : Piece → (height : ℕ) → (rest : List Lexeme) → Outcome
  cut : Outcome
  stuck : (rest : List Lexeme) → Outcome

-- What a list of tokens is for what may follow at a place.
pub data Reads : Move → List Lexeme → Outcome → Type 0 where
  picks : {by : Lexeme → Move} {token : Lexeme} {tokens : List Lexeme} {outcome : Outcome} → Reads (by token) (token ∷ tokens) outcome → Reads (pick by) (token ∷ tokens) outcome
  picks_none : {by : Lexeme → Move} → Reads (pick by) [] cut
  passes : {next : Move} {token : Lexeme} {tokens : List Lexeme} {outcome : Outcome} → Reads next tokens outcome → Reads (pass next) (token ∷ tokens) outcome
  passes_none : {next : Move} → Reads (pass next) [] cut
  refuses : {token : Lexeme} {tokens : List Lexeme} → Reads refuse (token ∷ tokens) (stuck (token ∷ tokens))
  refuses_none : Reads refuse [] cut
  is_whole : {piece : Piece} {height : ℕ} {tokens : List Lexeme} → Reads (gives piece height) tokens (whole piece height tokens)
  within_whole : {part : Part} {room : ℕ} {next : Piece → ℕ → ℕ → Move} {tokens : List Lexeme} {outcome : Outcome} (piece : Piece) (height : ℕ) (between : List Lexeme) →
      Reads (expects room part) tokens (whole piece height between) → Reads (next piece height (length tokens - length between)) between outcome → Reads (within part room next) tokens outcome
  within_cut : {part : Part} {room : ℕ} {next : Piece → ℕ → ℕ → Move} {tokens : List Lexeme} → Reads (expects room part) tokens cut → Reads (within part room next) tokens cut
  within_stuck : {part : Part} {room : ℕ} {next : Piece → ℕ → ℕ → Move} {tokens rest : List Lexeme} → Reads (expects room part) tokens (stuck rest) → Reads (within part room next) tokens (stuck rest)

-- the tokens have this tree, of at most 400 levels
pub record Derives (tokens : List Lexeme) (tree : Block) : Type 0 where
  pub height : ℕ
  pub reads : Reads (expects 400 chunk) tokens (whole (a_block tree) height [])

-- the tokens follow the grammar up to some place in it
pub data Front (tokens : List Lexeme) : Type 0 where
  ends_within : Reads (expects 400 chunk) tokens cut → Front tokens
  is_all : (tree : Block) → Derives tokens tree → Front tokens

-- the least number of tokens in front that are no front
pub record Stop (tokens : List Lexeme) (n : ℕ) : Type 0 where
  pub no_front : Front (take n tokens) → ⊥
  pub least : (m : ℕ) → m < n → Front (take m tokens)
