-- A reading that computes, for examples: with enough steps it says how a list is read.
use Rattle.std.proofs.Common.{◌≡◌, ℕ, zero, suc, ◌-◌, List, [], ◌∷◌, length, Option, Some, None, refl}
use Rattle.token_cursor.specs.Words.{Lexeme}
use Rattle.lua_parse.specs.Moves.{Piece, Part, Move, pick, pass, refuse, within, gives}
use Rattle.lua_parse.specs.Grammar.{expects}
use Rattle.lua_parse.specs.Reading.{Outcome, whole, cut, stuck, Reads, picks, picks_none, passes, passes_none, refuses, refuses_none, is_whole, within_whole, within_cut, within_stuck}

abbrev behind_part : (Move → List Lexeme → Option Outcome) → (Piece → ℕ → ℕ → Move) → List Lexeme → Option Outcome → Option Outcome
behind_part run next tokens None = None
behind_part run next tokens (Some (whole piece height rest)) = run (next piece height (length tokens - length rest)) rest
behind_part run next tokens (Some cut) = Some cut
behind_part run next tokens (Some (stuck rest)) = Some (stuck rest)

abbrev pub read : ℕ → Move → List Lexeme → Option Outcome
read zero move tokens = None
read (suc n) (pick by) [] = Some cut
read (suc n) (pick by) (t ∷ ts) = read n (by t) (t ∷ ts)
read (suc n) (pass next) [] = Some cut
read (suc n) (pass next) (t ∷ ts) = read n next ts
read (suc n) refuse [] = Some cut
read (suc n) refuse (t ∷ ts) = Some (stuck (t ∷ ts))
read (suc n) (gives piece height) tokens = Some (whole piece height tokens)
read (suc n) (within part room next) tokens = behind_part (λ move rest. read n move rest) next tokens (read n (expects room part) tokens)

within_is : (n : ℕ) (part : Part) (room : ℕ) (next : Piece → ℕ → ℕ → Move) (tokens : List Lexeme) (outcome : Outcome) (inner : Option Outcome) → ((move : Move) (list : List Lexeme) (o : Outcome) → read n move list ≡ Some o → Reads move list o) → read n (expects room part) tokens ≡ inner → behind_part (λ move rest. read n move rest) next tokens inner ≡ Some outcome → Reads (within part room next) tokens outcome
within_is n part room next tokens outcome None reads is e = absurd (let bad : ◌≡◌ {A = Option Outcome} None (Some outcome) = e in cc)
within_is n part room next tokens outcome (Some (whole piece height rest)) reads is e = within_whole piece height rest (reads (expects room part) tokens (whole piece height rest) is) (reads (next piece height (length tokens - length rest)) rest outcome e)
within_is n part room next tokens outcome (Some cut) reads is e = let same : cut ≡ outcome = cc in rw (← same) (within_cut (reads (expects room part) tokens cut is))
within_is n part room next tokens outcome (Some (stuck rest)) reads is e = let same : stuck rest ≡ outcome = cc in rw (← same) (within_stuck (reads (expects room part) tokens (stuck rest) is))

pub read_is : (n : ℕ) (move : Move) (tokens : List Lexeme) (outcome : Outcome) → read n move tokens ≡ Some outcome → Reads move tokens outcome
read_is zero move tokens outcome e = absurd (let bad : ◌≡◌ {A = Option Outcome} None (Some outcome) = e in cc)
read_is (suc n) (pick by) [] outcome e = let same : cut ≡ outcome = cc in rw (← same) picks_none
read_is (suc n) (pick by) (t ∷ ts) outcome e = picks (read_is n (by t) (t ∷ ts) outcome e)
read_is (suc n) (pass next) [] outcome e = let same : cut ≡ outcome = cc in rw (← same) passes_none
read_is (suc n) (pass next) (t ∷ ts) outcome e = passes (read_is n next ts outcome e)
read_is (suc n) refuse [] outcome e = let same : cut ≡ outcome = cc in rw (← same) refuses_none
read_is (suc n) refuse (t ∷ ts) outcome e = let same : stuck (t ∷ ts) ≡ outcome = cc in rw (← same) refuses
read_is (suc n) (gives piece height) tokens outcome e = let same : whole piece height tokens ≡ outcome = cc in rw (← same) is_whole
read_is (suc n) (within part room next) tokens outcome e = within_is n part room next tokens outcome (read n (expects room part) tokens) (read_is n) refl e
