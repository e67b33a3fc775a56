-- What an answer of the crate says.
use Rattle.std.specs.Prelude.{ℕ, Result, Err}
use Rattle.lua_lex.specs.declared.source.LexFault.{LexFault}
use Rattle.lua_lex.specs.declared.source.LexFault.TheVariants.{Refused}

-- a fact of the line that a refusal carries
abbrev pub OnRefused : {T : Type 0} → Result T LexFault → (ℕ → Type 0) → Type 0
OnRefused (Err (Refused line)) P = P line
OnRefused _ P = Unit {0}
