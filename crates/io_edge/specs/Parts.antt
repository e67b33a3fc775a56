-- What the steps of reading a line do: parts of it are added, up to a line feed or the end of what was read.
use Rattle.std.specs.Prelude.{◌≡◌, ◌++◌, ℕ, Bool, true, false, List, [], ◌∷◌}
use Rattle.io_edge.specs.Lines.{IsUnbroken, IsPastLimits}

-- the bytes that end a line where it ended by a line feed
abbrev pub line_feed : Bool → List ℕ
line_feed true = 10 ∷ []
line_feed false = []

-- A part of the line was taken from the front of the pending bytes. Where no line feed ended it, no byte is pending.
pub record TakesPart (before now : List ℕ) (line grown : List ℕ) (ended : Bool) : Type 0 where
  pub part : List ℕ
  pub taken : before ≡ part ++ (line_feed ended ++ now)
  pub added : grown ≡ line ++ part
  pub unbroken : IsUnbroken part
  pub emptied : ended ≡ false → now ≡ []

-- The line would be past the limits with a part of the pending bytes that no line feed breaks.
pub record GrowsPastLimits (taken : ℕ) (pending line : List ℕ) : Type 0 where
  pub part : List ℕ
  pub rest : List ℕ
  pub front : pending ≡ part ++ rest
  pub unbroken : IsUnbroken part
  pub past : IsPastLimits taken (line ++ part)
