-- Long brackets, in which literal strings and comments stand (Lua 5.4 manual, 3.1).
-- Bytes stand by their numbers: `=` is 61, `[` 91 and `]` 93.
use Rattle.std.specs.Prelude.{◌≡◌, ℕ, ◌+◌, ◌≤◌, Bool, ◌==◌, ◌&&◌, List, [], ◌∷◌, ◌++◌, length, drop, slice_index, replicate}
use Rattle.std.specs.List.{prefix_len}
use Rattle.lua_lex.specs.Classes.{is_equals}

-- how many `=` stand behind the first byte
abbrev pub level_of : List ℕ → ℕ
level_of text = prefix_len is_equals (drop 1 text)

-- the text begins with `[`, any number of `=` and `[`
abbrev pub opens_long : List ℕ → Bool
opens_long text = slice_index text 0 == 91 && slice_index text (1 + level_of text) == 91

-- `]`, so many `=`, `]`
abbrev pub closer : ℕ → List ℕ
closer level = 93 ∷ (replicate level 61 ++ 93 ∷ [])

-- The text begins with an opening long bracket; the content stands between it and the first closing one of its level, and then comes the rest.
pub record LongBracket (text content rest : List ℕ) : Type 0 where
  pub whole : drop (2 + level_of text) text ≡ content ++ (closer (level_of text) ++ rest)
  pub first : (before after : List ℕ) → drop (2 + level_of text) text ≡ before ++ (closer (level_of text) ++ after) → length content ≤ length before
