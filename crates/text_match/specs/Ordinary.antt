-- Patterns in which each byte stands for itself (Lua 5.4 manual, 6.4.1).
use Rattle.std.specs.Prelude.{ℕ, ◌+◌, Bool, ◌==◌, ◌||◌, List, [], length, Option, Some, None}
use Rattle.library_rows.specs.Searches.{Hit}

-- the bytes that stand for something else in a pattern: `$`, `%`, `(`, `)`, `*`, `+`, `-`, `.`, `?`, `[` and `^`
abbrev pub is_special : ℕ → Bool
is_special b = (b == 36) || ((b == 37) || ((b == 40) || ((b == 41) || ((b == 42) || ((b == 43) || ((b == 45) || ((b == 46) || ((b == 63) || ((b == 91) || (b == 94))))))))))

-- the match of a plain text that begins at a place
abbrev pub plain_hit : List ℕ → Option ℕ → Option Hit
plain_hit p None = None
plain_hit p (Some at) = Some (record { start = at; end = at + length p; captures = [] })
