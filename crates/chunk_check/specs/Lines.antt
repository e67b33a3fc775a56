-- The lines of a function's instructions.
use Rattle.std.specs.Prelude.{ℤ, pos, Bool, Option, Some, None, if◌then◌else◌}
use Rattle.std.specs.List.{list_all}
use Rattle.code_core.specs.Prototype.{Prototype}
use Rattle.code_core.specs.Check.{is_line, lines_from}

abbrev pub lines_fit : Prototype → Bool
lines_fit p = list_all is_line (lines_from p.own.abs_lines 0 (Some (pos p.own.line_defined)) p.own.line_info)

-- a line, where it is a number that a chunk can hold
abbrev pub good_line : Option ℤ → Option ℤ
good_line line = (if is_line line then line else None)
