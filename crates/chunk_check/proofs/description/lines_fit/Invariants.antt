use Rattle.std.proofs.Common.{◌≡◌, ◌^◌, Some, pos, ◌≤ℤ◌, drop}
use Rattle.std.specs.List.{list_all}
use Rattle.code_core.specs.Check.{is_line, lines_from}
use Rattle.chunk_check.specs.Lines.{lines_fit}
use Rattle.chunk_check.proofs.description.lines_fit.Given as goal

abbrev pub invariant-loop-pc : goal.invariant-loop-pc
invariant-loop-pc l =
    (pos 0 ≤ℤ l.line) × (l.line ≤ℤ pos (2 ^ 32))
    × (list_all is_line (lines_from l.proto.own.abs_lines l.pc (Some l.line) (drop l.pc l.proto.own.line_info)) ≡ lines_fit l.proto)
