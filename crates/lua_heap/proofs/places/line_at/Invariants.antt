use Rattle.std.proofs.Common.{◌≡◌, ◌≤◌, ◌-◌, ◌^◌, Some, true, pos, ◌≤ℤ◌, drop}
use Rattle.std.specs.Prelude.{slice_get}
use Rattle.std.specs.List.{list_all}
use Rattle.code_core.specs.Check.{is_line, lines_from}
use Rattle.lua_heap.proofs.places.line_at.Given as goal

abbrev pub invariant-loop-at : goal.invariant-loop-at
invariant-loop-at l = record {
  low : pos 0 ≤ℤ l.line;
  high : l.line ≤ℤ pos (2 ^ 32);
  good : list_all is_line (lines_from l.proto.own.abs_lines l.at (Some l.line) (drop l.at l.proto.own.line_info)) ≡ true;
  same : slice_get (lines_from l.proto.own.abs_lines l.at (Some l.line) (drop l.at l.proto.own.line_info)) (l.pc - l.at)
      ≡ slice_get (lines_from l.proto.own.abs_lines 0 (Some (pos l.proto.own.line_defined)) l.proto.own.line_info) l.pc;
  within : l.at ≤ l.pc;
}
