use Rattle.std.proofs.Common.{◌≡◌, ◌++◌}
use Rattle.work_script.specs.Script.{work_lines}
use Rattle.work_script.proofs.script.append_lines.Given as goal

abbrev pub invariant-loop-before : goal.invariant-loop-before
invariant-loop-before l = l.text.items ≡ l.initial.text.items ++ work_lines l.before
