use Rattle.work_script.proofs.Lines.{next_line}
use Rattle.work_script.proofs.script.append_lines.Goals as goal

pub loop-before-preserved : goal.loop-before-preserved
loop-before-preserved c = next_line c.args.text.now.items c.loop-before.text.items c.append_line.new.text.items c.loop-before.before c.loop-before.invariant c.in_ok-append_line.ensures
