use Rattle.lib_string.proofs.Runs.{letters_go_on}
use Rattle.lib_string.proofs.filling.letters.Goals as goal

pub loop-next-preserved : goal.loop-next-preserved
loop-next-preserved c =
    letters_go_on c.args.format.now c.loop-next.rest.now c.in-Some.next.rest.now c.loop-next.text.items c.append_letter.new.text.items c.in-Some.next.piece c.loop-next.invariant c.in-Some.ensures.0
    c.in_ok-append_letter.ensures
