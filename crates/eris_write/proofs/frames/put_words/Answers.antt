use Rattle.std.proofs.Common.{None, subst, arith}
use Rattle.std.proofs.lemmas.List.{take_all}
use Rattle.image_bytes.specs.Format.{spell_all, word}
use Rattle.eris_write.specs.Output.{Puts}
use Rattle.eris_write.proofs.Recorded.{next_word}
use Rattle.eris_write.proofs.frames.put_words.Goals as goal

pub loop-at-preserved : goal.loop-at-preserved
loop-at-preserved c = next_word c.args.numbers.now c.loop-at.at c.item_at.result _ _ _ c.item_at.ensures c.loop-at.invariant c.in_ok-put_word.ensures

pub returns : goal.returns
returns c =
    let t = c.loop-at-test.false in
    subst (λ ns. Puts c.args.out.now c.loop-at.out None (λ _. spell_all word ns)) (take_all c.loop-at.at c.args.numbers.now (omega (arith, t))) c.loop-at.invariant
