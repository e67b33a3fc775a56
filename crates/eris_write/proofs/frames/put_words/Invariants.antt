use Rattle.std.proofs.Common.{None, take}
use Rattle.image_bytes.specs.Format.{spell_all, word}
use Rattle.eris_write.specs.Output.{Puts}
use Rattle.eris_write.proofs.frames.put_words.Given as goal

abbrev pub invariant-loop-at : goal.invariant-loop-at
invariant-loop-at l = Puts l.initial.out l.out None (λ _. spell_all word (take l.at l.numbers))
