use Rattle.std.proofs.Common.{None, take}
use Rattle.eris_write.specs.Output.{Puts}
use Rattle.eris_write.proofs.Recorded.{sorts_of}
use Rattle.eris_write.proofs.records.put_sort_bytes.Given as goal

abbrev pub invariant-loop-at : goal.invariant-loop-at
invariant-loop-at l = Puts l.initial.out l.out None (λ _. sorts_of (take l.at l.objects.keys))
