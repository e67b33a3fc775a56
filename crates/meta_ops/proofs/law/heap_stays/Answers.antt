use Rattle.meta_ops.proofs.Staying.{heap-stays}
use Rattle.meta_ops.proofs.law.heap_stays.Goals as goal

pub returns : goal.returns
returns c z texts text tables meta h = heap-stays c.new_strings_keep.ensures z texts text tables meta h
