use Rattle.chunk_check.proofs.Exact.{writable_without_faults, numbers_without_faults, checked_by_walks}
use Rattle.chunk_check.proofs.checked.check.Goals as goal

pub inner_fault-requires-clause-writable : goal.inner_fault-requires-clause-writable
inner_fault-requires-clause-writable c = writable_without_faults c.args.proto c.in_ok-own_fault.ensures

pub inner_fault-requires-clause-numbers : goal.inner_fault-requires-clause-numbers
inner_fault-requires-clause-numbers c = numbers_without_faults c.args.proto c.in_ok-own_fault.ensures

pub keep-requires : goal.keep-requires
keep-requires c = checked_by_walks c.args.proto c.in_ok-own_fault.ensures c.in_ok-inner_fault.ensures.found
