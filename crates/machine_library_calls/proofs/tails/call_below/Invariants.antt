use Rattle.machine_library_calls.proofs.tails.call_below.Given as goal

abbrev pub ghost-call_for : goal.ghost-call_for
ghost-call_for g a = g.begun
