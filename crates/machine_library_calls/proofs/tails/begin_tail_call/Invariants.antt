use Rattle.machine_library_calls.proofs.tails.begin_tail_call.Given as goal

abbrev pub ghost-call_below : goal.ghost-call_below
ghost-call_below g a = g.begun
