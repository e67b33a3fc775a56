use Rattle.machine_library_calls.proofs.primitives.call_for.Given as goal

abbrev pub ghost-call_now : goal.ghost-call_now
ghost-call_now g a = g.begun
