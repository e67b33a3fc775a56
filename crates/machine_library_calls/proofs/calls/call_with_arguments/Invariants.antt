use Rattle.machine_library_calls.proofs.calls.call_with_arguments.Given as goal

abbrev pub ghost-call_for : goal.ghost-call_for
ghost-call_for g a = g.begun
