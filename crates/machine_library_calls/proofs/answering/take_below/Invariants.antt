use Rattle.machine_library_calls.proofs.answering.take_below.Given as goal

abbrev pub ghost-wake_with : goal.ghost-wake_with
ghost-wake_with g a = g.begun
