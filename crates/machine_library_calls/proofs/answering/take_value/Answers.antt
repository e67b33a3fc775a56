use Rattle.machine_library_calls.proofs.answering.take_value.Goals as goal

pub take_values-requires : goal.take_values-requires
take_values-requires g c = c.requires

pub returns-clause-comes : goal.returns-clause-comes
returns-clause-comes g c = c.take_values.ensures.comes
