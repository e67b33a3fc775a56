use Rattle.lua_heap.specs.Codes.{no_code}
use Rattle.machine_call_rows.proofs.Read.{call_text}
use Rattle.machine_call_rows.proofs.primitives.call_primitive.Goals as goal

pub see-requires-clause-safe : goal.see-requires-clause-safe
see-requires-clause-safe c = record { rest = call_text c.args.at.keeps c.args.at.iterates; safe = c.requires.safe no_code 0 }

pub returns-clause-calls : goal.returns-clause-calls
returns-clause-calls c =
    let told = c.see.new.self in
    c.wait_for_primitive.ensures.calls c.args.budget.now told.number told.arguments c.in_ok-see.ensures
