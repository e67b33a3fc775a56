use Rattle.machine_arms_numbers.proofs.LoadRows.{of_truth, truth_does}
use Rattle.machine_arms_numbers.proofs.loads.load_truth.Goals as goal

pub put_value-requires : goal.put_value-requires
put_value-requires c = let t = of_truth c.args.op c.requires.at c.requires.form in record { there = t.there; next = t.lands }

pub returns : goal.returns
returns c = truth_does c.args.op c.requires.at c.requires.form c.put_value.ensures.registers c.put_value.ensures.next
