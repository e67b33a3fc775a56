use Rattle.std.proofs.Common.{rules, ◌≡◌, ◌++◌}
use Rattle.machine_library.proofs.Printed.{prints}
use Rattle.machine_library.proofs.printing.print_value.Goals as goal

pub returns-clause-printed : goal.returns-clause-printed
returns-clause-printed c =
    let all : c.extend_from_slice.new.self.items ≡ c.args.world.now.printed.items ++ c.bytes_of.result.now = search rules in
    prints c.args.world.now c.args.v c.extend_from_slice.new.self c.bytes_of.result.now c.bytes_of.ensures all
