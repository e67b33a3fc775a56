use Rattle.std.proofs.Common.{rules, []}
use Rattle.machine_moves.specs.Ending.{ending_of}
use Rattle.machine_library.specs.Answers.{IsFirst}
use Rattle.machine_library.proofs.Consulting.{hands_on}
use Rattle.machine_library.proofs.Printed.{text_there, runs_printed, prints_row}
use Rattle.machine_library.proofs.printing.print.Goals as goal

pub print_value-requires : goal.print_value-requires
print_value-requires c =
    let f : IsFirst c.args.world.now.moving.items c.first_of-printed.result = search rules in
    text_there c.strings_are_there.ensures c.args.world.now c.first_of-printed.result c.requires.sound f

pub hand_over-requires : goal.hand_over-requires
hand_over-requires c = runs_printed c.args.world.now c.print_value.new.world c.take_moving.new.world c.requires.running c.print_value.ensures.rest c.take_moving.ensures.rest

pub returns-clause-leads : goal.returns-clause-leads
returns-clause-leads c =
    let f : IsFirst c.args.world.now.moving.items c.first_of-printed.result = search rules in
    prints_row c.args.world.now c.print_value.new.world c.take_moving.new.world c.first_of-printed.result _ (ending_of c.hand_over.result) f c.in_ok-print_value.ensures.printed (c.take_moving.ensures.makes []) c.hand_over.ensures

pub returns-clause-goes : goal.returns-clause-goes
returns-clause-goes c = hands_on c.take_moving.new.world c.hand_over.result (c.hand_over.ensures [])
