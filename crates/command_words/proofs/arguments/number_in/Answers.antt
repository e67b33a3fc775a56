use Rattle.command_words.proofs.Numbers.{no_number}
use Rattle.command_words.proofs.arguments.number_in.Goals as goal

pub returns-in_default-2 : goal.returns-in_default-2
returns-in_default-2 c = no_number c.args.digits.now c.in_default.ensures.value.0
