use Rattle.std.proofs.Common.{map, sym, ◌∙◌, ap}
use Rattle.std.specs.Prelude.{string_bytes}
use Rattle.std.specs.Option.{option_map}
use Rattle.command_words.specs.Kept.{asked}
use Rattle.command_words.proofs.Asking.{command_answered, short_answered, is_wrong}
use Rattle.command_words.proofs.command.read_words.Goals as goal

pub returns-clause-command : goal.returns-clause-command
returns-clause-command c = command_answered asked (map string_bytes c.args.words.now) c.command_in.result c.command_in.ensures

pub returns-clause-wrong : goal.returns-clause-wrong
returns-clause-wrong c e = is_wrong (map string_bytes c.args.words.now) (sym c.command_in.ensures ∙ ap (option_map asked) e)

pub returns-clause-short : goal.returns-clause-short
returns-clause-short c = short_answered asked (map string_bytes c.args.words.now) c.command_in.result c.command_in.ensures
