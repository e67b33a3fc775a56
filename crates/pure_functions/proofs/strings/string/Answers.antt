use Rattle.std.proofs.Common.{rules}
use Rattle.pure_functions.proofs.Interning.{only_strings, same_strings}
use Rattle.pure_functions.proofs.Meaning.{named}
use Rattle.pure_functions.proofs.strings.string.Goals as goal

pub returns-clause-kept : goal.returns-clause-kept
returns-clause-kept c = only_strings c.new_strings_keep.ensures c.args.world.now c.intern.new.self c.args.bytes.now c.args.arguments.now c.requires.stands (search rules)

pub returns-clause-means : goal.returns-clause-means
returns-clause-means c = named c.intern.new.self.strings c.in_ok-id.id c.args.bytes.now c.in_ok-id.ensures.named

pub returns-in_err-id-clause-kept : goal.returns-in_err-id-clause-kept
returns-in_err-id-clause-kept c = same_strings c.args.world.now c.intern.new.self c.args.arguments.now c.requires.stands c.in_err-id.ensures.err
