use Rattle.std.proofs.Common.{rules}
use Rattle.lib_string.proofs.bytes.byte_in.Goals as goal

pub returns-in-Some : goal.returns-in-Some
returns-in-Some c = search (rules, c.in-Some.ensures c.args.place)

pub returns-in-None : goal.returns-in-None
returns-in-None c = search (rules, c.in-None.ensures c.args.place)
