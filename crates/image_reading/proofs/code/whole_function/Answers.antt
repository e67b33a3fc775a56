use Rattle.std.proofs.Common.{refl, rules}
use Rattle.chunk_format.specs.Grammar.{WholeOf, BeginsWith}
use Rattle.image_reading.proofs.CodeTold.{told_whole, told_left}
use Rattle.image_reading.proofs.code.whole_function.Goals as goal

pub returns-then-count-bytes : goal.returns-then-count-bytes
returns-then-count-bytes c =
    let found : BeginsWith WholeOf c.in-Ok.proto c.in-Ok.count c.args.bytes.now = search rules in
    told_whole c.args.bytes.now c.in-Ok.proto c.in-Ok.count found c.if-count-bytes.true

pub returns-else-count-bytes : goal.returns-else-count-bytes
returns-else-count-bytes c =
    let found : BeginsWith WholeOf c.in-Ok.proto c.in-Ok.count c.args.bytes.now = search rules in
    (told_left c.args.bytes.now c.in-Ok.proto c.in-Ok.count found c.if-count-bytes.false, refl)
