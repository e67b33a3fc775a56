use Rattle.image_reading.proofs.CodeTold.{told_checked}
use Rattle.image_reading.proofs.code.checked_code.Goals as goal

pub returns-in-Ok : goal.returns-in-Ok
returns-in-Ok c = told_checked _ c.in_ok-proto.proto c.in-Ok.code c.in_ok-proto.ensures c.in-Ok.ensures c.proto-proto.ensures.checked
