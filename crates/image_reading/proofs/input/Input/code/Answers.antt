use Rattle.std.proofs.Common.{◌≡◌, Err, rules}
use Rattle.image_reading.specs.Says.{reader_in}
use Rattle.image_reading.proofs.CodeTold.{code_scanned, code_stopped, code_unread}
use Rattle.image_reading.proofs.input.Input.code.Goals as goal

pub returns-in_err-bytes : goal.returns-in_err-bytes
returns-in_err-bytes c =
    let is : c.from_residual.result ≡ Err c.in_err-bytes.field-0.0 = search rules in
    record { reads = rw is (code_unread c.args.context.now _ _ _ _ _ (c.in_err-bytes.ensures.reads (reader_in c.args.context.now))) }

pub returns-in_err-code : goal.returns-in_err-code
returns-in_err-code c =
    let is : c.from_residual-in_err-code.result ≡ Err c.in_err-code.field-0.0 = search rules in
    record { reads = rw is (code_stopped c.args.context.now _ _ _ _ _ _ _ (c.in_ok-bytes.ensures.reads (reader_in c.args.context.now)) c.in_err-code.ensures) }

pub returns : goal.returns
returns c = record { reads = code_scanned c.args.context.now _ _ _ _ _ _ (c.in_ok-bytes.ensures.reads (reader_in c.args.context.now)) c.in_ok-code.ensures }
