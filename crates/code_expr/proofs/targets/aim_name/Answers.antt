use Rattle.std.proofs.Common.{◌≡◌, ap, ◌∙◌}
use Rattle.code_core.specs.declared.proto.Const.TheVariants.{Str}
use Rattle.code_of.specs.Constants.{loads}
use Rattle.code_of.specs.Targets.{text_key}
use Rattle.code_emitter.specs.Listing.{listed}
use Rattle.code_expr.specs.Stores.{key_seat, code_if, is_above}
use Rattle.code_expr.proofs.FieldSeats.{seat_code_is}
use Rattle.code_expr.proofs.targets.aim_name.Goals as goal

pub returns : goal.returns
returns c =
    let s = text_key c.args.emitter.now.constants c.args.text.now in
    let code = loads c.args.emitter.now.constants (Str c.args.text.now) c.args.target c.args.line in
    let stands : c.text_seat-stands.result ≡ key_seat s = c.text_seat-stands.ensures in
    let key : c.load_key.new.emitter ≡ listed c.args.emitter.now (code_if (is_above (key_seat s)) code) = rw stands at c.in_ok-load_key.ensures in
    key ∙ ap (listed c.args.emitter.now) (seat_code_is s code)
