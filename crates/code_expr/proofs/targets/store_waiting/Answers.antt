use Rattle.std.proofs.Common.{◌≡◌, ◌+◌, false, [], ◌∷◌, ap, ◌∙◌}
use Rattle.tree_core.specs.Plain.{plain_exp}
use Rattle.code_of.specs.Targets.{waiting_key}
use Rattle.code_emitter.specs.Listing.{listed}
use Rattle.code_expr.specs.Stores.{key_seat, seat_store}
use Rattle.code_expr.proofs.ValueSeats.{seat_store_is}
use Rattle.code_expr.proofs.targets.store_waiting.Goals as goal

pub returns : goal.returns
returns c =
    let s = waiting_key c.args.emitter.now.constants (plain_exp c.args.key.now) in
    let stands : c.waiting_seat-stands.result ≡ key_seat s = c.waiting_seat-stands.ensures in
    let store : c.put_waiting.new.emitter ≡ listed c.args.emitter.now (seat_store (key_seat s) c.args.register (c.args.register + 1) false c.args.value c.args.line ∷ []) = rw stands at c.in_ok-put_waiting.ensures in
    store ∙ ap (λ x. listed c.args.emitter.now (x ∷ [])) (seat_store_is s false c.args.register c.args.register c.args.value c.args.line)
