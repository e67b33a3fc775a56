use Rattle.std.proofs.Common.{◌≡◌, sym}
use Rattle.move_laws.proofs.Running.{of_top}
use Rattle.running_frame.proofs.place.place_on_top.Goals as goal

pub returns : goal.returns
returns c =
    let p = c.requires.place in
    let on = c.stack_of_frame.ensures.runs in
    record { place = p; is = c.requires.is; at = sym (of_top c.args.world.now on.co c.stack_of_frame.result.now p (λ f t. c.pc.result ≡ t.own.pc) on.runs c.requires.is c.pc.ensures) }
