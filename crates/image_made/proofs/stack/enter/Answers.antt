use Rattle.std.proofs.Common.{◌≡◌, length, true, arith, ap, ◌∙◌}
use Rattle.image_made.proofs.Tops.{entered_whole}
use Rattle.image_made.proofs.stack.enter.Goals as goal

pub returns : goal.returns
returns c =
    let size : c.len-size.result ≡ length c.args.registers.items = omega arith in
    entered_whole c.args.stack.now c.enter.new.self c.args.function _ c.args.registers.items c.args.varargs.now _ c.in_ok-enter.ensures.frames (c.deref.ensures.value ∙ c.in_ok-extend_from_slice.ensures.items)
    (ap (λ n. record { params = n; vararg = true; stack = n }) size)
