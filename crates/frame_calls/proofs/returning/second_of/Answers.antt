use Rattle.std.proofs.Common.{◌≡◌, ◌+◌, ap, ◌∙◌, arith, rules}
use Rattle.std.specs.Prelude.{slice_get}
use Rattle.frame_calls.proofs.Takers.{found_is}
use Rattle.frame_calls.proofs.returning.second_of.Goals as goal

pub returns : goal.returns
returns c =
    let next : c.in_ok-next.next ≡ c.args.register + 1 = search (rules, arith) in
    found_is c.register_of.result (slice_get c.args.registers.now (c.args.register + 1)) (c.register_of.ensures ∙ ap (slice_get c.args.registers.now) next)
