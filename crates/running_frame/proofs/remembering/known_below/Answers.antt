use Rattle.std.proofs.Common.{subst}
use Rattle.running_frame.specs.Storing.{StandsBelow}
use Rattle.running_frame.proofs.remembering.known_below.Goals as goal

pub register_at-requires : goal.register_at-requires
register_at-requires c =
    let o = c.in_ok-variable.variable in
    let x = c.in_ok-variable.ensures in
    record { cell = o.cell; is = c.requires.listed o.cell x.coroutine o.frame o.register x.own x.holds }

pub returns : goal.returns
returns c =
    let o = c.in_ok-variable.variable in
    record {
      variable = o;
      stands = subst (λ n. StandsBelow c.args.co.0 c.args.upvalues.now n c.args.cells.now.objects c.args.upvalue o) c.len.ensures c.in_ok-variable.ensures;
      has = c.register_at.ensures;
    }
