use Rattle.std.proofs.Common.{sym, subst, []}
use Rattle.machine_calls.specs.Preparing.{ClosesFor}
use Rattle.machine_calls.proofs.Readied.{closed_for}
use Rattle.machine_calls.proofs.preparing.close_for.Goals as goal

pub returns-in-LeftSo-clause-closes : goal.returns-in-LeftSo-clause-closes
returns-in-LeftSo-clause-closes c =
    let W = c.args.world.now in
    subst (ClosesFor W c.close_cells.new.world) (sym c.in-LeftSo.is)
    (record { is = λ at e env x fuel. closed_for W c.close_cells.new.world 0 at fuel (c.close_cells.ensures.makes []) e })

pub returns-in-ReturnedSo-clause-closes : goal.returns-in-ReturnedSo-clause-closes
returns-in-ReturnedSo-clause-closes c =
    let W = c.args.world.now in
    subst (ClosesFor W c.close_cells-in-ReturnedSo.new.world) (sym c.in-ReturnedSo.is)
    (record { is = λ at e env x fuel. closed_for W c.close_cells-in-ReturnedSo.new.world 0 at fuel (c.close_cells-in-ReturnedSo.ensures.makes []) e })

pub returns-in-Closed-clause-closes : goal.returns-in-Closed-clause-closes
returns-in-Closed-clause-closes c =
    let W = c.args.world.now in
    subst (ClosesFor W c.close_cells-in-Closed.new.world) (sym c.in-Closed.is)
    (record { is = λ at e env x fuel. closed_for W c.close_cells-in-Closed.new.world c.in-Closed.register at fuel (c.close_cells-in-Closed.ensures.makes []) e })
