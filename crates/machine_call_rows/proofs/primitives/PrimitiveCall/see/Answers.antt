use Rattle.std.proofs.Common.{◌+◌, ◌≤◌, length, sym, subst}
use Rattle.machine_call_rows.specs.Rows.{ReadsValues}
use Rattle.machine_call_rows.proofs.Read.{may_read, reads_called}
use Rattle.machine_call_rows.proofs.primitives.PrimitiveCall.see.Goals as goal

pub read_register-called-requires : goal.read_register-called-requires
read_register-called-requires c = let s = c.requires.safe in reads_called c.args.function c.args.count s.rest s.safe

pub read_values-requires-clause-safe : goal.read_values-requires-clause-safe
read_values-requires-clause-safe c = let s = c.requires.safe in may_read c.args.function c.args.count s.rest c.read_register-called.result s.safe c.read_register-called.ensures

pub returns : goal.returns
returns c =
    let held = sym c.in_ok-hold.ensures.same in
    record {
      called = c.read_register-called.result;
      is = c.in-Prim.is;
      register = c.read_register-called.ensures;
      values = subst (ReadsValues c.args.world.now (c.args.function + 1) c.args.count) held c.read_values.ensures;
      few = subst (λ vs. length vs ≤ 6) held c.in_ok-hold.ensures.fits;
      left = c.if-budget-eq0.false;
    }
