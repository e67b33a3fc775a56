use Rattle.std.proofs.Common.{◌∙◌, ap, arith, refl, subst}
use Rattle.std.specs.Prelude.{slice_set}
use Rattle.code_core.specs.Instruction.{a_of}
use Rattle.machine_view.proofs.Places.{next_there, register_there}
use Rattle.machine_loop.specs.Knowing.{Remembers}
use Rattle.machine_loop.proofs.memo.read_value.Goals as goal

pub set_register-requires : goal.set_register-requires
set_register-requires c =
    let l = register_there c.requires 0 (a_of c.args.i) refl in
    let e = c.a.ensures in
    omega (arith, l, e)

pub next-requires : goal.next-requires
next-requires c = next_there c.requires refl

pub returns-clause-reads : goal.returns-clause-reads
returns-clause-reads c =
    let v = c.in_ok-v.v in
    record {
      given = v;
      known = subst (λ n. Remembers c.args.memo.now n v) c.b.ensures c.in_ok-v.ensures;
      written = c.set_register.ensures ∙ ap (λ a. slice_set c.args.registers.now a v) c.a.ensures;
      next = c.next.ensures;
    }
