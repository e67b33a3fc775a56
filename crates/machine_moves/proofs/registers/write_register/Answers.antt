use Rattle.std.proofs.Common.{refl, ap}
use Rattle.int_core.specs.Value.{Value as Meant, write}
use Rattle.machine_core.specs.Text.{write_register as writes}
use Rattle.lua_stack.specs.Frames.{with_registers}
use Rattle.move_laws.proofs.Running.{has_stack}
use Rattle.machine_moves.proofs.Stacks.{less}
use Rattle.machine_moves.proofs.OnRunning.{own_on, registers_on, stays_on}
use Rattle.machine_moves.proofs.registers.write_register.Goals as goal

pub running_stack_mut-requires : goal.running_stack_mut-requires
running_stack_mut-requires c = has_stack c.args.world.now c.requires.place c.requires.is

pub set-requires : goal.set-requires
set-requires c = registers_on c.running_stack_mut.ensures.runs c.requires.place _ c.requires.is (less _ _ c.requires.fits)

pub returns-clause-makes : goal.returns-clause-makes
returns-clause-makes c = λ env x e.
    let top = c.requires.place.top in
    own_on c.running_stack_mut.ensures.runs c.requires.place (writes c.args.register x) env c.requires.is c.requires.fits c.set.ensures (λ co frame cells. refl)
    (ap (λ (u : Meant). with_registers (write c.args.register u top.own.registers) top) e)

pub returns-clause-stays : goal.returns-clause-stays
returns-clause-stays c = stays_on c.running_stack_mut.ensures.runs c.set.ensures (λ u. refl) (λ u. refl)
