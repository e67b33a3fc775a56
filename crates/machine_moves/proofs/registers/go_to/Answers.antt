use Rattle.std.proofs.Common.{subst}
use Rattle.std.specs.Prelude.{IsSome}
use Rattle.code_core.specs.Check.{at}
use Rattle.machine_core.specs.World.{Place}
use Rattle.machine_sound.proofs.Lists.{some_is}
use Rattle.move_laws.proofs.Running.{has_stack, pc_made}
use Rattle.machine_moves.proofs.OnRunning.{changes_on, listed_on, top_on}
use Rattle.machine_moves.proofs.registers.go_to.Goals as goal

pub running_stack_mut-requires : goal.running_stack_mut-requires
running_stack_mut-requires c = has_stack c.args.world.now c.requires.place c.requires.is

pub set_pc-requires : goal.set_pc-requires
set_pc-requires c = top_on c.running_stack_mut.ensures.runs c.requires.place c.requires.is

pub returns-clause-makes : goal.returns-clause-makes
returns-clause-makes c = record {
  makes = λ place e z f env.
      pc_made c.args.world.now _ c.running_stack_mut.ensures.runs.co c.running_stack_mut.result.now c.set_pc.new.self place c.args.pc z env c.running_stack_mut.ensures.runs.runs e f
      (subst (λ (p : Place). IsSome (at p.function.code c.args.pc)) (some_is c.requires.is e) c.requires.there)
      (changes_on c.running_stack_mut.ensures.runs c.set_pc.new.self) c.set_pc.ensures;
}

pub returns-clause-listed : goal.returns-clause-listed
returns-clause-listed c = listed_on c.running_stack_mut.ensures.runs c.set_pc.new.self c.set_pc.ensures.cells
