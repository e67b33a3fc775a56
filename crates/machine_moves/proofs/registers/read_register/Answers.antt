use Rattle.std.proofs.Common.{◌≡◌, [], ◌∷◌, Some, refl, ap, ◌∙◌}
use Rattle.std.specs.Prelude.{slice_get}
use Rattle.int_core.specs.Value.{shape}
use Rattle.lua_heap.specs.Reading.{value as meant}
use Rattle.machine_core.specs.Text.{read_register as reads}
use Rattle.move_laws.proofs.Running.{has_stack, registers_there, own_read, of_top, nth_is}
use Rattle.machine_moves.proofs.Stacks.{less}
use Rattle.machine_moves.proofs.registers.read_register.Goals as goal

pub running_stack-requires : goal.running_stack-requires
running_stack-requires c = has_stack c.args.world.now c.requires.place c.requires.is

pub get-requires : goal.get-requires
get-requires c = registers_there c.args.world.now c.running_stack.ensures.co c.running_stack.result.now c.requires.place _ c.running_stack.ensures.runs c.requires.is (less _ _ c.requires.fits)

pub returns : goal.returns
returns c = λ env.
    let p = c.requires.place in
    let W = c.args.world.now in
    let v = meant W.strings c.get.result in
    let is : Rattle.int_core.specs.Value.nth p.top.own.registers c.args.register ≡ v =
    nth_is p.top.own.registers c.args.register v (of_top W c.running_stack.ensures.co c.running_stack.result.now p (λ f t. slice_get t.own.registers c.args.register ≡ Some (f c.get.result)) c.running_stack.ensures.runs c.requires.is c.get.ensures) in
    record {
      is = λ fuel.
          own_read (Rattle.lua_heap.specs.Plain.plain W fuel) p (reads c.args.register) env c.requires.is c.requires.fits refl refl
          ∙ ap (λ v. Rattle.machine_core.specs.Moves.made (Rattle.lua_heap.specs.Plain.plain W fuel) (v ∷ []) (shape v)) is;
    }
