use Rattle.std.proofs.Common.{ℕ, List, length, refl, ap, ◌∙◌}
use Rattle.std.specs.Prelude.{map}
use Rattle.std.proofs.lemmas.List.{length-map}
use Rattle.int_core.specs.Value.{Value as Meant, write_all}
use Rattle.lua_heap.specs.Reading.{value as meant}
use Rattle.machine_core.specs.World.{LuaFrame}
use Rattle.machine_core.specs.Text.{write_list}
use Rattle.lua_stack.specs.Frames.{with_opened, with_registers}
use Rattle.move_laws.proofs.Running.{has_stack}
use Rattle.machine_moves.proofs.OnTop.{on_ok, on_err}
use Rattle.machine_moves.proofs.Stacks.{less}
use Rattle.machine_moves.proofs.OnRunning.{kept_on, listed_on, own_on, registers_on, stands_on}
use Rattle.machine_moves.proofs.lists.write_list.Goals as goal

pub running_stack_mut-requires : goal.running_stack_mut-requires
running_stack_mut-requires c = has_stack c.args.world.now c.requires.place c.requires.is

pub write_list-requires : goal.write_list-requires
write_list-requires c = registers_on c.running_stack_mut.ensures.runs c.requires.place _ c.requires.is (less _ _ c.requires.fits)

abbrev list_put : ℕ → LuaFrame → ℕ → List Meant → LuaFrame
list_put at t count values = with_opened count (with_registers (write_all at values t.own.registers) t)

pub returns-clause-makes : goal.returns-clause-makes
returns-clause-makes c =
    let p = c.requires.place in
    on_ok c.write_list.result c.write_list.ensures.ok (λ becomes env slot e.
    own_on c.running_stack_mut.ensures.runs p (write_list c.args.at slot) env c.requires.is c.requires.fits becomes (λ co frame cells. refl)
    (ap (λ vs. list_put c.args.at p.top (length vs) vs) e ∙ ap (λ n. list_put c.args.at p.top n (map (meant c.args.world.now.strings) c.args.values.now)) (length-map c.args.values.now (meant c.args.world.now.strings))))

pub returns-clause-at : goal.returns-clause-at
returns-clause-at c = on_ok c.write_list.result c.write_list.ensures.ok (λ becomes. stands_on c.running_stack_mut.ensures.runs becomes (λ u. refl) (λ u. refl))

pub returns-clause-err : goal.returns-clause-err
returns-clause-err c = on_err c.write_list.result c.write_list.ensures.err (λ e. kept_on c.running_stack_mut.ensures.runs c.write_list.new.self e)

pub returns-clause-listed : goal.returns-clause-listed
returns-clause-listed c = on_ok c.write_list.result c.write_list.ensures.ok (λ becomes. listed_on c.running_stack_mut.ensures.runs c.write_list.new.self becomes.cells)
