use Rattle.std.proofs.Common.{rules, ◌≡◌, [], ◌∷◌, ap, sym, false}
use Rattle.std.specs.Prelude.{map}
use Rattle.int_core.specs.Value.{a_coroutine, boolean, object}
use Rattle.lua_heap.specs.Reading.{value}
use Rattle.machine_core.specs.FrameRows.{hand_over}
use Rattle.machine_core.specs.MachineStep.{gives_back}
use Rattle.machine_core.specs.Text.{read, written}
use Rattle.table_core.specs.declared.value.Value.TheVariants.{Bool as Boolean, Coro}
use Rattle.move_laws.proofs.Rows.{first}
use Rattle.machine_coroutines.proofs.Handed.{running_on}
use Rattle.lib_coroutine.proofs.functions.running.Goals as goal

pub hand_over-requires : goal.hand_over-requires
hand_over-requires c = running_on c.give_values.ensures.rest c.requires.running

pub returns-clause-leads : goal.returns-clause-leads
returns-clause-leads c =
    let id = c.see_running.result in
    let xs = read 0 ∷ written (boolean false) ∷ [] in
    let answer : c.push_reserved-2.new.self.items ≡ Coro id ∷ Boolean false ∷ [] = search rules in
    first (λ co _. gives_back (read co ∷ written (boolean false) ∷ [])) (c.see_running.ensures [])
    (first (λ _ _. hand_over) (c.give_values.ensures.all (object a_coroutine id.0 ∷ []) xs (sym (ap (map (value c.args.world.now.strings)) answer))) (c.hand_over.ensures (object a_coroutine id.0 ∷ [])))
