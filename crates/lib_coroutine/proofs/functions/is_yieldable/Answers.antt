use Rattle.std.proofs.Common.{rules, ◌≡◌, [], ◌∷◌, ap, sym, true}
use Rattle.std.specs.Prelude.{map}
use Rattle.int_core.specs.Value.{boolean}
use Rattle.lua_heap.specs.Reading.{value}
use Rattle.machine_core.specs.FrameRows.{hand_over}
use Rattle.machine_core.specs.Text.{written}
use Rattle.table_core.specs.declared.value.Value.TheVariants.{Bool as Boolean}
use Rattle.move_laws.proofs.Rows.{first}
use Rattle.machine_coroutines.proofs.Handed.{running_on}
use Rattle.lib_coroutine.proofs.functions.is_yieldable.Goals as goal

pub hand_over-requires : goal.hand_over-requires
hand_over-requires c = running_on c.give_values.ensures.rest c.requires.running

pub returns-clause-leads : goal.returns-clause-leads
returns-clause-leads c =
    let answer : c.push_reserved.new.self.items ≡ Boolean true ∷ [] = search rules in
    first (λ _ _. hand_over) (c.give_values.ensures.all [] (written (boolean true) ∷ []) (sym (ap (map (value c.args.world.now.strings)) answer))) (c.hand_over.ensures [])
