use Rattle.std.proofs.Common.{rules, ◌≡◌, [], ◌∷◌, ap, ◌∙◌}
use Rattle.std.specs.Prelude.{map}
use Rattle.int_core.specs.Value.{a_function, object}
use Rattle.table_core.specs.declared.value.Value.TheVariants.{Func}
use Rattle.lua_heap.specs.Reading.{value}
use Rattle.move_laws.specs.Memory.{HasStack}
use Rattle.machine_loads.proofs.Loaded.{hands, runs_given, runs_on}
use Rattle.machine_loads.proofs.giving.give_function.Goals as goal

pub hand_over-requires : goal.hand_over-requires
hand_over-requires c =
    let running : HasStack c.make_function.new.world = runs_on c.requires.running c.in_ok-function.ensures.made in
    runs_given c.give_values.ensures.rest running

pub returns-clause-gives : goal.returns-clause-gives
returns-clause-gives c =
    let M = c.make_function.new.world in
    let one : c.push_reserved.new.self.items ≡ Func c.in_ok-function.function ∷ [] = search rules in
    hands M c.in_ok-function.ensures.made.plain (map (value M.strings) c.push_reserved.new.self.items)
    (ap (map (value M.strings)) one ∙ ap (λ n. object a_function n ∷ []) c.in_ok-function.ensures.made.number) c.give_values.ensures.more c.hand_over.ensures
