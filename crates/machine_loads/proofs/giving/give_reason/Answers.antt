use Rattle.std.proofs.Common.{rules, ◌≡◌, [], ◌∷◌, ap, ◌∙◌}
use Rattle.std.specs.Prelude.{map}
use Rattle.int_core.specs.Value.{known, nil}
use Rattle.table_core.specs.declared.value.Value.TheVariants.{Nil}
use Rattle.lua_heap.specs.Reading.{value}
use Rattle.move_laws.specs.Memory.{HasStack, ReadsSame}
use Rattle.machine_loads.proofs.Loaded.{hands, itself, reads_same, runs_given, runs_same}
use Rattle.machine_loads.proofs.giving.give_reason.Goals as goal

pub hand_over-requires : goal.hand_over-requires
hand_over-requires c =
    let same : ReadsSame c.args.world.now c.limited.new.self = reads_same c.requires.sound (itself c.args.world.now) c.in_ok-text.ensures.added.plain in
    let running : HasStack c.limited.new.self = runs_same c.requires.running same in
    runs_given c.give_values.ensures.rest running

pub returns-clause-gives : goal.returns-clause-gives
returns-clause-gives c =
    let W = c.args.world.now in
    let M = c.limited.new.self in
    let same : ReadsSame W M = reads_same c.requires.sound (itself W) c.in_ok-text.ensures.added.plain in
    let both : c.push_reserved-2.new.self.items ≡ Nil ∷ c.in_ok-text.text ∷ [] = search rules in
    hands M same.is (map (value M.strings) c.push_reserved-2.new.self.items) (ap (map (value M.strings)) both ∙ ap (λ v. known nil ∷ v ∷ []) c.in_ok-text.ensures.value) c.give_values.ensures.more c.hand_over.ensures
