use Rattle.std.proofs.Common.{rules, ◌≡◌, [], ◌∷◌, ap, ◌∙◌}
use Rattle.std.specs.Prelude.{map}
use Rattle.table_core.specs.declared.value.Value.TheVariants.{Str}
use Rattle.lua_heap.specs.Plain.{plain}
use Rattle.lua_heap.specs.Reading.{value}
use Rattle.lua_session.proofs.Handed.{handed_so, interned_order, still_sound, still_waits, with_moving}
use Rattle.lua_session.proofs.handing.hand_line.Goals as goal

pub returns-clause-handed : goal.returns-clause-handed
returns-clause-handed c = λ fuel.
    let M = c.intern.new.self in
    let text : c.push_reserved.new.self.items ≡ Str c.in_ok-text.text ∷ [] = search rules in
    ap (λ vs. with_moving (plain M fuel) (map (value M.strings) vs)) text
    ∙ handed_so c.args.world.now M c.in_ok-text.text c.args.line.now c.requires.sound c.in_ok-text.ensures.interned c.in_ok-text.ensures.named fuel

pub returns-clause-sound : goal.returns-clause-sound
returns-clause-sound c = still_sound c.args.world.now _ c.args.line.now c.sessions_are_sound.ensures.handed c.requires.may c.requires.short (returns-clause-handed c 0)

pub returns-clause-may : goal.returns-clause-may
returns-clause-may c = still_waits c.args.world.now _ c.args.line.now c.sessions_are_sound.ensures.goes_on c.requires.may (returns-clause-handed c 0)

pub returns-clause-order : goal.returns-clause-order
returns-clause-order c =
    let o = interned_order c.requires.sound.order c.in_ok-text.ensures.interned in
    record { codes = o.codes; listed = o.listed }
