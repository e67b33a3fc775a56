use Rattle.std.proofs.Common.{rules, ap, refl, subst, sym, ◌∙◌}
use Rattle.lua_heap.specs.declared.world.World.{World as Memory}
use Rattle.lua_heap.specs.Changes.{Interns}
use Rattle.move_laws.specs.Memory.{IsSound, ReadsSame}
use Rattle.machine_operations.proofs.Concats.{sound_same}
use Rattle.machine_operations.proofs.Wholes.{whole_joined}
use Rattle.machine_operations.proofs.whole_texts.join_whole.Goals as goal

pub returns-clause-joins : goal.returns-clause-joins
returns-clause-joins c =
    let i : Interns c.args.world.now c.intern_new.new.self c.args.text.now = search rules in
    whole_joined c.args.world.now c.intern_new.new.self c.args.first c.args.count c.args.last c.args.text.now c.in_ok-id.id c.requires.frame c.requires.whole (sound_same c.requires.sound i).0 c.in_ok-id.ensures.named

pub returns-clause-same : goal.returns-clause-same
returns-clause-same c = let i : Interns c.args.world.now c.intern_new.new.self c.args.text.now = search rules in (sound_same c.requires.sound i).0

pub returns-clause-sound : goal.returns-clause-sound
returns-clause-sound c = let i : Interns c.args.world.now c.intern_new.new.self c.args.text.now = search rules in (sound_same c.requires.sound i).1

pub returns-clause-rest : goal.returns-clause-rest
returns-clause-rest c = let i : Interns c.args.world.now c.intern_new.new.self c.args.text.now = search rules in i.rest

pub returns-in_err-id-clause-same : goal.returns-in_err-id-clause-same
returns-in_err-id-clause-same c = subst (ReadsSame c.args.world.now) (sym c.in_err-id.ensures.err) (record { is = λ fuel. refl })

pub returns-in_err-id-clause-sound : goal.returns-in_err-id-clause-sound
returns-in_err-id-clause-sound c = subst IsSound (sym c.in_err-id.ensures.err) c.requires.sound

pub returns-in_err-id-clause-rest : goal.returns-in_err-id-clause-rest
returns-in_err-id-clause-rest c = c.in_err-id.ensures.err ∙ ap (λ (V : Memory). record c.args.world.now { strings = V.strings }) (sym c.in_err-id.ensures.err)
