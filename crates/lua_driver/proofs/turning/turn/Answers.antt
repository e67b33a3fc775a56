use Rattle.std.proofs.Common.{rules, ◌≡◌, [], refl}
use Rattle.lua_heap.specs.declared.world.World.{World as Memory}
use Rattle.machine_moves.specs.Ending.{ending_of}
use Rattle.loaded_code.specs.Laws.{load_by, library}
use Rattle.source_builds.proofs.Knowing.{read_map}
use Rattle.source_builds.proofs.Lookups.{read_some}
use Rattle.lua_driver.proofs.Turned.{quiet_may, ready_by, sound_of, turned, waits_again}
use Rattle.lua_driver.proofs.turning.turn.Goals as goal

pub resume_main-requires : goal.resume_main-requires
resume_main-requires c =
    let W : Memory = c.args.world.now in
    let quiet : Memory = record W { printed = c.clear.new.self } in
    let none : quiet.printed.items ≡ [] = search rules in
    let q = quiet_may W quiet c.requires refl none in
    record { sound = sound_of quiet q; may = q.may }

pub run-requires : goal.run-requires
run-requires c =
    let W : Memory = c.args.world.now in
    let quiet : Memory = record W { printed = c.clear.new.self } in
    let none : quiet.printed.items ≡ [] = search rules in
    record { ready = ready_by c.turns_do_not_trap.ensures.wakes quiet c.resume_main.new.world (ending_of c.in_ok-begun.begun) (quiet_may W quiet c.requires refl none) c.in_ok-begun.ensures.resumes c.resume_main.ensures.order }

pub returns-clause-turns : goal.returns-clause-turns
returns-clause-turns c =
    let W : Memory = c.args.world.now in
    let quiet : Memory = record W { printed = c.clear.new.self } in
    let none : quiet.printed.items ≡ [] = search rules in
    read_map (λ builds are r. turned (library builds) W quiet c.resume_main.new.world c.run.new.world c.args.budget c.run.new.budget (ending_of c.in_ok-begun.begun) (ending_of c.in_ok-ended.ended) refl none c.in_ok-begun.ensures.resumes r) c.in_ok-ended.ensures.reaches

pub returns-clause-sound : goal.returns-clause-sound
returns-clause-sound c = c.in_ok-ended.ensures.ready.after.sound

pub returns-clause-waits : goal.returns-clause-waits
returns-clause-waits c =
    let some = read_some (returns-clause-turns c) in
    waits_again c.yields_leave_main_waiting.ensures (load_by some.0) (c.loading_is_safe.ensures.silent some.0) (c.loading_is_safe.ensures.safe some.0 some.1) c.args.world.now c.run.new.world c.args.budget (ending_of c.in_ok-ended.ended) c.requires some.2
