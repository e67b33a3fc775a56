use Rattle.std.proofs.Common.{◌+◌, subst}
use Rattle.table_core.specs.declared.value.Value.TheVariants.{Nil}
use Rattle.lua_stack.specs.Frames.{HasRegisters, TopBecomes}
use Rattle.frame_calls.proofs.Takers.{both, both_changes, one_put, puts, registers_kept, top_after}
use Rattle.frame_calls.proofs.returning.give.Goals as goal

pub set-requires : goal.set-requires
set-requires c = subst (λ n. HasRegisters c.args.stack.now (c.args.wants.register + n)) c.requires.one (registers_kept c.requires.room)

pub set_wait-requires : goal.set_wait-requires
set_wait-requires c =
    let given : TopBecomes c.args.stack.now c.set.new.self (λ f t. puts c.args.wants.register (both c.args.value Nil) c.args.wants.count f t) =
    one_put c.args.wants.count c.args.wants.register (both c.args.value Nil) c.requires.one c.set.ensures in
    top_after c.requires.room given

pub set_pc-requires : goal.set_pc-requires
set_pc-requires c =
    let given : TopBecomes c.args.stack.now c.set.new.self (λ f t. puts c.args.wants.register (both c.args.value Nil) c.args.wants.count f t) =
    one_put c.args.wants.count c.args.wants.register (both c.args.value Nil) c.requires.one c.set.ensures in
    top_after c.requires.room (both_changes given c.set_wait.ensures)

pub returns : goal.returns
returns c =
    let given : TopBecomes c.args.stack.now c.set.new.self (λ f t. puts c.args.wants.register (both c.args.value Nil) c.args.wants.count f t) =
    one_put c.args.wants.count c.args.wants.register (both c.args.value Nil) c.requires.one c.set.ensures in
    both_changes (both_changes given c.set_wait.ensures) c.set_pc.ensures
