use Rattle.std.proofs.Common.{◌+◌, [], ◌∷◌, refl}
use Rattle.machine_core.specs.Text.{read_register}
use Rattle.machine_core.specs.InstructionRows.{integer_of_shape}
use Rattle.machine_core.specs.FrameRows.{expand}
use Rattle.int_core.specs.Value.{shape}
use Rattle.lua_heap.specs.Reading.{value as meant}
use Rattle.move_laws.proofs.Rows.{can_do, safe_after}
use Rattle.machine_loops.proofs.Rounds.{loop_read, second_of, third_of}
use Rattle.machine_loops.proofs.numeric.loop_values.Goals as goal

pub read_register-first-requires : goal.read_register-first-requires
read_register-first-requires c = can_do (read_register c.args.base) (λ _ s. expand (second_of c.args.base c.requires.safe.more (integer_of_shape s))) c.requires.safe.safe

pub read_register-second-requires : goal.read_register-second-requires
read_register-second-requires c =
    let i = integer_of_shape (shape (meant c.args.world.now.strings c.read_register-first.result)) in
    let s = safe_after (λ _ s. expand (second_of c.args.base c.requires.safe.more (integer_of_shape s))) c.requires.safe.safe (c.read_register-first.ensures []) in
    can_do (read_register (c.args.base + 1)) (λ _ s. expand (third_of c.args.base c.requires.safe.more i (integer_of_shape s))) s

pub read_register-third-requires : goal.read_register-third-requires
read_register-third-requires c =
    let i = integer_of_shape (shape (meant c.args.world.now.strings c.read_register-first.result)) in
    let l = integer_of_shape (shape (meant c.args.world.now.strings c.read_register-second.result)) in
    let s = safe_after (λ _ s. expand (second_of c.args.base c.requires.safe.more (integer_of_shape s))) c.requires.safe.safe (c.read_register-first.ensures []) in
    let t = safe_after (λ _ s. expand (third_of c.args.base c.requires.safe.more i (integer_of_shape s))) s (c.read_register-second.ensures _) in
    can_do (read_register (c.args.base + 2)) (λ _ s. expand (c.requires.safe.more i l (integer_of_shape s))) t

pub returns : goal.returns
returns c =
    loop_read c.args.world.now c.args.base c.read_register-first.result c.read_register-second.result c.read_register-third.result c.integer.result c.integer-2.result c.integer-3.result
    c.read_register-first.ensures c.read_register-second.ensures c.read_register-third.ensures c.integer.ensures c.integer-2.ensures c.integer-3.ensures
