use Rattle.std.proofs.Common.{ap, ◌∙◌, length}
use Rattle.lua_heap.specs.declared.world.World.{World as Memory}
use Rattle.machine_moves.specs.Ending.{ending_of}
use Rattle.machine_errors.proofs.Texts.{texts_read_same, texts_in_order}
use Rattle.machine_operations.proofs.Ended.{fails_so}
use Rattle.machine_operations.proofs.Written.{copy_same, leave_same}
use Rattle.machine_operations.proofs.operating.fail.Goals as goal

pub copy_first-requires : goal.copy_first-requires
copy_first-requires c =
    record {
      order = texts_in_order c.requires.sound.order c.in_ok-error.ensures.added;
      whole = leave_same (texts_read_same c.requires.sound c.in_ok-error.ensures.added) c.requires.whole;
      there = copy_same c.args.also (texts_read_same c.requires.sound c.in_ok-error.ensures.added) c.requires.copy;
    }

pub begin_leaving_with-requires-clause-one : goal.begin_leaving_with-requires-clause-one
begin_leaving_with-requires-clause-one c = ap length c.in_ok-error.ensures.blamed.one

pub returns-clause-fails : goal.returns-clause-fails
returns-clause-fails c =
    fails_so c.requires.sound c.in_ok-error.ensures.added c.copy_first.ensures.copies (ap (λ (W : Memory). W.strings) c.copy_first.ensures.rest) c.in_ok-error.ensures.blamed
    c.args.fault c.begin_leaving_with.new.world (ending_of c.begin_leaving_with.result) c.requires.held (c.deref.ensures.value ∙ c.in_ok-text.ensures c.args.world.now.strings) c.begin_leaving_with.ensures.leads
