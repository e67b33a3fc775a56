use Rattle.std.proofs.Common.{ap, refl, sym, subst, ◌∙◌}
use Rattle.lua_heap.specs.Reading.{value}
use Rattle.lua_stack.specs.Frames.{HasLuaTop, KeptStack}
use Rattle.machine_arms_tables.specs.Frame.{code}
use Rattle.frame_calls.specs.Calling.{program_of}
use Rattle.running_frame.specs.Inheriting.{metatable_number}
use Rattle.running_frame.specs.Upvalues.{ListsOpen}
use Rattle.running_frame.proofs.Advanced.{advances_none}
use Rattle.running_frame.proofs.FilledOne.{written_or_not}
use Rattle.running_frame.proofs.OnStack.{place_within}
use Rattle.running_frame.proofs.OpenRead.{lists_open}
use Rattle.running_frame.proofs.crossing.ask_next.Goals as goal

pub fetch-word-requires : goal.fetch-word-requires
fetch-word-requires g c = place_within c.requires.0

pub returns-then-not-may_ask : goal.returns-then-not-may_ask
returns-then-not-may_ask g c = advances_none g.g c.args.stack.now c.args.tables.now.objects c.args.cells.now.objects c.args.budget.now

pub closed_from-closed-requires : goal.closed_from-closed-requires
closed_from-closed-requires g c =
    let m = c.requires.0.may in
    record { value = value g.g.around.texts; below = g.g.around.context.below; top = m.top; is = m.is }

pub write-requires-clause-may : goal.write-requires-clause-may
write-requires-clause-may g c =
    let m = c.requires.0.may in
    record {
      top = subst HasLuaTop (sym c.closed_from-closed.ensures.kept) (record { value = value g.g.around.texts; below = g.g.around.context.below; top = m.top; is = m.is });
      codes = c.requires.1.functions.have;
      closed = c.closed_from-closed.ensures.closed;
    }

pub write-requires-clause-cells : goal.write-requires-clause-cells
write-requires-clause-cells g c =
    subst (λ (s : KeptStack). ListsOpen c.args.around.co.0 s c.args.cells.now.objects) (sym c.closed_from-closed.ensures.kept) (lists_open c.args.around.co.0 c.requires.1.own c.requires.0)

pub returns : goal.returns
returns g c =
    let x = c.requires.1 in
    record {
      reaches =
          written_or_not g.g (code c.args.body.closure c.args.around.strings.now) c.args.stack.now c.args.tables.now.objects c.args.cells.now.objects c.args.budget.now c.args.pc c.requires.0
          c.closed_from-closed.new.stack c.write.new.stack c.write.new.tables.objects (metatable_number c.args.around.string_meta) (program_of c.args.around.functions) c.args.budget.now c.write.new.budget
          c.args.around.co.0 c.args.body.size c.fetch-word.result x.functions c.closed_from-closed.ensures.kept refl x.meta x.own x.wants c.fetch-word.ensures c.write.result c.write.ensures.writes c.write.ensures.kept;
      opened = refl;
      listed = c.write.ensures.listed ∙ ap (λ (s : KeptStack). s.open_cells) c.closed_from-closed.ensures.kept;
    }
