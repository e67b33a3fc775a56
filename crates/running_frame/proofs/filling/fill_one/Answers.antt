use Rattle.std.proofs.Common.{◌≡◌, ◌+◌, ◌<◌, Some, length, take, rules, true, sym, subst, ◌∙◌}
use Rattle.std.specs.Prelude.{slice_get}
use Rattle.code_core.specs.Instruction.{opcode_of}
use Rattle.lua_stack.specs.Frames.{TopBecomes, with_opened, with_pc, with_registers}
use Rattle.table_core.specs.declared.value.Value.TheVariants.{Table as a_table}
use Rattle.running_frame.specs.Filling.{FillsTable}
use Rattle.running_frame.proofs.FilledOne.{set_list_is}
use Rattle.frame_calls.proofs.Listed.{written_on_top}
use Rattle.frame_calls.proofs.Takers.{both_changes}
use Rattle.running_frame.proofs.filling.fill_one.Goals as goal

pub end_list-requires : goal.end_list-requires
end_list-requires c =
    let yes : c.may_give_up.result ≡ true = search rules in
    record { there = c.may_give_up.ensures.there yes; closed = c.may_give_up.ensures.closed yes }

pub set_pc-requires : goal.set_pc-requires
set_pc-requires c = written_on_top c.requires.top c.end_list.ensures

pub returns-clause-fills : goal.returns-clause-fills
returns-clause-fills c =
    let yes : c.is_short_list.result ≡ true = search rules in
    let short = c.is_short_list.ensures yes in
    let to = c.in_ok-to.ensures in
    record {
      is_list = set_list_is (opcode_of c.args.stop.word) short.0;
      near = sym c.k-far.ensures ∙ c.if-far.false;
      one = short.1;
      registers = c.registers-registers.result.now;
      are = c.registers-registers.ensures;
      id = c.in_ok-id.id;
      table = subst (λ a. slice_get c.registers-registers.result.now a ≡ Some (a_table c.in_ok-id.id)) c.a-register.ensures c.in_ok-id.ensures;
      item = c.in_ok-item.item;
      given = subst (λ a. slice_get c.registers-registers.result.now (a + 1) ≡ Some c.in_ok-item.item) c.a-register.ensures c.in_ok-item.ensures;
      fills = subst (λ n. FillsTable c.args.tables.now.objects c.fill_behind.new.tables.objects c.in_ok-id.id n c.in_ok-item.item) c.c.ensures c.in_ok-fill_behind.ensures.fills;
      within = subst (λ n. n < length c.args.stop.words.now) to.0 to.1;
      becomes =
          subst (λ n. TopBecomes c.args.stack.now c.set_pc.new.self (λ f t. with_pc n (with_opened 0 (with_registers (take c.args.stop.size t.own.registers) t)))) to.0
          (both_changes c.end_list.ensures c.set_pc.ensures);
    }

pub returns-clause-listed : goal.returns-clause-listed
returns-clause-listed c = c.set_pc.ensures.cells ∙ c.end_list.ensures.cells
