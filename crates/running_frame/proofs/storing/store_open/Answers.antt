use Rattle.std.proofs.Common.{◌≡◌, ◌<◌, ap, length, subst, sym, ◌∙◌, rules, true}
use Rattle.std.specs.Prelude.{slice_get}
use Rattle.code_core.specs.Instruction.{b_of, opcode_of}
use Rattle.running_frame.specs.Storing.{StandsBelow}
use Rattle.running_frame.proofs.Stored.{open_still, store_is, stored_below}
use Rattle.running_frame.proofs.storing.store_open.Goals as goal

pub set_register_at-requires : goal.set_register_at-requires
set_register_at-requires c = open_still c.in_ok-variable.variable c.requires.cells c.in_ok-variable.ensures c.set_pc.ensures.cells

pub returns-clause-stores : goal.returns-clause-stores
returns-clause-stores c =
    let yes : c.is_store.result ≡ true = search rules in
    let o = c.in_ok-variable.variable in
    let to = c.in_ok-to.ensures in
    record {
      is_store = store_is (opcode_of c.args.stop.word) (sym c.is_store.ensures ∙ yes);
      registers = c.registers.result.now;
      are = c.registers.ensures;
      value = c.in_ok-value.value;
      given = ap (slice_get c.registers.result.now) (sym c.a.ensures) ∙ sym c.in_ok-value.ensures;
      variable = o;
      stands = subst (λ n. StandsBelow c.args.co.0 c.args.upvalues.now n c.args.cells.now.objects (b_of c.args.stop.word) o) c.len.ensures (subst (λ n. StandsBelow c.args.co.0 c.args.upvalues.now c.len.result c.args.cells.now.objects n o) c.b.ensures c.in_ok-variable.ensures);
      within = subst (λ n. n < length c.args.stop.words.now) to.0 to.1;
      becomes = stored_below c.args.stop.pc o c.in_ok-value.value to.0 c.set_pc.ensures c.set_register_at.ensures;
    }

pub returns-clause-listed : goal.returns-clause-listed
returns-clause-listed c = c.set_register_at.ensures.cells ∙ c.set_pc.ensures.cells
