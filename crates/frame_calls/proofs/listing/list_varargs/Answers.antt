use Rattle.std.proofs.Common.{◌≡◌, ◌<◌, length, rules, arith, true, subst}
use Rattle.int_core.specs.Value.{write_all}
use Rattle.lua_stack.specs.Frames.{TopBecomes, with_opened, with_registers}
use Rattle.frame_calls.proofs.Calls.{has_registers}
use Rattle.frame_calls.proofs.Listed.{goes_behind, list_is, written_on_top}
use Rattle.frame_calls.proofs.listing.list_varargs.Goals as goal

pub write_varargs-requires : goal.write_varargs-requires
write_varargs-requires c =
    let room : c.a-register.result < length c.registers.result.now = search (rules, arith) in
    has_registers c.registers.result.now c.requires.top c.registers.ensures (omega (arith, room))

pub set_pc-requires : goal.set_pc-requires
set_pc-requires c =
    let b : TopBecomes c.args.stack.now c.write_varargs.new.self (λ f t. with_opened (length t.own.varargs) (with_registers (write_all c.a-register.result t.own.varargs t.own.registers) t)) = search rules in
    written_on_top c.requires.top b

pub returns-in-Ok-clause-lists : goal.returns-in-Ok-clause-lists
returns-in-Ok-clause-lists c =
    let yes : c.is_list.result ≡ true = search rules in
    let list = c.is_list.ensures yes in
    let to = c.in_ok-to.ensures in
    let room : c.a-register.result < length c.registers.result.now = search (rules, arith) in
    let b : TopBecomes c.args.stack.now c.write_varargs.new.self (λ f t. with_opened (length t.own.varargs) (with_registers (write_all c.a-register.result t.own.varargs t.own.registers) t)) = search rules in
    record {
      is_vararg = list_is _ list.0;
      all = list.1;
      registers = c.registers.result.now;
      are = c.registers.ensures;
      room = subst (λ a. a < length c.registers.result.now) c.a-register.ensures room;
      within = subst (λ n. n < length c.args.words.now) to.0 to.1;
      becomes = goes_behind c.args.pc c.a-register.ensures to.0 b c.set_pc.ensures;
    }
