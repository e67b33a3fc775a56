use Rattle.std.proofs.Common.{◌+◌, ◌≤◌, length, refl, subst, ◌∙◌, arith, rules}
use Rattle.table_core.specs.declared.value.Value.TheVariants.{Nil}
use Rattle.frame_calls.specs.Returning.{IsGiven}
use Rattle.frame_calls.proofs.Takers.{both, caller_kept, frames_there, given_one}
use Rattle.frame_calls.proofs.returning.return_single.Goals as goal

pub pop-requires : goal.pop-requires
pop-requires c = record { there = frames_there c.requires.may.top; closed = λ f below t e. c.requires.closed.none }

pub give-requires : goal.give-requires
give-requires c = record { one = c.wants_one-one.ensures c.if-not-one.false; room = caller_kept _ c.in_ok-taker.ensures.calls c.pop.ensures.frames c.in_ok-taker.ensures.takes.takes.room }

pub returns-clause-gives : goal.returns-clause-gives
returns-clause-gives c =
    let room : c.a-register.result + 1 ≤ length c.registers-registers.result.now = search (rules, arith) in
    record {
      closed = c.requires.closed;
      taker = c.in_ok-taker.taker;
      below = c.in_ok-taker.ensures;
      back = record {
        registers = c.registers-registers.result.now;
        are = c.registers-registers.ensures;
        given = both c.value_in-value.result Nil;
        gives = subst (λ a. IsGiven c.registers-registers.result.now a 1 (both c.value_in-value.result Nil)) c.a-register.ensures (given_one c.registers-registers.result.now c.a-register.result 1 c.value_in-value.result refl room c.value_in-value.ensures);
        popped = c.pop.new.self;
        pops = c.pop.ensures.frames;
        hands = c.give.ensures;
        listed = c.give.ensures.cells ∙ c.pop.ensures.cells;
      };
    }
