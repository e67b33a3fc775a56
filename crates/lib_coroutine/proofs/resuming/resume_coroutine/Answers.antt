use Rattle.std.proofs.Common.{rules, ◌≡◌, ◌≤◌, Some, ap, sym, subst, ◌∙◌, length}
use Rattle.std.proofs.lemmas.Result.{on_err_weaker}
use Rattle.int_core.specs.Limits.{greatest_resumes}
use Rattle.lib_coroutine.specs.Resuming.{refusal_of, resumption_of}
use Rattle.lib_coroutine.proofs.Resumes.{begins_is, goes_on_is, same_reads}
use Rattle.lib_coroutine.proofs.Sound.{coroutine_there}
use Rattle.lib_coroutine.proofs.resuming.resume_coroutine.Goals as goal

pub get-requires : goal.get-requires
get-requires c = coroutine_there c.requires.sound c.args.co c.requires.first

pub begin-requires : goal.begin-requires
begin-requires c =
    let n : c.len.result ≡ length c.args.world.now.chain.items = search rules in
    record {
      sound = c.requires.sound;
      running = c.requires.running;
      first = c.requires.first;
      fresh = c.get.ensures ∙ ap (λ c. Some c) (begins_is c.get.result.now c.len.result c.in-Begins.body (sym c.outcome_of.ensures ∙ c.in-Begins.is)).0;
      few = subst (λ n. n ≤ greatest_resumes) n (begins_is c.get.result.now c.len.result c.in-Begins.body (sym c.outcome_of.ensures ∙ c.in-Begins.is)).1;
    }

pub go_on-requires : goal.go_on-requires
go_on-requires c =
    let k = goes_on_is c.get.result.now c.len.result (sym c.outcome_of.ensures ∙ c.in-GoesOn.is) in
    let n : c.len.result ≡ length c.args.world.now.chain.items = search rules in
    record {
      sound = c.requires.sound;
      running = c.requires.running;
      first = c.requires.first;
      suspended = record { stack = k.0; there = c.get.ensures ∙ ap (λ c. Some c) k.1 };
      few = subst (λ n. n ≤ greatest_resumes) n (goes_on_is c.get.result.now c.len.result (sym c.outcome_of.ensures ∙ c.in-GoesOn.is)).2;
    }

pub answer_refusal-requires-clause-refused : goal.answer_refusal-requires-clause-refused
answer_refusal-requires-clause-refused c =
    let n : c.len.result ≡ length c.args.world.now.chain.items = search rules in
    record { coro = c.get.result.now; there = c.get.ensures; is = ap refusal_of (ap (resumption_of c.get.result.now) (sym n) ∙ sym c.outcome_of.ensures ∙ c.in-TooMany.is) }

pub answer_refusal-requires-in-NotSuspended-clause-refused : goal.answer_refusal-requires-in-NotSuspended-clause-refused
answer_refusal-requires-in-NotSuspended-clause-refused c =
    let n : c.len.result ≡ length c.args.world.now.chain.items = search rules in
    record { coro = c.get.result.now; there = c.get.ensures; is = ap refusal_of (ap (resumption_of c.get.result.now) (sym n) ∙ sym c.outcome_of.ensures ∙ c.in-NotSuspended.is) }

pub answer_refusal-requires-in-Dead-clause-refused : goal.answer_refusal-requires-in-Dead-clause-refused
answer_refusal-requires-in-Dead-clause-refused c =
    let n : c.len.result ≡ length c.args.world.now.chain.items = search rules in
    record { coro = c.get.result.now; there = c.get.ensures; is = ap refusal_of (ap (resumption_of c.get.result.now) (sym n) ∙ sym c.outcome_of.ensures ∙ c.in-Dead.is) }

pub returns-in-TooMany-clause-err : goal.returns-in-TooMany-clause-err
returns-in-TooMany-clause-err c = on_err_weaker c.answer_refusal.result same_reads c.answer_refusal.ensures.err

pub returns-in-NotSuspended-clause-err : goal.returns-in-NotSuspended-clause-err
returns-in-NotSuspended-clause-err c = on_err_weaker c.answer_refusal-in-NotSuspended.result same_reads c.answer_refusal-in-NotSuspended.ensures.err

pub returns-in-Dead-clause-err : goal.returns-in-Dead-clause-err
returns-in-Dead-clause-err c = on_err_weaker c.answer_refusal-in-Dead.result same_reads c.answer_refusal-in-Dead.ensures.err
