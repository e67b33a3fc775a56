use Rattle.std.proofs.Common.{◌≡◌, Some, ap, sym, ◌∙◌, rules, true}
use Rattle.std.proofs.lemmas.Option.{IfSome_then}
use Rattle.code_core.specs.Instruction.{b_of, opcode_of}
use Rattle.frame_calls.proofs.Calls.{said_counts}
use Rattle.frame_calls.proofs.crossing.return_one.Goals as goal

pub return_single-requires-clause-closed : goal.return_single-requires-clause-closed
return_single-requires-clause-closed c =
    let yes : c.is_bare.result ≡ true = search rules in
    c.is_bare.ensures yes

pub returns-then-count-eq1-clause-returns : goal.returns-then-count-eq1-clause-returns
returns-then-count-eq1-clause-returns c =
    let one : c.in_ok-count.count ≡ 1 = search rules in
    let is = said_counts (opcode_of c.args.stop.word) (b_of c.args.stop.word) 1 (sym c.in_ok-count.ensures ∙ ap (λ n. Some n) one) in
    IfSome_then c.return_single.result c.return_single.ensures.gives (λ o x. record { count = 1; is = is; gives_back = x })

pub return_counted-requires-clause-closed : goal.return_counted-requires-clause-closed
return_counted-requires-clause-closed c =
    let yes : c.is_bare.result ≡ true = search rules in
    c.is_bare.ensures yes

pub returns-clause-returns : goal.returns-clause-returns
returns-clause-returns c =
    let is = said_counts (opcode_of c.args.stop.word) (b_of c.args.stop.word) c.in_ok-count.count (sym c.in_ok-count.ensures) in
    IfSome_then c.return_counted.result c.return_counted.ensures.gives (λ o x. record { count = c.in_ok-count.count; is = is; gives_back = x })
