use Rattle.std.proofs.Common.{◌≡◌, true, sym, ◌∙◌, arith, true≢false, nat_eq}
use Rattle.std.proofs.lemmas.Bool.Decides.{nat_tests}
use Rattle.table_core.proofs.rows.goes_on.Goals as goal

pub returns-clause-next : goal.returns-clause-next
returns-clause-next c = λ yes.
    let same : c.place_of.result ≡ c.args.numbered = grind (arith, nat_tests) in
    (c.place_of.ensures c.args.numbered c.requires).0 same

pub returns-clause-other : goal.returns-clause-other
returns-clause-other c = λ no none e.
    let same : c.place_of.result ≡ c.args.numbered = (c.place_of.ensures c.args.numbered c.requires).1 e in
    let yes : nat_eq c.place_of.result c.args.numbered ≡ true = grind (arith, nat_tests) in
    true≢false (sym yes ∙ no)
