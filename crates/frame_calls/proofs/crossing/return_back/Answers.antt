use Rattle.std.proofs.Common.{◌≡◌, refl, subst, sym, true, ◌∙◌, rules}
use Rattle.std.proofs.lemmas.Option.{IfSome_then}
use Rattle.lua_stack.specs.Frames.{KeptStack}
use Rattle.frame_calls.specs.Crossing.{LeavesAt, by_counted_return, by_list_return, by_open_return}
use Rattle.frame_calls.specs.Standing.{IsClosedFrom}
use Rattle.frame_calls.proofs.Takers.{none_so, none_then, some_so, still_may}
use Rattle.frame_calls.proofs.crossing.return_back.Goals as goal

pub return_open-requires : goal.return_open-requires
return_open-requires c =
    let closed : c.is_closed.result ≡ true = search rules in
    let list : c.is_list_return.result ≡ true = search rules in
    record { may = c.requires; closed = c.is_closed.ensures closed; all = c.is_list_return.ensures list }

pub returns-then-is_list_return-clause-returns : goal.returns-then-is_list_return-clause-returns
returns-then-is_list_return-clause-returns c = IfSome_then c.return_open.result c.return_open.ensures.returns (λ o x fuel. by_open_return x refl)

pub return_counted-requires-clause-closed : goal.return_counted-requires-clause-closed
return_counted-requires-clause-closed c =
    let yes : c.is_closed.result ≡ true = search rules in
    c.is_closed.ensures yes

pub returns-in-Some-clause-returns : goal.returns-in-Some-clause-returns
returns-in-Some-clause-returns c =
    let x = some_so c.in-Some.is c.return_counted.ensures.gives in
    λ fuel. by_counted_return (record { count = c.in_ok-count.count; is = sym c.in_ok-count.ensures; gives_back = x }) refl

pub return_list-requires : goal.return_list-requires
return_list-requires c =
    let yes : c.is_closed.result ≡ true = search rules in
    let k = none_so c.in-None.is c.return_counted.ensures.kept in
    record { may = still_may k c.requires; closed = subst (λ (s : KeptStack). IsClosedFrom s 0) (sym k) (c.is_closed.ensures yes); says = sym c.in_ok-count.ensures }

pub returns-in-None-clause-returns : goal.returns-in-None-clause-returns
returns-in-None-clause-returns c =
    let k = none_so c.in-None.is c.return_counted.ensures.kept in
    IfSome_then c.return_list.result c.return_list.ensures.returns (λ o x. subst (λ (s : KeptStack). LeavesAt s c.return_list.new.stack c.args.stop) k (λ fuel. by_list_return x refl))

pub returns-in-None-clause-kept : goal.returns-in-None-clause-kept
returns-in-None-clause-kept c = none_then c.return_list.result (λ (e : c.return_list.new.stack ≡ c.return_counted.new.stack). e ∙ none_so c.in-None.is c.return_counted.ensures.kept) c.return_list.ensures.kept

pub returns-in-None-clause-listed : goal.returns-in-None-clause-listed
returns-in-None-clause-listed c = c.return_list.ensures.listed ∙ c.return_counted.ensures.listed
