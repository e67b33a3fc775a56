use Rattle.std.proofs.Common.{rules, ◌≡◌, ◌<◌, length, None, Some, IfSome, sym, ap, subst, ◌∙◌, arith}
use Rattle.lua_pattern.specs.Answer.{first_found}
use Rattle.lua_pattern.specs.Firsts.{IsInside}
use Rattle.library_rows.specs.Searches.{counts}
use Rattle.text_match.specs.Told.{hit_to}
use Rattle.text_match.proofs.Passing.{found_here, passed_to, next_round}
use Rattle.text_match.proofs.hits.first_hit.Goals as goal

pub places-init : goal.places-init
places-init c =
    let passed = c.next_start-place.ensures in (
      omega (arith, passed.within, passed.from, c.requires),
      passed_to c.args.barred c.args.subject.now c.args.items.now c.args.at c.args.left c.next_start-place.result passed.from passed.within passed.passed,
      search rules,
    )

pub returns-in-Some-clause-first : goal.returns-in-Some-clause-first
returns-in-Some-clause-first c =
    let i = c.places.invariant in
    let here : hit_to c.places.place (Some c.in-Some.end) c.counted_end.new.captures.items ≡ counts c.args.barred c.places.place (first_found c.args.subject.now c.args.items.now c.places.place) =
    ap (λ o. hit_to c.places.place o c.counted_end.new.captures.items) (sym c.in-Some.is) ∙ c.in_ok-found.ensures.first in
    sym (i.1 ∙ found_here c.args.barred c.args.subject.now c.args.items.now c.places.place c.places.more _ here)

pub returns-in-Some-clause-inside : goal.returns-in-Some-clause-inside
returns-in-Some-clause-inside c =
    let within = c.places.invariant.0 in
    record {
      starts = omega (arith, within);
      inside = subst (λ o. IfSome o (λ end. IsInside (length c.args.subject.now) c.places.place end c.counted_end.new.captures.items)) c.in-Some.is c.in_ok-found.ensures.inside;
    }

pub places-preserved : goal.places-preserved
places-preserved c =
    let i = c.places.invariant in
    let place = c.places.place in
    let more = c.places.more in
    let next = c.next_start-next.result in
    let some : 0 < more = omega (arith, c.if-more-eq0.false) in
    let none : None ≡ counts c.args.barred place (first_found c.args.subject.now c.args.items.now place) = search rules in
    let passed = c.next_start-next.ensures in (
      omega (arith, i.0, some, passed.within, passed.from),
      next_round c.args.barred c.args.subject.now c.args.items.now c.args.at c.args.left place more next i.1 none some passed.from passed.within passed.passed,
      search rules,
    )
