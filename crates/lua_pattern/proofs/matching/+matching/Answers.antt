use Rattle.std.proofs.Common.{rules, set, ◌≡◌, ℕ, ◌+◌, ◌-◌, List, [], length, reverse, drop, Some, None, true, refl, sym, ap, ◌∙◌, subst, inl, inr, arith}
use Rattle.std.specs.Prelude.{slice_get}
use Rattle.std.proofs.lemmas.List.{nil_from_length}
use Rattle.lua_pattern.specs.Ends.{ends}
use Rattle.lua_pattern.specs.Firsts.{IsFirst}
use Rattle.std.specs.List.{range_with_len}
use Rattle.std.specs.Option.{option_map}
use Rattle.lua_pattern.specs.Begins.{rules_out}
use Rattle.lua_pattern.specs.Ways.{Found, is_class_at, run_of, places, plain_end}
use Rattle.lua_pattern.specs.declared.item.Repeat.TheVariants.{Optional, ZeroOrMore, OneOrMore}
use Rattle.lua_pattern.specs.declared.answer.Capture.TheVariants.{Text, Position}
use Rattle.lua_pattern.proofs.Runs.{run_more, run_none, is_there}
use Rattle.lua_pattern.proofs.Starts.{ruled_out}
use Rattle.lua_pattern.proofs.Tries.{retold, from_left, ends-plain_none, ends-open, ends-place, ends-close, repeated_by, longest_found, longest_more, shortest_more, shortest_none, optional_tries, ended-text, ended-position, ended-none, put_back, given_up, inside_later, kept_found}
use Rattle.lua_pattern.proofs.matching.+matching.Goals as goal
use Rattle.lua_pattern.proofs.matching.+matching.Goals.{repeated-then-is_class_at, repeated-else-is_class_at}

pub first_match-returns-in-Repeated-clause-first : goal.first_match-returns-in-Repeated-clause-first
first_match-returns-in-Repeated-clause-first t c =
    let i = c.loop-item.invariant in
    retold c.repeated.result _ (from_left c.args.subject.now c.args.items.now c.loop-item.left.now _ _ _ _ _ _ _ i.4 c.in-Some.ensures.cases.0 c.in-Repeated.is) (sym i.2) c.repeated.ensures.first

pub first_match-returns-in-Open-clause-first : goal.first_match-returns-in-Open-clause-first
first_match-returns-in-Open-clause-first t c =
    let i = c.loop-item.invariant in
    retold c.captured.result _ (from_left c.args.subject.now c.args.items.now c.loop-item.left.now _ _ _ _ _ _ _ i.4 c.in-Some.ensures.cases.0 c.in-Open.is ∙ ends-open c.args.subject.now c.in-Some.rest.now c.loop-item.at c.loop-item.captures.items) (sym i.2) c.captured.ensures.first

pub first_match-returns-in-Place-clause-first : goal.first_match-returns-in-Place-clause-first
first_match-returns-in-Place-clause-first t c =
    let i = c.loop-item.invariant in
    retold c.captured-in-Place.result _ (from_left c.args.subject.now c.args.items.now c.loop-item.left.now _ _ _ _ _ _ _ i.4 c.in-Some.ensures.cases.0 c.in-Place.is ∙ ends-place c.args.subject.now c.in-Some.rest.now c.loop-item.at c.loop-item.captures.items) (sym i.2) c.captured-in-Place.ensures.first

pub first_match-returns-in-Close-clause-first : goal.first_match-returns-in-Close-clause-first
first_match-returns-in-Close-clause-first t c =
    let i = c.loop-item.invariant in
    retold c.closed.result _ (from_left c.args.subject.now c.args.items.now c.loop-item.left.now _ _ _ _ _ _ _ i.4 c.in-Some.ensures.cases.0 c.in-Close.is ∙ ends-close c.args.subject.now c.in-Some.rest.now c.loop-item.at c.loop-item.captures.items c.in-Close.number) (sym i.2) c.closed.ensures.first

pub first_match-returns-in-None-clause-first : goal.first_match-returns-in-None-clause-first
first_match-returns-in-None-clause-first t c =
    let i = c.loop-item.invariant in
    let nowhere : None ≡ plain_end c.args.subject.now c.in-Plain.plain c.loop-item.at c.loop-item.captures.items =
    subst (λ captures. None ≡ plain_end c.args.subject.now c.in-Plain.plain c.loop-item.at captures) c.deref.ensures.value c.in-None.ensures.value in
    (from_left c.args.subject.now c.args.items.now c.loop-item.left.now c.in-Some.rest.now _ _ _ _ _ _ i.4 c.in-Some.ensures.cases.0 c.in-Plain.is ∙ ends-plain_none c.args.subject.now c.in-Some.rest.now c.loop-item.at c.loop-item.captures.items c.in-Plain.plain nowhere, i.2)

pub first_match-returns-clause-first : goal.first_match-returns-clause-first
first_match-returns-clause-first t c =
    let i = c.loop-item.invariant in
    let over : c.loop-item.left.now ≡ [] = nil_from_length _ c.in_default.ensures.cases in
    ap (λ matches. slice_get matches 0) (sym i.4 ∙ ap (λ left. ends c.args.subject.now left c.loop-item.at c.loop-item.captures.items) over)

pub closed-returns-then-is_none-clause-first : goal.closed-returns-then-is_none-clause-first
closed-returns-then-is_none-clause-first t c =
    let captures = c.args.captures.now.items in
    let is : slice_get captures c.args.number ≡ Some (Text c.in-Some-Text.start c.in-Some-Text.end) = sym (c.capture_at.ensures ∙ ap (λ held. slice_get held c.args.number) c.deref.ensures.value) ∙ c.in-Some-Text.is ∙ ap Some c.in-Some-Text.field-0-is in
    given_up c.in_ok-found-in-Some-Text.found (set captures c.args.number (Text c.in-Some-Text.start c.args.at)) c.first_match.new.captures.items
    (ap (ends c.args.subject.now c.args.rest.now c.args.at) (ended-text captures c.args.number _ _ c.args.at is))
    (λ same. ap (λ now. set now c.args.number (Text c.in-Some-Text.start c.in-Some-Text.end)) same ∙ put_back captures c.args.number _ _ is)
    c.if-is_none.ensures c.in_ok-found-in-Some-Text.ensures.first

pub closed-returns-else-is_none-clause-first : goal.closed-returns-else-is_none-clause-first
closed-returns-else-is_none-clause-first t c =
    let captures = c.args.captures.now.items in
    let is : slice_get captures c.args.number ≡ Some (Text c.in-Some-Text.start c.in-Some-Text.end) = sym (c.capture_at.ensures ∙ ap (λ held. slice_get held c.args.number) c.deref.ensures.value) ∙ c.in-Some-Text.is ∙ ap Some c.in-Some-Text.field-0-is in
    kept_found c.in_ok-found-in-Some-Text.found (set captures c.args.number (Text c.in-Some-Text.start c.args.at)) captures c.first_match.new.captures.items
    (ap (ends c.args.subject.now c.args.rest.now c.args.at) (ended-text captures c.args.number _ _ c.args.at is))
    c.if-is_none.ensures c.in_ok-found-in-Some-Text.ensures.first

pub closed-returns-in-Some-Position-clause-first : goal.closed-returns-in-Some-Position-clause-first
closed-returns-in-Some-Position-clause-first t c =
    let captures = c.args.captures.now.items in
    let is : slice_get captures c.args.number ≡ Some (Position c.in-Some-Position.field-0-0) = sym (c.capture_at.ensures ∙ ap (λ held. slice_get held c.args.number) c.deref.ensures.value) ∙ c.in-Some-Position.is ∙ ap Some c.in-Some-Position.field-0-is in
    retold c.first_match-in-Some-Position.result _ (ap (ends c.args.subject.now c.args.rest.now c.args.at) (ended-position captures c.args.number _ c.args.at is)) refl c.first_match-in-Some-Position.ensures.first

pub closed-returns-in-None-clause-first : goal.closed-returns-in-None-clause-first
closed-returns-in-None-clause-first t c =
    let captures = c.args.captures.now.items in
    let is : slice_get captures c.args.number ≡ None = sym (c.capture_at.ensures ∙ ap (λ held. slice_get held c.args.number) c.deref.ensures.value) ∙ c.in-None.is in
    retold c.first_match-in-None.result _ (ap (ends c.args.subject.now c.args.rest.now c.args.at) (ended-none captures c.args.number c.args.at is)) refl c.first_match-in-None.ensures.first

pub longest_first-returns-then-is_some-clause-first : goal.longest_first-returns-then-is_some-clause-first
longest_first-returns-then-is_some-clause-first t c =
    let i = c.loop-tries.invariant in
    let behind : ℕ → List Found = λ place. ends c.args.subject.now c.args.rest.now place c.args.captures.now.items in
    let is : IsFirst (behind (c.args.first + (c.loop-tries.tries - 1))) c.in_ok-end.end c.args.captures.now.items c.tried.new.captures.items =
    subst (λ captures. IsFirst (ends c.args.subject.now c.args.rest.now (c.args.first + (c.loop-tries.tries - 1)) captures) c.in_ok-end.end captures c.tried.new.captures.items) i.1 c.in_ok-end.ensures.first in
    longest_found behind c.args.captures.now.items c.tried.new.captures.items c.args.first c.loop-tries.tries c.in_ok-end.end c.loop-tries-test.true i.2 (sym c.if-is_some.ensures) is

pub longest_first-loop-tries-preserved : goal.longest_first-loop-tries-preserved
longest_first-loop-tries-preserved t c =
    let i = c.loop-tries.invariant in
    let behind : ℕ → List Found = λ place. ends c.args.subject.now c.args.rest.now place c.args.captures.now.items in
    let is : IsFirst (behind (c.args.first + (c.loop-tries.tries - 1))) c.in_ok-end.end c.args.captures.now.items c.tried.new.captures.items =
    subst (λ captures. IsFirst (ends c.args.subject.now c.args.rest.now (c.args.first + (c.loop-tries.tries - 1)) captures) c.in_ok-end.end captures c.tried.new.captures.items) i.1 c.in_ok-end.ensures.first in
    let left = longest_more behind c.args.captures.now.items c.tried.new.captures.items c.args.first c.loop-tries.tries c.in_ok-end.end c.loop-tries-test.true i.2 (sym c.if-is_some.ensures) is in
    (omega (arith, i.0), left.0, left.1)

pub repeated-returns-after-is_class_at-clause-first : goal.repeated-returns-after-is_class_at-clause-first
repeated-returns-after-is_class_at-clause-first t c =
    let class = c.args.class.now in
    let subject = c.args.subject.now in
    let at = c.args.at in
    let tries : places Optional at (run_of class (drop at subject)) ≡ reverse (range_with_len at c.if-is_class_at.tries) =
    ap (λ tries. reverse (range_with_len at tries)) (optional_tries class subject at c.if-is_class_at.tries
    (elim c.if-is_class_at.branch [
      | repeated-then-is_class_at w ↦ inl (sym w.if-is_class_at.ensures, w.tries-is)
      | repeated-else-is_class_at w ↦ inr (sym w.if-is_class_at.ensures, w.tries-is)
    ])) in
    retold c.longest_first.result _ (repeated_by subject c.args.rest.now at c.args.captures.now.items class _ _ _ c.in-Optional.is tries) refl c.longest_first.ensures.first

pub repeated-returns-in-ZeroOrMore-clause-first : goal.repeated-returns-in-ZeroOrMore-clause-first
repeated-returns-in-ZeroOrMore-clause-first t c =
    let same : places ZeroOrMore c.args.at (run_of c.args.class.now (drop c.args.at c.args.subject.now)) ≡ reverse (range_with_len c.args.at (c.run_at-run.result + 1)) = ap (λ run. reverse (range_with_len c.args.at (run + 1))) (sym c.run_at-run.ensures.value) in
    retold c.longest_first-in-ZeroOrMore.result _ (repeated_by c.args.subject.now c.args.rest.now c.args.at c.args.captures.now.items c.args.class.now _ _ _ c.in-ZeroOrMore.is same) refl c.longest_first-in-ZeroOrMore.ensures.first

pub repeated-returns-in-OneOrMore-clause-first : goal.repeated-returns-in-OneOrMore-clause-first
repeated-returns-in-OneOrMore-clause-first t c =
    let tries : places OneOrMore c.args.at (run_of c.args.class.now (drop c.args.at c.args.subject.now)) ≡ reverse (range_with_len (c.args.at + 1) c.run_at-run-in-OneOrMore.result) = ap (λ run. reverse (range_with_len (c.args.at + 1) run)) (sym c.run_at-run-in-OneOrMore.ensures.value) in
    retold c.longest_first-in-OneOrMore.result _ (repeated_by c.args.subject.now c.args.rest.now c.args.at c.args.captures.now.items c.args.class.now _ _ _ c.in-OneOrMore.is tries) refl c.longest_first-in-OneOrMore.ensures.first

pub repeated-returns-in-Lazy-clause-first : goal.repeated-returns-in-Lazy-clause-first
repeated-returns-in-Lazy-clause-first t c =
    retold c.shortest_first.result _ (repeated_by c.args.subject.now c.args.rest.now c.args.at c.args.captures.now.items c.args.class.now _ _ _ c.in-Lazy.is refl) refl c.shortest_first.ensures.first

pub shortest_first-returns-then-not-is_class_at-clause-first : goal.shortest_first-returns-then-not-is_class_at-clause-first
shortest_first-returns-then-not-is_class_at-clause-first t c =
    let i = c.loop-end.invariant in
    let place = c.loop-end.place in
    let behind : ℕ → List Found = λ place. ends c.args.subject.now c.args.rest.now place c.args.captures.now.items in
    let is : IsFirst (behind place) c.in_ok-end.end c.args.captures.now.items c.tried.new.captures.items =
    subst (λ captures. IsFirst (ends c.args.subject.now c.args.rest.now place captures) c.in_ok-end.end captures c.tried.new.captures.items) i.2 c.in_ok-end.ensures.first in
    shortest_none behind c.args.captures.now.items c.tried.new.captures.items place _ c.in_ok-end.end (run_none c.args.class.now c.args.subject.now place (sym c.if-not-is_class_at.ensures)) i.3 (sym c.if-is_some.ensures) is

pub shortest_first-loop-end-preserved : goal.shortest_first-loop-end-preserved
shortest_first-loop-end-preserved t c =
    let i = c.loop-end.invariant in
    let class = c.args.class.now in
    let subject = c.args.subject.now in
    let place = c.loop-end.place in
    let behind : ℕ → List Found = λ place. ends subject c.args.rest.now place c.args.captures.now.items in
    let is : IsFirst (behind place) c.in_ok-end.end c.args.captures.now.items c.tried.new.captures.items =
    subst (λ captures. IsFirst (ends subject c.args.rest.now place captures) c.in_ok-end.end captures c.tried.new.captures.items) i.2 c.in_ok-end.ensures.first in
    let holds : is_class_at class subject place ≡ true = sym c.if-not-is_class_at.ensures in
    let inside = is_there class subject place holds in
    let left = shortest_more behind c.args.captures.now.items c.tried.new.captures.items place _ _ c.in_ok-end.end (run_more class subject place holds) i.3 (sym c.if-is_some.ensures) is in
    (omega (arith, i.0), omega (arith, inside), left.0, left.1)

pub first_match-returns-in-Repeated-clause-inside : goal.first_match-returns-in-Repeated-clause-inside
first_match-returns-in-Repeated-clause-inside t c = inside_later c.repeated.result (length c.args.subject.now) c.args.at c.loop-item.at _ c.loop-item.invariant.5 c.repeated.ensures.inside

pub first_match-returns-in-Open-clause-inside : goal.first_match-returns-in-Open-clause-inside
first_match-returns-in-Open-clause-inside t c = inside_later c.captured.result (length c.args.subject.now) c.args.at c.loop-item.at _ c.loop-item.invariant.5 c.captured.ensures.inside

pub first_match-returns-in-Place-clause-inside : goal.first_match-returns-in-Place-clause-inside
first_match-returns-in-Place-clause-inside t c = inside_later c.captured-in-Place.result (length c.args.subject.now) c.args.at c.loop-item.at _ c.loop-item.invariant.5 c.captured-in-Place.ensures.inside

pub first_match-returns-in-Close-clause-inside : goal.first_match-returns-in-Close-clause-inside
first_match-returns-in-Close-clause-inside t c = inside_later c.closed.result (length c.args.subject.now) c.args.at c.loop-item.at _ c.loop-item.invariant.5 c.closed.ensures.inside

pub tried-returns-then-rules_out-clause-first : goal.tried-returns-then-rules_out-clause-first
tried-returns-then-rules_out-clause-first t c =
    let out : rules_out (option_map (λ kept. kept.now) c.args.class) c.args.subject.now c.args.at ≡ true = search rules in
    (ruled_out c.args.subject.now _ c.args.rest.now c.args.at c.args.captures.now.items c.requires.told out, refl)
