-- The tokens so far and what is left determine the tokens of the source.
use Rattle.std.proofs.Common.{◌≡◌, ◌++◌, ◌∷◌, [], ◌<◌, ◌≤◌, length, length-drop, length-append, drop, sym, ◌∙◌, subst, ap, rules, arith, ℕ, List}
use Rattle.std.proofs.lemmas.Bool.Decides.{nat_tests}
use Rattle.std.proofs.lemmas.List.{nil_from_length}
use Rattle.lua_lex.specs.declared.token.Token.TheVariants.{End}
use Rattle.lua_lex.specs.Lexical.{Gap, IsToken, IsRefused, Skips, line_of, ends, here, TokensOf, BadToken, EndsOnce}
use Rattle.lua_lex.proofs.SourceLemmas.{IsFront, ends_once, next, end_only, end_not_bad, stuck_none, stuck_only}
use Rattle.lua_lex.proofs.source.tokens.Goals as goal
use Rattle.lua_lex.proofs.source.tokens.Goals.{After-is_empty, After-of, After-drop-items-in_default}

-- between the text and what is left behind the gap all is skipped
gap_to : (text start : List ℕ) (len : ℕ) → start ≡ drop len text → Gap text (drop len text) → Gap text start
gap_to text start len is gap = subst (Gap text) (sym is) gap

line_to : (line : ℕ) (text start : List ℕ) (len line' : ℕ) → start ≡ drop len text → line' ≡ line_of line text (drop len text) → line' ≡ line_of line text start
line_to line text start len line' is value = value ∙ ap (line_of line text) (sym is)

-- at the end
nothing_left : (c : After-of) → c.behind-text.result.now ≡ []
nothing_left c =
    let empty : length c.behind-text.result.now ≡ 0 = grind (arith, nat_tests, c.is_empty.ensures, c.if-is_empty.true) in
    nil_from_length c.behind-text.result.now empty

end_gap : (c : After-of) → Gap c.loop-text.text.now []
end_gap c = gap_to c.loop-text.text.now [] c.gap_len-gap.result (sym (nothing_left c) ∙ c.behind-text.ensures) c.gap_len-gap.ensures.skipped

list_is : (c : After-of) → c.of.result ≡ c.loop-text.items.items ++ (End, line_of c.loop-text.line c.loop-text.text.now []) ∷ []
list_is c =
    let line = line_to c.loop-text.line c.loop-text.text.now [] c.gap_len-gap.result c.line_behind-line.result (sym (nothing_left c) ∙ c.behind-text.ensures) c.line_behind-line.ensures.value in
    c.of.ensures ∙ c.in_ok-push.ensures.items ∙ ap (λ n. c.loop-text.items.items ++ (End, n) ∷ []) line

pub returns-then-is_empty-clause-found : goal.returns-then-is_empty-clause-found
returns-then-is_empty-clause-found c =
    subst (TokensOf c.args.source.now) (sym (list_is (goal.at.returns-then-is_empty-clause-found c).After-of)) (c.loop-text.invariant.front.leads _ (ends (end_gap (goal.at.returns-then-is_empty-clause-found c).After-of)))

pub returns-then-is_empty-clause-only : goal.returns-then-is_empty-clause-only
returns-then-is_empty-clause-only c other h =
    end_only c.args.source.now c.loop-text.items.items c.loop-text.line c.loop-text.text.now c.loop-text.invariant.front (end_gap (goal.at.returns-then-is_empty-clause-only c).After-of) other h ∙ sym (list_is (goal.at.returns-then-is_empty-clause-only c).After-of)

pub returns-then-is_empty-clause-not_refused : goal.returns-then-is_empty-clause-not_refused
returns-then-is_empty-clause-not_refused c line h =
    end_not_bad c.args.source.now c.loop-text.items.items c.loop-text.line c.loop-text.text.now c.loop-text.invariant.front (end_gap (goal.at.returns-then-is_empty-clause-not_refused c).After-of) line h

-- where no token begins
refused_here : (c : After-drop-items-in_default) → IsRefused c.behind-text.result.now
refused_here c = record {
  goes_on = λ empty. absurd (grind (arith, nat_tests, ap length empty, c.is_empty.ensures, c.if-is_empty.false));
  no_gap = λ rest skips. c.gap_len-gap.ensures.whole rest (subst (λ t. Skips t rest) c.behind-text.ensures skips);
  no_token = rw c.in_default.is at c.in_ok-token.ensures.none;
}

gap_here : (c : After-drop-items-in_default) → Gap c.loop-text.text.now c.behind-text.result.now
gap_here c = gap_to c.loop-text.text.now c.behind-text.result.now c.gap_len-gap.result c.behind-text.ensures c.gap_len-gap.ensures.skipped

line_here : (c : After-drop-items-in_default) → c.line_behind-line.result ≡ line_of c.loop-text.line c.loop-text.text.now c.behind-text.result.now
line_here c = line_to c.loop-text.line c.loop-text.text.now c.behind-text.result.now c.gap_len-gap.result c.line_behind-line.result c.behind-text.ensures c.line_behind-line.ensures.value

pub returns-in_default-clause-refused : goal.returns-in_default-clause-refused
returns-in_default-clause-refused c =
    subst (BadToken c.args.source.now) (sym (line_here c)) (c.loop-text.invariant.front.bad _ (here c.behind-text.result.now (gap_here c) (refused_here c)))

pub returns-in_default-clause-only_refused : goal.returns-in_default-clause-only_refused
returns-in_default-clause-only_refused c other h =
    stuck_only c.args.source.now c.loop-text.items.items c.loop-text.line c.loop-text.text.now c.behind-text.result.now c.loop-text.invariant.front (gap_here c) (refused_here c) other h ∙ sym (line_here c)

pub returns-in_default-clause-no_tokens : goal.returns-in_default-clause-no_tokens
returns-in_default-clause-no_tokens c list h =
    stuck_none c.args.source.now c.loop-text.items.items c.loop-text.line c.loop-text.text.now c.behind-text.result.now c.loop-text.invariant.front (gap_here c) (refused_here c) list h

pub loop-text-preserved : goal.loop-text-preserved
loop-text-preserved c =
    let text = c.loop-text.text.now in
    let start = c.behind-text.result.now in
    let rest = c.behind-text-in-loop-text.result.now in
    let token = c.in-Some.token in
    let gap : Gap text start = gap_to text start c.gap_len-gap.result c.behind-text.ensures c.gap_len-gap.ensures.skipped in
    let found : IsToken start token (drop c.in-Some.len start) = search rules in
    let in_range : c.in-Some.len ≤ length start = search rules in
    let is_token : IsToken start token rest = subst (IsToken start token) (sym c.behind-text-in-loop-text.ensures) found in
    let line : c.line_behind-line.result ≡ line_of c.loop-text.line text start = line_to c.loop-text.line text start c.gap_len-gap.result c.line_behind-line.result c.behind-text.ensures c.line_behind-line.ensures.value in
    let line_after : c.line_behind-line-in-loop-text.result ≡ line_of (line_of c.loop-text.line text start) start rest = line_to c.line_behind-line.result start rest c.in-Some.len c.line_behind-line-in-loop-text.result c.behind-text-in-loop-text.ensures c.line_behind-line-in-loop-text.ensures.value ∙ ap (λ n. line_of n start rest) line in
    let items : c.push-in-loop-text.new.self.items ≡ c.loop-text.items.items ++ (token, line_of c.loop-text.line text start) ∷ [] = c.in_ok-push-2.ensures.items ∙ ap (λ n. c.loop-text.items.items ++ (token, n) ∷ []) line in
    let not_empty : 0 < c.in-Some.len = search rules in
    let more = next c.args.source.now c.loop-text.items.items c.loop-text.line text start rest token c.loop-text.invariant.front gap is_token in
    record {
      front = subst (λ ts. IsFront c.args.source.now ts c.line_behind-line-in-loop-text.result rest) (sym items) (subst (λ n. IsFront c.args.source.now (c.loop-text.items.items ++ (token, line_of c.loop-text.line text start) ∷ []) n rest) (sym line_after) more);
      bound = omega (arith, c.loop-text.invariant.bound, c.gap_len-gap.ensures.bound, c.line_behind-line.ensures.bound, c.line_behind-line-in-loop-text.ensures.bound, ap length c.behind-text.ensures, length-drop c.gap_len-gap.result text, ap length c.behind-text-in-loop-text.ensures, length-drop c.in-Some.len start);
      count = omega (arith, c.loop-text.invariant.count, ap length items, length-append c.loop-text.items.items ((token, line_of c.loop-text.line text start) ∷ []), ap length c.behind-text.ensures, length-drop c.gap_len-gap.result text, ap length c.behind-text-in-loop-text.ensures, length-drop c.in-Some.len start, not_empty);
      short = c.loop-text.invariant.short;
    }

pub returns-then-is_empty-clause-ends : goal.returns-then-is_empty-clause-ends
returns-then-is_empty-clause-ends c =
    subst EndsOnce (sym (list_is (goal.at.returns-then-is_empty-clause-ends c).After-of)) (ends_once (c.loop-text.invariant.front.leads _ (ends (end_gap (goal.at.returns-then-is_empty-clause-ends c).After-of))))
