-- Up to the place of the next `]` nothing closes.
use Rattle.std.proofs.Common.{◌≡◌, ℕ, ◌+◌, ◌-◌, ◌<◌, List, drop, length, true, false, sym, ap, ◌∙◌, subst, arith, ⊎_elim, length-drop}
use Rattle.std.specs.Prelude.{◌==◌, Some, None}
use Rattle.std.proofs.lemmas.Bool.{cases_lt, false≢true}
use Rattle.std.proofs.lemmas.List.{get_or_past}
use Rattle.memchr.specs.Find.{IsFirstByte, is_byte}
use Rattle.lua_lex.specs.Inner.{closes}
use Rattle.lua_lex.proofs.BracketLemmas.{no_closer}
use Rattle.lua_lex.proofs.bracket.content_len.Goals as goal
use Rattle.lua_lex.proofs.bracket.content_len.Goals.{After-closes}

nowhere : (text : List ℕ) (level at next : ℕ) → ((place : ℕ) → place < at → closes level (drop place text) ≡ true → ⊥) → IsFirstByte (is_byte 93) (drop at text) (Some next) → (place : ℕ) → place < at + next → closes level (drop place text) ≡ true → ⊥
nowhere text level at next before found place h =
    ⊎_elim (λ early. before place early) (λ late. no_closer text level at place late (found.0.before (place - at) (omega arith) (omega arith))) (cases_lt place at)

found_at : (c : After-closes) → IsFirstByte (is_byte 93) (drop c.loop-next.at c.args.text.now) (Some c.in-Some.next)
found_at c = subst (λ t. IsFirstByte (is_byte 93) t (Some c.in-Some.next)) c.behind.ensures c.in-Some.ensures

pub returns-then-closes-clause-found : goal.returns-then-closes-clause-found
returns-then-closes-clause-found c =
    let text = c.args.text.now in
    let closed : closes c.args.level (drop (c.loop-next.at + c.in-Some.next) text) ≡ true = ap (closes c.args.level) (sym c.behind-in-Some.ensures) ∙ sym c.closes.ensures ∙ c.if-closes.true in
    record {
      closed = closed;
      before = nowhere text c.args.level c.loop-next.at c.in-Some.next c.loop-next.invariant.before (found_at (goal.at.returns-then-closes-clause-found c).After-closes);
    }

pub loop-next-preserved : goal.loop-next-preserved
loop-next-preserved c =
    let text = c.args.text.now in
    let at = c.loop-next.at in
    let next = c.in-Some.next in
    let found = found_at (goal.at.loop-next-preserved c).After-closes in
    let open_here : closes c.args.level (drop (at + next) text) ≡ false = ap (closes c.args.level) (sym c.behind-in-Some.ensures) ∙ sym c.closes.ensures ∙ c.if-closes.false in
    record {
      in_range = omega (arith, found.0.high, length-drop at text);
      before = λ place h closed. ⊎_elim (λ early. nowhere text c.args.level at next c.loop-next.invariant.before found place early closed) (λ late. let is : place ≡ at + next = omega arith in false≢true (sym open_here ∙ ap (λ n. closes c.args.level (drop n text)) (sym is) ∙ closed)) (cases_lt place (at + next));
    }

pub returns-clause-none : goal.returns-clause-none
returns-clause-none c place closed =
    let text = c.args.text.now in
    let at = c.loop-next.at in
    let none : IsFirstByte (is_byte 93) (drop at text) None = subst (λ t. IsFirstByte (is_byte 93) t None) c.behind.ensures c.in_default.ensures in
    ⊎_elim (λ early. c.loop-next.invariant.before place early closed) (λ late. no_closer text c.args.level at place late (λ is. ⊎_elim (λ within. none (place - at) (omega arith) within is) (λ past. false≢true (ap (λ b. b == 93) (sym (get_or_past (drop at text) (place - at) 0 past)) ∙ is)) (cases_lt (place - at) (length (drop at text)))) closed) (cases_lt place at)
