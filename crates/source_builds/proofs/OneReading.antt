-- A source has one reading: its tokens are one list, or one of its places is the first that begins no token; the tokens have one tree, or stop at one
-- place; and the least violation is one.
use Rattle.std.proofs.Common.{arith, ℕ, suc, ◌+◌, ◌<◌, ◌≤◌, ◌≡◌, ◌⊎◌, ⊎_elim, List, [], ◌∷◌, ◌++◌, Option, Some, None, refl, sym, ap, subst, ◌∙◌, append_assoc, Contains}
use Rattle.std.proofs.lemmas.Bool.{cases_order}
use Rattle.std.proofs.lemmas.List.Elements.{All-contains}
use Rattle.std.specs.Prelude.{slice_get}
use Rattle.std.specs.Option.{option_map}
use Rattle.token_cursor.specs.Words.{Lexeme}
use Rattle.lua_lex.specs.declared.token.Token.{Token}
use Rattle.lua_lex.specs.Lexical.{TokensFrom, ends, goes_on, TokensOf, BadFrom, here, later, BadToken}
use Rattle.lua_lex.proofs.SourceLemmas.{IsFront, begin, next, end_only, stuck_none, stuck_only}
use Rattle.lua_parse.specs.Reading.{Derives, Stop}
use Rattle.lua_parse.specs.Answers.{IsRefusal}
use Rattle.lua_parse.proofs.StopLemmas.{one_tree}
use Rattle.tree_core.specs.Tree.{Block, Body}
use Rattle.scope_core.specs.Places.{placed}
use Rattle.scope_core.specs.Rules.{violations}
use Rattle.scope_core.specs.Least.{IsBefore, IsLeast}
use Rattle.scope_core.specs.declared.violation.Violation.{Violation}
use Rattle.compile_text.specs.Source.{HasTree, IsSource, RefusedOn, bad_token, no_tree, Violates, breaks, too_long, IsRefused, IsRefusedFor}
use Rattle.compile_text.specs.declared.fault.TextFault.TheVariants.{Source, Rule}
use Rattle.load_rows.specs.Loading.{Built, built, refused_at}
use Rattle.source_builds.specs.Readings.{IsReading, has_tree, is_refused, breaks_rule}
use Rattle.source_builds.specs.Laws.{ReadingsAreOne}

-- tokens, and the first place that begins none

module _ (source : List ℕ) where
  tokens_only : {line : ℕ} {text : List ℕ} {list : List (Token × ℕ)} (front : List (Token × ℕ)) → IsFront source front line text → TokensFrom line text list → (all : List (Token × ℕ)) → TokensOf source all → all ≡ front ++ list
  tokens_only {line = line} {text = text} front f (ends gap) all h = end_only source front line text f gap all h
  tokens_only {line = line} {text = text} front f (goes_on start rest token list gap t more) all h =
      tokens_only _ (next source front line text start rest token f gap t) more all h ∙ append_assoc front (_ ∷ []) list

  bad_only : {line at : ℕ} {text : List ℕ} (front : List (Token × ℕ)) → IsFront source front line text → BadFrom line text at → (other : ℕ) → BadToken source other → other ≡ at
  bad_only {line = line} {text = text} front f (here start gap refused) other h = stuck_only source front line text start f gap refused other h
  bad_only {line = line} {text = text} front f (later start rest token gap t bad) other h = bad_only _ (next source front line text start rest token f gap t) bad other h

  bad_none : {line at : ℕ} {text : List ℕ} (front : List (Token × ℕ)) → IsFront source front line text → BadFrom line text at → (all : List (Token × ℕ)) → TokensOf source all → ⊥
  bad_none {line = line} {text = text} front f (here start gap refused) all h = stuck_none source front line text start f gap refused all h
  bad_none {line = line} {text = text} front f (later start rest token gap t bad) all h = bad_none _ (next source front line text start rest token f gap t) bad all h

  one_list : (tokens others : List Lexeme) → TokensOf source tokens → TokensOf source others → others ≡ tokens
  one_list tokens others t o = tokens_only [] (begin source) t others o

  one_bad : (line other : ℕ) → BadToken source line → BadToken source other → other ≡ line
  one_bad line other b o = bad_only [] (begin source) b other o

  not_both : (line : ℕ) (tokens : List Lexeme) → BadToken source line → TokensOf source tokens → ⊥
  not_both line tokens b t = bad_none [] (begin source) b tokens t

  trees_one : (tree other : Block) → HasTree source tree → HasTree source other → other ≡ tree
  trees_one tree other h k = one_tree h.tokens other tree (subst (λ ts. Derives ts other) (one_list h.tokens k.tokens h.lexed k.lexed) k.derived) h.derived

-- the place at which tokens stop

one_stop : (tokens : List Lexeme) (n m : ℕ) → Stop tokens n → Stop tokens m → n ≡ m
one_stop tokens n m s t = ⊎_elim (λ e. e) (λ o. ⊎_elim (λ l. absurd (s.no_front (t.least n l))) (λ l. absurd (t.no_front (s.least m l))) o) (cases_order n m)

one_line : (o : Option Lexeme) (line other : ℕ) → option_map (λ (t : Lexeme). t.1) o ≡ Some line → option_map (λ (t : Lexeme). t.1) o ≡ Some other → other ≡ line
one_line o line other e f = let k : Some line ≡ Some other = sym e ∙ f in cc

one_refusal : (tokens : List Lexeme) (line other : ℕ) → IsRefusal tokens line → IsRefusal tokens other → other ≡ line
one_refusal tokens line other r q =
    let k = one_stop tokens (r.at + 1) (q.at + 1) r.stop q.stop in
    let same : q.at ≡ r.at = omega (arith, k) in
    one_line (slice_get tokens r.at) line other r.line_is (subst (λ at. option_map (λ (t : Lexeme). t.1) (slice_get tokens at) ≡ Some other) same q.line_is)

one_place : (source : List ℕ) (line other : ℕ) → RefusedOn source line → RefusedOn source other → other ≡ line
one_place source line other (bad_token b) (bad_token c) = one_bad source line other b c
one_place source line other (bad_token b) (no_tree tokens t r) = absurd (not_both source line tokens b t)
one_place source line other (no_tree tokens t r) (bad_token c) = absurd (not_both source other tokens c t)
one_place source line other (no_tree tokens t r) (no_tree tokens' t' r') = one_refusal tokens line other r (subst (λ ts. IsRefusal ts other) (one_list source tokens tokens' t t') r')

-- the least violation

record SameAs (rule line rule' line' : ℕ) : Type 0 where
  rules : rule' ≡ rule
  lines : line' ≡ line

both_before : (x y : Violation) → IsBefore x y → IsBefore y x → SameAs x.rule x.line y.rule y.line
both_before x y a b =
    ⊎_elim
    (λ (l : x.line < y.line). ⊎_elim (λ (m : y.line < x.line). absurd (omega (arith, l, m))) (λ (m : (y.line ≡ x.line) × (y.rule ≤ x.rule)). let e = m.0 in absurd (omega (arith, l, e))) b)
    (λ (l : (x.line ≡ y.line) × (x.rule ≤ y.rule)). ⊎_elim (λ (m : y.line < x.line). let e = l.0 in absurd (omega (arith, m, e)))
    (λ (m : (y.line ≡ x.line) × (y.rule ≤ x.rule)). let p = l.1 in let q = m.1 in record { rules = omega (arith, p, q); lines = m.0 }) b)
    a

one_least : (all : List Violation) (x y : Violation) → IsLeast all x → IsLeast all y → SameAs x.rule x.line y.rule y.line
one_least all x y l m = both_before x y (All-contains (IsBefore x) all y l.first m.there) (All-contains (IsBefore y) all x m.first l.there)

one_violation : (source : List ℕ) (rule line rule' line' : ℕ) → Violates source rule line → Violates source rule' line' → SameAs rule line rule' line'
one_violation source rule line rule' line' (breaks tree h l) (breaks other k m) =
    one_least (violations tree) (record { line = line; rule = rule }) (record { line = line'; rule = rule' }) l (subst (λ t. IsLeast (violations t) (record { line = line'; rule = rule' })) (trees_one source tree other h k) m)
one_violation source rule line rule' line' (breaks tree h l) (too_long long r e) = let short = h.limited in absurd (omega (arith, short, long))
one_violation source rule line rule' line' (too_long long r e) (breaks tree h l) = let short = h.limited in absurd (omega (arith, short, long))
one_violation source rule line rule' line' (too_long long r e) (too_long long' r' e') = record { rules = r' ∙ sym r; lines = e' ∙ sym e }

-- a source that breaks a rule has a tree, or is too long
no_place : (source : List ℕ) (at rule line : ℕ) → RefusedOn source at → Violates source rule line → (tree : Block) → HasTree source tree → ⊥
no_place source at rule line (bad_token b) v tree h = not_both source at h.tokens b h.lexed
no_place source at rule line (no_tree tokens t r) v tree h = r.no_tree tree (subst (λ ts. Derives ts tree) (one_list source tokens h.tokens t h.lexed) h.derived)

not_refused_so : (source : List ℕ) (at rule line : ℕ) → IsRefused source (Source at) → IsRefused source (Rule rule line) → ⊥
not_refused_so source at rule line r v = by v.cause
  where
    by : Violates source rule line → ⊥
    by (breaks tree h l) = no_place source at rule line r.cause.1 (breaks tree h l) tree h
    by (too_long long _ _) = let short = r.cause.0 in absurd (omega (arith, short, long))

abbrev refused : ℕ → Option ℕ → Built Body
refused line rule = refused_at line rule

pub readings_are_one : ReadingsAreOne
readings_are_one source one other (has_tree tree is) (has_tree tree' is') = ap (λ t. built (placed t)) (is'.only tree is.has_tree)
readings_are_one source one other (has_tree tree is) (is_refused line r) = absurd (r.none tree is)
readings_are_one source one other (has_tree tree is) (breaks_rule rule line r) = absurd (r.none tree is)
readings_are_one source one other (is_refused line r) (has_tree tree is) = absurd (r.none tree is)
readings_are_one source one other (breaks_rule rule line r) (has_tree tree is) = absurd (r.none tree is)
readings_are_one source one other (is_refused line r) (is_refused line' r') = ap (λ n. refused n None) (sym (one_place source line line' r.cause.1 r'.cause.1))
readings_are_one source one other (is_refused at r) (breaks_rule rule line v) = absurd (not_refused_so source at rule line r v)
readings_are_one source one other (breaks_rule rule line v) (is_refused at r) = absurd (not_refused_so source at rule line r v)
readings_are_one source one other (breaks_rule rule line v) (breaks_rule rule' line' w) =
    let same = one_violation source rule line rule' line' v.cause w.cause in
    ap (λ n. refused n (Some rule)) (sym same.lines) ∙ ap (λ n. refused line' (Some n)) (sym same.rules)
