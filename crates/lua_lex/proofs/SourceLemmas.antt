-- What is read of a source so far, and what that leaves.
use Rattle.std.proofs.Common.{◌≡◌, ℕ, List, [], ◌∷◌, ◌++◌, refl, ap, sym, ◌∙◌, subst, append_assoc}
use Rattle.lua_lex.specs.declared.token.Token.{Token}
use Rattle.lua_lex.specs.declared.token.Token.TheVariants.{End}
use Rattle.std.specs.Prelude.{false, Option, Some, None, take_while}
use Rattle.lua_lex.specs.declared.kind.Kind.{Kind}
use Rattle.lua_lex.specs.declared.kind.Kind.TheVariants as kind
use Rattle.lua_lex.specs.declared.kind.Kind.TheVariants.{Space, Comment, LongComment, Word}
use Rattle.lua_lex.specs.Words.{keywords, place_of}
use Rattle.lua_lex.specs.Classes.{is_name_byte}
use Rattle.lua_lex.specs.Lexical.{kind_of, word_token, is_end, EndsOnce, IsTokenOf, Gap, IsToken, IsRefused, line_of, TokensFrom, ends, goes_on, TokensOf, BadFrom, here, later, BadToken}
use Rattle.lua_lex.proofs.TokenLemmas.{one_token, not_both, Stops, one_gap, end_stops, no_end_token}

-- The front of the source has these tokens, and the text is left, which begins on this line.
pub record IsFront (source : List ℕ) (front : List (Token × ℕ)) (line : ℕ) (text : List ℕ) : Type 0 where
  pub leads : (more : List (Token × ℕ)) → TokensFrom line text more → TokensOf source (front ++ more)
  pub only : (all : List (Token × ℕ)) → TokensOf source all → (more : List (Token × ℕ)) × (all ≡ front ++ more) × TokensFrom line text more
  pub bad : (at : ℕ) → BadFrom line text at → BadToken source at
  pub only_bad : (at : ℕ) → BadToken source at → BadFrom line text at

pub begin : (source : List ℕ) → IsFront source [] 1 source
begin source = record {
  leads = λ more h. h;
  only = λ all h. (all, refl, h);
  bad = λ at h. h;
  only_bad = λ at h. h;
}

-- What stands behind the token at the start, in a text that has tokens
record Behind (line : ℕ) (start rest : List ℕ) (token : Token) (all : List (Token × ℕ)) : Type 0 where
  more : List (Token × ℕ)
  is : all ≡ (token, line) ∷ more
  tokens : TokensFrom (line_of line start rest) rest more

stops_at_token : (start : List ℕ) (token : Token) (rest : List ℕ) → IsToken start token rest → Stops start
stops_at_token start token rest t rest' s = not_both start rest' rest token s t

behind : {line : ℕ} {text : List ℕ} {all : List (Token × ℕ)} (start rest : List ℕ) (token : Token) → Gap text start → IsToken start token rest → TokensFrom line text all → Behind (line_of line text start) start rest token all
behind start rest token gap t (ends end) =
    let same = one_gap [] gap end (stops_at_token start token rest t) end_stops in
    absurd (no_end_token token rest (subst (λ s. IsToken s token rest) same t))
behind {line = line} {text = text} start rest token gap t (goes_on start' rest' token' list gap' t' more) =
    let starts = one_gap start' gap gap' (stops_at_token start token rest t) (stops_at_token start' token' rest' t') in
    let same = one_token start' token token' rest rest' (subst (λ s. IsToken s token rest) starts t) t' in
    record {
      more = list;
      is = λ i. (sym same.tokens i, line_of line text (sym starts i)) ∷ list;
      tokens = subst (λ r. TokensFrom (line_of (line_of line text start) start r) r list) (sym same.rests) (subst (λ s. TokensFrom (line_of (line_of line text s) s rest') rest' list) (sym starts) more);
    }

bad_behind : {line : ℕ} {text : List ℕ} {at : ℕ} (start rest : List ℕ) (token : Token) → Gap text start → IsToken start token rest → BadFrom line text at → BadFrom (line_of (line_of line text start) start rest) rest at
bad_behind start rest token gap t (here start' gap' refused) =
    let starts = one_gap start' gap gap' (stops_at_token start token rest t) refused.no_gap in
    absurd (refused.no_token token rest (subst (λ s. IsToken s token rest) starts t))
bad_behind {line = line} {text = text} {at = at} start rest token gap t (later start' rest' token' gap' t' bad) =
    let starts = one_gap start' gap gap' (stops_at_token start token rest t) (stops_at_token start' token' rest' t') in
    let same = one_token start' token token' rest rest' (subst (λ s. IsToken s token rest) starts t) t' in
    subst (λ r. BadFrom (line_of (line_of line text start) start r) r at) (sym same.rests) (subst (λ s. BadFrom (line_of (line_of line text s) s rest') rest' at) (sym starts) bad)

-- a token more
pub next : (source : List ℕ) (front : List (Token × ℕ)) (line : ℕ) (text start rest : List ℕ) (token : Token) → IsFront source front line text → Gap text start → IsToken start token rest → IsFront source (front ++ (token, line_of line text start) ∷ []) (line_of (line_of line text start) start rest) rest
next source front line text start rest token f gap t = record {
  leads = λ more h. subst (TokensOf source) (sym (append_assoc front ((token, line_of line text start) ∷ []) more)) (f.leads ((token, line_of line text start) ∷ more) (goes_on start rest token more gap t h));
  only = λ all h.
      let o = f.only all h in
      let b = behind start rest token gap t o.2 in
      (b.more, o.1 ∙ ap (λ ts. front ++ ts) b.is ∙ sym (append_assoc front ((token, line_of line text start) ∷ []) b.more), b.tokens);
  bad = λ at h. f.bad at (later start rest token gap t h);
  only_bad = λ at h. bad_behind start rest token gap t (f.only_bad at h);
}

-- nothing but the end is left
ended : {line : ℕ} {text : List ℕ} {all : List (Token × ℕ)} → Gap text [] → TokensFrom line text all → all ≡ (End, line_of line text []) ∷ []
ended gap (ends gap') = refl
ended gap (goes_on start rest token list gap' t more) =
    let starts = one_gap start gap gap' end_stops (stops_at_token start token rest t) in
    absurd (no_end_token token rest (subst (λ s. IsToken s token rest) (sym starts) t))

not_bad : {line : ℕ} {text : List ℕ} {at : ℕ} → Gap text [] → BadFrom line text at → ⊥
not_bad gap (here start gap' refused) = refused.goes_on (sym (one_gap start gap gap' end_stops refused.no_gap))
not_bad gap (later start rest token gap' t bad) =
    let starts = one_gap start gap gap' end_stops (stops_at_token start token rest t) in
    no_end_token token rest (subst (λ s. IsToken s token rest) (sym starts) t)

pub end_only : (source : List ℕ) (front : List (Token × ℕ)) (line : ℕ) (text : List ℕ) → IsFront source front line text → Gap text [] → (all : List (Token × ℕ)) → TokensOf source all → all ≡ front ++ (End, line_of line text []) ∷ []
end_only source front line text f gap all h = let o = f.only all h in o.1 ∙ ap (λ ts. front ++ ts) (ended gap o.2)

pub end_not_bad : (source : List ℕ) (front : List (Token × ℕ)) (line : ℕ) (text : List ℕ) → IsFront source front line text → Gap text [] → (at : ℕ) → BadToken source at → ⊥
end_not_bad source front line text f gap at h = not_bad gap (f.only_bad at h)

-- the text is refused behind the gap
no_tokens : {line : ℕ} {text : List ℕ} {all : List (Token × ℕ)} (start : List ℕ) → Gap text start → IsRefused start → TokensFrom line text all → ⊥
no_tokens start gap refused (ends gap') = refused.goes_on (one_gap [] gap gap' refused.no_gap end_stops)
no_tokens start gap refused (goes_on start' rest token list gap' t more) =
    let starts = one_gap start' gap gap' refused.no_gap (stops_at_token start' token rest t) in
    refused.no_token token rest (subst (λ s. IsToken s token rest) (sym starts) t)

bad_here : {line : ℕ} {text : List ℕ} {at : ℕ} (start : List ℕ) → Gap text start → IsRefused start → BadFrom line text at → at ≡ line_of line text start
bad_here {line = line} {text = text} start gap refused (here start' gap' refused') = ap (line_of line text) (sym (one_gap start' gap gap' refused.no_gap refused'.no_gap))
bad_here start gap refused (later start' rest token gap' t bad) =
    let starts = one_gap start' gap gap' refused.no_gap (stops_at_token start' token rest t) in
    absurd (refused.no_token token rest (subst (λ s. IsToken s token rest) (sym starts) t))

pub stuck_none : (source : List ℕ) (front : List (Token × ℕ)) (line : ℕ) (text start : List ℕ) → IsFront source front line text → Gap text start → IsRefused start → (all : List (Token × ℕ)) → TokensOf source all → ⊥
stuck_none source front line text start f gap refused all h = no_tokens start gap refused (f.only all h).2

pub stuck_only : (source : List ℕ) (front : List (Token × ℕ)) (line : ℕ) (text start : List ℕ) → IsFront source front line text → Gap text start → IsRefused start → (at : ℕ) → BadToken source at → at ≡ line_of line text start
stuck_only source front line text start f gap refused at h = bad_here start gap refused (f.only_bad at h)

-- a token is not the end
not_end_of : (at : Kind) (text rest : List ℕ) (token : Token) → IsTokenOf at text token rest → is_end token ≡ false
not_end_of Word text rest token t = by_place (place_of keywords (take_while is_name_byte text)) t.0 where
  by_place : (place : Option ℕ) → token ≡ word_token (take_while is_name_byte text) place → is_end token ≡ false
  by_place (Some number) is = ap is_end is
  by_place None is = ap is_end is
not_end_of kind.End text rest token t = absurd t
not_end_of Space text rest token t = absurd t
not_end_of Comment text rest token t = absurd t
not_end_of LongComment text rest token t = absurd t
not_end_of _ text rest token t = ap is_end t.2

pub ends_once : {line : ℕ} {text : List ℕ} {list : List (Token × ℕ)} → TokensFrom line text list → EndsOnce list
ends_once (ends gap) = refl
ends_once (goes_on start rest token list gap t more) =
    let other : EndsOnce list = ends_once more in
    rw (not_end_of (kind_of start) start rest token t) other
