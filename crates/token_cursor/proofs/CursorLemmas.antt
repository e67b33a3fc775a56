-- The tokens that are left from a place on.
use Rattle.std.proofs.Common.{◌≡◌, ℕ, ◌+◌, List, [], ◌∷◌, drop, Option, Some, None, true, false, refl, sym, ap, subst, ◌∙◌, arith, get_or}
use Rattle.std.specs.Prelude.{is_some, slice_get}
use Rattle.std.specs.Option.{option_map}
use Rattle.std.proofs.lemmas.List.{drop-drop, get_or-drop}
use Rattle.std.proofs.lemmas.Option.{get_or_from_slice_get}
use Rattle.lua_lex.specs.declared.token.Token.{Token}
use Rattle.lua_lex.specs.declared.token.Token.TheVariants as token
use Rattle.lua_lex.specs.declared.token.Token.TheVariants.{End}
use Rattle.lua_lex.specs.Lexical.{EndsOnce, LastWhere, is_end}
use Rattle.token_cursor.specs.Words.{Lexeme, first, name_of}

first_of : (ts : List Lexeme) → first ts ≡ get_or ts 0 (End, 0)
first_of [] = refl
first_of (t ∷ ts) = refl

get_or_zero : (at : ℕ) (ts : List Lexeme) → first (drop at ts) ≡ get_or ts at (End, 0)
get_or_zero at ts = first_of (drop at ts) ∙ get_or-drop at ts 0 (End, 0) ∙ ap (λ n. get_or ts n (End, 0)) (omega arith)

-- a part of the token at a place, as it is looked up, is that of the first one from there on
first_part : {B : Type 0} (part : Lexeme → B) (at : ℕ) (ts : List Lexeme) (x : B) → option_map part (slice_get ts at) ≡ Some x → x ≡ part (first (drop at ts))
first_part {B} part at ts x e = at_cases (slice_get ts at) refl e
  where
    at_cases : (o : Option Lexeme) → slice_get ts at ≡ o → option_map part o ≡ Some x → x ≡ part (first (drop at ts))
    at_cases None is e' = absurd (let bad : ◌≡◌ {A = Option B} None (Some x) = e' in cc)
    at_cases (Some t) is e' = let same : part t ≡ x = cc in sym same ∙ ap part (sym (get_or_from_slice_get ts at t (End, 0) is) ∙ sym (get_or_zero at ts))

pub first_token : (at : ℕ) (ts : List Lexeme) (token : Token) → option_map (λ (pair : Lexeme). pair.0) (slice_get ts at) ≡ Some token → token ≡ (first (drop at ts)).0
first_token at ts token e = first_part (λ (pair : Lexeme). pair.0) at ts token e

pub first_line : (at : ℕ) (ts : List Lexeme) (line : ℕ) → option_map (λ (pair : Lexeme). pair.1) (slice_get ts at) ≡ Some line → line ≡ (first (drop at ts)).1
first_line at ts line e = first_part (λ (pair : Lexeme). pair.1) at ts line e

ends_later : (ts : List Lexeme) → EndsOnce ts → is_end (first ts).0 ≡ false → EndsOnce (drop 1 ts)
ends_later [] once not_end = absurd once
ends_later (t ∷ ts) once not_end = subst (λ b. LastWhere b ts (EndsOnce ts)) not_end once

pub ends_behind : (at : ℕ) (ts : List Lexeme) → EndsOnce (drop at ts) → is_end (first (drop at ts)).0 ≡ false → EndsOnce (drop (at + 1) ts)
ends_behind at ts once not_end = subst EndsOnce (drop-drop 1 at ts) (ends_later (drop at ts) once not_end)

-- a name is not the end

pub name_not_end : (t : Token) → is_some (name_of t) ≡ true → is_end t ≡ false
name_not_end token.End h = absurd cc
name_not_end _ h = refl

pub drop_more : (at : ℕ) (ts : List Lexeme) → drop (at + 1) ts ≡ drop 1 (drop at ts)
drop_more at ts = sym (drop-drop 1 at ts)
