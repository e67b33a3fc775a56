-- Strings and their bytes.
use Rattle.std.proofs.Common.{◌≡◌, ℕ, zero, suc, ◌+◌, ◌-◌, ◌*◌, ◌/◌, ◌%◌, ◌^◌, ◌<◌, List, [], ◌∷◌, ◌++◌, refl, ap, sym, ◌∙◌, append_assoc, subst, arith}
use Rattle.std.specs.Prelude.{slice_index, slice_get, None}
use Rattle.std.proofs.Common.{drop, append-nil, get_or, get_or-drop, drop-drop, add-zero}
use Rattle.lua_lex.specs.declared.escape.Escape.{Escape}
use Rattle.lua_lex.specs.declared.escape.Escape.TheVariants.{Letter, LineEnd, Space, Hexadecimal, Decimal, Unicode, Unknown}
use Rattle.lua_lex.specs.declared.escape.Meaning.{Meaning}
use Rattle.lua_lex.specs.declared.quoted.Element.{Element}
use Rattle.lua_lex.specs.declared.quoted.Element.TheVariants.{Close, Backslash, Plain, Unfinished}
use Rattle.lua_lex.specs.Utf8.{continuation}
use Rattle.lua_lex.specs.Strings.{escape_of, element_of, meaning_bytes, IsEscape, IsEscapeOf, IsElementOf, Quoted, closes, goes_on}

-- the next of the last bytes
continuation-step : (place value : ℕ) → 0 < place → continuation place value ≡ (128 + value / 2 ^ (6 * (place - 1)) % 64) ∷ continuation (place - 1) value
continuation-step zero value h = absurd (omega arith)
continuation-step (suc place) value h = let e : suc place - 1 ≡ place = omega arith in rw e refl

pub continuation-push : (out pushed : List ℕ) (place value : ℕ) → 0 < place → pushed ≡ out ++ (128 + value / 2 ^ (6 * (place - 1)) % 64) ∷ [] → pushed ++ continuation (place - 1) value ≡ out ++ continuation place value
continuation-push out pushed place value h is =
    ap (λ t. t ++ continuation (place - 1) value) is ∙ append_assoc out ((128 + value / 2 ^ (6 * (place - 1)) % 64) ∷ []) (continuation (place - 1) value) ∙ ap (λ t. out ++ t) (sym (continuation-step place value h))

-- one escape stands at the front of a text at most
pub record SameEscape (meaning meaning' : Meaning) (rest rest' : List ℕ) : Type 0 where
  pub meanings : meaning ≡ meaning'
  pub rests : rest ≡ rest'

one_escape_of : (kind : Escape) (text : List ℕ) (meaning meaning' : Meaning) (rest rest' : List ℕ) → IsEscapeOf kind text meaning rest → IsEscapeOf kind text meaning' rest' → SameEscape meaning meaning' rest rest'
one_escape_of (Letter value) text meaning meaning' rest rest' e f = record { meanings = e.0 ∙ sym f.0; rests = e.1 ∙ sym f.1 }
one_escape_of LineEnd text meaning meaning' rest rest' e f = record { meanings = e.0 ∙ sym f.0; rests = e.1 ∙ sym f.1 }
one_escape_of Space text meaning meaning' rest rest' e f = record { meanings = e.0 ∙ sym f.0; rests = e.1 ∙ sym f.1 }
one_escape_of Hexadecimal text meaning meaning' rest rest' e f = record { meanings = e.2 ∙ sym f.2; rests = e.3 ∙ sym f.3 }
one_escape_of Decimal text meaning meaning' rest rest' e f = record { meanings = e.1 ∙ sym f.1; rests = e.2 ∙ sym f.2 }
one_escape_of Unicode text meaning meaning' rest rest' e f = record { meanings = e.1 ∙ sym f.1; rests = e.2 ∙ sym f.2 }
one_escape_of Unknown text meaning meaning' rest rest' e f = absurd e

-- there is none at the end
escape_of-end : escape_of 0 ≡ Unknown
unfolding escape_of
escape_of-end = refl

no_escape : (meaning : Meaning) (rest : List ℕ) → IsEscape [] meaning rest → ⊥
no_escape meaning rest e = let none : IsEscapeOf Unknown [] meaning rest = subst (λ kind. IsEscapeOf kind [] meaning rest) escape_of-end e in none

pub no_escape_in : (text : List ℕ) → slice_get text 0 ≡ None → (meaning : Meaning) (rest : List ℕ) → IsEscape text meaning rest → ⊥
no_escape_in [] h = no_escape
no_escape_in (byte ∷ text) h = absurd cc

-- and one element of a string
pub record SameBytes (content content' rest rest' : List ℕ) : Type 0 where
  pub contents : content ≡ content'
  pub rests : rest ≡ rest'

one_element_of : (kind : Element) (text bytes bytes' rest rest' : List ℕ) → IsElementOf kind text bytes rest → IsElementOf kind text bytes' rest' → SameBytes bytes bytes' rest rest'
one_element_of Plain text bytes bytes' rest rest' e f = record { contents = e.0 ∙ sym f.0; rests = e.1 ∙ sym f.1 }
one_element_of Backslash text bytes bytes' rest rest' e f =
    let same = one_escape_of (escape_of (slice_index (drop 1 text) 0)) (drop 1 text) e.0 f.0 rest rest' e.1 f.1 in
    record { contents = e.2 ∙ ap meaning_bytes same.meanings ∙ sym f.2; rests = same.rests }
one_element_of Close text bytes bytes' rest rest' e f = absurd e
one_element_of Unfinished text bytes bytes' rest rest' e f = absurd e

not_close : (kind : Element) (text bytes rest : List ℕ) → IsElementOf kind text bytes rest → kind ≡ Close → ⊥
not_close Plain text bytes rest e is = cc
not_close Backslash text bytes rest e is = cc
not_close Close text bytes rest e is = e
not_close Unfinished text bytes rest e is = e

-- what follows an element
record BehindElement (quote : ℕ) (bytes between content rest : List ℕ) : Type 0 where
  more : List ℕ
  is : content ≡ bytes ++ more
  quoted : Quoted quote between more rest

behind_element : {quote : ℕ} {text content rest : List ℕ} (bytes between : List ℕ) → IsElementOf (element_of quote text) text bytes between → Quoted quote text content rest → BehindElement quote bytes between content rest
behind_element {quote = quote} bytes between e (closes {text = text} close) = absurd (not_close (element_of quote text) text bytes between e close)
behind_element {quote = quote} bytes between e (goes_on {text = text} {content = content} {rest = rest} between' bytes' e' more) =
    let same = one_element_of (element_of quote text) text bytes' bytes between' between e' e in
    record { more = content; is = ap (λ b. b ++ content) same.contents; quoted = subst (λ t. Quoted quote t content rest) same.rests more }

pub one_quoted : {quote : ℕ} {text content content' rest rest' : List ℕ} → Quoted quote text content rest → Quoted quote text content' rest' → SameBytes content content' rest rest'
one_quoted (closes close) (closes close') = record { contents = refl; rests = refl }
one_quoted {quote = quote} (closes {text = text} close) (goes_on between' bytes' e' more') = absurd (not_close (element_of quote text) text bytes' between' e' close)
one_quoted {quote = quote} {text = text} (goes_on {content = content} between bytes e more) q' =
    let b = behind_element bytes between e q' in
    let same = one_quoted more b.quoted in
    record { contents = ap (λ c. bytes ++ c) same.contents ∙ sym b.is; rests = same.rests }

-- The front of the whole has this content, and the text is left.
pub record IsPart (quote : ℕ) (whole content text : List ℕ) : Type 0 where
  pub leads : (more rest : List ℕ) → Quoted quote text more rest → Quoted quote whole (content ++ more) rest
  pub only : (all rest : List ℕ) → Quoted quote whole all rest → (more : List ℕ) × (all ≡ content ++ more) × Quoted quote text more rest

pub part_begin : (quote : ℕ) (whole : List ℕ) → IsPart quote whole [] whole
part_begin quote whole = record { leads = λ more rest q. q; only = λ all rest q. (all, refl, q) }

pub part_next : (quote : ℕ) (whole content text bytes between : List ℕ) → IsPart quote whole content text → IsElementOf (element_of quote text) text bytes between → IsPart quote whole (content ++ bytes) between
part_next quote whole content text bytes between part e = record {
  leads = λ more rest q. subst (λ c. Quoted quote whole c rest) (sym (append_assoc content bytes more)) (part.leads (bytes ++ more) rest (goes_on between bytes e q));
  only = λ all rest q.
      let o = part.only all rest q in
      let b = behind_element bytes between e o.2 in
      (b.more, o.1 ∙ ap (λ c. content ++ c) b.is ∙ sym (append_assoc content bytes b.more), b.quoted);
}

pub part_end : (quote : ℕ) (whole content text : List ℕ) → IsPart quote whole content text → element_of quote text ≡ Close → Quoted quote whole content (drop 1 text)
part_end quote whole content text part close = subst (λ c. Quoted quote whole c (drop 1 text)) (append-nil content) (part.leads [] (drop 1 text) (closes close))

-- a string goes on at no text that has neither an element nor the closing quote
stuck : {quote : ℕ} {text content rest : List ℕ} → (element_of quote text ≡ Close → ⊥) → ((bytes between : List ℕ) → IsElementOf (element_of quote text) text bytes between → ⊥) → Quoted quote text content rest → ⊥
stuck not_closed none (closes close) = not_closed close
stuck not_closed none (goes_on between bytes e more) = none bytes between e

pub part_unfinished : (quote : ℕ) (whole content text : List ℕ) → IsPart quote whole content text → element_of quote text ≡ Unfinished → (all rest : List ℕ) → Quoted quote whole all rest → ⊥
part_unfinished quote whole content text part is all rest q =
    stuck (λ close. let bad = sym is ∙ close in cc) (λ bytes between e. let none : IsElementOf Unfinished text bytes between = subst (λ kind. IsElementOf kind text bytes between) is e in none) (part.only all rest q).2

pub part_unknown : (quote : ℕ) (whole content text : List ℕ) → IsPart quote whole content text → element_of quote text ≡ Backslash → ((meaning : Meaning) (rest : List ℕ) → IsEscape (drop 1 text) meaning rest → ⊥) → (all rest : List ℕ) → Quoted quote whole all rest → ⊥
part_unknown quote whole content text part is none all rest q =
    stuck (λ close. let bad = sym is ∙ close in cc) (λ bytes between e. let escape : IsElementOf Backslash text bytes between = subst (λ kind. IsElementOf kind text bytes between) is e in none escape.0 between escape.1) (part.only all rest q).2

-- a byte that stands for itself
pub part_plain : (quote : ℕ) (whole content text : List ℕ) (at : ℕ) → IsPart quote whole content (drop at text) → element_of quote (drop at text) ≡ Plain → IsPart quote whole (content ++ get_or text at 0 ∷ []) (drop (at + 1) text)
part_plain quote whole content text at part is =
    let byte : get_or (drop at text) 0 0 ≡ get_or text at 0 = get_or-drop at text 0 0 ∙ ap (λ n. get_or text n 0) (add-zero at) in
    let element : IsElementOf (element_of quote (drop at text)) (drop at text) (get_or text at 0 ∷ []) (drop (at + 1) text) =
    subst (λ kind. IsElementOf kind (drop at text) (get_or text at 0 ∷ []) (drop (at + 1) text)) (sym is) (ap (λ b. b ∷ []) (sym byte), sym (drop-drop 1 at text)) in
    part_next quote whole content (drop at text) (get_or text at 0 ∷ []) (drop (at + 1) text) part element

-- an escape
pub part_escape : (quote : ℕ) (whole content text : List ℕ) (at len : ℕ) (meaning : Meaning) → IsPart quote whole content (drop at text) → element_of quote (drop at text) ≡ Backslash → IsEscape (drop (at + 1) text) meaning (drop len (drop (at + 1) text)) → IsPart quote whole (content ++ meaning_bytes meaning) (drop (at + (1 + len)) text)
part_escape quote whole content text at len meaning part is escape =
    let rest : drop len (drop (at + 1) text) ≡ drop (at + (1 + len)) text = drop-drop len (at + 1) text ∙ ap (λ n. drop n text) (let e : at + 1 + len ≡ at + (1 + len) = omega arith in e) in
    let behind : drop (at + 1) text ≡ drop 1 (drop at text) = sym (drop-drop 1 at text) in
    let escape' : IsEscape (drop 1 (drop at text)) meaning (drop (at + (1 + len)) text) = subst (λ t. IsEscape t meaning (drop (at + (1 + len)) text)) behind (subst (IsEscape (drop (at + 1) text) meaning) rest escape) in
    part_next quote whole content (drop at text) (meaning_bytes meaning) (drop (at + (1 + len)) text) part (subst (λ kind. IsElementOf kind (drop at text) (meaning_bytes meaning) (drop (at + (1 + len)) text)) (sym is) (meaning, escape', refl))

pub part_no_escape : (quote : ℕ) (whole content text : List ℕ) (at : ℕ) → IsPart quote whole content (drop at text) → element_of quote (drop at text) ≡ Backslash → ((meaning : Meaning) (rest : List ℕ) → IsEscape (drop (at + 1) text) meaning rest → ⊥) → (all rest : List ℕ) → Quoted quote whole all rest → ⊥
part_no_escape quote whole content text at part is none =
    part_unknown quote whole content (drop at text) part is (λ meaning rest escape. none meaning rest (subst (λ t. IsEscape t meaning rest) (drop-drop 1 at text) escape))
