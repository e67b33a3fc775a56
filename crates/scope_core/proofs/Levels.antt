-- The upvalues of one of the functions around, while names are met further in.
use Rattle.std.proofs.Common.{rules, arith, ℕ, zero, suc, ◌+◌, ◌≡◌, ◌<◌, Bool, true, false, ◌||◌, List, [], ◌∷◌, ◌++◌, Option, Some, None, refl, sym, ap, ap₂, ◌∙◌, subst, length, take, drop, if◌then◌else◌}
use Rattle.std.specs.Prelude.{position, is_some, option_map, cond}
use Rattle.std.specs.List.{list_any, position_from}
use Rattle.std.specs.Option.{option_map_or}
use Rattle.std.specs.Str.{bytes_eq}
use Rattle.std.proofs.lemmas.Iterator.Adapters.{position_from-zero}
use Rattle.std.proofs.lemmas.Slice.Eq.{bytes_eq-Decides}
use Rattle.tree_core.specs.declared.name.UpName.{UpName}
use Rattle.scope_core.specs.declared.frame.Source.{Source}
use Rattle.scope_core.specs.Scopes.{Frame, register_of, upvalue_of, is_local}
use Rattle.scope_core.specs.Places.{up_name, as_byte, upvalue_number}
use Rattle.scope_core.specs.Reaching.{captured_at, declared_at, source_in, reached}
use Rattle.scope_core.specs.Walked.{own_upvalues}
use Rattle.scope_core.proofs.Captures.{found_reached, missing_reached, no_register, pushed, same, absent}
use Rattle.scope_core.proofs.Growing.{Extends, extends_same, knows, knows_more, known_source, same_up_name}

abbrev pub add : (List ℕ → UpName) → List UpName → List ℕ → List UpName
add up us text = if is_some (upvalue_of text us) then us else us ++ up text ∷ []

abbrev pub add_all : (List ℕ → UpName) → List UpName → List (List ℕ) → List UpName
add_all up us [] = us
add_all up us (text ∷ texts) = add_all up (add up us text) texts

-- each upvalue of a function is known to those outside it
abbrev pub Closed : List Frame → Type 0
Closed [] = Unit {0}
Closed (f ∷ fs) = ((text : List ℕ) → is_some (upvalue_of text f.upvalues) ≡ true → knows fs text ≡ true) × Closed fs

pub reached_extends : (fs : List Frame) (text : List ℕ) → Extends fs (reached fs text)
reached_extends [] text = tt
reached_extends (f ∷ fs) text = by_source (source_in text f) refl (reached_extends fs text)
  where
    by_source : (o : Option Source) → source_in text f ≡ o → Extends fs (reached fs text) → Extends (f ∷ fs) (reached (f ∷ fs) text)
    by_source (Some s) e p = subst (λ gs. Extends (f ∷ fs) gs) (sym (found_reached text f fs s e)) (extends_same (f ∷ fs))
    by_source None e p = subst (λ gs. Extends (f ∷ fs) gs) (sym (missing_reached text f fs e)) (refl, (up_name (reached fs text) text ∷ [], refl), p)

text_by : (text : List ℕ) (r : Option ℕ) (number : ℕ) → (option_map_or {U = UpName} (λ register. record { text = text; in_stack = true; index = as_byte register }) r (record { text = text; in_stack = false; index = number })).text ≡ text
text_by text (Some r) number = refl
text_by text None number = refl

pub text_of_up : (fs : List Frame) (text : List ℕ) → (up_name fs text).text ≡ text
text_of_up [] text = refl
text_of_up (f ∷ fs) text = text_by text (register_of text f.variables) (upvalue_number text f)

pub knows_reached : (fs : List Frame) (text : List ℕ) → knows (reached fs text) text ≡ true
knows_reached [] text = refl
knows_reached (f ∷ fs) text = by_source (source_in text f) refl
  where
    by_source : (o : Option Source) → source_in text f ≡ o → knows (reached (f ∷ fs) text) text ≡ true
    by_source (Some s) e = ap (λ gs. knows gs text) (found_reached text f fs s e) ∙ ap is_some e
    by_source None e =
        let both : (register_of text f.variables ≡ None) × (upvalue_of text f.upvalues ≡ None) = no_register (register_of text f.variables) (upvalue_of text f.upvalues) e in
        let u : UpName = up_name (reached fs text) text in
        let last : upvalue_of text (f.upvalues ++ u ∷ []) ≡ Some (length f.upvalues) =
        pushed (λ (upvalue : UpName). bytes_eq upvalue.text text) f.upvalues u both.1 (ap (λ x. bytes_eq x text) (text_of_up (reached fs text) text) ∙ same text) in
        ap (λ gs. knows gs text) (missing_reached text f fs e)
        ∙ ap₂ (λ r p. is_some (option_map_or (λ x. Some (declared_at x)) r (option_map captured_at p))) both.0 last

missed_from : {X : Type 0} (p : X → Bool) (k : ℕ) (xs : List X) (x : X) → position_from p k xs ≡ None → p x ≡ false → position_from p k (xs ++ x ∷ []) ≡ None
missed_from p k [] x none no' = ap (λ b. cond b (Some k) None) no'
missed_from p k (y ∷ ys) x none no' = by_first (p y) none (λ rest. missed_from p (k + 1) ys x rest no')
  where
    by_first : (b : Bool) → cond b (Some k) (position_from p (k + 1) ys) ≡ None → (position_from p (k + 1) ys ≡ None → position_from p (k + 1) (ys ++ x ∷ []) ≡ None) → cond b (Some k) (position_from p (k + 1) (ys ++ x ∷ [])) ≡ None
    by_first true none go = absurd (absent (sym none))
    by_first false none go = go none

pub missed : (text : List ℕ) (us : List UpName) (u : UpName) → upvalue_of text us ≡ None → bytes_eq u.text text ≡ false → upvalue_of text (us ++ u ∷ []) ≡ None
missed text us u none no' =
    let has : UpName → Bool = λ (v : UpName). bytes_eq v.text text in
    position_from-zero has (us ++ u ∷ []) ∙ missed_from has 0 us u (sym (position_from-zero has us) ∙ none) no'

pub closed_reached : (fs : List Frame) (text : List ℕ) → Closed fs → Closed (reached fs text)
closed_reached [] text c = tt
closed_reached (f ∷ fs) text c = by_source (source_in text f) refl (closed_reached fs text c.1)
  where
    tops : (other : List ℕ) (q : Option ℕ) (b : Bool) → upvalue_of other f.upvalues ≡ q → bytes_eq (up_name (reached fs text) text).text other ≡ b → is_some (upvalue_of other (f.upvalues ++ up_name (reached fs text) text ∷ [])) ≡ true → knows (reached fs text) other ≡ true
    tops other (Some i) b e eq h = knows_more other fs (reached fs text) (reached_extends fs text) (c.0 other (ap is_some e))
    tops other None true e eq h =
        let is : other ≡ text = sym ((bytes_eq-Decides (up_name (reached fs text) text).text other).0 eq) ∙ text_of_up (reached fs text) text in
        ap (knows (reached fs text)) is ∙ knows_reached fs text
    tops other None false e eq h =
        let none : upvalue_of other (f.upvalues ++ up_name (reached fs text) text ∷ []) ≡ None = missed other f.upvalues (up_name (reached fs text) text) e eq in
        let bad : false ≡ true = sym (ap is_some none) ∙ h in
        absurd (search rules)

    by_source : (o : Option Source) → source_in text f ≡ o → Closed (reached fs text) → Closed (reached (f ∷ fs) text)
    by_source (Some s) e d = subst Closed (sym (found_reached text f fs s e)) c
    by_source None e d =
        subst Closed (sym (missing_reached text f fs e))
        ((λ other. tops other (upvalue_of other f.upvalues) (bytes_eq (up_name (reached fs text) text).text other) refl refl), d)

known_reached : (fs : List Frame) (text : List ℕ) → knows fs text ≡ true → reached fs text ≡ fs
known_reached [] text k = refl
known_reached (f ∷ fs) text k =
    let s = known_source (source_in text f) k in
    found_reached text f fs s.0 s.1

-- the upvalues of the function that stands n functions further out, where a name is met
abbrev pub leveled : (List ℕ → UpName) → List UpName → (local : Bool) → List ℕ → List UpName
leveled up us local text = if local then us else add up us text

pub level_named : (n : ℕ) (fs : List Frame) (text : List ℕ) (gs : List Frame) → Closed fs → n < length fs → Extends (drop (suc n) (reached fs text)) gs → own_upvalues (drop n (reached fs text)) ≡ leveled (up_name gs) (own_upvalues (drop n fs)) (list_any (is_local text) (take (suc n) fs)) text
level_named n [] text gs c h p = absurd (omega (arith, h))
level_named zero (f ∷ fs) text gs c h p = by (register_of text f.variables) (upvalue_of text f.upvalues) refl refl
  where
    right : (r q : Option ℕ) → register_of text f.variables ≡ r → upvalue_of text f.upvalues ≡ q → leveled (up_name gs) f.upvalues (option_map_or (λ (x : ℕ). true) r false || false) text ≡ leveled (up_name gs) f.upvalues (is_local text f || false) text
    right r q er eq = ap (λ x. leveled (up_name gs) f.upvalues (option_map_or (λ (y : ℕ). true) x false || false) text) (sym er)

    by : (r q : Option ℕ) → register_of text f.variables ≡ r → upvalue_of text f.upvalues ≡ q → own_upvalues (reached (f ∷ fs) text) ≡ leveled (up_name gs) f.upvalues (is_local text f || false) text
    by (Some i) q er eq =
        let s : source_in text f ≡ Some (declared_at i) = ap (λ r. option_map_or (λ x. Some (declared_at x)) r (option_map captured_at (upvalue_of text f.upvalues))) er in
        ap own_upvalues (found_reached text f fs (declared_at i) s) ∙ right (Some i) q er eq
    by None (Some j) er eq =
        let s : source_in text f ≡ Some (captured_at j) = ap₂ (λ r q. option_map_or (λ x. Some (declared_at x)) r (option_map captured_at q)) er eq in
        ap own_upvalues (found_reached text f fs (captured_at j) s)
        ∙ ap (λ q. if is_some q then f.upvalues else f.upvalues ++ up_name gs text ∷ []) (sym eq)
        ∙ right None (Some j) er eq
    by None None er eq =
        let s : source_in text f ≡ None = ap₂ (λ r q. option_map_or (λ x. Some (declared_at x)) r (option_map captured_at q)) er eq in
        let outer : Extends (reached fs text) gs = subst (λ hs. Extends (drop 1 hs) gs) (missing_reached text f fs s) p in
        ap own_upvalues (missing_reached text f fs s)
        ∙ ap (λ u. f.upvalues ++ u ∷ []) (same_up_name text (reached fs text) gs outer (knows_reached fs text))
        ∙ ap (λ q. if is_some q then f.upvalues else f.upvalues ++ up_name gs text ∷ []) (sym eq)
        ∙ right None None er eq
level_named (suc n) (f ∷ fs) text gs c h p = by (register_of text f.variables) (upvalue_of text f.upvalues) refl refl (level_named n fs text gs c.1 (omega (arith, h)))
  where
    us : List UpName
    us = own_upvalues (drop n fs)

    inner : Bool
    inner = list_any (is_local text) (take (suc n) fs)

    right : (r : Option ℕ) → register_of text f.variables ≡ r → leveled (up_name gs) us (option_map_or (λ (x : ℕ). true) r false || inner) text ≡ leveled (up_name gs) us (is_local text f || inner) text
    right r er = ap (λ x. leveled (up_name gs) us (option_map_or (λ (y : ℕ). true) x false || inner) text) (sym er)

    by : (r q : Option ℕ) → register_of text f.variables ≡ r → upvalue_of text f.upvalues ≡ q → (Extends (drop (suc n) (reached fs text)) gs → own_upvalues (drop n (reached fs text)) ≡ leveled (up_name gs) us inner text) → own_upvalues (drop (suc n) (reached (f ∷ fs) text)) ≡ leveled (up_name gs) us (is_local text f || inner) text
    by (Some i) q er eq go =
        let s : source_in text f ≡ Some (declared_at i) = ap (λ r. option_map_or (λ x. Some (declared_at x)) r (option_map captured_at (upvalue_of text f.upvalues))) er in
        ap (λ hs. own_upvalues (drop (suc n) hs)) (found_reached text f fs (declared_at i) s) ∙ right (Some i) er
    by None (Some j) er eq go =
        let s : source_in text f ≡ Some (captured_at j) = ap₂ (λ r q. option_map_or (λ x. Some (declared_at x)) r (option_map captured_at q)) er eq in
        let all : reached (f ∷ fs) text ≡ f ∷ fs = found_reached text f fs (captured_at j) s in
        let rest : reached fs text ≡ fs = known_reached fs text (c.0 text (ap is_some eq)) in
        let outer : Extends (drop (suc n) (reached fs text)) gs = subst (λ hs. Extends (drop (suc n) hs) gs) (sym rest) (subst (λ hs. Extends (drop (suc (suc n)) hs) gs) all p) in
        ap (λ hs. own_upvalues (drop (suc n) hs)) all
        ∙ ap (λ hs. own_upvalues (drop n hs)) (sym rest)
        ∙ go outer
        ∙ right None er
    by None None er eq go =
        let s : source_in text f ≡ None = ap₂ (λ r q. option_map_or (λ x. Some (declared_at x)) r (option_map captured_at q)) er eq in
        let outer : Extends (drop (suc n) (reached fs text)) gs = subst (λ hs. Extends (drop (suc (suc n)) hs) gs) (missing_reached text f fs s) p in
        ap (λ hs. own_upvalues (drop (suc n) hs)) (missing_reached text f fs s) ∙ go outer ∙ right None er
