-- A concatenation by the texts of its operands.
use Rattle.std.proofs.Common.{◌≡◌, ℕ, Bool, true, false, cond, List, [], ◌∷◌, Option, Some, None, refl, ap, sym, ◌∙◌, true≢false}
use Rattle.std.specs.Prelude.{codes}
use Rattle.int_core.specs.Heap.{Heap}
use Rattle.int_core.specs.Operations.{Settled, of_concat, asked, concat_on, fault, handler_of, is_text, of_type, text_of}
use Rattle.int_core.specs.Value.{Value}

abbrev is_some_text : Option (List ℕ) → Bool
is_some_text None = false
is_some_text (Some text) = true

pub record HasText (v : Value) : Type 0 where
  pub text : List ℕ
  pub is : text_of v ≡ Some text

pub has_text : (v : Value) → is_text v ≡ true → HasText v
has_text v some = by (text_of v) refl some
  where
    by : (o : Option (List ℕ)) → text_of v ≡ o → is_some_text o ≡ true → HasText v
    by None e h = absurd (true≢false (sym h))
    by (Some text) e h = record { text = text; is = e }

no_text : (v : Value) → is_text v ≡ false → text_of v ≡ None
no_text v none = by (text_of v) refl none
  where
    by : (o : Option (List ℕ)) → text_of v ≡ o → is_some_text o ≡ false → text_of v ≡ None
    by None e h = e
    by (Some text) e h = absurd (true≢false h)

module _ (H : Heap) (l r : Value) where
  abbrev refused : Value → Settled
  refused wrong = asked (handler_of H of_concat l r) (l ∷ r ∷ []) (fault (of_type (codes "concatenate") wrong))

  pub left-without : is_text l ≡ false → concat_on H (text_of l) (text_of r) l r ≡ refused l
  left-without none = ap (λ o. concat_on H o (text_of r) l r) (no_text l none) ∙ ap refused (ap (λ b. cond b r l) none)

  pub right-without : is_text l ≡ true → is_text r ≡ false → concat_on H (text_of l) (text_of r) l r ≡ refused r
  right-without some none =
      let s = has_text l some in
      ap (λ o. concat_on H o (text_of r) l r) s.is ∙ ap (λ o. concat_on H (Some s.text) o l r) (no_text r none) ∙ ap refused (ap (λ b. cond b r l) some)
