-- Values as they stand in an image.
use Rattle.std.proofs.Common.{arith, ℕ, ◌<◌, ◌≤◌, ◌^◌, ◌≡◌, List, [], ◌∷◌, Option, Some, None, refl, sym, ap, ◌∙◌, length, Bool, true, false, cond}
use Rattle.std.specs.Prelude.{nat_eq, nat_le}
use Rattle.std.specs.List.{list_any}
use Rattle.code_core.specs.Writable.{signed_fits}
use Rattle.int_core.specs.Value.{nil, boolean, integer, string, primitive, Plain, Kind, a_table, a_function, a_coroutine, greatest_string, bind}
use Rattle.image_core.specs.Image.{PermKey, number_key, text_key, Item, plain, numbered, permanent, environment}
use Rattle.image_core.specs.Numbers.{meeting, item_numbers}
use Rattle.image_bytes.specs.Format.{allowed, word, raw, when}
use Rattle.image_bytes.specs.Bytes.{Reader, text, key, sort_at, reference, is_sort, named_key, item_body, item_format, only}
use Rattle.images_stand.specs.Standing.{KeyFits}
use Rattle.images_stand.proofs.Walks.{Walks, Costs, word_walks, integer_walks, raw_walks, nothing_walks, followed_walks, tested_walks, case_walks, tagged_walks, tagged_costs}
use Rattle.machine_sound.proofs.Values.{lt_true}

text_below : (n : ℕ) → n ≤ greatest_string → n < 2 ^ 32
text_below n h = omega (arith, h)

text_within : (n : ℕ) → n ≤ greatest_string → nat_le n greatest_string ≡ true
text_within n h = search (arith, h)

pub text_walks : {count : ℕ} (s : List ℕ) → length s ≤ greatest_string → Walks count text s []
unfolding text
text_walks s h = case_walks _ _ s (length s, s) [] refl (followed_walks raw (length s, s) [] [] (tested_walks _ _ (length s) [] (text_within (length s) h) (word_walks (length s) (text_below (length s) h))) (raw_walks s))

pub key_walks : {count : ℕ} (k : PermKey) → KeyFits k → Walks count key k []
unfolding key when
key_walks (number_key n) h = tagged_walks _ _ (number_key n) [] (case_walks _ _ (number_key n) n [] refl (integer_walks n h))
key_walks (text_key s) h = tagged_walks _ _ (text_key s) [] (case_walks _ _ (text_key s) s [] refl (text_walks s h))

abbrev pub Refers : List ℕ → List ℕ → ℕ → Type 0
Refers sorts wanted n = (n < 2 ^ 32) × (list_any (nat_eq (sort_at sorts n)) wanted ≡ true)

the_last : (o : Option ℕ) → bind o (λ m. Some m) ≡ o
the_last None = refl
the_last (Some m) = refl

pub reference_walks : (sorts wanted : List ℕ) (n : ℕ) → Refers sorts wanted n → Walks (length sorts) (reference sorts wanted) n (n ∷ [])
unfolding reference word
reference_walks sorts wanted n h = record {
  walks = λ met small.
      ap (λ b. cond b (bind (word.after met n) (λ m. meeting (length sorts) m n)) None) h.1
      ∙ (ap (λ b. bind (allowed b met) (λ m. meeting (length sorts) m n)) (lt_true n (2 ^ 32) h.0) ∙ sym (the_last (meeting (length sorts) met n)));
}

module _ (R : Reader) where
  abbrev pub PlainStands : Plain → Type 0
  PlainStands (integer n) = signed_fits 63 n ≡ true
  PlainStands (string s) = length s ≤ greatest_string
  PlainStands (primitive n) = ⊥
  PlainStands _ = Unit {0}

  abbrev pub ItemStands : Item → Type 0
  ItemStands (plain p) = PlainStands p
  ItemStands (numbered n) = Refers R.sorts (1 ∷ 2 ∷ 4 ∷ []) n
  ItemStands (permanent kind k) = KeyFits k × (is_sort kind (R.sort_named k) ≡ true)
  ItemStands environment = Unit {0}

  named_walks : {count : ℕ} (kind : Kind) (k : PermKey) → KeyFits k → is_sort kind (R.sort_named k) ≡ true → Walks count (named_key R kind) k []
  unfolding named_key
  named_walks kind k h e = tested_walks _ _ k [] e (key_walks k h)

  pub item_walks : (i : Item) → ItemStands i → Walks (length R.sorts) (item_format R) i (item_numbers i)
  unfolding item_format item_body when
  item_walks (plain nil) h = tagged_walks _ _ (plain nil) [] (case_walks _ _ (plain nil) tt [] refl (nothing_walks tt))
  item_walks (plain (boolean false)) h = tagged_walks _ _ (plain (boolean false)) [] (case_walks _ _ (plain (boolean false)) tt [] refl (nothing_walks tt))
  item_walks (plain (boolean true)) h = tagged_walks _ _ (plain (boolean true)) [] (case_walks _ _ (plain (boolean true)) tt [] refl (nothing_walks tt))
  item_walks (plain (integer n)) h = tagged_walks _ _ (plain (integer n)) [] (case_walks _ _ (plain (integer n)) n [] refl (integer_walks n h))
  item_walks (plain (string s)) h = tagged_walks _ _ (plain (string s)) [] (case_walks _ _ (plain (string s)) s [] refl (text_walks s h))
  item_walks (plain (primitive n)) h = absurd h
  item_walks (numbered n) h = tagged_walks _ _ (numbered n) (n ∷ []) (case_walks _ _ (numbered n) n (n ∷ []) refl (reference_walks R.sorts (1 ∷ 2 ∷ 4 ∷ []) n h))
  item_walks (permanent a_function k) h = tagged_walks _ _ (permanent a_function k) [] (case_walks _ _ (permanent a_function k) k [] refl (named_walks a_function k h.0 h.1))
  item_walks (permanent a_table k) h = tagged_walks _ _ (permanent a_table k) [] (case_walks _ _ (permanent a_table k) k [] refl (named_walks a_table k h.0 h.1))
  item_walks (permanent a_coroutine k) h = tagged_walks _ _ (permanent a_coroutine k) [] (case_walks _ _ (permanent a_coroutine k) k [] refl (named_walks a_coroutine k h.0 h.1))
  item_walks environment h = tagged_walks _ _ environment [] (case_walks _ _ environment tt [] refl (nothing_walks tt))

  pub item_costs : Costs (item_format R)
  unfolding item_format
  item_costs = tagged_costs _ _

  pub only_walks : (ok : Item → Bool) (i : Item) → ok i ≡ true → ItemStands i → Walks (length R.sorts) (only R ok) i (item_numbers i)
  unfolding only
  only_walks ok i e h = tested_walks _ _ i (item_numbers i) e (item_walks i h)
