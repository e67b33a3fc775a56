-- The keys of rows that are kept, and those of an image.
use Rattle.std.proofs.Common.{◌≡◌, ℕ, ℤ, pos, negsuc, List, [], ◌∷◌, ◌++◌, Bool, true, false, refl, sym, ap, ◌∙◌, arith, tests}
use Rattle.std.specs.Prelude.{◌||◌, ◌&&◌, not, if◌then◌else◌}
use Rattle.std.specs.Ordering.{int_eq}
use Rattle.std.specs.List.{list_any}
use Rattle.std.specs.Borrow.{Bor}
use Rattle.std.proofs.lemmas.List.Folds.{list_any-append}
use Rattle.std.proofs.Math.Path.{fun_ext}
use mathlib.Core.Bool.{beq}
use Rattle.indexmap.specs.IndexSet.{insert_key}
use Rattle.int_core.specs.Value.{same_integer, same_truth}
use Rattle.image_core.specs.Image.{Item}
use Rattle.image_bytes.specs.Bytes.{is_nil_item, is_new_key}
use Rattle.image_records.specs.declared.known.Known.{Known}
use Rattle.image_reading.specs.declared.rows.RowKey.{RowKey as Own}
use Rattle.image_reading.specs.declared.rows.RowKey.TheVariants.{Nil, Bool as Boolean, Int, Text, Numbered, Primitive, Table, Function, Coroutine}
use Rattle.image_reading.specs.contracts.rows.RowKeyPartialEq.TheImpl as own_impl
use Rattle.image_reading.specs.Reader.{same_row_key, reader_of}
use Rattle.image_reading.specs.Rows.{own_key, key_in, AreKeysOf}

abbrev pub own_eq : Own → Own → Bool
own_eq = (own_impl.ghosts).eq

truths : (a b : Bool) → beq a b ≡ same_truth a b
truths true true = refl
truths false false = refl
truths _ _ = refl

integers_same : (m n : ℤ) → int_eq m n ≡ same_integer m n
integers_same (pos m) (pos n) = grind (arith, tests)
integers_same (negsuc m) (negsuc n) = grind (arith, tests)
integers_same _ _ = refl

texts_same : (s t : Bor (List ℕ)) → own_eq (Text s) (Text t) ≡ same_row_key (own_key (Text s)) (own_key (Text t))
texts_same s t = refl

pub own_same : (a b : Own) → own_eq a b ≡ same_row_key (own_key a) (own_key b)
own_same Nil Nil = refl
own_same Nil _ = refl
own_same (Boolean x) (Boolean y) = truths x y
own_same (Boolean x) _ = refl
own_same (Int x) (Int y) = integers_same x y
own_same (Int x) _ = refl
own_same (Text x) (Text y) = texts_same x y
own_same (Text x) _ = refl
own_same (Numbered x) (Numbered y) = refl
own_same (Numbered x) _ = refl
own_same (Primitive x) (Primitive y) = refl
own_same (Primitive x) _ = refl
own_same (Table x) (Table y) = refl
own_same (Table x) _ = refl
own_same (Function x) (Function y) = refl
own_same (Function x) _ = refl
own_same (Coroutine x) (Coroutine y) = refl
own_same (Coroutine x) _ = refl

-- whether a key is held
held : (own : Own) (keys : List Own) → list_any (own_eq own) keys ≡ list_any (λ o. same_row_key (own_key own) (own_key o)) keys
held own keys = ap (λ p. list_any p keys) (fun_ext (own_same own))

inserted : (own : Own) (keys : List Own) (p : Own → Bool) → list_any (own_eq own) keys ≡ false → list_any p (insert_key own_eq keys own) ≡ (p own || list_any p keys)
inserted own keys p none =
    ap (λ c. list_any p (if c then keys else keys ++ own ∷ [])) none ∙ (list_any-append p keys (own ∷ []) ∙ turned (list_any p keys) (p own))
  where
    turned : (a b : Bool) → (a || (b || false)) ≡ (b || a)
    turned true true = refl
    turned true false = refl
    turned false true = refl
    turned false false = refl

module _ (k : Known) (keys : List Own) (seen : List Item) (i : Item) (own : Own) (are : AreKeysOf k keys seen) (is : own_key own ≡ key_in k i) where
  seen_told : list_any (own_eq own) keys ≡ list_any (λ o. same_row_key (key_in k i) (key_in k o)) seen
  seen_told = held own keys ∙ (are.same (own_key own) ∙ ap (λ x. list_any (λ o. same_row_key x (key_in k o)) seen) is)

  pub told : (b : Bool) → list_any (own_eq own) keys ≡ b → is_nil_item (reader_of k) i ≡ false → is_new_key (reader_of k) seen i ≡ not b
  told b e n = ap (λ x. not x && not (list_any (λ o. same_row_key (key_in k i) (key_in k o)) seen)) n ∙ ap not (sym seen_told ∙ e)

  pub keys_more : (new : List Own) → new ≡ insert_key own_eq keys own → list_any (own_eq own) keys ≡ false → AreKeysOf k new (i ∷ seen)
  keys_more new e none = record {
    same = λ x.
        ap (list_any (λ o. same_row_key x (own_key o))) e
        ∙ (inserted own keys (λ o. same_row_key x (own_key o)) none
        ∙ (ap (λ y. same_row_key x y || list_any (λ o. same_row_key x (own_key o)) keys) is
        ∙ ap (λ b. same_row_key x (key_in k i) || b) (are.same x)));
  }

pub nil_is_old : (k : Known) (seen : List Item) (i : Item) → is_nil_item (reader_of k) i ≡ true → is_new_key (reader_of k) seen i ≡ false
nil_is_old k seen i n = ap (λ x. not x && not (list_any (λ o. same_row_key (key_in k i) (key_in k o)) seen)) n

module _ (k : Known) (keys : List Own) (seen : List Item) (i : Item) (own : Own) (are : AreKeysOf k keys seen) (is : (is_nil_item (reader_of k) i ≡ false) × (own_key own ≡ key_in k i)) where
  fresh : (b : Bool) → true ≡ not b → b ≡ false
  fresh true e = absurd (cc)
  fresh false e = refl

  found : (b : Bool) → false ≡ not b → b ≡ true
  found true e = refl
  found false e = absurd (cc)

  pub fresh_key : (new : List Own) (b : Bool) → b ≡ not (list_any (own_eq own) keys) → b ≡ true → new ≡ insert_key own_eq keys own
      → (is_new_key (reader_of k) seen i ≡ true) × AreKeysOf k new (i ∷ seen)
  fresh_key new b e t n =
      let none = fresh (list_any (own_eq own) keys) (sym t ∙ e) in
      (told k keys seen i own are is.1 false none is.0, keys_more k keys seen i own are is.1 new n none)

  pub old_key : (b : Bool) → b ≡ not (list_any (own_eq own) keys) → b ≡ false → is_new_key (reader_of k) seen i ≡ false
  old_key b e t = told k keys seen i own are is.1 true (found (list_any (own_eq own) keys) (sym t ∙ e)) is.0
