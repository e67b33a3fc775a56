-- Rows that are compared one after another, and a value that is compared with what an item stands for.
use Rattle.std.proofs.Common.{◌≡◌, ◌≤◌, ◌<◌, ℕ, zero, suc, ◌+◌, true, false, List, [], ◌∷◌, ◌++◌, Option, Some, None, length, map, take, get_or, Bor, refl, ap, sym, subst, ◌∙◌, arith}
use Rattle.std.specs.Prelude.{slice_get, bytes_eq}
use Rattle.std.specs.List.{list_any}
use Rattle.std.proofs.lemmas.Slice.Eq.{bytes_eq-Decides}
use Rattle.int_core.specs.Value.{string, Value, known, same, greatest_string}
use Rattle.table_core.specs.declared.value.Value.{Value as Kept}
use Rattle.table_core.specs.declared.value.Value.TheVariants.{Str}
use Rattle.table_core.specs.Value.{value_eq}
use Rattle.table_core.proofs.ValueLemmas.{value_eq-equal, value_eq-refl}
use Rattle.lua_heap.specs.Strings.{AreApart, AreShort}
use Rattle.lua_heap.specs.Reading.{row, value, text_of, text_or}
use Rattle.machine_sound.proofs.Lists.{get_map}
use Rattle.lua_opening.specs.declared.rows.Item.{Item}
use Rattle.lua_opening.specs.Opened.{meant}
use Rattle.lua_heap.proofs.Equal.{alike}
use Rattle.lua_stack.proofs.Parts.{take_next, take_whole}
use Rattle.list_laws.proofs.Tests.{or_left, or_right}
use Rattle.lua_opening.proofs.Worlds.{too_long_is}

some_so : {A : Type 0} {x y : A} → Some x ≡ Some y → x ≡ y
some_so e = cc

-- a value

pub value_told : (texts : List (List ℕ)) → AreApart texts → AreShort texts → (v w : Kept) (m : Value) → value texts w ≡ m → (value_eq v w ≡ true → value texts v ≡ m) × (value texts v ≡ m → value_eq v w ≡ true)
value_told texts a s v w m is = (
  λ h. ap (value texts) (value_eq-equal v w h) ∙ is,
  λ e. sym (alike texts a s v w) ∙ (ap (same (value texts v)) (is ∙ sym e) ∙ (alike texts a s v v ∙ value_eq-refl v)),
)

-- a text that no string has is what no value stands for

any_there : (text : List ℕ) (texts : List (List ℕ)) (n : ℕ) → slice_get texts n ≡ Some text → list_any (bytes_eq text) texts ≡ true
any_there text [] n e = absurd (cc)
any_there text (t ∷ texts) zero e = or_left (bytes_eq text t) (list_any (bytes_eq text) texts) ((bytes_eq-Decides text t).1 (sym (some_so e)))
any_there text (t ∷ texts) (suc n) e = or_right (bytes_eq text t) (list_any (bytes_eq text) texts) (any_there text texts n e)

text_known : (texts : List (List ℕ)) (text : List ℕ) (n : ℕ) → length text ≤ greatest_string → list_any (bytes_eq text) texts ≡ false → text_of texts n ≡ text → ⊥
text_known texts text n short absent e = by (slice_get texts n) refl e
  where
    by : (o : Option (List ℕ)) → slice_get texts n ≡ o → text_or n o ≡ text → ⊥
    by None g e = too_long_is n text short e
    by (Some t) g e = let there = any_there text texts n (g ∙ ap Some e) in cc

string_so : {s t : List ℕ} → known (string s) ≡ known (string t) → s ≡ t
string_so e = cc

pub no_text : (texts : List (List ℕ)) (text : List ℕ) → length text ≤ greatest_string → list_any (bytes_eq text) texts ≡ false → (v : Kept) → value texts v ≡ known (string text) → ⊥
no_text texts text short absent (Str id) e = text_known texts text id.0 short absent (string_so e)
no_text texts text short absent _ e = absurd (cc)

-- rows

abbrev pub named : Bor (List ℕ) × Item → Value × Value
named r = meant r.0.now r.1

pub length_map : {A B : Type 0} (f : A → B) (xs : List A) → length (map f xs) ≡ length xs
length_map f [] = refl
length_map f (x ∷ xs) = ap suc (length_map f xs)

pub at_default : {A : Type 0} (xs : List A) (n : ℕ) (d : A) → n < length xs → slice_get xs n ≡ Some (get_or xs n d)
at_default [] n d h = absurd (omega (arith, h))
at_default (x ∷ xs) zero d h = refl
at_default (x ∷ xs) (suc n) d h = at_default xs n d (omega (arith, h))

module _ (texts : List (List ℕ)) (held : List (Kept × Kept)) (rows : List (Bor (List ℕ) × Item)) where
  pub count_differs : (length held ≡ length rows → ⊥) → map (row texts) held ≡ map named rows → ⊥
  count_differs other is = other (sym (length_map (row texts) held) ∙ (ap length is ∙ length_map named rows))

  module _ (n : ℕ) (d : Bor (List ℕ) × Item) (k v : Kept) (within : n < length rows) (here : slice_get held n ≡ Some (k, v)) where
    held_at : slice_get (map (row texts) held) n ≡ Some (row texts (k, v))
    held_at = get_map (row texts) held n (k, v) here

    named_at : slice_get (map named rows) n ≡ Some (named (get_or rows n d))
    named_at = get_map named rows n (get_or rows n d) (at_default rows n d within)

    pub row_differs : (row texts (k, v) ≡ named (get_or rows n d) → ⊥) → map (row texts) held ≡ map named rows → ⊥
    row_differs other is = other (some_so (sym held_at ∙ (ap (λ l. slice_get l n) is ∙ named_at)))

    pub rows_more : row texts (k, v) ≡ named (get_or rows n d) → take n (map (row texts) held) ≡ take n (map named rows) → take (n + 1) (map (row texts) held) ≡ take (n + 1) (map named rows)
    rows_more same h =
        let next : n + 1 ≡ suc n = omega arith in
        subst (λ m. take m (map (row texts) held) ≡ take m (map named rows)) (sym next)
        (take_next n (map (row texts) held) (row texts (k, v)) held_at ∙ (ap (λ l. l ++ row texts (k, v) ∷ []) h ∙ sym (take_next n (map named rows) (row texts (k, v)) (named_at ∙ ap Some (sym same)))))

  pub rows_all : (n : ℕ) → length held ≡ length rows → n ≡ length rows → take n (map (row texts) held) ≡ take n (map named rows) → map (row texts) held ≡ map named rows
  rows_all n same end h =
      sym (take_whole (map (row texts) held))
      ∙ (ap (λ m. take m (map (row texts) held)) (length_map (row texts) held ∙ (same ∙ sym end))
      ∙ (h ∙ (ap (λ m. take m (map named rows)) (end ∙ sym (length_map named rows)) ∙ take_whole (map named rows))))
