-- Permanents that are added one after another, each with its key.
use Rattle.std.proofs.Common.{arith, ℕ, zero, suc, ◌+◌, ◌≡◌, ◌<◌, ◌≤◌, false, cond, List, [], ◌∷◌, ◌++◌, Some, None, refl, sym, ◌∙◌, ap, length, map, take, get_or, Bor, append_assoc}
use Rattle.std.specs.Prelude.{is_some, slice_get}
use Rattle.int_core.specs.Value.{same}
use Rattle.list_laws.proofs.Tests.{eq_not}
use Rattle.image_core.specs.Image.{Perm, text_key}
use Rattle.image_core.specs.Records.{key_of}
use Rattle.graph_core.specs.declared.permanents.PermanentSort.{PermanentSort}
use Rattle.graph_core.specs.declared.permanents.PermanentSort.TheVariants.{Primitive, Table, Func, Coro}
use Rattle.graph_core.specs.Permanents.{value_of}
use Rattle.lua_stack.proofs.Parts.{take_next}
use Rattle.library_rows.specs.Library.{all_entries, key_of as key_of_entry}
use Rattle.library_rows.specs.PreludeText.{function_keys}
use Rattle.session_images.specs.Permanents.{by_keys, primitive_value, function_value, base_permanents}
use Rattle.session_images.proofs.Keys.{after_unkeyed}

differ : (sort : PermanentSort) (m n : ℕ) → m < n → same (value_of sort m) (value_of sort n) ≡ false
differ Primitive m n h = eq_not m n (λ e. omega (arith, h, e))
differ Table m n h = eq_not m n (λ e. omega (arith, h, e))
differ Func m n h = eq_not m n (λ e. omega (arith, h, e))
differ Coro m n h = eq_not m n (λ e. omega (arith, h, e))

-- a later one has no key yet
not_yet : (sort : PermanentSort) (from n : ℕ) (keys : List (List ℕ)) → from + length keys ≤ n → key_of (by_keys (value_of sort) from keys) (value_of sort n) ≡ None
not_yet sort from n [] h = refl
not_yet sort from n (key ∷ keys) h = ap (λ b. cond b (Some (text_key key)) (key_of (by_keys (value_of sort) (suc from) keys) (value_of sort n))) (differ sort from n (omega (arith, h))) ∙ not_yet sort (suc from) n keys (omega (arith, h))

more_keys : (sort : PermanentSort) (from : ℕ) (keys : List (List ℕ)) (key : List ℕ) → by_keys (value_of sort) from keys ++ record { object = value_of sort (from + length keys); key = text_key key } ∷ [] ≡ by_keys (value_of sort) from (keys ++ key ∷ [])
more_keys sort from [] key = let e : from + zero ≡ from = omega arith in ap (λ n. record { object = value_of sort n; key = text_key key } ∷ []) e
more_keys sort from (k ∷ keys) key =
    let e : from + suc (length keys) ≡ suc from + length keys = omega arith in
    ap (λ ps. record { object = value_of sort from; key = text_key k } ∷ ps)
    (ap (λ n. by_keys (value_of sort) (suc from) keys ++ record { object = value_of sort n; key = text_key key } ∷ []) e ∙ more_keys sort (suc from) keys key)

none_before : (n : ℕ) → n ≡ 0 + n
none_before n = omega arith

-- one more is added
pub added_more : (sort : PermanentSort) (initial now new : List Perm) (keys : List (List ℕ)) (key : List ℕ) (number : ℕ) → ((n : ℕ) → key_of initial (value_of sort n) ≡ None) → number ≡ length keys
    → now ≡ initial ++ by_keys (value_of sort) 0 keys
    → new ≡ cond (is_some (key_of now (value_of sort number))) now (now ++ record { object = value_of sort number; key = text_key key } ∷ [])
    → new ≡ initial ++ by_keys (value_of sort) 0 (keys ++ key ∷ [])
added_more sort initial now new keys key number none count is added =
    added ∙ ap (λ o. cond (is_some o) now (now ++ record { object = value_of sort number; key = text_key key } ∷ [])) unkeyed
    ∙ ap (λ ps. ps ++ record { object = value_of sort number; key = text_key key } ∷ []) is
    ∙ append_assoc initial (by_keys (value_of sort) 0 keys) (record { object = value_of sort number; key = text_key key } ∷ [])
    ∙ ap (λ ps. initial ++ ps) (ap (λ n. by_keys (value_of sort) 0 keys ++ record { object = value_of sort n; key = text_key key } ∷ []) (count ∙ none_before (length keys)) ∙ more_keys sort 0 keys key)
  where
    unkeyed : key_of now (value_of sort number) ≡ None
    unkeyed =
        ap (λ ps. key_of ps (value_of sort number)) is
        ∙ (after_unkeyed initial (by_keys (value_of sort) 0 keys) (value_of sort number) (none number) ∙ not_yet sort 0 number keys (omega (arith, count)))

-- the keys so far

pub length_take : (keys : List (Bor (List ℕ))) (n : ℕ) → n < length keys → n ≡ length (take n (map (λ k. k.now) keys))
length_take [] n h = absurd (omega (arith, h))
length_take (k ∷ keys) zero h = refl
length_take (k ∷ keys) (suc n) h = ap suc (length_take keys n (omega (arith, h)))

pub next_keys : (keys : List (List ℕ)) (n : ℕ) (key : List ℕ) → slice_get keys n ≡ Some key → take n keys ++ key ∷ [] ≡ take (n + 1) keys
next_keys keys n key h = let e : suc n ≡ n + 1 = omega arith in sym (take_next n keys key h) ∙ ap (λ m. take m keys) e

pub key_at : (keys : List (Bor (List ℕ))) (n : ℕ) (key : List ℕ) → n < length keys → key ≡ (get_or keys n (record { ref_ptr = (0, 0); now = [] })).now → slice_get (map (λ k. k.now) keys) n ≡ Some key
key_at [] n key h e = absurd (omega (arith, h))
key_at (k ∷ keys) zero key h e = ap Some (sym e)
key_at (k ∷ keys) (suc n) key h e = key_at keys n key (omega (arith, h)) e

base_is : by_keys primitive_value 0 (map key_of_entry all_entries) ++ by_keys function_value 0 function_keys ≡ base_permanents
unfolding base_permanents
base_is = refl

pub all_added : (first second third : List Perm) (ks fs : List (List ℕ)) → first ≡ [] → second ≡ first ++ by_keys (value_of Primitive) 0 ks → ks ≡ map key_of_entry all_entries
    → third ≡ second ++ by_keys (value_of Func) 0 fs → fs ≡ function_keys → third ≡ base_permanents
all_added first second third ks fs none primitives is functions are =
    functions ∙ (ap (λ ps. ps ++ by_keys (value_of Func) 0 fs) (primitives ∙ (ap (λ ps. ps ++ by_keys (value_of Primitive) 0 ks) none ∙ ap (λ ks. by_keys (value_of Primitive) 0 ks) is))
    ∙ (ap (λ fs. by_keys (value_of Primitive) 0 (map key_of_entry all_entries) ++ by_keys (value_of Func) 0 fs) are ∙ base_is))
