-- Keys that are added one by one: each is new, or one of those before it.
use Rattle.std.proofs.Common.{◌≡◌, ℕ, ℤ, pos, negsuc, zero, suc, ◌+◌, List, [], ◌∷◌, ◌++◌, Some, map, take, Bool, true, false, refl, sym, ap, ◌∙◌, subst, arith, tests, ⊎_elim}
use Rattle.std.specs.Prelude.{cond, not, slice_get, ◌||◌}
use Rattle.indexmap.specs.IndexSet.{insert_key}
use Rattle.std.specs.List.{list_any}
use Rattle.std.specs.Ordering.{int_eq}
use Rattle.std.proofs.lemmas.Slice.Eq.{bytes_eq-Decides}
use Rattle.list_laws.proofs.Items.{some_same}
use Rattle.machine_sound.proofs.Lists.{get_map, get_take, map_get, push_cases}
use Rattle.image_core.specs.Image.{PermKey, number_key, text_key, Perm}
use Rattle.lua_stack.proofs.Parts.{take_next}
use Rattle.graph_core.specs.Inverse.{KeysAreOnce}
use Rattle.graph_core.proofs.Meeting.{map_more}
use Rattle.eris_write.specs.declared.keys.Key.{Key}
use Rattle.eris_write.specs.declared.keys.Key.TheVariants.{Number, Text}
use Rattle.eris_write.specs.contracts.keys.KeyPartialEq.TheImpl as key_impl
use Rattle.eris_write.specs.Keys.{HaveEqualKeys, shown}

abbrev pub key_eq : Key → Key → Bool
key_eq = (key_impl.ghosts).eq

integers_same : (m n : ℤ) → int_eq m n ≡ true → m ≡ n
integers_same (pos m) (pos n) h = let e : m ≡ n = grind (arith, tests) in ap pos e
integers_same (negsuc m) (negsuc n) h = let e : m ≡ n = grind (arith, tests) in ap negsuc e
integers_same (pos m) (negsuc n) h = absurd (cc)
integers_same (negsuc m) (pos n) h = absurd (cc)

integer_itself : (m : ℤ) → int_eq m m ≡ true
integer_itself (pos m) = grind (arith, tests)
integer_itself (negsuc m) = grind (arith, tests)

key_same : (a b : Key) → key_eq a b ≡ true → shown a ≡ shown b
key_same (Number m) (Number n) h = ap number_key (integers_same m n h)
key_same (Text s) (Text t) h = ap text_key ((bytes_eq-Decides s.now t.now).0 h)
key_same (Number m) (Text t) h = absurd (cc)
key_same (Text s) (Number n) h = absurd (cc)

number_in : PermKey → ℤ → ℤ
number_in (number_key n) m = n
number_in (text_key s) m = m

text_in : PermKey → List ℕ → List ℕ
text_in (text_key s) t = s
text_in (number_key n) t = t

same_key : (a b : Key) → shown a ≡ shown b → key_eq a b ≡ true
unfolding number_in text_in
same_key (Number m) (Number n) h = let e : m ≡ n = ap (λ k. number_in k m) h in subst (λ n. int_eq m n ≡ true) e (integer_itself m)
same_key (Text s) (Text t) h = let e : s.now ≡ t.now = ap (λ k. text_in k s.now) h in (bytes_eq-Decides s.now t.now).1 e
same_key (Number m) (Text t) h = absurd (cc)
same_key (Text s) (Number n) h = absurd (cc)

pub found_key : (ks : List Key) (k : Key) → list_any (key_eq k) ks ≡ true → (j : ℕ) × (slice_get (map shown ks) j ≡ Some (shown k))
found_key [] k h = absurd (cc)
found_key (x ∷ xs) k h = go (key_eq k x) refl h (found_key xs k)
  where
    go : (b : Bool) → key_eq k x ≡ b → b || list_any (key_eq k) xs ≡ true → (list_any (key_eq k) xs ≡ true → (j : ℕ) × (slice_get (map shown xs) j ≡ Some (shown k))) → (j : ℕ) × (slice_get (map shown (x ∷ xs)) j ≡ Some (shown k))
    go true e h ih = (0, ap Some (sym (key_same k x e)))
    go false e h ih = let r = ih h in (suc r.0, r.1)

pub not_key : (ks : List Key) (k : Key) (j : ℕ) → list_any (key_eq k) ks ≡ false → slice_get (map shown ks) j ≡ Some (shown k) → ⊥
not_key [] k j h g = absurd (cc)
not_key (x ∷ xs) k zero h g = let e : shown x ≡ shown k = some_same (shown x) (shown k) g in let t = same_key k x (sym e) in let f : true || list_any (key_eq k) xs ≡ false = ap (λ b. b || list_any (key_eq k) xs) (sym t) ∙ h in absurd (cc)
not_key (x ∷ xs) k (suc j) h g = go (key_eq k x) h (λ f. not_key xs k j f g)
  where
    go : (b : Bool) → b || list_any (key_eq k) xs ≡ false → (list_any (key_eq k) xs ≡ false → ⊥) → ⊥
    go true h ih = absurd (cc)
    go false h ih = ih h

abbrev pub keys_of : List Perm → List PermKey
keys_of ps = map (λ (p : Perm). p.key) ps

-- the keys that were seen are those of the first permanents, each once
pub record AreSeen (ps : List Perm) (n : ℕ) (ks : List Key) : Type 0 where
  pub keys : map shown ks ≡ keys_of (take n ps)
  pub once : KeysAreOnce (take n ps)

pub seen_twice : (ps : List Perm) (n : ℕ) (ks : List Key) (p : Perm) (k : Key) → AreSeen ps n ks → slice_get ps n ≡ Some p → shown k ≡ p.key → list_any (key_eq k) ks ≡ true → HaveEqualKeys ps
seen_twice ps n ks p k s g e h =
    let r = found_key ks k h in
    let m = map_get (λ (p : Perm). p.key) (take n ps) r.0 (shown k) (ap (λ l. slice_get l r.0) (sym s.keys) ∙ r.1) in
    let t = get_take ps n r.0 m.0 m.1 in
    (n, record { first = r.0; one = m.0; other = p; before = t.1; is_one = t.0; is_other = g; equal = m.2 ∙ e })

pub one_more_seen : (ps : List Perm) (n : ℕ) (ks : List Key) (p : Perm) (k : Key) → AreSeen ps n ks → slice_get ps n ≡ Some p → shown k ≡ p.key → list_any (key_eq k) ks ≡ false → AreSeen ps (n + 1) (ks ++ k ∷ [])
one_more_seen ps n ks p k s g e h = record { keys = keys; once = once }
  where
    next : take (n + 1) ps ≡ take n ps ++ p ∷ []
    next = let on : n + 1 ≡ suc n = omega arith in ap (λ m. take m ps) on ∙ take_next n ps p g

    keys : map shown (ks ++ k ∷ []) ≡ keys_of (take (n + 1) ps)
    keys = map_more shown ks (k ∷ []) ∙ (ap (λ l. l ++ shown k ∷ []) s.keys ∙ (ap (λ x. keys_of (take n ps) ++ x ∷ []) e ∙ sym (ap keys_of next ∙ map_more (λ (p : Perm). p.key) (take n ps) (p ∷ []))))

    not_before : (i : ℕ) (q : Perm) → slice_get (take n ps) i ≡ Some q → q.key ≡ p.key → ⊥
    not_before i q f d = not_key ks k i h (ap (λ l. slice_get l i) s.keys ∙ get_map (λ (p : Perm). p.key) (take n ps) i q f ∙ ap Some (d ∙ sym e))

    all : (i j : ℕ) (q r : Perm) → slice_get (take n ps ++ p ∷ []) i ≡ Some q → slice_get (take n ps ++ p ∷ []) j ≡ Some r → q.key ≡ r.key → i ≡ j
    all i j q r f d same =
        ⊎_elim
        (λ a. ⊎_elim (λ b. s.once i j q r a b same) (λ b. absurd (not_before i q a (same ∙ ap (λ (p : Perm). p.key) (sym b.1)))) (push_cases (take n ps) p r j d))
        (λ a. ⊎_elim (λ b. absurd (not_before j r b (sym same ∙ ap (λ (p : Perm). p.key) (sym a.1)))) (λ b. a.0 ∙ sym b.0) (push_cases (take n ps) p r j d))
        (push_cases (take n ps) p q i f)

    once : KeysAreOnce (take (n + 1) ps)
    once = subst KeysAreOnce (sym next) all

pub twice_when : (ps : List Perm) (n : ℕ) (ks : List Key) (p : Perm) (k : Key) (r : Bool) → AreSeen ps n ks → Some p ≡ slice_get ps n → shown k ≡ p.key → r ≡ not (list_any (key_eq k) ks) → r ≡ false → HaveEqualKeys ps
twice_when ps n ks p k r s g e a f = seen_twice ps n ks p k s (sym g) e (turned (list_any (key_eq k) ks) (sym a ∙ f))
  where
    turned : (b : Bool) → not b ≡ false → b ≡ true
    turned true h = refl
    turned false h = absurd (cc)

pub more_when : (ps : List Perm) (n : ℕ) (ks new : List Key) (p : Perm) (k : Key) (r : Bool) → AreSeen ps n ks → Some p ≡ slice_get ps n → shown k ≡ p.key → new ≡ insert_key key_eq ks k → r ≡ not (list_any (key_eq k) ks) → r ≡ true → AreSeen ps (n + 1) new
more_when ps n ks new p k r s g e i a t =
    let f = turned (list_any (key_eq k) ks) (sym a ∙ t) in
    subst (AreSeen ps (n + 1)) (sym (i ∙ ap (λ b. cond b ks (ks ++ k ∷ [])) f)) (one_more_seen ps n ks p k s (sym g) e f)
  where
    turned : (b : Bool) → not b ≡ true → b ≡ false
    turned true h = absurd (cc)
    turned false h = refl

pub none_seen : (ps : List Perm) (ks : List Key) → ks ≡ [] → AreSeen ps 0 ks
none_seen ps ks e = record { keys = ap (map shown) e; once = λ i j p q f g d. absurd (cc) }
