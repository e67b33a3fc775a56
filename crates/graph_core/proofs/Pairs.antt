-- Permanents that are inverse to each other, by look-ups.
use Rattle.std.proofs.Common.{arith, tests, ◌≡◌, ℕ, ℤ, zero, suc, ◌<◌, ◌≤◌, List, [], ◌∷◌, Option, Some, None, map, Bool, true, false, Decides, cond, refl, sym, ap, ap₂, ◌∙◌, subst, ⊎_elim, true≢false, length}
use Rattle.std.specs.Prelude.{slice_get, nat_eq}
use Rattle.std.specs.List.{AllByRecursion, IsDistinct}
use Rattle.std.specs.Map.{lookup, keys_of}
use Rattle.std.specs.Option.{option_map}
use Rattle.std.proofs.lemmas.Bool.{cases_order}
use Rattle.std.proofs.lemmas.Bool.Decides.{Decides-int_eq}
use Rattle.std.proofs.lemmas.List.{length-map}
use Rattle.std.proofs.lemmas.Map.Entries.{place_from_lookup}
use Rattle.std.proofs.lemmas.Map.Keys.{IsDistinct-head, IsDistinct-tail}
use Rattle.std.proofs.lemmas.Option.{slice_get-map, slice_get_within}
use Rattle.std.proofs.lemmas.Slice.Eq.{bytes_eq-Decides}
use Rattle.int_core.specs.Value.{Value, same}
use Rattle.list_laws.proofs.Items.{some_same}
use Rattle.image_core.specs.Image.{PermKey, number_key, text_key, Perm}
use Rattle.image_core.specs.Records.{key_of}
use Rattle.graph_core.specs.declared.permanents.Permanent.{Permanent}
use Rattle.graph_core.specs.declared.permanents.PermanentKey.{PermanentKey}
use Rattle.graph_core.specs.declared.permanents.PermanentKey.TheVariants.{Number, Text}
use Rattle.graph_core.specs.declared.permanents.PermanentSort.{PermanentSort}
use Rattle.graph_core.specs.declared.permanents.PermanentSort.TheVariants.{Primitive, Table, Func, Coro}
use Rattle.graph_core.specs.contracts.permanents.PermanentKeyPartialEq.TheImpl as key_impl
use Rattle.graph_core.specs.Inverse.{AreAmong, HaveKeysAmong, Inverse, KeyIsBefore, KeysAreOnce, ObjectsAreOnce}
use Rattle.graph_core.specs.Permanents.{key_read, object_read, permanent, value_of}
use Rattle.graph_core.proofs.Named.{found, permanent_eq, read_same}
use Rattle.list_laws.proofs.Tests.{eq_refl, eq_true}

-- keys and objects that are the same

abbrev pub key_eq : PermanentKey → PermanentKey → Bool
key_eq = (key_impl.ghosts).eq

pub number_in : PermKey → ℤ → ℤ
number_in (number_key n) m = n
number_in (text_key s) m = m

pub text_in : PermKey → List ℕ → List ℕ
text_in (text_key s) t = s
text_in (number_key n) t = t

key_same : (a b : PermanentKey) → key_eq a b ≡ true → key_read a ≡ key_read b
key_same (Number m) (Number n) h = ap number_key ((Decides-int_eq m n).0 h)
key_same (Text s) (Text t) h = ap text_key ((bytes_eq-Decides s.items t.items).0 h)
key_same (Number m) (Text t) h = absurd (cc)
key_same (Text s) (Number n) h = absurd (cc)

same_key : (a b : PermanentKey) → key_read a ≡ key_read b → key_eq a b ≡ true
unfolding number_in text_in
same_key (Number m) (Number n) h = (Decides-int_eq m n).1 (ap (λ k. number_in k m) h)
same_key (Text s) (Text t) h = (bytes_eq-Decides s.items t.items).1 (ap (λ k. text_in k s.items) h)
same_key (Number m) (Text t) h = absurd (cc)
same_key (Text s) (Number n) h = absurd (cc)

read_itself : (s : PermanentSort) (n : ℕ) → same (value_of s n) (value_of s n) ≡ true
read_itself Primitive n = eq_refl n
read_itself _ n = eq_refl n

object_same : (o p : Permanent) → object_read o ≡ object_read p → permanent_eq o p ≡ true
object_same o p e = read_same o p ∙ (ap (same (object_read p)) e ∙ read_itself p.sort p.number)

same_object : (o p : Permanent) → permanent_eq o p ≡ true → object_read o ≡ object_read p
same_object o p e = go o.sort p.sort o.number p.number e
  where
    go : (s t : PermanentSort) (m n : ℕ) → permanent_eq (record { sort = s; number = m }) (record { sort = t; number = n }) ≡ true → value_of s m ≡ value_of t n
    go Primitive Primitive m n h = ap (value_of Primitive) (eq_true m n h)
    go Table Table m n h = ap (value_of Table) (eq_true m n h)
    go Func Func m n h = ap (value_of Func) (eq_true m n h)
    go Coro Coro m n h = ap (value_of Coro) (eq_true m n h)
    go _ _ m n h = absurd (cc)

-- objects stand once in a map

apart : (o : Permanent) (es : List (Permanent × PermanentKey)) → AllByRecursion (λ k. permanent_eq o k ≡ false) (keys_of es) → (j : ℕ) (q : Perm) → slice_get (map permanent es) j ≡ Some q → object_read o ≡ q.object → ⊥
apart o [] all j q g h = absurd (cc)
apart o (e ∷ es) all zero q g h = let is : permanent e ≡ q = some_same (permanent e) q g in true≢false (sym (object_same o e.0 (h ∙ sym (ap (λ (p : Perm). p.object) is))) ∙ all.0)
apart o (e ∷ es) all (suc j) q g h = apart o es all.1 j q g h

pub objects_once : (es : List (Permanent × PermanentKey)) → IsDistinct permanent_eq (keys_of es) → ObjectsAreOnce (map permanent es)
objects_once [] d i j p q f g h = absurd (cc)
objects_once (e ∷ es) d zero zero p q f g h = refl
objects_once (e ∷ es) d zero (suc j) p q f g h =
    let is : permanent e ≡ p = some_same (permanent e) p f in
    absurd (apart e.0 es (IsDistinct-head permanent_eq e.0 (keys_of es) d) j q g (ap (λ (p : Perm). p.object) is ∙ h))
objects_once (e ∷ es) d (suc i) zero p q f g h =
    let is : permanent e ≡ q = some_same (permanent e) q g in
    absurd (apart e.0 es (IsDistinct-head permanent_eq e.0 (keys_of es) d) i p f (ap (λ (p : Perm). p.object) is ∙ sym h))
objects_once (e ∷ es) d (suc i) (suc j) p q f g h = ap suc (objects_once es (IsDistinct-tail permanent_eq e.0 (keys_of es) d) i j p q f g h)

-- look-ups

pub has_some : (es : List (Permanent × PermanentKey)) (o : Permanent) (own key : PermanentKey) (r : Bool) → Some own ≡ lookup (permanent_eq o) es → r ≡ key_eq own key
    → Decides r (key_of (map permanent es) (object_read o) ≡ Some (key_read key))
has_some es o own key r g e =
    let k : Some (key_read own) ≡ key_of (map permanent es) (object_read o) = ap (option_map key_read) g ∙ found es o in
    (λ t. sym k ∙ ap Some (key_same own key (sym e ∙ t)), λ h. e ∙ same_key own key (some_same (key_read own) (key_read key) (k ∙ h)))

pub has_none : (es : List (Permanent × PermanentKey)) (o : Permanent) (key : PermKey) → None ≡ lookup (permanent_eq o) es → Decides false (key_of (map permanent es) (object_read o) ≡ Some key)
has_none es o key g =
    let k : None ≡ key_of (map permanent es) (object_read o) = ap (option_map key_read) g ∙ found es o in
    (λ t. absurd (true≢false (sym t)), λ h. absurd (none_some (k ∙ h)))
  where
    none_some : None ≡ Some key → ⊥
    none_some e = absurd (cc)

abbrev perm : Value → PermKey → Perm
perm v key = record { object = v; key = key }

-- what has a key is among the permanents with it
stands : (es : List (Permanent × PermanentKey)) (o : Permanent) (key : PermKey) → key_of (map permanent es) (object_read o) ≡ Some key → (j : ℕ) × (slice_get (map permanent es) j ≡ Some (perm (object_read o) key))
stands es o key h = go (lookup (permanent_eq o) es) refl (found es o ∙ h)
  where
    go : (r : Option PermanentKey) → lookup (permanent_eq o) es ≡ r → option_map key_read r ≡ Some key → (j : ℕ) × (slice_get (map permanent es) j ≡ Some (perm (object_read o) key))
    go None e k = absurd (cc)
    go (Some v) e k =
        let l = place_from_lookup (permanent_eq o) es v e in
        (l.0, slice_get-map permanent es l.0 ∙ (ap (option_map permanent) l.2 ∙ ap Some (ap₂ perm (sym (same_object o l.1 l.3)) (some_same (key_read v) key k))))

-- each permanent has some key
has_key : (es : List (Permanent × PermanentKey)) (j : ℕ) (p : Perm) → slice_get (map permanent es) j ≡ Some p → (key : PermKey) × (key_of (map permanent es) p.object ≡ Some key)
has_key [] j p g = absurd (cc)
has_key (e ∷ es) zero p g =
    let is : permanent e ≡ p = some_same (permanent e) p g in
    let first : same (object_read e.0) p.object ≡ true = ap (λ (q : Perm). same (object_read e.0) q.object) (sym is) ∙ read_itself e.0.sort e.0.number in
    (key_read e.1, ap (λ b. cond b (Some (key_read e.1)) (key_of (map permanent es) p.object)) first)
has_key (e ∷ es) (suc j) p g = go (same (object_read e.0) p.object) (has_key es j p g)
  where
    go : (b : Bool) → (key : PermKey) × (key_of (map permanent es) p.object ≡ Some key) → (key : PermKey) × (cond b (Some (key_read e.1)) (key_of (map permanent es) p.object) ≡ Some key)
    go true r = (key_read e.1, refl)
    go false r = r

-- the entry that a permanent stands for
entry : (es : List (Permanent × PermanentKey)) (j : ℕ) (p : Perm) → slice_get (map permanent es) j ≡ Some p → (e : Permanent × PermanentKey) × (permanent e ≡ p)
entry [] j p g = absurd (cc)
entry (e ∷ es) zero p g = (e, some_same (permanent e) p g)
entry (e ∷ es) (suc j) p g = entry es j p g

pub among : (es fs : List (Permanent × PermanentKey)) → HaveKeysAmong (map permanent es) (map permanent fs) → AreAmong (map permanent es) (map permanent fs)
among es fs h i p g =
    let e = entry es i p g in
    let k : key_of (map permanent fs) (object_read e.0.0) ≡ Some p.key = ap (λ (q : Perm). key_of (map permanent fs) q.object) e.1 ∙ h i p g in
    let s = stands fs e.0.0 p.key k in
    (s.0, s.1 ∙ ap (λ v. Some (perm v p.key)) (ap (λ (q : Perm). q.object) e.1))

-- what is among others has its key there, where the others are among permanents whose objects stand once
pub keys_among : (es fs gs : List (Permanent × PermanentKey)) → AreAmong (map permanent es) (map permanent fs) → AreAmong (map permanent fs) (map permanent gs) → AreAmong (map permanent es) (map permanent gs)
    → ObjectsAreOnce (map permanent gs) → HaveKeysAmong (map permanent es) (map permanent fs)
keys_among es fs gs h k all once i p g =
    let there = h i p g in
    let named = has_key fs there.0 p there.1 in
    let e = entry es i p g in
    let other = stands fs e.0.0 named.0 (ap (λ (q : Perm). key_of (map permanent fs) q.object) e.1 ∙ named.1) in
    let own = all i p g in
    let again = k other.0 (perm (object_read e.0.0) named.0) other.1 in
    let at : own.0 ≡ again.0 = once own.0 again.0 p (perm (object_read e.0.0) named.0) own.1 again.1 (ap (λ (q : Perm). q.object) (sym e.1)) in
    let is : p ≡ perm (object_read e.0.0) named.0 = some_same p (perm (object_read e.0.0) named.0) (sym own.1 ∙ (ap (slice_get (map permanent gs)) at ∙ again.1)) in
    named.1 ∙ ap Some (sym (ap (λ (q : Perm). q.key) is))

-- keys that stand before others

abbrev pub NoneBefore : List Perm → (n m : ℕ) → Type 0
NoneBefore ps n m = (i : ℕ) (p q : Perm) → i < m → slice_get ps i ≡ Some p → slice_get ps n ≡ Some q → p.key ≡ q.key → ⊥

abbrev pub AreApart : List Perm → ℕ → Type 0
AreApart ps n = (m : ℕ) → m < n → KeyIsBefore ps m → ⊥

pub keys_once : (es : List (Permanent × PermanentKey)) (n : ℕ) → AreApart (map permanent es) n → length es ≤ n → KeysAreOnce (map permanent es)
keys_once es n h few i j p q f g e =
    let ps = map permanent es in
    let all : length ps ≤ n = subst (λ k. k ≤ n) (sym (length-map es permanent)) few in
    ⊎_elim
    (λ is. is)
    (λ other. absurd (⊎_elim
    (λ low. let within = slice_get_within ps j q g in h j (omega (arith, within, all)) (record { first = i; one = p; other = q; before = low; is_one = f; is_other = g; equal = e }))
    (λ low. let within = slice_get_within ps i p f in h i (omega (arith, within, all)) (record { first = j; one = q; other = p; before = low; is_one = g; is_other = f; equal = sym e }))
    other))
    (cases_order i j)

-- the keys of the first ones

abbrev pub FirstHaveKeys : List Perm → List Perm → ℕ → Type 0
FirstHaveKeys ps qs n = (i : ℕ) (p : Perm) → i < n → slice_get ps i ≡ Some p → key_of qs p.object ≡ Some p.key

-- both have the same pairs where each has its keys among the other

module _ (es fs : List (Permanent × PermanentKey)) where
  keys_there : Inverse (map permanent es) (map permanent fs) → HaveKeysAmong (map permanent es) (map permanent fs)
  keys_there h = keys_among es fs es h.written_is_read h.read_is_written (λ i p g. (i, g)) h.objects

  keys_here : Inverse (map permanent es) (map permanent fs) → HaveKeysAmong (map permanent fs) (map permanent es)
  keys_here h = keys_among fs es es h.read_is_written (λ i p g. (i, g)) h.read_is_written h.objects

  pub same_pairs : (a b r : Bool) → Decides a (HaveKeysAmong (map permanent es) (map permanent fs)) → Decides b (HaveKeysAmong (map permanent fs) (map permanent es)) → Decides r (KeysAreOnce (map permanent es))
      → ObjectsAreOnce (map permanent es) → a ≡ true → b ≡ true → Decides r (Inverse (map permanent es) (map permanent fs))
  same_pairs a b r d e k objects is_a is_b =
      (λ t. record { objects = objects; keys = k.0 t; written_is_read = among es fs (d.0 is_a); read_is_written = among fs es (e.0 is_b) }, λ h. k.1 h.keys)

  pub not_there : (a : Bool) → Decides a (HaveKeysAmong (map permanent es) (map permanent fs)) → a ≡ false → Inverse (map permanent es) (map permanent fs) → ⊥
  not_there a d is h = true≢false (sym (d.1 (keys_there h)) ∙ is)

  pub not_here : (b : Bool) → Decides b (HaveKeysAmong (map permanent fs) (map permanent es)) → b ≡ false → Inverse (map permanent es) (map permanent fs) → ⊥
  not_here b d is h = true≢false (sym (d.1 (keys_here h)) ∙ is)

pub decides_not : {P : Type 0} (r : Bool) → r ≡ false → (P → ⊥) → Decides r P
decides_not r is h = (λ t. absurd (true≢false (sym t ∙ is)), λ p. absurd (h p))
