-- Keys of permanents and of rows: equal in memory where they are equal in an image.
use Rattle.std.proofs.Common.{◌≡◌, ℕ, ℤ, pos, negsuc, arith, tests, List, [], ◌∷◌, Option, Some, None, map, Bool, true, false, cond, refl, sym, ap, ◌∙◌}
use Rattle.std.specs.Prelude.{bytes_eq, is_some}
use Rattle.std.specs.Borrow.{Bor}
use Rattle.std.specs.Map.{lookup}
use Rattle.std.specs.Ordering.{int_eq}
use Rattle.std.proofs.lemmas.Slice.Eq.{bytes_eq-Decides}
use Rattle.int_core.specs.Value.{same_integer}
use Rattle.image_saved.specs.Permanents.{same_key, object_named}
use Rattle.image_records.specs.declared.record.Key.{Key}
use Rattle.image_records.specs.declared.record.Key.TheVariants.{Number, Text}
use Rattle.image_records.specs.declared.known.Named.{Named}
use Rattle.image_records.specs.contracts.record.KeyPartialEq.TheImpl as key_impl
use Rattle.image_records.specs.Views.{key}
use Rattle.image_records.specs.Names.{perm, found_object, found_code, code_in, has_key}

abbrev pub key_eq : Key → Key → Bool
key_eq = (key_impl.ghosts).eq

pub integers : (m n : ℤ) → int_eq m n ≡ same_integer n m
integers (pos m) (pos n) = grind (arith, tests)
integers (negsuc m) (negsuc n) = grind (arith, tests)
integers (pos m) (negsuc n) = refl
integers (negsuc m) (pos n) = refl

pub bytes_same : (s t : Bor (List ℕ)) → key_eq (Text s) (Text t) ≡ bytes_eq s.now t.now
bytes_same s t = refl

both : (a b : Bool) → (a ≡ true → b ≡ true) → (b ≡ true → a ≡ true) → a ≡ b
both true true f g = refl
both false false f g = refl
both true false f g = sym (f refl)
both false true f g = g refl

bytes_turned : (s t : List ℕ) → bytes_eq s t ≡ bytes_eq t s
bytes_turned s t = both (bytes_eq s t) (bytes_eq t s)
    (λ h. (bytes_eq-Decides t s).1 (sym ((bytes_eq-Decides s t).0 h)))
    (λ h. (bytes_eq-Decides s t).1 (sym ((bytes_eq-Decides t s).0 h)))

pub key_same : (a b : Key) → key_eq a b ≡ same_key (key b) (key a)
key_same (Number m) (Number n) = integers m n
key_same (Text s) (Text t) = bytes_same s t ∙ bytes_turned s.now t.now
key_same (Number m) (Text t) = refl
key_same (Text s) (Number n) = refl

-- what a list tells of a key is what the name found by it tells
found_told : {A : Type 0} (k : Key) (told : Option Named → A) (held : List (Key × Named) → A) → told None ≡ held [] → ((e : Key × Named) (es : List (Key × Named)) → cond (same_key (key e.0) (key k)) (told (Some e.1)) (held es) ≡ held (e ∷ es))
    → (es : List (Key × Named)) → told (lookup (key_eq k) es) ≡ held es
found_told k told held none more [] = none
found_told k told held none more (e ∷ es) =
    ap (λ b. told (cond b (Some e.1) (lookup (key_eq k) es))) (key_same k e.0) ∙ go (same_key (key e.0) (key k)) (found_told k told held none more es) ∙ more e es
  where
    go : (b : Bool) → told (lookup (key_eq k) es) ≡ held es → told (cond b (Some e.1) (lookup (key_eq k) es)) ≡ cond b (told (Some e.1)) (held es)
    go true h = refl
    go false h = h

pub object_found : (es : List (Key × Named)) (k : Key) → found_object (lookup (key_eq k) es) ≡ object_named (map perm es) (key k)
object_found es k = found_told k found_object (λ es. object_named (map perm es) (key k)) refl (λ e es. refl) es

pub code_found : (es : List (Key × Named)) (k : Key) → found_code (lookup (key_eq k) es) ≡ code_in es (key k)
code_found es k = found_told k found_code (λ es. code_in es (key k)) refl (λ e es. refl) es

pub known_key : (es : List (Key × Named)) (k : Key) → is_some (lookup (key_eq k) es) ≡ has_key es (key k)
known_key es k = found_told k is_some (λ es. has_key es (key k)) refl (λ e es. refl) es

pub none_is : {A : Type 0} (o : Option A) → is_some o ≡ false → o ≡ None
none_is None h = refl
none_is (Some x) h = absurd (cc)
