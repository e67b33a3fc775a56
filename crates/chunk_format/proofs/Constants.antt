-- Reading a constant follows the grammar.
use Rattle.std.proofs.Common.{◌≡◌, ℕ, true, false, List, [], ◌++◌, Option, Some, None, refl, ap, ◌∙◌, inl, inr}
use Rattle.std.specs.Prelude.{◌==◌, ℤ, ◌⊎◌, ◌≢◌}
use Rattle.std.proofs.lemmas.Bool.Decides.{eqb_tells}
use Rattle.code_core.specs.declared.proto.Const.{Const}
use Rattle.code_core.specs.declared.proto.Const.TheVariants.{Nil, False, True, Int, Str}
use Rattle.chunk_format.specs.Reading.{read, and_then, read_integer, read_name, read_constant, read_tagged, string_of}
use Rattle.chunk_format.specs.Grammar.{IntegerOf, NameOf, TaggedOf, ConstantOf}
use Rattle.chunk_format.proofs.Exact.{Spelled, Exact, halves, exact_then}
use Rattle.chunk_format.proofs.Bases.{exact_byte}
use Rattle.chunk_format.proofs.Formats.{exact_integer, exact_name}

data Tag (tag : ℕ) : Type 0 where
  nil : tag ≡ 0 → Tag tag
  no : tag ≡ 1 → Tag tag
  yes : tag ≡ 17 → Tag tag
  integer : tag ≡ 3 → Tag tag
  float : tag ≡ 19 → Tag tag
  short : tag ≡ 4 → Tag tag
  long : tag ≡ 20 → Tag tag
  other : (tag == 0) ≡ false → (tag == 1) ≡ false → (tag == 17) ≡ false → (tag == 3) ≡ false → (tag == 19) ≡ false → (tag == 4) ≡ false → (tag == 20) ≡ false → Tag tag

Tells : ℕ → ℕ → Type 0
Tells tag n = (((tag == n) ≡ true) × (tag ≡ n)) ⊎ (((tag == n) ≡ false) × (tag ≢ n))

tag_of : (tag : ℕ) → Tag tag
tag_of tag = at0 (eqb_tells tag 0)
  where
    at20 : (tag == 0) ≡ false → (tag == 1) ≡ false → (tag == 17) ≡ false → (tag == 3) ≡ false → (tag == 19) ≡ false → (tag == 4) ≡ false
        → (((tag == 20) ≡ true) × (tag ≡ 20)) ⊎ (((tag == 20) ≡ false) × (tag ≢ 20)) → Tag tag
    at20 a b c d e f (inl h) = long h.1
    at20 a b c d e f (inr h) = other a b c d e f h.0

    at4 : (tag == 0) ≡ false → (tag == 1) ≡ false → (tag == 17) ≡ false → (tag == 3) ≡ false → (tag == 19) ≡ false
        → (((tag == 4) ≡ true) × (tag ≡ 4)) ⊎ (((tag == 4) ≡ false) × (tag ≢ 4)) → Tag tag
    at4 a b c d e (inl h) = short h.1
    at4 a b c d e (inr h) = at20 a b c d e h.0 (eqb_tells tag 20)

    at19 : (tag == 0) ≡ false → (tag == 1) ≡ false → (tag == 17) ≡ false → (tag == 3) ≡ false
        → (((tag == 19) ≡ true) × (tag ≡ 19)) ⊎ (((tag == 19) ≡ false) × (tag ≢ 19)) → Tag tag
    at19 a b c d (inl h) = float h.1
    at19 a b c d (inr h) = at4 a b c d h.0 (eqb_tells tag 4)

    at3 : (tag == 0) ≡ false → (tag == 1) ≡ false → (tag == 17) ≡ false
        → (((tag == 3) ≡ true) × (tag ≡ 3)) ⊎ (((tag == 3) ≡ false) × (tag ≢ 3)) → Tag tag
    at3 a b c (inl h) = integer h.1
    at3 a b c (inr h) = at19 a b c h.0 (eqb_tells tag 19)

    at17 : (tag == 0) ≡ false → (tag == 1) ≡ false → (((tag == 17) ≡ true) × (tag ≡ 17)) ⊎ (((tag == 17) ≡ false) × (tag ≢ 17)) → Tag tag
    at17 a b (inl h) = yes h.1
    at17 a b (inr h) = at3 a b h.0 (eqb_tells tag 3)

    at1 : (tag == 0) ≡ false → (((tag == 1) ≡ true) × (tag ≡ 1)) ⊎ (((tag == 1) ≡ false) × (tag ≢ 1)) → Tag tag
    at1 a (inl h) = no h.1
    at1 a (inr h) = at17 a h.0 (eqb_tells tag 17)

    at0 : (((tag == 0) ≡ true) × (tag ≡ 0)) ⊎ (((tag == 0) ≡ false) × (tag ≢ 0)) → Tag tag
    at0 (inl h) = nil h.1
    at0 (inr h) = at1 h.0 (eqb_tells tag 1)

same_value : {A : Type 0} {x y : A} {bytes rest : List ℕ} → read x bytes ≡ read y rest → y ≡ x
same_value e = cc

pub same_rest : {A : Type 0} {x y : A} {bytes rest : List ℕ} → read x bytes ≡ read y rest → bytes ≡ rest
same_rest e = cc

integer_spelled : (tag : ℕ) (n : ℤ) (x : Const) (bytes behind rest : List ℕ) → tag ≡ 3 → x ≡ Int n → behind ≡ rest → Spelled IntegerOf n bytes behind → Spelled (TaggedOf tag) x bytes rest
integer_spelled tag n x bytes behind rest is value same s =
    record { front = s.front; whole = s.whole ∙ ap (λ r. s.front ++ r) same; spells = rw value (is, s.spells) }

string_spelled : (tag : ℕ) (text : List ℕ) (x : Const) (bytes behind rest : List ℕ) → (tag ≡ 4) ⊎ (tag ≡ 20) → x ≡ Str text → behind ≡ rest → Spelled NameOf (Some text) bytes behind → Spelled (TaggedOf tag) x bytes rest
string_spelled tag text x bytes behind rest is value same s =
    record { front = s.front; whole = s.whole ∙ ap (λ r. s.front ++ r) same; spells = rw value (is, s.spells) }

sound_integer_constant : (tag : ℕ) (bytes rest : List ℕ) (x : Const) → tag ≡ 3 → and_then (read_integer bytes) (λ n behind. read (Int n) behind) ≡ read x rest → Spelled (TaggedOf tag) x bytes rest
sound_integer_constant tag bytes rest x is e =
    let h = halves (read_integer bytes) (λ n behind. read (Int n) behind) x rest e in
    integer_spelled tag h.first x bytes h.behind rest is (same_value h.got_rest) (same_rest h.got_rest) (exact_integer.sound bytes h.behind h.first h.got_first)

sound_string : (tag : ℕ) (bytes rest : List ℕ) (x : Const) → (tag ≡ 4) ⊎ (tag ≡ 20) → and_then (read_name bytes) string_of ≡ read x rest → Spelled (TaggedOf tag) x bytes rest
sound_string tag bytes rest x is e =
    let h = halves (read_name bytes) string_of x rest e in
    go h.first h.behind h.got_first h.got_rest
  where
    go : (name : Option (List ℕ)) (behind : List ℕ) → read_name bytes ≡ read name behind → string_of name behind ≡ read x rest → Spelled (TaggedOf tag) x bytes rest
    go None behind got e = absurd (cc)
    go (Some text) behind got e =
        string_spelled tag text x bytes behind rest is (same_value e) (same_rest e) (exact_name.sound bytes behind (Some text) got)

sound_tagged : (tag : ℕ) (bytes rest : List ℕ) (x : Const) → read_tagged tag bytes ≡ read x rest → Spelled (TaggedOf tag) x bytes rest
sound_tagged tag bytes rest x e = go (tag_of tag) e
  where
    go : Tag tag → read_tagged tag bytes ≡ read x rest → Spelled (TaggedOf tag) x bytes rest
    go (nil h) e = let r = rw h at e in record { front = []; whole = same_rest r; spells = rw (same_value r) (h, refl) }
    go (no h) e = let r = rw h at e in record { front = []; whole = same_rest r; spells = rw (same_value r) (h, refl) }
    go (yes h) e = let r = rw h at e in record { front = []; whole = same_rest r; spells = rw (same_value r) (h, refl) }
    go (integer h) e = let r = rw h at e in sound_integer_constant tag bytes rest x h r
    go (float h) e = let r = rw h at e in absurd (cc)
    go (short h) e = let r = rw h at e in sound_string tag bytes rest x (inl h) r
    go (long h) e = let r = rw h at e in sound_string tag bytes rest x (inr h) r
    go (other a b c d f g i) e = let r = rw (a, b, c, d, f, g, i) at e in absurd (cc)

complete_tagged : (tag : ℕ) (x : Const) (front rest : List ℕ) → TaggedOf tag x front → read_tagged tag (front ++ rest) ≡ read x rest
complete_tagged tag Nil front rest h = rw (h.0, h.1) refl
complete_tagged tag False front rest h = rw (h.0, h.1) refl
complete_tagged tag True front rest h = rw (h.0, h.1) refl
complete_tagged tag (Int n) front rest h =
    let e = exact_integer.complete n front rest h.1 in
    rw (h.0, e) refl
complete_tagged tag (Str text) front rest h = go h.0
  where
    go : (tag ≡ 4) ⊎ (tag ≡ 20) → read_tagged tag (front ++ rest) ≡ read (Str text) rest
    go (inl is) = let e = exact_name.complete (Some text) front rest h.1 in rw (is, e) refl
    go (inr is) = let e = exact_name.complete (Some text) front rest h.1 in rw (is, e) refl

exact_tagged : (tag : ℕ) → Exact (TaggedOf tag) (read_tagged tag)
exact_tagged tag = record { sound = sound_tagged tag; complete = complete_tagged tag }

pub exact_constant : Exact ConstantOf read_constant
exact_constant = exact_then exact_byte exact_tagged
