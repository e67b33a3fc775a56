-- A reading that follows a rule of the grammar: it finds what the rule spells, and whatever the rule spells it finds.
use Rattle.std.proofs.Common.{◌≡◌, ℕ, List, [], ◌++◌, refl, sym, ap, ◌∙◌, append_assoc}
use Rattle.chunk_format.specs.Reading.{Got, read, refused, and_then}
use Rattle.chunk_format.specs.Grammar.{Then, Gives}

-- the bytes are a spelling of x and then the rest
pub record Spelled {A : Type 0} (Rule : A → List ℕ → Type 0) (x : A) (bytes rest : List ℕ) : Type 0 where
  pub front : List ℕ
  pub whole : bytes ≡ front ++ rest
  pub spells : Rule x front

pub record Exact {A : Type 0} (Rule : A → List ℕ → Type 0) (get : List ℕ → Got A) : Type 0 where
  pub sound : (bytes rest : List ℕ) (x : A) → get bytes ≡ read x rest → Spelled Rule x bytes rest
  pub complete : (x : A) (front rest : List ℕ) → Rule x front → get (front ++ rest) ≡ read x rest

-- the two halves of a reading that went through
pub record Halves {A B : Type 0} (got : Got A) (more : A → List ℕ → Got B) (y : B) (rest : List ℕ) : Type 0 where
  pub first : A
  pub behind : List ℕ
  pub got_first : got ≡ read first behind
  pub got_rest : more first behind ≡ read y rest

pub halves : {A B : Type 0} (got : Got A) (more : A → List ℕ → Got B) (y : B) (rest : List ℕ) → and_then got more ≡ read y rest → Halves got more y rest
halves (read x behind) more y rest e = record { first = x; behind = behind; got_first = refl; got_rest = e }
halves (refused kind) more y rest e = absurd (cc)

-- what is read first stands in front of all that comes behind it
pub at_front : {A B : Type 0} {First : A → List ℕ → Type 0} {Rest : A → B → List ℕ → Type 0} {y : B} {bytes : List ℕ} (t : Then First Rest y bytes) (rest : List ℕ) → bytes ++ rest ≡ t.front ++ (t.back ++ rest)
at_front t rest = ap (λ s. s ++ rest) t.whole ∙ append_assoc t.front t.back rest

module _ {A B : Type 0} {First : A → List ℕ → Type 0} {Rest : A → B → List ℕ → Type 0} {get : List ℕ → Got A} {more : A → List ℕ → Got B} (exact_first : Exact First get) (exact_rest : (x : A) → Exact (Rest x) (more x)) where
  sound_then : (bytes rest : List ℕ) (y : B) → and_then (get bytes) more ≡ read y rest → Spelled (Then First Rest) y bytes rest
  sound_then bytes rest y e =
      let h = halves (get bytes) more y rest e in
      let a = exact_first.sound bytes h.behind h.first h.got_first in
      let b = (exact_rest h.first).sound h.behind rest y h.got_rest in
      record {
        front = a.front ++ b.front;
        whole = a.whole ∙ (ap (λ s. a.front ++ s) b.whole ∙ sym (append_assoc a.front b.front rest));
        spells = record { first = h.first; front = a.front; back = b.front; whole = refl; spells_first = a.spells; spells_rest = b.spells };
      }

  complete_then : (y : B) (front rest : List ℕ) → Then First Rest y front → and_then (get (front ++ rest)) more ≡ read y rest
  complete_then y front rest t =
      let at_first : get (front ++ rest) ≡ read t.first (t.back ++ rest) = ap get (at_front t rest) ∙ exact_first.complete t.first t.front (t.back ++ rest) t.spells_first in
      rw at_first ((exact_rest t.first).complete y t.back rest t.spells_rest)

  pub exact_then : Exact (Then First Rest) (λ bytes. and_then (get bytes) more)
  exact_then = record { sound = sound_then; complete = complete_then }

pub exact_gives : {A : Type 0} (x : A) → Exact (Gives x) (λ bytes. read x bytes)
exact_gives x = record {
  sound = λ bytes rest y e. record { front = []; whole = got_rest e; spells = record { value = got_value e; nothing = refl } };
  complete = λ y front rest g. rw (g.value, g.nothing) refl;
}
  where
    got_rest : {A : Type 0} {x y : A} {bytes rest : List ℕ} → read x bytes ≡ read y rest → bytes ≡ rest
    got_rest e = cc

    got_value : {A : Type 0} {x y : A} {bytes rest : List ℕ} → read x bytes ≡ read y rest → y ≡ x
    got_value e = cc
