-- Where the functions that are defined in a function stand among all.
use Rattle.std.proofs.Common.{◌≡◌, ⊎_elim, ℕ, zero, suc, ◌+◌, ◌<◌, ◌≤◌, List, [], ◌∷◌, ◌++◌, length, map, Some, true, false, refl, ap, sym, ◌∙◌, append_assoc, length-append, arith}
use Rattle.std.specs.Prelude.{◌-◌, slice_get, IsSome}
use Rattle.std.proofs.lemmas.Option.{slice_get_within}
use Rattle.code_core.specs.Prototype.{Prototype, Prototypes, none, more, list_of, count}
use Rattle.code_core.specs.Check.{IsChecked}
use Rattle.list_laws.proofs.Tests.{split}
use Rattle.list_laws.proofs.Items.{append_nil, some_same}
use Rattle.machine_sound.proofs.Lists.{get_front, get_there, get_map}
use Rattle.table_core.specs.declared.value.ProtoId.{ProtoId}
use Rattle.lua_heap.specs.Codes.{preorder, numbers, no_code, prototype_at}

pub length_preorder : (t : Prototypes) → length (preorder t) ≡ count t
length_preorder none = refl
length_preorder (more own inner rest) =
    let a = length_preorder inner in
    let b = length_preorder rest in
    let c = length-append (preorder inner) (preorder rest) in
    omega (arith, a, b, c)

pub get_behind : {A : Type 0} (xs ys : List A) (k : ℕ) → slice_get (xs ++ ys) (length xs + k) ≡ slice_get ys k
get_behind [] ys k = let e : zero + k ≡ k = omega arith in ap (slice_get ys) e
get_behind (x ∷ xs) ys k = let e : suc (length xs) + k ≡ suc (length xs + k) = omega arith in ap (slice_get (x ∷ xs ++ ys)) e ∙ get_behind xs ys k

-- behind a function stand those that are defined in it
abbrev Behind : Prototypes → List Prototype → ℕ → Prototype → Type 0
Behind t after n p = (rest : List Prototype) × ((k : ℕ) → slice_get (preorder t ++ after) (suc n + k) ≡ slice_get (preorder p.inner ++ rest) k)

stands : (t : Prototypes) (after : List Prototype) (n : ℕ) (p : Prototype) → slice_get (preorder t) n ≡ Some p → Behind t after n p
stands none after n p e = absurd (cc)
stands (more own inner next) after zero p e =
    let here : record { own = own; inner = inner } ≡ p = some_same _ _ e in (
      preorder next ++ after,
      λ k.
          let n : suc zero + k ≡ suc k = omega arith in
          ap (slice_get (preorder (more own inner next) ++ after)) n
          ∙ ap (λ xs. slice_get xs k) (append_assoc (preorder inner) (preorder next) after)
          ∙ ap (λ (q : Prototype). slice_get (preorder q.inner ++ (preorder next ++ after)) k) here,
    )
stands (more own inner next) after (suc m) p e =
    let within : m < length (preorder inner) → Behind (more own inner next) after (suc m) p = λ l.
    let h = stands inner (preorder next ++ after) m p (sym (get_front (preorder inner) (preorder next) m l) ∙ e) in (
      h.0,
      λ k.
          let n : suc (suc m) + k ≡ suc (suc m + k) = omega arith in
          ap (slice_get (preorder (more own inner next) ++ after)) n
          ∙ ap (λ xs. slice_get xs (suc m + k)) (append_assoc (preorder inner) (preorder next) after) ∙ h.1 k,
    ) in
    let beside : length (preorder inner) ≤ m → Behind (more own inner next) after (suc m) p = λ l.
    let i : ℕ = m - length (preorder inner) in
    let at : m ≡ length (preorder inner) + i = omega (arith, l) in
    let h = stands next after i p (sym (get_behind (preorder inner) (preorder next) i) ∙ ap (slice_get (preorder inner ++ preorder next)) (sym at) ∙ e) in (
      h.0,
      λ k.
          let n : suc (suc m) + k ≡ suc (length (preorder inner) + (suc i + k)) = omega (arith, at) in
          ap (slice_get (preorder (more own inner next) ++ after)) n
          ∙ ap (λ xs. slice_get xs (length (preorder inner) + (suc i + k))) (append_assoc (preorder inner) (preorder next) after)
          ∙ get_behind (preorder inner) (preorder next ++ after) (suc i + k) ∙ h.1 k,
    ) in
    ⊎_elim within beside (split m (length (preorder inner)))

-- the numbers of functions beside each other, from where the first of them stands
at_number : (t : Prototypes) (rest : List Prototype) (base at : ℕ) (q : Prototype) (m : ℕ) → slice_get (list_of t) at ≡ Some q → slice_get (numbers base t) at ≡ Some m
    → (k : ℕ) × ((m ≡ base + k) × (slice_get (preorder t ++ rest) k ≡ Some q))
at_number none rest base at q m e f = absurd (cc)
at_number (more own inner next) rest base zero q m e f = let n : base ≡ m = some_same _ _ f in (0, (omega (arith, n), e))
at_number (more own inner next) rest base (suc at) q m e f =
    let h = at_number next rest (suc base + count inner) at q m e f in
    let l = length_preorder inner in
    let n : suc (count inner + h.0) ≡ suc (length (preorder inner) + h.0) = omega (arith, l) in
    let here : m ≡ base + suc (count inner + h.0) = omega (arith, h.1.0) in (
      suc (count inner + h.0),
      (
        here,
        ap (slice_get (preorder (more own inner next) ++ rest)) n
            ∙ ap (λ xs. slice_get xs (length (preorder inner) + h.0)) (append_assoc (preorder inner) (preorder next) rest)
            ∙ get_behind (preorder inner) (preorder next ++ rest) h.0 ∙ h.1.1,
      ),
    )

inner_there : (t : Prototypes) (n : ℕ) (p : Prototype) → slice_get (preorder t) n ≡ Some p → (at : ℕ) (q : Prototype) (m : ℕ)
    → slice_get (list_of p.inner) at ≡ Some q → slice_get (numbers (suc n) p.inner) at ≡ Some m → slice_get (preorder t) m ≡ Some q
inner_there t n p e at q m f g =
    let s = stands t [] n p e in
    let h = at_number p.inner s.0 (suc n) at q m f g in
    ap (slice_get (preorder t)) h.1.0 ∙ ap (λ xs. slice_get xs (suc n + h.0)) (sym (append_nil (preorder t))) ∙ s.1 h.0 ∙ h.1.1

length_numbers : (base : ℕ) (t : Prototypes) → length (numbers base t) ≡ length (list_of t)
length_numbers base none = refl
length_numbers base (more own inner rest) = ap suc (length_numbers (suc base + count inner) rest)

-- code that is checked is there
not_checked : IsChecked no_code → ⊥
unfolding no_code
not_checked h = let e : false ≡ true = h.code.sized in absurd (cc)

pub checked_there : (ps : List Prototype) (n : ℕ) → IsChecked (prototype_at ps n) → n < length ps
checked_there [] n h = absurd (not_checked h)
checked_there (p ∷ ps) zero h = omega arith
checked_there (p ∷ ps) (suc n) h = let l = checked_there ps n h in omega (arith, l)

-- functions and numbers that are there

pub prototype_there : (ps : List Prototype) (n : ℕ) → n < length ps → slice_get ps n ≡ Some (prototype_at ps n)
prototype_there [] n h = absurd (omega (arith, h))
prototype_there (p ∷ ps) zero h = refl
prototype_there (p ∷ ps) (suc n) h = prototype_there ps n (omega (arith, h))

some_within : {A : Type 0} (xs : List A) (n : ℕ) → IsSome (slice_get xs n) → n < length xs
some_within [] n h = absurd (cc)
some_within (x ∷ xs) zero h = omega arith
some_within (x ∷ xs) (suc n) h = let l = some_within xs n h in omega (arith, l)

length_ids : (ids : List ProtoId) → length (map (λ (id : ProtoId). id.0) ids) ≡ length ids
length_ids [] = refl
length_ids (id ∷ ids) = ap suc (length_ids ids)

pub inner_within : (ids : List ProtoId) (n : ℕ) (p : Prototype) (at : ℕ) → map (λ id. id.0) ids ≡ numbers (suc n) p.inner → IsSome (slice_get (list_of p.inner) at) → at < length ids
inner_within ids n p at e h =
    let a = length_ids ids in
    let b = ap length e in
    let c = length_numbers (suc n) p.inner in
    let d = some_within (list_of p.inner) at h in
    omega (arith, a, b, c, d)

pub number_at : (ids : List ProtoId) (ns : List ℕ) (at : ℕ) (id : ProtoId) → map (λ id. id.0) ids ≡ ns → slice_get ids at ≡ Some id → slice_get ns at ≡ Some id.0
number_at ids ns at id e f = ap (λ ns. slice_get ns at) (sym e) ∙ get_map (λ (id : ProtoId). id.0) ids at id f

pub inner_is : (t : Prototypes) (n : ℕ) (p : Prototype) → slice_get (preorder t) n ≡ Some p → (at m : ℕ) → slice_get (numbers (suc n) p.inner) at ≡ Some m
    → slice_get (preorder t) m ≡ slice_get (list_of p.inner) at
inner_is t n p e at m f =
    let l = slice_get_within (numbers (suc n) p.inner) at m f in
    let k = length_numbers (suc n) p.inner in
    let q = get_there (list_of p.inner) at (omega (arith, l, k)) in
    inner_there t n p e at q.0 m q.1 f ∙ sym q.1
