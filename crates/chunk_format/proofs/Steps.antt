-- What is left to say of a reading behind its first part.
use Rattle.std.proofs.Common.{◌≡◌, ℕ, zero, suc, ◌-◌, ◌<◌, List, [], ◌∷◌, ◌++◌, Err, refl, sym, ap, append_assoc, arith}
use Rattle.chunk_format.specs.declared.fault.ChunkFault.{ChunkFault}
use Rattle.chunk_format.specs.declared.fault.ChunkFault.TheVariants.{Refused, Memory}
use Rattle.chunk_format.specs.Reading.{Got, read, refused, and_then, Says, SaysOf, read_times}

-- a list of which the front was read
abbrev pub with_front : {A : Type 0} → List A → Got (List A) → Got (List A)
with_front front got = and_then got (λ xs rest. read (front ++ xs) rest)

pub with_no_front : {A : Type 0} (got : Got (List A)) → with_front [] got ≡ got
with_no_front (read xs rest) = refl
with_no_front (refused kind) = refl

with_front-more : {A : Type 0} (front : List A) (x : A) (got : Got (List A)) →
    with_front front (and_then got (λ xs rest. read (x ∷ xs) rest)) ≡ with_front (front ++ x ∷ []) got
with_front-more front x (read xs rest) = ap (λ ys. read ys rest) (sym (append_assoc front (x ∷ []) xs))
with_front-more front x (refused kind) = refl

pub read_times-step : {A : Type 0} (item : List ℕ → Got A) (n : ℕ) (front : List A) (x : A) (bytes behind : List ℕ) → 0 < n → item bytes ≡ read x behind →
    with_front front (read_times item n bytes) ≡ with_front (front ++ x ∷ []) (read_times item (n - 1) behind)
read_times-step item zero front x bytes behind h e = absurd (omega arith)
read_times-step item (suc n) front x bytes behind h e =
    let less : suc n - 1 ≡ n = omega arith in
    rw (e, less) (with_front-more front x (read_times item n behind))

pub read_times-failed : {A B : Type 0} (view : B → List A) (item : List ℕ → Got A) (n : ℕ) (front : List A) (fault : ChunkFault) (bytes behind rest : List ℕ) →
    0 < n → Says (item bytes) (Err fault) behind → SaysOf view (with_front front (read_times item n bytes)) (Err fault) rest
read_times-failed view item zero front fault bytes behind rest h says = absurd (omega arith)
read_times-failed view item (suc n) front (Refused kind) bytes behind rest h says = rw says refl
read_times-failed view item (suc n) front Memory bytes behind rest h says = tt
