-- Reading whole functions and chunks follows the grammar, and what the callers may say of it.
use Rattle.std.proofs.Common.{◌≡◌, ℕ, ◌+◌, ◌-◌, ◌≤◌, ◌^◌, Bool, true, false, List, [], ◌∷◌, ◌++◌, None, Result, Ok, Err, IfOk, refl, ap, subst, ◌∙◌, arith, length, length-append}
use Rattle.std.specs.Prelude.{◌==◌, if◌then◌else◌}
use Rattle.std.proofs.lemmas.Bool.Decides.{Decides-eqb}
use Rattle.code_core.specs.Prototype.{Prototype, function_count}
use Rattle.code_core.specs.Writable.{greatest_depth}
use Rattle.chunk_format.specs.declared.fault.ChunkFault.{ChunkFault}
use Rattle.chunk_format.specs.declared.fault.ChunkFault.TheVariants.{Refused, Memory}
use Rattle.chunk_format.specs.Reading.{Got, read, refused, Says, read_byte, whole_of, read_whole, read_function, read_exactly, read_header, read_chunk}
use Rattle.chunk_format.specs.Grammar.{FunctionOf, WholeOf, Exactly, HeaderOf, ChunkOf, BeginsWith}
use Rattle.chunk_format.specs.Views.{Answers}
use Rattle.chunk_format.proofs.Exact.{Spelled, Exact, exact_then}
use Rattle.chunk_format.proofs.Bases.{exact_byte}
use Rattle.chunk_format.proofs.Wholes.{SpelledWithin, exact_function}

-- functions that stand in no other

record Found (got : Got (Prototype × ℕ)) (p : Prototype) (rest : List ℕ) : Type 0 where
  after : ℕ
  is : got ≡ read (p, after) rest

found_whole : (got : Got (Prototype × ℕ)) (p : Prototype) (rest : List ℕ) → whole_of got ≡ read p rest → Found got p rest
found_whole (read found behind) p rest e =
    let is_p : found.0 ≡ p = cc in
    let is_rest : behind ≡ rest = cc in
    record { after = found.1; is = rw (← is_p, ← is_rest) refl }
found_whole (refused kind) p rest e = absurd (cc)

whole_spelled : (p : Prototype) (after : ℕ) (bytes rest : List ℕ) → SpelledWithin (FunctionOf greatest_depth None) p (2 ^ 31 - 1) after bytes rest → Spelled WholeOf p bytes rest
whole_spelled p after bytes rest s =
    let counted = s.counted in
    record { front = s.front; whole = s.whole; spells = record { function = s.spells; few = omega arith } }

sound_whole : (bytes rest : List ℕ) (p : Prototype) → read_whole bytes ≡ read p rest → Spelled WholeOf p bytes rest
sound_whole bytes rest p e =
    let f = found_whole (read_function greatest_depth None (2 ^ 31 - 1) bytes) p rest e in
    whole_spelled p f.after bytes rest ((exact_function greatest_depth None).sound (2 ^ 31 - 1) f.after bytes rest p f.is)

complete_whole : (p : Prototype) (front rest : List ℕ) → WholeOf p front → read_whole (front ++ rest) ≡ read p rest
complete_whole p front rest h =
    let few = h.few in
    let counted : 2 ^ 31 - 1 ≡ (2 ^ 31 - 1 - function_count p) + function_count p = omega arith in
    let e = (exact_function greatest_depth None).complete (2 ^ 31 - 1) (2 ^ 31 - 1 - function_count p) p front rest h.function counted in
    rw e refl

pub exact_whole : Exact WholeOf read_whole
exact_whole = record { sound = sound_whole; complete = complete_whole }

-- headers

exactly_read : (test : Bool) (more : Got (Unit {0})) (kind : ℕ) (u : Unit {0}) (rest : List ℕ) → (if test then more else refused kind) ≡ read u rest → (test ≡ true) × (more ≡ read u rest)
exactly_read true more kind u rest e = (refl, e)
exactly_read false more kind u rest e = absurd (cc)

exactly_more : (byte found : ℕ) (text bytes rest : List ℕ) (u : Unit {0}) → found ≡ byte → Spelled (Exactly text) u bytes rest → Spelled (Exactly (byte ∷ text)) u (found ∷ bytes) rest
exactly_more byte found text bytes rest u same s = record { front = byte ∷ s.front; whole = rw (same, s.whole) refl; spells = ap (λ t. byte ∷ t) s.spells }

sound_exactly : (text : List ℕ) (kind : ℕ) (bytes rest : List ℕ) (u : Unit {0}) → read_exactly text kind bytes ≡ read u rest → Spelled (Exactly text) u bytes rest
sound_exactly [] kind bytes rest u e =
    let same : bytes ≡ rest = cc in
    record { front = []; whole = same; spells = refl }
sound_exactly (byte ∷ text) kind [] rest u e = absurd (cc)
sound_exactly (byte ∷ text) kind (found ∷ bytes) rest u e =
    let h = exactly_read (found == byte) (read_exactly text kind bytes) kind u rest e in
    let same = (Decides-eqb found byte).0 h.0 in
    exactly_more byte found text bytes rest u same (sound_exactly text kind bytes rest u h.1)

complete_exactly : (text : List ℕ) (kind : ℕ) (u : Unit {0}) (rest : List ℕ) → read_exactly text kind (text ++ rest) ≡ read u rest
complete_exactly [] kind u rest = refl
complete_exactly (byte ∷ text) kind u rest =
    let same : byte == byte ≡ true = (Decides-eqb byte byte).1 refl in
    rw same (complete_exactly text kind u rest)

exact_exactly : (text : List ℕ) (kind : ℕ) → Exact (Exactly text) (read_exactly text kind)
exact_exactly text kind = record { sound = sound_exactly text kind; complete = λ u front rest h. rw h (complete_exactly text kind u rest) }

exact_header : Exact HeaderOf read_header
exact_header =
    exact_then (exact_exactly _ 1) (λ _. exact_then (exact_exactly _ 2) (λ _. exact_then (exact_exactly _ 3) (λ _. exact_then (exact_exactly _ 4) (λ _. exact_byte))))

pub exact_chunk : Exact ChunkOf read_chunk
exact_chunk = exact_then exact_header (λ upvalues. exact_whole)

-- what a reading says of its bytes

module _ {A : Type 0} {Rule : A → List ℕ → Type 0} {get : List ℕ → Got A} (exact : Exact Rule get) where
  pub begins_with : (bytes rest : List ℕ) (x : A) → get bytes ≡ read x rest → BeginsWith Rule x (length bytes - length rest) bytes
  begins_with bytes rest x e =
      let s = exact.sound bytes rest x e in
      let counted : length bytes - length rest ≡ length s.front = omega (arith, ap length s.whole, length-append s.front rest) in
      record { front = s.front; rest = rest; whole = s.whole; spells = s.spells; counted = counted }

  pub found_by : (bytes rest : List ℕ) (r : Result A ChunkFault) → Says (get bytes) r rest → IfOk r (λ x. (n : ℕ) × BeginsWith Rule x n bytes)
  found_by bytes rest (Ok x) says = (length bytes - length rest, begins_with bytes rest x says)
  found_by bytes rest (Err fault) says = tt

  pub shorter_by : (bytes rest : List ℕ) (r : Result A ChunkFault) → Says (get bytes) r rest → IfOk r (λ x. length rest ≤ length bytes)
  shorter_by bytes rest (Ok x) says =
      let s = exact.sound bytes rest x says in
      omega (arith, ap length s.whole, length-append s.front rest)
  shorter_by bytes rest (Err fault) says = tt

  reads_it : (bytes : List ℕ) (x : A) (n : ℕ) (b : BeginsWith Rule x n bytes) → get bytes ≡ read x b.rest
  reads_it bytes x n b = ap get b.whole ∙ exact.complete x b.front b.rest b.spells

  pub only_by : (bytes rest : List ℕ) (r : Result A ChunkFault) → Says (get bytes) r rest → (x : A) (n : ℕ) → BeginsWith Rule x n bytes → Answers x r
  only_by bytes rest (Ok y) says x n b = let it = reads_it bytes x n b in cc
  only_by bytes rest (Err (Refused kind)) says x n b = let it = reads_it bytes x n b in absurd (cc)
  only_by bytes rest (Err Memory) says x n b = tt

  pub count_by : (bytes rest : List ℕ) (y : A) → get bytes ≡ read y rest → (x : A) (n : ℕ) → BeginsWith Rule x n bytes → length bytes - length rest ≡ n
  count_by bytes rest y e x n b =
      let it = reads_it bytes x n b in
      let same : rest ≡ b.rest = cc in
      let lengths : length rest ≡ length b.rest = ap length same in
      let counted = b.counted in
      omega (arith, ap length b.whole, length-append b.front b.rest)

pub same_fault : {A B : Type 0} (x : A) (y : B) (fault : ChunkFault) → Answers x (Err fault) → Answers y (Err fault)
same_fault x y (Refused kind) h = absurd h
same_fault x y Memory h = tt

pub read_exactly-failed : (byte kind : ℕ) (text bytes rest behind : List ℕ) (fault : ChunkFault) → Says (read_byte bytes) (Err fault) rest → Says (read_exactly (byte ∷ text) kind bytes) (Err fault) behind
read_exactly-failed byte kind text [] rest behind (Refused k) says = rw (refused_kind says) refl
  where
    refused_kind : {k m : ℕ} → ◌≡◌ {A = Got ℕ} (refused m) (refused k) → m ≡ k
    refused_kind e = cc
read_exactly-failed byte kind text [] rest behind Memory says = tt
read_exactly-failed byte kind text (found ∷ bytes) rest behind (Refused k) says = absurd (cc)
read_exactly-failed byte kind text (found ∷ bytes) rest behind Memory says = tt

pub pair_by : (bytes rest : List ℕ) (y : Prototype) (k : ℕ) → read_whole bytes ≡ read y rest → k ≡ length bytes - length rest →
    (x : Prototype) (n : ℕ) → BeginsWith WholeOf x n bytes → ◌≡◌ {A = Prototype × ℕ} (y, k) (x, n)
pair_by bytes rest y k e counted x n b =
    let same : y ≡ x = only_by exact_whole bytes rest (Ok y) e x n b in
    let number : k ≡ n = counted ∙ count_by exact_whole bytes rest y e x n b in
    rw (same, number) refl

pub says_at : {A : Type 0} (get : List ℕ → Got A) (given bytes rest : List ℕ) (r : Result A ChunkFault) → given ≡ bytes → Says (get given) r rest → Says (get bytes) r rest
says_at get given bytes rest r e says = subst (λ s. Says (get s) r rest) e says

pub says_of : {A : Type 0} (got is : Got A) (rest : List ℕ) (r : Result A ChunkFault) → got ≡ is → Says got r rest → Says is r rest
says_of got is rest r e says = subst (λ g. Says g r rest) e says
