-- What segments hold at a place, and what a write, a new last object and a cut make of it.
use Rattle.std.proofs.Common.{◌≡◌, ℕ, zero, suc, ◌+◌, ◌-◌, ◌*◌, ◌/◌, ◌<◌, ◌≤◌, List, [], ◌∷◌, ◌++◌, length, take, get_or, refl, sym, ◌∙◌, ap, append_assoc, subst, arith, length-append}
use Rattle.std.specs.Prelude.{slice_set}
use Rattle.std.specs.declared.vec.Vec.{Vec}
use Rattle.std.proofs.Math.Seq.{take-append-add}
use Rattle.std.proofs.lemmas.List.{get_or_append_left, get_or-append-add, set-append_left, set-append_right, append-nil, nil_from_length}
use Rattle.object_pool.specs.Segments.{AreFilled, objects_in}

module _ {T A : Type 0} where
  pub length-objects_in : (ss : List (Vec T A)) (n : ℕ) → AreFilled ss n → length (objects_in ss) ≡ n
  length-objects_in [] n is = sym is
  length-objects_in (s ∷ ss) n is =
      omega (arith, length-append s.items (objects_in ss), is.0, length-objects_in ss (n - 512) is.2)

  pub filled-fit : (ss : List (Vec T A)) (n : ℕ) → AreFilled ss n → n ≤ 512 * length ss
  filled-fit [] n is = omega (arith, is)
  filled-fit (s ∷ ss) n is = omega (arith, filled-fit ss (n - 512) is.2)

  pub segment-there : (ss : List (Vec T A)) (n at : ℕ) → AreFilled ss n → at < n → at / 512 < length ss
  segment-there ss n at is below = omega (arith, filled-fit ss n is)

  -- a place below n stands in its segment
  pub place-within : (ss : List (Vec T A)) (n i j : ℕ) (s : Vec T A) → AreFilled ss n → i < length ss → s ≡ get_or ss i s → i * 512 + j < n → j < 512 → j < length s.items
  place-within [] n i j s is within at below small = absurd (omega (arith, within))
  place-within (x ∷ ss) n zero j s is within at below small = omega (arith, is.0, ap (λ v. length v.items) at)
  place-within (x ∷ ss) n (suc i) j s is within at below small = place-within ss (n - 512) i j s is.2 (omega (arith, within)) at (omega (arith, below)) small

  pub object-at : (ss : List (Vec T A)) (n i j at : ℕ) (s : Vec T A) (d : T) → AreFilled ss n → i < length ss → s ≡ get_or ss i s → at ≡ i * 512 + j → at < n → j < 512 → get_or (objects_in ss) at d ≡ get_or s.items j d
  object-at [] n i j at s d is within held place below small = absurd (omega (arith, within))
  object-at (x ∷ ss) n zero j at s d is within held place below small =
      let same : at ≡ j = omega (arith, place) in
      let inside : at < length x.items = omega (arith, is.0) in
      get_or_append_left x.items (objects_in ss) d at inside ∙ rw (held, same) refl
  object-at (x ∷ ss) n (suc i) j at s d is within held place below small =
      let full : length x.items ≡ 512 = omega (arith, is.0, place) in
      let split : at ≡ length x.items + (at - 512) = omega (arith, place) in
      ap (λ k. get_or (x.items ++ objects_in ss) k d) split
      ∙ get_or-append-add x.items (objects_in ss) (at - 512) d
      ∙ object-at ss (n - 512) i j (at - 512) s d is.2 (omega (arith, within)) held (omega (arith, place)) (omega (arith, place)) small

  -- a segment whose object was replaced
  pub objects-written : (ss : List (Vec T A)) (n i j at : ℕ) (s s' : Vec T A) (w : T) → AreFilled ss n → i < length ss → s ≡ get_or ss i s → at ≡ i * 512 + j → at < n → j < 512 → s'.items ≡ slice_set s.items j w → objects_in (slice_set ss i s') ≡ slice_set (objects_in ss) at w
  objects-written [] n i j at s s' w is within held place below small now = absurd (omega (arith, within))
  objects-written (x ∷ ss) n zero j at s s' w is within held place below small now =
      let same : at ≡ j = omega (arith, place) in
      let inside : at < length x.items = omega (arith, is.0) in
      ap (λ items. items ++ objects_in ss) (now ∙ rw (held, same) refl) ∙ sym (set-append_left x.items (objects_in ss) at w inside)
  objects-written (x ∷ ss) n (suc i) j at s s' w is within held place below small now =
      let full : length x.items ≡ 512 = omega (arith, is.0, place) in
      ap (λ items. x.items ++ items) (objects-written ss (n - 512) i j (at - 512) s s' w is.2 (omega (arith, within)) held (omega (arith, place)) (omega (arith, place)) small now)
      ∙ sym (set-append_right x.items (objects_in ss) 512 at w full (omega (arith, place)))

  pub filled-written : (ss : List (Vec T A)) (n i : ℕ) (s s' : Vec T A) → AreFilled ss n → s ≡ get_or ss i s → length s'.items ≡ length s.items → s.cap ≤ s'.cap → AreFilled (slice_set ss i s') n
  filled-written [] n i s s' is held same room = is
  filled-written (x ∷ ss) n zero s s' is held same room =
      (same ∙ ap (λ v. length v.items) held ∙ is.0, omega (arith, is.1, room, ap (λ v. v.cap) held), is.2)
  filled-written (x ∷ ss) n (suc i) s s' is held same room = (is.0, is.1, filled-written ss (n - 512) i s s' is.2 held same room)

  -- the segment in which the objects end becomes another
  pub filled-ended : (ss : List (Vec T A)) (n m i : ℕ) (s s' : Vec T A) → AreFilled ss n → i < length ss → i * 512 ≤ n → n ≤ i * 512 + 512 → i * 512 ≤ m → m ≤ i * 512 + 512 → length s'.items ≡ m - i * 512 → 512 ≤ s'.cap → AreFilled (slice_set ss i s') m
  filled-ended [] n m i s s' is within low high from to now room = absurd (omega (arith, within))
  filled-ended (x ∷ ss) n m zero s s' is within low high from to now room =
      let none : n - 512 ≡ m - 512 = omega (arith, high, to) in
      (omega (arith, now, to), room, subst (AreFilled ss) none is.2)
  filled-ended (x ∷ ss) n m (suc i) s s' is within low high from to now room =
      (omega (arith, is.0, low, from), is.1, filled-ended ss (n - 512) (m - 512) i s s' is.2 (omega (arith, within)) (omega (arith, low)) (omega (arith, high)) (omega (arith, from)) (omega (arith, to)) (omega (arith, now)) room)

  none-left : (ss : List (Vec T A)) (n : ℕ) → AreFilled ss n → n ≡ 0 → objects_in ss ≡ []
  none-left ss n is none = nil_from_length (objects_in ss) (length-objects_in ss n is ∙ none)

  -- how many objects the last segment holds
  pub ended-length : (ss : List (Vec T A)) (n i : ℕ) (s : Vec T A) → AreFilled ss n → i < length ss → s ≡ get_or ss i s → i * 512 ≤ n → n ≤ i * 512 + 512 → length s.items ≡ n - i * 512
  ended-length [] n i s is within held low high = absurd (omega (arith, within))
  ended-length (x ∷ ss) n zero s is within held low high = omega (arith, is.0, high, ap (λ v. length v.items) held)
  ended-length (x ∷ ss) n (suc i) s is within held low high = omega (arith, ended-length ss (n - 512) i s is.2 (omega (arith, within)) held (omega (arith, low)) (omega (arith, high)))

  pub segment-room : (ss : List (Vec T A)) (n i : ℕ) (s : Vec T A) → AreFilled ss n → i < length ss → s ≡ get_or ss i s → 512 ≤ s.cap
  segment-room [] n i s is within held = absurd (omega (arith, within))
  segment-room (x ∷ ss) n zero s is within held = omega (arith, is.1, ap (λ v. v.cap) held)
  segment-room (x ∷ ss) n (suc i) s is within held = segment-room ss (n - 512) i s is.2 (omega (arith, within)) held

  pub objects-pushed : (ss : List (Vec T A)) (n i : ℕ) (s s' : Vec T A) (w : T) → AreFilled ss n → i < length ss → s ≡ get_or ss i s → i * 512 ≤ n → n < i * 512 + 512 → s'.items ≡ s.items ++ w ∷ [] → objects_in (slice_set ss i s') ≡ objects_in ss ++ w ∷ []
  objects-pushed [] n i s s' w is within held low high now = absurd (omega (arith, within))
  objects-pushed (x ∷ ss) n zero s s' w is within held low high now =
      let none : objects_in ss ≡ [] = none-left ss (n - 512) is.2 (omega (arith, high)) in
      rw (now, none, append-nil (s.items ++ w ∷ []), append-nil x.items) (ap (λ v. v.items ++ w ∷ []) held)
  objects-pushed (x ∷ ss) n (suc i) s s' w is within held low high now =
      ap (λ items. x.items ++ items) (objects-pushed ss (n - 512) i s s' w is.2 (omega (arith, within)) held (omega (arith, low)) (omega (arith, high)) now)
      ∙ sym (append_assoc x.items (objects_in ss) (w ∷ []))

  pub objects-cut : (ss : List (Vec T A)) (n m i : ℕ) (s s' : Vec T A) → AreFilled ss n → i < length ss → s ≡ get_or ss i s → i * 512 ≤ m → m ≤ n → n ≤ i * 512 + 512 → s'.items ≡ take (m - i * 512) s.items → objects_in (slice_set ss i s') ≡ take m (objects_in ss)
  objects-cut [] n m i s s' is within held low le high now = absurd (omega (arith, within))
  objects-cut (x ∷ ss) n m zero s s' is within held low le high now =
      let none : objects_in ss ≡ [] = none-left ss (n - 512) is.2 (omega (arith, high)) in
      let from : m - 0 * 512 ≡ m = omega arith in
      rw (none, append-nil s'.items, append-nil x.items) (now ∙ ap (λ k. take k s.items) from ∙ ap (λ v. take m v.items) held)
  objects-cut (x ∷ ss) n m (suc i) s s' is within held low le high now =
      let full : length x.items ≡ 512 = omega (arith, is.0, low, le) in
      let split : m ≡ length x.items + (m - 512) = omega (arith, low) in
      let part : m - 512 - i * 512 ≡ m - suc i * 512 = omega arith in
      ap (λ items. x.items ++ items) (objects-cut ss (n - 512) (m - 512) i s s' is.2 (omega (arith, within)) held (omega (arith, low)) (omega (arith, le)) (omega (arith, high)) (now ∙ ap (λ k. take k s.items) (sym part)))
      ∙ sym (take-append-add x.items (objects_in ss) (m - 512))
      ∙ ap (λ k. take k (x.items ++ objects_in ss)) (sym split)

  -- an empty segment more
  pub filled-added : (ss : List (Vec T A)) (n : ℕ) (s : Vec T A) → AreFilled ss n → s.items ≡ [] → 512 ≤ s.cap → AreFilled (ss ++ s ∷ []) n
  filled-added [] n s is empty room = (omega (arith, is, ap length empty), room, omega (arith, is))
  filled-added (x ∷ ss) n s is empty room = (is.0, is.1, filled-added ss (n - 512) s is.2 empty room)
