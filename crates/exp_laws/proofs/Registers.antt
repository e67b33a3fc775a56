-- Locals and registers side by side: what holds of both while an expression is evaluated.
use Rattle.std.proofs.Common.{◌⊎◌, ⊎_elim, length-append, ◌≡◌, ℕ, zero, suc, ◌<◌, ◌≤◌, ℤ, true, false, cond, List, [], ◌∷◌, ◌++◌, length, refl, sym, ap, subst, ◌∙◌, arith}
use Rattle.int_core.specs.Value.{Value, known, integer, nth, write}
use Rattle.int_core.specs.Ask.{Captured, shared_by, brought}
use Rattle.tree_activation.specs.Work.{Pending}
use Rattle.list_laws.proofs.Values.{nth_old, nth_write_same, nth_write_other, length_write, write_more, last_nth}
use Rattle.tree_terms.specs.Hidden.{IsNoneOf}
use Rattle.exp_laws.specs.Setting.{Hidden, UnderAll}
use Rattle.list_laws.proofs.Tests.{split}

write_alike : (s : ℕ) (v : Value) (xs ys : List Value) (r : ℕ) → nth xs r ≡ nth ys r → nth (write s v xs) r ≡ nth (write s v ys) r
write_alike zero v [] [] zero e = refl
write_alike zero v [] (y ∷ ys) zero e = refl
write_alike zero v (x ∷ xs) [] zero e = refl
write_alike zero v (x ∷ xs) (y ∷ ys) zero e = refl
write_alike zero v [] [] (suc r) e = e
write_alike zero v [] (y ∷ ys) (suc r) e = e
write_alike zero v (x ∷ xs) [] (suc r) e = e
write_alike zero v (x ∷ xs) (y ∷ ys) (suc r) e = e
write_alike (suc s) v [] [] zero e = e
write_alike (suc s) v [] (y ∷ ys) zero e = e
write_alike (suc s) v (x ∷ xs) [] zero e = e
write_alike (suc s) v (x ∷ xs) (y ∷ ys) zero e = e
write_alike (suc s) v [] [] (suc r) e = write_alike s v [] [] r e
write_alike (suc s) v [] (y ∷ ys) (suc r) e = write_alike s v [] ys r e
write_alike (suc s) v (x ∷ xs) [] (suc r) e = write_alike s v xs [] r e
write_alike (suc s) v (x ∷ xs) (y ∷ ys) (suc r) e = write_alike s v xs ys r e

abbrev pub HeldBelow : List (ℕ × ℕ) → ℕ → Type 0
HeldBelow [] n = Unit {0}
HeldBelow (h ∷ held) n = (h.0 < n) × HeldBelow held n

-- variables to be closed, the last one last; code marks just those that need closing

abbrev pub marked_in : List Pending → List ℕ
marked_in [] = []
marked_in (p ∷ ps) = cond p.needed (p.number ∷ marked_in ps) (marked_in ps)

-- each is a local from a number on and below another, and they stand in the order of their declarations
abbrev pub Ascends : (from : ℕ) → List Pending → (to : ℕ) → Type 0
Ascends from [] to = Unit {0}
Ascends from (p ∷ ps) to = (from ≤ p.number) × ((p.number < to) × Ascends (suc p.number) ps to)

-- a place is one of these
abbrev pub Among : ℕ → List ℕ → Type 0
Among r [] = ⊥
Among r (m ∷ ms) = (r ≡ m) ⊎ Among r ms

abbrev pub AllUnder : List ℕ → ℕ → Type 0
AllUnder ms n = (r : ℕ) → Among r ms → r < n

pub under_higher : (ms : List ℕ) (m n : ℕ) → m ≤ n → AllUnder ms m → AllUnder ms n
under_higher ms m n le h r a = let lt = h r a in omega (arith, lt)

pub none_among : (n : ℕ) (ms : List ℕ) → IsNoneOf n ms → Among n ms → ⊥
none_among n [] h a = a
none_among n (m ∷ ms) h a = ⊎_elim h.0 (none_among n ms h.1) a

abbrev pub IsFree : ℕ → List (ℕ × ℕ) → Type 0
IsFree r [] = Unit {0}
IsFree r (h ∷ held) = (r ≡ h.0 → ⊥) × IsFree r held

abbrev pub IsInteger : Value → Type 0
IsInteger v = (z : ℤ) × (v ≡ known (integer z))

-- cells stand below each of the levels
abbrev pub HeldUnder : List (ℕ × ℕ) → List ℕ → Type 0
HeldUnder held [] = Unit {0}
HeldUnder held (m ∷ ms) = HeldBelow held m × HeldUnder held ms

-- a local that may get a cell
abbrev pub MayHold : ℕ → Hidden → Type 0
MayHold place hidden = (Among place hidden.integers → ⊥) × (UnderAll place hidden.free_from × (hidden.celled ≡ true))

-- no hidden local is captured, and each that is there has an integer; no cell stands in a scope without captured locals, nor any in a function whose
-- locals have none
pub record Hides (hidden : Hidden) (env : List Value) (held : List (ℕ × ℕ)) : Type 0 where
  pub free : (r : ℕ) → Among r hidden.integers → IsFree r held
  pub whole : (r : ℕ) → Among r hidden.integers → r < length env → IsInteger (nth env r)
  pub low : HeldUnder held hidden.free_from
  pub bare : hidden.celled ≡ false → HeldBelow held 0

pub held_higher : (held : List (ℕ × ℕ)) (m n : ℕ) → m ≤ n → HeldBelow held m → HeldBelow held n
held_higher [] m n le h = tt
held_higher (x ∷ held) m n le h = let f = h.0 in (omega (arith, f), held_higher held m n le h.1)

pub ascends_higher : (from to high : ℕ) (ps : List Pending) → to ≤ high → Ascends from ps to → Ascends from ps high
ascends_higher from to high [] le h = tt
ascends_higher from to high (p ∷ ps) le h = let f = h.1.0 in (h.0, (omega (arith, f), ascends_higher (suc p.number) to high ps le h.1.1))

-- the locals are the registers of their numbers, captured ones and those to be closed are locals, and there are at least so many registers
pub record Rel (hidden : Hidden) (stack : ℕ) (pending : List Pending) (env : List Value) (c : Captured) (regs : List Value) : Type 0 where
  pub agree : (r : ℕ) → r < length env → nth env r ≡ nth regs r
  pub held : HeldBelow c.held (length env)
  pub hides : Hides hidden env c.held
  pub ascends : Ascends 0 pending (length env)
  pub fits : length env ≤ stack
  pub room : stack ≤ length regs

-- what stands after an expression whose value goes to register t
pub record After (hidden : Hidden) (stack : ℕ) (pending : List Pending) (env regs : List Value) (t : ℕ) (env' regs' : List Value) (c' : Captured) : Type 0 where
  pub size : length env' ≡ length env
  pub rel : Rel hidden stack pending env' c' regs'
  pub keeps : (r : ℕ) → length env ≤ r → r < t → nth regs' r ≡ nth regs r
  pub same : (r : ℕ) → Among r hidden.integers → nth env' r ≡ nth env r

module _ (hidden : Hidden) (stack : ℕ) (pending : List Pending) where
  pub after_none : (env regs : List Value) (c : Captured) (t : ℕ) → Rel hidden stack pending env c regs → After hidden stack pending env regs t env regs c
  after_none env regs c t h = record { size = refl; rel = h; keeps = λ r lo hi. refl; same = λ r m. refl }

  pub after_then : (env regs env1 regs1 env2 regs2 : List Value) (c1 c2 : Captured) (t t1 : ℕ) → t ≤ t1 → After hidden stack pending env regs t env1 regs1 c1 → After hidden stack pending env1 regs1 t1 env2 regs2 c2 → After hidden stack pending env regs t env2 regs2 c2
  after_then env regs env1 regs1 env2 regs2 c1 c2 t t1 le a b = record {
    size = b.size ∙ a.size;
    rel = b.rel;
    keeps = λ r lo hi. b.keeps r (omega (arith, a.size)) (omega arith) ∙ a.keeps r lo hi;
    same = λ r m. b.same r m ∙ a.same r m;
  }

  -- what stands up to a register stands up to a lower one
  pub lower : (env regs env' regs' : List Value) (c : Captured) (t r : ℕ) → r ≤ t → After hidden stack pending env regs t env' regs' c → After hidden stack pending env regs r env' regs' c
  lower env regs env' regs' c t r le a = record { size = a.size; rel = a.rel; keeps = λ q lo hi. a.keeps q lo (omega arith); same = a.same }

  -- registers that agree with the old ones below t, and are enough
  pub after_above : (env regs regs' : List Value) (c : Captured) (t : ℕ) → length env ≤ t → Rel hidden stack pending env c regs → ((r : ℕ) → r < t → nth regs' r ≡ nth regs r) → stack ≤ length regs' → After hidden stack pending env regs t env regs' c
  after_above env regs regs' c t le h same room = record {
    size = refl;
    rel = record { agree = λ r lr. h.agree r lr ∙ sym (same r (omega arith)); held = h.held; hides = h.hides; ascends = h.ascends; fits = h.fits; room = room };
    keeps = λ r lo hi. same r hi;
    same = λ r m. refl;
  }

  -- a write above the locals
  pub after_put : (env regs : List Value) (c : Captured) (t : ℕ) (v : Value) → length env ≤ t → Rel hidden stack pending env c regs → After hidden stack pending env regs t env (write t v regs) c
  after_put env regs c t v le h =
      let more = write_more t v regs in
      after_above env regs (write t v regs) c t le h (λ r lr. nth_write_other t v regs r (λ e. absurd (omega arith))) (omega (arith, more, h.room))

held_length : (held : List (ℕ × ℕ)) (m n : ℕ) → m ≡ n → HeldBelow held m → HeldBelow held n
held_length held m n e h = subst (HeldBelow held) e h

-- captured locals handed out and taken back

shared_same : (held : List (ℕ × ℕ)) (size : ℕ) (env regs : List Value) → HeldBelow held size → ((r : ℕ) → r < size → nth env r ≡ nth regs r) → shared_by held env ≡ shared_by held regs
shared_same [] size env regs h a = refl
shared_same (s ∷ held) size env regs h a =
    ap (λ v. (s.1, v) ∷ shared_by held env) (a s.0 h.0) ∙ ap (λ l. (s.1, nth regs s.0) ∷ l) (shared_same held size env regs h.1 a)

brought_length : (held : List (ℕ × ℕ)) (vs env : List Value) → HeldBelow held (length env) → length (brought held vs env) ≡ length env
brought_length [] vs env h = refl
brought_length (s ∷ held) [] env h = refl
brought_length (s ∷ held) (v ∷ vs) env h =
    let e = length_write s.0 v env h.0 in
    brought_length held vs (write s.0 v env) (held_length held (length env) (length (write s.0 v env)) (sym e) h.1) ∙ e

brought_more : (held : List (ℕ × ℕ)) (vs regs : List Value) → length regs ≤ length (brought held vs regs)
brought_more [] vs regs = omega arith
brought_more (s ∷ held) [] regs = omega arith
brought_more (s ∷ held) (v ∷ vs) regs = let a = write_more s.0 v regs in let b = brought_more held vs (write s.0 v regs) in omega (arith, a, b)

brought_agree : (held : List (ℕ × ℕ)) (vs : List Value) (size : ℕ) (env regs : List Value) → ((r : ℕ) → r < size → nth env r ≡ nth regs r) → (r : ℕ) → r < size → nth (brought held vs env) r ≡ nth (brought held vs regs) r
brought_agree [] vs size env regs a r h = a r h
brought_agree (s ∷ held) [] size env regs a r h = a r h
brought_agree (s ∷ held) (v ∷ vs) size env regs a r h =
    brought_agree held vs size (write s.0 v env) (write s.0 v regs) (λ q l. write_alike s.0 v env regs q (a q l)) r h

brought_keeps : (held : List (ℕ × ℕ)) (vs : List Value) (size : ℕ) (regs : List Value) → HeldBelow held size → (r : ℕ) → size ≤ r → nth (brought held vs regs) r ≡ nth regs r
brought_keeps [] vs size regs h r le = refl
brought_keeps (s ∷ held) [] size regs h r le = refl
brought_keeps (s ∷ held) (v ∷ vs) size regs h r le =
    let lt = h.0 in
    brought_keeps held vs size (write s.0 v regs) h.1 r le ∙ nth_write_other s.0 v regs r (λ e. absurd (omega (arith, lt)))

pub brought_free : (held : List (ℕ × ℕ)) (vs xs : List Value) (r : ℕ) → IsFree r held → nth (brought held vs xs) r ≡ nth xs r
brought_free [] vs xs r h = refl
brought_free (s ∷ held) [] xs r h = refl
brought_free (s ∷ held) (v ∷ vs) xs r h = brought_free held vs (write s.0 v xs) r h.1 ∙ nth_write_other s.0 v xs r h.0

-- hidden locals in what becomes of the locals

hides_shared : (hidden : Hidden) (env vs : List Value) (held : List (ℕ × ℕ)) → HeldBelow held (length env) → Hides hidden env held → Hides hidden (brought held vs env) held
hides_shared hidden env vs held below h =
    let e = brought_length held vs env below in
    record {
      free = h.free;
      whole = λ r m lt. subst IsInteger (sym (brought_free held vs env r (h.free r m))) (h.whole r m (omega (arith, e, lt)));
      low = h.low;
      bare = h.bare;
    }

under_more : (levels : List ℕ) (held : List (ℕ × ℕ)) (place cell : ℕ) → UnderAll place levels → HeldUnder held levels → HeldUnder ((place, cell) ∷ held) levels
under_more [] held place cell u h = tt
under_more (m ∷ ms) held place cell u h = ((u.0, h.0), under_more ms held place cell u.1 h.1)

hides_one_more : (hidden : Hidden) (env : List Value) (held : List (ℕ × ℕ)) (place cell : ℕ) → MayHold place hidden → Hides hidden env held → Hides hidden env ((place, cell) ∷ held)
hides_one_more hidden env held place cell other h = record {
  free = λ r m. (λ e. other.0 (subst (λ q. Among q hidden.integers) e m), h.free r m);
  whole = h.whole;
  low = under_more hidden.free_from held place cell other.1.0 h.low;
  bare = λ e. let some = other.1.1 in absurd (cc);
}

pub hides_more : (hidden : Hidden) (env vs : List Value) (held : List (ℕ × ℕ)) → AllUnder hidden.integers (length env) → Hides hidden env held → Hides hidden (env ++ vs) held
hides_more hidden env vs held under h = record {
  free = h.free;
  whole = λ r m lt. subst IsInteger (sym (nth_old env vs r (under r m))) (h.whole r m (under r m));
  low = h.low;
  bare = h.bare;
}

pub hides_write : (hidden : Hidden) (env : List Value) (held : List (ℕ × ℕ)) (v : Value) (n : ℕ) → n < length env → (Among n hidden.integers → ⊥) → Hides hidden env held → Hides hidden (write n v env) held
hides_write hidden env held v n lt other h =
    let same = length_write n v env lt in
    record {
      free = h.free;
      whole = λ r m less. subst IsInteger (sym (nth_write_other n v env r (λ e. other (subst (λ q. Among q hidden.integers) e m)))) (h.whole r m (omega (arith, same, less)));
      low = h.low;
      bare = h.bare;
    }

abbrev pub told : Captured → Captured
told c = record { held = c.held; gone = [] }

module _ (hidden : Hidden) (stack : ℕ) (pending : List Pending) where
  pub held_same : (env : List Value) (c : Captured) (regs : List Value) → Rel hidden stack pending env c regs → shared_by c.held env ≡ shared_by c.held regs
  held_same env c regs rel = shared_same c.held (length env) env regs rel.held rel.agree

  pub share_same : (env : List Value) (c : Captured) (regs : List Value) → Rel hidden stack pending env c regs → shared_by c.held env ++ c.gone ≡ shared_by c.held regs ++ c.gone
  share_same env c regs rel = ap (λ l. l ++ c.gone) (held_same env c regs rel)

  pub after_share : (env regs vs : List Value) (c : Captured) (t : ℕ) → Rel hidden stack pending env c regs → After hidden stack pending env regs t (brought c.held vs env) (brought c.held vs regs) (told c)
  after_share env regs vs c t h =
      let e = brought_length c.held vs env h.held in
      let more = brought_more c.held vs regs in
      record {
        size = e;
        rel = record {
          agree = λ r l. brought_agree c.held vs (length env) env regs h.agree r (omega (arith, e));
          held = held_length c.held _ _ (sym e) h.held;
          hides = hides_shared hidden env vs c.held h.held h.hides;
          ascends = subst (Ascends 0 pending) (sym e) h.ascends;
          fits = omega (arith, e, h.fits);
          room = omega (arith, more, h.room);
        };
        keeps = λ r lo hi. brought_keeps c.held vs (length env) regs h.held r lo;
        same = λ r m. brought_free c.held vs env r (h.hides.free r m);
      }

  -- and a local gets a cell besides
  pub after_hold : (env regs vs : List Value) (c : Captured) (t place cell : ℕ) → place < length env → MayHold place hidden → Rel hidden stack pending env c regs
      → After hidden stack pending env regs t (brought c.held vs env) (brought c.held vs regs) (record { held = (place, cell) ∷ c.held; gone = [] })
  after_hold env regs vs c t place cell below other h =
      let e = brought_length c.held vs env h.held in
      let a = after_share env regs vs c t h in
      record {
        size = a.size;
        rel = record { agree = a.rel.agree; held = (omega (arith, e), a.rel.held); hides = hides_one_more hidden (brought c.held vs env) c.held place cell other a.rel.hides; ascends = a.rel.ascends; fits = a.rel.fits; room = a.rel.room };
        keeps = a.keeps;
        same = a.same;
      }

  -- a local is declared, whose value goes to the register behind those of the others
  pub rel_more : (env regs : List Value) (c : Captured) (v : Value) (t : ℕ) → length env ≡ t → t < stack → AllUnder hidden.integers t → Rel hidden stack pending env c regs → Rel hidden stack pending (env ++ v ∷ []) c (write t v regs)
  rel_more env regs c v t size room under h =
      let sum = length-append env (v ∷ []) in
      let more = write_more t v regs in
      record {
        agree = λ r lr. ⊎_elim
            (λ below. nth_old env (v ∷ []) r below ∙ h.agree r below ∙ sym (nth_write_other t v regs r (λ e. absurd (omega (arith, size, below, e)))))
            (λ last. let is : r ≡ t = omega (arith, sum, size, lr, last) in ap (nth (env ++ v ∷ [])) (is ∙ sym size) ∙ last_nth env v ∙ sym (nth_write_same t v regs) ∙ ap (nth (write t v regs)) (sym is))
            (split r (length env));
        held = held_higher c.held (length env) (length (env ++ v ∷ [])) (omega (arith, sum)) h.held;
        hides = hides_more hidden env (v ∷ []) c.held (subst (AllUnder hidden.integers) (sym size) under) h.hides;
        ascends = ascends_higher 0 (length env) (length (env ++ v ∷ [])) pending (omega (arith, sum)) h.ascends;
        fits = omega (arith, sum, size, room);
        room = omega (arith, more, h.room);
      }

  -- a local and its register get a value
  pub rel_write : (env regs : List Value) (c : Captured) (v : Value) (r : ℕ) → r < length env → (Among r hidden.integers → ⊥) → Rel hidden stack pending env c regs → Rel hidden stack pending (write r v env) c (write r v regs)
  rel_write env regs c v r lt other h =
      let same = length_write r v env lt in
      let more = write_more r v regs in
      record {
        agree = λ q lq. write_alike r v env regs q (h.agree q (omega (arith, same, lq)));
        held = held_length c.held _ _ (sym same) h.held;
        hides = hides_write hidden env c.held v r lt other h.hides;
        ascends = subst (Ascends 0 pending) (sym same) h.ascends;
        fits = omega (arith, same, h.fits);
        room = omega (arith, more, h.room);
      }
