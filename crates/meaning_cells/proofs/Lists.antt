-- Lists of values, and the cells that an activation holds.
use Rattle.std.proofs.Common.{ℕ, zero, suc, ◌<◌, ◌≡◌, ◌⊎◌, inl, inr, ⊎_elim, List, [], ◌∷◌, ◌++◌, length, refl, sym, ap, subst, ◌∙◌, arith, Bool, true, false, cond}
use Rattle.std.specs.Prelude.{map, nat_lt, slice_set}
use Rattle.std.proofs.lemmas.Bool.{cases_eq}
use Rattle.int_core.specs.Value.{Value, nth, write}
use Rattle.int_core.specs.Ask.{shared_by, held_below, gone_from, brought}
use Rattle.list_laws.proofs.Values.{nth_write_same, nth_write_other, length_write, nth_set_same, nth_set_other, write_own}
use Rattle.lua_meaning.specs.World.{shared_in, shared_out}
use Rattle.meaning_cells.specs.Opening.{carried}
use Rattle.list_laws.specs.Held.{Held, Has}

-- what an answer brings back

pub bring_at : (f : ℕ → Value) (h : Held) (ys : List Value) (gone : List (ℕ × Value)) (xs : List Value) (r : ℕ) (v : Value)
    → (nth xs r ≡ v) ⊎ ((c : ℕ) × Has r c h) → ((c : ℕ) → Has r c h → f c ≡ v) → nth (brought h (map (λ s. f s.0) (shared_by h ys ++ gone)) xs) r ≡ v
bring_at f [] ys gone xs r v off on = ⊎_elim (λ k. k) (λ k. absurd k.1) off
bring_at f (s ∷ h) ys gone xs r v off on =
    bring_at f h ys gone (write s.0 (f s.1) xs) r v
    (⊎_elim
    (λ k. inl (subst (λ q. nth (write s.0 (f s.1) xs) q ≡ v) (sym k) (nth_write_same s.0 (f s.1) xs ∙ on s.1 (inl (sym k, refl)))))
    (λ n. ⊎_elim (λ k. inl (nth_write_other s.0 (f s.1) xs r n ∙ k)) (λ k. ⊎_elim (λ m. absurd (n (sym m.0))) (λ m. inr (k.0, m)) k.1) off)
    (cases_eq r s.0))
    (λ c k. on c (inr k))

pub bring_size : (vs : List Value) (h : Held) (xs : List Value) → ((r c : ℕ) → Has r c h → r < length xs) → length (brought h vs xs) ≡ length xs
bring_size vs [] xs k = refl
bring_size [] (s ∷ h) xs k = refl
bring_size (v ∷ vs) (s ∷ h) xs k =
    let e = length_write s.0 v xs (k s.0 s.1 (inl (refl, refl))) in
    bring_size vs h (write s.0 v xs) (λ r c m. let l = k r c (inr m) in omega (arith, e, l)) ∙ e

pub bring_own : (h : Held) (gone : List (ℕ × Value)) (xs : List Value) → ((r c : ℕ) → Has r c h → r < length xs) → brought h (map carried (shared_by h xs ++ gone)) xs ≡ xs
bring_own [] gone xs k = refl
bring_own (s ∷ h) gone xs k =
    ap (brought h (map carried (shared_by h xs ++ gone))) (write_own s.0 xs (k s.0 s.1 (inl (refl, refl)))) ∙ bring_own h gone xs (λ r c m. k r c (inr m))

pub shares : (h : Held) (gone : List (ℕ × Value)) (xs : List Value) (r c : ℕ) → Has r c h → Has c (nth xs r) (shared_by h xs ++ gone)
shares [] gone xs r c k = absurd k
shares (s ∷ h) gone xs r c k = ⊎_elim (λ m. inl (m.1, ap (nth xs) m.0)) (λ m. inr (shares h gone xs r c m)) k

-- what is held

-- the places from a level on
abbrev pub held_from : ℕ → Held → Held
held_from level [] = []
held_from level (s ∷ h) = cond (nat_lt s.0 level) (held_from level h) (s ∷ held_from level h)

pub gone_is : (level : ℕ) (h : Held) (xs : List Value) → gone_from level h xs ≡ shared_by (held_from level h) xs
gone_is level [] xs = refl
gone_is level (s ∷ h) xs = by (nat_lt s.0 level) (gone_is level h xs) where
  by : (b : Bool) → gone_from level h xs ≡ shared_by (held_from level h) xs
      → cond b (gone_from level h xs) ((s.1, nth xs s.0) ∷ gone_from level h xs) ≡ shared_by (cond b (held_from level h) (s ∷ held_from level h)) xs
  by true e = e
  by false e = ap (λ z. (s.1, nth xs s.0) ∷ z) e

pub from_has : (a : ℕ) (h : Held) (r c : ℕ) → Has r c h → Has r c (held_below a h) ⊎ Has r c (held_from a h)
from_has a [] r c k = absurd k
from_has a (s ∷ h) r c k = by (nat_lt s.0 a) (λ m. from_has a h r c m) k where
  by : (b : Bool) → (Has r c h → Has r c (held_below a h) ⊎ Has r c (held_from a h)) → Has r c (s ∷ h)
      → Has r c (cond b (s ∷ held_below a h) (held_below a h)) ⊎ Has r c (cond b (held_from a h) (s ∷ held_from a h))
  by true ih m = ⊎_elim (λ n. inl (inl n)) (λ n. ⊎_elim (λ x. inl (inr x)) (λ x. inr x) (ih n)) m
  by false ih m = ⊎_elim (λ n. inr (inl n)) (λ n. ⊎_elim (λ x. inl x) (λ x. inr (inr x)) (ih n)) m

pub from_was : (a : ℕ) (h : Held) (r c : ℕ) → Has r c (held_from a h) → Has r c h
from_was a [] r c k = absurd k
from_was a (s ∷ h) r c k = by (nat_lt s.0 a) (from_was a h r c) k where
  by : (b : Bool) → (Has r c (held_from a h) → Has r c h) → Has r c (cond b (held_from a h) (s ∷ held_from a h)) → Has r c (s ∷ h)
  by true ih m = inr (ih m)
  by false ih m = ⊎_elim (λ n. inl n) (λ n. inr (ih n)) m

-- where a cell is held
pub place_of : (c : ℕ) (h : Held) → ((r : ℕ) × Has r c h) ⊎ ((r : ℕ) → Has r c h → ⊥)
place_of c [] = inr (λ r k. k)
place_of c (s ∷ h) = ⊎_elim
    (λ e. inl (s.0, inl (refl, e)))
    (λ n. ⊎_elim (λ k. inl (k.0, inr k.1)) (λ k. inr (λ r m. ⊎_elim (λ x. n x.1) (λ x. k r x) m)) (place_of c h))
    (cases_eq s.1 c)

-- values that are carried into cells

pub set_size : (c : ℕ) (v : Value) (xs : List Value) → length (slice_set xs c v) ≡ length xs
set_size c v [] = refl
set_size zero v (x ∷ xs) = refl
set_size (suc c) v (x ∷ xs) = ap suc (set_size c v xs)

pub in_size : (shared : List (ℕ × Value)) (xs : List Value) → length (shared_in shared xs) ≡ length xs
in_size [] xs = refl
in_size (s ∷ shared) xs = set_size s.0 s.1 (shared_in shared xs) ∙ in_size shared xs

-- a cell into which nothing is carried keeps its value
pub in_other : (shared : List (ℕ × Value)) (xs : List Value) (c : ℕ) → ((v : Value) → Has c v shared → ⊥) → nth (shared_in shared xs) c ≡ nth xs c
in_other [] xs c off = refl
in_other (s ∷ shared) xs c off =
    nth_set_other s.0 s.1 (shared_in shared xs) c (λ e. off s.1 (inl (sym e, refl))) ∙ in_other shared xs c (λ v k. off v (inr k))

-- a held cell gets the value of its local
pub in_held : (h : Held) (gone : List (ℕ × Value)) (ls xs : List Value) (n c : ℕ) → c < length xs → ((r m : ℕ) → Has r c h → Has m c h → r ≡ m) → Has n c h
    → nth (shared_in (shared_by h ls ++ gone) xs) c ≡ nth ls n
in_held [] gone ls xs n c l once k = absurd k
in_held (s ∷ h) gone ls xs n c l once k = ⊎_elim
    (λ e.
    let size = in_size (shared_by h ls ++ gone) xs in
    let at : s.0 ≡ n = once s.0 n (inl (refl, e)) k in
    subst (λ z. nth (slice_set (shared_in (shared_by h ls ++ gone) xs) z (nth ls s.0)) c ≡ nth ls n) (sym e)
    (nth_set_same c (nth ls s.0) (shared_in (shared_by h ls ++ gone) xs) (omega (arith, size, l)) ∙ ap (nth ls) at))
    (λ ne.
    nth_set_other s.1 (nth ls s.0) (shared_in (shared_by h ls ++ gone) xs) c (λ e. ne (sym e))
    ∙ in_held h gone ls xs n c l (λ r m a b. once r m (inr a) (inr b)) (⊎_elim (λ m. absurd (ne m.1)) (λ m. m) k))
    (cases_eq s.1 c)

-- one that is not held gets what went out of scope last
pub in_off : (h : Held) (gone : List (ℕ × Value)) (ls xs : List Value) (c : ℕ) → ((r : ℕ) → Has r c h → ⊥)
    → nth (shared_in (shared_by h ls ++ gone) xs) c ≡ nth (shared_in gone xs) c
in_off [] gone ls xs c off = refl
in_off (s ∷ h) gone ls xs c off =
    nth_set_other s.1 (nth ls s.0) (shared_in (shared_by h ls ++ gone) xs) c (λ e. off s.0 (inl (refl, sym e))) ∙ in_off h gone ls xs c (λ r k. off r (inr k))

pub shared_was : (h : Held) (gone : List (ℕ × Value)) (ls : List Value) (c : ℕ) (v : Value) → Has c v (shared_by h ls ++ gone) → ((r : ℕ) × Has r c h) ⊎ Has c v gone
shared_was [] gone ls c v k = inr k
shared_was (s ∷ h) gone ls c v k = ⊎_elim (λ m. inl (s.0, inl (refl, m.0))) (λ m. ⊎_elim (λ x. inl (x.0, inr x.1)) (λ x. inr x) (shared_was h gone ls c v m)) k

pub out_is : (shared : List (ℕ × Value)) (xs : List Value) → shared_out shared xs ≡ map (λ s. nth xs s.0) shared
out_is [] xs = refl
out_is (s ∷ shared) xs = ap (λ z. nth xs s.0 ∷ z) (out_is shared xs)
