-- What code still closes where it is left is what its pending registers hold, the last one first.
use Rattle.std.proofs.Common.{ℕ, zero, suc, ◌+◌, ◌<◌, ◌≡◌, List, [], ◌∷◌, length, Some, None, refl, sym, ap, subst, ◌∙◌, arith, Bool, true, cond}
use Rattle.std.specs.Prelude.{slice_get, map, reverse, nat_eq}
use Rattle.std.proofs.lemmas.List.{reverse-append, map-append}
use Rattle.int_core.specs.Value.{Value, known, nil, nth}
use Rattle.code_core.specs.Prototype.{Prototype}
use Rattle.machine_core.specs.World.{Activation}
use Rattle.machine_core.specs.Text.{last_pending, without_pending, is_pending, blanked, done}
use Rattle.machine_core.proofs.Pending.{last_from, without_from}
use Rattle.machine_core.specs.InstructionRows.{left_so}
use Rattle.code_means.specs.Runs.{closed_of}
use Rattle.list_laws.proofs.Ends.{Snoc, empty, with_last, snoc}
use Rattle.list_laws.proofs.Items.{length_more}
use Rattle.list_laws.proofs.Tests.{eq_refl, or_left, or_right}
use Rattle.machine_sound.specs.Sound.{Each}
use Rattle.machine_sound.proofs.Lists.{each_front}

is_zero_length : {A : Type 0} (xs : List A) → length xs ≡ 0 → xs ≡ []
is_zero_length [] e = refl
is_zero_length (x ∷ xs) e = absurd (omega (arith, e))

among : (rs : List ℕ) (i r : ℕ) → slice_get rs i ≡ Some r → is_pending rs r ≡ true
among [] i r e = absurd (cc)
among (q ∷ rs) zero r e = let d : q ≡ r = cc in or_left (nat_eq r q) (is_pending rs r) (ap (nat_eq r) d ∙ eq_refl r)
among (q ∷ rs) (suc i) r e = or_right (nat_eq r q) (is_pending rs r) (among rs i r e)

map_on : (f g : ℕ → Value) (rs : List ℕ) → ((i r : ℕ) → slice_get rs i ≡ Some r → f r ≡ g r) → map f rs ≡ map g rs
map_on f g [] h = refl
map_on f g (r ∷ rs) h = ap (λ x. x ∷ map f rs) (h 0 r refl) ∙ ap (λ l. g r ∷ l) (map_on f g rs (λ i. h (suc i)))

kept : (keeps : ℕ → Bool) (i count r j : ℕ) (regs : List Value) → j ≡ i + r → r < count → keeps j ≡ true → nth (blanked keeps i count regs) r ≡ nth regs j
kept keeps i zero r j regs e l k = absurd (omega (arith, l))
kept keeps i (suc count) zero j regs e l k =
    let d : j ≡ i = omega (arith, e) in ap (λ b. cond b (nth regs i) (known nil)) (subst (λ n. keeps n ≡ true) d k) ∙ ap (nth regs) (sym d)
kept keeps i (suc count) (suc r) j regs e l k = kept keeps (suc i) count r j regs (omega (arith, e)) (omega (arith, l)) k

pub closed_is : (p : Prototype) (n : ℕ) (a : Activation) → length a.pending ≡ n → Each (λ r. r < p.own.stack) a.pending → closed_of p n a ≡ reverse (map (nth a.registers) a.pending)
closed_is p zero a count bound = sym (ap (λ rs. reverse (map (nth a.registers) rs)) (is_zero_length a.pending count))
closed_is p (suc n) a count bound = by a.pending (snoc a.pending) refl (λ b c d. closed_is p n b c d)
  where
    by : (rs : List ℕ) → Snoc rs → a.pending ≡ rs
        → ((b : Activation) → length b.pending ≡ n → Each (λ r. r < p.own.stack) b.pending → closed_of p n b ≡ reverse (map (nth b.registers) b.pending))
        → elim (last_pending 0 a.pending) as (λ _. List Value) [ None ↦ [] | Some r ↦ nth a.registers r ∷ closed_of p n (done left_so p [] a) ] ≡ reverse (map (nth a.registers) a.pending)
    by _ empty q more = absurd (let l = ap (λ rs. length rs) q in omega (arith, l, count))
    by _ (with_last ys y) q more =
        let b : Activation = done left_so p [] a in
        let is_last : last_pending 0 a.pending ≡ Some y = ap (last_pending 0) q ∙ last_from 0 ys y (omega arith) in
        let fewer : b.pending ≡ ys = ap (without_pending 0) q ∙ without_from 0 ys y (omega arith) in
        let bounds : Each (λ r. r < p.own.stack) ys = each_front (λ r. r < p.own.stack) ys (y ∷ []) (subst (Each (λ r. r < p.own.stack)) q bound) in
        let size : length b.pending ≡ n = (let i = ap (λ rs. length rs) fewer in let j = ap (λ rs. length rs) q in let l = length_more ys y in omega (arith, i, j, l, count)) in
        let same : map (nth b.registers) b.pending ≡ map (nth a.registers) ys =
        ap (λ rs. map (nth (blanked (is_pending rs) 0 p.own.stack a.registers)) rs) fewer
        ∙ map_on (nth (blanked (is_pending ys) 0 p.own.stack a.registers)) (nth a.registers) ys (λ i r e. kept (is_pending ys) 0 p.own.stack r r a.registers (omega arith) (bounds i r e) (among ys i r e)) in
        ap (λ o. elim o as (λ _. List Value) [ None ↦ [] | Some r ↦ nth a.registers r ∷ closed_of p n b ]) is_last
        ∙ ap (λ l. nth a.registers y ∷ l) (more b size (subst (Each (λ r. r < p.own.stack)) (sym fewer) bounds) ∙ ap reverse same)
        ∙ sym (ap (λ rs. reverse (map (nth a.registers) rs)) q ∙ ap reverse (map-append (nth a.registers) ys (y ∷ [])) ∙ reverse-append (map (nth a.registers) ys) (nth a.registers y ∷ []))
