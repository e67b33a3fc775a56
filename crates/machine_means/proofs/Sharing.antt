-- Captured locals in cells: written to them before an ask, taken back at its answer, closed.
use Rattle.std.proofs.Common.{ℕ, ◌<◌, ◌≤◌, ◌≡◌, ◌⊎◌, inl, inr, ⊎_elim, List, [], ◌∷◌, ◌++◌, length, refl, sym, ap, subst, ◌∙◌, arith}
use Rattle.std.specs.Prelude.{Bool, true, false, cond, map, nat_lt, slice_set}
use Rattle.std.proofs.lemmas.Bool.{cases_eq}
use Rattle.int_core.specs.Value.{Value, nth, write}
use Rattle.int_core.specs.Ask.{shared_by, gone_from, brought}
use Rattle.lua_meaning.specs.World.{second, shared_in, shared_out}
use Rattle.list_laws.specs.Held.{Held, Has}
use Rattle.list_laws.proofs.Values.{nth_write_same, nth_write_other, write_more, nth_set_same, nth_set_other}
use Rattle.list_laws.proofs.Items.{length_set}
use Rattle.list_laws.proofs.Tests.{lt_true, lt_is}

abbrev pub Once : Held → Type 0
Once h = (r q c : ℕ) → Has r c h → Has q c h → r ≡ q

pub once_less : (s : ℕ × ℕ) (h : Held) → Once (s ∷ h) → Once h
once_less s h o r q c a b = o r q c (inr a) (inr b)

abbrev pub InRange : Held → List Value → Type 0
InRange h vs = (r c : ℕ) → Has r c h → c < length vs

pub in_less : (s : ℕ × ℕ) (h : Held) (vs : List Value) → InRange (s ∷ h) vs → InRange h vs
in_less s h vs k r c m = k r c (inr m)

pub shared_length : (a : List (ℕ × Value)) (vs : List Value) → length (shared_in a vs) ≡ length vs
shared_length [] vs = refl
shared_length (x ∷ a) vs = length_set (shared_in a vs) x.0 x.1 ∙ shared_length a vs

pub shared_append : (a b : List (ℕ × Value)) (vs : List Value) → shared_in (a ++ b) vs ≡ shared_in a (shared_in b vs)
shared_append [] b vs = refl
shared_append (x ∷ a) b vs = ap (λ xs. slice_set xs x.0 x.1) (shared_append a b vs)

pub flush_on : (h : Held) (regs vs : List Value) (r c : ℕ) → Once h → InRange h vs → Has r c h → nth (shared_in (shared_by h regs) vs) c ≡ nth regs r
flush_on [] regs vs r c o l k = absurd k
flush_on (s ∷ h) regs vs r c o l k =
    let within : s.1 < length (shared_in (shared_by h regs) vs) = subst (λ n. s.1 < n) (sym (shared_length (shared_by h regs) vs)) (l s.0 s.1 (inl (refl, refl))) in
    ⊎_elim
    (λ e. let f : r ≡ s.0 = o r s.0 c k (inl (refl, sym e)) in
    subst (λ c. nth (slice_set (shared_in (shared_by h regs) vs) s.1 (nth regs s.0)) c ≡ nth regs r) (sym e) (nth_set_same s.1 (nth regs s.0) (shared_in (shared_by h regs) vs) within ∙ ap (nth regs) (sym f)))
    (λ n. nth_set_other s.1 (nth regs s.0) (shared_in (shared_by h regs) vs) c n ∙ ⊎_elim (λ e. absurd (n (sym e.1))) (λ m. flush_on h regs vs r c (once_less s h o) (in_less s h vs l) m) k)
    (cases_eq c s.1)

pub flush_off : (h : Held) (regs vs : List Value) (c : ℕ) → ((r : ℕ) → Has r c h → ⊥) → nth (shared_in (shared_by h regs) vs) c ≡ nth vs c
flush_off [] regs vs c n = refl
flush_off (s ∷ h) regs vs c n =
    nth_set_other s.1 (nth regs s.0) (shared_in (shared_by h regs) vs) c (λ e. n s.0 (inl (refl, sym e))) ∙ flush_off h regs vs c (λ r k. n r (inr k))

-- what an answer brings back: the values of the registers regs, and maybe more registers
pub share_in : (h : Held) (ys regs vs xs : List Value) (gone : List (ℕ × Value)) → length regs ≤ length xs → ((r : ℕ) → (nth xs r ≡ nth regs r) ⊎ ((c : ℕ) × Has r c h)) → ((r c : ℕ) → Has r c h → nth vs c ≡ nth regs r)
    → ((r : ℕ) → nth (brought h (shared_out (shared_by h ys ++ gone) vs) xs) r ≡ nth regs r) × (length regs ≤ length (brought h (shared_out (shared_by h ys ++ gone) vs) xs))
share_in [] ys regs vs xs gone l off on = ((λ r. ⊎_elim (λ k. k) (λ k. absurd k.1) (off r)), l)
share_in (s ∷ h) ys regs vs xs gone l off on =
    let more = write_more s.0 (nth vs s.1) xs in
    share_in h ys regs vs (write s.0 (nth vs s.1) xs) gone (omega (arith, l, more))
    (λ r. ⊎_elim
    (λ k. inl (subst (λ r. nth (write s.0 (nth vs s.1) xs) r ≡ nth regs r) (sym k) (nth_write_same s.0 (nth vs s.1) xs ∙ on s.0 s.1 (inl (refl, refl)))))
    (λ n. ⊎_elim (λ k. inl (nth_write_other s.0 (nth vs s.1) xs r n ∙ k)) (λ k. ⊎_elim (λ m. absurd (n (sym m.0))) (λ m. inr (k.0, m)) k.1) (off r))
    (cases_eq r s.0))
    (λ r c k. on r c (inr k))

-- those that go out of scope
module _ (a : ℕ) (regs vs : List Value) where
  pub gone_on : (h : Held) (r c : ℕ) → Once h → InRange h vs → Has r c h → (r < a → ⊥) → nth (shared_in (gone_from a h regs) vs) c ≡ nth regs r
  gone_on [] r c o l k n = absurd k
  gone_on (s ∷ h) r c o l k n = by (nat_lt s.0 a) refl (λ m. gone_on h r c (once_less s h o) (in_less s h vs l) m n)
    where
      by : (b : Bool) → nat_lt s.0 a ≡ b → (Has r c h → nth (shared_in (gone_from a h regs) vs) c ≡ nth regs r) → nth (shared_in (cond b (gone_from a h regs) ((s.1, nth regs s.0) ∷ gone_from a h regs)) vs) c ≡ nth regs r
      by true e ih = ⊎_elim (λ m. absurd (n (subst (λ x. x < a) m.0 (lt_is s.0 a e)))) ih k
      by false e ih =
          let within : s.1 < length (shared_in (gone_from a h regs) vs) = subst (λ n. s.1 < n) (sym (shared_length (gone_from a h regs) vs)) (l s.0 s.1 (inl (refl, refl))) in
          ⊎_elim
          (λ f. let g : r ≡ s.0 = o r s.0 c k (inl (refl, sym f)) in
          subst (λ c. nth (slice_set (shared_in (gone_from a h regs) vs) s.1 (nth regs s.0)) c ≡ nth regs r) (sym f) (nth_set_same s.1 (nth regs s.0) (shared_in (gone_from a h regs) vs) within ∙ ap (nth regs) (sym g)))
          (λ n. nth_set_other s.1 (nth regs s.0) (shared_in (gone_from a h regs) vs) c n ∙ ⊎_elim (λ e. absurd (n (sym e.1))) ih k)
          (cases_eq c s.1)

  pub gone_off : (h : Held) (c : ℕ) → ((r : ℕ) → Has r c h → r < a) → nth (shared_in (gone_from a h regs) vs) c ≡ nth vs c
  gone_off [] c n = refl
  gone_off (s ∷ h) c n = by (nat_lt s.0 a) refl (gone_off h c (λ r k. n r (inr k)))
    where
      by : (b : Bool) → nat_lt s.0 a ≡ b → nth (shared_in (gone_from a h regs) vs) c ≡ nth vs c → nth (shared_in (cond b (gone_from a h regs) ((s.1, nth regs s.0) ∷ gone_from a h regs)) vs) c ≡ nth vs c
      by true e ih = ih
      by false e ih =
          let f = lt_true s.0 a in
          nth_set_other s.1 (nth regs s.0) (shared_in (gone_from a h regs) vs) c (λ d. absurd (let g : true ≡ false = sym (f (n s.0 (inl (refl, sym d)))) ∙ e in cc)) ∙ ih

-- an answer that comes at once, with the values that the ask carried, changes no register
pub brought_own : (h : List (ℕ × ℕ)) (ys xs : List Value) (gone : List (ℕ × Value)) → ((r : ℕ) → nth xs r ≡ nth ys r) → (r : ℕ) → nth (brought h (map second (shared_by h ys ++ gone)) xs) r ≡ nth ys r
brought_own [] ys xs gone e r = e r
brought_own (s ∷ h) ys xs gone e r = brought_own h ys (write s.0 (nth ys s.0) xs) gone (λ q. ⊎_elim (λ d. ap (nth (write s.0 (nth ys s.0) xs)) d ∙ nth_write_same s.0 (nth ys s.0) xs ∙ ap (nth ys) (sym d)) (λ n. nth_write_other s.0 (nth ys s.0) xs q n ∙ e q) (cases_eq q s.0)) r
