-- Constants that are looked up, and one that is added.
use Rattle.std.proofs.Common.{arith, ℕ, suc, Bool, ◌++◌, refl, sym, ◌≡◌, ◌≤◌, ◌<◌, ℤ, pos, true, false, List, [], ◌∷◌, ap, ◌∙◌, subst, cond, length, length-append, Option, Some, None, nat_eq}
use Rattle.std.specs.Cmp.{signed_Decides}
use Rattle.std.specs.Cmp.Lexicographic.{pointwise, nat_list_eq_equiv}
use Rattle.std.specs.Ordering.{int_eq}
use Rattle.std.specs.HashMap.{HashMap, get, get_by, Updates}
use Rattle.std.specs.Map.{KeepsOthers}
use Rattle.std.specs.declared.vec.Vec.{Vec}
use Rattle.std.proofs.lemmas.Slice.Eq.{bytes_eq-Decides}
use Rattle.code_core.specs.declared.proto.Const.{Const}
use Rattle.code_core.specs.declared.proto.Const.TheVariants.{Nil, False, True, Int, Str}
use Rattle.code_of.specs.Constants.{number_in, same_constant, with_constant}
use Rattle.code_of.proofs.Constants.{same_int, same_text, same_self, same_is}
use Rattle.code_constants.specs.Indexed.{Tells, IsIndexed}

-- a constant that has a number is there already, and another goes last

numbered : (x c : Const) (cs : List Const) (b : Bool) → same_constant c x ≡ b → number_in (c ∷ cs) x ≡ cond b 0 (suc (number_in cs x))
numbered x c cs b e = ap (λ z. cond z 0 (suc (number_in cs x))) e

known_behind : (x c : Const) (cs : List Const) (b : Bool) → same_constant c x ≡ b → number_in (c ∷ cs) x < length (c ∷ cs) → (number_in cs x < length cs → with_constant x cs ≡ cs) → with_constant x (c ∷ cs) ≡ c ∷ cs
known_behind x c cs true e h further = ap (λ z. cond z (c ∷ cs) (c ∷ with_constant x cs)) e
known_behind x c cs false e h further =
    ap (λ z. cond z (c ∷ cs) (c ∷ with_constant x cs)) e
    ∙ ap (λ l. c ∷ l) (further (let n = numbered x c cs false e in omega (arith, h, n)))

pub known : (x : Const) (cs : List Const) → number_in cs x < length cs → with_constant x cs ≡ cs
known x [] h = absurd (omega (arith, h))
known x (c ∷ cs) h = known_behind x c cs (same_constant c x) refl h (known x cs)

unknown_behind : (x c : Const) (cs : List Const) (b : Bool) → same_constant c x ≡ b → length (c ∷ cs) ≤ number_in (c ∷ cs) x → (length cs ≤ number_in cs x → with_constant x cs ≡ cs ++ x ∷ []) → with_constant x (c ∷ cs) ≡ c ∷ cs ++ x ∷ []
unknown_behind x c cs true e h further = absurd (let n = numbered x c cs true e in omega (arith, h, n))
unknown_behind x c cs false e h further =
    ap (λ z. cond z (c ∷ cs) (c ∷ with_constant x cs)) e
    ∙ ap (λ l. c ∷ l) (further (let n = numbered x c cs false e in omega (arith, h, n)))

pub unknown : (x : Const) (cs : List Const) → length cs ≤ number_in cs x → with_constant x cs ≡ cs ++ x ∷ []
unknown x [] h = refl
unknown x (c ∷ cs) h = unknown_behind x c cs (same_constant c x) refl h (unknown x cs)

-- what a look-up tells where another constant goes last

absent_behind : (x y c : Const) (cs : List Const) (b : Bool) → same_constant c y ≡ b → (number_in cs y ≡ length cs → number_in (cs ++ x ∷ []) y ≡ length (cs ++ x ∷ []))
    → number_in (c ∷ cs) y ≡ length (c ∷ cs) → number_in (c ∷ (cs ++ x ∷ [])) y ≡ suc (length (cs ++ x ∷ []))
absent_behind x y c cs true e further is = absurd (let n = numbered y c cs true e in omega (arith, is, n))
absent_behind x y c cs false e further is =
    numbered y c (cs ++ x ∷ []) false e ∙ ap suc (further (let n = numbered y c cs false e in omega (arith, is, n)))

absent_still : (x y : Const) (cs : List Const) → same_constant x y ≡ false → number_in cs y ≡ length cs → number_in (cs ++ x ∷ []) y ≡ length (cs ++ x ∷ [])
absent_still x y [] apart is = numbered y x [] false apart
absent_still x y (c ∷ cs) apart is = absent_behind x y c cs (same_constant c y) refl (absent_still x y cs apart) is

present_behind : (x y c : Const) (cs : List Const) (b : Bool) → same_constant c y ≡ b → (number_in cs y < length cs → number_in (cs ++ x ∷ []) y ≡ number_in cs y)
    → number_in (c ∷ cs) y < length (c ∷ cs) → number_in (c ∷ (cs ++ x ∷ [])) y ≡ number_in (c ∷ cs) y
present_behind x y c cs true e further h = numbered y c (cs ++ x ∷ []) true e ∙ sym (numbered y c cs true e)
present_behind x y c cs false e further h =
    numbered y c (cs ++ x ∷ []) false e ∙ ap suc (further (let n = numbered y c cs false e in omega (arith, h, n))) ∙ sym (numbered y c cs false e)

present_still : (x y : Const) (cs : List Const) → number_in cs y < length cs → number_in (cs ++ x ∷ []) y ≡ number_in cs y
present_still x y [] h = absurd (omega (arith, h))
present_still x y (c ∷ cs) h = present_behind x y c cs (same_constant c y) refl (present_still x y cs) h

added_behind : (x c : Const) (cs : List Const) (b : Bool) → same_constant c x ≡ b → (length cs ≤ number_in cs x → number_in (cs ++ x ∷ []) x ≡ length cs)
    → length (c ∷ cs) ≤ number_in (c ∷ cs) x → number_in (c ∷ (cs ++ x ∷ [])) x ≡ suc (length cs)
added_behind x c cs true e further h = absurd (let n = numbered x c cs true e in omega (arith, h, n))
added_behind x c cs false e further h =
    numbered x c (cs ++ x ∷ []) false e ∙ ap suc (further (let n = numbered x c cs false e in omega (arith, h, n)))

added : (x : Const) (cs : List Const) → same_constant x x ≡ true → length cs ≤ number_in cs x → number_in (cs ++ x ∷ []) x ≡ length cs
added x [] self h = numbered x x [] true self
added x (c ∷ cs) self h = added_behind x c cs (same_constant c x) refl (added x cs self) h

tells_still : (x y : Const) (cs : List Const) (o : Option ℕ) → same_constant x y ≡ false → Tells cs y o → Tells (cs ++ x ∷ []) y o
tells_still x y cs None apart is = absent_still x y cs apart is
tells_still x y cs (Some n) apart is =
    (present_still x y cs (let e = is.0 in let h = is.1 in omega (arith, e, h)) ∙ is.0, (let h = is.1 in let l = length-append cs (x ∷ []) in omega (arith, h, l)))

tells_added : (x : Const) (cs : List Const) (o : Option ℕ) (n : ℕ) → same_constant x x ≡ true → length cs ≤ number_in cs x → n ≡ length cs → o ≡ Some n → Tells (cs ++ x ∷ []) x o
tells_added x cs o n self h n_is is =
    subst (Tells (cs ++ x ∷ []) x) (sym is) (added x cs self h ∙ sym n_is, (let l = length-append cs (x ∷ []) in omega (arith, n_is, l)))

-- a constant that is told equal to another one is that one, so others are told apart
apart_from : (x y : Const) (b : Bool) → (x ≡ y → b ≡ true) → b ≡ false → same_constant x y ≡ false
apart_from x y b same differ = by (same_constant x y) refl
  where
    by : (c : Bool) → same_constant x y ≡ c → c ≡ false
    by true e = absurd (let t = same (same_is x y e) in let f = differ in cc)
    by false e = refl

integer_in : Const → ℤ
integer_in (Int m) = m
integer_in _ = pos 0

integer_of : {m i : ℤ} → Int m ≡ Int i → m ≡ i
unfolding integer_in
integer_of e = ap integer_in e

-- the strings of a map, which compares the bytes of its keys
module _ {A S : Type 0} where
  abbrev pub text_number : HashMap (Vec ℕ A) ℕ S → List ℕ → Option ℕ
  text_number map text = get_by (λ key. pointwise nat_eq text key.items) map

  abbrev pub TextUpdated : (old new : HashMap (Vec ℕ A) ℕ S) → Vec ℕ A → ℕ → Type 0
  TextUpdated old new key n = Updates (λ a b. pointwise nat_eq a.items b.items) old new key (Some n)

  text_found : (old new : HashMap (Vec ℕ A) ℕ S) (key : Vec ℕ A) (t u : List ℕ) (n : ℕ) → key.items ≡ t → TextUpdated old new key n → pointwise nat_eq u t ≡ true → text_number new u ≡ Some n
  text_found old new key t u n key_is up same = ap (text_number new) ((bytes_eq-Decides u t).0 same ∙ sym key_is) ∙ up.1

  text_kept : (old new : HashMap (Vec ℕ A) ℕ S) (key : Vec ℕ A) (t u : List ℕ) (n : ℕ) → key.items ≡ t → TextUpdated old new key n → pointwise nat_eq u t ≡ false → text_number new u ≡ text_number old u
  unfolding KeepsOthers
  text_kept old new key t u n key_is up other =
      up.3 (λ k. pointwise nat_eq u k.items) (λ x y e. ap (λ l. pointwise nat_eq l y.items) ((bytes_eq-Decides u x.items).0 e))
      (λ k e. ap (pointwise nat_eq u) (sym ((bytes_eq-Decides key.items k.items).0 e) ∙ key_is) ∙ other)

  pub text_indexed : (cs all : List Const) (old new : HashMap (Vec ℕ A) ℕ S) (key : Vec ℕ A) (t : List ℕ) (n : ℕ) (integer_number : ℤ → Option ℕ) (a b c : Option ℕ) → key.items ≡ t → n ≡ length cs → length cs ≤ number_in cs (Str t)
      → all ≡ cs ++ Str t ∷ [] → TextUpdated old new key n → IsIndexed cs (text_number old) integer_number a b c → IsIndexed all (text_number new) integer_number a b c
  text_indexed cs all old new key t n integer_number a b c key_is n_is absent all_is up before =
      subst (λ l. IsIndexed l (text_number new) integer_number a b c) (sym all_is)
      (record { texts = λ u. by u (pointwise nat_eq u t) refl; integers = λ i. tells_still (Str t) (Int i) cs (integer_number i) refl (before.integers i); nils = tells_still (Str t) Nil cs a refl before.nils; falses = tells_still (Str t) False cs b refl before.falses; trues = tells_still (Str t) True cs c refl before.trues })
    where
      by : (u : List ℕ) (b : Bool) → pointwise nat_eq u t ≡ b → Tells (cs ++ Str t ∷ []) (Str u) (text_number new u)
      by u true e =
          subst (λ x. Tells (cs ++ Str t ∷ []) (Str x) (text_number new u)) (sym ((bytes_eq-Decides u t).0 e))
          (tells_added (Str t) cs (text_number new u) n (same_text t) absent n_is (text_found old new key t u n key_is up e))
      by u false e =
          subst (Tells (cs ++ Str t ∷ []) (Str u)) (sym (text_kept old new key t u n key_is up e))
          (tells_still (Str t) (Str u) cs (text_number old u) (nat_list_eq_equiv.symm t u ∙ e) (before.texts u))

-- the integers of a map
module _ {S : Type 0} where
  pub integer_indexed : (cs all : List Const) (old new : HashMap ℤ ℕ S) (m : ℤ) (n : ℕ) (text_number : List ℕ → Option ℕ) (a b c : Option ℕ) → n ≡ length cs → length cs ≤ number_in cs (Int m)
      → all ≡ cs ++ Int m ∷ [] → Updates int_eq old new m (Some n) → IsIndexed cs text_number (get int_eq old) a b c → IsIndexed all text_number (get int_eq new) a b c
  integer_indexed cs all old new m n text_number a b c n_is absent all_is up before =
      subst (λ l. IsIndexed l text_number (get int_eq new) a b c) (sym all_is)
      (record { texts = λ u. tells_still (Int m) (Str u) cs (text_number u) refl (before.texts u); integers = λ i. by i (int_eq m i) refl; nils = tells_still (Int m) Nil cs a refl before.nils; falses = tells_still (Int m) False cs b refl before.falses; trues = tells_still (Int m) True cs c refl before.trues })
    where
      by : (i : ℤ) (b : Bool) → int_eq m i ≡ b → Tells (cs ++ Int m ∷ []) (Int i) (get int_eq new i)
      by i true e =
          subst (λ x. Tells (cs ++ Int m ∷ []) (Int x) (get int_eq new i)) ((signed_Decides m i).0 e)
          (tells_added (Int m) cs (get int_eq new i) n (same_int m) absent n_is (up.0 i ∙ ap (λ b. cond b (Some n) (get int_eq old i)) e))
      by i false e =
          subst (Tells (cs ++ Int m ∷ []) (Int i)) (sym (up.0 i ∙ ap (λ b. cond b (Some n) (get int_eq old i)) e))
          (tells_still (Int m) (Int i) cs (get int_eq old i) (apart_from (Int m) (Int i) (int_eq m i) (λ same. (signed_Decides m i).1 (integer_of same)) e) (before.integers i))

-- nil, false and true
module _ (cs all : List Const) (n : ℕ) (text_number : List ℕ → Option ℕ) (integer_number : ℤ → Option ℕ) (a b c : Option ℕ) (n_is : n ≡ length cs) (before : IsIndexed cs text_number integer_number a b c) where
  still : (x y : Const) (o : Option ℕ) → same_constant x y ≡ false → Tells cs y o → all ≡ cs ++ x ∷ [] → Tells all y o
  still x y o apart tells all_is = subst (λ l. Tells l y o) (sym all_is) (tells_still x y cs o apart tells)

  new : (x : Const) → length cs ≤ number_in cs x → all ≡ cs ++ x ∷ [] → Tells all x (Some n)
  new x absent all_is = subst (λ l. Tells l x (Some n)) (sym all_is) (tells_added x cs (Some n) n (same_self x) absent n_is refl)

  pub nil_indexed : length cs ≤ number_in cs Nil → all ≡ cs ++ Nil ∷ [] → IsIndexed all text_number integer_number (Some n) b c
  nil_indexed absent is = record { texts = λ u. still Nil (Str u) (text_number u) refl (before.texts u) is; integers = λ i. still Nil (Int i) (integer_number i) refl (before.integers i) is; nils = new Nil absent is; falses = still Nil False b refl before.falses is; trues = still Nil True c refl before.trues is }

  pub false_indexed : length cs ≤ number_in cs False → all ≡ cs ++ False ∷ [] → IsIndexed all text_number integer_number a (Some n) c
  false_indexed absent is = record { texts = λ u. still False (Str u) (text_number u) refl (before.texts u) is; integers = λ i. still False (Int i) (integer_number i) refl (before.integers i) is; nils = still False Nil a refl before.nils is; falses = new False absent is; trues = still False True c refl before.trues is }

  pub true_indexed : length cs ≤ number_in cs True → all ≡ cs ++ True ∷ [] → IsIndexed all text_number integer_number a b (Some n)
  true_indexed absent is = record { texts = λ u. still True (Str u) (text_number u) refl (before.texts u) is; integers = λ i. still True (Int i) (integer_number i) refl (before.integers i) is; nils = still True Nil a refl before.nils is; falses = still True False b refl before.falses is; trues = new True absent is }

-- what a look-up told is the number
pub told : (cs : List Const) (x : Const) (o : Option ℕ) (n : ℕ) → Tells cs x o → o ≡ Some n → n ≡ number_in cs x
told cs x o n tells is = sym (subst (Tells cs x) is tells).0

pub untold : (cs : List Const) (x : Const) (o : Option ℕ) (n : ℕ) → Tells cs x o → o ≡ None → n ≡ length cs → n ≡ number_in cs x
untold cs x o n tells is n_is = n_is ∙ sym (subst (Tells cs x) is tells)
