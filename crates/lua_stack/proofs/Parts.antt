-- Parts of a list, and what they keep where the list is written behind them.
use Rattle.std.proofs.Common.{◌≡◌, ℕ, zero, suc, ◌+◌, ◌-◌, ◌<◌, ◌≤◌, List, [], ◌∷◌, ◌++◌, length, map, take, drop, Some, append_assoc, length-append, refl, ap, sym, ◌∙◌, arith}
use Rattle.std.specs.Prelude.{slice_set, slice_get}
use Rattle.list_laws.proofs.Items.{some_same, append_nil}
use Rattle.table_core.specs.declared.value.Value.TheVariants.{Nil}
use Rattle.std.proofs.lemmas.List.{drop-take}
use Rattle.table_core.specs.declared.value.Value.{Value as Kept}
use Rattle.lua_stack.specs.View.{part, put_all, blank}

pub take_take : {A : Type 0} (xs : List A) (a n : ℕ) → a ≤ n → take a (take n xs) ≡ take a xs
take_take xs zero n l = refl
take_take xs (suc a) zero l = absurd (omega arith)
take_take [] (suc a) (suc n) l = refl
take_take (x ∷ xs) (suc a) (suc n) l = ap (λ l. x ∷ l) (take_take xs a n (omega arith))

pub part_take : {A : Type 0} (b n : ℕ) (xs : List A) → part b n xs ≡ drop b (take (b + n) xs)
part_take b n xs = sym (drop-take b n xs)

-- what is the same up to a place has the same parts below it
pub part_kept : {A : Type 0} (b k n : ℕ) (xs ys : List A) → b + k ≤ n → take n ys ≡ take n xs → part b k ys ≡ part b k xs
part_kept b k n xs ys l e =
    part_take b k ys ∙ ap (drop b) (sym (take_take ys (b + k) n l) ∙ ap (take (b + k)) e ∙ take_take xs (b + k) n l) ∙ sym (part_take b k xs)

pub front_less : {A : Type 0} (m n : ℕ) (xs ys : List A) → m ≤ n → take n ys ≡ take n xs → take m ys ≡ take m xs
front_less m n xs ys l e = sym (take_take ys m n l) ∙ ap (take m) e ∙ take_take xs m n l

pub take_set : {A : Type 0} (xs : List A) (n i : ℕ) (v : A) → n ≤ i → take n (slice_set xs i v) ≡ take n xs
take_set xs zero i v l = refl
take_set [] (suc n) i v l = refl
take_set (x ∷ xs) (suc n) zero v l = absurd (omega arith)
take_set (x ∷ xs) (suc n) (suc i) v l = ap (λ l. x ∷ l) (take_set xs n i v (omega arith))

pub length_set : {A : Type 0} (xs : List A) (i : ℕ) (v : A) → length (slice_set xs i v) ≡ length xs
length_set [] i v = refl
length_set (x ∷ xs) zero v = refl
length_set (x ∷ xs) (suc i) v = ap suc (length_set xs i v)

pub length_put_all : (vs xs : List Kept) (i : ℕ) → length (put_all i vs xs) ≡ length xs
length_put_all [] xs i = refl
length_put_all (v ∷ vs) xs i = length_put_all vs (slice_set xs i v) (suc i) ∙ length_set xs i v

pub take_put_all : (vs xs : List Kept) (n i : ℕ) → n ≤ i → take n (put_all i vs xs) ≡ take n xs
take_put_all [] xs n i l = refl
take_put_all (v ∷ vs) xs n i l = take_put_all vs (slice_set xs i v) n (suc i) (omega arith) ∙ take_set xs n i v l

take_set_in : {A : Type 0} (xs : List A) (n r : ℕ) (v : A) → r < n → take n (slice_set xs r v) ≡ slice_set (take n xs) r v
take_set_in xs zero r v l = absurd (omega arith)
take_set_in [] (suc n) r v l = refl
take_set_in (x ∷ xs) (suc n) zero v l = refl
take_set_in (x ∷ xs) (suc n) (suc r) v l = ap (λ l. x ∷ l) (take_set_in xs n r v (omega arith))

-- a write within a part is a write to the part
pub part_set_in : {A : Type 0} (xs : List A) (b n r at : ℕ) (v : A) → at ≡ b + r → r < n → part b n (slice_set xs at v) ≡ slice_set (part b n xs) r v
part_set_in xs zero n r at v e l = let q : at ≡ r = omega arith in ap (λ i. take n (slice_set xs i v)) q ∙ take_set_in xs n r v l
part_set_in [] (suc b) n r at v e l = none n
  where
    none : (n : ℕ) → take n (drop (suc b) (slice_set [] at v)) ≡ slice_set (take n []) r v
    none zero = refl
    none (suc n) = refl
part_set_in (x ∷ xs) (suc b) n r zero v e l = absurd (omega arith)
part_set_in (x ∷ xs) (suc b) n r (suc at) v e l = part_set_in xs b n r at v (omega arith) l

pub part_put_in : (vs xs : List Kept) (b n r at : ℕ) → at ≡ b + r → r + length vs ≤ n → part b n (put_all at vs xs) ≡ put_all r vs (part b n xs)
part_put_in [] xs b n r at e l = refl
part_put_in (v ∷ vs) xs b n r at e l =
    part_put_in vs (slice_set xs at v) b n (suc r) (suc at) (omega arith) (omega arith) ∙ ap (put_all (suc r) vs) (part_set_in xs b n r at v e (omega arith))

pub length_part : {A : Type 0} (b n : ℕ) (xs : List A) → b + n ≤ length xs → length (part b n xs) ≡ n
length_part zero zero xs l = refl
length_part zero (suc n) [] l = absurd (omega arith)
length_part zero (suc n) (x ∷ xs) l = ap suc (length_part zero n xs (omega arith))
length_part (suc b) zero [] l = refl
length_part (suc b) (suc n) [] l = absurd (omega arith)
length_part (suc b) n (x ∷ xs) l = length_part b n xs (omega arith)

pub length_blank : (n : ℕ) → length (blank n) ≡ n
length_blank zero = refl
length_blank (suc n) = ap suc (length_blank n)

pub no_blank : (n m : ℕ) (xs : List Kept) → n ≡ m → xs ++ blank (m - n) ≡ xs
no_blank n m xs e = let z : m - n ≡ 0 = omega arith in ap (λ k. xs ++ blank k) z ∙ none xs
  where
    none : (xs : List Kept) → xs ++ [] ≡ xs
    none [] = refl
    none (x ∷ xs) = ap (λ l. x ∷ l) (none xs)

pub drop_there : {A : Type 0} (xs : List A) (k : ℕ) (v : A) → slice_get xs k ≡ Some v → drop k xs ≡ v ∷ drop (suc k) xs
drop_there [] k v e = absurd (cc)
drop_there (x ∷ xs) zero v e = ap (λ x. x ∷ xs) (some_same x v e)
drop_there (x ∷ xs) (suc k) v e = drop_there xs k v e

drop_over : {A : Type 0} (xs : List A) (k : ℕ) → length xs ≤ k → drop k xs ≡ []
drop_over [] zero l = refl
drop_over [] (suc k) l = refl
drop_over (x ∷ xs) zero l = absurd (omega arith)
drop_over (x ∷ xs) (suc k) l = drop_over xs k (omega arith)

pub put_done : (at k : ℕ) (from xs : List Kept) → length from ≤ k → put_all (at + k) (drop k from) xs ≡ xs
put_done at k from xs l = ap (λ vs. put_all (at + k) vs xs) (drop_over from k l)

pub put_step : (at k : ℕ) (from xs : List Kept) (v : Kept) → slice_get from k ≡ Some v → put_all (at + (k + 1)) (drop (k + 1) from) (slice_set xs (at + k) v) ≡ put_all (at + k) (drop k from) xs
put_step at k from xs v e =
    let a : at + (k + 1) ≡ suc (at + k) = omega arith in
    let b : k + 1 ≡ suc k = omega arith in
    ap (λ n. put_all n (drop (k + 1) from) (slice_set xs (at + k) v)) a ∙ ap (λ n. put_all (suc (at + k)) (drop n from) (slice_set xs (at + k) v)) b
    ∙ ap (λ vs. put_all (at + k) vs xs) (sym (drop_there from k v e))

pub clear_step : (at count k : ℕ) (xs : List Kept) → k < count → put_all (at + (k + 1)) (blank (count - (k + 1))) (slice_set xs (at + k) Nil) ≡ put_all (at + k) (blank (count - k)) xs
clear_step at count k xs l =
    let a : at + (k + 1) ≡ suc (at + k) = omega arith in
    let b : count - k ≡ suc (count - (k + 1)) = omega arith in
    ap (λ n. put_all n (blank (count - (k + 1))) (slice_set xs (at + k) Nil)) a ∙ ap (λ n. put_all (at + k) (blank n) xs) (sym b)

take_suc_set : {A : Type 0} (xs : List A) (r : ℕ) (v : A) → r < length xs → take (suc r) (slice_set xs r v) ≡ take r xs ++ v ∷ []
take_suc_set [] r v l = absurd (omega arith)
take_suc_set (x ∷ xs) zero v l = refl
take_suc_set (x ∷ xs) (suc r) v l = ap (λ l. x ∷ l) (take_suc_set xs r v (omega arith))

take_over : {A : Type 0} (xs : List A) (k : ℕ) → k ≡ length xs → take k xs ≡ xs
take_over [] zero l = refl
take_over [] (suc k) l = refl
take_over (x ∷ xs) zero l = absurd (omega (arith, l))
take_over (x ∷ xs) (suc k) l = ap (λ l. x ∷ l) (take_over xs k (omega (arith, l)))

-- written up to the end
pub put_tail : (vs xs : List Kept) (r : ℕ) → r + length vs ≡ length xs → put_all r vs xs ≡ take r xs ++ vs
put_tail [] xs r e = sym (append_nil (take r xs) ∙ take_over xs r (omega (arith, e)))
put_tail (v ∷ vs) xs r e =
    put_tail vs (slice_set xs r v) (suc r) (let k = length_set xs r v in omega (arith, e, k))
    ∙ ap (λ l. l ++ vs) (take_suc_set xs r v (omega (arith, e))) ∙ append_assoc (take r xs) (v ∷ []) vs

pub length_take_le : {A : Type 0} (n : ℕ) (xs : List A) → n ≤ length xs → length (take n xs) ≡ n
length_take_le zero xs l = refl
length_take_le (suc n) [] l = absurd (omega arith)
length_take_le (suc n) (x ∷ xs) l = ap suc (length_take_le n xs (omega arith))

pub map_take : {A B : Type 0} (f : A → B) (n : ℕ) (xs : List A) → map f (take n xs) ≡ take n (map f xs)
map_take f zero xs = refl
map_take f (suc n) [] = refl
map_take f (suc n) (x ∷ xs) = ap (λ l. f x ∷ l) (map_take f n xs)

pub put_append : (vs ws xs : List Kept) (at to : ℕ) → to ≡ at + length vs → put_all to ws (put_all at vs xs) ≡ put_all at (vs ++ ws) xs
put_append [] ws xs at to e = let q : to ≡ at = omega (arith, e) in ap (λ n. put_all n ws xs) q
put_append (v ∷ vs) ws xs at to e = put_append vs ws (slice_set xs at v) (suc at) to (omega (arith, e))

pub take_push : {A : Type 0} (n : ℕ) (xs ys : List A) → n ≤ length xs → take n (xs ++ ys) ≡ take n xs
take_push zero xs ys l = refl
take_push (suc n) [] ys l = absurd (omega arith)
take_push (suc n) (x ∷ xs) ys l = ap (λ l. x ∷ l) (take_push n xs ys (omega arith))

pub take_whole : {A : Type 0} (xs : List A) → take (length xs) xs ≡ xs
take_whole xs = take_over xs (length xs) refl

-- what was written last is there
pub part_put_all : (vs xs : List Kept) (at : ℕ) → at + length vs ≤ length xs → part at (length vs) (put_all at vs xs) ≡ vs
part_put_all vs xs at l =
    let z : 0 + length vs ≡ length vs = omega arith in
    let k = length_part at (length vs) xs l in
    part_put_in vs xs at (length vs) 0 at (omega arith) (omega arith) ∙ put_tail vs (part at (length vs) xs) 0 (omega (arith, k))

part_front : (b n k : ℕ) (xs : List Kept) → n ≤ k → part b n xs ≡ take n (part b k xs)
part_front b n k xs l = sym (take_take (drop b xs) n k l)

front_of : (vs ws : List Kept) (n : ℕ) → n ≡ length vs → take n (vs ++ ws) ≡ vs
front_of vs ws n e = take_push n vs ws (omega (arith, e)) ∙ take_over vs n e

pub part_first : (vs ws xs : List Kept) (at n : ℕ) → at + length (vs ++ ws) ≤ length xs → n ≡ length vs → part at n (put_all at (vs ++ ws) xs) ≡ vs
part_first vs ws xs at n l e =
    let k = length-append vs ws in
    part_front at n (length (vs ++ ws)) (put_all at (vs ++ ws) xs) (omega (arith, k, e)) ∙ ap (take n) (part_put_all (vs ++ ws) xs at l) ∙ front_of vs ws n e

pub part_second : (vs ws xs : List Kept) (at to n : ℕ) → at + length (vs ++ ws) ≤ length xs → to ≡ at + length vs → n ≡ length ws → part to n (put_all at (vs ++ ws) xs) ≡ ws
part_second vs ws xs at to n l e q =
    let k = length-append vs ws in
    let m = length_put_all vs xs at in
    ap (part to n) (sym (put_append vs ws xs at to e)) ∙ ap (λ n. part to n (put_all to ws (put_all at vs xs))) q ∙ part_put_all ws (put_all at vs xs) to (omega (arith, k, e, m))

pub grown_front : {A : Type 0} (xs ys : List A) (n : ℕ) → take (length xs) ys ≡ xs → n ≤ length xs → take n ys ≡ take n xs
grown_front xs ys n e l = sym (take_take ys n (length xs) l) ∙ ap (take n) e

pub drop_nil : {A : Type 0} (n : ℕ) → drop {A = A} n [] ≡ []
drop_nil zero = refl
drop_nil (suc n) = refl

-- parts of parts
pub part_part : {A : Type 0} (b c n k : ℕ) (xs : List A) → c + n ≤ k → part c n (part b k xs) ≡ part (b + c) n xs
part_part b c n k xs l =
    part_take c n (part b k xs) ∙ ap (drop c) (take_take (drop b xs) (c + n) k l) ∙ sym (part_take c n (drop b xs)) ∙ ap (take n) (drop_drop b c xs)
  where
    drop_drop : {A : Type 0} (b c : ℕ) (xs : List A) → drop c (drop b xs) ≡ drop (b + c) xs
    drop_drop zero c xs = let e : zero + c ≡ c = omega arith in ap (λ n. drop n xs) (sym e)
    drop_drop (suc b) c [] = drop_nil c ∙ sym (drop_nil (suc b + c))
    drop_drop (suc b) c (x ∷ xs) = let e : suc b + c ≡ suc (b + c) = omega arith in drop_drop b c xs ∙ ap (λ n. drop n (x ∷ xs)) (sym e)

pub take_pushed : {A : Type 0} (xs ys zs : List A) → take (length xs) ys ≡ xs → length xs ≤ length ys → take (length xs) (ys ++ zs) ≡ xs
take_pushed xs ys zs e l = take_push (length xs) ys zs l ∙ e

pub drop_set : {A : Type 0} (xs : List A) (b at : ℕ) (v : A) → at < b → drop b (slice_set xs at v) ≡ drop b xs
drop_set xs zero at v l = absurd (omega arith)
drop_set [] (suc b) at v l = refl
drop_set (x ∷ xs) (suc b) zero v l = refl
drop_set (x ∷ xs) (suc b) (suc at) v l = drop_set xs b at v (omega arith)

pub drop_put_all : (vs xs : List Kept) (b at : ℕ) → at + length vs ≤ b → drop b (put_all at vs xs) ≡ drop b xs
drop_put_all [] xs b at l = refl
drop_put_all (v ∷ vs) xs b at l = drop_put_all vs (slice_set xs at v) b (suc at) (omega arith) ∙ drop_set xs b at v (omega arith)

pub get_set : {A : Type 0} (xs : List A) (n : ℕ) (v : A) → n < length xs → slice_get (slice_set xs n v) n ≡ Some v
get_set [] n v l = absurd (omega arith)
get_set (x ∷ xs) zero v l = refl
get_set (x ∷ xs) (suc n) v l = get_set xs n v (omega arith)

-- one more
pub take_next : {A : Type 0} (n : ℕ) (xs : List A) (v : A) → slice_get xs n ≡ Some v → take (suc n) xs ≡ take n xs ++ v ∷ []
take_next n [] v g = absurd (cc)
take_next zero (x ∷ xs) v g = ap (λ x. x ∷ []) (some_same x v g)
take_next (suc n) (x ∷ xs) v g = ap (λ l. x ∷ l) (take_next n xs v g)

pub part_next : {A : Type 0} (b n m at : ℕ) (xs : List A) (v : A) → m ≡ suc n → at ≡ b + n → slice_get xs at ≡ Some v → part b m xs ≡ part b n xs ++ v ∷ []
part_next zero n m at xs v e p g = let q : at ≡ n = omega (arith, p) in ap (λ m. take m xs) e ∙ take_next n xs v (ap (slice_get xs) (sym q) ∙ g)
part_next (suc b) n m at [] v e p g = absurd (cc)
part_next (suc b) n m zero (x ∷ xs) v e p g = absurd (omega (arith, p))
part_next (suc b) n m (suc at) (x ∷ xs) v e p g = part_next b n m at xs v e (omega (arith, p)) g

-- values written all at once
pub put_all_is : (vs xs : List Kept) (at : ℕ) → at + length vs ≤ length xs → put_all at vs xs ≡ take at xs ++ (vs ++ drop (at + length vs) xs)
put_all_is [] xs at l = let e : at + 0 ≡ at = omega arith in sym (ap (λ n. take at xs ++ drop n xs) e ∙ Rattle.std.proofs.lemmas.List.take-append-drop at xs)
put_all_is (v ∷ vs) xs at l =
    let n = length_set xs at v in
    let e : suc at + length vs ≡ at + suc (length vs) = omega arith in
    put_all_is vs (slice_set xs at v) (suc at) (omega (arith, n, l))
    ∙ ap (λ l. l ++ (vs ++ drop (suc at + length vs) (slice_set xs at v))) (take_suc_set xs at v (omega arith))
    ∙ ap (λ l. (take at xs ++ v ∷ []) ++ (vs ++ l)) (drop_set xs (suc at + length vs) at v (omega arith) ∙ ap (λ n. drop n xs) e)
    ∙ append_assoc (take at xs) (v ∷ []) (vs ++ drop (at + suc (length vs)) xs)

-- copied values
pub copied : (xs ys : List Kept) (from to count : ℕ) → from + count ≤ length xs → to + count ≤ length xs → ys ≡ (take to xs ++ take count (drop from xs)) ++ drop (to + count) xs → ys ≡ put_all to (part from count xs) xs
copied xs ys from to count l m e =
    let n = length_part from count xs l in
    e ∙ append_assoc (take to xs) (part from count xs) (drop (to + count) xs) ∙ ap (λ n. take to xs ++ (part from count xs ++ drop (to + n) xs)) (sym n) ∙ sym (put_all_is (part from count xs) xs to (omega (arith, n, m)))
