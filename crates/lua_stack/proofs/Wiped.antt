-- What a frame keeps while its variables are closed: some registers, the others are nil.
use Rattle.std.proofs.Common.{◌≡◌, ℕ, zero, suc, ◌+◌, ◌-◌, ◌<◌, ◌≤◌, Bool, true, false, List, [], ◌∷◌, ◌++◌, length, map, take, drop, Some, refl, ap, sym, ◌∙◌, arith}
use Rattle.std.specs.Prelude.{cond, ◌&&◌, ◌||◌, nat_le, nat_lt, slice_get, slice_set}
use Rattle.std.proofs.lemmas.Bool.Decides.{nat_tests}
use Rattle.std.proofs.lemmas.List.{take-append-drop}
use Rattle.int_core.specs.Value.{Value, known, nil, nth}
use Rattle.machine_core.specs.World.{lua}
use Rattle.machine_core.specs.Text.{behind, blanked, is_pending}
use Rattle.table_core.specs.declared.value.Value.{Value as Kept}
use Rattle.table_core.specs.declared.value.Value.TheVariants.{Nil}
use Rattle.lua_stack.specs.declared.stack.Stack.TheInside.{Inside}
use Rattle.lua_stack.specs.Frames.{KeptStack, HasRegisters, TopBecomes, with_opened, with_registers}
use Rattle.lua_stack.specs.View.{part, put_all, registers_at, seen, wiped_but}
use Rattle.lua_stack.proofs.Parts.{length_part, length_put_all, map_take, part_next, part_put_all, put_append, take_take}
use Rattle.lua_stack.proofs.Ends.{shown, stands}
use Rattle.lua_stack.proofs.Tops.{retop}
use Rattle.lua_stack.proofs.Own.{blanked_same, front_stays, lua_top, made, resized, varargs_stay, whole}

pub wiped_length : (s : ℕ → Bool) (i : ℕ) (xs : List Kept) → length (wiped_but s i xs) ≡ length xs
wiped_length s i [] = refl
wiped_length s i (x ∷ xs) = ap suc (wiped_length s (suc i) xs)

wiped_more : (s : ℕ → Bool) (i at : ℕ) (xs : List Kept) (v : Kept) (b : Bool) → at ≡ i + length xs → s at ≡ b → wiped_but s i (xs ++ v ∷ []) ≡ wiped_but s i xs ++ cond b v Nil ∷ []
wiped_more s i at [] v b p e = let q : at ≡ i = omega (arith, p) in ap (λ b. cond b v Nil ∷ []) (ap s (sym q) ∙ e)
wiped_more s i at (x ∷ xs) v b p e = ap (λ l. cond (s i) x Nil ∷ l) (wiped_more s (suc i) at xs v b (omega (arith, p)) e)

get_there : (xs : List Kept) (n : ℕ) → n < length xs → (v : Kept) × (slice_get xs n ≡ Some v)
get_there [] n l = absurd (omega arith)
get_there (x ∷ xs) zero l = (x, refl)
get_there (x ∷ xs) (suc n) l = get_there xs n (omega arith)

get_set_behind : (xs : List Kept) (m n : ℕ) (v : Kept) → m < n → slice_get (slice_set xs m v) n ≡ slice_get xs n
get_set_behind [] m n v l = refl
get_set_behind (x ∷ xs) m zero v l = absurd (omega arith)
get_set_behind (x ∷ xs) zero (suc n) v l = refl
get_set_behind (x ∷ xs) (suc m) (suc n) v l = get_set_behind xs m n v (omega arith)

get_put_behind : (vs xs : List Kept) (at n : ℕ) → at + length vs ≤ n → slice_get (put_all at vs xs) n ≡ slice_get xs n
get_put_behind [] xs at n l = refl
get_put_behind (v ∷ vs) xs at n l = get_put_behind vs (slice_set xs at v) (suc at) n (omega arith) ∙ get_set_behind xs at n v (omega arith)

set_same : (xs : List Kept) (n : ℕ) (v : Kept) → slice_get xs n ≡ Some v → slice_set xs n v ≡ xs
set_same [] n v g = refl
set_same (x ∷ xs) zero v g = ap (λ x. x ∷ xs) (sym (Rattle.list_laws.proofs.Items.some_same x v g))
set_same (x ∷ xs) (suc n) v g = ap (λ l. x ∷ l) (set_same xs n v g)

module _ (s : ℕ → Bool) (base k : ℕ) (old values : List Kept) (l : base + k < length old) (e : values ≡ put_all base (wiped_but s 0 (part base k old)) old) where
  count : length (wiped_but s 0 (part base k old)) ≡ k
  count = wiped_length s 0 (part base k old) ∙ length_part base k old (omega (arith, l))

  one_more : (v : Kept) (b : Bool) → slice_get old (base + k) ≡ Some v → s k ≡ b → slice_set values (base + k) (cond b v Nil) ≡ put_all base (wiped_but s 0 (part base (k + 1) old)) old
  one_more v b g t =
      let n = count in
      let m = length_part base k old (omega (arith, l)) in
      ap (λ xs. slice_set xs (base + k) (cond b v Nil)) e ∙ put_append (wiped_but s 0 (part base k old)) (cond b v Nil ∷ []) old base (base + k) (omega (arith, n))
      ∙ ap (λ vs. put_all base vs old) (sym (wiped_more s 0 k (part base k old) v b (omega (arith, m)) t) ∙ ap (wiped_but s 0) (sym (part_next base k (k + 1) (base + k) old v (omega arith) refl g)))

  pub wiped_stays : s k ≡ true → values ≡ put_all base (wiped_but s 0 (part base (k + 1) old)) old
  wiped_stays t =
      let n = count in
      let x = get_there old (base + k) l in
      sym (set_same values (base + k) x.0 (ap (λ xs. slice_get xs (base + k)) e ∙ get_put_behind (wiped_but s 0 (part base k old)) old base (base + k) (omega (arith, n)) ∙ x.1)) ∙ one_more x.0 true x.1 t

  pub wiped_goes : s k ≡ false → slice_set values (base + k) Nil ≡ put_all base (wiped_but s 0 (part base (k + 1) old)) old
  wiped_goes t = let x = get_there old (base + k) l in one_more x.0 false x.1 t

-- in the words of the machine

nth_at : (vs : List Value) (i : ℕ) (w : Value) (ws : List Value) → drop i vs ≡ w ∷ ws → (nth vs i ≡ w) × (drop (suc i) vs ≡ ws)
nth_at [] zero w ws e = absurd (cc)
nth_at [] (suc i) w ws e = absurd (cc)
nth_at (v ∷ vs) zero w ws e = (ap (λ l. nth l 0) e, ap (drop 1) e)
nth_at (v ∷ vs) (suc i) w ws e = nth_at vs i w ws e

map_wiped : (f : Kept → Value) → f Nil ≡ known nil → (s : ℕ → Bool) (i : ℕ) (xs : List Kept) (vs ws : List Value) → drop i vs ≡ map f xs ++ ws → map f (wiped_but s i xs) ≡ blanked s i (length xs) vs
map_wiped f z s i [] vs ws e = refl
map_wiped f z s i (x ∷ xs) vs ws e =
    let n = nth_at vs i (f x) (map f xs ++ ws) e in
    ap (λ v. v ∷ map f (wiped_but s (suc i) xs)) (by (s i)) ∙ ap (λ v. cond (s i) v (known nil) ∷ map f (wiped_but s (suc i) xs)) (sym n.0)
    ∙ ap (λ l. cond (s i) (nth vs i) (known nil) ∷ l) (map_wiped f z s (suc i) xs vs ws n.1)
  where
    by : (b : Bool) → f (cond b x Nil) ≡ cond b (f x) (known nil)
    by true = refl
    by false = z

module _ (a : Inside) (i : stands a) (stays : List ℕ → ℕ → Bool) (size base : ℕ) (values : List Kept) (marks : List ℕ) (l : size ≤ a.top.window.kept) (p : base ≡ a.top.window.base)
    (m : marks ≡ part a.top.window.marks a.top.window.marked a.pending.items) (w : values ≡ put_all base (wiped_but (stays marks) 0 (part base size a.values.items)) a.values.items) where
  abbrev s : ℕ → Bool
  s = stays (part a.top.window.marks a.top.window.marked a.pending.items)

  e : values ≡ put_all base (wiped_but s 0 (part base size a.values.items)) a.values.items
  e = w ∙ ap (λ marks. put_all base (wiped_but (stays marks) 0 (part base size a.values.items)) a.values.items) m

  abbrev those : List Kept
  those = wiped_but s 0 (part a.top.window.base size a.values.items)

  written_is : values ≡ put_all a.top.window.base those a.values.items
  written_is = e ∙ ap (λ base. put_all base (wiped_but s 0 (part base size a.values.items)) a.values.items) p

  part_length : length (part a.top.window.base size a.values.items) ≡ size
  part_length = let k = i.whole in let h = i.within.end in length_part a.top.window.base size a.values.items (omega (arith, k, h, l))

  those_length : length those ≡ size
  those_length = wiped_length s 0 (part a.top.window.base size a.values.items) ∙ part_length

  pub wiped_values_length : length values ≡ length a.values.items
  wiped_values_length = ap length written_is ∙ length_put_all those a.values.items a.top.window.base

  registers_wiped : (f : Kept → Value) → f Nil ≡ known nil → map f (part a.top.window.base size (put_all (a.top.window.base + 0) those a.values.items)) ≡ blanked s 0 size (map f (registers_at a.values.items a.top.window))
  registers_wiped f z =
      let n = those_length in
      let m = part_length in
      let k = i.whole in
      let h = i.within.end in
      let q : a.top.window.base + 0 ≡ a.top.window.base = omega arith in
      let R = registers_at a.values.items a.top.window in
      let P = part a.top.window.base size a.values.items in
      let front : map f P ≡ take size (map f R) =
      ap (map f) (sym (ap (take size) (whole a.values.items a.top.window i.whole) ∙ take_take (drop a.top.window.base a.values.items) size a.top.window.kept l)) ∙ map_take f size R in
      ap (λ b. map f (part a.top.window.base size (put_all b those a.values.items))) q
      ∙ ap (map f) (ap (λ n. part a.top.window.base n (put_all a.top.window.base those a.values.items)) (sym n) ∙ part_put_all those a.values.items a.top.window.base (omega (arith, n, k, h, l)))
      ∙ map_wiped f z s 0 P (map f R) (drop size (map f R)) (sym (take-append-drop size (map f R)) ∙ ap (λ l. l ++ drop size (map f R)) (sym front))
      ∙ ap (λ n. blanked s 0 n (map f R)) m

  pub top_wiped : (g k : KeptStack) → shown a ≡ g → HasRegisters g size → k ≡ seen values a.pending.items a.below.items (resized a.top size) a.open_cells.items
      → TopBecomes g k (λ f t. with_opened 0 (with_registers (blanked (stays t.own.pending) 0 size t.own.registers) t))
  top_wiped g k v h q =
      let n = those_length in
      let m : a.top.window.base ≡ a.top.window.base + 0 = omega arith in
      let w : values ≡ put_all (a.top.window.base + 0) those a.values.items = written_is ∙ ap (λ b. put_all b those a.values.items) m in
      let r : 0 + length those ≤ a.top.window.kept = omega (arith, n, l) in
      retop a g k (put_all (a.top.window.base + 0) those a.values.items) a.pending.items (resized a.top size) _ v i (lua_top h) refl
      (q ∙ ap (λ xs. seen xs a.pending.items a.below.items (resized a.top size) a.open_cells.items) w)
      (front_stays a i those 0 r) refl
      (λ f z.
      let marks = part a.top.window.marks a.top.window.marked a.pending.items in
      ap (λ l. made f (record a.top.running { opened = 0 }) marks l (map f (part a.top.window.start (a.top.window.base - a.top.window.start) (put_all (a.top.window.base + 0) those a.values.items))))
      (ap (map f) (whole (put_all (a.top.window.base + 0) those a.values.items) (resized a.top size).window refl) ∙ registers_wiped f z)
      ∙ ap (λ l. made f (record a.top.running { opened = 0 }) marks (blanked s 0 size (map f (registers_at a.values.items a.top.window))) (map f l)) (varargs_stay a i those 0 r))

-- the range of results

in_range : (from count i : ℕ) → (nat_le from i && nat_lt i (behind from count)) ≡ (nat_le from i && nat_lt i (from + count))
in_range from zero i = by (nat_le from i) refl
  where
    by : (b : Bool) → nat_le from i ≡ b → (b && nat_lt i 0) ≡ (b && nat_lt i (from + 0))
    by false e = refl
    by true e =
        let l : from ≤ i = grind (arith, nat_tests) in
        let a : nat_lt i 0 ≡ false = grind (arith, nat_tests) in
        let b : nat_lt i (from + 0) ≡ false = grind (arith, nat_tests) in
        a ∙ sym b
in_range from (suc n) i = refl

no_range : (b : Bool) (i : ℕ) → (b || (nat_le 0 i && nat_lt i 0)) ≡ b
no_range true i = refl
no_range false i = by (nat_le 0 i)
  where
    by : (c : Bool) → (c && nat_lt i 0) ≡ false
    by false = refl
    by true = grind (arith, nat_tests)

pub results_kept : (g k : KeptStack) (from count end size : ℕ) → end ≡ behind from count
    → TopBecomes g k (λ f t. with_opened 0 (with_registers (blanked (λ i. is_pending t.own.pending i || (nat_le from i && nat_lt i end)) 0 size t.own.registers) t))
    → TopBecomes g k (λ f t. with_opened 0 (with_registers (blanked (λ i. is_pending t.own.pending i || (nat_le from i && nat_lt i (from + count))) 0 size t.own.registers) t))
results_kept g k from count end size e h = record {
  top = λ f z below t q. h.top f z below t q ∙ ap (λ l. below ++ lua (with_opened 0 (with_registers l t)) ∷ [])
      (blanked_same _ _ 0 size t.own.registers (λ i. ap (λ end. is_pending t.own.pending i || (nat_le from i && nat_lt i end)) e ∙ ap (λ b. is_pending t.own.pending i || b) (in_range from count i)));
  cells = h.cells;
}

pub pending_kept : (g k : KeptStack) (size : ℕ)
    → TopBecomes g k (λ f t. with_opened 0 (with_registers (blanked (λ i. is_pending t.own.pending i || (nat_le 0 i && nat_lt i 0)) 0 size t.own.registers) t))
    → TopBecomes g k (λ f t. with_opened 0 (with_registers (blanked (is_pending t.own.pending) 0 size t.own.registers) t))
pending_kept g k size h = record {
  top = λ f z below t q. h.top f z below t q ∙ ap (λ l. below ++ lua (with_opened 0 (with_registers l t)) ∷ []) (blanked_same _ _ 0 size t.own.registers (λ i. no_range (is_pending t.own.pending i) i));
  cells = h.cells;
}
