-- The registers of the frame on top.
use Rattle.std.proofs.Common.{◌≡◌, ℕ, zero, suc, ◌+◌, ◌-◌, ◌<◌, ◌≤◌, Bool, true, false, List, [], ◌∷◌, ◌++◌, length, map, take, drop, Some, refl, ap, sym, ◌∙◌, subst, arith}
use Rattle.std.specs.Prelude.{slice_set, slice_get, nat_lt, cond}
use Rattle.std.proofs.lemmas.Bool.Decides.{nat_tests}
use Rattle.int_core.specs.Value.{Value, known, nil, nth, write, write_all}
use Rattle.machine_core.specs.World.{LuaFrame}
use Rattle.machine_core.specs.Text.{nils, blanked}
use Rattle.table_core.specs.declared.value.Value.{Value as Kept}
use Rattle.table_core.specs.declared.value.Value.TheVariants.{Nil}
use Rattle.lua_stack.specs.declared.frame.Running.{Running}
use Rattle.lua_stack.specs.declared.frame.Record.{Record}
use Rattle.lua_stack.specs.declared.frame.Window.{Window}
use Rattle.lua_stack.specs.declared.frame.Kind.TheVariants.{Lua}
use Rattle.lua_stack.specs.declared.stack.Stack.TheInside.{Inside}
use Rattle.lua_stack.specs.Frames.{KeptStack, HasLuaTop, HasRegisters, NoneFrom, OnTop, TopBecomes, with_registers, with_opened, wait_of}
use Rattle.lua_stack.specs.View.{part, blank, put_all, seen, lua_at, registers_at, IsStack, AreOpen}
use Rattle.list_laws.proofs.Items.{some_same}
use Rattle.lua_stack.proofs.Parts.{length_part, length_blank, length_put_all, no_blank, part_kept, part_put_in, take_put_all, take_take, put_tail, length_take_le, map_take}
use Rattle.lua_stack.proofs.Stacked.{stacked_longer, under_more}
use Rattle.lua_stack.proofs.Ends.{map_more, shown, stands, lua_on_top}
use Rattle.lua_stack.proofs.OpenCells.{resized_open, none_from}
use Rattle.lua_stack.proofs.Tops.{Reads, retop, on_top}

pub lua_top : {s : KeptStack} {n : ℕ} → HasRegisters s n → HasLuaTop s
lua_top h = record { value = h.value; below = h.below; top = h.top; is = h.is }

pub whole : (values : List Kept) (w : Window) → w.kept ≡ w.size → registers_at values w ≡ part w.base w.kept values
whole values w e = no_blank w.kept w.size (part w.base w.kept values) e

pub length_whole : (values : List Kept) (w : Window) → w.kept ≡ w.size → w.base + w.size ≤ length values → length (registers_at values w) ≡ w.kept
length_whole values w e l = ap length (whole values w e) ∙ length_part w.base w.kept values (omega (arith, e))

pub length_map : (f : Kept → Value) (xs : List Kept) → length (map f xs) ≡ length xs
length_map f [] = refl
length_map f (x ∷ xs) = ap suc (length_map f xs)

pub room_in : (a : Inside) (s : KeptStack) (n : ℕ) → shown a ≡ s → stands a → HasRegisters s n → n ≤ a.top.window.kept
room_in a s n v i h =
    let e : length h.top.own.registers ≡ a.top.window.kept =
    on_top a s (λ f t. length t.own.registers ≡ a.top.window.kept) v i (λ f. length_map f (registers_at a.values.items a.top.window) ∙ length_whole a.values.items a.top.window i.whole i.within.end)
    h.value h.below h.top h.is in
    let r = h.room in
    omega (arith, r, e)

pub place_in : (a : Inside) (s : KeptStack) (n : ℕ) → shown a ≡ s → stands a → HasRegisters s n → a.top.window.base + n ≤ length a.values.items
place_in a s n v i h = let r = room_in a s n v i h in let e = i.within.end in let k = i.whole in omega (arith, r, e, k)

pub get_part : (xs : List Kept) (b n r : ℕ) → r < n → slice_get (part b n xs) r ≡ slice_get xs (b + r)
get_part xs zero n r l = let e : zero + r ≡ r = omega arith in get_take xs n r l ∙ ap (slice_get xs) (sym e)
  where
    get_take : (xs : List Kept) (n r : ℕ) → r < n → slice_get (take n xs) r ≡ slice_get xs r
    get_take xs zero r l = absurd (omega arith)
    get_take [] (suc n) r l = refl
    get_take (x ∷ xs) (suc n) zero l = refl
    get_take (x ∷ xs) (suc n) (suc r) l = get_take xs n r (omega arith)
get_part [] (suc b) n r l = none n
  where
    none : (n : ℕ) → slice_get (part (suc b) n []) r ≡ slice_get {X = Kept} [] (suc b + r)
    none zero = refl
    none (suc n) = refl
get_part (x ∷ xs) (suc b) n r l = let e : suc b + r ≡ suc (b + r) = omega arith in get_part xs b n r l ∙ ap (slice_get (x ∷ xs)) (sym e)

pub get_map : (f : Kept → Value) (xs : List Kept) (n : ℕ) (v : Kept) → slice_get xs n ≡ Some v → slice_get (map f xs) n ≡ Some (f v)
get_map f [] n v e = absurd (cc)
get_map f (x ∷ xs) zero v e = ap (λ v. Some (f v)) (some_same x v e)
get_map f (x ∷ xs) (suc n) v e = get_map f xs n v e

pub got : (a : Inside) (s : KeptStack) (r at : ℕ) (v : Kept) → shown a ≡ s → stands a → HasRegisters s (r + 1) → at ≡ a.top.window.base + r → slice_get a.values.items at ≡ Some v
    → OnTop s (λ f t. slice_get t.own.registers r ≡ Some (f v))
got a s r at v e i h p g =
    let l = room_in a s (r + 1) e i h in
    on_top a s (λ f t. slice_get t.own.registers r ≡ Some (f v)) e i (λ f. get_map f (registers_at a.values.items a.top.window) r v
    (ap (λ l. slice_get l r) (whole a.values.items a.top.window i.whole) ∙ get_part a.values.items a.top.window.base a.top.window.kept r (omega (arith, l)) ∙ ap (slice_get a.values.items) (sym p) ∙ g))

pub all_read : (a : Inside) (s : KeptStack) (xs : List Kept) → shown a ≡ s → stands a → xs ≡ part a.top.window.base a.top.window.kept a.values.items → OnTop s (λ f t. map f xs ≡ t.own.registers)
all_read a s xs v i e = on_top a s (λ f t. map f xs ≡ t.own.registers) v i (λ f. ap (map f) (e ∙ sym (whole a.values.items a.top.window i.whole)))

-- the same stack over other values, as many of them
pub restands : (a : Inside) (values : List Kept) → stands a → length values ≡ length a.values.items → IsStack values a.pending.items a.below.items a.top
restands a values i e =
    let w = i.within in
    record {
      stacked = stacked_longer (length a.values.items) (length a.pending.items) (length values) (length a.pending.items) a.top.window a.below.items i.stacked i.under (omega (arith, e)) (let k = w.marks_end in omega arith);
      under = i.under;
      within = record { extra = w.extra; kept = w.kept; end = (let k = w.end in omega (arith, e)); marks_end = w.marks_end };
      whole = i.whole;
      none = i.none;
    }

pub map_set : (f : Kept → Value) (xs : List Kept) (r : ℕ) (v : Kept) → r < length xs → map f (slice_set xs r v) ≡ write r (f v) (map f xs)
map_set f [] r v l = absurd (omega arith)
map_set f (x ∷ xs) zero v l = refl
map_set f (x ∷ xs) (suc r) v l = ap (λ l. f x ∷ l) (map_set f xs r v (omega arith))

pub map_put : (f : Kept → Value) (vs xs : List Kept) (r : ℕ) → r + length vs ≤ length xs → map f (put_all r vs xs) ≡ write_all r (map f vs) (map f xs)
map_put f [] xs r l = refl
map_put f (v ∷ vs) xs r l =
    map_put f vs (slice_set xs r v) (suc r) (let e = Rattle.lua_stack.proofs.Parts.length_set xs r v in omega (arith, e)) ∙ ap (write_all (suc r) (map f vs)) (map_set f xs r v (omega arith))

pub map_blank : (f : Kept → Value) (n : ℕ) → f Nil ≡ known nil → map f (blank n) ≡ nils n
map_blank f zero z = refl
map_blank f (suc n) z = ap (λ v. v ∷ map f (blank n)) z ∙ ap (λ l. known nil ∷ l) (map_blank f n z)

abbrev pub made : (Kept → Value) → Running → List ℕ → List Value → List Value → LuaFrame
made f r pending registers varargs = record {
  function = r.function.0;
  wait = wait_of f r.wait;
  own = record { pc = r.pc; registers = registers; varargs = varargs; pending = pending; opened = r.opened };
}

-- values written over the registers
module _ (a : Inside) (i : stands a) (vs : List Kept) (r : ℕ) (l : r + length vs ≤ a.top.window.kept) where
  abbrev written : List Kept
  written = put_all (a.top.window.base + r) vs a.values.items

  pub front_stays : take a.top.window.start written ≡ take a.top.window.start a.values.items
  front_stays = take_put_all vs a.values.items a.top.window.start (a.top.window.base + r) (let k = i.within.extra in omega arith)

  pub varargs_stay : part a.top.window.start (a.top.window.base - a.top.window.start) written ≡ part a.top.window.start (a.top.window.base - a.top.window.start) a.values.items
  varargs_stay =
      part_kept a.top.window.start (a.top.window.base - a.top.window.start) a.top.window.base a.values.items written (let k = i.within.extra in omega arith)
      (take_put_all vs a.values.items a.top.window.base (a.top.window.base + r) (omega arith))

  registers_put : (f : Kept → Value) → map f (registers_at written a.top.window) ≡ write_all r (map f vs) (map f (registers_at a.values.items a.top.window))
  registers_put f =
      ap (map f) (whole written a.top.window i.whole ∙ part_put_in vs a.values.items a.top.window.base a.top.window.kept r (a.top.window.base + r) refl l)
      ∙ map_put f vs (part a.top.window.base a.top.window.kept a.values.items) r
      (let k = length_part a.top.window.base a.top.window.kept a.values.items (let e = i.within.end in let w = i.whole in omega (arith, e, w)) in omega (arith, l, k))
      ∙ ap (λ l. write_all r (map f vs) (map f l)) (sym (whole a.values.items a.top.window i.whole))

  pub put_reads : Reads (lua_at a.values.items a.pending.items a.top.running a.top.window) (lua_at written a.pending.items a.top.running a.top.window) (λ f t. with_registers (write_all r (map f vs) t.own.registers) t)
  put_reads f z =
      let marks = part a.top.window.marks a.top.window.marked a.pending.items in
      ap (λ l. made f a.top.running marks l (map f (part a.top.window.start (a.top.window.base - a.top.window.start) written))) (registers_put f)
      ∙ ap (λ l. made f a.top.running marks (write_all r (map f vs) (map f (registers_at a.values.items a.top.window))) (map f l)) varargs_stay

pub top_put : (a : Inside) (s n : KeptStack) (vs : List Kept) (r at : ℕ) → shown a ≡ s → stands a → HasRegisters s (r + length vs) → at ≡ a.top.window.base + r
    → n ≡ seen (put_all at vs a.values.items) a.pending.items a.below.items a.top a.open_cells.items
    → TopBecomes s n (λ f t. with_registers (write_all r (map f vs) t.own.registers) t)
top_put a s n vs r at v i h p e =
    let l = room_in a s (r + length vs) v i h in
    retop a s n (put_all (a.top.window.base + r) vs a.values.items) a.pending.items a.top _ v i (lua_top h) refl
    (e ∙ ap (λ k. seen (put_all k vs a.values.items) a.pending.items a.below.items a.top a.open_cells.items) p)
    (front_stays a i vs r l) refl (put_reads a i vs r l)

pub put_stands : (a : Inside) (vs : List Kept) (at : ℕ) (values : List Kept) → stands a → values ≡ put_all at vs a.values.items → IsStack values a.pending.items a.below.items a.top
put_stands a vs at values i e = restands a values i (ap length e ∙ length_put_all vs a.values.items at)

-- another number of registers

abbrev pub resized : Record → ℕ → Record
resized t n = record t { running = record t.running { opened = 0 }; window = record t.window { kept = n; size = n } }

pub resized_stands : (a : Inside) (values : List Kept) (n : ℕ) → stands a → length values ≡ length a.values.items → n ≤ a.top.window.kept
    → IsStack values a.pending.items a.below.items (resized a.top n)
resized_stands a values n i e l =
    let w = i.within in
    let k = restands a values i e in
    record {
      stacked = k.stacked;
      under = under_more a.top.window (resized a.top n).window a.below.items k.under (Rattle.std.proofs.Common.le_refl _) (Rattle.std.proofs.Common.le_refl _);
      within = record { extra = w.extra; kept = Rattle.std.proofs.Common.le_refl n; end = (let m = w.end in let h = i.whole in omega (arith, e, h)); marks_end = w.marks_end };
      whole = refl;
      none = k.none;
    }

pub cut_open : (a : Inside) (s : KeptStack) (n : ℕ) → shown a ≡ s → (i : stands a) → AreOpen a.below.items a.top.kind a.top.window a.open_cells.items → HasRegisters s n → NoneFrom s n
    → AreOpen a.below.items a.top.kind (resized a.top n).window a.open_cells.items
cut_open a s n v i o h c =
    let is : a.top.kind ≡ Lua = lua_on_top a s v i (lua_top h) in
    subst (λ k. AreOpen a.below.items k (resized a.top n).window a.open_cells.items) (sym is)
    (resized_open a.below.items a.top.window (resized a.top n).window a.open_cells.items (subst (λ k. AreOpen a.below.items k a.top.window a.open_cells.items) is o) (none_from a s n v i c))

abbrev made_closed : (Kept → Value) → Running → List ℕ → List Value → List Value → LuaFrame
made_closed f r pending registers varargs = made f (record r { opened = 0 }) pending registers varargs

taken : (a : Inside) → stands a → (n : ℕ) → n ≤ a.top.window.kept → part a.top.window.base n a.values.items ≡ take n (registers_at a.values.items a.top.window)
taken a i n l = sym (ap (take n) (whole a.values.items a.top.window i.whole) ∙ take_take (drop a.top.window.base a.values.items) n a.top.window.kept l)

pub top_ended : (a : Inside) (s m : KeptStack) (n : ℕ) → shown a ≡ s → stands a → HasRegisters s n → m ≡ seen a.values.items a.pending.items a.below.items (resized a.top n) a.open_cells.items
    → TopBecomes s m (λ f t. with_opened 0 (with_registers (take n t.own.registers) t))
top_ended a s m n v i h e =
    let l = room_in a s n v i h in
    retop a s m a.values.items a.pending.items (resized a.top n) _ v i (lua_top h) refl e refl refl
    (λ f z. ap (λ l. made_closed f a.top.running (part a.top.window.marks a.top.window.marked a.pending.items) l (map f (part a.top.window.start (a.top.window.base - a.top.window.start) a.values.items)))
    (ap (map f) (whole a.values.items (resized a.top n).window refl ∙ taken a i n l) ∙ map_take f n (registers_at a.values.items a.top.window)))

-- a cut: the registers in front stay, the others are nil

pub blanked_same : (p q : ℕ → Bool) (i n : ℕ) (vs : List Value) → ((j : ℕ) → p j ≡ q j) → blanked p i n vs ≡ blanked q i n vs
blanked_same p q i zero vs h = refl
blanked_same p q i (suc n) vs h = ap (λ b. cond b (nth vs i) (known nil) ∷ blanked p (suc i) n vs) (h i) ∙ ap (λ l. cond (q i) (nth vs i) (known nil) ∷ l) (blanked_same p q (suc i) n vs h)

blanked_none : (i n : ℕ) (vs : List Value) → blanked (λ j. nat_lt j 0) i n vs ≡ nils n
blanked_none i zero vs = refl
blanked_none i (suc n) vs =
    let e : nat_lt i 0 ≡ false = search (arith, nat_tests) in
    ap (λ b. cond b (nth vs i) (known nil) ∷ blanked (λ j. nat_lt j 0) (suc i) n vs) e ∙ ap (λ l. known nil ∷ l) (blanked_none (suc i) n vs)

blanked_shift : (p : ℕ → Bool) (i n : ℕ) (v : Value) (vs : List Value) → blanked p (suc i) n (v ∷ vs) ≡ blanked (λ j. p (suc j)) i n vs
blanked_shift p i zero v vs = refl
blanked_shift p i (suc n) v vs = ap (λ l. cond (p (suc i)) (nth vs i) (known nil) ∷ l) (blanked_shift p (suc i) n v vs)

suc_lt : (j a : ℕ) → nat_lt (suc j) (suc a) ≡ nat_lt j a
suc_lt j a = grind (arith, nat_tests)

pub cut_is : (a n : ℕ) (vs : List Value) → n ≤ length vs → a ≤ n → blanked (λ j. nat_lt j a) 0 n vs ≡ take a vs ++ nils (n - a)
cut_is zero n vs e l = let m : n - 0 ≡ n = omega arith in blanked_none 0 n vs ∙ ap nils (sym m)
cut_is (suc a) zero vs e l = absurd (omega arith)
cut_is (suc a) (suc n) [] e l = absurd (omega arith)
cut_is (suc a) (suc n) (v ∷ vs) e l =
    let t : nat_lt 0 (suc a) ≡ true = search (arith, nat_tests) in
    let m : suc n - suc a ≡ n - a = omega arith in
    ap (λ b. cond b v (known nil) ∷ blanked (λ j. nat_lt j (suc a)) 1 n (v ∷ vs)) t
    ∙ ap (λ l. v ∷ l) (blanked_shift (λ j. nat_lt j (suc a)) 0 n v vs ∙ blanked_same (λ j. nat_lt (suc j) (suc a)) (λ j. nat_lt j a) 0 n vs (λ j. suc_lt j a) ∙ cut_is a n vs (omega arith) (omega arith) ∙ ap (λ k. take a vs ++ nils k) (sym m))

-- the registers in front of a place, and nil behind them, as many as the code has
module _ (a : Inside) (i : stands a) (r n : ℕ) (l : n ≤ a.top.window.kept) (m : r ≤ n) where
  abbrev wiped : List Kept
  wiped = put_all (a.top.window.base + r) (blank (n - r)) a.values.items

  registers_cut : (f : Kept → Value) → f Nil ≡ known nil → map f (part a.top.window.base n wiped) ≡ blanked (λ j. nat_lt j r) 0 n (map f (registers_at a.values.items a.top.window))
  registers_cut f z =
      let b : length (blank (n - r)) ≡ n - r = length_blank (n - r) in
      let R = part a.top.window.base n a.values.items in
      let k : length R ≡ n = length_part a.top.window.base n a.values.items (let e = i.within.end in let w = i.whole in omega (arith, e, w)) in
      let K = registers_at a.values.items a.top.window in
      let j : length (map f K) ≡ a.top.window.kept = Rattle.std.proofs.lemmas.List.length-map K f ∙ length_whole a.values.items a.top.window i.whole i.within.end in
      let c : take r (map f R) ≡ take r (map f K) = ap (take r) (ap (map f) (taken a i n l) ∙ map_take f n K) ∙ take_take (map f K) r n m in
      ap (map f) (part_put_in (blank (n - r)) a.values.items a.top.window.base n r (a.top.window.base + r) refl (omega (arith, b)) ∙ put_tail (blank (n - r)) R r (omega (arith, b, k)))
      ∙ map_more f (take r R) (blank (n - r)) ∙ ap (λ l. l ++ map f (blank (n - r))) (map_take f r R ∙ c) ∙ ap (λ l. take r (map f K) ++ l) (map_blank f (n - r) z)
      ∙ sym (cut_is r n (map f K) (omega (arith, j)) m)

  cut_reads : Reads (lua_at a.values.items a.pending.items a.top.running a.top.window) (lua_at wiped a.pending.items (resized a.top n).running (resized a.top n).window)
      (λ f t. with_opened 0 (with_registers (blanked (λ j. nat_lt j r) 0 n t.own.registers) t))
  cut_reads f z =
      let marks = part a.top.window.marks a.top.window.marked a.pending.items in
      let b : length (blank (n - r)) ≡ n - r = length_blank (n - r) in
      ap (λ l. made_closed f a.top.running marks l (map f (part a.top.window.start (a.top.window.base - a.top.window.start) wiped))) (ap (map f) (whole wiped (resized a.top n).window refl) ∙ registers_cut f z)
      ∙ ap (λ l. made_closed f a.top.running marks (blanked (λ j. nat_lt j r) 0 n (map f (registers_at a.values.items a.top.window))) (map f l)) (varargs_stay a i (blank (n - r)) r (omega (arith, b)))

pub top_cut : (a : Inside) (s k : KeptStack) (r n at : ℕ) → shown a ≡ s → stands a → HasRegisters s n → r ≤ n → at ≡ a.top.window.base + r
    → k ≡ seen (put_all at (blank (n - r)) a.values.items) a.pending.items a.below.items (resized a.top n) a.open_cells.items
    → TopBecomes s k (λ f t. with_opened 0 (with_registers (blanked (λ j. nat_lt j r) 0 n t.own.registers) t))
top_cut a s k r n at v i h m p e =
    let l = room_in a s n v i h in
    let b : length (blank (n - r)) ≡ n - r = length_blank (n - r) in
    retop a s k (put_all (a.top.window.base + r) (blank (n - r)) a.values.items) a.pending.items (resized a.top n) _ v i (lua_top h) refl
    (e ∙ ap (λ k. seen (put_all k (blank (n - r)) a.values.items) a.pending.items a.below.items (resized a.top n) a.open_cells.items) p)
    (front_stays a i (blank (n - r)) r (omega (arith, b))) refl (cut_reads a i r n l m)

pub put_at_most : (a : Inside) (s : KeptStack) (r n at : ℕ) → shown a ≡ s → stands a → HasRegisters s (r + n) → at ≡ a.top.window.base + r → at + n ≤ length a.values.items
put_at_most a s r n at v i h e = let k = place_in a s (r + n) v i h in omega (arith, k, e)
