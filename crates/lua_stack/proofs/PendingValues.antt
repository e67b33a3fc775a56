-- The values of the pending registers of all frames.
use Rattle.std.proofs.Common.{◌≡◌, ℕ, zero, suc, ◌+◌, ◌-◌, ◌<◌, ◌≤◌, Bool, true, false, List, [], ◌∷◌, ◌++◌, length, map, take, Some, None, refl, ap, sym, ◌∙◌, subst, arith, append_assoc}
use Rattle.std.specs.Prelude.{◌||◌, flat_map, nat_eq, slice_get}
use Rattle.std.specs.List.{list_any}
use Rattle.std.proofs.lemmas.Grind.{flat_map-append}
use Rattle.std.proofs.lemmas.Bool.Decides.{nat_tests}
use Rattle.int_core.specs.Value.{Value, known, nil, nth}
use Rattle.list_laws.proofs.Items.{append_nil, get_old, some_same}
use Rattle.machine_core.specs.Moves.{pending_values}
use Rattle.table_core.specs.declared.value.Value.{Value as Kept}
use Rattle.table_core.specs.declared.value.Value.TheVariants.{Nil}
use Rattle.lua_stack.specs.declared.frame.Window.{Window}
use Rattle.lua_stack.specs.declared.frame.Running.{Running}
use Rattle.lua_stack.specs.declared.frame.Record.{Record}
use Rattle.lua_stack.specs.declared.frame.Kind.{Kind}
use Rattle.lua_stack.specs.declared.frame.Kind.TheVariants.{Missing, Lua, Pcall, Xpcall, Handler, Closing}
use Rattle.lua_stack.specs.declared.stack.Stack.TheInside.{Inside}
use Rattle.lua_stack.specs.Frames.{ArePending, KeptStack, frames, frame_of}
use Rattle.lua_stack.specs.View.{part, blank, frame_at, frame_in, registers_at, tops, tops_of, AreStacked, IsWithin, is_lua, kept_at, marked_by, marked_values}
use Rattle.lua_stack.proofs.Parts.{length_part, part_next, take_next}
use Rattle.lua_stack.proofs.Ends.{map_more, shown}
use Rattle.lua_stack.proofs.Own.{get_part}

-- a register of a frame

at_there : (xs : List Kept) (n : ℕ) (v : Kept) → slice_get xs n ≡ Some v → kept_at xs n ≡ v
at_there xs n v g = ap (λ o. elim o [ None ↦ Nil | Some v ↦ v ]) g

at_blank : (n r : ℕ) → kept_at (blank n) r ≡ Nil
at_blank zero r = refl
at_blank (suc n) zero = refl
at_blank (suc n) (suc r) = at_blank n r

at_behind : (xs ys : List Kept) (r : ℕ) → length xs ≤ r → kept_at (xs ++ ys) r ≡ kept_at ys (r - length xs)
at_behind [] ys r l = let e : r - 0 ≡ r = omega arith in ap (kept_at ys) (sym e)
at_behind (x ∷ xs) ys zero l = absurd (omega arith)
at_behind (x ∷ xs) ys (suc r) l = let e : suc r - suc (length xs) ≡ r - length xs = omega arith in at_behind xs ys r (omega arith) ∙ ap (kept_at ys) (sym e)

pub register_kept : (values : List Kept) (w : Window) (r : ℕ) (v : Kept) → r < w.kept → slice_get values (w.base + r) ≡ Some v → v ≡ kept_at (registers_at values w) r
register_kept values w r v l g = sym (at_there (registers_at values w) r v (get_old (part w.base w.kept values) (blank (w.size - w.kept)) r v (get_part values w.base w.kept r l ∙ g)))

pub register_gone : (values : List Kept) (w : Window) (r : ℕ) → w.base + w.kept ≤ length values → (r < w.kept → ⊥) → Nil ≡ kept_at (registers_at values w) r
register_gone values w r l n =
    let k = length_part w.base w.kept values l in
    sym (at_behind (part w.base w.kept values) (blank (w.size - w.kept)) r (le_by (more r w.kept n)) ∙ at_blank (w.size - w.kept) (r - length (part w.base w.kept values)))
  where
    more : (r k : ℕ) → (r < k → ⊥) → k ≤ r
    more r zero n = omega arith
    more zero (suc k) n = absurd (n (omega arith))
    more (suc r) (suc k) n = let m = more r k (λ l. n (omega arith)) in omega (arith, m)

    le_by : w.kept ≤ r → length (part w.base w.kept values) ≤ r
    le_by m = let k = length_part w.base w.kept values l in omega (arith, k, m)

-- one more

pub one_pushed : (old new : List Kept) (values : List Kept) (w : Window) (pending : List ℕ) (k mark : ℕ) (v : Kept) → new ≡ old ++ map (kept_at (registers_at values w)) (part w.marks k pending) → slice_get pending (w.marks + k) ≡ Some mark
    → v ≡ kept_at (registers_at values w) mark → new ++ v ∷ [] ≡ old ++ map (kept_at (registers_at values w)) (part w.marks (k + 1) pending)
one_pushed old new values w pending k mark v e g q =
    let M = kept_at (registers_at values w) in
    ap (λ l. l ++ v ∷ []) e ∙ append_assoc old (map M (part w.marks k pending)) (v ∷ [])
    ∙ ap (λ v. old ++ (map M (part w.marks k pending) ++ v ∷ [])) q
    ∙ ap (λ l. old ++ l) (sym (map_more M (part w.marks k pending) (mark ∷ [])) ∙ ap (map M) (sym (part_next w.marks k (k + 1) (w.marks + k) pending mark (omega arith) refl g)))

pub none_pushed : (values : List Kept) (pending : List ℕ) (r : Record) (old : List Kept) → is_lua r.kind ≡ false → old ≡ old ++ marked_values values pending r
none_pushed values pending r old e = sym (ap (λ l. old ++ l) (by r.kind e) ∙ append_nil old)
  where
    by : (k : Kind) → is_lua k ≡ false → marked_by values pending k r.window ≡ []
    by Lua e = absurd (cc)
    by _ e = refl

pub all_pushed : (values : List Kept) (pending : List ℕ) (r : Record) (old new : List Kept) → is_lua r.kind ≡ true → new ≡ old ++ map (kept_at (registers_at values r.window)) (part r.window.marks r.window.marked pending)
    → new ≡ old ++ marked_values values pending r
all_pushed values pending r old new e q = q ∙ ap (λ l. old ++ l) (sym (by r.kind e))
  where
    by : (k : Kind) → is_lua k ≡ true → marked_by values pending k r.window ≡ map (kept_at (registers_at values r.window)) (part r.window.marks r.window.marked pending)
    by Lua e = refl
    by _ e = absurd (cc)

-- frame by frame

pub stacked_at : (n m : ℕ) (rs : List Record) (k : ℕ) (r : Record) → AreStacked n m rs → slice_get rs k ≡ Some r → IsWithin n m r.window
stacked_at n m [] k r s g = absurd (cc)
stacked_at n m (q ∷ rs) zero r s g = subst (λ (r : Record). IsWithin n m r.window) (some_same q r g) s.1
stacked_at n m (q ∷ rs) (suc k) r s g = stacked_at n m rs k r s.3 g

pub next_frame : (values : List Kept) (pending : List ℕ) (rs : List Record) (k : ℕ) (r : Record) (old between new : List Kept) → slice_get rs k ≡ Some r → between ≡ old ++ flat_map (marked_values values pending) (take k rs)
    → new ≡ between ++ marked_values values pending r → new ≡ old ++ flat_map (marked_values values pending) (take (k + 1) rs)
next_frame values pending rs k r old between new g e q =
    let M = marked_values values pending in
    let n : k + 1 ≡ suc k = omega arith in
    q ∙ ap (λ l. l ++ M r) e ∙ append_assoc old (flat_map M (take k rs)) (M r)
    ∙ ap (λ l. old ++ l) (ap (λ l. flat_map M (take k rs) ++ l) (sym (append_nil (M r))) ∙ sym (flat_map-append M (take k rs) (r ∷ [])) ∙ ap (flat_map M) (sym (take_next k rs r g)) ∙ ap (λ n. flat_map M (take n rs)) (sym n))

-- in the words of the machine

module _ (f : Kept → Value) (z : f Nil ≡ known nil) (values : List Kept) (pending : List ℕ) where
  read_at : (xs : List Kept) (r : ℕ) → f (kept_at xs r) ≡ nth (map f xs) r
  read_at [] r = z
  read_at (x ∷ xs) zero = refl
  read_at (x ∷ xs) (suc r) = read_at xs r

  read_all : (xs : List Kept) (ps : List ℕ) → map f (map (kept_at xs) ps) ≡ map (nth (map f xs)) ps
  read_all xs [] = refl
  read_all xs (p ∷ ps) = ap (λ v. v ∷ map f (map (kept_at xs) ps)) (read_at xs p) ∙ ap (λ l. nth (map f xs) p ∷ l) (read_all xs ps)

  read_frame : (k : Kind) (r : Running) (w : Window) → map f (marked_by values pending k w) ≡ pending_values (frame_of f (frame_in values pending k r w))
  read_frame Lua r w = read_all (registers_at values w) (part w.marks w.marked pending)
  read_frame _ r w = refl

  read_frames : (rs : List Record) → map f (flat_map (marked_values values pending) rs) ≡ flat_map pending_values (map (frame_of f) (map (frame_at values pending) rs))
  read_frames [] = refl
  read_frames (r ∷ rs) =
      map_more f (marked_values values pending r) (flat_map (marked_values values pending) rs) ∙ ap (λ l. l ++ map f (flat_map (marked_values values pending) rs)) (read_frame r.kind r.running r.window)
      ∙ ap (λ l. pending_values (frame_of f (frame_at values pending r)) ++ l) (read_frames rs)

  tops_are : (r : Record) → flat_map (marked_values values pending) (tops r) ≡ marked_values values pending r
  tops_are r = by r.kind
    where
      by : (k : Kind) → flat_map (marked_values values pending) (tops_of k (record r { kind = k })) ≡ marked_by values pending k r.window
      by Missing = refl
      by Lua = append_nil (marked_by values pending Lua r.window)
      by Pcall = refl
      by (Xpcall h) = refl
      by Handler = refl
      by (Closing x) = refl

pub are_pending : (a : Inside) (s : KeptStack) (found : List Kept) → shown a ≡ s → found ≡ flat_map (marked_values a.values.items a.pending.items) a.below.items ++ marked_values a.values.items a.pending.items a.top → ArePending s found
are_pending a s found v e = record {
  read = λ f z.
      let M = marked_values a.values.items a.pending.items in
      ap (map f) (e ∙ ap (λ l. flat_map M a.below.items ++ l) (sym (tops_are f z a.values.items a.pending.items a.top)) ∙ sym (flat_map-append M a.below.items (tops a.top)))
      ∙ read_frames f z a.values.items a.pending.items (a.below.items ++ tops a.top) ∙ ap (λ (s : KeptStack). flat_map pending_values (frames f s)) v;
}

-- a register among those that are pending
turned : (x r : ℕ) → nat_eq x r ≡ nat_eq r x
turned x r = by (nat_eq x r) refl (nat_eq r x) refl
  where
    no_such : true ≡ false → ⊥
    no_such e = cc

    by : (b : Bool) → nat_eq x r ≡ b → (c : Bool) → nat_eq r x ≡ c → nat_eq x r ≡ nat_eq r x
    by true p true q = p ∙ sym q
    by false p false q = p ∙ sym q
    by true p false q = absurd (no_such (let e : x ≡ r = grind (arith, nat_tests) in let y : nat_eq r x ≡ true = grind (arith, nat_tests) in sym y ∙ q))
    by false p true q = absurd (no_such (let e : r ≡ x = grind (arith, nat_tests) in let y : nat_eq x r ≡ true = grind (arith, nat_tests) in sym y ∙ p))

pub any_turned : (r : ℕ) (xs : List ℕ) → list_any (λ y. nat_eq y r) xs ≡ list_any (nat_eq r) xs
any_turned r [] = refl
any_turned r (x ∷ xs) = ap (λ b. b || list_any (λ y. nat_eq y r) xs) (turned x r) ∙ ap (λ b. nat_eq r x || b) (any_turned r xs)
