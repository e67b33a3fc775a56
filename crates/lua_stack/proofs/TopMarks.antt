-- The pending registers of the frame on top.
use Rattle.std.proofs.Common.{◌≡◌, ℕ, zero, suc, ◌+◌, ◌-◌, ◌<◌, ◌≤◌, List, [], ◌∷◌, ◌++◌, length, map, take, drop, Option, Some, None, refl, ap, sym, ◌∙◌, subst, arith, le_refl}
use Rattle.std.specs.Prelude.{slice_get}
use Rattle.machine_core.specs.Text.{last_pending, without_pending}
use Rattle.lua_stack.specs.declared.frame.Record.{Record}
use Rattle.lua_stack.specs.declared.stack.Stack.TheInside.{Inside}
use Rattle.lua_stack.specs.Frames.{KeptStack, HasLuaTop, OnTop, TopBecomes, with_pending}
use Rattle.lua_stack.specs.View.{AreOpen, IsLastFrom, IsStack, part, registers_at, seen}
use Rattle.lua_stack.proofs.Parts.{length_part, take_push, take_take}
use Rattle.lua_stack.proofs.Stacked.{stacked_longer, under_more}
use Rattle.lua_stack.proofs.Ends.{shown, stands}
use Rattle.lua_stack.proofs.Tops.{on_top, retop}
use Rattle.lua_stack.proofs.Own.{made}
use Rattle.lua_stack.proofs.OpenCells.{kept_open}
use Rattle.lua_stack.proofs.Marks.{part_marked, part_without, without_is, without_none}

abbrev pub remarked : Record → ℕ → Record
remarked t marked = record t { window = record t.window { marked = marked } }

abbrev marks_of : Inside → List ℕ
marks_of a = part a.top.window.marks a.top.window.marked a.pending.items

pub remarked_stands : (a : Inside) (pending : List ℕ) (marked : ℕ) → stands a → a.top.window.marks + marked ≤ length pending → IsStack a.values.items pending a.below.items (remarked a.top marked)
remarked_stands a pending marked i l =
    let w = i.within in
    record {
      stacked = stacked_longer (length a.values.items) (length a.pending.items) (length a.values.items) (length pending) a.top.window a.below.items i.stacked i.under (le_refl _) (omega arith);
      under = under_more a.top.window (remarked a.top marked).window a.below.items i.under (le_refl _) (le_refl _);
      within = record { extra = w.extra; kept = w.kept; end = w.end; marks_end = l };
      whole = i.whole;
      none = i.none;
    }

pub remarked_open : (a : Inside) (marked : ℕ) → AreOpen a.below.items a.top.kind a.top.window a.open_cells.items → AreOpen a.below.items a.top.kind (remarked a.top marked).window a.open_cells.items
remarked_open a marked o = kept_open a.below.items a.top.kind a.top.window (remarked a.top marked).window a.open_cells.items (le_refl _) o

pub top_marked : (a : Inside) (s n : KeptStack) (pending : List ℕ) (marked : ℕ) (change : List ℕ → List ℕ) → shown a ≡ s → stands a → HasLuaTop s
    → n ≡ seen a.values.items pending a.below.items (remarked a.top marked) a.open_cells.items → take a.top.window.marks pending ≡ take a.top.window.marks a.pending.items
    → part a.top.window.marks marked pending ≡ change (marks_of a) → TopBecomes s n (λ f t. with_pending (change t.own.pending) t)
top_marked a s n pending marked change v i h e same is =
    retop a s n a.values.items pending (remarked a.top marked) _ v i h refl e refl same
    (λ f z. ap (λ l. made f a.top.running l (map f (registers_at a.values.items a.top.window)) (map f (part a.top.window.start (a.top.window.base - a.top.window.start) a.values.items))) is)

-- one more

front_marked : (n at r : ℕ) (ps : List ℕ) → n ≤ at → at ≤ length ps → take n (take at ps ++ r ∷ []) ≡ take n ps
front_marked n at r ps l m =
    let k = Rattle.lua_stack.proofs.Parts.length_take_le at ps m in
    take_push n (take at ps) (r ∷ []) (omega (arith, k, l)) ∙ take_take ps n at l

pub one_marked : (a : Inside) (s n : KeptStack) (pending : List ℕ) (marked at r : ℕ) → shown a ≡ s → stands a → HasLuaTop s → marked ≡ a.top.window.marked + 1 → at ≡ a.top.window.marks + a.top.window.marked
    → pending ≡ take at a.pending.items ++ r ∷ [] → n ≡ seen a.values.items pending a.below.items (remarked a.top marked) a.open_cells.items → TopBecomes s n (λ f t. with_pending (t.own.pending ++ r ∷ []) t)
one_marked a s n pending marked at r v i h m p q e =
    let l = i.within.marks_end in
    top_marked a s n pending marked (λ ps. ps ++ r ∷ []) v i h e
    (ap (take a.top.window.marks) q ∙ front_marked a.top.window.marks at r a.pending.items (omega (arith, p)) (omega (arith, p, l)))
    (ap (part a.top.window.marks marked) q ∙ part_marked a.top.window.marks a.top.window.marked marked at r a.pending.items (omega (arith, m)) p (omega (arith, p, l)))

pub marked_length : (at r : ℕ) (ps pending : List ℕ) → at ≤ length ps → pending ≡ take at ps ++ r ∷ [] → length pending ≡ at + 1
marked_length at r ps pending l e =
    let k = Rattle.lua_stack.proofs.Parts.length_take_le at ps l in
    let m = Rattle.std.proofs.Common.length-append (take at ps) (r ∷ []) in
    ap length e ∙ omega (arith, k, m)

-- what is read

pub slice_is : (a : Inside) (end : ℕ) (xs : List ℕ) → end ≡ a.top.window.marks + a.top.window.marked → xs ≡ a.pending.items → take (end - a.top.window.marks) (drop a.top.window.marks xs) ≡ marks_of a
slice_is a end xs p e =
    let m : end - a.top.window.marks ≡ a.top.window.marked = omega (arith, p) in
    ap (λ n. take n (drop a.top.window.marks xs)) m ∙ ap (λ xs. part a.top.window.marks a.top.window.marked xs) e

pub last_read : (a : Inside) (s : KeptStack) (r : ℕ) (ps : List ℕ) (q : Option ℕ) → shown a ≡ s → stands a → ps ≡ marks_of a → q ≡ last_pending r ps → OnTop s (λ f t. q ≡ last_pending r t.own.pending)
last_read a s r ps q v i e l = on_top a s (λ f t. q ≡ last_pending r t.own.pending) v i (λ f. l ∙ ap (last_pending r) e)

-- one is taken away

get_less : {A : Type 0} (xs : List A) (n : ℕ) (v : A) → slice_get xs n ≡ Some v → n < length xs
get_less [] n v g = absurd (cc)
get_less (x ∷ xs) zero v g = omega arith
get_less (x ∷ xs) (suc n) v g = let k = get_less xs n v g in omega (arith, k)

pub none_taken : (a : Inside) (s n : KeptStack) (r : ℕ) (ps : List ℕ) → shown a ≡ s → stands a → HasLuaTop s → ps ≡ marks_of a → last_pending r ps ≡ None → n ≡ s → TopBecomes s n (λ f t. with_pending (without_pending r t.own.pending) t)
none_taken a s n r ps v i h e l q =
    top_marked a s n a.pending.items a.top.window.marked (without_pending r) v i h (q ∙ sym v) refl (sym (without_none r (marks_of a) (ap (last_pending r) (sym e) ∙ l)))

module _ (a : Inside) (i : stands a) (r at : ℕ) (ps : List ℕ) (e : ps ≡ marks_of a) (l : IsLastFrom r ps at) where
  of_marks : IsLastFrom r (marks_of a) at
  of_marks = subst (λ ps. IsLastFrom r ps at) e l

  pub at_less : at < a.top.window.marked
  at_less =
      let k = get_less (marks_of a) at of_marks.mark of_marks.is in
      let n = length_part a.top.window.marks a.top.window.marked a.pending.items i.within.marks_end in
      omega (arith, k, n)

  pub one_taken : (s n : KeptStack) (pending : List ℕ) (marked to : ℕ) → shown a ≡ s → HasLuaTop s → to ≡ a.top.window.marks + at → marked ≡ a.top.window.marked - 1
      → pending ≡ take to a.pending.items ++ drop (suc to) a.pending.items → n ≡ seen a.values.items pending a.below.items (remarked a.top marked) a.open_cells.items
      → TopBecomes s n (λ f t. with_pending (without_pending r t.own.pending) t)
  one_taken s n pending marked to v h p m q k =
      let less = at_less in
      let w = i.within.marks_end in
      top_marked a s n pending marked (without_pending r) v i h k
      (ap (take a.top.window.marks) q ∙ front (omega (arith, p)) (omega (arith, p, w, less)))
      (ap (part a.top.window.marks marked) q ∙ part_without a.top.window.marks a.top.window.marked marked at to a.pending.items (omega (arith, m, less)) p w less
      ∙ sym (without_is r at of_marks.mark (marks_of a) of_marks.is of_marks.at_least of_marks.later))
    where
      front : a.top.window.marks ≤ to → to ≤ length a.pending.items → take a.top.window.marks (take to a.pending.items ++ drop (suc to) a.pending.items) ≡ take a.top.window.marks a.pending.items
      front x y =
          let k = Rattle.lua_stack.proofs.Parts.length_take_le to a.pending.items y in
          take_push a.top.window.marks (take to a.pending.items) (drop (suc to) a.pending.items) (omega (arith, k, x)) ∙ take_take a.pending.items a.top.window.marks to x

  pub taken_length : (pending : List ℕ) (to : ℕ) → to ≡ a.top.window.marks + at → pending ≡ take to a.pending.items ++ drop (suc to) a.pending.items → length pending + 1 ≡ length a.pending.items
  taken_length pending to p q =
      let less = at_less in
      let w = i.within.marks_end in
      let b : to < length a.pending.items = omega (arith, p, w, less) in
      let k = Rattle.lua_stack.proofs.Parts.length_take_le to a.pending.items (omega (arith, b)) in
      let m = Rattle.std.proofs.Common.length-append (take to a.pending.items) (drop (suc to) a.pending.items) in
      let n = Rattle.std.proofs.lemmas.List.length-drop (suc to) a.pending.items in
      let j = ap length q in
      omega (arith, j, k, m, n, b)
