-- A list of values that is written from a register on, and reaches as far as it has values.
use Rattle.std.proofs.Common.{◌≡◌, ℕ, zero, suc, ◌+◌, ◌-◌, ◌<◌, ◌≤◌, List, [], ◌∷◌, ◌++◌, length, map, take, drop, max, refl, ap, sym, ◌∙◌, arith, le_refl, append_assoc, ◌⊎◌, inl, inr}
use Rattle.std.proofs.lemmas.List.{length-map, take-append-drop}
use Rattle.int_core.specs.Value.{Value, write, write_all}
use Rattle.table_core.specs.declared.value.Value.{Value as Kept}
use Rattle.lua_stack.specs.declared.frame.Record.{Record}
use Rattle.lua_stack.specs.declared.stack.Stack.TheInside.{Inside}
use Rattle.lua_stack.specs.Frames.{KeptStack, HasLuaTop, TopBecomes, with_opened, with_registers}
use Rattle.lua_stack.specs.View.{part, put_all, registers_at, seen, AreOpen, IsStack}
use Rattle.lua_stack.proofs.Parts.{grown_front, length_part, length_put_all, map_take, part_kept, part_put_in, put_all_is, take_put_all, take_take, drop_nil}
use Rattle.lua_stack.proofs.Stacked.{stacked_longer, under_more}
use Rattle.lua_stack.proofs.Ends.{map_more, shown, stands}
use Rattle.lua_stack.proofs.Tops.{retop}
use Rattle.lua_stack.proofs.Own.{made, whole}
use Rattle.lua_stack.proofs.OpenCells.{kept_open}
use Rattle.lua_stack.proofs.LaidOut.{map_drop, drop_over}

-- what writing comes to

take_written : (vs : List Value) (at : ℕ) (w : Value) → at ≤ length vs → take (suc at) (write at w vs) ≡ take at vs ++ w ∷ []
take_written [] zero w l = refl
take_written [] (suc at) w l = absurd (omega arith)
take_written (v ∷ vs) zero w l = refl
take_written (v ∷ vs) (suc at) w l = ap (λ l. v ∷ l) (take_written vs at w (omega arith))

drop_written : (vs : List Value) (at n : ℕ) (w : Value) → at < n → at ≤ length vs → drop n (write at w vs) ≡ drop n vs
drop_written vs at zero w l m = absurd (omega arith)
drop_written [] zero (suc n) w l m = drop_nil n
drop_written [] (suc at) (suc n) w l m = absurd (omega arith)
drop_written (v ∷ vs) zero (suc n) w l m = refl
drop_written (v ∷ vs) (suc at) (suc n) w l m = drop_written vs at n w (omega arith) (omega arith)

length_written : (vs : List Value) (at : ℕ) (w : Value) → at ≤ length vs → suc at ≤ length (write at w vs)
length_written [] zero w l = omega arith
length_written [] (suc at) w l = absurd (omega arith)
length_written (v ∷ vs) zero w l = omega arith
length_written (v ∷ vs) (suc at) w l = let k = length_written vs at w (omega arith) in omega (arith, k)

pub write_all_is : (ws vs : List Value) (at : ℕ) → at ≤ length vs → write_all at ws vs ≡ take at vs ++ (ws ++ drop (at + length ws) vs)
write_all_is [] vs at l = let e : at + 0 ≡ at = omega arith in sym (ap (λ n. take at vs ++ drop n vs) e ∙ take-append-drop at vs)
write_all_is (w ∷ ws) vs at l =
    let e : suc at + length ws ≡ at + suc (length ws) = omega arith in
    write_all_is ws (write at w vs) (suc at) (length_written vs at w l)
    ∙ ap (λ l. l ++ (ws ++ drop (suc at + length ws) (write at w vs))) (take_written vs at w l)
    ∙ ap (λ l. (take at vs ++ w ∷ []) ++ (ws ++ l)) (drop_written vs at (suc at + length ws) w (omega arith) l ∙ ap (λ n. drop n vs) e)
    ∙ append_assoc (take at vs) (w ∷ []) (ws ++ drop (at + suc (length ws)) vs)

-- the registers that the list reaches, over a list of values that has grown
module _ (grown old vs : List Kept) (base kept at size : ℕ) (l : at ≤ kept) (m : size ≡ max kept (at + length vs)) (room : base + size ≤ length grown) (fits : base + kept ≤ length old) (same : take (base + kept) grown ≡ take (base + kept) old) where
  abbrev wide : List Kept
  wide = part base size grown

  abbrev narrow : List Kept
  narrow = part base kept old

  narrow_same : part base kept grown ≡ narrow
  narrow_same = part_kept base kept (base + kept) old grown (le_refl _) same

  front_same : take at wide ≡ take at narrow
  front_same =
      take_take (drop base grown) at size (omega (arith, l, m)) ∙ sym (take_take (drop base grown) at kept l) ∙ ap (take at) narrow_same

  rest_same : drop (at + length vs) wide ≡ drop (at + length vs) narrow
  rest_same = by (max_is kept (at + length vs))
    where
      max_is : (a b : ℕ) → (a ≤ b) ⊎ (b ≤ a)
      max_is zero b = inl (omega arith)
      max_is (suc a) zero = inr (omega arith)
      max_is (suc a) (suc b) = elim (max_is a b) [ inl k ↦ inl (omega arith) | inr k ↦ inr (omega arith) ]

      by : (kept ≤ at + length vs) ⊎ (at + length vs ≤ kept) → drop (at + length vs) wide ≡ drop (at + length vs) narrow
      by (inl k) =
          let a = length_part base size grown room in
          let b = length_part base kept old fits in
          drop_over (at + length vs) wide (omega (arith, a, m, k)) ∙ sym (drop_over (at + length vs) narrow (omega (arith, b, k)))
      by (inr k) = let e : size ≡ kept = omega (arith, m, k) in ap (drop (at + length vs)) (ap (λ n. part base n grown) e ∙ narrow_same)

  pub list_written : (f : Kept → Value) → map f (part base size (put_all (base + at) vs grown)) ≡ write_all at (map f vs) (map f narrow)
  list_written f =
      let a = length_part base size grown room in
      let b = length_part base kept old fits in
      let c = length-map narrow f in
      let d = length-map vs f in
      ap (map f) (part_put_in vs grown base size at (base + at) refl (omega (arith, m)) ∙ put_all_is vs wide at (omega (arith, a, m))
      ∙ ap (λ l. l ++ (vs ++ drop (at + length vs) wide)) front_same ∙ ap (λ l. take at narrow ++ (vs ++ l)) rest_same)
      ∙ map_more f (take at narrow) (vs ++ drop (at + length vs) narrow) ∙ ap (λ l. map f (take at narrow) ++ l) (map_more f vs (drop (at + length vs) narrow))
      ∙ ap (λ l. l ++ (map f vs ++ map f (drop (at + length vs) narrow))) (map_take f at narrow)
      ∙ ap (λ l. take at (map f narrow) ++ (map f vs ++ l)) (map_drop f (at + length vs) narrow)
      ∙ ap (λ n. take at (map f narrow) ++ (map f vs ++ drop (at + n) (map f narrow))) (sym d)
      ∙ sym (write_all_is (map f vs) (map f narrow) at (omega (arith, b, c, l)))

-- the frame on top

abbrev pub widened : Record → (opened size : ℕ) → Record
widened t opened size = record t { running = record t.running { opened = opened }; window = record t.window { kept = size; size = size } }

module _ (a : Inside) (i : stands a) (grown values vs : List Kept) (at to size : ℕ) (front : take (length a.values.items) grown ≡ a.values.items) (longer : length a.values.items ≤ length grown) (l : at ≤ a.top.window.kept)
    (p : to ≡ a.top.window.base + at) (m : size ≡ max a.top.window.size (at + length vs)) (room : to + length vs ≤ length grown) (e : values ≡ put_all to vs grown) where
  pub list_length : length values ≡ length grown
  list_length = ap length e ∙ length_put_all vs grown to

  whole_fits : a.top.window.base + size ≤ length grown
  whole_fits = let z = i.within.end in omega (arith, z, m, p, room, longer)

  pub list_stands : IsStack values a.pending.items a.below.items (widened a.top (length vs) size)
  list_stands =
      let w = i.within in
      let n = list_length in
      let z = w.marks_end in
      let f = whole_fits in
      record {
        stacked = stacked_longer (length a.values.items) (length a.pending.items) (length values) (length a.pending.items) a.top.window a.below.items i.stacked i.under (omega (arith, n, longer)) (omega (arith, z));
        under = under_more a.top.window (widened a.top (length vs) size).window a.below.items i.under (le_refl _) (le_refl _);
        within = record { extra = w.extra; kept = le_refl _; end = omega (arith, n, f); marks_end = z };
        whole = refl;
        none = i.none;
      }

  pub list_open : AreOpen a.below.items a.top.kind a.top.window a.open_cells.items → AreOpen a.below.items a.top.kind (widened a.top (length vs) size).window a.open_cells.items
  list_open o = let k = i.whole in kept_open a.below.items a.top.kind a.top.window (widened a.top (length vs) size).window a.open_cells.items (omega (arith, m, k)) o

  pub top_listed : (s n : KeptStack) → shown a ≡ s → HasLuaTop s → n ≡ seen values a.pending.items a.below.items (widened a.top (length vs) size) a.open_cells.items
      → TopBecomes s n (λ f t. with_opened (length vs) (with_registers (write_all at (map f vs) t.own.registers) t))
  top_listed s n v h q =
      let k = i.whole in
      let x = i.within.extra in
      let z = i.within.end in
      let b : a.top.window.base + a.top.window.kept ≤ length a.values.items = omega (arith, k, z) in
      let marks = part a.top.window.marks a.top.window.marked a.pending.items in
      let base_same : take a.top.window.base values ≡ take a.top.window.base a.values.items =
      ap (take a.top.window.base) e ∙ take_put_all vs grown a.top.window.base to (omega (arith, p)) ∙ grown_front a.values.items grown a.top.window.base front (omega (arith, z)) in
      retop a s n values a.pending.items (widened a.top (length vs) size) _ v i h refl q
      (ap (take a.top.window.start) e ∙ take_put_all vs grown a.top.window.start to (omega (arith, p, x)) ∙ grown_front a.values.items grown a.top.window.start front (omega (arith, x, z))) refl
      (λ f w.
      ap (λ l. made f (record a.top.running { opened = length vs }) marks l (map f (part a.top.window.start (a.top.window.base - a.top.window.start) values)))
      (ap (map f) (whole values (widened a.top (length vs) size).window refl ∙ ap (part a.top.window.base size) (e ∙ ap (λ to. put_all to vs grown) p))
      ∙ list_written grown a.values.items vs a.top.window.base a.top.window.kept at size l (omega (arith, m, k)) whole_fits b (grown_front a.values.items grown (a.top.window.base + a.top.window.kept) front b) f
      ∙ ap (λ l. write_all at (map f vs) (map f l)) (sym (whole a.values.items a.top.window k)))
      ∙ ap (λ l. made f (record a.top.running { opened = length vs }) marks (write_all at (map f vs) (map f (registers_at a.values.items a.top.window))) (map f l))
      (part_kept a.top.window.start (a.top.window.base - a.top.window.start) a.top.window.base a.values.items values (omega (arith, x)) base_same))
