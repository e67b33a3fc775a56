-- The arguments beyond the parameters, written over registers as an open list.
use Rattle.std.proofs.Common.{◌≡◌, ℕ, ◌+◌, ◌-◌, ◌≤◌, List, [], ◌∷◌, ◌++◌, length, map, take, max, ap, sym, ◌∙◌, subst, arith}
use Rattle.std.proofs.lemmas.List.{length-map}
use Rattle.int_core.specs.Value.{Value, write_all}
use Rattle.table_core.specs.declared.value.Value.{Value as Kept}
use Rattle.machine_core.specs.World.{lua}
use Rattle.lua_stack.specs.declared.stack.Stack.TheInside.{Inside}
use Rattle.lua_stack.specs.Frames.{HasLuaTop, KeptStack, OnTop, TopBecomes, with_opened, with_registers}
use Rattle.lua_stack.specs.View.{AreOpen, IsStack, part, put_all, seen}
use Rattle.lua_stack.proofs.Ends.{shown, stands}
use Rattle.lua_stack.proofs.Parts.{grown_front, length_part, part_kept}
use Rattle.lua_stack.proofs.Tops.{on_top}
use Rattle.lua_stack.proofs.Listed.{list_open, list_stands, top_listed, widened}

-- a list that is the frame's own
by_own : (s u : KeptStack) (vs : List Kept) (at : ℕ) → TopBecomes s u (λ f t. with_opened (length vs) (with_registers (write_all at (map f vs) t.own.registers) t)) → OnTop s (λ f t. map f vs ≡ t.own.varargs)
    → TopBecomes s u (λ f t. with_opened (length t.own.varargs) (with_registers (write_all at t.own.varargs t.own.registers) t))
by_own s u vs at b o = record {
  top = λ f z below t e.
      b.top f z below t e
      ∙ ap (λ n. below ++ lua (with_opened n (with_registers (write_all at (map f vs) t.own.registers) t)) ∷ []) (sym (length-map vs f))
      ∙ ap (λ (xs : List Value). below ++ lua (with_opened (length xs) (with_registers (write_all at xs t.own.registers) t)) ∷ []) (o f below t e);
  cells = b.cells;
}

module _ (a : Inside) (i : stands a) (grown values : List Kept) (at to size count : ℕ) (front : take (length a.values.items) grown ≡ a.values.items) (longer : length a.values.items ≤ length grown) (l : at ≤ a.top.window.kept)
    (p : to ≡ a.top.window.base + at) (m : size ≡ max a.top.window.size (at + count)) (room : to + count ≤ length grown) (n : count ≡ a.top.window.base - a.top.window.start)
    (e : values ≡ put_all to (part a.top.window.start count grown) grown) where
  abbrev own : List Kept
  own = part a.top.window.start count grown

  count_is : length own ≡ count
  count_is = let x = i.within.extra in let z = i.within.end in length_part a.top.window.start count grown (omega (arith, n, x, z, longer))

  size_is : size ≡ max a.top.window.size (at + length own)
  size_is = m ∙ ap (λ k. max a.top.window.size (at + k)) (sym count_is)

  fits : to + length own ≤ length grown
  fits = let k = count_is in omega (arith, k, room)

  pub own_stands : IsStack values a.pending.items a.below.items (widened a.top count size)
  own_stands = subst (λ k. IsStack values a.pending.items a.below.items (widened a.top k size)) count_is (list_stands a i grown values own at to size front longer l p size_is fits e)

  pub own_open : AreOpen a.below.items a.top.kind a.top.window a.open_cells.items → AreOpen a.below.items a.top.kind (widened a.top count size).window a.open_cells.items
  own_open o = list_open a i grown values own at to size front longer l p size_is fits e o

  own_read : (s : KeptStack) → shown a ≡ s → OnTop s (λ f t. map f own ≡ t.own.varargs)
  own_read s v =
      let x = i.within.extra in
      let z = i.within.end in
      on_top a s (λ f t. map f own ≡ t.own.varargs) v i (λ f.
      ap (map f) (ap (λ k. part a.top.window.start k grown) n
      ∙ part_kept a.top.window.start (a.top.window.base - a.top.window.start) a.top.window.base a.values.items grown (omega (arith, x)) (grown_front a.values.items grown a.top.window.base front (omega (arith, z)))))

  pub top_own : (s u : KeptStack) → shown a ≡ s → HasLuaTop s → u ≡ seen values a.pending.items a.below.items (widened a.top count size) a.open_cells.items
      → TopBecomes s u (λ f t. with_opened (length t.own.varargs) (with_registers (write_all at t.own.varargs t.own.registers) t))
  top_own s u v h q =
      by_own s u own at
      (top_listed a i grown values own at to size front longer l p size_is fits e s u v h
      (q ∙ ap (λ k. seen values a.pending.items a.below.items (widened a.top k size) a.open_cells.items) (sym count_is)))
      (own_read s v)
