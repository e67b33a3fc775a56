-- Values of registers go to a table one by one: the row comes to the one that reads all of them first and stores them together, in any world.
use Rattle.std.proofs.Common.{◌≡◌, ℕ, zero, suc, ◌+◌, ◌<◌, ◌≤◌, List, [], ◌∷◌, ◌++◌, length, drop, Option, Some, None, refl, ap, ap₂, sym, ◌∙◌, Bool, true, false, arith}
use Rattle.std.proofs.lemmas.Bool.Decides.{nat_tests}
use Rattle.std.specs.Prelude.{ℤ, pos, cond, nat_le, nat_lt, slice_get, slice_set}
use Rattle.int_core.specs.Heap.{Heap, Table as Rows, filled, filled_table}
use Rattle.int_core.specs.Value.{Value, Shape, object, a_table, bind, nth, range}
use Rattle.machine_core.specs.World.{World, Place, place_of}
use Rattle.machine_core.specs.Text.{read, Own, read_register, read_registers, reads, tells, effect, fits, fill_table, Text, own, quick}
use Rattle.machine_core.specs.InstructionRows.{read_values, ends_list, fills_each, fills_from}
use Rattle.machine_core.specs.FrameRows.{expand}
use Rattle.machine_core.specs.Moves.{Made, made, move, on_own, outside, do_own, do_outside, with_own, cells_after, Ending, Outcome, trapped, run}
use Rattle.list_laws.proofs.Items.{append_nil, get_set_same}
use Rattle.list_laws.proofs.Tests.{lt_is, lt_true}
use Rattle.list_laws.proofs.Values.{drop_front}
use Rattle.lua_heap.specs.declared.world.World.{World as Memory}
use Rattle.lua_heap.specs.Plain.{plain}
use Rattle.machine_sound.proofs.Lists.{bind_at}
use Rattle.move_laws.specs.Memory.{IsSafe, Leads}
use Rattle.move_laws.proofs.Running.{own_read, set_same}
use Rattle.move_laws.proofs.Rows.{act_is}
use Rattle.machine_moves.proofs.Stacks.{at_most}
use Rattle.machine_calls.proofs.Given.{set_twice}
use Rattle.machine_rows.proofs.Going.{safe_as}
use Rattle.machine_objects.specs.Filling.{filling, puts}
use Rattle.machine_objects.proofs.Filled.{some_counted}

-- moves of a row on the own activation that change nothing

reads_so : (m : Own) (k : ℕ → Shape → Text) (env : List Value) (W : World) (at : Place) → place_of W ≡ Some at → fits m at.function.code at.top.own ≡ true
    → cells_after m at.stack.coroutine at.number at.top.own W.cells ≡ W.cells → effect m at.function.code env at.top.own ≡ at.top.own
    → run (expand (own m k)) env W ≡ run (expand (k (length env) (tells m at.function.code env at.top.own))) (env ++ reads m at.function.code env at.top.own) W
reads_so m k env W at e f c s =
    act_is (on_own m) (λ n t. expand (k n t)) env W W (reads m at.function.code env at.top.own) (tells m at.function.code env at.top.own) (own_read W at m env e f c s)

reads_not : (m : Own) (k : ℕ → Shape → Text) (env : List Value) (W : World) (at : Place) → place_of W ≡ Some at → fits m at.function.code at.top.own ≡ false → run (expand (own m k)) env W ≡ trapped
reads_not m k env W at e f =
    let none : move (on_own m) env W ≡ None =
    bind_at (do_own m env W) (place_of W) at e
    ∙ ap (λ b. cond b (made (with_own W at at.top.wait (m ∷ []) env) (reads m at.function.code env at.top.own) (tells m at.function.code env at.top.own)) None) f in
    ap (λ o. elim o as (λ _. Outcome) [ None ↦ trapped | Some d ↦ run (expand (k (length env) d.told)) (env ++ d.values) d.world ]) none

reads_nowhere : (m : Own) (k : ℕ → Shape → Text) (env : List Value) (W : World) → place_of W ≡ None → run (expand (own m k)) env W ≡ trapped
reads_nowhere m k env W e =
    let none : move (on_own m) env W ≡ None = ap (λ o. bind o (do_own m env W)) e in
    ap (λ o. elim o as (λ _. Outcome) [ None ↦ trapped | Some d ↦ run (expand (k (length env) d.told)) (env ++ d.values) d.world ]) none

beyond : (m n : ℕ) → nat_le m n ≡ false → n < m
beyond m n h = grind (arith, nat_tests)

-- values that go to the table whose number is id

abbrev with_heap : World → Heap → World
with_heap W H = record W { heap = H }

module _ (id : ℕ) (z : ℤ) where
  abbrev it : Value
  it = object a_table id

  -- a world in which that table has become another
  abbrev with_rows : World → Rows → World
  with_rows W t = record W { heap = record W.heap { tables = slice_set W.heap.tables id t } }

  abbrev more_rows : ℕ → List Value → Rows → Rows
  more_rows last vs t = record t { rows = filled last vs t.rows }

  abbrev filled_in : World → ℕ → List Value → Option Rows → Option (Made Bool)
  filled_in W last vs o = bind (bind o (λ t. Some (record W.heap { tables = slice_set W.heap.tables id (more_rows last vs t) }))) (λ H. made (with_heap W H) [] true)

  fill_is : (last slot : ℕ) (es vs : List Value) (W : World) (at : Place) (o : Option Rows) → place_of W ≡ Some at → slice_get W.heap.tables id ≡ o → drop slot (it ∷ es) ≡ vs
      → move (outside (fill_table (read 0) last slot)) (it ∷ es) W ≡ filled_in W last vs o
  fill_is last slot es vs W at o e there given =
      bind_at (do_outside (fill_table (read 0) last slot) (it ∷ es) W) (place_of W) at e
      ∙ ap (λ ws. bind (filled_table W.heap it last ws) (λ H. made (with_heap W H) [] true)) given
      ∙ ap (filled_in W last vs) there

  fills_so : (last slot : ℕ) (k : ℕ → Text) (es vs : List Value) (W : World) (at : Place) (t : Rows) → place_of W ≡ Some at → slice_get W.heap.tables id ≡ Some t → drop slot (it ∷ es) ≡ vs
      → run (expand (quick (fill_table (read 0) last slot) k)) (it ∷ es) W ≡ run (expand (k (suc (length es)))) (it ∷ es ++ []) (with_rows W (more_rows last vs t))
  fills_so last slot k es vs W at t e there given =
      act_is (outside (fill_table (read 0) last slot)) (λ n _. expand (k n)) (it ∷ es) W (with_rows W (more_rows last vs t)) [] true (fill_is last slot es vs W at (Some t) e there given)

  fills_not : (last slot : ℕ) (k : ℕ → Text) (es : List Value) (W : World) (at : Place) → place_of W ≡ Some at → slice_get W.heap.tables id ≡ None → run (expand (quick (fill_table (read 0) last slot) k)) (it ∷ es) W ≡ trapped
  fills_not last slot k es W at e there =
      ap (λ o. elim o as (λ _. Outcome) [ None ↦ trapped | Some d ↦ run (expand (k (suc (length es)))) (it ∷ es ++ d.values) d.world ])
      (fill_is last slot es (drop slot (it ∷ es)) W at None e there refl)

  -- one value more, where its register is there
  abbrev rest_of : (n r last : ℕ) → ℕ → Shape → Text
  rest_of n r last v s = quick (fill_table (read 0) last v) (λ _. fills_each n 0 (suc r) (suc last) z)

  one_read : (n r last : ℕ) (es : List Value) (W : World) (at : Place) → place_of W ≡ Some at → nat_lt r (length at.top.own.registers) ≡ true
      → run (expand (fills_each (suc n) 0 r last z)) (it ∷ es) W
      ≡ run (expand (quick (fill_table (read 0) last (suc (length es))) (λ _. fills_each n 0 (suc r) (suc last) z))) (it ∷ es ++ nth at.top.own.registers r ∷ []) W
  one_read n r last es W at e f = reads_so (read_register r) (rest_of n r last) (it ∷ es) W at e f refl refl

  one_not : (n r last : ℕ) (es : List Value) (W : World) (at : Place) → place_of W ≡ Some at → nat_lt r (length at.top.own.registers) ≡ false → run (expand (fills_each (suc n) 0 r last z)) (it ∷ es) W ≡ trapped
  one_not n r last es W at e f = reads_not (read_register r) (rest_of n r last) (it ∷ es) W at e f

  one_more : (n r last : ℕ) (es : List Value) (W : World) (at : Place) (t : Rows) → place_of W ≡ Some at → slice_get W.heap.tables id ≡ Some t → nat_lt r (length at.top.own.registers) ≡ true
      → run (expand (fills_each (suc n) 0 r last z)) (it ∷ es) W
      ≡ run (expand (fills_each n 0 (suc r) (suc last) z)) (it ∷ (es ++ nth at.top.own.registers r ∷ []) ++ []) (with_rows W (more_rows last (nth at.top.own.registers r ∷ []) t))
  one_more n r last es W at t e there f =
      let v = nth at.top.own.registers r in
      one_read n r last es W at e f
      ∙ fills_so last (suc (length es)) (λ _. fills_each n 0 (suc r) (suc last) z) (es ++ v ∷ []) (v ∷ []) W at t e there (drop_front es (v ∷ []))

  flat : (es vs : List Value) (v : Value) → ((es ++ v ∷ []) ++ []) ++ vs ≡ es ++ v ∷ vs
  flat [] vs v = refl
  flat (e ∷ es) vs v = ap (λ l. e ∷ l) (flat es vs v)

  abbrev ended : List Value → World → List Rows → Outcome
  ended env W ts = run (expand (ends_list z)) env (record W { heap = record W.heap { tables = ts } })

  -- all registers are there, and so is the table
  each_so : (n r last : ℕ) (es : List Value) (W : World) (at : Place) (t : Rows) → place_of W ≡ Some at → slice_get W.heap.tables id ≡ Some t → r + n ≤ length at.top.own.registers
      → run (expand (fills_each n 0 r last z)) (it ∷ es) W ≡ ended (it ∷ es ++ range r n at.top.own.registers) W (slice_set W.heap.tables id (more_rows last (range r n at.top.own.registers) t))
  each_so zero r last es W at t e there l =
      ap₂ (λ l ts. ended (it ∷ l) W ts) (sym (append_nil es)) (sym (set_same W.heap.tables id t there))
  each_so (suc n) r last es W at t e there l =
      let v = nth at.top.own.registers r in
      let u : Rows = more_rows last (v ∷ []) t in
      let more = range (suc r) n at.top.own.registers in
      one_more n r last es W at t e there (lt_true r (length at.top.own.registers) (omega (arith, l)))
      ∙ each_so n (suc r) (suc last) ((es ++ v ∷ []) ++ []) (with_rows W u) at u e (get_set_same W.heap.tables id t u there) (omega (arith, l))
      ∙ ap₂ (λ l ts. ended (it ∷ l) W ts) (flat es more v) (set_twice W.heap.tables id u (more_rows (suc last) more u))

  -- the table is not there
  each_none : (n r last : ℕ) (es : List Value) (W : World) (at : Place) → place_of W ≡ Some at → slice_get W.heap.tables id ≡ None → run (expand (fills_each (suc n) 0 r last z)) (it ∷ es) W ≡ trapped
  each_none n r last es W at e there = by (nat_lt r (length at.top.own.registers)) refl
    where
      by : (b : Bool) → nat_lt r (length at.top.own.registers) ≡ b → run (expand (fills_each (suc n) 0 r last z)) (it ∷ es) W ≡ trapped
      by false f = one_not n r last es W at e f
      by true f =
          one_read n r last es W at e f
          ∙ fills_not last (suc (length es)) (λ _. fills_each n 0 (suc r) (suc last) z) (es ++ nth at.top.own.registers r ∷ []) W at e there

  -- not all registers are there
  each_not : (n r last : ℕ) (es : List Value) (W : World) (at : Place) (t : Rows) → place_of W ≡ Some at → slice_get W.heap.tables id ≡ Some t → length at.top.own.registers < r + suc n
      → run (expand (fills_each (suc n) 0 r last z)) (it ∷ es) W ≡ trapped
  each_not zero r last es W at t e there l = by (nat_lt r (length at.top.own.registers)) refl
    where
      by : (b : Bool) → nat_lt r (length at.top.own.registers) ≡ b → run (expand (fills_each (suc zero) 0 r last z)) (it ∷ es) W ≡ trapped
      by false f = one_not zero r last es W at e f
      by true f = let low = lt_is r (length at.top.own.registers) f in absurd (omega (arith, l, low))
  each_not (suc n) r last es W at t e there l =
      by (nat_lt r (length at.top.own.registers)) refl
      (each_not n (suc r) (suc last) ((es ++ nth at.top.own.registers r ∷ []) ++ []) (with_rows W (more_rows last (nth at.top.own.registers r ∷ []) t)) at (more_rows last (nth at.top.own.registers r ∷ []) t)
      e (get_set_same W.heap.tables id t (more_rows last (nth at.top.own.registers r ∷ []) t) there) (omega (arith, l)))
    where
      by : (b : Bool) → nat_lt r (length at.top.own.registers) ≡ b
          → run (expand (fills_each (suc n) 0 (suc r) (suc last) z)) (it ∷ (es ++ nth at.top.own.registers r ∷ []) ++ []) (with_rows W (more_rows last (nth at.top.own.registers r ∷ []) t)) ≡ trapped
          → run (expand (fills_each (suc (suc n)) 0 r last z)) (it ∷ es) W ≡ trapped
      by true f rest = one_more (suc n) r last es W at t e there f ∙ rest
      by false f rest = one_not (suc n) r last es W at e f

  -- at once

  abbrev stored : ℕ → ℕ → Shape → Text
  stored last v s = puts last z v

  all_not : (n r last : ℕ) (W : World) (at : Place) → place_of W ≡ Some at → nat_le (r + suc n) (length at.top.own.registers) ≡ false → run (expand (own (read_registers r (suc n)) (stored last))) (it ∷ []) W ≡ trapped
  all_not n r last W at e f = reads_not (read_registers r (suc n)) (stored last) (it ∷ []) W at e f

  all_read : (n r last : ℕ) (W : World) (at : Place) → place_of W ≡ Some at → nat_le (r + suc n) (length at.top.own.registers) ≡ true
      → run (expand (own (read_registers r (suc n)) (stored last))) (it ∷ []) W ≡ run (expand (quick (fill_table (read 0) last 1) (λ _. ends_list z))) (it ∷ range r (suc n) at.top.own.registers) W
  all_read n r last W at e f = reads_so (read_registers r (suc n)) (stored last) (it ∷ []) W at e f refl refl

  all_none : (n r last : ℕ) (W : World) (at : Place) → place_of W ≡ Some at → nat_le (r + suc n) (length at.top.own.registers) ≡ true → slice_get W.heap.tables id ≡ None
      → run (expand (own (read_registers r (suc n)) (stored last))) (it ∷ []) W ≡ trapped
  all_none n r last W at e f there = all_read n r last W at e f ∙ fills_not last 1 (λ _. ends_list z) (range r (suc n) at.top.own.registers) W at e there

  all_so : (n r last : ℕ) (W : World) (at : Place) (t : Rows) → place_of W ≡ Some at → nat_le (r + suc n) (length at.top.own.registers) ≡ true → slice_get W.heap.tables id ≡ Some t
      → run (expand (own (read_registers r (suc n)) (stored last))) (it ∷ []) W ≡ ended (it ∷ range r (suc n) at.top.own.registers) W (slice_set W.heap.tables id (more_rows last (range r (suc n) at.top.own.registers) t))
  all_so n r last W at t e f there =
      let vs = range r (suc n) at.top.own.registers in
      all_read n r last W at e f
      ∙ fills_so last 1 (λ _. ends_list z) vs vs W at t e there refl
      ∙ ap (λ l. ended (it ∷ l) W (slice_set W.heap.tables id (more_rows last vs t))) (append_nil vs)

  both_there : (n r last : ℕ) (W : World) (at : Place) → place_of W ≡ Some at → (o : Option Rows) → slice_get W.heap.tables id ≡ o → (b : Bool) → nat_le (r + suc n) (length at.top.own.registers) ≡ b
      → run (expand (fills_each (suc n) 0 r last z)) (it ∷ []) W ≡ run (expand (own (read_registers r (suc n)) (stored last))) (it ∷ []) W
  both_there n r last W at e None there true f = each_none n r last [] W at e there ∙ sym (all_none n r last W at e f there)
  both_there n r last W at e None there false f = each_none n r last [] W at e there ∙ sym (all_not n r last W at e f)
  both_there n r last W at e (Some t) there true f =
      each_so (suc n) r last [] W at t e there (at_most (r + suc n) (length at.top.own.registers) f) ∙ sym (all_so n r last W at t e f there)
  both_there n r last W at e (Some t) there false f =
      each_not n r last [] W at t e there (beyond (r + suc n) (length at.top.own.registers) f) ∙ sym (all_not n r last W at e f)

  both_at : (n r last : ℕ) (W : World) (o : Option Place) → place_of W ≡ o → run (expand (fills_each (suc n) 0 r last z)) (it ∷ []) W ≡ run (expand (own (read_registers r (suc n)) (stored last))) (it ∷ []) W
  both_at n r last W None e = reads_nowhere (read_register r) (rest_of n r last) (it ∷ []) W e ∙ sym (reads_nowhere (read_registers r (suc n)) (stored last) (it ∷ []) W e)
  both_at n r last W (Some at) e = both_there n r last W at e (slice_get W.heap.tables id) refl (nat_le (r + suc n) (length at.top.own.registers)) refl

-- the row of so many registers, or of an open list, comes to the one that stores all values at once
one_by_one : (id count from last : ℕ) (z : ℤ) (W : World) → run (expand (fills_from count 0 from last z)) (object a_table id ∷ []) W ≡ run (expand (filling from count last z)) (object a_table id ∷ []) W
one_by_one id zero from last z W = refl
one_by_one id (suc n) from last z W =
    both_at id z n from last W (place_of W) refl ∙ sym (ap (λ k. run (expand (read_values from k (λ v _. puts last z v))) (object a_table id ∷ []) W) (some_counted (suc n) (λ e. absurd (cc))))

pub safe_at_once : (V : Memory) (id count from last ahead : ℕ) → IsSafe (expand (fills_from count 0 from last (pos ahead))) (object a_table id ∷ []) V → IsSafe (expand (filling from count last (pos ahead))) (object a_table id ∷ []) V
safe_at_once V id count from last ahead s = safe_as s (λ fuel. one_by_one id count from last (pos ahead) (plain V fuel))

pub leads_one_by_one : (V U : Memory) (id count from last ahead : ℕ) (ending : Ending) → Leads (expand (filling from count last (pos ahead))) (object a_table id ∷ []) V U ending
    → Leads (expand (fills_from count 0 from last (pos ahead))) (object a_table id ∷ []) V U ending
leads_one_by_one V U id count from last ahead ending l = record { is = λ fuel. one_by_one id count from last (pos ahead) (plain V fuel) ∙ l.is fuel }
