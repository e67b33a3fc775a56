-- A row that falls makes the measure smaller, or ends the turn.
use Rattle.std.proofs.Common.{ℕ, ◌+◌, ◌<◌, ◌≤◌, ◌≡◌, ◌⊎◌, inl, inr, ⊎_elim, List, ◌++◌, Option, Some, None, refl, subst, ap, length, arith, Bool, true, false, drop}
use Rattle.std.specs.Prelude.{IsTrue, nat_le, ℤ}
use Rattle.int_core.specs.Value.{Value}
use Rattle.machine_core.specs.World.{World}
use Rattle.machine_core.specs.Text.{read_upvalue, write_upvalue, make_table, make_function, fill_table, pay}
use Rattle.machine_core.specs.Moves.{Move, on_own, move_pc, open_register, outside, settle, enter, enter_tail, await, find_close, is_closable, begin_leaving, leave_frame, take_moving, look, give, give_with, blame, place_text, push_frame, call_value, see_top, see_catcher, pop_frame, take_closing, set_error, end_coroutine, fail_coroutine, suspend, resume, begin_closing, consult, create, see_status, see_running, print, Made, Told, TopShape, lua_top, no_top, top_now, Ending, go, returned, asks, calls_primitive, raised, unwinding, spent, main_yielded, main_returned, main_failed, Row, traps, stop, only, act, Outcome, trapped, ends, move, run}
use Rattle.machine_runs.specs.Runs.{is_end}
use Rattle.machine_sound.proofs.Values.{le_of}
use Rattle.machine_ends.specs.Measure.{Within, wait_weight, asks_weight, world_weight, measure}
use Rattle.machine_ends.specs.Falls.{Phase, on_lua, anywhere, tail_refused, ended, After, not_made, not_told, stands, if_lua, IsForward, lua_needs, lua_next, other_needs, other_next, Needs, next, EndsLow, Falls}
use Rattle.machine_ends.proofs.Held.{spare, HeldLua, HeldOther, Held, Holds, HoldsAfter, Known}
use Rattle.machine_ends.proofs.OwnMoves.{own_move, pc_move}
use Rattle.machine_ends.proofs.Outside.{open_move, upvalue_move, write_move, table_move, fill_move, function_move, settle_move, find_move, closable_move, taken_move}
use Rattle.machine_ends.proofs.Calls.{pay_move, enter_move, tail_move, await_move, begin_move, leave_move}
use Rattle.machine_ends.proofs.Others.{taken, looked_at, given, given_with, blamed_so, placed_so, found_close, seen_status, seen_running, printed_so, consult_so, seen_catcher, seen_top, popped_frame, pushed_so, called_value, taken_closing, error_set, begins, leaves, owns}
use Rattle.machine_ends.proofs.Coroutines.{ended as ended_so, failed_so, suspended_so, created, resumed_so, begun_so}

module _ (most bound : ℕ) where
  forward_if : (rich : Bool) (c : ℕ) (seen : Option ℕ) (runs : Bool) (z : ℤ) → lua_needs rich c seen runs (move_pc z) → rich ≡ false → IsForward z
  forward_if true c seen runs z n e = absurd (cc)
  forward_if false c seen runs z n e = n

  lua_moves : (m : Move) (rich : Bool) (c : ℕ) (seen : Option ℕ) (runs : Bool) (env : List Value) (W : World) → Within most W → HeldLua most bound rich c seen runs W → lua_needs rich c seen runs m → (d : Made (Told m)) → move m env W ≡ Some d
      → HoldsAfter most bound (lua_next rich c seen runs m d.told) d.world
  lua_moves (on_own m) rich c seen runs env W w h n d e = own_move most bound rich c seen runs env W w h m n d e
  lua_moves (move_pc z) rich c seen runs env W w h n d e = pc_move most bound c seen runs env W w rich h z (forward_if rich c seen runs z n) d e
  lua_moves (open_register r) rich c seen runs env W w h n d e = open_move most bound rich c runs seen env W w h r d e
  lua_moves (outside (read_upvalue u)) rich c seen runs env W w h n d e = upvalue_move most bound rich c runs seen env W w h u d e
  lua_moves (outside (write_upvalue u x)) rich c seen runs env W w h n d e = write_move most bound rich c runs seen env W w h u x d e
  lua_moves (outside make_table) rich c seen runs env W w h n d e = table_move most bound rich c runs seen env W w h d e
  lua_moves (outside (make_function u)) rich c seen runs env W w h n d e = function_move most bound rich c runs seen env W w h u d e
  lua_moves (outside (fill_table t end slot)) rich c seen runs env W w h n d e = fill_move most bound rich c runs seen env W w h t end slot d e
  lua_moves (outside pay) rich c seen runs env W w h n d e = pay_move most bound rich c seen runs env W w h d e
  lua_moves (settle op xs) rich c seen runs env W w h n d e = settle_move most bound rich c runs seen env W w h op xs d e
  lua_moves (enter f slot wait prepared) rich c seen runs env W w h n d e = enter_move most bound rich c seen runs env W w h f slot wait prepared n.0 n.1 d e
  lua_moves (enter_tail f slot) rich c seen runs env W w h n d e = tail_move most bound rich c seen runs env W w h f slot n d e
  lua_moves (await f slot wait prepared) rich c seen runs env W w h n d e = await_move most bound rich c seen runs env W w h f slot wait prepared n.0 n.1 d e
  lua_moves (find_close v x) rich c seen runs env W w h n d e = find_move most bound rich c runs seen env W w h v x d e
  lua_moves (is_closable v) rich c seen runs env W w h n d e = closable_move most bound rich c runs seen env W w h v d e
  lua_moves (begin_leaving text) rich c seen runs env W w h n d e = begin_move most bound rich c seen runs env W w h text d e
  lua_moves (leave_frame given) rich c seen runs env W w h n d e = leave_move most bound rich c seen runs env W w h given d e
  lua_moves take_moving rich c seen runs env W w h n d e = taken_move most bound rich c runs seen env W w h d e
  lua_moves _ rich c seen runs env W w h n d e = tt

  if_holds : (top : Option TopShape) (x : After) (W : World) → HoldsAfter most bound x W → HoldsAfter most bound (if_lua top x) W
  if_holds (Some lua_top) x W h = h
  if_holds (Some (no_top b)) x W h = tt
  if_holds _ x W h = tt

  other_moves : (m : Move) (rich : Bool) (c : ℕ) (top : Option TopShape) (env : List Value) (W : World) → Within most W → HeldOther most bound rich c top W → other_needs rich c top m → (d : Made (Told m)) → move m env W ≡ Some d
      → HoldsAfter most bound (other_next rich c top m d.told) d.world
  other_moves (on_own m) rich c top env W w h n d e = if_holds top _ d.world (owns most bound rich c top env W w h m n d e)
  other_moves (leave_frame given) rich c top env W w h n d e = if_holds top _ d.world (leaves most bound rich c top env W w h given d e)
  other_moves take_moving rich c top env W w h n d e = taken most bound rich c top env W w h d e
  other_moves (look x) rich c top env W w h n d e = looked_at most bound rich c top env W w h x d e
  other_moves (give xs) rich c top env W w h n d e = given most bound rich c top env W w h xs d e
  other_moves (give_with xs slot) rich c top env W w h n d e = given_with most bound rich c top env W w h xs slot d e
  other_moves (blame text) rich c top env W w h n d e = blamed_so most bound rich c top env W w h text d e
  other_moves (place_text x level) rich c top env W w h n d e = placed_so most bound rich c top env W w h x level d e
  other_moves (find_close v x) rich c top env W w h n d e = found_close most bound rich c top env W w h v x d e
  other_moves (see_status x) rich c top env W w h n d e = seen_status most bound rich c top env W w h x d e
  other_moves see_running rich c top env W w h n d e = seen_running most bound rich c top env W w h d e
  other_moves (print x) rich c top env W w h n d e = printed_so most bound rich c top env W w h x d e
  other_moves (consult l slot) rich c top env W w h n d e = consult_so most bound rich c top env W w h l slot d e
  other_moves (push_frame over) rich c top env W w h n d e = pushed_so most bound rich c top env W w h over n d e
  other_moves (call_value f slot) rich c top env W w h n d e = called_value most bound rich c top env W w h f slot d e
  other_moves see_top rich c top env W w h n d e = seen_top most bound rich c top env W w h d e
  other_moves see_catcher rich c top env W w h n d e = seen_catcher most bound rich c top env W w h d e
  other_moves pop_frame rich c top env W w h n d e = popped_frame most bound rich c top env W w h n d e
  other_moves take_closing rich c top env W w h n d e = taken_closing most bound rich c top env W w h n d e
  other_moves (set_error x) rich c top env W w h n d e = error_set most bound rich c top env W w h n x d e
  other_moves end_coroutine rich c top env W w h n d e = ended_so most bound rich c env W w h.low d e
  other_moves (fail_coroutine x) rich c top env W w h n d e = failed_so most bound rich c env W w h.low x d e
  other_moves suspend rich c top env W w h n d e = suspended_so most bound rich c env W w h.low d e
  other_moves (resume x slot) rich c top env W w h n d e = resumed_so most bound rich c env W w h.low n.0 n.1 x slot d e
  other_moves (begin_closing x) rich c top env W w h n d e = begun_so most bound rich c env W w h.low n x d e
  other_moves (create x) rich c top env W w h n d e = created most bound rich c env W w h.low x n d e
  other_moves (begin_leaving text) rich c top env W w h n d e = begins most bound rich c top env W w h text d e
  other_moves _ rich c top env W w h n d e = tt

  tail_moves : (m : Move) (c : ℕ) (env : List Value) (W : World) → Within most W → Held most bound (tail_refused c) W → IsTrue (nat_le c 100) → (d : Made (Told m)) → move m env W ≡ Some d → HoldsAfter most bound (next (tail_refused c) m d.told) d.world
  tail_moves (begin_leaving text) c env W w h n d e = ⊎_elim
      (λ (k : HeldLua most bound false c None true W). begin_move most bound false c None true env W w k text d e)
      (λ (k : HeldOther most bound false 100 None W).
      let x = begins most bound false 100 None env W w k text d e in
      record { within = x.within; held = record { low = (let l = x.held.low in let m = le_of c 100 n in omega arith); known = x.held.known } }) h
  tail_moves _ c env W w h n d e = tt

  moves_hold : (m : Move) (x : Phase) (env : List Value) (W : World) → Holds most bound x W → Needs x m → (d : Made (Told m)) → move m env W ≡ Some d → HoldsAfter most bound (next x m d.told) d.world
  moves_hold m (on_lua rich c seen runs) env W h n d e = lua_moves m rich c seen runs env W h.within h.held n d e
  moves_hold m (anywhere rich c top) env W h n d e = other_moves m rich c top env W h.within h.held n d e
  moves_hold m (tail_refused c) env W h n d e = tail_moves m c env W h.within h.held n d e
  moves_hold m ended env W h n d e = tt

  -- how a row ends

  abbrev pub Fell : Ending → World → Type 0
  Fell e V = (is_end e ≡ true) ⊎ (Within most V × measure most e V < bound)

  plain : (rich : Bool) (c : ℕ) (W : World) → world_weight most W + spare most rich c ≤ bound → world_weight most W + c ≤ bound
  plain true c W l = omega arith
  plain false c W l = omega arith

  asks_most : (o : Option TopShape) → asks_weight o ≤ 8
  asks_most (Some (no_top b)) = omega arith
  asks_most _ = omega arith

  asks_known : (top : Option TopShape) (W : World) → Known top W → asks_weight (top_now W) ≤ asks_weight top
  asks_known None W k = asks_most (top_now W)
  asks_known (Some t) W k = let j = ap asks_weight k in omega arith

  lua_low : (rich : Bool) (c : ℕ) (seen : Option ℕ) (W : World) → HeldLua most bound rich c seen true W → 30 < c → world_weight most W < bound
  lua_low rich c seen W h l = let k = by rich h.low in let w = ap wait_weight h.wait in omega arith
    where
      by : (b : Bool) → world_weight most W + spare most b c ≤ bound + wait_weight h.top.wait → world_weight most W + c ≤ bound + wait_weight h.top.wait
      by true l = omega arith
      by false l = omega arith

  ends_low : (e : Ending) (x : Phase) (W : World) → Holds most bound x W → EndsLow e x → Fell e W
  ends_low spent x W h l = inl refl
  ends_low main_yielded x W h l = inl refl
  ends_low main_returned x W h l = inl refl
  ends_low main_failed x W h l = inl refl
  ends_low go (on_lua rich c seen true) W h l = inr (h.within, let k = lua_low rich c seen W h.held l in omega arith)
  ends_low go (anywhere rich c top) W h l = inr (h.within, let k = plain rich c W h.held.low in omega arith)
  ends_low returned (anywhere rich c top) W h l = inr (h.within, let k = plain rich c W h.held.low in omega arith)
  ends_low unwinding (anywhere rich c top) W h l = inr (h.within, let k = plain rich c W h.held.low in omega arith)
  ends_low raised (anywhere rich c top) W h l = inr (h.within, let k = plain rich c W h.held.low in omega arith)
  ends_low asks (anywhere rich c top) W h l = inr (h.within, let k = plain rich c W h.held.low in let j = asks_known top W h.held.known in omega arith)
  ends_low (calls_primitive n) (anywhere true c top) W h l = inr (h.within, let k = h.held.low in omega arith)
  ends_low _ x W h l = absurd l

  abbrev GoesOn : After → Row → Type 0
  GoesOn a r = elim a [ not_made ↦ ⊥ | not_told ↦ Unit {0} | stands y ↦ Falls y r ]

  goes_on : (a : After) (V : World) (r : Row) (e : Ending) (X : World) → HoldsAfter most bound a V → GoesOn a r → ((y : Phase) → Holds most bound y V → Falls y r → Fell e X) → Fell e X
  goes_on not_made V r e X h f k = absurd f
  goes_on not_told V r e X h f k = absurd h
  goes_on (stands y) V r e X h f k = k y h f

  pub run_falls : (r : Row) (x : Phase) (env : List Value) (W : World) → Holds most bound x W → Falls x r → (e : Ending) (V : World) → run r env W ≡ ends e V → Fell e V
  run_falls traps x env W h f e V q = absurd (cc)
  run_falls (stop d) x env W h f e V q = subst (λ (o : Outcome). FellOut o) q (ends_low d x W h f)
    where
      FellOut : Outcome → Type 0
      FellOut trapped = Unit {0}
      FellOut (ends e V) = Fell e V
  run_falls (only slot r) x env W h f e V q = run_falls r x (drop slot env) W h f e V q
  run_falls (act m k) x env W h f e V q = from (move m env W) refl (λ (n : ℕ) (t : Told m) y env U. run_falls (k n t) y env U) q
    where
      from : (o : Option (Made (Told m))) → move m env W ≡ o → ((n : ℕ) (t : Told m) (y : Phase) (env : List Value) (U : World) → Holds most bound y U → Falls y (k n t) → (e : Ending) (V : World) → run (k n t) env U ≡ ends e V → Fell e V)
          → elim o as (λ _. Outcome) [ None ↦ trapped | Some d ↦ run (k (length env) d.told) (env ++ d.values) d.world ] ≡ ends e V → Fell e V
      from None i g q = absurd (cc)
      from (Some d) i g q =
          goes_on (next x m d.told) d.world (k (length env) d.told) e V (moves_hold m x env W h f.0 d i) (f.1 (length env) d.told) (λ y j l. g (length env) d.told y (env ++ d.values) d.world j l e V q)
