-- The rows of comparisons, tests, jumps and loops are safe in checked code.
use Rattle.std.proofs.Common.{ℕ, suc, ◌≡◌, ◌<◌, ◌≤◌, ◌+◌, List, [], ◌∷◌, ◌++◌, Option, Some, None, refl, sym, ap, ◌∙◌, length, Bool, true, false, arith}
use Rattle.std.specs.Prelude.{ℤ, pos, negsuc, ◌+ℤ◌, ◌-ℤ◌, slice_get, cond, IsTrue, codes}
use Rattle.int_core.specs.Value.{Value, known, object, nil, is_known, is_object, shape, holds, same_truth, same_integer, same_plain}
use Rattle.int_core.specs.Arithmetic.{add, sub}
use Rattle.int_core.specs.Operations.{Operation, operands, equal, less, less_equal}
use Rattle.code_core.specs.declared.opcode.Opcode.{Opcode}
use Rattle.code_core.specs.declared.opcode.Opcode.TheVariants.{Jmp, Eq, Lt, Le, EqK, EqI, LtI, LeI, GtI, GeI, Test, TestSet, ForLoop, ForPrep, TForPrep, TForLoop, Tbc, Close}
use Rattle.code_core.specs.declared.instruction.Instruction.{Instruction}
use Rattle.code_core.specs.Instruction.{a_of, b_of, k_of, bx_of, sj_of}
use Rattle.code_core.specs.Fields.{registers, anything, second_half, target, takes_list}
use Rattle.machine_core.specs.World.{for_truth, for_close}
use Rattle.machine_core.specs.Text.{Arg, read, written, constant, close_cells, take_pending, Text, go_by, arg, quick, pay, raise, mark_pending, write_register, is_there, close}
use Rattle.machine_core.specs.InstructionRows.{to_register, next, skip, tested, truth_decides, with_number, jumps, back, goes_round, prepares, starts, runs, rounds, integer_of_shape, marks, variable_name, closes, compares, writes_integer, with_loop, then}
use Rattle.machine_core.specs.FrameRows.{expand, raises}
use Rattle.machine_sound.specs.Sound.{Top, waits_at}
use Rattle.machine_sound.specs.Safe.{on_lua, ArgsOk, WaitsAs, Safe, HasPlace, list_of_option}
use Rattle.machine_sound.proofs.Places.{Here, place}
use Rattle.machine_sound.proofs.RowEnds.{IsPlain, reg, sized, con, on_next, ends_next, ends_write, IsSecond, ends_skip, on_land, moved_place, raise_safe, call_safe, operate_safe, may_wait}
use Rattle.machine_sound.proofs.OpcodesTables.{RowSafe}
use Rattle.machine_core.specs.Moves.{stop, spent}

jump_second : IsSecond Jmp
jump_second v = (refl, refl, refl)

-- a test goes on, or past the jump behind it
pub tested_safe : {t : Top} {w : Instruction} {op : Opcode} (env : List Value) → Here t w op → second_half op w ≡ Some Jmp → IsPlain op w → (truth k : Bool) → Safe (on_lua t) env (expand (tested truth k))
tested_safe {t = t} env h e p truth k = from (same_truth truth k)
  where
    from : (b : Bool) → Safe (on_lua t) env (expand (go_by (cond b (pos 1) (pos 2))))
    from true = ends_next env h p
    from false = ends_skip env h Jmp e jump_second p.3

pub decides_safe : {t : Top} {w : Instruction} {op : Opcode} (vs : List Value) → Here t w op → second_half op w ≡ Some Jmp → IsPlain op w → Safe (on_lua t) vs (expand (truth_decides w))
decides_safe {w = w} vs h e p = ((tt, tt), λ _. tested_safe (vs ++ []) h e p (holds (shape (arg vs (read 0)))) (k_of w))

compares_safe : {t : Top} {w : Instruction} {op : Opcode} (env : List Value) (operation : Operation) (x y : Arg) → Here t w op → second_half op w ≡ Some Jmp → IsPlain op w → IsTrue (waits_at {V = Arg} for_truth op w) → ArgsOk (x ∷ y ∷ []) × (2 ≡ operands operation) → Safe (on_lua t) env (expand (compares operation x y w))
compares_safe {t = t} {w = w} env operation x y h e p f a = operate_safe t env operation (x ∷ y ∷ []) for_truth (truth_decides w) a (may_wait for_truth h p.3 f refl refl tt) (λ vs. decides_safe vs h e p)

pub eq_safe : RowSafe Eq
eq_safe t w h = ((sized h refl 0 (a_of w) refl, tt), λ x. ((sized h refl 1 (b_of w) refl, tt), λ y. compares_safe (x ∷ y ∷ []) equal (read 0) (read 1) h refl (refl, refl, refl, refl) refl ((tt, (tt, tt)), refl)))

pub lt_safe : RowSafe Lt
lt_safe t w h = ((sized h refl 0 (a_of w) refl, tt), λ x. ((sized h refl 1 (b_of w) refl, tt), λ y. compares_safe (x ∷ y ∷ []) less (read 0) (read 1) h refl (refl, refl, refl, refl) refl ((tt, (tt, tt)), refl)))

pub le_safe : RowSafe Le
le_safe t w h = ((sized h refl 0 (a_of w) refl, tt), λ x. ((sized h refl 1 (b_of w) refl, tt), λ y. compares_safe (x ∷ y ∷ []) less_equal (read 0) (read 1) h refl (refl, refl, refl, refl) refl ((tt, (tt, tt)), refl)))

pub eq_k_safe : RowSafe EqK
eq_k_safe t w h = ((sized h refl 0 (a_of w) refl, tt), λ x. ((con h 0 (b_of w) anything refl, tt), λ c. compares_safe (x ∷ known (constant c.found) ∷ []) equal (read 0) (read 1) h refl (refl, refl, refl, refl) refl ((tt, (tt, tt)), refl)))

pub eq_i_safe : RowSafe EqI
eq_i_safe t w h = ((sized h refl 0 (a_of w) refl, tt), λ x. compares_safe (x ∷ []) equal (read 0) (with_number w) h refl (refl, refl, refl, refl) refl ((tt, (tt, tt)), refl))

pub lt_i_safe : RowSafe LtI
lt_i_safe t w h = ((sized h refl 0 (a_of w) refl, tt), λ x. compares_safe (x ∷ []) less (read 0) (with_number w) h refl (refl, refl, refl, refl) refl ((tt, (tt, tt)), refl))

pub le_i_safe : RowSafe LeI
le_i_safe t w h = ((sized h refl 0 (a_of w) refl, tt), λ x. compares_safe (x ∷ []) less_equal (read 0) (with_number w) h refl (refl, refl, refl, refl) refl ((tt, (tt, tt)), refl))

pub gt_i_safe : RowSafe GtI
gt_i_safe t w h = ((sized h refl 0 (a_of w) refl, tt), λ x. compares_safe (x ∷ []) less (with_number w) (read 0) h refl (refl, refl, refl, refl) refl ((tt, (tt, tt)), refl))

pub ge_i_safe : RowSafe GeI
ge_i_safe t w h = ((sized h refl 0 (a_of w) refl, tt), λ x. compares_safe (x ∷ []) less_equal (with_number w) (read 0) h refl (refl, refl, refl, refl) refl ((tt, (tt, tt)), refl))

pub test_safe : RowSafe Test
test_safe t w h = ((sized h refl 0 (a_of w) refl, tt), λ x. tested_safe (x ∷ []) h refl (refl, refl, refl, refl) (holds (shape x)) (k_of w))

pub test_set_safe : RowSafe TestSet
test_set_safe t w h = ((sized h refl 1 (b_of w) refl, tt), λ x. from x (same_truth (holds (shape x)) (k_of w)))
  where
    from : (x : Value) (b : Bool) → Safe (on_lua t) (x ∷ []) (expand (cond b (to_register (a_of w) (read 0)) skip))
    from x true = ends_write (x ∷ []) (a_of w) (read 0) h (refl, refl, refl, refl) (reg h 0 (a_of w) refl) tt
    from x false = ends_skip (x ∷ []) h Jmp refl jump_second refl

-- jumps

lands_safe : {t : Top} {w : Instruction} {op : Opcode} (env : List Value) (d z : ℤ) → Here t w op → takes_list op w ≡ false → target t.pc op w ≡ Some z → pos t.pc +ℤ d ≡ z → Safe (on_lua t) env (expand (go_by d))
lands_safe {t = t} env d z h n e q = on_land t env d z h e q refl refl h.runs (h.plain n) (let c = h.cells in omega arith)

forward : (pc n : ℕ) → pos pc +ℤ pos (n + 1) ≡ pos (pc + 1) +ℤ pos n
forward pc n = grind arith

backward : (pc n : ℕ) → pos pc +ℤ (negsuc n +ℤ pos 1) ≡ pos (pc + 1) +ℤ negsuc n
backward pc n = grind arith

round_back : (pc n : ℕ) → pos pc +ℤ (pos 1 -ℤ pos n) ≡ pos (pc + 1) -ℤ pos n
round_back pc n = grind arith

pub jmp_safe : RowSafe Jmp
jmp_safe t w h = from (sj_of w) refl
  where
    from : (z : ℤ) → sj_of w ≡ z → Safe (on_lua t) [] (expand (jumps z))
    from (pos n) e = lands_safe [] (pos (n + 1)) (pos (t.pc + 1) +ℤ sj_of w) h refl refl (forward t.pc n ∙ ap (λ z. pos (t.pc + 1) +ℤ z) (sym e))
    from (negsuc n) e = (tt, λ b. paid b)
      where
        paid : (b : Bool) → Safe (on_lua t) [] (cond b (expand (go_by (negsuc n +ℤ pos 1))) (stop spent))
        paid true = lands_safe [] (negsuc n +ℤ pos 1) (pos (t.pc + 1) +ℤ sj_of w) h refl refl (backward t.pc n ∙ ap (λ z. pos (t.pc + 1) +ℤ z) (sym e))
        paid false = tt

-- loops

up_to : (a i n : ℕ) → a + 3 < n → i ≤ 3 → a + i < n
up_to a i n l k = omega arith

loop_register : {t : Top} {w : Instruction} {op : Opcode} → Here t w op → takes_list op w ≡ false → slice_get (registers op w) 0 ≡ Some (a_of w + 3) → (i : ℕ) → i ≤ 3 → a_of w + i < t.size
loop_register {t = t} {w = w} h n e i l = up_to (a_of w) i t.size (sized h n 0 (a_of w + 3) e) l

first_of : (a n : ℕ) → a + 0 < n → a < n
first_of a n l = omega arith

-- what is done with the three values of a loop
with_loop_safe : {t : Top} {w : Instruction} {op : Opcode} → Here t w op → takes_list op w ≡ false → slice_get (registers op w) 0 ≡ Some (a_of w + 3) → (k : Option ℤ → Option ℤ → Option ℤ → Text)
    → ((x y z : Value) → Safe (on_lua t) (x ∷ y ∷ z ∷ []) (expand (k (integer_of_shape (shape x)) (integer_of_shape (shape y)) (integer_of_shape (shape z))))) → Safe (on_lua t) [] (expand (with_loop (a_of w) k))
with_loop_safe {t = t} {w = w} h n e k s = (
  (first_of (a_of w) t.size (loop_register h n e 0 (omega arith)), tt),
  λ x. (
    (loop_register h n e 1 (omega arith), tt),
    λ y. (
      (loop_register h n e 2 (omega arith), tt),
      λ z. s x y z,
    ),
  ),
)

-- a unit of the budget, if there is one left
paid_safe : (t : Top) (env : List Value) (x : Text) → Safe (on_lua t) env (expand x) → (b : Bool) → Safe (on_lua t) env (cond b (expand x) (stop spent))
paid_safe t env x s true = s
paid_safe t env x s false = tt

round_safe : {t : Top} {w : Instruction} (env : List Value) → Here t w ForLoop → (i c s : Option ℤ) → Safe (on_lua t) env (expand (goes_round (a_of w) (bx_of w) i c s))
round_safe {t = t} {w = w} env h (Some i) (Some c) (Some s) = from (same_integer c (pos 0))
  where
    on : Safe (on_lua t) (env ++ []) (expand (writes_integer (a_of w + 1) (sub c (pos 1)) (writes_integer (a_of w) (add i s) (writes_integer (a_of w + 3) (add i s) (back (bx_of w))))))
    on = (
      ((loop_register h refl refl 1 (omega arith), tt), h.runs),
      λ _. (
        ((first_of (a_of w) t.size (loop_register h refl refl 0 (omega arith)), tt), h.runs),
        λ _. (
          ((loop_register h refl refl 3 (omega arith), tt), h.runs),
          λ _.
              lands_safe env (pos 1 -ℤ pos (bx_of w)) (pos (t.pc + 1) -ℤ pos (bx_of w)) h refl refl (round_back t.pc (bx_of w)),
        ),
      ),
    )

    from : (b : Bool) → Safe (on_lua t) env (expand (cond b next (quick pay (λ _. writes_integer (a_of w + 1) (sub c (pos 1)) (writes_integer (a_of w) (add i s) (writes_integer (a_of w + 3) (add i s) (back (bx_of w))))))))
    from true = ends_next env h (refl, refl, refl, refl)
    from false = (tt, λ b. paid_safe t (env ++ []) (writes_integer (a_of w + 1) (sub c (pos 1)) (writes_integer (a_of w) (add i s) (writes_integer (a_of w + 3) (add i s) (back (bx_of w))))) on b)
round_safe {t = t} env h None c s = raise_safe t env [] (place h)
round_safe {t = t} env h (Some i) None s = raise_safe t env [] (place h)
round_safe {t = t} env h (Some i) (Some c) None = raise_safe t env [] (place h)

pub for_loop_safe : RowSafe ForLoop
for_loop_safe t w h = with_loop_safe h refl refl (goes_round (a_of w) (bx_of w)) (λ x y z. round_safe (x ∷ y ∷ z ∷ []) h (integer_of_shape (shape x)) (integer_of_shape (shape y)) (integer_of_shape (shape z)))

ahead : (pc n : ℕ) → pos pc +ℤ pos (n + 2) ≡ pos (pc + 2 + n)
ahead pc n = grind arith

starts_safe : {t : Top} {w : Instruction} (env : List Value) → Here t w ForPrep → (i l s : ℤ) → Safe (on_lua t) env (expand (starts (a_of w) (bx_of w) i l s))
starts_safe {t = t} {w = w} env h i l s = from (same_integer s (pos 0)) (runs i l s)
  where
    from : (a b : Bool) → Safe (on_lua t) env (expand (cond a (raise (codes "'for' step is zero"))
        (cond b (writes_integer (a_of w + 1) (rounds i l s) (writes_integer (a_of w + 3) i next)) (go_by (pos (bx_of w + 2))))))
    from true b = raise_safe t env [] (place h)
    from false true = (((loop_register h refl refl 1 (omega arith), tt), h.runs), λ _. (((loop_register h refl refl 3 (omega arith), tt), h.runs), λ _. ends_next env h (refl, refl, refl, refl)))
    from false false = lands_safe env (pos (bx_of w + 2)) (pos (t.pc + 2 + bx_of w)) h refl refl (ahead t.pc (bx_of w))

prepares_safe : {t : Top} {w : Instruction} (env : List Value) → Here t w ForPrep → (i l s : Option ℤ) → Safe (on_lua t) env (expand (prepares (a_of w) (bx_of w) i l s))
prepares_safe {t = t} env h i None s = raise_safe t env [] (place h)
prepares_safe {t = t} env h i (Some l) None = raise_safe t env [] (place h)
prepares_safe {t = t} env h None (Some l) (Some s) = raise_safe t env [] (place h)
prepares_safe env h (Some i) (Some l) (Some s) = starts_safe env h i l s

pub for_prep_safe : RowSafe ForPrep
for_prep_safe t w h = with_loop_safe h refl refl (prepares (a_of w) (bx_of w)) (λ x y z. prepares_safe (x ∷ y ∷ z ∷ []) h (integer_of_shape (shape x)) (integer_of_shape (shape y)) (integer_of_shape (shape z)))

-- variables to be closed

closable_safe : (t : Top) (env : List Value) (text : List ℕ) (x : Text) → HasPlace t → Safe (on_lua t) (env ++ []) (expand x) → (b : Bool) → Safe (on_lua t) (env ++ []) (cond b (expand x) (raises text))
closable_safe t env text x p s true = s
closable_safe t env text x p s false = raise_safe t (env ++ []) text p

marks_safe : {t : Top} {w : Instruction} {op : Opcode} (r : ℕ) (x : Text) → Here t w op → r < t.size → r < t.code.own.stack → ((u : Top) (env : List Value) → u.code ≡ t.code → u.pc ≡ t.pc → IsTrue u.runs → u.size ≡ t.size → u.opened ≡ t.opened → u.cells ≡ t.cells → Safe (on_lua u) env (expand x)) → Safe (on_lua t) [] (expand (marks t.code t.pc r x))
marks_safe {t = t} r x h l b s = ((l, tt), λ v. from v (holds (shape v)))
  where
    from : (v : Value) (q : Bool) → Safe (on_lua t) (v ∷ []) (expand (cond q (Rattle.machine_core.specs.Text.closable (read 0) (variable_name t.code t.pc r) (then (mark_pending r) x)) x))
    from v true = (tt, λ yes. closable_safe t (v ∷ []) (codes "variable '" ++ variable_name t.code t.pc r ++ codes "' got a non-closable value") (then (mark_pending r) x) (place h) (((l, b), h.runs), λ _. s (record t { pending = t.code.own.stack }) (v ∷ []) refl refl h.runs refl refl refl) yes)
    from v false = s t (v ∷ []) refl refl h.runs refl refl refl

pub tbc_safe : RowSafe Tbc
tbc_safe t w h = marks_safe (a_of w) next h (sized h refl 0 (a_of w) refl) (reg h 0 (a_of w) refl)
    (λ u env c p r s o k. on_next u env h (refl, refl, refl, refl) c p r (s ∙ (h.plain refl).0, o ∙ (h.plain refl).1) (let e = h.cells in omega arith))

ahead_one : (pc n : ℕ) → pos pc +ℤ pos (n + 1) ≡ pos (pc + 1 + n)
ahead_one pc n = grind arith

pub t_for_prep_safe : RowSafe TForPrep
t_for_prep_safe t w h = marks_safe (a_of w + 3) (go_by (pos (bx_of w + 1))) h (sized h refl 0 (a_of w + 3) refl) (reg h 0 (a_of w + 3) refl)
    (λ u env c p r s o k. on_land u env (pos (bx_of w + 1)) (pos (t.pc + 1 + bx_of w)) h refl (ahead_one t.pc (bx_of w)) c p r (s ∙ (h.plain refl).0, o ∙ (h.plain refl).1) (let e = h.cells in omega arith))

pub t_for_loop_safe : RowSafe TForLoop
t_for_loop_safe t w h = ((sized h refl 0 (a_of w + 4) refl, tt), λ v. from v)
  where
    lower : (a n : ℕ) → a + 4 < n → a + 2 < n
    lower a n l = omega arith

    on : (v : Value) → Safe (on_lua t) (v ∷ []) (expand (then (write_register (a_of w + 2) (read 0)) (back (bx_of w))))
    on v = (((lower (a_of w) t.size (sized h refl 0 (a_of w + 4) refl), tt), h.runs), λ _. lands_safe (v ∷ []) (pos 1 -ℤ pos (bx_of w)) (pos (t.pc + 1) -ℤ pos (bx_of w)) h refl refl (round_back t.pc (bx_of w)))

    goes : (v : Value) → Safe (on_lua t) (v ∷ []) (expand (quick pay (λ _. then (write_register (a_of w + 2) (read 0)) (back (bx_of w)))))
    goes v = (tt, λ b. paid_safe t (v ∷ []) (then (write_register (a_of w + 2) (read 0)) (back (bx_of w))) (on v) b)

    pick : (v : Value) (b : Bool) → Safe (on_lua t) (v ∷ []) (expand (cond b next (quick pay (λ _. then (write_register (a_of w + 2) (read 0)) (back (bx_of w))))))
    pick v true = ends_next (v ∷ []) h (refl, refl, refl, refl)
    pick v false = goes v

    from : (v : Value) → Safe (on_lua t) (v ∷ []) (expand (elim (shape v) as (λ _. Text) [
      | is_known k ↦ cond (same_plain k nil) next (quick pay (λ _. then (write_register (a_of w + 2) (read 0)) (back (bx_of w))))
      | is_object kind ↦ quick pay (λ _. then (write_register (a_of w + 2) (read 0)) (back (bx_of w)))
    ]))
    from (known k) = pick (known k) (same_plain k nil)
    from (object kind m) = goes (object kind m)

-- closing

pub closes_safe : {t : Top} {w : Instruction} (env : List Value) → Here t w Close → Safe (on_lua t) env (expand (closes (a_of w)))
closes_safe {t = t} {w = w} env h = ((tt, tt), λ o. from o)
  where
    wait : WaitsAs for_close (record t { cells = a_of w; captured = [] })
    wait = record { place = moved_place (record t { cells = a_of w; captured = [] }) (place h) refl refl; fits = refl; size = (h.plain refl).0; kept = (let e = h.pending in omega arith); opened = (h.plain refl).1; error = tt }

    from : (o : Option Value) → Safe (on_lua t) (env ++ list_of_option o) (expand (cond (is_there o) (close (read (length env)) (written nil) for_close (close_cells (a_of w) ∷ take_pending (a_of w) ∷ [])) (then (close_cells (a_of w)) next)))
    from None = ((tt, h.runs), λ _. on_next (record t { cells = a_of w; captured = [] }) env h (refl, refl, refl, refl) refl refl h.runs (h.plain refl) (let l = reg h 0 (a_of w) refl in least (a_of w) t.code.own.stack l))
      where
        least : (a n : ℕ) → a < n → a ≤ n
        least a n l = omega arith
    from (Some v) = ((tt, tt), λ f. call_safe t ((env ++ v ∷ []) ++ f ∷ arg (env ++ v ∷ []) (read (length env)) ∷ known nil ∷ []) (read (length (env ++ v ∷ []))) (suc (length (env ++ v ∷ []))) for_close (close_cells (a_of w) ∷ take_pending (a_of w) ∷ []) (record { callee = tt; prepares = (tt, (tt, tt)); waits = wait }))

pub close_safe : RowSafe Close
close_safe t w h = closes_safe [] h
