-- The rows of SETLIST, CLOSURE and VARARG are safe in checked code.
use Rattle.std.proofs.Common.{ℕ, zero, suc, ◌≡◌, ◌<◌, ◌≤◌, ◌+◌, ◌-◌, ◌*◌, List, [], ◌∷◌, ◌++◌, Option, Some, None, refl, subst, sym, ap, ◌∙◌, length, Bool, true, false, arith}
use Rattle.std.specs.Prelude.{ℤ, pos, slice_get, cond, max, nat_lt, IsTrue, if◌then◌else◌, drop}
use Rattle.std.specs.List.{list_all}
use Rattle.int_core.specs.Value.{Value, known, object, a_table, a_function, a_coroutine, shape}
use Rattle.code_core.specs.declared.opcode.Opcode.{Opcode}
use Rattle.code_core.specs.declared.opcode.Opcode.TheVariants.{SetList, Closure, VarArg, VarArgPrep, ExtraArg}
use Rattle.code_core.specs.declared.instruction.Instruction.{Instruction}
use Rattle.code_core.specs.declared.proto.UpDesc.{UpDesc}
use Rattle.code_core.specs.Instruction.{a_of, b_of, c_of, k_of, bx_of, ax_of}
use Rattle.code_core.specs.Fields.{last_of, takes_list, second_half, opens as opens_list, is_return}
use Rattle.code_core.specs.Prototype.{Prototype, list_of}
use Rattle.code_core.specs.Check.{fixed, open_from, opened, there, upvalue_there}
use Rattle.machine_core.specs.Text.{read, behind, Text, quick, open_cell, trap, make_function, fill_table, go_by}
use Rattle.machine_core.specs.InstructionRows.{to_register, write_values, ends_list, fills_each, fills_from, fills, fills_by, opens, with_extra}
use Rattle.machine_core.specs.FrameRows.{expand}
use Rattle.machine_sound.specs.Sound.{Top, MarkFits}
use Rattle.machine_sound.specs.Safe.{on_lua, CapturesOk, Safe}
use Rattle.machine_sound.proofs.Values.{lt_of, both_of}
use Rattle.machine_sound.proofs.Places.{Here, place, Listed, next_safe}
use Rattle.machine_sound.proofs.RowEnds.{reg, sized, on_next, on_skip, ends_next, second_there, raise_safe}
use Rattle.machine_sound.proofs.OpcodesTables.{RowSafe, extra_there, extra_second}
use Rattle.machine_sound.proofs.OpcodesCalls.{ListRowSafe, values_safe, zero_is, not_zero, some_end, last_is, function_there as register_there}
use Rattle.machine_sound.proofs.Rules.{extra_behind}

-- a list for a table

-- behind it the list is gone
abbrev AfterList : Top → ℤ → Type 0
AfterList t d = (env : List Value) → Safe (on_lua (record t { size = t.code.own.stack; opened = 0 })) env (expand (go_by d))

ends_safe : {t : Top} {w : Instruction} → Here t w SetList → (d : ℤ) → AfterList t d → (env : List Value) → Safe (on_lua t) env (expand (ends_list d))
ends_safe h d s env = (((let e = h.cells in omega arith), h.runs), λ _. s (env ++ []))

-- registers that are there go to the table one by one
each_safe : {t : Top} {w : Instruction} → Here t w SetList → (d : ℤ) → AfterList t d → (n r last m : ℕ) (vs : List Value) → r + n ≤ t.size → Safe (on_lua t) (object a_table m ∷ vs) (expand (fills_each n 0 r last d))
each_safe {t = t} h d s zero r last m vs low = ends_safe h d s (object a_table m ∷ vs)
each_safe {t = t} h d s (suc n) r last m vs low = ((below r n t.size low, tt), λ v. (refl, λ _. each_safe h d s n (suc r) (suc last) m ((vs ++ v ∷ []) ++ []) (above r n t.size low)))
  where
    below : (r n size : ℕ) → r + suc n ≤ size → r < size
    below r n size l = omega arith

    above : (r n size : ℕ) → r + suc n ≤ size → suc r + n ≤ size
    above r n size l = omega arith

fills_safe : {t : Top} {w : Instruction} → Here t w SetList → (takes_list SetList w ≡ true → Listed t w) → (last : ℕ) (d : ℤ) → AfterList t d → Safe (on_lua t) [] (expand (fills w last d))
fills_safe {t = t} {w = w} h l last d s = ((register_there h l (a_of w) (low (a_of w) (b_of w) t.code.own.stack (reg h 0 (a_of w + b_of w) refl)), tt), λ v. from v)
  where
    low : (a b n : ℕ) → a + b < n → a < n
    low a b n l = omega arith

    all : (a b n size : ℕ) → a + b < size → b ≡ suc n → a + 1 + suc n ≤ size
    all a b n size l e = omega arith

    table : (m : ℕ) (b : ℕ) → b_of w ≡ b → Safe (on_lua t) (object a_table m ∷ []) (expand (fills_from b 0 (a_of w + 1) last d))
    table m zero e = values_safe t (object a_table m ∷ []) (a_of w + 1) 0 (λ v _. quick (fill_table (read 0) last v) (λ _. ends_list d))
        (λ _. some_end t w (l (zero_is (b_of w) e))) (λ n q. absurd (cc)) (λ vs _ _. (refl, λ _. ends_safe h d s (object a_table m ∷ vs ++ [])))
    table m (suc n) e = each_safe h d s (suc n) (a_of w + 1) last m [] (all (a_of w) (b_of w) n t.size (sized h (not_zero (b_of w) n e) 0 (a_of w + b_of w) refl) e)

    from : (v : Value) → Safe (on_lua t) (v ∷ []) (expand (fills_by (shape v) 0 w last d))
    from (object a_table m) = table m (b_of w) refl
    from (object a_function m) = raise_safe t (object a_function m ∷ []) [] (place h)
    from (object a_coroutine m) = raise_safe t (object a_coroutine m ∷ []) [] (place h)
    from (known p) = raise_safe t (known p ∷ []) [] (place h)

pub set_list_safe : ListRowSafe SetList
set_list_safe t w h l = from (k_of w) refl
  where
    from : (b : Bool) → k_of w ≡ b → Safe (on_lua t) [] (expand (cond b (with_extra t.code t.pc (λ ax. fills w (c_of w + 256 * ax) (pos 2))) (fills w (c_of w) (pos 1))))
    from false e = fills_safe h l (c_of w) (pos 1) (λ env. next_safe (record t { size = t.code.own.stack; opened = 0 }) env h refl (ap (λ (b : Bool). extra_behind (if b then Some ExtraArg else None)) e) refl refl h.runs (refl, refl) (let c = h.cells in omega arith))
    from true e =
        let q : second_half SetList w ≡ Some ExtraArg = ap (λ (b : Bool). (if b then Some ExtraArg else None)) e in
        let s = second_there h ExtraArg q in
        subst (λ (o : Option ℕ). Safe (on_lua t) [] (expand (elim o as (λ _. Text) [ None ↦ trap | Some ax ↦ fills w (c_of w + 256 * ax) (pos 2) ]))) (sym (extra_there s))
        (fills_safe h l (c_of w + 256 * ax_of s.instruction) (pos 2) (λ env. on_skip (record t { size = t.code.own.stack; opened = 0 }) env h ExtraArg q extra_second refl refl h.runs (refl, refl) (let c = h.cells in omega arith)))

-- functions

-- the registers that a function shares get cells, where they have none
with_cells : List ℕ → List UpDesc → List ℕ
with_cells cells [] = cells
with_cells cells (u ∷ us) = with_cells (cond u.in_stack (u.index ∷ cells) cells) us

-- a register among some
abbrev Among : ℕ → List ℕ → Type 0
Among r cells = (i : ℕ) × (slice_get cells i ≡ Some r)

still_among : (r : ℕ) (us : List UpDesc) (cells : List ℕ) → Among r cells → Among r (with_cells cells us)
unfolding with_cells
still_among r [] cells h = h
still_among r (u ∷ us) cells h = still_among r us (cond u.in_stack (u.index ∷ cells) cells) (pick u.in_stack)
  where
    pick : (b : Bool) → Among r (cond b (u.index ∷ cells) cells)
    pick true = (suc h.0, h.1)
    pick false = h

-- then each of them has one
captures_there : (p : Prototype) (us : List UpDesc) (cells : List ℕ) → IsTrue (list_all (upvalue_there p) us) → CapturesOk p (with_cells cells us) us
unfolding with_cells
captures_there p [] cells h = tt
captures_there p (u ∷ us) cells h =
    let b = both_of (upvalue_there p u) (list_all (upvalue_there p) us) h in
    (first u.in_stack b.0, captures_there p us (cond u.in_stack (u.index ∷ cells) cells) b.1)
  where
    first : (q : Bool) → IsTrue (cond q (nat_lt u.index p.own.stack) (nat_lt u.index (length p.own.upvalues))) → cond q (Among u.index (with_cells (cond q (u.index ∷ cells) cells) us)) (u.index < length p.own.upvalues)
    first true g = still_among u.index us (u.index ∷ cells) (0, refl)
    first false g = lt_of u.index (length p.own.upvalues) g

opens_safe : (t : Top) (us : List UpDesc) (x : Text) → t.size ≡ t.code.own.stack → t.cells ≡ t.code.own.stack → IsTrue (list_all (upvalue_there t.code) us) → Safe (on_lua (record t { captured = with_cells t.captured us })) [] (expand x) → Safe (on_lua t) [] (expand (opens us x))
unfolding with_cells
opens_safe t [] x z c h s = s
opens_safe t (u ∷ us) x z c h s =
    let b = both_of (upvalue_there t.code u) (list_all (upvalue_there t.code) us) h in
    from u.in_stack b.0 (λ k. opens_safe (record t { captured = cond u.in_stack (u.index ∷ t.captured) t.captured }) us x z c b.1 s)
  where
    from : (q : Bool) → IsTrue (cond q (nat_lt u.index t.code.own.stack) (nat_lt u.index (length t.code.own.upvalues))) → (Unit {0} → Safe (on_lua (record t { captured = cond q (u.index ∷ t.captured) t.captured })) [] (expand (opens us x))) → Safe (on_lua t) [] (expand (cond q (open_cell u.index (opens us x)) (opens us x)))
    from true g r = let l = lt_of u.index t.code.own.stack g in ((omega arith, omega arith), λ _. r tt)
    from false g r = r tt

pub closure_safe : RowSafe Closure
closure_safe t w h = from (slice_get (list_of t.code.inner) (bx_of w)) refl h.rule.function
  where
    from : (o : Option Prototype) → slice_get (list_of t.code.inner) (bx_of w) ≡ o → IsTrue (there (λ inner. list_all (upvalue_there t.code) inner.own.upvalues) o)
        → Safe (on_lua t) [] (expand (opens (elim o as (λ _. List UpDesc) [ None ↦ [] | Some q ↦ q.own.upvalues ]) (quick (make_function (bx_of w)) (λ f. to_register (a_of w) (read f)))))
    from None e g = absurd (cc)
    from (Some q) e g =
        let u : Top = record t { captured = with_cells t.captured q.own.upvalues } in
        opens_safe t q.own.upvalues (quick (make_function (bx_of w)) (λ f. to_register (a_of w) (read f))) (h.plain refl).0 h.cells g (
          record { inner = q; there = e; captures = captures_there t.code q.own.upvalues t.captured g },
          λ n.
              (((let e = (h.plain refl).0 in within (a_of w) t.size t.code.own.stack e (reg h 0 (a_of w) refl), tt), h.runs), λ _. on_next u (object a_function n ∷ []) h (refl, refl, refl, refl) refl refl h.runs (h.plain refl) (let e = h.cells in omega arith)),
        )
      where
        within : (a size stack : ℕ) → size ≡ stack → a < stack → a < size
        within a size stack e l = omega arith

-- extra arguments

-- values that come back or are extra go to registers, or become an open list
pub puts_safe : {t : Top} {w : Instruction} {op : Opcode} (u : Top) (env : List Value) (r c slot : ℕ) → Here t w op → is_return op ≡ false → extra_behind (second_half op w) ≡ false
    → u.code ≡ t.code → u.pc ≡ t.pc → IsTrue u.runs → MarkFits fixed t.code.own.stack u.size u.opened → u.cells ≤ t.code.own.stack
    → (c ≡ 0 → opened (opens_list op w) ≡ open_from r) → ((n : ℕ) → c ≡ suc n → opened (opens_list op w) ≡ fixed)
    → (c ≡ 0 → r < u.size) → ((n : ℕ) → c ≡ suc n → behind r n ≤ u.size)
    → Safe (on_lua u) env (expand (write_values r c slot))
puts_safe {t = t} {w = w} {op = op} u env r zero slot h ret ex q p run s k o f l b = (
  (l refl, run),
  λ _. next_safe (record u { size = max u.size (r + length (drop slot env)); opened = length (drop slot env) }) (env ++ []) h ret ex q p run
      (subst (λ m. MarkFits m t.code.own.stack (max u.size (r + length (drop slot env))) (length (drop slot env))) (sym (o refl)) (ap (λ n. max n (r + length (drop slot env))) s.0)) k,
)
puts_safe {t = t} {w = w} {op = op} u env r (suc n) slot h ret ex q p run s k o f l b =
    ((b n refl, run), λ _. next_safe u (env ++ []) h ret ex q p run (subst (λ m. MarkFits m t.code.own.stack u.size u.opened) (sym (f n refl)) s) k)

pub var_arg_safe : RowSafe VarArg
var_arg_safe t w h = (
  (tt, tt),
  λ vs.
      puts_safe t vs (a_of w) (c_of w) 0 h refl refl refl refl h.runs (h.plain refl) (let e = h.cells in omega arith)
      (λ e. ap (λ (b : Bool). opened (if b then Some (a_of w) else None)) (zero_is (c_of w) e))
      (λ n e. ap (λ (b : Bool). opened (if b then Some (a_of w) else None)) (not_zero (c_of w) n e))
      (λ e. sized h refl 0 (a_of w) (ap (λ (b : Bool). slice_get (if b then a_of w ∷ [] else last_of (a_of w) (c_of w - 1)) 0) (zero_is (c_of w) e)))
      (λ n e. there_all n e n refl),
)
  where
    there_all : (n : ℕ) → c_of w ≡ suc n → (m : ℕ) → m ≡ n → behind (a_of w) m ≤ t.size
    there_all n e zero q = omega arith
    there_all n e (suc m) q =
        let k : c_of w - 1 ≡ suc m = omega arith in
        let l = sized h refl 0 (a_of w + m) (ap (λ (b : Bool). slice_get (if b then a_of w ∷ [] else last_of (a_of w) (c_of w - 1)) 0) (not_zero (c_of w) n e) ∙ ap (λ c. slice_get (last_of (a_of w) c) 0) k ∙ ap (λ x. slice_get x 0) (last_is (a_of w) m)) in
        less (a_of w) m t.size l
      where
        less : (a m n : ℕ) → a + m < n → behind a (suc m) ≤ n
        less a m n l = omega arith

pub var_arg_prep_safe : RowSafe VarArgPrep
var_arg_prep_safe t w h = ends_next [] h (refl, refl, refl, refl)
