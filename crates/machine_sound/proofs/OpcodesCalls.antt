-- The rows of calls, returns, lists and functions are safe in checked code.
use Rattle.std.proofs.Common.{ℕ, zero, suc, ◌≡◌, ◌<◌, ◌≤◌, ◌+◌, ◌-◌, List, [], ◌∷◌, ◌++◌, Option, Some, None, refl, subst, sym, ap, ◌∙◌, length, Bool, true, false, arith}
use Rattle.std.specs.Prelude.{pos, slice_get, cond, max, IsTrue, IsSome, ◌==◌}
use Rattle.std.proofs.lemmas.Bool.Decides.{nat_tests}
use Rattle.int_core.specs.Value.{Value, known, nil, integer, Shape, is_known}
use Rattle.code_core.specs.declared.opcode.Opcode.{Opcode}
use Rattle.code_core.specs.declared.opcode.Opcode.TheVariants.{Call, TailCall, Return, Return0, Return1, TForCall}
use Rattle.code_core.specs.declared.instruction.Instruction.{Instruction}
use Rattle.code_core.specs.Instruction.{a_of, b_of, c_of}
use Rattle.code_core.specs.Fields.{registers, last_of, takes_list}
use Rattle.code_core.specs.Check.{opened}
use Rattle.machine_core.specs.World.{for_call, for_iterator, returning}
use Rattle.machine_core.specs.Text.{Arg, read, written, behind, drop_pending, cut_from, read_registers, results, Text, own, call, tail_call, close, leave, is_there, arg}
use Rattle.machine_core.specs.InstructionRows.{row_of, read_values, returns, returned_so, counted, return_count}
use Rattle.machine_core.specs.Moves.{TopShape, lua_top, CallShape, is_entered, is_primitive, not_paid, not_entered}
use Rattle.machine_core.specs.FrameRows.{expand, after_call, after_leaving}
use Rattle.machine_sound.specs.Sound.{Top, waits_at}
use Rattle.machine_sound.specs.Safe.{on_lua, waiting, HasPlace, MayEnter, list_of_option, end_of, end_by, list_length, Safe, after_tail}
use Rattle.machine_sound.proofs.Places.{Here, place, Listed}
use Rattle.machine_sound.proofs.RowEnds.{reg, sized, moved_place, raise_safe, call_safe}
use Rattle.machine_sound.proofs.OpcodesTables.{RowSafe}

-- the row of an opcode that may take an open list
abbrev pub ListRowSafe : Opcode → Type 0
ListRowSafe op = (t : Top) (w : Instruction) → Here t w op → (takes_list op w ≡ true → Listed t w) → Safe (on_lua t) [] (expand (row_of t.code t.pc op w))

-- the values of some registers, or of the open list
pub values_safe : (t : Top) (env : List Value) (r b : ℕ) (k : ℕ → Shape → Text)
    → (b ≡ 0 → IsSome (end_of t)) → ((n : ℕ) → b ≡ suc n → behind r n ≤ t.size)
    → ((vs : List Value) (s : Shape) → (b ≡ 0 → counted s ≡ list_length r (end_of t)) → Safe (on_lua t) (env ++ vs) (expand (k (length env) s)))
    → Safe (on_lua t) env (expand (read_values r b k))
values_safe t env r zero k l m s = ((l refl, tt), λ e. s e.values (is_known (integer (pos (length e.values)))) (λ _. e.count))
values_safe t env r (suc n) k l m s = ((m n refl, tt), λ vs. s vs (is_known nil) (λ e. absurd (cc)))

pub zero_is : (b : ℕ) → b ≡ 0 → (b == 0) ≡ true
zero_is b e = grind (arith, nat_tests)

pub not_zero : (b n : ℕ) → b ≡ suc n → (b == 0) ≡ false
not_zero b n e = grind (arith, nat_tests)

listed_end : (t : Top) (w : Instruction) (l : Listed t w) → end_of t ≡ Some (l.from + t.opened)
listed_end t w l = ap (λ m. end_by m t.opened) l.mark_is

pub some_end : (t : Top) (w : Instruction) → Listed t w → IsSome (end_of t)
some_end t w l = rw (listed_end t w l) refl

-- the registers of the arguments are there
pub last_is : (a n : ℕ) → last_of a (suc n) ≡ (a + n) ∷ []
last_is a n = let e : (suc n == 0) ≡ false = grind (arith, nat_tests) in let k : suc n - 1 ≡ n = omega arith in rw (e, k) refl

behind_all : (a n size : ℕ) → a + n < size → behind (a + 1) n ≤ size
behind_all a zero size l = omega arith
behind_all a (suc n) size l = omega arith

size_above : (t : Top) (w : Instruction) → Listed t w → (r : ℕ) → r < t.code.own.stack → r < t.size
size_above t w l r b = let s = l.size in omega arith

-- a function's register is there, whether a list is open or not
pub function_there : {t : Top} {w : Instruction} {op : Opcode} → Here t w op → (takes_list op w ≡ true → Listed t w) → (r : ℕ) → r < t.code.own.stack → r < t.size
function_there {t = t} {w = w} {op = op} h l r b = from (takes_list op w) refl
  where
    from : (q : Bool) → takes_list op w ≡ q → r < t.size
    from true e = size_above t w (l e) r b
    from false e = let s = (h.plain e).0 in omega arith

call_ready : {t : Top} {w : Instruction} (env : List Value) (f : Arg) (slot : ℕ) → Here t w Call → MayEnter t env (read 0) for_call (drop_pending (a_of w) ∷ cut_from (a_of w) ∷ [])
call_ready {t = t} {w = w} env f slot h = record {
  callee = tt;
  prepares = (tt, ((let e = h.cells in omega arith), tt));
  waits = record { place = moved_place (record t { pending = a_of w; size = t.code.own.stack; opened = 0 }) (place h) refl refl; fits = refl; size = refl; kept = omega arith; opened = refl; error = tt };
}

pub call_row_safe : ListRowSafe Call
call_row_safe t w h l = (
  (function_there h l (a_of w) (reg h 0 (a_of w) refl), tt),
  λ f.
      values_safe t (f ∷ []) (a_of w + 1) (b_of w) (λ v _. call (read 0) v for_call (drop_pending (a_of w) ∷ cut_from (a_of w) ∷ []))
      (λ e. some_end t w (l (zero_is (b_of w) e)))
      (λ n e.
      let q : slice_get (registers Call w) 1 ≡ Some (a_of w + n) = ap (λ b. slice_get (a_of w ∷ last_of (a_of w) b ++ last_of (a_of w) (c_of w - 1)) 1) e ∙ ap (λ x. slice_get (a_of w ∷ x ++ last_of (a_of w) (c_of w - 1)) 1) (last_is (a_of w) n) in
      behind_all (a_of w) n t.size (sized h (not_zero (b_of w) n e) 1 (a_of w + n) q))
      (λ vs s _. call_safe t (f ∷ vs) (read 0) 1 for_call (drop_pending (a_of w) ∷ cut_from (a_of w) ∷ []) (call_ready (f ∷ vs) (read 0) 1 h)),
)

tail_ends : (t : Top) (env : List Value) → HasPlace t → (s : CallShape) → Safe (after_tail s t) env (after_call s)
tail_ends t env h is_entered = tt
tail_ends t env h (is_primitive n) = refl
tail_ends t env h not_paid = tt
tail_ends t env h (not_entered text) = raise_safe t env text h

pub tail_call_safe : ListRowSafe TailCall
tail_call_safe t w h l = (
  (function_there h l (a_of w) (reg h 0 (a_of w) refl), tt),
  λ f.
      values_safe t (f ∷ []) (a_of w + 1) (b_of w) (λ v _. tail_call (read 0) v)
      (λ e. some_end t w (l (zero_is (b_of w) e)))
      (λ n e.
      let q : slice_get (registers TailCall w) 1 ≡ Some (a_of w + n) = ap (λ b. slice_get (a_of w ∷ last_of (a_of w) b) 1) e ∙ ap (λ x. slice_get (a_of w ∷ x) 1) (last_is (a_of w) n) in
      behind_all (a_of w) n t.size (sized h (not_zero (b_of w) n e) 1 (a_of w + n) q))
      (λ vs s _. (tt, λ s. tail_ends t ((f ∷ vs) ++ []) (place h) s)),
)

pub t_for_call_safe : RowSafe TForCall
t_for_call_safe t w h = (
  (lower (a_of w) 0 t.size (sized h refl 0 (a_of w + 6) refl) (omega arith), tt),
  λ f. (
    (two (a_of w) t.size (sized h refl 0 (a_of w + 6) refl), tt),
    λ vs.
        call_safe t (f ∷ vs) (read 0) 1 for_iterator (drop_pending (a_of w + 4) ∷ cut_from (a_of w + 4) ∷ []) (record {
          callee = tt;
          prepares = (tt, ((let e = h.cells in omega arith), tt));
          waits = record { place = moved_place (record t { pending = a_of w + 4; size = t.code.own.stack; opened = 0 }) (place h) refl refl; fits = refl; size = refl; kept = omega arith; opened = refl; error = tt };
        }),
  ),
)
  where
    lower : (a i n : ℕ) → a + 6 < n → i ≤ 6 → a < n
    lower a i n l k = omega arith

    two : (a n : ℕ) → a + 6 < n → behind (a + 1) 2 ≤ n
    two a n l = omega arith

-- returns

left_ends : (slot : ℕ) (env : List Value) (s : TopShape) → Safe (waiting (Some s)) env (after_leaving (results slot) s)
left_ends slot env lua_top = tt
left_ends slot env _ = tt

-- some registers are returned; the pending variables are closed first
pub returns_safe : (t : Top) (env : List Value) (count : ℕ) (p : HasPlace t) → IsTrue t.runs → behind (a_of p.instruction) count ≤ t.size → t.pending ≤ t.code.own.stack → IsTrue (waits_at {V = Arg} (returning count) p.opcode p.instruction) → Safe (on_lua t) env (expand (returns (a_of p.instruction) count))
returns_safe t env count p r l q f = ((tt, tt), λ o. from o)
  where
    from : (o : Option Value) → Safe (on_lua t) (env ++ list_of_option o) (expand (cond (is_there o) (close (read (length env)) (written nil) (returning count) (returned_so (a_of p.instruction) count)) (own (read_registers (a_of p.instruction) count) (λ w _. leave (results w)))))
    from None = ((l, tt), λ vs. (tt, λ s. left_ends (length (env ++ [])) (((env ++ []) ++ vs) ++ []) s))
    from (Some v) = (
      (tt, tt),
      λ g. call_safe t ((env ++ v ∷ []) ++ g ∷ arg (env ++ v ∷ []) (read (length env)) ∷ known nil ∷ []) (read (length (env ++ v ∷ []))) (suc (length (env ++ v ∷ []))) (returning count) (returned_so (a_of p.instruction) count) (record {
        callee = tt;
        prepares = (tt, (tt, (omega arith, tt)));
        waits = record { place = moved_place (record t { cells = 0; captured = []; size = max t.code.own.stack (behind (a_of p.instruction) count); opened = 0 }) p refl refl; fits = f; size = refl; kept = q; opened = refl; error = tt };
      }),
    )

pending_low : {t : Top} {w : Instruction} {op : Opcode} → Here t w op → t.pending ≤ t.code.own.stack
pending_low h = let e = h.pending in omega arith

pub return_0_safe : RowSafe Return0
return_0_safe t w h = returns_safe t [] 0 (place h) h.runs (omega arith) (pending_low h) refl

pub return_1_safe : RowSafe Return1
return_1_safe t w h = returns_safe t [] 1 (place h) h.runs (one (a_of w) t.size (sized h refl 0 (a_of w) refl)) (pending_low h) refl
  where
    one : (a n : ℕ) → a < n → behind a 1 ≤ n
    one a n l = omega arith

-- the end of a list that is returned
list_behind : (a from opened stack size count : ℕ) → a ≤ from → size ≡ max stack (from + opened) → count ≡ from + opened - a → behind a count ≤ size
list_behind a from opened stack size zero b s c = omega arith
list_behind a from opened stack size (suc count) b s c = omega arith

given_behind : (a b n size stack : ℕ) → b ≡ suc n → size ≡ stack → ((m : ℕ) → n ≡ suc m → a + m < stack) → behind a n ≤ size
given_behind a b zero size stack e s r = omega arith
given_behind a b (suc m) size stack e s r = let l = r m refl in omega arith

pub return_safe : ListRowSafe Return
return_safe t w h l =
    values_safe t [] (a_of w) (b_of w) (λ _ s. returns (a_of w) (cond (b_of w == 0) (counted s) (return_count Return w)))
    (λ e. some_end t w (l (zero_is (b_of w) e)))
    (λ n e. given_behind (a_of w) (b_of w) n t.size t.code.own.stack e (h.plain (not_zero (b_of w) n e)).0 (λ m q. top_there n e m q))
    (λ vs s c. from (b_of w) refl vs s c)
  where
    top_there : (n : ℕ) → b_of w ≡ suc n → (m : ℕ) → n ≡ suc m → a_of w + m < t.code.own.stack
    top_there n e m q =
        let k : b_of w - 1 ≡ suc m = omega arith in
        reg h 0 (a_of w + m) (ap (λ b. slice_get (last_of (a_of w) b) 0) k ∙ ap (λ x. slice_get x 0) (last_is (a_of w) m))

    from : (b : ℕ) → b_of w ≡ b → (vs : List Value) (s : Shape) → (b_of w ≡ 0 → counted s ≡ list_length (a_of w) (end_of t)) → Safe (on_lua t) vs (expand (returns (a_of w) (cond (b_of w == 0) (counted s) (return_count Return w))))
    from zero e vs s c =
        let k = l (zero_is (b_of w) e) in
        let q : counted s ≡ k.from + t.opened - a_of w = c e ∙ ap (list_length (a_of w)) (listed_end t w k) in
        subst (λ b. Safe (on_lua t) vs (expand (returns (a_of w) (cond b (counted s) (return_count Return w))))) (sym (zero_is (b_of w) e))
        (returns_safe t vs (counted s) (place h) h.runs (list_behind (a_of w) k.from t.opened t.code.own.stack t.size (counted s) k.below k.size q) (pending_low h) refl)
    from (suc n) e vs s c =
        let k : b_of w - 1 ≡ n = omega arith in
        subst (λ b. Safe (on_lua t) vs (expand (returns (a_of w) (cond b (counted s) (return_count Return w))))) (sym (not_zero (b_of w) n e))
        (returns_safe t vs (return_count Return w) (place h) h.runs (subst (λ c. behind (a_of w) c ≤ t.size) (sym k) (given_behind (a_of w) (b_of w) n t.size t.code.own.stack e (h.plain (not_zero (b_of w) n e)).0 (λ m q. top_there n e m q))) (pending_low h) refl)
