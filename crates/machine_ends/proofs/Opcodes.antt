-- The row of each instruction, and what is left of it when an answer comes, makes the measure smaller.
use Rattle.std.proofs.Common.{ℕ, zero, suc, ◌+◌, ◌*◌, ◌<◌, ◌≤◌, ◌≡◌, List, [], ◌∷◌, ◌++◌, Option, Some, None, refl, arith, Bool, true, false, cond}
use Rattle.std.specs.Prelude.{IsTrue, nat_le, ℤ, pos, negsuc, codes, not, ◌+ℤ◌, ◌-ℤ◌, ◌/◌}
use Rattle.std.proofs.Math.Nat.{mod-lt}
use Rattle.int_core.specs.Value.{nil, boolean, integer, a_table, Shape, is_known, is_object, holds, same_truth, same_plain, same_integer}
use Rattle.int_core.specs.Arithmetic.{add, sub}
use Rattle.int_core.specs.Operations.{Event, of_add, of_sub, of_mul, of_mod, of_idiv, of_band, of_bor, of_bxor, of_shl, of_shr, of_unm, of_bnot, Operation, index, store, arithmetic, concat, length', equal, less, less_equal}
use Rattle.code_core.specs.declared.opcode.Opcode.{Opcode}
use Rattle.code_core.specs.declared.opcode.Opcode.TheVariants.{Move, LoadI, LoadK, LoadKx, LoadFalse, LFalseSkip, LoadTrue, LoadNil, GetUpval, SetUpval, GetTabUp, GetTable, GetI, GetField, SetTabUp, SetTable, SetI, SetField, NewTable, OpSelf, AddI, AddK, SubK, MulK, ModK, IDivK, BAndK, BOrK, BXorK, ShrI, ShlI, Add, Sub, Mul, Mod, IDiv, BAnd, BOr, BXor, Shl, Shr, MmBin, MmBinI, MmBinK, Unm, BNot, Not, Len, Concat, Close, Tbc, Jmp, Eq, Lt, Le, EqK, EqI, LtI, LeI, GtI, GeI, Test, TestSet, Call, TailCall, Return, Return0, Return1, ForLoop, ForPrep, TForPrep, TForCall, TForLoop, SetList, Closure, VarArg, VarArgPrep}
use Rattle.code_core.specs.declared.instruction.Instruction.{Instruction}
use Rattle.code_core.specs.declared.proto.UpDesc.{UpDesc}
use Rattle.code_core.specs.Instruction.{opcode_of, a_of, b_of, c_of, k_of, bx_of, sbx_of, sj_of, sc_of}
use Rattle.code_core.specs.Prototype.{Prototype}
use Rattle.code_core.specs.Check.{at, in_front, extra_at}
use Rattle.int_core.specs.Value.{Value}
use Rattle.machine_core.specs.World.{Wait, running, for_call, for_iterator, for_value, for_truth, dropped, for_concat, for_close, returning, leaving}
use Rattle.machine_core.specs.Text.{closable, Arg, read, written, write_register, drop_pending, cut_from, read_register, read_constant, pay, Text, go_by, own, open_cell, quick, operate, tail_call, raise, trap, mark_pending}
use Rattle.machine_core.specs.InstructionRows.{integer_of_shape, spelled, with_number, then, next, skip, to_register, register_or_constant, joins, tested, truth_decides, to_register_before, value_comes, rest, handled, gets, sets, fills_each, fills_from, fills_by, starts, runs, prepares, goes_round, back, jumps, marks, opens, with_extra, row_of, text_by, text_at, rest_by, rest_at, variable_name, writes_integer, upvalues_of_inner, rounds, fills}
use Rattle.machine_core.specs.Moves.{CallShape, is_entered, is_primitive, not_paid, not_entered, stop, spent}
use Rattle.machine_core.specs.FrameRows.{raises, after_call, When, at_once, by_asking, expand_by}
use Rattle.machine_ends.specs.Measure.{wait_weight}
use Rattle.machine_ends.specs.Falls.{on_lua, tail_refused, after_pay, after_enter, IsForward, Falls}
use Rattle.machine_ends.proofs.Texts.{Comes, forward, next_falls, skip_falls, register_falls, raises_falls, call_falls, operate_falls, operate_kept, fast_falls, write_falls, read_falls, returns_fall, closes_fall, fails_falls}
use Rattle.machine_sound.proofs.Values.{le_true}

low : 7 < 30
low = omega arith

reg : (r : ℕ) (x : Arg) → Comes 30 (expand_by at_once (to_register r x))
reg r x = register_falls at_once 30 r x

error : (text : List ℕ) → Comes 30 (raises text)
error text = raises_falls false 30 None true text low

ahead : (m : ℕ) → 0 < m → IsForward (pos m)
ahead zero l = absurd (omega arith)
ahead (suc m) l = tt

extra_falls : (p : Prototype) (pc : ℕ) (k : ℕ → Text) → ((ax : ℕ) → Comes 30 (expand_by at_once (k ax))) → Comes 30 (expand_by at_once (with_extra p pc k))
extra_falls p pc k f = by (extra_at p pc)
  where
    by : (o : Option ℕ) → Comes 30 (expand_by at_once (elim o as (λ _. Text) [ None ↦ trap | Some ax ↦ k ax ]))
    by None = tt
    by (Some ax) = f ax

either_falls : (w : Instruction) (k : ℕ → Shape → Text) → ((n : ℕ) (s : Shape) → Comes 30 (expand_by at_once (k n s))) → Comes 30 (expand_by at_once (register_or_constant w k))
either_falls w k f = by (k_of w)
  where
    by : (b : Bool) → Comes 30 (expand_by at_once (cond b (own (read_constant (c_of w)) k) (own (read_register (c_of w)) k)))
    by true = (tt, f)
    by false = (tt, f)

gets_falls : (o key : Arg) (r : ℕ) → Comes 30 (expand_by at_once (gets o key [] r))
gets_falls o key r = operate_falls at_once 30 index (o ∷ key ∷ []) for_value (to_register r (read 0)) low refl (reg r (read 0))

sets_falls : (o key v : Arg) → Comes 30 (expand_by at_once (sets o key v))
sets_falls o key v = operate_falls at_once 30 store (o ∷ key ∷ v ∷ []) dropped next low refl (next_falls at_once 30)

before_falls : (when : When) (c : ℕ) (p : Prototype) (pc : ℕ) → Comes c (expand_by when (to_register_before p pc))
before_falls when c p pc = by (in_front p pc)
  where
    by : (o : Option Instruction) → Comes c (expand_by when (elim o as (λ _. Text) [ None ↦ trap | Some w ↦ to_register (a_of w) (read 0) ]))
    by None = tt
    by (Some w) = register_falls when c (a_of w) (read 0)

handled_falls : (p : Prototype) (pc : ℕ) (w : Instruction) (o : Option Event) (xs : List Arg) → Comes 30 (expand_by at_once (handled p pc w o xs))
handled_falls p pc w None xs = tt
handled_falls p pc w (Some event) xs = operate_falls at_once 30 (arithmetic event) xs for_value (to_register_before p pc) low refl (before_falls at_once 30 p pc)

unary_falls : (op : Operation) (xs : List Arg) (r : ℕ) → Comes 30 (expand_by at_once (operate op xs for_value [] (to_register r (read 0))))
unary_falls op xs r = operate_falls at_once 30 op xs for_value (to_register r (read 0)) low refl (reg r (read 0))

tested_falls : (when : When) (c : ℕ) (t k : Bool) → Comes c (expand_by when (tested t k))
tested_falls when c t k = by (same_truth t k)
  where
    by : (b : Bool) → Comes c (expand_by when (go_by (cond b (pos 1) (pos 2))))
    by true = forward when c None (pos 1) tt
    by false = forward when c None (pos 2) tt

truth_falls : (when : When) (c : ℕ) (w : Instruction) → Comes c (expand_by when (truth_decides w))
truth_falls when c w = (tt, λ n s. tested_falls when c (holds s) (k_of w))

compares_falls : (op : Operation) (x y : Arg) (w : Instruction) → Comes 30 (expand_by at_once (operate op (x ∷ y ∷ []) for_truth [] (truth_decides w)))
compares_falls op x y w = operate_falls at_once 30 op (x ∷ y ∷ []) for_truth (truth_decides w) low refl (truth_falls at_once 30 w)

-- concatenation

small : (i : ℕ) → i ≤ 255 → IsTrue (nat_le i 255)
small i l = le_true i 255 l

joins_once : (r i : ℕ) (x : Arg) → i ≤ 255 → Comes 30 (expand_by at_once (joins r i x))
joins_once r zero x l = reg r x
joins_once r (suc i) x l = (tt, λ u s. operate_falls at_once 30 concat (read u ∷ x ∷ []) (for_concat i) (joins r i (read 0)) low (small i (omega arith)) (joins_once r i (read 0) (omega arith)))

joins_asks : (c r i : ℕ) (x : Arg) → 20 + 10 * i ≤ c → Comes c (expand_by by_asking (joins r i x))
joins_asks c r zero x l = register_falls by_asking c r x
joins_asks c r (suc i) x l = (tt, λ u s. operate_falls by_asking c concat (read u ∷ x ∷ []) (for_concat i) (joins r i (read 0)) (omega arith) (omega arith) (joins_asks c r i (read 0) (omega arith)))

b_small : (w : Instruction) → b_of w < 256
b_small w = mod-lt (w.0 / 65536) (omega arith)

concat_falls : (w : Instruction) (n : ℕ) → b_of w ≡ n → Comes 30 (expand_by at_once (elim n as (λ _. Text) [ zero ↦ next | suc n ↦ own (read_register (a_of w + n)) (λ v _. joins (a_of w) n (read v)) ]))
concat_falls w zero e = next_falls at_once 30
concat_falls w (suc n) e = (tt, λ v s. joins_once (a_of w) n (read v) (let b = b_small w in omega arith))

-- variables to be closed

marks_fall : (p : Prototype) (pc r : ℕ) (t : Text) → Comes 30 (expand_by at_once t) → Comes 10 (expand_by at_once t) → Comes 30 (expand_by at_once (marks p pc r t))
marks_fall p pc r t f g = (tt, λ v s. by v (holds s))
  where
    named : (yes : Bool) → Comes 30 (cond yes (expand_by at_once (then (mark_pending r) t)) (raises (codes "variable '" ++ variable_name p pc r ++ codes "' got a non-closable value")))
    named true = (refl, λ n s. g)
    named false = error (codes "variable '" ++ variable_name p pc r ++ codes "' got a non-closable value")

    by : (v : ℕ) (b : Bool) → Comes 30 (expand_by at_once (cond b (closable (read v) (variable_name p pc r) (then (mark_pending r) t)) t))
    by v true = (tt, λ n yes. named yes)
    by v false = f

-- units

paid_falls : (k : ℕ → Text) → ((n : ℕ) → Falls (on_lua true 3030 None true) (expand_by at_once (k n))) → Comes 30 (expand_by at_once (quick pay k))
paid_falls k f = (tt, λ n paid. by n paid)
  where
    by : (n : ℕ) (paid : Bool) → Falls (after_pay false 30 true paid) (cond paid (expand_by at_once (k n)) (stop spent))
    by n true = f n
    by n false = tt

rich_jump : (z : ℤ) → Falls (on_lua true 3030 None true) (expand_by at_once (go_by z))
rich_jump z = (tt, λ n t. (let l : 30 < 3030 = omega arith in l))

jumps_fall : (z : ℤ) → Comes 30 (expand_by at_once (jumps z))
jumps_fall (pos n) = forward at_once 30 None (pos (n + 1)) (ahead (n + 1) (omega arith))
jumps_fall (negsuc n) = paid_falls (λ _. go_by (negsuc n +ℤ pos 1)) (λ k. rich_jump (negsuc n +ℤ pos 1))

-- loops

starts_fall : (a bx : ℕ) (from limit step : ℤ) → Comes 30 (expand_by at_once (starts a bx from limit step))
starts_fall a bx from limit step = by (same_integer step (pos 0)) (runs from limit step)
  where
    by : (zero_step goes : Bool) → Comes 30 (expand_by at_once (cond zero_step (raise (codes "'for' step is zero"))
        (cond goes (writes_integer (a + 1) (rounds from limit step) (writes_integer (a + 3) from next)) (go_by (pos (bx + 2))))))
    by true goes = error (codes "'for' step is zero")
    by false true = (tt, λ n s. (tt, λ m t. next_falls at_once 30))
    by false false = forward at_once 30 None (pos (bx + 2)) (ahead (bx + 2) (omega arith))

prepares_fall : (a bx : ℕ) (i l d : Option ℤ) → Comes 30 (expand_by at_once (prepares a bx i l d))
prepares_fall a bx i None d = error (codes "'for' limit must be a number")
prepares_fall a bx i (Some l) None = error (codes "'for' step must be a number")
prepares_fall a bx None (Some l) (Some d) = error (codes "'for' initial value must be a number")
prepares_fall a bx (Some i) (Some l) (Some d) = starts_fall a bx i l d

round_falls : (a bx : ℕ) (i l d : Option ℤ) → Comes 30 (expand_by at_once (goes_round a bx i l d))
round_falls a bx (Some i) (Some l) (Some d) = by (same_integer l (pos 0))
  where
    by : (b : Bool) → Comes 30 (expand_by at_once (cond b next (quick pay (λ _. writes_integer (a + 1) (sub l (pos 1)) (writes_integer a (add i d) (writes_integer (a + 3) (add i d) (back bx)))))))
    by true = next_falls at_once 30
    by false = paid_falls (λ _. writes_integer (a + 1) (sub l (pos 1)) (writes_integer a (add i d) (writes_integer (a + 3) (add i d) (back bx)))) (λ n. (tt, λ n s. (tt, λ n s. (tt, λ n s. rich_jump (pos 1 -ℤ pos bx)))))
round_falls a bx None l d = error (codes "'for' registers are not integers")
round_falls a bx (Some i) None d = error (codes "'for' registers are not integers")
round_falls a bx (Some i) (Some l) None = error (codes "'for' registers are not integers")

further_falls : (a bx v : ℕ) → Comes 30 (expand_by at_once (quick pay (λ _. then (write_register a (read v)) (back bx))))
further_falls a bx v = paid_falls (λ _. then (write_register a (read v)) (back bx)) (λ n. (tt, λ n s. rich_jump (pos 1 -ℤ pos bx)))

iterated_falls : (a bx v : ℕ) (s : Shape) → Comes 30 (expand_by at_once (elim s as (λ _. Text) [
  | is_known k ↦ cond (same_plain k nil) next (quick pay (λ _. then (write_register a (read v)) (back bx)))
  | is_object kind ↦ quick pay (λ _. then (write_register a (read v)) (back bx))
]))
iterated_falls a bx v (is_object kind) = further_falls a bx v
iterated_falls a bx v (is_known k) = by (same_plain k nil)
  where
    by : (b : Bool) → Comes 30 (expand_by at_once (cond b next (quick pay (λ _. then (write_register a (read v)) (back bx)))))
    by true = next_falls at_once 30
    by false = further_falls a bx v

-- lists and functions

-- no credit is spent by values that go to a table, however many they are
each_falls : (n t r last : ℕ) (z : ℤ) → IsForward z → Comes 30 (expand_by at_once (fills_each n t r last z))
each_falls zero t r last z f = (tt, λ _ _. forward at_once 30 None z f)
each_falls (suc n) t r last z f = (tt, λ _ _. (tt, λ _ _. each_falls n t (suc r) (suc last) z f))

from_falls : (n t r last : ℕ) (z : ℤ) → IsForward z → Comes 30 (expand_by at_once (fills_from n t r last z))
from_falls zero t r last z f = (tt, λ _ _. (tt, λ _ _. (tt, λ _ _. forward at_once 30 None z f)))
from_falls (suc n) t r last z f = each_falls (suc n) t r last z f

fills_fall : (s : Shape) (t : ℕ) (w : Instruction) (end : ℕ) (z : ℤ) → IsForward z → Comes 30 (expand_by at_once (fills_by s t w end z))
fills_fall (is_object a_table) t w end z f = from_falls (b_of w) t (a_of w + 1) end z f
fills_fall _ t w end z f = (tt, λ n u. low)

list_falls : (p : Prototype) (pc : ℕ) (w : Instruction) → Comes 30 (expand_by at_once (row_of p pc SetList w))
list_falls p pc w = by (k_of w)
  where
    by : (b : Bool) → Comes 30 (expand_by at_once (cond b (with_extra p pc (λ ax. fills w (c_of w + 256 * ax) (pos 2))) (fills w (c_of w) (pos 1))))
    by true = extra_falls p pc (λ ax. fills w (c_of w + 256 * ax) (pos 2)) (λ ax. (tt, λ t s. fills_fall s t w (c_of w + 256 * ax) (pos 2) tt))
    by false = (tt, λ t s. fills_fall s t w (c_of w) (pos 1) tt)

opens_fall : (us : List UpDesc) (t : Text) → Comes 30 (expand_by at_once t) → Comes 30 (expand_by at_once (opens us t))
opens_fall [] t f = f
opens_fall (u ∷ us) t f = by u.in_stack (opens_fall us t f)
  where
    by : (b : Bool) → Comes 30 (expand_by at_once (opens us t)) → Comes 30 (expand_by at_once (cond b (open_cell u.index (opens us t)) (opens us t)))
    by true g = (tt, λ n s. g)
    by false g = g

-- calls

tail_falls : (f : Arg) (slot : ℕ) → Comes 30 (expand_by at_once (tail_call f slot))
tail_falls f slot = (refl, λ n s. by s)
  where
    by : (s : CallShape) → Falls (after_enter s (tail_refused 30)) (after_call s)
    by is_entered = omega arith
    by (is_primitive n) = omega arith
    by not_paid = tt
    by (not_entered text) = (refl, λ n t. low)

test_set_falls : (a v : ℕ) (s : Shape) (k : Bool) → Comes 30 (expand_by at_once (cond (same_truth (holds s) k) (to_register a (read v)) skip))
test_set_falls a v s k = by (same_truth (holds s) k)
  where
    by : (b : Bool) → Comes 30 (expand_by at_once (cond b (to_register a (read v)) skip))
    by true = reg a (read v)
    by false = skip_falls at_once 30

-- the rows

pub row_falls : (p : Prototype) (pc : ℕ) (op : Opcode) (w : Instruction) → Comes 30 (expand_by at_once (row_of p pc op w))
row_falls p pc Move w = (tt, λ n s. reg (a_of w) (read n))
row_falls p pc LoadI w = reg (a_of w) (written (integer (sbx_of w)))
row_falls p pc LoadK w = (tt, λ n s. reg (a_of w) (read n))
row_falls p pc LoadKx w = extra_falls p pc _ (λ ax. (tt, λ n s. (tt, λ m t. skip_falls at_once 30)))
row_falls p pc LoadFalse w = reg (a_of w) (written (boolean false))
row_falls p pc LFalseSkip w = (tt, λ n s. skip_falls at_once 30)
row_falls p pc LoadTrue w = reg (a_of w) (written (boolean true))
row_falls p pc LoadNil w = (tt, λ n s. next_falls at_once 30)
row_falls p pc GetUpval w = (tt, λ n t. reg (a_of w) (read n))
row_falls p pc SetUpval w = (tt, λ n s. (tt, λ m t. next_falls at_once 30))
row_falls p pc GetTabUp w = (tt, λ o t. (tt, λ k s. gets_falls (read o) (read k) (a_of w)))
row_falls p pc GetTable w = (tt, λ o t. (tt, λ k s. gets_falls (read o) (read k) (a_of w)))
row_falls p pc GetI w = (tt, λ o t. gets_falls (read o) (spelled (c_of w)) (a_of w))
row_falls p pc GetField w = (tt, λ o t. (tt, λ k s. gets_falls (read o) (read k) (a_of w)))
row_falls p pc SetTabUp w = (tt, λ o t. (tt, λ k s. either_falls w _ (λ v u. sets_falls (read o) (read k) (read v))))
row_falls p pc SetTable w = (tt, λ o t. (tt, λ k s. either_falls w _ (λ v u. sets_falls (read o) (read k) (read v))))
row_falls p pc SetI w = (tt, λ o t. either_falls w _ (λ v u. sets_falls (read o) (spelled (b_of w)) (read v)))
row_falls p pc SetField w = (tt, λ o t. (tt, λ k s. either_falls w _ (λ v u. sets_falls (read o) (read k) (read v))))
row_falls p pc NewTable w = extra_falls p pc _ (λ ax. (tt, λ n t. (tt, λ m s. skip_falls at_once 30)))
row_falls p pc OpSelf w = (tt, λ o t. either_falls w _ (λ k u. operate_kept 30 index (read o ∷ read k ∷ []) for_value (a_of w + 1) (read o) (to_register (a_of w) (read 0)) low refl (reg (a_of w) (read 0))))
row_falls p pc AddI w = (tt, λ n s. fast_falls of_add (a_of w) _ _)
row_falls p pc AddK w = (tt, λ n s. (tt, λ m t. fast_falls of_add (a_of w) _ _))
row_falls p pc SubK w = (tt, λ n s. (tt, λ m t. fast_falls of_sub (a_of w) _ _))
row_falls p pc MulK w = (tt, λ n s. (tt, λ m t. fast_falls of_mul (a_of w) _ _))
row_falls p pc ModK w = (tt, λ n s. (tt, λ m t. fast_falls of_mod (a_of w) _ _))
row_falls p pc IDivK w = (tt, λ n s. (tt, λ m t. fast_falls of_idiv (a_of w) _ _))
row_falls p pc BAndK w = (tt, λ n s. (tt, λ m t. fast_falls of_band (a_of w) _ _))
row_falls p pc BOrK w = (tt, λ n s. (tt, λ m t. fast_falls of_bor (a_of w) _ _))
row_falls p pc BXorK w = (tt, λ n s. (tt, λ m t. fast_falls of_bxor (a_of w) _ _))
row_falls p pc ShrI w = (tt, λ n s. fast_falls of_shr (a_of w) _ _)
row_falls p pc ShlI w = (tt, λ n s. fast_falls of_shl (a_of w) (Some (sc_of w)) (integer_of_shape s))
row_falls p pc Add w = (tt, λ n s. (tt, λ m t. fast_falls of_add (a_of w) _ _))
row_falls p pc Sub w = (tt, λ n s. (tt, λ m t. fast_falls of_sub (a_of w) _ _))
row_falls p pc Mul w = (tt, λ n s. (tt, λ m t. fast_falls of_mul (a_of w) _ _))
row_falls p pc Mod w = (tt, λ n s. (tt, λ m t. fast_falls of_mod (a_of w) _ _))
row_falls p pc IDiv w = (tt, λ n s. (tt, λ m t. fast_falls of_idiv (a_of w) _ _))
row_falls p pc BAnd w = (tt, λ n s. (tt, λ m t. fast_falls of_band (a_of w) _ _))
row_falls p pc BOr w = (tt, λ n s. (tt, λ m t. fast_falls of_bor (a_of w) _ _))
row_falls p pc BXor w = (tt, λ n s. (tt, λ m t. fast_falls of_bxor (a_of w) _ _))
row_falls p pc Shl w = (tt, λ n s. (tt, λ m t. fast_falls of_shl (a_of w) _ _))
row_falls p pc Shr w = (tt, λ n s. (tt, λ m t. fast_falls of_shr (a_of w) _ _))
row_falls p pc MmBin w = (tt, λ x s. (tt, λ y t. handled_falls p pc w _ _))
row_falls p pc MmBinI w = (tt, λ x s. handled_falls p pc w _ _)
row_falls p pc MmBinK w = (tt, λ x s. (tt, λ y t. handled_falls p pc w _ _))
row_falls p pc Unm w = (tt, λ v s. unary_falls (arithmetic of_unm) (read v ∷ read v ∷ []) (a_of w))
row_falls p pc BNot w = (tt, λ v s. unary_falls (arithmetic of_bnot) (read v ∷ read v ∷ []) (a_of w))
row_falls p pc Not w = (tt, λ v s. reg (a_of w) (written (boolean (not (holds s)))))
row_falls p pc Len w = (tt, λ v s. unary_falls length' (read v ∷ []) (a_of w))
row_falls p pc Concat w = concat_falls w (b_of w) refl
row_falls p pc Close w = closes_fall at_once 30 (a_of w) low
row_falls p pc Tbc w = marks_fall p pc (a_of w) next (next_falls at_once 30) (next_falls at_once 10)
row_falls p pc Jmp w = jumps_fall (sj_of w)
row_falls p pc Eq w = (tt, λ x s. (tt, λ y t. compares_falls equal (read x) (read y) w))
row_falls p pc Lt w = (tt, λ x s. (tt, λ y t. compares_falls less (read x) (read y) w))
row_falls p pc Le w = (tt, λ x s. (tt, λ y t. compares_falls less_equal (read x) (read y) w))
row_falls p pc EqK w = (tt, λ x s. (tt, λ y t. compares_falls equal (read x) (read y) w))
row_falls p pc EqI w = (tt, λ x s. compares_falls equal (read x) (with_number w) w)
row_falls p pc LtI w = (tt, λ x s. compares_falls less (read x) (with_number w) w)
row_falls p pc LeI w = (tt, λ x s. compares_falls less_equal (read x) (with_number w) w)
row_falls p pc GtI w = (tt, λ x s. compares_falls less (with_number w) (read x) w)
row_falls p pc GeI w = (tt, λ x s. compares_falls less_equal (with_number w) (read x) w)
row_falls p pc Test w = (tt, λ x s. tested_falls at_once 30 (holds s) (k_of w))
row_falls p pc TestSet w = (tt, λ v s. test_set_falls (a_of w) v s (k_of w))
row_falls p pc Call w = (tt, λ f s. read_falls at_once 30 (a_of w + 1) (b_of w) _ (λ v t. call_falls 30 None (read f) v for_call (drop_pending (a_of w) ∷ cut_from (a_of w) ∷ []) refl refl low))
row_falls p pc TailCall w = (tt, λ f s. read_falls at_once 30 (a_of w + 1) (b_of w) _ (λ v t. tail_falls (read f) v))
row_falls p pc Return w = read_falls at_once 30 (a_of w) (b_of w) _ (λ v s. returns_fall at_once 30 (a_of w) _ low)
row_falls p pc Return0 w = returns_fall at_once 30 (a_of w) 0 low
row_falls p pc Return1 w = returns_fall at_once 30 (a_of w) 1 low
row_falls p pc ForLoop w = (tt, λ n i. (tt, λ n l. (tt, λ n d. round_falls (a_of w) (bx_of w) (integer_of_shape i) (integer_of_shape l) (integer_of_shape d))))
row_falls p pc ForPrep w = (tt, λ n i. (tt, λ n l. (tt, λ n d. prepares_fall (a_of w) (bx_of w) (integer_of_shape i) (integer_of_shape l) (integer_of_shape d))))
row_falls p pc TForPrep w = marks_fall p pc (a_of w + 3) (go_by (pos (bx_of w + 1))) (forward at_once 30 None (pos (bx_of w + 1)) (ahead (bx_of w + 1) (omega arith))) (forward at_once 10 None (pos (bx_of w + 1)) (ahead (bx_of w + 1) (omega arith)))
row_falls p pc TForCall w = (tt, λ f s. (tt, λ v t. call_falls 30 None (read f) v for_iterator (drop_pending (a_of w + 4) ∷ cut_from (a_of w + 4) ∷ []) refl refl low))
row_falls p pc TForLoop w = (tt, λ v s. iterated_falls (a_of w + 2) (bx_of w) v s)
row_falls p pc SetList w = list_falls p pc w
row_falls p pc Closure w = opens_fall (upvalues_of_inner p (bx_of w)) _ (tt, λ n t. reg (a_of w) (read n))
row_falls p pc VarArg w = (tt, λ v s. write_falls at_once 30 (a_of w) (c_of w) v)
row_falls p pc VarArgPrep w = next_falls at_once 30
row_falls p pc _ w = tt

pub text_falls : (p : Prototype) (pc : ℕ) → Comes 30 (expand_by at_once (text_at p pc))
text_falls p pc = by (at p pc)
  where
    with_op : (w : Instruction) (o : Option Opcode) → Comes 30 (expand_by at_once (text_by p pc w o))
    with_op w None = tt
    with_op w (Some op) = row_falls p pc op w

    by : (o : Option Instruction) → Comes 30 (expand_by at_once (elim o as (λ _. Text) [ None ↦ trap | Some w ↦ text_by p pc w (opcode_of w) ]))
    by None = tt
    by (Some w) = with_op w (opcode_of w)

-- what is left of an instruction

value_falls : (p : Prototype) (pc : ℕ) (op : Opcode) (w : Instruction) → Comes 0 (expand_by by_asking (value_comes p pc op w))
value_falls p pc MmBin w = before_falls by_asking 0 p pc
value_falls p pc MmBinI w = before_falls by_asking 0 p pc
value_falls p pc MmBinK w = before_falls by_asking 0 p pc
value_falls p pc op w = register_falls by_asking 0 (a_of w) (read 0)

pub rest_falls : (wait : Wait Value) (p : Prototype) (pc : ℕ) (op : Opcode) (w : Instruction) → Comes (wait_weight wait) (expand_by by_asking (rest wait p pc op w))
rest_falls running p pc op w = tt
rest_falls for_call p pc op w = write_falls by_asking 0 (a_of w) (c_of w) 0
rest_falls for_iterator p pc op w = write_falls by_asking 0 (a_of w + 4) (c_of w + 1) 0
rest_falls for_value p pc op w = value_falls p pc op w
rest_falls for_truth p pc op w = truth_falls by_asking 0 w
rest_falls dropped p pc op w = next_falls by_asking 0
rest_falls (for_concat count) p pc op w = joins_asks (20 + 10 * count) (a_of w) count (read 0) (omega arith)
rest_falls for_close p pc op w = closes_fall by_asking 0 (a_of w) tt
rest_falls (returning count) p pc op w = returns_fall by_asking 0 (a_of w) count tt
rest_falls (leaving e) p pc op w = fails_falls 0 true

pub waiting_falls : (wait : Wait Value) (p : Prototype) (pc : ℕ) → Comes (wait_weight wait) (expand_by by_asking (rest_at wait p pc))
waiting_falls wait p pc = by (at p pc)
  where
    with_op : (w : Instruction) (o : Option Opcode) → Comes (wait_weight wait) (expand_by by_asking (rest_by wait p pc w o))
    with_op w None = tt
    with_op w (Some op) = rest_falls wait p pc op w

    by : (o : Option Instruction) → Comes (wait_weight wait) (expand_by by_asking (elim o as (λ _. Text) [ None ↦ trap | Some w ↦ rest_by wait p pc w (opcode_of w) ]))
    by None = tt
    by (Some w) = with_op w (opcode_of w)
