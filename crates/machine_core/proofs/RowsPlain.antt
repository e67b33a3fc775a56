-- Each instruction's row but the one that makes a function, and what is left of each by a wait, fit the waits and make no function.
use Rattle.std.proofs.Common.{◌≡◌, ℕ, zero, suc, ◌+◌, ◌*◌, ◌==◌, Bool, true, false, cond, List, Option, Some, None, refl}
use Rattle.std.specs.Prelude.{ℤ, pos, negsuc}
use Rattle.code_core.specs.declared.opcode.Opcode.{Opcode}
use Rattle.code_core.specs.declared.opcode.Opcode.TheVariants.{Move, LoadI, LoadF, LoadK, LoadKx, LoadFalse, LFalseSkip, LoadTrue, LoadNil, GetUpval, SetUpval, GetTabUp, GetTable, GetI, GetField, SetTabUp, SetTable, SetI, SetField, NewTable, OpSelf, AddI, PowK, DivK, ShrI, ShlI, Pow, Div, MmBin, MmBinI, MmBinK, Unm, BNot, Not, Len, Concat, Close, Tbc, Jmp, Eq, Lt, Le, EqK, EqI, LtI, LeI, GtI, GeI, Test, TestSet, Call, TailCall, Return, Return0, Return1, ForLoop, ForPrep, TForPrep, TForCall, TForLoop, SetList, Closure, VarArg, VarArgPrep, ExtraArg, AddK, SubK, MulK, ModK, IDivK, BAndK, BOrK, BXorK, Add, Sub, Mul, Mod, IDiv, BAnd, BOr, BXor, Shl, Shr}
use Rattle.code_core.specs.declared.instruction.Instruction.{Instruction}
use Rattle.code_core.specs.Prototype.{Prototype}
use Rattle.code_core.specs.Instruction.{a_of, b_of, c_of, sc_of, k_of, bx_of, sj_of}
use Rattle.code_core.specs.Check.{in_front, extra_at}
use Rattle.int_core.specs.Value.{a_table, Shape, is_known, is_object, holds, same_truth, same_plain, same_integer, nil, integer}
use Rattle.machine_core.specs.World.{Wait, running, for_call, for_iterator, for_value, for_truth, dropped, for_concat, for_close, returning, leaving}
use Rattle.int_core.specs.Operations.{Event, of_add, of_shl, of_shr, of_sub, of_mul, of_mod, of_idiv, of_band, of_bor, of_bxor, computed, by_zero}
use Rattle.machine_core.specs.Text.{Arg, read, written, Text, write_register, read_register, trap, raise, own, open_cell, quick, make_function, operate, call, close, closable, pay, go_by}
use Rattle.machine_core.specs.InstructionRows.{row_of, value_comes, rest, counted, return_count, then, back, is_true, integer_of_shape, fast, event_numbered, handled, joins, starts, prepares, goes_round, runs, jumps, marks, fills_each, fills_from, fills_by, register_or_constant, read_values, write_values, to_register, to_register_before, closes, returns, fails, next, skip}
use Rattle.machine_core.specs.RowFits.{IsWaiting}

abbrev pub IsPlain : Prototype → ℕ → Opcode → Instruction → Text → Type 0
IsPlain p pc op w (own m k) = (n : ℕ) (s : Shape) → IsPlain p pc op w (k n s)
IsPlain p pc op w (open_cell r t) = IsPlain p pc op w t
IsPlain p pc op w (quick (make_function n) k) = ⊥
IsPlain p pc op w (quick q k) = (n : ℕ) → IsPlain p pc op w (k n)
IsPlain p pc op w (operate operation xs wait prepared t) = (t ≡ rest wait p pc op w) × IsPlain p pc op w t
IsPlain p pc op w (call f slot wait prepared) = IsWaiting wait
IsPlain p pc op w (close v e wait prepared) = IsWaiting wait
IsPlain p pc op w (closable v name t) = IsPlain p pc op w t
IsPlain p pc op w _ = Unit {0}

module _ (p : Prototype) (pc : ℕ) (op : Opcode) (w : Instruction) where
  abbrev Plain : Text → Type 0
  Plain t = IsPlain p pc op w t

  by_cond : (b : Bool) (t u : Text) → Plain t → Plain u → Plain (cond b t u)
  by_cond true t u f g = f
  by_cond false t u f g = g

  by_rk : (k : ℕ → Shape → Text) → ((n : ℕ) (s : Shape) → Plain (k n s)) → Plain (register_or_constant w k)
  by_rk k f = by_cond (k_of w) _ _ f f

  read_plain : (r n : ℕ) (k : ℕ → Shape → Text) → ((m : ℕ) (s : Shape) → Plain (k m s)) → Plain (read_values r n k)
  read_plain r zero k f = f
  read_plain r (suc n) k f = f

  write_plain : (r n slot : ℕ) → Plain (write_values r n slot)
  write_plain r zero slot = λ _ _. tt
  write_plain r (suc n) slot = λ _ _. tt

  extra_plain : (k : ℕ → Text) → ((ax : ℕ) → Plain (k ax)) → (e : Option ℕ) → Plain (elim e [ None ↦ trap | Some ax ↦ k ax ])
  extra_plain k f None = tt
  extra_plain k f (Some ax) = f ax

  fast_plain : (event : Event) (r : ℕ) (x y : Option ℤ) → Plain (fast event r x y)
  fast_plain event r None y = tt
  fast_plain event r (Some m) None = tt
  fast_plain event r (Some m) (Some n) = by (computed event m n)
    where
      by : (k : Option ℤ) → Plain (elim k [
        | None ↦ raise (by_zero event)
        | Some k ↦ then (write_register r (written (integer k))) skip
      ])
      by None = tt
      by (Some k) = λ _ _. tt

  before_plain : Plain (to_register_before p pc)
  before_plain = by (in_front p pc)
    where
      by : (x : Option Instruction) → Plain (elim x [ None ↦ trap | Some v ↦ to_register (a_of v) (read 0) ])
      by None = tt
      by (Some v) = λ _ _. tt

  closes_plain : (r : ℕ) → Plain (closes r)
  closes_plain r = λ v s. by_cond (is_true s) _ _ tt (λ _ _. tt)

  returns_plain : (from count : ℕ) → Plain (returns from count)
  returns_plain from count = λ v s. by_cond (is_true s) _ _ tt (λ _ _. tt)

  fails_plain : Plain fails
  fails_plain = λ v s. by_cond (is_true s) _ _ tt tt

  starts_plain : (a bx : ℕ) (i l d : ℤ) → Plain (starts a bx i l d)
  starts_plain a bx i l d = by_cond (same_integer d (pos 0)) _ _ tt (by_cond (runs i l d) _ _ (λ _ _ _ _. tt) tt)

  prepares_plain : (a bx : ℕ) (i l d : Option ℤ) → Plain (prepares a bx i l d)
  prepares_plain a bx i None d = tt
  prepares_plain a bx i (Some l) None = tt
  prepares_plain a bx None (Some l) (Some d) = tt
  prepares_plain a bx (Some i) (Some l) (Some d) = starts_plain a bx i l d

  round_plain : (a bx : ℕ) (i l d : Option ℤ) → Plain (goes_round a bx i l d)
  round_plain a bx None l d = tt
  round_plain a bx (Some i) None d = tt
  round_plain a bx (Some i) (Some l) None = tt
  round_plain a bx (Some i) (Some l) (Some d) = by_cond (same_integer l (pos 0)) _ _ tt (λ _ _ _ _ _ _ _. tt)

  jumps_plain : (z : ℤ) → Plain (jumps z)
  jumps_plain (pos n) = tt
  jumps_plain (negsuc n) = λ _. tt

  marks_plain : (r : ℕ) (t : Text) → Plain t → Plain (marks p pc r t)
  marks_plain r t f = λ v s. by_cond (holds s) _ _ (λ _ _. f) f

  each_plain : (n t r last : ℕ) (z : ℤ) → Plain (fills_each n t r last z)
  each_plain zero t r last z = λ _ _. tt
  each_plain (suc n) t r last z = λ _ _ _. each_plain n t (suc r) (suc last) z

  fills_plain : (s : Shape) (t : ℕ) (last : ℕ) (z : ℤ) → Plain (fills_by s t w last z)
  fills_plain (is_object a_table) t last z = from (b_of w)
    where
      from : (n : ℕ) → Plain (fills_from n t (a_of w + 1) last z)
      from zero = λ _ _ _ _ _. tt
      from (suc n) = each_plain (suc n) t (a_of w + 1) last z
  fills_plain _ t last z = tt

handled_plain : (p : Prototype) (pc : ℕ) (op : Opcode) (w : Instruction) (e : Option Event) (xs : List Arg)
    → to_register_before p pc ≡ rest {V = Arg} for_value p pc op w → IsPlain p pc op w (handled p pc w e xs)
handled_plain p pc op w None xs h = tt
handled_plain p pc op w (Some event) xs h = (h, before_plain p pc op w)

joins_plain : (p : Prototype) (pc : ℕ) (op : Opcode) (w : Instruction) (i : ℕ) (x : Arg) → IsPlain p pc op w (joins (a_of w) i x)
joins_plain p pc op w zero x = λ _ _. tt
joins_plain p pc op w (suc i) x = λ u s. (refl, joins_plain p pc op w i (read 0))

value_plain : (p : Prototype) (pc : ℕ) (op : Opcode) (w : Instruction) → IsPlain p pc op w (value_comes p pc op w)
value_plain p pc MmBin w = before_plain p pc MmBin w
value_plain p pc MmBinI w = before_plain p pc MmBinI w
value_plain p pc MmBinK w = before_plain p pc MmBinK w
value_plain p pc op w = λ _ _. tt

-- what is left of an instruction by a wait fits the waits again
pub rest_plain : {V : Type 0} (wait : Wait V) (p : Prototype) (pc : ℕ) (op : Opcode) (w : Instruction) → IsPlain p pc op w (rest wait p pc op w)
rest_plain running p pc op w = tt
rest_plain for_call p pc op w = write_plain p pc op w (a_of w) (c_of w) 0
rest_plain for_iterator p pc op w = write_plain p pc op w (a_of w + 4) (c_of w + 1) 0
rest_plain for_value p pc op w = value_plain p pc op w
rest_plain for_truth p pc op w = λ _ _. tt
rest_plain dropped p pc op w = tt
rest_plain (for_concat left) p pc op w = joins_plain p pc op w left (read 0)
rest_plain for_close p pc op w = closes_plain p pc op w (a_of w)
rest_plain (returning count) p pc op w = returns_plain p pc op w (a_of w) count
rest_plain (leaving e) p pc op w = fails_plain p pc op w

concat_plain : (p : Prototype) (pc : ℕ) (w : Instruction) (n : ℕ) → IsPlain p pc Concat w (elim n [
  | zero ↦ next
  | suc m ↦ own (read_register (a_of w + m)) (λ v _. joins (a_of w) m (read v))
])
concat_plain p pc w zero = tt
concat_plain p pc w (suc m) = λ v s. joins_plain p pc Concat w m (read v)

loop_plain : (p : Prototype) (pc : ℕ) (w : Instruction) (s : Shape) (v : ℕ) → IsPlain p pc TForLoop w (elim s [
  | is_known k ↦ cond (same_plain k nil) next (quick pay (λ _. then (write_register (a_of w + 2) (read v)) (back (bx_of w))))
  | is_object kind ↦ quick pay (λ _. then (write_register (a_of w + 2) (read v)) (back (bx_of w)))
])
loop_plain p pc w (is_known k) v = by_cond p pc TForLoop w (same_plain k nil) _ _ tt (λ _ _ _. tt)
loop_plain p pc w (is_object kind) v = λ _ _ _. tt

-- each row is so but the one that makes a function
abbrev pub RowIsPlain : Prototype → ℕ → Opcode → Instruction → Type 0
RowIsPlain p pc Closure w = Unit {0}
RowIsPlain p pc op w = IsPlain p pc op w (row_of p pc op w)

pub row_plain : (p : Prototype) (pc : ℕ) (op : Opcode) (w : Instruction) → RowIsPlain p pc op w
row_plain p pc Move w = λ _ _ _ _. tt
row_plain p pc LoadI w = λ _ _. tt
row_plain p pc LoadK w = λ _ _ _ _. tt
row_plain p pc LoadKx w = extra_plain p pc LoadKx w _ (λ ax _ _ _ _. tt) (extra_at p pc)
row_plain p pc LoadFalse w = λ _ _. tt
row_plain p pc LFalseSkip w = λ _ _. tt
row_plain p pc LoadTrue w = λ _ _. tt
row_plain p pc LoadNil w = λ _ _. tt
row_plain p pc GetUpval w = λ _ _ _. tt
row_plain p pc SetUpval w = λ _ _ _. tt
row_plain p pc GetTabUp w = λ _ _ _. (refl, λ _ _. tt)
row_plain p pc GetTable w = λ _ _ _ _. (refl, λ _ _. tt)
row_plain p pc GetI w = λ _ _. (refl, λ _ _. tt)
row_plain p pc GetField w = λ _ _ _ _. (refl, λ _ _. tt)
row_plain p pc SetTabUp w = λ _ _ _. by_rk p pc SetTabUp w _ (λ _ _. (refl, tt))
row_plain p pc SetTable w = λ _ _ _ _. by_rk p pc SetTable w _ (λ _ _. (refl, tt))
row_plain p pc SetI w = λ _ _. by_rk p pc SetI w _ (λ _ _. (refl, tt))
row_plain p pc SetField w = λ _ _ _ _. by_rk p pc SetField w _ (λ _ _. (refl, tt))
row_plain p pc NewTable w = extra_plain p pc NewTable w _ (λ ax _ _ _. tt) (extra_at p pc)
row_plain p pc OpSelf w = λ _ _. by_rk p pc OpSelf w _ (λ _ _. (refl, λ _ _. tt))
row_plain p pc AddI w = λ _ s. fast_plain p pc AddI w of_add (a_of w) (integer_of_shape s) (Some (sc_of w))
row_plain p pc ShrI w = λ _ s. fast_plain p pc ShrI w of_shr (a_of w) (integer_of_shape s) (Some (sc_of w))
row_plain p pc ShlI w = λ _ s. fast_plain p pc ShlI w of_shl (a_of w) (Some (sc_of w)) (integer_of_shape s)
row_plain p pc MmBin w = λ _ _ _ _. handled_plain p pc MmBin w (event_numbered (c_of w)) _ refl
row_plain p pc MmBinI w = λ _ _. handled_plain p pc MmBinI w (event_numbered (c_of w)) _ refl
row_plain p pc MmBinK w = λ _ _ _ _. handled_plain p pc MmBinK w (event_numbered (c_of w)) _ refl
row_plain p pc Unm w = λ _ _. (refl, λ _ _. tt)
row_plain p pc BNot w = λ _ _. (refl, λ _ _. tt)
row_plain p pc Not w = λ _ _ _ _. tt
row_plain p pc Len w = λ _ _. (refl, λ _ _. tt)
row_plain p pc Concat w = concat_plain p pc w (b_of w)
row_plain p pc Close w = closes_plain p pc Close w (a_of w)
row_plain p pc Tbc w = marks_plain p pc Tbc w (a_of w) next tt
row_plain p pc Jmp w = jumps_plain p pc Jmp w (sj_of w)
row_plain p pc Eq w = λ _ _ _ _. (refl, λ _ _. tt)
row_plain p pc Lt w = λ _ _ _ _. (refl, λ _ _. tt)
row_plain p pc Le w = λ _ _ _ _. (refl, λ _ _. tt)
row_plain p pc EqK w = λ _ _ _ _. (refl, λ _ _. tt)
row_plain p pc EqI w = λ _ _. (refl, λ _ _. tt)
row_plain p pc LtI w = λ _ _. (refl, λ _ _. tt)
row_plain p pc LeI w = λ _ _. (refl, λ _ _. tt)
row_plain p pc GtI w = λ _ _. (refl, λ _ _. tt)
row_plain p pc GeI w = λ _ _. (refl, λ _ _. tt)
row_plain p pc Test w = λ _ _. tt
row_plain p pc TestSet w = λ v s. by_cond p pc TestSet w (same_truth (holds s) (k_of w)) _ _ (λ _ _. tt) tt
row_plain p pc Call w = λ _ _. read_plain p pc Call w (a_of w + 1) (b_of w) _ (λ _ _. tt)
row_plain p pc TailCall w = λ _ _. read_plain p pc TailCall w (a_of w + 1) (b_of w) _ (λ _ _. tt)
row_plain p pc Return w = read_plain p pc Return w (a_of w) (b_of w) _ (λ _ s. returns_plain p pc Return w (a_of w) (cond (b_of w == 0) (counted s) (return_count Return w)))
row_plain p pc Return0 w = returns_plain p pc Return0 w (a_of w) 0
row_plain p pc Return1 w = returns_plain p pc Return1 w (a_of w) 1
row_plain p pc ForLoop w = λ _ i _ l _ d. round_plain p pc ForLoop w (a_of w) (bx_of w) (integer_of_shape i) (integer_of_shape l) (integer_of_shape d)
row_plain p pc ForPrep w = λ _ i _ l _ d. prepares_plain p pc ForPrep w (a_of w) (bx_of w) (integer_of_shape i) (integer_of_shape l) (integer_of_shape d)
row_plain p pc TForPrep w = marks_plain p pc TForPrep w (a_of w + 3) (go_by (pos (bx_of w + 1))) tt
row_plain p pc TForCall w = λ _ _ _ _. tt
row_plain p pc TForLoop w = λ v s. loop_plain p pc w s v
row_plain p pc SetList w = by_cond p pc SetList w (k_of w) _ _ (extra_plain p pc SetList w _ (λ ax t s. fills_plain p pc SetList w s t (c_of w + 256 * ax) (pos 2)) (extra_at p pc)) (λ t s. fills_plain p pc SetList w s t (c_of w) (pos 1))
row_plain p pc VarArg w = λ v s. write_plain p pc VarArg w (a_of w) (c_of w) v
row_plain p pc VarArgPrep w = tt
row_plain p pc LoadF w = tt
row_plain p pc PowK w = tt
row_plain p pc DivK w = tt
row_plain p pc Pow w = tt
row_plain p pc Div w = tt
row_plain p pc ExtraArg w = tt
row_plain p pc Closure w = tt
-- two registers, or a register and a constant
row_plain p pc AddK w = λ _ s _ t. fast_plain p pc AddK w of_add (a_of w) (integer_of_shape s) (integer_of_shape t)
row_plain p pc SubK w = λ _ s _ t. fast_plain p pc SubK w of_sub (a_of w) (integer_of_shape s) (integer_of_shape t)
row_plain p pc MulK w = λ _ s _ t. fast_plain p pc MulK w of_mul (a_of w) (integer_of_shape s) (integer_of_shape t)
row_plain p pc ModK w = λ _ s _ t. fast_plain p pc ModK w of_mod (a_of w) (integer_of_shape s) (integer_of_shape t)
row_plain p pc IDivK w = λ _ s _ t. fast_plain p pc IDivK w of_idiv (a_of w) (integer_of_shape s) (integer_of_shape t)
row_plain p pc BAndK w = λ _ s _ t. fast_plain p pc BAndK w of_band (a_of w) (integer_of_shape s) (integer_of_shape t)
row_plain p pc BOrK w = λ _ s _ t. fast_plain p pc BOrK w of_bor (a_of w) (integer_of_shape s) (integer_of_shape t)
row_plain p pc BXorK w = λ _ s _ t. fast_plain p pc BXorK w of_bxor (a_of w) (integer_of_shape s) (integer_of_shape t)
row_plain p pc Add w = λ _ s _ t. fast_plain p pc Add w of_add (a_of w) (integer_of_shape s) (integer_of_shape t)
row_plain p pc Sub w = λ _ s _ t. fast_plain p pc Sub w of_sub (a_of w) (integer_of_shape s) (integer_of_shape t)
row_plain p pc Mul w = λ _ s _ t. fast_plain p pc Mul w of_mul (a_of w) (integer_of_shape s) (integer_of_shape t)
row_plain p pc Mod w = λ _ s _ t. fast_plain p pc Mod w of_mod (a_of w) (integer_of_shape s) (integer_of_shape t)
row_plain p pc IDiv w = λ _ s _ t. fast_plain p pc IDiv w of_idiv (a_of w) (integer_of_shape s) (integer_of_shape t)
row_plain p pc BAnd w = λ _ s _ t. fast_plain p pc BAnd w of_band (a_of w) (integer_of_shape s) (integer_of_shape t)
row_plain p pc BOr w = λ _ s _ t. fast_plain p pc BOr w of_bor (a_of w) (integer_of_shape s) (integer_of_shape t)
row_plain p pc BXor w = λ _ s _ t. fast_plain p pc BXor w of_bxor (a_of w) (integer_of_shape s) (integer_of_shape t)
row_plain p pc Shl w = λ _ s _ t. fast_plain p pc Shl w of_shl (a_of w) (integer_of_shape s) (integer_of_shape t)
row_plain p pc Shr w = λ _ s _ t. fast_plain p pc Shr w of_shr (a_of w) (integer_of_shape s) (integer_of_shape t)
