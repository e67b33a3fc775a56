-- Code that passes the test is guarded.
use Rattle.std.proofs.Common.{◌≡◌, ℕ, zero, suc, ◌+◌, ◌*◌, ◌==◌, ◌≤◌, Bool, true, false, cond, List, [], ◌∷◌, Option, Some, None, refl, subst, arith}
use Rattle.std.specs.Prelude.{ℤ, pos, negsuc, ◌||◌, not, nat_eq, nat_lt, slice_get, IsTrue, ◌&&◌}
use Rattle.std.specs.List.{list_all}
use Rattle.std.proofs.lemmas.Bool.Decides.{nat_tests}
use Rattle.code_core.specs.declared.opcode.Opcode.{Opcode}
use Rattle.code_core.specs.declared.opcode.Opcode.TheVariants.{Move, LoadI, LoadK, LoadKx, LoadFalse, LFalseSkip, LoadTrue, LoadNil, GetUpval, SetUpval, GetTabUp, GetTable, GetI, GetField, SetTabUp, SetTable, SetI, SetField, NewTable, OpSelf, AddI, AddK, SubK, MulK, ModK, IDivK, BAndK, BOrK, BXorK, ShrI, ShlI, Add, Sub, Mul, Mod, IDiv, BAnd, BOr, BXor, Shl, Shr, MmBin, MmBinI, MmBinK, Unm, BNot, Not, Len, Concat, Close, Tbc, Jmp, Eq, Lt, Le, EqK, EqI, LtI, LeI, GtI, GeI, Test, TestSet, Call, TailCall, Return, Return0, Return1, ForLoop, ForPrep, TForPrep, TForCall, TForLoop, SetList, Closure, VarArg}
use Rattle.code_core.specs.declared.instruction.Instruction.{Instruction}
use Rattle.code_core.specs.declared.proto.UpDesc.{UpDesc}
use Rattle.code_core.specs.Prototype.{Prototype}
use Rattle.code_core.specs.Instruction.{opcode_of, a_of, b_of, c_of, sc_of, k_of, bx_of, sj_of}
use Rattle.code_core.specs.Check.{in_front, extra_at}
use Rattle.code_core.specs.Fields.{registers}
use Rattle.int_core.specs.Value.{a_table, Value, Shape, is_known, is_object, holds, same_truth, same_plain, same_integer, nil, integer}
use Rattle.int_core.specs.Operations.{Event, of_add, of_sub, of_mul, of_mod, of_idiv, of_band, of_bor, of_bxor, of_shl, of_shr, computed, by_zero}
use Rattle.machine_core.specs.World.{Wait, running, for_call, for_iterator, for_value, for_truth, dropped, for_concat, for_close, returning, leaving}
use Rattle.machine_core.specs.Text.{Arg, read, written, Text, write_register, read_register, read_constant, trap, raise, own, quick, pay, go_by}
use Rattle.machine_core.specs.InstructionRows.{row_of, value_comes, rest, with_register, with_constant, counted, return_count, then, back, with_loop, is_true, integer_of_shape, fast, event_numbered, handled, joins, starts, prepares, goes_round, runs, jumps, marks, opens, upvalues_of_inner, fills_each, fills_from, fills_by, register_or_constant, read_values, write_values, to_register, to_register_before, closes, returns, next, skip}
use Rattle.machine_sound.specs.Sound.{waits_at}
use Rattle.machine_sound.proofs.Values.{both_of, all_get, lt_of}
use Rattle.prelude_stays.specs.Guards.{Guard, guard_with, Reads, Row, apart, takes, from_upvalue, from_register, from_register_named}
use Rattle.prelude_stays.proofs.Steps.{fails_reads}
use Rattle.prelude_guard.specs.Checks.{takes_by, is_taken, takes_below_by, takes_below, reads_from, names_none, spares, is_apart}
use Rattle.machine_sound.proofs.RowEnds.{false_of}

-- what is taken to registers below a place is taken to none from there on
one_above : (held : ℕ → Bool) (from r : ℕ) (w : Instruction) (op : Option Opcode) → from ≤ r → IsTrue (takes_below_by held from w op) → takes_by held r w op ≡ false
one_above held from r w (Some GetUpval) l h = by (held (b_of w)) h
  where
    by : (b : Bool) → IsTrue (not b || nat_lt (a_of w) from) → (b && nat_eq (a_of w) r) ≡ false
    by false h = refl
    by true h = let c = lt_of (a_of w) from h in grind (arith, nat_tests)
one_above held from r w op l h = refl

none_above : (held : ℕ → Bool) (from : ℕ) (code : List Instruction) → IsTrue (list_all (takes_below held from) code) → (r : ℕ) → from ≤ r → is_taken held code r ≡ false
none_above held from [] h r l = refl
none_above held from (w ∷ code) h r l =
    let b = both_of (takes_below held from w) (list_all (takes_below held from) code) h in
    rw (one_above held from r w (opcode_of w) l b.0, none_above held from code b.1 r l) refl

module _ (held : ℕ → Bool) (code : List Instruction) where
  abbrev G : Guard
  G = guard_with held code

  abbrev Free : ℕ → Type 0
  Free r = is_taken held code r ≡ false

  abbrev Above : ℕ → Type 0
  Above from = (r : ℕ) → from ≤ r → Free r

  named : (op : Opcode) (w : Instruction) → IsTrue (spares held code op w) → (i r : ℕ) → slice_get (registers op w) i ≡ Some r → Free r
  named op w h i r e =
      let b = both_of (names_none held code op w) (not (reads_from op) || list_all (takes_below held (a_of w)) code) h in
      false_of (is_taken held code r) (all_get (λ r. not (is_taken held code r)) (registers op w) b.0 i r e)

  above : (op : Opcode) (w : Instruction) → reads_from op ≡ true → IsTrue (spares held code op w) → Above (a_of w)
  above op w f h =
      let b = both_of (names_none held code op w) (not (reads_from op) || list_all (takes_below held (a_of w)) code) h in
      none_above held (a_of w) code (subst (λ x. IsTrue (not x || list_all (takes_below held (a_of w)) code)) f b.1)

  on_cond : (b : Bool) (t u : Text) → Reads G t → Reads G u → Reads G (cond b t u)
  on_cond true t u f g = f
  on_cond false t u f g = g

  on_rk : (w : Instruction) (k : ℕ → Shape → Text) → (k_of w ≡ false → Free (c_of w)) → ((n : ℕ) (s : Shape) → Reads G (k n s)) → Reads G (register_or_constant w k)
  on_rk w k f h = by (k_of w) refl
    where
      by : (b : Bool) → k_of w ≡ b → Reads G (cond b (own (read_constant (c_of w)) k) (own (read_register (c_of w)) k))
      by true e = (tt, h)
      by false e = (f e, h)

  values_read : (r n : ℕ) (k : ℕ → Shape → Text) → Above r → ((m : ℕ) (s : Shape) → Reads G (k m s)) → Reads G (read_values r n k)
  values_read r zero k a h = (a, h)
  values_read r (suc n) k a h = (a, h)

  values_written : (r n slot : ℕ) → Reads G (write_values r n slot)
  values_written r zero slot = (tt, λ _ _. tt)
  values_written r (suc n) slot = (tt, λ _ _. tt)

  on_extra : (k : ℕ → Text) → ((ax : ℕ) → Reads G (k ax)) → (e : Option ℕ) → Reads G (elim e [ None ↦ trap | Some ax ↦ k ax ])
  on_extra k f None = tt
  on_extra k f (Some ax) = f ax

  fast_reads : (event : Event) (r : ℕ) (x y : Option ℤ) → Reads G (fast event r x y)
  fast_reads event r None y = tt
  fast_reads event r (Some m) None = tt
  fast_reads event r (Some m) (Some n) = by (computed event m n)
    where
      by : (k : Option ℤ) → Reads G (elim k [
        | None ↦ raise (by_zero event)
        | Some k ↦ then (write_register r (written (integer k))) skip
      ])
      by None = tt
      by (Some k) = (tt, λ _ _. tt)

  register_reads : (event : Event) (w : Instruction) → Free (b_of w) → Free (c_of w) → Reads G (with_register event w)
  register_reads event w f g = (f, λ _ s. (g, λ _ t. fast_reads event (a_of w) (integer_of_shape s) (integer_of_shape t)))

  constant_reads : (event : Event) (w : Instruction) → Free (b_of w) → Reads G (with_constant event w)
  constant_reads event w f = (f, λ _ s. (tt, λ _ t. fast_reads event (a_of w) (integer_of_shape s) (integer_of_shape t)))

  before_reads : (p : Prototype) (pc : ℕ) → Reads G (to_register_before p pc)
  before_reads p pc = by (in_front p pc)
    where
      by : (x : Option Instruction) → Reads G (elim x [ None ↦ trap | Some v ↦ to_register (a_of v) (read 0) ])
      by None = tt
      by (Some v) = (tt, λ _ _. tt)

  handled_reads : (p : Prototype) (pc : ℕ) (w : Instruction) (e : Option Event) (xs : List Arg) → Reads G (handled p pc w e xs)
  handled_reads p pc w None xs = tt
  handled_reads p pc w (Some event) xs = (tt, before_reads p pc)

  closes_reads : (r : ℕ) → Reads G (closes r)
  closes_reads r = (tt, λ v s. on_cond (is_true s) _ _ (tt, (tt, tt)) (tt, λ _ _. tt))

  returns_reads : (from count : ℕ) → Above from → Reads G (returns from count)
  returns_reads from count a = (tt, λ v s. on_cond (is_true s) _ _ (tt, (tt, (tt, tt))) (a, λ _ _. tt))

  starts_reads : (a bx : ℕ) (i l d : ℤ) → Reads G (starts a bx i l d)
  starts_reads a bx i l d = on_cond (same_integer d (pos 0)) _ _ tt (on_cond (runs i l d) _ _ (tt, λ _ _. (tt, λ _ _. tt)) tt)

  prepares_reads : (a bx : ℕ) (i l d : Option ℤ) → Reads G (prepares a bx i l d)
  prepares_reads a bx i None d = tt
  prepares_reads a bx i (Some l) None = tt
  prepares_reads a bx None (Some l) (Some d) = tt
  prepares_reads a bx (Some i) (Some l) (Some d) = starts_reads a bx i l d

  round_reads : (a bx : ℕ) (i l d : Option ℤ) → Reads G (goes_round a bx i l d)
  round_reads a bx None l d = tt
  round_reads a bx (Some i) None d = tt
  round_reads a bx (Some i) (Some l) None = tt
  round_reads a bx (Some i) (Some l) (Some d) = on_cond (same_integer l (pos 0)) _ _ tt (tt, λ _. (tt, λ _ _. (tt, λ _ _. (tt, λ _ _. tt))))

  jumps_reads : (z : ℤ) → Reads G (jumps z)
  jumps_reads (pos n) = tt
  jumps_reads (negsuc n) = (tt, λ _. tt)

  marks_reads : (p : Prototype) (pc r : ℕ) (t : Text) → Free r → Reads G t → Reads G (marks p pc r t)
  marks_reads p pc r t f h = (f, λ v s. on_cond (holds s) _ _ (f, λ _ _. h) h)

  opens_reads : (us : List UpDesc) (t : Text) → Reads G t → Reads G (opens us t)
  opens_reads [] t f = f
  opens_reads (u ∷ us) t f = on_cond u.in_stack _ _ (opens_reads us t f) (opens_reads us t f)

  each_reads : (n t r last : ℕ) (z : ℤ) → Above r → Reads G (fills_each n t r last z)
  each_reads zero t r last z a = (tt, λ _ _. tt)
  each_reads (suc n) t r last z a = (a r (omega arith), λ _ _. (tt, λ _. each_reads n t (suc r) (suc last) z (λ q l. a q (omega arith))))

  from_reads : (n t r last : ℕ) (z : ℤ) → Above r → Reads G (fills_from n t r last z)
  from_reads zero t r last z a = (a, λ _ _. (tt, λ _. (tt, λ _ _. tt)))
  from_reads (suc n) t r last z a = each_reads (suc n) t r last z a

  fills_reads : (s : Shape) (t : ℕ) (w : Instruction) (last : ℕ) (z : ℤ) → Above (a_of w) → Reads G (fills_by s t w last z)
  fills_reads (is_object a_table) t w last z a = from_reads (b_of w) t (a_of w + 1) last z (λ r l. a r (omega arith))
  fills_reads _ t w last z a = tt

  joins_reads : (r i : ℕ) (x : Arg) → Above r → Reads G (joins r i x)
  joins_reads r zero x a = (tt, λ _ _. tt)
  joins_reads r (suc i) x a = (a (r + i) (omega arith), λ u s. (tt, joins_reads r i (read 0) a))

  value_reads : (p : Prototype) (pc : ℕ) (op : Opcode) (w : Instruction) → Reads G (value_comes p pc op w)
  value_reads p pc MmBin w = before_reads p pc
  value_reads p pc MmBinI w = before_reads p pc
  value_reads p pc MmBinK w = before_reads p pc
  value_reads p pc op w = (tt, λ _ _. tt)

  concat_reads : (w : Instruction) (n : ℕ) → Above (a_of w) → Reads G (elim n [
    | zero ↦ next
    | suc m ↦ own (read_register (a_of w + m)) (λ v _. joins (a_of w) m (read v))
  ])
  concat_reads w zero a = tt
  concat_reads w (suc m) a = (a (a_of w + m) (omega arith), λ v s. joins_reads (a_of w) m (read v) a)

  loop_reads : (w : Instruction) (s : Shape) (v : ℕ) → Reads G (elim s [
    | is_known k ↦ cond (same_plain k nil) next (quick pay (λ _. then (write_register (a_of w + 2) (read v)) (back (bx_of w))))
    | is_object kind ↦ quick pay (λ _. then (write_register (a_of w + 2) (read v)) (back (bx_of w)))
  ])
  loop_reads w (is_known k) v = on_cond (same_plain k nil) _ _ tt (tt, λ _. (tt, λ _ _. tt))
  loop_reads w (is_object kind) v = (tt, λ _. (tt, λ _ _. tt))

  with_three : (a : ℕ) (k : Option ℤ → Option ℤ → Option ℤ → Text) → Above a → ((i l d : Option ℤ) → Reads G (k i l d)) → Reads G (with_loop a k)
  with_three a k f h = (f a (omega arith), λ _ i. (f (a + 1) (omega arith), λ _ l. (f (a + 2) (omega arith), λ _ d. h (integer_of_shape i) (integer_of_shape l) (integer_of_shape d))))

  pub row_reads : (p : Prototype) (pc : ℕ) (op : Opcode) (w : Instruction) → IsTrue (is_apart held code op w) → Row G p pc (row_of p pc op w)
  row_reads p pc Move w h = apart (named Move w h 1 (b_of w) refl, λ _ _. (tt, λ _ _. tt))
  row_reads p pc LoadI w h = apart (tt, λ _ _. tt)
  row_reads p pc LoadK w h = apart (tt, λ _ _. (tt, λ _ _. tt))
  row_reads p pc LoadKx w h = apart (on_extra _ (λ ax. (tt, λ _ _. (tt, λ _ _. tt))) (extra_at p pc))
  row_reads p pc LoadFalse w h = apart (tt, λ _ _. tt)
  row_reads p pc LFalseSkip w h = apart (tt, λ _ _. tt)
  row_reads p pc LoadTrue w h = apart (tt, λ _ _. tt)
  row_reads p pc LoadNil w h = apart (tt, λ _ _. tt)
  row_reads p pc GetUpval w h = by (held (b_of w)) refl h
    where
      by : (b : Bool) → held (b_of w) ≡ b → IsTrue (not b || is_taken held code (a_of w)) → Row G p pc (row_of p pc GetUpval w)
      by true e h = takes w h refl
      by false e h = apart (e, λ _. (tt, λ _ _. tt))
  row_reads p pc SetUpval w h = let b = both_of (not (held (b_of w))) (spares held code SetUpval w) h in apart (named SetUpval w b.1 0 (a_of w) refl, λ _ _. (false_of (held (b_of w)) b.0, λ _. tt))
  row_reads p pc GetTabUp w h = from_upvalue w refl
  row_reads p pc GetTable w h = from_register w (false_of (is_taken held code (c_of w)) h) refl
  row_reads p pc GetI w h = apart (named GetI w h 1 (b_of w) refl, λ _ _. (tt, (tt, λ _ _. tt)))
  row_reads p pc GetField w h = from_register_named w refl
  row_reads p pc SetTabUp w h =
      let b = both_of (not (held (a_of w))) (spares held code SetTabUp w) h in
      apart (false_of (held (a_of w)) b.0, λ _. (tt, λ _ _. on_rk w _ (λ e. named SetTabUp w b.1 0 (c_of w) (rw e refl)) (λ _ _. (tt, tt))))
  row_reads p pc SetTable w h = apart (named SetTable w h 0 (a_of w) refl, λ _ _. (named SetTable w h 1 (b_of w) refl, λ _ _. on_rk w _ (λ e. named SetTable w h 2 (c_of w) (rw e refl)) (λ _ _. (tt, tt))))
  row_reads p pc SetI w h = apart (named SetI w h 0 (a_of w) refl, λ _ _. on_rk w _ (λ e. named SetI w h 1 (c_of w) (rw e refl)) (λ _ _. (tt, tt)))
  row_reads p pc SetField w h = apart (named SetField w h 0 (a_of w) refl, λ _ _. (tt, λ _ _. on_rk w _ (λ e. named SetField w h 1 (c_of w) (rw e refl)) (λ _ _. (tt, tt))))
  row_reads p pc NewTable w h = apart (on_extra _ (λ ax. (tt, λ _. (tt, λ _ _. tt))) (extra_at p pc))
  row_reads p pc OpSelf w h = apart (named OpSelf w h 1 (b_of w) refl, λ _ _. on_rk w _ (λ e. named OpSelf w h 2 (c_of w) (rw e refl)) (λ _ _. ((tt, tt), (tt, λ _ _. tt))))
  row_reads p pc AddI w h = apart (named AddI w h 1 (b_of w) refl, λ _ s. fast_reads of_add (a_of w) (integer_of_shape s) (Some (sc_of w)))
  row_reads p pc AddK w h = apart (constant_reads of_add w (named AddK w h 1 (b_of w) refl))
  row_reads p pc SubK w h = apart (constant_reads of_sub w (named SubK w h 1 (b_of w) refl))
  row_reads p pc MulK w h = apart (constant_reads of_mul w (named MulK w h 1 (b_of w) refl))
  row_reads p pc ModK w h = apart (constant_reads of_mod w (named ModK w h 1 (b_of w) refl))
  row_reads p pc IDivK w h = apart (constant_reads of_idiv w (named IDivK w h 1 (b_of w) refl))
  row_reads p pc BAndK w h = apart (constant_reads of_band w (named BAndK w h 1 (b_of w) refl))
  row_reads p pc BOrK w h = apart (constant_reads of_bor w (named BOrK w h 1 (b_of w) refl))
  row_reads p pc BXorK w h = apart (constant_reads of_bxor w (named BXorK w h 1 (b_of w) refl))
  row_reads p pc ShrI w h = apart (named ShrI w h 1 (b_of w) refl, λ _ s. fast_reads of_shr (a_of w) (integer_of_shape s) (Some (sc_of w)))
  row_reads p pc ShlI w h = apart (named ShlI w h 1 (b_of w) refl, λ _ s. fast_reads of_shl (a_of w) (Some (sc_of w)) (integer_of_shape s))
  row_reads p pc Add w h = apart (register_reads of_add w (named Add w h 1 (b_of w) refl) (named Add w h 2 (c_of w) refl))
  row_reads p pc Sub w h = apart (register_reads of_sub w (named Sub w h 1 (b_of w) refl) (named Sub w h 2 (c_of w) refl))
  row_reads p pc Mul w h = apart (register_reads of_mul w (named Mul w h 1 (b_of w) refl) (named Mul w h 2 (c_of w) refl))
  row_reads p pc Mod w h = apart (register_reads of_mod w (named Mod w h 1 (b_of w) refl) (named Mod w h 2 (c_of w) refl))
  row_reads p pc IDiv w h = apart (register_reads of_idiv w (named IDiv w h 1 (b_of w) refl) (named IDiv w h 2 (c_of w) refl))
  row_reads p pc BAnd w h = apart (register_reads of_band w (named BAnd w h 1 (b_of w) refl) (named BAnd w h 2 (c_of w) refl))
  row_reads p pc BOr w h = apart (register_reads of_bor w (named BOr w h 1 (b_of w) refl) (named BOr w h 2 (c_of w) refl))
  row_reads p pc BXor w h = apart (register_reads of_bxor w (named BXor w h 1 (b_of w) refl) (named BXor w h 2 (c_of w) refl))
  row_reads p pc Shl w h = apart (register_reads of_shl w (named Shl w h 1 (b_of w) refl) (named Shl w h 2 (c_of w) refl))
  row_reads p pc Shr w h = apart (register_reads of_shr w (named Shr w h 1 (b_of w) refl) (named Shr w h 2 (c_of w) refl))
  row_reads p pc MmBin w h = apart (named MmBin w h 0 (a_of w) refl, λ _ _. (named MmBin w h 1 (b_of w) refl, λ _ _. handled_reads p pc w (event_numbered (c_of w)) _))
  row_reads p pc MmBinI w h = apart (named MmBinI w h 0 (a_of w) refl, λ _ _. handled_reads p pc w (event_numbered (c_of w)) _)
  row_reads p pc MmBinK w h = apart (named MmBinK w h 0 (a_of w) refl, λ _ _. (tt, λ _ _. handled_reads p pc w (event_numbered (c_of w)) _))
  row_reads p pc Unm w h = apart (named Unm w h 1 (b_of w) refl, λ _ _. (tt, (tt, λ _ _. tt)))
  row_reads p pc BNot w h = apart (named BNot w h 1 (b_of w) refl, λ _ _. (tt, (tt, λ _ _. tt)))
  row_reads p pc Not w h = apart (named Not w h 1 (b_of w) refl, λ _ _. (tt, λ _ _. tt))
  row_reads p pc Len w h = apart (named Len w h 1 (b_of w) refl, λ _ _. (tt, (tt, λ _ _. tt)))
  row_reads p pc Concat w h = apart (concat_reads w (b_of w) (above Concat w refl h))
  row_reads p pc Close w h = apart (closes_reads (a_of w))
  row_reads p pc Tbc w h = apart (marks_reads p pc (a_of w) next (named Tbc w h 0 (a_of w) refl) tt)
  row_reads p pc Jmp w h = apart (jumps_reads (sj_of w))
  row_reads p pc Eq w h = apart (named Eq w h 0 (a_of w) refl, λ _ _. (named Eq w h 1 (b_of w) refl, λ _ _. (tt, (tt, λ _ _. tt))))
  row_reads p pc Lt w h = apart (named Lt w h 0 (a_of w) refl, λ _ _. (named Lt w h 1 (b_of w) refl, λ _ _. (tt, (tt, λ _ _. tt))))
  row_reads p pc Le w h = apart (named Le w h 0 (a_of w) refl, λ _ _. (named Le w h 1 (b_of w) refl, λ _ _. (tt, (tt, λ _ _. tt))))
  row_reads p pc EqK w h = apart (named EqK w h 0 (a_of w) refl, λ _ _. (tt, λ _ _. (tt, (tt, λ _ _. tt))))
  row_reads p pc EqI w h = apart (named EqI w h 0 (a_of w) refl, λ _ _. (tt, (tt, λ _ _. tt)))
  row_reads p pc LtI w h = apart (named LtI w h 0 (a_of w) refl, λ _ _. (tt, (tt, λ _ _. tt)))
  row_reads p pc LeI w h = apart (named LeI w h 0 (a_of w) refl, λ _ _. (tt, (tt, λ _ _. tt)))
  row_reads p pc GtI w h = apart (named GtI w h 0 (a_of w) refl, λ _ _. (tt, (tt, λ _ _. tt)))
  row_reads p pc GeI w h = apart (named GeI w h 0 (a_of w) refl, λ _ _. (tt, (tt, λ _ _. tt)))
  row_reads p pc Test w h = apart (named Test w h 0 (a_of w) refl, λ _ _. tt)
  row_reads p pc TestSet w h = apart (named TestSet w h 1 (b_of w) refl, λ v s. on_cond (same_truth (holds s) (k_of w)) _ _ (tt, λ _ _. tt) tt)
  row_reads p pc Call w h =
      let a = above Call w refl h in
      apart (a (a_of w) (omega arith), λ f s. values_read (a_of w + 1) (b_of w) _ (λ r l. a r (omega arith)) (λ _ _. (tt, (tt, tt))))
  row_reads p pc TailCall w h =
      let a = above TailCall w refl h in
      apart (a (a_of w) (omega arith), λ f s. values_read (a_of w + 1) (b_of w) _ (λ r l. a r (omega arith)) (λ _ _. tt))
  row_reads p pc Return w h = apart (values_read (a_of w) (b_of w) _ (above Return w refl h) (λ _ s. returns_reads (a_of w) (cond (b_of w == 0) (counted s) (return_count Return w)) (above Return w refl h)))
  row_reads p pc Return0 w h = apart (returns_reads (a_of w) 0 (above Return0 w refl h))
  row_reads p pc Return1 w h = apart (returns_reads (a_of w) 1 (above Return1 w refl h))
  row_reads p pc ForLoop w h = apart (with_three (a_of w) (goes_round (a_of w) (bx_of w)) (above ForLoop w refl h) (round_reads (a_of w) (bx_of w)))
  row_reads p pc ForPrep w h = apart (with_three (a_of w) (prepares (a_of w) (bx_of w)) (above ForPrep w refl h) (prepares_reads (a_of w) (bx_of w)))
  row_reads p pc TForPrep w h = apart (marks_reads p pc (a_of w + 3) (go_by (pos (bx_of w + 1))) (named TForPrep w h 0 (a_of w + 3) refl) tt)
  row_reads p pc TForCall w h =
      let a = above TForCall w refl h in
      apart (a (a_of w) (omega arith), λ f s. ((λ r l. a r (omega arith)), λ v t. (tt, (tt, tt))))
  row_reads p pc TForLoop w h = apart (named TForLoop w h 0 (a_of w + 4) refl, λ v s. loop_reads w s v)
  row_reads p pc SetList w h =
      let a = above SetList w refl h in
      apart (on_cond (k_of w) _ _ (on_extra _ (λ ax. (a (a_of w) (omega arith), λ t s. fills_reads s t w (c_of w + 256 * ax) (pos 2) a)) (extra_at p pc)) (a (a_of w) (omega arith), λ t s. fills_reads s t w (c_of w) (pos 1) a))
  row_reads p pc Closure w h = apart (opens_reads (upvalues_of_inner p (bx_of w)) _ (tt, λ _. (tt, λ _ _. tt)))
  row_reads p pc VarArg w h = apart (tt, λ v s. values_written (a_of w) (c_of w) v)
  row_reads p pc _ w h = apart tt

  -- what is left of an instruction by a wait that it may have
  pub rest_reads : (wait : Wait Value) (p : Prototype) (pc : ℕ) (op : Opcode) (w : Instruction) → IsTrue (waits_at wait op w) → IsTrue (is_apart held code op w) → Reads G (rest wait p pc op w)
  rest_reads running p pc op w f h = tt
  rest_reads for_call p pc op w f h = values_written (a_of w) (c_of w) 0
  rest_reads for_iterator p pc op w f h = values_written (a_of w + 4) (c_of w + 1) 0
  rest_reads for_value p pc op w f h = value_reads p pc op w
  rest_reads for_truth p pc op w f h = (tt, λ _ _. tt)
  rest_reads dropped p pc op w f h = tt
  rest_reads (for_concat left) p pc Concat w f h = joins_reads (a_of w) left (read 0) (above Concat w refl h)
  rest_reads for_close p pc op w f h = closes_reads (a_of w)
  rest_reads (returning count) p pc Return w f h = returns_reads (a_of w) count (above Return w refl h)
  rest_reads (returning count) p pc Return0 w f h = returns_reads (a_of w) count (above Return0 w refl h)
  rest_reads (returning count) p pc Return1 w f h = returns_reads (a_of w) count (above Return1 w refl h)
  rest_reads (leaving e) p pc op w f h = fails_reads G
  rest_reads _ p pc op w f h = absurd (cc)
