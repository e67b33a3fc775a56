-- Each instruction's row, and what is left of it by each wait, is a text that leads to the same on both sides.
use Rattle.std.proofs.Common.{◌≡◌, ℕ, zero, suc, ◌+◌, ◌*◌, ◌<◌, ◌==◌, Bool, true, false, cond, List, [], ◌∷◌, Option, Some, None, refl, sym, ap, ◌∙◌, arith}
use Rattle.std.specs.Prelude.{ℤ, pos, negsuc, filter, slice_get, codes}
use Rattle.int_core.specs.Value.{Value, nil, integer, a_table, Shape, is_known, is_object, holds, same_truth, same_plain, same_integer}
use Rattle.code_core.specs.declared.opcode.Opcode.{Opcode}
use Rattle.code_core.specs.declared.opcode.Opcode.TheVariants.{Move, LoadF, LoadK, LoadKx, GetUpval, SetUpval, GetTabUp, GetTable, GetI, GetField, SetTabUp, SetTable, SetI, SetField, NewTable, OpSelf, AddI, AddK, SubK, MulK, ModK, PowK, DivK, IDivK, BAndK, BOrK, BXorK, ShrI, ShlI, Add, Sub, Mul, Mod, Pow, Div, IDiv, BAnd, BOr, BXor, Shl, Shr, MmBin, MmBinI, MmBinK, Unm, BNot, Not, Len, Concat, Close, Tbc, Jmp, Eq, Lt, Le, EqK, EqI, LtI, LeI, GtI, GeI, TestSet, Call, TailCall, Return, Return0, Return1, ForLoop, ForPrep, TForPrep, TForCall, TForLoop, SetList, Closure, VarArg, VarArgPrep, ExtraArg}
use Rattle.code_core.specs.declared.instruction.Instruction.{Instruction}
use Rattle.code_core.specs.declared.proto.UpDesc.{UpDesc}
use Rattle.code_core.specs.declared.proto.LocVar.{LocVar}
use Rattle.code_core.specs.Prototype.{Prototype}
use Rattle.code_core.specs.Instruction.{opcode_of, a_of, b_of, c_of, sc_of, k_of, bx_of, sj_of}
use Rattle.code_core.specs.Check.{at, in_front, extra_at}
use Rattle.machine_core.specs.World.{Wait, running, for_call, for_iterator, for_value, for_truth, dropped, for_concat, for_close, returning, leaving}
use Rattle.int_core.specs.Operations.{Event, of_add, of_sub, of_mul, of_mod, of_idiv, of_band, of_bor, of_bxor, of_shl, of_shr, computed, by_zero}
use Rattle.machine_core.specs.Text.{Arg, read, written, Text, write_register, read_register, trap, raise, own, quick, pay, go_by}
use Rattle.machine_core.specs.InstructionRows.{text_at, text_by, rest_at, rest_by, row_of, value_comes, rest, with_register, with_constant, counted, return_count, then, back, is_true, integer_of_shape, fast, event_numbered, handled, joins, starts, prepares, goes_round, runs, jumps, marks, is_alive, variable_name, opens, upvalues_of_inner, fills_each, fills_from, fills_by, register_or_constant, read_values, write_values, to_register, to_register_before, closes, returns, fails, next, skip}
use Rattle.means_steps.proofs.Texts.{Good}

-- a wait for which an error is known already
abbrev pub Knows : {V : Type 0} → Wait V → Type 0
Knows (leaving e) = Unit {0}
Knows _ = ⊥

good_cond : (p : Prototype) (pc : ℕ) (u : Wait Value) (len : ℕ) (b : Bool) (s t : Text) → Good p pc u len s → Good p pc u len t → Good p pc u len (cond b s t)
good_cond p pc u len true s t f g = f
good_cond p pc u len false s t f g = g

-- a frame that is left with an error, whatever it waited for
pub fails_good : (p : Prototype) (pc : ℕ) (u : Wait Value) (len : ℕ) → 0 < len → Good p pc u len fails
fails_good p pc u len l = λ s m i. good_cond p pc u (len + m) (is_true s) _ _ (tt, omega arith, (tt, (tt, (tt, tt)))) tt

module _ (p : Prototype) (pc : ℕ) (op : Opcode) (w : Instruction) (E : (wait : Wait Arg) → rest wait p pc op w ≡ rest_at wait p pc) where
  abbrev G : ℕ → Text → Type 0
  G len t = Good p pc running len t

  by_cond : (len : ℕ) (b : Bool) (t u : Text) → G len t → G len u → G len (cond b t u)
  by_cond len b t u f g = good_cond p pc running len b t u f g

  by_rk : (len : ℕ) (k : ℕ → Shape → Text) → ((s : Shape) (m : ℕ) → G (len + m) (k len s)) → G len (register_or_constant w k)
  by_rk len k f = by_cond len (k_of w) _ _ (λ s m l. f s m) (λ s m l. f s m)

  read_good : (len r n : ℕ) (k : ℕ → Shape → Text) → ((s : Shape) (m : ℕ) → G (len + m) (k len s)) → G len (read_values r n k)
  read_good len r zero k f = λ s m l. f s m
  read_good len r (suc n) k f = λ s m l. f s m

  write_good : (len r n slot : ℕ) → G len (write_values r n slot)
  write_good len r zero slot = λ s m l. refl
  write_good len r (suc n) slot = λ s m l. refl

  extra_good : (len : ℕ) (k : ℕ → Text) → ((ax : ℕ) → G len (k ax)) → (e : Option ℕ) → G len (elim e [ None ↦ trap | Some ax ↦ k ax ])
  extra_good len k f None = tt
  extra_good len k f (Some ax) = f ax

  fast_good : (len : ℕ) (event : Event) (r : ℕ) (x y : Option ℤ) → G len (fast event r x y)
  fast_good len event r None y = refl
  fast_good len event r (Some m) None = refl
  fast_good len event r (Some m) (Some n) = by (computed event m n)
    where
      by : (k : Option ℤ) → G len (elim k [
        | None ↦ raise (by_zero event)
        | Some k ↦ then (write_register r (written (integer k))) skip
      ])
      by None = tt
      by (Some k) = λ s m l. refl

  register_good : (len : ℕ) (event : Event) → G len (with_register event w)
  register_good len event = λ s m l t n i. fast_good (len + m + n) event (a_of w) (integer_of_shape s) (integer_of_shape t)

  constant_good : (len : ℕ) (event : Event) → G len (with_constant event w)
  constant_good len event = λ s m l t n i. fast_good (len + m + n) event (a_of w) (integer_of_shape s) (integer_of_shape t)

  before_good : (len : ℕ) → G len (to_register_before p pc)
  before_good len = by (in_front p pc)
    where
      by : (x : Option Instruction) → G len (elim x [ None ↦ trap | Some v ↦ to_register (a_of v) (read 0) ])
      by None = tt
      by (Some v) = λ s m l. refl

  closes_good : (len r : ℕ) → G len (closes r)
  closes_good len r = λ s m l. by_cond (len + m) (is_true s) _ _ (tt, tt, (tt, (tt, tt))) (λ t n i. refl)

  returns_good : (len from count : ℕ) → G len (returns from count)
  returns_good len from count = λ s m l. by_cond (len + m) (is_true s) _ _ (tt, tt, (tt, (tt, (tt, tt)))) (λ t n i. tt)

  starts_good : (len a bx : ℕ) (i l d : ℤ) → G len (starts a bx i l d)
  starts_good len a bx i l d = by_cond len (same_integer d (pos 0)) _ _ tt (by_cond len (runs i l d) _ _ (λ s m l t n i. refl) refl)

  prepares_good : (len a bx : ℕ) (i l d : Option ℤ) → G len (prepares a bx i l d)
  prepares_good len a bx i None d = tt
  prepares_good len a bx i (Some l) None = tt
  prepares_good len a bx None (Some l) (Some d) = tt
  prepares_good len a bx (Some i) (Some l) (Some d) = starts_good len a bx i l d

  round_good : (len a bx : ℕ) (i l d : Option ℤ) → G len (goes_round a bx i l d)
  round_good len a bx None l d = tt
  round_good len a bx (Some i) None d = tt
  round_good len a bx (Some i) (Some l) None = tt
  round_good len a bx (Some i) (Some l) (Some d) = by_cond len (same_integer l (pos 0)) _ _ refl (λ m s1 m1 l1 s2 m2 l2 s3 m3 l3. refl)

  jumps_good : (len : ℕ) (z : ℤ) → G len (jumps z)
  jumps_good len (pos n) = refl
  jumps_good len (negsuc n) = λ m. refl

  -- where no local variable has a name
  unnamed : (r : ℕ) → p.own.locals ≡ [] → variable_name p pc r ≡ codes "?"
  unnamed r e = ap (λ (vs : List LocVar). elim (slice_get (filter (is_alive pc) vs) r) as (λ _. List ℕ) [ None ↦ codes "?" | Some v ↦ elim v.name [ None ↦ codes "?" | Some name ↦ name ] ]) e

  marks_good : (len r : ℕ) (t : Text) → ((n : ℕ) → G n t) → G len (marks p pc r t)
  marks_good len r t f = λ s m l. by_cond (len + m) (holds s) _ _ (unnamed r, λ t n i. f (len + m + n)) (f (len + m))

  opens_good : (len : ℕ) (us : List UpDesc) (t : Text) → G len t → G len (opens us t)
  opens_good len [] t f = f
  opens_good len (u ∷ us) t f = by_cond len u.in_stack _ _ (opens_good len us t f) (opens_good len us t f)

  each_good : (len n t r last : ℕ) (z : ℤ) → G len (fills_each n t r last z)
  each_good len zero t r last z = λ s m l. refl
  each_good len (suc n) t r last z = λ s m l k. each_good (len + m + k) n t (suc r) (suc last) z

  from_good : (len n t r last : ℕ) (z : ℤ) → G len (fills_from n t r last z)
  from_good len zero t r last z = λ s m l k s' m' l'. refl
  from_good len (suc n) t r last z = each_good len (suc n) t r last z

  fills_good : (len : ℕ) (s : Shape) (t : ℕ) (last : ℕ) (z : ℤ) → G len (fills_by s t w last z)
  fills_good len (is_object a_table) t last z = from_good len (b_of w) t (a_of w + 1) last z
  fills_good len _ t last z = tt

  handled_good : (len : ℕ) (e : Option Event) (xs : List Arg) → to_register_before p pc ≡ rest {V = Arg} for_value p pc op w → G len (handled p pc w e xs)
  handled_good len None xs h = tt
  handled_good len (Some event) xs h = (tt, tt, h ∙ E for_value, before_good)

  joins_good : (len i : ℕ) (x : Arg) → G len (joins (a_of w) i x)
  joins_good len zero x = λ s m l. refl
  joins_good len (suc i) x = λ s m l. (refl, tt, E (for_concat i), λ n. joins_good n i (read 0))

value_good : (p : Prototype) (pc : ℕ) (op : Opcode) (w : Instruction) (E : (wait : Wait Arg) → rest wait p pc op w ≡ rest_at wait p pc) (len : ℕ) → Good p pc running len (value_comes p pc op w)
value_good p pc MmBin w E len = before_good p pc MmBin w E len
value_good p pc MmBinI w E len = before_good p pc MmBinI w E len
value_good p pc MmBinK w E len = before_good p pc MmBinK w E len
value_good p pc op w E len = λ s m l. refl

-- what is left of an instruction by a wait
rest_good : (wait : Wait Value) (p : Prototype) (pc : ℕ) (op : Opcode) (w : Instruction) (E : (wait : Wait Arg) → rest wait p pc op w ≡ rest_at wait p pc) (len : ℕ) → (Knows wait → 0 < len) → Good p pc running len (rest wait p pc op w)
rest_good running p pc op w E len k = tt
rest_good for_call p pc op w E len k = write_good p pc op w E len (a_of w) (c_of w) 0
rest_good for_iterator p pc op w E len k = write_good p pc op w E len (a_of w + 4) (c_of w + 1) 0
rest_good for_value p pc op w E len k = value_good p pc op w E len
rest_good for_truth p pc op w E len k = λ s m l. refl
rest_good dropped p pc op w E len k = refl
rest_good (for_concat i) p pc op w E len k = joins_good p pc op w E len i (read 0)
rest_good for_close p pc op w E len k = closes_good p pc op w E len (a_of w)
rest_good (returning count) p pc op w E len k = returns_good p pc op w E len (a_of w) count
rest_good (leaving e) p pc op w E len k = fails_good p pc running len (k tt)

concat_good : (p : Prototype) (pc : ℕ) (w : Instruction) (E : (wait : Wait Arg) → rest wait p pc Concat w ≡ rest_at wait p pc) (len n : ℕ) → Good p pc running len (elim n [
  | zero ↦ next
  | suc m ↦ own (read_register (a_of w + m)) (λ v _. joins (a_of w) m (read v))
])
concat_good p pc w E len zero = refl
concat_good p pc w E len (suc i) = λ s m l. joins_good p pc Concat w E (len + m) i (read len)

loop_good : (p : Prototype) (pc : ℕ) (w : Instruction) (len : ℕ) (s : Shape) (v : ℕ) → Good p pc running len (elim s [
  | is_known k ↦ cond (same_plain k nil) next (quick pay (λ _. then (write_register (a_of w + 2) (read v)) (back (bx_of w))))
  | is_object kind ↦ quick pay (λ _. then (write_register (a_of w + 2) (read v)) (back (bx_of w)))
])
loop_good p pc w len (is_known k) v = good_cond p pc running len (same_plain k nil) _ _ refl (λ m s n l. refl)
loop_good p pc w len (is_object kind) v = λ m s n l. refl

row_good : (p : Prototype) (pc : ℕ) (op : Opcode) (w : Instruction) → ((wait : Wait Arg) → rest wait p pc op w ≡ rest_at wait p pc) → (len : ℕ) → Good p pc running len (row_of p pc op w)
row_good p pc Move w E len = λ _ _ _ _ _ _. refl
row_good p pc LoadF w E len = tt
row_good p pc LoadK w E len = λ _ _ _ _ _ _. refl
row_good p pc LoadKx w E len = extra_good p pc LoadKx w E len _ (λ ax _ _ _ _ _ _. refl) (extra_at p pc)
row_good p pc GetUpval w E len = λ _ _ _ _. refl
row_good p pc SetUpval w E len = λ _ _ _ _. refl
row_good p pc GetTabUp w E len = λ _ _ _ _. (tt, tt, E for_value, λ _ _ _ _. refl)
row_good p pc GetTable w E len = λ _ _ _ _ _ _. (tt, tt, E for_value, λ _ _ _ _. refl)
row_good p pc GetI w E len = λ _ _ _. (tt, tt, E for_value, λ _ _ _ _. refl)
row_good p pc GetField w E len = λ _ _ _ _ _ _. (tt, tt, E for_value, λ _ _ _ _. refl)
row_good p pc SetTabUp w E len = λ m1 _ m2 _. by_rk p pc SetTabUp w E (len + m1 + m2) _ (λ _ _. (tt, tt, E dropped, λ _. refl))
row_good p pc SetTable w E len = λ _ m1 _ _ m2 _. by_rk p pc SetTable w E (len + m1 + m2) _ (λ _ _. (tt, tt, E dropped, λ _. refl))
row_good p pc SetI w E len = λ _ m _. by_rk p pc SetI w E (len + m) _ (λ _ _. (tt, tt, E dropped, λ _. refl))
row_good p pc SetField w E len = λ _ m1 _ _ m2 _. by_rk p pc SetField w E (len + m1 + m2) _ (λ _ _. (tt, tt, E dropped, λ _. refl))
row_good p pc NewTable w E len = extra_good p pc NewTable w E len _ (λ ax _ _ _ _. refl) (extra_at p pc)
row_good p pc OpSelf w E len = λ _ m l. by_rk p pc OpSelf w E (len + m) _ (λ _ m2. (tt, (omega arith, tt), E for_value, λ _ _ _ _. refl))
row_good p pc AddI w E len = λ s m _. fast_good p pc AddI w E (len + m) of_add (a_of w) (integer_of_shape s) (Some (sc_of w))
row_good p pc AddK w E len = constant_good p pc AddK w E len of_add
row_good p pc SubK w E len = constant_good p pc SubK w E len of_sub
row_good p pc MulK w E len = constant_good p pc MulK w E len of_mul
row_good p pc ModK w E len = constant_good p pc ModK w E len of_mod
row_good p pc IDivK w E len = constant_good p pc IDivK w E len of_idiv
row_good p pc BAndK w E len = constant_good p pc BAndK w E len of_band
row_good p pc BOrK w E len = constant_good p pc BOrK w E len of_bor
row_good p pc BXorK w E len = constant_good p pc BXorK w E len of_bxor
row_good p pc ShrI w E len = λ s m _. fast_good p pc ShrI w E (len + m) of_shr (a_of w) (integer_of_shape s) (Some (sc_of w))
row_good p pc ShlI w E len = λ s m _. fast_good p pc ShlI w E (len + m) of_shl (a_of w) (Some (sc_of w)) (integer_of_shape s)
row_good p pc Add w E len = register_good p pc Add w E len of_add
row_good p pc Sub w E len = register_good p pc Sub w E len of_sub
row_good p pc Mul w E len = register_good p pc Mul w E len of_mul
row_good p pc Mod w E len = register_good p pc Mod w E len of_mod
row_good p pc IDiv w E len = register_good p pc IDiv w E len of_idiv
row_good p pc BAnd w E len = register_good p pc BAnd w E len of_band
row_good p pc BOr w E len = register_good p pc BOr w E len of_bor
row_good p pc BXor w E len = register_good p pc BXor w E len of_bxor
row_good p pc Shl w E len = register_good p pc Shl w E len of_shl
row_good p pc Shr w E len = register_good p pc Shr w E len of_shr
row_good p pc PowK w E len = tt
row_good p pc DivK w E len = tt
row_good p pc Pow w E len = tt
row_good p pc Div w E len = tt
row_good p pc MmBin w E len = λ _ m1 _ _ m2 _. handled_good p pc MmBin w E (len + m1 + m2) (event_numbered (c_of w)) _ refl
row_good p pc MmBinI w E len = λ _ m _. handled_good p pc MmBinI w E (len + m) (event_numbered (c_of w)) _ refl
row_good p pc MmBinK w E len = λ _ m1 _ _ m2 _. handled_good p pc MmBinK w E (len + m1 + m2) (event_numbered (c_of w)) _ refl
row_good p pc Unm w E len = λ _ _ _. (tt, tt, E for_value, λ _ _ _ _. refl)
row_good p pc BNot w E len = λ _ _ _. (tt, tt, E for_value, λ _ _ _ _. refl)
row_good p pc Not w E len = λ _ _ _ _ _ _. refl
row_good p pc Len w E len = λ _ _ _. (tt, tt, E for_value, λ _ _ _ _. refl)
row_good p pc Concat w E len = concat_good p pc w E len (b_of w)
row_good p pc Close w E len = closes_good p pc Close w E len (a_of w)
row_good p pc Tbc w E len = marks_good p pc Tbc w E len (a_of w) next (λ _. refl)
row_good p pc Jmp w E len = jumps_good p pc Jmp w E len (sj_of w)
row_good p pc Eq w E len = λ _ _ _ _ _ _. (tt, tt, E for_truth, λ _ _ _ _. refl)
row_good p pc Lt w E len = λ _ _ _ _ _ _. (tt, tt, E for_truth, λ _ _ _ _. refl)
row_good p pc Le w E len = λ _ _ _ _ _ _. (tt, tt, E for_truth, λ _ _ _ _. refl)
row_good p pc EqK w E len = λ _ _ _ _ _ _. (tt, tt, E for_truth, λ _ _ _ _. refl)
row_good p pc EqI w E len = λ _ _ _. (tt, tt, E for_truth, λ _ _ _ _. refl)
row_good p pc LtI w E len = λ _ _ _. (tt, tt, E for_truth, λ _ _ _ _. refl)
row_good p pc LeI w E len = λ _ _ _. (tt, tt, E for_truth, λ _ _ _ _. refl)
row_good p pc GtI w E len = λ _ _ _. (tt, tt, E for_truth, λ _ _ _ _. refl)
row_good p pc GeI w E len = λ _ _ _. (tt, tt, E for_truth, λ _ _ _ _. refl)
row_good p pc TestSet w E len = λ s m _. by_cond p pc TestSet w E (len + m) (same_truth (holds s) (k_of w)) _ _ (λ _ _ _. refl) refl
row_good p pc Call w E len = λ _ m _. read_good p pc Call w E (len + m) (a_of w + 1) (b_of w) _ (λ _ _. tt)
row_good p pc TailCall w E len = λ _ m _. read_good p pc TailCall w E (len + m) (a_of w + 1) (b_of w) _ (λ _ _. tt)
row_good p pc Return w E len = read_good p pc Return w E len (a_of w) (b_of w) _ (λ s m. returns_good p pc Return w E (len + m) (a_of w) (cond (b_of w == 0) (counted s) (return_count Return w)))
row_good p pc Return0 w E len = returns_good p pc Return0 w E len (a_of w) 0
row_good p pc Return1 w E len = returns_good p pc Return1 w E len (a_of w) 1
row_good p pc ForLoop w E len = λ i m1 _ l m2 _ d m3 _. round_good p pc ForLoop w E (len + m1 + m2 + m3) (a_of w) (bx_of w) (integer_of_shape i) (integer_of_shape l) (integer_of_shape d)
row_good p pc ForPrep w E len = λ i m1 _ l m2 _ d m3 _. prepares_good p pc ForPrep w E (len + m1 + m2 + m3) (a_of w) (bx_of w) (integer_of_shape i) (integer_of_shape l) (integer_of_shape d)
row_good p pc TForPrep w E len = marks_good p pc TForPrep w E len (a_of w + 3) (go_by (pos (bx_of w + 1))) (λ _. refl)
row_good p pc TForCall w E len = λ _ _ _ _ _ _. tt
row_good p pc TForLoop w E len = λ s m _. loop_good p pc w (len + m) s len
row_good p pc SetList w E len = by_cond p pc SetList w E len (k_of w) _ _ (extra_good p pc SetList w E len _ (λ ax s m _. fills_good p pc SetList w E (len + m) s len (c_of w + 256 * ax) (pos 2)) (extra_at p pc)) (λ s m _. fills_good p pc SetList w E (len + m) s len (c_of w) (pos 1))
row_good p pc Closure w E len = opens_good p pc Closure w E len (upvalues_of_inner p (bx_of w)) _ (λ _ _ _ _. refl)
row_good p pc VarArg w E len = λ _ m _. write_good p pc VarArg w E (len + m) (a_of w) (c_of w) len
row_good p pc VarArgPrep w E len = refl
row_good p pc ExtraArg w E len = tt
row_good p pc _ w E len = λ _ _ _. refl

-- what stands at a place

at_rest : {V : Type 0} (wait : Wait V) (p : Prototype) (pc : ℕ) (op : Opcode) (w : Instruction) → at p pc ≡ Some w → opcode_of w ≡ Some op → rest wait p pc op w ≡ rest_at wait p pc
at_rest wait p pc op w there code = sym (ap (λ o. elim o [ None ↦ trap | Some w ↦ rest_by wait p pc w (opcode_of w) ]) there ∙ ap (rest_by wait p pc w) code)

pub text_good : (p : Prototype) (pc : ℕ) → Good p pc running 0 (text_at p pc)
text_good p pc = by (at p pc) refl
  where
    inner : (w : Instruction) → at p pc ≡ Some w → (o : Option Opcode) → opcode_of w ≡ o → Good p pc running 0 (text_by p pc w o)
    inner w there None code = tt
    inner w there (Some op) code = row_good p pc op w (λ wait. at_rest wait p pc op w there code) 0

    by : (o : Option Instruction) → at p pc ≡ o → Good p pc running 0 (elim o [ None ↦ trap | Some w ↦ text_by p pc w (opcode_of w) ])
    by None there = tt
    by (Some w) there = inner w there (opcode_of w) refl

pub rest_at_good : (wait : Wait Value) (p : Prototype) (pc len : ℕ) → (Knows wait → 0 < len) → Good p pc running len (rest_at wait p pc)
rest_at_good wait p pc len k = by (at p pc) refl
  where
    inner : (w : Instruction) → at p pc ≡ Some w → (o : Option Opcode) → opcode_of w ≡ o → Good p pc running len (rest_by wait p pc w o)
    inner w there None code = tt
    inner w there (Some op) code = rest_good wait p pc op w (λ wait. at_rest wait p pc op w there code) len k

    by : (o : Option Instruction) → at p pc ≡ o → Good p pc running len (elim o [ None ↦ trap | Some w ↦ rest_by wait p pc w (opcode_of w) ])
    by None there = tt
    by (Some w) there = inner w there (opcode_of w) refl
