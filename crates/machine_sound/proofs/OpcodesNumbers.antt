-- The rows from ADDI to CONCAT are safe in checked code.
use Rattle.std.proofs.Common.{ℕ, zero, suc, ◌≡◌, ◌<◌, ◌≤◌, ◌+◌, ◌-◌, List, [], ◌∷◌, ◌++◌, Option, Some, None, refl, subst, sym, ap, ◌∙◌, length, Bool, true, false, arith}
use Rattle.std.specs.Prelude.{ℤ, slice_get, ◌==◌, ◌||◌, not, IsTrue, if◌then◌else◌, nat_lt}
use Rattle.std.specs.List.{list_any}
use Rattle.std.proofs.lemmas.Bool.Decides.{nat_tests}
use Rattle.int_core.specs.Value.{Value, known, boolean, integer, Shape, shape, holds}
use Rattle.int_core.specs.Operations.{Event, of_add, of_sub, of_mul, of_mod, of_idiv, of_band, of_bor, of_bxor, of_shl, of_shr, of_unm, of_bnot, computed, by_zero, arithmetic, concat, length'}
use Rattle.code_core.specs.declared.opcode.Opcode.{Opcode}
use Rattle.code_core.specs.declared.opcode.Opcode.TheVariants.{SetList, AddI, AddK, SubK, MulK, ModK, IDivK, BAndK, BOrK, BXorK, ShrI, ShlI, Add, Sub, Mul, Mod, IDiv, BAnd, BOr, BXor, Shl, Shr, MmBin, MmBinI, MmBinK, Unm, BNot, Not, Len, Concat, ExtraArg}
use Rattle.code_core.specs.declared.instruction.Instruction.{Instruction}
use Rattle.code_core.specs.Instruction.{opcode_of, a_of, b_of, c_of, k_of, sc_of}
use Rattle.code_core.specs.Fields.{registers, constants, integer as an_integer, second_half, stands_second, events, last_of}
use Rattle.code_core.specs.Check.{at, in_front, there, is_same, goes_on, agrees, begins_with}
use Rattle.machine_core.specs.World.{for_value, for_concat}
use Rattle.machine_core.specs.Text.{Arg, read, written, constant, Text, trap, raise, write_register, own, read_register}
use Rattle.machine_core.specs.InstructionRows.{to_register, next, fast, event_numbered, handled, to_register_before, swapped, with_number, integer_of_shape, joins, skip, with_register, with_constant}
use Rattle.machine_core.specs.FrameRows.{expand}
use Rattle.machine_sound.specs.Sound.{Top, waits_at}
use Rattle.machine_sound.specs.Safe.{on_lua, ArgOk, ArgsOk, Safe}
use Rattle.machine_sound.proofs.Lists.{some_is}
use Rattle.machine_sound.proofs.Values.{lt_of, le_true, all_get, both_of}
use Rattle.machine_sound.proofs.Rules.{RulesAt, rules_at, same_opcode, or_of}
use Rattle.machine_sound.proofs.Places.{Here, place}
use Rattle.machine_sound.proofs.RowEnds.{IsPlain, reg, sized, con, ends_next, ends_write, IsSecond, ends_skip, raise_safe, operate_safe, may_wait, second_at}
use Rattle.machine_sound.proofs.OpcodesTables.{RowSafe}

-- both operands are integers, or the next instruction does it
fast_safe : {t : Top} {w : Instruction} {op : Opcode} (env : List Value) → Here t w op → (second : Opcode) → second_half op w ≡ Some second → IsSecond second → IsPlain op w → (event : Event) (r : ℕ) (m k : Option ℤ) → r < t.code.own.stack → Safe (on_lua t) env (expand (fast event r m k))
fast_safe {t = t} env h second e i p event r (Some m) (Some k) l = from (computed event m k)
  where
    from : (o : Option ℤ) → Safe (on_lua t) env (expand (elim o as (λ _. Text) [ None ↦ raise (by_zero event) | Some k ↦ Rattle.machine_core.specs.InstructionRows.then (write_register r (written (integer k))) skip ]))
    from None = raise_safe t env (by_zero event) (place h)
    from (Some j) = (((let a = (h.plain p.3).0 in omega arith, tt), h.runs), λ _. ends_skip (env ++ []) h second e i p.3)
fast_safe env h second e i p event r None k l = ends_next env h p
fast_safe env h second e i p event r (Some m) None l = ends_next env h p

-- two registers
pub registers_safe : {t : Top} {w : Instruction} {op : Opcode} → Here t w op → (event : Event) → second_half op w ≡ Some MmBin → IsPlain op w → registers op w ≡ a_of w ∷ b_of w ∷ c_of w ∷ [] → Safe (on_lua t) [] (expand (with_register event w))
registers_safe {t = t} {w = w} h event e p r = (
  (sized h p.3 1 (b_of w) (ap (λ l. slice_get l 1) r), tt),
  λ v. (
    (sized h p.3 2 (c_of w) (ap (λ l. slice_get l 2) r), tt),
    λ u.
        fast_safe (v ∷ u ∷ []) h MmBin e (λ v. (refl, refl, refl)) p event (a_of w) (integer_of_shape (shape v)) (integer_of_shape (shape u)) (reg h 0 (a_of w) (ap (λ l. slice_get l 0) r)),
  ),
)

-- a register and a constant
pub constant_safe : {t : Top} {w : Instruction} {op : Opcode} → Here t w op → (event : Event) → second_half op w ≡ Some MmBinK → IsPlain op w → registers op w ≡ a_of w ∷ b_of w ∷ [] → ((extra : Option ℕ) → constants op w extra ≡ (an_integer, c_of w) ∷ []) → Safe (on_lua t) [] (expand (with_constant event w))
constant_safe {t = t} {w = w} h event e p r c = (
  (sized h p.3 1 (b_of w) (ap (λ l. slice_get l 1) r), tt),
  λ v. (
    (con h 0 (c_of w) an_integer (ap (λ l. slice_get l 0) (c _)), tt),
    λ u.
        fast_safe (v ∷ known (constant u.found) ∷ []) h MmBinK e (λ v. (refl, refl, refl)) p event (a_of w) (integer_of_shape (shape v)) (integer_of_shape (shape (known (constant u.found)))) (reg h 0 (a_of w) (ap (λ l. slice_get l 0) r)),
  ),
)

-- a register and a number
number_safe : {t : Top} {w : Instruction} {op : Opcode} → Here t w op → (f : Shape → Text) → second_half op w ≡ Some MmBinI → IsPlain op w → registers op w ≡ a_of w ∷ b_of w ∷ [] → (event : Event) (m k : Shape → Option ℤ) → ((s : Shape) → f s ≡ fast event (a_of w) (m s) (k s)) → Safe (on_lua t) [] (expand (own (read_register (b_of w)) (λ _ s. f s)))
number_safe {t = t} {w = w} h f e p r event m k q = (
  (sized h p.3 1 (b_of w) (ap (λ l. slice_get l 1) r), tt),
  λ v.
      subst (λ (x : Text). Safe (on_lua t) (v ∷ []) (expand x)) (sym (q (shape v))) (fast_safe (v ∷ []) h MmBinI e (λ v. (refl, refl, refl)) p event (a_of w) (m (shape v)) (k (shape v)) (reg h 0 (a_of w) (ap (λ l. slice_get l 0) r))),
)

pub add_i_safe : RowSafe AddI
add_i_safe t w h = number_safe h (λ s. fast of_add (a_of w) (integer_of_shape s) (Some (sc_of w))) refl (refl, refl, refl, refl) refl of_add (λ s. integer_of_shape s) (λ s. Some (sc_of w)) (λ s. refl)

pub shr_i_safe : RowSafe ShrI
shr_i_safe t w h = number_safe h (λ s. fast of_shr (a_of w) (integer_of_shape s) (Some (sc_of w))) refl (refl, refl, refl, refl) refl of_shr (λ s. integer_of_shape s) (λ s. Some (sc_of w)) (λ s. refl)

pub shl_i_safe : RowSafe ShlI
shl_i_safe t w h = number_safe h (λ s. fast of_shl (a_of w) (Some (sc_of w)) (integer_of_shape s)) refl (refl, refl, refl, refl) refl of_shl (λ s. Some (sc_of w)) (λ s. integer_of_shape s) (λ s. refl)

-- the instruction in front of a second half

pub record Front (t : Top) (w : Instruction) (second : Opcode) : Type 0 where
  pub instruction : Instruction
  pub is_front : in_front t.code t.pc ≡ Some instruction
  pub opcode : Opcode
  pub is_opcode : opcode_of instruction ≡ Some opcode
  pub begins : second_half opcode instruction ≡ Some second
  pub agrees_so : IsTrue (agrees instruction w second)
  pub rule : RulesAt t.code (t.pc - 1) instruction opcode

begun : (second : Opcode) (v : Instruction) → IsTrue (begins_with second v) → (op : Opcode) × (opcode_of v ≡ Some op) × (second_half op v ≡ Some second)
begun second v h = from (opcode_of v) refl h
  where
    from : (o : Option Opcode) → opcode_of v ≡ o → IsTrue (there (λ op. there (is_same second) (second_half op v)) o) → (op : Opcode) × (o ≡ Some op) × (second_half op v ≡ Some second)
    from None e h = absurd (cc)
    from (Some op) e h = (op, refl, within (second_half op v) refl h)
      where
        within : (s : Option Opcode) → second_half op v ≡ s → IsTrue (there (is_same second) s) → second_half op v ≡ Some second
        within None q h = absurd (cc)
        within (Some s) q h = q ∙ ap Some (sym (same_opcode second s h))

pub front_there : {t : Top} {w : Instruction} {op : Opcode} → Here t w op → stands_second op ≡ true → Front t w op
front_there {t = t} {w = w} {op = op} h s = from t.pc h.at_pc refl (or_of (not (stands_second op)) _ (ap not s) (both_of (goes_on t.code t.pc w (second_half op w)) _ h.rule.paired).1)
  where
    from : (pc : ℕ) → at t.code t.pc ≡ Some w → t.pc ≡ pc → IsTrue (there (begins_with op) (in_front t.code t.pc)) → Front t w op
    from zero a q b = absurd (let k = subst (λ pc. IsTrue (there (begins_with op) (in_front t.code pc))) q b in cc)
    from (suc k) a q b =
        let b' = subst (λ pc. IsTrue (there (begins_with op) (in_front t.code pc))) q b in
        within (at t.code k) refl b'
      where
        within : (o : Option Instruction) → at t.code k ≡ o → IsTrue (there (begins_with op) o) → Front t w op
        within None e b = absurd (cc)
        within (Some v) e b =
            let g = begun op v b in
            let r = rules_at t.code k v g.0 h.checked e g.1 in
            let x = second_at t.code k v op (subst (λ s. IsTrue (goes_on t.code k v s)) g.2 (both_of (goes_on t.code k v (second_half g.0 v)) _ r.paired).0) in
            let m : k + 1 ≡ t.pc = omega arith in
            let same : x.0 ≡ w = some_is x.1 (ap (at t.code) m ∙ a) in
            let n : k ≡ t.pc - 1 = omega arith in
            record {
              instruction = v;
              is_front = ap (in_front t.code) q ∙ e;
              opcode = g.0;
              is_opcode = g.1;
              begins = g.2;
              agrees_so = subst (λ i. IsTrue (agrees v i op)) same x.3;
              rule = subst (λ pc. RulesAt t.code pc v g.0) n r;
            }

-- the register and the event of arithmetic

abbrev is_handler : Opcode → Bool
is_handler MmBin = true
is_handler MmBinI = true
is_handler MmBinK = true
is_handler _ = false

target_first : (op : Opcode) (w : Instruction) (second : Opcode) → second_half op w ≡ Some second → is_handler second ≡ true → slice_get (registers op w) 0 ≡ Some (a_of w)
target_first AddI w second e h = refl
target_first ShrI w second e h = refl
target_first ShlI w second e h = refl
target_first AddK w second e h = refl
target_first SubK w second e h = refl
target_first MulK w second e h = refl
target_first ModK w second e h = refl
target_first IDivK w second e h = refl
target_first BAndK w second e h = refl
target_first BOrK w second e h = refl
target_first BXorK w second e h = refl
target_first Add w second e h = refl
target_first Sub w second e h = refl
target_first Mul w second e h = refl
target_first Mod w second e h = refl
target_first IDiv w second e h = refl
target_first BAnd w second e h = refl
target_first BOr w second e h = refl
target_first BXor w second e h = refl
target_first Shl w second e h = refl
target_first Shr w second e h = refl
target_first SetList w second e h = from (k_of w) e
  where
    from : (b : Bool) → (if b then Some ExtraArg else None) ≡ Some second → slice_get (registers SetList w) 0 ≡ Some (a_of w)
    from true e = absurd (let q : ExtraArg ≡ second = cc in let k : is_handler ExtraArg ≡ true = subst (λ op. is_handler op ≡ true) (sym q) h in cc)
    from false e = absurd (cc)
target_first _ w second e h = absurd (cc)

pub front_register : {t : Top} {w : Instruction} {op : Opcode} → Here t w op → is_handler op ≡ true → (f : Front t w op) → a_of f.instruction < t.code.own.stack
front_register {t = t} {op = op} h k f =
    lt_of (a_of f.instruction) t.code.own.stack (all_get (λ r. nat_lt r t.code.own.stack) (registers f.opcode f.instruction) f.rule.registers_there 0 (a_of f.instruction) (target_first f.opcode f.instruction op f.begins k))

any_get : {A : Type 0} (test : A → Bool) (xs : List A) → IsTrue (list_any test xs) → (i : ℕ) × (x : A) × (slice_get xs i ≡ Some x) × IsTrue (test x)
any_get test [] h = absurd (cc)
any_get test (x ∷ xs) h = pick (test x) refl h (any_get test xs)
  where
    pick : (b : Bool) → test x ≡ b → IsTrue (b || list_any test xs) → (IsTrue (list_any test xs) → (i : ℕ) × (y : _) × (slice_get xs i ≡ Some y) × IsTrue (test y)) → (i : ℕ) × (y : _) × (slice_get (x ∷ xs) i ≡ Some y) × IsTrue (test y)
    pick true e h ih = (0, x, refl, e)
    pick false e h ih = let g = ih h in (suc g.0, g.1, g.2, g.3)

pub event_there : (n : ℕ) → IsTrue (list_any (λ event. n == event) events) → (event : Event) × (event_numbered n ≡ Some event)
event_there n h = let g = any_get (λ event. n == event) events h in go g.0 g.1 g.2 (grind (arith, nat_tests))
  where
    go : (i x : ℕ) → slice_get events i ≡ Some x → n ≡ x → (event : Event) × (event_numbered n ≡ Some event)
    go zero x e q = let k : 6 ≡ x = cc in (of_add, ap event_numbered (q ∙ sym k))
    go (suc zero) x e q = let k : 7 ≡ x = cc in (of_sub, ap event_numbered (q ∙ sym k))
    go (suc (suc zero)) x e q = let k : 8 ≡ x = cc in (of_mul, ap event_numbered (q ∙ sym k))
    go (suc (suc (suc zero))) x e q = let k : 9 ≡ x = cc in (of_mod, ap event_numbered (q ∙ sym k))
    go (suc (suc (suc (suc zero)))) x e q = let k : 12 ≡ x = cc in (of_idiv, ap event_numbered (q ∙ sym k))
    go (suc (suc (suc (suc (suc zero))))) x e q = let k : 13 ≡ x = cc in (of_band, ap event_numbered (q ∙ sym k))
    go (suc (suc (suc (suc (suc (suc zero)))))) x e q = let k : 14 ≡ x = cc in (of_bor, ap event_numbered (q ∙ sym k))
    go (suc (suc (suc (suc (suc (suc (suc zero))))))) x e q = let k : 15 ≡ x = cc in (of_bxor, ap event_numbered (q ∙ sym k))
    go (suc (suc (suc (suc (suc (suc (suc (suc zero)))))))) x e q = let k : 16 ≡ x = cc in (of_shl, ap event_numbered (q ∙ sym k))
    go (suc (suc (suc (suc (suc (suc (suc (suc (suc zero))))))))) x e q = let k : 17 ≡ x = cc in (of_shr, ap event_numbered (q ∙ sym k))
    go (suc (suc (suc (suc (suc (suc (suc (suc (suc (suc i)))))))))) x e q = absurd (cc)

-- a handler's value goes to the register of the instruction in front
pub before_safe : {t : Top} {w : Instruction} {op : Opcode} (vs : List Value) → Here t w op → (f : Front t w op) → is_handler op ≡ true → IsPlain op w → Safe (on_lua t) vs (expand (to_register_before t.code t.pc))
before_safe {t = t} vs h f k p =
    subst (λ (o : Option Instruction). Safe (on_lua t) vs (expand (elim o as (λ _. Text) [ None ↦ trap | Some w ↦ to_register (a_of w) (read 0) ]))) (sym f.is_front)
    (ends_write vs (a_of f.instruction) (read 0) h p (front_register h k f) tt)

handled_safe : {t : Top} {w : Instruction} {op : Opcode} (env : List Value) (xs : List Arg) → Here t w op → (f : Front t w op) → is_handler op ≡ true → IsPlain op w → IsTrue (waits_at {V = Arg} for_value op w) → (event : Event) × (event_numbered (c_of w) ≡ Some event) → ArgsOk xs × (length xs ≡ 2) → Safe (on_lua t) env (expand (handled t.code t.pc w (event_numbered (c_of w)) xs))
handled_safe {t = t} {w = w} env xs h f k p wait event a =
    subst (λ (o : Option Event). Safe (on_lua t) env (expand (handled t.code t.pc w o xs))) (sym event.1)
    (operate_safe t env (arithmetic event.0) xs for_value (to_register_before t.code t.pc) a (may_wait for_value h p.3 wait refl refl tt) (λ vs. before_safe vs h f k p))

pub mm_bin_safe : RowSafe MmBin
mm_bin_safe t w h =
    let f = front_there h refl in (
      (sized h refl 0 (a_of w) refl, tt),
      λ x. (
        (sized h refl 1 (b_of w) refl, tt),
        λ y.
            handled_safe (x ∷ y ∷ []) (read 0 ∷ read 1 ∷ []) h f refl (refl, refl, refl, refl) refl (event_there (c_of w) f.agrees_so) ((tt, (tt, tt)), refl),
      ),
    )

swapped_ok : (b : Bool) (x y : Arg) → ArgOk x → ArgOk y → ArgsOk (swapped b x y) × (length (swapped b x y) ≡ 2)
swapped_ok true x y a b = ((b, (a, tt)), refl)
swapped_ok false x y a b = ((a, (b, tt)), refl)

pub mm_bin_i_safe : RowSafe MmBinI
mm_bin_i_safe t w h =
    let f = front_there h refl in (
      (sized h refl 0 (a_of w) refl, tt),
      λ x.
          handled_safe (x ∷ []) (swapped (k_of w) (read 0) (with_number w)) h f refl (refl, refl, refl, refl) refl (event_there (c_of w) f.agrees_so) (swapped_ok (k_of w) (read 0) (with_number w) tt tt),
    )

pub mm_bin_k_safe : RowSafe MmBinK
mm_bin_k_safe t w h =
    let f = front_there h refl in (
      (sized h refl 0 (a_of w) refl, tt),
      λ x. (
        (con h 0 (b_of w) an_integer refl, tt),
        λ y.
            handled_safe (x ∷ known (constant y.found) ∷ []) (swapped (k_of w) (read 0) (read 1)) h f refl (refl, refl, refl, refl) refl (event_there (c_of w) f.agrees_so) (swapped_ok (k_of w) (read 0) (read 1) tt tt),
      ),
    )

-- one operand

pub unm_safe : RowSafe Unm
unm_safe t w h = ((sized h refl 1 (b_of w) refl, tt), λ v. operate_safe t (v ∷ []) (arithmetic of_unm) (read 0 ∷ read 0 ∷ []) for_value (to_register (a_of w) (read 0)) ((tt, (tt, tt)), refl) (may_wait for_value h refl refl refl refl tt) (λ vs. ends_write vs (a_of w) (read 0) h (refl, refl, refl, refl) (reg h 0 (a_of w) refl) tt))

pub bnot_safe : RowSafe BNot
bnot_safe t w h = ((sized h refl 1 (b_of w) refl, tt), λ v. operate_safe t (v ∷ []) (arithmetic of_bnot) (read 0 ∷ read 0 ∷ []) for_value (to_register (a_of w) (read 0)) ((tt, (tt, tt)), refl) (may_wait for_value h refl refl refl refl tt) (λ vs. ends_write vs (a_of w) (read 0) h (refl, refl, refl, refl) (reg h 0 (a_of w) refl) tt))

pub not_safe : RowSafe Not
not_safe t w h = ((sized h refl 1 (b_of w) refl, tt), λ v. ends_write (v ∷ []) (a_of w) (written (boolean (not (holds (shape v))))) h (refl, refl, refl, refl) (reg h 0 (a_of w) refl) tt)

pub len_safe : RowSafe Len
len_safe t w h = ((sized h refl 1 (b_of w) refl, tt), λ v. operate_safe t (v ∷ []) length' (read 0 ∷ []) for_value (to_register (a_of w) (read 0)) ((tt, tt), refl) (may_wait for_value h refl refl refl refl tt) (λ vs. ends_write vs (a_of w) (read 0) h (refl, refl, refl, refl) (reg h 0 (a_of w) refl) tt))

-- joining

pub joins_safe : {t : Top} {w : Instruction} → Here t w Concat → (i : ℕ) (env : List Value) (x : Arg) → i < b_of w → a_of w + i < t.code.own.stack → ArgOk x → Safe (on_lua t) env (expand (joins (a_of w) i x))
joins_safe {t = t} {w = w} h zero env x b l a = ends_write env (a_of w) x h (refl, refl, refl, refl) (reg h 0 (a_of w) refl) a
joins_safe {t = t} {w = w} h (suc i) env x b l a = (
  (within (a_of w) i t.code.own.stack t.size l (h.plain refl).0, tt),
  λ u.
      operate_safe t (env ++ u ∷ []) concat (read (length env) ∷ x ∷ []) (for_concat i) (joins (a_of w) i (read 0)) ((tt, (a, tt)), refl) (may_wait (for_concat i) h refl (le_true (i + 2) (b_of w) (less i (b_of w) b)) refl refl tt)
      (λ vs. joins_safe h i vs (read 0) (before i (b_of w) b) (below (a_of w) i t.code.own.stack l) tt),
)
  where
    within : (a i stack size : ℕ) → a + suc i < stack → size ≡ stack → a + i < size
    within a i stack size l e = omega arith

    less : (i b : ℕ) → suc i < b → i + 2 ≤ b
    less i b l = omega arith

    before : (i b : ℕ) → suc i < b → i < b
    before i b l = omega arith

    below : (a i stack : ℕ) → a + suc i < stack → a + i < stack
    below a i stack l = omega arith

pub concat_safe : RowSafe Concat
concat_safe t w h = from (b_of w) refl
  where
    last_there : (a n : ℕ) → slice_get (a ∷ last_of a (suc n)) 1 ≡ Some (a + n)
    last_there a n = let e : (suc n == 0) ≡ false = grind (arith, nat_tests) in let k : suc n - 1 ≡ n = omega arith in rw (e, k) refl

    from : (b : ℕ) → b_of w ≡ b → Safe (on_lua t) [] (expand (elim b as (λ _. Text) [ zero ↦ next | suc n ↦ own (read_register (a_of w + n)) (λ v _. joins (a_of w) n (read v)) ]))
    from zero e = ends_next [] h (refl, refl, refl, refl)
    from (suc n) e =
        let q : slice_get (registers Concat w) 1 ≡ Some (a_of w + n) = ap (λ b. slice_get (a_of w ∷ last_of (a_of w) b) 1) e ∙ last_there (a_of w) n in
        ((sized h refl 1 (a_of w + n) q, tt), λ v. joins_safe h n (v ∷ []) (read 0) (under (b_of w) n e) (reg h 1 (a_of w + n) q) tt)
      where
        under : (b n : ℕ) → b ≡ suc n → n < b
        under b n e = omega arith
