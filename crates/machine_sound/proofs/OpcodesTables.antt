-- The rows from MOVE to SELF are safe in checked code.
use Rattle.std.proofs.Common.{ℕ, ◌≡◌, ◌<◌, ◌≤◌, ◌+◌, List, [], ◌∷◌, ◌++◌, Option, Some, None, refl, subst, sym, ap, ◌∙◌, length, Bool, true, false, arith}
use Rattle.std.specs.Prelude.{pos, slice_get, cond, ◌==◌, if◌then◌else◌, option_and_then}
use Rattle.std.proofs.lemmas.Bool.Decides.{nat_tests}
use Rattle.int_core.specs.Value.{Value, known, boolean, integer, object, a_table, Shape, shape}
use Rattle.int_core.specs.Operations.{index, store}
use Rattle.code_core.specs.declared.opcode.Opcode.{Opcode}
use Rattle.code_core.specs.declared.opcode.Opcode.TheVariants.{Move, LoadI, LoadK, LoadKx, LoadFalse, LFalseSkip, LoadTrue, LoadNil, GetUpval, SetUpval, GetTabUp, GetTable, GetI, GetField, SetTabUp, SetTable, SetI, SetField, NewTable, OpSelf, ExtraArg}
use Rattle.code_core.specs.declared.instruction.Instruction.{Instruction}
use Rattle.code_core.specs.Opcode.{number_of}
use Rattle.code_core.specs.Instruction.{opcode_of, a_of, b_of, c_of, k_of, bx_of, sbx_of, ax_of}
use Rattle.code_core.specs.Fields.{constants, anything, name}
use Rattle.code_core.specs.Check.{there, is_same, extra_at}
use Rattle.machine_core.specs.World.{for_value, dropped}
use Rattle.machine_core.specs.Text.{Arg, read, written, constant, write_register, Text, trap, own, read_constant, read_register, quick, make_table}
use Rattle.machine_core.specs.InstructionRows.{row_of, to_register, register_or_constant, next, skip}
use Rattle.machine_core.specs.FrameRows.{expand, prepares, call_row, raises}
use Rattle.machine_core.specs.Moves.{only, is_found, is_asked, is_fault}
use Rattle.machine_sound.specs.Sound.{Top}
use Rattle.machine_sound.specs.Safe.{on_lua, SettledEvent, has_found, asks_for, fails_with, settled_values, settled_told, Safe}
use Rattle.machine_sound.proofs.Places.{Here, place}
use Rattle.machine_sound.proofs.RowEnds.{reg, sized, con, up, plain_size, on_next, ends_next, ends_write, Second, second_there, IsSecond, ends_skip, on_land, raise_safe, call_safe, operate_safe, may_wait}

-- the row of an opcode is safe wherever it stands in checked code
abbrev pub RowSafe : Opcode → Type 0
RowSafe op = (t : Top) (w : Instruction) → Here t w op → Safe (on_lua t) [] (expand (row_of t.code t.pc op w))

-- loads

pub move_safe : RowSafe Move
move_safe t w h = ((sized h refl 1 (b_of w) refl, tt), λ v. ends_write (v ∷ []) (a_of w) (read 0) h (refl, refl, refl, refl) (reg h 0 (a_of w) refl) tt)

pub load_i_safe : RowSafe LoadI
load_i_safe t w h = ends_write [] (a_of w) (written (integer (sbx_of w))) h (refl, refl, refl, refl) (reg h 0 (a_of w) refl) tt

pub load_k_safe : RowSafe LoadK
load_k_safe t w h = ((con h 0 (bx_of w) anything refl, tt), λ e. ends_write (known (constant e.found) ∷ []) (a_of w) (read 0) h (refl, refl, refl, refl) (reg h 0 (a_of w) refl) tt)

pub load_false_safe : RowSafe LoadFalse
load_false_safe t w h = ends_write [] (a_of w) (written (boolean false)) h (refl, refl, refl, refl) (reg h 0 (a_of w) refl) tt

pub load_true_safe : RowSafe LoadTrue
load_true_safe t w h = ends_write [] (a_of w) (written (boolean true)) h (refl, refl, refl, refl) (reg h 0 (a_of w) refl) tt

pub l_false_skip_safe : RowSafe LFalseSkip
l_false_skip_safe t w h = (((sized h refl 0 (a_of w) refl, tt), h.runs), λ _. on_land t [] (pos 2) (pos (t.pc + 2)) h refl refl refl refl h.runs (plain_size h refl) (let c = h.cells in omega arith))

pub load_nil_safe : RowSafe LoadNil
load_nil_safe t w h = ((let s = sized h refl 0 (a_of w + b_of w) refl in less (a_of w) (b_of w) t.size s, h.runs), λ _. ends_next [] h (refl, refl, refl, refl))
  where
    less : (a b n : ℕ) → a + b < n → a + (b + 1) ≤ n
    less a b n l = omega arith

-- the number of an EXTRAARG

is_self : (op : Opcode) → is_same op op ≡ true
is_self op = go (number_of op)
  where
    go : (n : ℕ) → (n == n) ≡ true
    go n = grind (arith, nat_tests)

pub extra_there : {t : Top} {w : Instruction} → (s : Second t w ExtraArg) → extra_at t.code t.pc ≡ Some (ax_of s.instruction)
extra_there {t = t} s =
    ap (option_and_then (λ (w : Instruction). cond (there (is_same ExtraArg) (opcode_of w)) (Some (ax_of w)) None)) s.at_pc
    ∙ ap (λ o. cond (there (is_same ExtraArg) o) (Some (ax_of s.instruction)) None) s.is_opcode
    ∙ ap (λ b. cond b (Some (ax_of s.instruction)) None) (is_self ExtraArg)

pub extra_second : IsSecond ExtraArg
extra_second v = (refl, refl, refl)

pub load_kx_safe : RowSafe LoadKx
load_kx_safe t w h =
    let s = second_there h ExtraArg refl in
    let e = extra_there s in
    let ax = ax_of s.instruction in
    let l = con h 0 ax anything (ap (λ o. slice_get (constants LoadKx w o) 0) e) in
    subst (λ (o : Option ℕ). Safe (on_lua t) [] (expand (elim o as (λ _. Text) [ None ↦ trap | Some ax ↦ own (read_constant ax) (λ v _. Rattle.machine_core.specs.InstructionRows.then (Rattle.machine_core.specs.Text.write_register (a_of w) (read v)) skip) ]))) (sym e)
    ((l, tt), λ k. (((sized h refl 0 (a_of w) refl, tt), h.runs), λ _. ends_skip (known (constant k.found) ∷ []) h ExtraArg refl extra_second refl))

-- upvalues

pub get_upval_safe : RowSafe GetUpval
get_upval_safe t w h = (up h 0 (b_of w) refl, λ v. ends_write (v ∷ []) (a_of w) (read 0) h (refl, refl, refl, refl) (reg h 0 (a_of w) refl) tt)

pub set_upval_safe : RowSafe SetUpval
set_upval_safe t w h = ((sized h refl 0 (a_of w) refl, tt), λ v. ((up h 0 (b_of w) refl, tt), λ _. on_next (record t { captured = [] }) (v ∷ []) h (refl, refl, refl, refl) refl refl h.runs (plain_size h refl) (let c = h.cells in omega arith)))

-- fields

pub get_tab_up_safe : RowSafe GetTabUp
get_tab_up_safe t w h = (
  up h 0 (b_of w) refl,
  λ o. (
    (con h 0 (c_of w) name refl, tt),
    λ k.
        operate_safe t (o ∷ known (constant k.found) ∷ []) index (read 0 ∷ read 1 ∷ []) for_value (to_register (a_of w) (read 0)) ((tt, (tt, tt)), refl) (may_wait for_value h refl refl refl refl tt)
        (λ vs. ends_write vs (a_of w) (read 0) h (refl, refl, refl, refl) (reg h 0 (a_of w) refl) tt),
  ),
)

pub get_table_safe : RowSafe GetTable
get_table_safe t w h = (
  (sized h refl 1 (b_of w) refl, tt),
  λ o. (
    (sized h refl 2 (c_of w) refl, tt),
    λ k.
        operate_safe t (o ∷ k ∷ []) index (read 0 ∷ read 1 ∷ []) for_value (to_register (a_of w) (read 0)) ((tt, (tt, tt)), refl) (may_wait for_value h refl refl refl refl tt)
        (λ vs. ends_write vs (a_of w) (read 0) h (refl, refl, refl, refl) (reg h 0 (a_of w) refl) tt),
  ),
)

pub get_i_safe : RowSafe GetI
get_i_safe t w h = (
  (sized h refl 1 (b_of w) refl, tt),
  λ o.
      operate_safe t (o ∷ []) index (read 0 ∷ written (integer (pos (c_of w))) ∷ []) for_value (to_register (a_of w) (read 0)) ((tt, (tt, tt)), refl) (may_wait for_value h refl refl refl refl tt)
      (λ vs. ends_write vs (a_of w) (read 0) h (refl, refl, refl, refl) (reg h 0 (a_of w) refl) tt),
)

pub get_field_safe : RowSafe GetField
get_field_safe t w h = (
  (sized h refl 1 (b_of w) refl, tt),
  λ o. (
    (con h 0 (c_of w) name refl, tt),
    λ k.
        operate_safe t (o ∷ known (constant k.found) ∷ []) index (read 0 ∷ read 1 ∷ []) for_value (to_register (a_of w) (read 0)) ((tt, (tt, tt)), refl) (may_wait for_value h refl refl refl refl tt)
        (λ vs. ends_write vs (a_of w) (read 0) h (refl, refl, refl, refl) (reg h 0 (a_of w) refl) tt),
  ),
)

-- C is a register, or a constant with k
pub rk_safe : (t : Top) (env : List Value) (w : Instruction) (k : ℕ → Shape → Text) → (k_of w ≡ true → c_of w < length t.code.own.constants) → (k_of w ≡ false → c_of w < t.size) → ((v : Value) → Safe (on_lua t) (env ++ v ∷ []) (expand (k (length env) (shape v)))) → Safe (on_lua t) env (expand (register_or_constant w k))
rk_safe t env w k c r s = from (k_of w) refl
  where
    from : (b : Bool) → k_of w ≡ b → Safe (on_lua t) env (expand (cond b (own (read_constant (c_of w)) k) (own (read_register (c_of w)) k)))
    from true e = ((c e, tt), λ v. s (known (constant v.found)))
    from false e = ((r e, tt), λ v. s v)

pub set_tab_up_safe : RowSafe SetTabUp
set_tab_up_safe t w h = (
  up h 0 (a_of w) refl,
  λ o. (
    (con h 0 (b_of w) name refl, tt),
    λ k.
        rk_safe t (o ∷ known (constant k.found) ∷ []) w _ (λ e. con h 1 (c_of w) anything (ap (λ (b : Bool). slice_get ((name, b_of w) ∷ (if b then (anything, c_of w) ∷ [] else [])) 1) e))
        (λ e. sized h refl 0 (c_of w) (ap (λ (b : Bool). slice_get (if b then [] else c_of w ∷ []) 0) e))
        (λ v. operate_safe t (o ∷ known (constant k.found) ∷ v ∷ []) store (read 0 ∷ read 1 ∷ read 2 ∷ []) dropped next ((tt, (tt, (tt, tt))), refl) (may_wait dropped h refl refl refl refl tt) (λ vs. ends_next vs h (refl, refl, refl, refl))),
  ),
)

pub set_table_safe : RowSafe SetTable
set_table_safe t w h = (
  (sized h refl 0 (a_of w) refl, tt),
  λ o. (
    (sized h refl 1 (b_of w) refl, tt),
    λ k.
        rk_safe t (o ∷ k ∷ []) w _ (λ e. con h 0 (c_of w) anything (ap (λ (b : Bool). slice_get (if b then (anything, c_of w) ∷ [] else []) 0) e))
        (λ e. sized h refl 2 (c_of w) (ap (λ (b : Bool). slice_get (a_of w ∷ b_of w ∷ (if b then [] else c_of w ∷ [])) 2) e))
        (λ v. operate_safe t (o ∷ k ∷ v ∷ []) store (read 0 ∷ read 1 ∷ read 2 ∷ []) dropped next ((tt, (tt, (tt, tt))), refl) (may_wait dropped h refl refl refl refl tt) (λ vs. ends_next vs h (refl, refl, refl, refl))),
  ),
)

pub set_i_safe : RowSafe SetI
set_i_safe t w h = (
  (sized h refl 0 (a_of w) refl, tt),
  λ o.
      rk_safe t (o ∷ []) w _ (λ e. con h 0 (c_of w) anything (ap (λ (b : Bool). slice_get (if b then (anything, c_of w) ∷ [] else []) 0) e))
      (λ e. sized h refl 1 (c_of w) (ap (λ (b : Bool). slice_get (a_of w ∷ (if b then [] else c_of w ∷ [])) 1) e))
      (λ v. operate_safe t (o ∷ v ∷ []) store (read 0 ∷ written (integer (pos (b_of w))) ∷ read 1 ∷ []) dropped next ((tt, (tt, (tt, tt))), refl) (may_wait dropped h refl refl refl refl tt) (λ vs. ends_next vs h (refl, refl, refl, refl))),
)

pub set_field_safe : RowSafe SetField
set_field_safe t w h = (
  (sized h refl 0 (a_of w) refl, tt),
  λ o. (
    (con h 0 (b_of w) name refl, tt),
    λ k.
        rk_safe t (o ∷ known (constant k.found) ∷ []) w _ (λ e. con h 1 (c_of w) anything (ap (λ (b : Bool). slice_get ((name, b_of w) ∷ (if b then (anything, c_of w) ∷ [] else [])) 1) e))
        (λ e. sized h refl 1 (c_of w) (ap (λ (b : Bool). slice_get (a_of w ∷ (if b then [] else c_of w ∷ [])) 1) e))
        (λ v. operate_safe t (o ∷ known (constant k.found) ∷ v ∷ []) store (read 0 ∷ read 1 ∷ read 2 ∷ []) dropped next ((tt, (tt, (tt, tt))), refl) (may_wait dropped h refl refl refl refl tt) (λ vs. ends_next vs h (refl, refl, refl, refl))),
  ),
)

pub new_table_safe : RowSafe NewTable
new_table_safe t w h =
    let s = second_there h ExtraArg refl in
    subst (λ (o : Option ℕ). Safe (on_lua t) [] (expand (elim o as (λ _. Text) [ None ↦ trap | Some ax ↦ quick make_table (λ v. Rattle.machine_core.specs.InstructionRows.then (Rattle.machine_core.specs.Text.write_register (a_of w) (read v)) skip) ]))) (sym (extra_there s))
    (tt, λ n. (((sized h refl 0 (a_of w) refl, tt), h.runs), λ _. ends_skip (object a_table n ∷ []) h ExtraArg refl extra_second refl))

self_ends : (t : Top) (w : Instruction) (o k : Value) → Here t w OpSelf → (e : SettledEvent) → Safe (on_lua t) (o ∷ k ∷ settled_values e) (elim (settled_told e) [
  | is_found ↦ prepares (write_register (a_of w + 1) (read 0) ∷ []) (only 2 (expand (to_register (a_of w) (read 0))))
  | is_asked ↦ call_row (read 2) 3 for_value (write_register (a_of w + 1) (read 0) ∷ [])
  | is_fault text ↦ prepares (write_register (a_of w + 1) (read 0) ∷ []) (raises text)
])
self_ends t w o k h (has_found vs) = (((sized h refl 0 (a_of w + 1) refl, tt), h.runs), λ _. ends_write (vs ++ []) (a_of w) (read 0) h (refl, refl, refl, refl) (below (a_of w) t.code.own.stack (reg h 0 (a_of w + 1) refl)) tt)
  where
    below : (a n : ℕ) → a + 1 < n → a < n
    below a n l = omega arith
self_ends t w o k h (asks_for f vs) = call_safe t (o ∷ k ∷ f ∷ vs) (read 2) 3 for_value (write_register (a_of w + 1) (read 0) ∷ [])
    (record { callee = tt; prepares = ((sized h refl 0 (a_of w + 1) refl, tt), tt); waits = may_wait for_value h refl refl refl refl tt })
self_ends t w o k h (fails_with text) = (((sized h refl 0 (a_of w + 1) refl, tt), h.runs), λ _. raise_safe t (o ∷ k ∷ []) text (place h))

pub self_safe : RowSafe OpSelf
self_safe t w h = (
  (sized h refl 1 (b_of w) refl, tt),
  λ o.
      rk_safe t (o ∷ []) w _ (λ e. con h 0 (c_of w) name (ap (λ (b : Bool). slice_get (if b then (name, c_of w) ∷ [] else []) 0) e))
      (λ e. sized h refl 2 (c_of w) (ap (λ (b : Bool). slice_get ((a_of w + 1) ∷ b_of w ∷ (if b then [] else c_of w ∷ [])) 2) e))
      (λ k. (((tt, (tt, tt)), refl), λ e. self_ends t w o k h e)),
)
