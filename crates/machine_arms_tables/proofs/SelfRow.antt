-- The row of SELF: the receiver goes to a register before the field does.
use Rattle.std.proofs.Common.{◌≡◌, ℕ, ◌+◌, ◌<◌, List, [], ◌∷◌, ◌++◌, length, map, Option, Some, None, refl, ap, ◌∙◌, arith, Bool, true, false}
use Rattle.std.specs.Prelude.{pos, cond, slice_get, slice_set, nat_lt}
use Rattle.std.proofs.lemmas.List.{length-map}
use Rattle.code_core.specs.Instruction.{a_of, b_of, c_of, k_of}
use Rattle.code_core.specs.declared.instruction.Instruction.{Instruction}
use Rattle.code_core.specs.declared.opcode.Opcode.TheVariants.{OpSelf}
use Rattle.code_core.specs.declared.proto.Const.{Const}
use Rattle.int_core.specs.Operations.{index, does, found}
use Rattle.int_core.specs.Value.{Value, Shape, known, nil, is_known}
use Rattle.lua_heap.specs.Plain.{heap, cell}
use Rattle.lua_heap.specs.Reading.{value}
use Rattle.lua_heap.specs.declared.world.Cell.{Cell as KeptCell}
use Rattle.machine_core.specs.World.{for_value}
use Rattle.machine_core.specs.FrameRows.{at_once, expand, expand_by, prepares, raises, calls_row}
use Rattle.machine_core.specs.InstructionRows.{row_of, register_or_constant, gets, to_register}
use Rattle.machine_core.specs.Moves.{SettledShape, is_found, is_asked, is_fault, only, on_own, settle, settled, made, Row, go, ends, run}
use Rattle.machine_core.specs.Text.{read, Own, read_register, read_constant, write_register, reads, tells, fits, Text, own, constant}
use Rattle.machine_focus.specs.Focus.{Context, Held, Stands, world, place, held_own}
use Rattle.machine_focus.proofs.Local.{made_is, local_is}
use Rattle.machine_focus.proofs.Places.{own_move, settle_move}
use Rattle.machine_sound.proofs.Lists.{get_map, map_get, get_within, length_set}
use Rattle.machine_sound.proofs.Values.{lt_true}
use Rattle.machine_view.specs.View.{Around, IsAt}
use Rattle.machine_view.proofs.Places.{register_there}
use Rattle.machine_view.proofs.Rows.{nth_map, write_map}
use Rattle.machine_view.proofs.Going.{at_next, puts}
use Rattle.table_core.specs.Table.{Contents}
use Rattle.table_core.specs.declared.value.Value.{Value as Kept}
use Rattle.machine_arms_tables.specs.Fields.{Settles}
use Rattle.machine_arms_tables.specs.Frame.{Code, moment, IsOf, Leads}
use Rattle.machine_arms_tables.proofs.Leading.{held_at}
use Rattle.machine_arms_tables.proofs.FieldRows.{IsOperand, settled_here}

module _ (c : Context) (s : Stands c) (h : Held) where
  -- a move on the frame, and what follows it
  own_runs : (m : Own) (k : ℕ → Shape → Text) (env : List Value) → fits m c.closure.code h.own ≡ true
      → run (expand (own m k)) env (world c h) ≡ run (expand (k (length env) (tells m c.closure.code env h.own))) (env ++ reads m c.closure.code env h.own) (world c (held_own c m env h))
  own_runs m k env f =
      made_is (on_own m) (λ n s. expand_by at_once (k n s)) env (world c h) (world c (held_own c m env h)) (reads m c.closure.code env h.own) (tells m c.closure.code env h.own)
      (own_move c s h m env ∙ ap (λ b. cond b (made (world c (held_own c m env h)) (reads m c.closure.code env h.own) (tells m c.closure.code env h.own)) None) f)

module _ (g : Around) (meta : Option ℕ) (k : Code) (o : IsOf g k) (s : Stands g.context) (ts : List Contents) (cs : List KeptCell) (r : List Kept) (pc fuel : ℕ) where
  abbrev here : Held
  here = held_at g meta (moment ts cs r pc fuel)

  reads_register : (t : ℕ → Text) (env : List Value) (b : ℕ) (v : Kept) → slice_get r b ≡ Some v
      → run (expand (own (read_register b) (λ n _. t n))) env (world g.context here) ≡ run (expand (t (length env))) (env ++ value g.texts v ∷ []) (world g.context here)
  reads_register t env b v e =
      own_runs g.context s here (read_register b) (λ n _. t n) env (lt_true b (length (map (value g.texts) r)) (let l = get_within r b v e in let m = length-map r (value g.texts) in omega arith))
      ∙ ap (λ v. run (expand (t (length env))) (env ++ v ∷ []) (world g.context here)) (nth_map (value g.texts) r b v e)

  reads_name : (t : ℕ → Text) (env : List Value) (n : ℕ) (v : Kept) → slice_get k.constants n ≡ Some v
      → run (expand (own (read_constant n) (λ n _. t n))) env (world g.context here) ≡ run (expand (t (length env))) (env ++ value g.texts v ∷ []) (world g.context here)
  reads_name t env n v e = by (map_get (λ k. known (constant k)) cn n (value g.texts v) (ap (λ xs. slice_get xs n) o.code.code.constants_are ∙ get_map (value g.texts) k.constants n v e))
    where
      cn : List Const
      cn = g.context.closure.code.own.constants

      by : (x : Const) × (slice_get g.context.closure.code.own.constants n ≡ Some x) × (known (constant x) ≡ value g.texts v)
          → run (expand (own (read_constant n) (λ n _. t n))) env (world g.context here) ≡ run (expand (t (length env))) (env ++ value g.texts v ∷ []) (world g.context here)
      by x =
          own_runs g.context s here (read_constant n) (λ n _. t n) env (lt_true n (length g.context.closure.code.own.constants) (get_within g.context.closure.code.own.constants n x.0 x.1))
          ∙ ap (λ (o : Option Const). run (expand (t (length env))) (env ++ elim o [ None ↦ [] | Some c ↦ known (constant c) ∷ [] ]) (world g.context here)) x.1
          ∙ ap (λ v. run (expand (t (length env))) (env ++ v ∷ []) (world g.context here)) x.2

  reads_operand : (t : ℕ → Text) (env : List Value) (w : Instruction) (v : Kept) → IsOperand k w r v
      → run (expand (register_or_constant w (λ n _. t n))) env (world g.context here) ≡ run (expand (t (length env))) (env ++ value g.texts v ∷ []) (world g.context here)
  reads_operand t env w v e = by (k_of w) refl e
    where
      by : (b : Bool) → k_of w ≡ b → cond b (slice_get k.constants (c_of w)) (slice_get r (c_of w)) ≡ Some v
          → run (expand (register_or_constant w (λ n _. t n))) env (world g.context here) ≡ run (expand (t (length env))) (env ++ value g.texts v ∷ []) (world g.context here)
      by true b e =
          ap (λ b. run (expand (cond b (own (read_constant (c_of w)) (λ n _. t n)) (own (read_register (c_of w)) (λ n _. t n)))) env (world g.context here)) b
          ∙ reads_name t env (c_of w) v e
      by false b e =
          ap (λ b. run (expand (cond b (own (read_constant (c_of w)) (λ n _. t n)) (own (read_register (c_of w)) (λ n _. t n)))) env (world g.context here)) b
          ∙ reads_register t env (c_of w) v e

  -- the field is found, and the receiver goes to the register behind A
  prepared_gets : (object key v : Kept) (a : ℕ) → a + 1 < length r → Settles k.texts index (object ∷ key ∷ []) ts ts (v ∷ [])
      → run (expand (gets (read 0) (read 1) (write_register (a + 1) (read 0) ∷ []) a)) (value g.texts object ∷ value g.texts key ∷ []) (world g.context here)
      ≡ run (expand (to_register a (read 0))) (value g.texts v ∷ []) (world g.context (held_at g meta (moment ts cs (slice_set r (a + 1) object) pc fuel)))
  prepared_gets object key v a l d =
      let c = g.context in
      let env = value g.texts object ∷ value g.texts key ∷ [] in
      let vs = value g.texts v ∷ [] in
      let m = write_register (a + 1) (read 0) in
      let t = to_register a (read 0) in
      let does_is : does index env (heap g.texts ts meta) ≡ found (heap g.texts ts meta) vs = (settled_here o d).settled meta o.code.apart o.code.short in
      made_is (settle index (read 0 ∷ read 1 ∷ [])) next_row env (world c here) (world c here) vs is_found
      (settle_move c s here index (read 0 ∷ read 1 ∷ []) env ∙ ap (λ r. settled (world c here) (place c here) r) does_is)
      ∙ made_is (on_own m) (λ _ _. only 2 (expand t)) (env ++ vs) (world c here) (world c (held_own c m (env ++ vs) here)) [] (is_known nil)
      (own_move c s here m (env ++ vs) ∙ ap (λ b. cond b (made (world c (held_own c m (env ++ vs) here)) [] (is_known nil)) None) (lt_true (a + 1) (length (map (value g.texts) r)) (let n = length-map r (value g.texts) in omega arith)))
      ∙ ap (λ rs. run (expand t) vs (world c (record here { own = record here.own { registers = rs } }))) (write_map (value g.texts) r (a + 1) object l)
    where
      next_row : ℕ → SettledShape → Row
      next_row n r = elim r [
        | is_found ↦ prepares (write_register (a + 1) (read 0) ∷ []) (only n (expand (to_register a (read 0))))
        | is_asked ↦ calls_row at_once (read n) (Rattle.std.specs.Prelude.suc n) for_value (write_register (a + 1) (read 0) ∷ [])
        | is_fault text ↦ prepares (write_register (a + 1) (read 0) ∷ []) (raises text)
      ]

  pub self_runs : (w : Instruction) (object key v : Kept) (rs : List Kept) (to : ℕ) → slice_get r (b_of w) ≡ Some object → IsOperand k w r key → Settles k.texts index (object ∷ key ∷ []) ts ts (v ∷ [])
      → a_of w + 1 < length r → to < length k.words → rs ≡ slice_set (slice_set r (a_of w + 1) object) (a_of w) v → to ≡ pc + 1
      → run (expand (row_of g.context.closure.code pc OpSelf w)) [] (world g.context here) ≡ ends go (world g.context (held_at g meta (moment ts cs rs to fuel)))
  self_runs w object key v rs to eo ek d l j f p =
      let r' = slice_set r (a_of w + 1) object in
      let l' : a_of w < length r' = (let m = length_set r (a_of w + 1) object in omega (arith, l, m)) in
      reads_register (λ o. register_or_constant w (λ key _. gets (read o) (read key) (write_register (a_of w + 1) (read o) ∷ []) (a_of w))) [] (b_of w) object eo
      ∙ reads_operand (λ key. gets (read 0) (read key) (write_register (a_of w + 1) (read 0) ∷ []) (a_of w)) (value g.texts object ∷ []) w key ek
      ∙ prepared_gets object key v (a_of w) l d
      ∙ local_is g.context s at_once (to_register (a_of w) (read 0)) (value g.texts v ∷ []) (held_at g meta (moment ts cs r' pc fuel)) (held_at g meta (moment ts cs rs to fuel))
      (puts g (heap g.texts ts meta) (map (cell g.texts) cs) r' pc fuel {env = value g.texts v ∷ []} {x = read 0} (a_of w) 1 v o.code j l' refl f p).is

pub self_does : (k : Code) {w : Instruction} {ts : List Contents} {r s : List Kept} {pc to : ℕ} {object key v : Kept} → IsAt OpSelf w k.words k.constants r pc → slice_get r (b_of w) ≡ Some object → IsOperand k w r key
    → Settles k.texts index (object ∷ key ∷ []) ts ts (v ∷ []) → s ≡ slice_set (slice_set r (a_of w + 1) object) (a_of w) v → to ≡ pc + 1
    → (cells : List KeptCell) (fuel : ℕ) → Leads OpSelf w k (moment ts cells r pc fuel) (moment ts cells s to fuel)
self_does k {w = w} {ts = ts} {r = r} {s = rs} {pc = pc} {to = to} {object = object} {key = key} {v = v} h eo ek d f p cells fuel = record {
  inside = at_next h refl p;
  opened = refl;
  runs = λ g meta o s. self_runs g meta k o s ts cells r pc fuel w object key v rs to eo ek d (register_there h 0 (a_of w + 1) refl) (at_next h refl p) f p;
}
