-- Rows on fields, upvalues and lengths, whose operations are settled at once.
use Rattle.std.proofs.Common.{◌≡◌, ℕ, ◌+◌, ◌<◌, List, [], ◌∷◌, length, map, Option, Some, None, refl, ap, sym, ◌∙◌, subst, Bool, inl, inr}
use Rattle.std.specs.Prelude.{pos, cond, slice_get, slice_set}
use Rattle.code_core.specs.Fields.{registers, second_half}
use Rattle.code_core.specs.Instruction.{a_of, b_of, c_of, k_of}
use Rattle.code_core.specs.Prototype.{Prototype}
use Rattle.code_core.specs.declared.instruction.Instruction.{Instruction}
use Rattle.code_core.specs.declared.opcode.Opcode.{Opcode}
use Rattle.code_core.specs.declared.opcode.Opcode.TheVariants.{GetUpval, SetUpval, GetTabUp, GetTable, GetI, GetField, SetTabUp, SetTable, SetI, SetField, Len, Jmp}
use Rattle.int_core.specs.Operations.{Operation, index, store, length', does, found, ask, fault, cannot_arise}
use Rattle.int_core.specs.Value.{Value, same_truth}
use Rattle.lua_heap.specs.Plain.{heap, cell}
use Rattle.lua_heap.specs.Reading.{value}
use Rattle.lua_heap.specs.declared.world.Cell.{Cell as KeptCell}
use Rattle.machine_core.specs.World.{Wait}
use Rattle.machine_core.specs.Text.{Arg, read, args_of, operate, own, read_register, Text}
use Rattle.machine_core.specs.InstructionRows.{compares, to_register, next, row_of}
use Rattle.machine_focus.specs.Focus.{Held, local}
use Rattle.machine_view.specs.View.{Around, IsAt}
use Rattle.machine_view.proofs.Places.{behind_there, register_there}
use Rattle.machine_view.proofs.Rows.{Comes, comes, reads, reads_constant, same_text}
use Rattle.machine_view.proofs.Going.{at_either, at_next, decides, goes_by, puts}
use Rattle.table_core.specs.Table.{Contents}
use Rattle.table_core.specs.declared.value.Value.{Value as Kept}
use Rattle.table_core.specs.declared.value.Value.TheVariants.{Bool as Boolean, Int}
use Rattle.machine_arms_tables.specs.Fields.{Settles, upvalue_in, with_upvalue}
use Rattle.machine_arms_tables.specs.Frame.{Code, moment, IsOf, Leads}
use Rattle.machine_arms_tables.specs.Orders.{IsComparison, comparison}
use Rattle.machine_arms_tables.proofs.Leading.{held_at, leading, leading_to, open_alike, reads_either, reads_upvalue, writes_upvalue}

-- texts that a contract sees are those of the world
pub settled_here : {g : Around} {k : Code} {op : Operation} {xs vs : List Kept} {ts ts' : List Contents} → IsOf g k → Settles k.texts op xs ts ts' vs → Settles g.texts op xs ts ts' vs
settled_here {op = op} {xs = xs} {vs = vs} {ts = ts} {ts' = ts'} o d = subst (λ texts. Settles texts op xs ts ts' vs) (sym o.texts_are) d

module _ (g : Around) (meta : Option ℕ) (k : Code) (o : IsOf g k) (ts : List Contents) (cs : List KeptCell) (r : List Kept) (pc fuel : ℕ) where
  -- an operation that is settled at once, whose operands are these
  operates : {op : Operation} {xs : List Arg} {wait : Wait Arg} {t : Text} {env : List Value} {h : Option Held} (ys vs : List Kept) (ts' : List Contents)
      → args_of env xs ≡ map (value g.texts) ys → Settles k.texts op ys ts ts' vs
      → Comes g.context t (map (value g.texts) vs) (held_at g meta (moment ts' cs r pc fuel)) h
      → Comes g.context (operate op xs wait [] t) env (held_at g meta (moment ts cs r pc fuel)) h
  operates {op = op} {xs = xs} {t = t} {env = env} ys vs ts' e d q =
      let does_is : does op (args_of env xs) (heap g.texts ts meta) ≡ found (heap g.texts ts' meta) (map (value g.texts) vs) = ap (λ xs. does op xs (heap g.texts ts meta)) e ∙ (settled_here o d).settled meta o.code.apart o.code.short in
      comes (
      ap (λ r'. elim r' as (λ _. Option Held) [
        | found H vs ↦ local g.context t vs (record (held_at g meta (moment ts cs r pc fuel)) { heap = H })
        | ask h vs ↦ None
        | fault text ↦ None
        | cannot_arise ↦ None
      ]) does_is
      ∙ q.is)

  -- its value goes to a register
  pub gets_value : {op : Operation} {xs : List Arg} {wait : Wait Arg} {env : List Value} {s : List Kept} {to : ℕ} (ys : List Kept) (a : ℕ) (v : Kept)
      → args_of env xs ≡ map (value g.texts) ys → Settles k.texts op ys ts ts (v ∷ []) → to < length k.words → a < length r → s ≡ slice_set r a v → to ≡ pc + 1
      → Comes g.context (operate op xs wait [] (to_register a (read 0))) env (held_at g meta (moment ts cs r pc fuel)) (Some (held_at g meta (moment ts cs s to fuel)))
  gets_value ys a v e d l j f p = operates ys (v ∷ []) ts e d (puts g (heap g.texts ts meta) (map (cell g.texts) cs) r pc fuel {x = read 0} a 1 v o.code l j refl f p)

  -- a store that leaves the tables so
  pub stores : {xs : List Arg} {wait : Wait Arg} {env : List Value} {to : ℕ} (ys : List Kept) (ts' : List Contents)
      → args_of env xs ≡ map (value g.texts) ys → Settles k.texts store ys ts ts' [] → to < length k.words → to ≡ pc + 1
      → Comes g.context (operate store xs wait [] next) env (held_at g meta (moment ts cs r pc fuel)) (Some (held_at g meta (moment ts' cs r to fuel)))
  stores {to = to} ys ts' e d l p = operates ys [] ts' e d (goes_by g (heap g.texts ts' meta) (map (cell g.texts) cs) r pc fuel to 1 o.code l p)

-- reads

module _ (k : Code) {w : Instruction} {ts : List Contents} {r s : List Kept} {pc to : ℕ} {object key v : Kept} where
  pub get_element_does : IsAt GetTable w k.words k.constants r pc → slice_get r (b_of w) ≡ Some object → slice_get r (c_of w) ≡ Some key → Settles k.texts index (object ∷ key ∷ []) ts ts (v ∷ [])
      → s ≡ slice_set r (a_of w) v → to ≡ pc + 1 → (cells : List KeptCell) (fuel : ℕ) → Leads GetTable w k (moment ts cells r pc fuel) (moment ts cells s to fuel)
  get_element_does h eo ek d f p cells fuel = leading (at_next h refl p) (λ g meta o.
      reads g (heap g.texts ts meta) (map (cell g.texts) cells) r pc fuel (b_of w) object eo
      (reads g (heap g.texts ts meta) (map (cell g.texts) cells) r pc fuel (c_of w) key ek
      (gets_value g meta k o ts cells r pc fuel (object ∷ key ∷ []) (a_of w) v refl d (at_next h refl p) (register_there h 0 (a_of w) refl) f p)))

  pub get_field_does : IsAt GetField w k.words k.constants r pc → slice_get r (b_of w) ≡ Some object → slice_get k.constants (c_of w) ≡ Some key → Settles k.texts index (object ∷ key ∷ []) ts ts (v ∷ [])
      → s ≡ slice_set r (a_of w) v → to ≡ pc + 1 → (cells : List KeptCell) (fuel : ℕ) → Leads GetField w k (moment ts cells r pc fuel) (moment ts cells s to fuel)
  get_field_does h eo ek d f p cells fuel = leading (at_next h refl p) (λ g meta o.
      reads g (heap g.texts ts meta) (map (cell g.texts) cells) r pc fuel (b_of w) object eo
      (reads_constant g (heap g.texts ts meta) (map (cell g.texts) cells) r pc fuel (c_of w) key o.code ek
      (gets_value g meta k o ts cells r pc fuel (object ∷ key ∷ []) (a_of w) v refl d (at_next h refl p) (register_there h 0 (a_of w) refl) f p)))

  pub get_upvalue_field_does : {cells : List KeptCell} → IsAt GetTabUp w k.words k.constants r pc → upvalue_in k.upvalues cells (b_of w) ≡ Some object → slice_get k.constants (c_of w) ≡ Some key
      → Settles k.texts index (object ∷ key ∷ []) ts ts (v ∷ [])
      → s ≡ slice_set r (a_of w) v → to ≡ pc + 1 → (fuel : ℕ) → Leads GetTabUp w k (moment ts cells r pc fuel) (moment ts cells s to fuel)
  get_upvalue_field_does {cells = cells} h eo ek d f p fuel = leading (at_next h refl p) (λ g meta o.
      reads_upvalue g meta k o (moment ts cells r pc fuel) (b_of w) object eo
      (reads_constant g (heap g.texts ts meta) (map (cell g.texts) cells) r pc fuel (c_of w) key o.code ek
      (gets_value g meta k o ts cells r pc fuel (object ∷ key ∷ []) (a_of w) v refl d (at_next h refl p) (register_there h 0 (a_of w) refl) f p)))

pub get_integer_does : (k : Code) {w : Instruction} {ts : List Contents} {r s : List Kept} {pc to : ℕ} {object key v : Kept} → IsAt GetI w k.words k.constants r pc → slice_get r (b_of w) ≡ Some object → Int (pos (c_of w)) ≡ key
    → Settles k.texts index (object ∷ key ∷ []) ts ts (v ∷ [])
    → s ≡ slice_set r (a_of w) v → to ≡ pc + 1 → (cells : List KeptCell) (fuel : ℕ) → Leads GetI w k (moment ts cells r pc fuel) (moment ts cells s to fuel)
get_integer_does k {w = w} {ts = ts} {r = r} {pc = pc} {object = object} {key = key} {v = v} h eo ek d f p cells fuel = leading (at_next h refl p) (λ g meta o.
    reads g (heap g.texts ts meta) (map (cell g.texts) cells) r pc fuel (b_of w) object eo
    (gets_value g meta k o ts cells r pc fuel (object ∷ key ∷ []) (a_of w) v (ap (λ key. value g.texts object ∷ value g.texts key ∷ []) ek) d (at_next h refl p) (register_there h 0 (a_of w) refl) f p))

pub length_does : (k : Code) {w : Instruction} {ts : List Contents} {r s : List Kept} {pc to : ℕ} {object v : Kept} → IsAt Len w k.words k.constants r pc → slice_get r (b_of w) ≡ Some object
    → Settles k.texts length' (object ∷ []) ts ts (v ∷ [])
    → s ≡ slice_set r (a_of w) v → to ≡ pc + 1 → (cells : List KeptCell) (fuel : ℕ) → Leads Len w k (moment ts cells r pc fuel) (moment ts cells s to fuel)
length_does k {w = w} {ts = ts} {r = r} {pc = pc} {object = object} {v = v} h eo d f p cells fuel = leading (at_next h refl p) (λ g meta o.
    reads g (heap g.texts ts meta) (map (cell g.texts) cells) r pc fuel (b_of w) object eo
    (gets_value g meta k o ts cells r pc fuel (object ∷ []) (a_of w) v refl d (at_next h refl p) (register_there h 0 (a_of w) refl) f p))

-- comparisons of two registers
record OfComparison (op : Opcode) (w : Instruction) : Type 0 where
  pub row : (p : Prototype) (pc : ℕ) → row_of p pc op w ≡ own (read_register (a_of w)) (λ x _. own (read_register (b_of w)) (λ y _. compares (comparison op) (read x) (read y) w))
  pub names : registers op w ≡ a_of w ∷ b_of w ∷ []
  pub pair : second_half op w ≡ Some Jmp

of_comparison : (op : Opcode) (w : Instruction) → IsComparison op → OfComparison op w
of_comparison op w (inl e) = subst (λ op. OfComparison op w) (sym e) (record { row = λ p pc. refl; names = refl; pair = refl })
of_comparison op w (inr (inl e)) = subst (λ op. OfComparison op w) (sym e) (record { row = λ p pc. refl; names = refl; pair = refl })
of_comparison op w (inr (inr e)) = subst (λ op. OfComparison op w) (sym e) (record { row = λ p pc. refl; names = refl; pair = refl })

module _ (k : Code) {op : Opcode} {w : Instruction} {r : List Kept} {pc : ℕ} (h : IsAt op w k.words k.constants r pc) (form : IsComparison op) where
  it : OfComparison op w
  it = of_comparison op w form

  pub compared_named : (n i : ℕ) → slice_get (a_of w ∷ b_of w ∷ []) n ≡ Some i → i < length r
  compared_named n i e = register_there h n i (ap (λ is. slice_get is n) it.names ∙ e)

  pub compared_behind : pc + 2 < length k.words
  compared_behind = behind_there h Jmp it.pair refl

  pub compare_does : {ts : List Contents} {to : ℕ} (u v : Kept) (b : Bool) → slice_get r (a_of w) ≡ Some u → slice_get r (b_of w) ≡ Some v → Settles k.texts (comparison op) (u ∷ v ∷ []) ts ts (Boolean b ∷ [])
      → to ≡ pc + cond (same_truth b (k_of w)) 1 2 → (cells : List KeptCell) (fuel : ℕ) → Leads op w k (moment ts cells r pc fuel) (moment ts cells r to fuel)
  compare_does {ts = ts} u v b eu ev d p cells fuel =
      let l = at_either h Jmp it.pair refl (same_truth b (k_of w)) p in
      leading l (λ g meta o.
      same_text (it.row g.context.closure.code pc)
      (reads g (heap g.texts ts meta) (map (cell g.texts) cells) r pc fuel (a_of w) u eu
      (reads g (heap g.texts ts meta) (map (cell g.texts) cells) r pc fuel (b_of w) v ev
      (decides g (heap g.texts ts meta) (map (cell g.texts) cells) r pc fuel w b o.code l p ((settled_here o d).settled meta o.code.apart o.code.short)))))

-- upvalues

pub get_upvalue_does : (k : Code) {w : Instruction} {cells : List KeptCell} {r s : List Kept} {pc to : ℕ} {v : Kept} → IsAt GetUpval w k.words k.constants r pc → upvalue_in k.upvalues cells (b_of w) ≡ Some v
    → s ≡ slice_set r (a_of w) v → to ≡ pc + 1 → (ts : List Contents) (fuel : ℕ) → Leads GetUpval w k (moment ts cells r pc fuel) (moment ts cells s to fuel)
get_upvalue_does k {w = w} {cells = cells} {r = r} {pc = pc} {v = v} h e f p ts fuel = leading (at_next h refl p) (λ g meta o.
    reads_upvalue g meta k o (moment ts cells r pc fuel) (b_of w) v e
    (puts g (heap g.texts ts meta) (map (cell g.texts) cells) r pc fuel {x = read 0} (a_of w) 1 v o.code (at_next h refl p) (register_there h 0 (a_of w) refl) refl f p))

pub set_upvalue_does : (k : Code) {w : Instruction} {cells cells' : List KeptCell} {r : List Kept} {pc to : ℕ} {v : Kept} → IsAt SetUpval w k.words k.constants r pc → slice_get r (a_of w) ≡ Some v
    → with_upvalue k.upvalues cells (b_of w) v ≡ Some cells' → to ≡ pc + 1 → (ts : List Contents) (fuel : ℕ) → Leads SetUpval w k (moment ts cells r pc fuel) (moment ts cells' r to fuel)
set_upvalue_does k {w = w} {cells = cells} {cells' = cells'} {r = r} {pc = pc} {to = to} {v = v} h e q p ts fuel = leading_to (at_next h refl p) (open_alike k (moment ts cells r pc fuel) (b_of w) v cells' q) (λ g meta o.
    reads g (heap g.texts ts meta) (map (cell g.texts) cells) r pc fuel (a_of w) v e
    (writes_upvalue g meta k o (moment ts cells r pc fuel) {x = read 0} (b_of w) v cells' q refl
    (goes_by g (heap g.texts ts meta) (map (cell g.texts) cells') r pc fuel to 1 o.code (at_next h refl p) p)))

-- writes

-- a value is the operand C: that of a register, or a constant with k
abbrev pub IsOperand : Code → Instruction → List Kept → Kept → Type 0
IsOperand k w r v = cond (k_of w) (slice_get k.constants (c_of w)) (slice_get r (c_of w)) ≡ Some v

module _ (k : Code) {w : Instruction} {ts ts' : List Contents} {r : List Kept} {pc to : ℕ} {object key v : Kept} where
  pub set_element_does : IsAt SetTable w k.words k.constants r pc → slice_get r (a_of w) ≡ Some object → slice_get r (b_of w) ≡ Some key → IsOperand k w r v → Settles k.texts store (object ∷ key ∷ v ∷ []) ts ts' []
      → to ≡ pc + 1 → (cells : List KeptCell) (fuel : ℕ) → Leads SetTable w k (moment ts cells r pc fuel) (moment ts' cells r to fuel)
  set_element_does h eo ek ev d p cells fuel = leading (at_next h refl p) (λ g meta o.
      reads g (heap g.texts ts meta) (map (cell g.texts) cells) r pc fuel (a_of w) object eo
      (reads g (heap g.texts ts meta) (map (cell g.texts) cells) r pc fuel (b_of w) key ek
      (reads_either g meta (moment ts cells r pc fuel) _ w v o.code ev
      (stores g meta k o ts cells r pc fuel (object ∷ key ∷ v ∷ []) ts' refl d (at_next h refl p) p))))

  pub set_field_does : IsAt SetField w k.words k.constants r pc → slice_get r (a_of w) ≡ Some object → slice_get k.constants (b_of w) ≡ Some key → IsOperand k w r v → Settles k.texts store (object ∷ key ∷ v ∷ []) ts ts' []
      → to ≡ pc + 1 → (cells : List KeptCell) (fuel : ℕ) → Leads SetField w k (moment ts cells r pc fuel) (moment ts' cells r to fuel)
  set_field_does h eo ek ev d p cells fuel = leading (at_next h refl p) (λ g meta o.
      reads g (heap g.texts ts meta) (map (cell g.texts) cells) r pc fuel (a_of w) object eo
      (reads_constant g (heap g.texts ts meta) (map (cell g.texts) cells) r pc fuel (b_of w) key o.code ek
      (reads_either g meta (moment ts cells r pc fuel) _ w v o.code ev
      (stores g meta k o ts cells r pc fuel (object ∷ key ∷ v ∷ []) ts' refl d (at_next h refl p) p))))

  pub set_upvalue_field_does : {cells : List KeptCell} → IsAt SetTabUp w k.words k.constants r pc → upvalue_in k.upvalues cells (a_of w) ≡ Some object → slice_get k.constants (b_of w) ≡ Some key → IsOperand k w r v
      → Settles k.texts store (object ∷ key ∷ v ∷ []) ts ts' []
      → to ≡ pc + 1 → (fuel : ℕ) → Leads SetTabUp w k (moment ts cells r pc fuel) (moment ts' cells r to fuel)
  set_upvalue_field_does {cells = cells} h eo ek ev d p fuel = leading (at_next h refl p) (λ g meta o.
      reads_upvalue g meta k o (moment ts cells r pc fuel) (a_of w) object eo
      (reads_constant g (heap g.texts ts meta) (map (cell g.texts) cells) r pc fuel (b_of w) key o.code ek
      (reads_either g meta (moment ts cells r pc fuel) _ w v o.code ev
      (stores g meta k o ts cells r pc fuel (object ∷ key ∷ v ∷ []) ts' refl d (at_next h refl p) p))))

pub set_integer_does : (k : Code) {w : Instruction} {ts ts' : List Contents} {r : List Kept} {pc to : ℕ} {object key v : Kept} → IsAt SetI w k.words k.constants r pc → slice_get r (a_of w) ≡ Some object → Int (pos (b_of w)) ≡ key
    → IsOperand k w r v → Settles k.texts store (object ∷ key ∷ v ∷ []) ts ts' []
    → to ≡ pc + 1 → (cells : List KeptCell) (fuel : ℕ) → Leads SetI w k (moment ts cells r pc fuel) (moment ts' cells r to fuel)
set_integer_does k {w = w} {ts = ts} {ts' = ts'} {r = r} {pc = pc} {object = object} {key = key} {v = v} h eo ek ev d p cells fuel = leading (at_next h refl p) (λ g meta o.
    reads g (heap g.texts ts meta) (map (cell g.texts) cells) r pc fuel (a_of w) object eo
    (reads_either g meta (moment ts cells r pc fuel) _ w v o.code ev
    (stores g meta k o ts cells r pc fuel (object ∷ key ∷ v ∷ []) ts' (ap (λ key. value g.texts object ∷ value g.texts key ∷ value g.texts v ∷ []) ek) d (at_next h refl p) p)))
