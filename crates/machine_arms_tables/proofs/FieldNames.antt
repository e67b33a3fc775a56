-- The object and the key of an instruction on a field are there, and what its row does with them.
use Rattle.std.proofs.Common.{◌≡◌, ℕ, ◌+◌, ◌<◌, List, [], ◌∷◌, length, Option, Some, None, refl, ap, sym, ◌∙◌, Bool, true, false}
use Rattle.std.specs.Prelude.{cond, not, is_some, IfSome, IsTrue, pos, slice_get, slice_set}
use Rattle.code_core.specs.Fields.{anything, name}
use Rattle.code_core.specs.Instruction.{a_of, b_of, c_of, k_of}
use Rattle.code_core.specs.declared.instruction.Instruction.{Instruction}
use Rattle.code_core.specs.declared.opcode.Opcode.{Opcode}
use Rattle.code_core.specs.declared.opcode.Opcode.TheVariants.{GetTabUp, GetTable, GetI, GetField, SetTabUp, SetTable, SetI, SetField}
use Rattle.int_core.specs.Operations.{index, store}
use Rattle.lua_heap.specs.declared.world.Cell.{Cell as KeptCell}
use Rattle.machine_sound.proofs.Lists.{some_is}
use Rattle.machine_view.specs.View.{IsAt}
use Rattle.machine_view.proofs.Places.{constant_there, next_there, register_there}
use Rattle.table_core.specs.Table.{Contents}
use Rattle.table_core.specs.declared.value.Value.{Value as Kept}
use Rattle.table_core.specs.declared.value.Value.TheVariants.{Int}
use Rattle.machine_arms_tables.specs.Fields.{Settles, upvalue_in}
use Rattle.machine_arms_tables.specs.Frame.{Code, LeadsOn}
use Rattle.machine_arms_tables.specs.Named.{Naming, naming_of, in_upvalue, key_at, key_in, key_number, key_of, names_field, object_number, object_of, reads_field, stores_field}
use Rattle.machine_arms_tables.specs.declared.names.KeyIn.{KeyIn}
use Rattle.machine_arms_tables.specs.declared.names.KeyIn.TheVariants.{Register, Constant}
use Rattle.machine_arms_tables.proofs.FieldRows.{IsOperand, get_element_does, get_field_does, get_integer_does, get_upvalue_field_does, set_element_does, set_field_does, set_integer_does, set_upvalue_field_does}
use Rattle.machine_arms_tables.proofs.Operands.{operand_constant, operand_register}

pub read_names : (op : Opcode) → IsTrue (reads_field op) → IsTrue (names_field op)
read_names op f = by (naming_of op) f
  where
    by : (o : Option Naming) → elim o as (λ _. Bool) [ None ↦ false | Some n ↦ not n.stores ] ≡ true → is_some o ≡ true
    by None f = f
    by (Some n) f = refl

pub store_names : (op : Opcode) → IsTrue (stores_field op) → IsTrue (names_field op)
store_names op f = by (naming_of op) f
  where
    by : (o : Option Naming) → elim o as (λ _. Bool) [ None ↦ false | Some n ↦ n.stores ] ≡ true → is_some o ≡ true
    by None f = f
    by (Some n) f = refl

-- the registers and the constants are there

module _ {w : Instruction} {ws : List Instruction} {ks r : List Kept} {pc : ℕ} where
  pub object_there : (op : Opcode) → IsAt op w ws ks r pc → IsTrue (names_field op) → in_upvalue op ≡ false → object_number op w < length r
  object_there GetTable h f e = register_there h 1 (b_of w) refl
  object_there GetI h f e = register_there h 1 (b_of w) refl
  object_there GetField h f e = register_there h 1 (b_of w) refl
  object_there SetTable h f e = register_there h 0 (a_of w) refl
  object_there SetI h f e = register_there h 0 (a_of w) refl
  object_there SetField h f e = register_there h 0 (a_of w) refl
  object_there _ h f e = absurd (cc)

  pub key_register : (op : Opcode) → IsAt op w ws ks r pc → IsTrue (names_field op) → key_in op ≡ Register → key_number op w < length r
  key_register GetTable h f e = register_there h 2 (c_of w) refl
  key_register SetTable h f e = register_there h 1 (b_of w) refl
  key_register _ h f e = absurd (cc)

  pub key_constant : (op : Opcode) → IsAt op w ws ks r pc → IsTrue (names_field op) → key_in op ≡ Constant → key_number op w < length ks
  key_constant GetTabUp h f e = constant_there h 0 (c_of w) name refl
  key_constant GetField h f e = constant_there h 0 (c_of w) name refl
  key_constant SetTabUp h f e = constant_there h 0 (b_of w) name refl
  key_constant SetField h f e = constant_there h 0 (b_of w) name refl
  key_constant _ h f e = absurd (cc)

  pub read_target : (op : Opcode) → IsAt op w ws ks r pc → IsTrue (reads_field op) → a_of w < length r
  read_target GetTabUp h f = register_there h 0 (a_of w) refl
  read_target GetTable h f = register_there h 0 (a_of w) refl
  read_target GetI h f = register_there h 0 (a_of w) refl
  read_target GetField h f = register_there h 0 (a_of w) refl
  read_target _ h f = absurd (cc)

  pub field_next : (op : Opcode) → IsAt op w ws ks r pc → IsTrue (names_field op) → pc + 1 < length ws
  field_next GetTabUp h f = next_there h refl
  field_next GetTable h f = next_there h refl
  field_next GetI h f = next_there h refl
  field_next GetField h f = next_there h refl
  field_next SetTabUp h f = next_there h refl
  field_next SetTable h f = next_there h refl
  field_next SetI h f = next_there h refl
  field_next SetField h f = next_there h refl
  field_next _ h f = absurd (cc)

  -- the value of a store
  pub store_constant : (op : Opcode) → IsAt op w ws ks r pc → IsTrue (stores_field op) → k_of w ≡ true → c_of w < length ks
  store_constant SetTabUp h f = operand_constant h anything (λ k. (name, b_of w) ∷ cond k ((anything, c_of w) ∷ []) []) 1 refl refl
  store_constant SetTable h f = operand_constant h anything (λ k. cond k ((anything, c_of w) ∷ []) []) 0 refl refl
  store_constant SetI h f = operand_constant h anything (λ k. cond k ((anything, c_of w) ∷ []) []) 0 refl refl
  store_constant SetField h f = operand_constant h anything (λ k. (name, b_of w) ∷ cond k ((anything, c_of w) ∷ []) []) 1 refl refl
  store_constant _ h f = absurd (cc)

  pub store_register : (op : Opcode) → IsAt op w ws ks r pc → IsTrue (stores_field op) → k_of w ≡ false → c_of w < length r
  store_register SetTabUp h f = operand_register h (λ k. cond k [] (c_of w ∷ [])) 0 refl refl
  store_register SetTable h f = operand_register h (λ k. a_of w ∷ b_of w ∷ cond k [] (c_of w ∷ [])) 2 refl refl
  store_register SetI h f = operand_register h (λ k. a_of w ∷ cond k [] (c_of w ∷ [])) 1 refl refl
  store_register SetField h f = operand_register h (λ k. a_of w ∷ cond k [] (c_of w ∷ [])) 1 refl refl
  store_register _ h f = absurd (cc)

-- as the tests tell it

pub number_is : {v : Kept} {m n : ℕ} → v ≡ Int (pos m) → m ≡ n → Some (Int (pos n)) ≡ Some v
number_is e f = ap (λ (n : ℕ). Some (Int (pos n))) (sym f) ∙ ap (λ (v : Kept). Some v) (sym e)

module _ (k : Code) (op : Opcode) (w : Instruction) (cells : List KeptCell) (r : List Kept) where
  pub object_in_register : {v : Kept} → in_upvalue op ≡ false → slice_get r (object_number op w) ≡ Some v → object_of op k cells r w ≡ Some v
  object_in_register e f = ap (λ b. cond b (upvalue_in k.upvalues cells (object_number op w)) (slice_get r (object_number op w))) e ∙ f

  pub object_in_upvalue : {n : ℕ} (o : Option Kept) → in_upvalue op ≡ true → n ≡ object_number op w → o ≡ upvalue_in k.upvalues cells n → IfSome o (λ v. object_of op k cells r w ≡ Some v)
  object_in_upvalue None e m f = tt
  object_in_upvalue (Some v) e m f = ap (λ b. cond b (upvalue_in k.upvalues cells (object_number op w)) (slice_get r (object_number op w))) e ∙ ap (upvalue_in k.upvalues cells) (sym m) ∙ sym f

pub key_found : (k : Code) (op : Opcode) (w : Instruction) (r : List Kept) {place : KeyIn} {v : Kept} → key_in op ≡ place → key_at place k r (key_number op w) ≡ Some v → key_of op k r w ≡ Some v
key_found k op w r e f = ap (λ (p : KeyIn). key_at p k r (key_number op w)) e ∙ f

-- what the rows do

module _ (k : Code) {w : Instruction} {cells : List KeptCell} {r : List Kept} {pc to : ℕ} {object key v : Kept} where
  pub get_does : {ts : List Contents} {s : List Kept} (op : Opcode) → IsAt op w k.words k.constants r pc → IsTrue (reads_field op) → object_of op k cells r w ≡ Some object → key_of op k r w ≡ Some key
      → Settles k.texts index (object ∷ key ∷ []) ts ts (v ∷ []) → s ≡ slice_set r (a_of w) v → to ≡ pc + 1 → LeadsOn op w k pc to ts ts cells cells r s
  get_does GetTabUp h form eo ek d f p = record { leads = get_upvalue_field_does k h eo ek d f p }
  get_does GetTable h form eo ek d f p = record { leads = get_element_does k h eo ek d f p cells }
  get_does GetI h form eo ek d f p = record { leads = get_integer_does k h eo (some_is refl ek) d f p cells }
  get_does GetField h form eo ek d f p = record { leads = get_field_does k h eo ek d f p cells }
  get_does _ h form eo ek d f p = absurd (cc)

  pub set_does : {ts ts' : List Contents} (op : Opcode) → IsAt op w k.words k.constants r pc → IsTrue (stores_field op) → object_of op k cells r w ≡ Some object → key_of op k r w ≡ Some key → IsOperand k w r v
      → Settles k.texts store (object ∷ key ∷ v ∷ []) ts ts' [] → to ≡ pc + 1 → LeadsOn op w k pc to ts ts' cells cells r r
  set_does SetTabUp h form eo ek ev d p = record { leads = set_upvalue_field_does k h eo ek ev d p }
  set_does SetTable h form eo ek ev d p = record { leads = set_element_does k h eo ek ev d p cells }
  set_does SetI h form eo ek ev d p = record { leads = set_integer_does k h eo (some_is refl ek) ev d p cells }
  set_does SetField h form eo ek ev d p = record { leads = set_field_does k h eo ek ev d p cells }
  set_does _ h form eo ek ev d p = absurd (cc)
