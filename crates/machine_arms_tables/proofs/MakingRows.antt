-- The row of the instruction that makes a table.
use Rattle.std.proofs.Common.{◌≡◌, ℕ, ◌+◌, List, [], ◌∷◌, ◌++◌, length, map, Option, Some, None, refl, ap, ap₂, sym, ◌∙◌}
use Rattle.std.specs.Prelude.{pos, cond, option_and_then, slice_get, slice_set}
use Rattle.std.specs.Option.{option_map}
use Rattle.std.proofs.lemmas.List.{length-map, map_push}
use Rattle.code_core.specs.Check.{extra_at, is_same, there}
use Rattle.code_core.specs.Instruction.{a_of, ax_of, opcode_of}
use Rattle.code_core.specs.Prototype.{Prototype}
use Rattle.code_core.specs.declared.instruction.Instruction.{Instruction}
use Rattle.code_core.specs.declared.opcode.Opcode.TheVariants.{ExtraArg, NewTable}
use Rattle.int_core.specs.Heap.{Heap, Table as PlainTable, add_table}
use Rattle.int_core.specs.Value.{Value, object, a_table}
use Rattle.lua_heap.specs.Plain.{cell, heap, table}
use Rattle.lua_heap.specs.Reading.{row, value}
use Rattle.lua_heap.specs.declared.world.Cell.{Cell as KeptCell}
use Rattle.machine_core.specs.InstructionRows.{with_extra}
use Rattle.machine_core.specs.Text.{Text, go_by, make_table, own, quick, read, trap, write_register}
use Rattle.machine_focus.specs.Focus.{Held, local}
use Rattle.machine_view.specs.View.{Around, IsAt, IsCode, held}
use Rattle.machine_view.proofs.Going.{at_second, puts}
use Rattle.machine_view.proofs.Places.{extra_there, register_there, second_there}
use Rattle.machine_view.proofs.Rows.{Comes, comes, same_text}
use Rattle.table_core.specs.Table.{Contents}
use Rattle.table_core.specs.declared.value.TableId.{TableId}
use Rattle.table_core.specs.declared.value.Value.{Value as Kept}
use Rattle.table_core.specs.declared.value.Value.TheVariants.{Table}
use Rattle.machine_arms_tables.specs.Frame.{Code, Leads, moment}
use Rattle.machine_arms_tables.specs.Making.{AddsEmpty}
use Rattle.machine_arms_tables.proofs.Leading.{leading}

-- the word behind the instruction

same_extra : (p q : Prototype) (pc : ℕ) → p.own.code ≡ q.own.code → extra_at p pc ≡ extra_at q pc
same_extra p q pc e = ap (λ (code : List Instruction). option_and_then (λ w. cond (there (is_same ExtraArg) (opcode_of w)) (Some (ax_of w)) None) (slice_get code (pc + 1))) e

with_extra_is : (p : Prototype) (pc ax : ℕ) (k : ℕ → Text) → extra_at p pc ≡ Some ax → with_extra p pc k ≡ k ax
with_extra_is p pc ax k e = ap (λ (o : Option ℕ). elim o as (λ _. Text) [ None ↦ trap | Some ax ↦ k ax ]) e

extra_of : {w : Instruction} {ws : List Instruction} {ks r : List Kept} {pc : ℕ} → IsAt NewTable w ws ks r pc → (g : Around) → IsCode g ws ks → (ax : ℕ) × (extra_at g.context.closure.code pc ≡ Some ax)
extra_of {pc = pc} h g c =
    let x = second_there h ExtraArg refl in
    let in_words = ap (λ ws. slice_get ws (pc + 1)) (sym h.is_code.words_are) ∙ x.1 in
    (ax_of x.0, same_extra g.context.closure.code h.code pc (c.code.words_are ∙ sym h.is_code.words_are) ∙ extra_there h x.0 refl in_words)

-- a table without a row

abbrev table_with : List (Value × Value) → Option ℕ → PlainTable
table_with rows metatable = record { rows = rows; metatable = metatable }

abbrev heap_with : List PlainTable → Option ℕ → Heap
heap_with tables string_metatable = record { tables = tables; string_metatable = string_metatable }

is_empty : (texts : List (List ℕ)) (t : Contents) → t.rows ≡ [] → t.metatable ≡ None → table texts t ≡ table_with [] None
is_empty texts t r m = ap₂ table_with (ap (map (row texts)) r) (ap (option_map (λ (m : TableId). m.0)) m)

heap_grows : (texts : List (List ℕ)) (ts ts' : List Contents) (meta : Option ℕ) → AddsEmpty ts ts' → add_table (heap texts ts meta) ≡ heap texts ts' meta
heap_grows texts ts ts' meta a =
    ap (λ tables. heap_with tables meta)
    (ap (λ t. map (table texts) ts ++ t ∷ []) (sym (is_empty texts a.table a.rows a.metatable))
    ∙ sym (map_push (table texts) ts a.table)
    ∙ ap (map (table texts)) (sym a.added))

makes : (g : Around) (meta : Option ℕ) (ts ts' : List Contents) (cells : List KeptCell) (r : List Kept) (pc fuel : ℕ) (k : ℕ → Text) (o : Option Held) (id : TableId) → id.0 ≡ length ts → AddsEmpty ts ts'
    → Comes g.context (k 0) (value g.texts (Table id) ∷ []) (held g (heap g.texts ts' meta) (map (cell g.texts) cells) r pc fuel) o
    → Comes g.context (quick make_table k) [] (held g (heap g.texts ts meta) (map (cell g.texts) cells) r pc fuel) o
makes g meta ts ts' cells r pc fuel k o id n a q =
    let now = λ (H : Heap). held g H (map (cell g.texts) cells) r pc fuel in
    comes (
    ap (λ m. local g.context (k 0) (object a_table m ∷ []) (now (add_table (heap g.texts ts meta)))) (length-map ts (table g.texts) ∙ sym n)
    ∙ ap (λ H. local g.context (k 0) (object a_table id.0 ∷ []) (now H)) (heap_grows g.texts ts ts' meta a)
    ∙ q.is)

pub new_table_does : (k : Code) {w : Instruction} {ts ts' : List Contents} {r s : List Kept} {pc to : ℕ} (id : TableId) → IsAt NewTable w k.words k.constants r pc → id.0 ≡ length ts → AddsEmpty ts ts'
    → s ≡ slice_set r (a_of w) (Table id) → to ≡ pc + 2 → (cells : List KeptCell) (fuel : ℕ) → Leads NewTable w k (moment ts cells r pc fuel) (moment ts' cells s to fuel)
new_table_does k {w = w} {ts = ts} {ts' = ts'} {r = r} {s = s} {pc = pc} {to = to} id h n a f p cells fuel =
    let l = at_second h ExtraArg refl refl p in
    leading l (λ g meta o.
    let x = extra_of h g o.code in
    same_text (with_extra_is g.context.closure.code pc x.0 (λ _. quick make_table (λ t. own (write_register (a_of w) (read t)) (λ _ _. go_by (pos 2)))) x.1)
    (makes g meta ts ts' cells r pc fuel (λ t. own (write_register (a_of w) (read t)) (λ _ _. go_by (pos 2))) (Some (held g (heap g.texts ts' meta) (map (cell g.texts) cells) s to fuel)) id n a
    (puts g (heap g.texts ts' meta) (map (cell g.texts) cells) r pc fuel {x = read 0} (a_of w) 2 (Table id) o.code l (register_there h 0 (a_of w) refl) refl f p)))
