-- What a sound world holds can be read: strings are there, code is checked, frames that are suspended wait, and cells have values.
use Rattle.std.proofs.Common.{◌≡◌, ℕ, ◌+◌, ◌<◌, ◌≤◌, List, Option, Some, None, length, map, refl, sym, ap, ◌∙◌, subst, arith, true}
use Rattle.std.specs.Prelude.{slice_get, nat_le, IsTrue, IsSome}
use Rattle.int_core.specs.Value.{Value, bind}
use Rattle.code_core.specs.declared.instruction.Instruction.{Instruction}
use Rattle.code_core.specs.declared.opcode.Opcode.{Opcode}
use Rattle.code_core.specs.declared.opcode.Opcode.TheVariants.{Concat}
use Rattle.code_core.specs.Check.{IsChecked}
use Rattle.code_core.specs.Instruction.{b_of}
use Rattle.code_core.specs.Prototype.{Parts, Prototype}
use Rattle.code_core.specs.Writable.{Writable, list_fits, parts_fit}
use Rattle.code_core.proofs.CheckedLemmas.{described_is_writable, first_of_two, rest_of}
use Rattle.chunk_format.proofs.SpelledFunctions.{fits_of}
use Rattle.machine_core.specs.World.{Function as MachineFunction, for_concat, read_cell}
use Rattle.table_core.specs.declared.value.Value.{Value as Kept}
use Rattle.table_core.specs.declared.value.Value.TheVariants as kept
use Rattle.table_core.specs.Table.{Contents}
use Rattle.machine_sound.specs.Sound.{Each, Sizes, sizes, Valid, OptionOk, WaitOk, FrameOk, FrameWaits, waits_at, CoroutineOk}
use Rattle.machine_sound.proofs.Lists.{get_map, get_there, some_is}
use Rattle.machine_sound.proofs.Values.{le_of}
use Rattle.image_sound.proofs.Savable.{open_cells_there}
use Rattle.lua_stack.specs.declared.frame.Wait.{Wait as KeptWait}
use Rattle.lua_stack.specs.declared.frame.Wait.TheVariants.{ForConcat, Leaving}
use Rattle.lua_stack.specs.Frames.{KeptFrame, kept_lua, kept_pcall, kept_xpcall, kept_handler, kept_closing, wait_of, error_of, frame_of}
use Rattle.lua_heap.specs.declared.world.Cell.{Cell as KeptCell}
use Rattle.lua_heap.specs.declared.world.Cell.TheVariants.{Closed, Open}
use Rattle.lua_heap.specs.declared.world.Coro.{Coro}
use Rattle.lua_heap.specs.declared.world.Coro.TheVariants.{Fresh, Suspended, Running as Runs, Normal, Dead, Failed}
use Rattle.lua_heap.specs.declared.world.Func.{Func as Function}
use Rattle.lua_heap.specs.declared.world.World.{World as Memory}
use Rattle.lua_heap.specs.Changes.{value_in}
use Rattle.lua_heap.specs.Codes.{code_or_none, functions, prototype_at}
use Rattle.lua_heap.specs.Law.{StringsAreThere}
use Rattle.lua_heap.specs.Plain.{plain, cell, coroutine, function, table}
use Rattle.lua_heap.specs.Reading.{value, row}
use Rattle.graph_core.specs.Cells.{CellsAreThere}
use Rattle.eris_write.specs.Frames.{WaitStands, FrameStands, CoroutineStands}
use Rattle.eris_write.specs.Writing.{HasText, HaveTexts, IsReadable, IsWhole, RowsHaveTexts}

module _ (strings : StringsAreThere) (z : Sizes) (texts : List (List ℕ)) where
  has_text : (v : Kept) → Valid z (value texts v) → HasText texts v
  has_text (kept.Str id) h = strings z texts id h
  has_text _ h = tt

  have_texts : (vs : List Kept) → Each (Valid z) (map (value texts) vs) → HaveTexts texts vs
  have_texts vs h i v g = has_text v (h i (value texts v) (get_map (value texts) vs i v g))

  rows_have_texts : (rows : List (Kept × Kept)) → Each (λ row. Valid z row.0 × Valid z row.1) (map (row texts) rows) → RowsHaveTexts texts rows
  rows_have_texts rows h i r g = let k = h i (row texts r) (get_map (row texts) rows i r g) in (has_text r.0 k.0, has_text r.1 k.1)

  concat_small : (left : ℕ) (op : Opcode) (w : Instruction) → IsTrue (waits_at {V = Value} (for_concat left) op w) → left < 256
  concat_small left Concat w h = let l = le_of (left + 2) (b_of w) h in omega (arith, l)
  concat_small left op w h = absurd (cc)

  wait_stands : (wait : KeptWait) (op : Opcode) (w : Instruction) → WaitOk z (wait_of (value texts) wait) → IsTrue (waits_at (wait_of (value texts) wait) op w) → WaitStands texts wait
  wait_stands (ForConcat left) op w h k = concat_small left op w k
  wait_stands (Leaving error) op w h k = has_text error h
  wait_stands _ op w h k = tt

  error_stands : (e : Option Kept) → OptionOk (Valid z) (error_of (value texts) e) → OptionOk (HasText texts) e
  error_stands None h = tt
  error_stands (Some e) h = has_text e h

  frame_stands : (f : KeptFrame) → FrameOk z (frame_of (value texts) f) → FrameWaits z (frame_of (value texts) f) → FrameStands texts f
  frame_stands (kept_lua t) h k = record {
    varargs = have_texts t.varargs h.varargs;
    registers = have_texts t.registers h.registers;
    wait = wait_stands t.wait k.opcode k.instruction h.error k.fits;
    opened = k.opened;
  }
  frame_stands kept_pcall h k = tt
  frame_stands (kept_xpcall v) h k = has_text v h
  frame_stands kept_handler h k = tt
  frame_stands (kept_closing error left) h k = (error_stands error h.0, have_texts left h.1)

  coroutine_stands : (c : Coro) → CoroutineOk z (coroutine texts c) → CoroutineStands texts c
  coroutine_stands (Fresh body) h = has_text body h.0
  coroutine_stands (Suspended stack) h = λ i f g. let e = get_map (frame_of (value texts)) stack.frames i f g in frame_stands f (h.right.each i (frame_of (value texts) f) e) (h.waits i (frame_of (value texts) f) e)
  coroutine_stands (Runs stack) h = tt
  coroutine_stands (Normal stack) h = tt
  coroutine_stands Dead h = tt
  coroutine_stands (Failed error pending) h = (has_text error h.0, have_texts pending.items h.1)

pub texts_there : StringsAreThere → (z : Sizes) (texts : List (List ℕ)) (vs : List Kept) → Each (Valid z) (map (value texts) vs) → HaveTexts texts vs
texts_there strings z texts vs h = have_texts strings z texts vs h

pub table_readable : StringsAreThere → (W : Memory) → IsReadable W → (n : ℕ) (t : Contents) → slice_get W.tables.objects n ≡ Some t → RowsHaveTexts W.strings t.rows
table_readable strings W r n t g = rows_have_texts strings (sizes r.primitives (plain W 0)) W.strings t.rows (r.solid.tables n (table W.strings t) (get_map (table W.strings) W.tables.objects n t g)).rows

pub function_whole : (W : Memory) → IsReadable W → (n : ℕ) (f : Function) → slice_get W.funcs.objects n ≡ Some f → IsWhole (function (functions W.codes) f)
function_whole W r n f g = let k = r.solid.functions n (function (functions W.codes) f) (get_map (function (functions W.codes)) W.funcs.objects n f g) in record { code = k.code; count = k.count }

pub coroutine_readable : StringsAreThere → (W : Memory) → IsReadable W → (n : ℕ) (c : Coro) → slice_get W.coros.objects n ≡ Some c → CoroutineStands W.strings c
coroutine_readable strings W r n c g = coroutine_stands strings (sizes r.primitives (plain W 0)) W.strings c (r.solid.coroutines n (coroutine W.strings c) (get_map (coroutine W.strings) W.coros.objects n c g))

-- cells

cell_at : (W : Memory) (n : ℕ) (c : KeptCell) → slice_get W.cells.objects n ≡ Some c → value_in (plain W 0) n ≡ read_cell (plain W 0) (cell W.strings c)
cell_at W n c g = ap (λ o. bind o (read_cell (plain W 0))) (get_map (cell W.strings) W.cells.objects n c g)

abbrev HasValue : (W : Memory) (p n : ℕ) → Type 0
HasValue W p n = (v : Value) × (value_in (plain W 0) n ≡ Some v) × Valid (sizes p (plain W 0)) v

has_value : (W : Memory) (r : IsReadable W) (n : ℕ) (c : KeptCell) → slice_get W.cells.objects n ≡ Some c → HasValue W r.primitives n
has_value W r n (Closed v) g = (value W.strings v, cell_at W n (Closed v) g, r.solid.cells n (cell W.strings (Closed v)) (get_map (cell W.strings) W.cells.objects n (Closed v) g))
has_value W r n (Open co frame register) g =
    let t = open_cells_there r.primitives (plain W 0) r.solid n co.0 frame register (get_map (cell W.strings) W.cells.objects n (Open co frame register) g) in
    (t.0, cell_at W n (Open co frame register) g ∙ t.1, t.2)

pub cells_readable : (W : Memory) → IsReadable W → CellsAreThere W
cells_readable W r n l = let c = get_there W.cells.objects n l in let v = has_value W r n c.0 c.1 in subst IsSome (sym v.1) refl

pub cell_text : StringsAreThere → (W : Memory) → IsReadable W → (n : ℕ) (c : KeptCell) (v : Kept) → slice_get W.cells.objects n ≡ Some c → value_in (plain W 0) n ≡ Some (value W.strings v) → HasText W.strings v
cell_text strings W r n c v g e = let h = has_value W r n c g in has_text strings (sizes r.primitives (plain W 0)) W.strings v (subst (Valid (sizes r.primitives (plain W 0))) (some_is h.1 e) h.2)

-- code

pub code_writable : (ps : List Prototype) (n : ℕ) (p : Prototype) → slice_get ps n ≡ Some p → IsChecked (prototype_at ps n) → Writable p
code_writable ps n p g h = let k : IsChecked p = subst IsChecked (ap code_or_none g) h in described_is_writable p k.code.described

pub code_found : (ps : List Prototype) (n : ℕ) (p : Prototype) → slice_get ps n ≡ Some p → p ≡ prototype_at ps n
code_found ps n p g = sym (ap code_or_none g)

few_upvalues : (p : Parts) → parts_fit p ≡ true → length p.upvalues ≤ 255
few_upvalues p h =
    let k = rest_of (list_fits p.constants) (rest_of (list_fits p.code) (fits_of p h).lists) in
    le_of (length p.upvalues) 255 (first_of_two (nat_le (length p.upvalues) 255) _ k)

pub few_cells : (f : MachineFunction) → IsWhole f → length f.cells ≤ 255
few_cells f h =
    let w = described_is_writable f.code h.code.code.described in
    let p = few_upvalues f.code.own (first_of_two (parts_fit f.code.own) _ w) in
    let e = h.count in
    omega (arith, p, e)
