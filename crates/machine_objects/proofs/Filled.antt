-- Lists that go to tables in memory.
use Rattle.std.proofs.Common.{◌≡◌, ℕ, suc, ◌+◌, ◌<◌, ◌≤◌, List, [], ◌∷◌, ◌++◌, length, drop, Option, Some, None, refl, ap, ap₂, sym, subst, ◌∙◌, Bool, true, false, arith}
use Rattle.std.specs.Prelude.{ℤ, codes, pos, option_and_then, ◌*◌, ◌/◌, ◌%◌, ◌^◌, ◌-◌, cond, map, slice_get, slice_set}
use Rattle.std.specs.Option.{option_map}
use Rattle.std.proofs.lemmas.List.{map-set}
use Rattle.std.proofs.lemmas.Option.{slice_get-map}
use Rattle.code_core.specs.declared.instruction.Instruction.{Instruction}
use Rattle.code_core.specs.declared.opcode.Opcode.TheVariants.{ExtraArg}
use Rattle.code_core.specs.Instruction.{opcode_of, ax_of}
use Rattle.code_core.specs.Prototype.{Prototype}
use Rattle.code_core.specs.Check.{at, extra_at, is_same, there}
use Rattle.int_core.specs.Heap.{Heap, Table as Rows, filled, filled_table}
use Rattle.int_core.specs.Operations.{of_type}
use Rattle.int_core.specs.Rows.{set}
use Rattle.instruction_forms.specs.Forms.{fills_behind, fills_registers}
use Rattle.int_core.specs.Value.{Value, shape, object, a_table, bind}
use Rattle.machine_core.specs.World.{World, Place, place_of}
use Rattle.machine_core.specs.Text.{Arg, arg, read, fill_table, end_list, Text, go_by, raise}
use Rattle.machine_core.specs.InstructionRows.{then, with_extra}
use Rattle.machine_core.specs.FrameRows.{expand}
use Rattle.machine_core.specs.Moves.{Made, made, move, outside, do_outside, Ending, Row, act, Outcome, trapped, run}
use Rattle.machine_sound.proofs.Lists.{bind_at, get_map, get_within, some_is}
use Rattle.machine_sound.proofs.OpcodesCalls.{not_zero}
use Rattle.table_core.specs.Table.{Contents}
use Rattle.table_core.specs.Value.{lua_values}
use Rattle.table_core.specs.declared.value.TableId.{TableId}
use Rattle.table_core.specs.declared.value.Value.{Value as Kept}
use Rattle.table_core.specs.declared.value.Value.TheVariants.{Int, Table}
use Rattle.lua_stack.specs.Frames.{NoneFrom}
use Rattle.lua_heap.specs.declared.codes.Code.{Code}
use Rattle.lua_heap.specs.declared.world.World.{World as Memory}
use Rattle.lua_heap.specs.Law.{TablesAreRead, IsReadAs}
use Rattle.lua_heap.specs.Strings.{AreApart, AreShort}
use Rattle.lua_heap.specs.Plain.{plain, table, heap}
use Rattle.lua_heap.specs.Reading.{value, row}
use Rattle.move_laws.specs.Memory.{HasFrame, IsSafe, IsSound, Leads, Makes, StandsAt}
use Rattle.move_laws.proofs.Rows.{safe_after}
use Rattle.move_laws.proofs.Sounds.{sound_top}
use Rattle.machine_moves.specs.Code.{IsCodeOnTop}
use Rattle.machine_moves.specs.Moves.{CanCut}
use Rattle.machine_call_rows.specs.Rows.{ReadsValues}
use Rattle.machine_objects.specs.Filling.{FrameRuns, as_table, counted, filled_rows, filling, puts}
use Rattle.machine_objects.proofs.Opened.{split_at}
use Rattle.machine_call_rows.proofs.Beyond.{none_beyond}

-- lists that are read

pub none_counted : (count : ℕ) → count ≡ 0 → counted count ≡ 0
none_counted count z = ap counted z

pub some_counted : (count : ℕ) → (count ≡ 0 → ⊥) → counted count ≡ suc count
some_counted count z =
    let n : count ≡ suc (count - 1) = omega (arith, z) in
    let k : count + 1 ≡ suc count = omega arith in
    ap (λ b. cond b 0 (count + 1)) (not_zero count (count - 1) n) ∙ k

-- rows that are written

filled_as : (texts : List (List ℕ)) → ((rows : List (Kept × Kept)) → IsReadAs texts rows) → (last : ℕ) (vs : List Kept) (rows : List (Kept × Kept))
    → filled last (map (value texts) vs) (map (row texts) rows) ≡ map (row texts) (filled_rows last vs rows)
filled_as texts law last [] rows = refl
filled_as texts law last (v ∷ vs) rows =
    ap (filled (suc last) (map (value texts) vs)) ((law rows).written (Int (pos (suc last))) v)
    ∙ filled_as texts law (suc last) vs (set lua_values rows (Int (pos (suc last))) v)

abbrev table_of : List (Value × Value) → Option ℕ → Rows
table_of rows metatable = record { rows = rows; metatable = metatable }

abbrev with_table : Heap → ℕ → Rows → Heap
with_table H n t = record H { tables = slice_set H.tables n t }

abbrev with_heap : World → Heap → World
with_heap W H = record W { heap = H }

abbrev with_tables : Memory → List Rows → World → World
with_tables W ts V = record V { heap = record V.heap { tables = ts } }

abbrev filled_in : World → ℕ → ℕ → List Value → Option Rows → Option (Made Bool)
filled_in V n last vs o = bind (bind o (λ t. Some (with_table V.heap n (record t { rows = filled last vs t.rows })))) (λ H. made (with_heap V H) [] true)

module _ (old new : Memory) (id last : ℕ) (vs : List Kept) (t u : Contents) (h : HasFrame old) (law : TablesAreRead) (apart : AreApart old.strings) (short : AreShort old.strings) where
  pub fill_made : slice_get old.tables.objects id ≡ Some t → u.rows ≡ filled_rows last vs t.rows → u.metatable ≡ t.metatable → new.tables.objects ≡ slice_set old.tables.objects id u
      → new ≡ record old { tables = new.tables } → (env : List Value) (x : Arg) (slot : ℕ) → arg env x ≡ object a_table id → drop slot env ≡ map (value old.strings) vs
      → Makes old new (outside (fill_table x last slot)) env [] true
  fill_made there rows meta objects rest env x slot ex es = record {
    is = λ fuel.
        let V = plain old fuel in
        let texts = old.strings in
        let now : table_of (filled last (map (value texts) vs) (map (row texts) t.rows)) (table texts t).metatable ≡ table texts u =
        ap₂ table_of (filled_as texts (law texts apart short) last vs t.rows ∙ ap (map (row texts)) (sym rows)) (ap (option_map (λ (m : TableId). m.0)) (sym meta)) in
        bind_at (do_outside (fill_table x last slot) env V) (place_of V) h.place h.is
        ∙ ap (λ v. bind (filled_table V.heap v last (drop slot env)) (λ H. made (with_heap V H) [] true)) ex
        ∙ ap (λ ws. bind (filled_table V.heap (object a_table id) last ws) (λ H. made (with_heap V H) [] true)) es
        ∙ ap (filled_in V id last (map (value texts) vs)) (get_map (table texts) old.tables.objects id t there)
        ∙ ap (λ t. made (with_heap V (with_table V.heap id t)) [] true) now
        ∙ ap (λ ts. made (with_tables old ts V) [] true) (sym (ap (map (table texts)) objects ∙ map-set (table texts) old.tables.objects id u))
        ∙ ap (λ W. made W [] true) (sym (ap (λ (W : Memory). plain W fuel) rest));
  }

-- one value more
pub filled_one : (last index : ℕ) (vs : List Kept) (i : ℕ) (v key : Kept) (rows more all : List (Kept × Kept)) → index ≡ last + 1 → slice_get vs i ≡ Some v → key ≡ Int (pos index) → more ≡ set lua_values rows key v
    → filled_rows last (drop i vs) rows ≡ all → filled_rows index (drop (i + 1) vs) more ≡ all
filled_one last index vs i v key rows more all n g k m e =
    let one : index ≡ suc last = omega (arith, n) in
    ap (filled_rows index (drop (i + 1) vs)) (m ∙ ap (λ key. set lua_values rows key v) k)
    ∙ ap (λ n. filled_rows n (drop (i + 1) vs) (set lua_values rows (Int (pos n)) v)) one
    ∙ sym (ap (λ vs. filled_rows last vs rows) (split_at vs i v g))
    ∙ e

-- what is no table, and what is one

pub no_table : (texts : List (List ℕ)) (v : Kept) (table count last : ℕ) (behind : ℤ) → as_table v ≡ None → fills_registers (shape (value texts v)) 0 table count last behind ≡ raise (of_type (codes "index") (value texts v))
no_table texts (Table t) table count last behind e = absurd (cc)
no_table texts _ table count last behind e = refl

pub is_table : (v : Kept) (id : TableId) → as_table v ≡ Some id → v ≡ Table id
is_table (Table t) id e = ap (λ t. Table t) (some_is {o = Some t} refl e)
is_table _ id e = absurd (cc)

-- the table is there where a safe row fills it

no_fill : (W : Memory) (last slot : ℕ) (env : List Value) (k : ℕ → Bool → Row) → IsSafe (act (outside (fill_table (read 0) last slot)) k) env W → move (outside (fill_table (read 0) last slot)) env (plain W 0) ≡ None → ⊥
no_fill W last slot env k s e = s.never 0 (ap (λ o. elim o as (λ _. Outcome) [ None ↦ trapped | Some d ↦ run (k (length env) d.told) (env ++ d.values) d.world ]) e)

pub table_there : (W : Memory) (id last : ℕ) (behind : ℤ) (slot : ℕ) (env : List Value) → HasFrame W → IsSafe (expand (puts last behind slot)) env W → arg env (read 0) ≡ object a_table id → id < length W.tables.objects
table_there W id last behind slot env h s ex = by (slice_get W.tables.objects id) refl
  where
    by : (o : Option Contents) → slice_get W.tables.objects id ≡ o → id < length W.tables.objects
    by (Some t) e = get_within W.tables.objects id t e
    by None e =
        let V = plain W 0 in
        absurd (no_fill W last slot env (λ n _. expand (then end_list (go_by behind))) s (
        bind_at (do_outside (fill_table (read 0) last slot) env V) (place_of V) h.place h.is
        ∙ ap (λ v. bind (filled_table V.heap v last (drop slot env)) (λ H. made (with_heap V H) [] true)) ex
        ∙ ap (filled_in V id last (drop slot env)) (slice_get-map (table W.strings) W.tables.objects id ∙ ap (option_map (table W.strings)) e)))

-- the end of the list

pub still_frame : (old new : Memory) → new ≡ record old { tables = new.tables } → HasFrame old → HasFrame new
still_frame old new rest h = subst HasFrame (sym rest) (record { place = h.place; is = h.is })

pub still_at : (old new : Memory) (pc : ℕ) → new ≡ record old { tables = new.tables } → StandsAt old pc → StandsAt new pc
still_at old new pc rest s = subst (λ V. StandsAt V pc) (sym rest) (record { place = s.place; is = s.is; at = s.at })

pub can_end : (old new : Memory) (code : Code) (size : ℕ) → IsSound old → FrameRuns old → IsCodeOnTop old code → size ≡ code.stack → new ≡ record old { tables = new.tables } → CanCut new size
can_end old new code size s f k z rest =
    let p = f.place in
    let q : size ≡ p.function.code.own.stack = z ∙ k.says.stack ∙ ap (λ (p : Place). p.function.code.own.stack) (some_is k.is f.is) in
    subst (λ V. CanCut V size) (sym rest) (record {
      place = p;
      is = f.is;
      size = q;
      room = subst (λ n. n ≤ length p.top.own.registers) (sym q) (sound_top p s f.is).room;
      closed = λ co stack r. subst (NoneFrom stack) (sym q) (none_beyond old p s f.is f.running co stack (record { chain = r.chain; there = r.there }));
    })

-- what follows the values

module _ (W : Memory) (id from count last ahead : ℕ) (vs : List Kept) (l : ReadsValues W from (counted count) vs) (s : IsSafe (expand (filling from count last (pos ahead))) (object a_table id ∷ []) W) where
  abbrev pub all_read : List Value
  all_read = object a_table id ∷ map (value W.strings) vs

  pub safe_listed : IsSafe (expand (puts last (pos ahead) 1)) all_read W
  safe_listed = record { never = λ fuel t. s.never fuel (l.goes (λ v _. puts last (pos ahead) v) (object a_table id ∷ []) fuel ∙ t) }

  pub safe_filled : (V : Memory) → Makes W V (outside (fill_table (read 0) last 1)) all_read [] true → IsSafe (expand (then end_list (go_by (pos ahead)))) (all_read ++ []) V
  safe_filled V m = safe_after (λ n _. expand (then end_list (go_by (pos ahead)))) safe_listed m

pub leads_listed : (W V : Memory) (id from count last ahead : ℕ) (vs : List Kept) (ending : Ending) → ReadsValues W from (counted count) vs
    → Leads (expand (puts last (pos ahead) 1)) (object a_table id ∷ map (value W.strings) vs) W V ending → Leads (expand (filling from count last (pos ahead))) (object a_table id ∷ []) W V ending
leads_listed W V id from count last ahead vs ending l k = record {
  is = λ fuel. l.goes (λ v _. puts last (pos ahead) v) (object a_table id ∷ []) fuel ∙ k.is fuel;
}

-- what the word behind adds

abbrev pub far_text : Prototype → (pc table count last : ℕ) → Bool → Text
far_text p pc table count last far = cond far (with_extra p pc (λ ax. fills_behind table count (last + 256 * ax) (pos 2))) (fills_behind table count last (pos 1))

small : (n : ℕ) → n / 2 ^ 7 % 2 ^ 25 < 2 ^ 25
small n = omega arith

abbrev carried : Instruction → Option ℕ
carried w = cond (there (is_same ExtraArg) (opcode_of w)) (Some (ax_of w)) None

carried_small : (w : Instruction) (n : ℕ) → carried w ≡ Some n → n < 2 ^ 25
carried_small w n = by (there (is_same ExtraArg) (opcode_of w))
  where
    by : (b : Bool) → cond b (Some (ax_of w)) None ≡ Some n → n < 2 ^ 25
    by true e = subst (λ n. n < 2 ^ 25) (some_is {o = Some (ax_of w)} refl e) (small w.0)
    by false e = absurd (cc)

pub extra_small : (p : Prototype) (pc n : ℕ) → extra_at p pc ≡ Some n → n < 2 ^ 25
extra_small p pc n = by (at p (pc + 1))
  where
    by : (o : Option Instruction) → option_and_then carried o ≡ Some n → n < 2 ^ 25
    by None e = absurd (cc)
    by (Some w) e = carried_small w n e
