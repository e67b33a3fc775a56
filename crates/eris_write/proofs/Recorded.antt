-- The records of functions, cells, coroutines and their frames as they are written in parts, and records that are not there.
use Rattle.std.proofs.Common.{◌≡◌, ℕ, zero, suc, ◌+◌, ◌<◌, ◌≤◌, List, [], ◌∷◌, ◌++◌, Option, Some, None, length, map, take, Bool, true, false, cond, refl, sym, ap, ◌∙◌, subst, arith}
use Rattle.std.specs.Prelude.{flat_map, slice_get, unwrap_or}
use Rattle.std.specs.Option.{option_map}
use Rattle.std.proofs.lemmas.Grind.{flat_map-append}
use Rattle.std.proofs.lemmas.List.{length-map}
use Rattle.std.proofs.lemmas.Option.{slice_get_past}
use Rattle.std.specs.declared.vec.Vec.{Vec}
use Rattle.std.specs.declared.alloc.Global.{Global}
use Rattle.byteorder.specs.Endian.{little_bytes}
use Rattle.code_core.specs.Prototype.{Prototype}
use Rattle.chunk_format.specs.Spelling as code
use Rattle.list_laws.proofs.Items.{append_nil, some_same}
use Rattle.int_core.specs.Value.{nil, a_function, a_coroutine, known, object, bind}
use Rattle.machine_core.specs.World.{World, Cell as MachineCell, read_cell, open_at}
use Rattle.machine_sound.proofs.Lists.{get_map}
use Rattle.table_core.specs.declared.value.CellId.{CellId}
use Rattle.table_core.specs.declared.value.Value.{Value as Kept}
use Rattle.table_core.specs.declared.value.Value.TheVariants as kept
use Rattle.image_core.specs.Image.{Item, Record, lua_item, closed_record, open_record, fresh_record, suspended_record, dead_record, failed_record, no_record}
use Rattle.image_core.specs.Records.{Field, of_value, of_cell, of_coroutine, a_cell, an_object, fields, if_there, or_none, record_of, item, present, cell_fields, record_of_cell, record_of_function, record_of_coroutine, coroutine_fields, error_fields, wait_fields, frame_fields, frame_item, wait_item}
use Rattle.image_bytes.specs.Format.{list, spell_all, word}
use Rattle.image_bytes.specs.Bytes.{Reader, item_format, function_format, cell_format, coroutine_format, code_format, reference, frame_format, error_format, record_format, wait_number}
use Rattle.lua_stack.specs.Frames.{KeptFrame, KeptLua, KeptStack, kept_lua, kept_closing, kept_xpcall, wait_of, error_of, frame_of}
use Rattle.lua_heap.specs.declared.world.Cell.{Cell}
use Rattle.lua_heap.specs.declared.world.Cell.TheVariants.{Closed, Open}
use Rattle.lua_heap.specs.declared.world.Coro.{Coro}
use Rattle.lua_heap.specs.declared.world.Coro.TheVariants.{Running, Normal, Dead, Failed}
use Rattle.lua_heap.specs.declared.world.Func.{Func as Function}
use Rattle.lua_heap.specs.Changes.{value_in}
use Rattle.lua_heap.specs.Codes.{functions, prototype_at}
use Rattle.lua_heap.specs.Plain.{plain, cell, coroutine, function}
use Rattle.graph_core.specs.Frames.{fields_of, fields_at}
use Rattle.graph_core.proofs.Meeting.{map_more, map_twice}
use Rattle.eris_write.specs.declared.cells.OpenPlace.{OpenPlace}
use Rattle.eris_write.specs.declared.output.Output.{Output}
use Rattle.eris_write.specs.declared.writer.Writer.{Writer}
use Rattle.eris_write.specs.Cells.{open_place}
use Rattle.graph_core.specs.declared.object.Object.{Object}
use Rattle.graph_core.specs.declared.object.Sort.{Sort}
use Rattle.graph_core.specs.Objects.{part_of}
use Rattle.eris_write.specs.Images.{fields_in, record_bytes, records_bytes, sort_code}
use Rattle.eris_write.specs.Output.{Puts}
use Rattle.eris_write.specs.Refusals.{coroutine_refusal}
use Rattle.eris_write.specs.Frames.{frame_bytes, bytes_at, wait_bytes}
use Rattle.eris_write.specs.Writing.{Writes, texts_in, inside_in, naming_in, read_in, item_in, item_bytes}
use Rattle.eris_write.proofs.Putting.{or_none as or_no_other, puts_both, puts_then, puts_as, puts_is, writes_both, writes_as}
use Rattle.eris_write.proofs.Spelled.{all_both, list_spelled, word_spelled, code_spelled, function_spelled, reference_spelled, closed_spelled, open_spelled, closing_spelled, error_spelled, lua_spelled, wait_spelled, fresh_spelled, suspended_spelled, dead_spelled, failed_spelled, no_coroutine_spelled, xpcall_spelled, record_is}
use Rattle.eris_write.proofs.Written.{value_fields, one_on}
use Rattle.graph_core.proofs.Framed.{not_there}

-- a part's record is that of the sort that it has
pub part_written : (w : Writer) (before after : Output) (number fuel : ℕ) (form sort : Sort) → form ≡ sort
    → Writes w before after (fields (plain w.world.now fuel) (inside_in w) (part_of form number)) (λ R. (record_format R (sort_code form)).spell (record_of (naming_in w) (plain w.world.now fuel) (part_of form number)))
    → Writes w before after (fields (plain w.world.now fuel) (inside_in w) (part_of sort number)) (λ R. (record_format R (sort_code sort)).spell (record_of (naming_in w) (plain w.world.now fuel) (part_of sort number)))
part_written w before after number fuel form sort is =
    subst (λ s. Writes w before after (fields (plain w.world.now fuel) (inside_in w) (part_of s number)) (λ R. (record_format R (sort_code s)).spell (record_of (naming_in w) (plain w.world.now fuel) (part_of s number)))) is

-- functions

abbrev pub cell_fields_of : List CellId → List Field
cell_fields_of cs = map of_cell (map (λ (id : CellId). id.0) cs)

abbrev pub cell_bytes : Writer → List CellId → Reader → List ℕ
cell_bytes w cs R = spell_all (reference R.sorts (3 ∷ [])) (map (λ c. (naming_in w).number (a_cell c)) (map (λ (id : CellId). id.0) cs))

pub next_cell : (w : Writer) (cs : List CellId) (n : ℕ) (c : CellId) (k : ℕ) (a b d : Output) → slice_get cs n ≡ Some c → k ≡ (naming_in w).number (a_cell c.0)
    → Writes w a b (cell_fields_of (take n cs)) (cell_bytes w (take n cs)) → Puts b d None (λ _. little_bytes 4 k) → Writes w a d (cell_fields_of (take (n + 1) cs)) (cell_bytes w (take (n + 1) cs))
next_cell w cs n c k a b d g e h p =
    let Id = λ (id : CellId). id.0 in
    let Num = λ (m : ℕ). (naming_in w).number (a_cell m) in
    writes_as w a d (cell_fields_of (take n cs) ++ of_cell c.0 ∷ []) (cell_fields_of (take (n + 1) cs)) (λ R. cell_bytes w (take n cs) R ++ little_bytes 4 k) (cell_bytes w (take (n + 1) cs))
    (sym (ap cell_fields_of (one_on n cs c g) ∙ ap (map of_cell) (map_more Id (take n cs) (c ∷ [])) ∙ map_more of_cell (map Id (take n cs)) (c.0 ∷ [])))
    (λ R. ap (λ m. cell_bytes w (take n cs) R ++ little_bytes 4 m) e
    ∙ sym (ap (λ l. cell_bytes w l R) (one_on n cs c g) ∙ ap (λ l. spell_all (reference R.sorts (3 ∷ [])) (map Num l)) (map_more Id (take n cs) (c ∷ []))
    ∙ ap (spell_all (reference R.sorts (3 ∷ []))) (map_more Num (map Id (take n cs)) (c.0 ∷ []))
    ∙ all_both (reference R.sorts (3 ∷ [])) (map Num (map Id (take n cs))) (Num c.0 ∷ [])
    ∙ ap (λ l. cell_bytes w (take n cs) R ++ l) (append_nil ((reference R.sorts (3 ∷ [])).spell (Num c.0)) ∙ reference_spelled R.sorts (3 ∷ []) (Num c.0))))
    (writes_both w (cell_fields_of (take n cs)) (of_cell c.0 ∷ []) (cell_bytes w (take n cs)) (λ _. little_bytes 4 k) h p)

pub code_written : (a b c : Output) (p : Prototype) (bytes : List ℕ) → bytes ≡ code.function None p → Puts a b None (λ _. little_bytes 4 (length bytes)) → Puts b c None (λ _. bytes)
    → Puts a c None (λ R. (code_format R).spell p)
code_written a b c p bytes e h k =
    puts_as a c None (λ _. little_bytes 4 (length bytes) ++ bytes) (λ R. (code_format R).spell p) (λ R. ap (λ l. little_bytes 4 (length l) ++ l) e ∙ sym (code_spelled R p)) (puts_both h k)

pub function_written : (w : Writer) (f : Function) (n : ℕ) (a b c d : Output) → n ≡ length f.cells.items → Puts a b None (λ R. (code_format R).spell (prototype_at (functions w.world.now.codes) f.code.0))
    → Puts b c None (λ _. n ∷ []) → Writes w c d (cell_fields_of f.cells.items) (cell_bytes w f.cells.items)
    → Writes w a d (cell_fields_of f.cells.items) (λ R. (function_format R).spell (record_of_function (naming_in w) (function (functions w.world.now.codes) f)))
function_written w f n a b c d e h k l =
    let p = prototype_at (functions w.world.now.codes) f.code.0 in
    let Num = λ (m : ℕ). (naming_in w).number (a_cell m) in
    let ids = map (λ (id : CellId). id.0) f.cells.items in
    writes_as w a d (cell_fields_of f.cells.items) (cell_fields_of f.cells.items) (λ R. (code_format R).spell p ++ ((n ∷ []) ++ cell_bytes w f.cells.items R)) (λ R. (function_format R).spell (record_of_function (naming_in w) (function (functions w.world.now.codes) f)))
    refl
    (λ R. ap (λ m. (code_format R).spell p ++ ((m ∷ []) ++ cell_bytes w f.cells.items R)) (e ∙ sym (length-map ids Num ∙ length-map f.cells.items (λ (id : CellId). id.0))) ∙ sym (function_spelled R p (map Num ids)))
    (writes_both w [] (cell_fields_of f.cells.items) (λ R. (code_format R).spell p) (λ R. (n ∷ []) ++ cell_bytes w f.cells.items R) h (writes_both w [] (cell_fields_of f.cells.items) (λ _. n ∷ []) (cell_bytes w f.cells.items) k l))

-- cells

pub closed_written : (w : Writer) (v : Kept) (a b c : Output) → Puts a b None (λ _. 1 ∷ []) → Writes w b c (of_value (read_in w v) ∷ []) (item_bytes w v)
    → Writes w a c (of_value (read_in w v) ∷ []) (λ R. (cell_format R).spell (closed_record (item_in w v)))
closed_written w v a b c h k =
    writes_as w a c (of_value (read_in w v) ∷ []) (of_value (read_in w v) ∷ []) (λ R. (1 ∷ []) ++ item_bytes w v R) (λ R. (cell_format R).spell (closed_record (item_in w v))) refl (λ R. sym (closed_spelled R (item_in w v)))
    (writes_both w [] (of_value (read_in w v) ∷ []) (λ _. 1 ∷ []) (item_bytes w v) h k)

pub open_written : (w : Writer) (p : OpenPlace) (n : ℕ) (a b c d e f : Output) → n ≡ (naming_in w).number (an_object a_coroutine p.coro.0) → Puts a b (coroutine_refusal (plain w.world.now 0) p.coro.0) (λ _. [])
    → Puts b c None (λ _. 2 ∷ []) → Puts c d None (λ _. little_bytes 4 n) → Puts d e None (λ _. little_bytes 4 p.frame) → Puts e f None (λ _. little_bytes 4 p.register)
    → Writes w a f (of_coroutine p.coro.0 ∷ []) (λ R. (cell_format R).spell (open_record ((naming_in w).number (an_object a_coroutine p.coro.0)) p.frame p.register))
open_written w p n a b c d e f q h k l m o =
    let r = coroutine_refusal (plain w.world.now 0) p.coro.0 in
    let bytes = λ (R : Reader). [] ++ ((2 ∷ []) ++ (little_bytes 4 n ++ (little_bytes 4 p.frame ++ little_bytes 4 p.register))) in
    let all : Puts a f r bytes = puts_then h (puts_both k (puts_both l (puts_both m o))) in
    subst (λ t. Puts a f t (λ R. (cell_format R).spell (open_record ((naming_in w).number (an_object a_coroutine p.coro.0)) p.frame p.register))) (sym (or_no_other r))
    (puts_as a f r bytes (λ R. (cell_format R).spell (open_record ((naming_in w).number (an_object a_coroutine p.coro.0)) p.frame p.register))
    (λ R. ap (λ n. 2 ∷ little_bytes 4 n ++ (little_bytes 4 p.frame ++ little_bytes 4 p.register)) q ∙ sym (open_spelled R ((naming_in w).number (an_object a_coroutine p.coro.0)) p.frame p.register)) all)

-- which of both a cell is

abbrev cell_record : Writer → World → Option MachineCell → Record
cell_record w W o = or_none (record_of_cell (naming_in w) W) o

closed_or_other : (w : Writer) (W : World) (k : Cell) (v : Kept) → None ≡ open_place (inside_in w) k → read_cell W (cell (texts_in w) k) ≡ Some (read_in w v)
    → (of_value (read_in w v) ∷ [] ≡ cell_fields W (inside_in w) (cell (texts_in w) k)) × (closed_record (item_in w v) ≡ record_of_cell (naming_in w) W (cell (texts_in w) k))
closed_or_other w W (Closed u) v o h = let e = some_same (read_in w u) (read_in w v) h in (ap (λ v. of_value v ∷ []) (sym e), ap (λ v. closed_record (item (naming_in w) v)) (sym e))
closed_or_other w W (Open co frame register) v o h = go (inside_in w co.0) o
  where
    go : (b : Bool) → ◌≡◌ {A = Option OpenPlace} None (cond b (Some (record { coro = co; frame = frame; register = register })) None)
        → (of_value (read_in w v) ∷ [] ≡ cond b (of_coroutine co.0 ∷ []) (of_value (present W (open_at co.0 frame register)) ∷ []))
        × (closed_record (item_in w v) ≡ cond b (open_record ((naming_in w).number (an_object a_coroutine co.0)) frame register) (closed_record (item (naming_in w) (present W (open_at co.0 frame register)))))
    go true o = absurd (cc)
    go false o = (ap (λ r. of_value (unwrap_or r (known nil)) ∷ []) (sym h), ap (λ r. closed_record (item (naming_in w) (unwrap_or r (known nil)))) (sym h))

pub closed_cell : (w : Writer) (fuel n : ℕ) (k : Cell) (v : Kept) (a b : Output) → slice_get w.world.now.cells.objects n ≡ Some k → None ≡ open_place (inside_in w) k → value_in (plain w.world.now fuel) n ≡ Some (read_in w v)
    → Writes w a b (of_value (read_in w v) ∷ []) (λ R. (cell_format R).spell (closed_record (item_in w v)))
    → Writes w a b (fields (plain w.world.now fuel) (inside_in w) (a_cell n)) (λ R. (record_format R 3).spell (record_of (naming_in w) (plain w.world.now fuel) (a_cell n)))
closed_cell w fuel n k v a b g o e h =
    let W = plain w.world.now fuel in
    let there = get_map (cell (texts_in w)) w.world.now.cells.objects n k g in
    let q = closed_or_other w W k v o (sym (ap (λ o. bind o (read_cell W)) there) ∙ e) in
    writes_as w a b (of_value (read_in w v) ∷ []) (fields W (inside_in w) (a_cell n)) (λ R. (cell_format R).spell (closed_record (item_in w v))) (λ R. (record_format R 3).spell (record_of (naming_in w) W (a_cell n)))
    (q.0 ∙ sym (ap (if_there (cell_fields W (inside_in w))) there))
    (λ R. ap (cell_format R).spell (q.1 ∙ sym (ap (cell_record w W) there)) ∙ ap (λ F. F.spell (record_of (naming_in w) W (a_cell n))) (sym (record_is R).2)) h

open_or_other : (w : Writer) (W : World) (k : Cell) (p : OpenPlace) → Some p ≡ open_place (inside_in w) k
    → (of_coroutine p.coro.0 ∷ [] ≡ cell_fields W (inside_in w) (cell (texts_in w) k)) × (open_record ((naming_in w).number (an_object a_coroutine p.coro.0)) p.frame p.register ≡ record_of_cell (naming_in w) W (cell (texts_in w) k))
open_or_other w W (Closed u) p o = absurd (cc)
open_or_other w W (Open co frame register) p o = go (inside_in w co.0) o
  where
    go : (b : Bool) → ◌≡◌ {A = Option OpenPlace} (Some p) (cond b (Some (record { coro = co; frame = frame; register = register })) None)
        → (of_coroutine p.coro.0 ∷ [] ≡ cond b (of_coroutine co.0 ∷ []) (of_value (present W (open_at co.0 frame register)) ∷ []))
        × (open_record ((naming_in w).number (an_object a_coroutine p.coro.0)) p.frame p.register ≡ cond b (open_record ((naming_in w).number (an_object a_coroutine co.0)) frame register) (closed_record (item (naming_in w) (present W (open_at co.0 frame register)))))
    go true o =
        let e = some_same p (record { coro = co; frame = frame; register = register }) o in
        (ap (λ (p : OpenPlace). of_coroutine p.coro.0 ∷ []) e, ap (λ (p : OpenPlace). open_record ((naming_in w).number (an_object a_coroutine p.coro.0)) p.frame p.register) e)
    go false o = absurd (cc)

pub open_cell : (w : Writer) (fuel n : ℕ) (k : Cell) (p : OpenPlace) (a b : Output) → slice_get w.world.now.cells.objects n ≡ Some k → Some p ≡ open_place (inside_in w) k
    → Writes w a b (of_coroutine p.coro.0 ∷ []) (λ R. (cell_format R).spell (open_record ((naming_in w).number (an_object a_coroutine p.coro.0)) p.frame p.register))
    → Writes w a b (fields (plain w.world.now fuel) (inside_in w) (a_cell n)) (λ R. (record_format R 3).spell (record_of (naming_in w) (plain w.world.now fuel) (a_cell n)))
open_cell w fuel n k p a b g o h =
    let W = plain w.world.now fuel in
    let there = get_map (cell (texts_in w)) w.world.now.cells.objects n k g in
    let q = open_or_other w W k p o in
    let r = open_record ((naming_in w).number (an_object a_coroutine p.coro.0)) p.frame p.register in
    writes_as w a b (of_coroutine p.coro.0 ∷ []) (fields W (inside_in w) (a_cell n)) (λ R. (cell_format R).spell r) (λ R. (record_format R 3).spell (record_of (naming_in w) W (a_cell n)))
    (q.0 ∙ sym (ap (if_there (cell_fields W (inside_in w))) there))
    (λ R. ap (cell_format R).spell (q.1 ∙ sym (ap (cell_record w W) there)) ∙ ap (λ F. F.spell (record_of (naming_in w) W (a_cell n))) (sym (record_is R).2)) h

-- frames

pub error_written : (w : Writer) (v : Kept) (a b c : Output) → Puts a b None (λ _. 1 ∷ []) → Writes w b c (of_value (read_in w v) ∷ []) (item_bytes w v)
    → Writes w a c (of_value (read_in w v) ∷ []) (λ R. (error_format R).spell (Some (item_in w v)))
error_written w v a b c h k =
    writes_as w a c (of_value (read_in w v) ∷ []) (of_value (read_in w v) ∷ []) (λ R. (1 ∷ []) ++ item_bytes w v R) (λ R. (error_format R).spell (Some (item_in w v))) refl (λ R. sym (error_spelled R (item_in w v)))
    (writes_both w [] (of_value (read_in w v) ∷ []) (λ _. 1 ∷ []) (item_bytes w v) h k)

pub xpcall_written : (w : Writer) (v : Kept) (a b c : Output) → Puts a b None (λ _. 3 ∷ []) → Writes w b c (of_value (read_in w v) ∷ []) (item_bytes w v)
    → Writes w a c (fields_of (texts_in w) (kept_xpcall v)) (frame_bytes w (kept_xpcall v))
xpcall_written w v a b c h k =
    writes_as w a c (of_value (read_in w v) ∷ []) (of_value (read_in w v) ∷ []) (λ R. (3 ∷ []) ++ item_bytes w v R) (frame_bytes w (kept_xpcall v)) refl (λ R. sym (xpcall_spelled R (item_in w v)))
    (writes_both w [] (of_value (read_in w v) ∷ []) (λ _. 3 ∷ []) (item_bytes w v) h k)

error_fields_same : (w : Writer) (e : Option Kept) → error_fields (option_map (read_in w) e) ≡ error_fields (error_of (read_in w) e)
error_fields_same w None = refl
error_fields_same w (Some e) = refl

error_items_same : (w : Writer) (e : Option Kept) → option_map (item_in w) e ≡ option_map (item (naming_in w)) (error_of (read_in w) e)
error_items_same w None = refl
error_items_same w (Some e) = refl

pub closing_written : (w : Writer) (e : Option Kept) (left : List Kept) (a b c d : Output) → Puts a b None (λ _. 5 ∷ []) → Writes w b c (error_fields (option_map (read_in w) e)) (λ R. (error_format R).spell (option_map (item_in w) e))
    → Writes w c d (value_fields w left) (λ R. (list (item_format R)).spell (map (item_in w) left)) → Writes w a d (fields_of (texts_in w) (kept_closing e left)) (frame_bytes w (kept_closing e left))
closing_written w e left a b c d h k l =
    let E = λ (R : Reader). (error_format R).spell (option_map (item_in w) e) in
    let L = λ (R : Reader). (list (item_format R)).spell (map (item_in w) left) in
    writes_as w a d (error_fields (option_map (read_in w) e) ++ value_fields w left) (fields_of (texts_in w) (kept_closing e left)) (λ R. (5 ∷ []) ++ (E R ++ L R)) (frame_bytes w (kept_closing e left))
    (ap (λ l. l ++ value_fields w left) (error_fields_same w e))
    (λ R. ap (λ o. (5 ∷ []) ++ ((error_format R).spell o ++ L R)) (error_items_same w e) ∙ ap (λ l. (5 ∷ []) ++ ((error_format R).spell (option_map (item (naming_in w)) (error_of (read_in w) e)) ++ (list (item_format R)).spell l)) (sym (map_twice (item (naming_in w)) (read_in w) left))
    ∙ sym (closing_spelled R (option_map (item (naming_in w)) (error_of (read_in w) e)) (map (item (naming_in w)) (map (read_in w) left))))
    (writes_both w [] (error_fields (option_map (read_in w) e) ++ value_fields w left) (λ _. 5 ∷ []) (λ R. E R ++ L R) h (writes_both w (error_fields (option_map (read_in w) e)) (value_fields w left) E L k l))

abbrev list_bytes : Writer → List Kept → Reader → List ℕ
list_bytes w vs R = (list (item_format R)).spell (map (item_in w) vs)

-- the frame of a Lua function, from the bytes of its parts
abbrev lua_bytes : Reader → (function : List ℕ) (pc wait : ℕ) → (varargs registers : List Item) → (pending : List ℕ) → (rest : List ℕ) → List ℕ
lua_bytes R function pc wait varargs registers pending rest =
    (1 ∷ []) ++ (function ++ (little_bytes 4 pc ++ ((wait ∷ []) ++ ((list (item_format R)).spell varargs ++ ((list (item_format R)).spell registers ++ ((list word).spell pending ++ rest))))))

lua_same : (R : Reader) (w : Writer) (t : KeptLua) (k : ℕ) → k ≡ wait_number R (wait_item (naming_in w) (wait_of (read_in w) t.wait)) → t.opened ≡ 0
    → lua_bytes R (item_bytes w (kept.Func t.function) R) t.pc k (map (item_in w) t.varargs) (map (item_in w) t.registers) t.pending (wait_bytes w t.wait R) ≡ frame_bytes w (kept_lua t) R
lua_same R w t k e o =
    let N = naming_in w in
    let f = item_bytes w (kept.Func t.function) R in
    let vs = map (item N) (map (read_in w) t.varargs) in
    let rs = map (item N) (map (read_in w) t.registers) in
    let wt = wait_item N (wait_of (read_in w) t.wait) in
    ap (λ k. lua_bytes R f t.pc k (map (item_in w) t.varargs) (map (item_in w) t.registers) t.pending (wait_bytes w t.wait R)) e
    ∙ (ap (λ l. lua_bytes R f t.pc (wait_number R wt) l (map (item_in w) t.registers) t.pending (wait_bytes w t.wait R)) (sym (map_twice (item N) (read_in w) t.varargs))
    ∙ (ap (λ l. lua_bytes R f t.pc (wait_number R wt) vs l t.pending (wait_bytes w t.wait R)) (sym (map_twice (item N) (read_in w) t.registers))
    ∙ (ap (λ l. lua_bytes R f t.pc (wait_number R wt) vs rs t.pending l) (sym (wait_spelled R w t.wait))
    ∙ (sym (lua_spelled R (item N (object a_function t.function.0)) t.pc wt vs rs t.pending)
    ∙ ap (λ n. (frame_format R).spell (lua_item (record { function = item N (object a_function t.function.0); pc = t.pc; wait = wt; varargs = vs; registers = rs; pending = t.pending; opened = n }))) (sym o)))))

pub lua_written : (w : Writer) (t : KeptLua) (k : ℕ) (a b c d e f g h i : Output) → ((R : Reader) → k ≡ wait_number R (wait_item (naming_in w) (wait_of (read_in w) t.wait))) → t.opened ≡ 0
    → Puts a b None (λ _. 1 ∷ []) → Writes w b c (of_value (read_in w (kept.Func t.function)) ∷ []) (item_bytes w (kept.Func t.function)) → Puts c d None (λ _. little_bytes 4 t.pc) → Puts d e None (λ _. k ∷ [])
    → Writes w e f (value_fields w t.varargs) (list_bytes w t.varargs) → Writes w f g (value_fields w t.registers) (list_bytes w t.registers) → Puts g h None (λ _. (list word).spell t.pending)
    → Writes w h i (wait_fields (wait_of (read_in w) t.wait)) (wait_bytes w t.wait) → Writes w a i (fields_of (texts_in w) (kept_lua t)) (frame_bytes w (kept_lua t))
lua_written w t k a b c d e f g h i kq oq one fn pc wt vs rs ps rest =
    let F = of_value (read_in w (kept.Func t.function)) ∷ [] in
    let V = value_fields w t.varargs in
    let S = value_fields w t.registers in
    let E = wait_fields (wait_of (read_in w) t.wait) in
    let P = λ (R : Reader). (list word).spell t.pending ++ wait_bytes w t.wait R in
    let Q = λ (R : Reader). list_bytes w t.registers R ++ P R in
    let U = λ (R : Reader). list_bytes w t.varargs R ++ Q R in
    let X = λ (R : Reader). (k ∷ []) ++ U R in
    let Y = λ (R : Reader). little_bytes 4 t.pc ++ X R in
    let Z = λ (R : Reader). item_bytes w (kept.Func t.function) R ++ Y R in
    writes_as w a i (F ++ (V ++ (S ++ E))) (fields_of (texts_in w) (kept_lua t)) (λ R. (1 ∷ []) ++ Z R) (frame_bytes w (kept_lua t)) refl (λ R. lua_same R w t k (kq R) oq)
    (writes_both w [] (F ++ (V ++ (S ++ E))) (λ _. 1 ∷ []) Z one
    (writes_both w F (V ++ (S ++ E)) (item_bytes w (kept.Func t.function)) Y fn
    (writes_both w [] (V ++ (S ++ E)) (λ _. little_bytes 4 t.pc) X pc
    (writes_both w [] (V ++ (S ++ E)) (λ _. k ∷ []) U wt
    (writes_both w V (S ++ E) (list_bytes w t.varargs) Q vs
    (writes_both w S E (list_bytes w t.registers) P rs (writes_both w [] E (λ _. (list word).spell t.pending) (wait_bytes w t.wait) ps rest)))))))

abbrev pub frames_fields : Writer → List KeptFrame → List Field
frames_fields w fs = flat_map frame_fields (map (frame_of (read_in w)) fs)

abbrev pub frames_bytes : Writer → List KeptFrame → Reader → List ℕ
frames_bytes w fs R = spell_all (frame_format R) (map (frame_item (naming_in w)) (map (frame_of (read_in w)) fs))

one_frame : (w : Writer) (fs : List KeptFrame) (n : ℕ) (f : KeptFrame) (a b c : Output) → slice_get fs n ≡ Some f → Writes w a b (frames_fields w (take n fs)) (frames_bytes w (take n fs))
    → Writes w b c (fields_of (texts_in w) f) (frame_bytes w f) → Writes w a c (frames_fields w (take (n + 1) fs)) (frames_bytes w (take (n + 1) fs))
one_frame w fs n f a b c g h k =
    let G = frame_of (read_in w) in
    let N = frame_item (naming_in w) in
    writes_as w a c (frames_fields w (take n fs) ++ fields_of (texts_in w) f) (frames_fields w (take (n + 1) fs)) (λ R. frames_bytes w (take n fs) R ++ frame_bytes w f R) (frames_bytes w (take (n + 1) fs))
    (sym (ap (frames_fields w) (one_on n fs f g) ∙ ap (flat_map frame_fields) (map_more G (take n fs) (f ∷ [])) ∙ flat_map-append frame_fields (map G (take n fs)) (G f ∷ []) ∙ ap (λ l. frames_fields w (take n fs) ++ l) (append_nil (frame_fields (G f)))))
    (λ R. sym (ap (λ l. frames_bytes w l R) (one_on n fs f g) ∙ ap (λ l. spell_all (frame_format R) (map N l)) (map_more G (take n fs) (f ∷ [])) ∙ ap (spell_all (frame_format R)) (map_more N (map G (take n fs)) (G f ∷ []))
    ∙ all_both (frame_format R) (map N (map G (take n fs))) (N (G f) ∷ []) ∙ ap (λ l. frames_bytes w (take n fs) R ++ l) (append_nil (frame_bytes w f R))))
    (writes_both w (frames_fields w (take n fs)) (fields_of (texts_in w) f) (frames_bytes w (take n fs)) (frame_bytes w f) h k)

pub next_frame : (w : Writer) (fs : List KeptFrame) (n : ℕ) (a b c : Output) → n < length fs → Writes w a b (frames_fields w (take n fs)) (frames_bytes w (take n fs))
    → Writes w b c (fields_at (texts_in w) fs n) (bytes_at w fs n) → Writes w a c (frames_fields w (take (n + 1) fs)) (frames_bytes w (take (n + 1) fs))
next_frame w fs n a b c l h k = go (slice_get fs n) refl k
  where
    go : (o : Option KeptFrame) → slice_get fs n ≡ o → Writes w b c (elim o [ None ↦ [] | Some f ↦ fields_of (texts_in w) f ]) (λ R. elim o [ None ↦ [] | Some f ↦ frame_bytes w f R ])
        → Writes w a c (frames_fields w (take (n + 1) fs)) (frames_bytes w (take (n + 1) fs))
    go None e k = absurd (not_there fs n l e)
    go (Some f) e k = one_frame w fs n f a b c e h k

-- coroutines

pub fresh_written : (w : Writer) (v : Kept) (a b c : Output) → Puts a b None (λ _. 0 ∷ []) → Writes w b c (of_value (read_in w v) ∷ []) (item_bytes w v)
    → Writes w a c (of_value (read_in w v) ∷ []) (λ R. (coroutine_format R).spell (fresh_record (item_in w v)))
fresh_written w v a b c h k =
    writes_as w a c (of_value (read_in w v) ∷ []) (of_value (read_in w v) ∷ []) (λ R. (0 ∷ []) ++ item_bytes w v R) (λ R. (coroutine_format R).spell (fresh_record (item_in w v))) refl (λ R. sym (fresh_spelled R (item_in w v)))
    (writes_both w [] (of_value (read_in w v) ∷ []) (λ _. 0 ∷ []) (item_bytes w v) h k)

pub suspended_written : (w : Writer) (fs : List KeptFrame) (n : ℕ) (a b c d : Output) → n ≡ length fs → Puts a b None (λ _. 1 ∷ []) → Puts b c None (λ _. little_bytes 4 n) → Writes w c d (frames_fields w fs) (frames_bytes w fs)
    → Writes w a d (frames_fields w fs) (λ R. (coroutine_format R).spell (suspended_record (map (frame_item (naming_in w)) (map (frame_of (read_in w)) fs))))
suspended_written w fs n a b c d e h k l =
    let items = map (frame_item (naming_in w)) (map (frame_of (read_in w)) fs) in
    writes_as w a d (frames_fields w fs) (frames_fields w fs) (λ R. (1 ∷ []) ++ (little_bytes 4 n ++ frames_bytes w fs R)) (λ R. (coroutine_format R).spell (suspended_record items)) refl
    (λ R. ap (λ m. (1 ∷ []) ++ (little_bytes 4 m ++ frames_bytes w fs R)) (e ∙ sym (length-map (map (frame_of (read_in w)) fs) (frame_item (naming_in w)) ∙ length-map fs (frame_of (read_in w)))) ∙ sym (suspended_spelled R items))
    (writes_both w [] (frames_fields w fs) (λ _. 1 ∷ []) (λ R. little_bytes 4 n ++ frames_bytes w fs R) h (writes_both w [] (frames_fields w fs) (λ _. little_bytes 4 n) (frames_bytes w fs) k l))

pub failed_written : (w : Writer) (v : Kept) (vs : List Kept) (a b c d : Output) → Puts a b None (λ _. 3 ∷ []) → Writes w b c (of_value (read_in w v) ∷ []) (item_bytes w v) → Writes w c d (value_fields w vs) (list_bytes w vs)
    → Writes w a d (of_value (read_in w v) ∷ value_fields w vs) (λ R. (coroutine_format R).spell (failed_record (item_in w v) (map (item_in w) vs)))
failed_written w v vs a b c d h k l =
    let V = of_value (read_in w v) ∷ [] in
    writes_as w a d (V ++ value_fields w vs) (of_value (read_in w v) ∷ value_fields w vs) (λ R. (3 ∷ []) ++ (item_bytes w v R ++ list_bytes w vs R)) (λ R. (coroutine_format R).spell (failed_record (item_in w v) (map (item_in w) vs))) refl
    (λ R. sym (failed_spelled R (item_in w v) (map (item_in w) vs)))
    (writes_both w [] (V ++ value_fields w vs) (λ _. 3 ∷ []) (λ R. item_bytes w v R ++ list_bytes w vs R) h (writes_both w V (value_fields w vs) (item_bytes w v) (list_bytes w vs) k l))

-- objects by their numbers

pub there_written : {A B : Type 0} (w : Writer) (F : B → List Field) (G : B → Record) (H : A → B) (xs : List A) (n : ℕ) (x : A) (a b : Output) (s : Record → Reader → List ℕ) → slice_get xs n ≡ Some x
    → Writes w a b (F (H x)) (s (G (H x))) → Writes w a b (if_there F (slice_get (map H xs) n)) (s (or_none G (slice_get (map H xs) n)))
there_written w F G H xs n x a b s g h = subst (λ o. Writes w a b (if_there F o) (s (or_none G o))) (sym (get_map H xs n x g)) h

pub none_written : {A B : Type 0} (w : Writer) (F : B → List Field) (G : B → Record) (H : A → B) (xs : List A) (n : ℕ) (a b : Output) (s : Record → Reader → List ℕ) → length xs ≤ n
    → Writes w a b [] (s no_record) → Writes w a b (if_there F (slice_get (map H xs) n)) (s (or_none G (slice_get (map H xs) n)))
none_written w F G H xs n a b s l h = let m = length-map xs H in subst (λ o. Writes w a b (if_there F o) (s (or_none G o))) (sym (slice_get_past (map H xs) n (omega (arith, l, m)))) h

-- records in their order, and the bytes of sorts

pub next_record : (w : Writer) (fuel : ℕ) (os : List Object) (n : ℕ) (o : Object) (a b c : Output) → slice_get os n ≡ Some o → Writes w a b (flat_map (fields_in w fuel) (take n os)) (records_bytes w fuel (take n os))
    → Writes w b c (fields_in w fuel o) (record_bytes w fuel o) → Writes w a c (flat_map (fields_in w fuel) (take (n + 1) os)) (records_bytes w fuel (take (n + 1) os))
next_record w fuel os n o a b c g h k =
    writes_as w a c (flat_map (fields_in w fuel) (take n os) ++ fields_in w fuel o) (flat_map (fields_in w fuel) (take (n + 1) os)) (λ R. records_bytes w fuel (take n os) R ++ record_bytes w fuel o R) (records_bytes w fuel (take (n + 1) os))
    (sym (ap (flat_map (fields_in w fuel)) (one_on n os o g) ∙ flat_map-append (fields_in w fuel) (take n os) (o ∷ []) ∙ ap (λ l. flat_map (fields_in w fuel) (take n os) ++ l) (append_nil (fields_in w fuel o))))
    (λ R. sym (ap (λ l. records_bytes w fuel l R) (one_on n os o g) ∙ flat_map-append (λ o. record_bytes w fuel o R) (take n os) (o ∷ []) ∙ ap (λ l. records_bytes w fuel (take n os) R ++ l) (append_nil (record_bytes w fuel o R))))
    (writes_both w (flat_map (fields_in w fuel) (take n os)) (fields_in w fuel o) (records_bytes w fuel (take n os)) (record_bytes w fuel o) h k)

abbrev pub sorts_of : List Object → List ℕ
sorts_of os = map (λ (o : Object). sort_code o.sort) os

pub next_sort : (os : List Object) (n : ℕ) (o : Object) (k : ℕ) (a b c : Output) → slice_get os n ≡ Some o → k ≡ sort_code o.sort → Puts a b None (λ _. sorts_of (take n os)) → Puts b c None (λ _. k ∷ []) → Puts a c None (λ _. sorts_of (take (n + 1) os))
next_sort os n o k a b c g e h p =
    puts_is a c None (sorts_of (take n os) ++ k ∷ []) (sorts_of (take (n + 1) os))
    (ap (λ k. sorts_of (take n os) ++ k ∷ []) e ∙ sym (ap sorts_of (one_on n os o g) ∙ map_more (λ (o : Object). sort_code o.sort) (take n os) (o ∷ []))) (puts_both h p)

-- numbers one after another

pub next_word : (ns : List ℕ) (n k : ℕ) (a b c : Output) → slice_get ns n ≡ Some k → Puts a b None (λ _. spell_all word (take n ns)) → Puts b c None (λ _. little_bytes 4 k) → Puts a c None (λ _. spell_all word (take (n + 1) ns))
next_word ns n k a b c g h p =
    puts_is a c None (spell_all word (take n ns) ++ little_bytes 4 k) (spell_all word (take (n + 1) ns))
    (sym (ap (spell_all word) (one_on n ns k g) ∙ all_both word (take n ns) (k ∷ []) ∙ ap (λ l. spell_all word (take n ns) ++ l) (append_nil (word.spell k) ∙ word_spelled k))) (puts_both h p)

pub numbers_written : (ns : List ℕ) (a b c : Output) → Puts a b None (λ _. little_bytes 4 (length ns)) → Puts b c None (λ _. spell_all word ns) → Puts a c None (λ _. (list word).spell ns)
numbers_written ns a b c h k = puts_is a c None (little_bytes 4 (length ns) ++ spell_all word ns) ((list word).spell ns) (sym (list_spelled word ns)) (puts_both h k)

-- coroutines by their cases

abbrev CoroutineWritten : Writer → Coro → (a b : Output) → Type 0
CoroutineWritten w c a b = Writes w a b (coroutine_fields (coroutine (texts_in w) c)) (λ R. (coroutine_format R).spell (record_of_coroutine (naming_in w) (coroutine (texts_in w) c)))

pub failed_is : (w : Writer) (c : Coro) (e : Kept) (pending : Vec Kept Global) (vs : List Kept) (a b : Output) → c ≡ Failed e pending → vs ≡ pending.items
    → Writes w a b (of_value (read_in w e) ∷ value_fields w vs) (λ R. (coroutine_format R).spell (failed_record (item_in w e) (map (item_in w) vs))) → CoroutineWritten w c a b
failed_is w c e pending vs a b is same h =
    let F = λ (l : List Kept). of_value (read_in w e) ∷ value_fields w l in
    let N = item (naming_in w) in
    subst (λ c. CoroutineWritten w c a b) (sym is)
    (writes_as w a b (F vs) (F pending.items) (λ R. (coroutine_format R).spell (failed_record (item_in w e) (map (item_in w) vs))) (λ R. (coroutine_format R).spell (failed_record (item_in w e) (map N (map (read_in w) pending.items))))
    (ap F same) (λ R. ap (λ l. (coroutine_format R).spell (failed_record (item_in w e) (map (item_in w) l))) same
    ∙ ap (λ l. (coroutine_format R).spell (failed_record (item_in w e) l)) (sym (map_twice N (read_in w) pending.items))) h)

pub dead_written : (w : Writer) (c : Coro) (a b : Output) → c ≡ Dead → Puts a b None (λ _. 2 ∷ []) → CoroutineWritten w c a b
dead_written w c a b e h = subst (λ c. CoroutineWritten w c a b) (sym e) (puts_as a b None (λ _. 2 ∷ []) (λ R. (coroutine_format R).spell dead_record) (λ R. sym (dead_spelled R)) h)

pub running_written : (w : Writer) (c : Coro) (s : KeptStack) (a b : Output) → c ≡ Running s → Puts a b None (λ _. 255 ∷ []) → CoroutineWritten w c a b
running_written w c s a b e h = subst (λ c. CoroutineWritten w c a b) (sym e) (puts_as a b None (λ _. 255 ∷ []) (λ R. (coroutine_format R).spell no_record) (λ R. sym (no_coroutine_spelled R)) h)

pub normal_written : (w : Writer) (c : Coro) (s : KeptStack) (a b : Output) → c ≡ Normal s → Puts a b None (λ _. 255 ∷ []) → CoroutineWritten w c a b
normal_written w c s a b e h = subst (λ c. CoroutineWritten w c a b) (sym e) (puts_as a b None (λ _. 255 ∷ []) (λ R. (coroutine_format R).spell no_record) (λ R. sym (no_coroutine_spelled R)) h)
