-- Records as they stand in an image.
use Rattle.std.proofs.Common.{arith, ℕ, zero, suc, ◌+◌, ◌<◌, ◌≤◌, ◌^◌, ◌≡◌, List, [], ◌∷◌, ◌++◌, Option, Some, None, refl, subst, sym, ap, ◌∙◌, length, map, Bool, true, false, cond, length-append}
use Rattle.std.specs.Prelude.{nat_eq, nat_le, nat_lt, flat_map, slice_get, ◌&&◌}
use Rattle.byteorder.specs.Endian.{little_bytes}
use Rattle.code_core.specs.Prototype.{Prototype}
use Rattle.code_core.specs.Writable.{is_writable}
use Rattle.chunk_format.specs.Spelling as spelled
use Rattle.int_core.specs.Value.{bind}
use Rattle.machine_core.specs.World.{Wait, running, for_call, for_iterator, for_value, for_truth, dropped, for_concat, for_close, returning, leaving}
use Rattle.image_core.specs.Image.{Item, LuaFrameItem, FrameItem, lua_item, pcall_item, xpcall_item, handler_item, closing_item, Record, table_record, function_record, closed_record, open_record, fresh_record, suspended_record, dead_record, failed_record, no_record}
use Rattle.image_core.specs.Numbers.{walk, walk_records, item_numbers, items_numbers, wait_numbers, error_numbers, frame_numbers, record_numbers}
use Rattle.image_core.proofs.Lists.{Every, every_on}
use Rattle.image_bytes.specs.Format.{byte, word, raw, followed, tested, case, tagged, when, spell_all, times, list_by, list}
use Rattle.image_bytes.specs.Bytes.{Reader, reference, item_format, is_table_or_nil, is_function_item, only, is_new_key, row_after, spell_rows, after_rows, rows_format, table_format, blob, code_format, function_format, cell_format, wait_number, wait_rest, plain_wait, LuaParts, lua_parts, parts_where, lua_format, error_format, frame_format, coroutine_format, record_format, spell_records, after_records, sort_byte}
use Rattle.images_stand.proofs.Items.{Refers, reference_walks, ItemStands, item_walks, item_costs, only_walks}
use Rattle.images_stand.proofs.Walks.{bind_same, walk_append, Walks, byte_walks, word_walks, raw_walks, nothing_walks, followed_walks, tested_walks, case_walks, tagged_walks, word_costs, fewer, times_walks, spelled_list, list_by_walks, list_walks, quiet, walks_as}
use Rattle.list_laws.proofs.Tests.{eq_refl, both_true}
use Rattle.image_saved.proofs.Names.{some_so}

pub sooner : (n : ℕ) (xs ys : List ℕ) → n ≤ length xs → n ≤ length (xs ++ ys)
sooner n xs ys h = let l = length-append xs ys in omega (arith, l, h)

pub later : (n : ℕ) (xs ys : List ℕ) → n ≤ length ys → n ≤ length (xs ++ ys)
later n xs ys h = let l = length-append xs ys in omega (arith, l, h)

single : (ns : List ℕ) → flat_map (λ n. n ∷ []) ns ≡ ns
single [] = refl
single (n ∷ ns) = ap (λ ms. n ∷ ms) (single ns)

module _ (R : Reader) where
  abbrev pub Stand : List Item → Type 0
  Stand items = Every (ItemStands R) items

  pub items_walk : (items : List Item) → Stand items → Every (λ i. Walks (length R.sorts) (item_format R) i (item_numbers i)) items
  items_walk items h = every_on (ItemStands R) (λ i. Walks (length R.sorts) (item_format R) i (item_numbers i)) (item_walks R) items h

  list_stands : (items : List Item) → Stand items → Walks (length R.sorts) (list (item_format R)) items (items_numbers items)
  list_stands items h = list_walks (item_format R) item_numbers items (item_costs R) (items_walk items h)

  -- tables

  abbrev pub RowStands : Item × Item → Type 0
  RowStands row = ItemStands R row.0 × ItemStands R row.1

  abbrev pub AreNew : List Item → List (Item × Item) → Type 0
  AreNew seen [] = Unit {0}
  AreNew seen (row ∷ rows) = (is_new_key R seen row.0 ≡ true) × AreNew (row.0 ∷ seen) rows

  row_walks : (seen : List Item) (row : Item × Item) → is_new_key R seen row.0 ≡ true → RowStands row → Walks (length R.sorts) (row_after R seen) row (item_numbers row.0 ++ item_numbers row.1)
  unfolding row_after
  row_walks seen row e h = followed_walks (λ _. item_format R) row (item_numbers row.0) (item_numbers row.1) (only_walks R (is_new_key R seen) row.0 e h.0) (item_walks R row.1 h.1)

  abbrev row_numbers : Item × Item → List ℕ
  row_numbers row = item_numbers row.0 ++ item_numbers row.1

  same_spelling : (seen : List Item) (row : Item × Item) → (row_after R seen).spell row ≡ (row_after R []).spell row
  unfolding row_after followed only tested
  same_spelling seen row = refl

  rows_after : (rows : List (Item × Item)) (seen : List Item) → AreNew seen rows → Every RowStands rows → (met : ℕ) → length (spell_rows R rows) < 2 ^ 32
      → after_rows R (length rows) seen met rows ≡ walk (length R.sorts) met (flat_map row_numbers rows)
  rows_after [] seen h k met small = refl
  rows_after (row ∷ rows) seen h k met small =
      let l = length-append ((row_after R []).spell row) (spell_rows R rows) in
      let s = ap length (same_spelling seen row) in
      let front : length ((row_after R seen).spell row) < 2 ^ 32 = omega (arith, l, s, small) in
      let behind : length (spell_rows R rows) < 2 ^ 32 = omega (arith, l, small) in
      ap (λ o. bind o (λ m. after_rows R (length rows) (row.0 ∷ seen) m rows)) ((row_walks seen row h.0 k.0).walks met front)
      ∙ (bind_same (walk (length R.sorts) met (row_numbers row)) (λ m. after_rows R (length rows) (row.0 ∷ seen) m rows) (λ m. walk (length R.sorts) m (flat_map row_numbers rows))
      (λ m. rows_after rows (row.0 ∷ seen) h.1 k.1 m behind) ∙ sym (walk_append (length R.sorts) met (row_numbers row) (flat_map row_numbers rows)))

  row_costs : (row : Item × Item) → 1 ≤ length ((row_after R []).spell row)
  unfolding row_after followed only tested
  row_costs row = sooner 1 ((item_format R).spell row.0) ((item_format R).spell row.1) ((item_costs R).costs row.0)

  rows_fewer : (rows : List (Item × Item)) → length rows ≤ length (spell_rows R rows)
  rows_fewer [] = omega arith
  rows_fewer (row ∷ rows) =
      let l = length-append ((row_after R []).spell row) (spell_rows R rows) in
      let one = row_costs row in
      let more = rows_fewer rows in
      omega (arith, l, one, more)

  rows_walk : (rows : List (Item × Item)) → AreNew [] rows → Every RowStands rows → Walks (length R.sorts) (rows_format R (length rows)) rows (flat_map row_numbers rows)
  unfolding rows_format
  rows_walk rows h k = record { walks = λ met small. rows_after rows [] h k met small }

  table_few : (rows : List (Item × Item)) (m : Item) → length rows ≤ length ((table_format R).spell (table_record rows m))
  unfolding table_format case followed word rows_format only tested
  table_few rows m =
      sooner (length rows) (little_bytes 4 (length rows) ++ spell_rows R rows) ((item_format R).spell m)
      (later (length rows) (little_bytes 4 (length rows)) (spell_rows R rows) (rows_fewer rows))

  table_walks_if : (rows : List (Item × Item)) (m : Item) → length rows < 2 ^ 32 → AreNew [] rows → Every RowStands rows → is_table_or_nil R m ≡ true → ItemStands R m
      → Walks (length R.sorts) (table_format R) (table_record rows m) (record_numbers (table_record rows m))
  unfolding table_format
  table_walks_if rows m few new stand e h =
      case_walks _ _ (table_record rows m) ((length rows, rows), m) (flat_map row_numbers rows ++ item_numbers m) refl
      (followed_walks (λ _. only R (is_table_or_nil R)) ((length rows, rows), m) (flat_map row_numbers rows) (item_numbers m)
      (followed_walks (rows_format R) (length rows, rows) [] (flat_map row_numbers rows) (word_walks (length rows) few) (rows_walk rows new stand)) (only_walks R (is_table_or_nil R) m e h))

  table_walks : (rows : List (Item × Item)) (m : Item) → AreNew [] rows → Every RowStands rows → is_table_or_nil R m ≡ true → ItemStands R m
      → Walks (length R.sorts) (table_format R) (table_record rows m) (record_numbers (table_record rows m))
  table_walks rows m new stand e h = record {
    walks = λ met small.
        let few = table_few rows m in
        (table_walks_if rows m (omega (arith, few, small)) new stand e h).walks met small;
  }

  -- functions

  blob_few : (s : List ℕ) → length s ≤ length ((blob R).spell s)
  unfolding blob case followed word raw
  blob_few s = let n : length s ≤ length s = omega arith in later (length s) (little_bytes 4 (length s)) s n

  blob_walks_if : {count : ℕ} (s : List ℕ) → length s < 2 ^ 32 → Walks count (blob R) s []
  unfolding blob
  blob_walks_if s few = case_walks _ _ s (length s, s) [] refl (followed_walks raw (length s, s) [] [] (word_walks (length s) few) (raw_walks s))

  code_walks : {k : ℕ} (p : Prototype) → R.is_checked p ≡ true → is_writable p ≡ true → Walks k (code_format R) p []
  unfolding code_format
  code_walks {k = k} p e w = record {
    walks = λ met small.
        let few = blob_few (spelled.function None p) in
        ap (λ b. cond b ((blob R).after met (spelled.function None p)) None) (both_true (R.is_checked p) (is_writable p) e w)
        ∙ (blob_walks_if {count = k} (spelled.function None p) (omega (arith, few, small))).walks met small;
  }

  cells_walk : (cells : List ℕ) → Every (Refers R.sorts (3 ∷ [])) cells → Every (λ c. Walks (length R.sorts) (reference R.sorts (3 ∷ [])) c (c ∷ [])) cells
  cells_walk cells h = every_on (Refers R.sorts (3 ∷ [])) (λ c. Walks (length R.sorts) (reference R.sorts (3 ∷ [])) c (c ∷ [])) (reference_walks R.sorts (3 ∷ [])) cells h

  upvalues_are : (m n : ℕ) → m ≡ n → nat_eq m n ≡ true
  upvalues_are m n e = subst (λ n. nat_eq m n ≡ true) e (eq_refl m)

  function_walks : (code : Prototype) (cells : List ℕ) → R.is_checked code ≡ true → is_writable code ≡ true → length code.own.upvalues ≡ length cells → Every (Refers R.sorts (3 ∷ [])) cells
      → Walks (length R.sorts) (function_format R) (function_record code cells) cells
  unfolding function_format
  function_walks code cells e w count h =
      walks_as (single cells)
      (case_walks _ _ (function_record code cells) (code, (length cells, cells)) (flat_map (λ c. c ∷ []) cells) refl
      (followed_walks _ (code, (length cells, cells)) [] (flat_map (λ c. c ∷ []) cells) (code_walks code e w)
      (followed_walks _ (length cells, cells) [] (flat_map (λ c. c ∷ []) cells) (tested_walks _ _ (length cells) [] (upvalues_are (length code.own.upvalues) (length cells) count) (byte_walks (length cells)))
      (times_walks (reference R.sorts (3 ∷ [])) (λ c. c ∷ []) cells (cells_walk cells h)))))

  -- cells

  closed_walks : (i : Item) → ItemStands R i → Walks (length R.sorts) (cell_format R) (closed_record i) (item_numbers i)
  unfolding cell_format when
  closed_walks i h = tagged_walks _ _ (closed_record i) (item_numbers i) (case_walks _ _ (closed_record i) i (item_numbers i) refl (item_walks R i h))

  open_walks : (co frame register : ℕ) → Refers R.sorts (4 ∷ []) co → frame < 2 ^ 32 → register < 2 ^ 32 → Walks (length R.sorts) (cell_format R) (open_record co frame register) (co ∷ [])
  unfolding cell_format when
  open_walks co frame register h f r =
      tagged_walks _ _ (open_record co frame register) (co ∷ [])
      (case_walks _ _ (open_record co frame register) (co, (frame, register)) (co ∷ []) refl
      (followed_walks _ (co, (frame, register)) (co ∷ []) [] (reference_walks R.sorts (4 ∷ []) co h) (followed_walks _ (frame, register) [] [] (word_walks frame f) (word_walks register r))))

  -- frames

  abbrev pub WaitStands : ℕ → Wait Item → Type 0
  WaitStands size running = ⊥
  WaitStands size (returning count) = count ≤ size
  WaitStands size (leaving e) = ItemStands R e
  WaitStands size _ = Unit {0}

  wait_walks : (size : ℕ) (w : Wait Item) → size < 2 ^ 32 → WaitStands size w → Walks (length R.sorts) (wait_rest R (wait_number R w)) w (wait_numbers w)
  unfolding wait_rest plain_wait when
  wait_walks size running few h = absurd h
  wait_walks size for_call few h = case_walks _ _ for_call tt [] refl (nothing_walks tt)
  wait_walks size for_iterator few h = case_walks _ _ for_iterator tt [] refl (nothing_walks tt)
  wait_walks size for_value few h = case_walks _ _ for_value tt [] refl (nothing_walks tt)
  wait_walks size for_truth few h = case_walks _ _ for_truth tt [] refl (nothing_walks tt)
  wait_walks size dropped few h = case_walks _ _ dropped tt [] refl (nothing_walks tt)
  wait_walks size (for_concat left) few h = case_walks _ _ (for_concat left) left [] refl (byte_walks left)
  wait_walks size for_close few h = case_walks _ _ for_close tt [] refl (nothing_walks tt)
  wait_walks size (returning count) few h = case_walks _ _ (returning count) count [] refl (word_walks count (omega (arith, few, h)))
  wait_walks size (leaving e) few h = case_walks _ _ (leaving e) e (item_numbers e) refl (item_walks R e h)

  numbered_wait : (size : ℕ) (w : Wait Item) → WaitStands size w → nat_le (wait_number R w) 8 ≡ true
  numbered_wait size running h = absurd h
  numbered_wait size _ h = refl

  words_walk : {count : ℕ} (ns : List ℕ) → Every (λ n. n < 2 ^ 32) ns → Walks count (list word) ns []
  words_walk {count = count} ns h = walks_as (quiet ns) (list_walks word (λ _. []) ns word_costs (every_on (λ n. n < 2 ^ 32) (λ n. Walks count word n []) word_walks ns h))

  pub record LuaStands (f : LuaFrameItem) : Type 0 where
    pub is_function : is_function_item R f.function ≡ true
    pub function : ItemStands R f.function
    pub pc : f.pc < 2 ^ 32
    pub varargs : Stand f.varargs
    pub registers : Stand f.registers
    pub pending : Every (λ r. r < 2 ^ 32) f.pending
    pub wait : WaitStands (length f.registers) f.wait
    pub opened : f.opened ≡ 0

  abbrev lua_told : LuaFrameItem → LuaParts R
  lua_told f = (f.function, (f.pc, (wait_number R f.wait, (f.varargs, (f.registers, (f.pending, f.wait))))))

  told_so : (f : LuaFrameItem) → f.opened ≡ 0 → lua_parts R f ≡ Some (lua_told f)
  told_so f e = ap (λ n. parts_where R n f) e

  abbrev behind_registers : LuaFrameItem → List ℕ
  behind_registers f = (list word).spell f.pending ++ (wait_rest R (wait_number R f.wait)).spell f.wait

  abbrev behind_varargs : LuaFrameItem → List ℕ
  behind_varargs f = (list (item_format R)).spell f.registers ++ behind_registers f

  abbrev behind_wait : LuaFrameItem → List ℕ
  behind_wait f = (list (item_format R)).spell f.varargs ++ behind_varargs f

  abbrev behind_pc : LuaFrameItem → List ℕ
  behind_pc f = byte.spell (wait_number R f.wait) ++ behind_wait f

  registers_few : (f : LuaFrameItem) → length f.registers ≤ length (behind_wait f)
  registers_few f =
      let l = spelled_list (item_format R) f.registers in
      let n = fewer (item_format R) (item_costs R) f.registers in
      later (length f.registers) ((list (item_format R)).spell f.varargs) (behind_varargs f) (sooner (length f.registers) ((list (item_format R)).spell f.registers) (behind_registers f) (omega (arith, l, n)))

  told_few : (f : LuaFrameItem) → length f.registers ≤ length ((lua_format R).spell (record f { opened = 0 }))
  unfolding lua_format case followed tested
  told_few f =
      later (length f.registers) ((only R (is_function_item R)).spell f.function) (word.spell f.pc ++ behind_pc f)
      (later (length f.registers) (word.spell f.pc) (behind_pc f) (later (length f.registers) (byte.spell (wait_number R f.wait)) (behind_wait f) (registers_few f)))

  pub lua_few : (f : LuaFrameItem) → f.opened ≡ 0 → length f.registers ≤ length ((lua_format R).spell f)
  lua_few f e = subst (λ n. length f.registers ≤ length ((lua_format R).spell (record f { opened = n }))) (sym e) (told_few f)

  lua_walks_if : (f : LuaFrameItem) → length f.registers < 2 ^ 32 → LuaStands f → Walks (length R.sorts) (lua_format R) f (frame_numbers (lua_item f))
  unfolding lua_format
  lua_walks_if f few h =
      case_walks _ _ f (lua_told f) (frame_numbers (lua_item f)) (told_so f h.opened)
      (followed_walks _ (lua_told f) (item_numbers f.function) (items_numbers f.varargs ++ (items_numbers f.registers ++ wait_numbers f.wait)) (only_walks R (is_function_item R) f.function h.is_function h.function)
      (followed_walks _ (lua_told f).1 [] (items_numbers f.varargs ++ (items_numbers f.registers ++ wait_numbers f.wait)) (word_walks f.pc h.pc)
      (followed_walks _ (lua_told f).1.1 [] (items_numbers f.varargs ++ (items_numbers f.registers ++ wait_numbers f.wait)) (tested_walks _ _ (wait_number R f.wait) [] (numbered_wait (length f.registers) f.wait h.wait) (byte_walks (wait_number R f.wait)))
      (followed_walks _ (lua_told f).1.1.1 (items_numbers f.varargs) (items_numbers f.registers ++ wait_numbers f.wait) (list_stands f.varargs h.varargs)
      (followed_walks _ (lua_told f).1.1.1.1 (items_numbers f.registers) (wait_numbers f.wait) (list_stands f.registers h.registers)
      (followed_walks _ (lua_told f).1.1.1.1.1 [] (wait_numbers f.wait) (words_walk f.pending h.pending) (wait_walks (length f.registers) f.wait few h.wait)))))))

  lua_walks : (f : LuaFrameItem) → LuaStands f → Walks (length R.sorts) (lua_format R) f (frame_numbers (lua_item f))
  lua_walks f h = record { walks = λ met small. let few = lua_few f h.opened in (lua_walks_if f (omega (arith, few, small)) h).walks met small }

  abbrev pub ErrorStands : Option Item → Type 0
  ErrorStands None = Unit {0}
  ErrorStands (Some e) = ItemStands R e

  error_walks : (e : Option Item) → ErrorStands e → Walks (length R.sorts) (error_format R) e (error_numbers e)
  unfolding error_format when
  error_walks None h = tagged_walks _ _ None [] (case_walks _ _ None tt [] refl (nothing_walks tt))
  error_walks (Some e) h = tagged_walks _ _ (Some e) (item_numbers e) (case_walks _ _ (Some e) e (item_numbers e) refl (item_walks R e h))

  abbrev pub FrameStands : FrameItem → Type 0
  FrameStands (lua_item f) = LuaStands f
  FrameStands (xpcall_item h) = ItemStands R h
  FrameStands (closing_item e left) = ErrorStands e × Stand left
  FrameStands _ = Unit {0}

  frame_walks : (f : FrameItem) → FrameStands f → Walks (length R.sorts) (frame_format R) f (frame_numbers f)
  unfolding frame_format when
  frame_walks (lua_item f) h = tagged_walks _ _ (lua_item f) (frame_numbers (lua_item f)) (case_walks _ _ (lua_item f) f (frame_numbers (lua_item f)) refl (lua_walks f h))
  frame_walks pcall_item h = tagged_walks _ _ pcall_item [] (case_walks _ _ pcall_item tt [] refl (nothing_walks tt))
  frame_walks (xpcall_item i) h = tagged_walks _ _ (xpcall_item i) (item_numbers i) (case_walks _ _ (xpcall_item i) i (item_numbers i) refl (item_walks R i h))
  frame_walks handler_item h = tagged_walks _ _ handler_item [] (case_walks _ _ handler_item tt [] refl (nothing_walks tt))
  frame_walks (closing_item e left) h =
      tagged_walks _ _ (closing_item e left) (error_numbers e ++ items_numbers left)
      (case_walks _ _ (closing_item e left) (e, left) (error_numbers e ++ items_numbers left) refl (followed_walks _ (e, left) (error_numbers e) (items_numbers left) (error_walks e h.0) (list_stands left h.1)))

  -- records

  abbrev pub RecordStands : Record → Type 0
  RecordStands (table_record rows m) = AreNew [] rows × Every RowStands rows × (is_table_or_nil R m ≡ true) × ItemStands R m
  RecordStands (function_record code cells) = (R.is_checked code ≡ true) × (is_writable code ≡ true) × (length code.own.upvalues ≡ length cells) × Every (Refers R.sorts (3 ∷ [])) cells
  RecordStands (closed_record i) = ItemStands R i
  RecordStands (open_record co frame register) = Refers R.sorts (4 ∷ []) co × (frame < 2 ^ 32) × (register < 2 ^ 32)
  RecordStands (fresh_record body) = (is_function_item R body ≡ true) × ItemStands R body
  RecordStands (suspended_record frames) = Every FrameStands frames × (length frames ≤ 100000)
  RecordStands dead_record = Unit {0}
  RecordStands (failed_record e pending) = ItemStands R e × Stand pending
  RecordStands no_record = ⊥

  few_frames : (n : ℕ) → n ≤ 100000 → nat_le n 100000 ≡ true
  few_frames n h = search (arith, h)

  frames_walk : (frames : List FrameItem) → Every FrameStands frames → Every (λ f. Walks (length R.sorts) (frame_format R) f (frame_numbers f)) frames
  frames_walk frames h = every_on FrameStands (λ f. Walks (length R.sorts) (frame_format R) f (frame_numbers f)) frame_walks frames h

  pub record_walks : (r : Record) → RecordStands r → Walks (length R.sorts) (record_format R (sort_byte r)) r (record_numbers r)
  unfolding record_format coroutine_format when
  record_walks (table_record rows m) h = table_walks rows m h.0 h.1 h.2 h.3
  record_walks (function_record code cells) h = function_walks code cells h.0 h.1 h.2 h.3
  record_walks (closed_record i) h = closed_walks i h
  record_walks (open_record co frame register) h = open_walks co frame register h.0 h.1 h.2
  record_walks (fresh_record body) h = tagged_walks _ _ (fresh_record body) (item_numbers body) (case_walks _ _ (fresh_record body) body (item_numbers body) refl (only_walks R (is_function_item R) body h.0 h.1))
  record_walks (suspended_record frames) h =
      tagged_walks _ _ (suspended_record frames) (flat_map frame_numbers frames)
      (case_walks _ _ (suspended_record frames) frames (flat_map frame_numbers frames) refl
      (list_by_walks (frame_format R) frame_numbers frames (tested_walks _ _ (length frames) [] (few_frames (length frames) h.1) (word_walks (length frames) (let k = h.1 in omega (arith, k)))) (frames_walk frames h.0)))
  record_walks dead_record h = tagged_walks _ _ dead_record [] (case_walks _ _ dead_record tt [] refl (nothing_walks tt))
  record_walks (failed_record e pending) h =
      tagged_walks _ _ (failed_record e pending) (item_numbers e ++ items_numbers pending)
      (case_walks _ _ (failed_record e pending) (e, pending) (item_numbers e ++ items_numbers pending) refl (followed_walks _ (e, pending) (item_numbers e) (items_numbers pending) (item_walks R e h.0) (list_stands pending h.1)))
  record_walks no_record h = absurd h

  if_before : (b : Bool) (o q : Option ℕ) → o ≡ q → cond b o None ≡ cond b q None
  if_before true o q e = e
  if_before false o q e = refl

  pub records_after : (rs : List Record) → Every RecordStands rs → (at met : ℕ) → length (spell_records R (map sort_byte rs) rs) < 2 ^ 32
      → after_records R at (map sort_byte rs) met rs ≡ walk_records (length R.sorts) at met (map record_numbers rs)
  records_after [] h at met small = refl
  records_after (r ∷ rs) h at met small =
      let l = length-append ((record_format R (sort_byte r)).spell r) (spell_records R (map sort_byte rs) rs) in
      let front : length ((record_format R (sort_byte r)).spell r) < 2 ^ 32 = omega (arith, l, small) in
      let behind : length (spell_records R (map sort_byte rs) rs) < 2 ^ 32 = omega (arith, l, small) in
      if_before (nat_lt at met) _ _
      (ap (λ o. bind o (λ m. after_records R (suc at) (map sort_byte rs) m rs)) ((record_walks r h.0).walks met front)
      ∙ bind_same (walk (length R.sorts) met (record_numbers r)) (λ m. after_records R (suc at) (map sort_byte rs) m rs) (λ m. walk_records (length R.sorts) (suc at) m (map record_numbers rs)) (λ m. records_after rs h.1 (suc at) m behind))

  -- how many registers a frame of an image has is bounded by the bytes of the image

  frames_few : (frames : List FrameItem) (g : ℕ) (f : LuaFrameItem) → slice_get frames g ≡ Some (lua_item f) → f.opened ≡ 0 → length f.registers ≤ length (spell_all (frame_format R) frames)
  unfolding frame_format tagged when case byte
  frames_few [] g f e o = absurd (cc)
  frames_few (x ∷ frames) zero f e o =
      subst (λ x. length f.registers ≤ length ((frame_format R).spell x ++ spell_all (frame_format R) frames)) (some_so (sym e))
      (sooner (length f.registers) ((frame_format R).spell (lua_item f)) (spell_all (frame_format R) frames) (later (length f.registers) (1 ∷ []) ((lua_format R).spell f) (lua_few f o)))
  frames_few (x ∷ frames) (suc g) f e o = later (length f.registers) ((frame_format R).spell x) (spell_all (frame_format R) frames) (frames_few frames g f e o)

  suspended_few : (frames : List FrameItem) (g : ℕ) (f : LuaFrameItem) → slice_get frames g ≡ Some (lua_item f) → f.opened ≡ 0 → length f.registers ≤ length ((record_format R 4).spell (suspended_record frames))
  unfolding record_format coroutine_format tagged when case byte list_by followed tested times
  suspended_few frames g f e o =
      later (length f.registers) (1 ∷ []) (word.spell (length frames) ++ spell_all (frame_format R) frames) (later (length f.registers) (word.spell (length frames)) (spell_all (frame_format R) frames) (frames_few frames g f e o))

  pub registers_bound : (rs : List Record) (n : ℕ) (frames : List FrameItem) (g : ℕ) (f : LuaFrameItem) → slice_get rs n ≡ Some (suspended_record frames) → slice_get frames g ≡ Some (lua_item f) → f.opened ≡ 0
      → length f.registers ≤ length (spell_records R (map sort_byte rs) rs)
  registers_bound [] n frames g f e k o = absurd (cc)
  registers_bound (r ∷ rs) zero frames g f e k o =
      subst (λ r. length f.registers ≤ length (spell_records R (map sort_byte (r ∷ rs)) (r ∷ rs))) (some_so (sym e))
      (sooner (length f.registers) ((record_format R 4).spell (suspended_record frames)) (spell_records R (map sort_byte rs) rs) (suspended_few frames g f k o))
  registers_bound (r ∷ rs) (suc n) frames g f e k o = later (length f.registers) ((record_format R (sort_byte r)).spell r) (spell_records R (map sort_byte rs) rs) (registers_bound rs n frames g f e k o)
