-- The bytes of an image.
use Rattle.std.specs.Prelude.{ℕ, zero, suc, ℤ, Bool, true, false, cond, ◌&&◌, not, List, [], ◌∷◌, ◌++◌, length, map, Option, Some, None, nat_eq, nat_lt, nat_le, slice_get}
use Rattle.std.specs.List.{list_any}
use Rattle.code_core.specs.Prototype.{Prototype}
use Rattle.code_core.specs.Writable.{is_writable}
use Rattle.chunk_format.specs.Reading as chunk
use Rattle.chunk_format.specs.Spelling as spelled
use Rattle.int_core.specs.Value.{nil, boolean, integer, string, primitive, Kind, a_table, a_function, a_coroutine, same_kind, greatest_string, bind}
use Rattle.machine_core.specs.World.{Wait, running, for_call, for_iterator, for_value, for_truth, dropped, for_concat, for_close, returning, leaving}
use Rattle.image_core.specs.Numbers.{meeting}
use Rattle.image_core.specs.Image.{PermKey, number_key, text_key, Item, plain, numbered, permanent, environment, LuaFrameItem, FrameItem, lua_item, pcall_item, xpcall_item, handler_item, closing_item, Record, table_record, function_record, closed_record, open_record, fresh_record, suspended_record, dead_record, failed_record, no_record, Image}
use Rattle.image_bytes.specs.Format.{Fault, of_kind, Got, read, refused, and_then, Format, byte, word, integer_of, raw, nothing, wrong, followed, tested, case, tagged, when, times, list_by, list, second}

-- what a reader knows: the sort of each record from its kind byte, the sort of each permanent that it was handed, which items are one key,
-- and which code is checked
pub record Reader : Type 0 where
  pub sorts : List ℕ
  pub sort_named : PermKey → Option Kind
  pub same_key : Item → Item → Bool
  pub is_checked : Prototype → Bool

-- texts: a length and the bytes
unfoldable pub text : Format (List ℕ)
text = case second (λ s. Some (length s, s)) (followed (tested (λ n. nat_le n greatest_string) (λ n. of_kind 4) word) raw)

-- keys of permanents
abbrev pub key_tag : PermKey → ℕ
key_tag (number_key n) = 3
key_tag (text_key s) = 4

abbrev pub number_of_key : PermKey → Option ℤ
number_of_key (number_key n) = Some n
number_of_key _ = None

abbrev pub text_of_key : PermKey → Option (List ℕ)
text_of_key (text_key s) = Some s
text_of_key _ = None

unfoldable pub key : Format PermKey
key = tagged key_tag (λ t. when t 3 (case number_key number_of_key integer_of) (when t 4 (case text_key text_of_key text) (wrong 5)))

-- numbers of records: one that was met, or the next one
abbrev pub sort_at : List ℕ → ℕ → ℕ
sort_at sorts n = elim (slice_get sorts n) [ None ↦ 0 | Some s ↦ s ]

abbrev pub met_or : Option ℕ → ℕ → List ℕ → Got ℕ
met_or None n rest = refused (of_kind 4)
met_or (Some m) n rest = read n m rest

unfoldable pub reference : List ℕ → List ℕ → Format ℕ
reference sorts wanted = record {
  spell = word.spell;
  scan = λ met bytes. and_then (and_then (word.scan met bytes) (λ n m rest. met_or (meeting (length sorts) m n) n rest)) (λ n m rest. cond (list_any (nat_eq (sort_at sorts n)) wanted) (read n m rest) (refused (of_kind 5)));
  after = λ met n. cond (list_any (nat_eq (sort_at sorts n)) wanted) (bind (word.after met n) (λ m. meeting (length sorts) m n)) None;
}

-- permanents: the key is one that the reader was handed, and its object is of the sort
abbrev pub permanent_fault : Option Kind → PermKey → Fault
permanent_fault None k = record { kind = 7; key = Some k }
permanent_fault (Some _) k = record { kind = 8; key = Some k }

abbrev pub is_sort : Kind → Option Kind → Bool
is_sort kind None = false
is_sort kind (Some k) = same_kind k kind

module _ (R : Reader) where
  unfoldable pub named_key : Kind → Format PermKey
  named_key kind = tested (λ k. is_sort kind (R.sort_named k)) (λ k. permanent_fault (R.sort_named k) k) key

  abbrev pub key_of_sort : Kind → Item → Option PermKey
  key_of_sort a_table (permanent a_table k) = Some k
  key_of_sort a_function (permanent a_function k) = Some k
  key_of_sort a_coroutine (permanent a_coroutine k) = Some k
  key_of_sort _ _ = None

  -- values
  abbrev pub item_tag : Item → ℕ
  item_tag (plain nil) = 0
  item_tag (plain (boolean false)) = 1
  item_tag (plain (boolean true)) = 2
  item_tag (plain (integer n)) = 3
  item_tag (plain (string s)) = 4
  item_tag (plain (primitive n)) = 255
  item_tag (numbered n) = 5
  item_tag (permanent a_function k) = 6
  item_tag (permanent a_table k) = 7
  item_tag (permanent a_coroutine k) = 8
  item_tag environment = 9

  abbrev pub nil_item : Item → Option (Unit {0})
  nil_item (plain nil) = Some tt
  nil_item _ = None

  abbrev pub false_item : Item → Option (Unit {0})
  false_item (plain (boolean false)) = Some tt
  false_item _ = None

  abbrev pub true_item : Item → Option (Unit {0})
  true_item (plain (boolean true)) = Some tt
  true_item _ = None

  abbrev pub integer_item : Item → Option ℤ
  integer_item (plain (integer n)) = Some n
  integer_item _ = None

  abbrev pub string_item : Item → Option (List ℕ)
  string_item (plain (string s)) = Some s
  string_item _ = None

  abbrev pub number_item : Item → Option ℕ
  number_item (numbered n) = Some n
  number_item _ = None

  abbrev pub environment_item : Item → Option (Unit {0})
  environment_item environment = Some tt
  environment_item _ = None

  unfoldable pub item_body : ℕ → Format Item
  item_body t =
      when t 0 (case (λ _. plain nil) nil_item nothing)
      (when t 1 (case (λ _. plain (boolean false)) false_item nothing)
      (when t 2 (case (λ _. plain (boolean true)) true_item nothing)
      (when t 3 (case (λ n. plain (integer n)) integer_item integer_of)
      (when t 4 (case (λ s. plain (string s)) string_item text)
      (when t 5 (case numbered number_item (reference R.sorts (1 ∷ 2 ∷ 4 ∷ [])))
      (when t 6 (case (permanent a_function) (key_of_sort a_function) (named_key a_function))
      (when t 7 (case (permanent a_table) (key_of_sort a_table) (named_key a_table))
      (when t 8 (case (permanent a_coroutine) (key_of_sort a_coroutine) (named_key a_coroutine))
      (when t 9 (case (λ _. environment) environment_item nothing)
      (wrong 5))))))))))

  unfoldable pub item_format : Format Item
  item_format = tagged item_tag item_body

  -- which items may stand at a place
  abbrev pub is_nil_item : Item → Bool
  is_nil_item (plain nil) = true
  is_nil_item _ = false

  abbrev pub is_table_or_nil : Item → Bool
  is_table_or_nil (plain nil) = true
  is_table_or_nil (numbered n) = nat_eq (sort_at R.sorts n) 1
  is_table_or_nil (permanent a_table k) = true
  is_table_or_nil environment = true
  is_table_or_nil _ = false

  abbrev pub is_function_item : Item → Bool
  is_function_item (numbered n) = nat_eq (sort_at R.sorts n) 2
  is_function_item (permanent a_function k) = true
  is_function_item _ = false

  unfoldable pub only : (Item → Bool) → Format Item
  only ok = tested ok (λ _. of_kind 5) item_format

  -- rows: a key that is nil, or that an earlier row has, is refused where it stands
  abbrev pub is_new_key : List Item → Item → Bool
  is_new_key seen k = not (is_nil_item k) && not (list_any (R.same_key k) seen)

  unfoldable pub row_after : List Item → Format (Item × Item)
  row_after seen = followed (only (is_new_key seen)) (λ _. item_format)

  abbrev pub spell_rows : List (Item × Item) → List ℕ
  spell_rows [] = []
  spell_rows (row ∷ rows) = (row_after []).spell row ++ spell_rows rows

  abbrev pub scan_rows : ℕ → List Item → ℕ → List ℕ → Got (List (Item × Item))
  scan_rows zero seen met bytes = read [] met bytes
  scan_rows (suc n) seen met bytes = and_then ((row_after seen).scan met bytes) (λ row m rest. and_then (scan_rows n (row.0 ∷ seen) m rest) (λ rows k left. read (row ∷ rows) k left))

  abbrev pub after_rows : ℕ → List Item → ℕ → List (Item × Item) → Option ℕ
  after_rows zero seen met [] = Some met
  after_rows zero seen met (row ∷ rows) = None
  after_rows (suc n) seen met [] = None
  after_rows (suc n) seen met (row ∷ rows) = bind ((row_after seen).after met row) (λ m. after_rows n (row.0 ∷ seen) m rows)

  unfoldable pub rows_format : ℕ → Format (List (Item × Item))
  rows_format n = record { spell = spell_rows; scan = scan_rows n []; after = after_rows n [] }

  abbrev pub of_table : Record → Option ((ℕ × List (Item × Item)) × Item)
  of_table (table_record rows metatable) = Some ((length rows, rows), metatable)
  of_table _ = None

  unfoldable pub table_format : Format Record
  table_format = case (λ x. table_record x.0.1 x.1) of_table (followed (followed word rows_format) (λ _. only is_table_or_nil))

  -- code: a length and the bytes of the function, which is checked
  abbrev pub code_told : Bool → Prototype → List ℕ → ℕ → List ℕ → Got Prototype
  code_told true p [] met rest = read p met rest
  code_told _ p _ met rest = refused (of_kind 6)

  abbrev pub code_read : chunk.Got Prototype → ℕ → List ℕ → Got Prototype
  code_read (chunk.read p left) met rest = code_told (R.is_checked p) p left met rest
  code_read (chunk.refused kind) met rest = refused (of_kind 6)

  unfoldable pub blob : Format (List ℕ)
  blob = case second (λ s. Some (length s, s)) (followed word raw)

  unfoldable pub code_format : Format Prototype
  code_format = record {
    spell = λ p. blob.spell (spelled.function None p);
    scan = λ met bytes. and_then (blob.scan met bytes) (λ s m rest. code_read (chunk.read_whole s) m rest);
    after = λ met p. cond (R.is_checked p && is_writable p) (blob.after met (spelled.function None p)) None;
  }

  -- a function: its code, and as many cells as that has upvalues
  abbrev pub of_function : Record → Option (Prototype × (ℕ × List ℕ))
  of_function (function_record code cells) = Some (code, (length cells, cells))
  of_function _ = None

  unfoldable pub function_format : Format Record
  function_format = case (λ x. function_record x.0 x.1.1) of_function
      (followed code_format (λ p. followed (tested (nat_eq (length p.own.upvalues)) (λ _. of_kind 4) byte) (λ n. times n (reference R.sorts (3 ∷ [])))))

  -- cells
  abbrev pub cell_tag : Record → ℕ
  cell_tag (closed_record i) = 1
  cell_tag (open_record co frame register) = 2
  cell_tag _ = 255

  abbrev pub of_closed : Record → Option Item
  of_closed (closed_record i) = Some i
  of_closed _ = None

  abbrev pub of_open : Record → Option (ℕ × (ℕ × ℕ))
  of_open (open_record co frame register) = Some (co, (frame, register))
  of_open _ = None

  unfoldable pub cell_format : Format Record
  cell_format = tagged cell_tag (λ t.
      when t 1 (case closed_record of_closed item_format)
      (when t 2 (case (λ x. open_record x.0 x.1.0 x.1.1) of_open (followed (reference R.sorts (4 ∷ [])) (λ _. followed word (λ _. word))))
      (wrong 5)))

  -- frames
  abbrev pub wait_number : Wait Item → ℕ
  wait_number for_call = 0
  wait_number for_iterator = 1
  wait_number for_value = 2
  wait_number for_truth = 3
  wait_number dropped = 4
  wait_number (for_concat left) = 5
  wait_number for_close = 6
  wait_number (returning count) = 7
  wait_number (leaving e) = 8
  wait_number running = 255

  abbrev pub is_wait : Wait Item → Wait Item → Option (Unit {0})
  is_wait for_call for_call = Some tt
  is_wait for_iterator for_iterator = Some tt
  is_wait for_value for_value = Some tt
  is_wait for_truth for_truth = Some tt
  is_wait dropped dropped = Some tt
  is_wait for_close for_close = Some tt
  is_wait _ _ = None

  unfoldable pub plain_wait : Wait Item → Format (Wait Item)
  plain_wait w = case (λ _. w) (is_wait w) nothing

  abbrev pub of_concat : Wait Item → Option ℕ
  of_concat (for_concat left) = Some left
  of_concat _ = None

  abbrev pub of_returning : Wait Item → Option ℕ
  of_returning (returning count) = Some count
  of_returning _ = None

  abbrev pub of_leaving : Wait Item → Option Item
  of_leaving (leaving e) = Some e
  of_leaving _ = None

  unfoldable pub wait_rest : ℕ → Format (Wait Item)
  wait_rest t =
      when t 0 (plain_wait for_call) (when t 1 (plain_wait for_iterator) (when t 2 (plain_wait for_value) (when t 3 (plain_wait for_truth) (when t 4 (plain_wait dropped)
      (when t 5 (case for_concat of_concat byte) (when t 6 (plain_wait for_close) (when t 7 (case returning of_returning word) (when t 8 (case leaving of_leaving item_format) (wrong 5)))))))))

  abbrev pub LuaParts : Type 0
  LuaParts = Item × (ℕ × (ℕ × (List Item × (List Item × (List ℕ × Wait Item)))))

  -- a frame with an open list is not spelled: none of these waits
  abbrev pub parts_where : (opened : ℕ) → LuaFrameItem → Option LuaParts
  parts_where (suc n) f = None
  parts_where zero f = Some (f.function, (f.pc, (wait_number f.wait, (f.varargs, (f.registers, (f.pending, f.wait))))))

  abbrev pub lua_parts : LuaFrameItem → Option LuaParts
  lua_parts f = parts_where f.opened f

  abbrev pub lua_of : LuaParts → LuaFrameItem
  lua_of x = record { function = x.0; pc = x.1.0; wait = x.1.1.1.1.1.1; varargs = x.1.1.1.0; registers = x.1.1.1.1.0; pending = x.1.1.1.1.1.0; opened = 0 }

  unfoldable pub lua_format : Format LuaFrameItem
  lua_format = case lua_of lua_parts
      (followed (only is_function_item) (λ _. followed word (λ _. followed (tested (λ t. nat_le t 8) (λ _. of_kind 5) byte) (λ t.
      followed (list item_format) (λ _. followed (list item_format) (λ _. followed (list word) (λ _. wait_rest t)))))))

  abbrev pub frame_tag : FrameItem → ℕ
  frame_tag (lua_item f) = 1
  frame_tag pcall_item = 2
  frame_tag (xpcall_item h) = 3
  frame_tag handler_item = 4
  frame_tag (closing_item e left) = 5

  abbrev pub of_lua : FrameItem → Option LuaFrameItem
  of_lua (lua_item f) = Some f
  of_lua _ = None

  abbrev pub of_pcall : FrameItem → Option (Unit {0})
  of_pcall pcall_item = Some tt
  of_pcall _ = None

  abbrev pub of_xpcall : FrameItem → Option Item
  of_xpcall (xpcall_item h) = Some h
  of_xpcall _ = None

  abbrev pub of_handler : FrameItem → Option (Unit {0})
  of_handler handler_item = Some tt
  of_handler _ = None

  abbrev pub of_closing : FrameItem → Option (Option Item × List Item)
  of_closing (closing_item e left) = Some (e, left)
  of_closing _ = None

  abbrev pub some_tag : Option Item → ℕ
  some_tag None = 0
  some_tag (Some i) = 1

  abbrev pub of_none : Option Item → Option (Unit {0})
  of_none None = Some tt
  of_none (Some i) = None

  abbrev pub itself : Option Item → Option Item
  itself o = o

  unfoldable pub error_format : Format (Option Item)
  error_format = tagged some_tag (λ t. when t 0 (case (λ _. None) of_none nothing) (when t 1 (case Some itself item_format) (wrong 5)))

  unfoldable pub frame_format : Format FrameItem
  frame_format = tagged frame_tag (λ t.
      when t 1 (case lua_item of_lua lua_format)
      (when t 2 (case (λ _. pcall_item) of_pcall nothing)
      (when t 3 (case xpcall_item of_xpcall item_format)
      (when t 4 (case (λ _. handler_item) of_handler nothing)
      (when t 5 (case (λ x. closing_item x.0 x.1) of_closing (followed error_format (λ _. list item_format)))
      (wrong 5))))))

  -- coroutines
  abbrev pub coroutine_tag : Record → ℕ
  coroutine_tag (fresh_record body) = 0
  coroutine_tag (suspended_record frames) = 1
  coroutine_tag dead_record = 2
  coroutine_tag (failed_record e pending) = 3
  coroutine_tag _ = 255

  abbrev pub of_fresh : Record → Option Item
  of_fresh (fresh_record body) = Some body
  of_fresh _ = None

  abbrev pub of_suspended : Record → Option (List FrameItem)
  of_suspended (suspended_record frames) = Some frames
  of_suspended _ = None

  abbrev pub of_dead : Record → Option (Unit {0})
  of_dead dead_record = Some tt
  of_dead _ = None

  abbrev pub of_failed : Record → Option (Item × List Item)
  of_failed (failed_record e pending) = Some (e, pending)
  of_failed _ = None

  unfoldable pub coroutine_format : Format Record
  coroutine_format = tagged coroutine_tag (λ t.
      when t 0 (case fresh_record of_fresh (only is_function_item))
      (when t 1 (case suspended_record of_suspended (list_by (tested (λ n. nat_le n 100000) (λ _. of_kind 4) word) frame_format))
      (when t 2 (case (λ _. dead_record) of_dead nothing)
      (when t 3 (case (λ x. failed_record x.0 x.1) of_failed (followed item_format (λ _. list item_format)))
      (wrong 5)))))

  -- records, each by its kind byte
  unfoldable pub record_format : ℕ → Format Record
  record_format s = when s 1 table_format (when s 2 function_format (when s 3 cell_format (when s 4 coroutine_format (wrong 5))))

  -- a record that was not met before its place is refused there
  abbrev pub spell_records : List ℕ → List Record → List ℕ
  spell_records [] rs = []
  spell_records (s ∷ ss) [] = []
  spell_records (s ∷ ss) (r ∷ rs) = (record_format s).spell r ++ spell_records ss rs

  abbrev pub scan_records : ℕ → List ℕ → ℕ → List ℕ → Got (List Record)
  scan_records at [] met bytes = read [] met bytes
  scan_records at (s ∷ ss) met bytes = cond (nat_lt at met) (and_then ((record_format s).scan met bytes) (λ r m rest. and_then (scan_records (suc at) ss m rest) (λ rs k left. read (r ∷ rs) k left))) (refused (of_kind 4))

  abbrev pub after_records : ℕ → List ℕ → ℕ → List Record → Option ℕ
  after_records at [] met [] = Some met
  after_records at [] met (r ∷ rs) = None
  after_records at (s ∷ ss) met [] = None
  after_records at (s ∷ ss) met (r ∷ rs) = cond (nat_lt at met) (bind ((record_format s).after met r) (λ m. after_records (suc at) ss m rs)) None

  unfoldable pub records_format : Format (List Record)
  records_format = record { spell = spell_records R.sorts; scan = scan_records 0 R.sorts; after = after_records 0 R.sorts }

-- the whole image

unfoldable pub exactly : ℕ → (kind : ℕ) → Format ℕ
exactly n kind = tested (nat_eq n) (λ _. of_kind kind) byte

abbrev pub sort_byte : Record → ℕ
sort_byte (table_record rows metatable) = 1
sort_byte (function_record code cells) = 2
sort_byte (closed_record i) = 3
sort_byte (open_record co frame register) = 3
sort_byte (fresh_record body) = 4
sort_byte (suspended_record frames) = 4
sort_byte dead_record = 4
sort_byte (failed_record e pending) = 4
sort_byte no_record = 255

unfoldable pub sorts_format : Format (List ℕ)
sorts_format = list_by word (tested (λ s. nat_lt 0 s && nat_le s 4) (λ _. of_kind 5) byte)

abbrev pub with_sorts : Reader → List ℕ → Reader
with_sorts R sorts = record R { sorts = sorts }

abbrev pub ImageParts : Type 0
ImageParts = ℕ × (ℕ × (ℕ × (ℕ × (ℕ × (List ℕ × ((ℕ × List Item) × List Record))))))

abbrev pub image_parts : Image → Option ImageParts
image_parts I = Some (76, (85, (73, (77, (1, (map sort_byte I.records, ((length I.roots, I.roots), I.records)))))))

abbrev pub image_made : ImageParts → Image
image_made x = record { roots = x.1.1.1.1.1.1.0.1; records = x.1.1.1.1.1.1.1 }

-- R's sorts are not looked at: they are read
unfoldable pub image_format : Reader → (roots : ℕ) → Format Image
image_format R roots = case image_made image_parts
    (followed (exactly 76 1) (λ _. followed (exactly 85 1) (λ _. followed (exactly 73 1) (λ _. followed (exactly 77 1) (λ _. followed (exactly 1 2) (λ _.
    followed sorts_format (λ sorts.
    followed (followed (exactly roots 4) (λ n. times n (item_format (with_sorts R sorts)))) (λ _.
    records_format (with_sorts R sorts)))))))))

-- all bytes, and none left over
abbrev pub whole : Got Image → Got Image
whole (read I met []) = read I met []
whole (read I met (b ∷ rest)) = refused (of_kind 10)
whole (refused fault) = refused fault

abbrev pub read_image : Reader → (roots : ℕ) → List ℕ → Got Image
read_image R roots bytes = whole ((image_format R roots).scan 0 bytes)
