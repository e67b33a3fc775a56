-- What a reader knows of a value that a format gave it.
use Rattle.std.specs.Prelude.{ℕ, ◌≡◌, ◌≤◌, true, List, [], ◌∷◌, Option, Some, None, length, nat_eq, map, slice_get}
use Rattle.std.specs.List.{list_any}
use Rattle.int_core.specs.Value.{Kind, Plain, string, primitive, greatest_string}
use Rattle.machine_core.specs.World.{Wait, leaving}
use Rattle.image_core.specs.Image.{Item, plain, numbered, permanent, environment, LuaFrameItem, FrameItem, lua_item, pcall_item, xpcall_item, handler_item, closing_item, Record, table_record, function_record, closed_record, open_record, fresh_record, suspended_record, dead_record, failed_record, no_record, Image}
use Rattle.image_bytes.specs.Format.{read, Format}
use Rattle.image_bytes.specs.Bytes.{Reader, sort_at, is_sort, is_function_item, sort_byte, with_sorts, read_image}
use Rattle.image_core.specs.Loading.{kind_in}

pub record Gives {A : Type 0} (F : Format A) (P : A → Type 0) : Type 0 where
  pub gives : (met more : ℕ) (x : A) (bytes rest : List ℕ) → F.scan met bytes ≡ read x more rest → P x

abbrev pub PlainRead : Plain → Type 0
PlainRead (string bytes) = length bytes ≤ greatest_string
PlainRead (primitive n) = ⊥
PlainRead _ = Unit {0}

-- a number is that of a record of an object; a permanent was handed to the reader, and is of the sort
abbrev pub ItemRead : Reader → Item → Type 0
ItemRead R (plain p) = PlainRead p
ItemRead R (numbered n) = list_any (nat_eq (sort_at R.sorts n)) (1 ∷ 2 ∷ 4 ∷ []) ≡ true
ItemRead R (permanent kind key) = is_sort kind (R.sort_named key) ≡ true
ItemRead R environment = Unit {0}

abbrev pub All : {A : Type 0} → (A → Type 0) → List A → Type 0
All P [] = Unit {0}
All P (x ∷ xs) = P x × All P xs

abbrev pub RowRead : Reader → Item × Item → Type 0
RowRead R row = ItemRead R row.0 × ItemRead R row.1

abbrev pub WaitRead : Reader → Wait Item → Type 0
WaitRead R (leaving e) = ItemRead R e
WaitRead R _ = Unit {0}

pub record LuaRead (R : Reader) (f : LuaFrameItem) : Type 0 where
  pub is_function : is_function_item R f.function ≡ true
  pub function : ItemRead R f.function
  pub varargs : All (ItemRead R) f.varargs
  pub registers : All (ItemRead R) f.registers
  pub opened : f.opened ≡ 0
  pub error : WaitRead R f.wait

abbrev pub ErrorRead : Reader → Option Item → Type 0
ErrorRead R None = Unit {0}
ErrorRead R (Some e) = ItemRead R e

abbrev pub FrameRead : Reader → FrameItem → Type 0
FrameRead R (lua_item f) = LuaRead R f
FrameRead R pcall_item = Unit {0}
FrameRead R (xpcall_item h) = ItemRead R h
FrameRead R handler_item = Unit {0}
FrameRead R (closing_item e left) = ErrorRead R e × All (ItemRead R) left

abbrev pub RecordRead : Reader → Record → Type 0
RecordRead R (table_record rows m) = All (RowRead R) rows × ItemRead R m
RecordRead R (function_record code cells) = (R.is_checked code ≡ true) × (length code.own.upvalues ≡ length cells) × All (λ c. list_any (nat_eq (sort_at R.sorts c)) (3 ∷ []) ≡ true) cells
RecordRead R (closed_record i) = ItemRead R i
RecordRead R (open_record co frame register) = list_any (nat_eq (sort_at R.sorts co)) (4 ∷ []) ≡ true
RecordRead R (fresh_record body) = (is_function_item R body ≡ true) × ItemRead R body
RecordRead R (suspended_record frames) = All (FrameRead R) frames × (length frames ≤ 100000)
RecordRead R dead_record = Unit {0}
RecordRead R (failed_record e pending) = ItemRead R e × All (ItemRead R) pending
RecordRead R no_record = ⊥

-- what a whole image is known to be once it was read: all but that each frame fits its wait
pub record ImageRead (R : Reader) (roots : ℕ) (I : Image) : Type 0 where
  pub root_count : roots ≡ length I.roots
  pub roots_read : All (ItemRead (with_sorts R (map sort_byte I.records))) I.roots
  pub records_read : All (RecordRead (with_sorts R (map sort_byte I.records))) I.records

abbrev pub ReadImagesRight : Type 0
ReadImagesRight = (R : Reader) (roots met : ℕ) (I : Image) (bytes : List ℕ) → read_image R roots bytes ≡ read I met [] → ImageRead R roots I

-- a number that was read is that of a record
abbrev pub NumbersNameRecords : Type 0
NumbersNameRecords = (rs : List Record) (n : ℕ) → list_any (nat_eq (sort_at (map sort_byte rs) n)) (1 ∷ 2 ∷ 4 ∷ []) ≡ true → (r : Record) × (kind : Kind) × (slice_get rs n ≡ Some r) × (kind_in r ≡ Some kind)
