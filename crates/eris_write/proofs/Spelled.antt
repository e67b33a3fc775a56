-- The bytes of the parts of an image, as they are written.
use Rattle.std.proofs.Common.{◌≡◌, ℕ, List, [], ◌∷◌, ◌++◌, Option, Some, None, length, true, refl, sym, ap, ◌∙◌, append_assoc}
use Rattle.byteorder.specs.Endian.{little_bytes}
use Rattle.int_core.specs.Value.{boolean, Kind, a_table, a_function, a_coroutine, Value, known}
use Rattle.code_core.specs.Prototype.{Prototype}
use Rattle.chunk_format.specs.Spelling as code
use Rattle.machine_core.specs.World.{Wait}
use Rattle.image_core.specs.Image.{PermKey, Item, permanent, environment, lua_item, pcall_item, xpcall_item, handler_item, closing_item, table_record, function_record, closed_record, open_record, fresh_record, suspended_record, dead_record, failed_record, no_record, FrameItem}
use Rattle.image_core.specs.Records.{Naming, unnamed_item, wait_item}
use Rattle.image_bytes.specs.Format.{Format, byte, word, integer_of, raw, nothing, wrong, followed, tested, case, tagged, when, times, list_by, list, spell_all}
use Rattle.image_bytes.specs.Bytes.{Reader, text, key, reference, named_key, item_body, item_format, only, row_after, spell_rows, rows_format, table_format, blob, code_format, function_format, cell_format, plain_wait, wait_number, wait_rest, lua_format, error_format, frame_format, coroutine_format, record_format}
use Rattle.lua_stack.specs.declared.frame.Wait.{Wait as KeptWait}
use Rattle.lua_stack.specs.declared.frame.Wait.TheVariants.{Running}
use Rattle.lua_stack.specs.Frames.{wait_of}
use Rattle.graph_core.specs.declared.permanents.PermanentKey.{PermanentKey}
use Rattle.graph_core.specs.declared.permanents.PermanentKey.TheVariants.{Number, Text}
use Rattle.graph_core.specs.Permanents.{key_read}
use Rattle.eris_write.specs.Output.{key_bytes}
use Rattle.eris_write.specs.declared.writer.Writer.{Writer}
use Rattle.eris_write.specs.Frames.{wait_bytes}
use Rattle.eris_write.specs.Writing.{kind_tag, naming_in, read_in, unnamed_bytes}

pub environment_spelled : (R : Reader) → (item_format R).spell environment ≡ 9 ∷ []
unfolding item_format item_body tagged byte when case nothing
environment_spelled R = refl

pub permanent_spelled : (R : Reader) (kind : Kind) (k : PermKey) → (item_format R).spell (permanent kind k) ≡ kind_tag kind ∷ key.spell k
unfolding item_format item_body tagged byte when case named_key tested
permanent_spelled R a_table k = refl
permanent_spelled R a_function k = refl
permanent_spelled R a_coroutine k = refl

pub key_spelled : (k : PermanentKey) → key.spell (key_read k) ≡ key_bytes k
unfolding key tagged byte when case integer_of text followed tested word raw
key_spelled (Number n) = refl
key_spelled (Text t) = refl

pub unnamed_spelled : (R : Reader) (N : Naming) (v : Value) → (item_format R).spell (unnamed_item N v) ≡ unnamed_bytes N v
unfolding item_format item_body tagged byte when case nothing integer_of text followed tested word raw reference wrong
unnamed_spelled R N (known (boolean true)) = refl
unnamed_spelled R N _ = refl

pub list_spelled : {A : Type 0} (F : Format A) (xs : List A) → (list F).spell xs ≡ little_bytes 4 (length xs) ++ spell_all F xs
unfolding list list_by case followed word times
list_spelled F xs = refl

pub word_spelled : (n : ℕ) → word.spell n ≡ little_bytes 4 n
unfolding word
word_spelled n = refl

pub all_both : {A : Type 0} (F : Format A) (xs ys : List A) → spell_all F (xs ++ ys) ≡ spell_all F xs ++ spell_all F ys
all_both F [] ys = refl
all_both F (x ∷ xs) ys = ap (λ l. F.spell x ++ l) (all_both F xs ys) ∙ sym (append_assoc (F.spell x) (spell_all F xs) (spell_all F ys))

-- tables

pub row_spelled : (R : Reader) (k v : Item) → (row_after R []).spell (k, v) ≡ (item_format R).spell k ++ (item_format R).spell v
unfolding row_after followed only tested
row_spelled R k v = refl

pub rows_both : (R : Reader) (xs ys : List (Item × Item)) → spell_rows R (xs ++ ys) ≡ spell_rows R xs ++ spell_rows R ys
rows_both R [] ys = refl
rows_both R (x ∷ xs) ys = ap (λ l. (row_after R []).spell x ++ l) (rows_both R xs ys) ∙ sym (append_assoc ((row_after R []).spell x) (spell_rows R xs) (spell_rows R ys))

pub table_spelled : (R : Reader) (rows : List (Item × Item)) (m : Item) → (table_format R).spell (table_record rows m) ≡ (little_bytes 4 (length rows) ++ spell_rows R rows) ++ (item_format R).spell m
unfolding table_format case followed word rows_format only tested
table_spelled R rows m = refl

-- functions

pub code_spelled : (R : Reader) (p : Prototype) → (code_format R).spell p ≡ little_bytes 4 (length (code.function None p)) ++ code.function None p
unfolding code_format blob case followed word raw
code_spelled R p = refl

pub function_spelled : (R : Reader) (p : Prototype) (cells : List ℕ) → (function_format R).spell (function_record p cells) ≡ (code_format R).spell p ++ ((length cells ∷ []) ++ spell_all (reference R.sorts (3 ∷ [])) cells)
unfolding function_format case followed tested byte times
function_spelled R p cells = refl

pub reference_spelled : (sorts wanted : List ℕ) (n : ℕ) → (reference sorts wanted).spell n ≡ little_bytes 4 n
unfolding reference word
reference_spelled sorts wanted n = refl

-- cells

pub closed_spelled : (R : Reader) (i : Item) → (cell_format R).spell (closed_record i) ≡ (1 ∷ []) ++ (item_format R).spell i
unfolding cell_format tagged byte when case
closed_spelled R i = refl

pub open_spelled : (R : Reader) (co frame register : ℕ) → (cell_format R).spell (open_record co frame register) ≡ 2 ∷ little_bytes 4 co ++ (little_bytes 4 frame ++ little_bytes 4 register)
unfolding cell_format tagged byte when case followed reference word
open_spelled R co frame register = refl

-- frames

pub bare_spelled : (R : Reader) → ((frame_format R).spell pcall_item ≡ 2 ∷ []) × ((frame_format R).spell handler_item ≡ 4 ∷ [])
unfolding frame_format tagged byte when case nothing
bare_spelled R = (refl, refl)

pub xpcall_spelled : (R : Reader) (h : Item) → (frame_format R).spell (xpcall_item h) ≡ (3 ∷ []) ++ (item_format R).spell h
unfolding frame_format tagged byte when case
xpcall_spelled R h = refl

pub closing_spelled : (R : Reader) (e : Option Item) (left : List Item) → (frame_format R).spell (closing_item e left) ≡ (5 ∷ []) ++ ((error_format R).spell e ++ (list (item_format R)).spell left)
unfolding frame_format tagged byte when case followed
closing_spelled R e left = refl

pub no_error_spelled : (R : Reader) → (error_format R).spell None ≡ 0 ∷ []
unfolding error_format tagged byte when case nothing
no_error_spelled R = refl

pub error_spelled : (R : Reader) (e : Item) → (error_format R).spell (Some e) ≡ (1 ∷ []) ++ (item_format R).spell e
unfolding error_format tagged byte when case
error_spelled R e = refl

pub lua_spelled : (R : Reader) (function : Item) (pc : ℕ) (wait : Wait Item) (varargs registers : List Item) (pending : List ℕ)
    → (frame_format R).spell (lua_item (record { function = function; pc = pc; wait = wait; varargs = varargs; registers = registers; pending = pending; opened = 0 }))
    ≡ (1 ∷ []) ++ ((item_format R).spell function ++ (little_bytes 4 pc ++ ((wait_number R wait ∷ []) ++ ((list (item_format R)).spell varargs ++ ((list (item_format R)).spell registers
    ++ ((list word).spell pending ++ (wait_rest R (wait_number R wait)).spell wait))))))
unfolding frame_format lua_format tagged byte when case followed only tested word
lua_spelled R function pc wait varargs registers pending = refl

pub wait_spelled : (R : Reader) (w : Writer) (wait : KeptWait) → (wait_rest R (wait_number R (wait_item (naming_in w) (wait_of (read_in w) wait)))).spell (wait_item (naming_in w) (wait_of (read_in w) wait)) ≡ wait_bytes w wait R
unfolding wait_rest plain_wait when case nothing byte word wrong
wait_spelled R w Running = refl
wait_spelled R w _ = refl

-- coroutines

pub fresh_spelled : (R : Reader) (body : Item) → (coroutine_format R).spell (fresh_record body) ≡ (0 ∷ []) ++ (item_format R).spell body
unfolding coroutine_format tagged byte when case only tested
fresh_spelled R body = refl

pub suspended_spelled : (R : Reader) (frames : List FrameItem) → (coroutine_format R).spell (suspended_record frames) ≡ (1 ∷ []) ++ (little_bytes 4 (length frames) ++ spell_all (frame_format R) frames)
unfolding coroutine_format tagged byte when case list_by followed tested word times
suspended_spelled R frames = refl

pub dead_spelled : (R : Reader) → (coroutine_format R).spell dead_record ≡ 2 ∷ []
unfolding coroutine_format tagged byte when case nothing
dead_spelled R = refl

pub failed_spelled : (R : Reader) (e : Item) (pending : List Item) → (coroutine_format R).spell (failed_record e pending) ≡ (3 ∷ []) ++ ((item_format R).spell e ++ (list (item_format R)).spell pending)
unfolding coroutine_format tagged byte when case followed
failed_spelled R e pending = refl

pub no_coroutine_spelled : (R : Reader) → (coroutine_format R).spell no_record ≡ 255 ∷ []
unfolding coroutine_format tagged byte when wrong
no_coroutine_spelled R = refl

-- records by their sorts

pub record_is : (R : Reader) → (record_format R 1 ≡ table_format R) × (record_format R 2 ≡ function_format R) × (record_format R 3 ≡ cell_format R) × (record_format R 4 ≡ coroutine_format R)
unfolding record_format when
record_is R = (refl, refl, refl, refl)

pub no_table_spelled : (R : Reader) → (record_format R 1).spell no_record ≡ []
unfolding record_format when table_format case
no_table_spelled R = refl

pub no_function_spelled : (R : Reader) → (record_format R 2).spell no_record ≡ []
unfolding record_format when function_format case
no_function_spelled R = refl

pub no_cell_spelled : (R : Reader) → (record_format R 3).spell no_record ≡ 255 ∷ []
unfolding record_format when cell_format tagged byte wrong
no_cell_spelled R = refl

pub none_spelled : (R : Reader) → (record_format R 4).spell no_record ≡ 255 ∷ []
unfolding record_format when coroutine_format tagged byte wrong
none_spelled R = refl
