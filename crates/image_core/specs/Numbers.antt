-- The numbers that records and roots name, in the order in which they stand.
use Rattle.std.specs.Prelude.{ℕ, suc, cond, ◌&&◌, nat_eq, List, [], ◌∷◌, ◌++◌, flat_map, Option, Some, None, nat_lt}
use Rattle.int_core.specs.Value.{bind}
use Rattle.machine_core.specs.World.{Wait, leaving}
use Rattle.image_core.specs.Image.{Item, numbered, FrameItem, lua_item, pcall_item, xpcall_item, handler_item, closing_item, Record, table_record, function_record, closed_record, open_record, fresh_record, suspended_record, dead_record, failed_record, no_record}

-- how many records are met after the number n was named, where `met` of `count` were: it is one that was met, or the next one
abbrev pub meeting : (count met n : ℕ) → Option ℕ
meeting count met n = cond (nat_lt n met) (Some met) (cond (nat_eq n met && nat_lt n count) (Some (suc met)) None)

abbrev pub item_numbers : Item → List ℕ
item_numbers (numbered n) = n ∷ []
item_numbers _ = []

abbrev pub items_numbers : List Item → List ℕ
items_numbers = flat_map item_numbers

abbrev pub wait_numbers : Wait Item → List ℕ
wait_numbers (leaving e) = item_numbers e
wait_numbers _ = []

abbrev pub error_numbers : Option Item → List ℕ
error_numbers None = []
error_numbers (Some e) = item_numbers e

abbrev pub frame_numbers : FrameItem → List ℕ
frame_numbers (lua_item f) = item_numbers f.function ++ (items_numbers f.varargs ++ (items_numbers f.registers ++ wait_numbers f.wait))
frame_numbers pcall_item = []
frame_numbers (xpcall_item h) = item_numbers h
frame_numbers handler_item = []
frame_numbers (closing_item e left) = error_numbers e ++ items_numbers left

abbrev pub record_numbers : Record → List ℕ
record_numbers (table_record rows m) = flat_map (λ row. item_numbers row.0 ++ item_numbers row.1) rows ++ item_numbers m
record_numbers (function_record code cells) = cells
record_numbers (closed_record i) = item_numbers i
record_numbers (open_record co frame register) = co ∷ []
record_numbers (fresh_record body) = item_numbers body
record_numbers (suspended_record frames) = flat_map frame_numbers frames
record_numbers dead_record = []
record_numbers (failed_record e pending) = item_numbers e ++ items_numbers pending
record_numbers no_record = []

-- each is one that was met, or the next
abbrev pub walk : (count met : ℕ) → List ℕ → Option ℕ
walk count met [] = Some met
walk count met (n ∷ ns) = bind (meeting count met n) (λ m. walk count m ns)

-- and each record is met before its place
abbrev pub walk_records : (count at met : ℕ) → List (List ℕ) → Option ℕ
walk_records count at met [] = Some met
walk_records count at met (ns ∷ rs) = cond (nat_lt at met) (bind (walk count met ns) (λ m. walk_records count (suc at) m rs)) None
