-- Items of a constructor, and the registers that they and those behind them name.
use Rattle.std.proofs.Common.{◌≡◌, ℕ, zero, suc, ◌+◌, ◌≤◌, max, Bool, true, false, List, ◌++◌, arith}
use Rattle.code_of.specs.Coded.{Coded}
use Rattle.code_of.specs.Expressions.{set_list, waiting_code, item_code}
use Rattle.code_of.specs.Items.{item_register, waiting_behind, item_room}
use Rattle.code_bounds.proofs.Tops.{top, top_append}
use Rattle.code_bounds.proofs.Pieces.{Takes, ListTakes, set_top}

-- the table stands in register t, and so many values wait behind it in front of this code, which takes r registers behind it
abbrev pub FieldTakes : (t waiting r : ℕ) → List Coded → Type 0
FieldTakes t waiting r code = (top code ≤ t + (1 + max waiting r)) × (t + (1 + r) ≤ max (t + 1) (top code))

waiting_top : (stored waiting t line : ℕ) → t + (1 + waiting) ≤ 255 → top (waiting_code stored waiting t line) ≤ t + (1 + waiting)
waiting_top stored zero t line small = omega arith
waiting_top stored (suc more) t line small = let d = set_top t (suc more) stored line (omega (arith, small)) (omega (arith, small)) in omega (arith, d)

pub end_takes : (stored waiting t line : ℕ) → t + (1 + max waiting 0) ≤ 255 → FieldTakes t waiting 0 (waiting_code stored waiting t line)
end_takes stored waiting t line small = let w = waiting_top stored waiting t line (omega (arith, small)) in (omega (arith, w), omega arith)

-- a field that is stored at once, and those behind it
pub behind_takes : (stored waiting t r line : ℕ) (code : List Coded) → t + (1 + max waiting r) ≤ 255 → ListTakes t (t + 1) (1 + r) code → FieldTakes t waiting r (waiting_code stored waiting t line ++ code)
behind_takes stored waiting t r line code small h =
    let w = waiting_top stored waiting t line (omega (arith, small)) in
    let a = top_append (waiting_code stored waiting t line) code in
    let low = h.0 in
    let high = h.1 in
    (omega (arith, w, a, low), omega (arith, a, high))

pub none_waits : (t r : ℕ) (code : List Coded) → FieldTakes t 0 r code → ListTakes t (t + 1) (1 + r) code
none_waits t r code h = let low = h.0 in (omega (arith, low), h.1)

-- the register of an item

pub register_above : (wait : Bool) (t waiting : ℕ) → t ≤ item_register wait t waiting
register_above true t waiting = omega arith
register_above false t waiting = omega arith

pub register_room : (wait : Bool) (t waiting x r : ℕ) → t + (1 + max waiting (max (item_room wait waiting x) r)) ≤ 255 → item_register wait t waiting + x ≤ 255
register_room true t waiting x r small = omega (arith, small)
register_room false t waiting x r small = omega (arith, small)

pub behind_room : (wait full : Bool) (t waiting x r : ℕ) → 1 ≤ x → t + (1 + max waiting (max (item_room wait waiting x) r)) ≤ 255 → t + (1 + max (waiting_behind wait full waiting) r) ≤ 255
behind_room true false t waiting x r some small = omega (arith, some, small)
behind_room true true t waiting x r some small = omega (arith, small)
behind_room false full t waiting x r some small = omega (arith, small)

-- it waits, it is the last of so many, or it is stored behind those that wait

whole_value : (t x m : ℕ) → 1 ≤ x → m ≤ t + x → t + x ≤ max t m → m ≡ t + x
whole_value t x m some low high = omega arith

waits_join : (t w x r m n all : ℕ) → all ≡ max m n → m ≡ t + 1 + w + x → 1 ≤ x → n ≤ t + (1 + max (w + 1) r) → t + (1 + r) ≤ max (t + 1) n
    → (all ≤ t + (1 + max w (max (w + x) r))) × (t + (1 + max (w + x) r) ≤ max (t + 1) all)
waits_join t w x r m n all is value some low high = (omega arith, omega arith)

alone_join : (t w x r u m n all : ℕ) → all ≡ max (max u m) n → u ≤ t + (1 + w) → m ≡ t + 1 + x → 1 ≤ x → n ≤ t + (1 + r) → t + (1 + r) ≤ max (t + 1) n
    → (all ≤ t + (1 + max w (max x r))) × (t + (1 + max x r) ≤ max (t + 1) all)
alone_join t w x r u m n all is front value some low high = (omega arith, omega arith)

-- an instruction that stores names no more than the value in front of it
under_value : (a m s : ℕ) → s ≤ m → a ≡ max m s → a ≡ m
under_value a m s low is = omega arith

join_two : (all a m n : ℕ) → all ≡ max a n → a ≡ m → all ≡ max m n
join_two all a m n is same = omega arith

join_three : (all a u c m n : ℕ) → all ≡ max a n → a ≡ max u c → c ≡ m → all ≡ max (max u m) n
join_three all a u c m n is front same = omega arith

pub item_takes : (wait full : Bool) (stored waiting b t x r line : ℕ) (first rest : List Coded) → 1 ≤ x → b ≤ 1 → t + (1 + max waiting (max (item_room wait waiting x) r)) ≤ 255
    → Takes (item_register wait t waiting) x first → FieldTakes t (waiting_behind wait full waiting) r rest
    → FieldTakes t waiting (max (item_room wait waiting x) r) (item_code wait full first stored waiting b t line ++ rest)
item_takes true false stored waiting b t x r line first rest some few small h k =
    waits_join t waiting x r (top first) (top rest) (top (first ++ rest)) (top_append first rest) (whole_value (t + 1 + waiting) x (top first) some h.0 h.1) some k.0 k.1
item_takes true true stored waiting b t x r line first rest some few small h k =
    let store = set_list t (waiting + 1) stored line in
    let value = whole_value (t + 1 + waiting) x (top first) some h.0 h.1 in
    let d = set_top t (waiting + 1) stored line (omega (arith, small)) (omega (arith, small, some)) in
    let front = under_value (top (first ++ store)) (top first) (top store) (omega (arith, d, value, some)) (top_append first store) in
    let low = k.0 in
    waits_join t waiting x r (top first) (top rest) (top ((first ++ store) ++ rest)) (join_two (top ((first ++ store) ++ rest)) (top (first ++ store)) (top first) (top rest) (top_append (first ++ store) rest) front) value some (omega (arith, low)) k.1
item_takes false full stored waiting b t x r line first rest some few small h k =
    let front = waiting_code stored waiting t line in
    let store = set_list t b (stored + waiting) line in
    let value = whole_value (t + 1) x (top first) some h.0 h.1 in
    let d = set_top t b (stored + waiting) line (omega (arith, small)) (omega (arith, few)) in
    let one = under_value (top (first ++ store)) (top first) (top store) (omega (arith, d, value, some, few)) (top_append first store) in
    let whole = join_three (top ((front ++ (first ++ store)) ++ rest)) (top (front ++ (first ++ store))) (top front) (top (first ++ store)) (top first) (top rest) (top_append (front ++ (first ++ store)) rest) (top_append front (first ++ store)) one in
    let low = k.0 in
    alone_join t waiting x r (top front) (top first) (top rest) (top ((front ++ (first ++ store)) ++ rest)) whole (waiting_top stored waiting t line (omega (arith, small))) value some (omega (arith, low)) k.1
