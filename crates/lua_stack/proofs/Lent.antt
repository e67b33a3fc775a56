-- The registers of the frame on top are lent: whatever is written, all else stays.
use Rattle.std.proofs.Common.{◌≡◌, ℕ, zero, suc, ◌+◌, ◌-◌, ◌≤◌, List, [], ◌∷◌, ◌++◌, length, length-append, map, take, drop, refl, ap, sym, ◌∙◌, le_refl, arith}
use Rattle.std.specs.List.{refill}
use Rattle.int_core.specs.Value.{Value}
use Rattle.machine_core.specs.World.{LuaFrame, Frame, lua}
use Rattle.table_core.specs.declared.value.Value.{Value as Kept}
use Rattle.lua_stack.specs.declared.frame.OpenCell.{OpenCell}
use Rattle.lua_stack.specs.declared.stack.Stack.TheInside.{Inside}
use Rattle.lua_stack.specs.declared.frame.Kind.TheVariants.{Lua}
use Rattle.lua_stack.specs.Frames.{KeptFrame, KeptLua, kept_lua, KeptStack, HasLuaTop, TopBecomes, frames, frame_of, lua_of, with_registers}
use Rattle.lua_stack.specs.View.{part, seen, lua_at, frame_at, registers_at, tops}
use Rattle.lua_stack.specs.Lending.{written_over, top_written, with_top}
use Rattle.lua_stack.proofs.Ends.{map_more, shown, stands, lua_on_top, lua_frames}
use Rattle.lua_stack.proofs.Own.{whole, length_whole, length_map}
use Rattle.lua_stack.proofs.Parts.{take_take, part_take, part_kept, take_push, length_take_le}
use Rattle.lua_stack.proofs.Stacked.{below_kept}
use Rattle.lua_stack.proofs.Tops.{same_lua}

-- values written over a part: what stands in front of it, and what it is then

length_drop : {A : Type 0} (b : ℕ) (xs : List A) → length (drop b xs) ≡ length xs - b
length_drop zero xs = omega arith
length_drop (suc b) [] = omega arith
length_drop (suc b) (x ∷ xs) = length_drop b xs ∙ omega arith

drop_front : {A : Type 0} (b : ℕ) (xs ys : List A) → b ≤ length xs → drop b (take b xs ++ ys) ≡ ys
drop_front zero xs ys l = refl
drop_front (suc b) [] ys l = absurd (omega arith)
drop_front (suc b) (x ∷ xs) ys l = drop_front b xs ys (omega arith)

refill_front : {A : Type 0} (w zs : List A) (n : ℕ) → take n (w ++ drop (length w) (take n zs)) ≡ take n (w ++ drop (length w) zs)
refill_front [] zs n = take_take zs n n (le_refl n)
refill_front (v ∷ w) zs zero = refl
refill_front (v ∷ w) [] (suc n) = refl
refill_front (v ∷ w) (z ∷ zs) (suc n) = ap (λ l. v ∷ l) (refill_front w zs n)

length_refilled : {A : Type 0} (w zs : List A) → length zs ≤ length (w ++ drop (length w) zs)
length_refilled [] zs = le_refl (length zs)
length_refilled (v ∷ w) [] = omega arith
length_refilled (v ∷ w) (z ∷ zs) = let k = length_refilled w zs in omega (arith, k)

-- a list with others written over it from a place on
abbrev spread : {A : Type 0} → ℕ → List A → List A → List A
spread b xs w = take b xs ++ (w ++ drop (length w) (drop b xs))

abbrev pub over : {A : Type 0} → (m b : ℕ) → List A → List A → List A
over m b xs w = take m (spread b xs w ++ drop (length (spread b xs w)) xs)

module _ {A : Type 0} (b n m : ℕ) (xs w : List A) (l : b + n ≤ m) (k : m ≡ length xs) where
  cut : over m b xs w ≡ take m (spread b xs w)
  cut =
      let e = length-append (take b xs) (w ++ drop (length w) (drop b xs)) in
      let f = length_take_le b xs (omega (arith, l, k)) in
      let g = length_refilled w (drop b xs) in
      let h = length_drop b xs in
      take_push m (spread b xs w) (drop (length (spread b xs w)) xs) (omega (arith, e, f, g, h, l, k))

  pub front_over : take b (over m b xs w) ≡ take b xs
  front_over =
      ap (take b) cut ∙ take_take (spread b xs w) b m (omega (arith, l))
      ∙ take_push b (take b xs) (w ++ drop (length w) (drop b xs)) (let e = length_take_le b xs (omega (arith, l, k)) in omega (arith, e)) ∙ take_take xs b b (le_refl b)

  pub part_over : part b n (over m b xs w) ≡ refill n (part b n xs) w
  part_over =
      ap (part b n) cut ∙ part_take b n (take m (spread b xs w)) ∙ ap (drop b) (take_take (spread b xs w) (b + n) m l)
      ∙ sym (part_take b n (spread b xs w))
      ∙ ap (take n) (drop_front b xs (w ++ drop (length w) (drop b xs)) (omega (arith, l, k)))
      ∙ sym (refill_front w (drop b xs) n)

-- the last frame of a list

last_written : (w : List Kept) (fs : List KeptFrame) (f : KeptFrame) → top_written w (fs ++ f ∷ []) ≡ fs ++ written_over w f ∷ []
last_written w [] f = refl
last_written w (g ∷ []) f = refl
last_written w (g ∷ h ∷ fs) f = ap (λ l. g ∷ l) (last_written w (h ∷ fs) f)

abbrev with_lists : KeptLua → List Kept → List Kept → KeptFrame
with_lists t registers varargs = kept_lua (record t { registers = registers; varargs = varargs })

abbrev the_stack : List KeptFrame → List OpenCell → KeptStack
the_stack fs cells = record { frames = fs; open_cells = cells }

pub lent : (a : Inside) (s : KeptStack) (w : List Kept) (m : ℕ) → shown a ≡ s → stands a → HasLuaTop s → m ≡ length a.values.items
    → seen (over m a.top.window.base a.values.items w) a.pending.items a.below.items a.top a.open_cells.items ≡ with_top s w
lent a s w m v i h e =
    let win = a.top.window in
    let xs = a.values.items in
    let ps = a.pending.items in
    let ys = over m win.base xs w in
    let is : a.top.kind ≡ Lua = lua_on_top a s v i h in
    let room : win.base + win.kept ≤ m = (let k = i.within.end in let z = i.whole in omega (arith, k, z, e)) in
    let front : take win.base ys ≡ take win.base xs = front_over win.base win.kept m xs w room e in
    let t = lua_at xs ps a.top.running win in
    let below : map (frame_at ys ps) a.below.items ≡ map (frame_at xs ps) a.below.items =
    below_kept xs ys ps ps _ _ front refl win a.below.items i.under i.within.extra (le_refl _) in
    let registers : registers_at ys win ≡ refill (length (registers_at xs win)) (registers_at xs win) w =
    whole ys win i.whole ∙ part_over win.base win.kept m xs w room e
    ∙ ap (λ n. refill n (part win.base win.kept xs) w) (sym (length_whole xs win i.whole i.within.end))
    ∙ ap (λ l. refill (length (registers_at xs win)) l w) (sym (whole xs win i.whole)) in
    let extra : part win.start (win.base - win.start) ys ≡ part win.start (win.base - win.start) xs =
    part_kept win.start (win.base - win.start) win.base xs ys (let k = i.within.extra in omega (arith, k)) front in
    let top : kept_lua (lua_at ys ps a.top.running win) ≡ written_over w (kept_lua t) =
    ap (λ l. with_lists t l (part win.start (win.base - win.start) ys)) registers ∙ ap (with_lists t (refill (length (registers_at xs win)) (registers_at xs win) w)) extra in
    let frames : map (frame_at ys ps) (a.below.items ++ tops a.top) ≡ top_written w (map (frame_at xs ps) (a.below.items ++ tops a.top)) =
    lua_frames ys ps a.below.items a.top is ∙ ap (λ l. l ++ kept_lua (lua_at ys ps a.top.running win) ∷ []) below
    ∙ ap (λ f. map (frame_at xs ps) a.below.items ++ f ∷ []) top
    ∙ sym (last_written w (map (frame_at xs ps) a.below.items) (kept_lua t))
    ∙ ap (top_written w) (sym (lua_frames xs ps a.below.items a.top is)) in
    ap (λ l. the_stack l a.open_cells.items) frames ∙ ap (λ s. with_top s w) v

-- what a caller learns of it: the frame on top has other registers, by each reading of the values

record IsSplit (fs : List KeptFrame) (g : KeptFrame → Frame) (below : List Frame) (t : Frame) : Type 0 where
  front : List KeptFrame
  top : KeptFrame
  is : fs ≡ front ++ top ∷ []
  front_is : map g front ≡ below
  top_is : g top ≡ t

first_same : {A : Type 0} (x y : A) (xs ys : List A) → x ∷ xs ≡ y ∷ ys → x ≡ y
first_same x y xs ys e = cc

rest_same : {A : Type 0} (x y : A) (xs ys : List A) → x ∷ xs ≡ y ∷ ys → xs ≡ ys
rest_same x y xs ys e = cc

refilled : {A : Type 0} (w xs : List A) → length w ≡ length xs → refill (length xs) xs w ≡ w
refilled [] [] e = refl
refilled [] (x ∷ xs) e = absurd (omega (arith, e))
refilled (v ∷ w) [] e = absurd (omega (arith, e))
refilled (v ∷ w) (x ∷ xs) e = ap (λ l. v ∷ l) (refilled w xs (omega (arith, e)))

split : (g : KeptFrame → Frame) (fs : List KeptFrame) (below : List Frame) (t : Frame) → map g fs ≡ below ++ t ∷ [] → IsSplit fs g below t
split g [] [] t e = absurd (cc)
split g [] (b ∷ below) t e = absurd (cc)
split g (f ∷ []) [] t e = record { front = []; top = f; is = refl; front_is = refl; top_is = first_same _ _ _ _ e }
split g (f ∷ h ∷ fs) [] t e = absurd (cc)
split g (f ∷ fs) (b ∷ below) t e =
    let k = split g fs below t (rest_same _ _ _ _ e) in
    record {
      front = f ∷ k.front;
      top = k.top;
      is = ap (λ l. f ∷ l) k.is;
      front_is = ap (λ l. g f ∷ l) k.front_is ∙ ap (λ x. x ∷ below) (first_same _ _ _ _ e);
      top_is = k.top_is;
    }

-- a frame that reads as a Lua frame is one
record IsKeptLua (f : Kept → Value) (k : KeptFrame) (t : LuaFrame) : Type 0 where
  kept : KeptLua
  is : k ≡ kept_lua kept
  reads : lua_of f kept ≡ t

kept_is : (f : Kept → Value) (k : KeptFrame) (t : LuaFrame) → frame_of f k ≡ lua t → IsKeptLua f k t
kept_is f (kept_lua u) t e = record { kept = u; is = refl; reads = same_lua _ _ e }
kept_is f _ t e = absurd (cc)

pub lent_becomes : (s : KeptStack) (w : List Kept) → ((f : Kept → Value) (below : List Frame) (t : LuaFrame) → frames f s ≡ below ++ lua t ∷ [] → length w ≡ length t.own.registers)
    → TopBecomes s (with_top s w) (λ f t. with_registers (map f w) t)
lent_becomes s w l = record {
  top = λ f z below t e.
      let k = split (frame_of f) s.frames below (lua t) e in
      let u = kept_is f k.top t k.top_is in
      let same : s.frames ≡ k.front ++ kept_lua u.kept ∷ [] = k.is ∙ ap (λ x. k.front ++ x ∷ []) u.is in
      let n : length w ≡ length u.kept.registers = l f below t e ∙ ap (λ (t : LuaFrame). length t.own.registers) (sym u.reads) ∙ length_map f u.kept.registers in
      let all : refill (length u.kept.registers) u.kept.registers w ≡ w = refilled w u.kept.registers n in
      ap (map (frame_of f)) (ap (top_written w) same ∙ last_written w k.front (kept_lua u.kept))
      ∙ map_more (frame_of f) k.front (written_over w (kept_lua u.kept) ∷ [])
      ∙ ap (λ l. l ++ frame_of f (written_over w (kept_lua u.kept)) ∷ []) k.front_is
      ∙ ap (λ r. below ++ lua (with_registers (map f r) (lua_of f u.kept)) ∷ []) all
      ∙ ap (λ t. below ++ lua (with_registers (map f w) t) ∷ []) u.reads;
  cells = refl;
}
