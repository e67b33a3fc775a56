-- Cells that do not hold the environment stay so where cells are closed, and where the functions of frames stay.
use Rattle.std.proofs.Common.{ℕ, zero, suc, ◌+◌, ◌≡◌, ◌≢◌, ◌⊎◌, inl, inr, ⊎_elim, List, [], ◌∷◌, ◌++◌, Option, Some, None, refl, subst, sym, ap, ◌∙◌, length, arith, Bool, true, false, cond}
use Rattle.std.specs.Prelude.{slice_get, slice_set, nat_eq, nat_lt, not, ◌&&◌}
use Rattle.std.proofs.lemmas.Bool.{cases_eq}
use Rattle.std.proofs.lemmas.Bool.Decides.{nat_tests}
use Rattle.int_core.specs.Value.{Value, nth, bind}
use Rattle.machine_core.specs.World.{Cell, closed, open_at, LuaFrame, Frame, lua, pcall, xpcall, handler, closing, Coroutine, frames_of, lua_frame, close_from}
use Rattle.machine_core.specs.Moves.{all_closed_from}
use Rattle.machine_sound.specs.Sound.{Each}
use Rattle.machine_sound.proofs.Lists.{get_set_same, get_set_other, some_is}
use Rattle.prelude_stays.specs.Guards.{Guard}
use Rattle.prelude_stays.specs.Kept.{Apart, RegistersOk, LuaOk, FrameOk, function_at, OpenOk, CellOk, IsApart}

-- the functions of frames

abbrev pub function_of : Frame → Option ℕ
function_of x = bind (lua_frame x) (λ f. Some f.function)

abbrev pub in_frames : Option (List Frame) → ℕ → Option ℕ
in_frames o n = bind (bind (bind o (λ frames. slice_get frames n)) lua_frame) (λ f. Some f.function)

-- each Lua frame is still there, and is one of the same function
abbrev pub FramesStay : Option (List Frame) → Option (List Frame) → Type 0
FramesStay o p = (n f : ℕ) → in_frames o n ≡ Some f → in_frames p n ≡ Some f

abbrev pub Stay : List Coroutine → List Coroutine → Type 0
Stay cos cos' = (co n f : ℕ) → function_at cos co n ≡ Some f → function_at cos' co n ≡ Some f

pub in_base : (base : List Frame) (x : Frame) (n f : ℕ) → in_frames (Some (base ++ x ∷ [])) n ≡ Some f → (in_frames (Some base) n ≡ Some f) ⊎ ((n ≡ length base) × (function_of x ≡ Some f))
in_base [] x zero f h = inr (refl, h)
in_base [] x (suc n) f h = absurd (cc)
in_base (b ∷ base) x zero f h = inl h
in_base (b ∷ base) x (suc n) f h = ⊎_elim (λ k. inl k) (λ k. inr (ap suc k.0, k.1)) (in_base base x n f h)

pub in_push : (base ys : List Frame) (n f : ℕ) → in_frames (Some base) n ≡ Some f → in_frames (Some (base ++ ys)) n ≡ Some f
in_push [] ys n f h = absurd (cc)
in_push (b ∷ base) ys zero f h = h
in_push (b ∷ base) ys (suc n) f h = in_push base ys n f h

pub in_last : (base : List Frame) (x : Frame) (f : ℕ) → function_of x ≡ Some f → in_frames (Some (base ++ x ∷ [])) (length base) ≡ Some f
in_last [] x f h = h
in_last (b ∷ base) x f h = in_last base x f h

-- another frame on top, of the same function
pub top_stays : (base : List Frame) (x y : Frame) → ((f : ℕ) → function_of x ≡ Some f → function_of y ≡ Some f) → FramesStay (Some (base ++ x ∷ [])) (Some (base ++ y ∷ []))
top_stays base x y h n f e = ⊎_elim (λ k. in_push base (y ∷ []) n f k) (λ k. subst (λ n. in_frames (Some (base ++ y ∷ [])) n ≡ Some f) (sym k.0) (in_last base y f (h f k.1))) (in_base base x n f e)

-- a frame that is no Lua frame is gone
pub base_stays : (base : List Frame) (x : Frame) → function_of x ≡ None → FramesStay (Some (base ++ x ∷ [])) (Some base)
base_stays base x h n f e = ⊎_elim (λ k. k) (λ k. let q = k.1 in absurd (cc)) (in_base base x n f e)

-- another coroutine in its place
pub set_stays : (cos : List Coroutine) (co : ℕ) (old new : Coroutine) → slice_get cos co ≡ Some old → FramesStay (frames_of old) (frames_of new) → Stay cos (slice_set cos co new)
set_stays cos co old new e h d n f k = ⊎_elim
    (λ (q : d ≡ co).
    let here : in_frames (frames_of old) n ≡ Some f = sym (ap (λ o. in_frames (bind o frames_of) n) e) ∙ ap (λ d. function_at cos d n) (sym q) ∙ k in
    ap (λ d. function_at (slice_set cos co new) d n) q ∙ ap (λ o. in_frames (bind o frames_of) n) (get_set_same cos co old new e) ∙ h n f here)
    (λ q. ap (λ o. in_frames (bind o frames_of) n) (get_set_other cos co d new (λ x. q (sym x))) ∙ k)
    (cases_eq d co)

pub stay_then : (a b c : List Coroutine) → Stay a b → Stay b c → Stay a c
stay_then a b c h k co n f e = k co n f (h co n f e)

-- cells

module _ (e : ℕ) (gs : List Guard) where
  -- each cell that does not hold the environment still does not
  abbrev pub Carries : List Coroutine → List Cell → List Coroutine → List Cell → Type 0
  Carries cos cells cos' cells' = (c : ℕ) → IsApart e gs cos cells c → IsApart e gs cos' cells' c

  pub open_on : (cos cos' : List Coroutine) (co n r : ℕ) → ((f : ℕ) → function_at cos co n ≡ Some f → function_at cos' co n ≡ Some f) → OpenOk gs cos co n r → OpenOk gs cos' co n r
  open_on cos cos' co n r h k = record { function = k.function; stands = h k.function k.stands; guard = k.guard; there = k.there; apart = k.apart }

  pub cell_on : (cos cos' : List Coroutine) → Stay cos cos' → (c : Cell) → CellOk e gs cos c → CellOk e gs cos' c
  cell_on cos cos' h (closed v) k = k
  cell_on cos cos' h (open_at co n r) k = open_on cos cos' co n r (h co n) k

  pub stay_carries : (cos cos' : List Coroutine) (cells : List Cell) → Stay cos cos' → Carries cos cells cos' cells
  stay_carries cos cos' cells h c k = record { cell = k.cell; there = k.there; right = cell_on cos cos' h k.cell k.right }

-- closing

abbrev pub close_one : (co n r : ℕ) → List Value → Cell → Cell
close_one co n r vs (closed v) = closed v
close_one co n r vs (open_at d m q) = cond (nat_eq co d && (nat_eq n m && not (nat_lt q r))) (closed (nth vs q)) (open_at d m q)

pub close_get : (co n r : ℕ) (vs : List Value) (cells : List Cell) (i : ℕ) (c : Cell) → slice_get cells i ≡ Some c → slice_get (close_from co n r vs cells) i ≡ Some (close_one co n r vs c)
close_get co n r vs [] i c e = absurd (cc)
close_get co n r vs (closed v ∷ cells) zero c e = let k : closed v ≡ c = cc in ap (λ c. Some (close_one co n r vs c)) k
close_get co n r vs (open_at d m q ∷ cells) zero c e = let k : open_at d m q ≡ c = cc in ap (λ c. Some (close_one co n r vs c)) k
close_get co n r vs (closed v ∷ cells) (suc i) c e = close_get co n r vs cells i c e
close_get co n r vs (open_at d m q ∷ cells) (suc i) c e = close_get co n r vs cells i c e

-- whether a cell is one of those that are closed
abbrev pub is_closed_by : (co n r d m q : ℕ) → Bool
is_closed_by co n r d m q = nat_eq co d && (nat_eq n m && not (nat_lt q r))

module _ (e : ℕ) (gs : List Guard) (cos cos' : List Coroutine) (co n r : ℕ) (vs : List Value) (g : Guard) (f : ℕ) (stands : function_at cos co n ≡ Some f) (there : slice_get gs f ≡ Some g) (ok : RegistersOk e g vs)
    (others : (d m q k : ℕ) → is_closed_by co n r d m q ≡ false → function_at cos d m ≡ Some k → function_at cos' d m ≡ Some k) where
  close_right : (c : Cell) → CellOk e gs cos c → CellOk e gs cos' (close_one co n r vs c)
  close_right (closed v) k = k
  close_right (open_at d m q) k = pick (nat_eq co d) (nat_eq n m) (nat_lt q r) refl refl refl
    where
      same : d ≡ co → m ≡ n → Apart e (nth vs q)
      same x y =
          let a : k.function ≡ f = some_is (sym (ap (λ d. function_at cos d m) x ∙ ap (function_at cos co) y) ∙ k.stands) stands in
          let b : k.guard ≡ g = some_is k.there (ap (slice_get gs) a ∙ there) in
          ok q (ap (λ (g : Guard). g.registers q) (sym b) ∙ k.apart)

      stays : is_closed_by co n r d m q ≡ false → OpenOk gs cos' d m q
      stays z = open_on e gs cos cos' d m q (λ j. others d m q j z) k

      pick : (a b l : Bool) → nat_eq co d ≡ a → nat_eq n m ≡ b → nat_lt q r ≡ l → CellOk e gs cos' (cond (a && (b && not l)) (closed (nth vs q)) (open_at d m q))
      pick true true false x y w = same (grind (arith, nat_tests)) (grind (arith, nat_tests))
      pick true true true x y w = stays (rw (x, y, w) refl)
      pick true false l x y w = stays (rw (x, y) refl)
      pick false b l x y w = stays (rw x refl)

  pub close_carries : (cells : List Cell) → Carries e gs cos cells cos' (close_from co n r vs cells)
  close_carries cells c k = record { cell = close_one co n r vs k.cell; there = close_get co n r vs cells c k.cell k.there; right = close_right k.cell k.right }

-- all of a coroutine's frames

abbrev pub close_all : (co n : ℕ) → List Frame → Cell → Cell
close_all co n [] c = c
close_all co n (lua f ∷ frames) c = close_all co (suc n) frames (close_one co n 0 f.own.registers c)
close_all co n (pcall ∷ frames) c = close_all co (suc n) frames c
close_all co n (xpcall h ∷ frames) c = close_all co (suc n) frames c
close_all co n (handler ∷ frames) c = close_all co (suc n) frames c
close_all co n (closing v vs ∷ frames) c = close_all co (suc n) frames c

pub all_get : (co n : ℕ) (frames : List Frame) (cells : List Cell) (i : ℕ) (c : Cell) → slice_get cells i ≡ Some c → slice_get (all_closed_from co n frames cells) i ≡ Some (close_all co n frames c)
all_get co n [] cells i c e = e
all_get co n (lua f ∷ frames) cells i c e = all_get co (suc n) frames (close_from co n 0 f.own.registers cells) i (close_one co n 0 f.own.registers c) (close_get co n 0 f.own.registers cells i c e)
all_get co n (pcall ∷ frames) cells i c e = all_get co (suc n) frames cells i c e
all_get co n (xpcall h ∷ frames) cells i c e = all_get co (suc n) frames cells i c e
all_get co n (handler ∷ frames) cells i c e = all_get co (suc n) frames cells i c e
all_get co n (closing v vs ∷ frames) cells i c e = all_get co (suc n) frames cells i c e

pub all_closed : (co n : ℕ) (frames : List Frame) (v : Value) → close_all co n frames (closed v) ≡ closed v
all_closed co n [] v = refl
all_closed co n (lua f ∷ frames) v = all_closed co (suc n) frames v
all_closed co n (pcall ∷ frames) v = all_closed co (suc n) frames v
all_closed co n (xpcall h ∷ frames) v = all_closed co (suc n) frames v
all_closed co n (handler ∷ frames) v = all_closed co (suc n) frames v
all_closed co n (closing w ws ∷ frames) v = all_closed co (suc n) frames v

all_elsewhere : (co n : ℕ) (frames : List Frame) (d m q : ℕ) → nat_eq co d ≡ false → close_all co n frames (open_at d m q) ≡ open_at d m q
all_elsewhere co n [] d m q e = refl
all_elsewhere co n (lua f ∷ frames) d m q e = ap (λ b. close_all co (suc n) frames (cond (b && (nat_eq n m && not (nat_lt q 0))) (closed (nth f.own.registers q)) (open_at d m q))) e ∙ all_elsewhere co (suc n) frames d m q e
all_elsewhere co n (pcall ∷ frames) d m q e = all_elsewhere co (suc n) frames d m q e
all_elsewhere co n (xpcall h ∷ frames) d m q e = all_elsewhere co (suc n) frames d m q e
all_elsewhere co n (handler ∷ frames) d m q e = all_elsewhere co (suc n) frames d m q e
all_elsewhere co n (closing w ws ∷ frames) d m q e = all_elsewhere co (suc n) frames d m q e

all_here : (co n j : ℕ) (frames : List Frame) (f : LuaFrame) (m q : ℕ) → slice_get frames j ≡ Some (lua f) → m ≡ n + j → close_all co n frames (open_at co m q) ≡ closed (nth f.own.registers q)
all_here co n j [] f m q e h = absurd (cc)
all_here co n zero (x ∷ frames) f m q e h = subst (λ x. close_all co n (x ∷ frames) (open_at co m q) ≡ closed (nth f.own.registers q)) (let k : lua f ≡ x = cc in k) is
  where
    one : close_one co n 0 f.own.registers (open_at co m q) ≡ closed (nth f.own.registers q)
    one =
        let a : nat_eq co co ≡ true = grind (arith, nat_tests) in
        let b : nat_eq n m ≡ true = grind (arith, nat_tests) in
        let c : nat_lt q 0 ≡ false = grind (arith, nat_tests) in
        rw (a, b, c) refl

    is : close_all co n (lua f ∷ frames) (open_at co m q) ≡ closed (nth f.own.registers q)
    is = ap (close_all co (suc n) frames) one ∙ all_closed co (suc n) frames (nth f.own.registers q)
all_here co n (suc j) (lua g ∷ frames) f m q e h = ap (close_all co (suc n) frames) one ∙ all_here co (suc n) j frames f m q e (omega arith)
  where
    one : close_one co n 0 g.own.registers (open_at co m q) ≡ open_at co m q
    one =
        let a : nat_eq co co ≡ true = grind (arith, nat_tests) in
        let b : nat_eq n m ≡ false = grind (arith, nat_tests) in
        rw (a, b) refl
all_here co n (suc j) (pcall ∷ frames) f m q e h = all_here co (suc n) j frames f m q e (omega arith)
all_here co n (suc j) (xpcall v ∷ frames) f m q e h = all_here co (suc n) j frames f m q e (omega arith)
all_here co n (suc j) (handler ∷ frames) f m q e h = all_here co (suc n) j frames f m q e (omega arith)
all_here co n (suc j) (closing w ws ∷ frames) f m q e h = all_here co (suc n) j frames f m q e (omega arith)

-- the frame whose function is found
pub frame_there : (frames : List Frame) (n k : ℕ) → in_frames (Some frames) n ≡ Some k → (f : LuaFrame) × (slice_get frames n ≡ Some (lua f)) × (f.function ≡ k)
frame_there [] n k h = absurd (cc)
frame_there (lua f ∷ frames) zero k h = (f, refl, cc)
frame_there (pcall ∷ frames) zero k h = absurd (cc)
frame_there (xpcall v ∷ frames) zero k h = absurd (cc)
frame_there (handler ∷ frames) zero k h = absurd (cc)
frame_there (closing w ws ∷ frames) zero k h = absurd (cc)
frame_there (x ∷ frames) (suc n) k h = frame_there frames n k h

-- a coroutine whose frames are gone
pub bury_carries : (e : ℕ) (gs : List Guard) (cos : List Coroutine) (co : ℕ) (old new : Coroutine) (frames : List Frame) (cells : List Cell) → slice_get cos co ≡ Some old → frames_of old ≡ Some frames → Each (FrameOk e gs) frames
    → Carries e gs cos cells (slice_set cos co new) (all_closed_from co 0 frames cells)
bury_carries e gs cos co old new frames cells is are ok c k = record { cell = close_all co 0 frames k.cell; there = all_get co 0 frames cells c k.cell k.there; right = right k.cell k.right }
  where
    right : (cell : Cell) → CellOk e gs cos cell → CellOk e gs (slice_set cos co new) (close_all co 0 frames cell)
    right (closed v) h = subst (CellOk e gs (slice_set cos co new)) (sym (all_closed co 0 frames v)) h
    right (open_at d m q) h = ⊎_elim here elsewhere (cases_eq d co)
      where
        elsewhere : d ≢ co → CellOk e gs (slice_set cos co new) (close_all co 0 frames (open_at d m q))
        elsewhere x =
            let a : nat_eq co d ≡ false = grind (arith, nat_tests, x) in
            let o : OpenOk gs (slice_set cos co new) d m q = open_on e gs cos (slice_set cos co new) d m q (λ f z. ap (λ o. in_frames (bind o frames_of) m) (get_set_other cos co d new (λ y. x (sym y))) ∙ z) h in
            subst (CellOk e gs (slice_set cos co new)) (sym (all_elsewhere co 0 frames d m q a)) o

        here : d ≡ co → CellOk e gs (slice_set cos co new) (close_all co 0 frames (open_at d m q))
        here x =
            let w : in_frames (Some frames) m ≡ Some h.function = sym (ap (λ o. in_frames (bind o frames_of) m) is ∙ ap (λ o. in_frames o m) are) ∙ ap (λ d. function_at cos d m) (sym x) ∙ h.stands in
            let t = frame_there frames m h.function w in
            let l : LuaOk e gs t.0 = ok m (lua t.0) t.1 in
            let b : h.guard ≡ l.guard = some_is h.there (ap (slice_get gs) (sym t.2) ∙ l.there) in
            let v : Apart e (nth t.0.own.registers q) = l.registers q (ap (λ (g : Guard). g.registers q) (sym b) ∙ h.apart) in
            let z : close_all co 0 frames (open_at d m q) ≡ closed (nth t.0.own.registers q) = ap (λ d. close_all co 0 frames (open_at d m q)) x ∙ all_here co 0 m frames t.0 m q t.1 (omega arith) in
            subst (CellOk e gs (slice_set cos co new)) (sym z) v
