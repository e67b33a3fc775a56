-- A Lua frame that runs has no open cell beyond the registers of its code.
use Rattle.std.proofs.Common.{◌≡◌, ℕ, ◌+◌, ◌<◌, ◌≤◌, List, [], ◌∷◌, ◌++◌, length, Option, Some, None, refl, ap, sym, subst, ◌∙◌, arith, length-append, Bool, true, false}
use Rattle.std.specs.Prelude.{◌&&◌, IsTrue, cond, nat_eq, slice_get}
use Rattle.std.proofs.lemmas.List.{length-map}
use Rattle.code_core.specs.Prototype.{Prototype}
use Rattle.int_core.specs.Value.{Value, bind}
use Rattle.list_laws.proofs.Tests.{eq_refl, eq_true}
use Rattle.machine_core.specs.World.{Wait, running, open_at, Frame, lua, Coroutine, frames_of, Place, place_of, lua_frame}
use Rattle.machine_sound.specs.Sound.{sizes, waits_at, LuaWaits, RunsOrWaits, Fits, FitsIfRuns, Settled, registers_in, registers_of}
use Rattle.machine_sound.proofs.Frames.{the_place, place_is as top_place}
use Rattle.machine_sound.proofs.Lists.{get_map, get_within, last_splits, some_is}
use Rattle.machine_sound.proofs.LuaSteps.{settles}
use Rattle.table_core.specs.declared.value.CellId.{CellId}
use Rattle.table_core.specs.declared.value.CoroId.{CoroId}
use Rattle.lua_stack.specs.declared.frame.OpenCell.{OpenCell}
use Rattle.lua_stack.specs.Frames.{KeptStack, AllBelow, cell_at, frame_of, frames, top_number}
use Rattle.lua_heap.specs.declared.world.Cell.TheVariants.{Open}
use Rattle.lua_heap.specs.declared.world.Coro.TheVariants.{Running}
use Rattle.lua_heap.specs.declared.world.World.{World as Memory}
use Rattle.lua_heap.specs.Cells.{IsOnce, open_cells_in}
use Rattle.lua_heap.specs.Plain.{cell, coroutine, plain}
use Rattle.lua_heap.specs.Reading.{value}
use Rattle.move_laws.specs.Memory.{IsSound, Runs}
use Rattle.move_laws.proofs.Places.{place_is}
use Rattle.move_laws.proofs.Running.{shown}
use Rattle.machine_moves.specs.Moves.{NoneIsOpenFrom}
use Rattle.code_core.proofs.CheckedLemmas.{both}

-- a list of open cells, each at its own place

abbrev is_at : (frame register : ℕ) → OpenCell → Bool
is_at frame register c = nat_eq c.frame frame && nat_eq c.register register

first_found : (c : OpenCell) (cs : List OpenCell) → cell_at c.frame c.register (c ∷ cs) ≡ Some c.cell
first_found c cs = ap (λ b. cond b (Some c.cell) (cell_at c.frame c.register cs)) (ap (λ b. b && nat_eq c.register c.register) (eq_refl c.frame) ∙ eq_refl c.register)

behind_first : (c : OpenCell) (cs : List OpenCell) (frame register : ℕ) (id : CellId) → cell_at c.frame c.register cs ≡ None → cell_at frame register cs ≡ Some id
    → cell_at frame register (c ∷ cs) ≡ Some id
behind_first c cs frame register id once e = by (is_at frame register c) refl
  where
    by : (b : Bool) → is_at frame register c ≡ b → cond b (Some c.cell) (cell_at frame register cs) ≡ Some id
    by false t = e
    by true t =
        let s = both (nat_eq c.frame frame) (nat_eq c.register register) t in
        let none : cell_at frame register cs ≡ None =
        ap (λ f. cell_at f register cs) (sym (eq_true c.frame frame s.0)) ∙ ap (λ r. cell_at c.frame r cs) (sym (eq_true c.register register s.1)) ∙ once in
        absurd (let bad : None ≡ Some id = sym none ∙ e in cc)

all_below : (top size : ℕ) (cs : List OpenCell) → IsOnce cs → ((id : CellId) (frame register : ℕ) → cell_at frame register cs ≡ Some id → (frame ≤ top) × (top ≤ frame → register < size))
    → AllBelow top size cs
all_below top size [] once h = tt
all_below top size (c ∷ cs) once h =
    let k = h c.cell c.frame c.register (first_found c cs) in
    (record { frame_at_most = k.0; register_less = k.1 }, all_below top size cs once.1 (λ id f r e. h id f r (behind_first c cs f r id once.0 e)))

-- a register of a frame that is there

registers_there : (fs : List Frame) (n r : ℕ) → r < registers_in fs n → n < length fs
registers_there fs n r h = by (slice_get fs n) refl h
  where
    by : (o : Option Frame) → slice_get fs n ≡ o → r < elim (bind o lua_frame) [ None ↦ 0 | Some f ↦ length f.own.registers ] → n < length fs
    by None e l = absurd (omega (arith, l))
    by (Some f) e l = get_within fs n f e

abbrev frames_in : Option (List Frame) → ℕ → ℕ
frames_in o n = elim o [ None ↦ 0 | Some fs ↦ registers_in fs n ]

abbrev waits_for_nothing : Wait Value
waits_for_nothing = running

module _ (W : Memory) (at : Place) (s : IsSound W) (e : place_of (plain W 0) ≡ Some at) (w : at.top.wait ≡ running) where
  abbrev settled : Settled s.primitives (plain W 0)
  settled = settles s.primitives (plain W 0) at s.sound e

  same_place : the_place s.primitives settled.top (plain W 0) settled.is_top ≡ at
  same_place = some_is (top_place s.primitives settled.top (plain W 0) settled.is_top) e

  fits_place : Fits settled.top
  fits_place = by settled.top.runs settled.is_top.wait settled.fits
    where
      never : (x : LuaWaits (sizes s.primitives (plain W 0)) settled.is_top.top) → IsTrue (waits_at waits_for_nothing x.opcode x.instruction) → ⊥
      never x f = absurd (cc)

      by : (b : Bool) → RunsOrWaits b (sizes s.primitives (plain W 0)) settled.is_top.top → FitsIfRuns b settled.top → Fits settled.top
      by true x f = f
      by false x f = absurd (never x (subst (λ (wait : Wait Value). IsTrue (waits_at wait x.opcode x.instruction)) (ap (λ (p : Place). p.top.wait) same_place ∙ w) x.fits))

  -- the frames in memory are those of the place
  module _ (co : CoroId) (stack : KeptStack) (r : Runs W co stack) where
    coroutine_is : settled.is_top.coroutine ≡ co.0
    coroutine_is = ap (λ (p : Place). p.stack.coroutine) same_place ∙ (shown W co stack at r e).coroutine

    frames_are : frames (value W.strings) stack ≡ settled.is_top.base ++ lua settled.is_top.top ∷ []
    frames_are =
        (shown W co stack at r e).frames_are
        ∙ sym (last_splits at.stack.frames (lua at.top) (place_is (plain W 0) at e).top)
        ∙ sym (ap (λ (p : Place). p.stack.frames) same_place)

    count_is : length stack.frames ≡ length settled.is_top.base + 1
    count_is = sym (length-map stack.frames (frame_of (value W.strings))) ∙ ap length frames_are ∙ length-append settled.is_top.base (lua settled.is_top.top ∷ [])

    module _ (id : CellId) (frame register : ℕ) (q : cell_at frame register stack.open_cells ≡ Some id) where
      cell_is : slice_get (plain W 0).cells id.0 ≡ Some (open_at co.0 frame register)
      cell_is =
          let own = get_map open_cells_in W.coros.objects co.0 (Running stack) r.there in
          get_map (cell W.strings) W.cells.objects id.0 (Open co frame register) (s.order.listed.opened id co frame register stack.open_cells own q)

      frame_there : frame < length stack.frames
      frame_there =
          let there : register < registers_of (plain W 0).coroutines co.0 frame = s.sound.solid.cells id.0 (open_at co.0 frame register) cell_is in
          let stands = get_map (coroutine W.strings) W.coros.objects co.0 (Running stack) r.there in
          let here : register < registers_in (frames (value W.strings) stack) frame =
          subst (λ (o : Option Coroutine). register < frames_in (bind o frames_of) frame) stands there in
          subst (λ n. frame < n) (length-map stack.frames (frame_of (value W.strings))) (registers_there (frames (value W.strings) stack) frame register here)

      on_top : top_number stack ≤ frame → register < at.function.code.own.stack
      on_top l =
          let number : frame ≡ length settled.is_top.base = (let a = count_is in let b = frame_there in omega (arith, l, a, b)) in
          let here : slice_get (plain W 0).cells id.0 ≡ Some (open_at settled.is_top.coroutine (length settled.is_top.base) register) =
          cell_is ∙ ap (λ co. Some (open_at co frame register)) (sym coroutine_is) ∙ ap (λ n. Some (open_at settled.is_top.coroutine n register)) number in
          let below = settled.is_top.cells id.0 register here in
          let within = fits_place.cells in
          let same : settled.top.code.own.stack ≡ at.function.code.own.stack =
          ap (λ (p : Prototype). p.own.stack) (sym settled.is_top.code ∙ ap (λ (p : Place). p.function.code) same_place) in
          omega (arith, below, within, same)

      placed : (frame ≤ top_number stack) × (top_number stack ≤ frame → register < at.function.code.own.stack)
      placed = ((let a = frame_there in omega (arith, a)), on_top)

  pub none_beyond : NoneIsOpenFrom W at.function.code.own.stack
  none_beyond = λ co stack r.
      let once = s.order.listed.once co.0 stack.open_cells (get_map open_cells_in W.coros.objects co.0 (Running stack) r.there) in
      record { below = all_below (top_number stack) at.function.code.own.stack stack.open_cells once (λ id f q e. placed co stack r id f q e) }
