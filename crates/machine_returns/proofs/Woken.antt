-- Frames that wait in memory, and get what moves.
use Rattle.std.proofs.Common.{◌≡◌, ℕ, List, [], ◌∷◌, ◌++◌, Some, refl, ap, sym, subst, ◌∙◌}
use Rattle.std.specs.Prelude.{slice_set}
use Rattle.int_core.specs.Value.{Value, without_last}
use Rattle.machine_core.specs.World.{running, LuaFrame, lua, in_progress, World, Place, place_of, put_frames, put_top}
use Rattle.machine_core.specs.Moves.{Made, made, take_moving}
use Rattle.machine_core.specs.MachineStep.{woken}
use Rattle.machine_sound.specs.Sound.{sizes, Valid, Solid, Top, TopIs, Sound}
use Rattle.machine_sound.proofs.Frames.{set_stack, top_put as put_is, place_is, own_known, new_solid}
use Rattle.machine_sound.proofs.Lists.{each_none, some_is, without_push}
use Rattle.machine_sound.proofs.LuaSteps.{settles}
use Rattle.machine_sound.proofs.Waits.{with_moving, moving_solid}
use Rattle.table_core.specs.declared.value.CoroId.{CoroId}
use Rattle.table_core.specs.declared.value.Value.{Value as Kept}
use Rattle.lua_stack.specs.declared.frame.Wait.{Wait as KeptWait}
use Rattle.lua_stack.specs.declared.frame.Wait.TheVariants.{Running}
use Rattle.lua_stack.specs.Frames.{KeptStack, TopBecomes, wait_of, with_wait}
use Rattle.lua_heap.specs.declared.world.World.{World as Memory}
use Rattle.lua_heap.specs.Cells.{CellsAreListed}
use Rattle.lua_heap.specs.Plain.{plain}
use Rattle.lua_heap.specs.Reading.{value}
use Rattle.move_laws.specs.Memory.{Runs, ChangesStack, HasFrame, Makes, StandsAt}
use Rattle.move_laws.proofs.Running.{top_put, same_top, with_top, place_put}
use Rattle.machine_returns.specs.Waking.{Wakes, WaitsSo}
use Rattle.machine_calls.proofs.Given.{set_twice}

-- the world that a move was told to make is one
pub same_world : {A : Type 0} (V W : World) (vs ws : List Value) (a b : A) → made V vs a ≡ made W ws b → V ≡ W
same_world {A} V W vs ws a b e = ap (λ (d : Made A). d.world) (some_is {o = made V vs a} refl e)

-- frames that are put in one place one after the other

abbrev pub moved : World → List Value → World
moved W vs = record W { moving = vs }

put_again : (W : World) (at : Place) (t u : LuaFrame) (vs : List Value) → put_top (moved (put_top W at.stack (lua t)) vs) (with_top at t).stack (lua u) ≡ moved (put_top W at.stack (lua u)) vs
unfolding put_top put_frames
put_again W at t u vs =
    let below = without_last at.stack.frames in
    let co = at.stack.coroutine in
    let first = slice_set W.coroutines co (in_progress (below ++ lua t ∷ [])) in
    ap (λ fs. record W { coroutines = slice_set first co (in_progress (fs ++ lua u ∷ [])); moving = vs }) (without_push below (lua t))
    ∙ ap (λ cs. record W { coroutines = cs; moving = vs }) (set_twice W.coroutines co (in_progress (below ++ lua t ∷ [])) (in_progress (below ++ lua u ∷ [])))

-- the wait of the frame on top is set

pub wait_set : (old new : Memory) (co : CoroId) (s s' : KeptStack) (wait : KeptWait) → Runs old co s → ChangesStack old new co s' → TopBecomes s s' (λ f t. with_wait (wait_of f wait) t) → WaitsSo old new wait
wait_set old new co s s' wait r c t = record { waits = λ p e fuel. sym (top_put old new co s s' p (λ f t. with_wait (wait_of f wait) t) fuel r e c t) }

-- it gets what moves, and runs

abbrev runs_again : LuaFrame → LuaFrame
runs_again t = record t { wait = running }

woken_so : (W : World) (at : Place) → put_top (moved W []) at.stack (lua (runs_again at.top)) ≡ woken W at.stack at.top
unfolding woken put_top put_frames
woken_so W at = refl

pub wakes_so : (old taken new : Memory) (wait : KeptWait) (values : List Kept) (p : Place) → place_of (plain old 0) ≡ Some p → ((fuel : ℕ) → moved (plain old fuel) [] ≡ plain taken fuel) → WaitsSo taken new Running
    → (fuel : ℕ) → plain new fuel ≡ woken (plain old fuel) p.stack p.top
wakes_so old taken new wait values p e m w fuel =
    let there : place_of (plain taken 0) ≡ Some p = ap place_of (sym (m 0)) ∙ e in
    w.waits p there fuel
    ∙ ap (λ W. put_top W p.stack (lua (runs_again p.top))) (sym (m fuel))
    ∙ woken_so (plain old fuel) p

-- and it waits again

put_as : (W : World) (at : Place) → woken W at.stack at.top ≡ moved (put_top W at.stack (lua (runs_again at.top))) []
unfolding woken
put_as W at = refl

pub waits_again : (before old mid : Memory) (wait : KeptWait) (values : List Kept) → Wakes before old wait values → WaitsSo old mid wait → (fuel : ℕ) → plain mid fuel ≡ moved (plain before fuel) []
waits_again before old mid wait values k w fuel =
    let p = k.place in
    let t = runs_again p.top in
    let there : place_of (plain old 0) ≡ Some (with_top p t) = ap place_of (k.woken_is 0 ∙ put_as (plain before 0) p) ∙ place_put (plain before 0) p t k.is refl in
    let texts : old.strings ≡ before.strings = ap (λ (W : Memory). W.strings) k.rest in
    let same : wait_of (value old.strings) wait ≡ p.top.wait = ap (λ texts. wait_of (value texts) wait) texts ∙ k.waited in
    w.waits (with_top p t) there fuel
    ∙ ap (λ wait. put_top (plain old fuel) (with_top p t).stack (lua (record p.top { wait = wait }))) same
    ∙ ap (λ W. put_top W (with_top p t).stack (lua p.top)) (k.woken_is fuel ∙ put_as (plain before fuel) p)
    ∙ put_again (plain before fuel) p t p.top []
    ∙ ap (λ W. moved W []) (same_top (plain before fuel) p k.is)

-- all that stands there is valid

abbrev woken_world : (n : ℕ) (t : Top) (W : World) → TopIs n t W → World
woken_world n t W h = set_stack W W.cells h.coroutine (h.base ++ lua (runs_again h.top) ∷ [])

woken_is : (n : ℕ) (t : Top) (W : World) (h : TopIs n t W) → woken W (record { coroutine = h.coroutine; frames = h.base ++ lua h.top ∷ [] }) h.top ≡ with_moving (woken_world n t W h) [] W.fuel
unfolding woken
woken_is n t W h = ap (λ (V : World). record V { moving = [] }) (put_is W (record { coroutine = h.coroutine; frames = h.base ++ lua h.top ∷ [] }) h.base h.top (runs_again h.top) refl)

solid_woken : (n : ℕ) (t : Top) (W : World) (h : TopIs n t W) → Solid n W → Solid n (woken W (record { coroutine = h.coroutine; frames = h.base ++ lua h.top ∷ [] }) h.top)
solid_woken n t W h s =
    let P = woken_world n t W h in
    let so : Solid n P = new_solid n t W h s t running h.top.own W.cells (own_known n t W h s) tt in
    subst (Solid n) (sym (woken_is n t W h)) (moving_solid n P [] W.fuel so (each_none (Valid (sizes n P))))

pub woken_solid : (n : ℕ) (W : World) (p : Place) → Sound n W → place_of W ≡ Some p → Solid n (woken W p.stack p.top)
woken_solid n W p s e =
    let k = settles n W p s e in
    let h = k.is_top in
    let q = some_is (place_is n k.top W h) e in
    subst (λ (p : Place). Solid n (woken W p.stack p.top)) q (solid_woken n k.top W h s.solid)

-- what moves is taken

pub taken_world : {old taken : Memory} {vs : List Value} → Makes old taken take_moving [] vs tt → (fuel : ℕ) → moved (plain old fuel) [] ≡ plain taken fuel
taken_world {old} {taken} {vs} m fuel = same_world (moved (plain old fuel) []) (plain taken fuel) (plain old fuel).moving vs tt tt (m.is fuel)

pub still_stands : {old taken : Memory} {vs : List Value} {pc : ℕ} → Makes old taken take_moving [] vs tt → StandsAt old pc → StandsAt taken pc
still_stands {old} {taken} {vs} {pc} m s = record { place = s.place; is = ap place_of (sym (taken_world m 0)) ∙ s.is; at = s.at }

pub still_framed : {old taken : Memory} {vs : List Value} → Makes old taken take_moving [] vs tt → HasFrame old → HasFrame taken
still_framed {old} {taken} {vs} m h = record { place = h.place; is = ap place_of (sym (taken_world m 0)) ∙ h.is }

pub taken_listed : (old taken : Memory) → taken ≡ record old { moving = taken.moving } → CellsAreListed old → CellsAreListed taken
taken_listed old taken e l = subst CellsAreListed (sym e) l
