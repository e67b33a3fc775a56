-- Cells of the function on top that are closed in memory.
use Rattle.std.proofs.Common.{◌≡◌, ℕ, List, [], ◌∷◌, ◌++◌, length, Some, ap, sym, ◌∙◌, arith, length-append}
use Rattle.std.specs.Prelude.{slice_get}
use Rattle.int_core.specs.Value.{Value, nil, is_known, without_last}
use Rattle.machine_core.specs.World.{Cell, lua, in_progress, World, Place, place_of, close_from}
use Rattle.machine_core.specs.Text.{close_cells}
use Rattle.machine_core.specs.Moves.{made, on_own, do_own, with_own}
use Rattle.machine_sound.proofs.Lists.{bind_at, last_splits}
use Rattle.table_core.specs.declared.value.CoroId.{CoroId}
use Rattle.lua_stack.specs.Frames.{KeptStack}
use Rattle.lua_heap.specs.declared.world.World.{World as Memory}
use Rattle.lua_heap.specs.Closing.{ClosesAll}
use Rattle.lua_heap.specs.Plain.{plain}
use Rattle.move_laws.specs.Memory.{Runs, Makes, StandsAt}
use Rattle.move_laws.proofs.Places.{stack_is, place_is}
use Rattle.move_laws.proofs.Running.{shown, same_top}

abbrev with_cells : World → List Cell → World
with_cells W cells = record W { cells = cells }

abbrev closed_on_top : World → Place → ℕ → List Cell
closed_on_top W at r = close_from at.stack.coroutine at.number r at.top.own.registers W.cells

closed_own : (W : World) (at : Place) (r : ℕ) (env : List Value) → place_of W ≡ Some at → with_own W at at.top.wait (close_cells r ∷ []) env ≡ with_cells W (closed_on_top W at r)
unfolding with_own
closed_own W at r env e = same_top (with_cells W (closed_on_top W at r)) at e

closed_memory : (old new : Memory) (co : CoroId) (s : KeptStack) (at : Place) (r fuel : ℕ) → Runs old co s → place_of (plain old 0) ≡ Some at
    → ClosesAll co.0 r (plain old fuel) (plain new fuel) → plain new fuel ≡ with_cells (plain old fuel) (closed_on_top (plain old fuel) at r)
closed_memory old new co s at r fuel q e all =
    let V = plain old fuel in
    let h = shown old co s at q e in
    let p = place_is (plain old 0) at e in
    let k = stack_is (plain old 0) at.stack p.stack in
    let below = without_last at.stack.frames in
    let splits = last_splits at.stack.frames (lua at.top) p.top in
    let there : slice_get V.coroutines co.0 ≡ Some (in_progress (below ++ lua at.top ∷ [])) = ap (slice_get V.coroutines) (sym h.coroutine) ∙ k.there ∙ ap (λ fs. Some (in_progress fs)) splits in
    let number : length below ≡ at.number = (let m = ap length splits in let n = length-append below (lua at.top ∷ []) in let k = p.number in omega (arith, m, n, k)) in
    all below at.top there
    ∙ ap (λ co. with_cells V (close_from co (length below) r at.top.own.registers V.cells)) (sym h.coroutine)
    ∙ ap (λ n. with_cells V (close_from at.stack.coroutine n r at.top.own.registers V.cells)) number

pub closed_made : (old new : Memory) (co : CoroId) (s : KeptStack) (at : Place) (r : ℕ) (env : List Value) → Runs old co s → place_of (plain old 0) ≡ Some at
    → ((fuel : ℕ) → ClosesAll co.0 r (plain old fuel) (plain new fuel)) → Makes old new (on_own (close_cells r)) env [] (is_known nil)
closed_made old new co s at r env q e all = record {
  is = λ fuel.
      let V = plain old fuel in
      bind_at (do_own (close_cells r) env V) (place_of V) at e
      ∙ ap (λ W. made W [] (is_known nil)) (closed_own V at r env e ∙ sym (closed_memory old new co s at r fuel q e (all fuel)));
}

pub closed_stands : (old new : Memory) (co : CoroId) (s : KeptStack) (r pc : ℕ) → Runs old co s → ClosesAll co.0 r (plain old 0) (plain new 0) → StandsAt old pc → StandsAt new pc
closed_stands old new co s r pc q all t = record {
  place = t.place;
  is = ap place_of (closed_memory old new co s t.place r 0 q t.is all) ∙ t.is;
  at = t.at;
}
