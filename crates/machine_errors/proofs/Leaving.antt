-- The Lua frame on top begins to be left.
use Rattle.std.proofs.Common.{◌≡◌, ◌≤◌, ◌-◌, ℕ, List, [], ◌∷◌, length, Option, Some, refl, ap, sym, subst, ◌∙◌, arith}
use Rattle.int_core.specs.Value.{Value, nil, is_known}
use Rattle.machine_core.specs.World.{Function, leaving, lua, in_progress, World, Place, place_of, put_top, close_from}
use Rattle.machine_core.specs.Text.{read, close_cells, keep_pending}
use Rattle.machine_core.specs.Moves.{Made, made, blamed, on_own, do_own, with_own, begin_leaving, blame, give}
use Rattle.machine_sound.proofs.Lists.{bind_at, some_is}
use Rattle.table_core.specs.declared.value.Value.{Value as Kept}
use Rattle.lua_stack.specs.Frames.{KeptStack, NoneFrom, top_number}
use Rattle.lua_stack.proofs.OpenCells.{all_below_more}
use Rattle.lua_heap.specs.declared.world.World.{World as Memory}
use Rattle.lua_heap.specs.Plain.{plain}
use Rattle.lua_heap.specs.Reading.{value}
use Rattle.move_laws.specs.Memory.{HasFrame, IsSound, Makes, ReadsSame}
use Rattle.move_laws.proofs.Places.{stack_is, place_is}
use Rattle.move_laws.proofs.Running.{same_top, last_there}
use Rattle.machine_errors.specs.Raising.{CanLeave, IsBlamed, LeavesWith, left_with}

-- in a sound world a Lua frame on top can be left
pub can_leave : (W : Memory) → IsSound W → HasFrame W → CanLeave W
can_leave W s h =
    let V = plain W 0 in
    let at = h.place in
    let p = place_is V at h.is in
    let k = stack_is V at.stack p.stack in
    let f = (s.sound.solid.coroutines at.stack.coroutine (in_progress at.stack.frames) k.there).each (length at.stack.frames - 1) (lua at.top) (last_there at.stack.frames (lua at.top) p.top) in
    let same : f.function ≡ at.function = some_is f.there p.function in
    record {
      place = at;
      is = h.is;
      checked = (s.sound.solid.functions at.top.function at.function p.function).code;
      room = subst (λ (g : Function). g.code.own.stack ≤ length at.top.own.registers) same f.stack;
    }

pub none_from_more : (s : KeptStack) (n : ℕ) → NoneFrom s 0 → NoneFrom s n
none_from_more s n h = record { below = all_below_more (top_number s) 0 n s.open_cells (omega arith) h.below }

-- worlds that moves make

pub world_made : {A : Type 0} {V W : World} {vs ws : List Value} {t u : A} → ◌≡◌ {A = Option (Made A)} (made V vs t) (made W ws u) → V ≡ W
world_made {A} {V} e = ap (λ (o : Option (Made A)). elim o as (λ _. World) [ Some d ↦ d.world | _ ↦ V ]) e

abbrev with_closed : World → Place → World
with_closed W at = record W { cells = close_from at.stack.coroutine at.number 0 at.top.own.registers W.cells }

closed_own : (W : World) (at : Place) → place_of W ≡ Some at → with_own W at at.top.wait (close_cells 0 ∷ []) [] ≡ with_closed W at
unfolding with_own
closed_own W at e = same_top (with_closed W at) at e

-- the world whose cells of the frame on top are closed
pub shut_is : (old shut : Memory) (at : Place) (fuel : ℕ) → place_of (plain old 0) ≡ Some at → Makes old shut (on_own (close_cells 0)) [] [] (is_known nil) → plain shut fuel ≡ with_closed (plain old fuel) at
shut_is old shut at fuel e m =
    let V = plain old fuel in
    world_made (sym (m.is fuel) ∙ bind_at (do_own (close_cells 0) [] V) (place_of V) at e ∙ ap (λ W. made W [] (is_known nil)) (closed_own V at e))

pub place_shut : (old shut : Memory) (at : Place) → place_of (plain old 0) ≡ Some at → Makes old shut (on_own (close_cells 0)) [] [] (is_known nil) → place_of (plain shut 0) ≡ Some at
place_shut old shut at e m = ap place_of (shut_is old shut at 0 e m) ∙ e

left_own : (W : World) (at : Place) (b : Value) → with_own W at (leaving b) (close_cells 0 ∷ keep_pending ∷ []) [] ≡ put_top (with_closed W at) at.stack (lua (left_with at.function.code.own.stack b at.top))
unfolding with_own
left_own W at b = refl

abbrev pub with_moving : World → List Value → World
with_moving W vs = record W { moving = vs }

pub begins : (old shut kept new : Memory) (at : Place) (stack : ℕ) (e : Kept) (text : List ℕ) (env : List Value) → place_of (plain old 0) ≡ Some at
    → Makes old shut (on_own (close_cells 0)) [] [] (is_known nil) → stack ≡ at.function.code.own.stack → LeavesWith shut kept stack (value shut.strings e)
    → Makes kept new (give (read 0 ∷ [])) (value kept.strings e ∷ []) [] tt → shut.strings ≡ old.strings → kept.strings ≡ old.strings
    → ((fuel : ℕ) → value old.strings e ≡ blamed (plain old fuel) text) → Makes old new (begin_leaving text) env [] tt
begins old shut kept new at stack e text env place close size leaves gives s k says = record {
  is = λ fuel.
      let V = plain old fuel in
      let b = blamed V text in
      let v : value shut.strings e ≡ b = ap (λ texts. value texts e) s ∙ says fuel in
      let w : value kept.strings e ≡ b = ap (λ texts. value texts e) k ∙ says fuel in
      let S = at.function.code.own.stack in
      let left : with_own V at (leaving b) (close_cells 0 ∷ keep_pending ∷ []) [] ≡ plain kept fuel =
      left_own V at b
      ∙ ap (λ W. put_top W at.stack (lua (left_with S b at.top))) (sym (shut_is old shut at fuel place close))
      ∙ ap (λ n. put_top (plain shut fuel) at.stack (lua (left_with n b at.top))) (sym size)
      ∙ ap (λ b. put_top (plain shut fuel) at.stack (lua (left_with stack b at.top))) (sym v)
      ∙ leaves.is at (place_shut old shut at place close) fuel in
      let whole : with_moving (with_own V at (leaving b) (close_cells 0 ∷ keep_pending ∷ []) []) (b ∷ []) ≡ plain new fuel =
      ap (λ W. with_moving W (b ∷ [])) left
      ∙ ap (λ b. with_moving (plain kept fuel) (b ∷ [])) (sym w)
      ∙ world_made (gives.is fuel) in
      bind_at (λ p. made (with_moving (with_own V p (leaving b) (close_cells 0 ∷ keep_pending ∷ []) []) (b ∷ [])) [] tt) (place_of V) at place
      ∙ ap (λ W. made W [] tt) whole;
}

pub blamed_so : {old new : Memory} {text : List ℕ} {error : List Kept} → ReadsSame old new → IsBlamed old new text error → IsBlamed new new text error
blamed_so {text} r b = record { thrown = b.thrown; one = b.one; says = λ fuel. b.says fuel ∙ ap (λ W. blamed W text) (sym (r.is fuel)) }

pub blames_so : (old named new : Memory) (text : List ℕ) (error : List Kept) (env : List Value) → ReadsSame old named → (b : IsBlamed old named text error)
    → Makes named new (give (read 0 ∷ [])) (value named.strings b.thrown ∷ []) [] tt → Makes old new (blame text) env [] tt
blames_so old named new text error env r b gives = record {
  is = λ fuel.
      ap (λ W. made W [] tt) (
      ap (λ W. with_moving W (blamed (plain old fuel) text ∷ [])) (sym (r.is fuel))
      ∙ ap (λ v. with_moving (plain named fuel) (v ∷ [])) (sym (b.says fuel))
      ∙ world_made (gives.is fuel));
}
