-- A Lua frame that waits for a call that it asks for.
use Rattle.std.proofs.Common.{◌≡◌, ℕ, List, [], ◌∷◌, Some, ap, sym, ◌∙◌}
use Rattle.std.specs.Prelude.{drop, map}
use Rattle.int_core.specs.Value.{Value}
use Rattle.machine_core.specs.World.{World, Place, place_of}
use Rattle.machine_core.specs.Text.{arg}
use Rattle.machine_core.specs.Moves.{made, await, asks, named, with_own, stop}
use Rattle.machine_sound.proofs.Lists.{bind_at}
use Rattle.table_core.specs.declared.value.Value.{Value as Kept}
use Rattle.lua_stack.specs.declared.frame.Wait.{Wait as KeptWait}
use Rattle.lua_heap.specs.declared.world.World.{World as Memory}
use Rattle.lua_heap.specs.Reading.{value}
use Rattle.lua_heap.specs.Plain.{plain}
use Rattle.move_laws.specs.Memory.{Makes}
use Rattle.move_laws.proofs.Rows.{first, ended}
use Rattle.machine_calls.specs.declared.preparing.Prepared.{Prepared}
use Rattle.machine_calls.specs.Preparing.{ReadyFor, prepared_of}
use Rattle.machine_calls.specs.Waiting.{AsksSo}

abbrev with_moving : World → List Value → World
with_moving V vs = record V { moving = vs }

pub asks_so : (old ready new : Memory) (called : Kept) (arguments : List Kept) (wait : KeptWait) (prepared : Prepared) (at : Place) → place_of (plain old 0) ≡ Some at → ReadyFor old ready wait prepared
    → ready.strings ≡ old.strings → new.moving.items ≡ called ∷ arguments → ((fuel : ℕ) → plain new fuel ≡ with_moving (plain ready fuel) (map (value ready.strings) new.moving.items))
    → AsksSo old new called arguments wait prepared asks
asks_so old ready new called arguments wait prepared at e r texts m k = record {
  leads = λ env f slot w x n.
      let ms = prepared_of x prepared in
      let vs = arg env f ∷ drop slot env in
      let same : vs ≡ map (value ready.strings) new.moving.items =
      ap (λ v. v ∷ drop slot env) n.calls ∙ ap (λ us. value old.strings called ∷ us) n.gives ∙ ap (λ texts. map (value texts) (called ∷ arguments)) (sym texts) ∙ ap (map (value ready.strings)) (sym m) in
      let moved : (fuel : ℕ) → with_moving (with_own (plain old fuel) at (named env w) ms env) vs ≡ plain new fuel =
      (λ fuel. ap (λ w. with_moving (with_own (plain old fuel) at w ms env) vs) n.waits
      ∙ ap (λ V. with_moving V vs) (r.is at e env x n.copies fuel)
      ∙ ap (with_moving (plain ready fuel)) same
      ∙ sym (k fuel)) in
      let makes : Makes old new (await f slot w ms) env [] tt =
      record { is = λ fuel. bind_at (λ p. made (with_moving (with_own (plain old fuel) p (named env w) ms env) vs) [] tt) (place_of (plain old fuel)) at e ∙ ap (λ V. made V [] tt) (moved fuel) } in
      first (λ _ _. stop asks) makes ended;
}
