-- Printing, and the end of its row.
use Rattle.std.proofs.Common.{◌≡◌, ℕ, List, [], ◌∷◌, ◌++◌, length, Option, Some, None, refl, ap, sym, subst, ◌∙◌, append-nil}
use Rattle.std.specs.Prelude.{map}
use Rattle.std.specs.Global.{Vec}
use Rattle.int_core.specs.Value.{Value, known, nil, nth}
use Rattle.machine_core.specs.World.{World}
use Rattle.machine_core.specs.FrameRows.{hand_over}
use Rattle.machine_core.specs.MachineStep.{print_row}
use Rattle.machine_core.specs.Moves.{Ending, Made, take_moving, add_printed, bytes_in, run}
use Rattle.machine_sound.specs.Sound.{Each, Sizes, Valid, sizes}
use Rattle.table_core.specs.declared.value.Value.{Value as Kept}
use Rattle.lua_heap.specs.declared.world.World.{World as Memory}
use Rattle.lua_heap.specs.Errors.{HasText}
use Rattle.lua_heap.specs.Law.{StringsAreThere}
use Rattle.lua_heap.specs.Plain.{plain}
use Rattle.lua_heap.specs.Reading.{value}
use Rattle.lua_heap.proofs.TextsThere.{has_text}
use Rattle.move_laws.specs.Memory.{Makes, Leads, IsSound, HasStack}
use Rattle.machine_library.specs.Answers.{IsFirst, PrintsValue}

first_valid : (z : Sizes) (texts : List (List ℕ)) (vs : List Kept) (v : Kept) → Valid z (known nil) → Each (Valid z) (map (value texts) vs) → nth (map (value texts) vs) 0 ≡ value texts v → Valid z (value texts v)
first_valid z texts [] v n h e = subst (Valid z) e n
first_valid z texts (x ∷ vs) v n h e = subst (Valid z) e (h 0 (value texts x) refl)

pub text_there : StringsAreThere → (W : Memory) (v : Kept) → IsSound W → IsFirst W.moving.items v → HasText W.strings v
text_there law W v s f = let z = sizes s.primitives (plain W 0) in has_text law z W.strings v (first_valid z W.strings W.moving.items v tt s.sound.solid.moving (f W.strings))

still_runs : (old printed : Memory) → HasStack old → printed ≡ record old { printed = printed.printed } → HasStack printed
still_runs old printed h e = subst HasStack (sym e) (record { stack = h.stack; is = h.is })

pub runs_printed : (old printed taken : Memory) → HasStack old → printed ≡ record old { printed = printed.printed } → taken ≡ record printed { moving = taken.moving } → HasStack taken
runs_printed old printed taken h e f = subst HasStack (sym f) (let k = still_runs old printed h e in record { stack = k.stack; is = k.is })

pub prints : (W : Memory) (v : Kept) (all : Vec ℕ) (bytes : List ℕ) → bytes ≡ bytes_in (value W.strings v) → all.items ≡ W.printed.items ++ bytes → PrintsValue W (record W { printed = all }) v
unfolding add_printed
prints W v all bytes b e = record { is = λ fuel. ap (λ l. record (plain W fuel) { printed = l }) (e ∙ ap (λ b. W.printed.items ++ b) b) }

-- the first of what was read last
first_read : (env vs : List Value) → nth (env ++ vs ++ []) (length env) ≡ nth vs 0
first_read [] [] = refl
first_read [] (v ∷ vs) = refl
first_read (x ∷ env) vs = first_read env vs

world_in : World → Option (Made (Unit {0})) → World
world_in W None = W
world_in W (Some d) = d.world

pub prints_row : (old printed last : Memory) (v : Kept) (vs : List Value) (e : Ending) → IsFirst old.moving.items v → PrintsValue old printed v → Makes printed last take_moving [] vs tt
    → ((env : List Value) → Leads hand_over env last last e) → (env : List Value) → Leads print_row env old last e
unfolding add_printed world_in
prints_row old printed last v vs e f p t hands env = record {
  is = λ fuel.
      let W = plain old fuel in
      let read_one : nth (env ++ W.moving ++ []) (length env) ≡ value old.strings v = first_read env W.moving ∙ f old.strings in
      let taken : plain last fuel ≡ record (plain printed fuel) { moving = [] } = sym (ap (world_in (plain printed fuel)) (t.is fuel)) in
      let same : record W { moving = []; printed = W.printed ++ bytes_in (nth (env ++ W.moving) (length env)) } ≡ plain last fuel =
      ap (λ v. record W { moving = []; printed = W.printed ++ bytes_in v }) (ap (λ l. nth l (length env)) (sym (append-nil (env ++ W.moving))) ∙ read_one)
      ∙ ap (λ (V : World). record V { moving = [] }) (sym (p.is fuel)) ∙ sym taken in
      ap (run hand_over ((env ++ W.moving) ++ [])) same ∙ (hands ((env ++ W.moving) ++ [])).is fuel;
}
