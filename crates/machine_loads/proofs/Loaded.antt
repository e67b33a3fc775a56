-- Functions of loaded code in memory, and what is handed over.
use Rattle.std.proofs.Common.{◌≡◌, ℕ, List, [], ◌∷◌, ◌++◌, length, Option, Some, None, refl, ap, ap₂, sym, subst, ◌∙◌}
use Rattle.std.specs.Prelude.{drop, map}
use Rattle.std.proofs.lemmas.List.{length-map, map_push}
use Rattle.code_core.specs.Prototype.{Prototype}
use Rattle.int_core.specs.Value.{Value}
use Rattle.machine_core.specs.World.{Function, Cell, closed, World, stack_of}
use Rattle.machine_core.specs.Text.{Arg, args_of}
use Rattle.machine_core.specs.FrameRows.{hand_over}
use Rattle.machine_core.specs.Moves.{Made, add_loaded, give_with, Ending, run}
use Rattle.machine_sound.specs.Sound.{Sound}
use Rattle.object_pool.specs.Pool.{Pool}
use Rattle.table_core.specs.declared.value.Value.{Value as Kept}
use Rattle.lua_heap.specs.declared.world.Cell.{Cell as KeptCell}
use Rattle.lua_heap.specs.declared.world.Cell.TheVariants.{Closed}
use Rattle.lua_heap.specs.declared.world.Func.{Func}
use Rattle.lua_heap.specs.declared.world.World.{World as Memory}
use Rattle.lua_heap.specs.Cells.{AreListed, open_cells_in}
use Rattle.lua_heap.specs.Codes.{AreCodes, functions, prototype_at}
use Rattle.lua_heap.specs.Plain.{function, cell, plain}
use Rattle.lua_heap.specs.Reading.{value}
use Rattle.move_laws.specs.Memory.{HasStack, InOrder, IsSound, Leads, Makes, ReadsSame}
use Rattle.machine_loads.specs.Loading.{HandsOver, MakesLoaded, given_environment, with_loaded}

-- room is made, and code is added

abbrev with_both : World → List Function → List Cell → World
with_both W fs cs = record W { functions = fs; cells = cs }

pub room_made : (old : Memory) (cells : Pool KeptCell) (funcs : Pool Func) → cells.objects ≡ old.cells.objects → funcs.objects ≡ old.funcs.objects
    → ReadsSame old (record old { cells = cells; funcs = funcs })
room_made old cells funcs c f = record { is = λ fuel. ap₂ (with_both (plain old fuel)) (ap (map (function (functions old.codes))) f) (ap (map (cell old.strings)) c) }

-- what reads the same in a sound world does so whatever the budget is
pub reads_same : {old mid new : Memory} → IsSound old → ReadsSame old mid → ((primitives fuel : ℕ) → Sound primitives (plain mid fuel) → plain new fuel ≡ plain mid fuel) → ReadsSame old new
reads_same {old} {mid} {new} s r h = record {
  is = λ fuel. ap (λ (W : World). record W { fuel = fuel }) (h s.primitives 0 (subst (Sound s.primitives) (sym (r.is 0)) s.sound)) ∙ r.is fuel;
}

pub itself : (W : Memory) → ReadsSame W W
itself W = record { is = λ fuel. refl }

-- a cell and a function of the code

abbrev function_of : Prototype → List ℕ → Function
function_of p ids = record { code = p; cells = ids }

abbrev both_last : World → Function → Value → World
both_last W f v = with_both W (W.functions ++ f ∷ []) (W.cells ++ closed v ∷ [])

loaded_last : (W : World) (p : Prototype) (v : Value) → both_last W (function_of p (length W.cells ∷ [])) v ≡ add_loaded W p v
unfolding add_loaded
loaded_last W p v = refl

pub made_is : (mid new : Memory) (p : Prototype) (F : Func) (v : Kept) (fuel : ℕ) → new ≡ record mid { cells = new.cells; funcs = new.funcs } → new.cells.objects ≡ mid.cells.objects ++ Closed v ∷ []
    → new.funcs.objects ≡ mid.funcs.objects ++ F ∷ [] → prototype_at (functions mid.codes) F.code.0 ≡ p → map (λ c. c.0) F.cells.items ≡ length mid.cells.objects ∷ []
    → value mid.strings v ≡ given_environment (plain mid fuel) → plain new fuel ≡ with_loaded (plain mid fuel) p
made_is mid new p F v fuel rest cells funcs code ids environment =
    let P = plain mid fuel in
    let f = function (functions mid.codes) in
    let c = cell mid.strings in
    let e = value mid.strings v in
    let number : length mid.cells.objects ≡ length P.cells = sym (length-map mid.cells.objects c) in
    ap (λ W. plain W fuel) rest
    ∙ ap₂ (with_both P) (ap (map f) funcs ∙ map_push f mid.funcs.objects F) (ap (map c) cells ∙ map_push c mid.cells.objects (Closed v))
    ∙ ap (λ code. both_last P (function_of code (map (λ c. c.0) F.cells.items)) e) code
    ∙ ap (λ ids. both_last P (function_of p ids) e) (ids ∙ ap (λ n. n ∷ []) number)
    ∙ loaded_last P p e
    ∙ ap (add_loaded P p) environment

pub order_made : (old mid : Memory) (cells : Pool KeptCell) (funcs : Pool Func) (v : Kept) → AreCodes mid.strings mid.codes → mid.coros ≡ old.coros → cells.objects ≡ old.cells.objects ++ Closed v ∷ []
    → AreListed (old.cells.objects ++ Closed v ∷ []) (map open_cells_in old.coros.objects) → InOrder (record mid { cells = cells; funcs = funcs })
order_made old mid cells funcs v codes coros objects listed = record {
  codes = codes;
  listed = subst (λ coros. AreListed cells.objects (map open_cells_in coros.objects)) (sym coros) (subst (λ cells. AreListed cells (map open_cells_in old.coros.objects)) (sym objects) listed);
}

-- a world that reads the same before
pub made_from : (old mid new : Memory) (p : Prototype) (id : ℕ) → ReadsSame old mid → id ≡ length mid.funcs.objects → mid.funcs.objects ≡ old.funcs.objects
    → ((fuel : ℕ) → plain new fuel ≡ with_loaded (plain mid fuel) p) → MakesLoaded old new p id
made_from old mid new p id r n same made = record { number = n ∙ ap length same; plain = λ fuel. made fuel ∙ ap (λ W. with_loaded W p) (r.is fuel) }

still_runs : (W : World) (p : Prototype) (v : Value) → stack_of (add_loaded W p v) ≡ stack_of W
unfolding add_loaded
still_runs W p v = refl

pub runs_on : {old new : Memory} {p : Prototype} {id : ℕ} → HasStack old → MakesLoaded old new p id → HasStack new
runs_on {old} {new} {p} h m = record { stack = h.stack; is = ap stack_of (m.plain 0) ∙ still_runs (plain old 0) p (given_environment (plain old 0)) ∙ h.is }

-- values are given and handed over

pub runs_given : {mid given : Memory} → given ≡ record mid { moving = given.moving } → HasStack mid → HasStack given
runs_given e h = subst HasStack (sym e) (record { stack = h.stack; is = h.is })

pub runs_same : {old new : Memory} → HasStack old → ReadsSame old new → HasStack new
runs_same h r = record { stack = h.stack; is = ap stack_of (r.is 0) ∙ h.is }

world_in : World → Option (Made (Unit {0})) → World
world_in W None = W
world_in W (Some d) = d.world

given_is : {mid given : Memory} {vs : List Value} → Makes mid given (give_with [] 0) vs [] tt → (fuel : ℕ) → plain given fuel ≡ record (plain mid fuel) { moving = vs }
unfolding world_in
given_is {mid} m fuel = sym (ap (world_in (plain mid fuel)) (m.is fuel))

pub hands : {W : ℕ → World} {vs : List Value} {given : Memory} {ending : Ending} (mid : Memory) → ((fuel : ℕ) → plain mid fuel ≡ W fuel) → (items : List Value) → items ≡ vs
    → ((env : List Value) (xs : List Arg) (slot : ℕ) → args_of env xs ++ drop slot env ≡ items → Makes mid given (give_with xs slot) env [] tt)
    → ((env : List Value) → Leads hand_over env given given ending) → HandsOver W vs given ending
hands {W} {vs} {given} {ending} mid same items e gives h = record {
  is = λ env fuel.
      ap (λ V. run hand_over env (record V { moving = vs })) (sym (same fuel))
      ∙ ap (run hand_over env) (sym (given_is (gives vs [] 0 (sym e)) fuel))
      ∙ (h env).is fuel;
}
