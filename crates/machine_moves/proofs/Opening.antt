-- Cells of the function on top that are opened in memory.
use Rattle.std.proofs.Common.{◌≡◌, ℕ, List, [], length, Some, None, ap, sym, ◌∙◌, arith}
use Rattle.std.specs.Prelude.{cond, nat_lt}
use Rattle.std.proofs.lemmas.List.{length-map}
use Rattle.int_core.specs.Value.{Value}
use Rattle.machine_core.specs.World.{lua, World, Stack, stack_of, Place, place_of, find_open}
use Rattle.machine_core.specs.Moves.{made, open_register, opened_cells}
use Rattle.machine_sound.proofs.Lists.{bind_at, last_splits}
use Rattle.lua_stack.specs.Frames.{frame_of}
use Rattle.lua_heap.specs.declared.world.World.{World as Memory}
use Rattle.lua_heap.specs.Captures.{HasTopRegister, with_open_cell}
use Rattle.lua_heap.specs.Plain.{plain}
use Rattle.lua_heap.specs.Reading.{value}
use Rattle.move_laws.specs.Memory.{Makes, StandsAt}
use Rattle.move_laws.proofs.Places.{place_is}
use Rattle.move_laws.proofs.Running.{shown, stack_runs, has_stack, registers_there}
use Rattle.machine_moves.specs.Moves.{CanOpen}
use Rattle.machine_moves.proofs.Stacks.{less}

pub has_register : (W : Memory) (r : ℕ) → CanOpen W r → HasTopRegister W r
has_register W r o =
    let at = o.place in
    let q = stack_runs W (has_stack W at o.is) in
    let h = shown W q.co q.stack at q.runs o.is in
    let p = place_is (plain W 0) at o.is in
    let m = length-map q.stack.frames (frame_of (value W.strings)) in
    let f = ap length h.frames_are in
    let s = ap length (last_splits at.stack.frames (lua at.top) p.top) in
    let d = o.depth in
    record {
      number = q.co;
      stack = q.stack;
      last = q.runs.chain;
      there = q.runs.there;
      room = registers_there W q.co q.stack at _ q.runs o.is (less r (length at.top.own.registers) o.there);
      depth = omega (arith, m, f, s, d);
    }

abbrev opens_in : World → Place → ℕ → ℕ → World
opens_in W p r n = record W { cells = opened_cells (find_open p.stack.coroutine n r W.cells) p.stack.coroutine n r W.cells }

pub opened_made : (old new : Memory) (r : ℕ) (env : List Value) → CanOpen old r
    → ((fuel : ℕ) (s : Stack) → stack_of (plain old fuel) ≡ Some s → plain new fuel ≡ with_open_cell (plain old fuel) s r) → Makes old new (open_register r) env [] tt
opened_made old new r env o opened = record {
  is = λ fuel.
      let V = plain old fuel in
      let at = o.place in
      let p = place_is (plain old 0) at o.is in
      bind_at (λ p. cond (nat_lt r (length p.top.own.registers)) (made (opens_in V p r p.number) [] tt) None) (place_of V) at o.is
      ∙ ap (λ b. cond b (made (opens_in V at r at.number) [] tt) None) o.there
      ∙ ap (λ n. made (opens_in V at r n) [] tt) p.number
      ∙ ap (λ W. made W [] tt) (sym (opened fuel at.stack p.stack));
}

pub opened_stands : (old new : Memory) (r pc : ℕ) → ((s : Stack) → stack_of (plain old 0) ≡ Some s → plain new 0 ≡ with_open_cell (plain old 0) s r) → StandsAt old pc → StandsAt new pc
opened_stands old new r pc opened t = record {
  place = t.place;
  is = ap place_of (opened t.place.stack (place_is (plain old 0) t.place t.is).stack) ∙ t.is;
  at = t.at;
}
