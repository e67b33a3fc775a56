use Rattle.std.proofs.Common.{◌≡◌, ◌≤◌, length, take}
use Rattle.std.specs.Prelude.{reverse, filter_map, slice_get}
use Rattle.int_core.specs.Value.{bind}
use Rattle.lua_stack.specs.Frames.{kept_place}
use Rattle.std.proofs.Common.{Some}
use Rattle.lua_heap.specs.Places.{nth_place, place_in}
use Rattle.lua_heap.proofs.world.World.nth_position.Given as goal

abbrev pub invariant-down : goal.invariant-down
invariant-down l = record {
  same : slice_get (filter_map (λ f. bind (kept_place (Some f)) (place_in l.self)) (reverse (take l.count l.stack.frames))) l.left ≡ nth_place l.self l.stack.frames l.level;
  within : l.count ≤ length l.stack.frames;
}

abbrev pub decreases-down : goal.decreases-down
decreases-down l = l.count
