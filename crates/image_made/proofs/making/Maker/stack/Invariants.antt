use Rattle.std.proofs.Common.{◌≡◌, List, map, take}
use Rattle.image_core.specs.Image.{Record}
use Rattle.image_core.specs.Loading.{Target, frame_made}
use Rattle.lua_heap.specs.Reading.{value}
use Rattle.lua_stack.specs.Frames.{frames}
use Rattle.image_records.specs.Views.{frame}
use Rattle.image_made.specs.Making.{IsMaker}
use Rattle.image_made.specs.Stacks.{Lists}
use Rattle.image_made.proofs.making.Maker.stack.Given as goal

abbrev pub invariant-loop-frame : goal.invariant-loop-frame
invariant-loop-frame l = record {
  frames : (T : Target) (rs : List Record) → IsMaker T rs l.self → frames (value l.strings) l.stack ≡ map (λ k. frame_made T rs (frame k)) (take l.frame-index l.frames);
  lists : Lists l.own l.openings l.from l.at l.stack.open_cells;
}
