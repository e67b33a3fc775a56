use Rattle.std.proofs.Common.{◌<◌, ◌≤◌, map, length, sym, ap, ◌∙◌, subst, arith}
use Rattle.std.proofs.lemmas.List.{take_all}
use Rattle.std.proofs.lemmas.Simd.{map-map}
use Rattle.image_core.specs.Loading.{frame_made}
use Rattle.image_records.specs.Views.{frame}
use Rattle.lua_stack.specs.Frames.{frame_of}
use Rattle.lua_heap.specs.Reading.{value}
use Rattle.image_made.specs.Stacks.{Lists}
use Rattle.image_made.proofs.Opened.{no_cells}
use Rattle.image_made.proofs.Tops.{frames_more}
use Rattle.image_made.proofs.making.Maker.stack.Goals as goal

pub loop-frame-init : goal.loop-frame-init
loop-frame-init c = record {
  frames = λ T rs m. ap (map (frame_of (value c.args.strings.now))) c.new-stack.ensures.frames;
  lists = subst (λ cs. Lists c.args.own c.args.openings.now c.args.from c.args.from cs) (sym c.new-stack.ensures.cells) (no_cells c.args.own c.args.openings.now c.args.from);
}

pub open_cells-requires-clause-room : goal.open_cells-requires-clause-room
open_cells-requires-clause-room c = c.in_ok-size.ensures.room

pub open_cells-requires-clause-there : goal.open_cells-requires-clause-there
open_cells-requires-clause-there c = c.in_ok-size.ensures.there

pub loop-frame-preserved : goal.loop-frame-preserved
loop-frame-preserved c =
    let lt : c.loop-frame.frame-index < length c.args.frames.now = omega arith in
    let opened = c.in_ok-at.ensures in
    record {
      frames = λ T rs m.
          ap (map (frame_of (value c.args.strings.now))) opened.frames
          ∙ frames_more c.args.self.now c.args.strings.now frame c.args.frames.now c.loop-frame.frame-index c.frame-item.result c.loop-frame.stack c.push_frame.new.stack c.in_ok-size.size lt c.frame-item.is c.in_ok-size.ensures
          c.loop-frame.invariant.frames T rs m;
      lists = opened.lists c.args.from (subst (λ cs. Lists c.args.own c.args.openings.now c.args.from c.loop-frame.at cs) (sym c.in_ok-size.ensures.cells) c.loop-frame.invariant.lists);
    }

pub returns : goal.returns
returns c =
    let ended : length c.args.frames.now ≤ c.loop-frame.frame-index = omega arith in
    record {
      frames = λ T rs m.
          c.loop-frame.invariant.frames T rs m ∙ ap (map (λ k. frame_made T rs (frame k))) (take_all c.loop-frame.frame-index c.args.frames.now ended) ∙ sym (map-map (frame_made T rs) frame c.args.frames.now);
      lists = c.loop-frame.invariant.lists;
    }
