use Rattle.std.proofs.Common.{◌≡◌, ◌∙◌, rules}
use Rattle.lua_stack.specs.Frames.{top_number}
use Rattle.image_made.proofs.Opened.{one_opened}
use Rattle.image_made.proofs.Tops.{same_room}
use Rattle.image_made.proofs.stack.open_cells.Goals as goal

pub open-preserved : goal.open-preserved
open-preserved c =
    let coro : c.opening_at-opening.result.coro ≡ c.args.own = search rules in
    let frame : c.opening_at-opening.result.frame ≡ top_number c.open.stack = search rules in
    let opens = c.in_ok-open_cell.ensures in
    record {
      frames = opens.frames ∙ c.open.invariant.frames;
      lists = λ first h. one_opened c.args.own c.args.openings.now c.open.stack c.open_cell.new.stack c.open.at c.opening_at-opening.result c.opening_at-opening.ensures coro frame opens first (c.open.invariant.lists first h);
      room = same_room c.open.stack c.open_cell.new.stack c.args.size opens.frames c.open.invariant.room;
    }
