use Rattle.std.proofs.Common.{◌++◌, [], ◌∷◌, map, ap, ◌∙◌}
use Rattle.lua_stack.specs.Frames.{kept_closing}
use Rattle.image_records.specs.Views.{error, item}
use Rattle.image_made.proofs.Tops.{closing_pushed}
use Rattle.image_made.proofs.making.Maker.push_closing.Goals as goal

pub returns : goal.returns
returns c =
    closing_pushed c.args.self.now c.args.strings.now c.args.stack.now c.push_closing.new.self c.in_ok-push_closing.ensures.cells (error c.args.error) (map item c.args.left.now) c.in_ok-error.error c.in_ok-left.left.items
    c.in_ok-error.ensures c.in_ok-left.ensures (c.in_ok-push_closing.ensures.frames ∙ ap (λ l. c.args.stack.now.frames ++ kept_closing c.in_ok-error.error l ∷ []) c.deref.ensures.value)
