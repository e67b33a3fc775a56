use Rattle.std.proofs.Common.{[], ◌∷◌, ◌++◌, refl, ap, ◌∙◌, subst}
use Rattle.std.specs.Prelude.{map}
use Rattle.lua_stack.specs.Frames.{IsShapeOf, frame_of}
use Rattle.lua_heap.specs.Reading.{value}
use Rattle.machine_sound.proofs.Lists.{some_is}
use Rattle.machine_core.specs.World.{Function}
use Rattle.machine_core.specs.Moves.{new_frame}
use Rattle.lib_coroutine.proofs.beginning.first_stack.Goals as goal

pub returns-clause-frames : goal.returns-clause-frames
returns-clause-frames c = λ f is.
    let W = c.args.world.now in
    let h = c.shape_of.ensures in
    let shape : IsShapeOf f.code c.shape_of.result = subst (λ (f : Function). IsShapeOf f.code c.shape_of.result) (some_is h.is is) h.shape_is in
    c.in_ok-enter.ensures.frames.entered (value W.strings) refl f.code shape
    ∙ ap (λ fs. map (frame_of (value W.strings)) fs ++ new_frame c.args.function.0 f.code (map (value W.strings) c.args.arguments.now) ∷ []) c.new-stack.ensures.frames

pub returns-clause-closed : goal.returns-clause-closed
returns-clause-closed c = c.in_ok-enter.ensures.frames.cells ∙ c.new-stack.ensures.cells
