use Rattle.std.proofs.Common.{◌++◌, Some, length, ap, sym, subst, ◌∙◌}
use Rattle.std.specs.Prelude.{slice_get}
use Rattle.lua_stack.specs.Frames.{KeptFrame}
use Rattle.lua_stack.specs.View.{tops, frame_at, IsWithin}
use Rattle.lua_stack.proofs.Viewed.{within_at, frame_seen}
use Rattle.lua_stack.proofs.stack.Stack.frame_at.Goals as goal

pub view-requires : goal.view-requires
view-requires c =
    let r = c.in_ok-found.found in
    let e = c.in_ok-found.ensures ∙ ap (λ xs. slice_get (xs ++ tops c.self.inside.top) c.args.frame) c.deref.ensures.value in
    subst (λ n. IsWithin n (length c.deref-3.result.now) r.window) (sym (ap length c.deref-2.ensures.value))
    (subst (λ m. IsWithin (length c.self.inside.values.items) m r.window) (sym (ap length c.deref-3.ensures.value)) (within_at c.self.inside c.args.frame r c.self.invariant.0 (sym e)))

pub returns : goal.returns
returns c =
    let r = c.in_ok-found.found in
    let e = c.in_ok-found.ensures ∙ ap (λ xs. slice_get (xs ++ tops c.self.inside.top) c.args.frame) c.deref.ensures.value in
    ap (λ (f : KeptFrame). Some f) (c.view.ensures ∙ ap (λ vs. frame_at vs c.deref-3.result.now r) c.deref-2.ensures.value ∙ ap (λ ps. frame_at c.self.inside.values.items ps r) c.deref-3.ensures.value)
    ∙ frame_seen c.self.inside c.args.self.now c.args.frame (Some r) c.self.view_is e
