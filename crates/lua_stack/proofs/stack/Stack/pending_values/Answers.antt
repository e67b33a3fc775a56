use Rattle.std.proofs.Common.{◌≡◌, ◌++◌, ap, ◌∙◌}
use Rattle.std.specs.Prelude.{flat_map}
use Rattle.lua_stack.specs.View.{marked_values}
use Rattle.lua_stack.proofs.PendingValues.{are_pending}
use Rattle.lua_stack.proofs.stack.Stack.pending_values.Goals as goal

pub returns : goal.returns
returns c =
    let a = c.self.inside in
    let below : c.add_all_pending.new.found.items ≡ flat_map (marked_values a.values.items a.pending.items) a.below.items =
    c.in_ok-add_all_pending.ensures ∙ ap (λ l. l ++ flat_map (marked_values c.deref-2.result.now c.deref-3.result.now) c.deref.result.now) c.new-found.ensures.items
    ∙ ap (λ xs. flat_map (marked_values xs c.deref-3.result.now) c.deref.result.now) c.deref-2.ensures.value ∙ ap (λ ps. flat_map (marked_values a.values.items ps) c.deref.result.now) c.deref-3.ensures.value
    ∙ ap (flat_map (marked_values a.values.items a.pending.items)) c.deref.ensures.value in
    are_pending a c.args.self.now c.add_pending.new.found.items c.self.view_is
    (c.in_ok-add_pending.ensures ∙ ap (λ l. l ++ marked_values c.deref-4.result.now c.deref-5.result.now a.top) below
    ∙ ap (λ xs. flat_map (marked_values a.values.items a.pending.items) a.below.items ++ marked_values xs c.deref-5.result.now a.top) c.deref-4.ensures.value
    ∙ ap (λ ps. flat_map (marked_values a.values.items a.pending.items) a.below.items ++ marked_values a.values.items ps a.top) c.deref-5.ensures.value)
