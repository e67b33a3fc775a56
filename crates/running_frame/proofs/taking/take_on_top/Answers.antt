use Rattle.std.proofs.Common.{◌≡◌, length, refl, ap, ◌∙◌}
use Rattle.std.proofs.lemmas.Option.{IfSome_then}
use Rattle.library_rows.specs.Library.{all_entries}
use Rattle.lua_heap.specs.declared.world.Coro.TheVariants.{Running}
use Rattle.lua_heap.specs.declared.world.World.{World as Memory}
use Rattle.lua_stack.specs.Frames.{KeptStack}
use Rattle.move_laws.proofs.Order.{listed_after, order_after}
use Rattle.move_laws.proofs.Running.{has_stack, set_same}
use Rattle.machine_moves.proofs.Stacks.{with_stack, within}
use Rattle.machine_moves.proofs.InPlace.{found, top_found}
use Rattle.step_laws.proofs.Ready.{go_has_frame}
use Rattle.running_frame.proofs.Apart.{are_functions}
use Rattle.frame_calls.proofs.Takers.{none_then}
use Rattle.running_frame.proofs.taking.take_on_top.Goals as goal

pub running-co-requires : goal.running-co-requires
running-co-requires c =
    let f = go_has_frame (length all_entries) c.args.world.now c.requires.ready in
    has_stack c.args.world.now f.place f.is

pub get_mut-requires : goal.get_mut-requires
get_mut-requires c = within c.running-co.ensures

pub take_waiting-requires : goal.take_waiting-requires
take_waiting-requires c =
    let f = go_has_frame (length all_entries) c.args.world.now c.requires.ready in
    record {
      top = top_found c.running-co.ensures c.get_mut.ensures.value c.in-Running.is f.place f.is;
      codes = (are_functions (length all_entries) c.args.world.now c.requires.ready.after c.requires.ready.order c.checked_code_is_there.ensures).have;
    }

pub returns-clause-takes : goal.returns-clause-takes
returns-clause-takes c =
    let r = found c.running-co.ensures c.get_mut.ensures.value c.in-Running.is in
    IfSome_then c.take_waiting.result c.take_waiting.ensures.takes
    (λ o t. record { co = c.running-co.result; stack = c.in-Running.stack; runs = r; after = c.take_waiting.new.stack; changes = record { rest = refl; objects = refl }; takes = t })

pub returns-clause-kept : goal.returns-clause-kept
returns-clause-kept c =
    let W : Memory = c.args.world.now in
    let co = c.running-co.result in
    let s = c.in-Running.stack in
    let r = found c.running-co.ensures c.get_mut.ensures.value c.in-Running.is in
    none_then c.take_waiting.result
    (λ (e : c.take_waiting.new.stack ≡ s).
    ap (λ (u : KeptStack). with_stack W co u) e
    ∙ ap (λ objects. record W { coros = record W.coros { objects = objects } }) (set_same W.coros.objects co.0 (Running s) r.there))
    c.take_waiting.ensures.kept

pub returns-clause-order : goal.returns-clause-order
returns-clause-order c =
    let W = c.args.world.now in
    let s = c.in-Running.stack in
    let u = c.take_waiting.new.stack in
    let V = with_stack W c.running-co.result u in
    let r = found c.running-co.ensures c.get_mut.ensures.value c.in-Running.is in
    let o = c.requires.ready.order in
    order_after o refl refl (listed_after W V c.running-co.result s u r (record { rest = refl; objects = refl }) c.take_waiting.ensures.listed o.listed)
