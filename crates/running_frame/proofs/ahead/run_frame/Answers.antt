use Rattle.std.proofs.Common.{refl, ap, sym}
use Rattle.std.proofs.lemmas.Option.{IfSome_then}
use Rattle.move_laws.proofs.Order.{lists_same, order_after}
use Rattle.machine_loop.specs.Running.{Running}
use Rattle.move_laws.proofs.Running.{has_stack}
use Rattle.machine_moves.proofs.Stacks.{within, with_stack}
use Rattle.machine_moves.proofs.InPlace.{found, top_found}
use Rattle.running_frame.proofs.Apart.{top_code_within, top_func_within, functions_so, here_so, listed_alike, may_run_so, own_is, size_so, went_so, with_parts}
use Rattle.running_frame.proofs.ahead.run_frame.Goals as goal

pub running-co-requires : goal.running-co-requires
running-co-requires g c = has_stack c.args.world.now c.requires.place c.requires.is

pub get_mut-requires : goal.get_mut-requires
get_mut-requires g c = within c.running-co.ensures

pub function-requires : goal.function-requires
function-requires g c = top_found c.running-co.ensures c.get_mut.ensures.value c.in-Running.is c.requires.place c.requires.is

pub get-function-requires : goal.get-function-requires
get-function-requires g c =
    let r = found c.running-co.ensures c.get_mut.ensures.value c.in-Running.is in
    top_func_within g.g c.args.world.now c.requires c.running-co.result c.in-Running.stack r c.function.result.0 c.function.ensures

pub get-code-requires : goal.get-code-requires
get-code-requires g c =
    let r = found c.running-co.ensures c.get_mut.ensures.value c.in-Running.is in
    top_code_within g.g c.args.world.now c.requires c.running-co.result c.in-Running.stack r c.function.result.0 c.function.ensures c.get-function.result.now c.get-function.ensures c.checked_code_is_there.ensures

pub run_frame_on_top-requires : goal.run_frame_on_top-requires
run_frame_on_top-requires g c =
    let W = c.args.world.now in
    let h = c.requires in
    let co = c.running-co.result in
    let s = c.in-Running.stack in
    let r = found c.running-co.ensures c.get_mut.ensures.value c.in-Running.is in
    let f = c.get-function.result.now in
    let law = c.checked_code_is_there.ensures in
    let code = c.get-code.result.now in (
      may_run_so g.g W h co s r c.function.result.0 c.function.ensures f c.get-function.ensures law code c.get-code.ensures c.len.ensures.apart c.len.ensures.short c.args.budget.now,
      record {
        functions = functions_so g.g W h co s r law;
        wants = size_so g.g W h co s r c.function.result.0 c.function.ensures f c.get-function.ensures law code c.get-code.ensures;
        own = own_is g.g W h co s r;
        meta = sym (ap (λ (g : Running). g.string_metatable) h.held);
      },
    )

pub returns-clause-reaches : goal.returns-clause-reaches
returns-clause-reaches g c =
    let u = c.run_frame_on_top.new in
    let r = found c.running-co.ensures c.get_mut.ensures.value c.in-Running.is in
    let V = with_stack (with_parts c.args.world.now u.tables u.cells) c.running-co.result u.stack in
    went_so g.g c.args.world.now c.requires c.running-co.result c.in-Running.stack r u.tables u.cells V u.stack c.args.budget.now u.budget (record { rest = refl; objects = refl }) c.run_frame_on_top.ensures.goes.reaches

pub returns-clause-order : goal.returns-clause-order
returns-clause-order g c =
    let W = c.args.world.now in
    let s = c.in-Running.stack in
    let u = c.run_frame_on_top.new.stack in
    let V = with_stack (with_parts W c.run_frame_on_top.new.tables c.run_frame_on_top.new.cells) c.running-co.result u in
    let r = found c.running-co.ensures c.get_mut.ensures.value c.in-Running.is in
    order_after c.requires.order refl refl (listed_alike W V c.run_frame_on_top.ensures.goes.opened (lists_same W.coros.objects c.running-co.result.0 s u r.there c.run_frame_on_top.ensures.goes.listed) c.requires.order.listed)

pub returns-clause-here : goal.returns-clause-here
returns-clause-here g c =
    let u = c.run_frame_on_top.new in
    let r = found c.running-co.ensures c.get_mut.ensures.value c.in-Running.is in
    let V = with_stack (with_parts c.args.world.now u.tables u.cells) c.running-co.result u.stack in
    let is_there =
    here_so g.g c.args.world.now c.requires c.running-co.result c.in-Running.stack r c.function.result.0 c.function.ensures c.get-function.result.now c.get-function.ensures c.checked_code_is_there.ensures
    c.get-code.result.now c.get-code.ensures u.tables u.cells V u.stack (record { rest = refl; objects = refl }) in
    IfSome_then c.run_frame_on_top.result c.run_frame_on_top.ensures.here is_there
