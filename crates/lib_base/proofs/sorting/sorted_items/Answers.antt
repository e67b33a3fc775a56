use Rattle.std.proofs.Common.{rules, ◌≡◌, length, subst, sym}
use Rattle.int_core.specs.Value.{a_table, object}
use Rattle.lib_base.specs.Sorting.{AreItems, AreThere, GoesInOrder}
use Rattle.lib_base.proofs.SortRows.{items_in_order, items_there, put_back_whole}
use Rattle.lib_base.proofs.sorting.sorted_items.Goals as goal

pub put_in_order-requires : goal.put_in_order-requires
put_in_order-requires c =
    let e : c.as_mut_slice.result.now ≡ c.in_ok-items.items.items = search rules in
    subst (AreThere c.args.world.now.strings) (sym e) (items_there c.strings_are_there.ensures c.args.world.now c.args.arguments.now c.requires (object a_table c.args.id.0) c.count-many.result c.in_ok-items.items.items c.in_ok-items.ensures)

pub returns : goal.returns
returns c =
    let W = c.args.world.now in
    let old = c.in_ok-items.items.items in
    let new = c.put_in_order.new.items in
    let e : c.as_mut_slice.result.now ≡ old = search rules in
    let n : c.in_ok-items.items.len ≡ length old = search rules in
    let g : GoesInOrder W.strings old new = subst (λ items. GoesInOrder W.strings items new) e c.in_ok-put_in_order.ensures in
    subst (AreItems W c.args.id) (sym (put_back_whole old new c.in_ok-items.items.len g.len n))
    (items_in_order W c.args.id c.count-many.result old c.count-many.ensures.count c.in_ok-items.ensures c.args.arguments.now c.requires c.count-many.ensures.there new g)
