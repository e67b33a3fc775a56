use Rattle.std.proofs.Common.{rules, ◌≡◌, map, Err, ap, sym, subst, ◌∙◌}
use Rattle.int_core.specs.Value.{a_table, known, nil, nth, object}
use Rattle.library_arguments.specs.Refusals.{refusal_text}
use Rattle.library_arguments.specs.declared.refusal.Fault.TheVariants.{Refused}
use Rattle.library_rows.specs.Base.{sorts}
use Rattle.library_rows.specs.Look.{done}
use Rattle.lua_heap.specs.Reading.{value}
use Rattle.pure_functions.specs.Answers.{Answers, heap_of}
use Rattle.lib_base.specs.Sorting.{NamesNoComparator, fields_put}
use Rattle.lib_base.proofs.SortRows.{sort_answers, sort_faults, sort_takes_none}
use Rattle.lib_base.proofs.sorting.sort.Goals as goal

pub returns-in_err-no_comparator-clause-answers : goal.returns-in_err-no_comparator-clause-answers
returns-in_err-no_comparator-clause-answers c =
    let W = c.args.world.now in
    let vs = map (value W.strings) c.args.arguments.now in
    let n : NamesNoComparator (nth vs 1) (Err c.in_err-no_comparator.field-0.0) = c.in_err-no_comparator.ensures W.strings in
    let r : c.from_residual-in_err-no_comparator.result ≡ Err (Refused c.in_err-no_comparator.field-0.0) = search rules in
    subst (Answers sorts c.args.arguments.now W W) (sym r) (sort_takes_none vs (heap_of W) c.in_ok-id.id c.in_ok-id.ensures (refusal_text c.in_err-no_comparator.field-0.0) n.0 n.1)

pub returns-in_err-sorted-clause-answers : goal.returns-in_err-sorted-clause-answers
returns-in_err-sorted-clause-answers c =
    let W = c.args.world.now in
    let vs = map (value W.strings) c.args.arguments.now in
    let a : nth vs 1 ≡ known nil = c.in_ok-no_comparator.ensures W.strings in
    let r : c.from_residual-in_err-sorted.result ≡ Err c.in_err-sorted.field-0.0 = search rules in
    subst (Answers sorts c.args.arguments.now W W) (sym r) (sort_faults W c.args.arguments.now c.in_ok-id.id c.in_ok-id.ensures a c.in_err-sorted.field-0.0 c.in_err-sorted.ensures)

pub returns-clause-answers : goal.returns-clause-answers
returns-clause-answers c =
    let W = c.args.world.now in
    let V = c.rewrite.new.world in
    let vs = map (value W.strings) c.args.arguments.now in
    let a : nth vs 1 ≡ known nil = c.in_ok-no_comparator.ensures W.strings in
    let e : c.as_slice.result.now ≡ c.in_ok-sorted.sorted.items = search rules in
    sort_answers W V c.args.arguments.now c.in_ok-id.id c.in_ok-sorted.sorted.items c.in_ok-id.ensures a c.in_ok-sorted.ensures
    (c.rewrite.ensures.heap ∙ ap (λ items. fields_put (heap_of W) (object a_table c.in_ok-id.id.0) 1 (map (value W.strings) items)) e)
    ∙ ap (λ items. done (heap_of V) (map (value V.strings) items)) (sym c.new.ensures.items)
