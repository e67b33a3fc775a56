use Rattle.std.proofs.Common.{rules, ◌≡◌, ap, sym, ◌∙◌, subst, map, Ok, Err, false}
use Rattle.std.specs.Prelude.{codes}
use Rattle.int_core.specs.Value.{a_table, nth, object, shape}
use Rattle.library_arguments.specs.Answers.{IsAnswer}
use Rattle.library_arguments.specs.Shapes.{bytes_in}
use Rattle.library_rows.specs.Arguments.{is_table, text_argument, wrong_type}
use Rattle.library_rows.specs.Look.{refused}
use Rattle.library_rows.specs.Searches.{expansion}
use Rattle.lua_heap.specs.Reading.{value}
use Rattle.lib_base.specs.Expanding.{IsExpanded}
use Rattle.lib_base.specs.Lists.{items_from}
use Rattle.pure_functions.specs.Answers.{heap_of}
use Rattle.lib_base.proofs.ExpandRows.{expand_no_table, expanded_is}
use Rattle.pure_functions.proofs.Seen.{no_table}
use Rattle.lib_base.proofs.expanding.expanded.Goals as goal

pub returns-in_default : goal.returns-in_default
returns-in_default c =
    let texts = c.args.world.now.strings in
    let vs = map (value texts) c.args.arguments.now in
    let e : text_argument (codes "expand") 1 (shape (nth vs 0)) ≡ Ok (bytes_in c.in_ok-text.text) = search rules in
    let f : is_table (shape (nth vs 1)) ≡ false = ap (λ v. is_table (shape v)) (c.argument.ensures texts) ∙ no_table texts c.argument.result c.in_default.not-Table in
    expand_no_table vs (heap_of c.args.world.now) (bytes_in c.in_ok-text.text) e f
    ∙ ap (λ text. refused text) (sym (c.wrong_type.ensures ∙ ap (λ s. wrong_type 2 (codes "expand") (codes "table") s) c.argument_shape-other.ensures))

pub returns-in_err-results : goal.returns-in_err-results
returns-in_err-results c =
    let texts = c.args.world.now.strings in
    let vs = map (value texts) c.args.arguments.now in
    let H = heap_of c.args.world.now in
    let e : text_argument (codes "expand") 1 (shape (nth vs 0)) ≡ Ok (bytes_in c.in_ok-text.text) = search rules in
    let f : nth vs 1 ≡ object a_table c.in-Table.id.0 = c.argument.ensures texts ∙ ap (value texts) c.in-Table.is in
    let h : IsAnswer (Err c.in_err-results.field-0.0) (expansion (bytes_in c.in_ok-text.text) (map shape (items_from H (object a_table c.in-Table.id.0) 10 0))) = search rules in
    let r : c.from_residual-in_err-results.result ≡ Err c.in_err-results.field-0.0 = search rules in
    subst (IsExpanded vs H) (sym r) (expanded_is vs H (bytes_in c.in_ok-text.text) e c.in-Table.id f c.answers_are_done.ensures c.refusals_are_done.ensures (Err c.in_err-results.field-0.0) h)

pub returns : goal.returns
returns c =
    let texts = c.args.world.now.strings in
    let vs = map (value texts) c.args.arguments.now in
    let H = heap_of c.args.world.now in
    let e : text_argument (codes "expand") 1 (shape (nth vs 0)) ≡ Ok (bytes_in c.in_ok-text.text) = search rules in
    let f : nth vs 1 ≡ object a_table c.in-Table.id.0 = c.argument.ensures texts ∙ ap (value texts) c.in-Table.is in
    let h : IsAnswer (Ok c.in_ok-results.results) (expansion (bytes_in c.in_ok-text.text) (map shape (items_from H (object a_table c.in-Table.id.0) 10 0))) = search rules in
    expanded_is vs H (bytes_in c.in_ok-text.text) e c.in-Table.id f c.answers_are_done.ensures c.refusals_are_done.ensures (Ok c.in_ok-results.results) h
