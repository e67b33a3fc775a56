use Rattle.std.proofs.Common.{rules, ◌≡◌, ap, sym, ◌∙◌, map, length, drop, false, Ok, None, Some}
use Rattle.std.specs.Prelude.{◌-◌, codes}
use Rattle.int_core.specs.Value.{nth, shape}
use Rattle.library_rows.specs.Arguments.{integer_argument}
use Rattle.library_rows.specs.Base.{is_count}
use Rattle.library_rows.specs.Look.{refused}
use Rattle.lua_heap.specs.Reading.{value}
use Rattle.pure_functions.specs.Answers.{heap_of}
use Rattle.lib_base.specs.Select.{selected_place}
use Rattle.lib_base.proofs.BaseRows.{behind_first, select_none, select_some}
use Rattle.lib_base.proofs.base.select.Goals as goal

pub returns-in-None : goal.returns-in-None
returns-in-None c =
    let texts = c.args.world.now.strings in
    let vs = map (value texts) c.args.arguments.now in
    let e : is_count (shape (nth vs 0)) ≡ false = search rules in
    let f : integer_argument (codes "select") 1 (shape (nth vs 0)) ≡ Ok c.in_ok-n.n = search rules in
    let m : length (drop 1 vs) ≡ length c.args.arguments.now - 1 = behind_first (value texts) c.args.arguments.now in
    let g : selected_place c.in_ok-n.n (length c.args.arguments.now - 1) ≡ None = search rules in
    select_none vs (heap_of c.args.world.now) c.in_ok-n.n e f (ap (selected_place c.in_ok-n.n) m ∙ g) ∙ ap refused (sym c.bad_argument.ensures)

pub returns-in_ok-answer-in-Some : goal.returns-in_ok-answer-in-Some
returns-in_ok-answer-in-Some c =
    let W = c.args.world.now in
    let vs = map (value W.strings) c.args.arguments.now in
    let n = c.in_ok-n.n in
    let e : is_count (shape (nth vs 0)) ≡ false = search rules in
    let f : integer_argument (codes "select") 1 (shape (nth vs 0)) ≡ Ok n = search rules in
    let m : length (drop 1 vs) ≡ length c.args.arguments.now - 1 = behind_first (value W.strings) c.args.arguments.now in
    let g : selected_place n (length c.args.arguments.now - 1) ≡ Some c.in-Some.from = search rules in
    select_some vs (heap_of W) n c.in-Some.from e f (ap (selected_place n) m ∙ g) ∙ sym (c.in_ok-answer-in-Some.ensures W)
