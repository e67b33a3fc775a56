use Rattle.std.proofs.Common.{rules, ◌≡◌, [], ◌∷◌, ap, sym, ◌∙◌, subst, map, Err}
use Rattle.std.specs.Prelude.{codes}
use Rattle.int_core.specs.Value.{known, nth, shape, string}
use Rattle.library_rows.specs.Base.{joins}
use Rattle.library_rows.specs.Look.{done}
use Rattle.lua_heap.specs.Reading.{value}
use Rattle.pure_functions.specs.Answers.{Answers, heap_of}
use Rattle.lib_base.specs.Lists.{IsCounted}
use Rattle.pure_functions.proofs.Interning.{same_heap}
use Rattle.lib_base.proofs.JoinRows.{join_faults, join_is}
use Rattle.lib_base.proofs.joining.join.Goals as goal

pub returns-in_err-text-clause-answers : goal.returns-in_err-text-clause-answers
returns-in_err-text-clause-answers c =
    let W = c.args.world.now in
    let vs = map (value W.strings) c.args.arguments.now in
    let n : IsCounted (codes "join") (shape (nth vs 1)) c.in_ok-many.many = subst (λ s. IsCounted (codes "join") s c.in_ok-many.many) c.argument_shape.ensures c.in_ok-many.ensures in
    let r : c.from_residual-in_err-text.result ≡ Err c.in_err-text.field-0.0 = search rules in
    subst (Answers joins c.args.arguments.now W W) (sym r) (join_faults W W c.args.arguments.now c.in_ok-id.id c.in_ok-many.many c.in_ok-id.ensures n c.in_err-text.field-0.0 c.in_err-text.ensures)

pub returns-clause-answers : goal.returns-clause-answers
returns-clause-answers c =
    let W = c.args.world.now in
    let new = c.string.new.world in
    let vs = map (value W.strings) c.args.arguments.now in
    let n : IsCounted (codes "join") (shape (nth vs 1)) c.in_ok-many.many = subst (λ s. IsCounted (codes "join") s c.in_ok-many.many) c.argument_shape.ensures c.in_ok-many.ensures in
    let g : known (string c.in_ok-text.text.items) ≡ value new.strings c.in_ok-made.made = search rules in
    join_is vs (heap_of W) c.in_ok-id.id c.in_ok-many.many c.in_ok-id.ensures n c.in_ok-text.text.items c.in_ok-text.ensures.0 c.in_ok-text.ensures.1
    ∙ ap (λ H. done H (known (string c.in_ok-text.text.items) ∷ [])) (same_heap W new c.args.arguments.now c.string.ensures.kept)
    ∙ ap (λ v. done (heap_of new) (v ∷ [])) g
