use Rattle.std.proofs.Common.{rules, ◌≡◌, ◌+◌, ◌<◌, ap, sym, ◌∙◌, subst, length, drop, suc, Ok, Err, to_z, of_z, w64, arith}
use Rattle.std.proofs.lemmas.Int.{to_z-of_z}
use Rattle.std.proofs.lemmas.List.{length-map}
use Rattle.integer_functions.specs.Told.{better_of}
use Rattle.library_arguments.specs.Refusals.{refusal_text}
use Rattle.library_arguments.specs.Shapes.{shape_of, shapes_of}
use Rattle.library_rows.specs.Arguments.{argument, integer_argument}
use Rattle.library_rows.specs.Integers.{best, best_of}
use Rattle.pure_functions.specs.Math.{IsBest, better_than}
use Rattle.pure_functions.proofs.Bests.{best_refused, one_better, one_refused}
use Rattle.pure_functions.proofs.math.best.Goals as goal

pub returns-in_err-best : goal.returns-in_err-best
returns-in_err-best c =
    let ss = shapes_of c.args.shapes.now in
    let b = better_than c.args.wanted in
    let e : integer_argument c.args.function.now 1 (argument ss 1) ≡ Err (refusal_text c.in_err-best.field-0.0) = search rules in
    let r : c.from_residual.result ≡ Err c.in_err-best.field-0.0 = search rules in
    subst (IsBest (best_of b c.args.function.now ss)) (sym r) (best_refused b c.args.function.now ss (refusal_text c.in_err-best.field-0.0) e)

pub returns-in_err-next : goal.returns-in_err-next
returns-in_err-next c =
    let ss = shapes_of c.args.shapes.now in
    let n : length ss ≡ length c.args.shapes.now = length-map c.args.shapes.now shape_of in
    let h : c.loop-at.at < length c.args.shapes.now = search rules in
    let e : integer_argument c.args.function.now (c.loop-at.at + 1) (argument ss (c.loop-at.at + 1)) ≡ Err (refusal_text c.in_err-next.field-0.0) = search rules in
    let r : c.from_residual-in_err-next.result ≡ Err c.in_err-next.field-0.0 = search rules in
    subst (IsBest (best_of (better_than c.args.wanted) c.args.function.now ss)) (sym r) (c.loop-at.invariant ∙ one_refused (better_than c.args.wanted) c.args.function.now ss c.loop-at.at (to_z w64 c.loop-at.best-bits) (omega (arith, n, h)) (refusal_text c.in_err-next.field-0.0) e)

pub loop-at-preserved : goal.loop-at-preserved
loop-at-preserved c =
    let ss = shapes_of c.args.shapes.now in
    let b = better_than c.args.wanted in
    let n : length ss ≡ length c.args.shapes.now = length-map c.args.shapes.now shape_of in
    let h : c.loop-at.at < length c.args.shapes.now = search rules in
    let e : integer_argument c.args.function.now (c.loop-at.at + 1) (argument ss (c.loop-at.at + 1)) ≡ Ok c.in_ok-next.next = search rules in
    let best_so_far = to_z w64 c.loop-at.best-bits in
    let m : to_z w64 (of_z w64 c.in_ok-next.next) ≡ c.in_ok-next.next = search rules in
    let r : c.better-best.result ≡ better_of b best_so_far c.in_ok-next.next = c.better-best.ensures ∙ ap (better_of b best_so_far) m in
    let k : to_z w64 (of_z w64 c.better-best.result) ≡ c.better-best.result = to_z-of_z w64 c.better-best.result (record { sfits = c.better-best.type_inv }) in
    c.loop-at.invariant ∙ one_better b c.args.function.now ss c.loop-at.at best_so_far (omega (arith, n, h)) c.in_ok-next.next e
    ∙ ap (λ n. best b c.args.function.now (suc (c.loop-at.at + 1)) n (drop (c.loop-at.at + 1) ss)) (sym (k ∙ r))
