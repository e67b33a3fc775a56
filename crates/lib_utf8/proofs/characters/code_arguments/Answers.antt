use Rattle.std.proofs.Common.{◌≡◌, ◌+◌, ◌<◌, ◌++◌, ◌∷◌, [], ℕ, length, get_or, List, Ok, Err, rules, arith, ap, sym, subst, ◌∙◌}
use Rattle.int_core.specs.Value.{string}
use Rattle.library_rows.specs.Arguments.{one}
use Rattle.library_arguments.specs.declared.refusal.Fault.TheVariants.{Refused}
use Rattle.library_arguments.specs.declared.shape.Shape.TheVariants.{Nil}
use Rattle.library_arguments.specs.Refusals.{refusal_text}
use Rattle.library_arguments.specs.Shapes.{shape_of}
use Rattle.lib_utf8.specs.Codes.{code_argument}
use Rattle.lib_utf8.proofs.Encodings.{AreEncoded, one_more_code, no_code, small_end}
use Rattle.lib_utf8.proofs.characters.code_arguments.Goals as goal

pub returns-in_err-code-clause-read : goal.returns-in_err-code-clause-read
returns-in_err-code-clause-read c =
    let at : c.loop-shape.place ≡ c.loop-shape.shape-index = c.loop-shape.invariant.0 in
    let shape = shape_of (get_or c.args.shapes.now c.loop-shape.shape-index Nil) in
    let why : code_argument (c.loop-shape.shape-index + 1) shape ≡ Err (refusal_text c.in_err-code.field-0.0) =
    ap (λ place. code_argument (place + 1) shape) (sym at) ∙ c.in_err-code.ensures.read in
    let refused : c.from_residual-in_err-code.result ≡ Err (Refused c.in_err-code.field-0.0) = search rules in
    rw refused (no_code c.args.shapes.now c.loop-shape.shape-index c.loop-shape.codes.items Nil c.loop-shape.invariant.1 c.loop-shape-test.true (refusal_text c.in_err-code.field-0.0) (λ bytes. one (string bytes)) why)

pub loop-shape-preserved : goal.loop-shape-preserved
loop-shape-preserved c =
    let at : c.loop-shape.place ≡ c.loop-shape.shape-index = c.loop-shape.invariant.0 in
    let shape = shape_of (get_or c.args.shapes.now c.loop-shape.shape-index Nil) in
    let code : code_argument (c.loop-shape.shape-index + 1) shape ≡ Ok c.in_ok-code.code = ap (λ place. code_argument (place + 1) shape) (sym at) ∙ c.in_ok-code.ensures.read in
    let more = one_more_code c.args.shapes.now c.loop-shape.shape-index c.loop-shape.codes.items Nil c.loop-shape.invariant.1 c.loop-shape-test.true c.in_ok-code.code code in
    let small = small_end c.loop-shape.codes.items c.in_ok-code.code c.loop-shape.invariant.2 c.in_ok-code.ensures.small in
    let items : c.push.new.self.items ≡ c.loop-shape.codes.items ++ c.in_ok-code.code ∷ [] = search rules in (
      omega arith,
      subst (λ codes. AreEncoded c.args.shapes.now (c.loop-shape.shape-index + 1) codes) (sym items) more,
      subst (λ (codes : List ℕ). (k : ℕ) → k < length codes → get_or codes k 0 < 2147483648) (sym items) small,
    )
