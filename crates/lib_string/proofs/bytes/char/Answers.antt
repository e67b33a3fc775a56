use Rattle.std.proofs.Common.{◌≡◌, ◌+◌, ◌++◌, ◌∷◌, [], get_or, List, Ok, Err, rules, arith, ap, sym, subst, ◌∙◌}
use Rattle.std.specs.Prelude.{ℕ}
use Rattle.int_core.specs.Value.{string}
use Rattle.library_rows.specs.Arguments.{one}
use Rattle.library_rows.specs.Plainly.{Outcome}
use Rattle.library_arguments.specs.declared.refusal.Fault.TheVariants.{Refused}
use Rattle.library_arguments.specs.declared.shape.Shape.TheVariants.{Nil}
use Rattle.library_arguments.specs.Answers.{within_limit}
use Rattle.library_arguments.specs.Refusals.{refusal_text}
use Rattle.library_arguments.specs.Shapes.{shape_of}
use Rattle.lib_string.specs.Bytes.{byte_argument}
use Rattle.lib_string.proofs.Chars.{AreChars, one_more_char, no_char}
use Rattle.lib_string.proofs.bytes.char.Goals as goal

pub returns-in_err-byte : goal.returns-in_err-byte
returns-in_err-byte c =
    let at : c.loop-shape.place ≡ c.loop-shape.shape-index = c.loop-shape.invariant.0 in
    let shape = shape_of (get_or c.args.shapes.now c.loop-shape.shape-index Nil) in
    let why : byte_argument (c.loop-shape.shape-index + 1) shape ≡ Err (refusal_text c.in_err-byte.field-0.0) =
    ap (λ place. byte_argument (place + 1) shape) (sym at) ∙ c.in_err-byte.ensures in
    let refused : c.from_residual-in_err-byte.result ≡ Err (Refused c.in_err-byte.field-0.0) = search rules in
    rw refused (ap within_limit (no_char c.args.shapes.now c.loop-shape.shape-index c.loop-shape.bytes.items Nil c.loop-shape.invariant.1 c.loop-shape-test.true (refusal_text c.in_err-byte.field-0.0) (λ bytes. one (string bytes)) why))

pub loop-shape-preserved : goal.loop-shape-preserved
loop-shape-preserved c =
    let at : c.loop-shape.place ≡ c.loop-shape.shape-index = c.loop-shape.invariant.0 in
    let shape = shape_of (get_or c.args.shapes.now c.loop-shape.shape-index Nil) in
    let byte : byte_argument (c.loop-shape.shape-index + 1) shape ≡ Ok c.in_ok-byte.byte = ap (λ place. byte_argument (place + 1) shape) (sym at) ∙ c.in_ok-byte.ensures in
    let more = one_more_char c.args.shapes.now c.loop-shape.shape-index c.loop-shape.bytes.items Nil c.loop-shape.invariant.1 c.loop-shape-test.true c.in_ok-byte.byte byte in
    let items : c.push.new.self.items ≡ c.loop-shape.bytes.items ++ c.in_ok-byte.byte ∷ [] = search rules in
    (omega arith, subst (λ bytes. AreChars c.args.shapes.now (c.loop-shape.shape-index + 1) bytes) (sym items) more)
