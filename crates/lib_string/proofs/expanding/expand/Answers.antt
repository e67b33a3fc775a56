use Rattle.std.proofs.Common.{◌≡◌, ◌+◌, ◌≤◌, ◌∷◌, ◌++◌, length, false, true, sym, ap, ◌∙◌, subst, arith, rules}
use Rattle.int_core.specs.Value.{greatest_string}
use Rattle.std.specs.Prelude.{◌==◌}
use Rattle.std.proofs.lemmas.Bool.Decides.{nat_tests}
use Rattle.library_arguments.specs.Shapes.{bytes_in, shapes_of}
use Rattle.lib_string.proofs.Expansions.{IsExpandedSoFar, literal_fits, escape_fits}
use Rattle.lib_string.proofs.expanding.expand.Goals as goal

pub loop-byte-preserved-then-byte-ne37 : goal.loop-byte-preserved-then-byte-ne37
loop-byte-preserved-then-byte-ne37 c =
    let cs = shapes_of c.args.captures.now in
    let front : c.loop-byte.rest.now ≡ c.in-Some.byte.now ∷ c.in-Some.behind.now = search rules in
    let other : (c.in-Some.byte.now == 37) ≡ false = grind (arith, nat_tests) in
    subst (λ t. IsExpandedSoFar cs c.args.replacement.now c.in-Some.behind.now t) (sym c.in_ok-push.ensures.joined)
    (literal_fits cs c.args.replacement.now c.loop-byte.rest.now c.loop-byte.text c.loop-byte.invariant c.in-Some.byte.now c.in-Some.behind.now front other c.in_ok-push.ensures.fits)

pub loop-byte-preserved : goal.loop-byte-preserved
loop-byte-preserved c =
    let cs = shapes_of c.args.captures.now in
    let front : c.loop-byte.rest.now ≡ c.in-Some.byte.now ∷ c.in-Some.behind.now = search rules in
    let second : c.in-Some.behind.now ≡ c.in-Some-split_first.code.now ∷ c.in-Some-split_first.behind.now = search rules in
    let same : (c.in-Some.byte.now == 37) ≡ true = grind (arith, nat_tests) in
    let joined : c.push-in-Some.new.text ≡ c.loop-byte.text ++ bytes_in c.in_ok-piece.piece = c.in_ok-push-2.ensures.joined ∙ ap (λ bytes. c.loop-byte.text ++ bytes) c.as_slice.ensures in
    let fits : length c.loop-byte.text + length (bytes_in c.in_ok-piece.piece) ≤ greatest_string = omega (arith, c.in_ok-push-2.ensures.fits, ap length c.as_slice.ensures) in
    subst (λ t. IsExpandedSoFar cs c.args.replacement.now c.in-Some-split_first.behind.now t) (sym joined)
    (escape_fits cs c.args.replacement.now c.loop-byte.rest.now c.loop-byte.text c.loop-byte.invariant c.in-Some.byte.now c.in-Some.behind.now front same c.in-Some-split_first.code.now c.in-Some-split_first.behind.now second (bytes_in c.in_ok-piece.piece) c.in_ok-piece.ensures fits)
