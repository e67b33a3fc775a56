use Rattle.std.proofs.Common.{[], ◌∷◌, ap, map, ◌∙◌}
use Rattle.int_core.specs.Value.{nth}
use Rattle.frame_calls.proofs.returning.first_two.Goals as goal

pub returns : goal.returns
returns c = λ f z.
    ap (λ v. v ∷ nth (map f c.args.values.now) 1 ∷ []) (c.value_or_nil-first.ensures f z)
    ∙ ap (λ v. f c.value_or_nil-first.result ∷ v ∷ []) (c.value_or_nil-second.ensures f z)
