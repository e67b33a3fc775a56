use Rattle.std.proofs.Common.{◌≡◌, ◌∙◌, sym, ap}
use Rattle.code_core.specs.Prototype.{list_of}
use Rattle.chunk_check.proofs.PlaceLemmas.{list_of_prototypes}
use Rattle.chunk_check.proofs.constants.function_there.Goals as goal

pub returns-in-Closure : goal.returns-in-Closure
returns-in-Closure c =
    let listed : list_of c.args.proto.now.inner ≡ c.deref.result.now =
    ap (λ p. list_of p.inner) (sym c.proto.view_is) ∙ (list_of_prototypes c.proto.inside.protos.items ∙ sym c.deref.ensures.value) in
    rw (c.in-Closure.is, listed, ← c.bx.ensures) c.is_function_there.ensures
