use Rattle.std.proofs.Common.{◌≡◌, ◌∙◌, sym, ap}
use Rattle.code_core.specs.Prototype.{list_of}
use Rattle.prelude_guard.proofs.Listed.{list_of_prototypes}
use Rattle.prelude_guard.proofs.guard.inner_of.Goals as goal

pub returns : goal.returns
returns c =
    let listed : list_of c.args.proto.now.inner ≡ c.deref.result.now =
    ap (λ p. list_of p.inner) (sym c.proto.view_is) ∙ (list_of_prototypes c.proto.inside.protos.items ∙ sym c.deref.ensures.value) in
    sym listed
