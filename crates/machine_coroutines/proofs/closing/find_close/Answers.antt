use Rattle.std.proofs.Common.{[], ◌∷◌, ap, sym, ◌∙◌}
use Rattle.int_core.specs.Operations.{handler_in, of_close}
use Rattle.lua_heap.specs.Plain.{plain}
use Rattle.lua_heap.specs.Reading.{value as meant}
use Rattle.machine_core.specs.Text.{arg}
use Rattle.machine_core.specs.Moves.{made}
use Rattle.machine_coroutines.proofs.closing.find_close.Goals as goal

pub returns : goal.returns
returns c = λ env v e q. record {
  is = λ fuel.
      let W = c.args.world.now in
      let V = plain W fuel in
      ap (λ x. made V (handler_in V.heap of_close x ∷ x ∷ arg env e ∷ []) tt) q
      ∙ ap (λ h. made V (h ∷ meant W.strings c.args.value ∷ arg env e ∷ []) tt) (sym c.handler_in.ensures);
}
