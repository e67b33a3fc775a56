use Rattle.std.proofs.Common.{refl, sym, subst}
use Rattle.std.specs.Prelude.{map}
use Rattle.lua_heap.specs.Reading.{value as meant}
use Rattle.machine_core.specs.Moves.{calls_primitive}
use Rattle.machine_asked.specs.Asked.{EntersAsked}
use Rattle.machine_asked.proofs.AskedFor.{asked_prim}
use Rattle.machine_asked.proofs.asked.enter_asked.Goals as goal

pub returns-in-Prim-clause-enters : goal.returns-in-Prim-clause-enters
returns-in-Prim-clause-enters c =
    let W = c.args.world.now in
    let new = record W { moving = c.args.arguments } in
    let vs = map (meant W.strings) c.args.arguments.items in
    subst (λ v. EntersAsked W new (meant W.strings v) vs (calls_primitive c.in-Prim.n)) (sym c.in-Prim.is) (asked_prim W new c.in-Prim.n vs (λ fuel. refl))
