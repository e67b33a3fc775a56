use Rattle.std.proofs.Common.{rules, ◌≡◌, ◌∷◌, refl, ap}
use Rattle.lua_heap.specs.declared.world.World.{World as Memory}
use Rattle.machine_calls.proofs.Asked.{asks_so}
use Rattle.machine_calls.proofs.waiting.ask_over.Goals as goal

pub returns-clause-leads : goal.returns-clause-leads
returns-clause-leads c =
    let items : c.insert.new.self.items ≡ c.args.called ∷ c.args.arguments.items = search rules in
    asks_so c.args.world.now c.make_ready.new.world (record c.make_ready.new.world { moving = c.insert.new.self }) c.args.called c.args.arguments.items c.args.wait c.args.prepared
    c.requires.ready.place c.requires.ready.is c.make_ready.ensures.ready (ap (λ (W : Memory). W.strings) c.make_ready.ensures.rest) items (λ fuel. refl)
