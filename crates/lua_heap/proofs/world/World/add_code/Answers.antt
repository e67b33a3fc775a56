use Rattle.std.proofs.Common.{rules, ap}
use Rattle.lua_heap.specs.declared.world.World.{World as Memory}
use Rattle.lua_heap.specs.Adding.{KeepsCode}
use Rattle.lua_heap.proofs.Added.{adds_code, keeps_code}
use Rattle.lua_heap.proofs.world.World.add_code.Goals as goal

pub returns-clause-added : goal.returns-clause-added
returns-clause-added c =
    adds_code c.args.self.now _ (record { first = c.in_ok-id.id.0; code = c.args.code }) c.requires (search rules) c.in_ok-id.ensures.strings c.in_ok-id.ensures.trees c.in_ok-id.ensures.id
    c.in_ok-id.ensures.list

pub returns-in_err-id-clause-err : goal.returns-in_err-id-clause-err
returns-in_err-id-clause-err c =
    let old : Memory = c.args.self.now in
    let e = c.in_err-id.ensures in
    let k : KeepsCode old (record old { strings = c.add.new.strings; codes = c.add.new.self }) =
    keeps_code old _ (ap (λ texts. record old { strings = texts; codes = c.add.new.self }) e.err_strings) e.err_trees e.err_list in
    search (rules, k)
