use Rattle.std.proofs.Common.{arith, rules, ◌≡◌, ◌≤◌, ◌<◌, ◌∙◌, max, refl}
use Rattle.std.specs.Prelude.{nat_lt}
use Rattle.lua_scope.proofs.Lookups.{fine_before, found_behind}
use Rattle.lua_scope.proofs.labels.IndexedBlock.find_from.Goals as goal

pub returns-then-passed : goal.returns-then-passed
returns-then-passed c =
    let less : c.args.label.at < c.self.inside.place.before = search (arith, rules) in
    fine_before c.args.text.now c.self.inside.place c.args.self.now c.args.label c.self.view_is c.requires less

pub returns : goal.returns
returns c =
    let far : c.self.inside.place.before ≤ c.args.label.at = search (arith, rules) in
    let start : c.max-start.result ≡ max c.self.inside.place.behind c.args.label.at = search rules in
    let p = c.self.inside.place in
    c.find_behind.ensures
    ∙ found_behind c.args.text.now p c.args.self.now c.args.label c.max-start.result (nat_lt p.behind c.args.label.declared) c.self.view_is c.requires far start refl
