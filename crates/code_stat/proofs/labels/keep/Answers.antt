use Rattle.std.proofs.Common.{rules, ◌≡◌, [], ◌∷◌, ◌++◌}
use Rattle.code_stat.specs.declared.jumps.Passed.{Passed}
use Rattle.code_stat.proofs.Leading.{kept}
use Rattle.code_stat.proofs.labels.keep.Goals as goal

pub returns : goal.returns
returns c =
    let x : Passed = record { name = c.of-copy.result; landing = c.args.here } in
    let items : c.push.new.self.items ≡ c.args.passed.now.items ++ x ∷ [] = search rules in
    let text : c.of-copy.result ≡ c.args.name.now.text = search rules in
    kept c.args.passed.now.items c.push.new.self.items x c.args.name.now.text items text
