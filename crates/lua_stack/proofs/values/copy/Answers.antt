use Rattle.std.proofs.Common.{◌≡◌, ◌+◌, ◌-◌, ◌++◌, take, drop, ap, ◌∙◌, arith}
use Rattle.lua_stack.proofs.Parts.{copied}
use Rattle.lua_stack.proofs.values.copy.Goals as goal

pub returns : goal.returns
returns c =
    let n : c.args.from + c.args.count - c.args.from ≡ c.args.count = omega arith in
    let xs = c.args.values.now.items in
    copied xs c.copy_within.new.self.items c.args.from c.args.to c.args.count c.requires.from c.requires.to
    (c.copy_within.ensures.items ∙ ap (λ n. (take c.args.to xs ++ take n (drop c.args.from xs)) ++ drop (c.args.to + n) xs) n)
