use Rattle.std.proofs.Common.{◌≡◌, ◌-◌, take, drop, ap, ◌∙◌, arith}
use Rattle.lua_stack.proofs.Own.{all_read}
use Rattle.lua_stack.proofs.stack.Stack.registers.Goals as goal

pub returns : goal.returns
returns c =
    let w = c.self.inside.top.window in
    let n : c.place_of-end.result - w.base ≡ w.kept = (let e = c.place_of-end.ensures in let k = c.self.invariant.0.whole in omega (arith, e, k)) in
    all_read c.self.inside c.args.self.now _ c.self.view_is c.self.invariant.0
    (ap (λ k. take k (drop w.base c.deref.result.now)) n ∙ ap (λ xs. take w.kept (drop w.base xs)) c.deref.ensures.value)
