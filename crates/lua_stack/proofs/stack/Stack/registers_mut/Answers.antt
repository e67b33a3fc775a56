use Rattle.std.proofs.Common.{◌≡◌, ◌-◌, take, drop, refl, ap, ◌∙◌, arith}
use Rattle.lua_stack.proofs.Own.{all_read}
use Rattle.lua_stack.proofs.Lent.{lent}
use Rattle.lua_stack.proofs.stack.Stack.registers_mut.Goals as goal

pub returns : goal.returns
returns c =
    let w = c.self.inside.top.window in
    let n : c.place_of-end.result - w.base ≡ w.kept = (let e = c.place_of-end.ensures in let k = c.self.invariant.0.whole in omega (arith, e, k)) in (
      (refl, λ v. lent c.self.inside c.args.self.now v _ c.self.view_is c.self.invariant.0 c.requires c.self.inside.values.ok.0),
      record {
        writes_back = tt;
        registers = all_read c.self.inside c.args.self.now _ c.self.view_is c.self.invariant.0 (c.slice_mut.ensures.value ∙ ap (λ k. take k (drop w.base c.self.inside.values.items)) n);
      },
    )
