use Rattle.std.proofs.Common.{refl, arith}
use Rattle.std.specs.Prelude.{filter, nat_lt}
use Rattle.lua_stack.proofs.TopMarks.{remarked_open, remarked_stands, top_marked}
use Rattle.lua_stack.proofs.stack.Stack.drop_pending.Goals as goal

pub invariant_of-self : goal.invariant_of-self
invariant_of-self c =
    let l = c.self.invariant.0.within.marks_end in
    let k = c.keep_below-self-inside.ensures.fewer in
    let n = c.keep_below-self-inside.ensures.size in (
      remarked_stands c.self.inside c.keep_below-self-inside.new.pending.items c.keep_below-self-inside.result c.self.invariant.0 (omega (arith, l, k, n)),
      remarked_open c.self.inside c.keep_below-self-inside.result c.self.invariant.1,
    )

pub returns : goal.returns
returns c =
    top_marked c.self.inside c.args.self.now _ c.keep_below-self-inside.new.pending.items c.keep_below-self-inside.result (filter (λ q. nat_lt q c.args.register)) c.self.view_is c.self.invariant.0 c.requires refl
    c.keep_below-self-inside.ensures.front c.keep_below-self-inside.ensures.kept
