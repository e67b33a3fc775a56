use Rattle.std.proofs.Common.{rules, ◌≡◌, true, ◌∙◌}
use Rattle.std.specs.Prelude.{reverse}
use Rattle.lua_stack.specs.Frames.{kept_catcher, top_is}
use Rattle.lua_stack.specs.View.{is_lua}
use Rattle.lua_stack.proofs.ClosingTop.{catcher_under}
use Rattle.lua_stack.proofs.Told.{catcher_tells}
use Rattle.lua_stack.proofs.stack.Stack.catcher.Goals as goal

pub returns-then-is_lua : goal.returns-then-is_lua
returns-then-is_lua c =
    let t : is_lua c.self.inside.top.kind ≡ true = search rules in
    let e : c.catcher_in.result ≡ top_is (kept_catcher (reverse c.args.self.now.frames)) =
    c.catcher_in.ensures ∙ catcher_under c.self.inside c.args.self.now c.deref.result.now c.self.view_is c.self.invariant.0 t c.deref.ensures.value in
    record { frame = e; told = catcher_tells c.args.self.now c.catcher_in.result e }
