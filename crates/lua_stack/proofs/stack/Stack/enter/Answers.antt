use Rattle.std.proofs.Common.{◌≡◌, ◌+◌, length, refl, ap, sym, subst, ◌∙◌, arith}
use Rattle.lua_stack.specs.declared.frame.Record.{Record}
use Rattle.lua_stack.specs.View.{AreOpen, IsStack, seen}
use Rattle.lua_stack.proofs.Parts.{length_put_all}
use Rattle.lua_stack.proofs.Pushed.{pushed_open}
use Rattle.lua_stack.proofs.Called.{enters, entered_stands, grown_seen, grown_stands, on_err}
use Rattle.lua_stack.proofs.stack.Stack.enter.Goals as goal

pub invariant_of-self-in_err-push_top : goal.invariant_of-self-in_err-push_top
invariant_of-self-in_err-push_top c =
    let i = c.self.invariant.0 in
    let p : c.behind.result.window.start ≡ c.self.inside.top.window.base + c.self.inside.top.window.size = ap (λ (r : Record). r.window.start) c.behind.ensures in
    let m : c.behind.result.window.marks ≡ c.self.inside.top.window.marks + c.self.inside.top.window.marked = ap (λ (r : Record). r.window.marks) c.behind.ensures in
    subst (λ below. IsStack c.grow.new.values.items c.self.inside.pending.items below c.self.inside.top × AreOpen below c.self.inside.top.kind c.self.inside.top.window c.self.inside.open_cells.items) (sym c.in_err-push_top.ensures.err)
    (grown_stands c.self.inside i c.behind.result.window.start c.behind.result.window.marks p m c.grow.new.values.items c.in_ok-grow.ensures.front c.in_ok-grow.ensures.longer, c.self.invariant.1)

pub returns-in_err-push_top-clause-err : goal.returns-in_err-push_top-clause-err
returns-in_err-push_top-clause-err c =
    let i = c.self.invariant.0 in
    let p : c.behind.result.window.start ≡ c.self.inside.top.window.base + c.self.inside.top.window.size = ap (λ (r : Record). r.window.start) c.behind.ensures in
    let m : c.behind.result.window.marks ≡ c.self.inside.top.window.marks + c.self.inside.top.window.marked = ap (λ (r : Record). r.window.marks) c.behind.ensures in
    on_err _ c.from_residual-in_err-push_top.result
    (ap (λ below. seen c.grow.new.values.items c.self.inside.pending.items below c.self.inside.top c.self.inside.open_cells.items) c.in_err-push_top.ensures.err
    ∙ grown_seen c.self.inside i c.behind.result.window.start c.behind.result.window.marks p m c.grow.new.values.items c.in_ok-grow.ensures.front c.in_ok-grow.ensures.longer c.args.self.now c.self.view_is)

pub lay_out-layout-requires-clause-room : goal.lay_out-layout-requires-clause-room
lay_out-layout-requires-clause-room c =
    let w : length c.put.new.values.items ≡ length c.grow.new.values.items = ap length c.put.ensures ∙ length_put_all c.args.arguments.now c.grow.new.values.items c.behind.result.window.start in
    omega (arith, w, c.in_ok-grow.ensures.room, c.in_ok-end.ensures, c.in_ok-end_of.ensures)

pub invariant_of-self-2 : goal.invariant_of-self-2
invariant_of-self-2 c =
    let i = c.self.invariant.0 in
    let a = c.in_ok-grow.ensures.room in
    let b = c.in_ok-end.ensures in
    let d = c.in_ok-end_of.ensures in (
      entered_stands c.self.inside i c.behind.result.window.start c.behind.result.window.marks (ap (λ (r : Record). r.window.start) c.behind.ensures) (ap (λ (r : Record). r.window.marks) c.behind.ensures) c.grow.new.values.items c.in_ok-grow.ensures.front c.in_ok-grow.ensures.longer c.args.arguments.now c.put.new.values.items
          c.lay_out-layout.new.values.items c.push_top.new.below.items c.args.shape c.args.function c.lay_out-layout.result c.begun-self-inside.result c.put.ensures (omega (arith, a, b, d)) c.in_ok-push_top.ensures.ok c.lay_out-layout.ensures c.begun-self-inside.ensures,
      pushed_open c.self.inside c.push_top.new.below.items c.begun-self-inside.result c.self.invariant.1 c.in_ok-push_top.ensures.ok,
    )

pub returns-clause-frames : goal.returns-clause-frames
returns-clause-frames c =
    let i = c.self.invariant.0 in
    let a = c.in_ok-grow.ensures.room in
    let b = c.in_ok-end.ensures in
    let d = c.in_ok-end_of.ensures in
    enters c.self.inside i c.behind.result.window.start c.behind.result.window.marks (ap (λ (r : Record). r.window.start) c.behind.ensures) (ap (λ (r : Record). r.window.marks) c.behind.ensures) c.grow.new.values.items c.in_ok-grow.ensures.front c.in_ok-grow.ensures.longer c.args.arguments.now c.put.new.values.items
    c.lay_out-layout.new.values.items c.push_top.new.below.items c.args.shape c.args.function c.lay_out-layout.result c.begun-self-inside.result c.put.ensures (omega (arith, a, b, d)) c.in_ok-push_top.ensures.ok c.lay_out-layout.ensures c.begun-self-inside.ensures
    c.args.self.now _ c.self.view_is c.requires refl
