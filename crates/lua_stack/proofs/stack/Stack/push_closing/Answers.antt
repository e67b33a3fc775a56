use Rattle.std.proofs.Common.{◌≡◌, ◌+◌, ap, sym, subst, ◌∙◌, arith}
use Rattle.lua_stack.specs.declared.frame.Record.{Record}
use Rattle.lua_stack.specs.View.{AreOpen, IsStack, seen}
use Rattle.lua_stack.proofs.Pushed.{pushed_open}
use Rattle.lua_stack.proofs.Called.{grown_seen, grown_stands, on_err}
use Rattle.lua_stack.proofs.ClosingTop.{closing_frames, closing_stands}
use Rattle.lua_stack.proofs.stack.Stack.push_closing.Goals as goal

pub invariant_of-self-in_err-push_top : goal.invariant_of-self-in_err-push_top
invariant_of-self-in_err-push_top c =
    let i = c.self.invariant.0 in
    let p : c.behind-next.result.window.start ≡ c.self.inside.top.window.base + c.self.inside.top.window.size = ap (λ (r : Record). r.window.start) c.behind-next.ensures in
    let m : c.behind-next.result.window.marks ≡ c.self.inside.top.window.marks + c.self.inside.top.window.marked = ap (λ (r : Record). r.window.marks) c.behind-next.ensures in
    subst (λ below. IsStack c.grow.new.values.items c.self.inside.pending.items below c.self.inside.top × AreOpen below c.self.inside.top.kind c.self.inside.top.window c.self.inside.open_cells.items) (sym c.in_err-push_top.ensures.err)
    (grown_stands c.self.inside i c.behind-next.result.window.start c.behind-next.result.window.marks p m c.grow.new.values.items c.in_ok-grow.ensures.front c.in_ok-grow.ensures.longer, c.self.invariant.1)

pub returns-in_err-push_top-clause-err : goal.returns-in_err-push_top-clause-err
returns-in_err-push_top-clause-err c =
    let i = c.self.invariant.0 in
    let p : c.behind-next.result.window.start ≡ c.self.inside.top.window.base + c.self.inside.top.window.size = ap (λ (r : Record). r.window.start) c.behind-next.ensures in
    let m : c.behind-next.result.window.marks ≡ c.self.inside.top.window.marks + c.self.inside.top.window.marked = ap (λ (r : Record). r.window.marks) c.behind-next.ensures in
    on_err _ c.from_residual-in_err-push_top.result
    (ap (λ below. seen c.grow.new.values.items c.self.inside.pending.items below c.self.inside.top c.self.inside.open_cells.items) c.in_err-push_top.ensures.err
    ∙ grown_seen c.self.inside i c.behind-next.result.window.start c.behind-next.result.window.marks p m c.grow.new.values.items c.in_ok-grow.ensures.front c.in_ok-grow.ensures.longer c.args.self.now c.self.view_is)

pub invariant_of-self-2 : goal.invariant_of-self-2
invariant_of-self-2 c =
    let i = c.self.invariant.0 in
    let p : c.behind-next.result.window.start ≡ c.self.inside.top.window.base + c.self.inside.top.window.size = ap (λ (r : Record). r.window.start) c.behind-next.ensures in
    let m : c.behind-next.result.window.marks ≡ c.self.inside.top.window.marks + c.self.inside.top.window.marked = ap (λ (r : Record). r.window.marks) c.behind-next.ensures in
    let a = c.in_ok-grow.ensures.room in
    let b = c.in_ok-end.ensures in (
      closing_stands c.self.inside i c.behind-next.result.window.start c.behind-next.result.window.marks p m c.grow.new.values.items c.in_ok-grow.ensures.front c.in_ok-grow.ensures.longer c.args.left.now c.put.new.values.items
          c.put.ensures (omega (arith, a, b)) c.args.error c.push_top.new.below.items c.behind-next.result c.with_values-self-inside.result c.in_ok-push_top.ensures.ok c.behind-next.ensures c.with_values-self-inside.ensures,
      pushed_open c.self.inside c.push_top.new.below.items c.with_values-self-inside.result c.self.invariant.1 c.in_ok-push_top.ensures.ok,
    )

pub returns-clause-frames : goal.returns-clause-frames
returns-clause-frames c =
    let i = c.self.invariant.0 in
    let p : c.behind-next.result.window.start ≡ c.self.inside.top.window.base + c.self.inside.top.window.size = ap (λ (r : Record). r.window.start) c.behind-next.ensures in
    let m : c.behind-next.result.window.marks ≡ c.self.inside.top.window.marks + c.self.inside.top.window.marked = ap (λ (r : Record). r.window.marks) c.behind-next.ensures in
    let a = c.in_ok-grow.ensures.room in
    let b = c.in_ok-end.ensures in
    closing_frames c.self.inside i c.behind-next.result.window.start c.behind-next.result.window.marks p m c.grow.new.values.items c.in_ok-grow.ensures.front c.in_ok-grow.ensures.longer c.args.left.now c.put.new.values.items
    c.put.ensures (omega (arith, a, b)) c.args.error c.push_top.new.below.items c.behind-next.result c.with_values-self-inside.result c.in_ok-push_top.ensures.ok c.behind-next.ensures c.with_values-self-inside.ensures c.args.self.now c.self.view_is
