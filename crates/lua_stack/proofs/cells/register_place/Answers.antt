use Rattle.std.proofs.Common.{rules, ◌≡◌, ◌+◌, ◌≤◌, length, ap, sym, subst, ◌∙◌, arith}
use Rattle.lua_stack.specs.declared.frame.Window.{Window}
use Rattle.lua_stack.specs.View.{window_at}
use Rattle.lua_stack.proofs.OpenCells.{window_or, window_top}
use Rattle.lua_stack.proofs.cells.register_place.Goals as goal

pub place_of-requires : goal.place_of-requires
place_of-requires c =
    let l = c.requires.inside in
    subst (λ (w : Window). w.base + c.args.register ≤ c.args.room) (sym (window_or c.args.below.now c.args.top c.args.frame _ c.if-frame-below.true)) (omega (arith, l))

pub returns-then-frame-below : goal.returns-then-frame-below
returns-then-frame-below c =
    let e : c.place_of.result ≡ (window_at c.args.below.now c.args.top c.args.frame).base + c.args.register = c.place_of.ensures ∙ ap (λ (w : Window). w.base + c.args.register) (window_or c.args.below.now c.args.top c.args.frame _ c.if-frame-below.true) in
    let l = c.requires.inside in
    record { is = e; within = omega (arith, e, l) }

pub place_of-requires-2 : goal.place_of-requires-2
place_of-requires-2 c =
    let l = c.requires.inside in
    let e : c.args.frame ≡ length c.args.below.now = search (arith, rules) in
    subst (λ (w : Window). w.base + c.args.register ≤ c.args.room) (sym (window_top c.args.below.now c.args.top c.args.frame e)) (omega (arith, l))

pub returns : goal.returns
returns c =
    let n : c.args.frame ≡ length c.args.below.now = search (arith, rules) in
    let e : c.place_of-2.result ≡ (window_at c.args.below.now c.args.top c.args.frame).base + c.args.register = c.place_of-2.ensures ∙ ap (λ (w : Window). w.base + c.args.register) (window_top c.args.below.now c.args.top c.args.frame n) in
    let l = c.requires.inside in
    record { is = e; within = omega (arith, e, l) }
