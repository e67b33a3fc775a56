use Rattle.std.proofs.Common.{rules, ◌≡◌, ◌+◌, ◌-◌, min, length, ap, ◌∙◌, refl, arith}
use Rattle.std.specs.Prelude.{cond}
use Rattle.lua_stack.specs.View.{part}
use Rattle.lua_stack.proofs.Parts.{length_put_all}
use Rattle.lua_stack.proofs.LaidOut.{laid_in_place, laid_behind}
use Rattle.lua_stack.proofs.calls.lay_out.Goals as goal

pub returns-then-extra_of-eq0 : goal.returns-then-extra_of-eq0
returns-then-extra_of-eq0 c =
    let z : cond c.args.shape.vararg (c.args.given - c.args.shape.params) 0 ≡ 0 = search rules in
    let m : c.min-count.result ≡ min c.args.given c.args.shape.params = search rules in
    laid_in_place c.args.values.now.items c.clear.new.values.items c.args.place c.args.given c.args.shape c.requires.params c.requires.room c.min-count.result (c.args.place + c.min-count.result) z m refl c.clear.ensures

pub clear-requires-2 : goal.clear-requires-2
clear-requires-2 c =
    let n : length c.copy.new.values.items ≡ length c.args.values.now.items = ap length c.copy.ensures ∙ length_put_all (part c.args.place c.args.shape.params c.args.values.now.items) c.args.values.now.items (c.args.place + c.args.given) in
    let r = c.requires.room in
    let p = c.requires.params in
    omega (arith, n, r, p)

pub returns : goal.returns
returns c =
    let e : c.extra_of.result ≡ cond c.args.shape.vararg (c.args.given - c.args.shape.params) 0 = c.extra_of.ensures in
    laid_behind c.args.values.now.items c.clear-2.new.values.items c.args.place c.args.given c.args.shape c.requires.params c.requires.room (c.args.place + c.args.given) (c.args.place + c.args.given + c.args.shape.params)
    c.copy.new.values.items (λ z. c.if-extra_of-eq0.false (e ∙ z)) refl refl c.copy.ensures c.clear-2.ensures
