use Rattle.std.proofs.Common.{rules, ◌≡◌, ◌-◌, suc, true, false, length, take, Some, ap, sym, ◌∙◌, arith}
use Rattle.std.specs.Prelude.{slice_get}
use Rattle.lua_stack.specs.View.{stands_below}
use Rattle.lua_stack.proofs.OpenCells.{none_taken, taken_is}
use Rattle.lua_stack.proofs.cells.take_from.Goals as goal

pub returns-then-stands_below-clause-none : goal.returns-then-stands_below-clause-none
returns-then-stands_below-clause-none c =
    let e : suc (c.len-count.result - 1) ≡ length c.args.cells.now.items = search (arith, rules) in
    let g : slice_get c.args.cells.now.items (c.len-count.result - 1) ≡ Some c.item_at-last.result = search rules in
    let t : true ≡ stands_below c.args.frame c.args.register c.item_at-last.result = search rules in
    none_taken c.args.frame c.args.register (c.len-count.result - 1) c.args.cells.now.items c.item_at-last.result c.requires e g t

pub returns-clause-taken : goal.returns-clause-taken
returns-clause-taken c =
    let e : suc (c.len-count.result - 1) ≡ length c.args.cells.now.items = search (arith, rules) in
    let g : slice_get c.args.cells.now.items (c.len-count.result - 1) ≡ Some c.item_at-last.result = search rules in
    let q : c.pop.new.self.items ≡ take (c.len-count.result - 1) c.args.cells.now.items = c.pop.ensures.rest ∙ ap (λ n. take (n - 1) c.args.cells.now.items) (sym c.len-count.ensures) in
    let f : false ≡ stands_below c.args.frame c.args.register c.item_at-last.result = search rules in
    taken_is c.args.frame c.args.register (c.len-count.result - 1) c.args.cells.now.items c.pop.new.self.items c.item_at-last.result e g q f
