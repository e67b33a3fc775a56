use Rattle.std.proofs.Common.{rules, ◌≡◌, ◌-◌, length}
use Rattle.std.specs.Prelude.{slice_index_or}
use Rattle.lua_scope.proofs.Lookups.{no_last, moved_last}
use Rattle.lua_scope.proofs.labels.move_to.Goals as goal

pub returns-then-count-eq0 : goal.returns-then-count-eq0
returns-then-count-eq0 c =
    let none : length c.args.blocks.now.items ≡ 0 = search rules in
    λ front block e. absurd (no_last c.args.blocks.now.items front block e none)

pub returns : goal.returns
returns c =
    let xs = c.args.blocks.now.items in
    let size : c.len-count.result ≡ length c.args.blocks.now.items = search rules in
    let read : c.index_mut.result.now ≡ slice_index_or c.args.blocks.now.items (c.len-count.result - 1) c.index_mut.result.now = search rules in
    λ front block e. moved_last xs front block c.index_mut.result.now c.move_to.new.self c.len-count.result c.args.before c.args.behind e size read c.move_to.ensures
