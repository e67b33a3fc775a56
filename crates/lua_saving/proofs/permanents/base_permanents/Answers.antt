use Rattle.std.proofs.Common.{map}
use Rattle.graph_core.specs.Permanents.{permanents}
use Rattle.lua_saving.proofs.Keys.{all_added}
use Rattle.lua_saving.proofs.permanents.base_permanents.Goals as goal

pub returns : goal.returns
returns c =
    all_added (permanents c.new-all.result) (permanents c.add_all.new.all) (permanents c.add_all-2.new.all) (map (λ k. k.now) c.names.result.now) (map (λ k. k.now) c.functions.result.now)
    c.new-all.ensures c.in_ok-add_all.ensures c.names.ensures c.in_ok-add_all-2.ensures c.functions.ensures
