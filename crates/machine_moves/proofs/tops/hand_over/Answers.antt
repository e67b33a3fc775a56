use Rattle.std.proofs.Common.{[], ◌++◌, sym, subst}
use Rattle.lua_heap.specs.Plain.{plain}
use Rattle.machine_core.specs.FrameRows.{handed}
use Rattle.machine_core.specs.Moves.{runs_main}
use Rattle.move_laws.specs.Memory.{Leads}
use Rattle.move_laws.proofs.Rows.{first, ended}
use Rattle.machine_moves.specs.Ending.{ending_of}
use Rattle.machine_moves.proofs.tops.hand_over.Goals as goal

pub returns : goal.returns
returns c = λ env.
    let W = c.args.world.now in
    first (λ _ top. handed top) (c.see_top.ensures.makes env)
    (subst (λ row. Leads row (env ++ []) W W (ending_of c.handed.result)) (sym (c.handed.ensures.ends (runs_main (plain W 0)))) ended)
