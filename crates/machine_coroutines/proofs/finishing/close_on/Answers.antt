use Rattle.std.proofs.Common.{[]}
use Rattle.std.specs.Prelude.{map}
use Rattle.lua_heap.specs.Reading.{value}
use Rattle.machine_core.specs.FrameRows.{closing_row}
use Rattle.move_laws.proofs.Rows.{first}
use Rattle.machine_coroutines.proofs.Closed.{still_closing}
use Rattle.machine_coroutines.proofs.finishing.close_on.Goals as goal

pub close_next-requires-clause-closing : goal.close_next-requires-clause-closing
close_next-requires-clause-closing c = still_closing c.take_moving.ensures.rest c.requires.closing

pub returns-clause-leads : goal.returns-clause-leads
returns-clause-leads c = first (λ _ _. closing_row) (c.take_moving.ensures.makes []) (c.close_next.ensures.leads (map (value c.args.world.now.strings) c.take_moving.result.items))
