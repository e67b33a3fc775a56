use Rattle.std.proofs.Common.{rules, ◌≡◌, [], ◌++◌, length, ap, sym, subst, ◌∙◌}
use Rattle.std.specs.Prelude.{map}
use Rattle.lua_heap.specs.Plain.{plain}
use Rattle.lua_heap.specs.Reading.{value as meant}
use Rattle.list_laws.proofs.Values.{drop_front}
use Rattle.machine_core.specs.Text.{results}
use Rattle.machine_core.specs.FrameRows.{handed, leave_row}
use Rattle.machine_core.specs.Moves.{runs_main}
use Rattle.move_laws.specs.Memory.{Leads}
use Rattle.move_laws.proofs.Rows.{first, ended}
use Rattle.machine_moves.specs.Ending.{ending_of}
use Rattle.machine_returns.proofs.leaving.leave_with_results.Goals as goal

pub returns-clause-leads : goal.returns-clause-leads
returns-clause-leads c = λ when env.
    let W = c.args.world.now in
    let V = c.leave_frame-top.new.world in
    let vs = map (meant W.strings) c.read_registers.result.now in
    let given : c.in_ok-given.given.items ≡ c.read_registers.result.now = search rules in
    let all = drop_front env vs ∙ sym (ap (map (meant W.strings)) given) in
    first (λ w _. leave_row (results w)) (c.read_registers.ensures env)
    (first (λ _ top. handed top) (c.leave_frame-top.ensures.makes (env ++ vs) (results (length env)) all)
    (subst (λ row. Leads row ((env ++ vs) ++ []) V V (ending_of c.handed.result)) (sym (c.handed.ensures.ends (runs_main (plain V 0)))) ended))
