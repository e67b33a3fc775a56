use Rattle.std.proofs.Common.{rules, ◌≡◌, ◌-◌, length, Some, ap, sym, ◌∙◌}
use Rattle.std.specs.Prelude.{slice_get}
use Rattle.move_laws.proofs.Running.{stack_runs, last_there}
use Rattle.machine_moves.proofs.Stacks.{got_is, runs_as}
use Rattle.machine_moves.proofs.chain.running.Goals as goal

pub returns : goal.returns
returns c =
    let W = c.args.world.now in
    let r = stack_runs W c.requires in
    let size : c.len.result ≡ length W.chain.items = search rules in
    let at : slice_get W.chain.items (c.len.result - 1) ≡ Some r.co = ap (λ n. slice_get W.chain.items (n - 1)) size ∙ last_there W.chain.items r.co r.runs.chain in
    runs_as r (sym (c.index.ensures ∙ got_is W.chain.items (c.len.result - 1) r.co c.index.result.now at))
