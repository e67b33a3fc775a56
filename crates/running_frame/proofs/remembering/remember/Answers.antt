use Rattle.std.proofs.lemmas.Option.{IfSome_then}
use Rattle.machine_arms_tables.specs.Frame.{code}
use Rattle.machine_loop.proofs.Recalled.{more_hold}
use Rattle.running_frame.proofs.OnStack.{place_within}
use Rattle.running_frame.proofs.OpenRead.{lists_open}
use Rattle.running_frame.proofs.Remembered.{known_holds}
use Rattle.running_frame.proofs.remembering.remember.Goals as goal

pub fetch-i-requires : goal.fetch-i-requires
fetch-i-requires g c = place_within c.requires.0.1.runs

pub known_below-requires : goal.known_below-requires
known_below-requires g c = lists_open c.args.co.0 c.requires.1.0 c.requires.0.1.runs

pub returns : goal.returns
returns g c =
    let x = c.requires.0 in
    let upvalues = c.args.closure.upvalues.now in
    let entry = c.in_ok-entry.entry in
    let has =
    known_holds g.g (code c.args.closure g.g.around.texts) c.args.stack.now x.0 c.args.cells.now.objects x.1.fuel c.args.pc x.1.runs c.args.co.0 c.requires.1.0 entry c.in_ok-entry.ensures in
    IfSome_then c.add_known.result c.add_known.ensures (λ more adds. more_hold g.g.around upvalues c.args.cells.now.objects c.args.memo c.requires.1.1 entry has more adds)
