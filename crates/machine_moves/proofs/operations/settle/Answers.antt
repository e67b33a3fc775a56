use Rattle.std.proofs.Common.{◌≡◌, ap}
use Rattle.machine_moves.proofs.OnTop.{if_ok}
use Rattle.machine_moves.proofs.Settling.{strings_same, settles}
use Rattle.machine_moves.proofs.operations.settle.Goals as goal

pub returns-clause-settles : goal.returns-clause-settles
returns-clause-settles c =
    let W = c.args.world.now in
    let s = strings_same (c.operate.new.tables ≡ W.tables) c.operate.result W.strings c.operate.new.strings c.args.operation c.requires.kind c.operate.ensures.strings c.operate.ensures.err in
    if_ok c.operate.result c.operate.ensures.does c.operate.ensures.tables (λ o d t. settles W c.operate.new.tables c.operate.new.strings c.args.operation o c.requires.frame s d t)

pub returns-clause-rest : goal.returns-clause-rest
returns-clause-rest c =
    let W = c.args.world.now in
    let s = strings_same (c.operate.new.tables ≡ W.tables) c.operate.result W.strings c.operate.new.strings c.args.operation c.requires.kind c.operate.ensures.strings c.operate.ensures.err in
    ap (λ texts. record W { strings = texts; tables = c.operate.new.tables }) s
