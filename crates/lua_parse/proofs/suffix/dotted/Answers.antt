use Rattle.std.proofs.Common.{◌≡◌, Err, ap, rules}
use Rattle.tree_making.specs.Made.{plain_boxed}
use Rattle.lua_parse.specs.Moves.{an_exp, dotted}
use Rattle.lua_parse.proofs.Steps.{starts, found, failed, ended_as}
use Rattle.lua_parse.proofs.suffix.dotted.Goals as goal

pub returns-in_err-line-clause-reads : goal.returns-in_err-line-clause-reads
returns-in_err-line-clause-reads c =
    let r : c.from_residual.result ≡ Err c.in_err-line.field-0.0 = search rules in rw r (failed (starts (dotted c.args.wanted (plain_boxed c.args.left.node) c.args.left.height) c.args.room.max c.args.cursor.now) _ c.in_err-line.ensures.reads)

pub returns-in_err-name-clause-reads : goal.returns-in_err-name-clause-reads
returns-in_err-name-clause-reads c =
    let l1 = found (starts (dotted c.args.wanted (plain_boxed c.args.left.node) c.args.left.height) c.args.room.max c.args.cursor.now) (c.in_ok-line.ensures.reads.tells) in
    let r : c.from_residual-in_err-name.result ≡ Err c.in_err-name.field-0.0 = search rules in rw r (failed l1 _ c.in_err-name.ensures.reads)

pub returns-clause-reads : goal.returns-clause-reads
returns-clause-reads c =
    let l1 = found (starts (dotted c.args.wanted (plain_boxed c.args.left.node) c.args.left.height) c.args.room.max c.args.cursor.now) (c.in_ok-line.ensures.reads.tells) in
    let l2 = found l1 (c.in_ok-name.ensures.reads.tells) in
    record { tells = ended_as l2 (ap an_exp c.in_ok-dotted.ensures.node) c.in_ok-dotted.ensures.levels }
