use Rattle.std.proofs.Common.{ap, rules}
use Rattle.lua_parse.specs.Moves.{a_stat, goto_stat}
use Rattle.lua_parse.proofs.Steps.{starts, found, failed_by, ended_as}
use Rattle.lua_parse.proofs.statement.goto_stat.Goals as goal

pub returns-in_err-line-clause-reads : goal.returns-in_err-line-clause-reads
returns-in_err-line-clause-reads c = failed_by (starts goto_stat c.args.room.max c.args.cursor.now) c.in_err-line.ensures.reads (search rules)

pub returns-in_err-name-clause-reads : goal.returns-in_err-name-clause-reads
returns-in_err-name-clause-reads c = failed_by (found (starts goto_stat c.args.room.max c.args.cursor.now) (c.in_ok-line.ensures.reads.tells)) c.in_err-name.ensures.reads (search rules)

pub returns-clause-reads : goal.returns-clause-reads
returns-clause-reads c =
    record { tells = ended_as (found (found (starts goto_stat c.args.room.max c.args.cursor.now) (c.in_ok-line.ensures.reads.tells)) (c.in_ok-name.ensures.reads.tells)) (ap a_stat c.bare_stat.ensures.node) c.bare_stat.ensures.levels }
