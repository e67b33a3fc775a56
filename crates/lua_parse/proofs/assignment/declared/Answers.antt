use Rattle.std.proofs.Common.{refl, sym, ap, rules}
use Rattle.lua_parse.specs.Moves.{a_declared, declared}
use Rattle.lua_parse.proofs.Steps.{starts, picked, passed, holds, fails, found, failed_by, ended_as}
use Rattle.lua_parse.proofs.assignment.declared.Goals as goal

pub returns-in_err-variable-clause-reads : goal.returns-in_err-variable-clause-reads
returns-in_err-variable-clause-reads c = failed_by (starts declared 0 c.args.cursor.now) c.in_err-variable.ensures.reads (search rules)

pub returns-then-not-is-clause-reads : goal.returns-then-not-is-clause-reads
returns-then-not-is-clause-reads c =
    let l1 = picked (found (starts declared 0 c.args.cursor.now) (c.in_ok-variable.ensures.reads.tells)) c.if-not-is.ensures.more in
    let l2 = fails _ l1 (sym c.if-not-is.ensures.is) in
    record { tells = ended_as l2 (refl) (refl) }

pub returns-in_err-word-clause-reads : goal.returns-in_err-word-clause-reads
returns-in_err-word-clause-reads c =
    let l1 = picked (found (starts declared 0 c.args.cursor.now) (c.in_ok-variable.ensures.reads.tells)) c.if-not-is.ensures.more in
    let l2 = passed (holds _ l1 (sym c.if-not-is.ensures.is)) c.if-not-is.ensures.more (c.skip.ensures) in
    failed_by l2 c.in_err-word.ensures.reads (search rules)

pub returns-in_err-expect-clause-reads : goal.returns-in_err-expect-clause-reads
returns-in_err-expect-clause-reads c =
    let l1 = picked (found (starts declared 0 c.args.cursor.now) (c.in_ok-variable.ensures.reads.tells)) c.if-not-is.ensures.more in
    let l2 = passed (holds _ l1 (sym c.if-not-is.ensures.is)) c.if-not-is.ensures.more (c.skip.ensures) in
    failed_by (found l2 (c.in_ok-word.ensures.reads.tells)) c.in_err-expect.ensures.reads (search rules)

pub returns-clause-reads : goal.returns-clause-reads
returns-clause-reads c =
    let l1 = picked (found (starts declared 0 c.args.cursor.now) (c.in_ok-variable.ensures.reads.tells)) c.if-not-is.ensures.more in
    let l2 = passed (holds _ l1 (sym c.if-not-is.ensures.is)) c.if-not-is.ensures.more (c.skip.ensures) in
    let l3 = found l2 (c.in_ok-word.ensures.reads.tells) in
    let l4 = found l3 (c.in_ok-expect.ensures.reads.tells) in
    record { tells = ended_as l4 (ap (λ a. a_declared (record { name = c.in_ok-variable.variable; attrib = a; attrib_line = c.in_ok-word.word.line })) c.attrib.ensures) (refl) }
