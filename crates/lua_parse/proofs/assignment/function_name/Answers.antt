use Rattle.std.proofs.Common.{[], ◌∷◌, refl, sym, ap, ◌∙◌, rules}
use Rattle.std.specs.Prelude.{codes}
use Rattle.tree_making.specs.Made.{plain_boxed}
use Rattle.lua_parse.specs.Moves.{a_target, function_name}
use Rattle.lua_parse.specs.Grammar.{named}
use Rattle.lua_parse.proofs.Steps.{starts, picked, holds, fails, found, failed_by, ended_as}
use Rattle.lua_parse.proofs.assignment.function_name.Goals as goal

pub returns-in_err-first-clause-reads : goal.returns-in_err-first-clause-reads
returns-in_err-first-clause-reads c = failed_by (starts function_name c.args.room.max c.args.cursor.now) c.in_err-first.ensures.reads (search rules)

pub returns-in_err-exp-clause-reads : goal.returns-in_err-exp-clause-reads
returns-in_err-exp-clause-reads c =
    let l1 = found (starts function_name c.args.room.max c.args.cursor.now) (c.in_ok-first.ensures.reads.tells) in
    failed_by l1 (rw (c.in_ok-first-2.ensures.node, c.in_ok-first-2.ensures.levels) at c.in_err-exp.ensures.reads) (search rules)

pub returns-then-not-is-clause-reads : goal.returns-then-not-is-clause-reads
returns-then-not-is-clause-reads c =
    let l1 = found (starts function_name c.args.room.max c.args.cursor.now) (c.in_ok-first.ensures.reads.tells) in
    let l2 = found l1 ((rw (c.in_ok-first-2.ensures.node, c.in_ok-first-2.ensures.levels) at c.in_ok-exp.ensures.reads).tells) in
    let l3 = picked l2 c.if-not-is.ensures.more in
    let l4 = fails _ l3 (sym c.if-not-is.ensures.is) in
    record { tells = ended_as l4 (ap (a_target (plain_boxed c.in_ok-exp.exp.node)) c.new.ensures.items) (refl) }

pub returns-in_err-exp-2-clause-reads : goal.returns-in_err-exp-2-clause-reads
returns-in_err-exp-2-clause-reads c =
    let l1 = found (starts function_name c.args.room.max c.args.cursor.now) (c.in_ok-first.ensures.reads.tells) in
    let l2 = found l1 ((rw (c.in_ok-first-2.ensures.node, c.in_ok-first-2.ensures.levels) at c.in_ok-exp.ensures.reads).tells) in
    let l3 = picked l2 c.if-not-is.ensures.more in
    let l4 = holds _ l3 (sym c.if-not-is.ensures.is) in
    failed_by l4 c.in_err-exp-2.ensures.reads (search rules)

pub returns-clause-reads : goal.returns-clause-reads
returns-clause-reads c =
    let l1 = found (starts function_name c.args.room.max c.args.cursor.now) (c.in_ok-first.ensures.reads.tells) in
    let l2 = found l1 ((rw (c.in_ok-first-2.ensures.node, c.in_ok-first-2.ensures.levels) at c.in_ok-exp.ensures.reads).tells) in
    let l3 = picked l2 c.if-not-is.ensures.more in
    let l4 = holds _ l3 (sym c.if-not-is.ensures.is) in
    let l5 = found l4 (c.in_ok-exp-2.ensures.reads.tells) in
    record { tells = ended_as l5 (ap (a_target (plain_boxed c.in_ok-exp-2.exp.node)) (c.in_ok-own.ensures ∙ ap (λ n. named (codes "self") n ∷ []) c.line-line.ensures.is)) (refl) }
