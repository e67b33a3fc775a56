use Rattle.std.proofs.Common.{◌≡◌, drop, true, false, refl, sym, ap, ◌∙◌}
use Rattle.std.specs.Prelude.{if◌then◌else◌}
use Rattle.token_cursor.specs.Words.{is_word, first}
use Rattle.lua_parse.specs.Moves.{word, a_line, gives}
use Rattle.lua_parse.specs.Grammar.{pass_if}
use Rattle.lua_parse.proofs.Steps.{starts, picked, turned, passed, refused, ended_as}
use Rattle.lua_parse.proofs.terminal.expect.Goals as goal

pub returns-then-not-take-clause-reads : goal.returns-then-not-take-clause-reads
returns-then-not-take-clause-reads c =
    let other : is_word c.args.wanted (first c.args.cursor.now).0 ≡ false = sym c.take.ensures.is ∙ c.if-not-take.true in
    let same : c.take.new.self ≡ c.args.cursor.now = c.take.ensures.passed ∙ ap (λ b. if b then drop 1 c.args.cursor.now else c.args.cursor.now) c.if-not-take.true in
    let l = turned (picked (starts (word c.args.wanted) 0 c.args.cursor.now) c.take.ensures.more) (ap (λ b. pass_if b (gives (a_line (first c.args.cursor.now).1) 0)) other) in
    record { tells = rw same (refused l c.take.ensures.more) }

pub returns-clause-reads : goal.returns-clause-reads
returns-clause-reads c =
    let is : is_word c.args.wanted (first c.args.cursor.now).0 ≡ true = sym c.take.ensures.is ∙ c.if-not-take.false in
    let rest : c.take.new.self ≡ drop 1 c.args.cursor.now = c.take.ensures.passed ∙ ap (λ b. if b then drop 1 c.args.cursor.now else c.args.cursor.now) c.if-not-take.false in
    let l = turned (picked (starts (word c.args.wanted) 0 c.args.cursor.now) c.take.ensures.more) (ap (λ b. pass_if b (gives (a_line (first c.args.cursor.now).1) 0)) is) in
    record { tells = ended_as (passed l c.take.ensures.more rest) (ap a_line c.line-line.ensures.is) refl }
