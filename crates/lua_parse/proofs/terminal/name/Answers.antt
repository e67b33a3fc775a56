use Rattle.std.proofs.Common.{◌≡◌, drop, Some, None, sym, ap, ◌∙◌, refl}
use Rattle.std.specs.Prelude.{is_some, if◌then◌else◌}
use Rattle.lua_parse.specs.Moves.{name, a_name}
use Rattle.lua_parse.specs.Grammar.{name_move, named}
use Rattle.token_cursor.specs.Words.{first, name_of}
use Rattle.lua_parse.proofs.Steps.{starts, picked, turned, passed, refused, ended_as, one_less}
use Rattle.lua_parse.proofs.terminal.name.Goals as goal

pub returns-in_default : goal.returns-in_default
returns-in_default c =
    let none : name_of (first c.args.cursor.now).0 ≡ None = sym c.take_name.ensures.is ∙ c.in_default.is in
    let same : c.take_name.new.self ≡ c.args.cursor.now = c.take_name.ensures.passed ∙ ap (λ o. if is_some o then drop 1 c.args.cursor.now else c.args.cursor.now) none in
    record {
      reads = record { tells = rw same (refused (turned (picked (starts name 0 c.args.cursor.now) c.take_name.ensures.more) (ap (name_move (first c.args.cursor.now).1) none)) c.take_name.ensures.more) };
      taken = tt;
    }

pub returns-clause-reads : goal.returns-clause-reads
returns-clause-reads c =
    let some : name_of (first c.args.cursor.now).0 ≡ Some c.in-Some.text = sym c.take_name.ensures.is ∙ c.in-Some.is in
    let rest : c.take_name.new.self ≡ drop 1 c.args.cursor.now = c.take_name.ensures.passed ∙ ap (λ o. if is_some o then drop 1 c.args.cursor.now else c.args.cursor.now) some in
    record { tells = ended_as (passed (turned (picked (starts name 0 c.args.cursor.now) c.take_name.ensures.more) (ap (name_move (first c.args.cursor.now).1) some)) c.take_name.ensures.more rest) (ap a_name (ap (named c.in-Some.text) c.line-line.ensures.is)) refl }

pub returns-clause-taken : goal.returns-clause-taken
returns-clause-taken c =
    let some : name_of (first c.args.cursor.now).0 ≡ Some c.in-Some.text = sym c.take_name.ensures.is ∙ c.in-Some.is in
    one_less c.take_name.ensures.more (c.take_name.ensures.passed ∙ ap (λ o. if is_some o then drop 1 c.args.cursor.now else c.args.cursor.now) some)
