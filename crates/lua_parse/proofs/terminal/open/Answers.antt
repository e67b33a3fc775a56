use Rattle.std.proofs.Common.{◌≡◌, drop, true, false, refl, sym, ap, ◌∙◌}
use Rattle.std.specs.Prelude.{Bool, if◌then◌else◌, ◌&&◌, nat_lt}
use Rattle.token_cursor.specs.Words.{is_word, first}
use Rattle.lua_parse.specs.Moves.{opener, a_line, gives}
use Rattle.lua_parse.specs.Grammar.{pass_if}
use Rattle.lua_parse.proofs.Steps.{starts, picked, turned, passed, refused, ended_as, has_room, no_room}
use Rattle.lua_parse.proofs.terminal.open.Goals as goal

never : (b : Bool) → (b && false) ≡ false
never true = refl
never false = refl

pub returns-then-not-take-clause-reads : goal.returns-then-not-take-clause-reads
returns-then-not-take-clause-reads c =
    let other : is_word c.args.wanted (first c.args.cursor.now).0 ≡ false = sym c.take.ensures.is ∙ c.if-not-take.true in
    let same : c.take.new.self ≡ c.args.cursor.now = c.take.ensures.passed ∙ ap (λ b. if b then drop 1 c.args.cursor.now else c.args.cursor.now) c.if-not-take.true in
    let both : (is_word c.args.wanted (first c.args.cursor.now).0 && nat_lt c.args.height c.args.room.max) ≡ false = rw other refl in
    let l = turned (picked (starts (opener c.args.wanted c.args.height) c.args.room.max c.args.cursor.now) c.take.ensures.more) (ap (λ b. pass_if b (gives (a_line (first c.args.cursor.now).1) 0)) both) in
    record { tells = rw same (refused l c.take.ensures.more) }

pub returns-then-height-room-clause-reads : goal.returns-then-height-room-clause-reads
returns-then-height-room-clause-reads c =
    let full : nat_lt c.args.height c.args.room.max ≡ false = no_room c.args.room.max c.args.height c.if-height-room.true in
    let both : (is_word c.args.wanted (first c.args.cursor.now).0 && nat_lt c.args.height c.args.room.max) ≡ false = rw full (never (is_word c.args.wanted (first c.args.cursor.now).0)) in
    let l = turned (picked (starts (opener c.args.wanted c.args.height) c.args.room.max c.args.cursor.now) c.line-line.ensures.more) (ap (λ b. pass_if b (gives (a_line (first c.args.cursor.now).1) 0)) both) in
    record { tells = refused l c.line-line.ensures.more }

pub returns-clause-reads : goal.returns-clause-reads
returns-clause-reads c =
    let is : is_word c.args.wanted (first c.args.cursor.now).0 ≡ true = sym c.take.ensures.is ∙ c.if-not-take.false in
    let fits : nat_lt c.args.height c.args.room.max ≡ true = has_room c.args.room.max c.args.height c.if-height-room.false in
    let both : (is_word c.args.wanted (first c.args.cursor.now).0 && nat_lt c.args.height c.args.room.max) ≡ true = rw (is, fits) refl in
    let rest : c.take.new.self ≡ drop 1 c.args.cursor.now = c.take.ensures.passed ∙ ap (λ b. if b then drop 1 c.args.cursor.now else c.args.cursor.now) c.if-not-take.false in
    let l = turned (picked (starts (opener c.args.wanted c.args.height) c.args.room.max c.args.cursor.now) c.take.ensures.more) (ap (λ b. pass_if b (gives (a_line (first c.args.cursor.now).1) 0)) both) in
    record { tells = ended_as (passed l c.take.ensures.more rest) (ap a_line c.line-line.ensures.is) refl }
