use Rattle.std.proofs.Common.{rules, ◌≡◌, ◌∙◌, length, None, Err, refl, subst, ap}
use Rattle.std.proofs.lemmas.Result.{IfOk-weaker, on_err_weaker}
use Rattle.io_edge.specs.Lines.{ahead, TakesLine}
use Rattle.library_rows.specs.Library.{all_entries}
use Rattle.lua_heap.specs.Plain.{plain}
use Rattle.loaded_code.specs.Laws.{library}
use Rattle.source_builds.proofs.Knowing.{read_all, read_map}
use Rattle.lua_feed.specs.Closes.{close_of}
use Rattle.lua_stack.proofs.Called.{on_err}
use Rattle.lua_feed.specs.Faults.{fault_of_line}
use Rattle.lua_feed.specs.Feeding.{GoesOn}
use Rattle.lua_feed.proofs.Causes.{line_limit}
use Rattle.lua_feed.proofs.Starting.{unfed_front}
use Rattle.lua_feed.proofs.Onward.{line_fed, on_none, on_past, on_unread, on_fed, on_cut, on_broken, on_front}
use Rattle.lua_feed.proofs.feeding.feed_on.Goals as goal

-- the first line is past the limits

pub returns-in_err-line-clause-limit : goal.returns-in_err-line-clause-limit
returns-in_err-line-clause-limit g c = λ limit.
    let fault = c.in_err-line.field-0.0 in
    let was : c.next_line.result ≡ Err fault = search rules in
    let is : c.from_residual.result ≡ Err (fault_of_line fault) = search rules in
    read_all (λ builds are. on_past (library builds) c.args.world.now c.args.budget c.args.reader.now.taken (ahead c.args.reader.now (g.S.Source.left c.args.input.now)) (g.K.Sink.written c.args.out.now) (g.K.Sink.written c.args.out.now)
    (c.next_line.ensures.limit (was ∙ ap Err (line_limit fault c.from_residual.result is limit))) refl)

-- the first line cannot be read
pub returns-in_err-line-clause-broken : goal.returns-in_err-line-clause-broken
returns-in_err-line-clause-broken g c = λ failed.
    read_all (λ builds are. on_unread (library builds) c.args.world.now c.args.budget c.args.reader.now.taken (ahead c.args.reader.now (g.S.Source.left c.args.input.now)) (g.K.Sink.written c.args.out.now) (g.K.Sink.written c.args.out.now) refl)

-- nothing is written where no line is read, and where none is handed over

pub returns-in_err-line-clause-front : goal.returns-in_err-line-clause-front
returns-in_err-line-clause-front g c =
    on_err _ c.from_residual.result
    (read_all (λ builds are. unfed_front (GoesOn (library builds) (plain c.args.world.now 0) c.args.budget) c.args.reader.now.taken (ahead c.args.reader.now (g.S.Source.left c.args.input.now)) (g.K.Sink.written c.args.out.now) _ refl))

pub returns-in_err-hand_line-clause-front : goal.returns-in_err-hand_line-clause-front
returns-in_err-hand_line-clause-front g c =
    on_err _ c.from_residual-in_err-hand_line.result
    (read_all (λ builds are. unfed_front (GoesOn (library builds) (plain c.args.world.now 0) c.args.budget) c.args.reader.now.taken (ahead c.args.reader.now (g.S.Source.left c.args.input.now)) (g.K.Sink.written c.args.out.now) _ refl))

-- no line is left

pub returns-in_default-clause-fed : goal.returns-in_default-clause-fed
returns-in_default-clause-fed g c =
    let text = (ahead c.args.reader.now (g.S.Source.left c.args.input.now)) in
    let next = ahead c.next_line.new.self (g.S.Source.left c.next_line.new.source) in
    let none : TakesLine None text next = subst (λ o. TakesLine o text next) c.in_default.is c.in_ok-line.ensures.line in
    read_all (λ builds are. on_none (library builds) c.args.world.now c.args.budget c.args.reader.now.taken text next (g.K.Sink.written c.args.out.now) (g.K.Sink.written c.args.out.now) none refl)

-- a line is handed over

pub feed-requires : goal.feed-requires
feed-requires g c =
    let h = c.in_ok-hand_line.ensures in
    record { sound = h.sound (length all_entries) c.requires.sound; order = h.order; may = h.may }

pub returns-clause-fed : goal.returns-clause-fed
returns-clause-fed g c =
    let h = line_fed c.args.world.now c.hand_line.new.world c.args.reader.now.taken c.next_line.new.self.taken _ c.in-Some.line c.as_slice.result.now (ahead c.args.reader.now (g.S.Source.left c.args.input.now)) (ahead c.next_line.new.self (g.S.Source.left c.next_line.new.source))
    c.in-Some.is c.in_ok-line.ensures.line c.in_ok-line.ensures.within c.in_ok-line.ensures.taken (search rules) (c.in_ok-hand_line.ensures.handed 0) in
    IfOk-weaker c.feed.result _ _ (λ close f. read_map (λ builds are f. on_fed (library builds) c.args.budget (g.K.Sink.written c.args.out.now) (g.K.Sink.written c.feed.new.out) h c.feed.new.world (close_of close) f) f) c.feed.ensures.fed

pub returns-clause-front : goal.returns-clause-front
returns-clause-front g c =
    let h = line_fed c.args.world.now c.hand_line.new.world c.args.reader.now.taken c.next_line.new.self.taken _ c.in-Some.line c.as_slice.result.now (ahead c.args.reader.now (g.S.Source.left c.args.input.now)) (ahead c.next_line.new.self (g.S.Source.left c.next_line.new.source))
    c.in-Some.is c.in_ok-line.ensures.line c.in_ok-line.ensures.within c.in_ok-line.ensures.taken (search rules) (c.in_ok-hand_line.ensures.handed 0) in
    on_err_weaker c.feed.result (read_map (λ builds are f. on_front (library builds) c.args.budget (g.K.Sink.written c.args.out.now) (g.K.Sink.written c.feed.new.out) h f)) c.feed.ensures.front

pub returns-clause-limit : goal.returns-clause-limit
returns-clause-limit g c = λ limit.
    let h = line_fed c.args.world.now c.hand_line.new.world c.args.reader.now.taken c.next_line.new.self.taken _ c.in-Some.line c.as_slice.result.now (ahead c.args.reader.now (g.S.Source.left c.args.input.now)) (ahead c.next_line.new.self (g.S.Source.left c.next_line.new.source))
    c.in-Some.is c.in_ok-line.ensures.line c.in_ok-line.ensures.within c.in_ok-line.ensures.taken (search rules) (c.in_ok-hand_line.ensures.handed 0) in
    read_map (λ builds are f. on_cut (library builds) c.args.budget (g.K.Sink.written c.args.out.now) (g.K.Sink.written c.feed.new.out) h f) (c.feed.ensures.limit limit)

pub returns-clause-broken : goal.returns-clause-broken
returns-clause-broken g c = λ failed.
    let h = line_fed c.args.world.now c.hand_line.new.world c.args.reader.now.taken c.next_line.new.self.taken _ c.in-Some.line c.as_slice.result.now (ahead c.args.reader.now (g.S.Source.left c.args.input.now)) (ahead c.next_line.new.self (g.S.Source.left c.next_line.new.source))
    c.in-Some.is c.in_ok-line.ensures.line c.in_ok-line.ensures.within c.in_ok-line.ensures.taken (search rules) (c.in_ok-hand_line.ensures.handed 0) in
    read_map (λ builds are f. on_broken (library builds) c.args.budget (g.K.Sink.written c.args.out.now) (g.K.Sink.written c.feed.new.out) h f) (c.feed.ensures.broken failed)
