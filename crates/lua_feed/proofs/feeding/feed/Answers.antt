-- What a turn and a line add to the run so far, and how the feeding closes or stops.
use Rattle.std.proofs.Common.{rules, ◌≡◌, ◌+◌, ◌∙◌, ℕ, arith, length, Some, None, refl, sym, subst, ap}
use Rattle.std.specs.Prelude.{Ok, Err, IfSome, option_map, ◌++◌}
use Rattle.io_edge.specs.Lines.{ahead, is_line_failed, taken_with, IsWithinLimits, TakesLine}
use Rattle.library_rows.specs.Library.{all_entries}
use Rattle.lua_driver.specs.Turns.{Turns}
use Rattle.lua_heap.specs.Plain.{plain}
use Rattle.lua_stack.proofs.Called.{on_err}
use Rattle.machine_core.specs.Moves.{Ending, main_yielded}
use Rattle.machine_moves.specs.Ending.{ending_of}
use Rattle.machine_runs.specs.Opening.{handed_line}
use Rattle.machine_runs.specs.Runs.{turn_text}
use Rattle.loaded_code.specs.Laws.{library}
use Rattle.source_builds.proofs.Knowing.{read_all, read_both}
use Rattle.source_builds.proofs.Lookups.{read_some}
use Rattle.lua_feed.specs.Faults.{fault_of_line, is_input_fault, is_output_fault}
use Rattle.lua_feed.proofs.Causes.{cause_since, line_input, line_limit, line_no_output, no_input, no_limit, not_failed, same_output, unfailed, untouched}
use Rattle.lua_feed.proofs.Closing.{yields, ended_otherwise}
use Rattle.lua_feed.proofs.Fed.{fed_none, fed_on, fed_last, fed_suspended, fed_cut, fed_broken, fed_front, only_further, only_grown, only_twice, turned_front}
use Rattle.lua_feed.proofs.feeding.feed.Goals as goal

pub turns-init : goal.turns-init
turns-init g c =
    record {
      so_far = read_all (λ builds are. fed_none (library builds) c.args.budget c.args.world.now (ahead c.args.reader.now (g.S.Source.left c.args.input.now)) (g.K.Sink.written c.args.out.now) c.args.reader.now.taken);
      may = c.requires;
      read = refl;
      wrote = refl;
    }

-- a turn failed

pub returns-in_err-ending-clause-front : goal.returns-in_err-ending-clause-front
returns-in_err-ending-clause-front g c =
    let i = c.turns.invariant in
    on_err _ c.from_residual.result
    (read_both (λ builds are f k. fed_front (library builds) c.args.budget c.args.world.now (ahead c.args.reader.now (g.S.Source.left c.args.input.now)) (g.K.Sink.written c.args.out.now) c.args.reader.now.taken
    c.turns.world (ahead c.turns.reader (g.S.Source.left c.turns.input)) (g.K.Sink.written c.turns.out) (g.K.Sink.written c.write_turn.new.out) c.turns.reader.taken f k) i.so_far c.in_err-ending.ensures.front)

pub returns-in_err-ending-clause-grows : goal.returns-in_err-ending-clause-grows
returns-in_err-ending-clause-grows g c =
    let f = (read_some c.turns.invariant.so_far).2 in
    on_err _ c.from_residual.result
    (only_twice (g.K.Sink.written c.args.out.now) (g.K.Sink.written c.turns.out) (g.K.Sink.written c.write_turn.new.out)
    (only_grown f.printed (g.K.Sink.written c.args.out.now) (g.K.Sink.written c.turns.out) f.grown) c.in_err-ending.ensures.grows)

pub returns-in_err-ending-clause-input : goal.returns-in_err-ending-clause-input
returns-in_err-ending-clause-input g c =
    let is : c.from_residual.result ≡ Err c.in_err-ending.field-0.0 = search rules in
    untouched _ _ _ c.turns.invariant.read (no_input c.in_err-ending.field-0.0 c.from_residual.result is c.in_err-ending.ensures.kind)

pub returns-in_err-ending-clause-output : goal.returns-in_err-ending-clause-output
returns-in_err-ending-clause-output g c =
    let fault = c.in_err-ending.field-0.0 in
    let was : c.write_turn.result ≡ Err fault = search rules in
    let is : c.from_residual.result ≡ Err fault = search rules in
    cause_since (g.K.Sink.faults c.args.out.now) (g.K.Sink.faults c.turns.out) (g.K.Sink.faults c.write_turn.new.out) (is_output_fault c.write_turn.result) (is_output_fault c.from_residual.result)
    c.turns.invariant.wrote (same_output fault c.write_turn.result c.from_residual.result was is) c.write_turn.ensures.cause

pub returns-in_err-ending-clause-limit : goal.returns-in_err-ending-clause-limit
returns-in_err-ending-clause-limit g c = λ limit.
    let is : c.from_residual.result ≡ Err c.in_err-ending.field-0.0 = search rules in
    absurd (no_limit c.in_err-ending.field-0.0 c.from_residual.result is c.in_err-ending.ensures.kind limit)

pub returns-in_err-ending-clause-broken : goal.returns-in_err-ending-clause-broken
returns-in_err-ending-clause-broken g c = λ failed.
    let is : c.from_residual.result ≡ Err c.in_err-ending.field-0.0 = search rules in
    absurd (not_failed c.in_err-ending.field-0.0 c.from_residual.result is c.in_err-ending.ensures.kind failed)

-- the script has ended

pub returns-in-Some-clause-fed : goal.returns-in-Some-clause-fed
returns-in-Some-clause-fed g c =
    let e = ending_of c.in_ok-ending.ending in
    let before = g.K.Sink.written c.args.out.now in
    let text = ahead c.args.reader.now (g.S.Source.left c.args.input.now) in
    read_both (λ builds are f t. fed_last (library builds) c.args.budget c.args.world.now text before c.args.reader.now.taken c.turns.world c.write_turn.new.world (ahead c.turns.reader (g.S.Source.left c.turns.input))
    (g.K.Sink.written c.turns.out) (g.K.Sink.written c.write_turn.new.out) c.turns.reader.taken e c.in-Some.close f t (sym c.close_at.ensures ∙ c.in-Some.is) c.in_ok-ending.ensures.written) c.turns.invariant.so_far c.in_ok-ending.ensures.turns

-- no line was read

pub returns-in_err-line-clause-front : goal.returns-in_err-line-clause-front
returns-in_err-line-clause-front g c = on_err _ c.from_residual-in_err-line.result
    (read_both (λ builds are f t. turned_front (library builds) c.args.budget c.args.world.now (ahead c.args.reader.now (g.S.Source.left c.args.input.now)) (g.K.Sink.written c.args.out.now) c.args.reader.now.taken
    c.turns.world c.write_turn.new.world (ahead c.turns.reader (g.S.Source.left c.turns.input)) (g.K.Sink.written c.turns.out) (g.K.Sink.written c.write_turn.new.out) c.turns.reader.taken (ending_of c.in_ok-ending.ending)
    f t c.in_ok-ending.ensures.ends c.in_ok-ending.ensures.written) c.turns.invariant.so_far c.in_ok-ending.ensures.turns)

pub returns-in_err-line-clause-grows : goal.returns-in_err-line-clause-grows
returns-in_err-line-clause-grows g c =
    let f = (read_some c.turns.invariant.so_far).2 in
    on_err _ c.from_residual-in_err-line.result (only_further f.printed (turn_text (ending_of c.in_ok-ending.ending) (plain c.write_turn.new.world 0)) (g.K.Sink.written c.args.out.now) (g.K.Sink.written c.turns.out) (g.K.Sink.written c.write_turn.new.out) f.grown c.in_ok-ending.ensures.written)

pub returns-in_err-line-clause-input : goal.returns-in_err-line-clause-input
returns-in_err-line-clause-input g c =
    let fault = c.in_err-line.field-0.0 in
    let was : c.next_line.result ≡ Err fault = search rules in
    let is : c.from_residual-in_err-line.result ≡ Err (fault_of_line fault) = search rules in
    cause_since (g.S.Source.faults c.args.input.now) (g.S.Source.faults c.turns.input) (g.S.Source.faults c.next_line.new.source) (is_line_failed c.next_line.result)
    (is_input_fault c.from_residual-in_err-line.result) c.turns.invariant.read (line_input fault c.next_line.result c.from_residual-in_err-line.result was is) c.next_line.ensures.cause

pub returns-in_err-line-clause-output : goal.returns-in_err-line-clause-output
returns-in_err-line-clause-output g c =
    let fault = c.in_err-line.field-0.0 in
    let is : c.from_residual-in_err-line.result ≡ Err (fault_of_line fault) = search rules in
    let went : c.write_turn.result ≡ Ok c.in_ok-ending.ending = search rules in
    let same : g.K.Sink.faults c.write_turn.new.out ≡ g.K.Sink.faults c.turns.out = unfailed _ _ (is_output_fault c.write_turn.result) (ap is_output_fault went) c.write_turn.ensures.cause in
    untouched _ _ _ (same ∙ c.turns.invariant.wrote) (line_no_output fault c.from_residual-in_err-line.result is)

pub returns-in_err-line-clause-limit : goal.returns-in_err-line-clause-limit
returns-in_err-line-clause-limit g c = λ limit.
    let fault = c.in_err-line.field-0.0 in
    let was : c.next_line.result ≡ Err fault = search rules in
    let is : c.from_residual-in_err-line.result ≡ Err (fault_of_line fault) = search rules in
    let e = c.in_ok-ending.ensures in
    let mid = c.write_turn.new.world in
    let later = g.K.Sink.written c.write_turn.new.out in
    let after = g.K.Sink.written c.turns.out in
    let yielded : ending_of c.in_ok-ending.ending ≡ main_yielded = yields (ending_of c.in_ok-ending.ending) e.ends (sym c.close_at.ensures ∙ c.in_default.is) in
    read_both (λ builds are f t. fed_cut (library builds) c.args.budget c.args.world.now (ahead c.args.reader.now (g.S.Source.left c.args.input.now)) (g.K.Sink.written c.args.out.now) c.args.reader.now.taken
    c.turns.world mid (ahead c.turns.reader (g.S.Source.left c.turns.input)) after later c.turns.reader.taken f (subst (Turns (library builds) c.turns.world mid c.args.budget) yielded t)
    (subst (λ (k : Ending). later ≡ option_map (λ t. t ++ turn_text k (plain mid 0)) after) yielded e.written)
    (c.next_line.ensures.limit (was ∙ ap Err (line_limit fault c.from_residual-in_err-line.result is limit)))) c.turns.invariant.so_far e.turns

pub returns-in_err-line-clause-broken : goal.returns-in_err-line-clause-broken
returns-in_err-line-clause-broken g c = λ failed.
    let e = c.in_ok-ending.ensures in
    let yielded : ending_of c.in_ok-ending.ending ≡ main_yielded = yields (ending_of c.in_ok-ending.ending) e.ends (sym c.close_at.ensures ∙ c.in_default.is) in
    let mid = c.write_turn.new.world in
    let later = g.K.Sink.written c.write_turn.new.out in
    let after = g.K.Sink.written c.turns.out in
    read_both (λ builds are f t. fed_broken (library builds) c.args.budget c.args.world.now (ahead c.args.reader.now (g.S.Source.left c.args.input.now)) (g.K.Sink.written c.args.out.now) c.args.reader.now.taken
    c.turns.world mid (ahead c.turns.reader (g.S.Source.left c.turns.input)) after later c.turns.reader.taken f (subst (Turns (library builds) c.turns.world mid c.args.budget) yielded t)
    (subst (λ (k : Ending). later ≡ option_map (λ t. t ++ turn_text k (plain mid 0)) after) yielded e.written)) c.turns.invariant.so_far e.turns

-- no line is left

pub returns-in_default-2-clause-fed : goal.returns-in_default-2-clause-fed
returns-in_default-2-clause-fed g c =
    let e = c.in_ok-ending.ensures in
    let ending = ending_of c.in_ok-ending.ending in
    let mid = c.write_turn.new.world in
    let rest = ahead c.turns.reader (g.S.Source.left c.turns.input) in
    let after = g.K.Sink.written c.turns.out in
    let later = g.K.Sink.written c.write_turn.new.out in
    let yielded : ending ≡ main_yielded = yields ending e.ends (sym c.close_at.ensures ∙ c.in_default.is) in
    let none : TakesLine None rest (ahead c.next_line.new.self (g.S.Source.left c.next_line.new.source)) = subst (λ o. TakesLine o rest (ahead c.next_line.new.self (g.S.Source.left c.next_line.new.source))) c.in_default-2.is c.in_ok-line.ensures.line in
    read_both (λ builds are f t. fed_suspended (library builds) c.args.budget c.args.world.now (ahead c.args.reader.now (g.S.Source.left c.args.input.now)) (g.K.Sink.written c.args.out.now) c.args.reader.now.taken
    c.turns.world mid rest after later c.turns.reader.taken f (subst (Turns (library builds) c.turns.world mid c.args.budget) yielded t)
    (subst (λ (k : Ending). later ≡ option_map (λ t. t ++ turn_text k (plain mid 0)) after) yielded e.written) none.1) c.turns.invariant.so_far e.turns

-- a line is handed over

pub hand_line-requires-clause-sound : goal.hand_line-requires-clause-sound
hand_line-requires-clause-sound g c =
    let e = c.in_ok-ending.ensures in
    let m = e.waits (yields (ending_of c.in_ok-ending.ending) e.ends (sym c.close_at.ensures ∙ c.in_default.is)) in
    record { primitives = length all_entries; sound = m.sound; order = m.order }

pub hand_line-requires-clause-short : goal.hand_line-requires-clause-short
hand_line-requires-clause-short g c =
    let line = c.in-Some-2.line in
    let within : IsWithinLimits c.turns.reader.taken line = subst (λ o. IfSome o (λ l. IsWithinLimits c.turns.reader.taken l)) c.in-Some-2.is c.in_ok-line.ensures.within in
    let short = within.short_line in
    let same : c.as_slice.result.now ≡ line = search rules in
    let n : length c.as_slice.result.now ≡ length line = ap length same in
    omega (arith, n, short)

pub returns-in_err-hand_line-clause-grows : goal.returns-in_err-hand_line-clause-grows
returns-in_err-hand_line-clause-grows g c =
    let f = (read_some c.turns.invariant.so_far).2 in
    on_err _ c.from_residual-in_err-hand_line.result (only_further f.printed (turn_text (ending_of c.in_ok-ending.ending) (plain c.write_turn.new.world 0)) (g.K.Sink.written c.args.out.now) (g.K.Sink.written c.turns.out) (g.K.Sink.written c.write_turn.new.out) f.grown c.in_ok-ending.ensures.written)

pub returns-in_err-hand_line-clause-front : goal.returns-in_err-hand_line-clause-front
returns-in_err-hand_line-clause-front g c = on_err _ c.from_residual-in_err-hand_line.result
    (read_both (λ builds are f t. turned_front (library builds) c.args.budget c.args.world.now (ahead c.args.reader.now (g.S.Source.left c.args.input.now)) (g.K.Sink.written c.args.out.now) c.args.reader.now.taken
    c.turns.world c.write_turn.new.world (ahead c.turns.reader (g.S.Source.left c.turns.input)) (g.K.Sink.written c.turns.out) (g.K.Sink.written c.write_turn.new.out) c.turns.reader.taken (ending_of c.in_ok-ending.ending)
    f t c.in_ok-ending.ensures.ends c.in_ok-ending.ensures.written) c.turns.invariant.so_far c.in_ok-ending.ensures.turns)

pub turns-smaller : goal.turns-smaller
turns-smaller g c =
    let line = c.in-Some-2.line in
    let within : IsWithinLimits c.turns.reader.taken line = subst (λ o. IfSome o (λ l. IsWithinLimits c.turns.reader.taken l)) c.in-Some-2.is c.in_ok-line.ensures.within in
    let short = within.short_input in
    let taken : c.next_line.new.self.taken ≡ c.turns.reader.taken + length line + 1 =
    subst (λ o. c.next_line.new.self.taken ≡ taken_with c.turns.reader.taken o) c.in-Some-2.is c.in_ok-line.ensures.taken in
    omega (arith, short, taken)

pub turns-preserved : goal.turns-preserved
turns-preserved g c =
    let e = c.in_ok-ending.ensures in
    let h = c.in_ok-hand_line.ensures in
    let line = c.in-Some-2.line in
    let ending = ending_of c.in_ok-ending.ending in
    let now = c.turns.world in
    let mid = c.write_turn.new.world in
    let new = c.hand_line.new.world in
    let rest = ahead c.turns.reader (g.S.Source.left c.turns.input) in
    let next = ahead c.next_line.new.self (g.S.Source.left c.next_line.new.source) in
    let after = g.K.Sink.written c.turns.out in
    let later = g.K.Sink.written c.write_turn.new.out in
    let yielded : ending ≡ main_yielded = yields ending e.ends (sym c.close_at.ensures ∙ c.in_default.is) in
    let written : later ≡ option_map (λ t. t ++ turn_text main_yielded (plain mid 0)) after = subst (λ (k : Ending). later ≡ option_map (λ t. t ++ turn_text k (plain mid 0)) after) yielded e.written in
    let takes : TakesLine (Some line) rest next = subst (λ o. TakesLine o rest next) c.in-Some-2.is c.in_ok-line.ensures.line in
    let within : IsWithinLimits c.turns.reader.taken line = subst (λ o. IfSome o (λ l. IsWithinLimits c.turns.reader.taken l)) c.in-Some-2.is c.in_ok-line.ensures.within in
    let taken : c.next_line.new.self.taken ≡ c.turns.reader.taken + length line + 1 =
    subst (λ o. c.next_line.new.self.taken ≡ taken_with c.turns.reader.taken o) c.in-Some-2.is c.in_ok-line.ensures.taken in
    let same : c.as_slice.result.now ≡ line = search rules in
    let handed : (fuel : ℕ) → plain new fuel ≡ handed_line (plain mid fuel) line = λ fuel. h.handed fuel ∙ ap (handed_line (plain mid fuel)) same in
    let went : c.write_turn.result ≡ Ok c.in_ok-ending.ending = search rules in
    let read : c.next_line.result ≡ Ok c.in_ok-line.field-0 = search rules in
    let wrote : g.K.Sink.faults c.write_turn.new.out ≡ g.K.Sink.faults c.turns.out = unfailed _ _ (is_output_fault c.write_turn.result) (ap is_output_fault went) c.write_turn.ensures.cause in
    let unread : g.S.Source.faults c.next_line.new.source ≡ g.S.Source.faults c.turns.input = unfailed _ _ (is_line_failed c.next_line.result) (ap is_line_failed read) c.next_line.ensures.cause in
    record {
      so_far = read_both (λ builds are f t. fed_on (library builds) c.args.budget c.args.world.now (ahead c.args.reader.now (g.S.Source.left c.args.input.now)) (g.K.Sink.written c.args.out.now) c.args.reader.now.taken
          now mid new rest next after later c.turns.reader.taken c.next_line.new.self.taken line f (subst (Turns (library builds) now mid c.args.budget) yielded t) handed written takes within taken) c.turns.invariant.so_far e.turns;
      may = record { sound = h.sound (length all_entries) (e.waits yielded).sound; order = h.order; may = h.may };
      read = unread ∙ c.turns.invariant.read;
      wrote = wrote ∙ c.turns.invariant.wrote;
    }

-- what waits for a line

pub returns-in-Some-clause-waits : goal.returns-in-Some-clause-waits
returns-in-Some-clause-waits g c = λ suspended. absurd (ended_otherwise (ending_of c.in_ok-ending.ending) c.in-Some.close (sym c.close_at.ensures ∙ c.in-Some.is) suspended)

pub returns-in_default-2-clause-waits : goal.returns-in_default-2-clause-waits
returns-in_default-2-clause-waits g c = λ suspended.
    let e = c.in_ok-ending.ensures in
    e.waits (yields (ending_of c.in_ok-ending.ending) e.ends (sym c.close_at.ensures ∙ c.in_default.is))
