use Rattle.std.proofs.Common.{subst, arith}
use Rattle.std.proofs.lemmas.List.{take_all}
use Rattle.graph_core.specs.Inverse.{KeysAreOnce}
use Rattle.graph_core.specs.Permanents.{permanent, permanents}
use Rattle.eris_write.proofs.Equal.{none_seen, twice_when, more_when}
use Rattle.eris_write.proofs.keys.have_equal_keys.Goals as goal

pub loop-at-init : goal.loop-at-init
loop-at-init c = none_seen (permanents c.args.permanents.now) _ c.new-seen.ensures.empty

pub returns-then-not-is_new : goal.returns-then-not-is_new
returns-then-not-is_new c =
    twice_when (permanents c.args.permanents.now) c.loop-at.at c.loop-at.seen.keys (permanent (c.at.result.0, c.at.result.1.now)) c.key_of.result c.in_ok-is_new.is_new c.loop-at.invariant c.at.ensures c.key_of.ensures
    c.in_ok-is_new.ensures.added c.if-not-is_new.true

pub loop-at-preserved : goal.loop-at-preserved
loop-at-preserved c =
    more_when (permanents c.args.permanents.now) c.loop-at.at c.loop-at.seen.keys _ (permanent (c.at.result.0, c.at.result.1.now)) c.key_of.result c.in_ok-is_new.is_new c.loop-at.invariant c.at.ensures c.key_of.ensures
    c.in_ok-is_new.ensures.keys c.in_ok-is_new.ensures.added c.if-not-is_new.false

pub returns : goal.returns
returns c =
    let t = c.loop-at-test.false in
    let e = c.len-at-end.ensures in
    subst KeysAreOnce (take_all c.loop-at.at (permanents c.args.permanents.now) (omega (arith, t, e))) c.loop-at.invariant.once
