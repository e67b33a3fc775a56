use Rattle.std.proofs.Common.{◌≡◌, refl}
use Rattle.std.proofs.lemmas.Option.{IfSome_then}
use Rattle.frame_calls.specs.Crossing.{by_varargs}
use Rattle.frame_calls.proofs.Takers.{none_then}
use Rattle.frame_calls.proofs.crossing.cross_otherwise.Goals as goal

pub write_there-requires : goal.write_there-requires
write_there-requires c = c.requires.top

pub may_cross-requires : goal.may_cross-requires
may_cross-requires c = c.requires.top

pub returns-then-is_vararg-clause-crosses : goal.returns-then-is_vararg-clause-crosses
returns-then-is_vararg-clause-crosses c = IfSome_then c.write_there.result c.write_there.ensures.writes (λ o x. by_varargs x refl)

pub returns-then-is_vararg-clause-kept : goal.returns-then-is_vararg-clause-kept
returns-then-is_vararg-clause-kept c = none_then c.write_there.result (λ (e : c.write_there.new.stack ≡ c.args.stack.now). (e, refl)) c.write_there.ensures.kept
