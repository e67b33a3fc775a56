use Rattle.std.proofs.Common.{◌≡◌, refl}
use Rattle.std.proofs.lemmas.Option.{IfSome_then}
use Rattle.frame_calls.specs.Crossing.{by_varargs}
use Rattle.frame_calls.proofs.Takers.{none_then}
use Rattle.frame_calls.proofs.crossing.cross.Goals as goal

pub write_varargs-requires : goal.write_varargs-requires
write_varargs-requires c = record { top = c.requires.top }

pub returns-in-Some-VarArg-clause-crosses : goal.returns-in-Some-VarArg-clause-crosses
returns-in-Some-VarArg-clause-crosses c = IfSome_then c.write_varargs.result c.write_varargs.ensures.writes (λ o x. by_varargs x refl)

pub returns-in-Some-VarArg-clause-kept : goal.returns-in-Some-VarArg-clause-kept
returns-in-Some-VarArg-clause-kept c = none_then c.write_varargs.result (λ (e : c.write_varargs.new.stack ≡ c.args.stack.now). (e, refl)) c.write_varargs.ensures.kept

pub returns-in_default-clause-crosses : goal.returns-in_default-clause-crosses
returns-in_default-clause-crosses c = IfSome_then c.return_back.result c.return_back.ensures.returns (λ o x. x c.args.budget.now)

pub returns-in_default-clause-kept : goal.returns-in_default-clause-kept
returns-in_default-clause-kept c = none_then c.return_back.result (λ (e : c.return_back.new.stack ≡ c.args.stack.now). (e, refl)) c.return_back.ensures.kept
