use Rattle.std.proofs.Common.{◌≡◌, inl, inr, sym, subst, ◌∙◌}
use Rattle.std.proofs.lemmas.Option.{IfSome_then}
use Rattle.lua_stack.specs.Frames.{HasLuaTop, KeptStack}
use Rattle.frame_calls.specs.Listing.{TakesVarargs}
use Rattle.frame_calls.proofs.Takers.{none_so, none_then, some_so}
use Rattle.frame_calls.proofs.listing.write_varargs.Goals as goal

pub returns-in-Some-clause-writes : goal.returns-in-Some-clause-writes
returns-in-Some-clause-writes c = inl (some_so c.in-Some.is c.list_varargs.ensures.lists)

pub take_varargs-requires : goal.take_varargs-requires
take_varargs-requires c = subst HasLuaTop (sym (none_so c.in-None.is c.list_varargs.ensures.kept)) c.requires.top

pub returns-in-None-clause-writes : goal.returns-in-None-clause-writes
returns-in-None-clause-writes c =
    let k = none_so c.in-None.is c.list_varargs.ensures.kept in
    IfSome_then c.take_varargs.result c.take_varargs.ensures.takes (λ o x. inr (subst (λ (s : KeptStack). TakesVarargs s c.take_varargs.new.stack c.args.words.now c.args.pc c.args.i) k x))

pub returns-in-None-clause-kept : goal.returns-in-None-clause-kept
returns-in-None-clause-kept c = none_then c.take_varargs.result (λ (e : c.take_varargs.new.stack ≡ c.list_varargs.new.stack). e ∙ none_so c.in-None.is c.list_varargs.ensures.kept) c.take_varargs.ensures.kept

pub returns-in-None-clause-listed : goal.returns-in-None-clause-listed
returns-in-None-clause-listed c = c.take_varargs.ensures.listed ∙ c.list_varargs.ensures.listed
