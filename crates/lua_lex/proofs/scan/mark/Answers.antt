use Rattle.std.proofs.Common.{◌≡◌, rules, take, Some, refl, subst, arith}
use Rattle.lua_lex.specs.Words.{marks, place_of}
use Rattle.lua_lex.specs.Inner.{NoneFrom}
use Rattle.lua_lex.proofs.WordLemmas.{longest_mark, no_mark}
use Rattle.lua_lex.proofs.scan.mark.Goals as goal

pub returns-in-Some-clause-found : goal.returns-in-Some-clause-found
returns-in-Some-clause-found c =
    let placed : place_of marks (take c.loop-len.len c.args.text.now) ≡ Some c.in-Some.number = search rules in
    (c.in-Some.number, longest_mark c.args.text.now c.loop-len.len c.in-Some.number c.loop-len.invariant.in_range c.loop-len.invariant.none_longer placed, refl)

pub returns-clause-none : goal.returns-clause-none
returns-clause-none c token rest h =
    let at_zero : c.loop-len.len ≡ 0 = omega arith in
    let none : NoneFrom c.args.text.now 0 = subst (NoneFrom c.args.text.now) at_zero c.loop-len.invariant.none_longer in
    no_mark c.args.text.now none h.0 rest h.1
