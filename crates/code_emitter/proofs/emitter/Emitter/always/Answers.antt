use Rattle.std.proofs.Common.{rules, ◌≡◌, true, false, [], ◌∷◌, length, refl, cond, sym, subst}
use Rattle.code_of.specs.Coded.{jump_over}
use Rattle.code_emitter.specs.Leading.{Opened}
use Rattle.code_emitter.proofs.Leading.{opened_at, opened_jump, opened_nothing}
use Rattle.code_emitter.proofs.emitter.Emitter.always.Goals as goal

pub returns-then-wanted : goal.returns-then-wanted
returns-then-wanted c =
    let is : c.args.wanted ≡ true = search rules in
    let none : c.new.result.items ≡ [] = search rules in
    subst (λ w. Opened c.args.self.now c.args.self.now (λ ahead. cond w [] (jump_over ahead c.args.line ∷ [])) 0 c.new.result.items) (sym is)
    (opened_at c.args.self.now c.args.self.now (λ ahead. []) 0 [] c.new.result.items none (opened_nothing c.args.self.now))

pub returns : goal.returns
returns c =
    let is : c.args.wanted ≡ false = search rules in
    let place = length c.args.self.now.steps in
    subst (λ w. Opened c.args.self.now c.jump_away.new.self (λ ahead. cond w [] (jump_over ahead c.args.line ∷ [])) 0 c.in_ok-away.away.items) (sym is)
    (opened_at c.args.self.now c.jump_away.new.self (λ ahead. jump_over ahead c.args.line ∷ []) 0 (place ∷ []) c.in_ok-away.away.items c.in_ok-away.ensures.place
    (opened_jump c.args.self.now c.jump_away.new.self c.args.line place c.in_ok-away.ensures.jump refl))
