use Rattle.std.proofs.Common.{◌≡◌, ◌+◌, [], ◌∷◌, ◌++◌, length, subst, sym, ap, ◌∙◌, arith, rules, length-append}
use Rattle.std.specs.Prelude.{pos}
use Rattle.table_core.specs.declared.value.Value.TheVariants.{Int}
use Rattle.table_core.specs.Places.{IsAbsent, numbered}
use Rattle.table_core.proofs.NumberedLemmas.{distinct-right}
use Rattle.table_core.proofs.SplitLemmas.{array-pushed, keyed-pushed, length-all}
use Rattle.table_core.proofs.rows.Rows.insert_last.Goals as goal

pub invariant_of-self-then-goes_on : goal.invariant_of-self-then-goes_on
invariant_of-self-then-goes_on c =
    let absent : IsAbsent (numbered 0 c.self.inside.array.items ++ c.self.inside.keyed) c.args.key = rw (← c.self.view_is) at c.requires in
    let size : c.len-numbered.result ≡ length c.self.inside.array.items = omega (arith, c.len-numbered.ensures, c.self.inside.array.ok.0) in
    let pushed : c.push.new.self.items ≡ c.self.inside.array.items ++ c.args.value ∷ [] = search rules in
    let none : c.len-keyed.result ≡ 0 = search rules in
    let next : c.args.key ≡ Int (pos (c.len-numbered.result + 1)) = search rules in
    (array-pushed c.self.inside.array.items c.self.inside.keyed c.self.invariant c.push.new.self.items c.args.key c.args.value absent pushed (omega (arith, c.len-keyed.ensures)) (subst (λ n. c.args.key ≡ Int (pos (n + 1))) size next)
    (omega (arith, c.len-keyed.ensures, c.if-keyed-numbered.false))).split

pub returns-then-goes_on-clause-added : goal.returns-then-goes_on-clause-added
returns-then-goes_on-clause-added c =
    let absent : IsAbsent (numbered 0 c.self.inside.array.items ++ c.self.inside.keyed) c.args.key = rw (← c.self.view_is) at c.requires in
    let size : c.len-numbered.result ≡ length c.self.inside.array.items = omega (arith, c.len-numbered.ensures, c.self.inside.array.ok.0) in
    let pushed : c.push.new.self.items ≡ c.self.inside.array.items ++ c.args.value ∷ [] = search rules in
    let none : c.len-keyed.result ≡ 0 = search rules in
    let next : c.args.key ≡ Int (pos (c.len-numbered.result + 1)) = search rules in
    rw (← c.self.view_is)
    (array-pushed c.self.inside.array.items c.self.inside.keyed c.self.invariant c.push.new.self.items c.args.key c.args.value absent pushed (omega (arith, c.len-keyed.ensures)) (subst (λ n. c.args.key ≡ Int (pos (n + 1))) size next)
    (omega (arith, c.len-keyed.ensures, c.if-keyed-numbered.false))).added

pub returns-then-goes_on-clause-distinct : goal.returns-then-goes_on-clause-distinct
returns-then-goes_on-clause-distinct c = (invariant_of-self-then-goes_on c).distinct

pub returns-then-goes_on-clause-len : goal.returns-then-goes_on-clause-len
returns-then-goes_on-clause-len c =
    let xs = c.self.inside.array.items in
    let pushed : c.push.new.self.items ≡ xs ++ c.args.value ∷ [] = search rules in
    let none : c.len-keyed.result ≡ 0 = search rules in
    omega (arith, c.len-numbered.ensures, c.self.inside.array.ok.0, c.len-keyed.ensures, ap length pushed ∙ length-append xs (c.args.value ∷ []), length-all c.push.new.self.items c.self.inside.keyed (invariant_of-self-then-goes_on c))

pub push-requires-2-clause-distinct : goal.push-requires-2-clause-distinct
push-requires-2-clause-distinct c = distinct-right (numbered 0 c.self.inside.array.items) c.self.inside.keyed c.self.invariant.distinct

pub invariant_of-self-2 : goal.invariant_of-self-2
invariant_of-self-2 c =
    let xs = c.self.inside.array.items in
    let keyed = c.self.inside.keyed in
    let absent : IsAbsent (numbered 0 xs ++ keyed) c.args.key = rw (← c.self.view_is) at c.requires in
    let size : c.len-numbered.result ≡ length xs = omega (arith, c.len-numbered.ensures, c.self.inside.array.ok.0) in
    (keyed-pushed xs keyed c.push-2.new.self c.self.invariant c.args.key c.args.value absent c.in_ok-push-2.ensures.added
    (λ none e. c.goes_on.ensures.other c.if-goes_on.false (omega (arith, none, c.len-keyed.ensures)) (subst (λ n. c.args.key ≡ Int (pos (n + 1))) (sym size) e))
    (omega (arith, size, c.len-keyed.ensures, c.if-keyed-numbered.false))).split

pub returns-clause-distinct : goal.returns-clause-distinct
returns-clause-distinct c = (invariant_of-self-2 c).distinct

pub returns-clause-len : goal.returns-clause-len
returns-clause-len c =
    let xs = c.self.inside.array.items in
    omega (arith, c.len-numbered.ensures, c.self.inside.array.ok.0, c.len-keyed.ensures, ap length c.in_ok-push-2.ensures.added ∙ length-append c.self.inside.keyed ((c.args.key, c.args.value) ∷ []), length-all xs c.push-2.new.self (invariant_of-self-2 c))
