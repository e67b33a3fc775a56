use Rattle.std.proofs.Common.{rules, ◌≡◌, ◌+◌, ◌<◌, [], ◌∷◌, ◌++◌, sym, subst, get_or, length, map, take}
use Rattle.library_arguments.specs.Shapes.{known_of}
use Rattle.pure_functions.specs.Answers.{MeanAll}
use Rattle.pure_functions.proofs.Interning.{then_strings}
use Rattle.pure_functions.proofs.Meaning.{one_fits, one_made, written_more}
use Rattle.pure_functions.proofs.plain.values_of.Goals as goal

pub value_of-requires-clause-short : goal.value_of-requires-clause-short
value_of-requires-clause-short c =
    let h : c.loop-written.written-index < length c.args.all.now = search rules in
    let e : c.written-item.result ≡ get_or c.args.all.now c.loop-written.written-index c.written-item.result = search rules in
    one_fits known_of c.args.all.now c.loop-written.written-index c.written-item.result c.requires.short h e

pub returns-in_err-made-clause-kept : goal.returns-in_err-made-clause-kept
returns-in_err-made-clause-kept c = then_strings c.args.world.now c.loop-written.world c.value_of.new.world c.args.arguments.now c.loop-written.invariant.0 c.value_of.ensures.kept

pub returns-in_err-push-clause-kept : goal.returns-in_err-push-clause-kept
returns-in_err-push-clause-kept c = then_strings c.args.world.now c.loop-written.world c.value_of.new.world c.args.arguments.now c.loop-written.invariant.0 c.value_of.ensures.kept

pub loop-written-preserved : goal.loop-written-preserved
loop-written-preserved c =
    let i = c.loop-written.written-index in
    let all = c.args.all.now in
    let item = c.written-item.result in
    let new = c.value_of.new.world.strings in
    let h : i < length all = search rules in
    let e : item ≡ get_or all i item = search rules in
    let items : c.push.new.self.items ≡ c.loop-written.values.items ++ c.in_ok-made.made ∷ [] = search rules in
    let m : MeanAll new (c.loop-written.values.items ++ c.in_ok-made.made ∷ []) (map known_of (take i all) ++ known_of item ∷ [])
    = one_made c.loop-written.world.strings new c.value_of.ensures.kept.more c.loop-written.values.items (map known_of (take i all)) c.in_ok-made.made (known_of item) c.value_of.ensures.kept.grown c.loop-written.invariant.1 c.in_ok-made.ensures.means in (
      then_strings c.args.world.now c.loop-written.world c.value_of.new.world c.args.arguments.now c.loop-written.invariant.0 c.value_of.ensures.kept,
      subst (λ vs. MeanAll new vs (map known_of (take (i + 1) all))) (sym items) (subst (MeanAll new (c.loop-written.values.items ++ c.in_ok-made.made ∷ [])) (sym (written_more known_of all i item h e)) m),
    )
