use Rattle.std.proofs.Common.{◌≡◌, ◌+◌, ◌<◌, ◌++◌, ◌∷◌, [], ℕ, List, length, pos, rules, arith, ap, sym, subst, ◌∙◌}
use Rattle.std.specs.Prelude.{map}
use Rattle.std.proofs.lemmas.List.{map-append}
use Rattle.int_core.specs.Value.{integer}
use Rattle.library_rows.specs.Codepoints.{decode}
use Rattle.library_arguments.specs.Shapes.{known_of}
use Rattle.lib_utf8.proofs.Sequences.{AreSoFar, one_more, all_past}
use Rattle.lib_utf8.proofs.codepoints.codes_between.Goals as goal

pub loop-at-preserved : goal.loop-at-preserved
loop-at-preserved c =
    let items : c.push.new.self.items ≡ c.loop-at.values.items ++ c.in_ok-code.code ∷ [] = search rules in
    let known : map known_of c.push.new.self.items ≡ map known_of c.loop-at.values.items ++ integer (pos c.in-Some.decoded.code) ∷ [] =
    ap (map known_of) items ∙ map-append known_of c.loop-at.values.items (c.in_ok-code.code ∷ []) ∙ ap (λ p. map known_of c.loop-at.values.items ++ p ∷ []) c.in_ok-code.ensures in
    subst (λ ps. AreSoFar c.args.lax c.args.text.now c.args.from c.args.end (c.loop-at.at + (1 + c.in-Some.decoded.more)) ps) (sym known)
    (one_more c.args.lax c.args.text.now c.args.from c.args.end c.loop-at.at (map known_of c.loop-at.values.items) c.loop-at.invariant c.in-Some.decoded.code c.in-Some.decoded.more (omega arith) (omega arith)
    (c.in-Some.ensures.value ∙ ap (decode c.args.lax) c.behind.ensures) (subst (λ (t : List ℕ). c.in-Some.decoded.more < length t) c.behind.ensures c.in-Some.ensures.inside))

pub returns : goal.returns
returns c = all_past c.args.lax c.args.text.now c.args.from c.args.end c.loop-at.at (map known_of c.loop-at.values.items) c.loop-at.invariant (omega arith)
