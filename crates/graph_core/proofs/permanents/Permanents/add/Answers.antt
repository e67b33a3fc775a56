use Rattle.std.proofs.Common.{◌≡◌, [], ◌∷◌, ◌++◌, true, false, None, cond, map, ap, sym, ◌∙◌}
use Rattle.std.specs.Map.{lookup}
use Rattle.indexmap.proofs.CallerLemmas.{insert_entry-new}
use Rattle.graph_core.specs.Permanents.{permanent, permanents}
use Rattle.graph_core.proofs.Named.{permanent_eq, known_key, none_is, added}
use Rattle.graph_core.proofs.permanents.Permanents.add.Goals as goal

pub returns-then-contains_key-clause-ok : goal.returns-then-contains_key-clause-ok
returns-then-contains_key-clause-ok c =
    let P = permanents c.args.self.now in
    sym (ap (λ b. cond b P (P ++ permanent (c.args.object, c.args.key) ∷ [])) (known_key c.args.self.now.keys.entries c.args.object true (sym c.contains_key.ensures ∙ c.if-contains_key.true)))

pub returns-in-Ok-clause-ok : goal.returns-in-Ok-clause-ok
returns-in-Ok-clause-ok c =
    let P = permanents c.args.self.now in
    let f = sym c.contains_key.ensures ∙ c.if-contains_key.false in
    let n : lookup (permanent_eq c.args.object) c.args.self.now.keys.entries ≡ None = none_is _ f in
    ap (map permanent) (c.in-Ok.ensures.entries ∙ insert_entry-new permanent_eq c.args.self.now.keys c.args.object c.args.key n)
    ∙ added c.args.self.now.keys.entries (c.args.object, c.args.key)
    ∙ sym (ap (λ b. cond b P (P ++ permanent (c.args.object, c.args.key) ∷ [])) (known_key c.args.self.now.keys.entries c.args.object false f))
